-- Openings: as code makes them of the part of the keys that it lends, and how long they are.
use mathlib.Core.Path.{◌≡◌, ap, ap₂}
use mathlib.Core.List.{List, ◌∷◌, ◌++◌}
use Prim.Native.Nat.{ℕ, ◌+◌, ◌-◌, ◌*◌, ◌≤◌, ◌<◌}
use native.Mathlib.Omega.{arith}
use lib.ListN.{length, take, drop}
use Rattle.laws.specs.Bytes.{bytes}
use Rattle.laws.specs.Chunks.{piece, chunks_same, length_piece}
use Rattle.laws.specs.Writing.{row_within, part_is}
use Rattle.protocol.specs.Terms.{item, most_ballots, opening}
use Rattle.protocol.specs.Record.{ballot_half_command, list_half_command, full_command}
use Rattle.protocol.specs.Inputs.{Slices, ballot_keys, entry_keys, inputs_of}
use Rattle.protocol.specs.Servers.{ballot_number, entry_number, ballot_opening, entry_opening}
use Rattle.protocol.proofs.Honesty.{length_opening}
use Rattle.protocol.proofs.Widths.{length_ballot_half, length_list_half, length_full}
use Rattle.commands.specs.Openings.{opening_of}
use Rattle.mixing.specs.Passed.{Passed}

-- keys and votes that a function reads of its inputs are those that their value has
pub keys_same : {a b : Slices} → a ≡ b → a.keys ≡ b.keys
keys_same e = ap (λ (s : Slices). s.keys) e

pub votes_same : {a b : Slices} → a ≡ b → a.votes ≡ b.votes
votes_same e = ap (λ (s : Slices). s.votes) e

-- where the keys of ballot j start
abbrev pub ballot_keys_at : ℕ → ℕ
ballot_keys_at j = 192 * j

-- .. and those of place i of list l, after those of n ballots
abbrev pub entry_keys_at : ℕ → ℕ → ℕ → ℕ
entry_keys_at n l i = 192 * n + 192 * (l * n + i)

module _ (s : Slices) (passed : Passed s) where
  -- ---- the keys lie inside

  pub ballot_keys_end : (j : ℕ) → j < s.parameters.ballots → ballot_keys_at j + 192 ≤ length s.keys
  ballot_keys_end j lj = omega (arith, passed.tests.keys_long)

  pub entry_keys_end : (l i : ℕ) → l < 2 * s.parameters.compared → i < s.parameters.ballots → entry_keys_at s.parameters.ballots l i + 192 ≤ length s.keys
  entry_keys_end l i ll li = omega (arith, passed.tests.keys_long, row_within l (2 * s.parameters.compared) s.parameters.ballots ll)

  -- and place i of list l is not far
  pub place_small : (l i : ℕ) → l < 2 * s.parameters.compared → i < s.parameters.ballots → l * s.parameters.ballots + i < 24 * most_ballots
  place_small l i ll li = omega (arith, passed.tests.ballots_high, passed.tests.compared_high, row_within l 24 s.parameters.ballots (omega (arith, passed.tests.compared_high)))

  -- ---- as code makes them

  module _ (six : List ℕ) where
    ballot_opening_is : (j q : ℕ)
        → ((q : ℕ) → q < 6 → (item six q ≡ ballot_number (inputs_of s) j q) × (item six q < s.parameters.modulus)) → q < 6
        → opening_of six (take (ballot_keys_at j + 192 - ballot_keys_at j) (drop (ballot_keys_at j) s.keys)) q ≡ ballot_opening (inputs_of s) j q
    unfolding opening_of ballot_opening inputs_of ballot_keys
    ballot_opening_is j q h lq =
        ap₂ opening (ap (λ (own : List ℕ). piece own (32 * q) 32) (part_is s.keys (ballot_keys_at j) 192)) (h q lq).0

    -- `a` being where its keys start
    entry_opening_is : (l i a q : ℕ) → a ≡ entry_keys_at s.parameters.ballots l i
        → item six q ≡ entry_number (inputs_of s) l i q
        → opening_of six (take (a + 192 - a) (drop a s.keys)) q
        ≡ entry_opening (inputs_of s) l i q
    unfolding opening_of entry_opening inputs_of entry_keys
    entry_opening_is l i a q e h =
        rw e
        (ap₂ opening (ap (λ (own : List ℕ). piece own (32 * q) 32) (part_is s.keys (entry_keys_at s.parameters.ballots l i) 192)) h)

    -- the keys being those that a function reads
    pub ballot_half_is : {keys : List ℕ} (j side : ℕ) → keys ≡ s.keys → side ≤ 1
        → ((q : ℕ) → q < 6 → (item six q ≡ ballot_number (inputs_of s) j q) × (item six q < s.parameters.modulus))
        → ballot_half_command j side (λ k. opening_of six (take (ballot_keys_at j + 192 - ballot_keys_at j) (drop (ballot_keys_at j) keys)) (2 * k + side))
        ≡ ballot_half_command j side (λ k. ballot_opening (inputs_of s) j (2 * k + side))
    unfolding ballot_half_command
    ballot_half_is j side own ls h =
        rw own
        (ap (λ (x : List ℕ). ((7 ∷ bytes 2 j) ++ bytes 1 side) ++ x) (chunks_same _ _ 3 (λ k lk. ballot_opening_is j (2 * k + side) h (omega arith))))

    pub list_half_is : {keys : List ℕ} (l i a side : ℕ) → keys ≡ s.keys → a ≡ entry_keys_at s.parameters.ballots l i
        → ((k : ℕ) → k < 3
        → item six (2 * k + side) ≡ entry_number (inputs_of s) l i (2 * k + side))
        → list_half_command l i (λ k. opening_of six (take (a + 192 - a) (drop a keys)) (2 * k + side))
        ≡ list_half_command l i (λ k. entry_opening (inputs_of s) l i (2 * k + side))
    unfolding list_half_command
    list_half_is l i a side own e h =
        rw own
        (ap (λ (x : List ℕ). ((8 ∷ bytes 1 l) ++ bytes 2 i) ++ x) (chunks_same _ _ 3 (λ k lk. entry_opening_is l i a (2 * k + side) e (h k lk))))

    pub full_is : {keys : List ℕ} (l i a : ℕ) → keys ≡ s.keys → a ≡ entry_keys_at s.parameters.ballots l i
        → ((q : ℕ) → q < 6 → (item six q ≡ entry_number (inputs_of s) l i q) × (item six q < s.parameters.modulus))
        → full_command l i (opening_of six (take (a + 192 - a) (drop a keys)))
        ≡ full_command l i (entry_opening (inputs_of s) l i)
    unfolding full_command
    full_is l i a own e h =
        rw own
        (ap (λ (x : List ℕ). ((10 ∷ bytes 1 l) ++ bytes 2 i) ++ x) (chunks_same _ _ 6 (λ q lq. entry_opening_is l i a q e (h q lq).0)))

  -- ---- how long they are

  ballot_opening_long : (j q : ℕ) → j < s.parameters.ballots → q < 6 → length (ballot_opening (inputs_of s) j q) ≡ 36
  unfolding ballot_opening inputs_of ballot_keys
  ballot_opening_long j q lj lq =
      length_opening _ _ (length_piece (piece s.keys (ballot_keys_at j) 192) (32 * q) 32 (omega (arith, length_piece s.keys (ballot_keys_at j) 192 (ballot_keys_end j lj))))

  entry_opening_long : (l i q : ℕ) → l < 2 * s.parameters.compared → i < s.parameters.ballots → q < 6 → length (entry_opening (inputs_of s) l i q) ≡ 36
  unfolding entry_opening inputs_of entry_keys
  entry_opening_long l i q ll li lq =
      let at : ℕ = entry_keys_at s.parameters.ballots l i in
      length_opening _ _ (length_piece (piece s.keys at 192) (32 * q) 32 (omega (arith, length_piece s.keys at 192 (entry_keys_end l i ll li))))

  pub ballot_half_long : (j side : ℕ) → j < s.parameters.ballots → side ≤ 1 → length (ballot_half_command j side (λ k. ballot_opening (inputs_of s) j (2 * k + side))) ≡ 112
  ballot_half_long j side lj ls = length_ballot_half j side _ (λ k lk. ballot_opening_long j (2 * k + side) lj (omega arith))

  pub list_half_long : (l i side : ℕ) → l < 2 * s.parameters.compared → i < s.parameters.ballots → side ≤ 1
      → length (list_half_command l i (λ k. entry_opening (inputs_of s) l i (2 * k + side))) ≡ 112
  list_half_long l i side ll li ls = length_list_half l i _ (λ k lk. entry_opening_long l i (2 * k + side) ll li (omega arith))

  pub full_long : (l i : ℕ) → l < 2 * s.parameters.compared → i < s.parameters.ballots → length (full_command l i (entry_opening (inputs_of s) l i)) ≡ 220
  full_long l i ll li = length_full l i _ (λ q lq. entry_opening_long l i q ll li lq)
