-- One ballot and one entry of part one: how long it is, and that it is what its writer writes of the six numbers that were followed and of
-- the part of the keys that it is lent.
use mathlib.Core.Path.{◌≡◌, ap, ap₂}
use mathlib.Core.List.{List, ◌∷◌, ◌++◌}
use Prim.Native.Nat.{ℕ, ◌+◌, ◌-◌, ◌*◌, ◌≤◌, ◌<◌}
use native.Mathlib.Omega.{arith}
use lib.ListN.{length, take, drop, length-append}
use Rattle.laws.specs.Bytes.{bytes}
use Rattle.laws.specs.Chunks.{piece, chunks, chunks_even, chunks_same}
use Rattle.laws.specs.Writing.{Went, go_on, whole, part_is, row_within}
use Rattle.protocol.specs.declared.Parameters.{Parameters}
use Rattle.protocol.specs.declared.Place.{Place}
use Rattle.protocol.specs.declared.Place.TheVariants.{InBallot, InEntry}
use Rattle.protocol.specs.Terms.{item, most_ballots, commitment, opening}
use Rattle.protocol.specs.Tablet.{ballot_command}
use Rattle.protocol.specs.Layout.{lists, at_first_dice, part_one_length}
use Rattle.protocol.specs.Record.{first_command, entry_command, part_one}
use Rattle.protocol.specs.Inputs.{Slices, ballot_keys, entry_keys, inputs_of}
use Rattle.protocol.specs.Servers.{ballot_number, entry_number, ballot_opening, entry_opening, posted_board, first_part}
use Rattle.protocol.proofs.Widths.{length_first, length_ballot, length_entry}
use Rattle.protocol.proofs.Honesty.{length_commitment}
use Rattle.mixing.specs.Passed.{Passed}
use Rattle.mixing.proofs.Following.{all_few}
use Rattle.mixing.proofs.Agreement as agreement
use Rattle.commands.specs.Openings.{opening_of}

-- an opening of a number that was followed, with its key
opening_same : (place : Place) (p : Parameters) (six keys : List ℕ) (a q x : ℕ) → item six q ≡ x
    → commitment p place (opening_of six (take (a + 192 - a) (drop a keys)) q) ≡ commitment p place (opening (piece (piece keys a 192) (32 * q) 32) x)
unfolding opening_of
opening_same place p six keys a q x e =
    ap₂ (λ (k : List ℕ) (y : ℕ). commitment p place (opening (piece k (32 * q) 32) y)) (part_is keys a 192) e

-- commands whose six commitments are the same
ballot_same : (id : ℕ) (c d : ℕ → List ℕ) → ((q : ℕ) → q < 6 → c q ≡ d q) → ballot_command id c ≡ ballot_command id d
unfolding ballot_command
ballot_same id c d h = ap (λ (x : List ℕ). (2 ∷ bytes 4 id) ++ x) (chunks_same c d 6 h)

entry_same : (l i : ℕ) (c d : ℕ → List ℕ) → ((q : ℕ) → q < 6 → c q ≡ d q) → entry_command l i c ≡ entry_command l i d
unfolding entry_command
entry_same l i c d h = ap (λ (x : List ℕ). ((3 ∷ bytes 1 l) ++ bytes 2 i) ++ x) (chunks_same c d 6 h)

module _ (s : Slices) where
  abbrev pub ballot_of : ℕ → List ℕ
  ballot_of j = ballot_command ((posted_board (inputs_of s)).id j) ((posted_board (inputs_of s)).ballot_commitment j)

  abbrev pub entry_of : ℕ → ℕ → List ℕ
  entry_of l i = entry_command l i ((posted_board (inputs_of s)).entry_commitment l i)

  -- all entries of a list
  abbrev pub entries_of : ℕ → List ℕ
  entries_of l = chunks (entry_of l) s.parameters.ballots

  pub ballot_wide : (j : ℕ) → length (ballot_of j) ≡ 197
  unfolding posted_board
  ballot_wide j = length_ballot _ _ (λ q lq. length_commitment _ _ _)

  pub entry_wide : (l i : ℕ) → length (entry_of l i) ≡ 196
  unfolding posted_board
  entry_wide l i = length_entry l i _ (λ q lq. length_commitment _ _ _)

  pub entries_wide : (l : ℕ) → length (entries_of l) ≡ s.parameters.ballots * 196
  entries_wide l = chunks_even (entry_of l) 196 s.parameters.ballots (λ i li. entry_wide l i)

  -- where the keys of place i of list l start, and that they end inside the keys
  abbrev pub entry_keys_at : ℕ → ℕ → ℕ
  entry_keys_at l i = 192 * s.parameters.ballots + 192 * (l * s.parameters.ballots + i)

  pub keys_within : Passed s → (l i : ℕ) → l < lists s.parameters → i < s.parameters.ballots
      → (entry_keys_at l i + 192 ≤ length s.keys) × (length s.keys ≤ 192 * (25 * most_ballots))
  keys_within t l i ll li =
      let few = all_few (agreement.in_list s t.tests ll) in
      let here = row_within l (2 * s.parameters.compared) s.parameters.ballots ll in
      (omega (arith, here, t.tests.keys_long), omega (arith, few, t.tests.keys_long, t.tests.ballots_high))

  -- what is written of ballot j
  pub ballot_is : (j : ℕ) (six : List ℕ)
      → ((q : ℕ) → q < 6 → (item six q ≡ ballot_number (inputs_of s) j q) × (item six q < s.parameters.modulus))
      → ballot_command (item s.ids j) (λ q. commitment s.parameters (InBallot (item s.ids j) q) (opening_of six (take (192 * j + 192 - 192 * j) (drop (192 * j) s.keys)) q))
      ≡ ballot_of j
  unfolding posted_board ballot_opening inputs_of ballot_keys
  ballot_is j six h =
      ballot_same _ _ _ (λ q lq. opening_same _ s.parameters six s.keys (192 * j) q (ballot_number (inputs_of s) j q) (h q lq).0)

  -- .. and of place i of list l
  -- `a` being where its keys start
  pub entry_is : (l i a : ℕ) (six : List ℕ) → a ≡ entry_keys_at l i
      → ((q : ℕ) → q < 6 → (item six q ≡ entry_number (inputs_of s) l i q) × (item six q < s.parameters.modulus))
      → entry_command l i (λ q. commitment s.parameters (InEntry l i q) (opening_of six (take (a + 192 - a) (drop a s.keys)) q))
      ≡ entry_of l i
  unfolding posted_board entry_opening inputs_of entry_keys
  entry_is l i a six e h =
      rw e
      (entry_same l i _ _ (λ q lq. opening_same _ s.parameters six s.keys (entry_keys_at l i) q (entry_number (inputs_of s) l i q) (h q lq).0))

  -- the parameters, the ballots and the lists, one behind the other
  pub part_written : {out first second third : List ℕ} {a b r : ℕ} → length out ≡ part_one_length s.parameters → Went out 0 (first_command s.parameters) first a
      → Went first a (chunks ballot_of s.parameters.ballots) second b → Went second b (chunks entries_of (lists s.parameters)) third r → third ≡ first_part s
  unfolding first_part part_one posted_board inputs_of at_first_dice
  part_written long f g h =
      whole (go_on f (go_on g h)).wrote
      (omega (
        arith,
        length-append (first_command s.parameters) (chunks ballot_of s.parameters.ballots ++ chunks entries_of (lists s.parameters)),
        length-append (chunks ballot_of s.parameters.ballots) (chunks entries_of (lists s.parameters)),
        length_first s.parameters,
        chunks_even ballot_of 197 s.parameters.ballots (λ j lj. ballot_wide j),
        chunks_even entries_of (s.parameters.ballots * 196) (lists s.parameters) (λ l ll. entries_wide l),
      ))
