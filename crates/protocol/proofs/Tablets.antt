-- A tablet's command is the ballot command that part one has for the same inputs, and a tablet refuses none of the inputs that part one takes.
use mathlib.Core.Path.{◌≡◌, refl, ap, ◌∙◌}
use mathlib.Core.Bool.{Bool}
use mathlib.Core.List.{List, ◌∷◌, ◌++◌}
use Prim.Native.Nat.{ℕ, zero, suc, ◌*◌, ◌/◌, ◌%◌, ◌<◌}
use native.Mathlib.Omega.{arith}
use lib.ListN.{length, length-append}
use Rattle.laws.specs.Tests.{choose}
use Rattle.laws.specs.Faults.{rules}
use Rattle.laws.specs.Bytes.{bytes, length_bytes}
use Rattle.laws.specs.Modular.{minus}
use Rattle.laws.specs.Chunks.{piece, length_piece, chunks_same}
use Rattle.laws.specs.At.{At, at_whole}
use Rattle.sha3.specs.Sha3.{sha3_224}
use Rattle.sha3.proofs.Digest.{sha3_224_length}
use Rattle.protocol.specs.declared.Form.{Form}
use Rattle.protocol.specs.declared.Place.TheVariants.{InBallot}
use Rattle.protocol.specs.Terms.{modulus_in_limits, commitment, opening}
use Rattle.protocol.specs.Tablet.{tablet_parameters, one_of_three, share, slot, ballot_command, tablet_command, receipt, tablet_refusal}
use Rattle.protocol.specs.Layout.{at_ballot}
use Rattle.protocol.specs.Inputs.{Slices, ballot_keys, inputs_of}
use Rattle.protocol.specs.Servers.{ballot_row, ballot_number, ballot_opening, posted_board, first_part}
use Rattle.protocol.proofs.Goodness.{FourBytes, Good}
use Rattle.protocol.proofs.Honesty.{length_commitment}
use Rattle.protocol.proofs.Unrefused.{Unrefused, good_inputs}
use Rattle.protocol.proofs.Widths.{length_ballot}
use Rattle.protocol.proofs.Locating.{ballot_in}

-- the tablet of ballot j: its inputs, and its command
abbrev pub tablet : Slices → ℕ → List ℕ
tablet s j =
    let i = inputs_of s in
    tablet_command i.parameters.form i.parameters.modulus (i.id j) (i.vote j) (i.x j) (i.y j) (i.first_half j 0) (i.first_half j 1) (i.first_half j 2) (ballot_keys s j)

-- three values as one of three
one_of_three_lem : (f : ℕ → ℕ) (k : ℕ) → k < 3 → one_of_three k (f 0) (f 1) (f 2) ≡ f k
one_of_three_lem f zero l = refl
one_of_three_lem f (suc zero) l = refl
one_of_three_lem f (suc (suc k)) l = let e : 2 ≡ suc (suc k) = omega arith in ap f e

-- a slot looks at one first half only
slot_same : (M : ℕ) (value f g : ℕ → ℕ) (q : ℕ) → f (q / 2) ≡ g (q / 2) → slot M value f q ≡ slot M value g q
unfolding slot
slot_same M value f g q e = ap (λ (u : ℕ). choose (q % 2) u (minus M (value (q / 2)) u)) e

-- "in the order u1, v1, u2, v2, u3, v3", with first halves f
tablet_command_lem : (form : Form) (M id w x y : ℕ) (f : ℕ → ℕ) (keys : List ℕ)
    → tablet_command form M id w x y (f 0) (f 1) (f 2) keys
    ≡ ballot_command id (λ q. commitment (tablet_parameters form M) (InBallot id q) (opening (piece keys (32 * q) 32) (slot M (share M w x y) f q)))
unfolding tablet_command ballot_command
tablet_command_lem form M id w x y f keys =
    ap (λ (l : List ℕ). (2 ∷ bytes 4 id) ++ l) (chunks_same _ _ 6 (λ q lq.
    ap (λ (v : ℕ). commitment (tablet_parameters form M) (InBallot id q) (opening (piece keys (32 * q) 32) v))
    (slot_same M (share M w x y) (λ k. one_of_three k (f 0) (f 1) (f 2)) f q (one_of_three_lem f (q / 2) (omega arith)))))

module _ (s : Slices) where
  -- the six commitments are those that part one posts
  pub tablet_is : (j : ℕ) → tablet s j ≡ ballot_command ((posted_board (inputs_of s)).id j) ((posted_board (inputs_of s)).ballot_commitment j)
  unfolding commitment posted_board ballot_opening ballot_number ballot_row inputs_of
  tablet_is j =
      let i = inputs_of s in
      tablet_command_lem i.parameters.form i.parameters.modulus (i.id j) (i.vote j) (i.x j) (i.y j) (i.first_half j) (ballot_keys s j)

  pub length_tablet : (j : ℕ) → length (tablet s j) ≡ 197
  unfolding posted_board
  length_tablet j = ap length (tablet_is j) ∙ length_ballot _ _ (λ q lq. length_commitment _ _ _)

  -- it stands in part one as the command of ballot j
  pub tablet_at : (j : ℕ) → j < (inputs_of s).parameters.ballots → At (first_part s) (at_ballot (inputs_of s).parameters j) (tablet s j)
  unfolding first_part posted_board
  tablet_at j lj = rw (tablet_is j) (ballot_in (posted_board (inputs_of s)) (λ j q lj lq. length_commitment _ _ _) (λ l i q ll li lq. length_commitment _ _ _) j lj)

  pub tablet_posted : (j : ℕ) → j < (inputs_of s).parameters.ballots → piece (first_part s) (at_ballot (inputs_of s).parameters j) 197 ≡ tablet s j
  tablet_posted j lj = at_whole (at_ballot (inputs_of s).parameters j) 197 (length_tablet j) (tablet_at j lj)

-- "A receipt is 32 bytes"
pub length_receipt : (id : ℕ) (command : List ℕ) → length (receipt id command) ≡ 32
unfolding receipt
length_receipt id command = omega (arith, length-append (bytes 4 id) (sha3_224 command), length_bytes 4 id, sha3_224_length command)

-- a tablet takes all inputs that part one takes
module _ (s : Slices) {lengths fair shape binary : Bool} (u : Unrefused s lengths fair shape binary) (fit : FourBytes s) where
  keys_long : (j : ℕ) → j < (inputs_of s).parameters.ballots → length (ballot_keys s j) ≡ 192
  unfolding ballot_keys inputs_of
  keys_long j lj = length_piece s.keys (192 * j) 192 (rw u.keys_long (omega arith))

  pub tablet_unrefused : (j : ℕ) → j < (inputs_of s).parameters.ballots
      → let i = inputs_of s in
      tablet_refusal i.parameters.modulus (i.vote j) (i.x j) (i.y j) (i.first_half j 0) (i.first_half j 1) (i.first_half j 2)
      (length (ballot_keys s j)) (length (tablet s j)) (length (receipt (i.id j) (tablet s j)))
      ≡ 0
  unfolding tablet_refusal modulus_in_limits
  tablet_unrefused j lj =
      let g : Good (inputs_of s) = good_inputs s u fit in
      simp rules (
        (g.modulus_low, g.modulus_high),
        (
          (keys_long j lj, (length_tablet s j, length_receipt ((inputs_of s).id j) (tablet s j))),
          (
            (g.votes_below j lj, (g.x_below j lj, (g.y_below j lj, (g.first_halves_below j 0 lj (omega arith), (g.first_halves_below j 1 lj (omega arith), g.first_halves_below j 2 lj (omega arith)))))),
            refl,
          ),
        ),
      )
