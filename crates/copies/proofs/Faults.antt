-- What rule 21 finds: by the least ballot of neighbours that are equal, and behind the other rules of a ballot.
use mathlib.Core.Path.{◌≡◌, refl, sym, ap, ◌∙◌}
use mathlib.Core.Logic.{◌≢◌}
use mathlib.Core.Bool.{Bool, true, false}
use mathlib.Core.List.{List}
use Prim.Native.Nat.{ℕ, ◌+◌, ◌-◌, ◌*◌, ◌/◌, ◌%◌, ◌≤◌, ◌<◌}
use native.Mathlib.Omega.{arith}
use lib.ListN.{length, get_or}
use Rattle.laws.specs.Faults.{Nothing, Fault}
use Rattle.laws.specs.At.{number_piece}
use Rattle.laws.specs.Bytes.{number}
use Rattle.laws.specs.Chunks.{piece, length_piece, get_piece}
use Rattle.laws.specs.Faults.{◌then◌, first_nothing, first_stop, nothing_fault}
use Rattle.laws.specs.Neighbours.{TwinsSorted, Least, none_below, least_copies}
use Rattle.protocol.specs.declared.Parameters.{Parameters}
use Rattle.protocol.specs.declared.Due.TheVariants.{Ballot}
use Rattle.protocol.specs.Layout.{at_ballot}
use Rattle.protocol.specs.Record.{ballot_commitment_of}
use Rattle.protocol.specs.Rules.{original}
use Rattle.protocol.specs.Judging.{found_with, found}
use Rattle.protocol.proofs.Copies.{copy_none, copy_found, ballot_then}
use Rattle.copies.specs.Copied.{copy_fault, first_copy}
use Rattle.copies.specs.Counted.{place, value}
use Rattle.copies.proofs.Values.{Values, not_original, a_copy}

-- the commitments of the record
pub values : (p : Parameters) (r : List ℕ) {base : ℕ} (k : ℕ) → ((i : ℕ) → get_or r i 0 < 256) → base ≡ at_ballot p 0 → at_ballot p k ≤ length r
    → Values (ballot_commitment_of p r) (value r base) k
unfolding at_ballot ballot_commitment_of value
values p r {base} k small e room = record {
  is = λ x l.
      let f : place base x ≡ at_ballot p (x / 6) + 5 + 32 * (x % 6) + 0 = omega arith in
      ap (λ (a : ℕ). number r a 32) f ∙ sym (number_piece r (at_ballot p (x / 6) + 5 + 32 * (x % 6)) 32 0 32 (omega arith));
  long = λ x l. length_piece r (at_ballot p (x / 6) + 5 + 32 * (x % 6)) 32 (omega arith);
  small = λ x l i m.
      let a = at_ballot p (x / 6) + 5 + 32 * (x % 6) in
      let long : length (piece r a 32) ≡ 32 = length_piece r a 32 (omega arith) in
      omega (arith, get_piece r a 32 i (omega arith), small (a + i));
}

-- ---- the answer

module _ (p : Parameters) (r : List ℕ) {v : ℕ → ℕ} {k j : ℕ} {s : List ℕ} (w : Values (ballot_commitment_of p r) v k) (h : TwinsSorted v k s)
    (g : Least v k s (length s - 1) j) where
  none_found : (i : ℕ) → i < j → copy_fault p r i ≡ Nothing
  unfolding copy_fault
  none_found i l = copy_none p r i (go (original (ballot_commitment_of p r) i) refl)
    where
      go : (t : Bool) → original (ballot_commitment_of p r) i ≡ t → t ≡ true
      go true e = refl
      go false e = absurd (none_below h g i l (not_original w i (omega (arith, g.most)) e))

  pub no_copy : j ≡ k → Nothing ≡ first_copy p r k
  no_copy e = sym ((first_nothing (copy_fault p r) k).1 (λ i l. none_found i (omega arith)))

  pub some_copy : j ≢ k → Fault 21 (at_ballot p j) ≡ first_copy p r k
  unfolding copy_fault
  some_copy ne =
      let l : j < k = omega (arith, g.most) in
      let f : copy_fault p r j ≡ Fault 21 (at_ballot p j) = copy_found p r j (a_copy w j l (least_copies h g ne)) in
      sym f ∙ first_stop (copy_fault p r) k j l ((first_nothing (copy_fault p r) j).1 none_found) (λ q. nothing_fault q f)

-- ---- rule 21 is the last of a ballot's

pub judged_ballot : (drawn : Bool) (p : Parameters) (r : List ℕ) (j : ℕ)
    → found_with drawn p r true (Ballot j) ≡ (found drawn p r (Ballot j) then copy_fault p r j)
unfolding copy_fault
judged_ballot drawn p r j = ballot_then drawn p r j
