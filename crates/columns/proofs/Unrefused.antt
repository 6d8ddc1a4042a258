-- What slices are that no server of a column refuses.
use mathlib.Core.Path.{◌≡◌, sym}
use mathlib.Core.Logic.{◌≢◌}
use mathlib.Core.List.{List, [], ◌∷◌}
use Rattle.std.proofs.lemmas.Grind.{common_steps}
use Rattle.laws.specs.Tests.{◌and◌, equal}
use Prim.Native.Nat.{ℕ, ◌≤◌, ◌<◌}
use native.Mathlib.Omega.{arith}
use lib.ListN.{length}
use Rattle.laws.specs.Faults.{rules, rule, kept}
use Rattle.laws.specs.Bytes.{Below}
use Rattle.protocol.specs.Terms.{item, most_ballots}
use Rattle.protocol.specs.Columns.{is_permutation, row_refusal, pair_refusal}
use Rattle.protocol.proofs.Unrefused.{all_below_iff, permutation_iff}
use Rattle.limits.proofs.Limits.{modulus_iff, ballots_iff}
use Rattle.columns.specs.Ready.{RowReady, PairReady, column_refusal}

ruleset tests = (rules, modulus_iff, ballots_iff, all_below_iff, permutation_iff)

pair_of : {modulus n : ℕ} {first second : List ℕ} {out : ℕ} → 2 ≤ modulus → (length first ≡ n) × ((length second ≡ n) × (out ≡ n))
    → Below modulus first × Below modulus second → PairReady modulus first second out
pair_of positive long small = record {
  positive = omega arith;
  second_long = omega arith;
  out_long = omega arith;
  first_below = small.0;
  second_below = small.1;
}

-- what two rows are refused for; and where that is nothing, the rest decides
pub refused_first : (modulus n : ℕ) (lengths first second : List ℕ) (rest k : ℕ) → k ≡ column_refusal modulus n lengths first second kept → k ≢ 0
    → k ≡ column_refusal modulus n lengths first second rest
unfolding column_refusal rule
refused_first modulus n lengths first second rest k e ne = grind (arith, common_steps)

pub passed_first : (modulus n : ℕ) (lengths first second : List ℕ) (rest : ℕ) → 0 ≡ column_refusal modulus n lengths first second kept
    → rest ≡ column_refusal modulus n lengths first second rest
unfolding column_refusal rule
passed_first modulus n lengths first second rest e = grind (arith, common_steps)

-- a row server tests its permutation last
pub row_is : (modulus n : ℕ) (numbers offsets permutation : List ℕ) (out : ℕ)
    → column_refusal modulus n (length numbers ∷ length offsets ∷ length permutation ∷ out ∷ []) numbers offsets (rule 19 (is_permutation n (item permutation)) kept)
    ≡ row_refusal modulus n numbers offsets permutation out
unfolding column_refusal row_refusal ◌and◌ equal
row_is modulus n numbers offsets permutation out = grind (arith, common_steps)

pub places_ready : (modulus n a b c d : ℕ) (first second : List ℕ) → 0 ≡ column_refusal modulus n (a ∷ b ∷ c ∷ d ∷ []) first second kept → (c ≡ n) × (n ≤ most_ballots)
unfolding column_refusal rule ◌and◌
places_ready modulus n a b c d first second e = grind (arith, common_steps, ballots_iff)

pub pair_ready : (modulus n : ℕ) (first second : List ℕ) (out : ℕ) → 0 ≡ pair_refusal modulus n first second out
    → PairReady modulus first second out
unfolding pair_refusal
pair_ready modulus n first second out e =
    let (limits, (long, (small, rest))) = simp tests at (sym e) in
    pair_of limits.0.0 long small

pub row_ready : (modulus n : ℕ) (numbers offsets permutation : List ℕ) (out : ℕ) → 0 ≡ row_refusal modulus n numbers offsets permutation out
    → RowReady modulus numbers offsets permutation out
unfolding row_refusal
row_ready modulus n numbers offsets permutation out e =
    let (limits, (long, (small, (perm, rest)))) = simp tests at (sym e) in
    record {
      pair = pair_of limits.0.0 (long.0, (long.1.0, long.1.1.1)) small;
      permutation_long = omega arith;
      places = λ i l. let below : item permutation i < n = perm.below i (omega arith) in omega arith;
    }
