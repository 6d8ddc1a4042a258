-- `results::tally::refuse` meets its contract: the lengths are tested first, and then whether the votes rise.
use mathlib.Core.Path.{◌≡◌, refl, sym}
use mathlib.Core.Bool.{Bool, true, false}
use mathlib.Core.List.{List}
use Prim.Native.Nat.{ℕ, zero, suc, ◌+◌, ◌-◌, ◌<◌}
use native.Mathlib.Omega.{arith}
use lib.ListN.{length, get_or}
use Rattle.std.specs.List.Sorted.{IsNonDecreasing}
use Rattle.std.proofs.lemmas.List.Sorted.{non_decreasing_from_is_sorted}
use Rattle.laws.specs.Tests.{equal, at_most, ◌or◌, every, every_iff, every_stop, is_equal, not_equal, is_at_most, not_at_most, or_go, or_stop, ◌and◌, and_go, and_stop}
use Rattle.laws.specs.Faults.{rule_go, rule_stop}
use Rattle.protocol.specs.Terms.{item}
use Rattle.protocol.specs.Results.{tally_refusal}
use Rattle.results.proofs.tally.refuse.Goals as goal

abbrev stands_at : List ℕ → ℕ → Bool
stands_at votes i = equal i 0 or at_most (item votes (i - 1)) (item votes i)

-- outputs of the votes' length
long : (votes : List ℕ) (v c : ℕ) → v ≡ length votes → c ≡ length votes → (equal v (length votes) and equal c (length votes)) ≡ true
long votes v c e f = sym (and_go _ _ (is_equal e) (sym (is_equal f)))

-- ---- whether the votes rise

rises : (votes : List ℕ) → IsNonDecreasing votes → every (stands_at votes) (length votes) ≡ true
rises votes h = (every_iff (stands_at votes) (length votes)).1 one
  where
    one : (i : ℕ) → i < length votes → stands_at votes i ≡ true
    one zero l = sym (or_stop _ _ (is_equal refl))
    one (suc i) l = sym (or_go _ _ (not_equal (omega arith)) (sym (is_at_most (h (suc i - 1) (suc i) 0 (omega arith) l))))

falls : (votes : List ℕ) → ((k : ℕ) × (k + 1 < length votes) × ((d : ℕ) → get_or votes (k + 1) d < get_or votes k d)) → false ≡ every (stands_at votes) (length votes)
falls votes (k, l, h) =
    let back : k + 1 - 1 ≡ k = omega arith in
    every_stop (stands_at votes) (length votes) (k + 1) l (sym (or_go _ _ (not_equal (omega arith)) (sym (not_at_most (rw back (h 0))))))

pub returns-then-values_len-votes : goal.returns-then-values_len-votes
unfolding tally_refusal
returns-then-values_len-votes c = rule_stop _ _ _ (sym (and_stop _ _ (not_equal c.if-values_len-votes.true)))

pub returns-then-counts_len-votes : goal.returns-then-counts_len-votes
unfolding tally_refusal
returns-then-counts_len-votes c = rule_stop _ _ _ (sym (and_go _ _ (is_equal (omega arith)) (sym (not_equal c.if-counts_len-votes.true))))

-- the two lengths fit: the votes decide
pub returns-then-not-is_sorted : goal.returns-then-not-is_sorted
unfolding tally_refusal
returns-then-not-is_sorted c =
    let votes = c.args.votes.now in
    let answer = rw c.if-not-is_sorted.true at (non_decreasing_from_is_sorted votes c.is_sorted.result c.is_sorted.ensures.cases) in
    rule_go _ _ _ (long votes _ _ (omega arith) (omega arith)) (rule_stop _ _ _ (sym (falls votes answer)))

pub returns : goal.returns
unfolding tally_refusal
returns c =
    let votes = c.args.votes.now in
    let answer = rw c.if-not-is_sorted.false at (non_decreasing_from_is_sorted votes c.is_sorted.result c.is_sorted.ensures.cases) in
    rule_go _ _ _ (long votes _ _ (omega arith) (omega arith)) (rule_go _ _ _ (rises votes answer) refl)
