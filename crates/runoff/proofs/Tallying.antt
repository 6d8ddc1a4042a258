-- The count of a round, vote by vote: what is counted for each candidate, with what is left, is the whole.
use mathlib.Core.Path.{◌≡◌, refl, sym, ap, ◌∙◌}
use mathlib.Core.Bool.{Bool, true, false, cond}
use mathlib.Core.List.{List}
use Prim.Native.Nat.{ℕ, ◌+◌, ◌≤◌, ◌<◌}
use native.Mathlib.Decide.{ℕ_discrete}
use native.Mathlib.Omega.{arith}
use lib.ListN.{length, set, replicate, get_or-replicate, length-set}
use lib.Seq.{get_or-set_same, get_or-set_other}
use Rattle.std.specs.Prelude.{Option, unwrap_or}
use Rattle.std.specs.List.{count_by}
use Rattle.std.proofs.lemmas.List.Recursion.{is_count_by}
use Rattle.laws.specs.Tests.{equal, is_equal, not_equal}
use Rattle.laws.specs.Sums.{one_if}
use Rattle.laws.specs.Counting.{how_many, Counted, none_counted, one_counted, all_counted}
use Rattle.laws.specs.Tables.{tabulate, tabulate_of}
use Rattle.protocol.specs.Terms.{item}
use Rattle.runoff.specs.Ranking.{counts_for}
use Rattle.runoff.specs.Rounds.{candidate, support}
use Rattle.runoff.proofs.Deciding.{counts_stands}
use Rattle.runoff.proofs.Outcomes.{number_is}

-- how many numbers meet a test, in std's words
pub count_is : (t : ℕ → Bool) (xs : List ℕ) → count_by t xs ≡ how_many t xs
unfolding how_many
count_is t xs = sym (is_count_by (how_many t) t refl (λ x xs. go (t x) (how_many t xs)) xs)
  where
    go : (b : Bool) (n : ℕ) → one_if b + n ≡ cond b (1 + n) n
    go true n = refl
    go false n = omega arith

-- the number of the candidate that a vote counts for, 0 for none
module _ (candidates : ℕ) (left : List ℕ) (vote : ℕ) {o : Option ℕ} {k : ℕ} where
  pub number_for : o ≡ candidate (counts_for candidates left vote) → k ≡ unwrap_or o 0 → k ≡ counts_for candidates left vote
  number_for e h = h ∙ ap (λ (p : Option ℕ). unwrap_or p 0) e ∙ number_is (counts_for candidates left vote)

  pub number_small : candidates ≤ 9 → o ≡ candidate (counts_for candidates left vote) → k ≡ unwrap_or o 0 → k ≤ 9
  number_small few e h = rw (number_for e h) (go (ℕ_discrete (counts_for candidates left vote) 0))
    where
      go : Dec (counts_for candidates left vote ≡ 0) → counts_for candidates left vote ≤ 9
      go (yes z) = omega arith
      go (no some) = omega (arith, (counts_stands candidates left vote some).0.1)

module _ (candidates : ℕ) (votes left : List ℕ) where
  -- whether a vote counts for candidate k
  abbrev for : ℕ → ℕ → Bool
  for k vote = equal (counts_for candidates left vote) k

  pub record Tallied (i : ℕ) (counts : List ℕ) : Type 0 where
    pub within : i ≤ length votes
    pub long : length counts ≡ 10
    pub each : (k : ℕ) → k < 10 → Counted (for k) votes i (item counts k)

  pub none_tallied : Tallied 0 (replicate 10 0)
  none_tallied = record {
    within = omega arith;
    long = refl;
    each = λ k l. rw (get_or-replicate {A = ℕ} 10 k 0 0 l) (none_counted (for k) votes);
  }

  pub one_tallied : {i : ℕ} {counts : List ℕ} (k : ℕ) → Tallied i counts → i < length votes → k ≡ counts_for candidates left (item votes i) → k ≤ 9
      → Tallied (i + 1) (set counts k (item counts k + 1))
  one_tallied {i} {counts} k h l e most = record {
    within = omega arith;
    long = length-set counts k (item counts k + 1) ∙ h.long;
    each = λ q b. go q b (ℕ_discrete q k);
  }
    where
      go : (q : ℕ) → q < 10 → Dec (q ≡ k) → Counted (for q) votes (i + 1) (item (set counts k (item counts k + 1)) q)
      go q b (yes s) =
          one_counted _ (h.each q b) l
          (ap (item (set counts k (item counts k + 1))) s ∙ get_or-set_same counts k (item counts k + 1) 0 (omega (arith, h.long))
          ∙ ap (λ (n : ℕ). item counts n + 1) (sym s)
          ∙ ap (λ (t : Bool). item counts q + one_if t) (sym (is_equal (sym e ∙ sym s))))
      go q b (no ne) =
          one_counted _ (h.each q b) l
          (get_or-set_other counts k q (item counts k + 1) 0 ne ∙ omega (arith, ap one_if (not_equal (λ s. ne (sym s ∙ sym e)))))

  pub all_tallied : {i : ℕ} {counts : List ℕ} → Tallied i counts → i ≡ length votes → counts ≡ tabulate (support candidates votes left) 10
  unfolding support
  all_tallied {i} {counts} h e = tabulate_of counts (support candidates votes left) 10 h.long (λ k l. all_counted (h.each k l) e)
