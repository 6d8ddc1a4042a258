-- One round as code makes it, from the counts of the votes; and the rounds one behind the other.
use mathlib.Core.Path.{◌≡◌, refl, sym, ap, ap₂, ◌∙◌}
use mathlib.Core.Logic.{◌≢◌}
use mathlib.Core.Bool.{Bool, true, false}
use mathlib.Core.List.{List}
use Prim.Native.Nat.{ℕ, zero, suc, ◌+◌, ◌-◌, ◌*◌, ◌≤◌, ◌<◌}
use native.Mathlib.Nat.{le_refl}
use native.Mathlib.Omega.{arith}
use lib.ListN.{length, set}
use Rattle.std.specs.Prelude.{Option, Some, MatchOption, is_some, unwrap_or}
use Rattle.laws.specs.Tests.{pick, below, equal, ◌or◌, or_fails, unequal_iff}
use Rattle.laws.specs.Tables.{tabulate, get_tabulate, same_tabulate}
use Rattle.protocol.specs.Terms.{item}
use Rattle.runoff.specs.Ranking.{standing}
use Rattle.runoff.specs.Rounds.{candidate, winner_among, fewest_among, last_counts, support, counting, round_winner, decided, left_after, start, next, onward, result}
use Rattle.runoff.specs.declared.Standings.{Standings}
use Rattle.runoff.proofs.Deciding.{Leaves, counting_with, leaves_some}
use Rattle.runoff.proofs.Outcomes.{picked, unpicked, some_is, number_is, named_is, some_number, winner_within, fewer_same, fewest_within}

-- ---- counts that are the same give the same outcome

module _ (f g : ℕ → ℕ) where
  winner_same : (counting n : ℕ) → ((k : ℕ) → 1 ≤ k → k ≤ n → f k ≡ g k) → winner_among counting f n ≡ winner_among counting g n
  unfolding winner_among
  winner_same counting zero h = refl
  winner_same counting (suc n) h =
      ap₂ (λ (c w : ℕ). pick (below counting (2 * c)) (suc n) w) (h (suc n) (omega arith) (omega arith)) (winner_same counting n (λ k a b. h k a (omega arith)))

  last_same : (left counts : List ℕ) → ((k : ℕ) → 1 ≤ k → k ≤ 9 → f k ≡ g k) → last_counts left f counts ≡ last_counts left g counts
  unfolding last_counts
  last_same left counts h =
      same_tabulate _ _ 9 (λ i l. ap (λ (c : ℕ). pick (standing left (suc i)) c (item counts i)) (h (suc i) (omega arith) (omega arith)))

  fewest_same : (left : List ℕ) (n : ℕ) → ((k : ℕ) → 1 ≤ k → k ≤ n → f k ≡ g k) → fewest_among left f n ≡ fewest_among left g n
  unfolding fewest_among
  fewest_same left zero h = refl
  fewest_same left (suc n) h = fewer_same f g left (suc n) _ _ (fewest_same left n (λ k a b. h k a (omega arith))) (h (suc n) (omega arith) (le_refl (suc n))) (at (fewest_within left g n))
    where
      at : fewest_among left g n ≤ n → (fewest_among left g n ≢ 0) → f (fewest_among left g n) ≡ g (fewest_among left g n)
      at b some = h (fewest_among left g n) (omega arith) (omega arith)

-- ---- a round from the counts

pub standings_same : {a b l m : List ℕ} {v w r : ℕ} {o p : Bool} → a ≡ b → l ≡ m → v ≡ w → o ≡ p
    → ◌≡◌ {A = Standings} (record { counts = a; left = l; rounds = r; winner = v; over = o }) (record { counts = b; left = m; rounds = r; winner = w; over = p })
standings_same e f g h = rw (e, f, g, h)

module _ (candidates : ℕ) (votes : List ℕ) (s : Standings) (few : candidates ≤ 9) {counts : List ℕ} (is : counts ≡ tabulate (support candidates votes s.left) 10) where
  abbrev all : ℕ
  all = length votes - item counts 0

  item_is : (k : ℕ) → k ≤ 9 → item counts k ≡ support candidates votes s.left k
  item_is k l = ap (λ (x : List ℕ). item x k) is ∙ get_tabulate (support candidates votes s.left) 10 k (omega arith)

  pub none_most : item counts 0 ≤ length votes
  none_most = omega (arith, item_is 0 (omega arith), counting_with candidates votes s.left)

  all_is : all ≡ counting candidates votes s.left
  all_is = omega (arith, item_is 0 (omega arith), counting_with candidates votes s.left)

  counts_of : {a : List ℕ} → a ≡ last_counts s.left (item counts) s.counts → a ≡ last_counts s.left (support candidates votes s.left) s.counts
  counts_of e = e ∙ last_same (item counts) (support candidates votes s.left) s.left s.counts (λ k a b. item_is k b)

  module _ {winner : Option ℕ} (wins : winner ≡ candidate (winner_among all (item counts) candidates)) where
    winner_of : winner ≡ candidate (round_winner candidates votes s.left)
    unfolding round_winner
    winner_of =
        wins ∙ ap candidate (ap (λ (n : ℕ). winner_among n (item counts) candidates) all_is
        ∙ winner_same (item counts) (support candidates votes s.left) (counting candidates votes s.left) candidates (λ k a b. item_is k (omega arith)))

    -- the winner's number
    pub number_of : {w : ℕ} → w ≡ unwrap_or winner 0 → w ≡ round_winner candidates votes s.left
    number_of e = e ∙ ap (λ (o : Option ℕ). unwrap_or o 0) winner_of ∙ number_is (round_winner candidates votes s.left)

    pub number_most : {w : ℕ} → w ≡ unwrap_or winner 0 → w ≤ 9
    unfolding round_winner
    number_most e = rw (number_of e) (omega (arith, winner_within (counting candidates votes s.left) (support candidates votes s.left) candidates))

    module _ {b : Bool} (decides : b ≡ (equal all 0 or is_some winner)) where
      decided_of : b ≡ decided candidates votes s.left
      unfolding decided
      decided_of =
          decides ∙ ap₂ (λ (n : ℕ) (t : Bool). equal n 0 or t) all_is (ap is_some winner_of ∙ named_is (round_winner candidates votes s.left))

      -- where it is not decided somebody stands who leaves
      module _ {o : Option ℕ} (fewest : o ≡ candidate (fewest_among s.left (item counts) candidates)) (t : b ≡ false) where
        leaver_of : o ≡ candidate (fewest_among s.left (support candidates votes s.left) candidates)
        leaver_of = fewest ∙ ap candidate (fewest_same (item counts) (support candidates votes s.left) s.left candidates (λ k a b. item_is k (omega arith)))

        leaves : Leaves s.left (support candidates votes s.left) candidates (fewest_among s.left (support candidates votes s.left) candidates)
        leaves = leaves_some candidates votes s.left (λ z. (unequal_iff all 0).0 ((or_fails (equal all 0) (is_some winner)).0 (sym decides ∙ t)).0 (all_is ∙ z))

        pub leaver_small : (k : ℕ) → o ≡ Some k → (1 ≤ k) × (k ≤ 9)
        leaver_small k e = let i = some_number leaver_of e in (omega (arith, i, leaves.from), omega (arith, i, leaves.to))

        pub left_gone : {l : List ℕ} → MatchOption o (l ≡ s.left) (λ k. l ≡ set s.left (k - 1) (s.rounds + 1)) → l ≡ left_after candidates votes s.left (s.rounds + 1)
        unfolding left_after
        left_gone {l} h =
            let f : ℕ = fewest_among s.left (support candidates votes s.left) candidates in
            let g : l ≡ set s.left (f - 1) (s.rounds + 1) = (rw (leaver_of ∙ sym (some_is f (omega (arith, leaves.from)))) at h) in
            g ∙ sym (unpicked s.left _ (sym decided_of ∙ t))

      -- and where it is nobody leaves
      pub left_kept : b ≡ true → {l : List ℕ} → l ≡ s.left → l ≡ left_after candidates votes s.left (s.rounds + 1)
      unfolding left_after
      left_kept t e = e ∙ sym (picked s.left _ (sym decided_of ∙ t))

      pub next_is : {a l : List ℕ} {w : ℕ} → a ≡ last_counts s.left (item counts) s.counts → l ≡ left_after candidates votes s.left (s.rounds + 1)
          → w ≡ unwrap_or winner 0 → record { counts = a; left = l; rounds = s.rounds + 1; winner = w; over = b } ≡ next candidates votes s
      unfolding next
      next_is e l w = standings_same (counts_of e) l (number_of w) decided_of

-- ---- the rounds

module _ (candidates : ℕ) (votes : List ℕ) where
  -- before the first round all are to come
  pub started : {s : Standings} → s ≡ start → (s.rounds ≡ 0) × (onward candidates votes (candidates - 0) s ≡ result candidates votes)
  unfolding start result
  started e = let z : candidates - 0 ≡ candidates = omega arith in (ap (λ (x : Standings). x.rounds) e, rw z (ap (onward candidates votes candidates) e))

  -- one round more
  pub one_on : (n : ℕ) (s : Standings) {t : Standings} → n < candidates → s.over ≡ false → s.rounds ≡ n
      → onward candidates votes (candidates - n) s ≡ result candidates votes → t ≡ next candidates votes s
      → (t.rounds ≡ n + 1) × (onward candidates votes (candidates - (n + 1)) t ≡ result candidates votes)
  unfolding onward next
  one_on n s {t} l runs counted goes e =
      let m : candidates - n ≡ suc (candidates - (n + 1)) = omega arith in (
        ap (λ (x : Standings). x.rounds) e ∙ ap (λ (k : ℕ). k + 1) counted,
        ap (onward candidates votes (candidates - (n + 1))) e
            ∙ sym (ap (λ (k : ℕ). onward candidates votes k s) m ∙ unpicked s _ runs) ∙ goes,
      )

  -- where it is over it stays so
  pub over_on : (n : ℕ) (s : Standings) → s.over ≡ true → onward candidates votes n s ≡ result candidates votes → s ≡ result candidates votes
  unfolding onward
  over_on n s e goes = onward_over n s e ∙ goes
    where
      onward_over : (n : ℕ) (s : Standings) → s.over ≡ true → s ≡ onward candidates votes n s
      onward_over zero s e = refl
      onward_over (suc n) s e = sym (picked s _ e)

  pub end_on : (n : ℕ) (s : Standings) → n ≡ 0 → onward candidates votes n s ≡ result candidates votes → s ≡ result candidates votes
  unfolding onward
  end_on n s e goes = ap (λ (k : ℕ). onward candidates votes k s) (sym e) ∙ goes
