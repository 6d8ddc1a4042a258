-- The row servers' work joins to the list that is written: three columns of `row_server` over the ballots' shares, row three's offsets by `third_offsets`,
-- give exactly the rows `mixed`, and `second_halves` the second halves; and the servers refuse none of it.
use mathlib.Core.Path.{◌≡◌, refl, sym, ap, ap₂, ◌∙◌}
use mathlib.Core.Bool.{Bool}
use mathlib.Core.List.{List}
use Prim.Native.Nat.{ℕ, zero, suc, ◌+◌, ◌*◌, ◌/◌, ◌%◌, ◌<◌}
use native.Mathlib.Omega.{arith}
use lib.ListN.{length}
use Rattle.laws.specs.Tests.{choose}
use Rattle.laws.specs.Faults.{rules}
use Rattle.laws.specs.Bytes.{Below}
use Rattle.laws.specs.Modular.{plus, minus, plus_below, minus_below}
use Rattle.laws.specs.Permutations.{Perm}
use Rattle.laws.specs.Tables.{tabulate, length_tabulate, get_tabulate, same_tabulate}
use Rattle.protocol.specs.Terms.{item, modulus_in_limits, ballots_in_limits}
use Rattle.protocol.specs.Tablet.{share, slot}
use Rattle.protocol.specs.Columns.{row, third_offset, row_server, third_offsets, second_halves, row_refusal, pair_refusal}
use Rattle.protocol.specs.Layout.{lists}
use Rattle.protocol.specs.Inputs.{Inputs, Slices, inputs_of}
use Rattle.protocol.specs.Servers.{ballot_row, row_offset, column, mixed, entry_number}
use Rattle.protocol.proofs.Goodness.{Good}
use Rattle.protocol.proofs.Unrefused.{Unrefused, all_below_iff, permutation_iff}

module _ (s : Inputs) (l : ℕ) where
  abbrev n : ℕ
  n = s.parameters.ballots

  abbrev M : ℕ
  M = s.parameters.modulus

  -- what the servers of column c are lent: row k's offsets, and the permutation
  abbrev pub offsets_of : ℕ → ℕ → List ℕ
  offsets_of c zero = tabulate (s.offset l c 0) n
  offsets_of c (suc zero) = tabulate (s.offset l c 1) n
  offsets_of c (suc (suc k)) = third_offsets M (tabulate (s.offset l c 0) n) (tabulate (s.offset l c 1) n)

  abbrev pub permutation_of : ℕ → List ℕ
  permutation_of c = tabulate (s.permutation l c) n

  -- row k through column c
  abbrev pub server : ℕ → ℕ → List ℕ → List ℕ
  server c k numbers = row_server M numbers (offsets_of c k) (permutation_of c)

  -- one offset
  offset_at : (c k p : ℕ) → p < n → item (offsets_of c k) p ≡ row_offset s l c k p
  unfolding row_offset third_offsets
  offset_at c zero p h = get_tabulate _ n p h
  offset_at c (suc zero) p h = get_tabulate _ n p h
  offset_at c (suc (suc k)) p h =
      get_tabulate _ (length (tabulate (s.offset l c 0) n)) p (rw (length_tabulate (s.offset l c 0) n) h)
      ∙ ap₂ (third_offset M) (get_tabulate (s.offset l c 0) n p h) (get_tabulate (s.offset l c 1) n p h)

  module _ (places : (c i : ℕ) → c < 3 → i < n → s.permutation l c i < n) where
    column_server : (c k : ℕ) (x : ℕ → ℕ) → c < 3 → server c k (tabulate x n) ≡ tabulate (column s l c k x) n
    unfolding row_server column row
    column_server c k x lc =
        ap (tabulate (row M (item (offsets_of c k)) (item (permutation_of c)) (item (tabulate x n)))) (length_tabulate x n)
        ∙ same_tabulate _ _ n at
      where
        at : (i : ℕ) → i < n → row M (item (offsets_of c k)) (item (permutation_of c)) (item (tabulate x n)) i ≡ column s l c k x i
        at i h =
            let p : ℕ = s.permutation l c i in
            let lp : p < n = places c i lc h in
            ap (λ (p : ℕ). plus M (item (tabulate x n) p) (item (offsets_of c k) p)) (get_tabulate (s.permutation l c) n i h)
            ∙ ap₂ (plus M) (get_tabulate x n p lp) (offset_at c k p lp)

    pub three_columns : (k : ℕ) → server 2 k (server 1 k (server 0 k (tabulate (ballot_row s k) n))) ≡ tabulate (mixed s l k) n
    unfolding mixed
    three_columns k =
        ap (λ (v : List ℕ). server 2 k (server 1 k v)) (column_server 0 k (ballot_row s k) (omega arith))
        ∙ ap (server 2 k) (column_server 1 k _ (omega arith))
        ∙ column_server 2 k _ (omega arith)

  -- "The third column then splits each number with a given first half."
  pub second_halves_lem : (k : ℕ) → second_halves M (tabulate (mixed s l k) n) (tabulate (λ i. s.entry_first_half l i k) n) ≡ tabulate (λ i. entry_number s l i (2 * k + 1)) n
  unfolding second_halves entry_number slot choose
  second_halves_lem k =
      ap (tabulate (λ i. minus M (item (tabulate (mixed s l k) n) i) (item (tabulate (λ i. s.entry_first_half l i k) n) i))) (length_tabulate (mixed s l k) n)
      ∙ same_tabulate _ _ n at
    where
      at : (i : ℕ) → i < n
          → minus M (item (tabulate (mixed s l k) n) i) (item (tabulate (λ i. s.entry_first_half l i k) n) i)
          ≡ choose ((2 * k + 1) % 2) (s.entry_first_half l i ((2 * k + 1) / 2)) (minus M (mixed s l ((2 * k + 1) / 2) i) (s.entry_first_half l i ((2 * k + 1) / 2)))
      at i h =
          let odd : (2 * k + 1) % 2 ≡ 1 = omega arith in
          let half : (2 * k + 1) / 2 ≡ k = omega arith in
          rw (odd, half) (ap₂ (minus M) (get_tabulate (mixed s l k) n i h) (get_tabulate (λ i. s.entry_first_half l i k) n i h))

  pub first_halves : (i k : ℕ) → entry_number s l i (2 * k) ≡ s.entry_first_half l i k
  unfolding entry_number slot choose
  first_halves i k = let even : 2 * k % 2 ≡ 0 = omega arith in let half : 2 * k / 2 ≡ k = omega arith in rw (even, half)

-- ---- slices that are not refused

module _ (s : Slices) {lengths fair shape binary : Bool} (u : Unrefused s lengths fair shape binary) (l : ℕ) (ll : l < lists (inputs_of s).parameters) where
  permutations_below : (c i : ℕ) → c < 3 → i < (inputs_of s).parameters.ballots → (inputs_of s).permutation l c i < (inputs_of s).parameters.ballots
  unfolding inputs_of
  permutations_below c i lc li = (u.permutations l c ll lc).below i li

  pub slices_joined : (k : ℕ)
      → server (inputs_of s) l 2 k (server (inputs_of s) l 1 k (server (inputs_of s) l 0 k (tabulate (ballot_row (inputs_of s) k) (inputs_of s).parameters.ballots)))
      ≡ tabulate (mixed (inputs_of s) l k) (inputs_of s).parameters.ballots
  slices_joined k = three_columns (inputs_of s) l permutations_below k

-- ---- the servers refuse none of it

below_tabulate : (M : ℕ) (f : ℕ → ℕ) (n : ℕ) → ((i : ℕ) → i < n → f i < M) → Below M (tabulate f n)
below_tabulate M f n h i l = let li : i < n = rw length_tabulate at l in rw (get_tabulate f n i li) (h i li)

perm_tabulate : (n : ℕ) (f : ℕ → ℕ) → Perm n f → Perm n (item (tabulate f n))
perm_tabulate n f h = record {
  below = λ i l. rw (get_tabulate f n i l) (h.below i l);
  apart = λ i j li lj e. h.apart i j li lj (sym (get_tabulate f n i li) ∙ e ∙ get_tabulate f n j lj);
}

ruleset tests = (rules, all_below_iff, permutation_iff)

module _ (s : Inputs) (g : Good s) (l : ℕ) (ll : l < lists s.parameters) where
  positive : 0 < s.parameters.modulus
  positive = omega (arith, g.modulus_low)

  -- each number that a server is lent is below M
  row_below : (k j : ℕ) → j < s.parameters.ballots → ballot_row s k j < s.parameters.modulus
  unfolding ballot_row share
  row_below zero j lj = g.x_below j lj
  row_below (suc zero) j lj = g.y_below j lj
  row_below (suc (suc k)) j lj = minus_below s.parameters.modulus _ (s.y j) positive

  column_below : (c k : ℕ) (x : ℕ → ℕ) (i : ℕ) → column s l c k x i < s.parameters.modulus
  unfolding column row
  column_below c k x i = plus_below s.parameters.modulus _ _ positive

  offset_below : (c k i : ℕ) → c < 3 → i < s.parameters.ballots → row_offset s l c k i < s.parameters.modulus
  unfolding row_offset third_offset
  offset_below c zero i lc li = g.offsets_below l c 0 i ll lc (omega arith) li
  offset_below c (suc zero) i lc li = g.offsets_below l c 1 i ll lc (omega arith) li
  offset_below c (suc (suc k)) i lc li = minus_below s.parameters.modulus _ (s.offset l c 1 i) positive

  length_offsets : (c k : ℕ) → length (offsets_of s l c k) ≡ s.parameters.ballots
  unfolding third_offsets
  length_offsets c zero = length_tabulate (s.offset l c 0) s.parameters.ballots
  length_offsets c (suc zero) = length_tabulate (s.offset l c 1) s.parameters.ballots
  length_offsets c (suc (suc k)) = length_tabulate _ (length (tabulate (s.offset l c 0) s.parameters.ballots)) ∙ length_tabulate (s.offset l c 0) s.parameters.ballots

  offsets_small : (c k : ℕ) → c < 3 → Below s.parameters.modulus (offsets_of s l c k)
  offsets_small c k lc i h = let li : i < s.parameters.ballots = rw (length_offsets c k) at h in rw (offset_at s l c k i li) (offset_below c k i lc li)

  -- a row server, lent any row below M
  pub server_unrefused : (c k : ℕ) (x : ℕ → ℕ) → c < 3 → ((i : ℕ) → i < s.parameters.ballots → x i < s.parameters.modulus)
      → row_refusal s.parameters.modulus s.parameters.ballots (tabulate x s.parameters.ballots) (offsets_of s l c k) (permutation_of s l c) s.parameters.ballots ≡ 0
  unfolding row_refusal modulus_in_limits ballots_in_limits
  server_unrefused c k x lc small =
      let n = s.parameters.ballots in
      simp tests (
        ((g.modulus_low, g.modulus_high), (g.ballots_low, g.ballots_high)),
        (
          (length_tabulate x n, (length_offsets c k, (length_tabulate (s.permutation l c) n, refl))),
          (
            (below_tabulate s.parameters.modulus x n small, offsets_small c k lc),
            (perm_tabulate n (s.permutation l c) (g.permutations l c ll lc), refl),
          ),
        ),
      )

  -- the three servers of row k, each lent what the one before gives
  pub columns_unrefused : (k : ℕ)
      → let n = s.parameters.ballots in
      let refused : ℕ → List ℕ → ℕ = λ c numbers. row_refusal s.parameters.modulus n numbers (offsets_of s l c k) (permutation_of s l c) n in
      let given : List ℕ = tabulate (ballot_row s k) n in
      (refused 0 given ≡ 0) × ((refused 1 (server s l 0 k given) ≡ 0) × (refused 2 (server s l 1 k (server s l 0 k given)) ≡ 0))
  columns_unrefused k =
      let places : (c i : ℕ) → c < 3 → i < s.parameters.ballots → s.permutation l c i < s.parameters.ballots = λ c i lc li. (g.permutations l c ll lc).below i li in
      let one = column_server s l places 0 k (ballot_row s k) (omega arith) in
      let two = column_server s l places 1 k (column s l 0 k (ballot_row s k)) (omega arith) in (
        server_unrefused 0 k (ballot_row s k) (omega arith) (row_below k),
        (
          rw one (server_unrefused 1 k (column s l 0 k (ballot_row s k)) (omega arith) (λ i li. column_below 0 k (ballot_row s k) i)),
          rw (one, two) (server_unrefused 2 k (column s l 1 k (column s l 0 k (ballot_row s k))) (omega arith) (λ i li. column_below 1 k (column s l 0 k (ballot_row s k)) i)),
        ),
      )

  pair_unrefused : (x y : ℕ → ℕ) → ((i : ℕ) → i < s.parameters.ballots → x i < s.parameters.modulus) → ((i : ℕ) → i < s.parameters.ballots → y i < s.parameters.modulus)
      → pair_refusal s.parameters.modulus s.parameters.ballots (tabulate x s.parameters.ballots) (tabulate y s.parameters.ballots) s.parameters.ballots ≡ 0
  unfolding pair_refusal modulus_in_limits ballots_in_limits
  pair_unrefused x y small₁ small₂ =
      let n = s.parameters.ballots in
      simp tests (
        ((g.modulus_low, g.modulus_high), (g.ballots_low, g.ballots_high)),
        (
          (length_tabulate x n, (length_tabulate y n, refl)),
          ((below_tabulate s.parameters.modulus x n small₁, below_tabulate s.parameters.modulus y n small₂), refl),
        ),
      )

  -- the working out of row three's offsets, and the split of a row
  pub offsets_unrefused : (c : ℕ) → c < 3
      → pair_refusal s.parameters.modulus s.parameters.ballots (tabulate (s.offset l c 0) s.parameters.ballots) (tabulate (s.offset l c 1) s.parameters.ballots) s.parameters.ballots ≡ 0
  offsets_unrefused c lc = pair_unrefused (s.offset l c 0) (s.offset l c 1) (λ i li. g.offsets_below l c 0 i ll lc (omega arith) li) (λ i li. g.offsets_below l c 1 i ll lc (omega arith) li)

  pub split_unrefused : (k : ℕ) → k < 3
      → pair_refusal s.parameters.modulus s.parameters.ballots (tabulate (mixed s l k) s.parameters.ballots) (tabulate (λ i. s.entry_first_half l i k) s.parameters.ballots) s.parameters.ballots ≡ 0
  unfolding mixed
  split_unrefused k lk = pair_unrefused (mixed s l k) (λ i. s.entry_first_half l i k) (λ i li. column_below 2 k _ i) (λ i li. g.entry_first_halves_below l i k ll li lk)
