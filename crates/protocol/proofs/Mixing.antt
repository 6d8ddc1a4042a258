-- The numbers of honest servers: a ballot's six sum to its vote, an entry's six to the vote that was mixed to its place, and a
-- ballot's halves agree with those of the entry that it is linked to.
use mathlib.Core.Path.{◌≡◌, sym, ap, ◌∙◌}
use Prim.Native.Nat.{ℕ, zero, suc, ◌+◌, ◌-◌, ◌/◌, ◌%◌, ◌≤◌, ◌<◌}
use native.Mathlib.Nat.{le_of_lt, mod-lt, mod-eq_of_lt, div-add-mod'}
use native.Mathlib.Omega.{arith}
use Rattle.laws.specs.Tests.{choose}
use Rattle.laws.specs.Modular.{plus, minus, cong, out, plus_plus, minus_below}
use Rattle.laws.specs.Permutations.{Perm}
use Rattle.laws.proofs.Permutations.{perm_then, whence_of, whence_perm}
use Rattle.protocol.specs.Tablet.{share, slot}
use Rattle.protocol.specs.Columns.{row, third_offset, source}
use Rattle.protocol.specs.Layout.{lists}
use Rattle.protocol.specs.Inputs.{Inputs}
use Rattle.protocol.specs.Servers.{ballot_row, ballot_number, row_offset, column, mixed, source_of, entry_number, link_position, sum_of_halves, link_shift}
use Rattle.protocol.proofs.Goodness.{Good}

-- ---- sums modulo M

-- a vote in three shares
shares_sum : (M w x y : ℕ) → x ≤ M → y ≤ M → (share M w x y 0 + share M w x y 1 + share M w x y 2) % M ≡ w % M
unfolding share minus
shares_sum M w x y hx hy =
    cong M (x + y + minus M (minus M w x) y) w ((w + (M - x)) / M + (minus M w x + (M - y)) / M) 2
    (omega (arith, div-add-mod' (w + (M - x)) M, div-add-mod' (minus M w x + (M - y)) M))

-- three numbers, each split in two: the six make the three
slots_sum : (M : ℕ) (value first : ℕ → ℕ) → ((k : ℕ) → k < 3 → first k ≤ M)
    → (slot M value first 0 + slot M value first 2 + slot M value first 4 + (slot M value first 1 + slot M value first 3 + slot M value first 5)) % M
    ≡ (value 0 + value 1 + value 2) % M
unfolding slot choose minus
slots_sum M value first small =
    let h₀ : first 0 ≤ M = small 0 (omega arith) in
    let h₁ : first 1 ≤ M = small 1 (omega arith) in
    let h₂ : first 2 ≤ M = small 2 (omega arith) in
    cong M (first 0 + first 1 + first 2 + (minus M (value 0) (first 0) + minus M (value 1) (first 1) + minus M (value 2) (first 2))) (value 0 + value 1 + value 2)
    ((value 0 + (M - first 0)) / M + (value 1 + (M - first 1)) / M + (value 2 + (M - first 2)) / M) 3
    (omega (
      arith,
      div-add-mod' (value 0 + (M - first 0)) M,
      div-add-mod' (value 1 + (M - first 1)) M,
      div-add-mod' (value 2 + (M - first 2)) M,
    ))

-- a slot is below M
slot_below : (M : ℕ) (value first : ℕ → ℕ) (q : ℕ) → first (q / 2) < M → slot M value first q < M
unfolding slot choose
slot_below M value first q h = go (q % 2)
  where
    go : (b : ℕ) → choose b (first (q / 2)) (minus M (value (q / 2)) (first (q / 2))) < M
    go zero = h
    go (suc b) = minus_below M (value (q / 2)) (first (q / 2)) (omega arith)

-- row three's offset with those of rows one and two
third_sum : (M a b : ℕ) → a ≤ M → b ≤ M → (a + b + third_offset M a b) % M ≡ 0 % M
unfolding third_offset minus
third_sum M a b ha hb =
    cong M (a + b + third_offset M a b) 0 ((0 + (M - a)) / M + (minus M 0 a + (M - b)) / M) 2
    (omega (arith, div-add-mod' (0 + (M - a)) M, div-add-mod' (minus M 0 a + (M - b)) M))

-- three rows whose offsets add to 0 keep their sum, at the place that perm says
rows_sum : (M : ℕ) (a b c perm x y z : ℕ → ℕ) (i : ℕ) → (a (perm i) + b (perm i) + c (perm i)) % M ≡ 0 % M
    → (row M a perm x i + row M b perm y i + row M c perm z i) % M ≡ (x (perm i) + y (perm i) + z (perm i)) % M
unfolding row plus
rows_sum M a b c perm x y z i h =
    let s : ℕ = x j + a j in
    let t : ℕ = y j + b j in
    let u : ℕ = z j + c j in
    cong M (s % M + t % M + u % M) (x j + y j + z j) (s / M + t / M + u / M + 0 / M) ((a j + b j + c j) / M)
    (omega (arith, div-add-mod' s M, div-add-mod' t M, div-add-mod' u M, out M (a j + b j + c j) 0 h))
  where
    j : ℕ
    j = perm i

-- t is u less u', both summed modulo M: u is u' plus t
shift_first : (M u u' : ℕ) → 0 < M → u % M ≡ (u' + minus M (u % M) (u' % M)) % M
unfolding minus
shift_first M u u' pos =
    let d : ℕ = u % M + (M - u' % M) in
    cong M u (u' + d % M) (1 + u' / M) (u / M + d / M) (omega (arith, div-add-mod' d M, div-add-mod' u M, div-add-mod' u' M, mod-lt u' pos))

-- and where u with v makes as much as u' with v', v plus t is v'
shift_second : (M u u' v v' t : ℕ) → u % M ≡ (u' + t) % M → (u + v) % M ≡ (u' + v') % M → (v + t) % M ≡ v' % M
shift_second M u u' v v' t p q =
    cong M (v + t) v' (u / M + (u' + v') / M) ((u + v) / M + (u' + t) / M) (omega (arith, out M u (u' + t) p, out M (u + v) (u' + v') q))

-- ---- what the servers mix

-- the three rows of the ballots
row_sum : (s : Inputs) (j : ℕ) → s.x j ≤ s.parameters.modulus → s.y j ≤ s.parameters.modulus
    → (ballot_row s 0 j + ballot_row s 1 j + ballot_row s 2 j) % s.parameters.modulus ≡ s.vote j % s.parameters.modulus
unfolding ballot_row
row_sum s j hx hy = shares_sum s.parameters.modulus (s.vote j) (s.x j) (s.y j) hx hy

-- All that the sum of an entry's three numbers asks of the inputs: the numbers given of the ballots and of list l are at most M, and its
-- permutations lead to ballots.
module _ (s : Inputs) (l : ℕ)
    (shares : (j : ℕ) → j < s.parameters.ballots → (s.x j ≤ s.parameters.modulus) × (s.y j ≤ s.parameters.modulus))
    (offsets : (c k i : ℕ) → c < 3 → k < 2 → i < s.parameters.ballots → s.offset l c k i ≤ s.parameters.modulus)
    (places : (c i : ℕ) → c < 3 → i < s.parameters.ballots → s.permutation l c i < s.parameters.ballots) where
  -- "At each place the three rows' offsets add to 0 modulo M"
  offset_sum : (c i : ℕ) → c < 3 → i < s.parameters.ballots
      → (row_offset s l c 0 i + row_offset s l c 1 i + row_offset s l c 2 i) % s.parameters.modulus ≡ 0 % s.parameters.modulus
  unfolding row_offset
  offset_sum c i lc li =
      third_sum s.parameters.modulus (s.offset l c 0 i) (s.offset l c 1 i) (offsets c 0 i lc (omega arith) li) (offsets c 1 i lc (omega arith) li)

  -- a column keeps the sum of the three rows
  column_sum : (c : ℕ) (x y z : ℕ → ℕ) (i : ℕ) → c < 3 → i < s.parameters.ballots
      → (column s l c 0 x i + column s l c 1 y i + column s l c 2 z i) % s.parameters.modulus
      ≡ (x (s.permutation l c i) + y (s.permutation l c i) + z (s.permutation l c i)) % s.parameters.modulus
  unfolding column
  column_sum c x y z i lc li =
      rows_sum s.parameters.modulus (row_offset s l c 0) (row_offset s l c 1) (row_offset s l c 2) (s.permutation l c) x y z i
      (offset_sum c (s.permutation l c i) lc (places c i lc li))

  -- all that is used of the mixing: the three numbers at a place sum to the vote mixed to it
  pub rows_make_vote : (i : ℕ) → i < s.parameters.ballots
      → (mixed s l 0 i + mixed s l 1 i + mixed s l 2 i) % s.parameters.modulus ≡ s.vote (source_of s l i) % s.parameters.modulus
  unfolding mixed source_of source
  rows_make_vote i li =
      let p : ℕ = s.permutation l 2 i in
      let lp : p < s.parameters.ballots = places 2 i (omega arith) li in
      let q : ℕ = s.permutation l 1 p in
      let lq : q < s.parameters.ballots = places 1 p (omega arith) lp in
      column_sum 2 (two 0) (two 1) (two 2) i (omega arith) li
      ∙ column_sum 1 (one 0) (one 1) (one 2) p (omega arith) lp
      ∙ column_sum 0 (ballot_row s 0) (ballot_row s 1) (ballot_row s 2) q (omega arith) lq
      ∙ row_sum s (s.permutation l 0 q) (shares (s.permutation l 0 q) (places 0 q (omega arith) lq)).0 (shares (s.permutation l 0 q) (places 0 q (omega arith) lq)).1
    where
      one : ℕ → ℕ → ℕ
      one k = column s l 0 k (ballot_row s k)

      two : ℕ → ℕ → ℕ
      two k = column s l 1 k (one k)

-- ---- the numbers of good inputs

module _ (s : Inputs) (g : Good s) where
  positive : 0 < s.parameters.modulus
  positive = omega (arith, g.modulus_low)

  -- what stands at a ballot's slot, and at an entry's, is below M
  pub ballot_below : (j q : ℕ) → j < s.parameters.ballots → q < 6 → ballot_number s j q < s.parameters.modulus
  unfolding ballot_number
  ballot_below j q lj lq = slot_below s.parameters.modulus (λ k. ballot_row s k j) (s.first_half j) q (g.first_halves_below j (q / 2) lj (omega arith))

  pub entry_below : (l i q : ℕ) → l < lists s.parameters → i < s.parameters.ballots → q < 6 → entry_number s l i q < s.parameters.modulus
  unfolding entry_number
  entry_below l i q ll li lq = slot_below s.parameters.modulus (λ k. mixed s l k i) (s.entry_first_half l i) q (g.entry_first_halves_below l i (q / 2) ll li (omega arith))

  pub shift_below : (l j : ℕ) → link_shift s l j < s.parameters.modulus
  unfolding link_shift
  shift_below l j = minus_below s.parameters.modulus (sum_of_halves s (s.first_half j)) (sum_of_halves s (s.entry_first_half l (link_position s l j))) positive

  -- ---- what the servers mix

  shares_below : (j : ℕ) → j < s.parameters.ballots → (s.x j ≤ s.parameters.modulus) × (s.y j ≤ s.parameters.modulus)
  shares_below j lj = (le_of_lt (g.x_below j lj), le_of_lt (g.y_below j lj))

  pub mixed_sum : (l i : ℕ) → l < lists s.parameters → i < s.parameters.ballots
      → (mixed s l 0 i + mixed s l 1 i + mixed s l 2 i) % s.parameters.modulus ≡ s.vote (source_of s l i) % s.parameters.modulus
  mixed_sum l i ll li =
      rows_make_vote s l shares_below (λ c k j lc lk lj. le_of_lt (g.offsets_below l c k j ll lc lk lj)) (λ c j lc lj. (g.permutations l c ll lc).below j lj) i li

  -- ---- where the ballots go

  pub source_perm : (l : ℕ) → l < lists s.parameters → Perm s.parameters.ballots (source_of s l)
  unfolding source_of source
  source_perm l ll = perm_then (g.permutations l 0 ll (omega arith)) (perm_then (g.permutations l 1 ll (omega arith)) (g.permutations l 2 ll (omega arith)))

  pub position_perm : (l : ℕ) → l < lists s.parameters → Perm s.parameters.ballots (link_position s l)
  unfolding link_position
  position_perm l ll = whence_perm s.parameters.ballots (source_of s l) (source_perm l ll)

  -- the linked place holds the ballot
  pub source_position : (l j : ℕ) → l < lists s.parameters → j < s.parameters.ballots → source_of s l (link_position s l j) ≡ j
  unfolding link_position
  source_position l j ll lj = (whence_of s.parameters.ballots (source_of s l) (source_perm l ll) j lj).0

  -- ---- the six numbers

  pub ballot_sum : (j : ℕ) → j < s.parameters.ballots
      → (ballot_number s j 0 + ballot_number s j 2 + ballot_number s j 4 + (ballot_number s j 1 + ballot_number s j 3 + ballot_number s j 5)) % s.parameters.modulus
      ≡ s.vote j % s.parameters.modulus
  unfolding ballot_number
  ballot_sum j lj =
      slots_sum s.parameters.modulus (λ k. ballot_row s k j) (s.first_half j) (λ k lk. le_of_lt (g.first_halves_below j k lj lk)) ∙ row_sum s j (shares_below j lj).0 (shares_below j lj).1

  pub entry_sum : (l i : ℕ) → l < lists s.parameters → i < s.parameters.ballots
      → (entry_number s l i 0 + entry_number s l i 2 + entry_number s l i 4 + (entry_number s l i 1 + entry_number s l i 3 + entry_number s l i 5)) % s.parameters.modulus
      ≡ s.vote (source_of s l i) % s.parameters.modulus
  unfolding entry_number
  entry_sum l i ll li =
      slots_sum s.parameters.modulus (λ k. mixed s l k i) (s.entry_first_half l i) (λ k lk. le_of_lt (g.entry_first_halves_below l i k ll li lk)) ∙ mixed_sum l i ll li

  -- the value of an opened entry
  pub entry_value : (l i : ℕ) → l < lists s.parameters → i < s.parameters.ballots
      → (entry_number s l i 0 + entry_number s l i 1 + entry_number s l i 2 + entry_number s l i 3 + entry_number s l i 4 + entry_number s l i 5) % s.parameters.modulus
      ≡ s.vote (source_of s l i)
  entry_value l i ll li =
      ap (λ (x : ℕ). x % s.parameters.modulus) (regroup (entry_number s l i 0) (entry_number s l i 1) (entry_number s l i 2) (entry_number s l i 3) (entry_number s l i 4) (entry_number s l i 5))
      ∙ entry_sum l i ll li ∙ mod-eq_of_lt (g.votes_below (source_of s l i) ((source_perm l ll).below i li))
    where
      regroup : (a b c d e f : ℕ) → a + b + c + d + e + f ≡ a + c + e + (b + d + f)
      regroup a b c d e f = omega arith

  -- ---- the halves of a ballot and of the entry that it is linked to

  -- side 0: the entry's plus t
  pub first_agree : (l j : ℕ)
      → (ballot_number s j 0 + ballot_number s j 2 + ballot_number s j 4) % s.parameters.modulus
      ≡ (entry_number s l (link_position s l j) 0 + entry_number s l (link_position s l j) 2 + entry_number s l (link_position s l j) 4 + link_shift s l j) % s.parameters.modulus
  unfolding ballot_number entry_number slot choose link_shift sum_of_halves
  first_agree l j =
      simp plus_plus
      (shift_first s.parameters.modulus (s.first_half j 0 + s.first_half j 1 + s.first_half j 2)
      (s.entry_first_half l (link_position s l j) 0 + s.entry_first_half l (link_position s l j) 1 + s.entry_first_half l (link_position s l j) 2) positive)

  -- side 1: with t, the entry's
  pub second_agree : (l j : ℕ) → l < lists s.parameters → j < s.parameters.ballots
      → (ballot_number s j 1 + ballot_number s j 3 + ballot_number s j 5 + link_shift s l j) % s.parameters.modulus
      ≡ (entry_number s l (link_position s l j) 1 + entry_number s l (link_position s l j) 3 + entry_number s l (link_position s l j) 5) % s.parameters.modulus
  second_agree l j ll lj =
      shift_second s.parameters.modulus (ballot_number s j 0 + ballot_number s j 2 + ballot_number s j 4)
      (entry_number s l i 0 + entry_number s l i 2 + entry_number s l i 4) (ballot_number s j 1 + ballot_number s j 3 + ballot_number s j 5)
      (entry_number s l i 1 + entry_number s l i 3 + entry_number s l i 5) (link_shift s l j) (first_agree l j)
      (ballot_sum j lj ∙ ap (λ (x : ℕ). s.vote x % s.parameters.modulus) (sym (source_position l j ll lj)) ∙ sym (entry_sum l i ll ((position_perm l ll).below j lj)))
    where
      i : ℕ
      i = link_position s l j
