-- Where list l stands in the slices, and what is read there is what the protocol says of them.
use mathlib.Core.Path.{◌≡◌, refl, sym, ap, ap₂, ◌∙◌}
use mathlib.Core.List.{List, [], ◌∷◌}
use Prim.Native.Nat.{ℕ, zero, suc, ◌+◌, ◌-◌, ◌*◌, ◌/◌, ◌%◌, ◌≤◌, ◌<◌}
use native.Mathlib.Nat.{le_of_lt, mul-le-mul_right}
use native.Mathlib.Omega.{arith}
use native.Mathlib.Decide.{ℕ_discrete}
use lib.ListN.{length, set, take, drop}
use lib.Seq.{get_or-set_same, get_or-set_other}
use Rattle.laws.specs.Tests.{choose}
use Rattle.laws.specs.Bytes.{Below}
use Rattle.laws.specs.Chunks.{get_piece, length_piece}
use Rattle.laws.specs.Modular.{plus, minus, plus_below, third_of}
use Rattle.laws.specs.Permutations.{Perm, whence}
use Rattle.laws.proofs.Permutations.{perm_then, whence_of}
use Rattle.laws.specs.Writing.{part_is, part_length, row_within}
use Rattle.protocol.specs.declared.Parameters.{Parameters}
use Rattle.protocol.specs.Terms.{item, most_ballots}
use Rattle.protocol.specs.Tablet.{slot}
use Rattle.protocol.specs.Columns.{row, source}
use Rattle.protocol.specs.Layout.{lists}
use Rattle.protocol.specs.Inputs.{Slices, Inputs, ballot_numbers, list_numbers, list_permutations, inputs_of}
use Rattle.protocol.specs.Servers.{ballot_row, row_offset, column, mixed, source_of, entry_number, sum_of_halves}
use Rattle.protocol.proofs.Mixing.{rows_make_vote}
use Rattle.mixing.specs.Followed.{InList, Places, Numbers, three_at, sum_of_items}

-- ---- places

module _ {p : Parameters} {l : ℕ} (h : InList p l) where
  pub all_few : p.compared * p.ballots ≤ 12 * most_ballots
  all_few = omega (arith, mul-le-mul_right {m = p.compared} {n = 12} p.ballots h.few_lists, h.few)

  pub permutations_end : l * (3 * p.ballots) + 3 * p.ballots ≤ 6 * (p.compared * p.ballots)
  permutations_end = omega (arith, row_within l (2 * p.compared) (3 * p.ballots) h.list)

  pub numbers_end : 5 * p.ballots + l * (9 * p.ballots) + 9 * p.ballots ≤ 5 * p.ballots + 18 * (p.compared * p.ballots)
  numbers_end = omega (arith, row_within l (2 * p.compared) (9 * p.ballots) h.list)

  pub keys_end : (i : ℕ) → i < p.ballots → 192 * p.ballots + 192 * (l * p.ballots + i) + 192 ≤ 192 * p.ballots + 384 * (p.compared * p.ballots)
  keys_end i li = omega (arith, row_within l (2 * p.compared) p.ballots h.list)

-- ---- what is read

-- a part of numbers that is lent
module _ (M : ℕ) (l : List ℕ) (a w : ℕ) (small : Below M l) (h : a + w ≤ length l) where
  part_below : Below M (take (a + w - a) (drop a l))
  part_below =
      rw (part_is l a w)
      (λ i li. let inside : i < w = omega (arith, length_piece l a w h) in rw (get_piece l a w i inside) (small (a + i) (omega arith)))

module _ (s : Slices) where
  pub ballot_part : (j : ℕ) → Numbers s → j < s.parameters.ballots
      → (take (5 * j + 5 - 5 * j) (drop (5 * j) s.numbers) ≡ ballot_numbers s j)
      × ((length (take (5 * j + 5 - 5 * j) (drop (5 * j) s.numbers)) ≡ 5) × Below s.parameters.modulus (take (5 * j + 5 - 5 * j) (drop (5 * j) s.numbers)))
  unfolding ballot_numbers
  ballot_part j ns lj =
      let h : 5 * j + 5 ≤ length s.numbers = omega (arith, ns.long) in
      (part_is s.numbers (5 * j) 5, (part_length s.numbers (5 * j) 5 h, part_below s.parameters.modulus s.numbers (5 * j) 5 ns.small h))

  pub list_part : (l : ℕ) → Numbers s → InList s.parameters l
      → (let n = s.parameters.ballots in
      let at = 5 * n + l * (9 * n) in
      (take (at + 9 * n - at) (drop at s.numbers) ≡ list_numbers s l)
      × ((length (take (at + 9 * n - at) (drop at s.numbers)) ≡ 9 * n) × Below s.parameters.modulus (take (at + 9 * n - at) (drop at s.numbers))))
  unfolding list_numbers
  list_part l ns ll =
      let n = s.parameters.ballots in
      let at = 5 * n + l * (9 * n) in
      let h : at + 9 * n ≤ length s.numbers = omega (arith, ns.long, numbers_end ll) in
      (part_is s.numbers at (9 * n), (part_length s.numbers at (9 * n) h, part_below s.parameters.modulus s.numbers at (9 * n) ns.small h))

  pub permutations_part : (l : ℕ) → Places s → InList s.parameters l
      → (let n = s.parameters.ballots in
      let at = l * (3 * n) in
      (take (at + 3 * n - at) (drop at s.permutations) ≡ list_permutations s l) × (length (take (at + 3 * n - at) (drop at s.permutations)) ≡ 3 * n))
  unfolding list_permutations
  permutations_part l ps ll =
      let n = s.parameters.ballots in
      let at = l * (3 * n) in
      (part_is s.permutations at (3 * n), part_length s.permutations at (3 * n) (omega (arith, ps.long, permutations_end ll)))

  pub from_is : (l c i : ℕ) → Places s → l < lists s.parameters → c < 3 → i < s.parameters.ballots
      → (item (list_permutations s l) (c * s.parameters.ballots + i) ≡ (inputs_of s).permutation l c i)
      × (item (list_permutations s l) (c * s.parameters.ballots + i) < s.parameters.ballots)
  unfolding inputs_of
  from_is l c i ps ll lc li = (refl, (ps.perms l c ll lc).below i li)

  -- an offset that is given: row one's or row two's
  pub offset_is : (l c k i : ℕ) → k < 2 → item (list_numbers s l) (c * (2 * s.parameters.ballots) + (2 * i + k)) ≡ row_offset (inputs_of s) l c k i
  unfolding row_offset inputs_of
  offset_is l c zero i lk = refl
  offset_is l c (suc zero) i lk = refl
  offset_is l c (suc (suc k)) i lk = absurd (omega arith)

-- ---- the way back

module _ (s : Slices) (l i : ℕ) where
  -- a, b and j are the places met on it, x the share there
  pub mixed_is : (k : ℕ) {M a b j x o₀ y o₁ z o₂ r : ℕ} → M ≡ s.parameters.modulus
      → a ≡ (inputs_of s).permutation l 2 i → b ≡ (inputs_of s).permutation l 1 a → j ≡ (inputs_of s).permutation l 0 b
      → x ≡ ballot_row (inputs_of s) k j
      → o₀ ≡ row_offset (inputs_of s) l 0 k j → y ≡ plus M x o₀
      → o₁ ≡ row_offset (inputs_of s) l 1 k b → z ≡ plus M y o₁
      → o₂ ≡ row_offset (inputs_of s) l 2 k a → r ≡ plus M z o₂
      → r ≡ mixed (inputs_of s) l k i
  unfolding mixed column row inputs_of
  mixed_is k eM ea eb ej ex e₀ ey e₁ ez e₂ er = rw (er, e₂, ez, e₁, ey, e₀, ex, ej, eb, ea, eM)

  pub source_is : {a b j : ℕ} → a ≡ (inputs_of s).permutation l 2 i → b ≡ (inputs_of s).permutation l 1 a → j ≡ (inputs_of s).permutation l 0 b
      → j ≡ source_of (inputs_of s) l i
  unfolding source_of source
  source_is ea eb ej = rw (ej, eb, ea)

-- ---- the third row

mixed_below : (s : Inputs) (l k i : ℕ) → 0 < s.parameters.modulus → mixed s l k i < s.parameters.modulus
unfolding mixed column row
mixed_below s l k i pos = plus_below s.parameters.modulus _ _ pos

module _ (s : Slices) (l i : ℕ) (ns : Numbers s) (ps : Places s) (ll : InList s.parameters l) (li : i < s.parameters.ballots) where
  shares_small : (j : ℕ) → j < s.parameters.ballots → ((inputs_of s).x j ≤ s.parameters.modulus) × ((inputs_of s).y j ≤ s.parameters.modulus)
  unfolding inputs_of ballot_numbers
  shares_small j lj = (
    rw (get_piece s.numbers (5 * j) 5 0 (omega arith)) (le_of_lt (ns.small (5 * j + 0) (omega (arith, ns.long)))),
    rw (get_piece s.numbers (5 * j) 5 1 (omega arith)) (le_of_lt (ns.small (5 * j + 1) (omega (arith, ns.long)))),
  )

  offsets_small : (c k j : ℕ) → c < 3 → k < 2 → j < s.parameters.ballots → (inputs_of s).offset l c k j ≤ s.parameters.modulus
  unfolding inputs_of list_numbers
  offsets_small c k j lc lk lj =
      let n = s.parameters.ballots in
      let at = c * (2 * n) + (2 * j + k) in
      let end = row_within c 3 (2 * n) lc in
      rw (get_piece s.numbers (5 * n + l * (9 * n)) (9 * n) at (omega (arith, end)))
      (le_of_lt (ns.small (5 * n + l * (9 * n) + at) (omega (arith, end, ns.long, numbers_end ll))))

  places_small : (c j : ℕ) → c < 3 → j < s.parameters.ballots → (inputs_of s).permutation l c j < s.parameters.ballots
  places_small c j lc lj = (ps.perms l c ll.list lc).below j lj

  -- what the first two rows leave of the vote that is mixed to the place
  pub third_is : {x y z j : ℕ} → x ≡ mixed (inputs_of s) l 0 i → y ≡ mixed (inputs_of s) l 1 i
      → j ≡ source_of (inputs_of s) l i → z ≡ minus s.parameters.modulus (minus s.parameters.modulus (item s.votes j) x) y
      → z ≡ mixed (inputs_of s) l 2 i
  unfolding source_of source inputs_of
  third_is ex ey ej ez =
      rw (ez, ej, ex, ey)
      (third_of s.parameters.modulus _ _ _ _ (le_of_lt (mixed_below (inputs_of s) l 0 i ns.positive)) (le_of_lt (mixed_below (inputs_of s) l 1 i ns.positive)) (mixed_below (inputs_of s) l 2 i ns.positive)
      (rows_make_vote (inputs_of s) l shares_small offsets_small places_small i li))

-- ---- three numbers, each split by its first half

-- what holds of three holds of each
each : (P : ℕ → ℕ → Type 0) (a b c : ℕ) → P 0 a → P 1 b → P 2 c → (k : ℕ) → k < 3 → P k (item (a ∷ b ∷ c ∷ []) k)
each P a b c ha hb hc zero h = ha
each P a b c ha hb hc (suc zero) h = hb
each P a b c ha hb hc (suc (suc zero)) h = hc
each P a b c ha hb hc (suc (suc (suc k))) h = absurd (omega arith)

-- three first halves
pub halves_are : {M : ℕ} {first : List ℕ} (numbers : List ℕ) (at : ℕ) (g : ℕ → ℕ) → first ≡ three_at numbers at → Below M numbers → at + 3 ≤ length numbers
    → ((k : ℕ) → k < 3 → item numbers (at + k) ≡ g k) → (k : ℕ) → k < 3 → (item first k ≡ g k) × (item first k < M)
halves_are {M} numbers at g e small fits h k lk =
    rw e
    (each (λ k v. (v ≡ g k) × (v < M)) _ _ _
    (ap (item numbers) {x = at} {y = at + 0} (omega arith) ∙ h 0 (omega arith), small at (omega arith))
    (h 1 (omega arith), small (at + 1) (omega arith)) (h 2 (omega arith), small (at + 2) (omega arith)) k lk)

-- three shares and their first halves, all below M, and what is made of them
pub parts_below : {M N : ℕ} (x y z : ℕ) (first : List ℕ) (g : ℕ → ℕ) → N ≡ M → x < M → y < M → z < M
    → ((k : ℕ) → k < 3 → (item first k ≡ g k) × (item first k < M)) → (k : ℕ) → k < 3 → (item (x ∷ y ∷ z ∷ []) k < N) × (item first k < N)
parts_below {M} x y z first g e hx hy hz halves k lk = rw e (each (λ _ v. v < M) x y z hx hy hz k lk, (halves k lk).1)

pub split_is : {M N : ℕ} (x y z : ℕ) (first six : List ℕ) (f g : ℕ → ℕ) → N ≡ M → x ≡ f 0 → y ≡ f 1 → z ≡ f 2
    → ((k : ℕ) → k < 3 → (item first k ≡ g k) × (item first k < M))
    → ((q : ℕ) → q < 6 → (item six q ≡ slot N (item (x ∷ y ∷ z ∷ [])) (item first) q) × (item six q < N))
    → (q : ℕ) → q < 6 → (item six q ≡ slot M f g q) × (item six q < M)
unfolding slot
split_is {M} x y z first six f g e ex ey ez halves h q lq =
    let lk : q / 2 < 3 = omega arith in (
      (h q lq).0
          ∙ rw e
          (ap₂ (λ (x y : ℕ). choose (q % 2) y (minus M x y)) (each (λ k v. v ≡ f k) x y z ex ey ez (q / 2) lk) (halves (q / 2) lk).0),
      rw (← e) (h q lq).1,
    )

-- the first halves alone, each in its slot
pub first_halves : (s : Slices) (l i : ℕ) (first : List ℕ) (side : ℕ) → side ≡ 0 → ((k : ℕ) → k < 3 → (item first k ≡ (inputs_of s).entry_first_half l i k) × (item first k < s.parameters.modulus))
    → (k : ℕ) → k < 3 → item (item first 0 ∷ 0 ∷ item first 1 ∷ 0 ∷ item first 2 ∷ 0 ∷ []) (2 * k + side) ≡ entry_number (inputs_of s) l i (2 * k + side)
unfolding entry_number slot choose
first_halves s l i first side e halves k lk = rw e (go k lk)
  where
    go : (k : ℕ) → k < 3 → item (item first 0 ∷ 0 ∷ item first 1 ∷ 0 ∷ item first 2 ∷ 0 ∷ []) (2 * k + 0) ≡ entry_number (inputs_of s) l i (2 * k + 0)
    go zero lk = (halves 0 (omega arith)).0
    go (suc zero) lk = (halves 1 (omega arith)).0
    go (suc (suc zero)) lk = (halves 2 (omega arith)).0
    go (suc (suc (suc k))) lk = absurd (omega arith)

-- ---- links

-- three first halves, summed
sum_is : (s : Inputs) {M r : ℕ} (first : List ℕ) (g : ℕ → ℕ) → M ≡ s.parameters.modulus → ((k : ℕ) → k < 3 → (item first k ≡ g k) × (item first k < s.parameters.modulus))
    → r ≡ sum_of_items M first → r ≡ sum_of_halves s g
unfolding sum_of_halves
sum_is s first g e h er = rw (er, e, (h 0 (omega arith)).0, (h 1 (omega arith)).0, (h 2 (omega arith)).0)

pub shift_is : (s : Slices) (l j i : ℕ) {M x y r : ℕ} (a b : List ℕ) → M ≡ s.parameters.modulus
    → ((k : ℕ) → k < 3 → (item a k ≡ (inputs_of s).first_half j k) × (item a k < s.parameters.modulus))
    → ((k : ℕ) → k < 3 → (item b k ≡ (inputs_of s).entry_first_half l i k) × (item b k < s.parameters.modulus))
    → x ≡ sum_of_items M a → y ≡ sum_of_items M b → r ≡ minus M x y
    → r ≡ minus s.parameters.modulus (sum_of_halves (inputs_of s) ((inputs_of s).first_half j)) (sum_of_halves (inputs_of s) ((inputs_of s).entry_first_half l i))
unfolding inputs_of
shift_is s l j i a b e ha hb ex ey er =
    rw (er, sum_is (inputs_of s) a ((inputs_of s).first_half j) e ha ex, sum_is (inputs_of s) b ((inputs_of s).entry_first_half l i) e hb ey, e)

pub source_perm : {s : Slices} {l : ℕ} → Places s → l < lists s.parameters → Perm s.parameters.ballots (source_of (inputs_of s) l)
unfolding source_of source
source_perm {s} {l} h ll = perm_then (h.perms l 0 ll (omega arith)) (perm_then (h.perms l 1 ll (omega arith)) (h.perms l 2 ll (omega arith)))

module _ (n : ℕ) (f : ℕ → ℕ) (perm : Perm n f) where
  -- one place more
  pub one_placed : (out : List ℕ) (i j : ℕ) → i < n → length out ≡ n → j ≡ f i → ((x : ℕ) → x < i → item out (f x) ≡ x)
      → (x : ℕ) → x < i + 1 → item (set out j i) (f x) ≡ x
  one_placed out i j l long e h x lx = go (ℕ_discrete x i)
    where
      below : f i < length out
      below = omega (arith, perm.below i l)

      go : Dec (x ≡ i) → item (set out j i) (f x) ≡ x
      go (yes q) = rw (e, q) (get_or-set_same out (f i) i 0 below)
      go (no ne) = get_or-set_other out j (f x) i 0 (λ same. ne (perm.apart x i (omega arith) l (same ∙ e))) ∙ h x (omega arith)

  -- all of them
  pub all_placed : (out : List ℕ) (i : ℕ) → i ≡ n → ((x : ℕ) → x < i → item out (f x) ≡ x) → (j : ℕ) → j < n → item out j ≡ whence f j n
  all_placed out i e h j l =
      let (right, low) = whence_of n f perm j l in
      ap (item out) (sym right) ∙ h (whence f j n) (omega arith)
