-- A drawn mask has the right shape, whatever is drawn from, and a drawn side is 0 or 1.
use mathlib.Core.Path.{◌≡◌, refl, ap₂, ◌∙◌}
use mathlib.Core.Bool.{Bool, true, false}
use mathlib.Core.List.{List}
use Prim.Native.Nat.{ℕ, zero, suc, ◌+◌, ◌-◌, ◌*◌, ◌%◌, ◌^◌, ◌≤◌, ◌<◌}
use native.Mathlib.Nat.{mod-lt}
use native.Mathlib.Omega.{arith}
use lib.Count.{ones, ones_step}
use lib.Dec.{ltb}
use lib.ListN.{length}
use borrow.Author.Tests.{ltb-true, ltb-false}
use Rattle.laws.specs.Tests.{below}
use Rattle.laws.specs.Sums.{one_if}
use Rattle.laws.specs.Tables.{length_tabulate, get_tabulate}
use Rattle.protocol.specs.Terms.{item}
use Rattle.protocol.specs.Drawing.{list_hash, draw_from, drawn_mask, drawn_side, drawn_sides}
use Rattle.protocol.specs.Rules.{right_shape}
use Rattle.protocol.specs.Inputs.{Slices}
use Rattle.protocol.specs.Refusals.{binary_sides}
use Rattle.protocol.proofs.Unrefused.{shape_iff, binary_iff}

-- a lowest bit, put before a mask
one_more : (b x : ℕ) → b < 2 → ones (b + 2 * x) ≡ b + ones x
one_more b x l = ones_step (b + 2 * x) ∙ ap₂ (λ (p q : ℕ). p + ones q) (omega arith) (omega arith)

-- of k lists r are chosen
drawn_ones : (h : ℕ → ℕ) (k i r : ℕ) → r ≤ k → (ones (draw_from h i k r) ≡ r) × (draw_from h i k r < 2 ^ k)
unfolding draw_from below ones
drawn_ones h zero i r l = (omega arith, omega arith)
drawn_ones h (suc k) i r l = go (ltb (h i % suc k) r) refl (λ c. drawn_ones h k (suc i) (r - c))
  where
    go : (b : Bool) → ltb (h i % suc k) r ≡ b → ((c : ℕ) → r - c ≤ k → (ones (draw_from h (suc i) k (r - c)) ≡ r - c) × (draw_from h (suc i) k (r - c) < 2 ^ k))
        → (ones (one_if b + 2 * draw_from h (suc i) k (r - one_if b)) ≡ r) × (one_if b + 2 * draw_from h (suc i) k (r - one_if b) < 2 ^ suc k)
    go true e ih =
        let t = ih 1 (omega arith) in
        (one_more 1 (draw_from h (suc i) k (r - 1)) (omega arith) ∙ omega (arith, t.0, ltb-true (h i % suc k) r e), omega (arith, t.1))
    go false e ih =
        let t = ih 0 (omega (arith, ltb-false (h i % suc k) r e, mod-lt (h i) {m = suc k} (omega arith))) in
        (one_more 0 (draw_from h (suc i) k (r - 0)) (omega arith) ∙ omega (arith, t.0), omega (arith, t.1))

pub drawn_shape : (h : ℕ → ℕ) (m : ℕ) → (ones (draw_from h 0 (2 * m) m) ≡ m) × (draw_from h 0 (2 * m) m < 2 ^ (2 * m))
drawn_shape h m = drawn_ones h (2 * m) 0 m (omega arith)

pub drawn_mask_lem : (m : ℕ) (q : List ℕ) → right_shape m (drawn_mask m q) ≡ true
unfolding drawn_mask
drawn_mask_lem m q = (shape_iff m (drawn_mask m q)).1 (drawn_shape (list_hash q) m)

pub drawn_side_lem : (q : List ℕ) (j : ℕ) → drawn_side q j ≤ 1
unfolding drawn_side
drawn_side_lem q j = omega arith

pub length_drawn : (n : ℕ) (q : List ℕ) → length (drawn_sides n q) ≡ n
unfolding drawn_sides
length_drawn n q = length_tabulate (drawn_side q) n

pub item_drawn : (n : ℕ) (q : List ℕ) (j : ℕ) → j < n → item (drawn_sides n q) j ≡ drawn_side q j
unfolding drawn_sides
item_drawn n q j l = get_tabulate (drawn_side q) n j l

pub drawn_sides_lem : (s : Slices) (q : List ℕ) → binary_sides s (drawn_sides s.parameters.ballots q) ≡ true
drawn_sides_lem s q = (binary_iff s (drawn_sides s.parameters.ballots q)).1 (λ j l. rw (item_drawn s.parameters.ballots q j l) (drawn_side_lem q j))
