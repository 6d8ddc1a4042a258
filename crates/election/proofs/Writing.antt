-- The parts by the switches, each written on what the ones before left, and the three joined.
use mathlib.Core.Path.{◌≡◌, ap, ◌∙◌}
use mathlib.Core.Bool.{true}
use Rattle.std.specs.Prelude.{Option, Some, None}
use denote.Ref.{Bor}
use mathlib.Core.List.{List, ◌++◌, append_assoc}
use Prim.Native.Nat.{ℕ, ◌+◌}
use native.Mathlib.Omega.{arith}
use lib.ListN.{length, length-append}
use Rattle.laws.specs.Tests.{equal_iff}
use Rattle.laws.specs.Writing.{Went, go_on, go_same, whole}
use Rattle.protocol.specs.Rules.{right_shape}
use Rattle.protocol.specs.Drawing.{challenge, drawn_mask}
use Rattle.protocol.specs.Inputs.{Slices}
use Rattle.protocol.specs.Refusals.{binary_sides}
use Rattle.protocol.specs.Servers.{first_part, second_part, mask_for, third_part, sides_for}
use Rattle.protocol.specs.Election.{Choice, mask_in_shape, sides_due, sides_binary, mask_by, sides_by, election_mask, election_two, election_sides, election_three, election_record}
use Rattle.protocol.specs.Election.{choice_in, sides_lent}
use Rattle.election.specs.Holding.{Lent, buffers, parts_of}

-- ---- given, or drawn

module _ (s : Slices) (dice one : List ℕ) {m : Option ℕ} where
  -- the mask that part two is written with
  pub mask_given : {x r : ℕ} → m ≡ Some x → r ≡ x → r ≡ mask_by s (choice_in m) dice one
  unfolding mask_by
  mask_given is e = rw is e

  pub mask_drawn : {r : ℕ} → m ≡ None → r ≡ drawn_mask s.parameters.compared (challenge dice one) → r ≡ mask_by s (choice_in m) dice one
  unfolding mask_by mask_for
  mask_drawn is e = rw is e

  pub shape_given : {x : ℕ} → m ≡ Some x → mask_in_shape s.parameters (choice_in m) ≡ true → right_shape s.parameters.compared x ≡ true
  unfolding mask_in_shape
  shape_given is h = rw is at h

module _ (s : Slices) (dice one two : List ℕ) {m : Option (Bor (List ℕ))} where
  -- the sides that part three is written with
  pub sides_given : (mask : ℕ) {x : Bor (List ℕ)} {after : List ℕ} → m ≡ Some x → after ≡ third_part s dice mask x.now
      → after ≡ third_part s dice mask (sides_by s (sides_lent m) dice one two)
  unfolding sides_by
  sides_given mask is e = rw is e

  pub sides_drawn : (mask : ℕ) {after : List ℕ} → m ≡ None → after ≡ third_part s dice mask (sides_for s dice one two)
      → after ≡ third_part s dice mask (sides_by s (sides_lent m) dice one two)
  unfolding sides_by
  sides_drawn mask is e = rw is e

module _ (s : Slices) {m : Option (Bor (List ℕ))} {x : Bor (List ℕ)} (is : m ≡ Some x) where
  pub long_given : sides_due s.parameters (sides_lent m) ≡ true → length x.now ≡ s.parameters.ballots
  unfolding sides_due
  long_given h = (equal_iff _ _).0 (rw is at h)

  pub binary_given : sides_binary s (sides_lent m) ≡ true → binary_sides s x.now ≡ true
  unfolding sides_binary
  binary_given h = rw is at h

-- ---- the three buffers

pub joined : {l₀ l₁ l₂ l₃ one two three : List ℕ} {a b c : ℕ} → Went l₀ 0 one l₁ a → Went l₁ a two l₂ b → Went l₂ b three l₃ c
    → length l₀ ≡ length one + length two + length three → l₃ ≡ one ++ (two ++ three)
joined {one = one} {two = two} {three = three} x y z long =
    let all = go_same (go_on (go_on x y) z) (append_assoc one two three) in
    whole all.wrote (simp length-append (omega arith))

pub mask_written : (s : Slices) (by_mask : Choice ℕ) (dice : List ℕ) {one : List ℕ} {used : ℕ} → one ≡ first_part s → used ≡ mask_by s by_mask dice one → used ≡ election_mask s by_mask dice
unfolding election_mask
mask_written s by_mask dice e m = m ∙ ap (mask_by s by_mask dice) e

-- each call on what the one before left
pub election : (e : Lent) {one two three all : List ℕ} {used : ℕ} → one ≡ first_part e.slices
    → (used ≡ mask_by e.slices e.mask e.first_dice one) × (two ≡ second_part e.slices e.first_dice (mask_by e.slices e.mask e.first_dice one))
    → three ≡ third_part e.slices e.second_dice used (sides_by e.slices e.sides e.second_dice one two) → all ≡ one ++ (two ++ three)
    → buffers one two three all ≡ parts_of e
unfolding election_mask election_two election_sides election_three election_record
election e {one} {two} {three} {all} e₁ (m, e₂) e₃ e₄ =
    let p₂ : two ≡ election_two e.slices e.mask e.first_dice = e₂ ∙ ap (λ (x : List ℕ). second_part e.slices e.first_dice (mask_by e.slices e.mask e.first_dice x)) e₁ in
    let p₃ : three ≡ election_three e.slices e.mask e.first_dice e.sides e.second_dice = rw (m, p₂, e₁) at e₃ in
    let p : all ≡ election_record e.slices e.mask e.first_dice e.sides e.second_dice = rw (e₁, p₂, p₃) at e₄ in
    rw (e₁, p₂, p₃, p)
