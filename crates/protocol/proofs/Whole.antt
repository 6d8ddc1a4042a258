-- An election's refusal is that of its three calls: it refuses nothing exactly if none of them does and its last buffer holds the record.
use mathlib.Core.Path.{◌≡◌, refl}
use mathlib.Core.Logic.{◌↔◌}
use mathlib.Core.Bool.{Bool, true}
use mathlib.Core.List.{List}
use Prim.Native.Nat.{ℕ, ◌+◌}
use native.Mathlib.Omega.{arith}
use lib.ListN.{length}
use Rattle.laws.specs.Tests.{◌and◌}
use Rattle.laws.specs.Faults.{rules}
use Rattle.protocol.specs.declared.Parameters.{Parameters}
use Rattle.protocol.specs.Layout.{record_length, part_one_length, part_two_length, part_three_length, at_first_dice, at_second_dice, at_ballot_half, at_vote, at_end}
use Rattle.protocol.specs.Drawing.{challenge}
use Rattle.protocol.specs.Rules.{fair_dice, right_shape}
use Rattle.protocol.specs.Inputs.{Slices}
use Rattle.protocol.specs.Refusals.{refusal, part_one_refusal, part_two_refusal, part_two_drawn_refusal, part_three_refusal, part_three_drawn_refusal}
use Rattle.protocol.specs.Servers.{first_part, mask_for}
use Rattle.protocol.specs.Election.{Choice, chosen, drawn, mask_by, second_refusal, third_refusal, election_mask, mask_in_shape, sides_due, sides_binary, election_refusal}
use Rattle.protocol.proofs.Drawing.{drawn_mask_lem}

-- the three parts make the record
pub parts_long : (p : Parameters) → record_length p ≡ part_one_length p + part_two_length p + part_three_length p
unfolding at_first_dice at_second_dice at_ballot_half at_vote at_end part_three_length
parts_long p = omega arith

-- a part's own tests beside those of every part
pub refusal_iff : (s : Slices) (lengths fair shape binary : Bool)
    → (refusal s lengths fair shape binary ≡ 0) ↔ ((refusal s true true true true ≡ 0) × ((lengths ≡ true) × ((fair ≡ true) × ((shape ≡ true) × (binary ≡ true)))))
unfolding refusal
refusal_iff s lengths fair shape binary = (
  λ e.
      let (limits, (due, (rise, (dice, (mask, (small, (sides, rest))))))) = simp rules at e in
      (simp rules (limits, ((due.0, refl), (rise, (refl, (refl, (small, (refl, rest))))))), (due.1, (dice, (mask, sides)))),
  λ (common, (l, (f, (h, b)))).
      let (limits, (due, (rise, (dice, (mask, (small, (sides, rest))))))) = simp rules at common in
      simp rules (limits, ((due.0, l), (rise, (f, (h, (small, (b, rest))))))),
)

module _ (s : Slices) where
  -- ---- each call's refusal, as its tests

  pub one_iff : (one_long : ℕ) → (part_one_refusal s one_long ≡ 0) ↔ ((refusal s true true true true ≡ 0) × (one_long ≡ part_one_length s.parameters))
  unfolding part_one_refusal
  one_iff one_long = (
    λ e. let t = (refusal_iff s _ _ _ _).0 e in (t.0, simp rules at t.1.0),
    λ (common, one). (refusal_iff s _ _ _ _).1 (common, (simp rules one, (refl, (refl, refl)))),
  )

  -- tests that an election makes of the second call, and of the third
  abbrev Second : Choice ℕ → List ℕ → ℕ → Type 0
  Second by_mask dice two_long =
      (length dice ≡ 30) × ((two_long ≡ part_two_length s.parameters) × ((fair_dice dice ≡ true) × (mask_in_shape s.parameters by_mask ≡ true)))

  second_iff : (by_mask : Choice ℕ) (dice : List ℕ) (one_long two_long : ℕ) → one_long ≡ part_one_length s.parameters
      → (second_refusal s by_mask dice one_long two_long ≡ 0) ↔ ((refusal s true true true true ≡ 0) × Second by_mask dice two_long)
  unfolding second_refusal part_two_refusal part_two_drawn_refusal mask_in_shape
  second_iff (chosen mask) dice one_long two_long one = (
    λ e. let (common, (long, (fair, (shape, _)))) = (refusal_iff s _ _ _ _).0 e in let h = simp rules at long in (common, (h.0, (h.1, (fair, shape)))),
    λ (common, (dice, (two, (fair, shape)))). (refusal_iff s _ _ _ _).1 (common, (simp rules (dice, two), (fair, (shape, refl)))),
  )
  second_iff drawn dice one_long two_long one = (
    λ e. let (common, (long, (fair, _))) = (refusal_iff s _ _ _ _).0 e in let h = simp rules at long in (common, (h.0, (h.1.1, (fair, refl)))),
    λ (common, (dice, (two, (fair, _)))). (refusal_iff s _ _ _ _).1 (common, (simp rules (dice, (one, two)), (fair, (refl, refl)))),
  )

  abbrev Third : Choice (List ℕ) → List ℕ → ℕ → Type 0
  Third by_sides dice three_long =
      (length dice ≡ 30) × ((sides_due s.parameters by_sides ≡ true) × ((three_long ≡ part_three_length s.parameters) × ((fair_dice dice ≡ true) × (sides_binary s by_sides ≡ true))))

  third_iff : (by_sides : Choice (List ℕ)) (dice : List ℕ) (mask one_long two_long three_long : ℕ) → one_long ≡ part_one_length s.parameters
      → two_long ≡ part_two_length s.parameters → right_shape s.parameters.compared mask ≡ true
      → (third_refusal s by_sides dice mask one_long two_long three_long ≡ 0) ↔ ((refusal s true true true true ≡ 0) × Third by_sides dice three_long)
  unfolding third_refusal part_three_refusal part_three_drawn_refusal sides_due sides_binary
  third_iff (chosen sides) dice mask one_long two_long three_long one two shape = (
    λ e.
        let (common, (long, (fair, (_, binary)))) = (refusal_iff s _ _ _ _).0 e in
        let h = simp rules at long in
        (common, (h.0, (simp rules h.1.0, (h.1.1, (fair, binary))))),
    λ (common, (dice, (each, (three, (fair, binary))))). (refusal_iff s _ _ _ _).1 (common, (simp rules (dice, (simp rules at each, three)), (fair, (shape, binary)))),
  )
  third_iff drawn dice mask one_long two_long three_long one two shape = (
    λ e.
        let (common, (long, (fair, _))) = (refusal_iff s _ _ _ _).0 e in
        let h = simp rules at long in
        (common, (h.0, (refl, (h.1.1.1, (fair, refl))))),
    λ (common, (dice, (_, (three, (fair, _))))). (refusal_iff s _ _ _ _).1 (common, (simp rules (dice, (one, (two, three))), (fair, (shape, refl)))),
  )

  -- the mask, given or drawn, has its shape
  pub mask_shape : (by_mask : Choice ℕ) (dice : List ℕ) → mask_in_shape s.parameters by_mask ≡ true → right_shape s.parameters.compared (election_mask s by_mask dice) ≡ true
  unfolding mask_in_shape election_mask mask_by mask_for
  mask_shape (chosen mask) dice shape = shape
  mask_shape drawn dice shape = drawn_mask_lem s.parameters.compared (challenge dice (first_part s))

  module _ (by_mask : Choice ℕ) (dice₁ : List ℕ) (by_sides : Choice (List ℕ)) (dice₂ : List ℕ) (one_long two_long three_long joined_long : ℕ) where
    -- none of the three calls refuses, and the last buffer holds what they write
    pub record Calls : Type 0 where
      pub one : part_one_refusal s one_long ≡ 0
      pub two : second_refusal s by_mask dice₁ one_long two_long ≡ 0
      pub three : third_refusal s by_sides dice₂ (election_mask s by_mask dice₁) one_long two_long three_long ≡ 0
      pub joined : joined_long ≡ one_long + two_long + three_long

    pub election_iff : (election_refusal s by_mask dice₁ by_sides dice₂ one_long two_long three_long joined_long ≡ 0) ↔ Calls
    unfolding election_refusal
    election_iff = (there, back)
      where
        there : election_refusal s by_mask dice₁ by_sides dice₂ one_long two_long three_long joined_long ≡ 0 → Calls
        there e =
            let (common, (long, (fair, (shape, binary)))) = (refusal_iff s _ _ _ _).0 e in
            let (d₁, (d₂, (each, (l₁, (l₂, (l₃, l)))))) = simp rules at long in
            let (f₁, f₂) = simp rules at fair in
            record {
              one = (one_iff one_long).1 (common, l₁);
              two = (second_iff by_mask dice₁ one_long two_long l₁).1 (common, (d₁, (l₂, (f₁, shape))));
              three = (third_iff by_sides dice₂ _ one_long two_long three_long l₁ l₂ (mask_shape by_mask dice₁ shape)).1 (common, (d₂, (each, (l₃, (f₂, binary)))));
              joined = omega (arith, parts_long s.parameters, l₁, l₂, l₃, l);
            }

        back : Calls → election_refusal s by_mask dice₁ by_sides dice₂ one_long two_long three_long joined_long ≡ 0
        back h =
            let (common, l₁) = (one_iff one_long).0 h.one in
            let (_, (d₁, (l₂, (f₁, shape)))) = (second_iff by_mask dice₁ one_long two_long l₁).0 h.two in
            let (_, (d₂, (each, (l₃, (f₂, binary))))) = (third_iff by_sides dice₂ _ one_long two_long three_long l₁ l₂ (mask_shape by_mask dice₁ shape)).0 h.three in
            (refusal_iff s _ _ _ _).1
            (common, (simp rules (d₁, (d₂, (each, (l₁, (l₂, (l₃, omega (arith, parts_long s.parameters, h.joined))))))), (simp rules (f₁, f₂), (shape, binary))))
