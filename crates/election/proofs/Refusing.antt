-- What is known where nothing is refused.
use mathlib.Core.Path.{◌≡◌, sym}
use mathlib.Core.List.{List}
use Prim.Native.Nat.{ℕ, ◌+◌}
use Rattle.laws.specs.Faults.{rules}
use Rattle.protocol.specs.Layout.{part_one_length}
use Rattle.protocol.specs.Inputs.{Slices}
use Rattle.protocol.specs.Election.{Choice, election_mask, election_refusal}
use Rattle.protocol.proofs.Unrefused.{unrefused}
use Rattle.protocol.proofs.Whole.{mask_shape, election_iff}
use Rattle.mixing.specs.Passed.{Passed}
use Rattle.election.specs.Ready.{SecondReady, ThirdReady}

module _ (s : Slices) (by_mask : Choice ℕ) (dice₁ : List ℕ) (by_sides : Choice (List ℕ)) (dice₂ : List ℕ) (one_length two_length three_length joined_length : ℕ) where
  pub record Ready : Type 0 where
    pub passed : Passed s
    pub one_long : one_length ≡ part_one_length s.parameters
    pub second : SecondReady s by_mask dice₁ two_length
    pub third : ThirdReady s (election_mask s by_mask dice₁) by_sides dice₂ three_length
    pub joined_long : joined_length ≡ one_length + two_length + three_length

  pub ready : 0 ≡ election_refusal s by_mask dice₁ by_sides dice₂ one_length two_length three_length joined_length → Ready
  unfolding election_refusal
  ready h =
      let e = sym h in
      let u = unrefused s _ _ _ _ e in
      let p : Passed s = record { lengths = _; fair = _; shape = _; binary = _; tests = u } in
      let (d₁, (d₂, (each, (l₁, (l₂, (l₃, _)))))) = simp rules at u.lengths_due in
      record {
        passed = p;
        one_long = l₁;
        second = record { passed = p; dice_long = d₁; shape = u.right_shape; out_long = l₂ };
        third = record { passed = p; dice_long = d₂; shape = mask_shape s by_mask dice₁ u.right_shape; sides_long = each; binary = u.binary_sides; out_long = l₃ };
        joined_long = ((election_iff s by_mask dice₁ by_sides dice₂ one_length two_length three_length joined_length).0 e).joined;
      }

-- the same of the mask that was written
pub third_kept : {s : Slices} {by_sides : Choice (List ℕ)} {dice : List ℕ} {out_long : ℕ} {mask used : ℕ} → used ≡ mask → ThirdReady s mask by_sides dice out_long → ThirdReady s used by_sides dice out_long
third_kept e h = rw e h
