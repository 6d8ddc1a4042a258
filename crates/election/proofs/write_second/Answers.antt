-- `election::write_second` meets its contract: the mask, given or drawn, has its shape.
use mathlib.Core.Path.{◌≡◌, ap, ◌∙◌}
use mathlib.Core.Bool.{true}
use mathlib.Core.List.{List}
use Prim.Native.Nat.{ℕ}
use native.Mathlib.Omega.{arith}
use Rattle.protocol.specs.Drawing.{challenge, drawn_mask}
use Rattle.protocol.specs.Rules.{right_shape}
use Rattle.protocol.specs.Inputs.{Slices}
use Rattle.protocol.specs.Servers.{second_part}
use Rattle.protocol.specs.Election.{mask_by}
use Rattle.protocol.proofs.Drawing.{drawn_mask_lem}
use Rattle.mixing.proofs.Agreement.{compared_same}
use Rattle.protocol.specs.Election.{choice_in}
use Rattle.election.proofs.Writing.{mask_given, mask_drawn, shape_given}
use Rattle.election.proofs.write_second.Goals as goal
use Rattle.election.proofs.write_second.Goals.{Joined-mask, in-Some, in-None}

-- a drawn mask, as the value of the inputs has it
drawn_is : (s : Slices) {compared r : ℕ} (q : List ℕ) → compared ≡ s.parameters.compared → r ≡ drawn_mask compared q
    → (r ≡ drawn_mask s.parameters.compared q) × (right_shape s.parameters.compared r ≡ true)
drawn_is s q e m =
    let here = m ∙ ap (λ (k : ℕ). drawn_mask k q) e in
    (here, rw here (drawn_mask_lem _ _))

-- the mask that is used, and its shape
used : (c : Joined-mask) → let s = c.args.s.now in
    (c.match-mask.used ≡ mask_by s (choice_in c.args.mask) c.args.dice.now c.args.one.now)
    × (right_shape s.parameters.compared c.match-mask.used ≡ true)
used c =
    let s = c.args.s.now in
    let q = challenge c.args.dice.now c.args.one.now in
    elim c.match-mask.branch [
      | in-Some w ↦ (
        mask_given s _ _ w.in-Some.is w.used-is,
        rw w.used-is (shape_given s c.args.dice.now c.args.one.now w.in-Some.is c.requires.shape),
      )
      | in-None w ↦
          let h = drawn_is s q (compared_same c.s.view_is) (w.used-is ∙ w.mask_of-used.ensures) in
          (mask_drawn s _ _ w.in-None.is h.0, h.1)
    ]

pub mask_of-used-requires : goal.mask_of-used-requires
mask_of-used-requires c = (omega (arith, compared_same c.s.view_is, c.requires.passed.tests.compared_high), c.requires.dice_long)

pub write-requires : goal.write-requires
write-requires c =
    let ready = c.requires in
    (ready.passed, (ready.dice_long, ((used (goal.at.write-requires c).Joined-mask).1, ready.out_long)))

pub returns : goal.returns
returns c =
    let h = (used (goal.at.returns c).Joined-mask).0 in
    (h, c.write.ensures ∙ ap (second_part c.args.s.now c.args.dice.now) h)
