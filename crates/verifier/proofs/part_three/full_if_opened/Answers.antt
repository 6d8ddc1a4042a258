-- `verifier::part_three::full_if_opened` meets its contract: by the list's bit of the mask.
use native.Mathlib.Omega.{arith}
use Rattle.laws.specs.Masks.{bit_clear}
use Rattle.verifier.proofs.Stages.{opened_go, opened_pass, bit_is, bit_not}
use Rattle.verifier.proofs.Known.{mask_there}
use Rattle.verifier.proofs.part_three.full_if_opened.Goals as goal

pub mask-mask-requires : goal.mask-mask-requires
mask-mask-requires c = mask_there c.requires.0.dice

pub returns-then-mask-l-eq1 : goal.returns-then-mask-l-eq1
returns-then-mask-l-eq1 c = opened_pass _ _ _ _ (λ z. omega (arith, bit_is c.args.l c.mask-mask.ensures c.if-mask-l-eq1.true))

pub returns : goal.returns
returns c =
    let l = c.args.l in
    opened_go _ _ _ _ (bit_clear _ l (bit_not l c.mask-mask.ensures c.if-mask-l-eq1.false)) c.full_faults.ensures
