-- `verifier::part_two::links_if_compared` meets its contract: by the list's bit of the mask.
use Rattle.verifier.proofs.Stages.{compared_go, compared_pass, bit_is, bit_not}
use Rattle.verifier.proofs.Known.{mask_there}
use Rattle.verifier.proofs.part_two.links_if_compared.Goals as goal

pub mask-mask-requires : goal.mask-mask-requires
mask-mask-requires c = mask_there c.requires.0

pub returns-then-mask-l-eq0 : goal.returns-then-mask-l-eq0
returns-then-mask-l-eq0 c = compared_pass _ _ _ _ (bit_is c.args.l c.mask-mask.ensures c.if-mask-l-eq0.true)

pub returns : goal.returns
returns c =
    compared_go _ _ _ _ (bit_not c.args.l c.mask-mask.ensures c.if-mask-l-eq0.false) c.link_faults.ensures
