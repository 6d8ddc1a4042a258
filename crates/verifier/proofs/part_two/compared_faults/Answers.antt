-- `verifier::part_two::compared_faults` meets its contract: what is found in each list.
use Rattle.std.proofs.Common.{rules}
use Rattle.protocol.specs.Judging.{if_compared, link_faults}
use Rattle.verifier.proofs.part_two.compared_faults.Goals as goal

pub returns : goal.returns
returns c = let r = c.args.r in rw (← c.lists.ensures.0) (c.each.ensures (λ l. if_compared r.parameters r.bytes.now l (link_faults r.drawn r.parameters r.bytes.now l)) (λ i result h post. search rules))
