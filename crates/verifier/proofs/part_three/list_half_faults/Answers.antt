-- `verifier::part_three::list_half_faults` meets its contract: what is found in each list.
use Rattle.std.proofs.Common.{rules}
use Rattle.protocol.specs.declared.Due.TheVariants.{ListHalf}
use Rattle.protocol.specs.Judging.{found, if_compared, list_half_faults}
use Rattle.verifier.proofs.part_three.list_half_faults.Goals as goal

pub returns : goal.returns
unfolding list_half_faults
returns c = let r = c.args.r in rw (← c.lists.ensures.0) (c.each.ensures (λ l. if_compared r.parameters r.bytes.now l (found r.drawn r.parameters r.bytes.now (ListHalf l c.args.j))) (λ i result h post. search rules))
