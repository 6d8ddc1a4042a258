-- `verifier::part_one::list_faults` meets its contract: what is found in each list.
use Rattle.std.proofs.Common.{rules}
use Rattle.protocol.specs.Judging.{entry_faults}
use Rattle.verifier.proofs.part_one.list_faults.Goals as goal

pub returns : goal.returns
returns c = let r = c.args.r in rw (← c.lists.ensures.0) (c.each.ensures (entry_faults r.drawn r.parameters r.bytes.now) (λ i result h post. search rules))
