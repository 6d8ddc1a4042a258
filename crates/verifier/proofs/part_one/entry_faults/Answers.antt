-- `verifier::part_one::entry_faults` meets its contract: what is found of each entry.
use Rattle.std.proofs.Common.{rules}
use Rattle.protocol.specs.declared.Due.TheVariants.{Entry}
use Rattle.protocol.specs.Judging.{found, entry_faults}
use Rattle.verifier.proofs.part_one.entry_faults.Goals as goal

pub returns : goal.returns
unfolding entry_faults
returns c = let r = c.args.r in c.each.ensures (λ i. found r.drawn r.parameters r.bytes.now (Entry c.args.l i)) (λ i result h post. search rules)
