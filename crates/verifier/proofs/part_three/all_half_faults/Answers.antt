-- `verifier::part_three::all_half_faults` meets its contract: what is found of each ballot.
use Rattle.std.proofs.Common.{rules}
use Rattle.protocol.specs.Judging.{half_faults}
use Rattle.verifier.proofs.part_three.all_half_faults.Goals as goal

pub returns : goal.returns
returns c = let r = c.args.r in c.each.ensures (half_faults r.drawn r.parameters r.bytes.now) (λ i result h post. search rules)
