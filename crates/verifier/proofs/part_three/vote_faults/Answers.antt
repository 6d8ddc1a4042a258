-- `verifier::part_three::vote_faults` meets its contract: what is found of each vote.
use Rattle.std.proofs.Common.{rules}
use Rattle.protocol.specs.declared.Due.TheVariants.{Vote}
use Rattle.protocol.specs.Judging.{found, vote_faults}
use Rattle.verifier.proofs.part_three.vote_faults.Goals as goal

pub returns : goal.returns
unfolding vote_faults
returns c = let r = c.args.r in c.each.ensures (λ i. found r.drawn r.parameters r.bytes.now (Vote i)) (λ i result h post. search rules)
