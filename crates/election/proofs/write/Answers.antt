-- `election::write` meets its contract: each part is lent what the parts before it left.
use native.Mathlib.Omega.{arith}
use Rattle.election.proofs.Refusing.{ready, third_kept}
use Rattle.election.proofs.Writing.{mask_written, election}
use Rattle.election.proofs.write.Goals as goal

pub write-requires : goal.write-requires
write-requires c = let r = ready _ _ _ _ _ _ _ _ _ c.requires in (r.passed, r.one_long)

pub write_second-used-requires : goal.write_second-used-requires
write_second-used-requires c = (ready _ _ _ _ _ _ _ _ _ c.requires).second

pub write_third-requires : goal.write_third-requires
write_third-requires c =
    third_kept (mask_written _ _ _ c.write.ensures c.write_second-used.ensures.0) (ready _ _ _ _ _ _ _ _ _ c.requires).third

pub join-requires : goal.join-requires
join-requires c = omega (arith, (ready _ _ _ _ _ _ _ _ _ c.requires).joined_long)

pub returns : goal.returns
returns c = election _ c.write.ensures c.write_second-used.ensures c.write_third.ensures c.join.ensures
