-- `shares::split` meets its contract, half by half.
use native.Mathlib.Omega.{arith}
use Rattle.shares.proofs.Shares.{split_six}
use Rattle.shares.proofs.split.Goals as goal

pub minus-x-requires : goal.minus-x-requires
minus-x-requires c = c.requires 0 (omega arith)

pub minus-y-requires : goal.minus-y-requires
minus-y-requires c = c.requires 1 (omega arith)

pub minus-z-requires : goal.minus-z-requires
minus-z-requires c = c.requires 2 (omega arith)

pub returns : goal.returns
returns c = split_six _ c.args.value c.args.first c.minus-x.ensures c.minus-y.ensures c.minus-z.ensures (λ k lk. (c.requires k lk).1)
