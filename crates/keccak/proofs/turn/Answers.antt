-- Two shifts are the rotation, at 0 too.
use native.Mathlib.Omega.{arith}
use borrow.Author.Rules.{rules}
use Rattle.keccak.proofs.Numbers.{turn_is}
use Rattle.keccak.proofs.turn.Goals as goal

pub returns : goal.returns
returns c = turn_is c.args.x c.args.k (omega arith) c.requires
