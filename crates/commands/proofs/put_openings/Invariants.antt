-- `commands::put_openings` meets its contract. The loop: the first k openings are written.
use Prim.Native.Nat.{◌+◌, ◌*◌}
use Rattle.laws.specs.Chunks.{chunks}
use Rattle.laws.specs.Writing.{Went}
use Rattle.commands.specs.Openings.{opening_of}
use Rattle.commands.proofs.put_openings.Given as goal

abbrev pub invariant-loop-k : goal.invariant-loop-k
invariant-loop-k l = Went l.initial.out l.at (chunks (λ k. opening_of l.six l.keys (l.step * k + l.from)) l.k) l.out l.next
