-- There are never more numbers than there is room for.
use Rattle.std.proofs.Common.{◌≤◌, length}
use Rattle.calendar.proofs.read_numbers.Given as goal

abbrev pub invariant-loop-i : goal.invariant-loop-i
invariant-loop-i g l = l.n ≤ length l.room
