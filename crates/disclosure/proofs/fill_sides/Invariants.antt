-- `disclosure::fill_sides` meets its contract. The loop: the first j sides are written.
use Rattle.laws.specs.Tables.{Filled}
use Rattle.protocol.specs.Drawing.{drawn_side}
use Rattle.disclosure.proofs.fill_sides.Given as goal

abbrev pub invariant-loop-j : goal.invariant-loop-j
invariant-loop-j l = Filled (drawn_side l.text) l.j l.initial.out l.out
