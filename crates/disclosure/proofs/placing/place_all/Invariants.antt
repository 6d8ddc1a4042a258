-- `placing::place_all` meets its contract. The loop: the places of the compared lists among the first l are filled in.
use Rattle.disclosure.specs.Disclosed.{Placed}
use Rattle.disclosure.proofs.placing.place_all.Given as goal

abbrev pub invariant-loop-l : goal.invariant-loop-l
invariant-loop-l l = Placed l.s l.mask l.l l.places
