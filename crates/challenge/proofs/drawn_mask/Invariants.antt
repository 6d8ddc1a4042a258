-- `challenge::drawn_mask` meets its contract. The loop: the mask so far, with what is drawn of the lists behind, is the mask.
use Rattle.protocol.specs.Drawing.{list_hash, drawn_mask}
use Rattle.challenge.proofs.Draws.{Drawing}
use Rattle.challenge.proofs.drawn_mask.Given as goal

abbrev pub invariant-loop-i : goal.invariant-loop-i
invariant-loop-i l = Drawing (list_hash l.q) l.lists l.compared (drawn_mask l.compared l.q) l.i l.left l.mask
