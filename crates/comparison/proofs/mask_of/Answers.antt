-- `comparison::mask_of` meets its contract: nothing follows part one.
use mathlib.Core.Path.{ap, ◌∙◌}
use mathlib.Core.List.{append-nil}
use Rattle.protocol.specs.Drawing.{challenge, drawn_mask}
use Rattle.comparison.proofs.mask_of.Goals as goal

pub returns : goal.returns
returns c =
    let s = c.args in
    c.drawn_mask.ensures.0 ∙ ap (drawn_mask s.p.compared) (c.text_of-text.ensures ∙ ap (challenge s.dice.now) (append-nil s.one.now))
