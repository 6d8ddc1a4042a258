-- `layout::mask` meets its contract: the mask stands behind command byte and dice.
use mathlib.Core.Path.{◌∙◌, ap}
use Prim.Native.Nat.{ℕ, ◌+◌}
use Rattle.laws.specs.Bytes.{number}
use Rattle.protocol.specs.Record.{mask_of}
use Rattle.layout.proofs.mask.Goals as goal

pub returns : goal.returns
unfolding mask_of
returns c =
    c.read4.ensures.0 ∙ ap (λ (a : ℕ). number c.args.bytes.now (a + 31) 4) c.at_first_dice.ensures.0
