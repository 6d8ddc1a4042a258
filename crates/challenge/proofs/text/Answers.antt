-- `challenge::text` meets its contract: the dice, and the digits of the digest behind them.
use mathlib.Core.Path.{ap, ◌∙◌}
use mathlib.Core.List.{List, ◌++◌}
use Prim.Native.Nat.{ℕ}
use native.Mathlib.Omega.{arith}
use lib.ListN.{length-append}
use Rattle.laws.specs.Writing.{whole, go_on}
use Rattle.protocol.specs.Drawing.{hex_digits}
use Rattle.challenge.specs.Text.{text_from}
use Rattle.challenge.proofs.Digits.{hex_length}
use Rattle.challenge.proofs.text.Goals as goal

pub returns : goal.returns
unfolding text_from
returns c =
    let dice = c.args.dice.now in
    let h = c.finish.new.out in
    let all = go_on c.copy-next.ensures c.put_hex.ensures in
    whole all.wrote (omega (arith, length-append dice (hex_digits h), hex_length h))
    ∙ ap (λ (h : List ℕ). dice ++ hex_digits h) c.finish.ensures
