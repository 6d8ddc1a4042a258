-- `disclosure::fill_sides` meets its contract. The loop: the first j sides are written.
use mathlib.Core.Path.{refl, ap, ◌∙◌}
use mathlib.Core.List.{List}
use Prim.Native.Nat.{ℕ}
use native.Mathlib.Omega.{arith}
use lib.ListN.{length}
use Rattle.laws.specs.Tables.{tabulate, none_filled, one_filled, all_filled}
use Rattle.protocol.specs.Drawing.{drawn_sides, drawn_side}
use Rattle.disclosure.proofs.fill_sides.Goals as goal

pub loop-j-init : goal.loop-j-init
loop-j-init c = none_filled _ _

pub loop-j-preserved : goal.loop-j-preserved
loop-j-preserved c =
    let g = c.loop-j in
    one_filled _ g.invariant (omega arith) c.drawn_side.ensures.0

pub returns : goal.returns
unfolding drawn_sides
returns c =
    let s = c.args in
    let g = c.loop-j in
    all_filled (length s.out.now) g.invariant (omega arith) refl ∙ ap (λ (q : List ℕ). tabulate (drawn_side q) (length s.out.now)) c.text_of-text.ensures
