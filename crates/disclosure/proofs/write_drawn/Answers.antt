-- `disclosure::write_drawn` meets its contract: whatever sides are drawn, the part is ready to be written with them.
use mathlib.Core.Path.{◌≡◌, ap, ◌∙◌}
use mathlib.Core.List.{List, ◌++◌}
use Prim.Native.Nat.{ℕ}
use lib.ListN.{length}
use Rattle.protocol.specs.Drawing.{drawn_sides, challenge}
use Rattle.protocol.specs.Servers.{third_part, sides_for}
use Rattle.disclosure.proofs.Unrefused.{drawn}
use Rattle.disclosure.proofs.write_drawn.Goals as goal
use Rattle.disclosure.proofs.write_drawn.Goals.{Start}

-- what the sides are drawn from
abbrev text : Start → List ℕ
text c = challenge c.args.dice.now (c.args.one.now ++ c.args.two.now)

-- one side for each ballot
as_many : (v : List ℕ) (n k : ℕ) (q : List ℕ) → v ≡ drawn_sides k q → k ≡ n → v ≡ drawn_sides n q
as_many v n k q e h = e ∙ ap (λ (x : ℕ). drawn_sides x q) h

pub write-requires : goal.write-requires
write-requires c =
    drawn c.args.s.now c.args.dice.now c.args.mask _ _ (text (goal.at.write-requires c).Start) c.requires.0 (as_many _ c.args.s.now.parameters.ballots (length c.args.sides.now) (text (goal.at.write-requires c).Start) c.fill_sides.ensures c.requires.1)

pub returns : goal.returns
unfolding sides_for
returns c =
    c.write.ensures
    ∙ ap (third_part c.args.s.now c.args.dice.now c.args.mask) (as_many _ c.args.s.now.parameters.ballots (length c.args.sides.now) (text (goal.at.returns c).Start) c.fill_sides.ensures c.requires.1)
