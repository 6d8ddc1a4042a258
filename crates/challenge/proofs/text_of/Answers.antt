-- `challenge::text_of` meets its contract: the sponge takes the two parts, one after the other.
use mathlib.Core.Path.{ap, ◌∙◌}
use mathlib.Core.List.{◌++◌}
use native.Mathlib.Omega.{arith}
use borrow.Author.Rules.{rules}
use Rattle.sha3.specs.declared.Sponge.{Sponge}
use Rattle.sha3.specs.Sha3.{absorb_bytes, empty}
use Rattle.challenge.specs.Text.{text_challenge, absorb_more}
use Rattle.challenge.proofs.text_of.Goals as goal

pub absorb-s-requires : goal.absorb-s-requires
unfolding empty
absorb-s-requires c = (search rules, rw c.start.ensures (omega arith))

pub returns : goal.returns
returns c =
    let args = c.args in
    let taken = c.absorb-s.ensures.0 ∙ ap (λ (s : Sponge). absorb_bytes 144 s args.one.now) c.start.ensures in
    c.text.ensures
    ∙ text_challenge args.dice.now (args.one.now ++ args.two.now) (c.absorb-t.ensures.0 ∙ absorb_more args.one.now args.two.now taken)
