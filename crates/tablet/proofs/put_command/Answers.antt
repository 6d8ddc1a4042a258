-- `tablet::put_command` meets its contract: the ballot of the split is the command.
use mathlib.Core.Path.{sym, ◌∙◌}
use native.Mathlib.Omega.{arith}
use Rattle.laws.specs.Writing.{whole}
use Rattle.tablet.proofs.Ballot.{three_below, ballot_length, ballot_is}
use Rattle.tablet.proofs.put_command.Goals as goal

pub split-six-requires : goal.split-six-requires
split-six-requires c k l =
    (three_below _ _ _ (omega arith) (omega arith) (omega arith) k l, three_below _ _ _ (omega arith) (omega arith) (omega arith) k l)

pub put_ballot-requires : goal.put_ballot-requires
put_ballot-requires c = (c.requires.keys_long, omega arith)

pub returns : goal.returns
returns c =
    let s = c.args in
    whole c.put_ballot.ensures.wrote
    (ballot_length _ _ _ _ _ ∙ sym c.requires.command_long)
    ∙ ballot_is s.form s.modulus s.id s.cut.vote s.cut.x s.cut.y c.less_two-z.result s.cut.u1 s.cut.u2 s.cut.u3 c.split-six.result s.keys.now
    c.less_two-z.ensures.0 c.split-six.ensures
