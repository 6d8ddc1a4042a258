-- `halves::put_halves_of` meets its contract: the ballot's half, and behind it those of the linked entries.
use native.Mathlib.Omega.{arith}
use Rattle.laws.specs.Writing.{go_on, go_same}
use Rattle.protocol.specs.Record.{halves}
use Rattle.protocol.specs.Servers.{posted_disclosure}
use Rattle.mixing.proofs.Agreement.{votes, numbers}
use Rattle.disclosure.proofs.Openings.{keys_same, ballot_half_is, ballot_half_long}
use Rattle.disclosure.proofs.halves.put_halves_of.Goals as goal
use Rattle.disclosure.proofs.halves.put_halves_of.Goals.{Start}

pub ballot-six-requires : goal.ballot-six-requires
ballot-six-requires c =
    let s = c.args.s.now in
    let u = c.requires.0.passed.tests in (votes s u, (numbers s u, c.requires.1.1.0))

pub put_linked-requires : goal.put_linked-requires
put_linked-requires c =
    let s = c.args.s.now in
    let lj = c.requires.1.1.0 in
    let ls = c.requires.1.1.1.0 in
    let half = go_same c.put_ballot_half-next.ensures (ballot_half_is s c.requires.0.passed _ c.args.j c.args.side (keys_same c.s.view_is) ls c.ballot-six.ensures) in
    (c.requires.0, (c.requires.1.0, (lj, (ls, omega (arith, half.to, half.wrote.long, ballot_half_long s c.requires.0.passed c.args.j c.args.side lj ls)))))

pub returns : goal.returns
unfolding halves posted_disclosure
returns c =
    let half = go_same c.put_ballot_half-next.ensures (ballot_half_is c.args.s.now c.requires.0.passed _ c.args.j c.args.side (keys_same c.s.view_is) c.requires.1.1.1.0 c.ballot-six.ensures) in
    go_on half c.put_linked.ensures
