-- `mixing::ballot_numbers` meets its contract: what is lent is the ballot's part.
use Rattle.mixing.proofs.Following.{ballot_part}
use Rattle.mixing.proofs.ballot_numbers.Goals as goal

pub returns : goal.returns
returns c =
    let pre = rw (← c.s.view_is) at c.requires in
    rw (← c.s.view_is) (ballot_part _ c.args.j pre.0 pre.1)
