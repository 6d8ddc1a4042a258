-- `teller::put_votes` meets its contract: the first line, that of the election's number, and the lines of the votes that were read behind.
use mathlib.Core.Path.{ap}
use native.Mathlib.Omega.{arith}
use borrow.Author.Rules.{rules}
use Rattle.laws.specs.Writing.{go_on, go_same}
use Rattle.protocol.specs.Results.{accepted_lines}
use Rattle.results.proofs.Paging.{election_length}
use Rattle.runoff.specs.Page.{runoff_lines}
use Rattle.teller.proofs.put_votes.Goals as goal

pub put_lines-requires : goal.put_lines-requires
put_lines-requires c = record {
  few = c.requires.few;
  small = search rules;
  room =
      omega (
        arith,
        c.requires.room,
        election_length c.args.p.form,
        c.copy-at.ensures.to,
        c.copy-at.ensures.wrote.long,
        c.put_election-next.ensures.to,
        c.put_election-next.ensures.wrote.long,
      );
}

pub returns : goal.returns
unfolding accepted_lines
returns c =
    go_on (go_on c.copy-at.ensures c.put_election-next.ensures) (go_same c.put_lines.ensures (ap (runoff_lines _) c.read_votes.ensures))
