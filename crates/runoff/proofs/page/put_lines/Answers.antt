-- `runoff::page::put_lines` meets its contract: the header, the rounds with the winner, and what is counted apart, one behind the other.
use native.Mathlib.Omega.{arith}
use Rattle.laws.specs.Counting.{many_most}
use Rattle.laws.specs.Writing.{go_on}
use Rattle.runoff.specs.Ranking.{blank, spoiled}
use Rattle.runoff.specs.Rounds.{blank_votes, spoiled_votes}
use Rattle.runoff.specs.Page.{blank_word, spoiled_word, count_line, runoff_lines}
use Rattle.runoff.proofs.Lines.{room_behind, written_as, header_line_length, count_line_length}
use Rattle.runoff.proofs.RoundLines.{rounds_length}
use Rattle.runoff.proofs.page.put_lines.Goals as goal

pub put_rounds-counted-requires : goal.put_rounds-counted-requires
put_rounds-counted-requires c =
    record {
      few = c.requires.few;
      small = c.requires.small;
      room = room_behind 144 1440 c.put_header-header.ensures (header_line_length c.args.candidates c.requires.few) (omega (arith, c.requires.room));
    }

-- ---- what is counted apart is no more than there are votes

pub overflow_cast-blank_votes : goal.overflow_cast-blank_votes
unfolding blank_votes
overflow_cast-blank_votes c =
    omega (arith, c.blank_votes.ensures, many_most blank c.args.votes.now, c.requires.small)

pub overflow_cast-spoiled_votes : goal.overflow_cast-spoiled_votes
unfolding spoiled_votes
overflow_cast-spoiled_votes c =
    omega (arith, c.spoiled_votes.ensures, many_most (spoiled c.args.candidates) c.args.votes.now, c.requires.small)

pub put_count-blank-requires : goal.put_count-blank-requires
put_count-blank-requires c = (
  room_behind 1440 144 c.put_rounds-counted.ensures (rounds_length c.args.candidates c.args.votes.now c.requires.few _)
      (room_behind 144 1584 c.put_header-header.ensures (header_line_length c.args.candidates c.requires.few) (omega (arith, c.requires.room))),
  omega arith,
)

pub put_count-requires : goal.put_count-requires
put_count-requires c = (
  room_behind 144 144 c.put_count-blank.ensures (count_line_length blank_word _ (omega arith))
      (room_behind 1440 288 c.put_rounds-counted.ensures (rounds_length c.args.candidates c.args.votes.now c.requires.few _)
      (room_behind 144 1728 c.put_header-header.ensures (header_line_length c.args.candidates c.requires.few) (omega (arith, c.requires.room)))),
  omega arith,
)

pub returns : goal.returns
unfolding runoff_lines
returns c =
    go_on (go_on c.put_header-header.ensures c.put_rounds-counted.ensures)
    (go_on (written_as (count_line blank_word) c.put_count-blank.ensures c.blank_votes.ensures)
    (written_as (count_line spoiled_word) c.put_count.ensures c.spoiled_votes.ensures))
