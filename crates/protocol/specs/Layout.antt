-- Document 01, "The record": each command's byte, width and place. Places follow from the parameters and, for the lists that are
-- compared or opened, from how many such lists come before.
use Rattle.std.specs.Prelude.{ℕ, ◌+◌, ◌*◌}
use Rattle.protocol.specs.declared.Form.{Form}
use Rattle.protocol.specs.declared.Form.TheVariants.{Unnumbered, Numbered}
use Rattle.protocol.specs.declared.Parameters.{Parameters}
use Rattle.protocol.specs.declared.Due.{Due}
use Rattle.protocol.specs.declared.Due.TheVariants.{First, Ballot, Entry, FirstDice, Link, SecondDice, BallotHalf, ListHalf, Vote, FullOpening, End}

-- "01 parameters", or by document 02, item 4: "Command 0C (hexadecimal) may stand first in place of 01"
unfoldable pub first_code : Form → ℕ
first_code Unnumbered = 0x01
first_code (Numbered election) = 0x0C

-- ".. election number 4, any value, then M, n, m as in 01": how many bytes the number takes, by which such a record is longer
unfoldable pub number_width : Form → ℕ
number_width Unnumbered = 0
number_width (Numbered election) = 4

-- "01 parameters: M 4, n 2, m 1.", behind the number where there is one: the first command's width
abbrev pub first_width : Parameters → ℕ
first_width p = 8 + number_width p.form

-- "A command is one byte with operands of fixed widths."
abbrev pub code : Parameters → Due → ℕ
code p First = first_code p.form
code p (Ballot j) = 0x02
code p (Entry l i) = 0x03
code p FirstDice = 0x04
code p (Link l j) = 0x05
code p SecondDice = 0x06
code p (BallotHalf j) = 0x07
code p (ListHalf l j) = 0x08
code p (Vote i) = 0x09
code p (FullOpening l i) = 0x0A
code p End = 0x0B

-- the command byte and its operands
abbrev pub width : Parameters → Due → ℕ
width p First = first_width p
width p (Ballot j) = 197
width p (Entry l i) = 196
width p FirstDice = 35
width p (Link l j) = 10
width p SecondDice = 31
width p (BallotHalf j) = 112
width p (ListHalf l j) = 112
width p (Vote i) = 7
width p (FullOpening l i) = 220
width p End = 1

module _ (p : Parameters) where
  -- "There are 2m lists"
  abbrev pub lists : ℕ
  lists = 2 * p.compared

  -- "02 ballot, n times"
  unfoldable pub at_ballot : ℕ → ℕ
  at_ballot j = first_width p + 197 * j

  -- "03 list entry, lists then positions rising"
  unfoldable pub at_entry : ℕ → ℕ → ℕ
  at_entry l i = first_width p + 197 * p.ballots + 196 * (l * p.ballots + i)

  -- "04 first dice"
  unfoldable pub at_first_dice : ℕ
  at_first_dice = first_width p + 197 * p.ballots + 196 * (lists * p.ballots)

  -- "05 link, compared lists rising, ballots rising in each"; c compared lists come before
  unfoldable pub at_link : ℕ → ℕ → ℕ
  at_link c j = at_first_dice + 35 + 10 * (c * p.ballots + j)

  -- "06 second dice"
  unfoldable pub at_second_dice : ℕ
  at_second_dice = at_first_dice + 35 + 10 * (p.compared * p.ballots)

  -- "07 ballot half, ballots rising"
  unfoldable pub at_ballot_half : ℕ → ℕ
  at_ballot_half j = at_second_dice + 31 + 112 * (j * (p.compared + 1))

  -- "After each 07 there is for every compared list, rising, one 08"; c compared lists come before
  unfoldable pub at_list_half : ℕ → ℕ → ℕ
  at_list_half j c = at_ballot_half j + 112 + 112 * c

  -- "09 announced vote, n times"
  unfoldable pub at_vote : ℕ → ℕ
  at_vote i = at_ballot_half p.ballots + 7 * i

  -- "0A full opening, uncompared lists then positions rising"; c uncompared lists come before
  unfoldable pub at_full_opening : ℕ → ℕ → ℕ
  at_full_opening c i = at_vote p.ballots + 220 * (c * p.ballots + i)

  -- "0B end"
  unfoldable pub at_end : ℕ
  at_end = at_vote p.ballots + 220 * (p.compared * p.ballots)

  -- the whole record, and the servers' three parts: 01 or 0C to 03; 04 and 05; 06 to 0B
  abbrev pub record_length : ℕ
  record_length = at_end + 1

  abbrev pub part_one_length : ℕ
  part_one_length = at_first_dice

  abbrev pub part_two_length : ℕ
  part_two_length = 35 + 10 * (p.compared * p.ballots)

  unfoldable pub part_three_length : ℕ
  part_three_length = 32 + 119 * p.ballots + 332 * (p.compared * p.ballots)
