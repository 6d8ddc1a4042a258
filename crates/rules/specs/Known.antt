-- What a command's rules are told: what earlier commands have shown, and that the command is there and whole.
use Rattle.std.specs.Prelude.{◌≡◌, Bool, true, List, [], Option, None, Some, ℕ, suc, ◌+◌, ◌≤◌, ◌<◌, length, take}
use Rattle.std.specs.Borrow.{Bor}
use Rattle.laws.specs.Marks.{Marks}
use Rattle.laws.specs.Masks.{set_before}
use Rattle.protocol.specs.declared.Parameters.{Parameters}
use Rattle.protocol.specs.declared.Due.{Due}
use Rattle.protocol.specs.declared.Due.TheVariants.{First, Ballot, Entry, FirstDice, Link, SecondDice, BallotHalf, ListHalf, Vote, FullOpening, End}
use Rattle.protocol.specs.Terms.{most_ballots}
use Rattle.protocol.specs.Layout.{first_code, width, lists, at_first_dice, at_second_dice}
use Rattle.protocol.specs.Record.{form_of, first_dice_of, mask_of, position_of, shift_of, second_dice_of, side_of, ballot_opening_of, vote_of, full_opening_of}
use Rattle.protocol.specs.Drawing.{challenge}
use Rattle.protocol.specs.Rules.{numbers_below, place_of}
use Rattle.layout.specs.Bounds.{Few}

-- the text that the mask is drawn from, where the command is whole
pub record FirstDiceKnown (p : Parameters) (r : List ℕ) (drawn : Bool) (text : List ℕ) : Type 0 where
  pub few : p.compared ≤ 12
  pub text_is : drawn ≡ true → at_first_dice p + 35 ≤ length r → text ≡ challenge (first_dice_of p r) (take (at_first_dice p) r)

-- the row of marks of a compared list: which positions earlier links took
pub record LinkKnown (p : Parameters) (r : List ℕ) (l j : ℕ) (marks : List Bool) : Type 0 where
  pub few : p.ballots ≤ most_ballots
  pub long : length marks ≡ most_ballots
  pub marked : Marks most_ballots (position_of p r l) j marks

-- the text that the sides are drawn from
pub record BallotHalfKnown (p : Parameters) (r : List ℕ) (j : ℕ) (drawn : Bool) (text : List ℕ) : Type 0 where
  pub few : Few p
  pub ballot : j < p.ballots
  pub text_is : drawn ≡ true → text ≡ challenge (second_dice_of p r) (take (at_second_dice p) r)

-- the links and the ballot's half stand
pub record ListHalfKnown (p : Parameters) (r : List ℕ) (l j : ℕ) : Type 0 where
  pub few : Few p
  pub list : l < lists p
  pub ballot : j < p.ballots
  pub compared : set_before (mask_of p r) l < p.compared
  pub position : position_of p r l j < p.ballots
  pub shift : shift_of p r l j < p.modulus
  pub side : side_of p r j ≤ 1
  pub numbers : numbers_below p.modulus (ballot_opening_of p r j) 3 ≡ true

-- the votes rise, and the list's earlier openings stand
pub record FullKnown (p : Parameters) (r : List ℕ) (l i : ℕ) : Type 0 where
  pub few : Few p
  pub list : l < lists p
  pub position : i < p.ballots
  pub earlier : (k : ℕ) → k < i → numbers_below p.modulus (full_opening_of p r l k) 6 ≡ true
  pub votes : (k : ℕ) → suc k < p.ballots → vote_of p r k ≤ vote_of p r (suc k)

-- by the due command; the first goes by a form whose byte is that of the record's own, all others need nothing of earlier ones
abbrev pub Known : Parameters → List ℕ → Bool → List ℕ → List Bool → Due → Type 0
Known p r drawn text marks First = first_code p.form ≡ first_code (form_of r)
Known p r drawn text marks (Ballot j) = Unit {0}
Known p r drawn text marks (Entry l i) = Unit {0}
Known p r drawn text marks FirstDice = FirstDiceKnown p r drawn text
Known p r drawn text marks (Link l j) = LinkKnown p r l j marks
Known p r drawn text marks SecondDice = Unit {0}
Known p r drawn text marks (BallotHalf j) = BallotHalfKnown p r j drawn text
Known p r drawn text marks (ListHalf l j) = ListHalfKnown p r l j
Known p r drawn text marks (Vote i) = Unit {0}
Known p r drawn text marks (FullOpening l i) = FullKnown p r l i
Known p r drawn text marks End = Unit {0}

-- ---- the text, where it is lent

abbrev pub lent : Option (Bor (List ℕ)) → List ℕ
lent None = []
lent (Some text) = text.now

-- ---- in its place, where it may be cut short

abbrev pub Told : Parameters → List ℕ → Bool → List ℕ → List Bool → ℕ → Due → Type 0
Told p r drawn text marks at d = (at ≡ place_of p r d) × Known p r drawn text marks d

-- ---- in its place, and whole

pub record Ready (p : Parameters) (r : List ℕ) (at : ℕ) (d : Due) (K : Type 0) : Type 0 where
  pub here : at ≡ place_of p r d
  pub whole : at + width p d ≤ length r
  pub known : K

abbrev pub FirstDiceReady : Parameters → List ℕ → ℕ → Bool → List ℕ → Type 0
FirstDiceReady p r at drawn text = Ready p r at FirstDice (FirstDiceKnown p r drawn text)

abbrev pub LinkReady : Parameters → List ℕ → ℕ → ℕ → ℕ → List Bool → Type 0
LinkReady p r at l j marks = Ready p r at (Link l j) (LinkKnown p r l j marks)

abbrev pub BallotHalfReady : Parameters → List ℕ → ℕ → ℕ → Bool → List ℕ → Type 0
BallotHalfReady p r at j drawn text = Ready p r at (BallotHalf j) (BallotHalfKnown p r j drawn text)

abbrev pub ListHalfReady : Parameters → List ℕ → ℕ → ℕ → ℕ → Type 0
ListHalfReady p r at l j = Ready p r at (ListHalf l j) (ListHalfKnown p r l j)

abbrev pub FullReady : Parameters → List ℕ → ℕ → ℕ → ℕ → Type 0
FullReady p r at l i = Ready p r at (FullOpening l i) (FullKnown p r l i)
