-- `opening_rules::ballot_half_rules` meets its contract: rule by rule, what is found is what the rules from there on find.
use mathlib.Core.Path.{◌≡◌, sym, ap, ◌∙◌}
use mathlib.Core.Bool.{Bool}
use mathlib.Core.List.{List}
use Prim.Native.Nat.{ℕ, ◌+◌, ◌*◌, ◌≤◌}
use native.Mathlib.Omega.{arith}
use lib.ListN.{length, take}
use Rattle.std.specs.Option.{is_some}
use Rattle.std.specs.Borrow.{Bor}
use Rattle.std.proofs.Common.{Some}
use Rattle.laws.specs.Tests.{equal, at_most, ◌implies◌, every, is_equal, not_equal, is_at_most, not_at_most}
use Rattle.laws.specs.Faults.{rule, kept}
use Rattle.laws.specs.Bytes.{number}
use Rattle.laws.specs.Chunks.{piece}
use Rattle.protocol.specs.declared.Parameters.{Parameters}
use Rattle.protocol.specs.declared.Place.TheVariants.{InBallot}
use Rattle.protocol.specs.Layout.{at_ballot, at_second_dice, at_ballot_half}
use Rattle.protocol.specs.Record.{id_of, ballot_commitment_of, second_dice_of, side_of, ballot_opening_of}
use Rattle.protocol.specs.Drawing.{challenge, drawn_side}
use Rattle.protocol.specs.Rules.{numbers_below, gives, ballot_half_rules}
use Rattle.rules.specs.Known.{lent}
use Rattle.opening_rules.specs.Opened.{opening_at}
use Rattle.opening_rules.proofs.Posted.{goes_on, breaks, implies_on, implies_off}
use Rattle.opening_rules.proofs.Places.{ballot_before}
use Rattle.opening_rules.proofs.ballot_half_rules.Goals as goal
use Rattle.opening_rules.proofs.ballot_half_rules.Goals.{After-at_ballot-ballot, After-openings_give, After-read1-side, After-read4, Else-not-numbers_below, Else-read2-j, Else-side-gt1, Joined-text, in-Some+else-drawn_side-side, in_default, Start}

-- ---- the rules, at the place where the command starts

module _ (p : Parameters) (r : List ℕ) (at : ℕ) (drawn : Bool) (j : ℕ) where
  abbrev posted : Bool
  posted = every (λ k. gives p (InBallot (id_of p r j) (2 * k + side_of p r j)) (opening_at r (at + 4) k) (piece r (at_ballot p j + 5 + 32 * (2 * k + side_of p r j)) 32)) 3

  abbrev from13 : ℕ
  from13 = rule 13 posted kept

  abbrev side_drawn : ℕ
  side_drawn = drawn_side (challenge (second_dice_of p r) (take (at_second_dice p) r)) j

  abbrev from12 : ℕ
  from12 = rule 12 (drawn implies equal (side_of p r j) side_drawn) from13

  abbrev from11 : ℕ
  from11 = rule 11 (at_most (side_of p r j) 1) from12

  abbrev from10 : ℕ
  from10 = rule 10 (numbers_below p.modulus (opening_at r (at + 4)) 3) from11

  rules_at : at ≡ at_ballot_half p j → ballot_half_rules p r drawn j ≡ rule 4 (equal (number r (at + 1) 2) j) from10
  unfolding ballot_half_rules ballot_opening_of ballot_commitment_of
  rules_at e = rw e

-- what the function is to answer
abbrev all : Start → ℕ
all s = ballot_half_rules s.args.p s.args.bytes.now (is_some s.args.text) s.args.j

-- ---- what is read

side_read : (c : After-read1-side) → c.read1-side.result ≡ side_of c.args.p c.args.bytes.now c.args.j
unfolding side_of
side_read c = c.read1-side.ensures.0 ∙ ap (λ (a : ℕ). number c.args.bytes.now (a + 3) 1) c.requires.here

drawn_read : (s : Start) {t : Bor (List ℕ)} {x : ℕ} → s.args.text ≡ Some t → x ≡ drawn_side t.now s.args.j → x ≡ side_drawn s.args.p s.args.bytes.now s.args.at (is_some s.args.text) s.args.j
drawn_read s is e =
    let text = sym (ap lent is) ∙ s.requires.known.text_is (ap is_some is) in
    e ∙ ap (λ (q : List ℕ). drawn_side q s.args.j) text

id_read : (c : After-read4) → c.read4.result ≡ id_of c.args.p c.args.bytes.now c.args.j
unfolding id_of
id_read c = c.read4.ensures.0 ∙ ap (λ (a : ℕ). number c.args.bytes.now (a + 1) 4) c.at_ballot-ballot.ensures.0

given : (c : After-openings_give) → c.openings_give.result ≡ posted c.args.p c.args.bytes.now c.args.at (is_some c.args.text) c.args.j
given c =
    rw (side_read (goal.at.After-openings_give c).After-read1-side, id_read (goal.at.After-openings_give c).After-read4, c.at_ballot-ballot.ensures.0) at c.openings_give.ensures

-- ---- the rules that are left

begun : (s : Start) → all s ≡ rule 4 (equal (number s.args.bytes.now (s.args.at + 1) 2) s.args.j) (from10 s.args.p s.args.bytes.now s.args.at (is_some s.args.text) s.args.j)
begun s = rules_at s.args.p s.args.bytes.now s.args.at (is_some s.args.text) s.args.j s.requires.here

past_ballot : (c : Else-read2-j) → all (goal.at.Else-read2-j c).Start ≡ from10 c.args.p c.args.bytes.now c.args.at (is_some c.args.text) c.args.j
past_ballot c = goes_on 4 _ _ (begun (goal.at.Else-read2-j c).Start) (is_equal (omega arith))

past_numbers : (c : Else-not-numbers_below) → all (goal.at.Else-not-numbers_below c).Start ≡ from11 c.args.p c.args.bytes.now c.args.at (is_some c.args.text) c.args.j
past_numbers c = goes_on 10 _ _ (past_ballot (goal.at.Else-not-numbers_below c).Else-read2-j) (sym c.numbers_below.ensures ∙ c.if-not-numbers_below.false)

past_side : (c : Else-side-gt1) → all (goal.at.Else-side-gt1 c).Start ≡ from12 c.args.p c.args.bytes.now c.args.at (is_some c.args.text) c.args.j
past_side c = goes_on 11 _ _ (past_numbers (goal.at.Else-side-gt1 c).Else-not-numbers_below) (is_at_most (omega (arith, side_read (goal.at.Else-side-gt1 c).After-read1-side)))

past_drawn : (c : Joined-text) → all (goal.at.Joined-text c).Start ≡ from13 c.args.p c.args.bytes.now c.args.at (is_some c.args.text) c.args.j
past_drawn c =
    let past = past_side (goal.at.Joined-text c).Else-side-gt1 in
    let side = side_read (goal.at.Joined-text c).After-read1-side in
    elim c.match-text.branch [
      | in-Some+else-drawn_side-side w ↦
          let drawn = drawn_read (goal.at.Joined-text c).Start w.in-Some.is w.drawn_side.ensures.0 in
          goes_on 12 _ _ past (implies_on _ _ (ap is_some w.in-Some.is) ∙ is_equal (omega arith))
      | in_default w ↦ goes_on 12 _ _ past (implies_off _ _ (ap is_some w.in_default.is))
    ]

-- ----

pub returns-then-read2-j : goal.returns-then-read2-j
returns-then-read2-j c = breaks 4 _ _ (begun (goal.at.returns-then-read2-j c).Start) (not_equal (λ e. omega arith))

pub returns-then-not-numbers_below : goal.returns-then-not-numbers_below
returns-then-not-numbers_below c = breaks 10 _ _ (past_ballot (goal.at.returns-then-not-numbers_below c).Else-read2-j) (sym c.numbers_below.ensures ∙ c.if-not-numbers_below.true)

pub returns-then-side-gt1 : goal.returns-then-side-gt1
returns-then-side-gt1 c = breaks 11 _ _ (past_numbers (goal.at.returns-then-side-gt1 c).Else-not-numbers_below) (not_at_most (omega (arith, side_read (goal.at.returns-then-side-gt1 c).After-read1-side)))

pub returns-then-drawn_side-side : goal.returns-then-drawn_side-side
returns-then-drawn_side-side c =
    let drawn = drawn_read (goal.at.returns-then-drawn_side-side c).Start c.in-Some.is c.drawn_side.ensures.0 in
    let side = side_read (goal.at.returns-then-drawn_side-side c).After-read1-side in
    breaks 12 _ _ (past_side (goal.at.returns-then-drawn_side-side c).Else-side-gt1)
    (implies_on _ _ (ap is_some c.in-Some.is) ∙ not_equal (λ e. omega arith))

ballot_inside : (c : After-at_ballot-ballot) → c.at_ballot-ballot.result + 197 ≤ length c.args.bytes.now
ballot_inside c =
    omega (arith, c.at_ballot-ballot.ensures.0, c.requires.here, c.requires.whole, ballot_before c.args.p c.args.j c.args.j c.requires.known.ballot)

pub read4-requires : goal.read4-requires
read4-requires c = omega (arith, ballot_inside c)

pub openings_give-requires : goal.openings_give-requires
openings_give-requires c =
    record {
      few = omega arith;
      opened = omega (arith, c.requires.whole);
      committed = λ k h. omega (arith, ballot_inside (goal.at.openings_give-requires c).After-at_ballot-ballot, c.if-side-gt1.false);
    }

pub returns-then-not-openings_give : goal.returns-then-not-openings_give
returns-then-not-openings_give c = breaks 13 _ _ (past_drawn (goal.at.returns-then-not-openings_give c).Joined-text) (sym (given (goal.at.returns-then-not-openings_give c).After-openings_give) ∙ c.if-not-openings_give.true)

pub returns : goal.returns
returns c = sym (goes_on 13 _ _ (past_drawn (goal.at.returns c).Joined-text) (sym (given (goal.at.returns c).After-openings_give) ∙ c.if-not-openings_give.false))
