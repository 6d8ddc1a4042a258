-- `opening_rules::full_rules` meets its contract: rule by rule, what is found is what the rules from there on find.
use mathlib.Core.Path.{◌≡◌, refl, sym, ap, ◌∙◌}
use mathlib.Core.Bool.{Bool, true}
use mathlib.Core.List.{List}
use mathlib.Core.Logic.{⊎_elim}
use Prim.Native.Nat.{ℕ, suc, ◌+◌, ◌-◌, ◌*◌, ◌≤◌, ◌<◌}
use native.Mathlib.Nat.{add-zero, one-mul, eq-or-lt_of_le}
use native.Mathlib.Omega.{arith}
use Rattle.laws.specs.Tests.{equal, ◌implies◌, every, is_equal, not_equal}
use Rattle.laws.specs.Faults.{rule, kept}
use Rattle.laws.specs.Bytes.{number}
use Rattle.laws.specs.Chunks.{piece}
use Rattle.laws.specs.Permuting.{permutes, permutes_same}
use Rattle.protocol.specs.declared.Parameters.{Parameters}
use Rattle.protocol.specs.declared.Place.TheVariants.{InEntry}
use Rattle.protocol.specs.Terms.{sum_of_six}
use Rattle.protocol.specs.Layout.{at_entry}
use Rattle.protocol.specs.Record.{entry_commitment_of, vote_of, full_place, full_opening_of}
use Rattle.protocol.specs.Rules.{numbers_below, gives, full_rules}
use Rattle.opening_rules.specs.Opened.{opening_at}
use Rattle.opening_rules.proofs.Posted.{goes_on, breaks, implies_on, implies_off}
use Rattle.opening_rules.proofs.Places.{entry_before, votes_before, full_first, full_steps, vote_steps}
use Rattle.opening_rules.proofs.full_rules.Goals as goal
use Rattle.opening_rules.proofs.full_rules.Goals.{After-at_vote-votes, After-list_permutes, After-openings_give, Else-not-numbers_below, Else-not-openings_give, Else-read1-l, Else-read2-i, Start, Then-i-p, then-read1-l-via-then-read1-l, then-read1-l-via-else-read1-l+then-read2-i}

-- ---- the rules, at the place where the command starts

module _ (p : Parameters) (r : List ℕ) (at l i : ℕ) where
  abbrev permuted : Bool
  permuted = permutes (λ k. sum_of_six p.modulus (full_opening_of p r l k)) (vote_of p r) p.ballots

  abbrev from16 : ℕ
  from16 = rule 16 (equal (i + 1) p.ballots implies permuted) kept

  abbrev posted : Bool
  posted = every (λ q. gives p (InEntry l i q) (opening_at r (at + 4) q) (piece r (at_entry p l i + 4 + 32 * q) 32)) 6

  abbrev from13 : ℕ
  from13 = rule 13 posted from16

  abbrev from10 : ℕ
  from10 = rule 10 (numbers_below p.modulus (opening_at r (at + 4)) 6) from13

  abbrev position_on : ℕ
  position_on = rule 4 (equal (number r (at + 2) 2) i) from10

  rules_at : at ≡ full_place p r l i → full_rules p r l i ≡ rule 4 (equal (number r (at + 1) 1) l) position_on
  unfolding full_rules full_opening_of entry_commitment_of
  rules_at e = rw e

-- what the function is to answer, and the rules that are left
abbrev all : Start → ℕ
all s = full_rules s.args.p s.args.bytes.now s.args.l s.args.i

begun : (s : Start) → all s ≡ rule 4 (equal (number s.args.bytes.now (s.args.at + 1) 1) s.args.l) (position_on s.args.p s.args.bytes.now s.args.at s.args.l s.args.i)
begun s = rules_at s.args.p s.args.bytes.now s.args.at s.args.l s.args.i s.requires.here

past_list : (c : Else-read1-l) → all (goal.at.Else-read1-l c).Start ≡ position_on c.args.p c.args.bytes.now c.args.at c.args.l c.args.i
past_list c = goes_on 4 _ _ (begun (goal.at.Else-read1-l c).Start) (is_equal (omega arith))

past_position : (c : Else-read2-i) → all (goal.at.Else-read2-i c).Start ≡ from10 c.args.p c.args.bytes.now c.args.at c.args.l c.args.i
past_position c = goes_on 4 _ _ (past_list (goal.at.Else-read2-i c).Else-read1-l) (is_equal (omega arith))

numbers_kept : (c : Else-not-numbers_below) → numbers_below c.args.p.modulus (opening_at c.args.bytes.now (c.args.at + 4)) 6 ≡ true
numbers_kept c = sym c.numbers_below.ensures ∙ c.if-not-numbers_below.false

past_numbers : (c : Else-not-numbers_below) → all (goal.at.Else-not-numbers_below c).Start ≡ from13 c.args.p c.args.bytes.now c.args.at c.args.l c.args.i
past_numbers c = goes_on 10 _ _ (past_position (goal.at.Else-not-numbers_below c).Else-read2-i) (numbers_kept c)

given : (c : After-openings_give) → c.openings_give.result ≡ posted c.args.p c.args.bytes.now c.args.at c.args.l c.args.i
given c =
    let e = rw c.at_entry-posted.ensures.0 at c.openings_give.ensures in
    simp (one-mul, add-zero) at e

past_openings : (c : Else-not-openings_give) → all (goal.at.Else-not-openings_give c).Start ≡ from16 c.args.p c.args.bytes.now c.args.at c.args.l c.args.i
past_openings c = goes_on 13 _ _ (past_numbers (goal.at.Else-not-openings_give c).Else-not-numbers_below) (sym (given (goal.at.Else-not-openings_give c).After-openings_give) ∙ c.if-not-openings_give.false)

-- ---- rule 16: the list's full openings, and the votes, in steps from their first

full_read : (s : Start) (k : ℕ) → opening_at s.args.bytes.now (s.args.at - 220 * s.args.i + 220 * k + 4) ≡ full_opening_of s.args.p s.args.bytes.now s.args.l k
unfolding full_opening_of
full_read s k =
    let r = s.args.bytes.now in
    ap (λ (a : ℕ). opening_at r (a + 4)) (omega (arith, s.requires.here, full_steps s.args.p r s.args.l s.args.i k))

vote_read : (c : After-at_vote-votes) (k : ℕ) → number c.args.bytes.now (c.at_vote-votes.result + 3 + 7 * k) 4 ≡ vote_of c.args.p c.args.bytes.now k
unfolding vote_of
vote_read c k =
    ap (λ (a : ℕ). number c.args.bytes.now a 4) (omega (arith, c.at_vote-votes.ensures.0, vote_steps c.args.p k))

below_all : (c : Then-i-p) (k : ℕ) → k < c.args.p.ballots → numbers_below c.args.p.modulus (opening_at c.args.bytes.now (c.args.at - 220 * c.args.i + 220 * k + 4)) 6 ≡ true
below_all c k h =
    let M = c.args.p.modulus in
    let first = full_first c.args.p c.args.bytes.now c.args.l c.args.i in
    let here = c.requires.here in
    let low : k ≤ c.args.i = omega arith in
    ⊎_elim
    (λ e. ap (λ (a : ℕ). numbers_below M (opening_at c.args.bytes.now (a + 4)) 6) (omega arith) ∙ numbers_kept (goal.at.Then-i-p c).Else-not-numbers_below)
    (λ l. ap (λ (o : ℕ → List ℕ). numbers_below M o 6) (full_read (goal.at.Then-i-p c).Start k) ∙ c.requires.known.earlier k l)
    (eq-or-lt_of_le low)

permuted_read : (c : After-list_permutes) → c.list_permutes.result ≡ permuted c.args.p c.args.bytes.now c.args.at c.args.l c.args.i
permuted_read c =
    let M = c.args.p.modulus in
    let r = c.args.bytes.now in
    let value : ℕ → ℕ = λ k. sum_of_six M (opening_at r (c.args.at - 220 * c.args.i + 220 * k + 4)) in
    let vote : ℕ → ℕ = λ k. number r (c.at_vote-votes.result + 3 + 7 * k) 4 in
    ◌∙◌ {b = permutes value vote c.args.p.ballots} c.list_permutes.ensures
    (permutes_same value _ vote _ c.args.p.ballots (λ k h. ap (sum_of_six M) (full_read (goal.at.After-list_permutes c).Start k)) (λ k h. vote_read (goal.at.After-list_permutes c).After-at_vote-votes k))

-- ----

pub returns-then-read1-l : goal.returns-then-read1-l
returns-then-read1-l c =
    let begin = begun (goal.at.returns-then-read1-l c).Start in
    elim c.then-read1-l.branch [
      | then-read1-l-via-then-read1-l w ↦ breaks 4 _ _ begin (not_equal (λ e. omega arith))
      | then-read1-l-via-else-read1-l+then-read2-i w ↦ breaks 4 _ _ (goes_on 4 _ _ begin (is_equal (omega arith))) (not_equal (λ e. omega arith))
    ]

pub returns-then-not-numbers_below : goal.returns-then-not-numbers_below
returns-then-not-numbers_below c = breaks 10 _ _ (past_position (goal.at.returns-then-not-numbers_below c).Else-read2-i) (sym c.numbers_below.ensures ∙ c.if-not-numbers_below.true)

pub openings_give-requires : goal.openings_give-requires
openings_give-requires c =
    let p = c.args.p in
    let before = votes_before p c.args.bytes.now c.args.l c.args.i in
    let here = c.requires.here in
    record {
      few = omega arith;
      opened = omega arith;
      committed = λ k h. omega (arith, c.at_entry-posted.ensures.0, c.requires.whole, entry_before p c.args.l c.args.i p.ballots c.requires.known.list c.requires.known.position);
    }

pub returns-then-not-openings_give : goal.returns-then-not-openings_give
returns-then-not-openings_give c = breaks 13 _ _ (past_numbers (goal.at.returns-then-not-openings_give c).Else-not-numbers_below) (sym (given (goal.at.returns-then-not-openings_give c).After-openings_give) ∙ c.if-not-openings_give.true)

pub overflow_sub-at : goal.overflow_sub-at
overflow_sub-at c = omega (arith, c.requires.here, full_first c.args.p c.args.bytes.now c.args.l c.args.i)

pub list_permutes-requires : goal.list_permutes-requires
list_permutes-requires c =
    let before = votes_before c.args.p c.args.bytes.now c.args.l c.args.i in
    let first = full_first c.args.p c.args.bytes.now c.args.l c.args.i in
    let here = c.requires.here in
    let last = c.if-i-p.true in
    record {
      list = record { few = c.requires.known.few.ballots; whole = omega (arith, c.requires.whole); numbers = below_all (goal.at.list_permutes-requires c).Then-i-p };
      as_many = refl;
      votes_whole = λ k h. omega (arith, c.requires.whole, c.at_vote-votes.ensures.0);
      rise = λ k h. omega (arith, vote_read c k, vote_read c (suc k), c.requires.known.votes k h);
    }

pub returns-then-not-list_permutes : goal.returns-then-not-list_permutes
returns-then-not-list_permutes c = breaks 16 _ _ (past_openings (goal.at.returns-then-not-list_permutes c).Else-not-openings_give) (implies_on _ _ (is_equal c.if-i-p.true) ∙ sym (permuted_read (goal.at.returns-then-not-list_permutes c).After-list_permutes) ∙ c.if-not-list_permutes.true)

pub returns-else-not-list_permutes : goal.returns-else-not-list_permutes
returns-else-not-list_permutes c = sym (goes_on 16 _ _ (past_openings (goal.at.returns-else-not-list_permutes c).Else-not-openings_give) (implies_on _ _ (is_equal c.if-i-p.true) ∙ sym (permuted_read (goal.at.returns-else-not-list_permutes c).After-list_permutes) ∙ c.if-not-list_permutes.false))

pub returns-else-i-p : goal.returns-else-i-p
returns-else-i-p c = sym (goes_on 16 _ _ (past_openings (goal.at.returns-else-i-p c).Else-not-openings_give) (implies_off _ _ (not_equal c.if-i-p.false)))
