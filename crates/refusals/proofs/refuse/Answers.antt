-- `refusals::refuse` meets its contract, one test after the other.
use mathlib.Core.Path.{◌≡◌, refl, sym, ap, ◌∙◌}
use mathlib.Core.Bool.{true}
use Prim.Native.Nat.{◌*◌}
use lib.ListN.{length}
use Rattle.std.proofs.Common.{subst}
use Rattle.std.proofs.lemmas.Bool.{not-true, not-false}
use Rattle.layout.specs.Bounds.{Few}
use Rattle.laws.specs.Tests.{◌and◌, and_iff, and_stop, and_go, told_true, told_false}
use Rattle.laws.specs.Faults.{rule_go, rule_stop}
use Rattle.protocol.specs.Terms.{all_below}
use Rattle.protocol.specs.Inputs.{Slices}
use Rattle.protocol.specs.Refusals.{due_lengths, ids_rise, all_permutations}
use Rattle.refusals.specs.Contents.{rising, permutations_in, contents_refusal}
use Rattle.refusals.proofs.Tests.{lengths_are, before_copies}
use Rattle.refusals.proofs.Contents.{rising_is, permutations_in_lem}
use Rattle.refusals.proofs.refuse.Goals as goal
use Rattle.refusals.proofs.refuse.Goals.{After-ids_rise, After-all_below, After-all_below-2, After-all_permutations, Else-not-all_below-2, Else-not-all_permutations, Else-not-due_lengths, Else-not-ids_rise, Start}

-- what is known behind the lengths, behind test 5 and behind test 10
due : (c : Else-not-due_lengths) → due_lengths c.args.s.now ≡ true
due c = told_true c.due_lengths.ensures c.if-not-due_lengths.false

rising_told : (c : After-ids_rise) → c.ids_rise.result ≡ ids_rise c.args.s.now
rising_told c =
    c.ids_rise.ensures ∙ ap (λ (s : Slices). rising s.ids) c.s.view_is
    ∙ rising_is c.args.s.now (lengths_are _ (due (goal.at.After-ids_rise c).Else-not-due_lengths)).0

rise : (c : Else-not-ids_rise) → ids_rise c.args.s.now ≡ true
rise c = told_true (rising_told (goal.at.Else-not-ids_rise c).After-ids_rise) c.if-not-ids_rise.false

votes_told : (c : After-all_below) → c.all_below.result ≡ all_below c.args.s.now.parameters.modulus c.args.s.now.votes
votes_told c = c.all_below.ensures ∙ ap (λ (s : Slices). all_below s.parameters.modulus s.votes) c.s.view_is

numbers_told : (c : After-all_below-2) → c.all_below-2.result ≡ all_below c.args.s.now.parameters.modulus c.args.s.now.numbers
numbers_told c = c.all_below-2.ensures ∙ ap (λ (s : Slices). all_below s.parameters.modulus s.numbers) c.s.view_is

small : (c : Else-not-all_below-2) → let s = c.args.s.now in (all_below s.parameters.modulus s.votes and all_below s.parameters.modulus s.numbers) ≡ true
small c =
    (and_iff _ _).1 (
      told_true (votes_told (goal.at.Else-not-all_below-2 c).After-all_below) c.if-not-all_below.false,
      told_true (numbers_told (goal.at.Else-not-all_below-2 c).After-all_below-2) c.if-not-all_below-2.false,
    )

permutations_told : (c : After-all_permutations) → c.all_permutations.result ≡ all_permutations c.args.s.now
permutations_told c =
    c.all_permutations.ensures ∙ ap (λ (s : Slices). permutations_in s.parameters s.permutations) c.s.view_is ∙ permutations_in_lem c.args.s.now

permuted : (c : Else-not-all_permutations) → all_permutations c.args.s.now ≡ true
permuted c = told_true (permutations_told (goal.at.Else-not-all_permutations c).After-all_permutations) c.if-not-all_permutations.false

pub returns-then-not-due_lengths : goal.returns-then-not-due_lengths
unfolding contents_refusal
returns-then-not-due_lengths c =
    rule_stop _ _ _ (told_false c.due_lengths.ensures c.if-not-due_lengths.true)

pub returns-then-not-ids_rise : goal.returns-then-not-ids_rise
unfolding contents_refusal
returns-then-not-ids_rise c =
    rule_go _ _ _ (due (goal.at.returns-then-not-ids_rise c).Else-not-due_lengths)
    (rule_stop _ _ _ (told_false (rising_told (goal.at.returns-then-not-ids_rise c).After-ids_rise) c.if-not-ids_rise.true))

pub returns-then-not-passed : goal.returns-then-not-passed
unfolding contents_refusal
returns-then-not-passed c =
    rule_go _ _ _ (due (goal.at.returns-then-not-passed c).Else-not-due_lengths)
    (rule_go _ _ _ (rise (goal.at.returns-then-not-passed c).Else-not-ids_rise)
    (rule_stop _ _ _ (not-true _ c.if-not-passed.true)))

pub returns-then-not-passed-2 : goal.returns-then-not-passed-2
unfolding contents_refusal
returns-then-not-passed-2 c =
    rule_go _ _ _ (due (goal.at.returns-then-not-passed-2 c).Else-not-due_lengths)
    (rule_go _ _ _ (rise (goal.at.returns-then-not-passed-2 c).Else-not-ids_rise)
    (rule_go _ _ _ (not-false _ c.if-not-passed.false)
    (rule_stop _ _ _ (not-true _ c.if-not-passed-2.true))))

pub returns-then-not-all_below : goal.returns-then-not-all_below
unfolding contents_refusal
returns-then-not-all_below c =
    rule_go _ _ _ (due (goal.at.returns-then-not-all_below c).Else-not-due_lengths)
    (rule_go _ _ _ (rise (goal.at.returns-then-not-all_below c).Else-not-ids_rise)
    (rule_go _ _ _ (not-false _ c.if-not-passed.false)
    (rule_go _ _ _ (not-false _ c.if-not-passed-2.false)
    (rule_stop _ _ _ (sym (and_stop _ _ (told_false (votes_told (goal.at.returns-then-not-all_below c).After-all_below) c.if-not-all_below.true)))))))

pub returns-then-not-all_below-2 : goal.returns-then-not-all_below-2
unfolding contents_refusal
returns-then-not-all_below-2 c =
    rule_go _ _ _ (due (goal.at.returns-then-not-all_below-2 c).Else-not-due_lengths)
    (rule_go _ _ _ (rise (goal.at.returns-then-not-all_below-2 c).Else-not-ids_rise)
    (rule_go _ _ _ (not-false _ c.if-not-passed.false)
    (rule_go _ _ _ (not-false _ c.if-not-passed-2.false)
    (rule_stop _ _ _ (sym (and_go _ _ (told_true (votes_told (goal.at.returns-then-not-all_below-2 c).After-all_below) c.if-not-all_below.false) (sym (told_false (numbers_told (goal.at.returns-then-not-all_below-2 c).After-all_below-2) c.if-not-all_below-2.true))))))))

pub returns-then-not-passed-3 : goal.returns-then-not-passed-3
unfolding contents_refusal
returns-then-not-passed-3 c =
    rule_go _ _ _ (due (goal.at.returns-then-not-passed-3 c).Else-not-due_lengths)
    (rule_go _ _ _ (rise (goal.at.returns-then-not-passed-3 c).Else-not-ids_rise)
    (rule_go _ _ _ (not-false _ c.if-not-passed.false)
    (rule_go _ _ _ (not-false _ c.if-not-passed-2.false)
    (rule_go _ _ _ (small (goal.at.returns-then-not-passed-3 c).Else-not-all_below-2)
    (rule_stop _ _ _ (not-true _ c.if-not-passed-3.true))))))

pub all_permutations-requires : goal.all_permutations-requires
all_permutations-requires c =
    subst (λ (s : Slices). Few s.parameters × (length s.permutations ≡ 6 * (s.parameters.compared * s.parameters.ballots))) (sym c.s.view_is)
    (c.requires.0, (lengths_are _ (due (goal.at.all_permutations-requires c).Else-not-due_lengths)).1)

pub returns-then-not-all_permutations : goal.returns-then-not-all_permutations
unfolding contents_refusal
returns-then-not-all_permutations c =
    rule_go _ _ _ (due (goal.at.returns-then-not-all_permutations c).Else-not-due_lengths)
    (rule_go _ _ _ (rise (goal.at.returns-then-not-all_permutations c).Else-not-ids_rise)
    (rule_go _ _ _ (not-false _ c.if-not-passed.false)
    (rule_go _ _ _ (not-false _ c.if-not-passed-2.false)
    (rule_go _ _ _ (small (goal.at.returns-then-not-all_permutations c).Else-not-all_below-2)
    (rule_go _ _ _ (not-false _ c.if-not-passed-3.false)
    (rule_stop _ _ _ (told_false (permutations_told (goal.at.returns-then-not-all_permutations c).After-all_permutations) c.if-not-all_permutations.true)))))))

pub all_original-requires : goal.all_original-requires
all_original-requires c =
    before_copies c.args.s.now c.requires.0 c.requires.1 (due (goal.at.all_original-requires c).Else-not-due_lengths)
    (small (goal.at.all_original-requires c).Else-not-all_below-2)

pub returns-then-not-all_original : goal.returns-then-not-all_original
unfolding contents_refusal
returns-then-not-all_original c =
    rule_go _ _ _ (due (goal.at.returns-then-not-all_original c).Else-not-due_lengths)
    (rule_go _ _ _ (rise (goal.at.returns-then-not-all_original c).Else-not-ids_rise)
    (rule_go _ _ _ (not-false _ c.if-not-passed.false)
    (rule_go _ _ _ (not-false _ c.if-not-passed-2.false)
    (rule_go _ _ _ (small (goal.at.returns-then-not-all_original c).Else-not-all_below-2)
    (rule_go _ _ _ (not-false _ c.if-not-passed-3.false)
    (rule_go _ _ _ (permuted (goal.at.returns-then-not-all_original c).Else-not-all_permutations)
    (rule_stop _ _ _ (told_false c.all_original.ensures c.if-not-all_original.true))))))))

pub returns : goal.returns
unfolding contents_refusal
returns c =
    rule_go _ _ _ (due (goal.at.returns c).Else-not-due_lengths)
    (rule_go _ _ _ (rise (goal.at.returns c).Else-not-ids_rise)
    (rule_go _ _ _ (not-false _ c.if-not-passed.false)
    (rule_go _ _ _ (not-false _ c.if-not-passed-2.false)
    (rule_go _ _ _ (small (goal.at.returns c).Else-not-all_below-2)
    (rule_go _ _ _ (not-false _ c.if-not-passed-3.false)
    (rule_go _ _ _ (permuted (goal.at.returns c).Else-not-all_permutations)
    (rule_go _ _ _ (told_true c.all_original.ensures c.if-not-all_original.false)
    (refl))))))))
