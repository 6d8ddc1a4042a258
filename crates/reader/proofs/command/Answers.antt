-- `reader::command` meets its contract: each byte leads to its own rules where its command is due.
use mathlib.Core.Path.{refl}
use native.Mathlib.Omega.{arith}
use Rattle.std.proofs.Common.{rules}
use Rattle.reader.proofs.Faults.{gone, cut, whole, another_due, unknown, unnumbered_due, numbered_due, unnumbered_width, numbered_width, first_whole}
use Rattle.reader.proofs.Known.{told}
use Rattle.reader.proofs.command.Goals as goal

pub returns-then-r-at : goal.returns-then-r-at
returns-then-r-at c = gone _ _ _ _ c.requires.0 (omega arith)

pub returns-in_err-whole-in-2-Ballot : goal.returns-in_err-whole-in-2-Ballot
returns-in_err-whole-in-2-Ballot c = cut _ _ _ _ c.requires.0 (omega arith) c.in-2-Ballot.is-1 c.in-2-Ballot.is-0 (search rules) c.in_err-whole-in-2-Ballot.ensures.1

pub returns-in_ok-whole-in-2-Ballot : goal.returns-in_ok-whole-in-2-Ballot
returns-in_ok-whole-in-2-Ballot c =
    whole _ _ _ _ c.requires.0 (omega arith) c.in-2-Ballot.is-1 c.in-2-Ballot.is-0 c.in_ok-whole-in-2-Ballot.ensures.0 c.in_ok-whole-in-2-Ballot.ensures.1 c.ballot_rules.ensures

pub returns-in_err-whole-in-3-Entry : goal.returns-in_err-whole-in-3-Entry
returns-in_err-whole-in-3-Entry c = cut _ _ _ _ c.requires.0 (omega arith) c.in-3-Entry.is-1 c.in-3-Entry.is-0 (search rules) c.in_err-whole-in-3-Entry.ensures.1

pub returns-in_ok-whole-in-3-Entry : goal.returns-in_ok-whole-in-3-Entry
returns-in_ok-whole-in-3-Entry c =
    whole _ _ _ _ c.requires.0 (omega arith) c.in-3-Entry.is-1 c.in-3-Entry.is-0 c.in_ok-whole-in-3-Entry.ensures.0 c.in_ok-whole-in-3-Entry.ensures.1 c.entry_rules.ensures

pub returns-in_err-whole-in-4-FirstDice : goal.returns-in_err-whole-in-4-FirstDice
returns-in_err-whole-in-4-FirstDice c = cut _ _ _ _ c.requires.0 (omega arith) c.in-4-FirstDice.is-1 c.in-4-FirstDice.is-0 (search rules) c.in_err-whole-in-4-FirstDice.ensures.1

pub returns-in_ok-whole-in-4-FirstDice : goal.returns-in_ok-whole-in-4-FirstDice
returns-in_ok-whole-in-4-FirstDice c =
    whole _ _ _ _ c.requires.0 (omega arith) c.in-4-FirstDice.is-1 c.in-4-FirstDice.is-0 c.in_ok-whole-in-4-FirstDice.ensures.0 c.in_ok-whole-in-4-FirstDice.ensures.1 c.first_dice_rules.ensures

pub returns-in_err-whole-in-5-Link : goal.returns-in_err-whole-in-5-Link
returns-in_err-whole-in-5-Link c = cut _ _ _ _ c.requires.0 (omega arith) c.in-5-Link.is-1 c.in-5-Link.is-0 (search rules) c.in_err-whole-in-5-Link.ensures.1

pub returns-in_ok-whole-in-5-Link : goal.returns-in_ok-whole-in-5-Link
returns-in_ok-whole-in-5-Link c =
    whole _ _ _ _ c.requires.0 (omega arith) c.in-5-Link.is-1 c.in-5-Link.is-0 c.in_ok-whole-in-5-Link.ensures.0 c.in_ok-whole-in-5-Link.ensures.1 c.link_rules.ensures

pub returns-in_err-whole-in-6-SecondDice : goal.returns-in_err-whole-in-6-SecondDice
returns-in_err-whole-in-6-SecondDice c = cut _ _ _ _ c.requires.0 (omega arith) c.in-6-SecondDice.is-1 c.in-6-SecondDice.is-0 (search rules) c.in_err-whole-in-6-SecondDice.ensures.1

pub returns-in_ok-whole-in-6-SecondDice : goal.returns-in_ok-whole-in-6-SecondDice
returns-in_ok-whole-in-6-SecondDice c =
    whole _ _ _ _ c.requires.0 (omega arith) c.in-6-SecondDice.is-1 c.in-6-SecondDice.is-0 c.in_ok-whole-in-6-SecondDice.ensures.0 c.in_ok-whole-in-6-SecondDice.ensures.1 c.second_dice_rules.ensures

pub returns-in_err-whole-in-7-BallotHalf : goal.returns-in_err-whole-in-7-BallotHalf
returns-in_err-whole-in-7-BallotHalf c = cut _ _ _ _ c.requires.0 (omega arith) c.in-7-BallotHalf.is-1 c.in-7-BallotHalf.is-0 (search rules) c.in_err-whole-in-7-BallotHalf.ensures.1

pub returns-in_ok-whole-in-7-BallotHalf : goal.returns-in_ok-whole-in-7-BallotHalf
returns-in_ok-whole-in-7-BallotHalf c =
    whole _ _ _ _ c.requires.0 (omega arith) c.in-7-BallotHalf.is-1 c.in-7-BallotHalf.is-0 c.in_ok-whole-in-7-BallotHalf.ensures.0 c.in_ok-whole-in-7-BallotHalf.ensures.1 c.ballot_half_rules.ensures

pub returns-in_err-whole-in-8-ListHalf : goal.returns-in_err-whole-in-8-ListHalf
returns-in_err-whole-in-8-ListHalf c = cut _ _ _ _ c.requires.0 (omega arith) c.in-8-ListHalf.is-1 c.in-8-ListHalf.is-0 (search rules) c.in_err-whole-in-8-ListHalf.ensures.1

pub returns-in_ok-whole-in-8-ListHalf : goal.returns-in_ok-whole-in-8-ListHalf
returns-in_ok-whole-in-8-ListHalf c =
    whole _ _ _ _ c.requires.0 (omega arith) c.in-8-ListHalf.is-1 c.in-8-ListHalf.is-0 c.in_ok-whole-in-8-ListHalf.ensures.0 c.in_ok-whole-in-8-ListHalf.ensures.1 c.list_half_rules.ensures

pub returns-in_err-whole-in-9-Vote : goal.returns-in_err-whole-in-9-Vote
returns-in_err-whole-in-9-Vote c = cut _ _ _ _ c.requires.0 (omega arith) c.in-9-Vote.is-1 c.in-9-Vote.is-0 (search rules) c.in_err-whole-in-9-Vote.ensures.1

pub returns-in_ok-whole-in-9-Vote : goal.returns-in_ok-whole-in-9-Vote
returns-in_ok-whole-in-9-Vote c =
    whole _ _ _ _ c.requires.0 (omega arith) c.in-9-Vote.is-1 c.in-9-Vote.is-0 c.in_ok-whole-in-9-Vote.ensures.0 c.in_ok-whole-in-9-Vote.ensures.1 c.vote_rules.ensures

pub returns-in_err-whole-in-10-FullOpening : goal.returns-in_err-whole-in-10-FullOpening
returns-in_err-whole-in-10-FullOpening c = cut _ _ _ _ c.requires.0 (omega arith) c.in-10-FullOpening.is-1 c.in-10-FullOpening.is-0 (search rules) c.in_err-whole-in-10-FullOpening.ensures.1

pub returns-in_ok-whole-in-10-FullOpening : goal.returns-in_ok-whole-in-10-FullOpening
returns-in_ok-whole-in-10-FullOpening c =
    whole _ _ _ _ c.requires.0 (omega arith) c.in-10-FullOpening.is-1 c.in-10-FullOpening.is-0 c.in_ok-whole-in-10-FullOpening.ensures.0 c.in_ok-whole-in-10-FullOpening.ensures.1 c.full_rules.ensures

pub returns-in-11-End : goal.returns-in-11-End
returns-in-11-End c = whole _ _ _ _ c.requires.0 (omega arith) c.in-11-End.is-1 c.in-11-End.is-0 refl (omega arith) refl

pub returns-in_err-whole-in-1-First : goal.returns-in_err-whole-in-1-First
returns-in_err-whole-in-1-First c =
    let t = told c.args.c.parameters _ _ _ _ c.in-1-First.is-1 c.requires in
    let byte = c.in-1-First.is-0 in
    let w = unnumbered_width c.args.c.parameters _ t byte in
    cut _ _ _ _ c.requires.0 (omega arith) c.in-1-First.is-1 (unnumbered_due c.args.c.parameters _ t byte) (search rules) (omega (arith, w, c.in_err-whole-in-1-First.ensures.1))

pub first_rules-requires : goal.first_rules-requires
first_rules-requires c =
    let t = told c.args.c.parameters _ _ _ _ c.in-1-First.is-1 c.requires in
    let byte = c.in-1-First.is-0 in
    let w = unnumbered_width c.args.c.parameters _ t byte in
    first_whole c.args.c.parameters _ t c.in_ok-whole-in-1-First.ensures.0 (omega (arith, w, c.in_ok-whole-in-1-First.ensures.1))

pub returns-in_ok-whole-in-1-First : goal.returns-in_ok-whole-in-1-First
returns-in_ok-whole-in-1-First c =
    let t = told c.args.c.parameters _ _ _ _ c.in-1-First.is-1 c.requires in
    let byte = c.in-1-First.is-0 in
    let w = unnumbered_width c.args.c.parameters _ t byte in
    whole _ _ _ _ c.requires.0 (omega arith) c.in-1-First.is-1 (unnumbered_due c.args.c.parameters _ t byte) c.in_ok-whole-in-1-First.ensures.0 (omega (arith, w, c.in_ok-whole-in-1-First.ensures.1)) c.first_rules.ensures

pub returns-in_err-whole-in-12-First : goal.returns-in_err-whole-in-12-First
returns-in_err-whole-in-12-First c =
    let t = told c.args.c.parameters _ _ _ _ c.in-12-First.is-1 c.requires in
    let byte = c.in-12-First.is-0 in
    let w = numbered_width c.args.c.parameters _ t byte in
    cut _ _ _ _ c.requires.0 (omega arith) c.in-12-First.is-1 (numbered_due c.args.c.parameters _ t byte) (search rules) (omega (arith, w, c.in_err-whole-in-12-First.ensures.1))

pub first_rules-requires-in-12-First : goal.first_rules-requires-in-12-First
first_rules-requires-in-12-First c =
    let t = told c.args.c.parameters _ _ _ _ c.in-12-First.is-1 c.requires in
    let byte = c.in-12-First.is-0 in
    let w = numbered_width c.args.c.parameters _ t byte in
    first_whole c.args.c.parameters _ t c.in_ok-whole-in-12-First.ensures.0 (omega (arith, w, c.in_ok-whole-in-12-First.ensures.1))

pub returns-in_ok-whole-in-12-First : goal.returns-in_ok-whole-in-12-First
returns-in_ok-whole-in-12-First c =
    let t = told c.args.c.parameters _ _ _ _ c.in-12-First.is-1 c.requires in
    let byte = c.in-12-First.is-0 in
    let w = numbered_width c.args.c.parameters _ t byte in
    whole _ _ _ _ c.requires.0 (omega arith) c.in-12-First.is-1 (numbered_due c.args.c.parameters _ t byte) c.in_ok-whole-in-12-First.ensures.0 (omega (arith, w, c.in_ok-whole-in-12-First.ensures.1)) c.first_rules-in-12-First.ensures

pub returns-in_default : goal.returns-in_default
returns-in_default c = another_due _ _ _ _ c.requires.0 (omega arith) c.in_default.is-0 c.in_default.not-First-1

pub returns-in_default-2 : goal.returns-in_default-2
returns-in_default-2 c = another_due _ _ _ _ c.requires.0 (omega arith) c.in_default.is-0 c.in_default.not-Ballot-1

pub returns-in_default-3 : goal.returns-in_default-3
returns-in_default-3 c = another_due _ _ _ _ c.requires.0 (omega arith) c.in_default.is-0 c.in_default.not-Entry-1

pub returns-in_default-4 : goal.returns-in_default-4
returns-in_default-4 c = another_due _ _ _ _ c.requires.0 (omega arith) c.in_default.is-0 c.in_default.not-FirstDice-1

pub returns-in_default-5 : goal.returns-in_default-5
returns-in_default-5 c = another_due _ _ _ _ c.requires.0 (omega arith) c.in_default.is-0 c.in_default.not-Link-1

pub returns-in_default-6 : goal.returns-in_default-6
returns-in_default-6 c = another_due _ _ _ _ c.requires.0 (omega arith) c.in_default.is-0 c.in_default.not-SecondDice-1

pub returns-in_default-7 : goal.returns-in_default-7
returns-in_default-7 c = another_due _ _ _ _ c.requires.0 (omega arith) c.in_default.is-0 c.in_default.not-BallotHalf-1

pub returns-in_default-8 : goal.returns-in_default-8
returns-in_default-8 c = another_due _ _ _ _ c.requires.0 (omega arith) c.in_default.is-0 c.in_default.not-ListHalf-1

pub returns-in_default-9 : goal.returns-in_default-9
returns-in_default-9 c = another_due _ _ _ _ c.requires.0 (omega arith) c.in_default.is-0 c.in_default.not-Vote-1

pub returns-in_default-10 : goal.returns-in_default-10
returns-in_default-10 c = another_due _ _ _ _ c.requires.0 (omega arith) c.in_default.is-0 c.in_default.not-FullOpening-1

pub returns-in_default-11 : goal.returns-in_default-11
returns-in_default-11 c = another_due _ _ _ _ c.requires.0 (omega arith) c.in_default.is-0 c.in_default.not-End-1

pub returns-in_default-12 : goal.returns-in_default-12
returns-in_default-12 c = another_due _ _ _ _ c.requires.0 (omega arith) c.in_default.is-0 c.in_default.not-First-1

pub returns-in-0-default : goal.returns-in-0-default
returns-in-0-default c =
    unknown _ _ _ _ c.requires.0 (omega arith)
    (λ e. omega arith, λ e. omega arith, λ e. omega arith, λ e. omega arith, λ e. omega arith, λ e. omega arith, λ e. omega arith, λ e. omega arith, λ e. omega arith, λ e. omega arith, λ e. omega arith, λ e. omega arith)

pub returns-in-0-default-2 : goal.returns-in-0-default-2
returns-in-0-default-2 c =
    unknown _ _ _ _ c.requires.0 (omega arith)
    (λ e. omega arith, λ e. omega arith, λ e. omega arith, λ e. omega arith, λ e. omega arith, λ e. omega arith, λ e. omega arith, λ e. omega arith, λ e. omega arith, λ e. omega arith, λ e. omega arith, λ e. omega arith)
