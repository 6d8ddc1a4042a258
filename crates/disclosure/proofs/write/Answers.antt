-- `disclosure::write` meets its contract: one command behind the other, to the end of the buffer.
use mathlib.Core.Path.{ap, ◌∙◌}
use lib.ListN.{length}
use native.Mathlib.Omega.{arith}
use Rattle.laws.specs.Writing.{go_on, go_same, whole}
use Rattle.protocol.specs.Layout.{part_three_length}
use Rattle.protocol.proofs.Widths.{length_second_dice}
use Rattle.disclosure.proofs.Openings.{votes_same}
use Rattle.disclosure.proofs.FullOpenings.{opened_long}
use Rattle.disclosure.proofs.Whole.{votes_in, shaped, sided, halves_end, votes_end, part_end, part_is}
use Rattle.disclosure.proofs.write.Goals as goal
use Rattle.disclosure.proofs.write.Goals.{Start}

pub put_second_dice-a-requires : goal.put_second_dice-a-requires
unfolding part_three_length
put_second_dice-a-requires c = let w = c.requires in (w.dice_long, omega (arith, w.out_long))

pub put_halves-b-requires : goal.put_halves-b-requires
unfolding part_three_length
put_halves-b-requires c =
    let s = c.args.s.now in
    let w = c.requires in
    let dice = c.put_second_dice-a.ensures in (
      shaped s c.args.dice.now c.args.mask c.args.sides.now w,
      (
        sided s c.args.dice.now c.args.mask c.args.sides.now w,
        omega (arith, w.out_long, dice.to, dice.wrote.long, length_second_dice c.args.dice.now w.dice_long),
      ),
    )

pub put_announced-c-requires : goal.put_announced-c-requires
unfolding part_three_length
put_announced-c-requires c =
    let w = c.requires in
    let dice = c.put_second_dice-a.ensures in
    let half = c.put_halves-b.ensures in (
      omega (arith, ap length (votes_same c.s.view_is), w.passed.tests.votes_long, w.passed.tests.ballots_high),
      omega (
        arith,
        ap length (votes_same c.s.view_is),
        w.passed.tests.votes_long,
        w.out_long,
        dice.to,
        dice.wrote.long,
        half.to,
        half.wrote.long,
        length_second_dice c.args.dice.now w.dice_long,
        halves_end c.args.s.now c.args.dice.now c.args.mask c.args.sides.now w,
      ),
    )

pub put_opened-d-requires : goal.put_opened-d-requires
unfolding part_three_length
put_opened-d-requires c =
    let s = c.args.s.now in
    let w = c.requires in
    let dice = c.put_second_dice-a.ensures in
    let half = c.put_halves-b.ensures in
    let vote = go_same c.put_announced-c.ensures (ap votes_in (votes_same c.s.view_is)) in (
      shaped s c.args.dice.now c.args.mask c.args.sides.now w,
      omega (
        arith,
        w.out_long,
        dice.to,
        dice.wrote.long,
        half.to,
        half.wrote.long,
        vote.to,
        vote.wrote.long,
        length_second_dice c.args.dice.now w.dice_long,
        halves_end s c.args.dice.now c.args.mask c.args.sides.now w,
        votes_end s c.args.dice.now c.args.mask c.args.sides.now w,
      ),
    )

pub put_end-requires : goal.put_end-requires
unfolding part_three_length
put_end-requires c =
    let s = c.args.s.now in
    let w = c.requires in
    let dice = c.put_second_dice-a.ensures in
    let half = c.put_halves-b.ensures in
    let vote = go_same c.put_announced-c.ensures (ap votes_in (votes_same c.s.view_is)) in
    let full = c.put_opened-d.ensures in
    omega (
      arith,
      w.out_long,
      dice.to,
      dice.wrote.long,
      half.to,
      half.wrote.long,
      vote.to,
      vote.wrote.long,
      full.to,
      full.wrote.long,
      length_second_dice c.args.dice.now w.dice_long,
      halves_end s c.args.dice.now c.args.mask c.args.sides.now w,
      votes_end s c.args.dice.now c.args.mask c.args.sides.now w,
      opened_long s c.args.mask (shaped s c.args.dice.now c.args.mask c.args.sides.now w),
    )

pub returns : goal.returns
returns c =
    let s = c.args.s.now in
    let vote = go_same c.put_announced-c.ensures (ap votes_in (votes_same c.s.view_is)) in
    let all = go_on c.put_second_dice-a.ensures (go_on c.put_halves-b.ensures (go_on vote (go_on c.put_opened-d.ensures c.put_end.ensures))) in
    whole all.wrote (part_end s c.args.dice.now c.args.mask c.args.sides.now c.requires ∙ omega (arith, c.requires.out_long))
    ∙ part_is s c.args.dice.now c.args.mask c.args.sides.now c.requires
