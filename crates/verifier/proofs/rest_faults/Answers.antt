-- `verifier::rest_faults` meets its contract: part by part; the sponge has taken in what comes before the dice.
use mathlib.Core.Path.{sym}
use Prim.Native.Nat.{◌≤◌}
use native.Mathlib.Omega.{arith}
use lib.ListN.{length}
use borrow.Author.Rules.{rules}
use Rattle.protocol.specs.Layout.{at_first_dice}
use Rattle.protocol.proofs.Lengths.{first_dice_inside}
use Rattle.sha3.proofs.Taking.{start_fill}
use Rattle.verifier.proofs.Known.{part_one_reaches, part_two_reaches, part_two_stands, prefix_start, prefix_on}
use Rattle.verifier.proofs.Stages.{err_then, ok_then}
use Rattle.verifier.proofs.rest_faults.Goals as goal
use Rattle.verifier.proofs.rest_faults.Goals.{In_ok-part_one_faults}

pub returns-in_err-part_one_faults : goal.returns-in_err-part_one_faults
returns-in_err-part_one_faults c = err_then _ _ c.in_err-part_one_faults.ensures (grind arith)

-- part one stands, and reaches to the first dice
reaches : (c : In_ok-part_one_faults) → (let r = c.args.r in at_first_dice r.parameters ≤ length r.bytes.now)
reaches c =
    let r = c.args.r in
    part_one_reaches r.drawn r.parameters r.bytes.now (sym c.in_ok-part_one_faults.ensures) c.requires.ballots_low c.requires.compared_low

pub take_in-kept-requires : goal.take_in-kept-requires
take_in-kept-requires c =
    let h = reaches (goal.at.take_in-kept-requires c).In_ok-part_one_faults in
    (omega arith, (omega (arith, h, c.at_first_dice-dice.ensures.0), start_fill 144 c.start.ensures (search rules)))

pub part_two_faults-requires : goal.part_two_faults-requires
part_two_faults-requires c =
    record {
      few = c.requires.few;
      reaches = reaches (goal.at.part_two_faults-requires c).In_ok-part_one_faults;
      taken = record {
        fill = c.take_in-kept.ensures.0;
        prefix_is = λ d. prefix_start c.args.r.bytes.now c.start.ensures c.at_first_dice-dice.ensures.0 (c.take_in-kept.ensures.1 d);
      };
    }

pub returns-in_err-part_two_faults : goal.returns-in_err-part_two_faults
returns-in_err-part_two_faults c = ok_then _ _ c.in_ok-part_one_faults.ensures (err_then _ _ c.in_err-part_two_faults.ensures (grind arith))

pub take_in-whole-requires : goal.take_in-whole-requires
take_in-whole-requires c =
    let p = c.args.r.parameters in
    let t = part_two_stands c.args.r.drawn p c.args.r.bytes.now (sym c.in_ok-part_two_faults.ensures) in
    let h = part_two_reaches c.args.r.drawn p c.args.r.bytes.now t.0 t.1 c.requires.ballots_low in
    let d = c.at_first_dice-dice.ensures.0 in
    let e = c.at_second_dice.ensures.0 in
    (omega (arith, first_dice_inside p, d, e), (omega (arith, h, e), c.take_in-kept.ensures.0))

pub part_three_faults-requires : goal.part_three_faults-requires
part_three_faults-requires c =
    let p = c.args.r.parameters in
    let r = c.args.r.bytes.now in
    let t = part_two_stands c.args.r.drawn p r (sym c.in_ok-part_two_faults.ensures) in
    let first = c.at_first_dice-dice.ensures.0 in
    record {
      links = record { dice = record { few = c.requires.few; first_dice = t.0 }; links = t.1 };
      taken = record {
        fill = c.take_in-whole.ensures.0;
        prefix_is = λ d.
            prefix_on r (prefix_start r c.start.ensures first (c.take_in-kept.ensures.1 d)) first c.at_second_dice.ensures.0
            (omega (arith, first_dice_inside p)) (c.take_in-whole.ensures.1 d);
      };
    }

pub returns : goal.returns
returns c = ok_then _ _ c.in_ok-part_one_faults.ensures (ok_then _ _ c.in_ok-part_two_faults.ensures c.part_three_faults.ensures)
