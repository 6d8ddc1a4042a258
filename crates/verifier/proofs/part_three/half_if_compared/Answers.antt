-- `verifier::part_three::half_if_compared` meets its contract: by the list's bit of the mask.
use mathlib.Core.Path.{◌≡◌, ap, ◌∙◌}
use mathlib.Core.Logic.{◌≢◌}
use Prim.Native.Nat.{ℕ}
use native.Mathlib.Omega.{arith}
use Rattle.laws.specs.Masks.{bit, set_before, bit_set}
use Rattle.protocol.specs.Layout.{at_list_half}
use Rattle.protocol.specs.Record.{mask_of, list_half_place}
use Rattle.verifier.proofs.Stages.{compared_go, compared_pass, bit_is, bit_not}
use Rattle.verifier.proofs.Known.{mask_there, half_known}
use Rattle.verifier.proofs.part_three.half_if_compared.Goals as goal
use Rattle.verifier.proofs.part_three.half_if_compared.Goals.{After-at_list_half-at, Else-mask-l-eq0}

pub mask-mask-requires : goal.mask-mask-requires
mask-mask-requires c = mask_there c.requires.0.links.dice

pub returns-then-mask-l-eq0 : goal.returns-then-mask-l-eq0
returns-then-mask-l-eq0 c = compared_pass _ _ _ _ (bit_is c.args.l c.mask-mask.ensures c.if-mask-l-eq0.true)

pub rank-requires : goal.rank-requires
rank-requires c = let s = c in omega (arith, s.requires.1, s.requires.0.links.dice.few.compared)

pub at_list_half-at-requires : goal.at_list_half-at-requires
at_list_half-at-requires c =
    let s = c in
    let few = s.requires.0.links.dice.few in
    (few, (omega (arith, s.requires.0.ballot, few.ballots), omega (arith, s.requires.1, few.compared, c.rank.ensures.2)))

-- a list half's place is by its list's rank
place : (c : After-at_list_half-at) →
    (let s = c.args in c.at_list_half-at.result ≡ list_half_place s.r.parameters s.r.bytes.now s.l s.j)
unfolding list_half_place
place c =
    let s = c in
    c.at_list_half-at.ensures.0
    ∙ ap (at_list_half s.args.r.parameters s.args.j) (c.rank.ensures.0 ∙ ap (λ (m : ℕ). set_before m s.args.l) c.mask-mask.ensures)

set : (c : Else-mask-l-eq0) → (let s = c.args in bit (mask_of s.r.parameters s.r.bytes.now) s.l ≢ 0)
set c = bit_not c.args.l c.mask-mask.ensures c.if-mask-l-eq0.false

pub fault-requires : goal.fault-requires
fault-requires c =
    let s = c in
    (place c, half_known s.requires.0 s.requires.1 (bit_set _ s.args.l (set (goal.at.fault-requires c).Else-mask-l-eq0)))

pub returns : goal.returns
returns c = compared_go _ _ _ _ (set (goal.at.returns c).Else-mask-l-eq0) c.fault.ensures
