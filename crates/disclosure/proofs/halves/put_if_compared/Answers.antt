-- `halves::put_if_compared` meets its contract: by the list's bit of the mask.
use mathlib.Core.Path.{◌≡◌, sym, ap, ◌∙◌}
use Rattle.std.proofs.Common.{subst}
use mathlib.Core.List.{[]}
use Prim.Native.Nat.{ℕ, ◌+◌, ◌*◌, ◌≤◌, ◌<◌}
use native.Mathlib.Omega.{arith}
use lib.ListN.{length}
use Rattle.laws.specs.Masks.{bit}
use Rattle.laws.specs.Writing.{start, go_same, part_length}
use Rattle.protocol.specs.Terms.{item}
use Rattle.protocol.specs.Record.{list_half_command}
use Rattle.protocol.specs.Inputs.{Slices, inputs_of}
use Rattle.protocol.specs.Servers.{link_position, entry_opening}
use Rattle.mixing.specs.Followed.{InList}
use Rattle.mixing.proofs.Agreement.{ballots_same, votes, numbers, places, in_list}
use Rattle.disclosure.proofs.Openings.{keys_same, entry_keys_at, entry_keys_end, list_half_is}
use Rattle.disclosure.proofs.FullOpenings.{when_clear, when_set}
use Rattle.disclosure.proofs.LinkedHalves.{place_end, place_is, place_inside, linked_one, half_of}
use Rattle.disclosure.proofs.halves.put_if_compared.Goals as goal
use Rattle.disclosure.proofs.halves.put_if_compared.Goals.{After-rank, After-keys_at-from}

pub returns-then-mask-l-eq0 : goal.returns-then-mask-l-eq0
returns-then-mask-l-eq0 c =
    let a = c.args in
    when_clear (bit a.mask a.l) [] (half_of c.args.s.now a.j a.side a.l) c.if-mask-l-eq0.true (start a.out.now a.at (omega arith))

-- the linked place as it is looked up
abbrev place : After-rank → ℕ
place c = item c.args.places.now (c.rank.result * c.s.inside.parameters.ballots + c.args.j)

ends : (c : After-rank) → c.rank.result * c.s.inside.parameters.ballots + c.args.j < length c.args.places.now
ends c =
    rw (ballots_same c.s.view_is)
    (omega (
      arith,
      place_end c.args.s.now c.args.mask c.requires.0 c.args.l c.requires.1.1.0 c.if-mask-l-eq0.false c.requires.1.0 c.args.j c.rank.result c.requires.1.1.1.0 c.rank.ensures.0,
      c.requires.1.0.long,
    ))

pub bounds-places-rank : goal.bounds-places-rank
bounds-places-rank c = ends (goal.at.bounds-places-rank c).After-rank

found : (c : After-rank) → place c ≡ link_position (inputs_of c.args.s.now) c.args.l c.args.j
found c =
    rw (ballots_same c.s.view_is)
    (place_is c.args.s.now c.args.mask c.requires.0 c.args.l c.requires.1.1.0 c.if-mask-l-eq0.false c.requires.1.0 c.args.j c.rank.result c.requires.1.1.1.0 c.rank.ensures.0)

inside : (c : After-rank) → place c < c.args.s.now.parameters.ballots
inside c =
    rw (ballots_same c.s.view_is)
    (place_inside c.args.s.now c.args.mask c.requires.0 c.args.l c.requires.1.1.0 c.if-mask-l-eq0.false c.requires.1.0 c.args.j c.rank.result c.requires.1.1.1.0 c.rank.ensures.0)

listed : (c : After-rank) → InList c.args.s.now.parameters c.args.l
listed c = in_list c.args.s.now c.requires.0.passed.tests c.requires.1.1.0

pub keys_at-from-requires : goal.keys_at-from-requires
keys_at-from-requires c =
    let at = (goal.at.keys_at-from-requires c).After-rank in
    subst (λ (s : Slices). InList s.parameters c.args.l × (place at < s.parameters.ballots)) (sym c.s.view_is) (listed at, inside at)

-- where its keys start, and end
from_is : (c : After-keys_at-from) → c.keys_at-from.result ≡ entry_keys_at c.args.s.now.parameters.ballots c.args.l (place (goal.at.After-keys_at-from c).After-rank)
from_is c =
    c.keys_at-from.ensures.0
    ∙ ap (λ (n : ℕ). entry_keys_at n c.args.l (place (goal.at.After-keys_at-from c).After-rank)) (ballots_same c.s.view_is)

keys_end : (c : After-keys_at-from) → c.keys_at-from.result + 192 ≤ length c.s.inside.keys.now
keys_end c =
    let at = (goal.at.After-keys_at-from c).After-rank in
    omega (
      arith,
      from_is c,
      entry_keys_end c.args.s.now c.requires.0.passed c.args.l (place at) c.requires.1.1.0 (inside at),
      ap length (keys_same c.s.view_is),
    )

pub slice_bounds-put_list_half-end : goal.slice_bounds-put_list_half-end
slice_bounds-put_list_half-end c = keys_end (goal.at.slice_bounds-put_list_half-end c).After-keys_at-from

pub entry_side-six-requires : goal.entry_side-six-requires
entry_side-six-requires c =
    let s = c.args.s.now in
    let u = c.requires.0.passed.tests in
    let at = (goal.at.entry_side-six-requires c).After-rank in
    (c.requires.1.1.1.1.0, (votes s u, (numbers s u, (places s u, (listed at, inside at)))))

pub put_list_half-requires : goal.put_list_half-requires
put_list_half-requires c = (
  c.requires.1.1.1.1.0,
  (
    part_length c.s.inside.keys.now c.keys_at-from.result 192 (keys_end (goal.at.put_list_half-requires c).After-keys_at-from),
    linked_one (bit c.args.mask c.args.l) c.args.at 112 c.if-mask-l-eq0.false c.requires.1.1.1.1.1,
  ),
)

pub returns : goal.returns
returns c =
    let a = c.args in
    let t = c.args.s.now in
    let at = (goal.at.returns c).After-rank in
    when_set (bit a.mask a.l) [] (half_of t a.j a.side a.l) c.if-mask-l-eq0.false
    (go_same c.put_list_half.ensures
    (list_half_is t c.requires.0.passed _ a.l (place at) c.keys_at-from.result a.side (keys_same c.s.view_is)
    (from_is (goal.at.returns c).After-keys_at-from) c.entry_side-six.ensures
    ∙ ap (λ (i : ℕ). list_half_command a.l i (λ k. entry_opening (inputs_of t) a.l i (2 * k + a.side))) (found at)))
