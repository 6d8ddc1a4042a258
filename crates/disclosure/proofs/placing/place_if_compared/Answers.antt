-- `placing::place_if_compared` meets its contract: by the list's bit of the mask.
use mathlib.Core.Path.{◌≡◌, ap₂, ◌∙◌}
use lib.ListN.{length}
use mathlib.Core.List.{List}
use Prim.Native.Nat.{ℕ, ◌+◌, ◌-◌, ◌*◌, ◌≤◌}
use native.Mathlib.Omega.{arith}
use Rattle.laws.specs.Writing.{part_length}
use Rattle.mixing.proofs.Agreement.{places, in_list, ballots_same}
use Rattle.disclosure.proofs.LinkedHalves.{list_passed, rank_end, list_placed}
use Rattle.disclosure.proofs.placing.place_if_compared.Goals as goal
use Rattle.disclosure.proofs.placing.place_if_compared.Goals.{After-rank}

pub returns-then-mask-l-eq0 : goal.returns-then-mask-l-eq0
returns-then-mask-l-eq0 c =
    list_passed c.args.s.now c.args.mask {l = c.args.l} c.if-mask-l-eq0.true c.requires.1.1

-- where the list's places end
ends : (c : After-rank) → c.rank.result * c.s.inside.parameters.ballots + c.s.inside.parameters.ballots ≤ length c.args.places.now
ends c =
    rw (ballots_same c.s.view_is, c.rank.ensures.0)
    (omega (arith, rank_end c.args.s.now c.args.mask c.requires.0 c.args.l c.requires.1.0 c.if-mask-l-eq0.false, c.requires.1.1.long))

pub slice_bounds-fill_places-end : goal.slice_bounds-fill_places-end
slice_bounds-fill_places-end c = omega (arith, ends c)

pub fill_places-requires : goal.fill_places-requires
fill_places-requires c =
    let u = c.requires.0.passed.tests in (
      places c.args.s.now u,
      (
        in_list c.args.s.now u c.requires.1.0,
        part_length c.args.places.now (c.rank.result * c.s.inside.parameters.ballots) c.s.inside.parameters.ballots
            (ends (goal.at.fill_places-requires c).After-rank) ∙ ballots_same c.s.view_is,
      ),
    )

pub returns : goal.returns
returns c =
    let r = c.rank.result in
    let n : ℕ = c.s.inside.parameters.ballots in
    let filled : List ℕ = c.fill_places.new.out in
    let done = c.fill_places.ensures in
    let same : n ≡ c.args.s.now.parameters.ballots = ballots_same c.s.view_is in
    let wide : r * n + n - r * n ≡ n = omega arith in
    list_placed c.args.s.now c.args.mask c.requires.0 c.args.l c.requires.1.0 c.if-mask-l-eq0.false filled (r * n) (r * n + n - r * n) c.requires.1.1
    (ap₂ (λ (x y : ℕ). x * y) c.rank.ensures.0 same) (wide ∙ same) done.0 done.1
