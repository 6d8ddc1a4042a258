-- `challenge::list_chosen` meets its contract: the first eight bytes of the hash, modulo the lists, are compared.
use mathlib.Core.Path.{ap, ◌∙◌}
use native.Mathlib.Omega.{arith}
use lib.ListN.{length}
use Rattle.laws.specs.Tests.{below}
use Rattle.challenge.proofs.Draws.{draw_length, list_hash_lem, chosen}
use Rattle.challenge.proofs.list_chosen.Goals as goal

pub slice_bounds-read8-end : goal.slice_bounds-read8-end
slice_bounds-read8-end c = omega (arith, ap length c.draw_hash.ensures ∙ draw_length _ _ _)

pub read8-h-requires : goal.read8-h-requires
read8-h-requires c = omega (arith, ap length c.draw_hash.ensures ∙ draw_length _ _ _)

pub returns : goal.returns
unfolding below
returns c =
    let args = c.args in
    chosen args.lists args.left (list_hash_lem args.q.now args.i c.read8-h.ensures.0 c.draw_hash.ensures)
