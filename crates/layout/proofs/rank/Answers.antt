-- `layout::rank` meets its contract: the ones of the mask's bits below bit l.
use mathlib.Core.Path.{◌≡◌, ap, ◌∙◌}
use Prim.Native.Nat.{ℕ, ◌*◌, ◌%◌, ◌^◌, ◌≤◌}
use native.Mathlib.Nat.{one-mul, mod-eq_of_lt}
use native.Mathlib.Omega.{arith}
use lib.Count.{ones}
use lib.Pow.{pow_mono}
use Rattle.laws.specs.Masks.{set_before, low_ones, set_clear}
use Rattle.layout.proofs.rank.Goals as goal
use Rattle.layout.proofs.rank.Goals.{Start}

-- the bit of list l
power : (l : ℕ) → l ≤ 24 → 1 * 2 ^ l % 4294967296 ≡ 2 ^ l
power l h =
    let low : 2 ^ l ≤ 16777216 = pow_mono {i = l} {j = 24} h in
    mod-eq_of_lt (omega (arith, low)) ∙ one-mul (2 ^ l)

counted : (c : Start) → ones (c.args.mask % (1 * 2 ^ c.args.l % 4294967296)) ≡ set_before c.args.mask c.args.l
counted c = ap (λ (k : ℕ). ones (c.args.mask % k)) (power c.args.l c.requires) ∙ low_ones c.args.l c.args.mask

pub overflow_cast-result-2 : goal.overflow_cast-result-2
overflow_cast-result-2 c = omega (arith, counted c, set_clear c.args.mask c.args.l, c.requires)

pub returns : goal.returns
returns c = let e = counted c in let t = set_clear c.args.mask c.args.l in (e, omega arith, omega arith)
