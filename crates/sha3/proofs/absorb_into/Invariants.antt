-- The invariant: what is left of the message gives, from the sponge at hand, what the whole gives from the first.
use mathlib.Core.Path.{◌≡◌}
use Prim.Native.Nat.{◌-◌, ◌≤◌, ◌<◌}
use lib.ListN.{length, drop}
use Rattle.sha3.specs.Sha3.{sponge, absorb_bytes}
use Rattle.sha3.proofs.absorb_into.Given as goal

-- what is left to absorb gives what the whole gives from the start
abbrev pub invariant-loop-i : goal.invariant-loop-i
invariant-loop-i l =
    (l.i ≤ length l.p) × ((l.fill < l.rate) × (absorb_bytes l.rate (sponge l.l l.fill) (drop l.i l.p) ≡ absorb_bytes l.rate (sponge l.initial.l l.filled) l.p))

abbrev pub decreases-loop-i : goal.decreases-loop-i
decreases-loop-i l = length l.p - l.i
