-- What a turn reads lies behind what was read before.
use Rattle.std.proofs.Common.{◌≡◌, ℕ, ◌+◌, ◌-◌, ◌≤◌, List, ◌++◌, length, take, rules, sym, ap, ◌∙◌, subst, length-take-le}
use Rattle.std.proofs.Math.Seq.{take-append-add, take-append-le}
use Rattle.std.proofs.KnownBytes.{Consumes-trans}
use Rattle.std.specs.Io.KnownBytes.{Consumes}
use borrow.Rule.Slice.PartMut.{put_mid, post_of}
use Rattle.input.proofs.read_input.Goals as goal

behind : (n m k : ℕ) (old part : List ℕ) → n ≤ length old → k ≤ length part → take (n + k) (put_mid n m old part) ≡ take n old ++ take k part
behind n m k old part h l =
    let rest = post_of n m old in
    ap (λ (i : ℕ). take (i + k) (take n old ++ (part ++ rest))) (sym (length-take-le n old h))
    ∙ take-append-add (take n old) (part ++ rest) k ∙ ap (λ (r : List ℕ). take n old ++ r) (take-append-le k part rest l)

pub loop-n-preserved : goal.loop-n-preserved
loop-n-preserved g c =
    let at = c.loop-n in
    let read = c.in_ok-k.ensures in
    let moved = behind at.n (length at.buf - at.n) c.in_ok-k.k at.buf c.read.new.buf at.invariant.1 read.bound.0 in
    (search rules, search rules, subst (Consumes _ _) (sym moved) (Consumes-trans _ _ _ _ _ at.invariant.2 read.bytes.0))
