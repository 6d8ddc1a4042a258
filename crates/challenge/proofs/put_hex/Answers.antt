-- `challenge::put_hex` meets its contract. The loop: the digits of the first i bytes are written.
use mathlib.Core.Path.{◌≡◌, ap, ap₂, ◌∙◌}
use Prim.Native.Nat.{ℕ, ◌+◌}
use native.Mathlib.Omega.{arith}
use lib.ListN.{length, set, take, length-set}
use lib.Seq.{take-length}
use Rattle.laws.specs.Writing.{wrote, start, put_two, go_on, go_same}
use Rattle.protocol.specs.Drawing.{hex_digits}
use Rattle.challenge.proofs.Digits.{hex_none, hex_more}
use Rattle.challenge.proofs.put_hex.Goals as goal

pub loop-b-init : goal.loop-b-init
loop-b-init c = (omega arith, go_same (start _ _ (omega arith)) (hex_none c.args.s.now))

pub hex_digit-requires : goal.hex_digit-requires
hex_digit-requires c = omega (arith, c.type_inv.s c.loop-b.b-index)

pub bounds-out-next-in-loop-b : goal.bounds-out-next-in-loop-b
bounds-out-next-in-loop-b c = simp length-set (omega arith)

pub loop-b-preserved : goal.loop-b-preserved
loop-b-preserved c =
    let s = c.args.s.now in
    let i = c.loop-b.b-index in
    let two = ap₂ (λ (x y : ℕ). set (set c.loop-b.out c.loop-b.next x) (c.loop-b.next + 1) y) c.hex_digit.ensures c.hex_digit-in-loop-b.ensures
    ∙ put_two c.loop-b.out c.loop-b.next _ _ (omega arith) in
    (omega arith, go_same (go_on c.loop-b.invariant.1 (record { wrote = wrote two (omega arith); to = omega arith })) (hex_more s i (omega arith)))

pub returns : goal.returns
returns c =
    let s = c.args.s.now in
    let e : c.loop-b.b-index ≡ length s = omega arith in
    go_same c.loop-b.invariant.1 (ap (λ (k : ℕ). hex_digits (take k s)) e ∙ ap hex_digits (take-length s))
