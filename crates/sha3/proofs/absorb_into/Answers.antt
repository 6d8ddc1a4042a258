-- The invariant: what is left of the message gives, from the sponge at hand, what the whole gives from the first.
use mathlib.Core.Path.{◌≡◌, sym, ap, ◌∙◌}
use mathlib.Core.List.{List, []}
use Prim.Native.Nat.{ℕ, ◌+◌, ◌/◌, ◌≤◌, ◌<◌}
use native.Mathlib.Nat.{le_antisymm}
use native.Mathlib.Omega.{arith}
use lib.ListN.{length, drop, get_or, set}
use lib.Bits.{bit_xor}
use lib.Seq.{drop-length}
use borrow.Author.Tests.{leb-true}
use Rattle.sha3.specs.declared.Sponge.{Sponge}
use Rattle.sha3.specs.Sha3.{sponge, absorb_bytes, xor_byte, turn}
use Rattle.sha3.proofs.Taking.{turn_full, turn_more, moved, byte_law, word_law, half_word_law, block_law}
use Rattle.sha3.proofs.absorb_into.Goals as goal
use Rattle.sha3.proofs.absorb_into.Goals.{Joined-fill-eq0, then-fill-eq0+then-rate-p, else-fill-eq0+then-fill-eq0-2+then-p-i-ge8, else-fill-eq0+else-fill-eq0-2+then-fill-eq0-3+then-p-i-ge4, else-fill-eq0+else-fill-eq0-2+else-fill-eq0-3}

-- where the ways meet: a block, a word, the half of one or a byte was added, and the sponge is to be permuted if it is full
record Added (rate : ℕ) (p l₀ : List ℕ) (filled i : ℕ) (l : List ℕ) (fill i' : ℕ) : Type 0 where
  further : i < i'
  within : i' ≤ length p
  room : fill ≤ rate
  same : absorb_bytes rate (turn rate l fill) (drop i' p) ≡ absorb_bytes rate (sponge l₀ filled) p

added : (c : Joined-fill-eq0) →
    let args = c.args in
    Added args.rate args.p.now args.l.now args.filled c.loop-i.i c.if-fill-eq0.l c.if-fill-eq0.fill c.if-fill-eq0.i
unfolding xor_byte
added c =
    let args = c.args in
    let p = args.p.now in
    let l = c.loop-i.l in
    let n = c.loop-i.fill in
    let i = c.loop-i.i in
    let k = n / 8 in
    let rate = args.rate in
    elim c.if-fill-eq0.branch [
      | then-fill-eq0+then-rate-p w ↦
          let left : i + rate ≤ length p = omega (arith, leb-true) in
          record {
            further = omega arith;
            within = omega arith;
            room = omega arith;
            same =
                moved rate p (w.l-is ∙ w.add_block.ensures) w.fill-is w.i-is
                ∙ sym (block_law rate p l i left c.requires.0)
                ∙ ap (λ (m : ℕ). absorb_bytes rate (sponge l m) (drop i p)) (sym w.if-fill-eq0.true)
                ∙ c.loop-i.invariant.1.1;
          }
      | else-fill-eq0+then-fill-eq0-2+then-p-i-ge8 w ↦
          let left : i + 8 ≤ length p = omega (arith, leb-true) in
          let l' = w.l-is ∙ ap (λ (x : ℕ). set l k (bit_xor (get_or l k 0) x)) w.word-w.ensures in
          record {
            further = omega arith;
            within = omega arith;
            room = omega arith;
            same =
                moved rate p l' w.fill-is w.i-is
                ∙ sym (word_law rate p l n i w.if-fill-eq0-2.true (omega arith) left)
                ∙ c.loop-i.invariant.1.1;
          }
      | else-fill-eq0+else-fill-eq0-2+then-fill-eq0-3+then-p-i-ge4 w ↦
          let left : i + 4 ≤ length p = omega (arith, leb-true) in
          let l' = w.l-is ∙ ap (λ (x : ℕ). set l k (bit_xor (get_or l k 0) x)) w.half_word-w.ensures in
          record {
            further = omega arith;
            within = omega arith;
            room = omega arith;
            same =
                moved rate p l' w.fill-is w.i-is
                ∙ sym (half_word_law rate p l n i w.if-fill-eq0-3.true (omega arith) left)
                ∙ c.loop-i.invariant.1.1;
          }
      | else-fill-eq0+else-fill-eq0-2+else-fill-eq0-3 w ↦ record {
        further = omega arith;
        within = omega arith;
        room = omega arith;
        same =
            moved rate p (w.l-is ∙ w.xor_byte.ensures) w.fill-is w.i-is
            ∙ sym (byte_law rate p l n i (omega arith))
            ∙ c.loop-i.invariant.1.1;
      }
    ]

pub loop-i-smaller-then-fill-rate : goal.loop-i-smaller-then-fill-rate
loop-i-smaller-then-fill-rate c = omega (arith, added (goal.at.loop-i-smaller-then-fill-rate c).Joined-fill-eq0)

pub loop-i-preserved-then-fill-rate : goal.loop-i-preserved-then-fill-rate
loop-i-preserved-then-fill-rate c =
    let h = added (goal.at.loop-i-preserved-then-fill-rate c).Joined-fill-eq0 in
    let args = c.args in
    let j = c.if-fill-eq0 in (
      h.within,
      (
        omega arith,
        ap (λ (s : Sponge). absorb_bytes args.rate s (drop j.i args.p.now))
            (ap (λ (y : List ℕ). sponge y 0) c.permute_in_place.ensures ∙ sym (turn_full args.rate j.l j.fill c.if-fill-rate.true))
            ∙ h.same,
      ),
    )

pub loop-i-smaller : goal.loop-i-smaller
loop-i-smaller c = omega (arith, added (goal.at.loop-i-smaller c).Joined-fill-eq0)

pub loop-i-preserved : goal.loop-i-preserved
loop-i-preserved c =
    let h = added (goal.at.loop-i-preserved c).Joined-fill-eq0 in
    let args = c.args in
    let j = c.if-fill-eq0 in (
      h.within,
      (
        omega arith,
        ap (λ (s : Sponge). absorb_bytes args.rate s (drop j.i args.p.now)) (sym (turn_more args.rate j.l j.fill c.if-fill-rate.false)) ∙ h.same,
      ),
    )

pub returns : goal.returns
unfolding absorb_bytes
returns c =
    let args = c.args in
    let p = args.p.now in
    let i = c.loop-i.i in
    let end : drop i p ≡ [] = ap (λ (n : ℕ). drop n p) (le_antisymm c.loop-i.invariant.0 c.loop-i-test.false) ∙ drop-length p in
    (sym (ap (absorb_bytes args.rate (sponge c.loop-i.l c.loop-i.fill)) end) ∙ c.loop-i.invariant.1.1, c.loop-i.invariant.1.0)
