-- Commitments as numbers: a ballot has a commitment of an earlier one exactly if it has a value of an earlier one (`laws` `Neighbours`).
use mathlib.Core.Path.{◌≡◌, sym, ap, ◌∙◌}
use mathlib.Core.Bool.{false}
use mathlib.Core.List.{List}
use Prim.Native.Nat.{ℕ, ◌+◌, ◌*◌, ◌/◌, ◌%◌, ◌<◌}
use native.Mathlib.Omega.{arith}
use lib.ListN.{length}
use lib.Seq.{take_all}
use Rattle.laws.specs.Tests.{every, unlike, every_fails, unlike_fails}
use Rattle.laws.specs.Bytes.{number, bytes, Below, bytes_number}
use Rattle.laws.specs.Neighbours.{Copy}
use Rattle.protocol.specs.Rules.{apart, original}

-- v has the values of the commitments of n ballots, each of 32 bytes
pub record Values (posted : ℕ → ℕ → List ℕ) (v : ℕ → ℕ) (n : ℕ) : Type 0 where
  pub is : (x : ℕ) → x < 6 * n → v x ≡ number (posted (x / 6) (x % 6)) 0 32
  pub long : (x : ℕ) → x < 6 * n → length (posted (x / 6) (x % 6)) ≡ 32
  pub small : (x : ℕ) → x < 6 * n → Below 256 (posted (x / 6) (x % 6))

-- two lists of w bytes that are one number
same_list : (a b : List ℕ) (w : ℕ) → length a ≡ w → length b ≡ w → Below 256 a → Below 256 b → number a 0 w ≡ number b 0 w → a ≡ b
same_list a b w l m p q e = sym (whole a l p) ∙ ap (bytes w) e ∙ whole b m q
  where
    whole : (a : List ℕ) → length a ≡ w → Below 256 a → bytes w (number a 0 w) ≡ a
    whole a l p = bytes_number a 0 w p (omega arith) ∙ take_all w a (omega arith)

module _ {posted : ℕ → ℕ → List ℕ} {v : ℕ → ℕ} {n : ℕ} (h : Values posted v n) where
  pub not_original : (j : ℕ) → j < n → original posted j ≡ false → Copy v j
  unfolding original apart
  not_original j l e =
      let (i, k, f) = (every_fails (λ i. every (λ s. every (λ t. unlike (posted i s) (posted j t)) 6) 6) j).0 e in
      let (s, m, g) = (every_fails (λ s. every (λ t. unlike (posted i s) (posted j t)) 6) 6).0 f in
      let (t, o, d) = (every_fails (λ t. unlike (posted i s) (posted j t)) 6).0 g in
      let p : (6 * i + s) / 6 ≡ i = omega arith in
      let q : (6 * i + s) % 6 ≡ s = omega arith in
      let u : (6 * j + t) / 6 ≡ j = omega arith in
      let w : (6 * j + t) % 6 ≡ t = omega arith in
      let a : v (6 * i + s) ≡ number (posted i s) 0 32 = rw (p, q) at (h.is (6 * i + s) (omega arith)) in
      let b : v (6 * j + t) ≡ number (posted j t) 0 32 = rw (u, w) at (h.is (6 * j + t) (omega arith)) in
      record {
        old = 6 * i + s;
        new = 6 * j + t;
        earlier = omega arith;
        its = u;
        alike = a ∙ ap (λ (c : List ℕ). number c 0 32) ((unlike_fails (posted i s) (posted j t)).0 d) ∙ sym b;
      }

  pub a_copy : (j : ℕ) → j < n → Copy v j → original posted j ≡ false
  unfolding original apart
  a_copy j l c = go c.old c.new c.earlier c.its c.alike
    where
      go : (x y : ℕ) → x / 6 < j → y / 6 ≡ j → v x ≡ v y → every (λ i. every (λ s. every (λ t. unlike (posted i s) (posted j t)) 6) 6) j ≡ false
      go x y o its e =
          let p : x < 6 * n = omega arith in
          let q : y < 6 * n = omega arith in
          let same : posted (x / 6) (x % 6) ≡ posted (y / 6) (y % 6) =
          same_list (posted (x / 6) (x % 6)) (posted (y / 6) (y % 6)) 32 (h.long x p) (h.long y q) (h.small x p) (h.small y q) (sym (h.is x p) ∙ e ∙ h.is y q)
          in
          (every_fails (λ i. every (λ s. every (λ t. unlike (posted i s) (posted j t)) 6) 6) j).1 (
            x / 6,
            o,
            (every_fails (λ s. every (λ t. unlike (posted (x / 6) s) (posted j t)) 6) 6).1 (
              x % 6,
              omega arith,
              (every_fails (λ t. unlike (posted (x / 6) (x % 6)) (posted j t)) 6).1
                  (y % 6, omega arith, (unlike_fails _ _).1 (same ∙ ap (λ (i : ℕ). posted i (y % 6)) its)),
            ),
          )
