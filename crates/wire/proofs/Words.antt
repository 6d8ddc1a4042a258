-- Two numbers of bytes, compared word by word, the most significant first.
use mathlib.Core.Path.{◌≡◌, refl, sym, ap₂, ◌∙◌, subst}
use mathlib.Core.List.{List}
use Prim.Native.Nat.{ℕ, zero, suc, ◌+◌, ◌-◌, ◌*◌, ◌^◌, ◌≤◌, ◌<◌}
use native.Mathlib.Nat.{add-zero, add-suc}
use native.Mathlib.Omega.{arith}
use lib.ListN.{get_or}
use Rattle.laws.specs.Bytes.{number}
use mathlib.Core.Logic.{◌≢◌}
use native.Mathlib.Decide.{dec_lt}
use Rattle.std.specs.Ordering.{nat_cmp}
use Rattle.wire.specs.Comparing.{is_less, is_greater}
use Rattle.wire.proofs.Halves.{read_on}

-- what stands behind does not change the order
pub number_less : (r s : List ℕ) (a b v w : ℕ) → ((i : ℕ) → get_or r i 0 < 256) → number r a v < number s b v
    → number r a (v + w) < number s b (v + w)
unfolding number
number_less r s a b v zero small l = rw (add-zero v) l
number_less r s a b v (suc w) small l = rw (add-suc v w) (omega (arith, number_less r s a b v w small l, small (a + (v + w))))

-- the words from place k on are the first that differ
pub word_less : (r s : List ℕ) (a b k : ℕ) {p q : ℕ} → ((i : ℕ) → get_or r i 0 < 256) → k + 8 ≤ 32 → number r a k ≡ number s b k
    → p ≡ number r (a + k) 8 → q ≡ number s (b + k) 8 → p < q → number r a 32 < number s b 32
word_less r s a b k {p} {q} small l e f g o =
    let h : k + 8 + (32 - (k + 8)) ≡ 32 = omega arith in
    subst (λ (w : ℕ). number r a w < number s b w) h
    (number_less r s a b (k + 8) (32 - (k + 8)) small (omega (arith, e, read_on r a k 8 refl f, read_on s b k 8 refl g)))

-- the words from place k on are equal too
pub word_same : (r s : List ℕ) (a b k : ℕ) {p q : ℕ} → number r a k ≡ number s b k → p ≡ number r (a + k) 8 → q ≡ number s (b + k) 8 → p ≡ q
    → number r a (k + 8) ≡ number s b (k + 8)
word_same r s a b k {p} {q} e f g o = sym (read_on r a k 8 refl f) ∙ ap₂ (λ (x y : ℕ). x * 256 ^ 8 + y) e o ∙ read_on s b k 8 refl g

-- .. and so their order is that of the numbers
pub word_first : (r s : List ℕ) (a b k : ℕ) {p q : ℕ} → ((i : ℕ) → get_or r i 0 < 256) → ((i : ℕ) → get_or s i 0 < 256) → k + 8 ≤ 32 → number r a k ≡ number s b k
    → p ≡ number r (a + k) 8 → q ≡ number s (b + k) 8 → p ≢ q → nat_cmp p q ≡ nat_cmp (number r a 32) (number s b 32)
word_first r s a b k {p} {q} small small' l e f g ne = go (dec_lt p q)
  where
    go : Dec (p < q) → nat_cmp p q ≡ nat_cmp (number r a 32) (number s b 32)
    go (yes h) = is_less h ∙ sym (is_less (word_less r s a b k small l e f g h))
    go (no n) =
        let h : q < p = omega arith in
        is_greater h ∙ sym (is_greater (word_less s r b a k small' l (sym e) g f h))
