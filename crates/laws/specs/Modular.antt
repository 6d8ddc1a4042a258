-- Sums and differences modulo M. Two laws reduce every fact about `a % M ≡ b % M` to `omega`: `cong` and `out`.
use Rattle.std.specs.Prelude.{◌≡◌, ℕ, ◌+◌, ◌-◌, ◌*◌, ◌/◌, ◌%◌, ◌≤◌, ◌<◌}
use Rattle.std.proofs.Common.{sym, ap, ◌∙◌, mod-eq_of_lt, mod-lt, div-add-mod', arith}
use Rattle.std.proofs.Math.Nat.{mod-add-mod, add-mod_right, add-mul-mod_self_right}

-- a + b modulo M
unfoldable pub plus : ℕ → ℕ → ℕ → ℕ
plus M a b = (a + b) % M

-- a - b modulo M, b at most M
unfoldable pub minus : ℕ → ℕ → ℕ → ℕ
minus M a b = (a + (M - b)) % M

-- ---- congruence

-- a and b differ by a multiple of M, written with two factors so that nothing is subtracted
pub cong : (M a b k l : ℕ) → a + k * M ≡ b + l * M → a % M ≡ b % M
cong M a b k l e = sym (add-mul-mod_self_right a k M) ∙ ap (λ (x : ℕ). x % M) e ∙ add-mul-mod_self_right b l M

pub out : (M a b : ℕ) → a % M ≡ b % M → a + b / M * M ≡ b + a / M * M
out M a b h = omega (arith, div-add-mod' a M, div-add-mod' b M)

-- one summand less
pub cancel : (M a b t : ℕ) → (a + t) % M ≡ (b + t) % M → a % M ≡ b % M
cancel M a b t p = cong M a b ((b + t) / M) ((a + t) / M) (omega (arith, out M (a + t) (b + t) p))

-- on side 0 a ballot's sum is the list's plus t, and on side 1 the ballot's plus t is the list's: both sides together are equal
pub both_sides : (M u v u' v' t : ℕ) → u % M ≡ (u' + t) % M → (v + t) % M ≡ v' % M → (u + v) % M ≡ (u' + v') % M
both_sides M u v u' v' t p q =
    cong M (u + v) (u' + v') ((u' + t) / M + v' / M) (u / M + (v + t) / M) (omega (arith, out M u (u' + t) p, out M (v + t) v' q))

-- ---- sums and differences

pub plus_below : (M a b : ℕ) → 0 < M → plus M a b < M
unfolding plus
plus_below M a b h = mod-lt (a + b) h

pub minus_below : (M a b : ℕ) → 0 < M → minus M a b < M
unfolding minus
minus_below M a b h = mod-lt (a + (M - b)) h

-- a sum of which a part is already taken modulo M
pub plus_plus : (M a b c : ℕ) → plus M (plus M a b) c ≡ (a + b + c) % M
unfolding plus
plus_plus M a b c = mod-add-mod (a + b) M c

pub minus_add : (M a b : ℕ) → b ≤ M → (minus M a b + b) % M ≡ a % M
unfolding minus
minus_add M a b h = mod-add-mod (a + (M - b)) M b ∙ cong M (a + (M - b) + b) a 0 1 (omega arith)

-- of three numbers that sum to w, what the first two leave
pub third_of : (M w x y z : ℕ) → x ≤ M → y ≤ M → z < M → (x + y + z) % M ≡ w % M → minus M (minus M w x) y ≡ z
unfolding minus
third_of M w x y z hx hy hz h =
    cong M (minus M w x + (M - y)) z ((w + (M - x)) / M + (x + y + z) / M) (2 + w / M) (omega (arith, div-add-mod' (w + (M - x)) M, out M (x + y + z) w h))
    ∙ mod-eq_of_lt hz

-- ---- for code: by comparing and subtracting

pub plus_over : (M a b : ℕ) → a < M → b < M → M - b ≤ a → a - (M - b) ≡ plus M a b
unfolding plus
plus_over M a b ha hb h =
    let e : a + b ≡ a - (M - b) + M = omega arith in
    sym (ap (λ (x : ℕ). x % M) e ∙ add-mod_right (a - (M - b)) M ∙ mod-eq_of_lt (omega arith))

pub plus_under : (M a b : ℕ) → a < M - b → a + b ≡ plus M a b
unfolding plus
plus_under M a b h = sym (mod-eq_of_lt (omega arith))

pub minus_over : (M a b : ℕ) → a < M → b ≤ a → a - b ≡ minus M a b
unfolding minus
minus_over M a b ha h =
    let e : a + (M - b) ≡ a - b + M = omega arith in
    sym (ap (λ (x : ℕ). x % M) e ∙ add-mod_right (a - b) M ∙ mod-eq_of_lt (omega arith))

pub minus_under : (M a b : ℕ) → b < M → a < b → a + (M - b) ≡ minus M a b
unfolding minus
minus_under M a b hb h = sym (mod-eq_of_lt (omega arith))
