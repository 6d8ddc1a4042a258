-- What stands in a list from one place up to another, put together from what stands between.
use Rattle.std.specs.Prelude.{◌≡◌, refl, List, [], ◌∷◌, ◌++◌, ℕ, zero, suc, ◌+◌, ◌-◌, ◌*◌, ◌≤◌, ◌<◌, length, get_or, take}
use Rattle.std.proofs.Common.{sym, ap, ap₂, ◌∙◌, le_refl, arith, drop-cons}
use Rattle.std.proofs.Math.Seq.{take-length}
use Rattle.laws.specs.Tests.{choose}
use Rattle.laws.specs.Bytes.{number, bytes, Below, bytes_number}
use Rattle.laws.specs.Chunks.{piece, chunks, piece_join}
use Rattle.laws.specs.Masks.{bit, set_before, clear_before, bit_small}

-- c stands in r from a up to e
pub record Span (r : List ℕ) (a e : ℕ) (c : List ℕ) : Type 0 where
  pub rises : a ≤ e
  pub is : c ≡ piece r a (e - a)

pub span_move : {r c : List ℕ} {a e a' e' : ℕ} → a ≡ a' → e ≡ e' → Span r a e c → Span r a' e' c
span_move p q h = rw (p, q) at h

pub span_none : (r : List ℕ) (a : ℕ) → Span r a a []
span_none r a = let z : a - a ≡ 0 = omega arith in record { rises = le_refl a; is = rw z }

-- one behind the other
pub span_join : {r c d : List ℕ} {a b e : ℕ} → Span r a b c → Span r b e d → Span r a e (c ++ d)
span_join {r} {c} {d} {a} {b} {e} h k =
    let p : b ≡ a + (b - a) = omega (arith, h.rises) in
    let q : b - a + (e - b) ≡ e - a = omega (arith, h.rises, k.rises) in
    record {
      rises = omega (arith, h.rises, k.rises);
      is =
          ap₂ (λ (x y : List ℕ). x ++ y) h.is (k.is ∙ ap (λ (n : ℕ). piece r n (e - b)) p)
          ∙ piece_join r a (b - a) (e - b) ∙ ap (λ (n : ℕ). piece r a n) q;
    }

pub span_piece : {r c : List ℕ} (a w : ℕ) → c ≡ piece r a w → Span r a (a + w) c
span_piece {r} a w h =
    let p : w ≡ a + w - a = omega arith in
    record { rises = omega arith; is = h ∙ ap (λ (n : ℕ). piece r a n) p }

pub span_one : (r : List ℕ) (a x : ℕ) → get_or r a 0 ≡ x → a < length r → Span r a (a + 1) (x ∷ [])
span_one r a x h l = span_piece a 1 (sym (ap (take 1) (drop-cons r a 0 l) ∙ ap (λ (y : ℕ). y ∷ []) h))

pub span_number : (r : List ℕ) (a w x : ℕ) → Below 256 r → number r a w ≡ x → a + w ≤ length r → Span r a (a + w) (bytes w x)
span_number r a w x small h l = span_piece a w (ap (bytes w) (sym h) ∙ bytes_number r a w small l)

pub span_chunks : {r : List ℕ} (f : ℕ → List ℕ) (at : ℕ → ℕ) (n : ℕ) → ((j : ℕ) → j < n → Span r (at j) (at (suc j)) (f j)) → Span r (at 0) (at n) (chunks f n)
span_chunks {r} f at zero h = span_none r (at 0)
span_chunks f at (suc n) h = span_join (span_chunks f at n (λ j l. h j (omega arith))) (h n (le_refl (suc n)))

-- n pieces of one width
pub span_pieces : (r : List ℕ) (f : ℕ → List ℕ) (a w n : ℕ) → ((j : ℕ) → j < n → f j ≡ piece r (a + w * j) w) → Span r a (a + w * n) (chunks f n)
span_pieces r f a w n h =
    span_move (omega arith) refl (span_chunks f (λ j. a + w * j) n (λ j l. span_move refl (omega arith) (span_piece (a + w * j) w (h j l))))

-- the whole
pub span_whole : {r c : List ℕ} (e : ℕ) → Span r 0 e c → length r ≡ e → c ≡ r
span_whole {r} e h l = let z : e - 0 ≡ length r = omega arith in h.is ∙ ap (λ (n : ℕ). take n r) z ∙ take-length r

-- ---- only where a bit is set, and only where it is clear: the places go by the rank

pub span_set : {r : List ℕ} (f : ℕ → List ℕ) (at : ℕ → ℕ) (mask k : ℕ)
    → ((l : ℕ) → l < k → bit mask l ≡ 1 → Span r (at (set_before mask l)) (at (suc (set_before mask l))) (f l))
    → Span r (at 0) (at (set_before mask k)) (chunks (λ l. choose (bit mask l) [] (f l)) k)
unfolding choose
span_set {r} f at mask k h = span_chunks (λ l. choose (bit mask l) [] (f l)) (λ l. at (set_before mask l)) k (λ l ll. one (f l) (set_before mask l) (bit mask l) (bit_small mask l) (h l ll))
  where
    one : (c : List ℕ) (n b : ℕ) → b < 2 → (b ≡ 1 → Span r (at n) (at (suc n)) c) → Span r (at n) (at (n + b)) (choose b [] c)
    one c n zero lb g = let z : n ≡ n + 0 = omega arith in span_move refl (ap at z) (span_none r (at n))
    one c n (suc b) lb g = let z : suc n ≡ n + suc b = omega arith in span_move refl (ap at z) (g (omega arith))

pub span_clear : {r : List ℕ} (f : ℕ → List ℕ) (at : ℕ → ℕ) (mask k : ℕ)
    → ((l : ℕ) → l < k → bit mask l ≡ 0 → Span r (at (clear_before mask l)) (at (suc (clear_before mask l))) (f l))
    → Span r (at 0) (at (clear_before mask k)) (chunks (λ l. choose (bit mask l) (f l) []) k)
unfolding choose
span_clear {r} f at mask k h = span_chunks (λ l. choose (bit mask l) (f l) []) (λ l. at (clear_before mask l)) k (λ l ll. one (f l) (clear_before mask l) (bit mask l) (bit_small mask l) (h l ll))
  where
    one : (c : List ℕ) (n b : ℕ) → b < 2 → (b ≡ 0 → Span r (at n) (at (suc n)) c) → Span r (at n) (at (n + (1 - b))) (choose b c [])
    one c n zero lb g = let z : suc n ≡ n + (1 - 0) = omega arith in span_move refl (ap at z) (g refl)
    one c n (suc b) lb g = let z : n ≡ n + (1 - suc b) = omega arith in span_move refl (ap at z) (span_none r (at n))
