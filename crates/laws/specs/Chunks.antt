-- Pieces joined, of any lengths: where piece j stands.
use Rattle.std.specs.Prelude.{◌≡◌, refl, List, [], ◌∷◌, ◌++◌, ℕ, zero, suc, ◌+◌, ◌-◌, ◌*◌, ◌≤◌, ◌<◌, length, get_or, take, drop}
use Rattle.std.proofs.Common.{sym, ap, ap₂, ◌∙◌, le_refl, zero-add, suc-add, arith, length-append, length-drop, length-take-le, drop-drop, take-take, get_or-drop, get_or-take}
use Rattle.std.proofs.Math.Seq.{take-nil, drop-append-add}
use Rattle.std.proofs.lemmas.List.{drop-append-le, take-append-le}
use Rattle.laws.specs.Tests.{choose}
use Rattle.laws.specs.Sums.{sum}
use Rattle.laws.specs.Masks.{bit, set_before, clear_before}

-- the w elements of l from place a on
abbrev pub piece : List ℕ → ℕ → ℕ → List ℕ
piece l a w = take w (drop a l)

-- f 0 ++ .. ++ f (n - 1)
abbrev pub chunks : (ℕ → List ℕ) → ℕ → List ℕ
chunks f zero = []
chunks f (suc n) = chunks f n ++ f n

-- where chunk j starts: after the lengths of those before it
abbrev pub start : (ℕ → List ℕ) → ℕ → ℕ
start f j = sum (λ i. length (f i)) j

-- ---- laws

pub chunks_length : (f : ℕ → List ℕ) (n : ℕ) → length (chunks f n) ≡ start f n
chunks_length f zero = refl
chunks_length f (suc n) = length-append (chunks f n) (f n) ∙ ap (λ (x : ℕ). x + length (f n)) (chunks_length f n)

-- chunks of one width
pub start_even : (f : ℕ → List ℕ) (w n : ℕ) → ((j : ℕ) → j < n → length (f j) ≡ w) → (j : ℕ) → j ≤ n → start f j ≡ j * w
start_even f w n wide zero l = omega arith
start_even f w n wide (suc j) l = omega (arith, start_even f w n wide j (omega arith), wide j l)

-- n chunks of w elements
pub chunks_even : (f : ℕ → List ℕ) (w n : ℕ) → ((j : ℕ) → j < n → length (f j) ≡ w) → length (chunks f n) ≡ n * w
chunks_even f w n wide = chunks_length f n ∙ start_even f w n wide n (le_refl n)

pub chunks_same : (f g : ℕ → List ℕ) (n : ℕ) → ((j : ℕ) → j < n → f j ≡ g j) → chunks f n ≡ chunks g n
chunks_same f g zero h = refl
chunks_same f g (suc n) h = ap₂ (λ (x y : List ℕ). x ++ y) (chunks_same f g n (λ j l. h j (omega arith))) (h n (le_refl (suc n)))

-- ---- chunks for the set bits of a mask, and for the clear ones

length_set : (b w : ℕ) (l : List ℕ) → b < 2 → length l ≡ w → length (choose b [] l) ≡ b * w
unfolding choose
length_set zero w l h e = omega arith
length_set (suc b) w l h e = let z : b ≡ 0 = omega arith in rw z (omega arith)

length_clear : (b w : ℕ) (l : List ℕ) → b < 2 → length l ≡ w → length (choose b l []) ≡ (1 - b) * w
unfolding choose
length_clear zero w l h e = omega arith
length_clear (suc b) w l h e = let z : b ≡ 0 = omega arith in rw z (omega arith)

pub start_set : (mask w k : ℕ) (f : ℕ → List ℕ) → ((l : ℕ) → l < k → length (f l) ≡ w) → (l : ℕ) → l ≤ k → start (λ l. choose (bit mask l) [] (f l)) l ≡ set_before mask l * w
start_set mask w k f wide zero h = omega arith
start_set mask w k f wide (suc l) h =
    omega (arith, start_set mask w k f wide l (omega arith), length_set (bit mask l) w (f l) (omega arith) (wide l h))

pub start_clear : (mask w k : ℕ) (f : ℕ → List ℕ) → ((l : ℕ) → l < k → length (f l) ≡ w) → (l : ℕ) → l ≤ k → start (λ l. choose (bit mask l) (f l) []) l ≡ clear_before mask l * w
start_clear mask w k f wide zero h = omega arith
start_clear mask w k f wide (suc l) h =
    omega (arith, start_clear mask w k f wide l (omega arith), length_clear (bit mask l) w (f l) (omega arith) (wide l h))

-- ---- two lists that begin alike

-- a piece that lies in the common beginning is the same
pub piece_take : (l : List ℕ) (d a w : ℕ) → a + w ≤ d → piece (take d l) a w ≡ piece l a w
piece_take l d zero w h = take-take w d l (omega arith)
piece_take [] d (suc a) w h = rw (take-nil d)
piece_take (x ∷ xs) zero (suc a) w h = absurd (omega arith)
piece_take (x ∷ xs) (suc d) (suc a) w h = piece_take xs d a w (omega arith)

pub piece_same : (r s : List ℕ) (d a w : ℕ) → take d r ≡ take d s → a + w ≤ d → piece r a w ≡ piece s a w
piece_same r s d a w e h = sym (piece_take r d a w h) ∙ ap (λ (l : List ℕ). piece l a w) e ∙ piece_take s d a w h

-- a piece of a join
pub piece_left : (x y : List ℕ) (a w : ℕ) → a + w ≤ length x → piece (x ++ y) a w ≡ piece x a w
piece_left x y a w h =
    ap (take w) (drop-append-le a x y (omega arith)) ∙ take-append-le w (drop a x) y (rw (length-drop a x) (omega arith))

pub piece_right : (x y : List ℕ) (a w : ℕ) → piece (x ++ y) (length x + a) w ≡ piece y a w
piece_right x y a w = ap (take w) (drop-append-add x y a)

-- ---- a list is its pieces

-- two pieces that meet are one
pub piece_join : (l : List ℕ) (a v w : ℕ) → piece l a v ++ piece l (a + v) w ≡ piece l a (v + w)
piece_join l a v w =
    ap (λ (x : List ℕ). take v (drop a l) ++ take w x) (sym (drop-drop v a l)) ∙ take_join v w (drop a l)
  where
    take_join : (v w : ℕ) (l : List ℕ) → take v l ++ take w (drop v l) ≡ take (v + w) l
    take_join zero w l = ap (λ (k : ℕ). take k l) (sym (zero-add w))
    take_join (suc v) w [] = take-nil w ∙ sym (take-nil (suc v + w))
    take_join (suc v) w (x ∷ xs) = ap (λ (l : List ℕ). x ∷ l) (take_join v w xs) ∙ ap (λ (k : ℕ). take k (x ∷ xs)) (sym (suc-add v w))

-- ---- a piece that lies inside

pub length_piece : (l : List ℕ) (a w : ℕ) → a + w ≤ length l → length (piece l a w) ≡ w
length_piece l a w h = length-take-le w (drop a l) (omega (arith, length-drop a l))

pub get_piece : (l : List ℕ) (a w i : ℕ) → i < w → get_or (piece l a w) i 0 ≡ get_or l (a + i) 0
get_piece l a w i h = get_or-take w (drop a l) i 0 h ∙ get_or-drop a l i 0

-- chunk l has c l times w elements
pub start_counted : (f : ℕ → List ℕ) (c : ℕ → ℕ) (w k : ℕ) → ((l : ℕ) → l < k → length (f l) ≡ c l * w) → (l : ℕ) → l ≤ k → start f l ≡ sum c l * w
start_counted f c w k wide zero h = omega arith
start_counted f c w k wide (suc l) h = omega (arith, start_counted f c w k wide l (omega arith), wide l h)
