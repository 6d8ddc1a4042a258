-- Numbers as bytes, the most significant byte first.
use Rattle.std.specs.Prelude.{◌≡◌, refl, List, [], ◌∷◌, ◌++◌, ℕ, zero, suc, ◌+◌, ◌*◌, ◌/◌, ◌%◌, ◌^◌, ◌≤◌, ◌<◌, length, get_or, take, drop}
use Rattle.std.proofs.Common.{sym, ap, ap₂, ◌∙◌, div-add-mod', div-lt_iff_lt-mul, arith, length-append, length-drop, get_or-take, get_or-drop, take-suc}
use Rattle.std.proofs.Math.Arith.{lt-one}
use Rattle.std.proofs.Math.ListN.{get_or-append}
use Rattle.std.proofs.lemmas.List.{get_or_at}
use Rattle.laws.specs.Chunks.{piece}

-- the number of w bytes at place a of a list
unfoldable pub number : List ℕ → ℕ → ℕ → ℕ
number r a zero = 0
number r a (suc w) = number r a w * 256 + get_or r (a + w) 0

-- the lowest w bytes of a number
unfoldable pub bytes : ℕ → ℕ → List ℕ
bytes zero x = []
bytes (suc w) x = bytes w (x / 256) ++ (x % 256 ∷ [])

-- every number of a list is below k; a list of bytes is one that is below 256
abbrev pub Below : ℕ → List ℕ → Type 0
Below k l = (i : ℕ) → i < length l → get_or l i 0 < k

-- ---- laws

pub length_bytes : (w x : ℕ) → length (bytes w x) ≡ w
unfolding bytes
length_bytes zero x = refl
length_bytes (suc w) x = omega (arith, length-append (bytes w (x / 256)) (x % 256 ∷ []), length_bytes w (x / 256))

-- what is read of the beginning
pub number_left : (l k : List ℕ) (a w : ℕ) → a + w ≤ length l → number (l ++ k) a w ≡ number l a w
unfolding number
number_left l k a zero h = refl
number_left l k a (suc w) h =
    ap₂ (λ (x y : ℕ). x * 256 + y) (number_left l k a w (omega arith)) (get_or-append l k 0 (a + w) (omega arith))

pub number_bytes : (w x : ℕ) → x < 256 ^ w → number (bytes w x) 0 w ≡ x
unfolding number bytes
number_bytes zero x h = sym (lt-one h)
number_bytes (suc w) x h =
    let front : List ℕ = bytes w (x / 256) in
    let e : number (front ++ (x % 256 ∷ [])) 0 w ≡ number front 0 w = number_left front (x % 256 ∷ []) 0 w (omega (arith, length_bytes w (x / 256))) in
    let f : get_or (front ++ (x % 256 ∷ [])) (0 + w) 0 ≡ x % 256 = get_or_at front (x % 256) [] 0 (0 + w) (omega (arith, length_bytes w (x / 256))) in
    let small : x / 256 < 256 ^ w = (div-lt_iff_lt-mul {k = 256} {x = x} {y = 256 ^ w} (omega arith)).1 (omega arith) in
    ap₂ (λ (p q : ℕ). p * 256 + q) (e ∙ number_bytes w (x / 256) small) f ∙ div-add-mod' x 256

-- of two lists that begin alike the same number is read there
pub number_same : (r s : List ℕ) (d a w : ℕ) → take d r ≡ take d s → a + w ≤ d → number r a w ≡ number s a w
unfolding number
number_same r s d a zero e h = refl
number_same r s d a (suc w) e h =
    ap₂ (λ (x y : ℕ). x * 256 + y) (number_same r s d a w e (omega arith))
    (sym (get_or-take d r (a + w) 0 (omega arith)) ∙ ap (λ (l : List ℕ). get_or l (a + w) 0) e ∙ get_or-take d s (a + w) 0 (omega arith))

-- a number read, written again
pub bytes_number : (r : List ℕ) (a w : ℕ) → Below 256 r → a + w ≤ length r → bytes w (number r a w) ≡ piece r a w
unfolding number bytes
bytes_number r a zero small h = refl
bytes_number r a (suc w) small h =
    let b : get_or r (a + w) 0 < 256 = small (a + w) (omega arith) in
    let front : (number r a w * 256 + get_or r (a + w) 0) / 256 ≡ number r a w = omega arith in
    let back : (number r a w * 256 + get_or r (a + w) 0) % 256 ≡ get_or r (a + w) 0 = omega arith in
    ap₂ (λ (l : List ℕ) (x : ℕ). l ++ (x ∷ [])) (ap (bytes w) front ∙ bytes_number r a w small (omega arith)) (back ∙ sym (get_or-drop a r w 0))
    ∙ sym (take-suc (drop a r) w 0 (rw (length-drop a r) (omega arith)))
