-- Bytes put into a list at a place. What a writer leaves is a run of these; `put_more` joins two that meet.
use Rattle.std.specs.Prelude.{◌≡◌, refl, List, [], ◌∷◌, ◌++◌, ℕ, zero, suc, ◌+◌, ◌-◌, ◌*◌, ◌≤◌, ◌<◌, length, get_or, set, take, drop}
use Rattle.std.proofs.Common.{sym, ap, ap₂, ◌∙◌, append_assoc, append-nil, add-one, mul-le-mul_right, suc-mul, arith, length-append, length-drop, take-append-drop, take_at, drop_at, drop-drop, length-take-le, take-suc}
use Rattle.std.proofs.Math.Decide.{ℕ_discrete}
use Rattle.std.proofs.lemmas.List.{set_split}
use Rattle.std.proofs.Math.Seq.{drop-length}
use Rattle.laws.specs.Chunks.{chunks}

-- l, with v in the place of what stood from a on
unfoldable pub put : List ℕ → ℕ → List ℕ → List ℕ
put l a v = take a l ++ (v ++ drop (a + length v) l)

pub put_length : (l : List ℕ) (a : ℕ) (v : List ℕ) → a + length v ≤ length l → length (put l a v) ≡ length l
unfolding put
put_length l a v h =
    omega (arith, length-append (take a l) (v ++ drop (a + length v) l), length-append v (drop (a + length v) l), length-drop (a + length v) l, length-take-le a l (omega arith))

-- what a part that was lent leaves
pub put_part : (l : List ℕ) (a e : ℕ) (v : List ℕ) → e ≡ a + length v → take a l ++ (v ++ drop e l) ≡ put l a v
unfolding put
put_part l a e v h = rw h

pub put_set : (l : List ℕ) (a x : ℕ) → a < length l → set l a x ≡ put l a (x ∷ [])
unfolding put
put_set l a x h = set_split l a x h ∙ ap (λ (k : ℕ). take a l ++ x ∷ drop k l) (sym (add-one a))

pub put_none : (l : List ℕ) (a : ℕ) → put l a [] ≡ l
unfolding put
put_none l a =
    let e : a + 0 ≡ a = omega arith in
    ap (λ (k : ℕ). take a l ++ drop k l) e ∙ take-append-drop a l

pub put_all : (l v : List ℕ) → length v ≡ length l → put l 0 v ≡ v
unfolding put
put_all l v h =
    let e : 0 + length v ≡ length l = omega arith in
    ap (λ (k : ℕ). v ++ drop k l) e ∙ ap (λ (x : List ℕ). v ++ x) (drop-length l) ∙ append-nil v

-- two that meet
pub put_more : (l : List ℕ) (a b : ℕ) (v w : List ℕ) → b ≡ a + length v → b + length w ≤ length l → put (put l a v) b w ≡ put l a (v ++ w)
unfolding put
put_more l a b v w e h =
    let t = length-take-le a l (omega arith) in
    let s : length (take a l ++ v) ≡ b = omega (arith, length-append (take a l) v) in
    let j : take a l ++ (v ++ drop (a + length v) l) ≡ (take a l ++ v) ++ drop (a + length v) l = sym (append_assoc (take a l) v (drop (a + length v) l)) in
    let n : a + length v + length w ≡ a + length (v ++ w) = omega (arith, length-append v w) in
    ap₂ (λ (x y : List ℕ). x ++ (w ++ y))
    (ap (take b) j ∙ take_at (take a l ++ v) (drop (a + length v) l) b s)
    (sym (drop-drop (length w) b _) ∙ ap (λ (x : List ℕ). drop (length w) (drop b x)) j ∙ ap (drop (length w)) (drop_at (take a l ++ v) (drop (a + length v) l) b s)
    ∙ drop-drop (length w) (a + length v) l ∙ ap (λ (k : ℕ). drop k l) n)
    ∙ append_assoc (take a l) v (w ++ drop (a + length (v ++ w)) l)
    ∙ ap (λ (x : List ℕ). take a l ++ x) (sym (append_assoc v w (drop (a + length (v ++ w)) l)))

-- one byte more
pub put_snoc : (l : List ℕ) (a b : ℕ) (v : List ℕ) (x : ℕ) → b ≡ a + length v → b < length l → set (put l a v) b x ≡ put l a (v ++ (x ∷ []))
put_snoc l a b v x e h =
    put_set (put l a v) b x (rw (put_length l a v (omega arith)) h) ∙ put_more l a b v (x ∷ []) e (omega arith)

-- one byte more of a copy
pub put_take : (l l' : List ℕ) (a i : ℕ) (v : List ℕ) → l' ≡ put l a (take i v) → i < length v → a + i < length l → set l' (a + i) (get_or v i 0) ≡ put l a (take (i + 1) v)
put_take l l' a i v p h k =
    let n : length (take i v) ≡ i = length-take-le i v (omega arith) in
    ap (λ (x : List ℕ). set x (a + i) (get_or v i 0)) p
    ∙ put_snoc l a (a + i) (take i v) (get_or v i 0) (omega arith) k
    ∙ ap (put l a) (sym (take-suc v i 0 h) ∙ ap (λ (k : ℕ). take k v) (sym (add-one i)))

-- stores one after another
pub put_two : (l : List ℕ) (a x y : ℕ) → a + 2 ≤ length l → set (set l a x) (a + 1) y ≡ put l a (x ∷ y ∷ [])
put_two l a x y h = ap (λ (k : List ℕ). set k (a + 1) y) (put_set l a x (omega arith)) ∙ put_snoc l a (a + 1) (x ∷ []) y refl (omega arith)

-- a call that puts w behind what was put before
pub put_then : (l l' : List ℕ) (a b : ℕ) (v w : List ℕ) → l' ≡ put l a v → b ≡ a + length v → b + length w ≤ length l → put l' b w ≡ put l a (v ++ w)
put_then l l' a b v w p e h = ap (λ (x : List ℕ). put x b w) p ∙ put_more l a b v w e h

-- ---- what a writer has done: v stands in l from a on, and gives out
pub record Wrote (l : List ℕ) (a : ℕ) (v out : List ℕ) : Type 0 where
  pub is : out ≡ put l a v
  pub long : length out ≡ length l
  pub ends : a + length v ≤ length l

pub wrote : {l out : List ℕ} {a : ℕ} {v : List ℕ} → out ≡ put l a v → a + length v ≤ length l → Wrote l a v out
wrote {l} {out} {a} {v} e h = record { is = e; long = ap length e ∙ put_length l a v h; ends = h }

pub nothing : (l : List ℕ) (a : ℕ) → a ≤ length l → Wrote l a [] l
nothing l a h = record { is = sym (put_none l a); long = refl; ends = omega arith }

-- a call that puts w behind
pub next : {l out out' : List ℕ} {a b : ℕ} {v w : List ℕ} → Wrote l a v out → Wrote out b w out' → b ≡ a + length v → Wrote l a (v ++ w) out'
next {l} {out} {out'} {a} {b} {v} {w} h e p =
    let k : b + length w ≤ length l = omega (arith, h.long, e.ends) in
    wrote (e.is ∙ put_then l out a b v w h.is p k) (omega (arith, length-append v w))

-- a turn of a loop
pub turn : {l out out' : List ℕ} {a b : ℕ} (f : ℕ → List ℕ) (j : ℕ) → Wrote l a (chunks f j) out → Wrote out b (f j) out' → b ≡ a + length (chunks f j)
    → Wrote l a (chunks f (j + 1)) out'
turn {l} {out} {out'} {a} {b} f j h e p = rw (add-one j) (next h e p)

-- a part that was lent: w is what the callee left in it
pub lent : (l : List ℕ) (a k : ℕ) {v w : List ℕ} → w ≡ v → k ≡ length v → a + k ≤ length l → Wrote l a v (take a l ++ (w ++ drop k (drop a l)))
lent l a k {v} {w} e p h =
    wrote (ap₂ (λ (x y : List ℕ). take a l ++ (x ++ y)) e (drop-drop k a l) ∙ put_part l a (a + k) v (omega arith)) (omega arith)

-- all of it
pub whole : {l out v : List ℕ} → Wrote l 0 v out → length v ≡ length l → out ≡ v
whole {l} {out} {v} h e = h.is ∙ put_all l v e

pub same : {l out : List ℕ} {a : ℕ} {v w : List ℕ} → Wrote l a v out → v ≡ w → Wrote l a w out
same h e = rw e at h

-- a part that is lent to be read
pub part_is : {A : Type 0} (l : List A) (a w : ℕ) → take (a + w - a) (drop a l) ≡ take w (drop a l)
part_is l a w =
    let e : a + w - a ≡ w = omega arith in
    ap (λ (k : ℕ). take k (drop a l)) e

pub part_length : {A : Type 0} (l : List A) (a w : ℕ) → a + w ≤ length l → length (take (a + w - a) (drop a l)) ≡ w
part_length l a w h = ap length (part_is l a w) ∙ length-take-le w (drop a l) (omega (arith, length-drop a l))

-- chunk l lies within the first k
pub chunks_within : (f : ℕ → List ℕ) (l k : ℕ) → l < k → length (chunks f l) + length (f l) ≤ length (chunks f k)
chunks_within f l zero h = absurd (omega arith)
chunks_within f l (suc k) h = go (ℕ_discrete l k) (λ m. chunks_within f l k m)
  where
    go : Dec (l ≡ k) → (l < k → length (chunks f l) + length (f l) ≤ length (chunks f k)) → length (chunks f l) + length (f l) ≤ length (chunks f k ++ f k)
    go (yes e) ih = rw e (omega (arith, length-append (chunks f k) (f k)))
    go (no ne) ih = omega (arith, length-append (chunks f k) (f k), ih (omega arith))

-- row l of k rows, each of n
pub row_within : (l k n : ℕ) → l < k → l * n + n ≤ k * n
row_within l k n h =
    let e : suc l * n ≤ k * n = mul-le-mul_right n h in
    omega (arith, suc-mul l n)

-- ---- writers that answer the next place: no width is ever named
pub record Went (l : List ℕ) (a : ℕ) (v out : List ℕ) (r : ℕ) : Type 0 where
  pub wrote : Wrote l a v out
  pub to : r ≡ a + length v

pub start : (l : List ℕ) (a : ℕ) → a ≤ length l → Went l a [] l a
start l a h = record { wrote = nothing l a h; to = omega arith }

pub go_on : {l out out' : List ℕ} {a b r : ℕ} {v w : List ℕ} → Went l a v out b → Went out b w out' r → Went l a (v ++ w) out' r
go_on {l} {out} {out'} {a} {b} {r} {v} {w} h e = record { wrote = next h.wrote e.wrote h.to; to = omega (arith, h.to, e.to, length-append v w) }

pub go_turn : {l out out' : List ℕ} {a b r : ℕ} (f : ℕ → List ℕ) (j : ℕ) → Went l a (chunks f j) out b → Went out b (f j) out' r → Went l a (chunks f (j + 1)) out' r
go_turn f j h e = rw (add-one j) (go_on h e)

pub go_same : {l out : List ℕ} {a r : ℕ} {v w : List ℕ} → Went l a v out r → v ≡ w → Went l a w out r
go_same h e = rw e at h

-- there is room for chunk j
pub room : {l out : List ℕ} {a b : ℕ} (f : ℕ → List ℕ) (j n : ℕ) → Went l a (chunks f j) out b → a + length (chunks f n) ≤ length l → j < n → b + length (f j) ≤ length out
room f j n h k i = omega (arith, h.to, h.wrote.long, chunks_within f j n i)
