-- A list that stands in a longer one, at a place.
use Rattle.std.specs.Prelude.{◌≡◌, refl, ◌⊎◌, List, [], ◌++◌, ℕ, zero, suc, ◌+◌, ◌*◌, ◌≤◌, ◌<◌, length, get_or}
use Rattle.std.proofs.Common.{sym, ap, ap₂, ◌∙◌, inl, inr, append_assoc, append-nil, not-suc-le-zero, eq-or-lt_of_le, le_of_suc-le-suc, add-zero, le_of_lt, arith, length-append, get_or-append-add}
use Rattle.std.proofs.Math.ListN.{get_or-append}
use Rattle.std.proofs.Math.Seq.{take-length}
use Rattle.laws.specs.Bytes.{number}
use Rattle.laws.specs.Chunks.{piece, piece_left, piece_right, get_piece, chunks, start, chunks_length, start_even}

-- c stands in r at place a
pub record At (r : List ℕ) (a : ℕ) (c : List ℕ) : Type 0 where
  pub front : List ℕ
  pub back : List ℕ
  pub split : r ≡ front ++ (c ++ back)
  pub place : length front ≡ a

pub at_self : (c : List ℕ) → At c 0 c
at_self c = record { front = []; back = []; split = sym (append-nil c); place = refl }

pub at_move : {r c : List ℕ} {a b : ℕ} → a ≡ b → At r a c → At r b c
at_move e h = rw e at h

pub at_same : {x y c : List ℕ} {a : ℕ} → x ≡ y → At x a c → At y a c
at_same e h = rw e at h

pub at_left : {x c : List ℕ} {a : ℕ} (y : List ℕ) → At x a c → At (x ++ y) a c
at_left {x} {c} y h = record {
  front = h.front;
  back = h.back ++ y;
  place = h.place;
  split = ap (λ (l : List ℕ). l ++ y) h.split ∙ append_assoc h.front (c ++ h.back) y ∙ ap (λ (l : List ℕ). h.front ++ l) (append_assoc c h.back y);
}

pub at_right : {y c : List ℕ} {a : ℕ} (x : List ℕ) → At y a c → At (x ++ y) (length x + a) c
at_right {y} {c} x h = record {
  front = x ++ h.front;
  back = h.back;
  place = length-append x h.front ∙ ap (λ (n : ℕ). length x + n) h.place;
  split = ap (λ (l : List ℕ). x ++ l) h.split ∙ sym (append_assoc x h.front (c ++ h.back));
}

-- in chunk j
pub at_chunk : {c : List ℕ} {a : ℕ} (f : ℕ → List ℕ) (n j : ℕ) → j < n → At (f j) a c → At (chunks f n) (start f j + a) c
at_chunk f zero j l h = absurd (not-suc-le-zero l)
at_chunk {c} {a} f (suc n) j l h = go (eq-or-lt_of_le (le_of_suc-le-suc l)) (λ k. at_chunk f n j k h)
  where
    go : (j ≡ n) ⊎ (j < n) → (j < n → At (chunks f n) (start f j + a) c) → At (chunks f n ++ f n) (start f j + a) c
    go (inl e) ih = at_move (ap (λ (k : ℕ). k + a) (chunks_length f n ∙ ap (start f) (sym e))) (at_right (chunks f n) (rw e at h))
    go (inr k) ih = at_left (f n) (ih k)

-- ---- what is read there

pub at_get : {r c : List ℕ} {a : ℕ} → At r a c → (o : ℕ) → o < length c → get_or r (a + o) 0 ≡ get_or c o 0
at_get {r} {c} {a} h o l =
    rw (h.split, ← h.place) (get_or-append-add h.front (c ++ h.back) o 0 ∙ get_or-append c h.back 0 o l)

pub at_piece : {r c : List ℕ} {a : ℕ} → At r a c → (o w : ℕ) → o + w ≤ length c → piece r (a + o) w ≡ piece c o w
at_piece {r} {c} {a} h o w l =
    rw (h.split, ← h.place) (piece_right h.front (c ++ h.back) o w ∙ piece_left c h.back o w l)

pub at_number : {r c : List ℕ} {a : ℕ} → At r a c → (o w : ℕ) → o + w ≤ length c → number r (a + o) w ≡ number c o w
unfolding number
at_number h o zero l = refl
at_number {r} {c} {a} h o (suc w) l =
    ap₂ (λ (x y : ℕ). x * 256 + y) (at_number h o w (omega arith))
    (ap (λ (k : ℕ). get_or r k 0) (omega arith) ∙ at_get h (o + w) (omega arith))

-- the k-th of n pieces of width w that follow a head
pub field : (head : List ℕ) (f : ℕ → List ℕ) (w n k : ℕ) → ((j : ℕ) → j < n → length (f j) ≡ w) → k < n → At (head ++ chunks f n) (length head + k * w) (f k)
field head f w n k wide h = at_move (omega (arith, start_even f w n wide k (le_of_lt h))) (at_right head (at_chunk f n k h (at_self (f k))))

-- what stands whole at a place is the piece there
pub at_whole : {r c : List ℕ} (a w : ℕ) → length c ≡ w → At r a c → piece r a w ≡ c
at_whole {r} {c} a w e h =
    ap (λ (k : ℕ). piece r k w) (sym (add-zero a)) ∙ at_piece h 0 w (omega arith) ∙ ap (λ (k : ℕ). piece c 0 k) (sym e) ∙ take-length c

-- a piece of a piece
pub at_in : {r c d : List ℕ} {a b : ℕ} → At r a c → At c b d → At r (a + b) d
at_in {r} {c} {d} {a} {b} h k =
    record {
      front = h.front ++ k.front;
      back = k.back ++ h.back;
      place = length-append h.front k.front ∙ ap₂ (λ (x y : ℕ). x + y) h.place k.place;
      split =
          h.split ∙ ap (λ (l : List ℕ). h.front ++ (l ++ h.back)) k.split
          ∙ simp append_assoc;
    }

-- a number of a piece
pub number_piece : (l : List ℕ) (a w k v : ℕ) → k + v ≤ w → number (piece l a w) k v ≡ number l (a + k) v
unfolding number
number_piece l a w k zero h = refl
number_piece l a w k (suc v) h =
    ap₂ (λ (x y : ℕ). x * 256 + y) (number_piece l a w k v (omega arith))
    (get_piece l a w (k + v) (omega arith) ∙ ap (λ (i : ℕ). get_or l i 0) (omega arith))
