-- A round as the code computes it: row by row, with six lanes complemented. The words may be of any kind: numbers, for the
-- contracts, and numbers with the proof that they are below 2^64, for the laws.
use Rattle.std.specs.Prelude.{List, [], ◌∷◌, ◌++◌, ℕ, zero, suc, ◌+◌, ◌*◌, ◌/◌, ◌%◌}
use Rattle.std.specs.Int.Bits.{bit_and, bit_or, bit_xor}
use Rattle.keccak.specs.Keccak.{at, rotl, not64, lanes, rotation_offsets, right}

pub record Words (A : Type 0) : Type 0 where
  pub xor : A → A → A
  pub and : A → A → A
  pub or : A → A → A
  pub no : A → A
  pub turn : A → ℕ → A

abbrev pub numbers : Words ℕ
numbers = record { xor = bit_xor; and = bit_and; or = bit_or; no = not64; turn = rotl }

-- 1 for the lanes that the code keeps complemented: 1, 2, 8, 12, 17 and 20
abbrev pub complemented : List ℕ
complemented = 0 ∷ 1 ∷ 1 ∷ 0 ∷ 0 ∷ 0 ∷ 0 ∷ 0 ∷ 1 ∷ 0 ∷ 0 ∷ 0 ∷ 1 ∷ 0 ∷ 0 ∷ 0 ∷ 0 ∷ 1 ∷ 0 ∷ 0 ∷ 1 ∷ 0 ∷ 0 ∷ 0 ∷ 0 ∷ []

-- f x at place 0, and x elsewhere
abbrev pub first : {A : Type 0} → ℕ → (A → A) → A → A
first zero f x = f x
first (suc i) f x = x

module _ {A : Type 0} (w : Words A) where
  -- the parity of column x
  unfoldable pub column_of : (ℕ → A) → ℕ → A
  column_of a x = w.xor (w.xor (w.xor (w.xor (a x) (a (x + 5))) (a (x + 10))) (a (x + 15))) (a (x + 20))

  -- what theta adds to column x
  unfoldable pub side_of : (ℕ → A) → ℕ → A
  side_of a x = w.xor (column_of a ((x + 4) % 5)) (w.turn (column_of a ((x + 1) % 5)) 1)

  -- lane x of the row y after theta and rho, where theta adds d x
  unfoldable pub turned_of : (ℕ → A) → (ℕ → A) → ℕ → ℕ → A
  turned_of row d y x = w.turn (w.xor (row x) (d x)) (at rotation_offsets (5 * y + x))

  -- f of the five lanes that pi brings into one row: from row y that of column y + j, modulo 5
  unfoldable pub gather_of : (ℕ → A) → (ℕ → A) → (ℕ → A) → (ℕ → A) → (ℕ → A) → (ℕ → A) → ℕ → (A → A → A → A → A → List A) → List A
  gather_of p q r s t d j f =
      f (turned_of p d 0 (j % 5)) (turned_of q d 1 ((j + 1) % 5)) (turned_of r d 2 ((j + 2) % 5)) (turned_of s d 3 ((j + 3) % 5)) (turned_of t d 4 ((j + 4) % 5))

  -- chi and iota on row 0, and chi on the rows 1 to 4, each on lanes of which some are complemented
  unfoldable pub chi0_of : A → A → A → A → A → A → List A
  chi0_of c b0 b1 b2 b3 b4 =
      (w.xor (w.xor b0 (w.or b1 b2)) c) ∷ (w.xor b1 (w.or (w.no b2) b3)) ∷ (w.xor b2 (w.and b3 b4)) ∷ (w.xor b3 (w.or b4 b0)) ∷ (w.xor b4 (w.and b0 b1)) ∷ []

  unfoldable pub chi1_of : A → A → A → A → A → List A
  chi1_of b0 b1 b2 b3 b4 =
      (w.xor b0 (w.or b1 b2)) ∷ (w.xor b1 (w.and b2 b3)) ∷ (w.xor b2 (w.or b3 (w.no b4))) ∷ (w.xor b3 (w.or b4 b0)) ∷ (w.xor b4 (w.and b0 b1)) ∷ []

  unfoldable pub chi2_of : A → A → A → A → A → List A
  chi2_of b0 b1 b2 b3 b4 =
      (w.xor b0 (w.or b1 b2)) ∷ (w.xor b1 (w.and b2 b3)) ∷ (w.xor b2 (w.and (w.no b3) b4)) ∷ (w.xor (w.no b3) (w.or b4 b0)) ∷ (w.xor b4 (w.and b0 b1)) ∷ []

  unfoldable pub chi3_of : A → A → A → A → A → List A
  chi3_of b0 b1 b2 b3 b4 =
      (w.xor b0 (w.and b1 b2)) ∷ (w.xor b1 (w.or b2 b3)) ∷ (w.xor b2 (w.or (w.no b3) b4)) ∷ (w.xor (w.no b3) (w.and b4 b0)) ∷ (w.xor b4 (w.or b0 b1)) ∷ []

  unfoldable pub chi4_of : A → A → A → A → A → List A
  chi4_of b0 b1 b2 b3 b4 =
      (w.xor b0 (w.and (w.no b1) b2)) ∷ (w.xor (w.no b1) (w.or b2 b3)) ∷ (w.xor b2 (w.and b3 b4)) ∷ (w.xor b3 (w.or b4 b0)) ∷ (w.xor b4 (w.and b0 b1)) ∷ []

  -- the round of the code
  unfoldable pub round_of : A → (ℕ → A) → List A
  round_of c a =
      let row : ℕ → ℕ → A = λ y x. a (5 * y + x) in
      let gather : ℕ → (A → A → A → A → A → List A) → List A = gather_of (row 0) (row 1) (row 2) (row 3) (row 4) (side_of a) in
      gather 0 (chi0_of c) ++ (gather 3 chi1_of ++ (gather 1 chi2_of ++ (gather 4 chi3_of ++ gather 2 chi4_of)))

  -- x, complemented if n is not 0
  abbrev pub by : ℕ → A → A
  by zero x = x
  by (suc n) x = w.no x

  unfoldable pub flip_of : (ℕ → A) → ℕ → A
  flip_of a i = by (at complemented i) (a i)

  -- lane i after the round of the standard
  unfoldable pub standard : A → (ℕ → A) → ℕ → A
  standard c a i =
      let from : ℕ → ℕ = λ k. (k % 5 + 3 * (k / 5)) % 5 + 5 * (k % 5) in
      let b : ℕ → A = λ k. w.turn (w.xor (a (from k)) (side_of a (from k % 5))) (at rotation_offsets (from k)) in
      first i (λ x. w.xor x c) (w.xor (b i) (w.and (w.no (b (right 1 i))) (b (right 2 i))))

  abbrev pub list_of : (ℕ → A) → List A
  list_of a = a 0 ∷ a 1 ∷ a 2 ∷ a 3 ∷ a 4 ∷ a 5 ∷ a 6 ∷ a 7 ∷ a 8 ∷ a 9 ∷ a 10 ∷ a 11 ∷ a 12 ∷ a 13 ∷ a 14 ∷ a 15 ∷ a 16 ∷ a 17 ∷ a 18 ∷ a 19 ∷ a 20 ∷ a 21 ∷ a 22 ∷ a 23 ∷ a 24 ∷ []

-- the row of a state that starts at lane k
unfoldable pub row_at : List ℕ → ℕ → List ℕ
row_at a k = at a k ∷ at a (k + 1) ∷ at a (k + 2) ∷ at a (k + 3) ∷ at a (k + 4) ∷ []

-- the state that five rows make
unfoldable pub flat : List ℕ → List ℕ → List ℕ → List ℕ → List ℕ → List ℕ
flat p q r s t =
    at p 0 ∷ at p 1 ∷ at p 2 ∷ at p 3 ∷ at p 4 ∷ at q 0 ∷ at q 1 ∷ at q 2 ∷ at q 3 ∷ at q 4 ∷ at r 0 ∷ at r 1 ∷ at r 2 ∷ at r 3 ∷ at r 4 ∷ at s 0 ∷ at s 1 ∷ at s 2 ∷ at s 3 ∷ at s 4 ∷ at t 0 ∷ at t 1 ∷ at t 2 ∷ at t 3 ∷ at t 4 ∷ []

-- what theta adds to the five columns
unfoldable pub sides : List ℕ → List ℕ → List ℕ → List ℕ → List ℕ → List ℕ
sides p q r s t = let d : ℕ → ℕ = side_of numbers (at (flat p q r s t)) in d 0 ∷ d 1 ∷ d 2 ∷ d 3 ∷ d 4 ∷ []

-- the five lanes that pi brings into one row, after theta
unfoldable pub summed : List ℕ → List ℕ → List ℕ → List ℕ → List ℕ → List ℕ → ℕ → List ℕ
summed p q r s t d j =
    bit_xor (at p (j % 5)) (at d (j % 5)) ∷ bit_xor (at q ((j + 1) % 5)) (at d ((j + 1) % 5)) ∷ bit_xor (at r ((j + 2) % 5)) (at d ((j + 2) % 5)) ∷ bit_xor (at s ((j + 3) % 5)) (at d ((j + 3) % 5)) ∷ bit_xor (at t ((j + 4) % 5)) (at d ((j + 4) % 5)) ∷ []

-- a row of the round, f being its chi
unfoldable pub gathered : List ℕ → List ℕ → List ℕ → List ℕ → List ℕ → List ℕ → ℕ → (ℕ → ℕ → ℕ → ℕ → ℕ → List ℕ) → List ℕ
gathered p q r s t d j f = gather_of numbers (at p) (at q) (at r) (at s) (at t) (at d) j f

unfoldable pub code_round : ℕ → List ℕ → List ℕ
code_round c a = round_of numbers c (at a)

unfoldable pub flipped : List ℕ → List ℕ
flipped a = lanes (flip_of numbers (at a))
