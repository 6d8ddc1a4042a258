-- A round on the state with six lanes complemented gives the round's state with the same six complemented, for words of any kind
-- that has five laws.
use mathlib.Core.Path.{◌≡◌, refl}
use Prim.Native.Nat.{ℕ}
use Rattle.keccak.specs.Keccak.{rotation_offsets}
use Rattle.keccak.specs.Rows.{Words, column_of, side_of, turned_of, gather_of, chi0_of, chi1_of, chi2_of, chi3_of, chi4_of, round_of, flip_of, standard, list_of}

pub record Laws {A : Type 0} (w : Words A) : Type 0 where
  pub xor_left : (x y : A) → w.xor (w.no x) y ≡ w.no (w.xor x y)
  pub xor_right : (x y : A) → w.xor x (w.no y) ≡ w.no (w.xor x y)
  pub no_no : (x : A) → w.no (w.no x) ≡ x
  pub turn_no : (x : A) (k : ℕ) → w.turn (w.no x) k ≡ w.no (w.turn x k)
  pub or_is : (x y : A) → w.or x y ≡ w.no (w.and (w.no x) (w.no y))

module _ {A : Type 0} (w : Words A) (l : Laws w) (a : ℕ → A) where
  -- what theta adds: complemented in the columns 0 and 3
  sides_flip : (side_of w (flip_of w a) 0 ≡ w.no (side_of w a 0))
      × ((side_of w (flip_of w a) 1 ≡ side_of w a 1)
      × ((side_of w (flip_of w a) 2 ≡ side_of w a 2)
      × ((side_of w (flip_of w a) 3 ≡ w.no (side_of w a 3))
      × (side_of w (flip_of w a) 4 ≡ side_of w a 4))))
  unfolding side_of column_of flip_of
  sides_flip = simp (side_of, column_of, flip_of, l.xor_left, l.xor_right, l.no_no, l.turn_no) (refl, (refl, (refl, (refl, refl))))

  pub complement : (c : A) → round_of w c (flip_of w a) ≡ list_of w (flip_of w (standard w c a))
  unfolding round_of gather_of turned_of chi0_of chi1_of chi2_of chi3_of chi4_of standard flip_of rotation_offsets
  complement c = simp (round_of, gather_of, turned_of, chi0_of, chi1_of, chi2_of, chi3_of, chi4_of, standard, sides_flip.0, sides_flip.1.0, sides_flip.1.1.0, sides_flip.1.1.1.0, sides_flip.1.1.1.1, l.xor_left, l.xor_right, l.no_no, l.turn_no, l.or_is)

  pub twice : list_of w (flip_of w (flip_of w a)) ≡ list_of w a
  unfolding flip_of
  twice = simp (flip_of, l.no_no)
