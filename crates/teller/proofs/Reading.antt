-- An argument read character by character: what is left of it, behind the number read so far, says what the whole says.
use mathlib.Core.Path.{◌≡◌, refl, sym, ap, ◌∙◌}
use mathlib.Core.Logic.{◌≢◌}
use mathlib.Core.Bool.{Bool, true, false}
use mathlib.Core.List.{List, [], ◌∷◌}
use Prim.Native.Nat.{ℕ, suc, ◌+◌, ◌-◌, ◌*◌, ◌≤◌, ◌<◌, min}
use native.Mathlib.Numerals.{add-one}
use native.Mathlib.Omega.{arith}
use lib.ListN.{length, drop, get_or}
use lib.Seq.{drop-cons, drop-length}
use Rattle.laws.specs.Tests.{at_most, ◌and◌, is_at_most, not_at_most, and_iff, and_stop, and_last_stop}
use Rattle.std.specs.Prelude.{None, Some}
use Rattle.teller.specs.Arguments.{said_from, said_by}

module _ (l : List ℕ) where
  pub record Said (i number : ℕ) : Type 0 where
    pub within : i ≤ length l
    pub small : number ≤ 10
    pub goes : said_from number (drop i l) ≡ said_by l

  pub empty_says : length l ≡ 0 → None ≡ said_by l
  unfolding said_by
  empty_says = go l
    where
      go : (l : List ℕ) → length l ≡ 0 → None ≡ said_by l
      go [] e = refl
      go (c ∷ cs) e = absurd (omega arith)

  pub none_said : length l ≢ 0 → Said 0 0
  unfolding said_by
  none_said h = record { within = omega arith; small = omega arith; goes = go l h }
    where
      go : (l : List ℕ) → length l ≢ 0 → said_from 0 l ≡ said_by l
      go [] h = absurd (h refl)
      go (c ∷ cs) h = refl

  module _ {i number : ℕ} (s : Said i number) (more : i < length l) where
    here : said_from number (get_or l i 0 ∷ drop (suc i) l) ≡ said_by l
    here = ap (said_from number) (sym (drop-cons l i 0 more)) ∙ s.goes

    -- the next character is a digit, or the argument says nothing
    abbrev is_digit : Bool
    is_digit = at_most 48 (get_or l i 0) and at_most (get_or l i 0) 57

    other_says : is_digit ≡ false → None ≡ said_by l
    unfolding said_from
    other_says h = rw h at here

    pub low_says : get_or l i 0 < 48 → None ≡ said_by l
    low_says h = other_says (sym (and_stop _ _ (not_at_most h)))

    pub high_says : 57 < get_or l i 0 → None ≡ said_by l
    high_says h = other_says (sym (and_last_stop _ _ (not_at_most h)))

    digit_says : is_digit ≡ true → said_from (min 10 (number * 10 + (get_or l i 0 - 48))) (drop (suc i) l) ≡ said_by l
    unfolding said_from
    digit_says h = rw h at here

    pub one_said : 48 ≤ get_or l i 0 → get_or l i 0 ≤ 57 → (m : ℕ) → m ≡ min 10 (number * 10 + (get_or l i 0 - 48)) → Said (i + 1) m
    one_said a b m e = record {
      within = omega arith;
      small = omega (arith, e);
      goes = rw (e, add-one i) (digit_says ((and_iff _ _).1 (is_at_most a, is_at_most b)));
    }

  pub all_said : {i number : ℕ} → Said i number → i ≡ length l → Some number ≡ said_by l
  unfolding said_from
  all_said {i} {number} s e = ap (said_from number) (sym (ap (λ (n : ℕ). drop n l) e ∙ drop-length l)) ∙ s.goes
