-- What the tests of an argument say, and what it says then.
use mathlib.Core.Path.{◌≡◌, refl, sym, ap, ◌∙◌}
use mathlib.Core.Logic.{◌≢◌}
use mathlib.Core.Bool.{Bool, true, false, ◌&&◌}
use Rattle.std.specs.Prelude.{Some, None}
use Rattle.std.specs.Char.{is_ascii_digit}
use mathlib.Core.List.{List, [], ◌∷◌}
use Prim.Native.Nat.{ℕ, ◌+◌, ◌≤◌, ◌<◌}
use native.Mathlib.Omega.{arith}
use lib.Dec.{eqb, leb}
use lib.ListN.{length, drop, length-append}
use Rattle.laws.specs.Tests.{equal, at_most, ◌and◌, ◌or◌, every, is_equal, not_equal, equal_is}
use Rattle.laws.specs.Tests.{equal_iff, at_most_iff, and_iff, every_iff, and_stop, and_last_stop, or_go, or_stop, every_stop}
use Rattle.protocol.specs.Terms.{item}
use Rattle.protocol.specs.Results.{in_front}
use Rattle.schedule.specs.declared.Date.{Date}
use Rattle.schedule.specs.Dates.{date_in}
use Rattle.schedule.specs.Page.{schedule_page}
use Rattle.calendar.specs.Arguments.{is_digit, placed, formed, number_in, said_by, Digits}

-- ---- a character

and_is : (x y : Bool) → (x && y) ≡ (x and y)
unfolding ◌and◌
and_is true y = refl
and_is false y = refl

pub ascii_is : (c : ℕ) → is_ascii_digit c ≡ is_digit c
unfolding is_digit at_most
ascii_is c = and_is (leb 48 c) (leb c 57)

pub digit_is : (c : ℕ) → is_digit c ≡ true → (48 ≤ c) × (c ≤ 57)
unfolding is_digit
digit_is c e = let (low, high) = (and_iff _ _).0 e in ((at_most_iff _ _).0 low, (at_most_iff _ _).0 high)

-- ---- a character at its place

module _ (i c : ℕ) where
  dash_by : (equal i 4 or equal i 7) ≡ true → eqb c 45 ≡ placed i c
  unfolding placed
  dash_by t = rw t (equal_is c 45)

  pub first_dash : i ≡ 4 → eqb c 45 ≡ placed i c
  first_dash e = dash_by (sym (or_stop _ _ (is_equal e)))

  pub second_dash : i ≢ 4 → i ≡ 7 → eqb c 45 ≡ placed i c
  second_dash ne e = dash_by (sym (or_go _ _ (not_equal ne) (sym (is_equal e))))

  pub no_dash : i ≢ 4 → i ≢ 7 → is_digit c ≡ placed i c
  unfolding placed
  no_dash a b =
      let t : (equal i 4 or equal i 7) ≡ false = sym (or_go _ _ (not_equal a) (sym (not_equal b))) in
      rw t

-- ---- all of them

-- digits stand where the year's, the month's and the day's are read
pub record Places (text : List ℕ) : Type 0 where
  pub century : Digits text 0
  pub year : Digits text 2
  pub month : Digits text 5
  pub day : Digits text 8

module _ (text : List ℕ) where
  pub formed_short : length text ≢ 10 → false ≡ formed text
  unfolding formed
  formed_short h = and_stop _ _ (not_equal h)

  pub formed_not : (i : ℕ) → i < 10 → placed i (item text i) ≡ false → false ≡ formed text
  unfolding formed
  formed_not i l e = and_last_stop _ _ (sym (every_stop (λ i. placed i (item text i)) 10 i l e))

  pub formed_by : length text ≡ 10 → every (λ i. placed i (item text i)) 10 ≡ true → true ≡ formed text
  unfolding formed
  formed_by l e = sym ((and_iff _ _).1 (is_equal l, e))

  module _ (f : formed text ≡ true) where
    formed_long : length text ≡ 10
    unfolding formed
    formed_long = (equal_iff _ _).0 ((and_iff _ _).0 f).0

    digit_at : (i : ℕ) → i < 10 → i ≢ 4 → i ≢ 7 → is_digit (item text i) ≡ true
    unfolding formed
    digit_at i l a b = no_dash i (item text i) a b ∙ (every_iff (λ i. placed i (item text i)) 10).0 ((and_iff _ _).0 f).1 i l

    -- from a place on where neither this character nor the next one is a dash
    digits_at : (i : ℕ) → i < 9 → i ≢ 3 → i ≢ 4 → i ≢ 6 → i ≢ 7 → Digits text i
    digits_at i l a b c d = record {
      first = digit_at i (omega arith) b d;
      second = digit_at (i + 1) (omega arith) (λ e. a (omega arith)) (λ e. c (omega arith));
      within = omega (arith, formed_long);
    }

    pub places : Places text
    places = record {
      century = digits_at 0 (omega arith) (λ e. omega arith) (λ e. omega arith) (λ e. omega arith) (λ e. omega arith);
      year = digits_at 2 (omega arith) (λ e. omega arith) (λ e. omega arith) (λ e. omega arith) (λ e. omega arith);
      month = digits_at 5 (omega arith) (λ e. omega arith) (λ e. omega arith) (λ e. omega arith) (λ e. omega arith);
      day = digits_at 8 (omega arith) (λ e. omega arith) (λ e. omega arith) (λ e. omega arith) (λ e. omega arith);
    }

    pub said_number : (n : ℕ) → n ≡ number_in text → Some n ≡ said_by text
    unfolding said_by
    said_number n e = rw f (ap Some e)

  pub said_nothing : formed text ≡ false → None ≡ said_by text
  unfolding said_by
  said_nothing f = rw f

-- ---- the page

pub front_length : (w l : List ℕ) {out : List ℕ} → out ≡ in_front w l → length w ≤ length out
unfolding in_front
front_length w l e = omega (arith, ap length e, length-append w (drop (length w) l))

pub page_as : (l b : List ℕ) {d : Date} {h out : List ℕ} {n : ℕ} → d ≡ date_in (item l 0) → h ≡ drop 1 l
    → (out ≡ in_front (schedule_page d h) b) × (n ≡ length (schedule_page d h))
    → (out ≡ in_front (schedule_page (date_in (item l 0)) (drop 1 l)) b) × (n ≡ length (schedule_page (date_in (item l 0)) (drop 1 l)))
page_as l b e k w = rw (← e, ← k) w

-- the first number, and the others
pub first_is : (l : List ℕ) {x : ℕ} {rest : List ℕ} → l ≡ x ∷ rest → x ≡ item l 0
first_is l e = sym (ap (λ (l : List ℕ). item l 0) e)

pub rest_is : (l : List ℕ) {x : ℕ} {rest : List ℕ} → l ≡ x ∷ rest → rest ≡ drop 1 l
rest_is l e = sym (ap (λ (l : List ℕ). drop 1 l) e)

-- no number at all
pub none_first : (l : List ℕ) → length l ≡ 0 → 0 ≡ item l 0
none_first [] e = refl
none_first (x ∷ l) e = absurd (omega arith)

pub none_rest : (l : List ℕ) → length l ≡ 0 → l ≡ drop 1 l
none_rest [] e = refl
none_rest (x ∷ l) e = absurd (omega arith)
