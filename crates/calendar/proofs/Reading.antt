-- What the page prints as a date is read back as the date's number.
use mathlib.Core.Path.{◌≡◌, ap}
use mathlib.Core.Bool.{true}
use Prim.Native.Nat.{ℕ, ◌+◌, ◌-◌, ◌*◌, ◌/◌, ◌%◌, ◌<◌}
use native.Mathlib.Omega.{arith}
use Rattle.laws.specs.Tests.{equal, ◌and◌, ◌or◌, every, is_at_most, and_iff}
use Rattle.schedule.specs.declared.Date.{Date}
use Rattle.schedule.specs.Dates.{number_of}
use Rattle.schedule.specs.Page.{padded, date_text}
use Rattle.std.specs.Prelude.{Some}
use Rattle.calendar.specs.Arguments.{is_digit, placed, formed, two_at, number_in, said_by}

digit_passes : (x : ℕ) → is_digit (48 + x % 10) ≡ true
unfolding is_digit
digit_passes x = (and_iff _ _).1 (is_at_most (omega arith), is_at_most (omega arith))

back : (x : ℕ) → (48 + x) - 48 ≡ x
back x = omega arith

two_digits : (x : ℕ) → x < 100 → x / 10 % 10 * 10 + x % 10 ≡ x
two_digits x l = omega arith

four_digits : (x : ℕ) → x < 10000 → (x / 10 / 10 / 10 % 10 * 10 + x / 10 / 10 % 10) * 100 + (x / 10 % 10 * 10 + x % 10) ≡ x
four_digits x l = omega arith

module _ (t : Date) where
  pub text_formed : formed (date_text t) ≡ true
  unfolding formed every placed equal ◌and◌ ◌or◌ date_text padded
  text_formed = simp digit_passes

  pub text_number : t.year < 10000 → t.month < 100 → t.day < 100 → number_in (date_text t) ≡ number_of t
  unfolding number_in two_at date_text padded number_of
  text_number y m d = simp back (omega (arith, four_digits t.year y, two_digits t.month m, two_digits t.day d))

  pub read_back : t.year < 10000 → t.month < 100 → t.day < 100 → said_by (date_text t) ≡ Some (number_of t)
  unfolding said_by
  read_back y m d = rw text_formed (ap Some (text_number y m d))
