-- Parts of the page: how long they are, and how they are written.
use mathlib.Core.Path.{◌≡◌, refl, ap₂}
use mathlib.Core.Logic.{◌≢◌}
use mathlib.Core.List.{List, [], ◌∷◌, ◌++◌}
use Prim.Native.Nat.{ℕ, zero, suc, ◌+◌, ◌-◌, ◌/◌, ◌%◌, ◌≤◌, ◌<◌}
use native.Mathlib.Omega.{arith}
use lib.ListN.{length, length-append, length-take, length-drop}
use Rattle.laws.specs.Bytes.{bytes}
use Rattle.decimals.proofs.Digits.{one_byte}
use Rattle.schedule.specs.declared.Date.{Date}
use Rattle.schedule.specs.declared.Window.{Window}
use Rattle.schedule.specs.Dates.{date_of}
use Rattle.schedule.specs.Working.{weekday}
use Rattle.schedule.specs.Page.{padded, weekday_text, date_text, moment_text, start_text, end_text, window_line}

-- ---- a number in k digits

pub padded_none : (k x : ℕ) → k ≡ 0 → [] ≡ padded k x
unfolding padded
padded_none zero x e = refl
padded_none (suc k) x e = absurd (omega arith)

pub padded_more : (k x : ℕ) → k ≢ 0 → padded (k - 1) (x / 10) ++ bytes 1 (48 + x % 10) ≡ padded k x
unfolding padded
padded_more zero x e = absurd (e refl)
padded_more (suc k) x e =
    let back : suc k - 1 ≡ k = omega arith in
    ap₂ (λ (n : ℕ) (l : List ℕ). padded n (x / 10) ++ l) back (one_byte (48 + x % 10) (omega arith))

pub padded_length : (k x : ℕ) → length (padded k x) ≡ k
unfolding padded
padded_length zero x = refl
padded_length (suc k) x = omega (arith, length-append (padded k (x / 10)) ((48 + x % 10) ∷ []), padded_length k (x / 10))

-- ---- days and hours

pub weekday_below : (d : ℕ) → weekday d < 7
unfolding weekday
weekday_below d = omega arith

pub weekday_length : (w : ℕ) → w < 7 → length (weekday_text w) ≡ 3
unfolding weekday_text
weekday_length w l = simp (length-take, length-drop) (omega arith)

pub date_length : (t : Date) → length (date_text t) ≡ 10
unfolding date_text
date_length t =
    let year = padded 4 t.year in
    let month = padded 2 t.month in
    omega (
      arith,
      padded_length 4 t.year,
      padded_length 2 t.month,
      padded_length 2 t.day,
      length-append year (45 ∷ []),
      length-append month (45 ∷ []),
      length-append (year ++ (45 ∷ [])) (month ++ (45 ∷ [])),
      length-append ((year ++ (45 ∷ [])) ++ (month ++ (45 ∷ []))) (padded 2 t.day),
    )

pub moment_length : (d hour : ℕ) → length (moment_text d hour) ≡ 20
unfolding moment_text
moment_length d hour =
    let name = weekday_text (weekday d) in
    let date = date_text (date_of d) in
    let hours = padded 2 hour ++ (58 ∷ 48 ∷ 48 ∷ []) in
    omega (
      arith,
      weekday_length (weekday d) (weekday_below d),
      date_length (date_of d),
      padded_length 2 hour,
      length-append (padded 2 hour) (58 ∷ 48 ∷ 48 ∷ []),
      length-append name (32 ∷ []),
      length-append date (32 ∷ []),
      length-append (date ++ (32 ∷ [])) hours,
      length-append (name ++ (32 ∷ [])) ((date ++ (32 ∷ [])) ++ hours),
    )

pub start_length : (m : ℕ) → length (start_text m) ≡ 20
unfolding start_text
start_length m = moment_length (m / 1440) (m % 1440 / 60)

pub end_length : (m : ℕ) → length (end_text m) ≡ 20
unfolding end_text
end_length m = moment_length ((m - 1) / 1440) (((m - 1) % 1440 + 1) / 60)

-- ---- lines

pub line_length : (word : List ℕ) (w : Window) → length word ≤ 12 → length (window_line word w) ≤ 54
unfolding window_line
line_length word w short =
    let start = start_text w.start in
    let end = end_text w.end in
    omega (
      arith,
      start_length w.start,
      end_length w.end,
      length-append start (9 ∷ []),
      length-append end (10 ∷ []),
      length-append word (start ++ (9 ∷ [])),
      length-append (word ++ (start ++ (9 ∷ []))) (end ++ (10 ∷ [])),
    )
