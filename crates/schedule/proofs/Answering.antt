-- What the entries answer, from the days that are planned.
use mathlib.Core.Path.{◌≡◌, refl, ap, ◌∙◌}
use mathlib.Core.Bool.{Bool, true, false}
use mathlib.Core.List.{List, [], ◌∷◌}
use Prim.Native.Nat.{ℕ, zero, suc}
use native.Mathlib.Omega.{arith}
use lib.ListN.{length}
use Rattle.laws.specs.Tests.{◌and◌, every, pick}
use Rattle.laws.specs.Faults.{rule}
use Rattle.std.specs.Prelude.{Ok, Err, Result}
use Rattle.std.specs.Result.{IsErrAnd}
use Rattle.std.proofs.lemmas.Result.{err_from_is_err_and}
use Rattle.protocol.specs.declared.Rule.{Rule}
use Rattle.protocol.specs.declared.Rule.TheVariants as broken
use Rattle.protocol.specs.Answers.{done, refused, answer_of, rule_number}
use Rattle.schedule.specs.Dates.{exists, day_number}
use Rattle.schedule.specs.Working.{working}
use Rattle.schedule.specs.Windows.{in_turn, days_after, windows_on, windows, window_of, numbers, schedule_refusal, scheduled, window_at}
use Rattle.schedule.specs.Told.{planned_on, plan}
use Rattle.schedule.specs.declared.Date.{Date}
use Rattle.schedule.specs.declared.Days.{Days}
use Rattle.schedule.specs.declared.Windows.{Windows}

-- an error that is passed on
pub passed_on : {T E : Type 0} {r : Result T E} {e : E} → IsErrAnd r (λ x. x ≡ e) → r ≡ Err e
passed_on {T} {E} {r} {e} h = let (x, is, same) = err_from_is_err_and r h in is ∙ ap Err same

-- what a plan says of the refusal
pub record Planned-on (election : Date) (holidays : List ℕ) (s : Days) : Type 0 where
  pub refusal : schedule_refusal election holidays ≡ 0
  pub dated : exists election ≡ true
  pub days : s ≡ days_after (working holidays) (day_number election)

pub on_is : (election : Date) (holidays : List ℕ) (s : Days) → Ok s ≡ plan election holidays → Planned-on election holidays s
unfolding plan planned_on schedule_refusal rule ◌and◌
on_is election holidays s e = go (exists election) (every (in_turn holidays) (length holidays)) refl refl e
  where
    go : (a b : Bool) → exists election ≡ a → every (in_turn holidays) (length holidays) ≡ b
        → Ok s ≡ pick a (pick b (Ok (days_after (working holidays) (day_number election))) (Err broken.Day)) (Err broken.Day)
        → Planned-on election holidays s
    go true true p q e = record { refusal = rw (p, q); dated = p; days = cc }
    go true false p q e = absurd (let z : ◌≡◌ {A = ℕ} 0 1 = cc in omega arith)
    go false b p q e = absurd (let z : ◌≡◌ {A = ℕ} 0 1 = cc in omega arith)

pub refused_is : (election : Date) (holidays : List ℕ) (k : Rule) → Err k ≡ plan election holidays
    → (schedule_refusal election holidays ≡ 22) × (rule_number k ≡ 22)
unfolding plan planned_on schedule_refusal rule ◌and◌
refused_is election holidays k e = go (exists election) (every (in_turn holidays) (length holidays)) refl refl e
  where
    go : (a b : Bool) → exists election ≡ a → every (in_turn holidays) (length holidays) ≡ b
        → Err k ≡ pick a (pick b (Ok (days_after (working holidays) (day_number election))) (Err broken.Day)) (Err broken.Day)
        → (schedule_refusal election holidays ≡ 22) × (rule_number k ≡ 22)
    go true true p q e = absurd (let z : ◌≡◌ {A = ℕ} 0 1 = cc in omega arith)
    go true false p q e = (rw (p, q), let same : k ≡ broken.Day = cc in ap rule_number same)
    go false b p q e = (rw p, let same : k ≡ broken.Day = cc in ap rule_number same)

-- ---- the windows

pub windows_set : (election : Date) (holidays : List ℕ) {s : Days} {d : ℕ} {w : Windows} → Ok s ≡ plan election holidays
    → d ≡ day_number election → w ≡ windows_on d s → done (numbers w) ≡ scheduled election holidays
unfolding scheduled windows answer_of
windows_set election holidays {s} {d} {w} e n h =
    let on = on_is election holidays s e in
    rw on.refusal (ap (λ (w : Windows). done (numbers w)) (h ∙ rw (n, on.days)))

pub windows_refused : (election : Date) (holidays : List ℕ) {k : Rule} → Err k ≡ plan election holidays
    → refused (rule_number k) ≡ scheduled election holidays
unfolding scheduled answer_of
windows_refused election holidays {k} e = let (a, b) = refused_is election holidays k e in rw (a, b)

-- ---- a minute

made : ℕ → ℕ → ℕ → ℕ → ℕ → ℕ → ℕ → ℕ → Windows
made a b c d e f g h = record {
  polling = record { start = a; end = b };
  first = record { start = c; end = d };
  second = record { start = e; end = f };
  objections = record { start = g; end = h };
}

-- the windows are known by their eight numbers
pub same_windows : (v w : Windows) → numbers v ≡ numbers w → v ≡ w
unfolding numbers made
same_windows v w e =
    let made_v : v ≡ made v.polling.start v.polling.end v.first.start v.first.end v.second.start v.second.end v.objections.start v.objections.end = refl in
    let made_w : made w.polling.start w.polling.end w.first.start w.first.end w.second.start w.second.end w.objections.start w.objections.end ≡ w = refl in
    let middle
    : made v.polling.start v.polling.end v.first.start v.first.end v.second.start v.second.end v.objections.start v.objections.end
    ≡ made w.polling.start w.polling.end w.first.start w.first.end w.second.start w.second.end w.objections.start w.objections.end
    = cc in
    made_v ∙ middle ∙ made_w

pub minute_set : (election : Date) (holidays : List ℕ) (m : ℕ) (w : Windows) {k : ℕ} → done (numbers w) ≡ scheduled election holidays
    → k ≡ window_of w m → done (k ∷ []) ≡ window_at election holidays m
unfolding scheduled window_at answer_of
minute_set election holidays m w {k} e h = go (schedule_refusal election holidays) e
  where
    go : (r : ℕ) → done (numbers w) ≡ answer_of r (numbers (windows election holidays)) → done (k ∷ []) ≡ answer_of r (window_of (windows election holidays) m ∷ [])
    go zero e =
        let same : numbers w ≡ numbers (windows election holidays) = cc in
        ap (λ (k : ℕ). done (k ∷ [])) (h ∙ ap (λ (w : Windows). window_of w m) (same_windows w (windows election holidays) same))
    go (suc r) e = absurd (let z : ◌≡◌ {A = ℕ} 0 1 = cc in omega arith)

pub minute_refused : (election : Date) (holidays : List ℕ) (m : ℕ) {k : ℕ} → refused k ≡ scheduled election holidays → refused k ≡ window_at election holidays m
unfolding scheduled window_at answer_of
minute_refused election holidays m {k} e = go (schedule_refusal election holidays) e
  where
    go : (r : ℕ) → refused k ≡ answer_of r (numbers (windows election holidays)) → refused k ≡ answer_of r (window_of (windows election holidays) m ∷ [])
    go zero e = absurd (let z : ◌≡◌ {A = ℕ} 0 1 = cc in omega arith)
    go (suc r) e = e
