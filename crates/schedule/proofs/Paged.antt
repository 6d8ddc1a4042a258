-- Which page follows from the calendar's answer.
use mathlib.Core.Path.{◌≡◌, refl, sym, ap, ◌∙◌}
use mathlib.Core.Logic.{◌≢◌}
use mathlib.Core.List.{List, [], ◌∷◌, ◌++◌}
use Prim.Native.Nat.{ℕ, zero, suc}
use native.Mathlib.Nat.{zero-add}
use native.Mathlib.Omega.{arith}
use lib.ListN.{length, drop}
use Rattle.laws.specs.Tests.{choose_clear, choose_set}
use Rattle.laws.specs.Writing.{put, Went}
use Rattle.std.specs.Prelude.{Ok, Err, Result}
use Rattle.protocol.specs.declared.Rule.{Rule}
use Rattle.protocol.specs.Answers.{done, refused, answer_of, rule_number}
use Rattle.protocol.specs.Terms.{decimal}
use Rattle.protocol.specs.Results.{refused_word, in_front}
use Rattle.schedule.specs.declared.Date.{Date}
use Rattle.schedule.specs.declared.Windows.{Windows}
use Rattle.schedule.specs.Windows.{windows, numbers, schedule_refusal, scheduled, schedule_answer}
use Rattle.schedule.specs.Page.{window_lines, schedule_page}
use Rattle.schedule.specs.Told.{SmallWindows}
use Rattle.schedule.proofs.Answering.{same_windows}
use Rattle.schedule.proofs.Bounded.{windows_small}

-- what was written from the start on stands in front
front : {l out v w : List ℕ} {r : ℕ} → Went l 0 v out r → v ≡ w → (out ≡ in_front w l) × (r ≡ length w)
unfolding put in_front
front {l} {out} {v} {w} {r} h e =
    let g : Went l 0 w out r = rw e at h in
    (g.wrote.is ∙ ap (λ (k : ℕ). w ++ drop k l) (zero-add (length w)), g.to ∙ zero-add (length w))

answer_set : (k : ℕ) (u v : Windows) → done (numbers u) ≡ answer_of k (numbers v) → (k ≡ 0) × (u ≡ v)
unfolding answer_of
answer_set zero u v e = (refl, same_windows u v (cc))
answer_set (suc k) u v e = absurd (let z : ◌≡◌ {A = ℕ} 0 1 = cc in omega arith)

answer_refused : (k n : ℕ) (v : List ℕ) → refused n ≡ answer_of k v → (n ≡ k) × (k ≢ 0)
unfolding answer_of
answer_refused zero n v e = absurd (let z : ◌≡◌ {A = ℕ} 0 1 = cc in omega arith)
answer_refused (suc k) n v e = (cc, λ z. omega arith)

module _ (election : Date) (holidays : List ℕ) {r : Result Windows Rule} (is : schedule_answer r ≡ scheduled election holidays) where
  module _ (w : Windows) (e : r ≡ Ok w) where
    set_is : (schedule_refusal election holidays ≡ 0) × (w ≡ windows election holidays)
    unfolding scheduled
    set_is = answer_set _ _ _ (sym (ap schedule_answer e) ∙ is)

    pub set_small : SmallWindows w
    set_small = rw set_is.1 (windows_small election holidays set_is.0)

    lines_are : window_lines w ≡ schedule_page election holidays
    unfolding schedule_page
    lines_are = ap window_lines set_is.1 ∙ sym (choose_clear _ _ _ set_is.0)

    pub set_page : {l out : List ℕ} {n : ℕ} → Went l 0 (window_lines w) out n
        → (out ≡ in_front (schedule_page election holidays) l) × (n ≡ length (schedule_page election holidays))
    set_page h = front h lines_are

  module _ (k : Rule) (e : r ≡ Err k) where
    refused_is : (rule_number k ≡ schedule_refusal election holidays) × (schedule_refusal election holidays ≢ 0)
    unfolding scheduled
    refused_is = answer_refused _ _ _ (sym (ap schedule_answer e) ∙ is)

    line_is : {n : ℕ} → n ≡ rule_number k → refused_word ++ (decimal n ++ (10 ∷ [])) ≡ schedule_page election holidays
    unfolding schedule_page
    line_is number = rw (number ∙ refused_is.0) (sym (choose_set _ _ _ refused_is.1))

    pub refused_page : {l out : List ℕ} {n r : ℕ} → n ≡ rule_number k → Went l 0 (refused_word ++ (decimal n ++ (10 ∷ []))) out r
        → (out ≡ in_front (schedule_page election holidays) l) × (r ≡ length (schedule_page election holidays))
    refused_page number h = front h (line_is number)
