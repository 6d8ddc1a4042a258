-- `calendar::print_page` meets its contract: the page lies at the front of its buffer.
use Rattle.std.proofs.Common.{◌≡◌, ℕ, ◌≤◌, List, OnOk, length, take, drop, arith, sym, subst, length-take-le}
use Rattle.std.proofs.Math.Seq.{take_at}
use Rattle.std.specs.Io.KnownBytes.{Appends}
use Rattle.protocol.specs.Terms.{item}
use Rattle.protocol.specs.Results.{in_front}
use Rattle.schedule.specs.Dates.{date_in}
use Rattle.schedule.specs.Page.{schedule_page}
use Rattle.calendar.proofs.Formed.{front_length}
use Rattle.calendar.proofs.print_page.Goals as goal

abbrev page : List ℕ → List ℕ
page numbers = schedule_page (date_in (item numbers 0)) (drop 1 numbers)

within : (w l : List ℕ) {out : List ℕ} {n : ℕ} → out ≡ in_front w l → n ≡ length w → n ≤ length out
within w l e k = omega (arith, front_length w l e)

front : (w l : List ℕ) {out : List ℕ} {n : ℕ} → out ≡ in_front w l → n ≡ length w → take n out ≡ w
unfolding in_front
front w l e k = rw e (take_at w _ _ (sym k))

pub slice_bounds-page-end : goal.slice_bounds-page-end
slice_bounds-page-end g c = within (page c.args.numbers.now) _ c.put_page-n.ensures.output c.put_page-n.ensures.answer

pub slice_bounds-write_all-end : goal.slice_bounds-write_all-end
slice_bounds-write_all-end g c =
    sym (length-take-le _ _ (within (page c.args.numbers.now) _ c.put_page-n.ensures.output c.put_page-n.ensures.answer))

pub returns : goal.returns
returns g c =
    let contents = g.W.Write.contents in
    let written = front (page c.args.numbers.now) _ c.put_page-n.ensures.output c.put_page-n.ensures.answer in
    subst (λ (l : List ℕ). OnOk c.write_all.result (Appends (contents c.args.out.now) (contents c.write_all.new.self) l)) written c.write_all.ensures.bytes
