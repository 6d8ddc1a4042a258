-- The first rule broken, in the order of the commands and of the tests in each: it is what refuses a record, and where.
use mathlib.Core.Path.{◌≡◌, refl, sym, ap, ap₂, ◌∙◌}
use mathlib.Core.Logic.{◌↔◌, ◌≢◌, ◌⊎◌, inl, inr, ⊎_elim}
use mathlib.Core.Bool.{Bool, true, false}
use mathlib.Core.List.{List, [], ◌∷◌, ◌++◌}
use Prim.Native.Nat.{ℕ, zero, suc, ◌≤◌, ◌<◌}
use native.Mathlib.Omega.{arith}
use lib.ListN.{length}
use Rattle.laws.specs.Faults.{Found, Nothing, Fault}
use Rattle.laws.specs.Tests.{choose, equal, at_most, never, equal_iff, unequal_iff, at_most_iff, at_most_fails, is_at_most, not_at_most}
use Rattle.laws.specs.Faults.{rule, kept, located, ◌then◌, first, number_of, nothing_fault, rule_kept, located_nothing, located_at, then_nothing, then_go, then_stop, then_end, rule_stop}
use Rattle.protocol.specs.declared.Parameters.{Parameters}
use Rattle.protocol.specs.declared.Due.{Due}
use Rattle.protocol.specs.Layout.{record_length}
use Rattle.protocol.specs.Record.{parameters_of}
use Rattle.protocol.specs.Rules.{place_of, fault, fault_with}
use Rattle.protocol.specs.Judging.{if_compared, if_opened, trailing_fault, found, found_with, ballot_faults, judged_ballots, entry_faults, link_faults, list_half_faults, half_faults, vote_faults, full_faults, part_one_faults, part_two_faults, part_three_faults, first_fault, judged}
use Rattle.protocol.specs.Broken.{Test, none_left, not_due, cut_short, numbered, test_number, test_rank}
use Rattle.protocol.specs.Answers.{done, refused, answer_of, accepted}
use Rattle.protocol.specs.Results.{receipt_refusal}
use Rattle.protocol.specs.Order.{joined, of_compared, of_uncompared, commands, commands_of, Every, Unbroken, FirstTest, FirstIn, FirstBroken, command, trailing, receipt_commands, ReceiptBroken, other_length, as_judge}
use Rattle.protocol.proofs.Chains.{firsts_none, firsts_some}
use Rattle.protocol.proofs.Named.{fault_firsts}

-- ---- one command

-- the rank of a test decides its number
alike : (t u : Test) → test_rank t ≡ test_rank u → test_number t ≡ test_number u
alike none_left none_left e = refl
alike none_left not_due e = absurd (omega arith)
alike none_left cut_short e = absurd (omega arith)
alike none_left (numbered k) e = absurd (omega arith)
alike not_due none_left e = absurd (omega arith)
alike not_due not_due e = refl
alike not_due cut_short e = absurd (omega arith)
alike not_due (numbered k) e = absurd (omega arith)
alike cut_short none_left e = absurd (omega arith)
alike cut_short not_due e = absurd (omega arith)
alike cut_short cut_short e = refl
alike cut_short (numbered k) e = absurd (omega arith)
alike (numbered j) none_left e = absurd (omega arith)
alike (numbered j) not_due e = absurd (omega arith)
alike (numbered j) cut_short e = absurd (omega arith)
alike (numbered j) (numbered k) e = omega arith

-- a fault that is located says its number, which is not 0, and its place
located_fault : (place v : ℕ) {k a : ℕ} → located place v ≡ Fault k a → (v ≢ 0) × (k ≡ v) × (a ≡ place)
unfolding located
located_fault place zero e = absurd (nothing_fault refl e)
located_fault place (suc v) {k} {a} e = let p : k ≡ suc v = cc in let q : a ≡ place = cc in (λ z. omega arith, p, q)

module _ (copies drawn : Bool) (r : List ℕ) (d : Due) where
  found_nothing : (found_with drawn (parameters_of r) r copies d ≡ Nothing) ↔ Unbroken copies drawn r d
  unfolding found_with
  found_nothing =
      let c = firsts_none test_number test_rank (fault_firsts copies drawn (parameters_of r) r d) in
      (λ e. c.0 ((located_nothing _ _).0 e), λ h. (located_nothing _ _).1 (c.1 h))

  found_first : {k place : ℕ} → found_with drawn (parameters_of r) r copies d ≡ Fault k place
      → (t : Test) × FirstTest copies drawn r d t × (k ≡ test_number t) × (place ≡ place_of (parameters_of r) r d)
  unfolding found_with
  found_first e =
      let l = located_fault _ _ e in
      let w = (fault_firsts copies drawn (parameters_of r) r d).some l.0 in
      (w.0, record { breaks = w.2; none_before = w.3 }, l.1 ∙ sym w.1, l.2)

  first_found : (t : Test) → FirstTest copies drawn r d t → found_with drawn (parameters_of r) r copies d ≡ Fault (test_number t) (place_of (parameters_of r) r d)
  unfolding found_with
  first_found t h =
      let c = fault_firsts copies drawn (parameters_of r) r d in
      let e : fault_with (parameters_of r) r copies drawn d ≡ test_number t = firsts_some test_number test_rank alike c t h.breaks h.none_before in
      sym (located_at _ _ (λ z. c.none z t h.breaks)) ∙ ap (λ k. Fault k (place_of (parameters_of r) r d)) e

-- ---- the commands in their order

-- the first fault of a row of commands
unfoldable pub first_of : (Due → Found) → List Due → Found
first_of f [] = Nothing
first_of f (d ∷ ds) = f d then first_of f ds

then_assoc : (a b c : Found) → (a then b) then c ≡ a then (b then c)
unfolding ◌then◌
then_assoc Nothing b c = refl
then_assoc (Fault k place) b c = refl

module _ (f : Due → Found) where
  of_one : (d : Due) → first_of f (d ∷ []) ≡ f d
  unfolding first_of
  of_one d = then_end (f d)

  of_more : (d : Due) (ds : List Due) → first_of f (d ∷ ds) ≡ f d then first_of f ds
  unfolding first_of
  of_more d ds = refl

  of_none : first_of f [] ≡ Nothing
  unfolding first_of
  of_none = refl

  of_append : (cs ds : List Due) → first_of f (cs ++ ds) ≡ first_of f cs then first_of f ds
  unfolding first_of ◌then◌
  of_append [] ds = refl
  of_append (c ∷ cs) ds = ap (λ x. f c then x) (of_append cs ds) ∙ sym (then_assoc (f c) (first_of f cs) (first_of f ds))

  of_joined : (g : ℕ → List Due) (n : ℕ) → first_of f (joined g n) ≡ first (λ j. first_of f (g j)) n
  unfolding joined first
  of_joined g zero = of_none
  of_joined g (suc n) = of_append (joined g n) (g n) ∙ ap (λ x. x then first_of f (g n)) (of_joined g n)

  of_choose : (b : ℕ) (cs ds : List Due) → first_of f (choose b cs ds) ≡ choose b (first_of f cs) (first_of f ds)
  unfolding choose
  of_choose zero cs ds = refl
  of_choose (suc b) cs ds = refl

  -- ---- nothing is found, or the first that is

  of_nothing : (ds : List Due) → (first_of f ds ≡ Nothing) ↔ Every (λ d. f d ≡ Nothing) ds
  unfolding first_of
  of_nothing [] = (λ e. tt, λ h. refl)
  of_nothing (d ∷ ds) = (
    λ e. let t = (then_nothing (f d) (first_of f ds)).0 e in (t.0, (of_nothing ds).0 t.1),
    λ h. (then_nothing (f d) (first_of f ds)).1 (h.0, (of_nothing ds).1 h.1),
  )

  -- the command that is found, with those before and behind it
  Split : List Due → Found → Type 0
  Split ds x = (before : List Due) × (d : Due) × (after : List Due) × (ds ≡ before ++ (d ∷ after)) × Every (λ c. f c ≡ Nothing) before × (f d ≡ x)

  of_split : (ds : List Due) (k place : ℕ) → first_of f ds ≡ Fault k place → Split ds (Fault k place)
  unfolding first_of Split
  of_split [] k place e = absurd (nothing_fault refl e)
  of_split (d ∷ ds) k place e = go (f d) refl (of_split ds k place)
    where
      go : (x : Found) → f d ≡ x → (first_of f ds ≡ Fault k place → Split ds (Fault k place)) → Split (d ∷ ds) (Fault k place)
      go Nothing g ih =
          let t = ih (sym (then_go (f d) (first_of f ds) g) ∙ e) in
          (d ∷ t.0, t.1, t.2, ap {B = List Due} (λ c. d ∷ c) t.3, (g, t.4), t.5)
      go (Fault n a) g ih = ([], d, ds, refl, tt, sym (then_stop (f d) (first_of f ds) (λ z. nothing_fault z g)) ∙ e)

  of_found : (before : List Due) (d : Due) (after : List Due) → Every (λ c. f c ≡ Nothing) before → f d ≢ Nothing
      → first_of f (before ++ (d ∷ after)) ≡ f d
  unfolding first_of
  of_found [] d after h ne = then_stop (f d) (first_of f after) ne
  of_found (c ∷ before) d after h ne = then_go (f c) (first_of f (before ++ (d ∷ after))) h.0 ∙ of_found before d after h.1 ne

-- the judge's walk is the walk over the commands in their order, and then rule 17
pub in_order : (drawn : Bool) (r : List ℕ)
    → first_fault drawn r ≡ first_of (found_with drawn (parameters_of r) r true) (commands_of r) then trailing_fault (parameters_of r) r
unfolding first_fault part_one_faults part_two_faults part_three_faults judged_ballots entry_faults link_faults list_half_faults half_faults vote_faults full_faults if_compared if_opened commands of_compared of_uncompared found_with fault_with
in_order drawn r = simp (of_append, of_joined, of_choose, of_one, of_more, of_none, then_assoc)

-- ---- numbers and answers

number_of_lem : {f : Found} {k place : ℕ} → f ≡ Fault k place → number_of f ≡ k
unfolding number_of
number_of_lem e = ap number_of e

number_nothing : {f : Found} → f ≡ Nothing → number_of f ≡ 0
unfolding number_of
number_nothing e = ap number_of e

number_found : (f : Found) (k : ℕ) → k ≢ 0 → (number_of f ≡ k) ↔ ((place : ℕ) × (f ≡ Fault k place))
unfolding number_of
number_found Nothing k ne = (λ e. absurd (ne (sym e)), λ t. number_of_lem t.1)
number_found (Fault n place) k ne = (λ e. (place, ap (λ x. Fault x place) e), λ t. number_of_lem t.1)

answer_done : (v : ℕ) (values : List ℕ) → (answer_of v values ≡ done values) ↔ (v ≡ 0)
unfolding answer_of
answer_done zero values = (λ e. refl, λ e. refl)
answer_done (suc v) values = (λ e. absurd (let z : ◌≡◌ {A = ℕ} 0 1 = cc in omega arith), λ e. absurd (omega arith))

answer_refused : (v k : ℕ) (values : List ℕ) → (answer_of v values ≡ refused k) ↔ ((v ≡ k) × (k ≢ 0))
unfolding answer_of
answer_refused zero k values = (λ e. absurd (let z : ◌≡◌ {A = ℕ} 0 1 = cc in omega arith), λ t. absurd (t.1 (sym t.0)))
answer_refused (suc v) k values = (λ e. let h : suc v ≡ k = cc in (h, omega arith), λ t. ap refused t.0)

-- ---- a row of commands

every_map : {P Q : Due → Type 0} (ds : List Due) → ((d : Due) → P d → Q d) → Every P ds → Every Q ds
every_map [] f h = tt
every_map (d ∷ ds) f h = (f d h.0, every_map ds f h.1)

module _ (copies drawn : Bool) (r : List ℕ) (row : List Due) where
  row_nothing : (first_of (found_with drawn (parameters_of r) r copies) row ≡ Nothing) ↔ Every (Unbroken copies drawn r) row
  row_nothing = (
    λ e. every_map row (λ d. (found_nothing copies drawn r d).0) ((of_nothing _ row).0 e),
    λ h. (of_nothing _ row).1 (every_map row (λ d. (found_nothing copies drawn r d).1) h),
  )

  row_first : (k place : ℕ) → (first_of (found_with drawn (parameters_of r) r copies) row ≡ Fault k place) ↔ FirstIn copies drawn r row k place
  unfolding Split
  row_first k place = (
    λ e. let s = of_split _ row k place e in
        let t = found_first copies drawn r s.1 s.5 in
        record {
          before = s.0;
          faulty = s.1;
          after = s.2;
          test = t.0;
          order = s.3;
          unbroken = every_map s.0 (λ d. (found_nothing copies drawn r d).0) s.4;
          first = t.1;
          number_is = t.2;
          place_is = t.3;
        },
    back,
  )
    where
      back : FirstIn copies drawn r row k place → first_of (found_with drawn (parameters_of r) r copies) row ≡ Fault k place
      back h =
          let e : found_with drawn (parameters_of r) r copies h.faulty ≡ Fault k place = first_found copies drawn r h.faulty h.test h.first ∙ sym (ap₂ Fault h.number_is h.place_is) in
          ap (first_of (found_with drawn (parameters_of r) r copies)) h.order
          ∙ of_found _ h.before h.faulty h.after (every_map h.before (λ c. (found_nothing copies drawn r c).1) h.unbroken) (λ z. nothing_fault z e)
          ∙ e

  -- no rule has number 0
  row_number : {k place : ℕ} → FirstIn copies drawn r row k place → k ≢ 0
  row_number h z =
      let c = fault_firsts copies drawn (parameters_of r) r h.faulty in
      let e = firsts_some test_number test_rank alike c h.test h.first.breaks h.first.none_before in
      c.none (e ∙ sym h.number_is ∙ z) h.test h.first.breaks

  row_zero : number_of (first_of (found_with drawn (parameters_of r) r copies) row) ≡ 0 → first_of (found_with drawn (parameters_of r) r copies) row ≡ Nothing
  row_zero = go (first_of (found_with drawn (parameters_of r) r copies) row) refl
    where
      go : (x : Found) → first_of (found_with drawn (parameters_of r) r copies) row ≡ x → number_of (first_of (found_with drawn (parameters_of r) r copies) row) ≡ 0
          → first_of (found_with drawn (parameters_of r) r copies) row ≡ Nothing
      go Nothing e z = e
      go (Fault k place) e z = absurd (row_number ((row_first k place).0 e) (sym (number_of_lem e) ∙ z))

-- ---- the record

last_fault : (k : ℕ) (t : Bool) → rule k t kept ≢ 0 → (t ≡ false) × (rule k t kept ≡ k)
unfolding rule
last_fault k true ne = absurd (ne refl)
last_fault k false ne = (refl, refl)

-- rule 17
module _ (p : Parameters) (r : List ℕ) where
  trailing_nothing : (trailing_fault p r ≡ Nothing) ↔ (length r ≤ record_length p)
  unfolding trailing_fault
  trailing_nothing = (
    λ e. (at_most_iff _ _).0 ((rule_kept 17 _ 0 refl).0 ((located_nothing _ _).0 e)).0,
    λ h. (located_nothing _ _).1 ((rule_kept 17 _ 0 refl).1 (is_at_most h, refl)),
  )

  trailing_fault_lem : {k place : ℕ} → trailing_fault p r ≡ Fault k place → (record_length p < length r) × (k ≡ 17) × (place ≡ record_length p)
  unfolding trailing_fault
  trailing_fault_lem e =
      let l = located_fault _ _ e in
      let t = last_fault 17 _ l.0 in
      ((at_most_fails _ _).0 t.0, l.1 ∙ t.1, l.2)

  fault_trailing : record_length p < length r → trailing_fault p r ≡ Fault 17 (record_length p)
  unfolding trailing_fault
  fault_trailing h =
      let e : 17 ≡ rule 17 (at_most (length r) (record_length p)) kept = rule_stop 17 _ _ (not_at_most h) in
      ap (located (record_length p)) (sym e) ∙ sym (located_at (record_length p) 17 (omega arith))

module _ (drawn : Bool) (r : List ℕ) where
  walk : Found
  walk = first_of (found_with drawn (parameters_of r) r true) (commands_of r)

  -- nothing is found exactly if no command breaks a test, and no byte follows
  pub nothing_broken : (first_fault drawn r ≡ Nothing) ↔ (Every (Unbroken true drawn r) (commands_of r) × (length r ≤ record_length (parameters_of r)))
  nothing_broken = (
    λ e. let t = (then_nothing _ _).0 (sym (in_order drawn r) ∙ e) in ((row_nothing true drawn r _).0 t.0, (trailing_nothing _ _).0 t.1),
    λ h. in_order drawn r ∙ (then_nothing _ _).1 ((row_nothing true drawn r _).1 h.0, (trailing_nothing _ _).1 h.1),
  )

  -- a fault is found exactly if it is the first
  pub first_broken : (k place : ℕ) → (first_fault drawn r ≡ Fault k place) ↔ FirstBroken drawn r k place
  unfolding walk
  first_broken k place = (λ e. from walk refl (sym (in_order drawn r) ∙ e), back)
    where
      from : (x : Found) → walk ≡ x → walk then trailing_fault (parameters_of r) r ≡ Fault k place → FirstBroken drawn r k place
      from Nothing w e =
          let t = trailing_fault_lem (parameters_of r) r (sym (then_go walk _ w) ∙ e) in
          trailing ((row_nothing true drawn r _).0 w) t.0 t.1 t.2
      from (Fault n a) w e = command ((row_first true drawn r _ k place).0 (sym (then_stop walk _ (λ z. nothing_fault z w)) ∙ e))

      back : FirstBroken drawn r k place → first_fault drawn r ≡ Fault k place
      back (command h) =
          let w : walk ≡ Fault k place = (row_first true drawn r _ k place).1 h in
          in_order drawn r ∙ then_stop walk _ (λ z. nothing_fault z w) ∙ w
      back (trailing unbroken l e a) =
          in_order drawn r ∙ then_go walk _ ((row_nothing true drawn r _).1 unbroken) ∙ fault_trailing (parameters_of r) r l ∙ sym (ap₂ Fault e a)

  -- it is one number and one place
  pub first_determined : {k place k' place' : ℕ} → FirstBroken drawn r k place → FirstBroken drawn r k' place' → (k ≡ k') × (place ≡ place')
  first_determined {k} {place} {k'} {place'} x y =
      let e : Fault k place ≡ Fault k' place' = sym ((first_broken k place).1 x) ∙ (first_broken k' place').1 y in
      (cc, cc)

  broken_number : {k place : ℕ} → FirstBroken drawn r k place → k ≢ 0
  broken_number (command h) = row_number true drawn r _ h
  broken_number (trailing unbroken l e a) = λ z. omega arith

  fault_number : number_of (first_fault drawn r) ≡ 0 → first_fault drawn r ≡ Nothing
  fault_number = go (first_fault drawn r) refl
    where
      go : (x : Found) → first_fault drawn r ≡ x → number_of (first_fault drawn r) ≡ 0 → first_fault drawn r ≡ Nothing
      go Nothing e z = e
      go (Fault k place) e z = absurd (broken_number ((first_broken k place).0 e) (sym (number_of_lem e) ∙ z))

  -- ---- the verdict

  -- the record is accepted exactly if no command breaks a test, and no byte follows
  pub judged_accepted : (judged drawn r ≡ accepted) ↔ (Every (Unbroken true drawn r) (commands_of r) × (length r ≤ record_length (parameters_of r)))
  unfolding judged
  judged_accepted = (
    λ e. nothing_broken.0 (fault_number ((answer_done _ _).0 e)),
    λ h. (answer_done _ _).1 (number_nothing (nothing_broken.1 h)),
  )

  -- it is refused exactly by the number of the first rule broken
  pub judged_refused : (k : ℕ) → (judged drawn r ≡ refused k) ↔ ((place : ℕ) × FirstBroken drawn r k place)
  unfolding judged
  judged_refused k = (
    λ e. let t = (answer_refused _ k []).0 e in let f = (number_found (first_fault drawn r) k t.1).0 t.0 in (f.0, (first_broken k f.0).0 f.1),
    λ h. (answer_refused _ k []).1 (number_of_lem ((first_broken k h.0).1 h.1), broken_number h.1),
  )

-- ---- the receipt check

rule_either : (k n : ℕ) (t : Bool) (rest : ℕ) → (rule k t rest ≡ n) ↔ (((t ≡ false) × (n ≡ k)) ⊎ ((t ≡ true) × (rest ≡ n)))
unfolding rule
rule_either k n true rest = (λ e. inr (refl, e), ⊎_elim (λ h. absurd (never refl h.0)) (λ h. h.1))
rule_either k n false rest = (λ e. inl (refl, sym e), ⊎_elim (λ h. sym h.1) (λ h. absurd (never h.0 refl)))

module _ (r printed : List ℕ) where
  walked : Found
  walked = first_of (found false (parameters_of r) r) (receipt_commands (parameters_of r))

  receipt_order : receipt_refusal r printed ≡ rule 18 (equal (length printed) 32) (number_of walked)
  unfolding receipt_refusal ballot_faults receipt_commands walked
  receipt_order = simp (of_append, of_joined, of_one)

  pub receipt_unbroken : (receipt_refusal r printed ≡ 0) ↔ ((length printed ≡ 32) × Every (Unbroken false false r) (receipt_commands (parameters_of r)))
  unfolding walked
  receipt_unbroken = (
    λ e. let t = (rule_kept 18 _ _ refl).0 (sym receipt_order ∙ e) in ((equal_iff _ _).0 t.0, (row_nothing false false r _).0 (row_zero false false r _ t.1)),
    λ h. receipt_order ∙ (rule_kept 18 _ _ refl).1 ((equal_iff _ _).1 h.0, number_nothing ((row_nothing false false r _).1 h.1)),
  )

  pub receipt_first : (k : ℕ) → k ≢ 0 → (receipt_refusal r printed ≡ k) ↔ ReceiptBroken r printed k
  unfolding walked
  receipt_first k ne = (λ e. from ((rule_either 18 k _ _).0 (sym receipt_order ∙ e)), λ h. receipt_order ∙ (rule_either 18 k _ _).1 (back h))
    where
      from : ((equal (length printed) 32 ≡ false) × (k ≡ 18)) ⊎ ((equal (length printed) 32 ≡ true) × (number_of walked ≡ k)) → ReceiptBroken r printed k
      from (inl h) = other_length ((unequal_iff _ _).0 h.0) h.1
      from (inr h) =
          let f = (number_found walked k ne).0 h.1 in
          as_judge ((equal_iff _ _).0 h.0) f.0 ((row_first false false r _ k f.0).0 f.1)

      back : ReceiptBroken r printed k → ((equal (length printed) 32 ≡ false) × (k ≡ 18)) ⊎ ((equal (length printed) 32 ≡ true) × (number_of walked ≡ k))
      back (other_length h e) = inl ((unequal_iff _ _).1 h, e)
      back (as_judge l place h) = inr ((equal_iff _ _).1 l, number_of_lem ((row_first false false r _ k place).1 h))
