-- What is found of one command, and of a list by its bit of the mask.
use mathlib.Core.Path.{◌≡◌, sym, ◌∙◌}
use mathlib.Core.Logic.{◌↔◌, ◌≢◌}
use mathlib.Core.Bool.{Bool}
use mathlib.Core.List.{List}
use Prim.Native.Nat.{ℕ, ◌<◌}
use Rattle.laws.specs.Faults.{Found, Nothing, Fault}
use Rattle.laws.specs.Tests.{choose_clear, choose_set}
use Rattle.laws.specs.Faults.{◌then◌, first, located_nothing, row_stop, then_fault, then_rest}
use Rattle.laws.specs.Masks.{bit}
use Rattle.protocol.specs.declared.Parameters.{Parameters}
use Rattle.protocol.specs.declared.Due.{Due}
use Rattle.protocol.specs.Record.{mask_of}
use Rattle.protocol.specs.Rules.{place_of, fault}
use Rattle.protocol.specs.Judging.{found, found_with, if_compared, if_opened}

-- ---- one command

module _ (drawn : Bool) (p : Parameters) (r : List ℕ) (d : Due) where
  pub found_nothing : (found drawn p r d ≡ Nothing) ↔ (fault p r drawn d ≡ 0)
  unfolding found_with
  found_nothing = located_nothing (place_of p r d) (fault p r drawn d)

-- ---- a list by its bit of the mask

module _ (p : Parameters) (r : List ℕ) (l : ℕ) (f : Found) where
  pub compared_go : {g : Found} → bit (mask_of p r) l ≢ 0 → g ≡ f → g ≡ if_compared p r l f
  unfolding if_compared
  compared_go b e = e ∙ sym (choose_set (bit (mask_of p r) l) Nothing f b)

  pub compared_pass : bit (mask_of p r) l ≡ 0 → Nothing ≡ if_compared p r l f
  unfolding if_compared
  compared_pass b = sym (choose_clear (bit (mask_of p r) l) Nothing f b)

  pub opened_go : {g : Found} → bit (mask_of p r) l ≡ 0 → g ≡ f → g ≡ if_opened p r l f
  unfolding if_opened
  opened_go b e = e ∙ sym (choose_clear (bit (mask_of p r) l) f Nothing b)

  pub opened_pass : bit (mask_of p r) l ≢ 0 → Nothing ≡ if_opened p r l f
  unfolding if_opened
  opened_pass b = sym (choose_set (bit (mask_of p r) l) f Nothing b)

-- ---- a search that fails, or passes, before another one

module _ (a b : Found) where
  pub err_then : {g : Found} {k at : ℕ} → Fault k at ≡ a → g ≡ Fault k at → g ≡ a then b
  err_then e h = then_fault a b (h ∙ e) h

  pub ok_then : {g : Found} → Nothing ≡ a → g ≡ b → g ≡ a then b
  ok_then z h = then_rest a b (sym z) h

pub row_err : (f : ℕ → Found) (n i : ℕ) {g : Found} {k at : ℕ} → i < n → first f i ≡ Nothing → Fault k at ≡ f i → g ≡ Fault k at → g ≡ first f n
row_err f n i l z e h = row_stop f n i l z (h ∙ e) h

-- a bit of a mask that is the record's
pub bit_is : {mask m b : ℕ} (l : ℕ) → mask ≡ m → bit mask l ≡ b → bit m l ≡ b
bit_is l e h = rw (← e) h

pub bit_not : {mask m b : ℕ} (l : ℕ) → mask ≡ m → bit mask l ≢ b → bit m l ≢ b
bit_not l e h q = h (rw e q)
