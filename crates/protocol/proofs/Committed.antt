-- A ballot's six openings, three shown on each side, and the vote that they commit.
use mathlib.Core.Path.{◌≡◌, refl, sym, ap, ◌∙◌}
use mathlib.Core.Logic.{◌≢◌}
use mathlib.Core.List.{List}
use Prim.Native.Nat.{ℕ, ◌+◌, ◌*◌, ◌/◌, ◌%◌, ◌≤◌, ◌<◌}
use native.Mathlib.Decide.{ℕ_discrete}
use native.Mathlib.Omega.{arith}
use Rattle.laws.specs.Tests.{equal, pick, is_equal, not_equal}
use Rattle.laws.specs.Modular.{both_sides}
use Rattle.protocol.specs.declared.Place.{Place}
use Rattle.protocol.specs.Terms.{opened, Scheme}
use Rattle.protocol.specs.Record.{Disclosure}

-- the numbers in three openings, and in six, summed
abbrev pub three : (ℕ → List ℕ) → ℕ
three o = opened (o 0) + opened (o 1) + opened (o 2)

abbrev pub six : (ℕ → List ℕ) → ℕ
six o = opened (o 0) + opened (o 1) + opened (o 2) + opened (o 3) + opened (o 4) + opened (o 5)

-- opening q of ballot j: what d shows where q is on its side, else what e shows
unfoldable pub both : Disclosure → Disclosure → ℕ → ℕ → List ℕ
both d e j q = pick (equal (q % 2) (d.side j)) (d.ballot_opening j (q / 2)) (e.ballot_opening j (q / 2))

-- ---- the six openings are those shown

module _ (d e : Disclosure) (j : ℕ) where
  pub on_side_lem : (q c : ℕ) → q % 2 ≡ d.side j → q / 2 ≡ c → both d e j q ≡ d.ballot_opening j c
  unfolding both
  on_side_lem q c s h = rw (is_equal s, h)

  pub off_side : (q c : ℕ) → q % 2 ≢ d.side j → q / 2 ≡ c → both d e j q ≡ e.ballot_opening j c
  unfolding both
  off_side q c s h = rw (not_equal s, h)

  pub both_one : (c : ℕ) → d.side j ≤ 1 → both d e j (2 * c + d.side j) ≡ d.ballot_opening j c
  both_one c l = on_side_lem (2 * c + d.side j) c (omega arith) (omega arith)

  pub both_other : (c : ℕ) → e.side j ≤ 1 → d.side j ≢ e.side j → both d e j (2 * c + e.side j) ≡ e.ballot_opening j c
  both_other c l ne = off_side (2 * c + e.side j) c (λ h. ne (omega arith)) (omega arith)

  -- they give the six commitments, if each side's three do
  pub both_give : (commit : Scheme) (at : ℕ → Place) (posted : ℕ → List ℕ) → d.side j ≤ 1 → e.side j ≤ 1 → d.side j ≢ e.side j
      → ((c : ℕ) → c < 3 → commit (at (2 * c + d.side j)) (d.ballot_opening j c) ≡ posted (2 * c + d.side j))
      → ((c : ℕ) → c < 3 → commit (at (2 * c + e.side j)) (e.ballot_opening j c) ≡ posted (2 * c + e.side j))
      → (q : ℕ) → q < 6 → commit (at q) (both d e j q) ≡ posted q
  both_give commit at posted ld le ne hd he q lq = go (ℕ_discrete (q % 2) (d.side j))
    where
      go : Dec (q % 2 ≡ d.side j) → commit (at q) (both d e j q) ≡ posted q
      go (yes s) =
          let w : 2 * (q / 2) + d.side j ≡ q = omega arith in
          rw (on_side_lem q (q / 2) s refl) (rw w at (hd (q / 2) (omega arith)))
      go (no s) =
          let w : 2 * (q / 2) + e.side j ≡ q = omega arith in
          rw (off_side q (q / 2) s refl) (rw w at (he (q / 2) (omega arith)))

-- ---- their sum

-- three openings are those on side s of six
abbrev pub Half : (ℕ → List ℕ) → ℕ → (ℕ → List ℕ) → Type 0
Half o s u = (c : ℕ) → c < 3 → u c ≡ o (2 * c + s)

halves : (o u v : ℕ → List ℕ) → Half o 0 u → Half o 1 v → three u + three v ≡ six o
halves o u v hu hv =
    omega (
      arith,
      ap opened (hu 0 (omega arith)),
      ap opened (hu 1 (omega arith)),
      ap opened (hu 2 (omega arith)),
      ap opened (hv 0 (omega arith)),
      ap opened (hv 1 (omega arith)),
      ap opened (hv 2 (omega arith)),
    )

-- a ballot's six numbers o and an entry's six numbers o', whose halves agree with the shift t
pub total : (M t : ℕ) (o u v o' u' v' : ℕ → List ℕ) → Half o 0 u → Half o 1 v → Half o' 0 u' → Half o' 1 v'
    → three u % M ≡ (three u' + t) % M → (three v + t) % M ≡ three v' % M → six o % M ≡ six o' % M
total M t o u v o' u' v' hu hv hu' hv' p q =
    ap (λ (x : ℕ). x % M) (sym (halves o u v hu hv)) ∙ both_sides M (three u) (three v) (three u') (three v') t p q
    ∙ ap (λ (x : ℕ). x % M) (halves o' u' v' hu' hv')
