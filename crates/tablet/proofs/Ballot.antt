-- The split that is committed: its numbers are below M, and its ballot is the tablet's command.
use mathlib.Core.Path.{◌≡◌, refl, ap, ◌∙◌}
use mathlib.Core.List.{List, [], ◌∷◌, ◌++◌}
use Prim.Native.Nat.{ℕ, zero, suc, ◌*◌, ◌<◌}
use native.Mathlib.Omega.{arith}
use lib.ListN.{length}
use Rattle.laws.specs.Tests.{choose}
use Rattle.laws.specs.Bytes.{bytes}
use Rattle.laws.specs.Chunks.{piece, chunks_same}
use Rattle.laws.specs.Modular.{minus}
use Rattle.protocol.specs.declared.Form.{Form}
use Rattle.protocol.specs.declared.Place.TheVariants.{InBallot}
use Rattle.protocol.specs.Terms.{item, opening, commitment}
use Rattle.protocol.specs.Tablet.{one_of_three, share, slot, ballot_command, tablet_parameters, tablet_command}
use Rattle.protocol.proofs.Honesty.{length_commitment}
use Rattle.protocol.proofs.Widths.{length_ballot}
use Rattle.commands.specs.Openings.{opening_of}

pub three_below : {M : ℕ} (a b c : ℕ) → a < M → b < M → c < M → (k : ℕ) → k < 3 → item (a ∷ b ∷ c ∷ []) k < M
three_below a b c ha hb hc zero h = ha
three_below a b c ha hb hc (suc zero) h = hb
three_below a b c ha hb hc (suc (suc zero)) h = hc
three_below a b c ha hb hc (suc (suc (suc k))) h = absurd (omega arith)

abbrev pub ballot_of : Form → ℕ → ℕ → List ℕ → List ℕ → List ℕ
ballot_of form M id six keys = ballot_command id (λ q. commitment (tablet_parameters form M) (InBallot id q) (opening_of six keys q))

pub ballot_length : (form : Form) (M id : ℕ) (six keys : List ℕ) → length (ballot_of form M id six keys) ≡ 197
ballot_length form M id six keys = length_ballot id _ (λ q l. length_commitment _ _ _)

pub ballot_is : (form : Form) (M id w x y z u1 u2 u3 : ℕ) (six keys : List ℕ) → z ≡ minus M (minus M w x) y
    → ((q : ℕ) → q < 6 → (item six q ≡ slot M (item (x ∷ y ∷ z ∷ [])) (item (u1 ∷ u2 ∷ u3 ∷ [])) q) × (item six q < M))
    → ballot_of form M id six keys ≡ tablet_command form M id w x y u1 u2 u3 keys
unfolding ballot_command tablet_command opening_of slot share choose
ballot_is form M id w x y z u1 u2 u3 six keys e h =
    ap (λ (l : List ℕ). (2 ∷ bytes 4 id) ++ l)
    (chunks_same _ _ 6 (λ q l. ap (λ (k : ℕ). commitment (tablet_parameters form M) (InBallot id q) (opening (piece keys (32 * q) 32) k)) ((h q l).0 ∙ same q l)))
  where
    same : (q : ℕ) → q < 6 → slot M (item (x ∷ y ∷ z ∷ [])) (item (u1 ∷ u2 ∷ u3 ∷ [])) q ≡ slot M (share M w x y) (λ k. one_of_three k u1 u2 u3) q
    same zero l = refl
    same (suc zero) l = refl
    same (suc (suc zero)) l = refl
    same (suc (suc (suc zero))) l = refl
    same (suc (suc (suc (suc zero)))) l = refl
    same (suc (suc (suc (suc (suc zero))))) l = rw e
    same (suc (suc (suc (suc (suc (suc q)))))) l = absurd (omega arith)
