-- Q from the sponge of the bytes before the dice command, so that whoever keeps that sponge need not hash them again.
use Rattle.std.specs.Prelude.{◌≡◌, List, ◌++◌, ℕ}
use Rattle.std.proofs.Common.{sym, ap, ◌∙◌}
use Rattle.sha3.specs.declared.Sponge.{Sponge}
use Rattle.sha3.specs.Sha3.{absorb_bytes, empty, padded, squeeze, digest, sha3_224}
use Rattle.sha3.proofs.Taking.{absorb_append}
use Rattle.protocol.specs.Drawing.{hex_digits, challenge}

unfoldable pub text_from : List ℕ → Sponge → List ℕ
text_from dice s = dice ++ hex_digits (squeeze (padded 144 s) 28)

-- a sponge that has taken these bytes gives their Q
pub text_challenge : (dice prefix : List ℕ) {s : Sponge} → s ≡ absorb_bytes 144 empty prefix → text_from dice s ≡ challenge dice prefix
unfolding text_from challenge sha3_224 digest
text_challenge dice prefix e = ap (text_from dice) e

-- what a sponge has taken, and more
pub absorb_more : (p q : List ℕ) {s : Sponge} → s ≡ absorb_bytes 144 empty p → absorb_bytes 144 s q ≡ absorb_bytes 144 empty (p ++ q)
absorb_more p q e = ap (λ (s : Sponge). absorb_bytes 144 s q) e ∙ sym (absorb_append 144 empty p q)
