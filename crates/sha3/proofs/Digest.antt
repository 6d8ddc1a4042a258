-- What others may know of a digest: its length, its bytes, and that a message may come in pieces.
use mathlib.Core.Path.{◌≡◌, ap, ◌∙◌}
use mathlib.Core.List.{List, ◌++◌}
use Prim.Native.Nat.{ℕ}
use lib.ListN.{length}
use Rattle.laws.specs.Bytes.{Below}
use Rattle.sha3.specs.declared.Sponge.{Sponge}
use Rattle.sha3.specs.Sha3.{absorb_bytes, empty, padded, squeeze, digest, sha3_224, sha3_256}
use Rattle.sha3.proofs.Squeeze.{length_squeeze, squeeze_below}
use Rattle.sha3.proofs.Taking.{absorb_append}

module _ (rate d : ℕ) where
  pub digest_length : (m : List ℕ) → length (digest rate d m) ≡ d
  unfolding digest
  digest_length m = length_squeeze (padded rate (absorb_bytes rate empty m)) d

  pub digest_below : (m : List ℕ) → Below 256 (digest rate d m)
  unfolding digest
  digest_below m = squeeze_below (padded rate (absorb_bytes rate empty m)) d

  -- what `start`, `absorb` of each piece and `finish` give
  digest_two : (p q : List ℕ) → digest rate d (p ++ q) ≡ squeeze (padded rate (absorb_bytes rate (absorb_bytes rate empty p) q)) d
  unfolding digest
  digest_two p q = ap (λ (s : Sponge). squeeze (padded rate s) d) (absorb_append rate empty p q)

  pub digest_three : (p q r : List ℕ) →
      digest rate d (p ++ (q ++ r)) ≡ squeeze (padded rate (absorb_bytes rate (absorb_bytes rate (absorb_bytes rate empty p) q) r)) d
  digest_three p q r =
      digest_two p (q ++ r) ∙ ap (λ (s : Sponge). squeeze (padded rate s) d) (absorb_append rate (absorb_bytes rate empty p) q r)

-- a buffer that has the digest of its length
pub digest_sized : (rate : ℕ) (m : List ℕ) {out : List ℕ} {n d : ℕ} → out ≡ digest rate n m → n ≡ d → out ≡ digest rate d m
digest_sized rate m e h = e ∙ ap (λ (n : ℕ). digest rate n m) h

pub sha3_224_length : (m : List ℕ) → length (sha3_224 m) ≡ 28
unfolding sha3_224
sha3_224_length m = digest_length 144 28 m

pub sha3_256_length : (m : List ℕ) → length (sha3_256 m) ≡ 32
unfolding sha3_256
sha3_256_length m = digest_length 136 32 m

pub sha3_256_below : (m : List ℕ) → Below 256 (sha3_256 m)
unfolding sha3_256
sha3_256_below m = digest_below 136 32 m
