-- What is hashed in each form, as the code has it: a key, and behind it the rest, of which two lanes are made.
use mathlib.Core.Path.{◌≡◌, refl, sym, ap, ◌∙◌}
use mathlib.Core.List.{List, [], ◌∷◌, ◌++◌, append_assoc}
use Prim.Native.Nat.{ℕ, zero, suc, ◌+◌, ◌-◌, ◌/◌, ◌%◌, ◌≤◌}
use native.Mathlib.Omega.{arith}
use lib.ListN.{length, drop, replicate, length-append}
use Rattle.laws.specs.Bytes.{bytes, length_bytes}
use Rattle.laws.specs.Writing.{put, Wrote}
use Rattle.sha3.specs.Sha3.{squeeze, sha3_256}
use Rattle.sha3.specs.Word.{word_at, keyed_row, ended}
use Rattle.sha3.proofs.Keyed.{keyed_digest}
use Rattle.protocol.specs.declared.Form.{Form}
use Rattle.protocol.specs.declared.Form.TheVariants.{Unnumbered, Numbered}
use Rattle.protocol.specs.declared.Parameters.{Parameters}
use Rattle.protocol.specs.declared.Place.{Place}
use Rattle.protocol.specs.declared.Place.TheVariants.{InEntry}
use Rattle.protocol.specs.Terms.{opening, place_bytes, hashed_bytes, commitment}
use Rattle.protocol.proofs.Places.{length_place}
use Rattle.commitment.specs.Behind.{behind_key}

-- the key and what is behind it
behind_is : (form : Form) (place : Place) (key : List ℕ) (x : ℕ) → key ++ behind_key form place x ≡ hashed_bytes form place (opening key x)
unfolding behind_key hashed_bytes opening
behind_is Unnumbered place key x = refl
behind_is (Numbered election) place key x =
    ap (λ (l : List ℕ). key ++ l) (append_assoc (bytes 4 x) (bytes 4 election) (place_bytes place)) ∙ sym (append_assoc key (bytes 4 x) (bytes 4 election ++ place_bytes place))

behind_long : (form : Form) (place : Place) (x : ℕ) → length (behind_key form place x) ≤ 15
unfolding behind_key
behind_long Unnumbered place x = omega (arith, length_bytes 4 x)
behind_long (Numbered election) place x =
    omega (
      arith,
      length-append (bytes 4 x ++ bytes 4 election) (place_bytes place),
      length-append (bytes 4 x) (bytes 4 election),
      length_bytes 4 x,
      length_bytes 4 election,
      length_place place,
    )

-- the lanes that `sha3::keyed_row` gives for it have the commitment
pub committed : (p : Parameters) (place : Place) (key : List ℕ) (x : ℕ) → length key ≡ 32 → {row : List ℕ} {low high : ℕ} →
    row ≡ keyed_row key low high →
    (low ≡ word_at (ended (behind_key p.form place x)) 0) × (high ≡ word_at (ended (behind_key p.form place x)) 8) →
    squeeze row 32 ≡ commitment p place (opening key x)
unfolding commitment
committed p place key x k e t =
    keyed_digest key (behind_key p.form place x) k (behind_long p.form place x) e t.0 t.1 ∙ ap sha3_256 (behind_is p.form place key x)

-- zeros that are left
drop_zeros : (k n : ℕ) → drop {A = ℕ} k (replicate n 0) ≡ replicate (n - k) 0
drop_zeros zero n =
    let e : n ≡ n - 0 = omega arith in
    ap (λ (i : ℕ). replicate i 0) e
drop_zeros (suc k) zero =
    let e : 0 ≡ 0 - suc k = omega arith in
    ap (λ (i : ℕ). replicate i 0) e
drop_zeros (suc k) (suc n) =
    let e : n - k ≡ suc n - suc k = omega arith in
    drop_zeros k n ∙ ap (λ (i : ℕ). replicate i 0) e

-- written into 16 bytes of 0, with the byte 06 behind it, it is the end of a message
pub tail_written : {out : List ℕ} (m : List ℕ) → Wrote (replicate 16 0) 0 (m ++ bytes 1 6) out → out ≡ ended m
unfolding put ended bytes
tail_written m w =
    let n : 16 - (0 + length (m ++ bytes 1 6)) ≡ 15 - length m = omega (arith, length-append m (bytes 1 6), length_bytes 1 6) in
    w.is
    ∙ ap (λ (l : List ℕ). (m ++ bytes 1 6) ++ l) (drop_zeros (0 + length (m ++ bytes 1 6)) 16 ∙ ap (λ (k : ℕ). replicate k 0) n)
    ∙ append_assoc m (bytes 1 6) (replicate (15 - length m) 0)

-- the lowest bytes of a number are those of its remainder
pub low_byte : (x : ℕ) → bytes 1 (x % 256) ≡ bytes 1 x
unfolding bytes
low_byte x =
    let e : x % 256 % 256 ≡ x % 256 = omega arith in
    ap (λ (b : ℕ). b ∷ []) e

low_four : (x : ℕ) → bytes 4 (x % 4294967296) ≡ bytes 4 x
unfolding bytes
low_four x =
    let a : x % 4294967296 / 256 / 256 / 256 % 256 ≡ x / 256 / 256 / 256 % 256 = omega arith in
    let b : x % 4294967296 / 256 / 256 % 256 ≡ x / 256 / 256 % 256 = omega arith in
    let c : x % 4294967296 / 256 % 256 ≡ x / 256 % 256 = omega arith in
    let d : x % 4294967296 % 256 ≡ x % 256 = omega arith in
    rw (a, b, c, d)

pub entry_told : (l i q : ℕ) → (bytes 1 q ++ bytes 1 (l % 256)) ++ bytes 4 (i % 4294967296) ≡ place_bytes (InEntry l i q)
unfolding place_bytes
entry_told l i q = rw (low_byte l, low_four i)
