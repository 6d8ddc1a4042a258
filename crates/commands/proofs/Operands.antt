-- What a command is made of: a code below 256 is one byte, and each of n pieces of one width finds room.
use mathlib.Core.Path.{◌≡◌, ap}
use mathlib.Core.List.{List, [], ◌∷◌, ◌++◌}
use Prim.Native.Nat.{ℕ, ◌+◌, ◌*◌, ◌≤◌, ◌<◌}
use native.Mathlib.Nat.{mod-eq_of_lt}
use native.Mathlib.Omega.{arith}
use lib.ListN.{length, length-append}
use Rattle.laws.specs.Bytes.{bytes, length_bytes}
use Rattle.laws.specs.Chunks.{chunks, chunks_even}
use Rattle.laws.specs.Writing.{Went, go_on, go_same, room}

pub one_byte : (x : ℕ) → x < 256 → bytes 1 x ≡ x ∷ []
unfolding bytes
one_byte x h = ap (λ (b : ℕ). b ∷ []) (mod-eq_of_lt h)

-- a code, and then what follows it
pub coded : {l out out' : List ℕ} {a b r : ℕ} {v : List ℕ} (code : ℕ) → code < 256 → Went l a (bytes 1 code) out b → Went out b v out' r → Went l a (code ∷ v) out' r
coded {v = v} code small h e = go_same (go_on h e) (ap (λ (x : List ℕ). x ++ v) (one_byte code small))

-- where a command goes on behind its code, a list and a position
pub after_head : {before out : List ℕ} {a r : ℕ} (code l i : ℕ) → Went before a ((code ∷ bytes 1 l) ++ bytes 2 i) out r → r ≡ a + 4
after_head code l i h = omega (arith, h.to, length-append (code ∷ bytes 1 l) (bytes 2 i), length_bytes 1 l, length_bytes 2 i)

-- room for piece j of n
pub room_even : {l out : List ℕ} {a b : ℕ} (f : ℕ → List ℕ) (w j n : ℕ) → ((i : ℕ) → i < n → length (f i) ≡ w) → Went l a (chunks f j) out b → a + n * w ≤ length l → j < n → b + w ≤ length out
room_even f w j n wide h k i = omega (arith, room f j n h (omega (arith, chunks_even f w n wide)) i, wide j i)
