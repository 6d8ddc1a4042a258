-- Document 02, item 8: "Officers want a commitment to be meaningless anywhere but where it was posted." Of a record with 0C the bytes that are
-- hashed tell the election, the place and the opening; those of a record with 01 tell the opening, and that it is one with 01. So one
-- commitment that stands in two places, opened in both, shows two different inputs of SHA3-256 with one digest.
use mathlib.Core.Path.{◌≡◌, refl, sym, ap, ◌∙◌}
use mathlib.Core.Logic.{◌≢◌, ◌⊎◌, inl, inr}
use mathlib.Core.Bool.{false}
use mathlib.Core.List.{List, ◌++◌, List-discrete}
use Prim.Native.Nat.{ℕ, zero, suc, ◌+◌, ◌*◌, ◌^◌, ◌≤◌, ◌<◌}
use native.Mathlib.Decide.{ℕ_discrete}
use native.Mathlib.Omega.{arith}
use lib.ListN.{length, take, drop, length-append}
use lib.Seq.{take_at, drop_at}
use Rattle.laws.specs.Bytes.{number, bytes, Below, length_bytes, number_bytes}
use Rattle.laws.specs.Chunks.{length_piece}
use Rattle.sha3.specs.Sha3.{sha3_256}
use Rattle.protocol.specs.declared.Form.{Form}
use Rattle.protocol.specs.declared.Form.TheVariants.{Unnumbered, Numbered}
use Rattle.protocol.specs.declared.Parameters.{Parameters}
use Rattle.protocol.specs.declared.Place.{Place}
use Rattle.protocol.specs.declared.Place.TheVariants.{InBallot, InEntry}
use Rattle.protocol.specs.Answers.{accepted}
use Rattle.protocol.specs.Terms.{item, election_number, place_bytes, hashed_bytes, commitment}
use Rattle.protocol.specs.Layout.{lists, at_ballot_half}
use Rattle.protocol.specs.Record.{form_of, parameters_of, id_of, ballot_opening_of, list_half_place, list_opening_of, full_place, full_opening_of}
use Rattle.protocol.specs.Judging.{judged}
use Rattle.protocol.specs.Stands.{Stands}
use Rattle.protocol.specs.Demand3.{OpenedTwice, Posted, by_ballot, by_entry, Shown, in_ballot_half, in_list_half, in_full_opening}
use Rattle.protocol.proofs.Forms.{form_numbered, form_unnumbered}
use Rattle.protocol.proofs.Accepting.{accepts_iff}
use Rattle.protocol.proofs.Transport.{slot_in}
use Rattle.protocol.proofs.Within.{stands_shaped, first_within, ballot_within, ballot_half_within, list_half_within, full_within}

-- ---- lists and numbers that are told apart

front_is : (p p' q q' : List ℕ) → length p ≡ length p' → p ++ q ≡ p' ++ q' → p ≡ p'
front_is p p' q q' n e = sym (take_at p q (length p) refl) ∙ ap (take (length p)) e ∙ take_at p' q' (length p) (sym n)

back_is : (p p' q q' : List ℕ) → length p ≡ length p' → p ++ q ≡ p' ++ q' → q ≡ q'
back_is p p' q q' n e = sym (drop_at p q (length p) refl) ∙ ap (drop (length p)) e ∙ drop_at p' q' (length p) (sym n)

bytes_tell : (w x y : ℕ) → x < 256 ^ w → y < 256 ^ w → bytes w x ≡ bytes w y → x ≡ y
bytes_tell w x y hx hy e = sym (number_bytes w x hx) ∙ ap (λ (l : List ℕ). number l 0 w) e ∙ number_bytes w y hy

number_small : (r : List ℕ) (a w : ℕ) → Below 256 r → a + w ≤ length r → number r a w < 256 ^ w
unfolding number
number_small r a zero small h = omega arith
number_small r a (suc w) small h = omega (arith, number_small r a w small (omega arith), small (a + w) (omega arith))

-- ---- the bytes of a place

-- a place as a record may name it: 4 bytes for ids and positions, one byte for slots, and for lists one that is not 255
abbrev pub Nameable : Place → Type 0
Nameable (InBallot id slot) = (id < 4294967296) × (slot < 256)
Nameable (InEntry list position slot) = (list < 255) × ((position < 4294967296) × (slot < 256))

-- slot, list byte and number
abbrev told : ℕ → ℕ → ℕ → List ℕ
told slot list x = (bytes 1 slot ++ bytes 1 list) ++ bytes 4 x

told_length : (s l x : ℕ) → length (told s l x) ≡ 6
told_length s l x =
    omega (arith, length-append (bytes 1 s ++ bytes 1 l) (bytes 4 x), length-append (bytes 1 s) (bytes 1 l), length_bytes 1 s, length_bytes 1 l, length_bytes 4 x)

told_tells : (s l x s' l' x' : ℕ) → s < 256 → l < 256 → x < 4294967296 → s' < 256 → l' < 256 → x' < 4294967296
    → told s l x ≡ told s' l' x' → (s ≡ s') × ((l ≡ l') × (x ≡ x'))
told_tells s l x s' l' x' hs hl hx hs' hl' hx' e =
    let n : length (bytes 1 s ++ bytes 1 l) ≡ length (bytes 1 s' ++ bytes 1 l') = omega (arith, length-append (bytes 1 s) (bytes 1 l), length-append (bytes 1 s') (bytes 1 l'), length_bytes 1 s, length_bytes 1 l, length_bytes 1 s', length_bytes 1 l') in
    let m : length (bytes 1 s) ≡ length (bytes 1 s') = omega (arith, length_bytes 1 s, length_bytes 1 s') in
    let head = front_is _ _ (bytes 4 x) (bytes 4 x') n e in (
      bytes_tell 1 s s' hs hs' (front_is _ _ (bytes 1 l) (bytes 1 l') m head),
      (
        bytes_tell 1 l l' hl hl' (back_is (bytes 1 s) (bytes 1 s') _ _ m head),
        bytes_tell 4 x x' hx hx' (back_is (bytes 1 s ++ bytes 1 l) (bytes 1 s' ++ bytes 1 l') _ _ n e),
      ),
    )

pub length_place : (place : Place) → length (place_bytes place) ≡ 6
unfolding place_bytes
length_place (InBallot id slot) = told_length slot 255 id
length_place (InEntry list position slot) = told_length slot list position

pub place_tells : (a b : Place) → Nameable a → Nameable b → place_bytes a ≡ place_bytes b → a ≡ b
unfolding place_bytes
place_tells (InBallot id s) (InBallot id' s') (hi, hs) (hi', hs') e =
    let (es, (el, ei)) = told_tells s 255 id s' 255 id' hs (omega arith) hi hs' (omega arith) hi' e in
    rw (es, ei)
place_tells (InBallot id s) (InEntry l i s') (hi, hs) (hl', (hi', hs')) e =
    let (es, (el, ei)) = told_tells s 255 id s' l i hs (omega arith) hi hs' (omega arith) hi' e in
    absurd (omega arith)
place_tells (InEntry l i s) (InBallot id s') (hl, (hi, hs)) (hi', hs') e =
    let (es, (el, ei)) = told_tells s l i s' 255 id hs (omega arith) hi hs' (omega arith) hi' e in
    absurd (omega arith)
place_tells (InEntry l i s) (InEntry l' i' s') (hl, (hi, hs)) (hl', (hi', hs')) e =
    let (es, (el, ei)) = told_tells s l i s' l' i' hs (omega arith) hi hs' (omega arith) hi' e in
    rw (es, el, ei)

-- ---- what is hashed

-- what is behind an opening: election and place
tail_length : (election : ℕ) (place : Place) → length (bytes 4 election ++ place_bytes place) ≡ 10
tail_length election place = omega (arith, length-append (bytes 4 election) (place_bytes place), length_bytes 4 election, length_place place)

-- 36 bytes with 01, and 46 with 0C: one block of SHA3-256 either way
pub length_unnumbered : (place : Place) (o : List ℕ) → length o ≡ 36 → length (hashed_bytes Unnumbered place o) ≡ 36
unfolding hashed_bytes
length_unnumbered place o n = n

pub length_numbered : (election : ℕ) (place : Place) (o : List ℕ) → length o ≡ 36 → length (hashed_bytes (Numbered election) place o) ≡ 46
unfolding hashed_bytes
length_numbered election place o n = omega (arith, length-append o (bytes 4 election ++ place_bytes place), tail_length election place)

-- with 0C, the bytes that are hashed tell election, place and opening: for all openings different places give different hash inputs
pub numbered_tells : (election election' : ℕ) (a b : Place) (o o' : List ℕ) → election < 4294967296 → election' < 4294967296 → Nameable a → Nameable b → length o ≡ length o'
    → hashed_bytes (Numbered election) a o ≡ hashed_bytes (Numbered election') b o' → (election ≡ election') × ((a ≡ b) × (o ≡ o'))
unfolding hashed_bytes
numbered_tells election election' a b o o' he he' ha hb n e =
    let tail = back_is o o' _ _ n e in
    let m : length (bytes 4 election) ≡ length (bytes 4 election') = omega (arith, length_bytes 4 election, length_bytes 4 election') in (
      bytes_tell 4 election election' he he' (front_is _ _ (place_bytes a) (place_bytes b) m tail),
      (place_tells a b ha hb (back_is (bytes 4 election) (bytes 4 election') _ _ m tail), front_is o o' _ _ n e),
    )

-- and the two forms never hash the same bytes
pub forms_apart : (election : ℕ) (a b : Place) (o o' : List ℕ) → length o ≡ length o' → hashed_bytes Unnumbered a o ≢ hashed_bytes (Numbered election) b o'
unfolding hashed_bytes
forms_apart election a b o o' n e =
    omega (arith, ap length e, n, length-append o' (bytes 4 election ++ place_bytes b), tail_length election b)

-- ---- commitments

-- two different inputs of SHA3-256 with one digest
pub record HashCollision : Type 0 where
  pub one : List ℕ
  pub other : List ℕ
  pub differ : one ≢ other
  pub same : sha3_256 one ≡ sha3_256 other

-- what openings of two commitments that are equal can have in common: form, place and opening, and with 01 the opening alone
abbrev pub Same : Form → Place → List ℕ → Form → Place → List ℕ → Type 0
Same Unnumbered a o Unnumbered b o' = o ≡ o'
Same Unnumbered a o (Numbered election) b o' = ⊥
Same (Numbered election) a o Unnumbered b o' = ⊥
Same (Numbered election) a o (Numbered election') b o' = (election ≡ election') × ((a ≡ b) × (o ≡ o'))

-- the bytes hashed of either form tell them
hashed_tells : (f g : Form) (a b : Place) (o o' : List ℕ) → election_number f < 4294967296 → election_number g < 4294967296 → Nameable a → Nameable b → length o ≡ length o'
    → hashed_bytes f a o ≡ hashed_bytes g b o' → Same f a o g b o'
unfolding hashed_bytes election_number
hashed_tells Unnumbered Unnumbered a b o o' hf hg ha hb n e = e
hashed_tells Unnumbered (Numbered x) a b o o' hf hg ha hb n e = absurd (forms_apart x a b o o' n e)
hashed_tells (Numbered x) Unnumbered a b o o' hf hg ha hb n e = absurd (forms_apart x b a o' o (sym n) (sym e))
hashed_tells (Numbered x) (Numbered y) a b o o' hf hg ha hb n e = numbered_tells x y a b o o' hf hg ha hb n e

-- one commitment that two openings give: they are the same, at one place where it has 0C, or a collision is shown
pub same_or : (p q : Parameters) (a b : Place) (o o' : List ℕ) → election_number p.form < 4294967296 → election_number q.form < 4294967296 → Nameable a → Nameable b
    → length o ≡ length o' → commitment p a o ≡ commitment q b o' → Same p.form a o q.form b o' ⊎ HashCollision
unfolding commitment
same_or p q a b o o' hp hq ha hb n e = go (List-discrete ℕ_discrete (hashed_bytes p.form a o) (hashed_bytes q.form b o'))
  where
    go : Dec (hashed_bytes p.form a o ≡ hashed_bytes q.form b o') → Same p.form a o q.form b o' ⊎ HashCollision
    go (yes h) = inl (hashed_tells p.form q.form a b o o' hp hq ha hb n h)
    go (no ne) = inr record { one = hashed_bytes p.form a o; other = hashed_bytes q.form b o'; differ = ne; same = e }

-- with 01, equal openings have equal commitments wherever they are posted
pub unnumbered_same : (p : Parameters) (a b : Place) (o : List ℕ) → p.form ≡ Unnumbered → commitment p a o ≡ commitment p b o
unfolding commitment hashed_bytes
unnumbered_same p a b o form = rw form

-- different openings of one place hash different bytes
hashed_apart : (f : Form) (a : Place) (o o' : List ℕ) → o ≢ o' → hashed_bytes f a o ≢ hashed_bytes f a o'
unfolding hashed_bytes
hashed_apart Unnumbered a o o' ne e = ne e
hashed_apart (Numbered election) a o o' ne e =
    let tail : List ℕ = bytes 4 election ++ place_bytes a in
    ne (front_is o o' tail tail (omega (arith, ap length e, length-append o tail, length-append o' tail)) e)

-- a commitment opened in two ways is a collision, in either form
pub twice_collides : {r₁ r₂ r₃ : List ℕ} → OpenedTwice r₁ r₂ r₃ → HashCollision
unfolding commitment
twice_collides {r₁} t =
    let form = (parameters_of r₁).form in
    record {
      one = hashed_bytes form t.place t.one;
      other = hashed_bytes form t.place t.other;
      differ = hashed_apart form t.place t.one t.other t.differ;
      same = t.one_gives ∙ sym t.other_gives;
    }

-- ---- the places of a record

module _ (r : List ℕ) (small : Below 256 r) (s : Stands r) where
  id_small : (j : ℕ) → j < (parameters_of r).ballots → id_of (parameters_of r) r j < 4294967296
  unfolding id_of
  id_small j lj = number_small r _ 4 small (omega (arith, ballot_within (stands_shaped s) j lj))

  -- an opening that an accepted record shows has 36 bytes, and gives what is posted in its place
  pub record Opens (place : Place) (o : List ℕ) : Type 0 where
    pub named : Nameable place
    pub long : length o ≡ 36
    pub gives : Posted r place (commitment (parameters_of r) place o)

  pub shown_opens : (place : Place) (o : List ℕ) → Shown r place o → Opens place o
  unfolding ballot_opening_of list_opening_of full_opening_of
  shown_opens _ _ (in_ballot_half j c lj lc) = record {
    named = (id_small j lj, omega (arith, s.valid.sides j lj));
    long = length_piece r (at_ballot_half (parameters_of r) j + 4 + 36 * c) 36 (omega (arith, ballot_half_within (stands_shaped s) j lj));
    gives = rw (s.valid.ballot_opens j c lj lc) (by_ballot j _ lj (slot_in c _ lc (s.valid.sides j lj)));
  }
  shown_opens _ _ (in_list_half l j c ll set lj lc) =
      let li = (s.valid.positions l ll set).below j lj in
      record {
        named = (omega (arith, ll, s.valid.compared_high), (omega (arith, li, s.valid.ballots_high), omega (arith, s.valid.sides j lj)));
        long = length_piece r (list_half_place (parameters_of r) r l j + 4 + 36 * c) 36 (omega (arith, list_half_within (stands_shaped s) l j ll set lj));
        gives = rw (s.valid.list_opens l j c ll set lj lc) (by_entry l _ _ ll li (slot_in c _ lc (s.valid.sides j lj)));
      }
  shown_opens _ _ (in_full_opening l i q ll clear li lq) = record {
    named = (omega (arith, ll, s.valid.compared_high), (omega (arith, li, s.valid.ballots_high), omega arith));
    long = length_piece r (full_place (parameters_of r) r l i + 4 + 36 * q) 36 (omega (arith, full_within (stands_shaped s) l i ll clear li));
    gives = rw (s.valid.full_opens l i q ll clear li lq) (by_entry l i q ll li lq);
  }

  -- the election's number has 4 bytes
  pub election_small : election_number (parameters_of r).form < 4294967296
  unfolding parameters_of election_number
  election_small = go (ℕ_discrete (item r 0) 0x0C)
    where
      go : Dec (item r 0 ≡ 0x0C) → election_number (form_of r) < 4294967296
      go (yes e) = rw (form_numbered r e) (number_small r 1 4 small (omega (arith, first_within (stands_shaped s))))
      go (no ne) = rw (form_unnumbered r ne) (omega arith)

-- an opening that one accepted record shows and an opening that the same or another one shows: if they give one commitment, then they are the
-- same opening, and where a record has 0C the same place of the same election; or a collision is shown
pub elsewhere : (r r' : List ℕ) → Below 256 r → Below 256 r' → judged false r ≡ accepted → judged false r' ≡ accepted
    → (place place' : Place) (o o' : List ℕ) → Shown r place o → Shown r' place' o'
    → commitment (parameters_of r) place o ≡ commitment (parameters_of r') place' o'
    → Same (parameters_of r).form place o (parameters_of r').form place' o' ⊎ HashCollision
elsewhere r r' small small' a a' place place' o o' h h' e =
    let s = (accepts_iff r).0 a in
    let s' = (accepts_iff r').0 a' in
    let t = shown_opens r small s place o h in
    let t' = shown_opens r' small' s' place' o' h' in
    same_or (parameters_of r) (parameters_of r') place place' o o' (election_small r small s) (election_small r' small' s') t.named t'.named
    (t.long ∙ sym t'.long) e
