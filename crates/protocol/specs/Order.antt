-- Document 01, "The record": the commands, "They come in this order."; and "What is refused": "The judge goes command by command; the first
-- faulty one decides."
use Rattle.std.specs.Prelude.{◌≡◌, ◌≢◌, Bool, true, false, List, [], ◌∷◌, ◌++◌, ℕ, zero, suc, ◌<◌, length}
use Rattle.laws.specs.Tests.{choose}
use Rattle.laws.specs.Masks.{bit}
use Rattle.protocol.specs.declared.Parameters.{Parameters}
use Rattle.protocol.specs.declared.Due.{Due}
use Rattle.protocol.specs.declared.Due.TheVariants.{First, Ballot, Entry, FirstDice, Link, SecondDice, BallotHalf, ListHalf, Vote, FullOpening, End}
use Rattle.protocol.specs.Layout.{lists, record_length}
use Rattle.protocol.specs.Record.{parameters_of, mask_of}
use Rattle.protocol.specs.Rules.{place_of}
use Rattle.protocol.specs.Broken.{Test, test_number, test_rank, Broken}

-- the rows f 0, .., f (n - 1), one behind the other
unfoldable pub joined : (ℕ → List Due) → ℕ → List Due
joined f zero = []
joined f (suc n) = joined f n ++ f n

module _ (mask : ℕ) where
  -- the commands of a list, if it is compared, and if it is not
  unfoldable pub of_compared : ℕ → List Due → List Due
  of_compared l row = choose (bit mask l) [] row

  unfoldable pub of_uncompared : ℕ → List Due → List Due
  of_uncompared l row = choose (bit mask l) row []

  unfoldable pub commands : Parameters → List Due
  commands p =
      let n = p.ballots in
      -- "01 parameters", or 0C
      (First ∷ [])
      -- "02 ballot, n times"
      ++ joined (λ j. Ballot j ∷ []) n
      -- "03 list entry, lists then positions rising"
      ++ joined (λ l. joined (λ i. Entry l i ∷ []) n) (lists p)
      -- "04 first dice"
      ++ (FirstDice ∷ [])
      -- "05 link, compared lists rising, ballots rising in each"
      ++ joined (λ l. of_compared l (joined (λ j. Link l j ∷ []) n)) (lists p)
      -- "06 second dice"
      ++ (SecondDice ∷ [])
      -- "07 ballot half, ballots rising", and "After each 07 there is for every compared list, rising, one 08"
      ++ joined (λ j. BallotHalf j ∷ joined (λ l. of_compared l (ListHalf l j ∷ [])) (lists p)) n
      -- "09 announced vote, n times"
      ++ joined (λ i. Vote i ∷ []) n
      -- "0A full opening, uncompared lists then positions rising"
      ++ joined (λ l. of_uncompared l (joined (λ i. FullOpening l i ∷ []) n)) (lists p)
      -- "0B end"
      ++ (End ∷ [])

-- the commands of a record, by its own parameters and mask
abbrev pub commands_of : List ℕ → List Due
commands_of r = commands (mask_of (parameters_of r) r) (parameters_of r)

-- P holds of every one
abbrev pub Every : (Due → Type 0) → List Due → Type 0
Every P [] = Unit {0}
Every P (d ∷ ds) = P d × Every P ds

module _ (copies drawn : Bool) (r : List ℕ) where
  -- the command breaks test t
  abbrev pub Breaks : Due → Test → Type 0
  Breaks d t = Broken copies drawn (parameters_of r) r d t

  -- it breaks none
  abbrev pub Unbroken : Due → Type 0
  Unbroken d = (t : Test) → Breaks d t → ⊥

  -- "In it": t is the first that it breaks
  pub record FirstTest (d : Due) (t : Test) : Type 0 where
    pub breaks : Breaks d t
    pub none_before : (u : Test) → test_rank u < test_rank t → Breaks d u → ⊥

  -- the first faulty one of a row of commands: it breaks rule k, and stands at that place
  pub record FirstIn (row : List Due) (k place : ℕ) : Type 0 where
    pub before : List Due
    pub faulty : Due
    pub after : List Due
    pub test : Test
    pub order : row ≡ before ++ (faulty ∷ after)
    pub unbroken : Every Unbroken before
    pub first : FirstTest faulty test
    pub number_is : k ≡ test_number test
    pub place_is : place ≡ place_of (parameters_of r) r faulty

-- "the first faulty one decides": what refuses the record, and where it is found; the judge asks for rule 21
pub data FirstBroken (drawn : Bool) (r : List ℕ) (k place : ℕ) : Type 0 where
  command : FirstIn true drawn r (commands_of r) k place → FirstBroken drawn r k place
  -- 17 "bytes after 0B"
  trailing : Every (Unbroken true drawn r) (commands_of r) → record_length (parameters_of r) < length r → k ≡ 17
      → place ≡ record_length (parameters_of r) → FirstBroken drawn r k place

-- ---- the receipt check

-- "reads the parameters and all ballots"
unfoldable pub receipt_commands : Parameters → List Due
receipt_commands p = (First ∷ []) ++ joined (λ j. Ballot j ∷ []) p.ballots

-- "The receipt check tests its receipt's length (18), then 1 to 5 as the judge.", and so without 21
pub data ReceiptBroken (r printed : List ℕ) (k : ℕ) : Type 0 where
  other_length : length printed ≢ 32 → k ≡ 18 → ReceiptBroken r printed k
  as_judge : length printed ≡ 32 → (place : ℕ) → FirstIn false false r (receipt_commands (parameters_of r)) k place
      → ReceiptBroken r printed k
