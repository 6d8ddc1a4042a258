-- What the stages of judging know from those before them.
use Rattle.std.specs.Prelude.{◌≡◌, ◌≢◌, Bool, true, List, ℕ, ◌≤◌, ◌<◌, ltb, length, take}
use Rattle.laws.specs.Faults.{Found, Nothing}
use Rattle.laws.specs.Faults.{first}
use Rattle.laws.specs.Tests.{pick}
use Rattle.sha3.specs.declared.Sponge.{Sponge}
use Rattle.sha3.specs.Sha3.{absorb_bytes, empty}
use Rattle.protocol.specs.declared.Parameters.{Parameters}
use Rattle.protocol.specs.declared.Due.TheVariants.{Ballot, FirstDice, BallotHalf}
use Rattle.protocol.specs.Layout.{first_width, lists, at_first_dice, at_second_dice}
use Rattle.protocol.specs.Record.{second_dice_of}
use Rattle.protocol.specs.Drawing.{challenge}
use Rattle.protocol.specs.Rules.{fault}
use Rattle.protocol.specs.Judging.{found, if_compared, link_faults, vote_faults}
use Rattle.layout.specs.Bounds.{Few}

-- the first command stands: its parameters are in their limits
pub record Started (p : Parameters) (r : List ℕ) : Type 0 where
  pub few : Few p
  pub ballots_low : 1 ≤ p.ballots
  pub compared_low : 1 ≤ p.compared
  pub whole : first_width p ≤ length r

-- of the first n ballots, k have no fault by themselves, and the next one, if there is one, has
pub record BallotsPassed (drawn : Bool) (p : Parameters) (r : List ℕ) (n k : ℕ) : Type 0 where
  pub most : k ≤ n
  pub none : first (λ j. found drawn p r (Ballot j)) k ≡ Nothing
  pub next : k < n → found drawn p r (Ballot k) ≢ Nothing

-- what is found of ballot k by itself, if it is one of the first n
unfoldable pub stopped : Bool → Parameters → List ℕ → ℕ → ℕ → Found
stopped drawn p r n k = pick (ltb k n) (found drawn p r (Ballot k)) Nothing

-- where something is drawn the sponge has taken in the record's first bytes, so many
pub record TakenIn (drawn : Bool) (r : List ℕ) (prefix : Sponge) (n : ℕ) : Type 0 where
  pub fill : prefix.fill < 144
  pub prefix_is : drawn ≡ true → prefix ≡ absorb_bytes 144 empty (take n r)

-- the record reaches to the first dice
pub record PartOnePassed (drawn : Bool) (p : Parameters) (r : List ℕ) (prefix : Sponge) : Type 0 where
  pub few : Few p
  pub reaches : at_first_dice p ≤ length r
  pub taken : TakenIn drawn r prefix (at_first_dice p)

-- the first dice stand
pub record FirstDicePassed (drawn : Bool) (p : Parameters) (r : List ℕ) : Type 0 where
  pub few : Few p
  pub first_dice : fault p r drawn FirstDice ≡ 0

-- .. and all links
pub record LinksPassed (drawn : Bool) (p : Parameters) (r : List ℕ) : Type 0 where
  pub dice : FirstDicePassed drawn p r
  pub links : first (λ l. if_compared p r l (link_faults drawn p r l)) (lists p) ≡ Nothing

pub record PartTwoPassed (drawn : Bool) (p : Parameters) (r : List ℕ) (prefix : Sponge) : Type 0 where
  pub links : LinksPassed drawn p r
  pub taken : TakenIn drawn r prefix (at_second_dice p)

-- the second dice stand, and the text is what the sides are drawn from
pub record HalvesBegun (drawn : Bool) (p : Parameters) (r : List ℕ) (text : List ℕ) : Type 0 where
  pub links : LinksPassed drawn p r
  pub text_is : drawn ≡ true → text ≡ challenge (second_dice_of p r) (take (at_second_dice p) r)

-- ballot j's half stands
pub record HalfPassed (drawn : Bool) (p : Parameters) (r : List ℕ) (j : ℕ) : Type 0 where
  pub links : LinksPassed drawn p r
  pub ballot : j < p.ballots
  pub half : fault p r drawn (BallotHalf j) ≡ 0

-- the votes stand
pub record VotesPassed (drawn : Bool) (p : Parameters) (r : List ℕ) : Type 0 where
  pub dice : FirstDicePassed drawn p r
  pub votes : vote_faults drawn p r p.ballots ≡ Nothing
