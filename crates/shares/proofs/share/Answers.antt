-- `shares::share` meets its contract: the third number is what the first two leave.
use mathlib.Core.Path.{◌∙◌}
use native.Mathlib.Omega.{arith}
use borrow.Author.Rules.{rules}
use Rattle.shares.proofs.Shares.{share_first, share_second, share_third}
use Rattle.shares.proofs.share.Goals as goal

pub returns-in-0 : goal.returns-in-0
returns-in-0 c = (share_first _ _ _ _ _ c.in-0.is, search rules)

pub returns-in-1 : goal.returns-in-1
returns-in-1 c = (share_second _ _ _ _ _ c.in-1.is, search rules)

pub returns-in_default : goal.returns-in_default
returns-in_default c =
    let third = c.less_two.ensures in
    (third.0 ∙ share_third _ _ _ _ _ (λ e. omega arith) (λ e. omega arith), third.1)
