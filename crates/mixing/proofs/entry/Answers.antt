-- `mixing::entry` meets its contract.
use Rattle.protocol.specs.Inputs.{inputs_of}
use Rattle.protocol.specs.Servers.{mixed, entry_number}
use Rattle.mixing.proofs.Agreement.{modulus_same}
use Rattle.mixing.proofs.Following.{third_is, parts_below, split_is}
use Rattle.mixing.proofs.entry.Goals as goal

pub split-requires : goal.split-requires
split-requires c =
    parts_below _ _ _ _ _ (modulus_same c.s.view_is) c.mixed-x.ensures.1 c.mixed-y.ensures.1 (rw (← c.s.view_is) c.less_two-z.ensures.1)
    c.entry_halves.ensures

pub returns : goal.returns
unfolding entry_number inputs_of
returns c =
    let a = c.args in
    let (votes, (numbers, (places, (in_list, li)))) = c.requires in
    let third = third_is a.s.now a.l a.i numbers places in_list li c.mixed-x.ensures.0 c.mixed-y.ensures.0 c.source.ensures.0 (rw (← c.s.view_is) c.less_two-z.ensures.0) in
    split_is _ _ _ _ _ (λ k. mixed (inputs_of a.s.now) a.l k a.i) _ (modulus_same c.s.view_is)
    c.mixed-x.ensures.0 c.mixed-y.ensures.0 third c.entry_halves.ensures c.split.ensures
