use Rattle.std.proofs.Common.{◌∙◌, List, Bool, sym, subst}
use Rattle.tree_types.specs.Met.{AreMet}
use Rattle.tree_types.proofs.Meeting.{kept_last}
use Rattle.tree_types.proofs.recursion.met_within.Goals as goal

pub returns-then-are_same : goal.returns-then-are_same
returns-then-are_same c =
    let types = c.args.types.now in
    let x = c.args.target.now in
    let same = sym c.as_slice-in-rounds.ensures.value ∙ (c.are_same.ensures c.if-are_same.true ∙ c.as_slice-in-rounds-2.ensures.value) in
    kept_last types x c.rounds.met.items c.in_ok-next.next.items c.rounds.place c.args.names c.rounds-test.true same
    (λ m a. c.in_ok-next.ensures m (subst (λ (ms : List Bool). AreMet m types x ms) (sym c.as_slice.ensures.value) a)) c.rounds.invariant
