use Rattle.std.proofs.Common.{ℕ, Bool, List, sym, subst}
use Rattle.control_closure.specs.Met.{IsGraph, IsRound}
use Rattle.slices.specs.Slice.{graph_of}
use Rattle.slicer.proofs.ClosesThem.{graph_is, function_closes}
use Rattle.slicer.proofs.closing.close_function.Goals as goal

pub closing_round-requires-clause-graph : goal.closing_round-requires-clause-graph
closing_round-requires-clause-graph c =
    subst (λ (g : List (List ℕ)). IsGraph g) (sym c.requires.graph.graph_is) (graph_is c.args.places.now.program.now c.requires.whole c.args.func)

pub returns : goal.returns
returns c =
    let p = c.args.places.now.program.now in
    let kept : List Bool = c.in_ok-kept.kept.items in
    let next : List Bool = c.as_slice-2.result.now in
    let round' : IsRound (graph_of p c.args.func) kept next =
    subst (λ (g : List (List ℕ)). IsRound g kept next) c.requires.graph.graph_is
    (subst (λ (xs : List Bool). IsRound c.args.graph.now.succ xs next) c.as_slice.ensures.value
    (subst (λ (xs : List Bool). IsRound c.args.graph.now.succ c.as_slice.result.now xs) (sym c.as_slice-2.ensures.value) c.in_ok-next.ensures)) in
    function_closes p c.requires.whole c.args.places.now.starts.items c.args.func c.args.grown.now kept next c.args.set.now c.mark_nodes.new.set c.in_ok-kept.ensures.bits round'
    c.mark_nodes.ensures
