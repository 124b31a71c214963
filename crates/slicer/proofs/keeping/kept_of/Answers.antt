use Rattle.std.proofs.Common.{◌≡◌, ◌∙◌, ℕ, List, Bool, length, sym, ap, subst}
use Rattle.control_closure.specs.declared.summing.Met.{Met}
use Rattle.control_closure.specs.Met.{IsGraph}
use Rattle.control_closure.specs.Sums.{at_node}
use Rattle.flat_ir.specs.Machine.{func_at, nodes_of}
use Rattle.least.specs.Sets.{has}
use Rattle.slices.specs.Slice.{end_of, graph_of, retained}
use Rattle.slicer.specs.Keeping.{next_of, nexts_from}
use Rattle.slicer.specs.Places.{items_of}
use Rattle.slicer.proofs.ClosesThem.{graph_is, sums_over}
use Rattle.slicer.proofs.keeping.kept_of.Goals as goal

pub all_met-requires-clause-graph : goal.all_met-requires-clause-graph
all_met-requires-clause-graph c =
    subst (λ (g : List (List ℕ)). IsGraph g) (sym c.requires.graph.graph_is) (graph_is c.args.places.now.program.now c.requires.whole c.args.func)

pub returns : goal.returns
returns c =
    let p = c.args.places.now.program.now in
    let starts : List ℕ = c.args.places.now.starts.items in
    let set : List Bool = c.args.set.now in
    let g = c.args.func in
    let mets : List Met = c.in_ok-mets.mets.items in
    let kept : List Bool = c.as_slice.result.now in
    let size : ℕ = length c.nodes_of.result.now in
    let end : size ≡ end_of p g = ap length c.nodes_of.ensures in
    let same : (n : ℕ) → has kept n ≡ retained p g (items_of p starts set) n = λ n. ap (λ (xs : List Bool). has xs n) c.as_slice.ensures.value ∙ c.in_ok-bits.ensures.bits n in
    record {
      mets = mets;
      sums = sums_over c.args.graph.now.succ (graph_of p g) (has kept) (retained p g (items_of p starts set)) mets c.requires.graph.graph_is same c.in_ok-mets.ensures.sums;
      start = c.next_of.ensures ∙ ap (λ (m : Met). next_of m size) (c.met_at.ensures ∙ ap (λ (xs : List Met). at_node xs 0) c.as_slice-3.ensures.value) ∙ ap (next_of (at_node mets 0)) end;
      nexts = c.in_ok-nexts.ensures ∙ ap (λ (xs : List Met). nexts_from p starts set g xs size 0 (nodes_of (func_at p g))) c.as_slice-2.ensures.value
          ∙ ap (λ (e : ℕ). nexts_from p starts set g mets e 0 (nodes_of (func_at p g))) end;
    }
