use Rattle.std.specs.Prelude.{slice_get}
use Rattle.std.proofs.Common.{◌≡◌, ℕ, List, Some, arith, ap, length, sym, subst, length-append, [], ◌∷◌}
use Rattle.control_closure.specs.declared.graph.Graph.{Graph}
use Rattle.slicer.specs.Graphs.{IsGraphOf}
use Rattle.slicer.proofs.ClosesThem.{pushed_each}
use Rattle.slicer.proofs.graphs.graphs.Goals as goal

pub each-preserved : goal.each-preserved
each-preserved c =
    let p = c.args.program.now in
    let items = c.in_ok-push.ensures.items in
    record {
      count_is = omega (arith, ap length items, length-append c.each.graphs.items (c.in_ok-graph_of.field-0 ∷ []), c.each.invariant.count_is);
      each = subst (λ (xs : List Graph). (k : ℕ) (g : Graph) → slice_get xs k ≡ Some g → IsGraphOf p k g) (sym items)
          (pushed_each (IsGraphOf p) c.each.graphs.items c.each.f c.in_ok-graph_of.field-0 c.each.invariant.count_is c.each.invariant.each
          (record { graph_is = c.in_ok-graph_of.ensures.graph; small = c.in_ok-graph_of.ensures.small }));
    }
