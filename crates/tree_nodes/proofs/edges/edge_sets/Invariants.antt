use Rattle.std.proofs.Common.{◌≡◌, ◌++◌, drop, IsTrue}
use Rattle.std.specs.List.{list_all}
use Rattle.ir_programs.specs.Readable.{is_readable_phi}
use Rattle.tree_nodes.specs.Edges.{edge_sets_of}
use Rattle.tree_nodes.proofs.edges.edge_sets.Given as goal

abbrev pub invariant-loop-phi : goal.invariant-loop-phi
invariant-loop-phi l =
    let t = l.scope.whole.now.tree.now in
    let f = l.scope.function.now in
    record {
      made : l.sets.items ++ edge_sets_of t f l.source (drop l.phi-index l.phis) ≡ edge_sets_of t f l.source l.phis;
      readable : IsTrue (list_all is_readable_phi (drop l.phi-index l.phis));
    }
