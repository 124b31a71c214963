use Rattle.std.proofs.Common.{List, IsTrue, sym, subst}
use Rattle.std.specs.List.{list_all}
use Rattle.ir_tree.specs.declared.instructions.Phi.{Phi}
use Rattle.ir_programs.specs.Readable.{is_readable_phi}
use Rattle.tree_nodes.proofs.Readables.{phis_readable}
use Rattle.tree_nodes.proofs.edges.edge_node.Goals as goal

pub edge_sets-requires : goal.edge_sets-requires
edge_sets-requires c =
    subst (λ (ps : List Phi). IsTrue (list_all is_readable_phi ps)) (sym c.requires.phis) (phis_readable c.args.scope.now.function.now.blocks c.args.target.now c.requires.readable)
