use Rattle.std.proofs.Common.{◌≡◌, ◌++◌, List, IfOk, subst}
use Rattle.flat_ir.specs.declared.nodes.Node.{Node}
use Rattle.ir_programs.specs.Locals.{label_of}
use Rattle.ir_programs.specs.Parts.{targets}
use Rattle.tree_nodes.proofs.EdgeNodes.{mapped}
use Rattle.tree_nodes.proofs.edges.push_edges.Goals as goal

pub returns : goal.returns
returns c =
    let s = c.args.scope.now in
    let b = c.args.block.now in
    subst (λ (xs : List Node). IfOk c.push_targets.result (λ u. c.push_targets.new.nodes.items ≡ c.args.nodes.now.items ++ xs))
    (mapped s.whole.now.tree.now s.function.now (label_of b) (targets b.terminator.form)) c.push_targets.ensures
