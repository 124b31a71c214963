use Rattle.std.proofs.Common.{◌≡◌, ◌++◌, drop, map}
use Rattle.ir_programs.specs.Parts.{case_label}
use Rattle.tree_nodes.specs.Edges.{target_nodes}
use Rattle.tree_nodes.proofs.edges.push_cases.Given as goal

abbrev pub invariant-loop-case : goal.invariant-loop-case
invariant-loop-case l =
    let t = l.scope.whole.now.tree.now in
    let f = l.scope.function.now in
    l.nodes.items ++ target_nodes t f l.source (map case_label (drop l.case-index l.cases)) ≡ l.initial.nodes.items ++ target_nodes t f l.source (map case_label l.cases)
