use Rattle.std.proofs.Common.{◌≡◌, ◌++◌, drop, map, IsTrue}
use Rattle.std.specs.List.{list_all}
use Rattle.ir_programs.specs.Addresses.{parts_within}
use Rattle.ir_programs.specs.Operands.{step_of}
use Rattle.ir_programs.specs.Readable.{is_readable_index}
use Rattle.tree_nodes.proofs.addresses.push_parts.Given as goal

abbrev pub invariant-steps : goal.invariant-steps
invariant-steps l =
    let types = l.scope.whole.now.tree.now.types in
    let step = step_of l.scope.whole.now.tree.now l.scope.function.now in
    record {
      made : l.parts.items ++ parts_within types l.kind (map step (drop l.index-index l.indices)) ≡ l.initial.parts.items ++ parts_within types l.fn.source (map step l.indices);
      readable : IsTrue (list_all is_readable_index (drop l.index-index l.indices));
    }
