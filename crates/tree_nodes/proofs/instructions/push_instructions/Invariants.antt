use Rattle.std.proofs.Common.{◌≡◌, ◌++◌, drop, IsTrue}
use Rattle.std.specs.List.{list_all}
use Rattle.ir_programs.specs.Nodes.{instruction_nodes}
use Rattle.ir_programs.specs.Readable.{is_readable_instruction}
use Rattle.tree_nodes.proofs.instructions.push_instructions.Given as goal

abbrev pub invariant-loop-instruction : goal.invariant-loop-instruction
invariant-loop-instruction l =
    let t = l.scope.whole.now.tree.now in
    let f = l.scope.function.now in
    record {
      made : l.nodes.items ++ instruction_nodes t f l.number (drop l.instruction-index l.instructions) ≡ l.initial.nodes.items ++ instruction_nodes t f l.fn.first l.instructions;
      readable : IsTrue (list_all is_readable_instruction (drop l.instruction-index l.instructions));
    }
