use Rattle.std.proofs.Common.{◌≡◌, ◌++◌, drop, map, IsTrue}
use Rattle.std.specs.List.{list_all}
use Rattle.ir_programs.specs.Operands.{operands_of}
use Rattle.ir_programs.specs.Parts.{typed}
use Rattle.ir_programs.specs.Readable.{is_readable_typed}
use Rattle.tree_nodes.proofs.calls.operands_of.Given as goal

abbrev pub invariant-loop-argument : goal.invariant-loop-argument
invariant-loop-argument l = record {
  made : l.operands ++ operands_of l.scope.whole.now.tree.now l.scope.function.now (map typed (drop l.argument-index l.arguments)) ≡ operands_of l.scope.whole.now.tree.now l.scope.function.now (map typed l.arguments);
  readable : IsTrue (list_all is_readable_typed (drop l.argument-index l.arguments));
}
