use Rattle.std.proofs.Common.{◌≡◌, drop}
use Rattle.ir_programs.specs.Nodes.{behind_cases}
use Rattle.tree_nodes.proofs.terminators.behind_cases.Given as goal

abbrev pub invariant-loop-case : goal.invariant-loop-case
invariant-loop-case l = behind_cases l.function l.edge (drop l.case-index l.cases) ≡ behind_cases l.function l.fn.k l.cases
