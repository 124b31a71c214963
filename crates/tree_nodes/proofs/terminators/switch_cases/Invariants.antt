use Rattle.std.proofs.Common.{◌≡◌, ◌++◌, drop, IsTrue}
use Rattle.std.specs.List.{list_all}
use Rattle.ir_programs.specs.Nodes.{switch_cases}
use Rattle.ir_programs.specs.Readable.{is_width}
use Rattle.tree_nodes.proofs.terminators.switch_cases.Given as goal

abbrev pub invariant-loop-case : goal.invariant-loop-case
invariant-loop-case l = record {
  made : l.made ++ switch_cases l.function l.edge (drop l.case-index l.cases) ≡ switch_cases l.function l.fn.k l.cases;
  widths : IsTrue (list_all (λ c. is_width c.width) (drop l.case-index l.cases));
}
