use Rattle.std.proofs.Common.{◌≡◌, ◌++◌, drop, map}
use Rattle.ir_programs.specs.Parts as spec
use Rattle.ir_programs.proofs.parts.push_cases.Given as goal

abbrev pub invariant-loop-case : goal.invariant-loop-case
invariant-loop-case l = l.names.items ++ map spec.case_label (drop l.case-index l.cases) ≡ l.initial.names.items ++ map spec.case_label l.cases
