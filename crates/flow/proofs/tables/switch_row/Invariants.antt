use Rattle.std.proofs.Common.{◌≡◌, map, take}
use Rattle.flat_ir.specs.declared.nodes.SwitchCase.{SwitchCase}
use Rattle.flow.proofs.tables.switch_row.Given as goal

abbrev pub invariant-loop-case : goal.invariant-loop-case
invariant-loop-case l = l.row.items ≡ map (λ (c : SwitchCase). c.to.0) (take l.case-index l.cases)
