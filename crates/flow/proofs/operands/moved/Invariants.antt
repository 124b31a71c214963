use Rattle.std.proofs.Common.{◌≡◌, map, take}
use Rattle.flat_ir.specs.declared.nodes.MoveSet.{MoveSet}
use Rattle.flow.proofs.operands.moved.Given as goal

abbrev pub invariant-loop-set : goal.invariant-loop-set
invariant-loop-set l = l.operands.items ≡ map (λ (s : MoveSet). s.value) (take l.set-index l.sets)
