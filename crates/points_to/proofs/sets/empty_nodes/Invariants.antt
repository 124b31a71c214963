use Rattle.std.proofs.Common.{◌≡◌, take, length}
use Rattle.flat_ir.specs.declared.program.Func.{Func}
use Rattle.points_to.specs.Sets.{empty_part}
use Rattle.points_to.proofs.sets.empty_nodes.Given as goal

abbrev pub invariant-loop-func : goal.invariant-loop-func
invariant-loop-func l = l.parts.items ≡ empty_part (λ (f : Func). length f.nodes) (take l.func-index l.funcs)
