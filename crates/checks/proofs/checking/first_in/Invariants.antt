use Rattle.checks.specs.Steps.{CleanBelow}
use Rattle.checks.proofs.checking.first_in.Given as goal

abbrev pub invariant-loop-node : goal.invariant-loop-node
invariant-loop-node l = CleanBelow l.funcs l.func l.node
