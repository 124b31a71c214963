use Rattle.std.proofs.Common.{◌≡◌, ◌++◌, drop, map}
use Rattle.ir_programs.specs.Locals as spec
use Rattle.ir_programs.proofs.locals.push_parameters.Given as goal

abbrev pub invariant-loop-parameter : goal.invariant-loop-parameter
invariant-loop-parameter l = l.locals.items ++ map spec.parameter_local (drop l.parameter-index l.parameters) ≡ l.initial.locals.items ++ map spec.parameter_local l.parameters
