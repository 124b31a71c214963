use Rattle.std.proofs.Common.{◌≡◌, ◌++◌, drop, map}
use Rattle.ir_programs.specs.Locals as spec
use Rattle.ir_programs.proofs.locals.push_phis.Given as goal

abbrev pub invariant-loop-phi : goal.invariant-loop-phi
invariant-loop-phi l = l.locals.items ++ map spec.phi_local (drop l.phi-index l.phis) ≡ l.initial.locals.items ++ map spec.phi_local l.phis
