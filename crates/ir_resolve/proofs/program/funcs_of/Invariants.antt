use Rattle.std.proofs.Common.{◌≡◌, ◌++◌, drop, map}
use Rattle.ir_programs.specs.Programs as spec
use Rattle.ir_resolve.proofs.program.funcs_of.Given as goal

abbrev pub invariant-each : goal.invariant-each
invariant-each l = l.funcs ++ map (spec.func_of l.whole.tree.now) (drop l.function-index l.functions) ≡ map (spec.func_of l.whole.tree.now) l.functions
