use Rattle.std.proofs.Common.{◌≡◌, drop}
use Rattle.slice_lines.specs.Targets.{function_from}
use Rattle.slice_lines.proofs.targets.function_in.Given as goal

abbrev pub invariant-loop-f : goal.invariant-loop-f
invariant-loop-f l = function_from 0 l.name l.funcs ≡ function_from l.f l.name (drop l.f l.funcs)
