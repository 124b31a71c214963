use Rattle.std.proofs.Common.{◌≡◌, ◌++◌, drop}
use Rattle.slicer.specs.Calls as spec
use Rattle.slicer.proofs.looking.calls.Given as goal

abbrev pub invariant-loop-f : goal.invariant-loop-f
invariant-loop-f l = l.calls ++ spec.calls_by_funcs l.f (drop l.f l.program.funcs) ≡ spec.calls_by_funcs 0 l.program.funcs
