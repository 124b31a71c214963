use Rattle.std.proofs.Common.{◌≡◌, ◌++◌, drop}
use Rattle.slicer.specs.Links as spec
use Rattle.slicer.proofs.linking.links.Given as goal

abbrev pub invariant-loop-f : goal.invariant-loop-f
invariant-loop-f l = l.links ++ spec.links_by_funcs l.program l.sets l.looked l.f (drop l.f l.program.funcs) ≡ spec.links_by_funcs l.program l.sets l.looked 0 l.program.funcs
