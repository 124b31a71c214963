use Rattle.std.proofs.Common.{◌≡◌, ◌++◌, drop}
use Rattle.mod_ref.specs.Sites as spec
use Rattle.mod_ref.proofs.places.push_functions.Given as goal

abbrev pub invariant-loop-f : goal.invariant-loop-f
invariant-loop-f l = l.sites.items ++ spec.sites_by_funcs l.f (drop l.f l.program.funcs) ≡ l.fn.sites.items ++ spec.sites_by_funcs 0 l.program.funcs
