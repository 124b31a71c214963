use Rattle.std.proofs.Common.{◌≡◌, ◌++◌, drop}
use Rattle.mod_ref.specs.Sites as spec
use Rattle.mod_ref.proofs.places.push_globals.Given as goal

abbrev pub invariant-loop-g : goal.invariant-loop-g
invariant-loop-g l = l.sites.items ++ spec.sites_by_globals l.g (drop l.g l.program.globals) ≡ l.fn.sites.items ++ spec.sites_by_globals 0 l.program.globals
