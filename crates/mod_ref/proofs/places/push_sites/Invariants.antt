use Rattle.std.proofs.Common.{◌≡◌, ◌++◌, drop}
use Rattle.mod_ref.specs.Sites as spec
use Rattle.mod_ref.proofs.places.push_sites.Given as goal

abbrev pub invariant-loop-n : goal.invariant-loop-n
invariant-loop-n l = l.sites.items ++ spec.sites_from l.func l.n (drop l.n l.nodes) ≡ l.fn.sites.items ++ spec.sites_from l.func 0 l.nodes
