use Rattle.std.proofs.Common.{◌≡◌, ◌++◌, drop, map}
use Rattle.ir_resolve.proofs.names.push_globals.Given as goal

abbrev pub invariant-each : goal.invariant-each
invariant-each l = l.names.items ++ map (λ g. g.name) (drop l.global-index l.globals) ≡ l.initial.names.items ++ map (λ g. g.name) l.globals
