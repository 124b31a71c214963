use Rattle.std.proofs.Common.{◌≡◌, ◌++◌, drop, map}
use Rattle.ir_resolve.proofs.names.push_functions.Given as goal

abbrev pub invariant-each : goal.invariant-each
invariant-each l = l.names.items ++ map (λ f. f.header.name) (drop l.function-index l.functions) ≡ l.initial.names.items ++ map (λ f. f.header.name) l.functions
