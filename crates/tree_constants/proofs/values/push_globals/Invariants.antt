use Rattle.std.proofs.Common.{◌≡◌, ◌++◌, drop}
use Rattle.std.specs.List.{flat_map}
use Rattle.ir_programs.specs.Parts as spec
use Rattle.tree_constants.specs.Values.{lent}
use Rattle.tree_constants.proofs.values.push_globals.Given as goal

abbrev pub invariant-loop-global : goal.invariant-loop-global
invariant-loop-global l = lent l.values.items ++ flat_map (λ g. spec.constant_values g.value) (drop l.global-index l.globals) ≡ lent l.initial.values.items ++ flat_map (λ g. spec.constant_values g.value) l.globals
