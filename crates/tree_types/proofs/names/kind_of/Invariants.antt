use Rattle.std.proofs.Common.{◌≡◌, drop}
use Rattle.ir_tree.specs.Layout as layout
use Rattle.tree_types.proofs.names.kind_of.Given as goal

abbrev pub invariant-each : goal.invariant-each
invariant-each l = layout.kind_of l.types l.name ≡ layout.kind_of (drop l.definition-index l.types) l.name
