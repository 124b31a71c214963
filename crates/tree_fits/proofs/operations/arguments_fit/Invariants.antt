use Rattle.std.proofs.Common.{◌≡◌, drop, map}
use Rattle.std.specs.List.{list_all, flat_map, filter, find as find_in}
use Rattle.ir_programs.specs.Parts as parts
use Rattle.ir_programs.specs.Fits as spec
use Rattle.tree_fits.proofs.operations.arguments_fit.Given as goal

abbrev pub invariant-each : goal.invariant-each
invariant-each l = list_all (spec.value_fits l.place.tree.now l.place.function.now) (map parts.typed l.arguments) ≡ list_all (spec.value_fits l.place.tree.now l.place.function.now) (map parts.typed (drop l.argument-index l.arguments))
