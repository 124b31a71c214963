use Rattle.std.proofs.Common.{◌≡◌, drop}
use Rattle.std.specs.List.{list_all, flat_map, filter, find as find_in}
use Rattle.ir_tree.specs.Texts.{same}
use Rattle.tree_fits.proofs.signatures.defined.Given as goal

abbrev pub invariant-each : goal.invariant-each
invariant-each l = find_in (λ f. same f.header.name.text l.name) l.functions ≡ find_in (λ f. same f.header.name.text l.name) (drop l.function-index l.functions)
