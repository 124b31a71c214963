use Rattle.std.proofs.Common.{◌≡◌, ◌++◌, map, take}
use Rattle.flat_ir.specs.declared.names.Location.TheVariants as location
use Rattle.mod_ref.proofs.places.push_cells.Given as goal

abbrev pub invariant-loop-site : goal.invariant-loop-site
invariant-loop-site l = l.locations.items ≡ l.fn.locations.items ++ map location.Cells (take l.site-index l.sites)
