use Rattle.std.proofs.Common.{◌≡◌, drop}
use Rattle.flat_ir.specs.Locations as locations
use Rattle.std.specs.List.{list_any}
use Rattle.write_log.proofs.needs.is_among.Given as goal

abbrev pub invariant-loop-other : goal.invariant-loop-other
invariant-loop-other l = list_any (locations.same_location l.at) l.mods ≡ list_any (locations.same_location l.at) (drop l.other-index l.mods)
