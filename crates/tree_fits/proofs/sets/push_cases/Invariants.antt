use Rattle.std.proofs.Common.{◌≡◌, ◌++◌, drop, map}
use Rattle.std.specs.List.{list_all, flat_map, filter, find as find_in}
use Rattle.ir_programs.specs.Parts as parts
use Rattle.tree_fits.specs.Leads.{led_fits}
use Rattle.tree_fits.proofs.sets.push_cases.Given as goal

abbrev pub invariant-each : goal.invariant-each
invariant-each l = l.tests.items ++ flat_map (led_fits l.place.tree.now l.place.function.now l.source) (map parts.case_label (drop l.case-index l.cases)) ≡ l.initial.tests.items ++ flat_map (led_fits l.place.tree.now l.place.function.now l.source) (map parts.case_label l.cases)
