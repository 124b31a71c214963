use Rattle.std.proofs.Common.{◌≡◌, drop}
use Rattle.std.specs.List.{list_all, flat_map, filter, find as find_in}
use Rattle.ir_programs.specs.Fits as spec
use Rattle.ir_programs.specs.Flow.{value_from as value_in}
use Rattle.tree_fits.proofs.sets.sets_fit.Given as goal

abbrev pub invariant-each : goal.invariant-each
invariant-each l = list_all (λ p. spec.set_fits l.place.tree.now l.place.function.now p (value_in l.source p.incoming)) l.phis ≡ list_all (λ p. spec.set_fits l.place.tree.now l.place.function.now p (value_in l.source p.incoming)) (drop l.phi-index l.phis)
