use Rattle.std.proofs.Common.{◌≡◌, drop}
use Rattle.std.specs.List.{list_all, filter}
use Rattle.ir_programs.specs.Edges as spec
use Rattle.tree_fits.proofs.phis.are_phis_of.Given as goal

abbrev pub invariant-each : goal.invariant-each
invariant-each l = list_all (spec.is_phi_of l.sources) l.phis ≡ list_all (spec.is_phi_of l.sources) (drop l.phi-index l.phis)
