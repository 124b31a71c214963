use Rattle.std.proofs.Common.{◌≡◌, drop}
use Rattle.ir_programs.specs.Edges as spec
use Rattle.tree_fits.proofs.phis.all_agree.Given as goal

abbrev pub invariant-places : goal.invariant-places
invariant-places l = spec.agree l.incoming ≡ spec.agree (drop l.place l.incoming)
