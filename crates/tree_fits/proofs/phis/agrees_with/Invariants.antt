use Rattle.std.proofs.Common.{◌≡◌, drop, not}
use Rattle.std.specs.Prelude.{◌||◌}
use Rattle.std.specs.List.{list_all, filter}
use Rattle.ir_tree.specs.Texts.{same}
use Rattle.ir_programs.specs.Edges as spec
use Rattle.tree_fits.proofs.phis.agrees_with.Given as goal

abbrev pub invariant-each : goal.invariant-each
invariant-each l = list_all (λ x. not (same l.one.label.text x.label.text) || spec.same_value l.one.value x.value) l.others ≡ list_all (λ x. not (same l.one.label.text x.label.text) || spec.same_value l.one.value x.value) (drop l.other-index l.others)
