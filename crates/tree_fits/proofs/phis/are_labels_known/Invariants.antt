use Rattle.std.proofs.Common.{◌≡◌, drop, map}
use Rattle.std.specs.List.{list_all, filter}
use Rattle.ir_programs.specs.Texts.{among, texts}
use Rattle.ir_programs.specs.Parts as parts
use Rattle.tree_fits.proofs.phis.are_labels_known.Given as goal

abbrev pub invariant-each : goal.invariant-each
invariant-each l = list_all (λ t. among t l.sources) (texts (map parts.incoming_label l.incoming)) ≡ list_all (λ t. among t l.sources) (texts (map parts.incoming_label (drop l.value-index l.incoming)))
