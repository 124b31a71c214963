use Rattle.std.proofs.Common.{◌≡◌, drop, map}
use Rattle.std.specs.List.{list_all, filter}
use Rattle.ir_programs.specs.Texts.{among, texts}
use Rattle.ir_programs.specs.Parts as parts
use Rattle.tree_fits.proofs.phis.are_all_labels.Given as goal

abbrev pub invariant-each : goal.invariant-each
invariant-each l = list_all (λ t. among t (texts (map parts.incoming_label l.incoming))) l.sources ≡ list_all (λ t. among t (texts (map parts.incoming_label l.incoming))) (drop l.source-index l.sources)
