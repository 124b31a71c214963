use Rattle.std.proofs.Common.{◌≡◌, drop, map}
use Rattle.ir_programs.specs.Texts.{among, texts}
use Rattle.ir_programs.specs.Parts as parts
use Rattle.tree_fits.proofs.phis.is_case.Given as goal

abbrev pub invariant-each : goal.invariant-each
invariant-each l = among l.name (texts (map parts.case_label l.cases)) ≡ among l.name (texts (map parts.case_label (drop l.case-index l.cases)))
