use Rattle.std.proofs.Common.{◌≡◌, drop}
use Rattle.ir_programs.specs.Texts.{among}
use Rattle.ir_programs.proofs.absences.is_known.Given as goal

abbrev pub invariant-each : goal.invariant-each
invariant-each l = among l.text l.texts ≡ among l.text (drop l.known-index l.texts)
