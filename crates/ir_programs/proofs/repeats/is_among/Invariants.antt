use Rattle.std.proofs.Common.{◌≡◌, drop}
use Rattle.ir_programs.specs.Steps.{texts_of}
use Rattle.ir_programs.specs.Texts.{among}
use Rattle.ir_programs.proofs.repeats.is_among.Given as goal

abbrev pub invariant-each : goal.invariant-each
invariant-each l = among l.text (texts_of l.locals) ≡ among l.text (texts_of (drop l.local-index l.locals))
