use Rattle.std.proofs.Common.{[], ◌∙◌, sym}
use Rattle.ir_grammar.specs.Instructions.{attached}
use Rattle.ir_grammar.proofs.InstructionsExact.{attached_starts, attached_exact}
use Rattle.reader_words.proofs.Turns.{comma_skipped, comma_fewer}
use Rattle.reader_words.proofs.ignored.after.Goals as goal

pub commas-smaller : goal.commas-smaller
commas-smaller c = comma_fewer attached_starts [] attached attached_exact c.commas.rest c.in_ok-inner.inner c.in_ok-rest.rest tt c.in_ok-inner.ensures c.in_ok-rest.ensures

pub commas-preserved : goal.commas-preserved
commas-preserved c =
    c.commas.invariant
    ∙ comma_skipped attached_starts [] attached attached_exact c.commas.rest c.in_ok-inner.inner c.in_ok-rest.rest (sym c.has_mark.ensures ∙ c.commas-test.true) c.in_ok-inner.ensures c.in_ok-rest.ensures
