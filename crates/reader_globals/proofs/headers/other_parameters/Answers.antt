use Rattle.std.proofs.Common.{◌∙◌, sym}
use Rattle.reader_words.specs.Source.{pieces}
use Rattle.reader_words.proofs.Turns.{fewer}
use Rattle.reader_globals.proofs.Parameters.{parameter_turn, parameter_shrinks}
use Rattle.reader_globals.proofs.headers.other_parameters.Goals as goal

pub commas-smaller : goal.commas-smaller
commas-smaller c =
    fewer c.commas.rest c.in_ok-next.after (parameter_shrinks (pieces c.commas.rest) (pieces c.in_ok-after.after) (pieces c.in_ok-next.after) c.in_ok-next.next c.in_ok-after.ensures c.in_ok-next.ensures)

pub commas-preserved : goal.commas-preserved
commas-preserved c =
    parameter_turn c.commas.found c.push.new.self (pieces c.commas.rest) (pieces c.in_ok-after.after) (pieces c.in_ok-next.after) c.in_ok-next.next _
    (sym c.has_mark.ensures ∙ c.commas-test.true) c.in_ok-after.ensures c.in_ok-next.ensures c.in_ok-push.ensures.ok c.commas.invariant
