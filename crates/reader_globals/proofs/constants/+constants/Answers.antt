use Rattle.std.proofs.Common.{◌∙◌, sym}
use Rattle.ir_grammar.specs.Constants.{typed_constant}
use Rattle.ir_grammar.proofs.TypesExact.{mem_starts, mem_names}
use Rattle.ir_grammar.proofs.ConstantsExact.{typed_constant_exact}
use Rattle.reader_words.proofs.Turns.{comma_turn, comma_fewer}
use Rattle.reader_globals.proofs.constants.+constants.Goals as goal

pub other_elements-commas-smaller : goal.other_elements-commas-smaller
other_elements-commas-smaller t c =
    comma_fewer mem_starts mem_names (typed_constant c.args.inner) (typed_constant_exact c.args.inner) c.commas.rest c.in_ok-after.after c.in_ok-next.after c.in_ok-next.next c.in_ok-after.ensures c.in_ok-next.ensures

pub other_elements-commas-preserved : goal.other_elements-commas-preserved
other_elements-commas-preserved t c =
    comma_turn mem_starts mem_names (typed_constant c.args.inner) (typed_constant_exact c.args.inner) c.commas.found c.push.new.self c.commas.rest c.in_ok-after.after c.in_ok-next.after c.in_ok-next.next _
    (sym c.has_mark.ensures ∙ c.commas-test.true) c.in_ok-after.ensures c.in_ok-next.ensures c.in_ok-push.ensures.ok c.commas.invariant
