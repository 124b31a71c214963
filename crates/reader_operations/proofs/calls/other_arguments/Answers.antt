use Rattle.std.proofs.Common.{[], ◌∷◌, ◌∙◌, sym}
use Rattle.ir_grammar.specs.Tokens.{a_local, square, brace, packed_brace}
use Rattle.ir_grammar.specs.Instructions.{argument}
use Rattle.ir_grammar.proofs.TypesExact.{type_starts}
use Rattle.ir_grammar.proofs.InstructionsExact.{argument_exact}
use Rattle.reader_words.proofs.Turns.{comma_turn, comma_fewer}
use Rattle.reader_operations.proofs.calls.other_arguments.Goals as goal

pub commas-smaller : goal.commas-smaller
commas-smaller c =
    comma_fewer type_starts (square ∷ brace ∷ packed_brace ∷ a_local ∷ []) argument argument_exact c.commas.rest c.in_ok-after.after c.in_ok-next.after c.in_ok-next.next c.in_ok-after.ensures c.in_ok-next.ensures

pub commas-preserved : goal.commas-preserved
commas-preserved c =
    comma_turn type_starts (square ∷ brace ∷ packed_brace ∷ a_local ∷ []) argument argument_exact c.commas.found c.push.new.self c.commas.rest c.in_ok-after.after c.in_ok-next.after c.in_ok-next.next _
    (sym c.has_mark.ensures ∙ c.commas-test.true) c.in_ok-after.ensures c.in_ok-next.ensures c.in_ok-push.ensures.ok c.commas.invariant
