use Rattle.std.proofs.Common.{[], ◌∷◌, ◌∙◌, sym}
use Rattle.ir_grammar.specs.Tokens.{integer_type}
use Rattle.ir_grammar.specs.Constants.{const_index}
use Rattle.ir_grammar.proofs.ConstantsExact.{const_index_exact}
use Rattle.reader_words.proofs.Turns.{comma_turn, comma_fewer}
use Rattle.reader_types.proofs.operands.const_indices.Goals as goal

pub commas-smaller : goal.commas-smaller
commas-smaller c = comma_fewer (integer_type ∷ []) [] const_index const_index_exact c.commas.rest c.in_ok-after.after c.in_ok-next.after c.in_ok-next.next c.in_ok-after.ensures c.in_ok-next.ensures

pub commas-preserved : goal.commas-preserved
commas-preserved c =
    comma_turn (integer_type ∷ []) [] const_index const_index_exact c.commas.found c.push.new.self c.commas.rest c.in_ok-after.after c.in_ok-next.after c.in_ok-next.next _ (sym c.has_mark.ensures ∙ c.commas-test.true)
    c.in_ok-after.ensures c.in_ok-next.ensures c.in_ok-push.ensures.ok c.commas.invariant
