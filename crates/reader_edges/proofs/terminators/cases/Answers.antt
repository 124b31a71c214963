use Rattle.std.proofs.Common.{[], ◌∷◌, ◌∙◌, sym}
use Rattle.ir_grammar.specs.Tokens.{integer_type}
use Rattle.ir_grammar.specs.Instructions.{case}
use Rattle.ir_grammar.proofs.InstructionsExact.{case_exact}
use Rattle.reader_words.specs.Source.{pieces}
use Rattle.reader_words.proofs.Turns.{fewer, item_turn, item_shrinks}
use Rattle.reader_edges.proofs.terminators.cases.Goals as goal

pub cases-smaller : goal.cases-smaller
cases-smaller c = fewer c.cases.rest c.in_ok-next.after (item_shrinks (integer_type ∷ []) ([]) case case_exact (pieces c.cases.rest) c.in_ok-next.next (pieces c.in_ok-next.after) c.in_ok-next.ensures)

pub cases-preserved : goal.cases-preserved
cases-preserved c =
    item_turn (integer_type ∷ []) ([]) case case_exact c.cases.found c.push.new.self (pieces c.cases.rest) (pieces c.in_ok-next.after) c.in_ok-next.next _ (sym c.has_integer_type.ensures ∙ c.cases-test.true) c.in_ok-next.ensures
    c.in_ok-push.ensures.ok c.cases.invariant
