use Rattle.std.proofs.Common.{[], ◌∷◌, ◌∙◌, sym}
use Rattle.ir_grammar.specs.Tokens.{equals}
use Rattle.ir_grammar.specs.Instructions.{tail_item, tail_starts}
use Rattle.ir_grammar.proofs.InstructionsExact.{tail_item_exact}
use Rattle.reader_words.proofs.Turns.{skipped, skipped_fewer}
use Rattle.reader_words.proofs.ignored.tail.Goals as goal

pub tail-smaller : goal.tail-smaller
tail-smaller c = skipped_fewer tail_starts (equals ∷ []) tail_item tail_item_exact c.tail.rest c.in_ok-rest.rest c.in_ok-rest.ensures

pub tail-preserved : goal.tail-preserved
tail-preserved c =
    c.tail.invariant ∙ skipped tail_starts (equals ∷ []) tail_item tail_item_exact c.tail.rest c.in_ok-rest.rest (sym c.has_tail.ensures ∙ c.tail-test.true) c.in_ok-rest.ensures
