use Rattle.std.proofs.Common.{[], ◌∷◌, ◌∙◌, sym}
use Rattle.ir_grammar.specs.Tokens.{comma}
use Rattle.ir_grammar.specs.Instructions.{block, block_starts}
use Rattle.ir_grammar.proofs.InstructionsExact.{block_exact}
use Rattle.reader_words.specs.Source.{pieces}
use Rattle.reader_words.proofs.Turns.{fewer, item_turn, item_shrinks}
use Rattle.reader_blocks.proofs.blocks.blocks.Goals as goal

pub turns-smaller : goal.turns-smaller
turns-smaller c = fewer c.turns.rest c.in_ok-next.after (item_shrinks (block_starts) (comma ∷ []) block block_exact (pieces c.turns.rest) c.in_ok-next.next (pieces c.in_ok-next.after) c.in_ok-next.ensures)

pub turns-preserved : goal.turns-preserved
turns-preserved c =
    item_turn (block_starts) (comma ∷ []) block block_exact c.turns.found c.push.new.self (pieces c.turns.rest) (pieces c.in_ok-next.after) c.in_ok-next.next _ (sym c.has_block.ensures ∙ c.turns-test.true) c.in_ok-next.ensures
    c.in_ok-push.ensures.ok c.turns.invariant
