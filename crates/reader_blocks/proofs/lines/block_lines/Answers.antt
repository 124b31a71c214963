use Rattle.std.proofs.Common.{◌∙◌, sym, ap}
use Rattle.phrases.specs.Phrase.{many_from}
use Rattle.phrases.proofs.Loops.{shrinks}
use Rattle.ir_grammar.specs.Instructions.{line, line_starts, phis_after}
use Rattle.ir_grammar.proofs.InstructionsExact.{call_more, line_exact}
use Rattle.reader_words.specs.Source.{pieces}
use Rattle.reader_blocks.specs.Lines.{line_of, with_lines, parted_after}
use Rattle.reader_words.proofs.Turns.{fewer}
use Rattle.reader_words.proofs.Gather.{turn}
use Rattle.reader_blocks.proofs.LineParts.{lines_none, lines_later}
use Rattle.reader_blocks.proofs.lines.block_lines.Goals as goal

pub lines-smaller : goal.lines-smaller
lines-smaller c =
    fewer c.lines.rest c.in_ok-next.after (shrinks line_starts call_more line phis_after line_exact c.lines.phis (pieces c.lines.rest) (line_of c.in_ok-next.next) (pieces c.in_ok-next.after) c.in_ok-next.ensures)

pub lines-preserved : goal.lines-preserved
lines-preserved c =
    ap (λ b. parted_after c.add.new.self ((many_from line_starts line phis_after b).reads (pieces c.in_ok-next.after))) c.phis_after-phis.ensures
    ∙ turn line_starts call_more line phis_after line_exact with_lines lines_none lines_later c.lines.phis c.lines.found c.add.new.self (pieces c.lines.rest) (pieces c.in_ok-next.after) (line_of c.in_ok-next.next) _
    (sym c.has_line.ensures ∙ c.lines-test.true) c.in_ok-next.ensures c.in_ok-add.ensures c.lines.invariant
