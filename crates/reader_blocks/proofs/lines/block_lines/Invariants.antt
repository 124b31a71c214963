use Rattle.std.proofs.Common.{◌≡◌, length}
use Rattle.phrases.specs.Phrase.{many_from}
use Rattle.ir_grammar.specs.Instructions.{line, line_starts, phis_after, lines}
use Rattle.reader_blocks.specs.Lines.{parted, parted_after}
use Rattle.reader_words.specs.Source.{pieces}
use Rattle.reader_blocks.proofs.lines.block_lines.Given as goal

abbrev pub invariant-lines : goal.invariant-lines
invariant-lines l = parted_after l.found ((many_from line_starts line phis_after l.phis).reads (pieces l.rest)) ≡ parted (lines.reads (pieces l.source))

abbrev pub decreases-lines : goal.decreases-lines
decreases-lines l = length l.rest.tokens.now
