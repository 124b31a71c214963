-- Lines as the code has them, beside those of the grammar.
use Rattle.std.specs.Prelude.{List, ◌++◌}
use Rattle.phrases.specs.Phrase.{Outcome, got, and_then}
use Rattle.ir_grammar.specs.Instructions.{Line as GrammarLine, a_phi, an_instruction, phis_of, instructions_of}
use Rattle.reader_blocks.specs.declared.lines.Line.{Line}
use Rattle.reader_blocks.specs.declared.lines.Line.TheVariants as coded
use Rattle.reader_blocks.specs.declared.lines.Body.{Body}

abbrev pub line_of : Line → GrammarLine
line_of (coded.Phi p) = a_phi p
line_of (coded.Instruction i) = an_instruction i

-- ---- phis and instructions of the lines of a block

abbrev pub with_lines : Body → List GrammarLine → Body
with_lines b ls = record { phis = b.phis ++ phis_of ls; instructions = b.instructions ++ instructions_of ls }

abbrev pub body_of : List GrammarLine → Body
body_of ls = record { phis = phis_of ls; instructions = instructions_of ls }

-- lines that are read, parted
abbrev pub parted : Outcome (List GrammarLine) → Outcome Body
parted read = and_then read (λ ls rest. got (body_of ls) rest)

-- and after those of a body
abbrev pub parted_after : Body → Outcome (List GrammarLine) → Outcome Body
parted_after body read = and_then read (λ ls rest. got (with_lines body ls) rest)
