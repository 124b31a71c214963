use Rattle.std.proofs.Common.{◌≡◌, ◌++◌, length}
use Rattle.ir_grammar.specs.Names.{unescaped}
use Rattle.reader_words.proofs.names.unescaped.Given as goal

abbrev pub invariant-bytes : goal.invariant-bytes
invariant-bytes l = l.found.items ++ unescaped l.rest ≡ unescaped l.text

abbrev pub decreases-bytes : goal.decreases-bytes
decreases-bytes l = length l.rest
