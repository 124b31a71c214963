use Rattle.ir_grammar.specs.Words.{attribute_words, linkage_words}
use Rattle.reader_words.specs.Source.{pieces}
use Rattle.reader_words.proofs.Tables.{in_first, in_last}
use Rattle.reader_words.proofs.ignored.has_ignored_word.Goals as goal

pub returns-then-has_word_of : goal.returns-then-has_word_of
returns-then-has_word_of c = in_first attribute_words linkage_words (pieces c.args.source) c.has_word_of.result c.has_word_of.ensures c.if-has_word_of.true

pub returns : goal.returns
returns c = in_last attribute_words linkage_words (pieces c.args.source) c.has_word_of.result c.has_word_of-2.result c.has_word_of.ensures c.if-has_word_of.false c.has_word_of-2.ensures
