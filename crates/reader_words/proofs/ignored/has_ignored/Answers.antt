use Rattle.std.specs.Prelude.{codes, ◌∷◌, ◌++◌}
use Rattle.ir_grammar.specs.Words.{attribute_heads, attribute_words, linkage_words}
use Rattle.reader_words.specs.Source.{pieces}
use Rattle.reader_words.proofs.Tables.{in_last}
use Rattle.reader_words.proofs.ignored.has_ignored.Goals as goal

pub returns : goal.returns
returns c =
    in_last (attribute_heads ++ (codes "align" ∷ attribute_words)) linkage_words (pieces c.args.source) c.has_attribute.result c.has_word_of.result c.has_attribute.ensures c.if-has_attribute.false c.has_word_of.ensures
