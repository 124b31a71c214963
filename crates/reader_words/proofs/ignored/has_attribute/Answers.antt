use Rattle.std.proofs.Common.{true, false, refl, sym, ◌∙◌}
use Rattle.std.specs.Prelude.{codes, ◌∷◌, []}
use Rattle.phrases.specs.Piece.{starts}
use Rattle.ir_grammar.specs.Tokens.{word, words}
use Rattle.ir_grammar.specs.Words.{attribute_heads, attribute_words}
use Rattle.reader_words.specs.Source.{pieces}
use Rattle.reader_words.proofs.Tables.{starts_three}
use Rattle.reader_words.proofs.ignored.has_attribute.Goals as goal

pub returns-then-has_word_of : goal.returns-then-has_word_of
returns-then-has_word_of c =
    let ts = pieces c.args.source in
    starts_three attribute_heads (codes "align") attribute_words ts true (starts (word (codes "align") ∷ []) ts) (starts (words attribute_words) ts) (sym c.if-has_word_of.true ∙ c.has_word_of.ensures) refl refl

pub returns-then-has_word : goal.returns-then-has_word
returns-then-has_word c =
    let ts = pieces c.args.source in
    starts_three attribute_heads (codes "align") attribute_words ts false true (starts (words attribute_words) ts) (sym c.if-has_word_of.false ∙ c.has_word_of.ensures) (sym c.if-has_word.true ∙ c.has_word.ensures) refl

pub returns : goal.returns
returns c =
    starts_three attribute_heads (codes "align") attribute_words (pieces c.args.source) false false c.has_word_of-2.result (sym c.if-has_word_of.false ∙ c.has_word_of.ensures) (sym c.if-has_word.false ∙ c.has_word.ensures) c.has_word_of-2.ensures
