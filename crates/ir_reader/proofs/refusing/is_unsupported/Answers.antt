use Rattle.std.proofs.Common.{[], ◌∷◌, ◌++◌, ◌∙◌}
use Rattle.ir_grammar.specs.Tokens.{words}
use Rattle.ir_grammar.specs.Words.{unsupported_words}
use Rattle.reader_words.specs.Source.{piece_of}
use Rattle.ir_reader.specs.Refusing.{wide_integer, unsupported_marks, hash_name}
use Rattle.reader_words.proofs.Gather.{past_these, in_these, alone}
use Rattle.ir_reader.proofs.refusing.is_unsupported.Goals as goal

pub returns-then-is_unsupported_mark : goal.returns-then-is_unsupported_mark
returns-then-is_unsupported_mark c =
    let p = piece_of c.args.found in
    let last = hash_name ∷ words unsupported_words in
    in_these unsupported_marks last p _ c.is_unsupported_mark.ensures c.if-is_unsupported_mark.true
    ∙ past_these (wide_integer ∷ []) (unsupported_marks ++ last) p _ (c.is_wide_integer.ensures ∙ alone wide_integer p) c.if-is_wide_integer.false

pub returns-then-is_hash_name : goal.returns-then-is_hash_name
returns-then-is_hash_name c =
    let p = piece_of c.args.found in
    let last = words unsupported_words in
    in_these (hash_name ∷ []) last p _ (c.is_hash_name.ensures ∙ alone hash_name p) c.if-is_hash_name.true
    ∙ past_these unsupported_marks (hash_name ∷ last) p _ c.is_unsupported_mark.ensures c.if-is_unsupported_mark.false
    ∙ past_these (wide_integer ∷ []) (unsupported_marks ++ (hash_name ∷ last)) p _ (c.is_wide_integer.ensures ∙ alone wide_integer p) c.if-is_wide_integer.false

pub returns : goal.returns
returns c =
    let p = piece_of c.args.found in
    let last = words unsupported_words in
    c.is_word_of.ensures
    ∙ past_these (hash_name ∷ []) last p _ (c.is_hash_name.ensures ∙ alone hash_name p) c.if-is_hash_name.false
    ∙ past_these unsupported_marks (hash_name ∷ last) p _ c.is_unsupported_mark.ensures c.if-is_unsupported_mark.false
    ∙ past_these (wide_integer ∷ []) (unsupported_marks ++ (hash_name ∷ last)) p _ (c.is_wide_integer.ensures ∙ alone wide_integer p) c.if-is_wide_integer.false
