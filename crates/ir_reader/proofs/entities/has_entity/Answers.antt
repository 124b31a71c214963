use Rattle.std.proofs.Common.{[], ◌∷◌, ◌∙◌}
use Rattle.std.specs.Prelude.{codes}
use Rattle.ir_grammar.specs.Tokens.{a_local, a_global, words}
use Rattle.reader_words.specs.Source.{pieces}
use Rattle.reader_words.proofs.Gather.{past}
use Rattle.ir_reader.proofs.entities.has_entity.Goals as goal

pub returns : goal.returns
returns c =
    let ts = pieces c.args.source in
    let last = words (codes "declare" ∷ codes "define" ∷ []) in
    c.has_word_of-2.ensures
    ∙ past (a_global ∷ []) last ts _ c.has_kind-2.ensures c.if-has_kind-2.false
    ∙ past (a_local ∷ []) (a_global ∷ last) ts _ c.has_kind.ensures c.if-has_kind.false
    ∙ past (words (codes "source_filename" ∷ codes "target" ∷ codes "attributes" ∷ [])) (a_local ∷ a_global ∷ last) ts _ c.has_word_of.ensures c.if-has_word_of.false
