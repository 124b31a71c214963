use Rattle.std.proofs.Common.{[], ◌∷◌, ◌∙◌}
use Rattle.std.specs.Prelude.{codes}
use Rattle.ir_grammar.specs.Tokens.{a_label, a_local, words}
use Rattle.reader_words.specs.Source.{pieces}
use Rattle.reader_words.proofs.Gather.{past}
use Rattle.reader_blocks.proofs.blocks.has_block.Goals as goal

pub returns : goal.returns
returns c =
    let ts = pieces c.args.source in
    let last = words (codes "store" ∷ codes "tail" ∷ codes "notail" ∷ codes "call" ∷ codes "ret" ∷ codes "br" ∷ codes "switch" ∷ codes "unreachable" ∷ []) in
    c.has_word_of.ensures
    ∙ past (a_local ∷ []) last ts _ c.has_kind-2.ensures c.if-has_kind-2.false
    ∙ past (a_label ∷ []) (a_local ∷ last) ts _ c.has_kind.ensures c.if-has_kind.false
