use Rattle.std.proofs.Common.{[], ◌∷◌, ◌∙◌, sym, ap}
use Rattle.std.proofs.lemmas.List.{append-nil}
use Rattle.phrases.specs.Phrase.{many_from}
use Rattle.phrases.proofs.Loops.{shrinks}
use Rattle.ir_grammar.specs.Tokens.{comma, integer_type}
use Rattle.ir_grammar.specs.Instructions.{item_or_attached, attachments_begun, index}
use Rattle.ir_grammar.proofs.InstructionsExact.{index_or_attached_exact}
use Rattle.reader_words.specs.Source.{pieces}
use Rattle.reader_words.proofs.Turns.{fewer}
use Rattle.reader_words.proofs.Gather.{gathered, turn, with_present, present_later}
use Rattle.reader_operations.proofs.calls.indices.Goals as goal

pub commas-smaller : goal.commas-smaller
commas-smaller c =
    fewer c.commas.rest c.in_ok-next.after
    (shrinks (comma ∷ []) [] (item_or_attached (integer_type ∷ []) index) attachments_begun index_or_attached_exact c.commas.begun (pieces c.commas.rest) c.in_ok-next.next (pieces c.in_ok-next.after) c.in_ok-next.ensures)

pub commas-preserved : goal.commas-preserved
commas-preserved c =
    ap (λ b. gathered with_present c.keep.new.found ((many_from (comma ∷ []) (item_or_attached (integer_type ∷ []) index) attachments_begun b).reads (pieces c.in_ok-next.after))) c.has_begun-begun.ensures
    ∙ turn (comma ∷ []) [] (item_or_attached (integer_type ∷ []) index) attachments_begun index_or_attached_exact with_present (λ x. append-nil x) present_later c.commas.begun c.commas.found c.keep.new.found
    (pieces c.commas.rest) (pieces c.in_ok-next.after) c.in_ok-next.next _ (sym c.has_mark.ensures ∙ c.commas-test.true) c.in_ok-next.ensures c.in_ok-keep.ensures c.commas.invariant
