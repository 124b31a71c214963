use Rattle.std.proofs.Common.{◌∷◌, ◌∙◌, sym}
use Rattle.phrases.proofs.Loops.{shrinks}
use Rattle.ir_grammar.specs.Tokens.{comma, equals}
use Rattle.ir_grammar.specs.Instructions.{tail_starts}
use Rattle.ir_grammar.specs.Module.{entity, entity_starts}
use Rattle.ir_grammar.proofs.ModuleExact.{entity_exact}
use Rattle.reader_words.specs.Source.{pieces}
use Rattle.ir_reader.specs.Entities.{entity_of, with_entities}
use Rattle.reader_words.proofs.Turns.{fewer}
use Rattle.reader_words.proofs.Gather.{turn}
use Rattle.ir_reader.proofs.TreeParts.{entities_none, entities_later}
use Rattle.ir_reader.proofs.entities.module.Goals as goal

pub entities-smaller : goal.entities-smaller
entities-smaller c =
    fewer c.entities.rest c.in_ok-next.after
    (shrinks entity_starts (comma ∷ equals ∷ tail_starts) (λ (_ : Unit {0}). entity) (λ _ _. tt) (λ _. entity_exact) tt (pieces c.entities.rest) (entity_of c.in_ok-next.next) (pieces c.in_ok-next.after) c.in_ok-next.ensures)

pub entities-preserved : goal.entities-preserved
entities-preserved c =
    turn entity_starts (comma ∷ equals ∷ tail_starts) (λ (_ : Unit {0}). entity) (λ _ _. tt) (λ _. entity_exact) with_entities entities_none entities_later tt c.entities.tree c.add.new.tree (pieces c.entities.rest)
    (pieces c.in_ok-next.after) (entity_of c.in_ok-next.next) _ (sym c.has_entity.ensures ∙ c.entities-test.true) c.in_ok-next.ensures c.in_ok-add.ensures c.entities.invariant
