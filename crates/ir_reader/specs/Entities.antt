-- What a module consists of, as the code has it, beside the grammar's.
use Rattle.std.specs.Prelude.{◌≡◌, List, [], ◌∷◌, ◌++◌, Result, Ok, Err, codes}
use Rattle.ir_tree.specs.declared.module.IrTree.{IrTree}
use Rattle.phrases.specs.Phrase.{Phrase, Outcome, got, and_then, either}
use Rattle.ir_grammar.specs.Tokens.{a_local, a_global, word}
use Rattle.ir_grammar.specs.Module.{Entity as GrammarEntity, nothing, a_type, a_global_definition, a_declare, a_function, types_of, globals_of, declares_of, functions_of, type_definition, global_definition, declare, define}
use Rattle.reader_words.specs.declared.stop.Stop.{Stop}
use Rattle.reader_words.specs.declared.source.Source.{Source}
use Rattle.ir_reader.specs.declared.entities.Entity.{Entity}
use Rattle.ir_reader.specs.declared.entities.Entity.TheVariants as coded
use Rattle.reader_words.specs.Source.{pieces}
use Rattle.reader_words.specs.Gives.{Fails}

-- the tokens after what is read as a given value
abbrev pub MovesPast : {A : Type 0} → A → Result Source Stop → Outcome A → Type 0
MovesPast value (Ok rest) read = read ≡ got value (pieces rest)
MovesPast value (Err e) read = Fails e read

abbrev pub entity_of : Entity → GrammarEntity
entity_of coded.Nothing = nothing
entity_of (coded.Type t) = a_type t
entity_of (coded.Global g) = a_global_definition g
entity_of (coded.Declare d) = a_declare d
entity_of (coded.Function f) = a_function f

-- a tree with more of it, each group behind what was there
abbrev pub with_entities : IrTree → List GrammarEntity → IrTree
with_entities t es = record { types = t.types ++ types_of es; globals = t.globals ++ globals_of es; declares = t.declares ++ declares_of es; functions = t.functions ++ functions_of es }

abbrev pub collected_after : IrTree → Outcome (List GrammarEntity) → Outcome IrTree
collected_after tree read = and_then read (λ es rest. got (with_entities tree es) rest)

-- ---- parts of the choice of an entity

abbrev pub function_entity : Phrase GrammarEntity
function_entity = either (word (codes "declare") ∷ []) declare define

abbrev pub named_entity : Phrase GrammarEntity
named_entity = either (a_local ∷ []) type_definition (either (a_global ∷ []) global_definition function_entity)
