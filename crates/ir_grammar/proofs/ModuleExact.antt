-- Functions, globals and modules are exact.
use Rattle.std.proofs.Common.{true, false, List, [], ◌∷◌, ◌++◌, Some, None, refl}
use Rattle.std.specs.Prelude.{codes}
use Rattle.phrases.specs.Piece.{Class}
use Rattle.phrases.specs.Exact.{Exact}
use Rattle.phrases.proofs.Laws.{done_exact}
use Rattle.phrases.proofs.Combinators.{seq, alt, rep, skip_rep, skip_exact}
use Rattle.ir_grammar.specs.Tokens.{a_local, a_global, word, words, all_but, comma, equals, square, brace, packed_brace}
use Rattle.ir_grammar.specs.Words.{linkage_words}
use Rattle.ir_grammar.specs.Types.{attribute_starts, nesting}
use Rattle.ir_grammar.specs.Instructions.{tail_starts}
use Rattle.ir_grammar.specs.Module.{ignored, parameter, header, nothing, a_type, a_global_definition, a_declare, a_function, source_name, target_line, attribute_group, type_definition, global_definition, declare, define, entity, entity_starts, types_of, globals_of, declares_of, functions_of, module_text}
use Rattle.ir_grammar.proofs.Single.{spelled, word_exact, mark_exact, global_name_exact, local_name_exact, listed_exact}
use Rattle.ir_grammar.proofs.TypesExact.{ignored_exact, attributes_exact, type_starts, value_type_exact, mem_type_exact}
use Rattle.ir_grammar.proofs.ConstantsExact.{typed_constant_exact}
use Rattle.ir_grammar.proofs.InstructionsExact.{after_exact, str_exact, group_exact, tail_exact, result_exact, block_exact}

ignoreds_exact : Exact ignored (attribute_starts linkage_words) true (attribute_starts linkage_words) []
ignoreds_exact = skip_rep ignored_exact refl refl

pub parameter_exact : Exact parameter type_starts false (a_local ∷ attribute_starts []) (square ∷ brace ∷ packed_brace ∷ a_local ∷ [])
unfolding parameter
parameter_exact =
    seq value_type_exact (λ t.
    seq attributes_exact (λ _.
    seq (alt (seq local_name_exact (λ n. done_exact (Some n)) refl refl) (done_exact None) refl refl) (λ n. done_exact (record { kind = t; name = n })) refl refl) refl refl) refl refl

abbrev pub header_starts : List Class
header_starts = attribute_starts linkage_words ++ word (codes "void") ∷ type_starts

pub header_exact : Exact header header_starts false (equals ∷ tail_starts) (square ∷ brace ∷ packed_brace ∷ a_local ∷ [])
unfolding header
header_exact =
    seq ignoreds_exact (λ _.
    seq result_exact (λ r.
    seq global_name_exact (λ n.
    seq (mark_exact (codes "(")) (λ _.
    seq (listed_exact (codes ")") parameter_exact refl refl refl refl refl) (λ ps.
    seq tail_exact (λ _. done_exact (record { result = r; name = n; parameters = ps })) refl refl) refl refl) refl refl) refl refl) refl refl) refl refl

-- ---- entities

source_exact : Exact source_name (word (codes "source_filename") ∷ []) false [] []
source_exact = seq (word_exact (codes "source_filename")) (λ _. seq (mark_exact (codes "=")) (λ _. seq str_exact (λ _. done_exact nothing) refl refl) refl refl) refl refl

target_exact : Exact target_line (word (codes "target") ∷ []) false [] []
target_exact =
    seq (word_exact (codes "target")) (λ _.
    seq (skip_exact (words (codes "datalayout" ∷ codes "triple" ∷ [])) (spelled (codes "triple")) refl) (λ _.
    seq (mark_exact (codes "=")) (λ _.
    seq str_exact (λ _. done_exact nothing) refl refl) refl refl) refl refl) refl refl

attribute_group_exact : Exact attribute_group (word (codes "attributes") ∷ []) false [] []
attribute_group_exact =
    seq (word_exact (codes "attributes")) (λ _.
    seq group_exact (λ _.
    seq (mark_exact (codes "=")) (λ _.
    seq (mark_exact (codes "{")) (λ _.
    seq (skip_rep (skip_exact (all_but (codes "}")) (spelled []) refl) refl refl) (λ _.
    seq (mark_exact (codes "}")) (λ _. done_exact nothing) refl refl) refl refl) refl refl) refl refl) refl refl) refl refl

type_definition_exact : Exact type_definition (a_local ∷ []) false [] []
type_definition_exact =
    seq local_name_exact (λ n.
    seq (mark_exact (codes "=")) (λ _.
    seq (word_exact (codes "type")) (λ _.
    seq (mem_type_exact nesting) (λ t. done_exact (a_type (record { name = n; kind = t }))) refl refl) refl refl) refl refl) refl refl

global_definition_exact : Exact global_definition (a_global ∷ []) false (comma ∷ []) []
global_definition_exact =
    seq global_name_exact (λ n.
    seq (mark_exact (codes "=")) (λ _.
    seq ignoreds_exact (λ _.
    seq (skip_exact (words (codes "global" ∷ codes "constant" ∷ [])) (spelled (codes "global")) refl) (λ _.
    seq (typed_constant_exact nesting) (λ c.
    seq after_exact (λ _. done_exact (a_global_definition (record { name = n; value = c }))) refl refl) refl refl) refl refl) refl refl) refl refl) refl refl

declare_exact : Exact declare (word (codes "declare") ∷ []) false (equals ∷ tail_starts) []
declare_exact = seq (word_exact (codes "declare")) (λ _. seq header_exact (λ h. done_exact (a_declare h)) refl refl) refl refl

define_exact : Exact define (word (codes "define") ∷ []) false [] []
define_exact =
    seq (word_exact (codes "define")) (λ _.
    seq header_exact (λ h.
    seq (mark_exact (codes "{")) (λ _.
    seq block_exact (λ first.
    seq (rep block_exact refl) (λ others.
    seq (mark_exact (codes "}")) (λ _. done_exact (a_function (record { header = h; blocks = first ∷ others }))) refl refl) refl refl) refl refl) refl refl) refl refl) refl refl

pub entity_exact : Exact entity entity_starts false (comma ∷ equals ∷ tail_starts) []
unfolding entity
entity_exact =
    alt source_exact (alt target_exact (alt attribute_group_exact (alt type_definition_exact (alt global_definition_exact (alt declare_exact define_exact refl refl) refl refl) refl refl) refl refl) refl refl) refl refl

pub module_exact : Exact module_text entity_starts true ((comma ∷ equals ∷ tail_starts) ++ entity_starts) []
unfolding module_text
module_exact = seq (rep entity_exact refl) (λ es. done_exact (record { types = types_of es; globals = globals_of es; declares = declares_of es; functions = functions_of es })) refl refl
