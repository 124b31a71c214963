-- Functions, globals and modules (Language Reference, "Module Structure").
use Rattle.std.specs.Prelude.{List, [], ◌∷◌, Some, None, codes}
use Rattle.ir_tree.specs.declared.module.TypeDefinition.{TypeDefinition}
use Rattle.ir_tree.specs.declared.module.GlobalDefinition.{GlobalDefinition}
use Rattle.ir_tree.specs.declared.module.Parameter.{Parameter}
use Rattle.ir_tree.specs.declared.module.Header.{Header}
use Rattle.ir_tree.specs.declared.module.FunctionDefinition.{FunctionDefinition}
use Rattle.ir_tree.specs.declared.module.IrTree.{IrTree}
use Rattle.phrases.specs.Piece.{Class}
use Rattle.phrases.specs.Phrase.{Phrase, skip, done, ◌>>=◌, ◌>>◌, either, many, skip_many}
use Rattle.ir_grammar.specs.Tokens.{a_global, a_local, a_str, an_attr_group, word, words, all_but}
use Rattle.ir_grammar.specs.Words.{linkage_words}
use Rattle.ir_grammar.specs.Types.{skip_word, skip_mark, global_name, local_name, listed, attribute_or, attribute_starts, attributes, value_type, mem_type, nesting}
use Rattle.ir_grammar.specs.Constants.{typed_constant}
use Rattle.ir_grammar.specs.Instructions.{after, tail, result_type, block, block_starts}

-- Ignored*
abbrev pub ignored : Phrase (Unit {0})
ignored = skip_many (attribute_starts linkage_words) (attribute_or linkage_words)

-- Type Attr* [Local]
unfoldable pub parameter : Phrase Parameter
parameter = do
  t ← value_type
  attributes
  n ← either (a_local ∷ []) (do
    n ← local_name
    done (Some n)) (done None)
  done (record { kind = t; name = n })

-- Ignored* Ret Global '(' [Type Attr* [Local] {',' Type Attr* [Local]}] ')' Tail; the words of Ret's attributes are among Ignored
unfoldable pub header : Phrase Header
header = do
  ignored
  r ← result_type
  n ← global_name
  skip_mark (codes "(")
  ps ← listed (codes ")") parameter
  tail
  done (record { result = r; name = n; parameters = ps })

-- ---- entities

-- what stands between two entities has no place in the tree
pub data Entity : Type 0 where
  nothing : Entity
  a_type : TypeDefinition → Entity
  a_global_definition : GlobalDefinition → Entity
  a_declare : Header → Entity
  a_function : FunctionDefinition → Entity

-- 'source_filename' '=' Str
abbrev pub source_name : Phrase Entity
source_name = do
  skip_word (codes "source_filename")
  skip_mark (codes "=")
  skip (a_str ∷ [])
  done nothing

-- 'target' ('datalayout'|'triple') '=' Str
abbrev pub target_line : Phrase Entity
target_line = do
  skip_word (codes "target")
  skip (words (codes "datalayout" ∷ codes "triple" ∷ []))
  skip_mark (codes "=")
  skip (a_str ∷ [])
  done nothing

-- 'attributes' AttrGroup '=' '{' any tokens but '}' '}'
abbrev pub attribute_group : Phrase Entity
attribute_group = do
  skip_word (codes "attributes")
  skip (an_attr_group ∷ [])
  skip_mark (codes "=")
  skip_mark (codes "{")
  skip_many (all_but (codes "}")) (skip (all_but (codes "}")))
  skip_mark (codes "}")
  done nothing

-- Local '=' 'type' MemType
abbrev pub type_definition : Phrase Entity
type_definition = do
  n ← local_name
  skip_mark (codes "=")
  skip_word (codes "type")
  t ← mem_type nesting
  done (a_type (record { name = n; kind = t }))

-- Global '=' Ignored* ('global'|'constant') MemType Const After
abbrev pub global_definition : Phrase Entity
global_definition = do
  n ← global_name
  skip_mark (codes "=")
  ignored
  skip (words (codes "global" ∷ codes "constant" ∷ []))
  c ← typed_constant nesting
  after
  done (a_global_definition (record { name = n; value = c }))

-- 'declare' ..
abbrev pub declare : Phrase Entity
declare = do
  skip_word (codes "declare")
  h ← header
  done (a_declare h)

-- 'define' .. '{' Block+ '}'
abbrev pub define : Phrase Entity
define = do
  skip_word (codes "define")
  h ← header
  skip_mark (codes "{")
  first ← block
  others ← many block_starts block
  skip_mark (codes "}")
  done (a_function (record { header = h; blocks = first ∷ others }))

unfoldable pub entity : Phrase Entity
entity =
    either (word (codes "source_filename") ∷ []) source_name
    (either (word (codes "target") ∷ []) target_line
    (either (word (codes "attributes") ∷ []) attribute_group
    (either (a_local ∷ []) type_definition
    (either (a_global ∷ []) global_definition
    (either (word (codes "declare") ∷ []) declare
    define)))))

abbrev pub entity_starts : List Class
entity_starts = word (codes "source_filename") ∷ word (codes "target") ∷ word (codes "attributes") ∷ a_local ∷ a_global ∷ word (codes "declare") ∷ word (codes "define") ∷ []

-- ---- the module: each group in the order of the text

abbrev pub types_of : List Entity → List TypeDefinition
types_of [] = []
types_of (a_type t ∷ es) = t ∷ types_of es
types_of (_ ∷ es) = types_of es

abbrev pub globals_of : List Entity → List GlobalDefinition
globals_of [] = []
globals_of (a_global_definition g ∷ es) = g ∷ globals_of es
globals_of (_ ∷ es) = globals_of es

abbrev pub declares_of : List Entity → List Header
declares_of [] = []
declares_of (a_declare d ∷ es) = d ∷ declares_of es
declares_of (_ ∷ es) = declares_of es

abbrev pub functions_of : List Entity → List FunctionDefinition
functions_of [] = []
functions_of (a_function f ∷ es) = f ∷ functions_of es
functions_of (_ ∷ es) = functions_of es

-- Module := Entity*
unfoldable pub module_text : Phrase IrTree
module_text = do
  es ← many entity_starts entity
  done (record { types = types_of es; globals = globals_of es; declares = declares_of es; functions = functions_of es })
