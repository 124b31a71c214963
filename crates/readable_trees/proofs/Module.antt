-- Modules that are read.
use Rattle.std.proofs.Common.{◌≡◌, ℕ, true, List, [], ◌∷◌, refl}
use Rattle.std.specs.Prelude.{codes, map}
use Rattle.std.specs.List.{AllByRecursion, list_all}
use Rattle.ir_tree.specs.declared.instructions.Block.{Block}
use Rattle.ir_tree.specs.declared.module.TypeDefinition.{TypeDefinition}
use Rattle.ir_tree.specs.declared.module.GlobalDefinition.{GlobalDefinition}
use Rattle.ir_tree.specs.declared.module.Parameter.{Parameter}
use Rattle.ir_tree.specs.declared.module.Header.{Header}
use Rattle.ir_tree.specs.declared.module.FunctionDefinition.{FunctionDefinition}
use Rattle.ir_tree.specs.declared.module.IrTree.{IrTree}
use Rattle.ir_grammar.specs.Types.{nesting}
use Rattle.ir_grammar.specs.Numbering.{numbered_name, numbered_parameters, numbered_blocks, numbered_function, numbered}
use Rattle.ir_grammar.specs.Instructions.{block}
use Rattle.ir_grammar.specs.Module.{parameter, header, Entity, nothing, a_type, a_global_definition, a_declare, a_function, type_definition, global_definition, define, entity, types_of, globals_of, declares_of, functions_of, module_text}
use Rattle.ir_programs.specs.Readable.{has_widths, has_widths_if_any, is_readable_constant, is_readable_function, has_block, is_readable}
use Rattle.readable_trees.specs.Trees.{TreesAreReadable}
use Rattle.readable_trees.proofs.Gives.{Gives, step, over, made, or, each, between, both}
use Rattle.readable_trees.proofs.Types.{value_type_gives, mem_gives}
use Rattle.readable_trees.proofs.Constants.{typed_constant_gives}
use Rattle.readable_trees.proofs.Operations.{result_gives}
use Rattle.readable_trees.proofs.Blocks.{BlockFact, block_gives, blocks_told}

-- ---- headers

abbrev IsParameter : Parameter → Type 0
IsParameter p = has_widths p.kind ≡ true

parameter_gives : Gives parameter.derives IsParameter
unfolding parameter
parameter_gives = step value_type_gives (λ t T. over (λ _. over (λ n. made (record { kind = t; name = n }) T)))

record HeaderFact (h : Header) : Type 0 where
  result : has_widths_if_any h.result ≡ true
  parameters : AllByRecursion IsParameter h.parameters

header_gives : Gives header.derives HeaderFact
unfolding header
header_gives =
    over (λ _. step result_gives (λ r R. over (λ n. over (λ _. step (between (codes ")") parameter parameter_gives) (λ ps P. over (λ _.
    made (record { result = r; name = n; parameters = ps }) (record { result = R; parameters = P })))))))

-- ---- entities

record FunctionFact (f : FunctionDefinition) : Type 0 where
  header : HeaderFact f.header
  some : has_block f.blocks ≡ true
  blocks : AllByRecursion BlockFact f.blocks

abbrev EntityFact : Entity → Type 0
EntityFact nothing = Unit {0}
EntityFact (a_type d) = has_widths d.kind ≡ true
EntityFact (a_global_definition g) = is_readable_constant g.value ≡ true
EntityFact (a_declare h) = Unit {0}
EntityFact (a_function f) = FunctionFact f

type_gives : Gives type_definition.derives EntityFact
type_gives = over (λ n. over (λ _. over (λ _. step (mem_gives nesting) (λ t T. made (a_type (record { name = n; kind = t })) T))))

global_gives : Gives global_definition.derives EntityFact
global_gives = over (λ n. over (λ _. over (λ _. over (λ _. step (typed_constant_gives nesting) (λ c C. over (λ _. made (a_global_definition (record { name = n; value = c })) C))))))

define_gives : Gives define.derives EntityFact
define_gives =
    over (λ _. step header_gives (λ h H. over (λ _. step block_gives (λ b B. step (each block block_gives) (λ bs BS. over (λ _.
    made (a_function (record { header = h; blocks = b ∷ bs })) (record { header = H; some = refl; blocks = (B, BS) })))))))

entity_gives : Gives entity.derives EntityFact
unfolding entity
entity_gives =
    or (over (λ _. over (λ _. over (λ _. made nothing tt))))
    (or (over (λ _. over (λ _. over (λ _. over (λ _. made nothing tt)))))
    (or (over (λ _. over (λ _. over (λ _. over (λ _. over (λ _. over (λ _. made nothing tt)))))))
    (or type_gives
    (or global_gives
    (or (over (λ _. over (λ h. made (a_declare h) tt)))
    define_gives)))))

-- ---- modules

types_told : (es : List Entity) → AllByRecursion EntityFact es → list_all (λ (d : TypeDefinition). has_widths d.kind) (types_of es) ≡ true
types_told [] h = refl
types_told (nothing ∷ es) h = types_told es h.1
types_told (a_type d ∷ es) h = both h.0 (types_told es h.1)
types_told (a_global_definition g ∷ es) h = types_told es h.1
types_told (a_declare d ∷ es) h = types_told es h.1
types_told (a_function f ∷ es) h = types_told es h.1

globals_told : (es : List Entity) → AllByRecursion EntityFact es → list_all (λ (g : GlobalDefinition). is_readable_constant g.value) (globals_of es) ≡ true
globals_told [] h = refl
globals_told (nothing ∷ es) h = globals_told es h.1
globals_told (a_type d ∷ es) h = globals_told es h.1
globals_told (a_global_definition g ∷ es) h = both h.0 (globals_told es h.1)
globals_told (a_declare d ∷ es) h = globals_told es h.1
globals_told (a_function f ∷ es) h = globals_told es h.1

parameters_told : (at n : ℕ) (ps : List Parameter) → AllByRecursion IsParameter ps → list_all (λ (p : Parameter). has_widths p.kind) (numbered_parameters at n ps).0 ≡ true
parameters_told at n [] h = refl
parameters_told at n (p ∷ ps) h = both h.0 (parameters_told at (numbered_name at n p.name).1 ps h.1)

still_some : (at n : ℕ) (bs : List Block) → has_block bs ≡ true → has_block (numbered_blocks at n bs) ≡ true
still_some at n [] h = h
still_some at n (b ∷ bs) h = refl

function_told : (f : FunctionDefinition) → FunctionFact f → is_readable_function (numbered_function f) ≡ true
function_told f F =
    let at = f.header.name.at in
    let n = (numbered_parameters at 0 f.header.parameters).1 in
    both (both F.header.result (parameters_told at 0 f.header.parameters F.header.parameters)) (both (still_some at n f.blocks F.some) (blocks_told at n f.blocks F.blocks))

functions_told : (es : List Entity) → AllByRecursion EntityFact es → list_all is_readable_function (map numbered_function (functions_of es)) ≡ true
functions_told [] h = refl
functions_told (nothing ∷ es) h = functions_told es h.1
functions_told (a_type d ∷ es) h = functions_told es h.1
functions_told (a_global_definition g ∷ es) h = functions_told es h.1
functions_told (a_declare d ∷ es) h = functions_told es h.1
functions_told (a_function f ∷ es) h = both (function_told f h.0) (functions_told es h.1)

abbrev IsTree : IrTree → Type 0
IsTree t = is_readable (numbered t) ≡ true

module_gives : Gives module_text.derives IsTree
unfolding module_text
module_gives =
    step (each entity entity_gives) (λ es E.
    made (record { types = types_of es; globals = globals_of es; declares = declares_of es; functions = functions_of es }) (both (types_told es E) (both (globals_told es E) (functions_told es E))))

pub trees_are_readable : TreesAreReadable
trees_are_readable spelled ts d = module_gives.told spelled ts d
