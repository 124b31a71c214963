-- Modules are read again: types, globals, declares and functions, each group in its order.
use Rattle.std.proofs.Common.{◌≡◌, ℕ, List, [], ◌∷◌, ◌++◌, refl, sym, ap, subst, ◌∙◌, append_assoc, append-nil}
use Rattle.std.specs.Prelude.{codes, map}
use Rattle.std.specs.List.{AllByRecursion}
use Rattle.ir_lexer.specs.declared.token.TokenKind.TheVariants as kinds
use Rattle.ir_tree.specs.declared.types.Name.{Name}
use Rattle.ir_tree.specs.declared.types.IrType.{IrType}
use Rattle.ir_tree.specs.declared.constants.Constant.{Constant}
use Rattle.ir_tree.specs.declared.instructions.Block.{Block}
use Rattle.ir_tree.specs.declared.module.TypeDefinition.{TypeDefinition}
use Rattle.ir_tree.specs.declared.module.GlobalDefinition.{GlobalDefinition}
use Rattle.ir_tree.specs.declared.module.Header.{Header}
use Rattle.ir_tree.specs.declared.module.FunctionDefinition.{FunctionDefinition}
use Rattle.ir_tree.specs.declared.module.IrTree.{IrTree}
use Rattle.ir_tree.specs.Spelling.{joined}
use Rattle.ir_tree.specs.Printing.{Line, plain, type_line, global_line, header_tokens, declare_line, block_lines, blocks_lines, function_lines, functions_lines}
use Rattle.ir_tree.specs.Printing as printing
use Rattle.ir_tree.specs.Places.{bare_name, bare_type, bare_constant, bare_block, bare_definition, bare_global, bare_header, bare_function, without_places}
use Rattle.phrases.specs.Piece.{Piece}
use Rattle.ir_grammar.specs.Tokens.{words}
use Rattle.ir_grammar.specs.Types.{nesting}
use Rattle.ir_grammar.specs.Numbering.{numbered_parameters, numbered_blocks, with_parameters, numbered_header, numbered_function, numbered}
use Rattle.ir_grammar.specs.Instructions.{block}
use Rattle.ir_grammar.specs.Module.{Entity, nothing, a_type, a_global_definition, a_declare, a_function, type_definition, global_definition, declare, define, entity, types_of, globals_of, declares_of, functions_of, module_text}
use Rattle.printed_again.specs.Again.{token_texts}
use Rattle.printed_again.proofs.Backs.{Back, split, bind, ends, gives, alike, left, right, skips, the_word, the_mark, all_of, none, more}
use Rattle.printed_again.proofs.Tells.{Tells, step, over, made, or, told_as, each}
use Rattle.printed_again.proofs.Lists.{moved, cons_like}
use Rattle.printed_again.proofs.Types.{global_back, global_tells, local_back, local_tells, mem_tells}
use Rattle.printed_again.proofs.Constants.{typed_constant_tells}
use Rattle.printed_again.proofs.Operations.{closes}
use Rattle.printed_again.proofs.Blocks.{texts_append, BlockFact, block_tells, NamedBlock, numbered_blocks_told, blocks_back, numbered_parameters_told, HeaderFact, header_tells, ignored_back, HeaderBack, header_back}

-- ---- entities

-- an entity is read from these tokens, as one like x
abbrev pub ItemBack : {X Y : Type 0} → (X → Entity) → (X → Y) → List (List ℕ) → X → Type 0
ItemBack {X} make bare texts x = Back entity.derives texts (λ e. (y : X) × (e ≡ make y) × (bare y ≡ bare x))

abbrev pub TypeItem : TypeDefinition → Type 0
TypeItem d = ItemBack a_type bare_definition (type_line d).tokens d

abbrev pub GlobalItem : GlobalDefinition → Type 0
GlobalItem g = ItemBack a_global_definition bare_global (global_line g).tokens g

abbrev pub DeclareItem : Header → Type 0
DeclareItem h = ItemBack a_declare bare_header (declare_line h).tokens h

abbrev pub FunctionItem : FunctionDefinition → Type 0
FunctionItem f = ItemBack a_function bare_function (token_texts (function_lines f)) f

abbrev a_definition : Name → IrType → TypeDefinition
a_definition n t = record { name = n; kind = t }

type_tells : Tells type_definition.derives (λ e. (d : TypeDefinition) × (e ≡ a_type d) × TypeItem d)
unfolding entity
type_tells =
    step local_tells (λ n N. over (λ _. over (λ _. step (mem_tells nesting) (λ t T.
    made (a_type (a_definition n t)) (
      a_definition n t,
      refl,
      right (right (right (left
          (bind (local_back n N) (λ m em.
          bind (the_mark (codes "=") refl) (λ _ _.
          bind (the_word (codes "type") refl) (λ _ _.
          ends T (λ u eu.
          gives (a_type (a_definition m u)) (a_definition m u, refl, ap (λ k. a_definition k (bare_type u)) em ∙ ap (a_definition (bare_name n)) eu))))))))),
    )))))

abbrev a_value : Name → Constant → GlobalDefinition
a_value n c = record { name = n; value = c }

global_item_tells : Tells global_definition.derives (λ e. (g : GlobalDefinition) × (e ≡ a_global_definition g) × GlobalItem g)
unfolding entity
global_item_tells =
    step global_tells (λ n N. over (λ _. over (λ _. over (λ _. step (typed_constant_tells nesting) (λ c C. over (λ _.
    made (a_global_definition (a_value n c)) (
      a_value n c,
      refl,
      right (right (right (right (left
          (bind (global_back n N) (λ m em.
          bind (the_mark (codes "=") refl) (λ _ _.
          bind ignored_back (λ _ _.
          bind (skips (words (codes "global" ∷ codes "constant" ∷ [])) (codes "global") kinds.Word refl (λ at. refl)) (λ _ _.
          ends C (λ d ed.
          closes (a_global_definition (a_value m d)) (a_value m d, refl, ap (λ k. a_value k (bare_constant d)) em ∙ ap (a_value (bare_name n)) ed))))))))))),
    )))))))

declare_back : (h : Header) → HeaderBack h → DeclareItem h
unfolding entity
declare_back h H = right (right (right (right (right (left (bind (the_word (codes "declare") refl) (λ _ _. ends H (λ k e. gives (a_declare k) (k, refl, e)))))))))

declare_tells : Tells declare.derives (λ e. (h : Header) × (e ≡ a_declare h) × HeaderFact h)
declare_tells = over (λ _. step header_tells (λ h H. made (a_declare h) (h, refl, H)))

-- what is told of a function
pub record FunctionFact (f : FunctionDefinition) : Type 0 where
  pub header : HeaderFact f.header
  pub first : Block
  pub others : List Block
  pub whole : f.blocks ≡ first ∷ others
  pub blocks : AllByRecursion BlockFact (first ∷ others)

abbrev a_define : Header → List Block → FunctionDefinition
a_define h bs = record { header = h; blocks = bs }

define_tells : Tells define.derives (λ e. (f : FunctionDefinition) × (e ≡ a_function f) × FunctionFact f)
define_tells =
    over (λ _. step header_tells (λ h H. over (λ _. step block_tells (λ b B. step (each block block_tells) (λ bs BS. over (λ _.
    made (a_function (a_define h (b ∷ bs))) (a_define h (b ∷ bs), refl, record { header = H; first = b; others = bs; whole = refl; blocks = (B, BS) })))))))

function_texts : (h : Header) (b : Block) (bs : List Block) → codes "define" ∷ (header_tokens h ++ codes "{" ∷ (token_texts (block_lines b) ++ (token_texts (blocks_lines bs) ++ codes "}" ∷ []))) ≡ token_texts (function_lines (a_define h (b ∷ bs)))
function_texts h b bs =
    ap (λ r. codes "define" ∷ r)
    (ap (λ r. header_tokens h ++ codes "{" ∷ r)
    (sym (append_assoc (token_texts (block_lines b)) (token_texts (blocks_lines bs)) (codes "}" ∷ [])) ∙ ap (λ r. r ++ codes "}" ∷ []) (sym (texts_append (block_lines b) (blocks_lines bs)))
    ∙ sym (texts_append (block_lines b ++ blocks_lines bs) (plain (codes "}" ∷ []) ∷ [])))
    ∙ sym (append_assoc (header_tokens h) (codes "{" ∷ []) (token_texts ((block_lines b ++ blocks_lines bs) ++ plain (codes "}" ∷ []) ∷ []))))

function_back : (h : Header) (b : Block) (bs : List Block) → HeaderBack h → NamedBlock b → AllByRecursion NamedBlock bs → FunctionItem (a_define h (b ∷ bs))
unfolding entity
function_back h b bs H B BS =
    moved (function_texts h b bs)
    (right (right (right (right (right (right
    (bind (the_word (codes "define") refl) (λ _ _.
    bind H (λ k ek.
    bind (the_mark (codes "{") refl) (λ _ _.
    bind B (λ c ec.
    bind (blocks_back bs BS) (λ cs ecs.
    ends (the_mark (codes "}") refl) (λ _ _.
    gives (a_function (a_define k (c ∷ cs)))
    (a_define k (c ∷ cs), refl, ap (λ x. record { header = x; blocks = map bare_block (c ∷ cs) }) ek ∙ ap (λ xs. record { header = bare_header h; blocks = xs }) (cons_like bare_block b c bs cs ec ecs)))))))))))))))

-- a list of blocks that isn't empty
abbrev IsSomeList : List Block → Type 0
IsSomeList [] = ⊥
IsSomeList (b ∷ bs) = Unit {0}

function_item : (h : Header) (bs : List Block) → IsSomeList bs → HeaderBack h → AllByRecursion NamedBlock bs → FunctionItem (a_define h bs)
function_item h [] some H B = absurd some
function_item h (b ∷ bs) some H B = function_back h b bs H B.0 B.1

pub numbered_declare : (h : Header) → HeaderFact h → DeclareItem (numbered_header h)
numbered_declare h H = declare_back (numbered_header h) (header_back h (numbered_parameters h.name.at 0 h.parameters).0 H (numbered_parameters_told h.name.at 0 h.parameters H.parameters))

pub numbered_function_back : (f : FunctionDefinition) → FunctionFact f → FunctionItem (numbered_function f)
numbered_function_back f F =
    let ps = numbered_parameters f.header.name.at 0 f.header.parameters in
    let H = header_back f.header ps.0 F.header (numbered_parameters_told f.header.name.at 0 f.header.parameters F.header.parameters) in
    let B = numbered_blocks_told f.header.name.at ps.1 (F.first ∷ F.others) F.blocks in
    subst (λ bs. FunctionItem (a_define (with_parameters f.header ps.0) (numbered_blocks f.header.name.at ps.1 bs))) (sym F.whole) (function_item (with_parameters f.header ps.0) (numbered_blocks f.header.name.at ps.1 (F.first ∷ F.others)) tt H B)

-- what is told of an entity
abbrev pub EntityFact : Entity → Type 0
EntityFact nothing = Unit {0}
EntityFact (a_type d) = TypeItem d
EntityFact (a_global_definition g) = GlobalItem g
EntityFact (a_declare h) = HeaderFact h
EntityFact (a_function f) = FunctionFact f

entity_tells : Tells entity.derives EntityFact
unfolding entity
entity_tells =
    or (over (λ _. over (λ _. over (λ _. made nothing tt))))
    (or (over (λ _. over (λ _. over (λ _. over (λ _. made nothing tt)))))
    (or (over (λ _. over (λ _. over (λ _. over (λ _. over (λ _. over (λ _. made nothing tt)))))))
    (or (told_as (λ e x. subst EntityFact (sym x.1) x.2) type_tells)
    (or (told_as (λ e x. subst EntityFact (sym x.1) x.2) global_item_tells)
    (or (told_as (λ e x. subst EntityFact (sym x.1) x.2) declare_tells)
    (told_as (λ e x. subst EntityFact (sym x.1) x.2) define_tells))))))

-- ---- groups

types_told : (es : List Entity) → AllByRecursion EntityFact es → AllByRecursion TypeItem (types_of es)
types_told [] h = tt
types_told (nothing ∷ es) h = types_told es h.1
types_told (a_type d ∷ es) h = (h.0, types_told es h.1)
types_told (a_global_definition g ∷ es) h = types_told es h.1
types_told (a_declare d ∷ es) h = types_told es h.1
types_told (a_function f ∷ es) h = types_told es h.1

globals_told : (es : List Entity) → AllByRecursion EntityFact es → AllByRecursion GlobalItem (globals_of es)
globals_told [] h = tt
globals_told (nothing ∷ es) h = globals_told es h.1
globals_told (a_type d ∷ es) h = globals_told es h.1
globals_told (a_global_definition g ∷ es) h = (h.0, globals_told es h.1)
globals_told (a_declare d ∷ es) h = globals_told es h.1
globals_told (a_function f ∷ es) h = globals_told es h.1

declares_told : (es : List Entity) → AllByRecursion EntityFact es → AllByRecursion DeclareItem (map numbered_header (declares_of es))
declares_told [] h = tt
declares_told (nothing ∷ es) h = declares_told es h.1
declares_told (a_type d ∷ es) h = declares_told es h.1
declares_told (a_global_definition g ∷ es) h = declares_told es h.1
declares_told (a_declare d ∷ es) h = (numbered_declare d h.0, declares_told es h.1)
declares_told (a_function f ∷ es) h = declares_told es h.1

functions_told : (es : List Entity) → AllByRecursion EntityFact es → AllByRecursion FunctionItem (map numbered_function (functions_of es))
functions_told [] h = tt
functions_told (nothing ∷ es) h = functions_told es h.1
functions_told (a_type d ∷ es) h = functions_told es h.1
functions_told (a_global_definition g ∷ es) h = functions_told es h.1
functions_told (a_declare d ∷ es) h = functions_told es h.1
functions_told (a_function f ∷ es) h = (numbered_function_back f h.0, functions_told es h.1)

-- what is told of a module
pub record ModuleFact (t : IrTree) : Type 0 where
  pub types : AllByRecursion TypeItem t.types
  pub globals : AllByRecursion GlobalItem t.globals
  pub declares : AllByRecursion DeclareItem (map numbered_header t.declares)
  pub functions : AllByRecursion FunctionItem (map numbered_function t.functions)

abbrev a_tree : List Entity → IrTree
a_tree es = record { types = types_of es; globals = globals_of es; declares = declares_of es; functions = functions_of es }

pub module_tells : Tells module_text.derives ModuleFact
unfolding module_text
module_tells =
    step (each entity entity_tells) (λ es E.
    made (a_tree es) (record { types = types_told es E; globals = globals_told es E; declares = declares_told es E; functions = functions_told es E }))

module _ {X Y : Type 0} (make : X → Entity) (bare : X → Y) (texts : X → List (List ℕ)) where
  -- entities of one kind, like these
  abbrev pub IsGroup : List X → List Entity → Type 0
  IsGroup xs es = (ys : List X) × (es ≡ map make ys) × (map bare ys ≡ map bare xs)

  pub group_back : (xs : List X) → AllByRecursion (λ x. ItemBack make bare (texts x) x) xs → Back (all_of entity) (joined (map texts xs)) (IsGroup xs)
  group_back [] h = alike (λ es e. ([], e, refl)) (none entity)
  group_back (x ∷ xs) h = more entity h.0 (group_back xs h.1) (λ e es p q. (p.0 ∷ q.0, ap (λ k. k ∷ es) p.1 ∙ ap (λ ks. make p.0 ∷ ks) q.1, cons_like bare x p.0 xs q.0 p.2 q.2))

-- one group after the other
all_append : (vs us : List Entity) (w v : List Piece) → all_of entity vs w → all_of entity us v → all_of entity (vs ++ us) (w ++ v)
all_append [] us w v d e = subst (λ x. all_of entity us (x ++ v)) (sym d) e
all_append (x ∷ vs) us w v d e = (d.0, d.1 ++ v, ap (λ y. y ++ v) d.2 ∙ append_assoc d.0 d.1 v, d.3, all_append vs us d.1 v d.4 e)

groups_back : {xs ys : List (List ℕ)} {Like Good All : List Entity → Type 0} → Back (all_of entity) xs Like → Back (all_of entity) ys Good → ((vs us : List Entity) → Like vs → Good us → All (vs ++ us)) → Back (all_of entity) (xs ++ ys) All
groups_back {xs} {ys} P Q f = record {
  read = λ ts s.
      let r = split xs ys ts s in
      let a = P.read r.0 r.3 in
      let b = Q.read r.1 r.4 in
      (a.0 ++ b.0, subst (λ w. all_of entity (a.0 ++ b.0) w) (sym r.2) (all_append a.0 b.0 r.0 r.1 a.1 b.1), f a.0 b.0 a.2 b.2);
}

module _ {X Z : Type 0} (make : X → Entity) (pick : List Entity → List Z) where
  passes : ((x : X) (es : List Entity) → pick (make x ∷ es) ≡ pick es) → (xs : List X) (es : List Entity) → pick (map make xs ++ es) ≡ pick es
  passes f [] es = refl
  passes f (x ∷ xs) es = f x (map make xs ++ es) ∙ passes f xs es

takes : {X : Type 0} (make : X → Entity) (pick : List Entity → List X) → ((x : X) (es : List Entity) → pick (make x ∷ es) ≡ x ∷ pick es) → (xs : List X) (es : List Entity) → pick (map make xs ++ es) ≡ xs ++ pick es
takes make pick f [] es = refl
takes make pick f (x ∷ xs) es = f x (map make xs ++ es) ∙ ap (λ ys. x ∷ ys) (takes make pick f xs es)

abbrev whole_tree : List TypeDefinition → List GlobalDefinition → List Header → List FunctionDefinition → IrTree
whole_tree ds gs hs fs = record { types = ds; globals = gs; declares = hs; functions = fs }

abbrev groups : List TypeDefinition → List GlobalDefinition → List Header → List FunctionDefinition → List Entity
groups ds gs hs fs = map a_type ds ++ (map a_global_definition gs ++ (map a_declare hs ++ (map a_function fs ++ [])))

module _ (ds : List TypeDefinition) (gs : List GlobalDefinition) (hs : List Header) (fs : List FunctionDefinition) where
  abbrev last : List Entity
  last = map a_function fs ++ []

  abbrev last_two : List Entity
  last_two = map a_declare hs ++ last

  abbrev last_three : List Entity
  last_three = map a_global_definition gs ++ last_two

  picked_types : types_of (groups ds gs hs fs) ≡ ds
  picked_types =
      takes a_type types_of (λ x es. refl) ds last_three
      ∙ ap (λ r. ds ++ r) (passes a_global_definition types_of (λ x es. refl) gs last_two ∙ passes a_declare types_of (λ x es. refl) hs last ∙ passes a_function types_of (λ x es. refl) fs []) ∙ append-nil ds

  picked_globals : globals_of (groups ds gs hs fs) ≡ gs
  picked_globals =
      passes a_type globals_of (λ x es. refl) ds last_three ∙ takes a_global_definition globals_of (λ x es. refl) gs last_two
      ∙ ap (λ r. gs ++ r) (passes a_declare globals_of (λ x es. refl) hs last ∙ passes a_function globals_of (λ x es. refl) fs []) ∙ append-nil gs

  picked_declares : declares_of (groups ds gs hs fs) ≡ hs
  picked_declares =
      passes a_type declares_of (λ x es. refl) ds last_three ∙ passes a_global_definition declares_of (λ x es. refl) gs last_two ∙ takes a_declare declares_of (λ x es. refl) hs last
      ∙ ap (λ r. hs ++ r) (passes a_function declares_of (λ x es. refl) fs []) ∙ append-nil hs

  picked_functions : functions_of (groups ds gs hs fs) ≡ fs
  picked_functions =
      passes a_type functions_of (λ x es. refl) ds last_three ∙ passes a_global_definition functions_of (λ x es. refl) gs last_two ∙ passes a_declare functions_of (λ x es. refl) hs last
      ∙ takes a_function functions_of (λ x es. refl) fs [] ∙ append-nil fs

  picked : a_tree (groups ds gs hs fs) ≡ whole_tree ds gs hs fs
  picked =
      ap (λ x. whole_tree x (globals_of (groups ds gs hs fs)) (declares_of (groups ds gs hs fs)) (functions_of (groups ds gs hs fs))) picked_types
      ∙ ap (λ x. whole_tree ds x (declares_of (groups ds gs hs fs)) (functions_of (groups ds gs hs fs))) picked_globals
      ∙ ap (λ x. whole_tree ds gs x (functions_of (groups ds gs hs fs))) picked_declares
      ∙ ap (whole_tree ds gs hs) picked_functions

-- ---- the module

-- the texts of lines, one a part
mapped_texts : {X : Type 0} (line : X → Line) (xs : List X) → token_texts (map line xs) ≡ joined (map (λ x. (line x).tokens) xs)
mapped_texts line [] = refl
mapped_texts line (x ∷ xs) = ap (λ r. (line x).tokens ++ r) (mapped_texts line xs)

functions_texts : (fs : List FunctionDefinition) → token_texts (functions_lines fs) ≡ joined (map (λ f. token_texts (function_lines f)) fs)
functions_texts [] = refl
functions_texts (f ∷ fs) = texts_append (function_lines f) (functions_lines fs) ∙ ap (λ r. token_texts (function_lines f) ++ r) (functions_texts fs)

abbrev type_texts : TypeDefinition → List (List ℕ)
type_texts d = (type_line d).tokens

abbrev global_texts : GlobalDefinition → List (List ℕ)
global_texts g = (global_line g).tokens

abbrev declare_texts : Header → List (List ℕ)
declare_texts h = (declare_line h).tokens

abbrev define_texts : FunctionDefinition → List (List ℕ)
define_texts f = token_texts (function_lines f)

tree_texts : (t : IrTree) → joined (map type_texts t.types) ++ (joined (map global_texts t.globals) ++ (joined (map declare_texts t.declares) ++ joined (map define_texts t.functions))) ≡ token_texts (printing.lines t)
tree_texts t =
    ap (λ r. r ++ (joined (map global_texts t.globals) ++ (joined (map declare_texts t.declares) ++ joined (map define_texts t.functions)))) (sym (mapped_texts type_line t.types))
    ∙ ap (λ r. token_texts (map type_line t.types) ++ (r ++ (joined (map declare_texts t.declares) ++ joined (map define_texts t.functions)))) (sym (mapped_texts global_line t.globals))
    ∙ ap (λ r. token_texts (map type_line t.types) ++ (token_texts (map global_line t.globals) ++ (r ++ joined (map define_texts t.functions)))) (sym (mapped_texts declare_line t.declares))
    ∙ ap (λ r. token_texts (map type_line t.types) ++ (token_texts (map global_line t.globals) ++ (token_texts (map declare_line t.declares) ++ r))) (sym (functions_texts t.functions))
    ∙ ap (λ r. token_texts (map type_line t.types) ++ (token_texts (map global_line t.globals) ++ r)) (sym (texts_append (map declare_line t.declares) (functions_lines t.functions)))
    ∙ ap (λ r. token_texts (map type_line t.types) ++ r) (sym (texts_append (map global_line t.globals) (map declare_line t.declares ++ functions_lines t.functions)))
    ∙ sym (texts_append (map type_line t.types) (map global_line t.globals ++ (map declare_line t.declares ++ functions_lines t.functions)))

-- what is read from all lines
record AreGroups (t : IrTree) (es : List Entity) : Type 0 where
  types : List TypeDefinition
  globals : List GlobalDefinition
  declares : List Header
  functions : List FunctionDefinition
  whole : es ≡ groups types globals declares functions
  same_types : map bare_definition types ≡ map bare_definition t.types
  same_globals : map bare_global globals ≡ map bare_global t.globals
  same_declares : map bare_header declares ≡ map bare_header t.declares
  same_functions : map bare_function functions ≡ map bare_function t.functions

tree_like : (t : IrTree) (es : List Entity) → AreGroups t es → without_places (a_tree es) ≡ without_places t
tree_like t es g =
    ap (λ x. without_places (a_tree x)) g.whole ∙ ap without_places (picked g.types g.globals g.declares g.functions)
    ∙ ap (λ x. whole_tree x (map bare_global g.globals) (map bare_header g.declares) (map bare_function g.functions)) g.same_types
    ∙ ap (λ x. whole_tree (map bare_definition t.types) x (map bare_header g.declares) (map bare_function g.functions)) g.same_globals
    ∙ ap (λ x. whole_tree (map bare_definition t.types) (map bare_global t.globals) x (map bare_function g.functions)) g.same_declares
    ∙ ap (λ x. whole_tree (map bare_definition t.types) (map bare_global t.globals) (map bare_header t.declares) x) g.same_functions

abbrev AreTypes : IrTree → List Entity → Type 0
AreTypes t es = IsGroup a_type bare_definition type_texts t.types es

abbrev AreGlobals : IrTree → List Entity → Type 0
AreGlobals t es = IsGroup a_global_definition bare_global global_texts t.globals es

abbrev AreDeclares : IrTree → List Entity → Type 0
AreDeclares t es = IsGroup a_declare bare_header declare_texts t.declares es

abbrev AreFunctions : IrTree → List Entity → Type 0
AreFunctions t es = IsGroup a_function bare_function define_texts t.functions es

abbrev LastTwo : IrTree → List Entity → Type 0
LastTwo t es = (hs : List Entity) × (fs : List Entity) × (es ≡ hs ++ fs) × AreDeclares t hs × AreFunctions t fs

abbrev LastThree : IrTree → List Entity → Type 0
LastThree t es = (gs : List Entity) × (rest : List Entity) × (es ≡ gs ++ rest) × AreGlobals t gs × LastTwo t rest

all_groups : (t : IrTree) (ds rest : List Entity) → AreTypes t ds → LastThree t rest → AreGroups t (ds ++ rest)
all_groups t ds rest D R =
    let last = R.4 in
    record {
      types = D.0;
      globals = R.3.0;
      declares = last.3.0;
      functions = last.4.0;
      whole =
          ap (λ x. x ++ rest) D.1 ∙ ap (λ x. map a_type D.0 ++ x) (R.2 ∙ ap (λ x. x ++ R.1) R.3.1 ∙ ap (λ x. map a_global_definition R.3.0 ++ x) (last.2 ∙ ap (λ x. x ++ last.1) last.3.1 ∙ ap (λ x. map a_declare last.3.0 ++ x) (last.4.1 ∙ sym (append-nil (map a_function last.4.0)))));
      same_types = D.2;
      same_globals = R.3.2;
      same_declares = last.3.2;
      same_functions = last.4.2;
    }

tree_back : (t : IrTree) → AllByRecursion TypeItem t.types → AllByRecursion GlobalItem t.globals → AllByRecursion DeclareItem t.declares → AllByRecursion FunctionItem t.functions
    → Back module_text.derives (token_texts (printing.lines t)) (λ u. without_places u ≡ without_places t)
unfolding module_text
tree_back t D G H F =
    let last = groups_back {Like = AreDeclares t} {Good = AreFunctions t} {All = LastTwo t} (group_back a_declare bare_header declare_texts t.declares H) (group_back a_function bare_function define_texts t.functions F) (λ hs fs h f. (hs, fs, refl, h, f)) in
    let three = groups_back {Like = AreGlobals t} {Good = LastTwo t} {All = LastThree t} (group_back a_global_definition bare_global global_texts t.globals G) last (λ gs rest g r. (gs, rest, refl, g, r)) in
    let all = groups_back {Like = AreTypes t} {Good = LastThree t} {All = AreGroups t} (group_back a_type bare_definition type_texts t.types D) three (λ ds rest d r. all_groups t ds rest d r) in
    moved (tree_texts t) (ends all (λ es g. gives (a_tree es) (tree_like t es g)))

pub module_back : (t : IrTree) → ModuleFact t → Back module_text.derives (token_texts (printing.lines (numbered t))) (λ u. without_places u ≡ without_places (numbered t))
module_back t F = tree_back (numbered t) F.types F.globals F.declares F.functions
