-- The parts of a module that are gathered.
use Rattle.std.proofs.Common.{◌≡◌, List, [], ◌∷◌, ◌++◌, ap, ◌∙◌, append_assoc}
use Rattle.std.proofs.lemmas.List.{append-nil}
use Rattle.ir_tree.specs.declared.module.IrTree.{IrTree}
use Rattle.ir_grammar.specs.Module.{Entity, nothing, a_type, a_global_definition, a_declare, a_function, types_of, globals_of, declares_of, functions_of}
use Rattle.ir_reader.specs.Entities.{with_entities}

tree_is : (a b : IrTree) → a.types ≡ b.types → a.globals ≡ b.globals → a.declares ≡ b.declares → a.functions ≡ b.functions → a ≡ b
tree_is a b e f g h =
    ap (λ x. record a { types = x }) e ∙ ap (λ x. record { types = b.types; globals = x; declares = a.declares; functions = a.functions }) f
    ∙ ap (λ x. record { types = b.types; globals = b.globals; declares = x; functions = a.functions }) g ∙ ap (λ x. record b { functions = x }) h

pub entities_none : (t : IrTree) → with_entities t [] ≡ t
entities_none t = tree_is (with_entities t []) t (append-nil t.types) (append-nil t.globals) (append-nil t.declares) (append-nil t.functions)

nothing_more : {A : Type 0} (xs ys : List A) → (xs ++ []) ++ ys ≡ xs ++ ys
nothing_more xs ys = ap (λ zs. zs ++ ys) (append-nil xs)

pub entities_later : (t : IrTree) (a : Entity) (es : List Entity) → with_entities (with_entities t (a ∷ [])) es ≡ with_entities t (a ∷ es)
entities_later t nothing es = tree_is (with_entities (with_entities t (nothing ∷ [])) es) (with_entities t (nothing ∷ es)) (nothing_more t.types (types_of es)) (nothing_more t.globals (globals_of es)) (nothing_more t.declares (declares_of es)) (nothing_more t.functions (functions_of es))
entities_later t (a_type x) es = tree_is (with_entities (with_entities t (a_type x ∷ [])) es) (with_entities t (a_type x ∷ es)) (append_assoc t.types (x ∷ []) (types_of es)) (nothing_more t.globals (globals_of es)) (nothing_more t.declares (declares_of es)) (nothing_more t.functions (functions_of es))
entities_later t (a_global_definition x) es = tree_is (with_entities (with_entities t (a_global_definition x ∷ [])) es) (with_entities t (a_global_definition x ∷ es)) (nothing_more t.types (types_of es)) (append_assoc t.globals (x ∷ []) (globals_of es)) (nothing_more t.declares (declares_of es)) (nothing_more t.functions (functions_of es))
entities_later t (a_declare x) es = tree_is (with_entities (with_entities t (a_declare x ∷ [])) es) (with_entities t (a_declare x ∷ es)) (nothing_more t.types (types_of es)) (nothing_more t.globals (globals_of es)) (append_assoc t.declares (x ∷ []) (declares_of es)) (nothing_more t.functions (functions_of es))
entities_later t (a_function x) es = tree_is (with_entities (with_entities t (a_function x ∷ [])) es) (with_entities t (a_function x ∷ es)) (nothing_more t.types (types_of es)) (nothing_more t.globals (globals_of es)) (nothing_more t.declares (declares_of es)) (append_assoc t.functions (x ∷ []) (functions_of es))
