-- What is called is among a program's functions.
use Rattle.std.proofs.Common.{◌≡◌, ℕ, ◌+◌, ◌<◌, Bool, true, false, cond, ◌||◌, List, [], ◌∷◌, ◌++◌, length, Option, Some, None, refl, sym, ap, subst, ◌∙◌, arith, length-append}
use Rattle.std.specs.Prelude.{map}
use Rattle.std.specs.Option.{is_some}
use Rattle.std.specs.List.{flat_map, filter}
use Rattle.std.proofs.lemmas.List.{length-map}
use Rattle.flat_ir.specs.declared.program.Func.{Func}
use Rattle.ir_tree.specs.Texts.{same}
use Rattle.ir_tree.specs.declared.module.FunctionDefinition.{FunctionDefinition}
use Rattle.ir_tree.specs.declared.module.IrTree.{IrTree}
use Rattle.prelude.specs.Prelude as prelude
use Rattle.prelude.specs.Primitives.{primitive_of}
use Rattle.prelude.specs.declared.primitives.Primitive.{Primitive}
use Rattle.ir_programs.specs.Texts.{among, text_of, texts}
use Rattle.ir_programs.specs.Parts.{function_callees}
use Rattle.ir_programs.specs.Uses.{function_names, is_function}
use Rattle.ir_programs.specs.Registers.{is_called, called, all_functions, function_of}
use Rattle.ir_programs.specs.Programs.{func_of}
use Rattle.whole_programs.proofs.Lists.{or_left, or_right}
use Rattle.whole_programs.proofs.Names.{same_self, known_is, among_front, among_back, number_is_below}

-- the names of a program's functions, and the functions, are as many
pub functions_length : (t : IrTree) (gs : List Func) → length (texts (function_names t) ++ map (λ (g : Func). g.name) gs) ≡ length (map (func_of t) t.functions ++ gs)
functions_length t gs =
    let names = length-append (texts (function_names t)) (map (λ (g : Func). g.name) gs) in
    let funcs = length-append (map (func_of t) t.functions) gs in
    let a = length-map (function_names t) text_of in
    let b = length-map t.functions (λ (f : FunctionDefinition). f.header.name) in
    let c = length-map t.functions (func_of t) in
    let d = length-map gs (λ (g : Func). g.name) in
    omega (arith, names, funcs, a, b, c, d)

abbrev pub is_callee : IrTree → List ℕ → Bool
is_callee t name = among name (texts (flat_map function_callees t.functions))

abbrev called_of : IrTree → List Func → List Func
called_of t gs = filter (is_called t) gs

known_among : (t : IrTree) (name : List ℕ) → is_callee t name ≡ true → (k : ℕ) (gs : List Func) → is_some (prelude.place_among name k gs) ≡ true → among name (map (λ (g : Func). g.name) (filter (is_called t) gs)) ≡ true
known_among t name there k [] h = absurd cc
known_among t name there k (g ∷ gs) h = by_name (known_among t name there (k + 1) gs) (prelude.same name g.name) refl h
  where
    kept : (b : Bool) → among name (map (λ (x : Func). x.name) (called_of t gs)) ≡ true → among name (map (λ (x : Func). x.name) (cond b (g ∷ (called_of t gs)) (called_of t gs))) ≡ true
    kept true m = or_right (same g.name name) (among name (map (λ (x : Func). x.name) (called_of t gs))) m
    kept false m = m

    first : name ≡ g.name → among name (map (λ (x : Func). x.name) (cond (is_called t g) (g ∷ (called_of t gs)) (called_of t gs))) ≡ true
    first e =
        subst (λ b. among name (map (λ (x : Func). x.name) (cond b (g ∷ (called_of t gs)) (called_of t gs))) ≡ true) (sym (ap (is_callee t) (sym e) ∙ there))
        (or_left (same g.name name) (among name (map (λ (x : Func). x.name) (called_of t gs))) (ap (λ s. same s name) (sym e) ∙ same_self name))

    by_name : (is_some (prelude.place_among name (k + 1) gs) ≡ true → among name (map (λ (x : Func). x.name) (called_of t gs)) ≡ true) → (b : Bool) → prelude.same name g.name ≡ b
        → is_some (cond b (Some k) (prelude.place_among name (k + 1) gs)) ≡ true → among name (map (λ (x : Func). x.name) (cond (is_called t g) (g ∷ (called_of t gs)) (called_of t gs))) ≡ true
    by_name more true q m = first (known_is name g.name q)
    by_name more false q m = kept (is_called t g) (more m)

name_among : (t : IrTree) (name : List ℕ) (defined known primitive : Bool) → (defined || (known || primitive)) ≡ true → primitive ≡ false → (known ≡ true → among name (map (λ (g : Func). g.name) (called t)) ≡ true)
    → among name (texts (function_names t)) ≡ defined → among name (all_functions t) ≡ true
name_among t name true known primitive h none k e = among_front name (texts (function_names t)) (map (λ (g : Func). g.name) (called t)) e
name_among t name false true primitive h none k e = among_back name (texts (function_names t)) (map (λ (g : Func). g.name) (called t)) (k refl)
name_among t name false false primitive h none k e = absurd (let c : true ≡ false = sym h ∙ none in cc)

pub callee_in : (t : IrTree) (name : List ℕ) → is_function t name ≡ true → is_callee t name ≡ true → primitive_of name ≡ None → (function_of t name).0 < length (map (func_of t) t.functions ++ called t)
callee_in t name known there none =
    let inside = name_among t name (among name (texts (function_names t))) (is_some (prelude.place_of name)) (is_some (primitive_of name)) known (ap (λ (o : Option Primitive). is_some o) none) (known_among t name there 0 prelude.functions) refl in
    subst (λ n. (function_of t name).0 < n) (functions_length t (called t)) (number_is_below name (all_functions t) inside)
