-- The main of a program is the first function of that name: without parameters, and of 32 bits.
use Rattle.std.proofs.Common.{◌≡◌, ℕ, suc, ◌+◌, Bool, true, false, cond, not, ◌&&◌, ◌||◌, List, [], ◌∷◌, ◌++◌, length, Option, Some, None, unwrap_or, refl, sym, ap, subst, ◌∙◌, arith, eqb-true}
use Rattle.std.specs.Prelude.{map, slice_get, codes}
use Rattle.std.specs.Option.{option_map}
use Rattle.std.specs.List.{AllByRecursion}
use Rattle.flat_ir.specs.declared.nodes.RegType.{RegType}
use Rattle.flat_ir.specs.declared.nodes.RegType.TheVariants as type
use Rattle.flat_ir.specs.declared.program.Func.{Func}
use Rattle.flat_ir.specs.Whole.{IsMain}
use Rattle.ir_tree.specs.declared.types.IrType.{IrType}
use Rattle.ir_tree.specs.declared.module.FunctionDefinition.{FunctionDefinition}
use Rattle.ir_tree.specs.declared.module.Parameter.{Parameter}
use Rattle.ir_tree.specs.declared.module.IrTree.{IrTree}
use Rattle.ir_programs.specs.Texts.{among, number_among, texts}
use Rattle.ir_programs.specs.Parts.{register_type}
use Rattle.ir_programs.specs.Causes.{is_32, returns_32, is_empty, is_main, is_entry}
use Rattle.ir_programs.specs.Registers.{called, function_of}
use Rattle.ir_programs.specs.Programs.{func_of}
use Rattle.ir_programs.specs.Answers.{has_main}
use Rattle.whole_programs.proofs.Lists.{left_true, right_true, not_false}
use Rattle.whole_programs.proofs.Refused.{HoldsAll, each_main}

no_parameters : (ps : List Parameter) → is_empty ps ≡ true → length ps ≡ 0
no_parameters [] h = refl
no_parameters (p ∷ ps) h = absurd cc

has_32 : (r : RegType) → is_32 r ≡ true → r ≡ type.Int 32
has_32 (type.Int width) h = ap type.Int (eqb-true width 32 h)
has_32 type.Ptr h = absurd cc

gives_32 : (o : Option IrType) → returns_32 o ≡ true → option_map register_type o ≡ Some (type.Int 32)
gives_32 (Some kind) h = ap Some (has_32 (register_type kind) h)
gives_32 None h = absurd cc

entry_is : (t : IrTree) (f : FunctionDefinition) → is_entry f.header ≡ true → IsMain (func_of t f)
entry_is t f h = record {
  params = no_parameters f.header.parameters (left_true (is_empty f.header.parameters) (returns_32 f.header.result) h);
  result = gives_32 f.header.result (right_true (is_empty f.header.parameters) (returns_32 f.header.result) h);
}

-- the first function of the name, where the first of all has a number
record IsFound (k : ℕ) (number : Option ℕ) (funcs : List Func) : Type 0 where
  place : ℕ
  is : number ≡ Some (k + place)
  func : Func
  there : slice_get funcs place ≡ Some func
  main : IsMain func

abbrev main_name : List ℕ
main_name = codes "main"

abbrev names_of : List FunctionDefinition → List (List ℕ)
names_of fs = texts (map (λ (f : FunctionDefinition). f.header.name) fs)

abbrev IsRight : FunctionDefinition → Type 0
IsRight f = (is_main f.header && not (is_entry f.header)) ≡ false

main_found : (t : IrTree) (gs : List Func) (rest : List (List ℕ)) (fs : List FunctionDefinition) → AllByRecursion IsRight fs → among main_name (names_of fs) ≡ true → (k : ℕ)
    → IsFound k (number_among k main_name (names_of fs ++ rest)) (map (func_of t) fs ++ gs)
main_found t gs rest [] h m k = absurd cc
main_found t gs rest (f ∷ fs) h m k = go (λ x. main_found t gs rest fs h.1 x (k + 1)) (is_main f.header) h.0 m
  where
    go : (among main_name (names_of fs) ≡ true → IsFound (k + 1) (number_among (k + 1) main_name (names_of fs ++ rest)) (map (func_of t) fs ++ gs)) → (b : Bool) → (b && not (is_entry f.header)) ≡ false → (b || among main_name (names_of fs)) ≡ true
        → IsFound k (cond b (Some k) (number_among (k + 1) main_name (names_of fs ++ rest))) (func_of t f ∷ (map (func_of t) fs ++ gs))
    go more true right x = record { place = 0; is = ap Some (let e : k ≡ k + 0 = omega arith in e); func = func_of t f; there = refl; main = entry_is t f (not_false (is_entry f.header) right) }
    go more false right x =
        let found = more x in
        record { place = suc found.place; is = found.is ∙ ap Some (let e : (k + 1) + found.place ≡ k + suc found.place = omega arith in e); func = found.func; there = found.there; main = found.main }

pub main_is : (t : IrTree) → HoldsAll t → has_main t ≡ true → (f : Func) × (slice_get (map (func_of t) t.functions ++ called t) (function_of t main_name).0 ≡ Some f) × IsMain f
main_is t h m =
    let found = main_found t (called t) (map (λ (g : Func). g.name) (called t)) t.functions (each_main t h) m 0 in
    let place : 0 + found.place ≡ found.place = omega arith in
    (found.func, subst (λ n. slice_get (map (func_of t) t.functions ++ called t) n ≡ Some found.func) (sym (ap (λ (o : Option ℕ). unwrap_or o 0) found.is ∙ place)) found.there, found.main)
