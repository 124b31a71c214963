-- A tree without refusals: no condition fails.
use Rattle.std.proofs.Common.{◌≡◌, Bool, true, false, not, ◌&&◌, ◌||◌, List, [], ◌∷◌, ◌++◌, None, refl}
use Rattle.std.specs.List.{AllByRecursion, flat_map, filter}
use Rattle.ir_tree.specs.declared.types.Name.{Name}
use Rattle.ir_tree.specs.declared.types.IrType.{out-IrType}
use Rattle.ir_tree.specs.declared.module.FunctionDefinition.{FunctionDefinition}
use Rattle.ir_tree.specs.declared.module.IrTree.{IrTree}
use Rattle.ir_programs.specs.declared.refusals.Cause.TheVariants.{UnknownName, UnknownFunction, DuplicateName, ReservedName, ObjectTooLarge, RecursiveType, WrongNumber, BadInitialiser, FunctionValue, MainParameters}
use Rattle.ir_programs.specs.declared.refusals.Refusal.{Refusal}
use Rattle.ir_programs.specs.Texts.{among, places_where}
use Rattle.ir_programs.specs.Parts.{module_types, module_values, function_values, function_callees}
use Rattle.ir_programs.specs.Types.{place_level, is_too_large}
use Rattle.ir_programs.specs.Locals.{register_names}
use Rattle.ir_programs.specs.Uses.{is_global, is_function, local_uses, global_uses}
use Rattle.ir_programs.specs.Causes as causes
use Rattle.ir_programs.specs.Refusals.{refused, first}
use Rattle.ir_programs.specs.Answers.{refusals}
use Rattle.whole_programs.proofs.Lists.{not_false, weaker, with_both, front_empty, back_empty, map_empty, flat_empty, filter_empty, flat_filter_empty}
use Rattle.whole_programs.proofs.Types.{IsSmall, small_is}

first_none : (rs : List Refusal) → first rs ≡ None → rs ≡ []
first_none [] e = refl
first_none (r ∷ rs) e = absurd cc

-- those conditions that a whole program rests on
pub record HoldsAll (t : IrTree) : Type 0 where
  pub names : causes.unknown_names t ≡ []
  pub functions : causes.unknown_functions t ≡ []
  pub large : causes.large_types t ≡ []
  pub values : causes.function_values_of t ≡ []
  pub mains : causes.main_parameters t ≡ []

pub holds_all : (t : IrTree) → first (refusals t) ≡ None → HoldsAll t
holds_all t e = parts (refused UnknownName (causes.unknown_names t)) (refused UnknownFunction (causes.unknown_functions t)) (refused DuplicateName (causes.duplicate_names t)) (refused ReservedName (causes.reserved_names t)) (refused ObjectTooLarge (causes.large_types t)) (refused RecursiveType (causes.recursive_types t)) (refused WrongNumber (causes.numbers_out_of_turn t)) (refused BadInitialiser (causes.bad_initialisers t)) (refused FunctionValue (causes.function_values_of t)) (refused MainParameters (causes.main_parameters t))
    (first_none (refusals t) e) (λ a b f i j. record { names = map_empty _ _ a; functions = map_empty _ _ b; large = map_empty _ _ f; values = map_empty _ _ i; mains = map_empty _ _ j })
  where
    parts : (a b c d f g h i k j : List Refusal) → a ++ (b ++ (c ++ (d ++ (f ++ (g ++ (h ++ (i ++ (k ++ j)))))))) ≡ [] → (a ≡ [] → b ≡ [] → f ≡ [] → k ≡ [] → j ≡ [] → HoldsAll t) → HoldsAll t
    parts a b c d f g h i k j e make =
        let eb = back_empty a _ e in
        let ec = back_empty b _ eb in
        let ed = back_empty c _ ec in
        let ef = back_empty d _ ed in
        let eg = back_empty f _ ef in
        let eh = back_empty g _ eg in
        let ei = back_empty h _ eh in
        let ek = back_empty i _ ei in
        make (front_empty a _ e) (front_empty b _ eb) (front_empty f _ ef) (front_empty k _ ek) (back_empty k _ ek)

-- ---- what each condition says

none_where : (test : Name → Bool) (names : List Name) → places_where test names ≡ [] → AllByRecursion (λ n. test n ≡ false) names
none_where test names e = filter_empty test names (map_empty (λ (n : Name). n.at) (filter test names) e)

-- the globals that values name are defined
pub each_global : (t : IrTree) → HoldsAll t → AllByRecursion (λ (n : Name). is_global t n.text ≡ true) (global_uses (module_values t))
each_global t h =
    let rest = back_empty (causes.unknown_types t) _ h.names in
    let labels = back_empty (flat_map causes.unknown_registers t.functions) _ rest in
    let globals = back_empty (flat_map causes.unknown_labels t.functions) _ labels in
    with_both (λ (n : Name). not (is_global t n.text || is_function t n.text) ≡ false) (λ (n : Name). is_function t n.text ≡ false) (λ (n : Name). is_global t n.text ≡ true) (λ n a b. go (is_global t n.text) (is_function t n.text) a b)
    (global_uses (module_values t)) (none_where (λ n. not (is_global t n.text || is_function t n.text)) (global_uses (module_values t)) globals) (none_where (λ n. is_function t n.text) (global_uses (module_values t)) h.values)
  where
    go : (g f : Bool) → not (g || f) ≡ false → f ≡ false → g ≡ true
    go true f a b = refl
    go false true a b = absurd cc
    go false false a b = absurd cc

-- the registers that a function's values name are its own
pub each_register : (t : IrTree) → HoldsAll t → AllByRecursion (λ (f : FunctionDefinition). AllByRecursion (λ (n : Name). among n.text (register_names f) ≡ true) (local_uses (function_values f))) t.functions
each_register t h =
    let rest = back_empty (causes.unknown_types t) _ h.names in
    weaker (λ (f : FunctionDefinition) e. weaker (λ (n : Name) k. not_false (among n.text (register_names f)) k) (local_uses (function_values f)) (none_where (λ n. not (among n.text (register_names f))) (local_uses (function_values f)) e)) t.functions
    (flat_empty causes.unknown_registers t.functions (front_empty (flat_map causes.unknown_registers t.functions) _ rest))

-- what is called is known
pub each_callee : (t : IrTree) → HoldsAll t → AllByRecursion (λ (n : Name). is_function t n.text ≡ true) (flat_map function_callees t.functions)
each_callee t h = weaker (λ (n : Name) k. not_false (is_function t n.text) k) (flat_map function_callees t.functions) (none_where (λ n. not (is_function t n.text)) (flat_map function_callees t.functions) h.functions)

-- no type is too large
pub each_small : (t : IrTree) → HoldsAll t → AllByRecursion (IsSmall t.types) (module_types t)
each_small t h = weaker (small_is t.types) (module_types t) (flat_filter_empty (λ u. place_level (out-IrType u)) (is_too_large t.types) (module_types t) h.large)

-- a main is as a program begins
pub each_main : (t : IrTree) → HoldsAll t → AllByRecursion (λ (f : FunctionDefinition). (causes.is_main f.header && not (causes.is_entry f.header)) ≡ false) t.functions
each_main t h = filter_empty (λ (f : FunctionDefinition). causes.is_main f.header && not (causes.is_entry f.header)) t.functions (map_empty (λ (f : FunctionDefinition). f.header.name.at) _ h.mains)
