-- All that is told of a tree, in the order in which it is told, and in that of its refusals.
use Rattle.std.proofs.Common.{◌≡◌, ◌∙◌, ◌++◌, ℕ, List, [], ◌∷◌, Option, None, refl, sym, ap}
use Rattle.std.specs.List.{flat_map}
use Rattle.ir_tree.specs.declared.module.IrTree.{IrTree}
use Rattle.ir_programs.specs.declared.refusals.Cause.{Cause}
use Rattle.ir_programs.specs.declared.refusals.Cause.TheVariants.{UnknownName, UnknownFunction, DuplicateName, ReservedName, ObjectTooLarge, RecursiveType, WrongNumber, BadInitialiser, FunctionValue, MainParameters}
use Rattle.ir_programs.specs.declared.refusals.Refusal.{Refusal}
use Rattle.ir_programs.specs.Answers.{refusals}
use Rattle.ir_programs.specs.Causes as causes
use Rattle.ir_programs.specs.Constants.{bad_constants, wide_value_indices}
use Rattle.ir_programs.specs.Locals.{repeated_locals}
use Rattle.ir_programs.specs.Parts.{module_values}
use Rattle.ir_programs.specs.Refusals.{merged, first, refused}
use Rattle.ir_resolve.specs.Telling.{told_of}
use Rattle.ir_resolve.proofs.Merging.{merged_three, none_behind, first_append, refused_append, all_of, taken_out}

-- what is told one after the other
abbrev told_all : Option Refusal → List (Option Refusal) → Option Refusal
told_all told [] = told
told_all told (o ∷ os) = told_all (merged told o) os

as_one : (told : Option Refusal) (os : List (Option Refusal)) → told_all told os ≡ merged told (all_of os)
as_one told [] = sym (none_behind told)
as_one told (o ∷ os) = as_one (merged told o) os ∙ merged_three told o (all_of os)

module _ (ut dt lt rt ug fv wi bc ur ul rl dc wn dg rn uf mp : Option Refusal) where
  as_told : List (Option Refusal)
  as_told = (ut ∷ dt ∷ lt ∷ rt ∷ ug ∷ fv ∷ wi ∷ bc ∷ ur ∷ ul ∷ rl ∷ dc ∷ wn ∷ dg ∷ rn ∷ uf ∷ mp ∷ [])

  in_order : List (Option Refusal)
  in_order = (ut ∷ ur ∷ ul ∷ ug ∷ uf ∷ dt ∷ dg ∷ rl ∷ dc ∷ rn ∷ lt ∷ rt ∷ wn ∷ bc ∷ wi ∷ fv ∷ mp ∷ [])

  reordered : all_of (ut ∷ dt ∷ lt ∷ rt ∷ ug ∷ fv ∷ wi ∷ bc ∷ ur ∷ ul ∷ rl ∷ dc ∷ wn ∷ dg ∷ rn ∷ uf ∷ mp ∷ []) ≡ all_of (ut ∷ ur ∷ ul ∷ ug ∷ uf ∷ dt ∷ dg ∷ rl ∷ dc ∷ rn ∷ lt ∷ rt ∷ wn ∷ bc ∷ wi ∷ fv ∷ mp ∷ [])
  reordered = taken_out [] (dt ∷ lt ∷ rt ∷ ug ∷ fv ∷ wi ∷ bc ∷ ur ∷ ul ∷ rl ∷ dc ∷ wn ∷ dg ∷ rn ∷ uf ∷ mp ∷ []) ut
      ∙ (ap (merged ut) (taken_out (dt ∷ lt ∷ rt ∷ ug ∷ fv ∷ wi ∷ bc ∷ []) (ul ∷ rl ∷ dc ∷ wn ∷ dg ∷ rn ∷ uf ∷ mp ∷ []) ur
      ∙ (ap (merged ur) (taken_out (dt ∷ lt ∷ rt ∷ ug ∷ fv ∷ wi ∷ bc ∷ []) (rl ∷ dc ∷ wn ∷ dg ∷ rn ∷ uf ∷ mp ∷ []) ul
      ∙ (ap (merged ul) (taken_out (dt ∷ lt ∷ rt ∷ []) (fv ∷ wi ∷ bc ∷ rl ∷ dc ∷ wn ∷ dg ∷ rn ∷ uf ∷ mp ∷ []) ug
      ∙ (ap (merged ug) (taken_out (dt ∷ lt ∷ rt ∷ fv ∷ wi ∷ bc ∷ rl ∷ dc ∷ wn ∷ dg ∷ rn ∷ []) (mp ∷ []) uf
      ∙ (ap (merged uf) (taken_out [] (lt ∷ rt ∷ fv ∷ wi ∷ bc ∷ rl ∷ dc ∷ wn ∷ dg ∷ rn ∷ mp ∷ []) dt
      ∙ (ap (merged dt) (taken_out (lt ∷ rt ∷ fv ∷ wi ∷ bc ∷ rl ∷ dc ∷ wn ∷ []) (rn ∷ mp ∷ []) dg
      ∙ (ap (merged dg) (taken_out (lt ∷ rt ∷ fv ∷ wi ∷ bc ∷ []) (dc ∷ wn ∷ rn ∷ mp ∷ []) rl
      ∙ (ap (merged rl) (taken_out (lt ∷ rt ∷ fv ∷ wi ∷ bc ∷ []) (wn ∷ rn ∷ mp ∷ []) dc
      ∙ (ap (merged dc) (taken_out (lt ∷ rt ∷ fv ∷ wi ∷ bc ∷ wn ∷ []) (mp ∷ []) rn
      ∙ (ap (merged rn) (taken_out [] (rt ∷ fv ∷ wi ∷ bc ∷ wn ∷ mp ∷ []) lt
      ∙ (ap (merged lt) (taken_out [] (fv ∷ wi ∷ bc ∷ wn ∷ mp ∷ []) rt
      ∙ (ap (merged rt) (taken_out (fv ∷ wi ∷ bc ∷ []) (mp ∷ []) wn
      ∙ (ap (merged wn) (taken_out (fv ∷ wi ∷ []) (mp ∷ []) bc
      ∙ (ap (merged bc) (taken_out (fv ∷ []) (mp ∷ []) wi
      ∙ (ap (merged wi) (taken_out [] (mp ∷ []) fv
      ∙ (ap (merged fv) (taken_out [] [] mp
      ∙ (ap (merged mp) (refl))))))))))))))))))))))))))))))))))

  grouped : merged (merged ut (merged ur (merged ul ug))) (merged uf (merged (merged dt (merged dg (merged rl dc))) (merged rn (merged lt (merged rt (merged wn (merged (merged bc wi) (merged fv mp)))))))) ≡ all_of (ut ∷ ur ∷ ul ∷ ug ∷ uf ∷ dt ∷ dg ∷ rl ∷ dc ∷ rn ∷ lt ∷ rt ∷ wn ∷ bc ∷ wi ∷ fv ∷ mp ∷ [])
  grouped =
      merged_three ut (merged ur (merged ul ug)) _ ∙ ap (merged ut) (merged_three ur (merged ul ug) _ ∙ ap (merged ur) (merged_three ul ug _ ∙ ap (λ x. merged ul (merged ug (merged uf x)))
      (merged_three dt (merged dg (merged rl dc)) _ ∙ ap (merged dt) (merged_three dg (merged rl dc) _ ∙ ap (merged dg) (merged_three rl dc _
      ∙ ap (λ x. merged rl (merged dc (merged rn (merged lt (merged rt (merged wn x)))))) (merged_three bc wi (merged fv mp) ∙ ap (λ x. merged bc (merged wi (merged fv x))) (sym (none_behind mp))))))))

abbrev of : Cause → List ℕ → Option Refusal
of cause places = first (refused cause places)

four : (cause : Cause) (a b c d : List ℕ) → of cause (a ++ (b ++ (c ++ d))) ≡ merged (of cause a) (merged (of cause b) (merged (of cause c) (of cause d)))
four cause a b c d =
    refused_append cause a (b ++ (c ++ d)) ∙ ap (merged (of cause a)) (refused_append cause b (c ++ d) ∙ ap (merged (of cause b)) (refused_append cause c d))

-- what is told of types, of values, of constants, within functions, of names, of calls and of main
pub record Telling (t : IrTree) (told : Option Refusal) : Type 0 where
  pub types : Option Refusal
  pub values : Option Refusal
  pub constants : Option Refusal
  pub functions : Option Refusal
  pub names : Option Refusal
  pub callees : Option Refusal
  pub types_told : types ≡ told_of RecursiveType (told_of ObjectTooLarge (told_of DuplicateName (told_of UnknownName None (causes.unknown_types t)) (causes.duplicate_types t)) (causes.large_types t)) (causes.recursive_types t)
  pub values_told : values ≡ told_of BadInitialiser (told_of FunctionValue (told_of UnknownName types (causes.unknown_globals t)) (causes.function_values_of t)) (flat_map wide_value_indices (module_values t))
  pub constants_told : constants ≡ told_of BadInitialiser values (flat_map (λ g. bad_constants t.types g.value) t.globals)
  pub functions_told : functions ≡
      told_of WrongNumber (told_of DuplicateName (told_of DuplicateName (told_of UnknownName (told_of UnknownName constants (flat_map causes.unknown_registers t.functions)) (flat_map causes.unknown_labels t.functions))
      (flat_map repeated_locals t.functions)) (flat_map causes.duplicate_cases t.functions)) (causes.numbers_out_of_turn t)
  pub names_told : names ≡ told_of ReservedName (told_of DuplicateName functions (causes.duplicate_globals t)) (causes.reserved_names t)
  pub callees_told : callees ≡ told_of UnknownFunction names (causes.unknown_functions t)
  pub mains_told : told ≡ told_of MainParameters callees (causes.main_parameters t)

-- in the order of telling
abbrev all_told : IrTree → List (Option Refusal)
all_told t =
    of UnknownName (causes.unknown_types t)
    ∷ of DuplicateName (causes.duplicate_types t)
    ∷ of ObjectTooLarge (causes.large_types t)
    ∷ of RecursiveType (causes.recursive_types t)
    ∷ of UnknownName (causes.unknown_globals t)
    ∷ of FunctionValue (causes.function_values_of t)
    ∷ of BadInitialiser (flat_map wide_value_indices (module_values t))
    ∷ of BadInitialiser (flat_map (λ g. bad_constants t.types g.value) t.globals)
    ∷ of UnknownName (flat_map causes.unknown_registers t.functions)
    ∷ of UnknownName (flat_map causes.unknown_labels t.functions)
    ∷ of DuplicateName (flat_map repeated_locals t.functions)
    ∷ of DuplicateName (flat_map causes.duplicate_cases t.functions)
    ∷ of WrongNumber (causes.numbers_out_of_turn t)
    ∷ of DuplicateName (causes.duplicate_globals t)
    ∷ of ReservedName (causes.reserved_names t)
    ∷ of UnknownFunction (causes.unknown_functions t)
    ∷ of MainParameters (causes.main_parameters t)
    ∷ []

by_telling : (t : IrTree) (told : Option Refusal) → Telling t told → told ≡ told_all None (all_told t)
by_telling t told e =
    e.mains_told ∙ ap (λ (o : Option Refusal). told_all o (of MainParameters (causes.main_parameters t) ∷ [])) (e.callees_told ∙ ap (λ (o : Option Refusal). told_all o (of UnknownFunction (causes.unknown_functions t) ∷ [])) (e.names_told
    ∙ ap (λ (o : Option Refusal). told_all o (of DuplicateName (causes.duplicate_globals t) ∷ of ReservedName (causes.reserved_names t) ∷ [])) (e.functions_told
    ∙ ap (λ (o : Option Refusal). told_all o (of UnknownName (flat_map causes.unknown_registers t.functions) ∷ of UnknownName (flat_map causes.unknown_labels t.functions) ∷ of DuplicateName (flat_map repeated_locals t.functions) ∷ of DuplicateName (flat_map causes.duplicate_cases t.functions) ∷ of WrongNumber (causes.numbers_out_of_turn t) ∷ [])) (e.constants_told
    ∙ ap (λ (o : Option Refusal). told_all o (of BadInitialiser (flat_map (λ g. bad_constants t.types g.value) t.globals) ∷ [])) (e.values_told
    ∙ ap (λ (o : Option Refusal). told_all o (of UnknownName (causes.unknown_globals t) ∷ of FunctionValue (causes.function_values_of t) ∷ of BadInitialiser (flat_map wide_value_indices (module_values t)) ∷ [])) e.types_told)))))

-- the refusals of a tree, list by list
by_refusals : (t : IrTree) → first (refusals t) ≡ merged (merged (of UnknownName (causes.unknown_types t)) (merged (of UnknownName (flat_map causes.unknown_registers t.functions)) (merged (of UnknownName (flat_map causes.unknown_labels t.functions)) (of UnknownName (causes.unknown_globals t))))) (merged (of UnknownFunction (causes.unknown_functions t))
    (merged (merged (of DuplicateName (causes.duplicate_types t)) (merged (of DuplicateName (causes.duplicate_globals t)) (merged (of DuplicateName (flat_map repeated_locals t.functions)) (of DuplicateName (flat_map causes.duplicate_cases t.functions))))) (merged (of ReservedName (causes.reserved_names t)) (merged (of ObjectTooLarge (causes.large_types t)) (merged (of RecursiveType (causes.recursive_types t)) (merged (of WrongNumber (causes.numbers_out_of_turn t)) (merged (merged (of BadInitialiser (flat_map (λ g. bad_constants t.types g.value) t.globals)) (of BadInitialiser (flat_map wide_value_indices (module_values t)))) (merged (of FunctionValue (causes.function_values_of t)) (of MainParameters (causes.main_parameters t))))))))))
by_refusals t =
    let un = refused UnknownName (causes.unknown_names t) in
    let uf = refused UnknownFunction (causes.unknown_functions t) in
    let dn = refused DuplicateName (causes.duplicate_names t) in
    let rn = refused ReservedName (causes.reserved_names t) in
    let lt = refused ObjectTooLarge (causes.large_types t) in
    let rt = refused RecursiveType (causes.recursive_types t) in
    let wn = refused WrongNumber (causes.numbers_out_of_turn t) in
    let bi = refused BadInitialiser (causes.bad_initialisers t) in
    let fv = refused FunctionValue (causes.function_values_of t) in
    let mp = refused MainParameters (causes.main_parameters t) in
    first_append un (uf ++ (dn ++ (rn ++ (lt ++ (rt ++ (wn ++ (bi ++ (fv ++ mp))))))))
    ∙ (ap (λ (o : Option Refusal). merged o (first (uf ++ (dn ++ (rn ++ (lt ++ (rt ++ (wn ++ (bi ++ (fv ++ mp)))))))))) (four UnknownName (causes.unknown_types t) (flat_map causes.unknown_registers t.functions) (flat_map causes.unknown_labels t.functions) (causes.unknown_globals t))
    ∙ ap (merged (merged (of UnknownName (causes.unknown_types t)) (merged (of UnknownName (flat_map causes.unknown_registers t.functions)) (merged (of UnknownName (flat_map causes.unknown_labels t.functions)) (of UnknownName (causes.unknown_globals t))))))
    (first_append uf (dn ++ (rn ++ (lt ++ (rt ++ (wn ++ (bi ++ (fv ++ mp))))))) ∙ ap (merged (first uf))
    (first_append dn (rn ++ (lt ++ (rt ++ (wn ++ (bi ++ (fv ++ mp)))))) ∙ (ap (λ (o : Option Refusal). merged o (first (rn ++ (lt ++ (rt ++ (wn ++ (bi ++ (fv ++ mp)))))))) (four DuplicateName (causes.duplicate_types t) (causes.duplicate_globals t) (flat_map repeated_locals t.functions) (flat_map causes.duplicate_cases t.functions))
    ∙ ap (merged (merged (of DuplicateName (causes.duplicate_types t)) (merged (of DuplicateName (causes.duplicate_globals t)) (merged (of DuplicateName (flat_map repeated_locals t.functions)) (of DuplicateName (flat_map causes.duplicate_cases t.functions))))))
    (first_append rn (lt ++ (rt ++ (wn ++ (bi ++ (fv ++ mp))))) ∙ ap (merged (first rn)) (first_append lt (rt ++ (wn ++ (bi ++ (fv ++ mp)))) ∙ ap (merged (first lt)) (first_append rt (wn ++ (bi ++ (fv ++ mp))) ∙ ap (merged (first rt))
    (first_append wn (bi ++ (fv ++ mp)) ∙ ap (merged (first wn)) (first_append bi (fv ++ mp) ∙ (ap (λ (o : Option Refusal). merged o (first (fv ++ mp))) (refused_append BadInitialiser (flat_map (λ g. bad_constants t.types g.value) t.globals) (flat_map wide_value_indices (module_values t)))
    ∙ ap (merged (merged (of BadInitialiser (flat_map (λ g. bad_constants t.types g.value) t.globals)) (of BadInitialiser (flat_map wide_value_indices (module_values t))))) (first_append fv mp)))))))))))

-- what is told one after the other is the first refusal
pub first_told : (t : IrTree) (told : Option Refusal) → Telling t told → told ≡ first (refusals t)
first_told t told e =
    by_telling t told e
    ∙ (as_one None (all_told t)
    ∙ (reordered (of UnknownName (causes.unknown_types t)) (of DuplicateName (causes.duplicate_types t)) (of ObjectTooLarge (causes.large_types t)) (of RecursiveType (causes.recursive_types t)) (of UnknownName (causes.unknown_globals t)) (of FunctionValue (causes.function_values_of t)) (of BadInitialiser (flat_map wide_value_indices (module_values t))) (of BadInitialiser (flat_map (λ g. bad_constants t.types g.value) t.globals)) (of UnknownName (flat_map causes.unknown_registers t.functions)) (of UnknownName (flat_map causes.unknown_labels t.functions)) (of DuplicateName (flat_map repeated_locals t.functions)) (of DuplicateName (flat_map causes.duplicate_cases t.functions)) (of WrongNumber (causes.numbers_out_of_turn t)) (of DuplicateName (causes.duplicate_globals t)) (of ReservedName (causes.reserved_names t)) (of UnknownFunction (causes.unknown_functions t)) (of MainParameters (causes.main_parameters t))
    ∙ sym (by_refusals t ∙ grouped (of UnknownName (causes.unknown_types t)) (of DuplicateName (causes.duplicate_types t)) (of ObjectTooLarge (causes.large_types t)) (of RecursiveType (causes.recursive_types t)) (of UnknownName (causes.unknown_globals t)) (of FunctionValue (causes.function_values_of t)) (of BadInitialiser (flat_map wide_value_indices (module_values t))) (of BadInitialiser (flat_map (λ g. bad_constants t.types g.value) t.globals)) (of UnknownName (flat_map causes.unknown_registers t.functions)) (of UnknownName (flat_map causes.unknown_labels t.functions)) (of DuplicateName (flat_map repeated_locals t.functions)) (of DuplicateName (flat_map causes.duplicate_cases t.functions)) (of WrongNumber (causes.numbers_out_of_turn t)) (of DuplicateName (causes.duplicate_globals t)) (of ReservedName (causes.reserved_names t)) (of UnknownFunction (causes.unknown_functions t)) (of MainParameters (causes.main_parameters t)))))
