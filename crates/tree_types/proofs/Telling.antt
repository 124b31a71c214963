-- What is told of types one by one is what is told of them all.
use Rattle.std.proofs.Common.{◌≡◌, ◌∙◌, ℕ, Bool, true, false, not, cond, List, [], ◌∷◌, ◌++◌, Option, Some, None, Bor, map, refl, sym, ap}
use Rattle.std.specs.Prelude.{if◌then◌else◌, IfOk, Result}
use Rattle.std.specs.List.{flat_map, filter}
use Rattle.std.proofs.lemmas.List.{map-append}
use Rattle.std.proofs.lemmas.List.Elements.{filter-append}
use Rattle.std.proofs.lemmas.List.Folds.{flat_map-map}
use Rattle.std.proofs.lemmas.Result.{IfOk-weaker}
use Rattle.ir_tree.specs.Layout.{kind_of}
use Rattle.ir_tree.specs.declared.types.Name.{Name}
use Rattle.ir_tree.specs.declared.types.IrType.{IrType, out-IrType}
use Rattle.ir_tree.specs.declared.types.IrType.TheOpen.{IrType-F}
use Rattle.ir_tree.specs.declared.types.IrType.TheViews.{rolls-Named}
use Rattle.ir_tree.specs.declared.types.IrType.TheVariants as types
use Rattle.ir_tree.specs.declared.module.TypeDefinition.{TypeDefinition}
use Rattle.ir_tree.specs.declared.module.IrTree.{IrTree}
use Rattle.ir_programs.specs.declared.refusals.Cause.{Cause}
use Rattle.ir_programs.specs.declared.refusals.Cause.TheVariants.{UnknownName, DuplicateName, ObjectTooLarge, RecursiveType}
use Rattle.ir_programs.specs.declared.refusals.Refusal.{Refusal}
use Rattle.ir_programs.specs.Causes as causes
use Rattle.ir_programs.specs.Parts.{module_types}
use Rattle.ir_programs.specs.Refusals.{merged, first, refused}
use Rattle.ir_programs.specs.Texts.{places_where}
use Rattle.ir_programs.specs.Types.{name_level, type_names, is_type, is_some_type, place_level, is_too_large, too_large, holds_itself}
use Rattle.ir_programs.specs.Uses.{stands_before}
use Rattle.ir_programs.proofs.Told.{merged_more}
use Rattle.tree_types.specs.Asked.{told_with, unknown_at, large_at, twice_at, recursive_at}
use Rattle.tree_types.proofs.Spelled.{out_is}

-- one more place is told
pub tell_at : (told now : Option Refusal) (cause : Cause) (at : ℕ) (places rest : List ℕ) → places ≡ at ∷ [] → now ≡ merged told (Some (record { at = at; cause = cause })) → told_with now cause rest ≡ told_with told cause (places ++ rest)
tell_at told now cause at places rest e is =
    ap (λ (o : Option Refusal). merged o (first (refused cause rest))) is
    ∙ (merged_more told (record { at = at; cause = cause }) (first (refused cause rest)) ∙ sym (ap (λ (ps : List ℕ). told_with told cause (ps ++ rest)) e))

pub absent_at : (ds : List TypeDefinition) (t : IrType) (name : List ℕ) (at : ℕ) → t ≡ types.Named name at → kind_of ds name ≡ None → unknown_at ds t ≡ at ∷ []
absent_at ds t name at is e =
    let named : Name = record { text = name; at = at } in
    ap (λ (l : IrType-F IrType). places_where (λ n. not (is_type ds n)) (name_level l)) (out_is t (IrType-F.Named name at) (is ∙ sym (rolls-Named name at)))
    ∙ ap (λ (o : Option IrType). map (λ (m : Name). m.at) (cond (not (is_some_type o)) (named ∷ []) [])) e

pub large_is : (ds : List TypeDefinition) (t : IrType) (at : ℕ) → is_too_large ds t ≡ true → place_level (out-IrType t) ≡ at ∷ [] → large_at ds t ≡ at ∷ []
large_is ds t at e p = ap (λ (b : Bool). if b then place_level (out-IrType t) else []) e ∙ p

pub place_if : (b : Bool) (at : ℕ) → b ≡ true → (if b then at ∷ [] else []) ≡ at ∷ []
place_if b at e = ap (λ (c : Bool). if c then at ∷ [] else []) e

-- ---- all of them

unknown_are : (ds : List TypeDefinition) (ts : List IrType) → flat_map (unknown_at ds) ts ≡ places_where (λ n. not (is_type ds n)) (type_names ts)
unknown_are ds [] = refl
unknown_are ds (t ∷ ts) =
    let test : Name → Bool = λ n. not (is_type ds n) in
    ap (λ (ps : List ℕ). unknown_at ds t ++ ps) (unknown_are ds ts)
    ∙ sym (ap (map (λ (n : Name). n.at)) (filter-append test (name_level (out-IrType t)) (type_names ts)) ∙ map-append (λ (n : Name). n.at) (filter test (name_level (out-IrType t))) (filter test (type_names ts)))

large_are : (ds : List TypeDefinition) (ts : List IrType) → flat_map (large_at ds) ts ≡ too_large ds ts
large_are ds [] = refl
large_are ds (t ∷ ts) = go (is_too_large ds t) (large_are ds ts)
  where
    place : IrType → List ℕ
    place u = place_level (out-IrType u)

    go : (b : Bool) → flat_map (large_at ds) ts ≡ too_large ds ts → (if b then place t else []) ++ flat_map (large_at ds) ts ≡ flat_map place (cond b (t ∷ filter (is_too_large ds) ts) (filter (is_too_large ds) ts))
    go true e = ap (λ (ps : List ℕ). place t ++ ps) e
    go false e = e

twice_are : (test : Name → Bool) (ds : List TypeDefinition) → flat_map (λ d. if test d.name then d.name.at ∷ [] else []) ds ≡ places_where test (map (λ d. d.name) ds)
twice_are test [] = refl
twice_are test (d ∷ ds) = go (test d.name) (twice_are test ds)
  where
    names : List Name
    names = filter test (map (λ (e : TypeDefinition). e.name) ds)

    rest : List ℕ
    rest = flat_map (λ (e : TypeDefinition). if test e.name then e.name.at ∷ [] else []) ds

    go : (b : Bool) → rest ≡ map (λ (n : Name). n.at) names → (if b then d.name.at ∷ [] else []) ++ rest ≡ map (λ (n : Name). n.at) (cond b (d.name ∷ names) names)
    go true e = ap (λ (ps : List ℕ). d.name.at ∷ ps) e
    go false e = e

recursive_are : (test : TypeDefinition → Bool) (ds : List TypeDefinition) → flat_map (λ d. if test d then d.name.at ∷ [] else []) ds ≡ map (λ d. d.name.at) (filter test ds)
recursive_are test [] = refl
recursive_are test (d ∷ ds) = go (test d) (recursive_are test ds)
  where
    rest : List ℕ
    rest = flat_map (λ (e : TypeDefinition). if test e then e.name.at ∷ [] else []) ds

    go : (b : Bool) → rest ≡ map (λ (e : TypeDefinition). e.name.at) (filter test ds) → (if b then d.name.at ∷ [] else []) ++ rest ≡ map (λ (e : TypeDefinition). e.name.at) (cond b (d ∷ filter test ds) (filter test ds))
    go true e = ap (λ (ps : List ℕ). d.name.at ∷ ps) e
    go false e = e

behind_refs : (f : IrType → List ℕ) (rs : List (Bor IrType)) → flat_map (λ r. f r.now) rs ≡ flat_map f (map (λ r. r.now) rs)
behind_refs f rs = sym (flat_map-map f (λ (r : Bor IrType). r.now) rs)

abbrev after_unknown : IrTree → Option Refusal → Option Refusal
after_unknown t told = merged told (first (refused UnknownName (causes.unknown_types t)))

abbrev after_twice : IrTree → Option Refusal → Option Refusal
after_twice t told = merged told (first (refused DuplicateName (causes.duplicate_types t)))

abbrev after_large : IrTree → Option Refusal → Option Refusal
after_large t told = merged told (first (refused ObjectTooLarge (causes.large_types t)))

abbrev after_all : IrTree → Option Refusal → Option Refusal
after_all t told = merged told (first (refused RecursiveType (causes.recursive_types t)))

module _ {E : Type 0} (t : IrTree) (rs more : List (Bor IrType)) (told u d l : Option Refusal) (r : Result (Option Refusal) E) where
  pub whole_told : map (λ x. x.now) rs ≡ module_types t → more ≡ rs → u ≡ told_with told UnknownName (flat_map (λ x. unknown_at t.types x.now) rs) → d ≡ told_with u DuplicateName (flat_map (λ x. twice_at t.types x.name) t.types)
      → l ≡ told_with d ObjectTooLarge (flat_map (λ x. large_at t.types x.now) more) → IfOk r (λ now. now ≡ told_with l RecursiveType (flat_map (recursive_at t.types) t.types))
      → IfOk r (λ now. now ≡ after_all t (after_large t (after_twice t (after_unknown t told))))
  whole_told seen again eu ed el h =
      let names = map (λ (x : TypeDefinition). x.name) t.types in
      let one : u ≡ after_unknown t told = eu ∙ ap (told_with told UnknownName) (behind_refs (unknown_at t.types) rs ∙ (ap (flat_map (unknown_at t.types)) seen ∙ unknown_are t.types (module_types t))) in
      let two : d ≡ after_twice t (after_unknown t told) = ed ∙ (ap (λ (o : Option Refusal). told_with o DuplicateName (flat_map (λ (x : TypeDefinition). twice_at t.types x.name) t.types)) one ∙ ap (told_with (after_unknown t told) DuplicateName) (twice_are (stands_before names) t.types)) in
      let larges = ap (λ (xs : List (Bor IrType)). flat_map (λ (x : Bor IrType). large_at t.types x.now) xs) again ∙ (behind_refs (large_at t.types) rs ∙ (ap (flat_map (large_at t.types)) seen ∙ large_are t.types (module_types t))) in
      let three : l ≡ after_large t (after_twice t (after_unknown t told)) = el ∙ (ap (λ (o : Option Refusal). told_with o ObjectTooLarge (flat_map (λ (x : Bor IrType). large_at t.types x.now) more)) two ∙ ap (told_with (after_twice t (after_unknown t told)) ObjectTooLarge) larges) in
      IfOk-weaker r (λ now. now ≡ told_with l RecursiveType (flat_map (recursive_at t.types) t.types)) (λ now. now ≡ after_all t (after_large t (after_twice t (after_unknown t told))))
      (λ now e. e ∙ (ap (λ (o : Option Refusal). told_with o RecursiveType (flat_map (recursive_at t.types) t.types)) three ∙ ap (told_with (after_large t (after_twice t (after_unknown t told))) RecursiveType) (recursive_are (holds_itself t.types) t.types))) h
