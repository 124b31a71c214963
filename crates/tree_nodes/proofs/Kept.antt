-- Functions that are kept, one behind the other.
use Rattle.std.proofs.Common.{◌≡◌, ◌∙◌, ℕ, ◌+◌, Bool, List, [], ◌∷◌, ◌++◌, drop, Some, suc, sym, ap, append_assoc, add-one, drop-cons}
use Rattle.std.specs.Prelude.{slice_get}
use Rattle.std.specs.List.{filter, flat_map}
use Rattle.std.proofs.lemmas.Option.{slice_get_within, get_or_from_slice_get}
use Rattle.std.proofs.lemmas.List.Elements.{filter-append}
use Rattle.flat_ir.specs.declared.program.Func.{Func}
use Rattle.prelude.specs.Prelude.{functions}
use Rattle.ir_tree.specs.declared.types.Name.{Name}
use Rattle.ir_tree.specs.declared.module.IrTree.{IrTree}
use Rattle.ir_programs.specs.Parts.{function_callees}
use Rattle.ir_programs.specs.Registers.{is_called, called}
use Rattle.ir_programs.specs.Texts.{among, texts}

pub next_is : {X : Type 0} (xs : List X) (i : ℕ) (x : X) → slice_get xs i ≡ Some x → drop i xs ≡ (x ∷ []) ++ drop (i + 1) xs
next_is xs i x e =
    let within = slice_get_within xs i x e in
    let same = get_or_from_slice_get xs i x x e in
    rw (add-one, drop-cons xs i x) (ap (λ y. y ∷ drop (suc i) xs) same)

pub kept_next : {X : Type 0} (p : X → Bool) (xs : List X) (i : ℕ) (x : X) → slice_get xs i ≡ Some x → filter p (drop i xs) ≡ filter p (x ∷ []) ++ filter p (drop (i + 1) xs)
kept_next p xs i x e = ap (filter p) (next_is xs i x e) ∙ filter-append p (x ∷ []) (drop (i + 1) xs)

pub called_more : (t : IrTree) (i : ℕ) (g : Func) (names : List Name) (made now : List Func) →
    names ≡ flat_map function_callees t.functions → slice_get functions i ≡ Some g → now ≡ made ++ filter (λ (h : Func). among h.name (texts names)) (g ∷ []) →
    made ++ filter (is_called t) (drop i functions) ≡ called t → now ++ filter (is_called t) (drop (i + 1) functions) ≡ called t
called_more t i g names made now e there is before =
    let rest = filter (is_called t) (drop (i + 1) functions) in
    let one : now ≡ made ++ filter (is_called t) (g ∷ []) = is ∙ ap (λ (ns : List Name). made ++ filter (λ (h : Func). among h.name (texts ns)) (g ∷ [])) e in
    ap (λ (xs : List Func). xs ++ rest) one
    ∙ (append_assoc made (filter (is_called t) (g ∷ [])) rest
    ∙ (ap (λ (xs : List Func). made ++ xs) (sym (kept_next (is_called t) functions i g there)) ∙ before))
