-- Where constant pointers lead, modulo 2 ^ 64.
use Rattle.std.proofs.Common.{◌≡◌, ◌∙◌, ◌+◌, ◌*◌, ◌%◌, ◌<◌, ◌≤◌, ℕ, zero, suc, Bool, List, [], ◌∷◌, Option, Some, None, length, drop, get_or, map, min, refl, sym, ap, arith}
use Rattle.std.proofs.Math.Nat.{add-mod, add-mod-mod, mod-add-mod}
use Rattle.std.proofs.lemmas.List.{length-map}
use Rattle.std.proofs.lemmas.Option.{none-some}
use Rattle.layout.specs.Layout.{Extent, aligned, field_align, field_place, fields_end}
use Rattle.ir_tree.specs.Extents.{EndsAs}
use Rattle.ir_tree.specs.Layout.{most, with_one, each, extent}
use Rattle.ir_tree.specs.declared.layouts.Room.{Room}
use Rattle.ir_tree.specs.declared.types.IrType.{IrType, out-IrType}
use Rattle.ir_tree.specs.declared.types.IrType.TheOpen.{IrType-F}
use Rattle.ir_tree.specs.declared.constants.ConstIndex.{ConstIndex}
use Rattle.ir_tree.specs.declared.constants.GepLevel.{GepLevel}
use Rattle.ir_tree.specs.declared.module.TypeDefinition.{TypeDefinition}
use Rattle.ir_programs.specs.Addresses.{index_bits, place_or_zero, step_offset, steps_offset, source_offset, level_offset, levels_offset}
use Rattle.ir_programs.specs.Constants.{head_of, step_into}
use Rattle.ir_programs.specs.Types.{size_of}
use Rattle.tree_constants.proofs.OneByOne.{rest_less}

turned : (o s r : ℕ) → o + s + r ≡ o + r + s
turned o s r = omega arith

moved : (o l r : ℕ) → o + r + l ≡ o + (l + r)
moved o l r = omega arith

-- one more part is added
wraps : (w o l s next r : ℕ) → s ≡ l % w → next ≡ (o + s) % w → (next + r) % w ≡ (o + (l + r)) % w
wraps w o l s next r se ne =
    ap (λ (x : ℕ). (x + r) % w) ne
    ∙ (mod-add-mod (o + s) w r
    ∙ (ap (λ (x : ℕ). x % w) (turned o s r)
    ∙ (ap (λ (x : ℕ). (o + r + x) % w) se
    ∙ (add-mod-mod (o + r) l w
    ∙ ap (λ (x : ℕ). x % w) (moved o l r)))))

module _ (w : ℕ) (ts : List TypeDefinition) where
  pub level_on : (ls : List GepLevel) (i : ℕ) (l : GepLevel) (o s next : ℕ) → i < length ls → l ≡ get_or ls i l → s ≡ level_offset ts l % w → next ≡ (o + s) % w →
      (o + levels_offset ts (drop i ls)) % w ≡ levels_offset ts ls % w → (next + levels_offset ts (drop (i + 1) ls)) % w ≡ levels_offset ts ls % w
  level_on ls i l o s next lt is se ne before =
      wraps w o (level_offset ts l) s next (levels_offset ts (drop (i + 1) ls)) se ne ∙ (ap (λ (xs : List GepLevel). (o + levels_offset ts xs) % w) (sym (rest_less ls i l lt is)) ∙ before)

  -- ---- indices

  some_step : (t u : IrType) (i : ConstIndex) (is : List ConstIndex) → step_into (head_of ts t) i.value ≡ Some u → steps_offset ts t (i ∷ is) ≡ step_offset ts (head_of ts t) i + steps_offset ts u is
  some_step t u i is e = ap (λ (o : Option IrType). step_offset ts (head_of ts t) i + elim o [ None ↦ 0 | Some inner ↦ steps_offset ts inner is ]) e

  none_step : (t : IrType) (i : ConstIndex) (is : List ConstIndex) → step_into (head_of ts t) i.value ≡ None → steps_offset ts t (i ∷ is) ≡ step_offset ts (head_of ts t) i
  none_step t i is e = ap (λ (o : Option IrType). step_offset ts (head_of ts t) i + elim o [ None ↦ 0 | Some inner ↦ steps_offset ts inner is ]) e ∙ omega arith

  module _ (is : List ConstIndex) (k : ℕ) (i : ConstIndex) (t head kind : IrType) (o s next : ℕ) (lt : k < length is) (at : i ≡ get_or is k i) (he : out-IrType head ≡ head_of ts t)
      (se : s ≡ step_offset ts (out-IrType head) i % w) (ne : next ≡ (o + s) % w) (before : (o + steps_offset ts t (drop k is)) % w ≡ steps_offset ts kind is % w) where
    rest : List ConstIndex
    rest = drop (k + 1) is

    here : s ≡ step_offset ts (head_of ts t) i % w
    here = se ∙ ap (λ (l : IrType-F IrType). step_offset ts l i % w) he

    so_far : (o + steps_offset ts t (i ∷ drop (k + 1) is)) % w ≡ steps_offset ts kind is % w
    so_far = ap (λ (xs : List ConstIndex). (o + steps_offset ts t xs) % w) (sym (rest_less is k i lt at)) ∙ before

    pub step_on : (u : IrType) → Some u ≡ step_into (out-IrType head) i.value → (next + steps_offset ts u (drop (k + 1) is)) % w ≡ steps_offset ts kind is % w
    step_on u ue =
        let into : step_into (head_of ts t) i.value ≡ Some u = ap (λ (l : IrType-F IrType). step_into l i.value) (sym he) ∙ sym ue in
        wraps w o (step_offset ts (head_of ts t) i) s next (steps_offset ts u (drop (k + 1) is)) here ne
        ∙ (ap (λ (n : ℕ). (o + n) % w) (sym (some_step t u i (drop (k + 1) is) into)) ∙ so_far)

    pub step_last : None ≡ step_into (out-IrType head) i.value → next ≡ steps_offset ts kind is % w
    step_last ue =
        let into : step_into (head_of ts t) i.value ≡ None = ap (λ (l : IrType-F IrType). step_into l i.value) (sym he) ∙ sym ue in
        ne ∙ (ap (λ (x : ℕ). (o + x) % w) here ∙ (add-mod-mod o (step_offset ts (head_of ts t) i) w ∙ (ap (λ (n : ℕ). (o + n) % w) (sym (none_step t i (drop (k + 1) is) into)) ∙ so_far)))

  pub level_there : (l : GepLevel) (first : ConstIndex) (rest : List ConstIndex) (whole inner result : ℕ) → l.indices ≡ first ∷ rest → whole ≡ (size_of ts l.source * index_bits first) % w →
      inner ≡ steps_offset ts l.source rest % w → result ≡ (whole + inner) % w → result ≡ level_offset ts l % w
  level_there l first rest whole inner result e we ie re =
      re ∙ (ap (λ (x : ℕ). (x + inner) % w) we ∙ (ap (λ (x : ℕ). ((size_of ts l.source * index_bits first) % w + x) % w) ie
      ∙ (sym (add-mod (size_of ts l.source * index_bits first) (steps_offset ts l.source rest) w) ∙ ap (λ (is : List ConstIndex). source_offset ts l.source is % w) (sym e))))

pub nowhere : (ts : List TypeDefinition) (l : GepLevel) → l.indices ≡ [] → level_offset ts l ≡ 0
nowhere ts l e = ap (source_offset ts l.source) e

pub is_nil : {A : Type 0} (xs : List A) → length xs ≡ 0 → xs ≡ []
is_nil [] e = refl
is_nil (x ∷ xs) e = absurd (omega (arith, e))

-- ---- places behind all fields

end_place : (packed : Bool) (p : ℕ) (es : List Extent) (k : ℕ) → length es ≤ k → field_place packed p es k ≡ fields_end packed p es
end_place packed p [] k le = refl
end_place packed p (e ∷ es) zero le = absurd (omega (arith, le))
end_place packed p (e ∷ es) (suc k) le = end_place packed (aligned p (field_align packed e) + e.size) es k (omega (arith, le))

abbrev length_if_any : Option (List Extent) → ℕ
length_if_any (Some es) = length es
length_if_any None = 0

each_length : (xs : List (Option Extent)) (es : List Extent) → each xs ≡ Some es → length es ≡ length xs
each_length [] es e = sym (ap length_if_any e)
each_length (None ∷ xs) es e = absurd (none-some es e)
each_length (Some x ∷ xs) es e = go (each xs) refl e (λ ds q. each_length xs ds q)
  where
    go : (o : Option (List Extent)) → each xs ≡ o → with_one (Some x) o ≡ Some es → ((ds : List Extent) → each xs ≡ Some ds → length ds ≡ length xs) → length es ≡ suc (length xs)
    go None q d again = absurd (none-some es d)
    go (Some ds) q d again = sym (ap length_if_any d) ∙ ap suc (again ds q)

pub end_there : (packed : Bool) (xs : List (Option Extent)) (r : Room) (k : ℕ) → EndsAs packed (Some r) (each xs) → length xs ≤ k → r.size ≡ min most (place_or_zero packed k (each xs))
end_there packed xs r k a le = go (each xs) refl a
  where
    go : (o : Option (List Extent)) → each xs ≡ o → EndsAs packed (Some r) o → r.size ≡ min most (place_or_zero packed k o)
    go None q b = absurd b
    go (Some es) q b = b.0 ∙ ap (min most) (sym (end_place packed 0 es k (omega (arith, le, each_length xs es q))))

pub field_count : (ts : List TypeDefinition) (fields : List IrType) (k : ℕ) → length fields ≤ k → length (map (extent ts) fields) ≤ k
field_count ts fields k le = omega (arith, le, length-map fields (extent ts))
