-- Values that are read: the types and widths of their constant expressions.
use Rattle.std.proofs.Common.{◌≡◌, ℕ, zero, suc, Bool, true, false, cond, ◌&&◌, List, [], ◌∷◌, Option, Some, None, refl, subst}
use Rattle.std.specs.List.{AllByRecursion, list_all}
use Rattle.std.proofs.lemmas.Option.{same_Some}
use Rattle.ir_tree.specs.declared.constants.Integer.{Integer}
use Rattle.ir_tree.specs.declared.constants.Value.{Value}
use Rattle.ir_tree.specs.declared.constants.ValueForm.{ValueForm}
use Rattle.ir_tree.specs.declared.constants.ValueForm.TheVariants as forms
use Rattle.ir_tree.specs.declared.constants.ConstGep.{ConstGep}
use Rattle.ir_tree.specs.declared.constants.ConstIndex.{ConstIndex}
use Rattle.phrases.specs.Piece.{Piece, matches}
use Rattle.phrases.specs.Phrase.{Phrase, one}
use Rattle.ir_grammar.specs.Tokens.{a_global, a_local, an_int, word, meaning}
use Rattle.ir_grammar.specs.Numbers.{written, int_in, fits_any, fits_offset}
use Rattle.ir_grammar.specs.Names.{after_sigil}
use Rattle.ir_grammar.specs.Types.{nesting}
use Rattle.ir_grammar.specs.Constants.{placed, const_index, gep_level, gep_global, gep_base, constant_rows, form_or_int, simple_form, value_here, simple_of, operand_of, gep_value, gep_operand, operand_where, pointer}
use Rattle.ir_programs.specs.Readable.{is_width, is_readable_level, is_readable_form, is_readable_value}
use Rattle.readable_trees.proofs.Gives.{Gives, step, over, made, or, token, commas, both, all_true, when_some}
use Rattle.readable_trees.proofs.Types.{IsWidth, width_gives, mem_gives}

-- ---- constant expressions

abbrev an_index : ℕ → Integer → ℕ → ConstIndex
an_index w n at = record { width = w; value = n; at = at }

abbrev IsIndex : ConstIndex → Type 0
IsIndex i = is_width i.width ≡ true

index_is : (w : ℕ) → IsWidth w → (p : Piece) (i : ConstIndex) → placed fits_offset (an_index w) p ≡ Some i → IsIndex i
index_is w W p i e = subst IsIndex (when_some (matches an_int p && fits_offset (written p.text)) (an_index w (written p.text) p.at) i e).1 W

index_gives : Gives const_index.derives IsIndex
index_gives = step width_gives (λ w W. token (placed fits_offset (an_index w)) (index_is w W))

abbrev IsGep : ConstGep → Type 0
IsGep g = list_all is_readable_level g.levels ≡ true

level_gives : (inner : Phrase ConstGep) → Gives inner.derives IsGep → Gives (gep_level inner).derives IsGep
level_gives inner P =
    over (λ at. over (λ _. over (λ _. step (mem_gives nesting) (λ source S. over (λ _. over (λ _. step P (λ base B. step (commas const_index index_gives) (λ indices I. over (λ _.
    made (record { levels = record { at = at; source = source; indices = indices } ∷ base.levels; base = base.base }) (both (both S (all_true (λ i. is_width i.width) indices I)) B))))))))))

global_gives : Gives gep_global.derives IsGep
global_gives = over (λ g. made (record { levels = []; base = g }) refl)

gep_gives : (n : ℕ) → Gives (gep_base n).derives IsGep
unfolding gep_base
gep_gives zero = record { told = λ g w d. global_gives.told g w d }
gep_gives (suc n) = or (level_gives (gep_base n) (gep_gives n)) global_gives

-- ---- values

abbrev pub IsReadable : Value → Type 0
IsReadable v = is_readable_value v ≡ true

abbrev IsForm : ValueForm → Type 0
IsForm form = is_readable_form form ≡ true

pub gep_operand_gives : (n : ℕ) → Gives (gep_operand n).derives IsReadable
gep_operand_gives n = step (level_gives (gep_base n) (gep_gives n)) (λ g G. made (gep_value g) G)

meaning_is : (rows : List (List ℕ × ValueForm)) → AllByRecursion (λ row. IsForm row.1) rows → (p : Piece) (form : ValueForm) → meaning rows p ≡ Some form → IsForm form
meaning_is [] h p form e = absurd cc
meaning_is (row ∷ rows) h p form e = go (λ k. meaning_is rows h.1 p form k) (matches (word row.0) p) e
  where
    go : (meaning rows p ≡ Some form → IsForm form) → (b : Bool) → cond b (Some row.1) (meaning rows p) ≡ Some form → IsForm form
    go more true k = subst IsForm (same_Some row.1 form k) h.0
    go more false k = more k

rows_are : AllByRecursion (λ row. IsForm row.1) constant_rows
rows_are = (refl, (refl, (refl, (refl, (refl, (refl, tt))))))

form_is : (fits : Integer → Bool) (p : Piece) (form : ValueForm) → simple_form fits p ≡ Some form → IsForm form
form_is fits p form e = go (matches a_global p) e
  where
    other : (o : Option ValueForm) (n : Option Integer) → meaning constant_rows p ≡ o → form_or_int o n ≡ Some form → IsForm form
    other (Some f) n q h = subst IsForm (same_Some f form h) (meaning_is constant_rows rows_are p f q)
    other None (Some n) q h = subst IsForm (same_Some (forms.Int n) form h) refl
    other None None q h = absurd cc

    go : (b : Bool) → cond b (Some (forms.Global (after_sigil p.text))) (form_or_int (meaning constant_rows p) (int_in fits p)) ≡ Some form → IsForm form
    go true h = subst IsForm (same_Some (forms.Global (after_sigil p.text)) form h) refl
    go false h = other (meaning constant_rows p) (int_in fits p) refl h

simple_is : (fits : Integer → Bool) (p : Piece) (v : Value) → simple_of fits p ≡ Some v → IsReadable v
simple_is fits p v e = go (simple_form fits p) refl e
  where
    go : (o : Option ValueForm) → simple_form fits p ≡ o → value_here p.at o ≡ Some v → IsReadable v
    go (Some form) q h = subst IsReadable (same_Some (record { at = p.at; form = form }) v h) (form_is fits p form q)
    go None q h = absurd cc

pub simple_gives : (fits : Integer → Bool) → Gives (one (simple_of fits)).derives IsReadable
simple_gives fits = token (simple_of fits) (simple_is fits)

operand_is : (fits : Integer → Bool) (p : Piece) (v : Value) → operand_of fits p ≡ Some v → IsReadable v
operand_is fits p v e = go (matches a_local p) e
  where
    go : (b : Bool) → cond b (Some (record { at = p.at; form = forms.Local (after_sigil p.text) })) (simple_of fits p) ≡ Some v → IsReadable v
    go true h = subst IsReadable (same_Some (record { at = p.at; form = forms.Local (after_sigil p.text) }) v h) refl
    go false h = simple_is fits p v h

pub operand_gives : (fits : Integer → Bool) → Gives (operand_where fits).derives IsReadable
unfolding operand_where
operand_gives fits = or (gep_operand_gives 63) (token (operand_of fits) (operand_is fits))

pub pointer_gives : Gives pointer.derives IsReadable
pointer_gives = over (λ _. operand_gives fits_any)
