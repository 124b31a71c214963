-- Names one behind the other.
use Rattle.std.proofs.Common.{◌≡◌, ◌∙◌, ◌++◌, ◌+◌, ◌<◌, ℕ, suc, Bool, true, false, not, cond, List, [], ◌∷◌, Option, Some, length, take, drop, map, sym, ap, drop-cons, add-one}
use Rattle.std.specs.Prelude.{if◌then◌else◌, ◌==◌, slice_index_or}
use Rattle.std.specs.List.{filter}
use Rattle.std.proofs.lemmas.List.{take_more, map_push}
use Rattle.ir_programs.specs.declared.locals.Local.{Local}
use Rattle.ir_programs.specs.declared.refusals.Cause.TheVariants.{DuplicateName}
use Rattle.ir_programs.specs.declared.refusals.Refusal.{Refusal}
use Rattle.ir_programs.specs.Locals.{repeated}
use Rattle.ir_programs.specs.Refusals.{merged, first, refused}
use Rattle.ir_programs.specs.Steps.{repeats_left, texts_of}
use Rattle.ir_programs.specs.Texts.{among}
use Rattle.ir_programs.proofs.Told.{merged_more}

abbrev written : ℕ → List ℕ → List ℕ
written at places = filter (λ p. not (p == at)) places

abbrev told_with : ℕ → Option Refusal → List ℕ → Option Refusal
told_with at told places = merged told (first (refused DuplicateName (written at places)))

module _ (at : ℕ) (told : Option Refusal) (seen : List (List ℕ)) (l : Local) (ls : List Local) where
  abbrev behind : List ℕ
  behind = repeated (seen ++ l.name.text ∷ []) ls

  pub new_name : among l.name.text seen ≡ false → repeats_left at told (seen ++ l.name.text ∷ []) ls ≡ repeats_left at told seen (l ∷ ls)
  new_name e = sym (ap (λ (t : Bool). told_with at told (if t then l.name.at ∷ behind else behind)) e)

  pub unwritten_name : among l.name.text seen ≡ true → (l.name.at == at) ≡ true → repeats_left at told (seen ++ l.name.text ∷ []) ls ≡ repeats_left at told seen (l ∷ ls)
  unwritten_name e d =
      sym (ap (λ (t : Bool). told_with at told (if t then l.name.at ∷ behind else behind)) e
      ∙ ap (λ (t : Bool). merged told (first (refused DuplicateName (cond (not t) (l.name.at ∷ written at behind) (written at behind))))) d)

  pub second_name : (now : Option Refusal) → among l.name.text seen ≡ true → (l.name.at == at) ≡ false → now ≡ merged told (Some (record { at = l.name.at; cause = DuplicateName })) →
      repeats_left at now (seen ++ l.name.text ∷ []) ls ≡ repeats_left at told seen (l ∷ ls)
  second_name now e d is =
      ap (λ (o : Option Refusal). told_with at o behind) is
      ∙ (merged_more told (record { at = l.name.at; cause = DuplicateName }) (first (refused DuplicateName (written at behind)))
      ∙ sym (ap (λ (t : Bool). told_with at told (if t then l.name.at ∷ behind else behind)) e
      ∙ ap (λ (t : Bool). merged told (first (refused DuplicateName (cond (not t) (l.name.at ∷ written at behind) (written at behind))))) d))

texts_more : (locals : List Local) (i : ℕ) (l : Local) → i < length locals → l ≡ slice_index_or locals i l → texts_of (take (i + 1) locals) ≡ texts_of (take i locals) ++ l.name.text ∷ []
texts_more locals i l lt is =
    let text : Local → List ℕ = λ m. m.name.text in
    ap (map text) (take_more locals i l lt) ∙ (map_push text (take i locals) (slice_index_or locals i l)
    ∙ ap (λ (m : Local). map text (take i locals) ++ text m ∷ []) (sym is))

rest_less : (locals : List Local) (i : ℕ) (l : Local) → i < length locals → l ≡ slice_index_or locals i l → drop i locals ≡ l ∷ drop (i + 1) locals
rest_less locals i l lt is = rw add-one (drop-cons locals i l lt ∙ ap (λ (m : Local). m ∷ drop (suc i) locals) (sym is))

pub one_more : (at : ℕ) (told now next : Option Refusal) (locals : List Local) (i : ℕ) (l : Local) → i < length locals → l ≡ slice_index_or locals i l →
    ((rest : List Local) → repeats_left at next (texts_of (take i locals) ++ l.name.text ∷ []) rest ≡ repeats_left at now (texts_of (take i locals)) (l ∷ rest)) →
    repeats_left at now (texts_of (take i locals)) (drop i locals) ≡ repeats_left at told [] locals →
    repeats_left at next (texts_of (take (i + 1) locals)) (drop (i + 1) locals) ≡ repeats_left at told [] locals
one_more at told now next locals i l lt is step before =
    ap (λ (seen : List (List ℕ)). repeats_left at next seen (drop (i + 1) locals)) (texts_more locals i l lt is)
    ∙ (step (drop (i + 1) locals)
    ∙ (ap (λ (ls : List Local). repeats_left at now (texts_of (take i locals)) ls) (sym (rest_less locals i l lt is)) ∙ before))
