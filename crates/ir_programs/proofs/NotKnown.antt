-- Names one behind the other, of which some aren't known.
use Rattle.std.proofs.Common.{◌≡◌, ◌∙◌, ℕ, Bool, true, false, not, cond, List, ◌∷◌, Option, Some, map, sym, ap}
use Rattle.std.specs.List.{filter}
use Rattle.ir_tree.specs.declared.types.Name.{Name}
use Rattle.ir_programs.specs.declared.refusals.Cause.{Cause}
use Rattle.ir_programs.specs.declared.refusals.Refusal.{Refusal}
use Rattle.ir_programs.specs.Refusals.{merged, first, refused}
use Rattle.ir_programs.specs.Steps.{absences_left}
use Rattle.ir_programs.specs.Texts.{among}
use Rattle.ir_programs.proofs.Told.{merged_more}

module _ (cause : Cause) (told : Option Refusal) (texts : List (List ℕ)) (n : Name) (ns : List Name) where
  abbrev absent : List Name
  absent = filter (λ m. not (among m.text texts)) ns

  abbrev told_if : Bool → Option Refusal
  told_if t = merged told (first (refused cause (map (λ (m : Name). m.at) (cond (not t) (n ∷ absent) absent))))

  pub known_name : among n.text texts ≡ true → absences_left cause told texts ns ≡ absences_left cause told texts (n ∷ ns)
  known_name e = sym (ap told_if e)

  pub absent_name : (now : Option Refusal) → among n.text texts ≡ false → now ≡ merged told (Some (record { at = n.at; cause = cause })) →
      absences_left cause now texts ns ≡ absences_left cause told texts (n ∷ ns)
  absent_name now e is =
      ap (λ (o : Option Refusal). merged o (first (refused cause (map (λ (m : Name). m.at) absent)))) is
      ∙ (merged_more told (record { at = n.at; cause = cause }) (first (refused cause (map (λ (m : Name). m.at) absent))) ∙ sym (ap told_if e))
