-- A log cut before a call's mark stands for the history at that call.
use Rattle.std.proofs.Common.{◌≡◌, ℕ, ◌||◌, Bool, true, false, List, [], ◌∷◌, ◌++◌, refl, sym, ◌∙◌, ap}
use Rattle.std.specs.Prelude.{cond}
use Rattle.std.proofs.lemmas.Bool.{eqb-true}
use Rattle.std.proofs.lemmas.List.{append_assoc}
use Rattle.flat_ir.specs.History.{Change}
use Rattle.sym_bytes.specs.declared.names.CallId.{CallId}
use Rattle.sym_bytes.specs.Building.{same_call}
use Rattle.sym_bytes.specs.Under.{Results}
use Rattle.log_laws.specs.Logs.{Log, Did, Marked, cut}
use Rattle.log_laws.specs.Standing.{changes_under, Gave, log_under, AreMarks}
use Rattle.exploration_laws.specs.Cuts.{is_marked, CutsStand}

-- what stands before the part of the log that is cut off
pub record IsCut (input : List ℕ) (results : Results) (gave : Gave) (call : CallId) (log rest : Log) : Type 0 where
  pub later : List Change
  pub is : log_under input results gave log ≡ later ++ (gave call ++ log_under input results gave rest)
  pub marks : AreMarks input results gave rest

module _ (input : List ℕ) (results : Results) (gave : Gave) where
  at-mark : (call c : CallId) (log : Log) (same more : Bool) → same_call call c ≡ same → (same || more) ≡ true → (more ≡ true → IsCut input results gave call log (cut call log)) → AreMarks input results gave log
      → (later : List Change) × ((gave c ++ log_under input results gave log ≡ later ++ (gave call ++ log_under input results gave (cond same log (cut call log)))) × AreMarks input results gave (cond same log (cut call log)))
  at-mark call c log true more is some rest marks = ([], (ap (λ n. gave (record { 0 = n }) ++ log_under input results gave log) (sym (eqb-true call.0 c.0 is)), marks))
  at-mark call c log false more is some rest marks =
      let h = rest some in
      (gave c ++ h.later, (ap (λ es. gave c ++ es) h.is ∙ sym (append_assoc (gave c) h.later (gave call ++ log_under input results gave (cut call log))), h.marks))

  cuts : (call : CallId) (log : Log) → is_marked call log ≡ true → AreMarks input results gave log → IsCut input results gave call log (cut call log)
  cuts call [] some marks = cc
  cuts call (Did e ∷ log) some marks =
      let h = cuts call log some marks in
      record {
        later = changes_under input results e ++ h.later;
        is = ap (λ es. changes_under input results e ++ es) h.is ∙ sym (append_assoc (changes_under input results e) h.later (gave call ++ log_under input results gave (cut call log)));
        marks = h.marks;
      }
  cuts call (Marked c mods fills ∷ log) some marks =
      let h = at-mark call c log (same_call call c) (is_marked call log) refl some (λ more. cuts call log more marks.1) marks.1 in
      record { later = h.0; is = h.1.0; marks = h.1.1 }

pub cuts-stand : CutsStand
cuts-stand call log history input results gave some stands =
    let h = cuts input results gave call log some stands.marks in
    record { later = h.later; earlier = log_under input results gave (cut call log); is = stands.is ∙ h.is; stands = record { is = refl; marks = h.marks } }
