-- Cases one behind the other.
use Rattle.std.proofs.Common.{◌≡◌, ◌∙◌, ◌++◌, ◌+◌, ◌<◌, ℕ, Bool, true, false, List, [], ◌∷◌, length, take, drop, get_or, Option, Some, refl, sym, ap}
use Rattle.std.specs.Prelude.{◌||◌, if◌then◌else◌}
use Rattle.std.proofs.lemmas.List.{take_more}
use Rattle.ir_tree.specs.declared.instructions.Case.{Case}
use Rattle.ir_programs.specs.declared.refusals.Cause.TheVariants.{DuplicateName}
use Rattle.ir_programs.specs.declared.refusals.Refusal.{Refusal}
use Rattle.ir_programs.specs.Causes.{same_case, is_case_of, repeated_cases}
use Rattle.ir_programs.specs.Refusals.{merged, first, refused}
use Rattle.ir_programs.proofs.Told.{merged_more}
use Rattle.ir_resolve.specs.Telling.{told_of, cases_left}
use Rattle.ir_resolve.proofs.Telling_more.{rest_less}

or_swap : (a b c : Bool) → (a || (b || c)) ≡ (b || (a || c))
or_swap true true c = refl
or_swap true false c = refl
or_swap false b c = refl

pushed_seen : (s : List Case) (c d : Case) → is_case_of (s ++ c ∷ []) d ≡ is_case_of (c ∷ s) d
pushed_seen [] c d = refl
pushed_seen (x ∷ xs) c d = ap (λ (b : Bool). same_case x d || b) (pushed_seen xs c d) ∙ or_swap (same_case x d) (same_case c d) (is_case_of xs d)

same_seen : (s u : List Case) → ((c : Case) → is_case_of s c ≡ is_case_of u c) → (cs : List Case) → repeated_cases s cs ≡ repeated_cases u cs
same_seen s u e [] = refl
same_seen s u e (c ∷ cs) =
    ap (λ (b : Bool). if b then c.at ∷ repeated_cases (c ∷ s) cs else repeated_cases (c ∷ s) cs) (e c)
    ∙ ap (λ (ps : List ℕ). if is_case_of u c then c.at ∷ ps else ps) (same_seen (c ∷ s) (c ∷ u) (λ d. ap (λ (b : Bool). same_case c d || b) (e d)) cs)

one_case : (now : Option Refusal) (s : List Case) (c : Case) (cs : List Case) →
    cases_left (if is_case_of s c then merged now (Some (record { at = c.at; cause = DuplicateName })) else now) (c ∷ s) cs ≡ cases_left now s (c ∷ cs)
one_case now s c cs = go (is_case_of s c)
  where
    go : (b : Bool) → cases_left (if b then merged now (Some (record { at = c.at; cause = DuplicateName })) else now) (c ∷ s) cs
        ≡ told_of DuplicateName now (if b then c.at ∷ repeated_cases (c ∷ s) cs else repeated_cases (c ∷ s) cs)
    go true = merged_more now (record { at = c.at; cause = DuplicateName }) (first (refused DuplicateName (repeated_cases (c ∷ s) cs)))
    go false = refl

pub next_case : (now next all : Option Refusal) (cases : List Case) (i : ℕ) (c : Case) → i < length cases → c ≡ get_or cases i c →
    next ≡ (if is_case_of (take i cases) c then merged now (Some (record { at = c.at; cause = DuplicateName })) else now) → cases_left now (take i cases) (drop i cases) ≡ all →
    cases_left next (take (i + 1) cases) (drop (i + 1) cases) ≡ all
next_case now next all cases i c lt is e before =
    let seen = take i cases in
    let rest = drop (i + 1) cases in
    let more : take (i + 1) cases ≡ seen ++ c ∷ [] = take_more cases i c lt ∙ ap (λ (x : Case). seen ++ x ∷ []) (sym is) in
    ap (λ (s : List Case). cases_left next s rest) more
    ∙ (ap (λ (ps : List ℕ). told_of DuplicateName next ps) (same_seen (seen ++ c ∷ []) (c ∷ seen) (pushed_seen seen c) rest)
    ∙ (ap (λ (o : Option Refusal). cases_left o (c ∷ seen) rest) e
    ∙ (one_case now seen c rest ∙ (ap (λ (cs : List Case). cases_left now seen cs) (sym (rest_less cases i c lt is)) ∙ before))))
