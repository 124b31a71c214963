-- Terminators are read again.
use Rattle.std.proofs.Common.{◌≡◌, ℕ, List, [], ◌∷◌, Option, Some, None, refl, sym, ap, subst, ◌∙◌}
use Rattle.std.specs.Prelude.{codes, map}
use Rattle.std.specs.List.{AllByRecursion}
use Rattle.ir_tree.specs.declared.types.Name.{Name}
use Rattle.ir_tree.specs.declared.constants.Integer.{Integer}
use Rattle.ir_tree.specs.declared.instructions.Typed.{Typed}
use Rattle.ir_tree.specs.declared.instructions.Case.{Case}
use Rattle.ir_tree.specs.declared.instructions.TerminatorForm.{TerminatorForm}
use Rattle.ir_tree.specs.declared.instructions.TerminatorForm.TheVariants as terminators
use Rattle.ir_tree.specs.declared.instructions.Terminator.{Terminator}
use Rattle.ir_tree.specs.Spelling.{typed_tokens, target_tokens, case_tokens, joined, terminator_tokens}
use Rattle.ir_tree.specs.Places.{bare_name, bare_typed, bare_case, bare_terminator, on_some}
use Rattle.phrases.specs.Phrase.{Phrase, either, done, ◌>>=◌, ◌>>◌}
use Rattle.ir_grammar.specs.Tokens.{word}
use Rattle.ir_grammar.specs.Numbers.{fits_width}
use Rattle.ir_grammar.specs.Types.{skip_word}
use Rattle.ir_grammar.specs.Instructions.{typed, return_term, target, branch_term, case, switch_term, unreachable_term, terminator}
use Rattle.printed_again.proofs.Numbers.{Fits, IsWidth, width_bounded, placed_tells, placed_back, width_tells, width_back}
use Rattle.printed_again.proofs.Backs.{Back, bind, ends, gives, alike, left, right, the_word, the_mark, the_place, all_of, none, more}
use Rattle.printed_again.proofs.Tells.{Tells, step, over, made, or, told_as, each}
use Rattle.printed_again.proofs.Lists.{moved, cons_like}
use Rattle.printed_again.proofs.Types.{SameName, local_back, local_tells}
use Rattle.printed_again.proofs.Operations.{closes, of_width_tells, of_width, bit, typed_tells}

abbrev pub SameTerminator : Terminator → Terminator → Type 0
SameTerminator t u = bare_terminator u ≡ bare_terminator t

-- a terminator is read from the tokens that it is printed as
abbrev pub TerminatorBack : Terminator → Type 0
TerminatorBack t = Back terminator.derives (terminator_tokens t.form) (SameTerminator t)

abbrev an_end : ℕ → TerminatorForm → Terminator
an_end at form = record { at = at; form = form }

-- ---- ret

abbrev returned_tokens : Option Typed → List (List ℕ)
returned_tokens (Some t) = typed_tokens t
returned_tokens None = codes "void" ∷ []

abbrev returned : Phrase (Option Typed)
returned = either (word (codes "void") ∷ []) (skip_word (codes "void") >> done None) (do
  v ← typed
  done (Some v))

abbrev ReturnedBack : Option Typed → Type 0
ReturnedBack r = Back returned.derives (returned_tokens r) (λ s. on_some bare_typed s ≡ on_some bare_typed r)

returned_tells : Tells returned.derives ReturnedBack
returned_tells =
    or (over (λ _. made None (left (bind (the_word (codes "void") refl) (λ _ _. gives None refl)))))
    (step typed_tells (λ t T. made (Some t) (right (ends T (λ u e. gives (Some u) (ap Some e))))))

return_tokens : (r : Option Typed) → terminator_tokens (terminators.Return r) ≡ codes "ret" ∷ returned_tokens r
return_tokens (Some t) = refl
return_tokens None = refl

return_tells : Tells return_term.derives (λ t. Back return_term.derives (terminator_tokens t.form) (SameTerminator t))
return_tells =
    over (λ at. step returned_tells (λ r R. over (λ _.
    made (an_end at (terminators.Return r))
    (moved (sym (return_tokens r))
    (bind (the_place (codes "ret") refl) (λ from _. ends R (λ s e. closes (an_end from (terminators.Return s)) (ap (λ o. an_end 0 (terminators.Return o)) e))))))))

-- ---- br

abbrev pub TargetBack : Name → Type 0
TargetBack n = Back target.derives (target_tokens n) (SameName n)

target_tells : Tells target.derives TargetBack
target_tells = over (λ _. told_as (λ n N. bind (the_word (codes "label") refl) (λ _ _. local_back n N)) local_tells)

branch_tells : Tells branch_term.derives (λ t. Back branch_term.derives (terminator_tokens t.form) (SameTerminator t))
branch_tells =
    over (λ at.
    or (step target_tells (λ n N. over (λ _.
    made (an_end at (terminators.Jump n))
    (bind (the_place (codes "br") refl) (λ from _. left (ends N (λ m e. closes (an_end from (terminators.Jump m)) (ap (λ k. an_end 0 (terminators.Jump k)) e)))))))) (over (λ _. step (of_width_tells 1 bit) (λ c C. over (λ _. step target_tells (λ n N. over (λ _. step target_tells (λ m M. over (λ _.
    made (an_end at (terminators.Branch c n m))
    (bind (the_place (codes "br") refl) (λ from _.
    right
    (bind (the_word (codes "i1") refl) (λ _ _.
    bind C (λ d ed.
    bind (the_mark (codes ",") refl) (λ _ _.
    bind N (λ x ex.
    bind (the_mark (codes ",") refl) (λ _ _.
    ends M (λ y ey.
    closes (an_end from (terminators.Branch d x y)) (let e : bare_terminator (an_end from (terminators.Branch d x y)) ≡ bare_terminator (an_end at (terminators.Branch c n m)) = cc in e)))))))))))))))))))

-- ---- switch

abbrev CaseBack : Case → Type 0
CaseBack c = Back case.derives (case_tokens c) (λ d. bare_case d ≡ bare_case c)

abbrev a_case : ℕ → Integer → ℕ → Name → Case
a_case w n at l = record { width = w; value = n; at = at; label = l }

abbrev with_place : Integer → ℕ → Integer × ℕ
with_place n at = (n, at)

case_back : (w : ℕ) (n : Integer) (at : ℕ) (l : Name) → IsWidth w → Fits (fits_width w) n → TargetBack l → CaseBack (a_case w n at l)
case_back w n at l W F L =
    bind (width_back w W) (λ v ev.
    bind (placed_back (fits_width v) with_place n (subst (λ k. Fits (fits_width k) n) (sym ev) F)) (λ x ex.
    bind (the_mark (codes ",") refl) (λ _ _.
    ends L (λ m em.
    gives (a_case v x.0 x.1 m) (ap (λ k. a_case k x.0 0 (bare_name m)) ev ∙ ap (λ k. a_case w k.0 0 (bare_name m)) ex.1 ∙ ap (a_case w n 0) em)))))

case_tells : Tells case.derives CaseBack
case_tells =
    step width_tells (λ w W. step (placed_tells (fits_width w) with_place (width_bounded w W.most)) (λ x X. over (λ _. step target_tells (λ l L.
    made (a_case w x.0 x.1 l) (case_back w x.0 x.1 l W (subst (λ k. Fits (fits_width w) k.0) (sym X.is) X.fitting) L)))))

cases_back : (cs : List Case) → AllByRecursion CaseBack cs → Back (all_of case) (joined (map case_tokens cs)) (λ ds. map bare_case ds ≡ map bare_case cs)
cases_back [] h = alike (λ ds e. ap (map bare_case) e) (none case)
cases_back (c ∷ cs) h = more case h.0 (cases_back cs h.1) (λ d ds e es. cons_like bare_case c d cs ds e es)

switch_tells : Tells switch_term.derives (λ t. Back switch_term.derives (terminator_tokens t.form) (SameTerminator t))
switch_tells =
    over (λ at. step width_tells (λ w W. step (of_width_tells w W) (λ v V. over (λ _. step target_tells (λ d D. over (λ _. step (each case case_tells) (λ cs C. over (λ _. over (λ _.
    made (an_end at (terminators.Switch w v d cs))
    (bind (the_place (codes "switch") refl) (λ from _.
    bind (width_back w W) (λ u eu.
    bind (of_width w u v eu V) (λ x ex.
    bind (the_mark (codes ",") refl) (λ _ _.
    bind D (λ f ef.
    bind (the_mark (codes "[") refl) (λ _ _.
    bind (cases_back cs C) (λ ds eds.
    ends (the_mark (codes "]") refl) (λ _ _.
    closes (an_end from (terminators.Switch u x f ds)) (let e : bare_terminator (an_end from (terminators.Switch u x f ds)) ≡ bare_terminator (an_end at (terminators.Switch w v d cs)) = cc in e)))))))))))))))))))

unreachable_tells : Tells unreachable_term.derives (λ t. Back unreachable_term.derives (terminator_tokens t.form) (SameTerminator t))
unreachable_tells =
    over (λ at. over (λ _. made (an_end at terminators.Unreachable) (ends (the_place (codes "unreachable") refl) (λ from _. closes (an_end from terminators.Unreachable) refl))))

pub terminator_tells : Tells terminator.derives TerminatorBack
unfolding terminator
terminator_tells =
    or (told_as (λ t B. left B) return_tells)
    (or (told_as (λ t B. right (left B)) branch_tells)
    (or (told_as (λ t B. right (right (left B))) switch_tells)
    (told_as (λ t B. right (right (right B))) unreachable_tells)))
