-- What fits the kept input, element by element, and what is made of it.
use Rattle.std.proofs.Common.{◌≡◌, ℕ, ◌<◌, ◌^◌, Bool, true, false, List, [], ◌∷◌, ◌++◌, All, subst, length, Some, None, ap, refl, ◌∙◌}
use Rattle.std.specs.List.{AllByRecursion}
use Rattle.std.proofs.lemmas.List.Elements.{All-from_recursion}
use Rattle.std.specs.Prelude.{cond, Option, IfSome}
use Rattle.terms.specs.Tree.{Tree}
use Rattle.terms.proofs.Numbers.{value_is, width-value_of}
use Rattle.flat_ir.specs.declared.names.FuncId.{FuncId}
use Rattle.flat_ir.specs.declared.names.NodeId.{NodeId}
use Rattle.sym_bytes.specs.Under.{bits_under}
use Rattle.sym_bytes.specs.Building.{same_call}
use Rattle.sym_bytes.specs.Value.{SymValue, Int, Ptr, Pending}
use Rattle.leaves.specs.Events.{Event, Load, Recovered, Told}
use Rattle.leaves.specs.Fitting.{IsTermOf, AreTermsOf, EventFits, EventsFit, ResultsFit, ToldFitsIn, ValueFits}
use Rattle.leaf_lines.specs.Values.{with_result, with_results}

-- a term of 8 bits is a byte
pub bits-byte : (n : ℕ) (t : Tree) (input : List ℕ) → IsTermOf n 8 t → bits_under input t < 2 ^ 8
bits-byte n t input h = let w : ℕ → Type 0 = λ w. bits_under input t < 2 ^ w in subst w (width-value_of t input h.term.tree ∙ h.has_width) (value_is t input h.term.tree).fits

terms-each : (n width : ℕ) (ts : List Tree) → AreTermsOf n width ts → AllByRecursion (IsTermOf n width) ts
terms-each n width [] h = tt
terms-each n width (t ∷ ts) h = (h.0, terms-each n width ts h.1)

pub terms-all : (n width : ℕ) (ts : List Tree) → AreTermsOf n width ts → All (IsTermOf n width) ts
terms-all n width ts h = All-from_recursion _ ts (terms-each n width ts h)

events-each : (n : ℕ) (es : List Event) → EventsFit n es → AllByRecursion (EventFits n) es
events-each n [] h = tt
events-each n (e ∷ es) h = (h.0, events-each n es h.1)

pub events-all : (n : ℕ) (es : List Event) → EventsFit n es → All (EventFits n) es
events-all n es h = All-from_recursion _ es (events-each n es h)

chosen-fits : (n : ℕ) (test : Bool) (v w : SymValue) → ValueFits n v → ValueFits n w → ValueFits n (cond test v w)
chosen-fits n true v w p q = p
chosen-fits n false v w p q = q

with_result-fits : (n : ℕ) (r : Recovered) (v : SymValue) → ValueFits n r.value → ValueFits n v → ValueFits n (with_result r v)
with_result-fits n r (Int t) p q = q
with_result-fits n r (Ptr a) p q = q
with_result-fits n r (Pending c t) p q = chosen-fits n (same_call r.call c) r.value (Pending c t) p q

pub with_results-fits : (n : ℕ) (rs : List Recovered) (v : SymValue) → ResultsFit n rs → ValueFits n v → ValueFits n (with_results rs v)
with_results-fits n [] v h q = q
with_results-fits n (r ∷ rs) v h q = with_result-fits n r (with_results rs v) h.0 (with_results-fits n rs v h.1 q)

-- one call more, the newest
pub with_results-newest : (rs : List Recovered) (r : Recovered) (v : SymValue) → with_results (rs ++ r ∷ []) v ≡ with_results rs (with_result r v)
with_results-newest [] r v = refl
with_results-newest (s ∷ rs) r v = ap (with_result s) (with_results-newest rs r v)

-- ---- under the kept input, if there is one

pub shown-fits : (kept : Option (List ℕ)) (t : Told) (func : FuncId) (n : NodeId) (v : SymValue) → IfSome kept (λ input. ToldFitsIn (length input) t)
    → IfSome kept (λ input. EventFits (length input) (Load func n v)) → IfSome kept (λ input. ValueFits (length input) (with_results t.results v))
shown-fits None t func n v h e = tt
shown-fits (Some input) t func n v h e = with_results-fits (length input) t.results v h.results e

pub path-fits : (kept : Option (List ℕ)) (t : Told) → IfSome kept (λ input. ToldFitsIn (length input) t) → All (λ e. IfSome kept (λ input. EventFits (length input) e)) t.path
path-fits None t h = λ k d below. tt
path-fits (Some input) t h = events-all (length input) t.path h.path
