-- Where terminators lead.
use Rattle.std.proofs.Common.{◌≡◌, ℕ, Bool, true, false, not, List, [], ◌∷◌, ◌++◌, map, refl, sym, ap, ◌∙◌, arith, length, get_or, ◌<◌, ◌≤◌}
use Rattle.std.specs.Prelude.{◌||◌, ◌&&◌, ◌==◌}
use Rattle.std.specs.List.{list_all}
use Rattle.std.proofs.lemmas.Bool.{eqb-true, eq-eqb, eqb-false, ne_eqb}
use Rattle.ir_tree.specs.Texts.{same}
use Rattle.ir_tree.specs.declared.types.Name.{Name}
use Rattle.ir_tree.specs.declared.instructions.Case.{Case}
use Rattle.ir_programs.specs.Texts.{among, texts}
use Rattle.ir_tree.specs.declared.instructions.Block.{Block}
use Rattle.ir_programs.specs.Parts.{case_label}
use Rattle.ir_programs.specs.Locals.{label_of}
use Rattle.ir_programs.specs.Edges.{first_label}

pub or_false : (b : Bool) → (b || false) ≡ b
or_false true = refl
or_false false = refl

pub and_true : (b : Bool) → (b && true) ≡ b
and_true true = refl
and_true false = refl

-- the labels of the cases, and then the default
pub among_cases : (name : List ℕ) (cs : List Case) (d : Name) → among name (texts (map case_label cs ++ d ∷ [])) ≡ (among name (texts (map case_label cs)) || same d.text name)
among_cases name [] d = or_false (same d.text name)
among_cases name (c ∷ cs) d = go (same c.label.text name) (among_cases name cs d)
  where
    go : (b : Bool) → among name (texts (map case_label cs ++ d ∷ [])) ≡ (among name (texts (map case_label cs)) || same d.text name) →
        (b || among name (texts (map case_label cs ++ d ∷ []))) ≡ ((b || among name (texts (map case_label cs))) || same d.text name)
    go true e = refl
    go false e = e

pub eq_swap : (x y : ℕ) → (x == y) ≡ (y == x)
eq_swap x y = go (x == y) refl
  where
    go : (b : Bool) → (x == y) ≡ b → b ≡ (y == x)
    go true e = sym (eq-eqb y x (sym (eqb-true x y e)))
    go false e = sym (ne_eqb y x (λ d. eqb-false x y e (sym d)))

pub same_swap : (xs ys : List ℕ) → same xs ys ≡ same ys xs
same_swap [] [] = refl
same_swap [] (y ∷ ys) = refl
same_swap (x ∷ xs) [] = refl
same_swap (x ∷ xs) (y ∷ ys) = ap (λ (b : Bool). b && same xs ys) (eq_swap x y) ∙ ap (λ (b : Bool). (y == x) && b) (same_swap xs ys)

-- nothing leads to a label that there isn't
pub none_first : (ts : List (List ℕ)) → list_all (λ t. not (among t [])) ts ≡ true
none_first [] = refl
none_first (t ∷ ts) = none_first ts

-- that each is another than a label, and that none is it
pub all_other : (label : List ℕ) (ts : List (List ℕ)) → list_all (λ t. not (among t (label ∷ []))) ts ≡ not (among label ts)
all_other label [] = refl
all_other label (t ∷ ts) = ap (λ (b : Bool). not (b || false) && list_all (λ t. not (among t (label ∷ []))) ts) (same_swap label t) ∙ go (same t label) (all_other label ts)
  where
    go : (b : Bool) → list_all (λ t. not (among t (label ∷ []))) ts ≡ not (among label ts) → (not (b || false) && list_all (λ t. not (among t (label ∷ []))) ts) ≡ not (b || among label ts)
    go true e = refl
    go false e = e

pub right_of_none : (blocks : List Block) (ts : List (List ℕ)) → length blocks < 1 → list_all (λ t. not (among t (first_label blocks))) ts ≡ true
right_of_none [] ts lt = none_first ts
right_of_none (b ∷ bs) ts lt = absurd (omega (arith, lt))

pub right_of_first : (blocks : List Block) (b : Block) (ts : List (List ℕ)) → 1 ≤ length blocks → b ≡ get_or blocks 0 b → list_all (λ t. not (among t (first_label blocks))) ts ≡ not (among (label_of b) ts)
right_of_first [] b ts le is = absurd (omega (arith, le))
right_of_first (x ∷ xs) b ts le is = all_other (label_of x) ts ∙ ap (λ (y : Block). not (among (label_of y) ts)) (sym is)
