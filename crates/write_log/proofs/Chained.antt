-- Steps through a chain of candidates.
use Rattle.std.proofs.Common.{◌≡◌, ℕ, zero, suc, List, [], ◌∷◌, ◌++◌, Option, Some, None, ◌<◌, refl, sym, ap, ◌∙◌, append_assoc, length, take, get_or, arith}
use Rattle.terms.specs.Tree.{Tree}
use Rattle.term_store.specs.declared.conditions.Added.{Added}
use Rattle.term_store.specs.declared.conditions.Added.TheVariants.{Held, Appended, Contradicted}
use Rattle.term_store.specs.Condition.{answer}
use Rattle.sym_bytes.specs.Byte.{SymByte}
use Rattle.sym_bytes.specs.Joining.{int_of}
use Rattle.log_laws.specs.Reading.{Candidate, Chain, or_else, choose, term_of, scan_step, sure_if, sure_of, open_if, open_of}
use Rattle.write_log.specs.Walks.{held_byte, kept, ended, chosen_from}

pub chosen_all : (cs : List Candidate) (last : SymByte) → term_of cs last ≡ chosen_from cs (int_of last)
chosen_all [] last = refl
chosen_all (c ∷ cs) last = ap (choose c.test (int_of c.found)) (chosen_all cs last)

choose_none : (test : Tree) (o : Option Tree) → choose test o None ≡ None
choose_none test (Some a) = refl
choose_none test None = refl

pub chosen_none : (cs : List Candidate) → chosen_from cs None ≡ None
chosen_none [] = refl
chosen_none (c ∷ cs) = ap (choose c.test (int_of c.found)) (chosen_none cs) ∙ choose_none c.test (int_of c.found)

chosen_last : (cs : List Candidate) (c : Candidate) (o : Option Tree) → chosen_from (cs ++ c ∷ []) o ≡ chosen_from cs (choose c.test (int_of c.found) o)
chosen_last [] c o = refl
chosen_last (d ∷ cs) c o = ap (choose d.test (int_of d.found)) (chosen_last cs c o)

pub take_all : {A : Type 0} (xs : List A) → take (length xs) xs ≡ xs
take_all [] = refl
take_all (x ∷ xs) = ap (λ ys. x ∷ ys) (take_all xs)

take_after : {A : Type 0} (xs : List A) (i : ℕ) (x : A) → i < length xs → x ≡ get_or xs i x → take (suc i) xs ≡ take i xs ++ x ∷ []
take_after [] i x within is = absurd (omega (arith, within))
take_after (y ∷ xs) zero x within is = ap (λ z. z ∷ []) (sym is)
take_after (y ∷ xs) (suc i) x within is = ap (λ ys. y ∷ ys) (take_after xs i x (omega (arith, within)) is)

-- one candidate less is left
pub chosen_back : (cs : List Candidate) (i n : ℕ) (c : Candidate) (o : Option Tree) → n ≡ suc i → i < length cs → c ≡ get_or cs i c
    → chosen_from (take n cs) o ≡ chosen_from (take i cs) (choose c.test (int_of c.found) o)
chosen_back cs i n c o next within is =
    ap (λ m. chosen_from (take m cs) o) next ∙ ap (λ ds. chosen_from ds o) (take_after cs i c within is) ∙ chosen_last (take i cs) c o

-- a candidate is judged
pub judged_scan : (a : Added) (c : Candidate) (old : List Candidate) (rest : Chain)
    → or_else old (scan_step a c.test c.found rest) ≡ or_else (old ++ kept a c) (ended (held_byte a c.found) rest)
judged_scan Held c old rest = ap (λ cs. record { candidates = cs ++ []; last = c.found }) (sym (nil old))
  where
    nil : (cs : List Candidate) → cs ++ [] ≡ cs
    nil [] = refl
    nil (d ∷ ds) = ap (λ es. d ∷ es) (nil ds)
judged_scan Appended c old rest = ap (λ cs. record { candidates = cs; last = rest.last }) (sym (append_assoc old (c ∷ []) rest.candidates))
judged_scan Contradicted c old rest = ap (λ cs. record { candidates = cs ++ rest.candidates; last = rest.last }) (sym (nil old))
  where
    nil : (cs : List Candidate) → cs ++ [] ≡ cs
    nil [] = refl
    nil (d ∷ ds) = ap (λ es. d ∷ es) (nil ds)

pub sure_none : (known : List Tree) (c : Candidate) (cs : List Candidate) → held_byte (answer known c.test) c.found ≡ None → sure_of known (c ∷ cs) ≡ sure_of known cs
sure_none known c cs none = by_answer (answer known c.test) none
  where
    by_answer : (a : Added) → held_byte a c.found ≡ None → sure_if a c.found (sure_of known cs) ≡ sure_of known cs
    by_answer Held e = cc
    by_answer Appended e = refl
    by_answer Contradicted e = refl

pub sure_some : (known : List Tree) (c : Candidate) (cs : List Candidate) (b : SymByte) → held_byte (answer known c.test) c.found ≡ Some b → sure_of known (c ∷ cs) ≡ Some b
sure_some known c cs b some = by_answer (answer known c.test) some
  where
    by_answer : (a : Added) → held_byte a c.found ≡ Some b → sure_if a c.found (sure_of known cs) ≡ Some b
    by_answer Held e = e
    by_answer Appended e = cc
    by_answer Contradicted e = cc

pub open_none : (known : List Tree) (c : Candidate) (cs : List Candidate) → held_byte (answer known c.test) c.found ≡ None
    → open_of known (c ∷ cs) ≡ kept (answer known c.test) c ++ open_of known cs
open_none known c cs none = by_answer (answer known c.test) none
  where
    by_answer : (a : Added) → held_byte a c.found ≡ None → open_if a c (open_of known cs) ≡ kept a c ++ open_of known cs
    by_answer Held e = cc
    by_answer Appended e = refl
    by_answer Contradicted e = refl
