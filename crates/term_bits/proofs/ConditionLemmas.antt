-- The bits of a condition are met by the inputs that meet its terms.
use Rattle.std.proofs.Common.{◌≡◌, ℕ, Bool, true, not, ◌&&◌, eqb, List, [], ◌∷◌, ◌++◌, length, refl, sym, ap, ap₂, ◌∙◌, subst, arith}
use Rattle.std.specs.List.{All, AllByRecursion, list_any}
use Rattle.std.proofs.lemmas.Bool.{and_parts, and_from, or_left, or_right, eq-eqb}
use Rattle.std.proofs.lemmas.List.Elements.{All-from_recursion, recursion_from_All}
use Rattle.cnf.specs.Models.{Solves}
use Rattle.gates.specs.Bits as bit
use Rattle.gates.specs.Bits.{Bit, value, xor, IsFolded, Meets}
use Rattle.gates.specs.Clauses.{occurs, clauses_of, names_of, number_of}
use Rattle.gates.specs.Meaning.{IsCondition, HasModelWith}
use Rattle.gates.proofs.NameLemmas.{All_append}
use Rattle.gates.proofs.MeaningLemmas.{model_from_input, input_from_model}
use Rattle.rows.specs.Rows.{top}
use Rattle.terms.specs.Tree.{Tree, IsTree}
use Rattle.terms.specs.Value.{is_met_by, are_met_by}
use Rattle.term_bits.specs.TermBits.{bits_of, input_of}
use Rattle.term_bits.specs.Conditions.{IsConjunct, condition_bits, bytes_of, input_in}
use Rattle.term_bits.proofs.Terms.{length-bits, read-bits, one_bit}
use Rattle.term_bits.proofs.KeptTerms.{folded_bits, reads_below, IsWithin, any_within, bits_within}
use Rattle.term_bits.proofs.InputLemmas.{input_of_bytes}

single : (xs : List Bit) → length xs ≡ 1 → xs ≡ top xs ∷ []
unfolding top
single [] h = absurd (omega arith)
single (x ∷ []) h = refl
single (x ∷ y ∷ xs) h = absurd (omega arith)

all_parts : (P : Bit → Type 0) (xs ys : List Bit) → AllByRecursion P (xs ++ ys) → AllByRecursion P xs × AllByRecursion P ys
all_parts P [] ys h = (tt, h)
all_parts P (x ∷ xs) ys h = let rest = all_parts P xs ys h.1 in ((h.0, rest.0), rest.1)

-- what the bits of all trees have, the bits of a condition have
condition_has : (P : Bit → Type 0) → ((t : Tree) → IsTree t → AllByRecursion P (bits_of t)) → (c : List Tree) → AllByRecursion IsConjunct c → AllByRecursion P (condition_bits c)
condition_has P f [] h = tt
condition_has P f (t ∷ c) h = All_append P (bits_of t) (condition_bits c) (f t h.0.tree) (condition_has P f c h.1)

pub is_condition : (c : List Tree) → All IsConjunct c → IsCondition (condition_bits c)
is_condition c h =
    let each : AllByRecursion IsConjunct c = recursion_from_All IsConjunct c h in record {
      folded = All-from_recursion IsFolded (condition_bits c) (condition_has IsFolded folded_bits c each);
      in_range = λ k o. any_within 512 k (condition_bits c) (condition_has (IsWithin 512) (λ t is. bits_within t 64 (reads_below t is)) c each) o;
    }

-- the one bit of a conjunct is its truth
conjunct_bit : (bytes : List ℕ) (t : Tree) → IsConjunct t → value (input_of bytes) (top (bits_of t)) ≡ is_met_by bytes t
conjunct_bit bytes t h =
    one_bit (input_of bytes) (bits_of t) (length-bits t h.tree ∙ h.one_bit) ∙ ap (λ n. eqb n 1) (read-bits t bytes h.tree)

IsTrueAt : (ℕ → Bool) → Bit → Type 0
IsTrueAt i e = value i e ≡ true

bits_true : (bytes : List ℕ) (c : List Tree) → AllByRecursion IsConjunct c → are_met_by bytes c ≡ true → AllByRecursion (IsTrueAt (input_of bytes)) (condition_bits c)
bits_true bytes [] h m = tt
bits_true bytes (t ∷ c) h m =
    let parts = and_parts (is_met_by bytes t) (are_met_by bytes c) m in
    let own : IsTrueAt (input_of bytes) (top (bits_of t)) = unfold IsTrueAt in conjunct_bit bytes t h.0 ∙ parts.0 in
    All_append (IsTrueAt (input_of bytes)) (bits_of t) (condition_bits c) (subst (AllByRecursion (IsTrueAt (input_of bytes))) (sym (single (bits_of t) (length-bits t h.0.tree ∙ h.0.one_bit))) (own, tt)) (bits_true bytes c h.1 parts.1)

true_bits : (bytes : List ℕ) (c : List Tree) → AllByRecursion IsConjunct c → AllByRecursion (IsTrueAt (input_of bytes)) (condition_bits c) → are_met_by bytes c ≡ true
unfolding IsTrueAt
true_bits bytes [] h m = refl
true_bits bytes (t ∷ c) h m =
    let parts = all_parts (IsTrueAt (input_of bytes)) (bits_of t) (condition_bits c) m in
    let own = subst (AllByRecursion (IsTrueAt (input_of bytes))) (single (bits_of t) (length-bits t h.0.tree ∙ h.0.one_bit)) parts.0 in
    and_from (is_met_by bytes t) (are_met_by bytes c) (sym (conjunct_bit bytes t h.0) ∙ own.0) (true_bits bytes c h.1 parts.1)

pub meets_bits : (c : List Tree) (bytes : List ℕ) → All IsConjunct c → are_met_by bytes c ≡ true → Meets (input_of bytes) (condition_bits c)
unfolding IsTrueAt
meets_bits c bytes h m =
    All-from_recursion (IsTrueAt (input_of bytes)) (condition_bits c) (bits_true bytes c (recursion_from_All IsConjunct c h) m)

pub meets_terms : (c : List Tree) (bytes : List ℕ) → All IsConjunct c → Meets (input_of bytes) (condition_bits c) → are_met_by bytes c ≡ true
unfolding IsTrueAt
meets_terms c bytes h m =
    true_bits bytes c (recursion_from_All IsConjunct c h) (recursion_from_All (IsTrueAt (input_of bytes)) (condition_bits c) m)

pub model_of_input : (c : List Tree) (bytes : List ℕ) → All IsConjunct c → are_met_by bytes c ≡ true → HasModelWith (condition_bits c) (input_of bytes)
model_of_input c bytes h m =
    model_from_input (condition_bits c) (input_of bytes) (is_condition c h) (meets_bits c bytes h m)

pub input_of_model : (c : List Tree) (bytes : List ℕ) → All IsConjunct c → HasModelWith (condition_bits c) (input_of bytes) → are_met_by bytes c ≡ true
input_of_model c bytes h m =
    meets_terms c bytes h (input_from_model (condition_bits c) (input_of bytes) m.0 (is_condition c h) m.1 m.2)

-- inputs with the same bits where an expression reads give it one value
same_value : (i j : ℕ → Bool) (e : Bit) → ((k : ℕ) → occurs k e ≡ true → i k ≡ j k) → value i e ≡ value j e
unfolding value occurs
same_value i j (bit.constant b) h = refl
same_value i j (bit.input k) h = h k (eq-eqb k k refl)
same_value i j (bit.negation e) h = ap not (same_value i j e h)
same_value i j (bit.conjunction a b) h =
    ap₂ (λ x y. x && y) (same_value i j a (λ k o. h k (or_left (occurs k a) (occurs k b) o))) (same_value i j b (λ k o. h k (or_right (occurs k a) (occurs k b) o)))
same_value i j (bit.exclusive a b) h =
    ap₂ xor (same_value i j a (λ k o. h k (or_left (occurs k a) (occurs k b) o))) (same_value i j b (λ k o. h k (or_right (occurs k a) (occurs k b) o)))

all_same : (i j : ℕ → Bool) (es : List Bit) → ((k : ℕ) → list_any (occurs k) es ≡ true → i k ≡ j k) → AllByRecursion (IsTrueAt i) es → AllByRecursion (IsTrueAt j) es
unfolding IsTrueAt
all_same i j [] h m = tt
all_same i j (e ∷ es) h m =
    (sym (same_value i j e (λ k o. h k (or_left (occurs k e) (list_any (occurs k) es) o))) ∙ m.0, all_same i j es (λ k o. h k (or_right (occurs k e) (list_any (occurs k) es) o)) m.1)

pub found_input : (c : List Tree) (v : ℕ → Bool) → All IsConjunct c → Solves v (clauses_of (condition_bits c)) → are_met_by (input_in (condition_bits c) v) c ≡ true
unfolding IsTrueAt
found_input c v h solves =
    let es : List Bit = condition_bits c in
    let condition : IsCondition es = is_condition c h in
    let i : ℕ → Bool = λ k. v (number_of (names_of es) (bit.input k)) in
    let meets : Meets i es = input_from_model es i v condition solves (λ k o. refl) in
    true_bits (bytes_of i) c (recursion_from_All IsConjunct c h) (all_same i (input_of (bytes_of i)) es (λ k o. sym (input_of_bytes i k (condition.in_range k o))) (recursion_from_All (IsTrueAt i) es meets))
