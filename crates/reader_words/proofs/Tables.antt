-- Tables of words, one after the other.
use Rattle.std.proofs.Common.{◌≡◌, ℕ, Bool, true, false, ◌||◌, List, [], ◌∷◌, ◌++◌, refl, sym, ap, ◌∙◌}
use Rattle.phrases.specs.Piece.{Piece, matches, among, starts}
use Rattle.ir_grammar.specs.Tokens.{word, words}

or_assoc : (a b c : Bool) → (a || (b || c)) ≡ ((a || b) || c)
or_assoc true b c = refl
or_assoc false b c = refl

pub or_false : (a : Bool) → (a || false) ≡ a
or_false true = refl
or_false false = refl

among_both : (xs ys : List (List ℕ)) (p : Piece) → among (words (xs ++ ys)) p ≡ (among (words xs) p || among (words ys) p)
among_both [] ys p = refl
among_both (x ∷ xs) ys p = ap (λ b. matches (word x) p || b) (among_both xs ys p) ∙ or_assoc (matches (word x) p) (among (words xs) p) (among (words ys) p)

-- a word of either table comes next
pub starts_both : (xs ys : List (List ℕ)) (ts : List Piece) → starts (words (xs ++ ys)) ts ≡ (starts (words xs) ts || starts (words ys) ts)
starts_both xs ys [] = refl
starts_both xs ys (p ∷ ps) = among_both xs ys p

-- a word of the first table, one between, or a word of the last
pub starts_three : (xs : List (List ℕ)) (s : List ℕ) (ys : List (List ℕ)) (ts : List Piece) (a b c : Bool) → a ≡ starts (words xs) ts → b ≡ starts (word s ∷ []) ts → c ≡ starts (words ys) ts
    → (a || (b || c)) ≡ starts (words (xs ++ (s ∷ ys))) ts
starts_three xs s ys ts a b c is_first is_word is_last =
    ap (λ q. q || (b || c)) is_first ∙ ap (λ q. starts (words xs) ts || (q || c)) is_word ∙ ap (λ q. starts (words xs) ts || (starts (word s ∷ []) ts || q)) is_last
    ∙ ap (λ q. starts (words xs) ts || q) (sym (starts_both (s ∷ []) ys ts)) ∙ sym (starts_both xs (s ∷ ys) ts)

-- a word of the last table alone
pub in_last : (xs ys : List (List ℕ)) (ts : List Piece) (a b : Bool) → a ≡ starts (words xs) ts → a ≡ false → b ≡ starts (words ys) ts → b ≡ starts (words (xs ++ ys)) ts
in_last xs ys ts a b is_first none is_last = is_last ∙ ap (λ q. q || starts (words ys) ts) (sym none ∙ is_first) ∙ sym (starts_both xs ys ts)

-- a word of the first table
pub in_first : (xs ys : List (List ℕ)) (ts : List Piece) (a : Bool) → a ≡ starts (words xs) ts → a ≡ true → true ≡ starts (words (xs ++ ys)) ts
in_first xs ys ts a is_first some = ap (λ q. q || starts (words ys) ts) (sym some ∙ is_first) ∙ sym (starts_both xs ys ts)
