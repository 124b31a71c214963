-- Facts of single bytes, computed, and of runs of them.
use Rattle.std.proofs.Common.{◌≡◌, ℕ, zero, suc, ◌<◌, ◌≤◌, Bool, true, false, cond, not, ◌||◌, ◌&&◌, ◌==◌, nat_le, nat_lt, List, [], ◌∷◌, ◌++◌, refl, ap, ◌∙◌, arith, ◌≢◌, eqb-true, ltb-true, lt-ltb, leb-true}
use Rattle.std.specs.Prelude.{codes}
use Rattle.std.proofs.lemmas.Bool.{eqb-false}
use Rattle.ir_lexer.specs.Forms.{same, runs_to, is_digit, is_word_byte}
use Rattle.phrases.proofs.Classes.{and_left, and_right}
use Rattle.ir_grammar.specs.Tokens.{are_digits}
use Rattle.printed_again.specs.Again.{are_bytes}

-- ---- tables

abbrev pub all_below : ℕ → (ℕ → Bool) → Bool
all_below zero f = true
all_below (suc n) f = f n && all_below n f

pub both : (a b : Bool) → a ≡ true → b ≡ true → (a && b) ≡ true
both a b e h = ap (λ x. x && b) e ∙ h

pub and_false : (a b : Bool) → b ≡ false → (a && b) ≡ false
and_false true b e = e
and_false false b e = refl

-- what holds of each number below the size of a table
pub below : (size : ℕ) (f : ℕ → Bool) → all_below size f ≡ true → (n : ℕ) → n < size → f n ≡ true
below zero f e n lt = absurd (omega (arith, lt))
below (suc size) f e n lt = go (λ less. below size f (and_right (f size) (all_below size f) e) n less) (n == size) refl
  where
    go : (n < size → f n ≡ true) → (b : Bool) → (n == size) ≡ b → f n ≡ true
    go later true q = ap f (eqb-true n size q) ∙ and_left (f size) (all_below size f) e
    go later false q = later (let ne : n ≢ size = eqb-false n size q in omega (arith, lt, ne))

pub byte_below : (f : ℕ → Bool) → all_below 256 f ≡ true → (b : ℕ) → nat_lt b 256 ≡ true → f b ≡ true
byte_below f e b lt = below 256 f e b (ltb-true b 256 lt)

-- bytes of one class are none of another
pub apart_bytes : (f g : ℕ → Bool) → all_below 256 (λ b. not (f b && g b)) ≡ true → (b : ℕ) → nat_lt b 256 ≡ true → f b ≡ true → g b ≡ false
apart_bytes f g e b lt h = go (f b) (g b) h (byte_below (λ b. not (f b && g b)) e b lt)
  where
    go : (x y : Bool) → x ≡ true → not (x && y) ≡ true → y ≡ false
    go true false h e = refl
    go true true h e = absurd cc
    go false y h e = absurd cc

-- bytes of one class are of another
pub within_bytes : (f g : ℕ → Bool) → all_below 256 (λ b. not (f b) || g b) ≡ true → (b : ℕ) → nat_lt b 256 ≡ true → f b ≡ true → g b ≡ true
within_bytes f g e b lt h = go (f b) (g b) h (byte_below (λ b. not (f b) || g b) e b lt)
  where
    go : (x y : Bool) → x ≡ true → (not x || y) ≡ true → y ≡ true
    go true y h e = e
    go false y h e = absurd cc

-- ---- runs

abbrev pub all_pass : (ℕ → Bool) → List ℕ → Bool
all_pass f [] = true
all_pass f (b ∷ bs) = f b && all_pass f bs

-- a run goes on through what passes
pub runs_through : (f : ℕ → Bool) (ending xs ys : List ℕ) → all_pass f xs ≡ true → runs_to f ending (xs ++ ys) ≡ runs_to f ending ys
runs_through f ending [] ys h = refl
runs_through f ending (x ∷ xs) ys h =
    ap (λ b. cond b (runs_to f ending (xs ++ ys)) (same ending (x ∷ (xs ++ ys)))) (and_left (f x) (all_pass f xs) h) ∙ runs_through f ending xs ys (and_right (f x) (all_pass f xs) h)

pub all_run : (f : ℕ → Bool) (xs : List ℕ) → all_pass f xs ≡ true → runs_to f [] xs ≡ true
all_run f [] h = refl
all_run f (x ∷ xs) h = ap (λ b. cond b (runs_to f [] xs) (same [] (x ∷ xs))) (and_left (f x) (all_pass f xs) h) ∙ all_run f xs (and_right (f x) (all_pass f xs) h)

-- a colon ends a run
pub colon_stops : (f : ℕ → Bool) → f 58 ≡ false → (bs : List ℕ) → runs_to f [] (bs ++ 58 ∷ []) ≡ false
colon_stops f e [] = ap (λ b. cond b true false) e
colon_stops f e (b ∷ bs) = go (colon_stops f e bs) (f b)
  where
    go : runs_to f [] (bs ++ 58 ∷ []) ≡ false → (x : Bool) → cond x (runs_to f [] (bs ++ 58 ∷ [])) (same [] (b ∷ (bs ++ 58 ∷ []))) ≡ false
    go later true = later
    go later false = refl

pub colon_closes : (f : ℕ → Bool) → f 58 ≡ false → (bs : List ℕ) → runs_to f [] bs ≡ true → runs_to f (codes ":") (bs ++ 58 ∷ []) ≡ true
colon_closes f e [] h = ap (λ b. cond b (same (codes ":") []) true) e
colon_closes f e (b ∷ bs) h = go (λ k. colon_closes f e bs k) (f b) h
  where
    go : (runs_to f [] bs ≡ true → runs_to f (codes ":") (bs ++ 58 ∷ []) ≡ true) → (x : Bool) → cond x (runs_to f [] bs) (same [] (b ∷ bs)) ≡ true → cond x (runs_to f (codes ":") (bs ++ 58 ∷ [])) (same (codes ":") (b ∷ (bs ++ 58 ∷ []))) ≡ true
    go later true h = later h
    go later false h = absurd cc

-- ---- digits

pub digits_pass : (ds : List ℕ) → are_digits ds ≡ true → all_pass is_digit ds ≡ true
digits_pass [] h = refl
digits_pass (d ∷ ds) h = go (λ k. digits_pass ds k) (nat_le 48 d) (nat_le d 57) h
  where
    go : (are_digits ds ≡ true → all_pass is_digit ds ≡ true) → (a b : Bool) → (a && b && are_digits ds) ≡ true → ((a && b) && all_pass is_digit ds) ≡ true
    go later true true h = later h
    go later true false h = absurd cc
    go later false b h = absurd cc

pub digit_small : (d : ℕ) → is_digit d ≡ true → nat_lt d 256 ≡ true
digit_small d h = lt-ltb d 256 (let le : d ≤ 57 = leb-true d 57 (and_right (nat_le 48 d) (nat_le d 57) h) in omega (arith, le))

pub pass_within : (f g : ℕ → Bool) → ((b : ℕ) → f b ≡ true → g b ≡ true) → (bs : List ℕ) → all_pass f bs ≡ true → all_pass g bs ≡ true
pass_within f g k [] h = refl
pass_within f g k (b ∷ bs) h = both (g b) (all_pass g bs) (k b (and_left (f b) (all_pass f bs) h)) (pass_within f g k bs (and_right (f b) (all_pass f bs) h))

pub digit_in_word : (b : ℕ) → is_digit b ≡ true → is_word_byte b ≡ true
digit_in_word b h = within_bytes is_digit is_word_byte refl b (digit_small b h) h

pub digits_are_bytes : (ds : List ℕ) → are_digits ds ≡ true → are_bytes ds ≡ true
digits_are_bytes ds h = pass_within is_digit (λ b. nat_lt b 256) digit_small ds (digits_pass ds h)
