-- Undoing escapes, byte by byte.
use Rattle.std.proofs.Common.{◌≡◌, ◌⊎◌, ℕ, Bool, true, false, ◌&&◌, ◌==◌, ◌+◌, ◌*◌, List, [], ◌∷◌, ◌++◌, refl, sym, ap, ◌∙◌, inl, inr}
use Rattle.ir_grammar.specs.Names.{is_hex, hex_value, unescaped, without_last}

either_way : (x : Bool) → (x ≡ true) ⊎ (x ≡ false)
either_way true = inl refl
either_way false = inr refl

-- a byte that is no backslash
pub at_plain : (b : ℕ) (more : List ℕ) → (b == 92) ≡ false → unescaped (b ∷ more) ≡ b ∷ unescaped more
at_plain b [] plain = refl
at_plain b (c ∷ []) plain = rw plain refl
at_plain b (c ∷ d ∷ rest) plain = rw plain refl

-- two backslashes
pub at_two : (c : ℕ) (rest : List ℕ) → (c == 92) ≡ true → unescaped (92 ∷ c ∷ rest) ≡ 92 ∷ unescaped rest
at_two c [] two = rw two refl
at_two c (d ∷ rest) two = rw two refl

-- a backslash and two digits
pub at_hex : (c d : ℕ) (rest : List ℕ) → (c == 92) ≡ false → is_hex c ≡ true → is_hex d ≡ true → unescaped (92 ∷ c ∷ d ∷ rest) ≡ (16 * hex_value c + hex_value d) ∷ unescaped rest
at_hex c d rest one first second = rw (one, first, second) refl

-- a backslash alone
pub at_last : unescaped (92 ∷ []) ≡ 92 ∷ unescaped []
at_last = refl

pub at_one : (c : ℕ) → (c == 92) ≡ false → unescaped (92 ∷ c ∷ []) ≡ 92 ∷ unescaped (c ∷ [])
at_one c one = rw one refl

pub at_other : (c d : ℕ) (rest : List ℕ) → (c == 92) ≡ false → (is_hex c && is_hex d) ≡ false → unescaped (92 ∷ c ∷ d ∷ rest) ≡ 92 ∷ unescaped (c ∷ d ∷ rest)
at_other c d rest one other = rw (one, other) refl

pub ruleset escapes = (at_plain, at_two, at_hex, at_one, at_other)

-- all but the last
front_of_push : (front : List ℕ) (x : ℕ) → without_last (front ++ x ∷ []) ≡ front
front_of_push [] x = refl
front_of_push (a ∷ []) x = refl
front_of_push (a ∷ b ∷ rest) x = ap (λ ys. a ∷ ys) (front_of_push (b ∷ rest) x)

pub front_of : (text front : List ℕ) (x : ℕ) → text ≡ front ++ x ∷ [] → front ≡ without_last text
front_of text front x e = sym (front_of_push front x) ∙ ap without_last (sym e)
