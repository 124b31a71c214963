-- Tokens as a grammar sees them, and the classes of tokens that a grammar names.
use Rattle.std.specs.Prelude.{ℕ, Bool, true, false, not, ◌||◌, ◌&&◌, ◌==◌, List, [], ◌∷◌}

-- A token: the number of its kind (which number a kind has is the grammar's to say), its text, and the place in the source where it begins.
-- No class of tokens looks at the place.
pub record Piece : Type 0 where
  pub kind : ℕ
  pub text : List ℕ
  pub at : ℕ

abbrev pub same_text : List ℕ → List ℕ → Bool
same_text [] [] = true
same_text [] (y ∷ ys) = false
same_text (x ∷ xs) [] = false
same_text (x ∷ xs) (y ∷ ys) = x == y && same_text xs ys

-- which texts of a kind a class has: one, those that pass a test, or all
pub data Texts : Type 0 where
  the : List ℕ → Texts
  such : (List ℕ → Bool) → Texts
  every : Texts

pub record Class : Type 0 where
  pub kind : ℕ
  pub texts : Texts

abbrev pub has_text : Texts → List ℕ → Bool
has_text (the s) t = same_text t s
has_text (such f) t = f t
has_text every t = true

abbrev pub matches : Class → Piece → Bool
matches c p = p.kind == c.kind && has_text c.texts p.text

-- one of the classes has the token
abbrev pub among : List Class → Piece → Bool
among [] p = false
among (c ∷ cs) p = matches c p || among cs p

-- a token of the classes comes next
abbrev pub starts : List Class → List Piece → Bool
starts cs [] = false
starts cs (p ∷ ps) = among cs p

-- all tokens of a kind
abbrev pub any : ℕ → Class
any k = record { kind = k; texts = every }

-- ---- no token is in both: computed from the classes, and never told of two tests

abbrev pub texts_apart : Texts → Texts → Bool
texts_apart (the s) d = not (has_text d s)
texts_apart (such f) (the t) = not (f t)
texts_apart c d = false

abbrev pub apart : Class → Class → Bool
apart c d = not (c.kind == d.kind) || texts_apart c.texts d.texts

abbrev pub apart_from : Class → List Class → Bool
apart_from c [] = true
apart_from c (d ∷ ds) = apart c d && apart_from c ds

abbrev pub all_apart : List Class → List Class → Bool
all_apart [] ds = true
all_apart (c ∷ cs) ds = apart_from c ds && all_apart cs ds
