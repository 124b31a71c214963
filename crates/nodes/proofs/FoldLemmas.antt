-- Folding by what it looks at.
use Rattle.std.proofs.Common.{◌≡◌, ℕ, Bool, true, false, not, Some, None, Result, Ok, Err, refl, ap, ◌∙◌}
use Rattle.std.specs.Result.{IfOk}
use Rattle.gates.specs.Bits.{Bit, constant, input, negation, conjunction, exclusive, as_constant, choose, fold_not, fold_and, fold_xor}
use Rattle.nodes.specs.Folds.{constant_of, inside_not}

pub fold_not-constant : (a : Bit) (x : Bool) → constant_of a ≡ Some x → fold_not a ≡ constant (not x)
unfolding fold_not
fold_not-constant (constant b) x e = let same : b ≡ x = cc in ap (λ y. constant (not y)) same
fold_not-constant (input k) x e = cc
fold_not-constant (negation k) x e = cc
fold_not-constant (conjunction a b) x e = cc
fold_not-constant (exclusive a b) x e = cc

pub fold_not-inside : (a b : Bit) → inside_not a ≡ Some b → fold_not a ≡ b
unfolding fold_not
fold_not-inside (constant b) x e = cc
fold_not-inside (input k) x e = cc
fold_not-inside (negation k) x e = cc
fold_not-inside (conjunction a b) x e = cc
fold_not-inside (exclusive a b) x e = cc

pub fold_not-none : (a : Bit) → constant_of a ≡ None → inside_not a ≡ None → fold_not a ≡ negation a
unfolding fold_not
fold_not-none (constant b) e f = cc
fold_not-none (input k) e f = refl
fold_not-none (negation k) e f = cc
fold_not-none (conjunction a b) e f = refl
fold_not-none (exclusive a b) e f = refl

pub is_constant : (a : Bit) (x : Bool) → constant_of a ≡ Some x → a ≡ constant x
is_constant (constant b) x e = let same : b ≡ x = cc in ap constant same
is_constant (input k) x e = cc
is_constant (negation k) x e = cc
is_constant (conjunction a b) x e = cc
is_constant (exclusive a b) x e = cc

pub as_constant-none : (a : Bit) (on : Bool → Bit) (other : Bit) → constant_of a ≡ None → as_constant a on other ≡ other
unfolding as_constant
as_constant-none (constant b) on other e = cc
as_constant-none (input k) on other e = refl
as_constant-none (negation k) on other e = refl
as_constant-none (conjunction a b) on other e = refl
as_constant-none (exclusive a b) on other e = refl

pub fold_and-left : (a b : Bit) (x : Bool) → constant_of a ≡ Some x → fold_and a b ≡ choose x b a
unfolding fold_and as_constant
fold_and-left a b true e = rw (is_constant a true e) refl
fold_and-left a b false e = rw (is_constant a false e) refl

pub fold_and-right : (a b : Bit) (y : Bool) → constant_of a ≡ None → constant_of b ≡ Some y → fold_and a b ≡ choose y a b
unfolding fold_and as_constant
fold_and-right a b true e f = rw (is_constant b true f) (as_constant-none a _ _ e)
fold_and-right a b false e f = rw (is_constant b false f) (as_constant-none a _ _ e)

pub fold_and-none : (a b : Bit) → constant_of a ≡ None → constant_of b ≡ None → fold_and a b ≡ conjunction a b
unfolding fold_and
fold_and-none a b e f = as_constant-none a _ _ e ∙ as_constant-none b _ _ f

pub fold_xor-left : (a b : Bit) (x : Bool) → constant_of a ≡ Some x → fold_xor a b ≡ choose x (fold_not b) b
unfolding fold_xor as_constant
fold_xor-left a b x e = rw (is_constant a x e) refl

pub fold_xor-right : (a b : Bit) (y : Bool) → constant_of a ≡ None → constant_of b ≡ Some y → fold_xor a b ≡ choose y (fold_not a) a
unfolding fold_xor as_constant
fold_xor-right a b y e f = rw (is_constant b y f) (as_constant-none a _ _ e)

pub fold_xor-none : (a b : Bit) → constant_of a ≡ None → constant_of b ≡ None → fold_xor a b ≡ exclusive a b
unfolding fold_xor
fold_xor-none a b e f = as_constant-none a _ _ e ∙ as_constant-none b _ _ f

pub made_bit : {E : Type 0} (r : Result ℕ E) (f : ℕ → Bit) (x y : Bit) → IfOk r (λ k. f k ≡ x) → x ≡ y → IfOk r (λ k. f k ≡ y)
made_bit (Ok k) f x y h e = h ∙ e
made_bit (Err k) f x y h e = h

pub choose_left : (a b : Bit) (x : Bool) → constant_of a ≡ Some x → fold_and a b ≡ choose x b a
choose_left = fold_and-left
