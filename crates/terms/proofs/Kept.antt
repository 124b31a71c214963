-- A folded term is a tree, and reads no byte that its operands don't.
use Rattle.std.proofs.Common.{ℕ, Bool, true, false, None, inl, inr, ◌==◌, subst}
use Rattle.std.specs.Prelude.{cond}
use Rattle.terms.specs.declared.term.Unary.{Unary}
use Rattle.terms.specs.declared.term.Unary.TheVariants.{Not, Byte}
use Rattle.terms.specs.declared.term.Binary.{Binary}
use Rattle.terms.specs.declared.term.Binary.TheVariants.{Eq}
use Rattle.terms.specs.Tree.{Tree, constant, one, two, choice, width_of, IsTree}
use Rattle.terms.specs.Value.{is_yes, ReadsBelow}
use Rattle.terms.specs.Same.{same}
use Rattle.terms.specs.Folding.{inside_not, turned, fold_one, folded_one, is_neutral, absorbs, fold_alike, folded_two, folded_choice}
use Rattle.terms.proofs.Numbers.{truth_is, one_is, two_is}
use Rattle.terms.proofs.Folds.{constant_or}

-- what both have, the chosen one has
pub cond_has : (P : Tree → Type 0) (test : Bool) (x y : Tree) → P x → P y → P (cond test x y)
cond_has P true x y p q = p
cond_has P false x y p q = q

-- ---- a tree

tree-fold_with : (op : Binary) (n t plain : Tree) (m : Bool) (k : Bool) → IsTree n → IsTree t → IsTree plain → IsTree (cond m t (cond k n plain))
tree-fold_with op n t plain m k p q r = cond_has IsTree m t (cond k n plain) q (cond_has IsTree k n plain p r)

tree-fold_alike : (op : Binary) (a b : Tree) → IsTree (two op a b) → IsTree (fold_alike op a b)
tree-fold_alike Eq a b h = cond_has IsTree (same a b) _ _ (truth_is true) h
tree-fold_alike op a b h = h

-- the folded term of an operation that fits is a tree
pub tree-folded_two : (op : Binary) (a b : Tree) → IsTree (two op a b) → IsTree (folded_two op a b)
unfolding folded_two
tree-folded_two op a b h =
    elim (constant_or a) [
      | inl x ↦ elim (constant_or b) [
        | inl y ↦ let both : IsTree (two op (constant x.0) (constant y.0)) = subst (λ t. IsTree (two op t (constant y.0))) x.1 (subst (λ t. IsTree (two op a t)) y.1 h) in
            rw (x.1, y.1) (two_is op x.0 y.0 both.0 both.1 both.2)
        | inr q ↦ let left : IsTree (two op (constant x.0) b) = subst (λ t. IsTree (two op t b)) x.1 h in
            rw (x.1, q) (tree-fold_with op (constant x.0) b (two op (constant x.0) b) (is_neutral op x.0) (absorbs op x.0) left.0 left.1 left)
      ]
      | inr p ↦ elim (constant_or b) [
        | inl y ↦ let right : IsTree (two op a (constant y.0)) = subst (λ t. IsTree (two op a t)) y.1 h in
            rw (p, y.1) (tree-fold_with op (constant y.0) a (two op a (constant y.0)) (is_neutral op y.0) (absorbs op y.0) right.1 right.0 right)
        | inr q ↦ rw (p, q) (tree-fold_alike op a b h)
      ]
    ]

tree-turned : (a : Tree) → IsTree (one Not a) → IsTree (turned (inside_not a) a)
tree-turned (one Not t) h = h.0.0
tree-turned a h = h

tree-fold_one : (op : Unary) (a : Tree) → IsTree (one op a) → IsTree (fold_one op None a)
tree-fold_one Not a h = tree-turned a h
tree-fold_one (Byte j) a h = cond_has IsTree (width_of a == 8) _ _ h.0 h
tree-fold_one op a h = h

-- so the negation of a term of one bit is a tree
pub tree-folded_one : (op : Unary) (a : Tree) → IsTree (one op a) → IsTree (folded_one op a)
unfolding folded_one
tree-folded_one op a h =
    elim (constant_or a) [
      | inl x ↦ let number : IsTree (one op (constant x.0)) = subst (λ t. IsTree (one op t)) x.1 h in
          rw x.1 (one_is op x.0 number.0 number.1)
      | inr p ↦ rw p (tree-fold_one op a h)
    ]

pub tree-folded_choice : (c a b : Tree) → IsTree (choice c a b) → IsTree (folded_choice c a b)
unfolding folded_choice
tree-folded_choice c a b h =
    elim (constant_or c) [
      | inl x ↦ rw x.1 (cond_has IsTree (is_yes x.0) a b h.1 h.2)
      | inr p ↦ rw p (cond_has IsTree (same a b) a (choice c a b) h.1 h)
    ]

-- ---- the bytes that it reads

reads-fold_with : (count : ℕ) (n t plain : Tree) (m : Bool) (k : Bool) → ReadsBelow count n → ReadsBelow count t → ReadsBelow count plain → ReadsBelow count (cond m t (cond k n plain))
reads-fold_with count n t plain m k p q r = cond_has (ReadsBelow count) m t (cond k n plain) q (cond_has (ReadsBelow count) k n plain p r)

reads-fold_alike : (count : ℕ) (op : Binary) (a b : Tree) → ReadsBelow count a → ReadsBelow count b → ReadsBelow count (fold_alike op a b)
reads-fold_alike count Eq a b p q = cond_has (ReadsBelow count) (same a b) _ _ tt (p, q)
reads-fold_alike count op a b p q = (p, q)

-- it reads no byte that its operands don't
pub reads-folded_two : (count : ℕ) (op : Binary) (a b : Tree) → ReadsBelow count a → ReadsBelow count b → ReadsBelow count (folded_two op a b)
unfolding folded_two
reads-folded_two count op a b p q =
    elim (constant_or a) [
      | inl x ↦ elim (constant_or b) [
        | inl y ↦ rw (x.1, y.1) tt
        | inr n ↦ rw (x.1, n) (reads-fold_with count (constant x.0) b _ (is_neutral op x.0) (absorbs op x.0) tt q (tt, q))
      ]
      | inr m ↦ elim (constant_or b) [
        | inl y ↦ rw (m, y.1) (reads-fold_with count (constant y.0) a _ (is_neutral op y.0) (absorbs op y.0) tt p (p, tt))
        | inr n ↦ rw (m, n) (reads-fold_alike count op a b p q)
      ]
    ]

reads-turned : (count : ℕ) (a : Tree) → ReadsBelow count a → ReadsBelow count (turned (inside_not a) a)
reads-turned count (one Not t) h = h
reads-turned count a h = h

reads-fold_one : (count : ℕ) (op : Unary) (a : Tree) → ReadsBelow count a → ReadsBelow count (fold_one op None a)
reads-fold_one count Not a h = reads-turned count a h
reads-fold_one count (Byte j) a h = cond_has (ReadsBelow count) (width_of a == 8) _ _ h h
reads-fold_one count op a h = h

pub reads-folded_one : (count : ℕ) (op : Unary) (a : Tree) → ReadsBelow count a → ReadsBelow count (folded_one op a)
unfolding folded_one
reads-folded_one count op a h =
    elim (constant_or a) [
      | inl x ↦ rw x.1 tt
      | inr p ↦ rw p (reads-fold_one count op a h)
    ]

pub reads-folded_choice : (count : ℕ) (c a b : Tree) → ReadsBelow count c → ReadsBelow count a → ReadsBelow count b → ReadsBelow count (folded_choice c a b)
unfolding folded_choice
reads-folded_choice count c a b o p q =
    elim (constant_or c) [
      | inl x ↦ rw x.1 (cond_has (ReadsBelow count) (is_yes x.0) a b p q)
      | inr n ↦ rw n (cond_has (ReadsBelow count) (same a b) a (choice c a b) p (o, p, q))
    ]
