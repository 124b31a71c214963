-- What constants and input bits have and folding keeps, the bits of a term have: they are folded, and in range.
use Rattle.std.proofs.Common.{◌≡◌, ℕ, Bool, true, false, ◌+◌, ◌*◌, ◌<◌, List, [], ◌∷◌, length, ⊎_elim, arith}
use Rattle.std.specs.List.{AllByRecursion, list_any}
use Rattle.std.proofs.lemmas.Bool.{or_cases, false≢true, eqb-true}
use Rattle.bitnum.specs.declared.BinOp.{BinOp}
use Rattle.bitnum.specs.declared.BinOp.TheVariants.{Add, Sub, Mul, Udiv, Sdiv, Urem, Srem, Shl, Lshr, Ashr, And, Or, Xor}
use Rattle.terms.specs.declared.term.Unary.{Unary}
use Rattle.terms.specs.declared.term.Unary.TheVariants.{Not, Zext, Sext, Trunc, Byte}
use Rattle.terms.specs.declared.term.Binary.{Binary}
use Rattle.terms.specs.declared.term.Binary.TheVariants.{Bin, Eq, Ult, Slt, Join}
use Rattle.terms.specs.Tree.{Tree, constant, input, one, two, choice, IsTree}
use Rattle.terms.specs.Value.{ReadsBelow}
use Rattle.gates.specs.Bits as bit
use Rattle.gates.specs.Bits.{Bit, IsFolded, fold_not, fold_and, fold_xor, as_constant, choose}
use Rattle.gates.specs.Clauses.{occurs}
use Rattle.gates.proofs.NameLemmas.{All_append}
use Rattle.rows.specs.Rows.{fold_or, division, absolute, moved_by, moved_up, moved_down, top, top_turned, too_far, fills}
use Rattle.rows.proofs.KeptLemmas.{IsKept, folded_is_kept, kept-or, kept-each, kept-added, kept-alike}
use Rattle.term_bits.specs.TermBits.{bits_of, bits_of_one, bits_of_two, bits_of_operation, input_bits}
use Rattle.term_bits.proofs.KeptRows.{kept-fills, kept-constant_bits, kept-take, kept-inverted, kept-chosen, kept-subtracted, kept-moved_up, kept-moved_down, kept-product, kept-less, kept-top, kept-top_turned, kept-moved_by, kept-too_far, kept-guarded, kept-quotient, kept-remainder, kept-negated_if, kept-absolute, kept-widened, kept-byte_at}

module _ (P : Bit → Type 0) (kept : IsKept P) where
  kept-operation : (op : BinOp) (xs ys : List Bit) → AllByRecursion P xs → AllByRecursion P ys → AllByRecursion P (bits_of_operation op xs ys)
  kept-operation Add xs ys p q = kept-added P kept (bit.constant false) xs ys (kept.constants false) p q
  kept-operation Sub xs ys p q = kept-subtracted P kept xs ys p q
  kept-operation Mul xs ys p q = kept-product P kept xs ys p q
  kept-operation Udiv xs ys p q = kept-quotient P kept xs ys p q
  kept-operation Sdiv xs ys p q =
      kept-negated_if P kept (fold_xor (top xs) (top ys)) (division (absolute xs) (absolute ys)).quotient (kept.exclusives (top xs) (top ys) (kept-top P kept xs p) (kept-top P kept ys q)) (kept-quotient P kept (absolute xs) (absolute ys) (kept-absolute P kept xs p) (kept-absolute P kept ys q))
  kept-operation Urem xs ys p q = kept-remainder P kept xs ys p q
  kept-operation Srem xs ys p q =
      kept-negated_if P kept (top xs) (division (absolute xs) (absolute ys)).remainder (kept-top P kept xs p) (kept-remainder P kept (absolute xs) (absolute ys) (kept-absolute P kept xs p) (kept-absolute P kept ys q))
  kept-operation Shl xs ys p q =
      kept-guarded P kept (too_far ys) (moved_by moved_up 1 xs ys) (kept-too_far P kept ys q) (kept-moved_by P kept moved_up (kept-moved_up P kept) 1 xs ys p q)
  kept-operation Lshr xs ys p q =
      kept-guarded P kept (too_far ys) (moved_by (moved_down (bit.constant false)) 1 xs ys) (kept-too_far P kept ys q) (kept-moved_by P kept (moved_down (bit.constant false)) (kept-moved_down P kept (bit.constant false) (kept.constants false)) 1 xs ys p q)
  kept-operation Ashr xs ys p q =
      kept-chosen P kept (too_far ys) (fills (length xs) (top xs)) (moved_by (moved_down (top xs)) 1 xs ys) (kept-too_far P kept ys q) (kept-fills P kept (length xs) (top xs) (kept-top P kept xs p)) (kept-moved_by P kept (moved_down (top xs)) (kept-moved_down P kept (top xs) (kept-top P kept xs p)) 1 xs ys p q)
  kept-operation And xs ys p q = kept-each P kept fold_and kept.conjunctions xs ys p q
  kept-operation Or xs ys p q = kept-each P kept fold_or (kept-or P kept) xs ys p q
  kept-operation Xor xs ys p q = kept-each P kept fold_xor kept.exclusives xs ys p q

  kept-one : (op : Unary) (xs : List Bit) → AllByRecursion P xs → AllByRecursion P (bits_of_one op xs)
  kept-one Not xs p = kept-inverted P kept xs p
  kept-one (Zext width) xs p = kept-widened P kept width (bit.constant false) xs (kept.constants false) p
  kept-one (Sext width) xs p = kept-widened P kept width (top xs) xs (kept-top P kept xs p) p
  kept-one (Trunc width) xs p = kept-take P kept width xs p
  kept-one (Byte j) xs p = kept-byte_at P kept j xs p

  kept-two : (op : Binary) (xs ys : List Bit) → AllByRecursion P xs → AllByRecursion P ys → AllByRecursion P (bits_of_two op xs ys)
  kept-two (Bin op) xs ys p q = kept-operation op xs ys p q
  kept-two Eq xs ys p q = (kept-alike P kept (bit.constant true) xs ys (kept.constants true) p q, tt)
  kept-two Ult xs ys p q = (kept-less P kept xs ys p q, tt)
  kept-two Slt xs ys p q =
      (kept-less P kept (top_turned xs) (top_turned ys) (kept-top_turned P kept xs p) (kept-top_turned P kept ys q), tt)
  kept-two Join xs ys p q = All_append P xs ys p q

  pub kept-bits_of : (count : ℕ) → ((k : ℕ) → k < count → AllByRecursion P (input_bits k)) → (t : Tree) → ReadsBelow count t → AllByRecursion P (bits_of t)
  unfolding bits_of
  kept-bits_of count inputs (constant n) h = kept-constant_bits P kept n.width n.bits
  kept-bits_of count inputs (input k) h = inputs k h
  kept-bits_of count inputs (one op a) h = kept-one op (bits_of a) (kept-bits_of count inputs a h)
  kept-bits_of count inputs (two op a b) h =
      kept-two op (bits_of a) (bits_of b) (kept-bits_of count inputs a h.0) (kept-bits_of count inputs b h.1)
  kept-bits_of count inputs (choice c a b) h =
      kept-chosen P kept (top (bits_of c)) (bits_of a) (bits_of b) (kept-top P kept (bits_of c) (kept-bits_of count inputs c h.0)) (kept-bits_of count inputs a h.1) (kept-bits_of count inputs b h.2)

pub reads_below : (t : Tree) → IsTree t → ReadsBelow 64 t
reads_below (constant n) h = tt
reads_below (input k) h = h
reads_below (one op a) h = reads_below a h.0
reads_below (two op a b) h = (reads_below a h.0, reads_below b h.1)
reads_below (choice c a b) h = (reads_below c h.0, reads_below a h.1, reads_below b h.2)

-- folded

pub folded_bits : (t : Tree) → IsTree t → AllByRecursion IsFolded (bits_of t)
folded_bits t h =
    kept-bits_of IsFolded folded_is_kept 64 (λ k below. (tt, (tt, (tt, (tt, (tt, (tt, (tt, (tt, tt))))))))) t (reads_below t h)

-- the input bits that an expression reads have numbers below this one
pub IsWithin : ℕ → Bit → Type 0
IsWithin n e = (k : ℕ) → occurs k e ≡ true → k < n

module _ (n : ℕ) where
  within_constant : (b : Bool) → IsWithin n (bit.constant b)
  unfolding IsWithin occurs
  within_constant b k o = absurd (false≢true o)

  within_and : (a b : Bit) → IsWithin n a → IsWithin n b → IsWithin n (bit.conjunction a b)
  unfolding IsWithin occurs
  within_and a b p q k o = ⊎_elim (p k) (q k) (or_cases (occurs k a) (occurs k b) o)

  within_xor : (a b : Bit) → IsWithin n a → IsWithin n b → IsWithin n (bit.exclusive a b)
  unfolding IsWithin occurs
  within_xor a b p q k o = ⊎_elim (p k) (q k) (or_cases (occurs k a) (occurs k b) o)

  within_not : (e : Bit) → IsWithin n e → IsWithin n (fold_not e)
  unfolding IsWithin occurs fold_not
  within_not (bit.constant b) h = h
  within_not (bit.input j) h = h
  within_not (bit.negation e) h = h
  within_not (bit.conjunction a b) h = h
  within_not (bit.exclusive a b) h = h

  -- what is made of an operand that may be a constant
  within_case : (e : Bit) (on : Bool → Bit) (other : Bit) → ((b : Bool) → IsWithin n (on b)) → IsWithin n other → IsWithin n (as_constant e on other)
  unfolding as_constant
  within_case (bit.constant b) on other h k = h b
  within_case (bit.input j) on other h k = k
  within_case (bit.negation e) on other h k = k
  within_case (bit.conjunction a b) on other h k = k
  within_case (bit.exclusive a b) on other h k = k

  within_choice : (b : Bool) (x y : Bit) → IsWithin n x → IsWithin n y → IsWithin n (choose b x y)
  within_choice true x y h k = h
  within_choice false x y h k = k

  within_fold_and : (a b : Bit) → IsWithin n a → IsWithin n b → IsWithin n (fold_and a b)
  unfolding fold_and
  within_fold_and a b p q =
      within_case a _ _ (λ x. within_choice x b (bit.constant false) q (within_constant false)) (within_case b _ _ (λ y. within_choice y a (bit.constant false) p (within_constant false)) (within_and a b p q))

  within_fold_xor : (a b : Bit) → IsWithin n a → IsWithin n b → IsWithin n (fold_xor a b)
  unfolding fold_xor
  within_fold_xor a b p q =
      within_case a _ _ (λ x. within_choice x (fold_not b) b (within_not b q) q) (within_case b _ _ (λ y. within_choice y (fold_not a) a (within_not a p) p) (within_xor a b p q))

  within_is_kept : IsKept (IsWithin n)
  within_is_kept = record {
    constants = within_constant;
    negations = within_not;
    conjunctions = within_fold_and;
    exclusives = within_fold_xor;
  }

  within_input : (j : ℕ) → j < n → IsWithin n (bit.input j)
  unfolding IsWithin occurs
  within_input j below k o = let same : k ≡ j = eqb-true k j o in omega arith

  pub any_within : (k : ℕ) (es : List Bit) → AllByRecursion (IsWithin n) es → list_any (occurs k) es ≡ true → k < n
  unfolding IsWithin
  any_within k [] h o = absurd (false≢true o)
  any_within k (e ∷ es) h o =
      ⊎_elim (λ a. h.0 k a) (λ b. any_within k es h.1 b) (or_cases (occurs k e) (list_any (occurs k) es) o)

pub bits_within : (t : Tree) (count : ℕ) → ReadsBelow count t → AllByRecursion (IsWithin (8 * count)) (bits_of t)
bits_within t count h = kept-bits_of (IsWithin (8 * count)) (within_is_kept (8 * count)) count inputs t h
  where
    within : (m j : ℕ) → j < m → IsWithin m (bit.input j)
    within m j below = within_input m j below

    inputs : (k : ℕ) → k < count → AllByRecursion (IsWithin (8 * count)) (input_bits k)
    inputs k below =
        (within (8 * count) (8 * k + 7) (omega arith), (within (8 * count) (8 * k + 6) (omega arith), (within (8 * count) (8 * k + 5) (omega arith), (within (8 * count) (8 * k + 4) (omega arith), (within (8 * count) (8 * k + 3) (omega arith), (within (8 * count) (8 * k + 2) (omega arith), (within (8 * count) (8 * k + 1) (omega arith), (within (8 * count) (8 * k) (omega arith), tt))))))))
