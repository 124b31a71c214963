-- What constants have and folding keeps, the bits of each operation on bits that have it have too.
use Rattle.std.proofs.Common.{true, false, List, length}
use Rattle.std.specs.List.{AllByRecursion}
use Rattle.bitnum.specs.declared.BinOp.{BinOp}
use Rattle.bitnum.specs.declared.BinOp.TheVariants.{Add, Sub, Mul, Udiv, Sdiv, Urem, Srem, Shl, Lshr, Ashr, And, Or, Xor}
use Rattle.terms.specs.declared.term.Unary.{Unary}
use Rattle.terms.specs.declared.term.Unary.TheVariants.{Not, Zext, Sext, Trunc, Byte}
use Rattle.terms.specs.declared.term.Binary.{Binary}
use Rattle.terms.specs.declared.term.Binary.TheVariants.{Bin, Eq, Ult, Slt, Join}
use Rattle.gates.specs.Bits as bit
use Rattle.gates.specs.Bits.{Bit, IsFolded, fold_not, fold_and, fold_xor, as_constant, choose}
use Rattle.rows.specs.Rows.{fold_or, division, absolute, moved_by, moved_up, moved_down, top, top_turned, too_far, fills}
use Rattle.gates.proofs.NameLemmas.{All_append}
use Rattle.rows.proofs.KeptLemmas.{IsKept, kept-or, kept-each, kept-added, kept-alike}
use Rattle.term_bits.specs.TermBits.{bits_of_one, bits_of_two, bits_of_operation}
use Rattle.term_bits.proofs.KeptRows.{kept-fills, kept-take, kept-inverted, kept-chosen, kept-subtracted, kept-moved_up, kept-moved_down, kept-product, kept-less, kept-top, kept-top_turned, kept-moved_by, kept-too_far, kept-guarded, kept-quotient, kept-remainder, kept-negated_if, kept-absolute, kept-widened, kept-byte_at}

module _ (P : Bit → Type 0) (kept : IsKept P) where
  kept-operation : (op : BinOp) (xs ys : List Bit) → AllByRecursion P xs → AllByRecursion P ys → AllByRecursion P (bits_of_operation op xs ys)
  kept-operation Add xs ys p q = kept-added P kept (bit.constant false) xs ys (kept.constants false) p q
  kept-operation Sub xs ys p q = kept-subtracted P kept xs ys p q
  kept-operation Mul xs ys p q = kept-product P kept xs ys p q
  kept-operation Udiv xs ys p q = kept-quotient P kept xs ys p q
  kept-operation Sdiv xs ys p q =
      kept-negated_if P kept (fold_xor (top xs) (top ys)) (division (absolute xs) (absolute ys)).quotient (kept.exclusives (top xs) (top ys) (kept-top P kept xs p) (kept-top P kept ys q)) (kept-quotient P kept (absolute xs) (absolute ys) (kept-absolute P kept xs p) (kept-absolute P kept ys q))
  kept-operation Urem xs ys p q = kept-remainder P kept xs ys p q
  kept-operation Srem xs ys p q =
      kept-negated_if P kept (top xs) (division (absolute xs) (absolute ys)).remainder (kept-top P kept xs p) (kept-remainder P kept (absolute xs) (absolute ys) (kept-absolute P kept xs p) (kept-absolute P kept ys q))
  kept-operation Shl xs ys p q =
      kept-guarded P kept (too_far ys) (moved_by moved_up 1 xs ys) (kept-too_far P kept ys q) (kept-moved_by P kept moved_up (kept-moved_up P kept) 1 xs ys p q)
  kept-operation Lshr xs ys p q =
      kept-guarded P kept (too_far ys) (moved_by (moved_down (bit.constant false)) 1 xs ys) (kept-too_far P kept ys q) (kept-moved_by P kept (moved_down (bit.constant false)) (kept-moved_down P kept (bit.constant false) (kept.constants false)) 1 xs ys p q)
  kept-operation Ashr xs ys p q =
      kept-chosen P kept (too_far ys) (fills (length xs) (top xs)) (moved_by (moved_down (top xs)) 1 xs ys) (kept-too_far P kept ys q) (kept-fills P kept (length xs) (top xs) (kept-top P kept xs p)) (kept-moved_by P kept (moved_down (top xs)) (kept-moved_down P kept (top xs) (kept-top P kept xs p)) 1 xs ys p q)
  kept-operation And xs ys p q = kept-each P kept fold_and kept.conjunctions xs ys p q
  kept-operation Or xs ys p q = kept-each P kept fold_or (kept-or P kept) xs ys p q
  kept-operation Xor xs ys p q = kept-each P kept fold_xor kept.exclusives xs ys p q

  pub kept-one : (op : Unary) (xs : List Bit) → AllByRecursion P xs → AllByRecursion P (bits_of_one op xs)
  kept-one Not xs p = kept-inverted P kept xs p
  kept-one (Zext width) xs p = kept-widened P kept width (bit.constant false) xs (kept.constants false) p
  kept-one (Sext width) xs p = kept-widened P kept width (top xs) xs (kept-top P kept xs p) p
  kept-one (Trunc width) xs p = kept-take P kept width xs p
  kept-one (Byte j) xs p = kept-byte_at P kept j xs p

  pub kept-two : (op : Binary) (xs ys : List Bit) → AllByRecursion P xs → AllByRecursion P ys → AllByRecursion P (bits_of_two op xs ys)
  kept-two (Bin op) xs ys p q = kept-operation op xs ys p q
  kept-two Eq xs ys p q = (kept-alike P kept (bit.constant true) xs ys (kept.constants true) p q, tt)
  kept-two Ult xs ys p q = (kept-less P kept xs ys p q, tt)
  kept-two Slt xs ys p q =
      (kept-less P kept (top_turned xs) (top_turned ys) (kept-top_turned P kept xs p) (kept-top_turned P kept ys q), tt)
  kept-two Join xs ys p q = All_append P xs ys p q
