-- Each operation on bits is the operation on the numbers that they are.
use Rattle.std.proofs.Common.{◌≡◌, ℕ, Bool, false, ◌+◌, ◌-◌, ◌%◌, ◌^◌, ◌<◌, List, length, refl, sym, ap, ◌∙◌, arith}
use Rattle.bitnum.specs.Bits.{bits_of, quotient, remainder, magnitude}
use Rattle.bitnum.specs.declared.BinOp.{BinOp}
use Rattle.bitnum.specs.declared.BinOp.TheVariants.{Add, Sub, Mul, Udiv, Sdiv, Urem, Srem, Shl, Lshr, Ashr, And, Or, Xor}
use Rattle.gates.specs.Bits as bit
use Rattle.gates.specs.Bits.{Bit, value, fold_and, fold_xor}
use Rattle.rows.specs.Numbers.{read}
use Rattle.rows.specs.Rows.{fold_or, fold_mux, too_far, moved_by, moved_up, moved_down, fills, top, absolute, division}
use Rattle.rows.proofs.BitValues.{length-each}
use Rattle.rows.proofs.SumLemmas.{read-added, length-added, length-fills}
use Rattle.rows.proofs.MoveLemmas.{length-guarded, length-moved_up, length-moved_down}
use Rattle.rows.proofs.ProductLemmas.{read-product, length-multiplied}
use Rattle.rows.proofs.ShiftLemmas.{read-shifted_up, read-shifted_down, read-sign_shifted_down, length-moved}
use Rattle.rows.proofs.DivisionLemmas.{read-subtracted, length-subtracted, read-quotient, read-remainder, length-quotient, length-remainder, length-negated_if}
use Rattle.rows.proofs.LogicLemmas.{read-and, read-or, read-xor}
use Rattle.rows.proofs.SignLemmas.{value-top, read-absolute, read-signed_quotient, read-signed_remainder}
use Rattle.term_bits.specs.TermBits.{bits_of_operation}

module _ (i : ℕ → Bool) where
  -- the magnitude, as the numbers' side has it
  read-magnitude : (xs : List Bit) → 0 < length xs → read i (absolute xs) ≡ magnitude (length xs) (read i xs)
  read-magnitude xs h = read-absolute i xs h

  signed_operands : (xs ys : List Bit) → length xs ≡ length ys → 0 < length xs → (read i (division (absolute xs) (absolute ys)).quotient ≡ quotient (length xs) (magnitude (length xs) (read i xs)) (magnitude (length xs) (read i ys))) × (read i (division (absolute xs) (absolute ys)).remainder ≡ remainder (magnitude (length xs) (read i xs)) (magnitude (length xs) (read i ys)))
  signed_operands xs ys h k =
      let left : length (absolute xs) ≡ length xs = length-negated_if i (top xs) xs in
      let right : length (absolute ys) ≡ length ys = length-negated_if i (top ys) ys in
      let magnitude_y : read i (absolute ys) ≡ magnitude (length xs) (read i ys) = read-magnitude ys (omega arith) ∙ ap (λ n. magnitude n (read i ys)) (sym h) in (
        read-quotient i (absolute xs) (absolute ys) ∙ rw (left, read-magnitude xs k, magnitude_y) refl,
        read-remainder i (absolute xs) (absolute ys) (left ∙ h ∙ sym right) ∙ rw (read-magnitude xs k, magnitude_y) refl,
      )

  pub read-operation : (op : BinOp) (xs ys : List Bit) → length xs ≡ length ys → 0 < length xs → read i (bits_of_operation op xs ys) ≡ bits_of op (length xs) (read i xs) (read i ys)
  read-operation Add xs ys h k = read-added i (bit.constant false) xs ys h ∙ ap (λ n. n % 2 ^ length xs) (unfold value in omega arith)
  read-operation Sub xs ys h k = read-subtracted i xs ys h ∙ ap (λ n. (read i xs + (n - read i ys) % n) % n) refl
  read-operation Mul xs ys h k = read-product i xs ys
  read-operation Udiv xs ys h k = read-quotient i xs ys
  read-operation Sdiv xs ys h k =
      read-signed_quotient i xs ys h k ∙ rw ((signed_operands xs ys h k).0) refl
  read-operation Urem xs ys h k = read-remainder i xs ys h
  read-operation Srem xs ys h k = read-signed_remainder i xs ys h k ∙ rw ((signed_operands xs ys h k).1) refl
  read-operation Shl xs ys h k = read-shifted_up i xs ys h
  read-operation Lshr xs ys h k = read-shifted_down i xs ys h
  read-operation Ashr xs ys h k = read-sign_shifted_down i xs ys h ∙ rw (value-top i xs k) refl
  read-operation And xs ys h k = read-and i xs ys h
  read-operation Or xs ys h k = read-or i xs ys h
  read-operation Xor xs ys h k = read-xor i xs ys h

-- the number of places doesn't hang on the input: any will do
pub length-operation : (op : BinOp) (xs ys : List Bit) → length xs ≡ length ys → length (bits_of_operation op xs ys) ≡ length xs
length-operation Add xs ys h = length-added (bit.constant false) xs ys h
length-operation Sub xs ys h = length-subtracted (λ k. false) xs ys h
length-operation Mul xs ys h = length-multiplied (λ k. false) _ xs ys (length-fills (λ k. false) (length xs) (bit.constant false))
length-operation Udiv xs ys h = length-quotient (λ k. false) xs ys
length-operation Sdiv xs ys h =
    length-negated_if (λ k. false) _ _ ∙ length-quotient (λ k. false) (absolute xs) (absolute ys) ∙ length-negated_if (λ k. false) (top xs) xs
length-operation Urem xs ys h = length-remainder (λ k. false) xs ys ∙ sym h
length-operation Srem xs ys h =
    length-negated_if (λ k. false) _ _ ∙ length-remainder (λ k. false) (absolute xs) (absolute ys) ∙ length-negated_if (λ k. false) (top ys) ys ∙ sym h
length-operation Shl xs ys h =
    length-guarded (λ k. false) (too_far ys) (moved_by moved_up 1 xs ys) ∙ length-moved (length xs) moved_up 1 xs ys refl (λ by zs below e. length-moved_up (λ k. false) by zs ∙ e)
length-operation Lshr xs ys h =
    length-guarded (λ k. false) (too_far ys) (moved_by (moved_down (bit.constant false)) 1 xs ys) ∙ length-moved (length xs) (moved_down (bit.constant false)) 1 xs ys refl (λ by zs below e. length-moved_down (λ k. false) (bit.constant false) by zs (omega arith) ∙ e)
length-operation Ashr xs ys h =
    length-each (fold_mux (too_far ys)) (fills (length xs) (top xs)) (moved_by (moved_down (top xs)) 1 xs ys) (length-fills (λ k. false) (length xs) (top xs) ∙ sym (length-moved (length xs) (moved_down (top xs)) 1 xs ys refl (λ by zs below e. length-moved_down (λ k. false) (top xs) by zs (omega arith) ∙ e))) ∙ length-fills (λ k. false) (length xs) (top xs)
length-operation And xs ys h = length-each fold_and xs ys h
length-operation Or xs ys h = length-each fold_or xs ys h
length-operation Xor xs ys h = length-each fold_xor xs ys h
