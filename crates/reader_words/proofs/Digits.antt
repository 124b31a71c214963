-- Digits only make a number larger.
use Rattle.std.proofs.Common.{◌≡◌, ℕ, suc, ◌+◌, ◌*◌, ◌-◌, ◌≤◌, ◌<◌, Bool, true, false, cond, ltb, List, [], ◌∷◌, drop, length, get_or, Some, None, refl, sym, ap, ◌∙◌, arith}
use Rattle.std.proofs.lemmas.Bool.{ltb-false, le-ltb, lt-ltb}
use Rattle.std.proofs.Math.Seq.{drop-cons}
use Rattle.std.proofs.Math.ListN.{drop_of_length-le}
use Rattle.ir_grammar.specs.Numbers.{digits_value}

pub digits_value-grows : (n : ℕ) (ds : List ℕ) → n ≤ digits_value n ds
digits_value-grows n [] = omega arith
digits_value-grows n (d ∷ ds) = omega (arith, digits_value-grows (10 * n + (d - 48)) ds)

pub all_read : (n k : ℕ) (ds : List ℕ) (i limit : ℕ) → n < limit → length ds ≤ i → digits_value n (drop i ds) ≡ k → Some n ≡ cond (ltb k limit) (Some k) None
all_read n k ds i limit lt le e =
    let same : n ≡ k = ap (digits_value n) (sym (drop_of_length-le ds le)) ∙ e in
    let below : ltb k limit ≡ true = lt-ltb k limit (omega arith) in
    rw below (ap Some same)

refused_digit : (m limit : ℕ) → None ≡ cond (ltb m limit) (Some m) None → limit ≤ m
refused_digit m limit e = go (ltb m limit) refl e
  where
    go : (b : Bool) → ltb m limit ≡ b → None ≡ cond b (Some m) None → limit ≤ m
    go true q e = absurd cc
    go false q e = ltb-false m limit q

pub too_large : (n k : ℕ) (ds : List ℕ) (i limit : ℕ) → i < length ds → None ≡ cond (ltb (10 * n + (get_or ds i 0 - 48)) limit) (Some (10 * n + (get_or ds i 0 - 48))) None → digits_value n (drop i ds) ≡ k
    → None ≡ cond (ltb k limit) (Some k) None
too_large n k ds i limit lt none e =
    let m = 10 * n + (get_or ds i 0 - 48) in
    let split : digits_value n (drop i ds) ≡ digits_value m (drop (suc i) ds) = ap (digits_value n) (drop-cons ds i 0 lt) in
    let large : limit ≤ m = refused_digit m limit none in
    let larger : m ≤ digits_value m (drop (suc i) ds) = digits_value-grows m (drop (suc i) ds) in
    let over : ltb k limit ≡ false = le-ltb k limit (omega (arith, larger, large, split, e)) in
    rw over refl
