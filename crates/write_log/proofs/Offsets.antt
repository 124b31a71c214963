-- Offsets that are constant, and what covers them.
use Rattle.std.proofs.Common.{◌≡◌, ℕ, zero, suc, Bool, true, false, List, [], ◌∷◌, ◌++◌, Option, Some, None, ◌+◌, ◌%◌, ◌^◌, ◌==◌, refl, sym, ap, ◌∙◌, drop, arith}
use Rattle.std.specs.Prelude.{cond}
use Rattle.std.proofs.lemmas.Bool.{ne_eqb}
use Rattle.bitnum.specs.Number.{Number}
use Rattle.bitnum.specs.declared.BinOp.TheVariants as op
use Rattle.terms.specs.declared.term.Binary.TheVariants.{Bin}
use Rattle.terms.specs.Tree.{Tree, constant, input, one, two, choice, width_of}
use Rattle.terms.specs.Folding.{constant_of, folded_two}
use Rattle.flat_ir.specs.declared.names.ObjectName.{ObjectName}
use Rattle.flat_ir.specs.Registers.{first_of}
use Rattle.sym_bytes.specs.Building.{wide, behind}
use Rattle.sym_bytes.specs.Entry.{Entry}
use Rattle.sym_bytes.specs.Joining.{put_before}
use Rattle.sym_bytes.proofs.Lists.{one_more}
use Rattle.log_laws.specs.Logs.{Fill}
use Rattle.log_laws.specs.Needs.{bits_in, constants_of, offsets_from, left_behind, left_behind_all, recovered_at}
use Rattle.write_log.specs.Walks.{none_unless_zero}

behind_constant : (n : Number) (j : ℕ) → n.width ≡ 64 → bits_in (constant_of (behind (constant n) j)) ≡ Some ((n.bits + j) % 2 ^ 64)
unfolding folded_two
behind_constant n j w = ap (λ v. Some ((n.bits + j) % 2 ^ v)) w

constants_from : (n : Number) (count j : ℕ) → n.width ≡ 64 → constants_of (first_of count j (behind (constant n))) ≡ Some (first_of count j (λ k. (n.bits + k) % 2 ^ 64))
constants_from n zero j w = refl
constants_from n (suc count) j w =
    ap (λ o. put_before o (constants_of (first_of count (j + 1) (behind (constant n))))) (behind_constant n j w)
    ∙ ap (put_before (Some ((n.bits + j) % 2 ^ 64))) (constants_from n count (j + 1) w)

pub constant_offsets : (t : Tree) (n : Number) (count : ℕ) → constant_of t ≡ Some n → width_of t ≡ 64
    → constants_of (offsets_from t count) ≡ Some (first_of count 0 (λ k. (n.bits + k) % 2 ^ 64))
constant_offsets (constant m) n count is w =
    constants_from m count 0 w ∙ ap (λ o. Some (first_of count 0 (λ k. ((elim o [ Some x ↦ x.bits | None ↦ 0 ]) + k) % 2 ^ 64))) is
constant_offsets (input k) n count is w = cc
constant_offsets (one o a) n count is w = cc
constant_offsets (two o a b) n count is w = cc
constant_offsets (choice c a b) n count is w = cc

open_kept : (b : Bool) (t u : Tree) → constant_of t ≡ None → constant_of u ≡ None → constant_of (cond b t u) ≡ None
open_kept true t u e f = e
open_kept false t u e f = f

behind_open : (t : Tree) (j : ℕ) → constant_of t ≡ None → constant_of (behind t j) ≡ None
unfolding folded_two
behind_open (constant m) j is = cc
behind_open (input k) j is = open_kept (j == 0) (input k) (two (Bin op.Add) (input k) (wide j)) refl refl
behind_open (one o a) j is = open_kept (j == 0) (one o a) (two (Bin op.Add) (one o a) (wide j)) refl refl
behind_open (two o a b) j is = open_kept (j == 0) (two o a b) (two (Bin op.Add) (two o a b) (wide j)) refl refl
behind_open (choice c a b) j is = open_kept (j == 0) (choice c a b) (two (Bin op.Add) (choice c a b) (wide j)) refl refl

none_before : (o : Option (List ℕ)) → put_before None o ≡ None
none_before None = refl
none_before (Some ks) = refl

pub open_offsets : (t : Tree) (count : ℕ) → constant_of t ≡ None → constants_of (offsets_from t count) ≡ none_unless_zero count
open_offsets t zero is = refl
open_offsets t (suc count) is =
    ap (λ o. put_before (bits_in o) (constants_of (first_of count (0 + 1) (behind t)))) (behind_open t 0 is)
    ∙ none_before (constants_of (first_of count (0 + 1) (behind t)))
    ∙ sym (ap (λ b. cond b (Some []) None) (ne_eqb (suc count) 0 (λ e. omega (arith, e))))

behind_append : (x : ObjectName) (es fs : List Entry) (ks : List ℕ) → left_behind_all x (es ++ fs) ks ≡ left_behind_all x fs (left_behind_all x es ks)
behind_append x [] fs ks = refl
behind_append x (e ∷ es) fs ks = behind_append x es fs (left_behind x e ks)

pub fills_step : (x : ObjectName) (fills : List Fill) (i : ℕ) (f : Fill) (ks left all : List ℕ)
    → drop i fills ≡ f ∷ drop (i + 1) fills → left ≡ left_behind_all x f.entries ks
    → left_behind_all x (recovered_at (drop i fills)) ks ≡ all → left_behind_all x (recovered_at (drop (i + 1) fills)) left ≡ all
fills_step x fills i f ks left all first is before =
    ap (left_behind_all x (recovered_at (drop (i + 1) fills))) is
    ∙ sym (behind_append x f.entries (recovered_at (drop (i + 1) fills)) ks)
    ∙ ap (λ fs. left_behind_all x (recovered_at fs) ks) (sym first)
    ∙ before

pub numbers_step : (first j x : ℕ) (list more : List ℕ) → more ≡ list ++ x ∷ [] → x ≡ (first + j) % 2 ^ 64
    → list ≡ first_of j 0 (λ k. (first + k) % 2 ^ 64) → more ≡ first_of (j + 1) 0 (λ k. (first + k) % 2 ^ 64)
numbers_step first j x list more pushed is before =
    pushed ∙ ap (λ n. list ++ n ∷ []) is ∙ ap (λ ns. ns ++ (first + j) % 2 ^ 64 ∷ []) before
    ∙ sym (one_more j 0 j (λ k. (first + k) % 2 ^ 64) (omega arith))
