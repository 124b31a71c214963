-- Worked examples of the nodes that compute numbers: Ret, Bin, Cmp, Cast, Select, Moves.
use Rattle.std.proofs.Common.{◌≡◌, [], ◌∷◌, Some, None, refl}
use Rattle.flat_ir.specs.declared.nodes.Node.TheVariants as node
use Rattle.flat_ir.specs.declared.nodes.RegType.TheVariants as type
use Rattle.flat_ir.specs.declared.values.FaultKind.TheVariants as fault
use Rattle.flat_ir.specs.Machine.{Exited, Faulted}
use Rattle.flat_ir.specs.Run.{run, step}
use Rattle.flat_ir.proofs.SmallPrograms.{r, at, fn, reg, int, i32, minus, only_main, end_of}
use Rattle.bitnum.specs.declared.BinOp.TheVariants as op
use Rattle.bitnum.specs.declared.Pred.TheVariants as pred
use Rattle.flat_ir.specs.declared.nodes.CastOp.TheVariants as cast

-- ret i32 258: a status is a low byte
ret_gives_low_byte : end_of (run (only_main [] (node.Ret (Some (i32 258)) ∷ [])) [] 1) ≡ Some (Exited 2)
unfolding run step
ret_gives_low_byte = refl

-- before that no step is done
nothing_is_done_at_first : end_of (run (only_main [] (node.Ret (Some (i32 258)) ∷ [])) [] 0) ≡ None
unfolding run step
nothing_is_done_at_first = refl

-- one operation, whose result is returned
division_by_zero : end_of (run (only_main (type.Int 32 ∷ []) (node.Bin op.Udiv (i32 1) (i32 0) (r 0) (at 1) ∷ node.Ret (Some (reg 0)) ∷ [])) [] 1)
    ≡ Some (Faulted fault.DivideByZero (fn 0) (at 0))
unfolding run step
division_by_zero = refl

-- sdiv i32 -2147483648, -1
division_overflow : end_of (run (only_main (type.Int 32 ∷ []) (node.Bin op.Sdiv (i32 2147483648) (minus 32 1) (r 0) (at 1) ∷ node.Ret (Some (reg 0)) ∷ [])) [] 1)
    ≡ Some (Faulted fault.DivideOverflow (fn 0) (at 0))
unfolding run step
division_overflow = refl

-- srem i32 -7, 2 is -1, whose low byte is 255
signed_remainder : end_of (run (only_main (type.Int 32 ∷ []) (node.Bin op.Srem (minus 32 7) (i32 2) (r 0) (at 1) ∷ node.Ret (Some (reg 0)) ∷ [])) [] 2)
    ≡ Some (Exited 255)
unfolding run step
signed_remainder = refl

-- shl i32 1, 32
shift_by_the_width : end_of (run (only_main (type.Int 32 ∷ []) (node.Bin op.Shl (i32 1) (i32 32) (r 0) (at 1) ∷ node.Ret (Some (reg 0)) ∷ [])) [] 2)
    ≡ Some (Exited 0)
unfolding run step
shift_by_the_width = refl

-- icmp slt i32 -1, 0, widened
signed_comparison : end_of (run (only_main (type.Int 1 ∷ type.Int 32 ∷ [])
    (node.Cmp pred.Slt (minus 32 1) (i32 0) (r 0) (at 1) ∷ node.Cast cast.Zext (reg 0) (r 1) (at 2) ∷ node.Ret (Some (reg 1)) ∷ [])) [] 3)
    ≡ Some (Exited 1)
unfolding run step
signed_comparison = refl

-- icmp ult i32 -1, 0
unsigned_comparison : end_of (run (only_main (type.Int 1 ∷ type.Int 32 ∷ [])
    (node.Cmp pred.Ult (minus 32 1) (i32 0) (r 0) (at 1) ∷ node.Cast cast.Zext (reg 0) (r 1) (at 2) ∷ node.Ret (Some (reg 1)) ∷ [])) [] 3)
    ≡ Some (Exited 0)
unfolding run step
unsigned_comparison = refl

-- trunc i32 300 to i8 is 44; sext i8 200 to i32 is -56
narrowing : end_of (run (only_main (type.Int 8 ∷ type.Int 32 ∷ [])
    (node.Cast cast.Trunc (i32 300) (r 0) (at 1) ∷ node.Cast cast.Zext (reg 0) (r 1) (at 2) ∷ node.Ret (Some (reg 1)) ∷ [])) [] 3)
    ≡ Some (Exited 44)
unfolding run step
narrowing = refl

widening_by_the_sign : end_of (run (only_main (type.Int 32 ∷ type.Int 1 ∷ type.Int 32 ∷ [])
    (node.Cast cast.Sext (int 8 200) (r 0) (at 1) ∷ node.Cmp pred.Eq (reg 0) (minus 32 56) (r 1) (at 2)
    ∷ node.Cast cast.Zext (reg 1) (r 2) (at 3) ∷ node.Ret (Some (reg 2)) ∷ [])) [] 4)
    ≡ Some (Exited 1)
unfolding run step
widening_by_the_sign = refl

-- select i1 false, i32 1, i32 2
select_takes_the_second : end_of (run (only_main (type.Int 32 ∷ []) (node.Select (int 1 0) (i32 1) (i32 2) (r 0) (at 1) ∷ node.Ret (Some (reg 0)) ∷ [])) [] 2)
    ≡ Some (Exited 2)
unfolding run step
select_takes_the_second = refl

-- registers 1 and 2 are exchanged at once: 2 * 16 + 1
moves_are_made_at_once : end_of (run (only_main (type.Int 32 ∷ type.Int 32 ∷ type.Int 32 ∷ type.Int 32 ∷ [])
    (node.Moves (record { register = r 0; value = i32 1 } ∷ record { register = r 1; value = i32 2 } ∷ []) (at 1)
    ∷ node.Moves (record { register = r 0; value = reg 1 } ∷ record { register = r 1; value = reg 0 } ∷ []) (at 2)
    ∷ node.Bin op.Shl (reg 0) (i32 4) (r 2) (at 3) ∷ node.Bin op.Add (reg 2) (reg 1) (r 3) (at 4) ∷ node.Ret (Some (reg 3)) ∷ [])) [] 5)
    ≡ Some (Exited 33)
unfolding run step
moves_are_made_at_once = refl
