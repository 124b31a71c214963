-- Small programs whose skipped calls fault, share a budget or write, as the definitions compute them.
use Rattle.std.proofs.Common.{◌≡◌, ℕ, ◌-◌, true, false, List, [], ◌∷◌, map, Option, Some, None, refl}
use Rattle.std.specs.Prelude.{unwrap_or}
use Rattle.bitnum.specs.declared.BinOp.TheVariants as op
use Rattle.bitnum.specs.declared.Pred.TheVariants as pred
use Rattle.terms.specs.Tree.{Tree, constant}
use Rattle.terms.specs.Value.{value_of, are_met_by}
use Rattle.terms.specs.Same.{same}
use Rattle.terms.specs.Folding.{folded_one, folded_two, folded_choice}
use Rattle.terms.specs.Joining.{folded_join}
use Rattle.flat_ir.specs.declared.names.FuncId.{FuncId}
use Rattle.flat_ir.specs.declared.names.NodeId.{NodeId}
use Rattle.flat_ir.specs.declared.names.RegId.{RegId}
use Rattle.flat_ir.specs.declared.names.Location.{Location}
use Rattle.flat_ir.specs.declared.names.Location.TheVariants as location
use Rattle.flat_ir.specs.declared.names.Site.TheVariants as site
use Rattle.flat_ir.specs.declared.nodes.CastOp.TheVariants as cast
use Rattle.flat_ir.specs.declared.nodes.GepPart.TheVariants.{Field, Index}
use Rattle.flat_ir.specs.declared.nodes.Node.{Node}
use Rattle.flat_ir.specs.declared.nodes.Node.TheVariants as node
use Rattle.flat_ir.specs.declared.nodes.Operand.{Operand}
use Rattle.flat_ir.specs.declared.nodes.Operand.TheVariants as operand
use Rattle.flat_ir.specs.declared.nodes.RegType.{RegType}
use Rattle.flat_ir.specs.declared.nodes.RegType.TheVariants as type
use Rattle.flat_ir.specs.declared.program.Func.{Func}
use Rattle.flat_ir.specs.declared.program.InitByte.TheVariants as init
use Rattle.flat_ir.specs.declared.program.ProgramData.{ProgramData}
use Rattle.flat_ir.specs.declared.residual.Kept.{Kept}
use Rattle.flat_ir.specs.declared.residual.Next.{Next}
use Rattle.flat_ir.specs.declared.residual.Next.TheVariants as next
use Rattle.flat_ir.specs.declared.values.FaultKind.TheVariants as fault
use Rattle.flat_ir.specs.Machine.{Run, On, Over, End, Exited, Faulted}
use Rattle.flat_ir.specs.Run.{run, step}
use Rattle.leaves.specs.declared.options.Cause.{Cause}
use Rattle.leaves.specs.declared.options.Cause.TheVariants as cause
use Rattle.sym_bytes.specs.Value.{Int, Pending}
use Rattle.leaves.specs.Events.{Leaf, Told, told_of}
use Rattle.leaves.specs.Events as leaf
use Rattle.sym_states.specs.Exploring.{Setting}
use Rattle.sym_states.specs.Running.{explored}
use Rattle.sym_states.specs.Verdicts.{Verdict, Sat, Unsat}

abbrev r : ℕ → RegId
r n = record { 0 = n }

abbrev at : ℕ → NodeId
at n = record { 0 = n }

abbrev func : ℕ → FuncId
func n = record { 0 = n }

abbrev int : ℕ → Operand
int n = operand.Int (record { width = 32; bits = n })

abbrev wide : ℕ → Operand
wide n = operand.Int (record { width = 64; bits = n })

abbrev bit : ℕ → Operand
bit n = operand.Int (record { width = 1; bits = n })

abbrev reg : ℕ → Operand
reg n = operand.Reg (r n)

abbrev global : Operand
global = operand.Global 0 0

abbrev function : ℕ → List RegType → Option RegType → List Node → Func
function params regs result nodes = record { name = []; params = params; regs = regs; reg_names = []; result = result; nodes = nodes; clashes = []; bad_edges = [] }

abbrev main_of : List RegType → List Node → Func
main_of regs nodes = function 0 regs (Some (type.Int 32)) nodes

abbrev getchar : Func
getchar = function 0 (type.Int 32 ∷ []) (Some (type.Int 32)) (node.In (r 0) (at 1) ∷ node.Ret (Some (reg 0)) ∷ [])

-- the first of these inputs that meets the condition; the conditions here are met by one of them or by none
abbrev first_of : List (List ℕ) → List Tree → Verdict
first_of [] condition = Unsat
first_of (input ∷ inputs) condition = elim (are_met_by input condition) [ true ↦ Sat input | false ↦ first_of inputs condition ]

-- a leaf's line: its kept input, how it ends, what it writes out and the steps of 100
data Line : Type 0 where
  Complete : List ℕ → ℕ → List ℕ → ℕ → Line
  Open : Option (List ℕ) → Cause → ℕ → Line
  Other : Line

abbrev kept_of : Told → List ℕ
kept_of told = unwrap_or told.kept []

abbrev line : Leaf → Line
line (leaf.Complete told status output) = Complete (kept_of told) (value_of status (kept_of told)).bits (map (λ t. (value_of t (kept_of told)).bits) output) (100 - told.left)
line (leaf.Open told why) = Open told.kept why (100 - told.left)
line _ = Other

abbrev lines : Setting → List Line
lines e = map line (explored 120 e)

-- function 0 is skipped, may write the global, and has this slice; function 1 is getchar and function 2 main
abbrev skipping : Func → Func → Kept → ℕ → List (List ℕ) → ℕ → Setting
skipping f main kept inputs candidates shares = record {
  program = record { globals = record { name = []; size = 4; init = [] } ∷ []; funcs = f ∷ getchar ∷ main ∷ []; main = func 2; defined = 2 };
  skips = func 0 ∷ [];
  mods = (location.Cells (site.Global 0) ∷ []) ∷ [] ∷ [] ∷ [];
  slice = λ g place. record { funcs = kept ∷ [] };
  inputs = inputs;
  steps = 100;
  shares = shares;
  verdict = λ condition budget. first_of candidates condition;
}

-- stores 7, and then divides by its argument
abbrev stores_and_divides : Func
stores_and_divides = function 1 (type.Int 32 ∷ type.Int 32 ∷ []) None
    (node.Store (int 7) global (at 1)
    ∷ node.Bin op.Udiv (int 1) (reg 0) (r 1) (at 2)
    ∷ node.Ret None
    ∷ [])

abbrev its_store : Kept
its_store = record { start = next.Node (at 0); nexts = Some (next.End ∷ []) ∷ None ∷ None ∷ [] }

abbrev fault_behind_write : Setting
fault_behind_write = skipping stores_and_divides (main_of (type.Int 32 ∷ type.Int 32 ∷ [])
    (node.Call (func 1) [] (Some (r 0)) (at 1)
    ∷ node.Call (func 0) (reg 0 ∷ []) None (at 2)
    ∷ node.Load global (r 1) (at 3)
    ∷ node.Ret (Some (reg 1))
    ∷ [])) its_store 1 ((0 ∷ []) ∷ (1 ∷ []) ∷ []) 1024

-- a division of a skipped call decides nothing in the location that is recovered
leaves_out_a_fault : lines fault_behind_write ≡ Complete (0 ∷ []) 7 [] 8 ∷ []
unfolding folded_one folded_two folded_choice folded_join same
leaves_out_a_fault = refl

abbrev end_of : Run → Option End
end_of (On s) = None
end_of (Over e s) = Some e

-- the run on that input faults in the call, which doesn't return
runs_into_the_fault : end_of (run fault_behind_write.program (0 ∷ []) 6) ≡ Some (Faulted fault.DivideByZero (func 0) (at 1))
unfolding run step
runs_into_the_fault = refl

runs_on : end_of (run fault_behind_write.program (0 ∷ []) 5) ≡ None
unfolding run step
runs_on = refl

-- writes v where x isn't 0
abbrev writes_if : Func
writes_if = function 2 (type.Int 32 ∷ type.Int 32 ∷ type.Int 1 ∷ []) None
    (node.Cmp pred.Eq (reg 0) (int 0) (r 2) (at 1)
    ∷ node.Branch (reg 2) (at 4) (at 2)
    ∷ node.Store (reg 1) global (at 3)
    ∷ node.Jump (at 4)
    ∷ node.Ret None
    ∷ [])

abbrev its_write : Kept
its_write = record { start = next.Node (at 0); nexts = Some (next.Node (at 1) ∷ []) ∷ Some (next.End ∷ next.Node (at 2) ∷ []) ∷ Some (next.End ∷ []) ∷ None ∷ None ∷ [] }

abbrev two_writers : ℕ → Setting
two_writers shares = skipping writes_if (main_of (type.Int 32 ∷ type.Int 32 ∷ type.Int 32 ∷ [])
    (node.Call (func 1) [] (Some (r 0)) (at 1)
    ∷ node.Call (func 1) [] (Some (r 1)) (at 2)
    ∷ node.Call (func 0) (reg 0 ∷ int 5 ∷ []) None (at 3)
    ∷ node.Call (func 0) (reg 1 ∷ int 6 ∷ []) None (at 4)
    ∷ node.Load global (r 2) (at 5)
    ∷ node.Ret (Some (reg 2))
    ∷ [])) its_write 2 ((0 ∷ 0 ∷ []) ∷ (0 ∷ 1 ∷ []) ∷ (1 ∷ 0 ∷ []) ∷ (1 ∷ 1 ∷ []) ∷ []) shares

-- four combinations are more than three shares
lacks_shares_for_combinations : lines (two_writers 3) ≡ Open (Some (0 ∷ 0 ∷ [])) cause.Shares 9 ∷ []
unfolding folded_one folded_two folded_choice folded_join same
lacks_shares_for_combinations = refl

-- and no more than four
has_shares_for_combinations : lines (two_writers 4)
    ≡ Complete (0 ∷ 0 ∷ []) 0 [] 15 ∷ Complete (0 ∷ 1 ∷ []) 6 [] 16 ∷ Complete (1 ∷ 0 ∷ []) 5 [] 16 ∷ Complete (1 ∷ 1 ∷ []) 6 [] 17 ∷ []
unfolding folded_one folded_two folded_choice folded_join same
has_shares_for_combinations = refl

-- ---- a program with a copy, skipped output and a phi

abbrev sets : ℕ → Operand → ℕ → Node
sets register value there = node.Moves (record { register = r register; value = value } ∷ []) (at there)

-- writes out the digit of its argument
abbrev note : Func
note = function 1 (type.Int 32 ∷ type.Ptr ∷ type.Int 32 ∷ type.Int 32 ∷ type.Int 32 ∷ []) None
    (node.Alloca 4 (r 1) (at 1)
    ∷ node.Store (reg 0) (reg 1) (at 2)
    ∷ node.Load (reg 1) (r 2) (at 3)
    ∷ node.Bin op.Add (int 48) (reg 2) (r 3) (at 4)
    ∷ node.Call (func 1) (reg 3 ∷ []) (Some (r 4)) (at 5)
    ∷ node.Ret None
    ∷ [])

abbrev putchar : Func
putchar = function 1 (type.Int 32 ∷ type.Int 32 ∷ []) (Some (type.Int 32))
    (node.Put (reg 0) (at 1)
    ∷ node.Bin op.And (reg 0) (int 255) (r 1) (at 2)
    ∷ node.Ret (Some (reg 1))
    ∷ [])

abbrev memcpy : Func
memcpy = function 4 (type.Ptr ∷ type.Ptr ∷ type.Int 64 ∷ type.Int 1 ∷ type.Int 64 ∷ type.Int 1 ∷ type.Ptr ∷ type.Ptr ∷ type.Int 64 ∷ []) None
    (node.Jump (at 9)
    ∷ node.Cmp pred.Ult (reg 4) (reg 2) (r 5) (at 2)
    ∷ node.Branch (reg 5) (at 3) (at 8)
    ∷ node.Gep (reg 0) (Index 1 (reg 4) ∷ []) (r 6) (at 4)
    ∷ node.Gep (reg 1) (Index 1 (reg 4) ∷ []) (r 7) (at 5)
    ∷ node.Copy (reg 7) (reg 6) (at 6)
    ∷ node.Bin op.Add (reg 4) (wide 1) (r 8) (at 7)
    ∷ node.Jump (at 10)
    ∷ node.Ret None
    ∷ sets 4 (wide 0) 1
    ∷ sets 4 (reg 8) 1
    ∷ [])

-- copies the number 2 and the byte 3, notes the number, writes out '!', and compares both
abbrev notes : Func
notes = main_of (type.Ptr ∷ type.Ptr ∷ type.Ptr ∷ type.Int 32 ∷ type.Int 32 ∷ type.Ptr ∷ type.Int 32 ∷ type.Int 1 ∷ type.Ptr ∷ type.Int 8 ∷ type.Int 32 ∷ type.Int 1 ∷ type.Int 1 ∷ type.Int 32 ∷ [])
    (node.Alloca 4 (r 0) (at 1)
    ∷ node.Alloca 8 (r 1) (at 2)
    ∷ node.Store (int 0) (reg 0) (at 3)
    ∷ node.Call (func 2) (reg 1 ∷ global ∷ wide 8 ∷ bit 0 ∷ []) None (at 4)
    ∷ node.Gep (reg 1) (Field 0 ∷ []) (r 2) (at 5)
    ∷ node.Load (reg 2) (r 3) (at 6)
    ∷ node.Call (func 0) (reg 3 ∷ []) None (at 7)
    ∷ node.Call (func 1) (int 33 ∷ []) (Some (r 4)) (at 8)
    ∷ node.Gep (reg 1) (Field 0 ∷ []) (r 5) (at 9)
    ∷ node.Load (reg 5) (r 6) (at 10)
    ∷ node.Cmp pred.Sgt (reg 6) (int 0) (r 7) (at 11)
    ∷ node.Branch (reg 7) (at 12) (at 19)
    ∷ node.Gep (reg 1) (Field 4 ∷ []) (r 8) (at 13)
    ∷ node.Load (reg 8) (r 9) (at 14)
    ∷ node.Cast cast.Sext (reg 9) (r 10) (at 15)
    ∷ node.Cmp pred.Eq (reg 10) (int 3) (r 11) (at 16)
    ∷ node.Jump (at 20)
    ∷ node.Cast cast.Zext (reg 12) (r 13) (at 18)
    ∷ node.Ret (Some (reg 13))
    ∷ sets 12 (bit 0) 17
    ∷ sets 12 (reg 11) 17
    ∷ [])

abbrev goes : ℕ → Option (List Next)
goes n = Some (next.Node (at n) ∷ [])

abbrev stops : Option (List Next)
stops = Some (next.End ∷ [])

abbrev noting : Setting
noting = record {
  program = record {
    globals = record { name = []; size = 8; init = init.Int 2 ∷ init.Int 0 ∷ init.Int 0 ∷ init.Int 0 ∷ init.Int 3 ∷ [] } ∷ [];
    funcs = note ∷ putchar ∷ memcpy ∷ notes ∷ [];
    main = func 3;
    defined = 4;
  };
  skips = func 0 ∷ [];
  mods = (location.Output ∷ location.Cells (site.Node (func 0) (at 0)) ∷ location.Life (site.Node (func 0) (at 0)) ∷ []) ∷ [] ∷ [] ∷ [] ∷ [];
  slice = λ g place. record {
    funcs =
        record { start = next.Node (at 0); nexts = goes 1 ∷ goes 2 ∷ goes 3 ∷ goes 4 ∷ stops ∷ None ∷ [] }
        ∷ record { start = next.Node (at 0); nexts = stops ∷ None ∷ None ∷ [] } ∷ [];
  };
  inputs = 0;
  steps = 100;
  shares = 8;
  verdict = λ condition budget. Unsat;
}

-- the byte of the skipped call stands before the one that was written behind it
recovers_output : lines noting ≡ Complete [] 1 (50 ∷ 33 ∷ []) 99 ∷ []
unfolding folded_one folded_two folded_choice folded_join same
recovers_output = refl

-- the run of the whole ends so too
writes_in_order : end_of (run noting.program [] 101) ≡ Some (Exited 1)
unfolding run step
writes_in_order = refl

ends_with_that_step : end_of (run noting.program [] 100) ≡ None
unfolding run step
ends_with_that_step = refl

-- ---- a result that is a result

abbrev five : Func
five = function 0 [] (Some (type.Int 32)) (node.Ret (Some (int 5)) ∷ [])

abbrev same_number : Func
same_number = function 1 (type.Int 32 ∷ []) (Some (type.Int 32)) (node.Ret (Some (reg 0)) ∷ [])

-- a skipped call has the pending result of another one as its argument, and gives it back
abbrev passing : Setting
passing = record {
  program = record {
    globals = [];
    funcs = five ∷ same_number ∷ main_of (type.Int 32 ∷ type.Int 32 ∷ type.Int 1 ∷ [])
        (node.Call (func 0) [] (Some (r 0)) (at 1)
        ∷ node.Call (func 1) (reg 0 ∷ []) (Some (r 1)) (at 2)
        ∷ node.Cmp pred.Eq (reg 1) (int 5) (r 2) (at 3)
        ∷ node.Branch (reg 2) (at 4) (at 5)
        ∷ node.Ret (Some (int 1))
        ∷ node.Ret (Some (int 2))
        ∷ []) ∷ [];
    main = func 2;
    defined = 3;
  };
  skips = func 0 ∷ func 1 ∷ [];
  mods = [] ∷ [] ∷ [] ∷ [];
  slice = λ g place. record { funcs = record { start = next.Node (at 0); nexts = stops ∷ [] } ∷ record { start = next.Node (at 0); nexts = stops ∷ [] } ∷ [] };
  inputs = 0;
  steps = 100;
  shares = 8;
  verdict = λ condition budget. Unsat;
}

-- two recoveries, one after the other
recovers_two_results : lines passing ≡ Complete [] 1 [] 9 ∷ []
unfolding folded_one folded_two folded_choice folded_join same
recovers_two_results = refl

-- the newer call's recovered result names the older call
tells_an_older_call : map (λ l. (told_of l).results) (explored 40 passing)
    ≡ (record { call = record { 0 = 1 }; value = Int (constant (record { width = 32; bits = 5 })) } ∷ record { call = record { 0 = 2 }; value = Pending (record { 0 = 1 }) (type.Int 32) } ∷ []) ∷ []
unfolding folded_one folded_two folded_choice folded_join same
tells_an_older_call = refl
