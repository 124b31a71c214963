-- Small programs, whose explorations the definitions compute.
use Rattle.std.proofs.Common.{◌≡◌, ℕ, ◌-◌, List, [], ◌∷◌, map, Option, Some, None, refl}
use Rattle.bitnum.specs.declared.BinOp.TheVariants as op
use Rattle.bitnum.specs.declared.Pred.TheVariants as pred
use Rattle.terms.specs.Tree.{Tree}
use Rattle.terms.specs.Same.{same}
use Rattle.terms.specs.Folding.{folded_one, folded_two, folded_choice}
use Rattle.terms.specs.Joining.{folded_join}
use Rattle.flat_ir.specs.declared.names.FuncId.{FuncId}
use Rattle.flat_ir.specs.declared.names.NodeId.{NodeId}
use Rattle.flat_ir.specs.declared.names.RegId.{RegId}
use Rattle.flat_ir.specs.declared.names.Location.{Location}
use Rattle.flat_ir.specs.declared.names.Location.TheVariants as location
use Rattle.flat_ir.specs.declared.names.Site.TheVariants as site
use Rattle.flat_ir.specs.declared.nodes.Node.{Node}
use Rattle.flat_ir.specs.declared.nodes.Node.TheVariants as node
use Rattle.flat_ir.specs.declared.nodes.Operand.{Operand}
use Rattle.flat_ir.specs.declared.nodes.Operand.TheVariants as operand
use Rattle.flat_ir.specs.declared.nodes.RegType.{RegType}
use Rattle.flat_ir.specs.declared.nodes.RegType.TheVariants as type
use Rattle.flat_ir.specs.declared.program.ProgramData.{ProgramData}
use Rattle.flat_ir.specs.declared.program.Func.{Func}
use Rattle.flat_ir.specs.declared.values.FaultKind.{FaultKind}
use Rattle.flat_ir.specs.declared.values.FaultKind.TheVariants as fault
use Rattle.flat_ir.specs.declared.residual.Kept.{Kept}
use Rattle.flat_ir.specs.declared.residual.Next.TheVariants as next
use Rattle.leaves.specs.Events.{Leaf}
use Rattle.leaves.specs.Events as leaf
use Rattle.sym_states.specs.Verdicts.{Unsat}
use Rattle.sym_bytes.specs.Building.{number}
use Rattle.sym_states.specs.Exploring.{Setting}
use Rattle.sym_states.specs.Running.{explored}

abbrev pub r : ℕ → RegId
r n = record { 0 = n }

abbrev pub at : ℕ → NodeId
at n = record { 0 = n }

abbrev pub func : ℕ → FuncId
func n = record { 0 = n }

abbrev pub int : ℕ → Operand
int n = operand.Int (record { width = 32; bits = n })

abbrev pub reg : ℕ → Operand
reg n = operand.Reg (r n)

abbrev pub global : Operand
global = operand.Global 0 0

abbrev pub function : List RegType → Option RegType → List Node → Func
function regs result nodes = record { name = []; params = 0; regs = regs; reg_names = []; result = result; nodes = nodes; clashes = []; bad_edges = [] }

abbrev pub main_of : List RegType → List Node → Func
main_of regs nodes = function regs (Some (type.Int 32)) nodes

-- a global of four bytes, 0 at first, the skipped function 0 and main
abbrev program : Func → Func → ProgramData
program f main = record { globals = record { name = []; size = 4; init = [] } ∷ []; funcs = f ∷ main ∷ []; main = func 1; defined = 2 }

abbrev setting : Func → Func → List Location → Kept → Setting
setting f main mods kept = record {
  program = program f main;
  skips = func 0 ∷ [];
  mods = mods ∷ [] ∷ [];
  slice = λ g at. record { funcs = kept ∷ [] };
  inputs = 0;
  steps = 100;
  shares = 8;
  verdict = λ c b. Unsat;
}

-- how a leaf ends, and after how many steps of 100
data Line : Type 0 where
  Complete : Tree → ℕ → Line
  Fault : FaultKind → ℕ → ℕ → Line
  Other : Line

abbrev line : Leaf → Line
line (leaf.Complete told status output) = Complete status (100 - told.left)
line (leaf.Fault told kind f n output) = Fault kind n.0 (100 - told.left)
line _ = Other

abbrev lines : Setting → List Line
lines e = map line (explored 30 e)

-- counts to a billion and then stores 7
abbrev far_loop : Func
far_loop = function (type.Int 32 ∷ type.Int 32 ∷ type.Int 1 ∷ []) None
    (node.Jump (at 6)
    ∷ node.Bin op.Add (reg 0) (int 1) (r 1) (at 2)
    ∷ node.Cmp pred.Ult (reg 1) (int 1000000000) (r 2) (at 3)
    ∷ node.Branch (reg 2) (at 7) (at 4)
    ∷ node.Store (int 7) global (at 5)
    ∷ node.Ret None
    ∷ node.Moves (record { register = r 0; value = int 0 } ∷ []) (at 1)
    ∷ node.Moves (record { register = r 0; value = reg 1 } ∷ []) (at 1)
    ∷ [])

-- its slice for the global: the store alone
abbrev its_store : Kept
its_store = record { start = next.Node (at 4); nexts = None ∷ None ∷ None ∷ None ∷ Some (next.End ∷ []) ∷ None ∷ None ∷ None ∷ [] }

abbrev loop_setting : Func → Setting
loop_setting main = setting far_loop main (location.Cells (site.Global 0) ∷ []) its_store

-- the load needs one store of the skipped call
recovers_a_store : lines (loop_setting (main_of (type.Int 32 ∷ []) (node.Call (func 0) [] None (at 1) ∷ node.Load global (r 0) (at 2) ∷ node.Ret (Some (reg 0)) ∷ []))) ≡ Complete (number 8 7) 5 ∷ []
unfolding folded_one folded_two folded_choice folded_join same
recovers_a_store = refl

-- nothing is needed
needs_nothing : lines (loop_setting (main_of [] (node.Call (func 0) [] None (at 1) ∷ node.Ret (Some (int 3)) ∷ []))) ≡ Complete (number 8 3) 2 ∷ []
unfolding folded_one folded_two folded_choice folded_join same
needs_nothing = refl

-- a later store covers what the skipped call may have stored
covered_by_a_store : lines (loop_setting (main_of (type.Int 32 ∷ [])
    (node.Store (int 1) global (at 1)
    ∷ node.Call (func 0) [] None (at 2)
    ∷ node.Store (int 3) global (at 3)
    ∷ node.Load global (r 0) (at 4)
    ∷ node.Ret (Some (reg 0))
    ∷ []))) ≡ Complete (number 8 3) 5 ∷ []
unfolding folded_one folded_two folded_choice folded_join same
covered_by_a_store = refl

-- gives 5
abbrev five : Func
five = function [] (Some (type.Int 32)) (node.Ret (Some (int 5)) ∷ [])

abbrev its_return : Kept
its_return = record { start = next.Node (at 0); nexts = Some (next.End ∷ []) ∷ [] }

-- a pending result may be stored
stores_pending : lines (setting five (main_of (type.Ptr ∷ type.Int 32 ∷ [])
    (node.Alloca 4 (r 0) (at 1)
    ∷ node.Call (func 0) [] (Some (r 1)) (at 2)
    ∷ node.Store (reg 1) (reg 0) (at 3)
    ∷ node.Ret (Some (int 0))
    ∷ [])) [] its_return) ≡ Complete (number 8 0) 4 ∷ []
unfolding folded_one folded_two folded_choice folded_join same
stores_pending = refl

-- and loaded, and is recovered where it is compared
compares_pending : lines (setting five (main_of (type.Ptr ∷ type.Int 32 ∷ type.Int 32 ∷ type.Int 1 ∷ [])
    (node.Alloca 4 (r 0) (at 1)
    ∷ node.Call (func 0) [] (Some (r 1)) (at 2)
    ∷ node.Store (reg 1) (reg 0) (at 3)
    ∷ node.Load (reg 0) (r 2) (at 4)
    ∷ node.Cmp pred.Eq (reg 2) (int 5) (r 3) (at 5)
    ∷ node.Branch (reg 3) (at 6) (at 7)
    ∷ node.Ret (Some (int 1))
    ∷ node.Ret (Some (int 2))
    ∷ [])) [] its_return) ≡ Complete (number 8 1) 9 ∷ []
unfolding folded_one folded_two folded_choice folded_join same
compares_pending = refl

-- frees its parameter
abbrev frees : Func
frees = record (function (type.Ptr ∷ []) None (node.Free (reg 0) (at 1) ∷ node.Ret None ∷ [])) { params = 1 }

abbrev its_free : Kept
its_free = record { start = next.Node (at 0); nexts = Some (next.End ∷ []) ∷ None ∷ [] }

-- a store behind a skipped free is a fault
after_a_skipped_free : lines (setting frees (main_of (type.Ptr ∷ [])
    (node.Malloc (operand.Int (record { width = 64; bits = 4 })) (Some (r 0)) (at 1)
    ∷ node.Call (func 0) (reg 0 ∷ []) None (at 2)
    ∷ node.Store (int 1) (reg 0) (at 3)
    ∷ node.Ret (Some (int 0))
    ∷ [])) (location.Life (site.Node (func 1) (at 0)) ∷ []) its_free) ≡ Fault fault.UseAfterFree 2 5 ∷ []
unfolding folded_one folded_two folded_choice folded_join same
after_a_skipped_free = refl
