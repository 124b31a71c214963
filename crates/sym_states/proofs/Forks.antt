-- Small programs whose explorations fork and merge, as the definitions compute them.
use Rattle.flat_ir.specs.declared.nodes.Operand.TheVariants as operand
use Rattle.std.specs.Prelude.{◌==◌}
use Rattle.flat_ir.specs.declared.residual.Next.{Next}
use Rattle.flat_ir.specs.declared.nodes.Operand.{Operand}
use Rattle.flat_ir.specs.declared.nodes.GepPart.TheVariants.{Field}
use Rattle.std.proofs.Common.{◌≡◌, ℕ, ◌-◌, true, false, List, [], ◌∷◌, map, Option, Some, None, refl}
use Rattle.std.specs.Prelude.{unwrap_or}
use Rattle.bitnum.specs.declared.BinOp.TheVariants as op
use Rattle.bitnum.specs.declared.Pred.TheVariants as pred
use Rattle.terms.specs.Tree.{Tree}
use Rattle.terms.specs.Value.{value_of}
use Rattle.terms.specs.Same.{same}
use Rattle.terms.specs.Folding.{folded_one, folded_two, folded_choice}
use Rattle.terms.specs.Joining.{folded_join}
use Rattle.flat_ir.specs.declared.names.FuncId.{FuncId}
use Rattle.flat_ir.specs.declared.names.Location.{Location}
use Rattle.flat_ir.specs.declared.names.Location.TheVariants as location
use Rattle.flat_ir.specs.declared.names.Site.{Site}
use Rattle.flat_ir.specs.declared.names.Site.TheVariants as site
use Rattle.flat_ir.specs.declared.nodes.Node.TheVariants as node
use Rattle.flat_ir.specs.declared.nodes.RegType.TheVariants as type
use Rattle.flat_ir.specs.declared.program.Func.{Func}
use Rattle.flat_ir.specs.declared.values.FaultKind.{FaultKind}
use Rattle.flat_ir.specs.declared.values.FaultKind.TheVariants as fault
use Rattle.flat_ir.specs.declared.residual.Kept.{Kept}
use Rattle.flat_ir.specs.declared.residual.Next.TheVariants as next
use Rattle.leaves.specs.declared.options.Cause.{Cause}
use Rattle.leaves.specs.declared.options.Cause.TheVariants as cause
use Rattle.leaves.specs.Events.{Leaf}
use Rattle.leaves.specs.Events as leaf
use Rattle.leaves.specs.Events.{Told}
use Rattle.sym_states.specs.Verdicts.{Verdict, Sat, Unsat, Spent}
use Rattle.sym_states.specs.Exploring.{Setting}
use Rattle.sym_states.specs.Running.{explored}
use Rattle.terms.specs.Value.{are_met_by}
use Rattle.sym_states.proofs.Rows.{r, at, func, int, reg, global, function, main_of}

-- the first of these inputs that meets the condition; the conditions here are met by one of them or by none
abbrev pub first_of : List (List ℕ) → List Tree → Verdict
first_of [] condition = Unsat
first_of (input ∷ inputs) condition = elim (are_met_by input condition) [ true ↦ Sat input | false ↦ first_of inputs condition ]

abbrev pub getchar : Func
getchar = function (type.Int 32 ∷ []) (Some (type.Int 32)) (node.In (r 0) (at 1) ∷ node.Ret (Some (reg 0)) ∷ [])

abbrev with_params : ℕ → Func → Func
with_params n f = record f { params = n }

abbrev setting : List Func → ℕ → List FuncId → List (List Location) → List Kept → ℕ → List (List ℕ) → ℕ → Setting
setting funcs main skips mods kept inputs candidates shares = record {
  program = record { globals = record { name = []; size = 4; init = [] } ∷ []; funcs = funcs; main = func main; defined = 2 };
  skips = skips;
  mods = mods;
  slice = λ g place. record { funcs = kept };
  inputs = inputs;
  steps = 100;
  shares = shares;
  verdict = λ condition budget. first_of candidates condition;
}

-- a leaf's line: the kept input, what it ends with and the steps of 100
pub data Line : Type 0 where
  Complete : List ℕ → ℕ → ℕ → Line
  Fault : List ℕ → FaultKind → ℕ → ℕ → Line
  Skipped : List ℕ → FaultKind → ℕ → ℕ → Line
  Open : Option (List ℕ) → Cause → ℕ → Line
  Other : Line

abbrev pub kept_of : Told → List ℕ
kept_of told = unwrap_or told.kept []

abbrev pub line : Leaf → Line
line (leaf.Complete told status output) = Complete (kept_of told) (value_of status (kept_of told)).bits (100 - told.left)
line (leaf.Fault told kind f n output) = Fault (kept_of told) kind n.0 (100 - told.left)
line (leaf.Skipped told kind f n) = Skipped (kept_of told) kind n.0 (100 - told.left)
line (leaf.Open told why) = Open told.kept why (100 - told.left)
line _ = Other

abbrev pub lines : Setting → List Line
lines e = map line (explored 40 e)

-- the byte read is compared with 65
abbrev compares : Func
compares = main_of (type.Int 32 ∷ type.Int 1 ∷ [])
    (node.Call (func 0) [] (Some (r 0)) (at 1)
    ∷ node.Cmp pred.Ne (reg 0) (int 65) (r 1) (at 2)
    ∷ node.Branch (reg 1) (at 3) (at 4)
    ∷ node.Ret (Some (int 0))
    ∷ node.Ret (Some (int 1))
    ∷ [])

abbrev pub compares_setting : ℕ → Setting
compares_setting shares = setting (getchar ∷ compares ∷ []) 1 [] [] [] 1 ((0 ∷ []) ∷ (65 ∷ []) ∷ []) shares

forks_on_a_byte : lines (compares_setting 8) ≡ Complete (0 ∷ []) 0 6 ∷ Complete (65 ∷ []) 1 6 ∷ []
unfolding folded_one folded_two folded_choice folded_join same
forks_on_a_byte = refl

lacks_shares : lines (compares_setting 1) ≡ Open (Some (0 ∷ [])) cause.Shares 5 ∷ []
unfolding folded_one folded_two folded_choice folded_join same
lacks_shares = refl

-- without input there is the end alone
meets_the_end : lines (setting (getchar ∷ compares ∷ []) 1 [] [] [] 0 ([] ∷ []) 8) ≡ Complete [] 0 6 ∷ []
unfolding folded_one folded_two folded_choice folded_join same
meets_the_end = refl

-- writes v where x isn't 0
abbrev writes_if : Func
writes_if = with_params 2 (function (type.Int 32 ∷ type.Int 32 ∷ type.Int 1 ∷ []) None
    (node.Cmp pred.Eq (reg 0) (int 0) (r 2) (at 1)
    ∷ node.Branch (reg 2) (at 4) (at 2)
    ∷ node.Store (reg 1) global (at 3)
    ∷ node.Jump (at 4)
    ∷ node.Ret None
    ∷ []))

abbrev its_write : Kept
its_write = record { start = next.Node (at 0); nexts = Some (next.Node (at 1) ∷ []) ∷ Some (next.End ∷ next.Node (at 2) ∷ []) ∷ Some (next.End ∷ []) ∷ None ∷ None ∷ [] }

abbrev cells : List Location
cells = location.Cells (site.Global 0) ∷ []

abbrev two_writers : Setting
two_writers = setting (writes_if ∷ getchar ∷ main_of (type.Int 32 ∷ type.Int 32 ∷ type.Int 32 ∷ [])
    (node.Call (func 1) [] (Some (r 0)) (at 1)
    ∷ node.Call (func 1) [] (Some (r 1)) (at 2)
    ∷ node.Call (func 0) (reg 0 ∷ int 5 ∷ []) None (at 3)
    ∷ node.Call (func 0) (reg 1 ∷ int 6 ∷ []) None (at 4)
    ∷ node.Load global (r 2) (at 5)
    ∷ node.Ret (Some (reg 2))
    ∷ []) ∷ []) 2 (func 0 ∷ []) (cells ∷ [] ∷ [] ∷ []) (its_write ∷ [])
    2 ((0 ∷ 0 ∷ []) ∷ (0 ∷ 1 ∷ []) ∷ (1 ∷ 0 ∷ []) ∷ (1 ∷ 1 ∷ []) ∷ []) 1024

-- four combinations of two recoveries
merges_two_writers : lines two_writers
    ≡ Complete (0 ∷ 0 ∷ []) 0 15 ∷ Complete (0 ∷ 1 ∷ []) 6 16 ∷ Complete (1 ∷ 0 ∷ []) 5 16 ∷ Complete (1 ∷ 1 ∷ []) 6 17 ∷ []
unfolding folded_one folded_two folded_choice folded_join same
merges_two_writers = refl

-- writes 1 or 2
abbrev writes_either : Func
writes_either = with_params 1 (function (type.Int 32 ∷ type.Int 1 ∷ []) None
    (node.Cmp pred.Eq (reg 0) (int 0) (r 1) (at 1)
    ∷ node.Branch (reg 1) (at 2) (at 4)
    ∷ node.Store (int 1) global (at 3)
    ∷ node.Ret None
    ∷ node.Store (int 2) global (at 5)
    ∷ node.Ret None
    ∷ []))

abbrev adds_ten : Func
adds_ten = function (type.Int 32 ∷ type.Int 32 ∷ []) None
    (node.Load global (r 0) (at 1)
    ∷ node.Bin op.Add (reg 0) (int 10) (r 1) (at 2)
    ∷ node.Store (reg 1) global (at 3)
    ∷ node.Ret None
    ∷ [])

abbrev either_kept : Kept
either_kept = record { start = next.Node (at 0); nexts = Some (next.Node (at 1) ∷ []) ∷ Some (next.Node (at 2) ∷ next.Node (at 4) ∷ []) ∷ Some (next.End ∷ []) ∷ None ∷ Some (next.End ∷ []) ∷ None ∷ [] }

abbrev ten_kept : Kept
ten_kept = record { start = next.Node (at 0); nexts = Some (next.Node (at 1) ∷ []) ∷ Some (next.Node (at 2) ∷ []) ∷ Some (next.End ∷ []) ∷ None ∷ [] }

abbrev writer_then_reader : Setting
writer_then_reader = setting (writes_either ∷ adds_ten ∷ getchar ∷ main_of (type.Int 32 ∷ type.Int 32 ∷ [])
    (node.Call (func 2) [] (Some (r 0)) (at 1)
    ∷ node.Call (func 0) (reg 0 ∷ []) None (at 2)
    ∷ node.Call (func 1) [] None (at 3)
    ∷ node.Load global (r 1) (at 4)
    ∷ node.Ret (Some (reg 1))
    ∷ []) ∷ []) 3 (func 0 ∷ func 1 ∷ []) (cells ∷ cells ∷ [] ∷ [] ∷ []) (either_kept ∷ ten_kept ∷ [])
    1 ((0 ∷ []) ∷ (1 ∷ []) ∷ []) 1024

-- a recovery that needs a recovery of its own; two of four combinations are dropped
merges_nested : lines writer_then_reader ≡ Complete (0 ∷ []) 11 18 ∷ Complete (1 ∷ []) 12 18 ∷ []
unfolding folded_one folded_two folded_choice folded_join same
merges_nested = refl

-- 100 / x is written
abbrev divides : Func
divides = with_params 1 (function (type.Int 32 ∷ type.Int 32 ∷ []) None
    (node.Bin op.Udiv (int 100) (reg 0) (r 1) (at 1)
    ∷ node.Store (reg 1) global (at 2)
    ∷ node.Ret None
    ∷ []))

abbrev divides_kept : Kept
divides_kept = record { start = next.Node (at 0); nexts = Some (next.Node (at 1) ∷ []) ∷ Some (next.End ∷ []) ∷ None ∷ [] }

abbrev fault_before_write : Setting
fault_before_write = setting (divides ∷ getchar ∷ main_of (type.Int 32 ∷ type.Int 32 ∷ [])
    (node.Call (func 1) [] (Some (r 0)) (at 1)
    ∷ node.Call (func 0) (reg 0 ∷ []) None (at 2)
    ∷ node.Load global (r 1) (at 3)
    ∷ node.Ret (Some (reg 1))
    ∷ []) ∷ []) 2 (func 0 ∷ []) (cells ∷ [] ∷ [] ∷ []) (divides_kept ∷ [])
    1 ((0 ∷ []) ∷ (1 ∷ []) ∷ []) 1024

-- a recovery that faults leaves a skipped state
skips_a_fault : lines fault_before_write ≡ Complete (1 ∷ []) 100 10 ∷ Skipped (0 ∷ []) fault.DivideByZero 0 7 ∷ []
unfolding folded_one folded_two folded_choice folded_join same
skips_a_fault = refl

-- the byte read is compared with -1, and each verdict is spent
abbrev asks : Func
asks = main_of (type.Int 32 ∷ type.Int 1 ∷ [])
    (node.Call (func 0) [] (Some (r 0)) (at 1)
    ∷ node.Cmp pred.Eq (reg 0) (int 4294967295) (r 1) (at 2)
    ∷ node.Branch (reg 1) (at 3) (at 4)
    ∷ node.Ret (Some (int 1))
    ∷ node.Ret (Some (int 0))
    ∷ [])

spends_a_verdict : lines (record (setting (getchar ∷ asks ∷ []) 1 [] [] [] 1 [] 8) { verdict = λ condition budget. Spent })
    ≡ Open None cause.Solver 5 ∷ Complete (0 ∷ []) 0 6 ∷ []
unfolding folded_one folded_two folded_choice folded_join same
spends_a_verdict = refl

-- five steps aren't enough, six are
lacks_steps : lines (record (compares_setting 8) { steps = 5 }) ≡ Open (Some (0 ∷ [])) cause.Steps 100 ∷ Open (Some (65 ∷ [])) cause.Steps 100 ∷ []
unfolding folded_one folded_two folded_choice folded_join same
lacks_steps = refl

abbrev wide : ℕ → Operand
wide n = operand.Int (record { width = 64; bits = n })

-- two nodes, the first with 3 and a pointer to the second, which has 4
abbrev links : Func
links = function (type.Ptr ∷ type.Ptr ∷ type.Ptr ∷ []) None
    (node.Malloc (wide 16) (Some (r 0)) (at 1)
    ∷ node.Malloc (wide 16) (Some (r 1)) (at 2)
    ∷ node.Store (int 3) (reg 0) (at 3)
    ∷ node.Gep (reg 0) (Field 8 ∷ []) (r 2) (at 4)
    ∷ node.Store (reg 1) (reg 2) (at 5)
    ∷ node.Store (int 4) (reg 1) (at 6)
    ∷ node.Store (reg 0) global (at 7)
    ∷ node.Ret None
    ∷ [])

abbrev goes : ℕ → Option (List Next)
goes n = Some (next.Node (at n) ∷ [])

abbrev stops : Option (List Next)
stops = Some (next.End ∷ [])

abbrev links_kept : Location → Kept
links_kept (location.Cells (site.Global g)) = record { start = next.Node (at 0); nexts = goes 6 ∷ None ∷ None ∷ None ∷ None ∷ None ∷ stops ∷ None ∷ [] }
links_kept (location.Cells (site.Node f n)) = elim (n.0 == 0) [
  | true ↦ record { start = next.Node (at 0); nexts = goes 1 ∷ goes 2 ∷ goes 3 ∷ goes 4 ∷ stops ∷ None ∷ None ∷ None ∷ [] }
  | false ↦ record { start = next.Node (at 1); nexts = None ∷ goes 5 ∷ None ∷ None ∷ None ∷ stops ∷ None ∷ None ∷ [] }
]
links_kept (location.Life (site.Node f n)) = elim (n.0 == 0) [
  | true ↦ record { start = next.Node (at 0); nexts = stops ∷ None ∷ None ∷ None ∷ None ∷ None ∷ None ∷ None ∷ [] }
  | false ↦ record { start = next.Node (at 1); nexts = None ∷ stops ∷ None ∷ None ∷ None ∷ None ∷ None ∷ None ∷ [] }
]
links_kept _ = record { start = next.End; nexts = [] }

abbrev node_site : ℕ → Site
node_site n = site.Node (func 0) (at n)

abbrev linked_nodes : Setting
linked_nodes = record {
  program = record {
    globals = record { name = []; size = 8; init = [] } ∷ [];
    funcs = links ∷ main_of (type.Ptr ∷ type.Int 32 ∷ type.Ptr ∷ type.Ptr ∷ type.Int 32 ∷ type.Int 32 ∷ [])
        (node.Call (func 0) [] None (at 1)
        ∷ node.Load global (r 0) (at 2)
        ∷ node.Load (reg 0) (r 1) (at 3)
        ∷ node.Gep (reg 0) (Field 8 ∷ []) (r 2) (at 4)
        ∷ node.Load (reg 2) (r 3) (at 5)
        ∷ node.Load (reg 3) (r 4) (at 6)
        ∷ node.Bin op.Add (reg 1) (reg 4) (r 5) (at 7)
        ∷ node.Ret (Some (reg 5))
        ∷ []) ∷ [];
    main = func 1;
    defined = 2;
  };
  skips = func 0 ∷ [];
  mods = (location.Cells (site.Global 0) ∷ location.Cells (node_site 0) ∷ location.Cells (node_site 1) ∷ location.Life (node_site 0) ∷ location.Life (node_site 1) ∷ []) ∷ [] ∷ [];
  slice = λ g place. record { funcs = links_kept place ∷ [] };
  inputs = 0;
  steps = 100;
  shares = 8;
  verdict = λ condition budget. Unsat;
}

-- pointers out of a skipped call, and the life and the cells of its objects
recovers_linked_nodes : lines linked_nodes ≡ Complete [] 7 24 ∷ []
unfolding folded_one folded_two folded_choice folded_join same
recovers_linked_nodes = refl
