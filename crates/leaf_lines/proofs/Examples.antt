-- Worked examples: whole reports, by computation.
use Rattle.std.proofs.Common.{◌≡◌, ℕ, true, false, List, [], ◌∷◌, Some, None, refl}
use Rattle.std.specs.Prelude.{Option, codes}
use Rattle.std.specs.Fmt.{digits}
use Rattle.bitnum.specs.declared.BinOp.TheVariants as op
use Rattle.terms.specs.Tree.{Tree, constant, input, one, two, choice}
use Rattle.terms.specs.declared.term.Unary.TheVariants.{Not, Zext, Sext, Trunc, Byte}
use Rattle.terms.specs.declared.term.Binary.TheVariants.{Bin, Eq, Ult, Slt, Join}
use Rattle.flat_ir.specs.declared.names.CallStep.{CallStep}
use Rattle.flat_ir.specs.declared.names.FuncId.{FuncId}
use Rattle.flat_ir.specs.declared.names.NodeId.{NodeId}
use Rattle.flat_ir.specs.declared.names.ObjectName.TheVariants.{Global, Made}
use Rattle.flat_ir.specs.declared.nodes.RegType.TheVariants as type
use Rattle.flat_ir.specs.declared.program.Func.{Func}
use Rattle.flat_ir.specs.declared.program.ProgramData.{ProgramData}
use Rattle.flat_ir.specs.declared.values.FaultKind.TheVariants as fault
use Rattle.sym_bytes.specs.declared.names.Base.TheVariants.{Null, Object}
use Rattle.sym_bytes.specs.Value.{Int, Ptr, Pending}
use Rattle.leaves.specs.declared.options.Cause.TheVariants as cause
use Rattle.leaves.specs.declared.options.Options.{Options}
use Rattle.leaves.specs.Events.{Event, Branch, Load, Recovered, Told, Complete, Fault, Skipped, Open}
use Rattle.leaf_lines.specs.Terms.{term_text}
use Rattle.leaf_lines.specs.Report.{report_of, leaf_lines}

-- ---- a program: a global, and three functions, one of whose names needs quotes

abbrev named : List ℕ → Func
named name = record { name = name; params = 0; regs = []; reg_names = []; result = None; nodes = []; clashes = []; bad_edges = [] }

abbrev program : ProgramData
program = record {
  globals = record { name = codes "g"; size = 4; init = [] } ∷ [];
  funcs = named (codes "main") ∷ named (codes "f") ∷ named (codes "a b") ∷ [];
  main = record { 0 = 0 };
  defined = 3;
}

abbrev func : ℕ → FuncId
func f = record { 0 = f }

abbrev node : ℕ → NodeId
node n = record { 0 = n }

abbrev execution : ℕ → ℕ → ℕ → CallStep
execution f n k = record { func = func f; node = node n; count = k }

abbrev number : ℕ → ℕ → Tree
number width bits = constant (record { width = width; bits = bits })

abbrev told : Option (List ℕ) → List Tree → List Event → List Recovered → Told
told kept condition path results = record { condition = condition; kept = kept; path = path; results = results; left = 7 }

abbrev options : Options
options = record { input = 2; steps = 10; leaves = 100; shares = 8; workers = 1; trace = true; conditions = true }

-- ---- leaves

-- the second side of a branch, and a load of the second input byte; two conjuncts
completes : report_of program options [] (Complete
    (told (Some (65 ∷ 7 ∷ [])) (two Eq (input 0) (number 8 65) ∷ one Not (two Ult (one (Zext 32) (input 1)) (number 32 7)) ∷ [])
    (Branch (func 0) (node 2) 1 ∷ Load (func 1) (node 3) (Int (input 1)) ∷ []) [])
    (input 1) (input 0 ∷ number 8 10 ∷ []) ∷ [])
    ≡ codes "options input=2 steps=10 leaves=100 shares=8\n1 complete input=4107 status=7 output=410a steps=3\n  branch main:2 1\n  load f:3 7\n  when (eq in0 65:8)\n  when (not (ult (zext 32 in1) 7:32))\ntotal 1 complete 1 fault 0 skipped 0 open 0\n"
unfolding digits
completes = refl

-- where no input is kept constants are known, and other numbers aren't
is_open : leaf_lines program options 4 (Open
    (told None (input 0 ∷ [])
    (Load (func 0) (node 1) (Int (input 1)) ∷ Load (func 0) (node 1) (Int (number 8 9))
    ∷ Load (func 2) (node 1) (Ptr (record { base = Null; offset = number 64 5 }))
    ∷ Load (func 2) (node 1) (Ptr (record { base = Object (Global 0); offset = one (Zext 64) (input 1) }))
    ∷ Load (func 0) (node 1) (Pending (record { 0 = 2 }) (type.Int 8)) ∷ []) [])
    cause.Solver)
    ≡ codes "4 open solver input=? steps=3\n  load main:1 ?\n  load main:1 9\n  load \"a b\":1 null+5\n  load \"a b\":1 @g+?\n  load main:1 call 2\n  when in0\n"
unfolding digits
is_open = refl

-- An object that the frame of a call in the frame of a call made. The second of the skipped calls returned what the first one
-- returned, and that is a pointer to it.
faults : leaf_lines program options 1 (Fault
    (told (Some (0 ∷ 200 ∷ [])) []
    (Load (func 2) (node 5) (Pending (record { 0 = 2 }) type.Ptr) ∷ [])
    (record {
      call = record { 0 = 1 };
      value = Ptr (record { base = Object (Made (execution 1 4 2 ∷ execution 0 3 1 ∷ []) (execution 2 0 6)); offset = one (Sext 64) (input 1) });
    }
    ∷ record { call = record { 0 = 2 }; value = Pending (record { 0 = 1 }) type.Ptr } ∷ []))
    fault.OutOfBounds (func 2) (node 9) [])
    ≡ codes "1 fault out-of-bounds at=\"a b\":9 input=00c8 output=- steps=3\n  load \"a b\":5 main:3#1/f:4#2/\"a b\":0#6+18446744073709551560\n"
unfolding digits
faults = refl

-- skipped functions are named below the options; nothing but the leaves' own lines is asked for
skips : report_of program (record options { trace = false; conditions = false }) (codes "f" ∷ codes "a b" ∷ [])
    (Skipped (told (Some []) (input 0 ∷ []) (Branch (func 0) (node 2) 1 ∷ []) []) fault.NullAccess (func 1) (node 0)
    ∷ Open (told (Some (1 ∷ [])) [] [] []) cause.Shares ∷ [])
    ≡ codes "options input=2 steps=10 leaves=100 shares=8\nskip f\nskip \"a b\"\n1 skipped null-access at=f:0 input=- steps=3\n2 open shares input=01 steps=3\ntotal 2 complete 0 fault 0 skipped 1 open 1\n"
unfolding digits
skips = refl

-- ---- terms

operations : term_text (choice (two Slt (two (Bin op.Ashr) (one (Trunc 8) (input 0)) (input 1)) (number 8 1)) (one (Byte 3) (one (Sext 32) (input 2))) (two (Bin op.Xor) (input 3) (number 8 0)))
    ≡ codes "(ite (slt (ashr (trunc 8 in0) in1) 1:8) (byte 3 (sext 32 in2)) (xor in3 0:8))"
unfolding digits
operations = refl

-- a join of four bytes
joins : term_text (two Join (input 0) (two Join (input 1) (two Join (input 2) (input 3)))) ≡ codes "(join in0 in1 in2 in3)"
unfolding digits
joins = refl

-- a join in another operation has brackets of its own
joins_apart : term_text (two (Bin op.Add) (two Join (input 0) (input 1)) (two Join (input 2) (two (Bin op.Or) (input 3) (two Join (input 4) (input 5)))))
    ≡ codes "(add (join in0 in1) (join in2 (or in3 (join in4 in5))))"
unfolding digits
joins_apart = refl
