-- The program of steps names nothing but its own.
use Rattle.std.specs.Prelude.{slice_get}
use Rattle.std.proofs.Common.{◌≡◌, ◌<◌, ◌≤◌, ◌+◌, ◌*◌, ℕ, zero, suc, List, [], ◌∷◌, ◌++◌, None, Some, length, replicate, refl, arith, length-append}
use Rattle.std.specs.List.{AllByRecursion as Each}
use Rattle.std.proofs.lemmas.List.Elements.{All-from_recursion}
use Rattle.flat_ir.specs.declared.names.NodeId.{NodeId}
use Rattle.flat_ir.specs.declared.names.RegId.{RegId}
use Rattle.flat_ir.specs.declared.nodes.Node.{Node}
use Rattle.flat_ir.specs.declared.nodes.Node.TheVariants as node
use Rattle.flat_ir.specs.declared.nodes.RegType.TheVariants as type
use Rattle.flat_ir.specs.declared.program.Func.{Func}
use Rattle.flat_ir.specs.Whole.{IsWhole, IsFuncOf, IsNodeOf, IsGlobalOf, InitIn, IsWidth, OperandIn, NamesIn, operands_of, results_of, successors_of}
use Rattle.bench_programs.proofs.Whole.{NodeIn, is_node, both_each, repeated, long}
use Rattle.bench_programs.specs.Stepping.{at, branches, adds, steps, stores, stepping, call, calls, returns, calling, the_global, program}

-- ---- a function of steps

many_steps : (k : ℕ) → length (steps k) ≡ 2 * k
many_steps zero = refl
many_steps (suc k) = omega (arith, length-append (steps k ++ branches k ∷ []) (adds k ∷ []), length-append (steps k) (branches k ∷ []), many_steps k)

steps_are : (funcs nodes k : ℕ) → 2 * k < nodes → Each (IsNodeOf 1 funcs 1 nodes) (steps k)
steps_are funcs nodes zero few = tt
steps_are funcs nodes (suc k) few =
    both_each (IsNodeOf 1 funcs 1 nodes) (steps k ++ branches k ∷ []) (adds k ∷ [])
    (both_each (IsNodeOf 1 funcs 1 nodes) (steps k) (branches k ∷ []) (steps_are funcs nodes k (omega (arith, few)))
    (is_node 1 funcs 1 nodes (branches k) (tt, tt) tt (omega (arith, few), (omega (arith, few), tt)) tt, tt))
    (is_node 1 funcs 1 nodes (adds k) (omega arith, (tt, tt)) (omega arith, tt) (omega (arith, few), tt) tt, tt)

stepping_is : (funcs k : ℕ) → k ≤ 1000000 → IsFuncOf 1 funcs (stepping k)
stepping_is funcs k few =
    let N : ℕ = length (steps k ++ stores k ∷ [] ++ node.Ret None ∷ []) in
    let many : N ≡ 2 * k + 2 = omega (arith, length-append (steps k ++ stores k ∷ []) (node.Ret None ∷ []), length-append (steps k) (stores k ∷ []), many_steps k) in
    record {
      few_nodes = omega (arith, many);
      few_regs = omega arith;
      nonempty = omega (arith, many);
      named = refl;
      params = omega arith;
      widths = All-from_recursion IsWidth (type.Int 32 ∷ []) ((omega arith, omega arith), tt);
      nodes = All-from_recursion (IsNodeOf 1 funcs 1 N) (steps k ++ stores k ∷ [] ++ node.Ret None ∷ [])
          (both_each (IsNodeOf 1 funcs 1 N) (steps k ++ stores k ∷ []) (node.Ret None ∷ [])
          (both_each (IsNodeOf 1 funcs 1 N) (steps k) (stores k ∷ []) (steps_are funcs N k (omega (arith, many)))
          (is_node 1 funcs 1 N (stores k) (omega arith, (omega arith, tt)) tt (omega (arith, many), tt) tt, tt))
          (is_node 1 funcs 1 N (node.Ret None) tt tt tt tt, tt));
      clashes = All-from_recursion (NodeIn N) [] tt;
      bad_edges = All-from_recursion (NodeIn N) [] tt;
    }

-- ---- main

many_calls : (k : ℕ) → length (calls k) ≡ k
many_calls zero = refl
many_calls (suc k) = omega (arith, length-append (calls k) (call k ∷ []), many_calls k)

calls_are : (funcs nodes k : ℕ) → k ≤ funcs → k < nodes → Each (IsNodeOf 1 funcs 0 nodes) (calls k)
calls_are funcs nodes zero few more = tt
calls_are funcs nodes (suc k) few more =
    both_each (IsNodeOf 1 funcs 0 nodes) (calls k) (call k ∷ []) (calls_are funcs nodes k (omega (arith, few)) (omega (arith, more)))
    (is_node 1 funcs 0 nodes (call k) tt tt (omega (arith, more), tt) (omega (arith, few)), tt)

calling_is : (funcs k : ℕ) → k ≤ funcs → k ≤ 1000000 → IsFuncOf 1 funcs (calling k)
calling_is funcs k few less =
    let N : ℕ = length (calls k ++ returns ∷ []) in
    let many : N ≡ k + 1 = omega (arith, length-append (calls k) (returns ∷ []), many_calls k) in
    record {
      few_nodes = omega (arith, many);
      few_regs = omega arith;
      nonempty = omega (arith, many);
      named = refl;
      params = omega arith;
      widths = All-from_recursion IsWidth [] tt;
      nodes = All-from_recursion (IsNodeOf 1 funcs 0 N) (calls k ++ returns ∷ [])
          (both_each (IsNodeOf 1 funcs 0 N) (calls k) (returns ∷ []) (calls_are funcs N k few (omega (arith, many))) (is_node 1 funcs 0 N returns (tt, tt) tt tt tt, tt));
      clashes = All-from_recursion (NodeIn N) [] tt;
      bad_edges = All-from_recursion (NodeIn N) [] tt;
    }

-- ---- the program

last_is : {A : Type 0} (k : ℕ) (a b : A) → slice_get (replicate k a ++ b ∷ []) k ≡ Some b
last_is zero a b = refl
last_is (suc k) a b = last_is k a b

pub program_is_whole : (k functions : ℕ) → k ≤ 1000000 → functions ≤ 1000000 → IsWhole (program k functions)
program_is_whole k functions few less =
    let fs : List Func = replicate functions (stepping k) ++ calling functions ∷ [] in
    let F : ℕ = length fs in
    let many : F ≡ functions + 1 = omega (arith, length-append (replicate functions (stepping k)) (calling functions ∷ []), long functions (stepping k)) in
    record {
      few_globals = omega arith;
      few_funcs = omega (arith, many);
      globals = All-from_recursion (IsGlobalOf 1) (the_global ∷ []) (record { small = omega arith; fits = omega arith; init = All-from_recursion (InitIn 1) [] tt }, tt);
      funcs = All-from_recursion (IsFuncOf 1 F) fs
          (both_each (IsFuncOf 1 F) (replicate functions (stepping k)) (calling functions ∷ []) (repeated (IsFuncOf 1 F) functions (stepping k) (stepping_is F k few))
          (calling_is F functions (omega (arith, many)) less, tt));
      main = (calling functions, last_is functions (stepping k) (calling functions), record { params = refl; result = refl });
      defined = omega (arith, many);
    }
