-- The program of objects and choices names nothing but its own.
use Rattle.std.proofs.Common.{◌≡◌, ◌<◌, ◌≤◌, ◌+◌, ℕ, zero, suc, List, [], ◌∷◌, ◌++◌, length, replicate, refl, arith, length-append}
use Rattle.std.specs.List.{AllByRecursion as Each}
use Rattle.std.proofs.lemmas.List.Elements.{All-from_recursion}
use Rattle.flat_ir.specs.declared.names.NodeId.{NodeId}
use Rattle.flat_ir.specs.declared.names.RegId.{RegId}
use Rattle.flat_ir.specs.declared.nodes.Node.{Node}
use Rattle.flat_ir.specs.declared.nodes.RegType.TheVariants as type
use Rattle.flat_ir.specs.Whole.{IsWhole, IsFuncOf, IsNodeOf, IsGlobalOf, IsWidth, OperandIn, NamesIn, operands_of, results_of, successors_of}
use Rattle.bench_programs.proofs.Whole.{NodeIn, is_node, both_each, repeated, long}
use Rattle.bench_programs.specs.Choosing.{makes, chooses, makers, choosers, returns, choosing_main, choosing}

makers_are : (regs nodes k : ℕ) → k ≤ regs → regs < nodes → Each (IsNodeOf 0 1 regs nodes) (makers k)
makers_are regs nodes zero few more = tt
makers_are regs nodes (suc k) few more =
    both_each (IsNodeOf 0 1 regs nodes) (makers k) (makes k ∷ []) (makers_are regs nodes k (omega (arith, few)) more)
    (is_node 0 1 regs nodes (makes k) tt (omega (arith, few), tt) (omega (arith, few, more), tt) (omega arith), tt)

choosers_are : (regs nodes sites k : ℕ) → 0 < sites → sites + k ≤ regs → regs < nodes → Each (IsNodeOf 0 1 regs nodes) (choosers sites k)
choosers_are regs nodes sites zero some few more = tt
choosers_are regs nodes sites (suc k) some few more =
    both_each (IsNodeOf 0 1 regs nodes) (choosers sites k) (chooses sites (sites + k) ∷ []) (choosers_are regs nodes sites k some (omega (arith, few)) more)
    (is_node 0 1 regs nodes (chooses sites (sites + k)) (tt, (omega (arith, few, some), (omega (arith, few, some), tt))) (omega (arith, few), tt) (omega (arith, few, more), tt) tt, tt)

many_makers : (k : ℕ) → length (makers k) ≡ k
many_makers zero = refl
many_makers (suc k) = omega (arith, length-append (makers k) (makes k ∷ []), many_makers k)

many_choosers : (sites k : ℕ) → length (choosers sites k) ≡ k
many_choosers sites zero = refl
many_choosers sites (suc k) = omega (arith, length-append (choosers sites k) (chooses sites (sites + k) ∷ []), many_choosers sites k)

main_is : (sites choices : ℕ) → 0 < sites → sites < 2000000 → choices < 2000000 → IsFuncOf 0 1 (choosing_main sites choices)
main_is sites choices some few few' =
    let f = choosing_main sites choices in
    let nodes : List Node = makers sites ++ choosers sites choices in
    let many : length (nodes ++ returns ∷ []) ≡ sites + choices + 1 =
    omega (arith, length-append nodes (returns ∷ []), length-append (makers sites) (choosers sites choices), many_makers sites, many_choosers sites choices) in
    let regs : length (replicate (sites + choices) type.Ptr) ≡ sites + choices = long (sites + choices) type.Ptr in
    let R = length (replicate (sites + choices) type.Ptr) in
    let N = length (nodes ++ returns ∷ []) in
    record {
      few_nodes = omega (arith, many);
      few_regs = omega (arith, regs);
      nonempty = omega (arith, many);
      named = omega (arith, regs, long {A = List ℕ} (sites + choices) []);
      params = omega arith;
      widths = All-from_recursion IsWidth (replicate (sites + choices) type.Ptr) (repeated IsWidth (sites + choices) type.Ptr tt);
      nodes = All-from_recursion (IsNodeOf 0 1 R N) (nodes ++ returns ∷ [])
          (both_each (IsNodeOf 0 1 R N) nodes (returns ∷ [])
          (both_each (IsNodeOf 0 1 R N) (makers sites) (choosers sites choices) (makers_are R N sites (omega (arith, regs)) (omega (arith, regs, many)))
          (choosers_are R N sites choices some (omega (arith, regs)) (omega (arith, regs, many))))
          (is_node 0 1 R N returns (tt, tt) tt tt tt, tt));
      clashes = All-from_recursion (NodeIn N) [] tt;
      bad_edges = All-from_recursion (NodeIn N) [] tt;
    }

pub choosing_is_whole : (sites choices : ℕ) → 0 < sites → sites < 2000000 → choices < 2000000 → IsWhole (choosing sites choices)
choosing_is_whole sites choices some few few' = record {
  few_globals = omega arith;
  few_funcs = omega arith;
  globals = All-from_recursion (IsGlobalOf 0) [] tt;
  funcs = All-from_recursion (IsFuncOf 0 1) (choosing_main sites choices ∷ []) (main_is sites choices some few few', tt);
  main = (choosing_main sites choices, refl, record { params = refl; result = refl });
  defined = omega arith;
}
