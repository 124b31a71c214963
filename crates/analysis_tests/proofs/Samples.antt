-- The small program names nothing but its own.
use Rattle.std.proofs.Common.{◌<◌, ℕ, List, [], ◌∷◌, refl, arith}
use Rattle.std.specs.List.{AllByRecursion as Each}
use Rattle.std.proofs.lemmas.List.Elements.{All-from_recursion}
use Rattle.flat_ir.specs.declared.names.NodeId.{NodeId}
use Rattle.flat_ir.specs.declared.names.RegId.{RegId}
use Rattle.flat_ir.specs.declared.nodes.Node.{Node}
use Rattle.flat_ir.specs.declared.nodes.RegType.TheVariants as type
use Rattle.flat_ir.specs.Whole.{IsWhole, IsFuncOf, IsNodeOf, IsGlobalOf, InitIn, IsWidth, OperandIn, NamesIn, operands_of, results_of, successors_of}
use Rattle.analysis_tests.specs.Sample.{sample, sample_func, sample_main, sample_global, func_nodes, main_nodes}

abbrev RegIn : ℕ → RegId → Type 0
RegIn regs r = r.0 < regs

abbrev NodeIn : ℕ → NodeId → Type 0
NodeIn nodes n = n.0 < nodes

is_node : (regs nodes : ℕ) (x : Node) → Each (OperandIn 1 regs) (operands_of x) → Each (RegIn regs) (results_of x) → Each (NodeIn nodes) (successors_of x) → NamesIn 2 x → IsNodeOf 1 2 regs nodes x
is_node regs nodes x reads sets leads calls = record {
  operands = All-from_recursion (OperandIn 1 regs) (operands_of x) reads;
  results = All-from_recursion (RegIn regs) (results_of x) sets;
  successors = All-from_recursion (NodeIn nodes) (successors_of x) leads;
  names = calls;
}

func_nodes_are : Each (IsNodeOf 1 2 3 8) func_nodes
func_nodes_are = (
  is_node 3 8 _ tt tt (omega arith, tt) tt,
  (
    is_node 3 8 _ (omega arith, (tt, tt)) (omega arith, tt) (omega arith, tt) tt,
    (
      is_node 3 8 _ (omega arith, (tt, tt)) (omega arith, tt) (omega arith, tt) tt,
      (
        is_node 3 8 _ (omega arith, tt) tt (omega arith, (omega arith, tt)) tt,
        (
          is_node 3 8 _ (tt, (omega arith, tt)) tt (omega arith, tt) tt,
          (is_node 3 8 _ tt tt tt tt, (is_node 3 8 _ (tt, tt) (omega arith, tt) (omega arith, tt) tt, (is_node 3 8 _ (omega arith, tt) (omega arith, tt) (omega arith, tt) tt, tt))),
        ),
      ),
    ),
  ),
)

main_nodes_are : Each (IsNodeOf 1 2 1 3) main_nodes
main_nodes_are = (
  is_node 1 3 _ tt tt (omega arith, tt) (omega arith),
  (is_node 1 3 _ (omega arith, tt) (omega arith, tt) (omega arith, tt) tt, (is_node 1 3 _ (omega arith, tt) tt tt tt, tt)),
)

func_is : IsFuncOf 1 2 sample_func
func_is = record {
  few_nodes = omega arith;
  few_regs = omega arith;
  nonempty = omega arith;
  named = refl;
  params = omega arith;
  widths = All-from_recursion IsWidth (type.Int 32 ∷ type.Int 32 ∷ type.Int 1 ∷ []) ((omega arith, omega arith), ((omega arith, omega arith), ((omega arith, omega arith), tt)));
  nodes = All-from_recursion (IsNodeOf 1 2 3 8) func_nodes func_nodes_are;
  clashes = All-from_recursion (NodeIn 8) [] tt;
  bad_edges = All-from_recursion (NodeIn 8) [] tt;
}

main_is : IsFuncOf 1 2 sample_main
main_is = record {
  few_nodes = omega arith;
  few_regs = omega arith;
  nonempty = omega arith;
  named = refl;
  params = omega arith;
  widths = All-from_recursion IsWidth (type.Int 32 ∷ []) ((omega arith, omega arith), tt);
  nodes = All-from_recursion (IsNodeOf 1 2 1 3) main_nodes main_nodes_are;
  clashes = All-from_recursion (NodeIn 3) [] tt;
  bad_edges = All-from_recursion (NodeIn 3) [] tt;
}

global_is : IsGlobalOf 1 sample_global
global_is = record { small = omega arith; fits = omega arith; init = All-from_recursion (InitIn 1) [] tt }

pub sample_is_whole : IsWhole sample
sample_is_whole = record {
  few_globals = omega arith;
  few_funcs = omega arith;
  globals = All-from_recursion (IsGlobalOf 1) (sample_global ∷ []) (global_is, tt);
  funcs = All-from_recursion (IsFuncOf 1 2) (sample_func ∷ sample_main ∷ []) (func_is, (main_is, tt));
  main = (sample_main, refl, record { params = refl; result = refl });
  defined = omega arith;
}
