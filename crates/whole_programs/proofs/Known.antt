-- The functions that a module may call without defining them are whole: a test on functions that call none and name no global, and what it says.
use Rattle.std.proofs.Common.{◌≡◌, ℕ, ◌<◌, ◌^◌, Bool, true, false, ◌&&◌, List, [], ◌∷◌, length, refl, All, eqb-true}
use Rattle.std.specs.Prelude.{nat_le, nat_lt, ◌==◌}
use Rattle.std.specs.List.{AllByRecursion, list_all}
use Rattle.std.proofs.lemmas.Bool.{leb-true, ltb-true}
use Rattle.std.proofs.lemmas.List.Elements.{All-from_recursion, All-nil}
use Rattle.flat_ir.specs.declared.names.NodeId.{NodeId}
use Rattle.flat_ir.specs.declared.names.RegId.{RegId}
use Rattle.flat_ir.specs.declared.nodes.Operand.{Operand}
use Rattle.flat_ir.specs.declared.nodes.Operand.TheVariants as operand
use Rattle.flat_ir.specs.declared.nodes.RegType.{RegType}
use Rattle.flat_ir.specs.declared.nodes.RegType.TheVariants as type
use Rattle.flat_ir.specs.declared.nodes.Node.{Node}
use Rattle.flat_ir.specs.declared.nodes.Node.TheVariants as node
use Rattle.flat_ir.specs.declared.program.Func.{Func}
use Rattle.flat_ir.specs.Whole.{OperandIn, operands_of, results_of, successors_of, NamesIn, IsWidth, IsNodeOf, IsFuncOf}
use Rattle.prelude.specs.Prelude.{functions}
use Rattle.ir_programs.specs.Readable.{is_width}
use Rattle.ir_programs.specs.Causes.{is_empty}
use Rattle.whole_programs.proofs.Lists.{left_true, right_true, listed, weaker}
use Rattle.whole_programs.proofs.Types.{width_is}

abbrev is_operand_below : ℕ → Operand → Bool
is_operand_below regs (operand.Reg r) = nat_lt r.0 regs
is_operand_below regs (operand.Int n) = true
is_operand_below regs operand.Null = true
is_operand_below regs (operand.Global g offset) = false

abbrev names_none : Node → Bool
names_none (node.Call callee args result next) = false
names_none (node.Alloca size result next) = false
names_none _ = true

abbrev is_node_below : ℕ → ℕ → Node → Bool
is_node_below regs nodes n =
    list_all (is_operand_below regs) (operands_of n) && (list_all (λ (r : RegId). nat_lt r.0 regs) (results_of n) && (list_all (λ (s : NodeId). nat_lt s.0 nodes) (successors_of n) && names_none n))

abbrev is_type : RegType → Bool
is_type (type.Int width) = is_width width
is_type type.Ptr = true

-- such a function is whole in each program
abbrev is_alone : Func → Bool
is_alone f =
    nat_le (length f.nodes) (2 ^ 32)
    && (nat_le (length f.regs) (2 ^ 32)
    && (nat_lt 0 (length f.nodes)
    && ((length f.reg_names == length f.regs)
    && (nat_le f.params (length f.regs)
    && (list_all is_type f.regs
    && (list_all (is_node_below (length f.regs) (length f.nodes)) f.nodes
    && (is_empty f.clashes && is_empty f.bad_edges)))))))

operand_in : (globals regs : ℕ) (o : Operand) → is_operand_below regs o ≡ true → OperandIn globals regs o
operand_in globals regs (operand.Reg r) h = ltb-true r.0 regs h
operand_in globals regs (operand.Int n) h = tt
operand_in globals regs operand.Null h = tt
operand_in globals regs (operand.Global g offset) h = absurd cc

names_in : (funcs : ℕ) (n : Node) → names_none n ≡ true → NamesIn funcs n
names_in funcs (node.Call callee args result next) h = absurd cc
names_in funcs (node.Alloca size result next) h = absurd cc
names_in funcs _ h = tt

each_is : {A : Type 0} (P : A → Type 0) (test : A → Bool) → ((x : A) → test x ≡ true → P x) → (xs : List A) → list_all test xs ≡ true → All P xs
each_is P test f xs h = All-from_recursion P xs (weaker f xs (listed test xs h))

node_is : (globals funcs regs nodes : ℕ) (n : Node) → is_node_below regs nodes n ≡ true → IsNodeOf globals funcs regs nodes n
node_is globals funcs regs nodes n h =
    let rest = right_true (list_all (is_operand_below regs) (operands_of n)) _ h in
    let last = right_true (list_all (λ (r : RegId). nat_lt r.0 regs) (results_of n)) _ rest in
    record {
      operands = each_is (OperandIn globals regs) (is_operand_below regs) (operand_in globals regs) (operands_of n) (left_true (list_all (is_operand_below regs) (operands_of n)) _ h);
      results = each_is (λ (r : RegId). r.0 < regs) (λ (r : RegId). nat_lt r.0 regs) (λ r k. ltb-true r.0 regs k) (results_of n) (left_true (list_all (λ (r : RegId). nat_lt r.0 regs) (results_of n)) _ rest);
      successors = each_is (λ (s : NodeId). s.0 < nodes) (λ (s : NodeId). nat_lt s.0 nodes) (λ s k. ltb-true s.0 nodes k) (successors_of n) (left_true (list_all (λ (s : NodeId). nat_lt s.0 nodes) (successors_of n)) _ last);
      names = names_in funcs n (right_true (list_all (λ (s : NodeId). nat_lt s.0 nodes) (successors_of n)) _ last);
    }

type_is : (t : RegType) → is_type t ≡ true → IsWidth t
type_is (type.Int width) h = width_is width h
type_is type.Ptr h = tt

none_there : {A : Type 0} (P : A → Type 0) (xs : List A) → is_empty xs ≡ true → All P xs
none_there P [] h = All-nil P
none_there P (x ∷ xs) h = absurd cc

alone_is : (globals funcs : ℕ) (f : Func) → is_alone f ≡ true → IsFuncOf globals funcs f
alone_is globals funcs f h =
    let regs = right_true (nat_le (length f.nodes) (2 ^ 32)) _ h in
    let some = right_true (nat_le (length f.regs) (2 ^ 32)) _ regs in
    let named = right_true (nat_lt 0 (length f.nodes)) _ some in
    let params = right_true (length f.reg_names == length f.regs) _ named in
    let widths = right_true (nat_le f.params (length f.regs)) _ params in
    let nodes = right_true (list_all is_type f.regs) _ widths in
    let lists = right_true (list_all (is_node_below (length f.regs) (length f.nodes)) f.nodes) _ nodes in
    record {
      few_nodes = leb-true (length f.nodes) (2 ^ 32) (left_true (nat_le (length f.nodes) (2 ^ 32)) _ h);
      few_regs = leb-true (length f.regs) (2 ^ 32) (left_true (nat_le (length f.regs) (2 ^ 32)) _ regs);
      nonempty = ltb-true 0 (length f.nodes) (left_true (nat_lt 0 (length f.nodes)) _ some);
      named = eqb-true (length f.reg_names) (length f.regs) (left_true (length f.reg_names == length f.regs) _ named);
      params = leb-true f.params (length f.regs) (left_true (nat_le f.params (length f.regs)) _ params);
      widths = each_is IsWidth is_type type_is f.regs (left_true (list_all is_type f.regs) _ widths);
      nodes = each_is (IsNodeOf globals funcs (length f.regs) (length f.nodes)) (is_node_below (length f.regs) (length f.nodes)) (node_is globals funcs (length f.regs) (length f.nodes)) f.nodes (left_true (list_all (is_node_below (length f.regs) (length f.nodes)) f.nodes) _ nodes);
      clashes = none_there (λ (n : NodeId). n.0 < length f.nodes) f.clashes (left_true (is_empty f.clashes) (is_empty f.bad_edges) lists);
      bad_edges = none_there (λ (n : NodeId). n.0 < length f.nodes) f.bad_edges (right_true (is_empty f.clashes) (is_empty f.bad_edges) lists);
    }

pub known_whole : (globals funcs : ℕ) → AllByRecursion (IsFuncOf globals funcs) functions
known_whole globals funcs = weaker (alone_is globals funcs) functions (listed is_alone functions refl)
