-- Worked examples: which reads of a small function are refused.
use Rattle.std.proofs.Common.{◌≡◌, ◌<◌, ◌≤◌, ℕ, zero, suc, List, [], ◌∷◌, Some, None, All, length, refl, sym, ap, subst, arith, ⊎_elim}
use Rattle.std.specs.Prelude.{slice_get}
use Rattle.std.specs.List.{Contains}
use Rattle.std.proofs.lemmas.List.Elements.{All-from_recursion, All-same, All-nil, Contains-push_cases}
use Rattle.flat_ir.specs.declared.names.NodeId.{NodeId}
use Rattle.flat_ir.specs.declared.names.RegId.{RegId}
use Rattle.flat_ir.specs.declared.nodes.CastOp.TheVariants as cast
use Rattle.flat_ir.specs.declared.nodes.Node.{Node}
use Rattle.flat_ir.specs.declared.nodes.Node.TheVariants as node
use Rattle.flat_ir.specs.declared.nodes.Operand.TheVariants as operand
use Rattle.flat_ir.specs.declared.nodes.RegType.TheVariants as type
use Rattle.flat_ir.specs.declared.program.Func.{Func}
use Rattle.flat_ir.specs.Whole.{results_of, successors_of}
use Rattle.flow.specs.Flow.{Leads, entry, goes, IsSet, IsUndefined, AreDefined, reads}
use Rattle.flow.specs.Named.{IsNamed}
use Rattle.flow.proofs.Bridges.{none_there, no_set, still_unset, same_node, first_or_later}

abbrev pub at : ℕ → NodeId
at k = record { 0 = k }

abbrev pub r : ℕ → RegId
r k = record { 0 = k }

-- a function of one parameter of one bit, and one more register
abbrev pub func : List Node → Func
func nodes = record { name = []; params = 1; regs = type.Int 1 ∷ type.Int 8 ∷ []; reg_names = []; result = None; nodes = nodes; clashes = []; bad_edges = [] }

abbrev pub branch : Node
branch = node.Branch (operand.Reg (r 0)) (at 1) (at 2)

-- the second register is set on one side of the branch alone
abbrev pub one_side : List Node
one_side = branch ∷ node.In (r 1) (at 2) ∷ node.Ret (Some (operand.Reg (r 1))) ∷ []

-- on the other side it is read
set_on_one_side : IsUndefined (func one_side) (at 2) (r 1)
set_on_one_side = record {
  node = node.Ret (Some (operand.Reg (r 1)));
  there = refl;
  read = (0, omega arith, refl);
  no_param = omega arith;
  before = at 0 ∷ [];
  leads = goes branch entry refl (1, omega arith, refl);
  unset = still_unset (func one_side) (r 1) (at 0) branch [] refl (none_there (r 1)) (no_set (func one_side) (r 1));
}

-- a node that reads what it sets, and leads to itself
abbrev own_loop : List Node
own_loop = node.Cast cast.Zext (operand.Reg (r 1)) (r 1) (at 0) ∷ []

-- at the first turn nothing has set it
own_result : IsUndefined (func own_loop) (at 0) (r 1)
own_result = record {
  node = node.Cast cast.Zext (operand.Reg (r 1)) (r 1) (at 0);
  there = refl;
  read = (0, omega arith, refl);
  no_param = omega arith;
  before = [];
  leads = entry;
  unset = no_set (func own_loop) (r 1);
}

-- a parameter is written, and then the function returns
abbrev parameter : List Node
parameter = node.Put (operand.Reg (r 0)) (at 1) ∷ node.Ret None ∷ []

one_read : (s t : RegId) → Contains (s ∷ []) t → s ≡ t
one_read s t h = ⊎_elim (λ no. absurd (none_there t no)) (λ e. e) (Contains-push_cases [] s t h)

parameter_read : (n : ℕ) (x : Node) (s : RegId) → slice_get parameter n ≡ Some x → Contains (reads x) s → s ≡ r 0
parameter_read zero x s there read =
    let e : x ≡ node.Put (operand.Reg (r 0)) (at 1) = same_node x (node.Put (operand.Reg (r 0)) (at 1)) (slice_get parameter 0) there refl in
    sym (one_read (r 0) s (subst (λ (y : Node). Contains (reads y) s) e read))
parameter_read (suc zero) x s there read =
    let e : x ≡ node.Ret None = same_node x (node.Ret None) (slice_get parameter 1) there refl in
    absurd (none_there s (subst (λ (y : Node). Contains (reads y) s) e read))
parameter_read (suc (suc n)) x s there read = absurd (cc)

-- a parameter needs no setting
a_parameter_is_set : AreDefined (func parameter)
a_parameter_is_set n s u =
    let zero' : s.0 ≡ 0 = ap (λ (t : RegId). t.0) (parameter_read n.0 u.node s u.there u.read) in
    let above : 1 ≤ s.0 = u.no_param in absurd (omega arith)

-- the second register is set on both sides of the branch
abbrev both_sides : List Node
both_sides = branch ∷ node.In (r 1) (at 3) ∷ node.In (r 1) (at 3) ∷ node.Ret (Some (operand.Reg (r 1))) ∷ []

-- only the last node reads it
last_reads : (n : ℕ) (x : Node) (s : RegId) → slice_get both_sides n ≡ Some x → Contains (reads x) s → 1 ≤ s.0 → (n ≡ 3) × (s ≡ r 1)
last_reads zero x s there read above =
    let e : x ≡ branch = same_node x branch (slice_get both_sides 0) there refl in
    let zero' : 0 ≡ s.0 = ap (λ (t : RegId). t.0) (one_read (r 0) s (subst (λ (y : Node). Contains (reads y) s) e read)) in absurd (omega arith)
last_reads (suc zero) x s there read above =
    let e : x ≡ node.In (r 1) (at 3) = same_node x (node.In (r 1) (at 3)) (slice_get both_sides 1) there refl in
    absurd (none_there s (subst (λ (y : Node). Contains (reads y) s) e read))
last_reads (suc (suc zero)) x s there read above =
    let e : x ≡ node.In (r 1) (at 3) = same_node x (node.In (r 1) (at 3)) (slice_get both_sides 2) there refl in
    absurd (none_there s (subst (λ (y : Node). Contains (reads y) s) e read))
last_reads (suc (suc (suc zero))) x s there read above =
    let e : x ≡ node.Ret (Some (operand.Reg (r 1))) = same_node x (node.Ret (Some (operand.Reg (r 1)))) (slice_get both_sides 3) there refl in
    (refl, sym (one_read (r 1) s (subst (λ (y : Node). Contains (reads y) s) e read)))
last_reads (suc (suc (suc (suc n)))) x s there read above = absurd (cc)

-- each node that leads to the last one sets it
before_last : (n : ℕ) (x : Node) (m : NodeId) → slice_get both_sides n ≡ Some x → Contains (successors_of x) m → m.0 ≡ 3 → Contains (results_of x) (r 1)
before_last zero x m there edge last =
    let e : x ≡ branch = same_node x branch (slice_get both_sides 0) there refl in
    ⊎_elim (λ one. let k : 1 ≡ m.0 = ap (λ (t : NodeId). t.0) one in absurd (omega arith))
    (λ more. ⊎_elim (λ no. absurd (none_there m no)) (λ two. let k : 2 ≡ m.0 = ap (λ (t : NodeId). t.0) two in absurd (omega arith)) (Contains-push_cases [] (at 2) m more))
    (first_or_later (at 1) (at 2 ∷ []) m (subst (λ (y : Node). Contains (successors_of y) m) e edge))
before_last (suc zero) x m there edge last =
    let e : x ≡ node.In (r 1) (at 3) = same_node x (node.In (r 1) (at 3)) (slice_get both_sides 1) there refl in
    subst (λ (y : Node). Contains (results_of y) (r 1)) (sym e) (0, omega arith, refl)
before_last (suc (suc zero)) x m there edge last =
    let e : x ≡ node.In (r 1) (at 3) = same_node x (node.In (r 1) (at 3)) (slice_get both_sides 2) there refl in
    subst (λ (y : Node). Contains (results_of y) (r 1)) (sym e) (0, omega arith, refl)
before_last (suc (suc (suc zero))) x m there edge last =
    let e : x ≡ node.Ret (Some (operand.Reg (r 1))) = same_node x (node.Ret (Some (operand.Reg (r 1)))) (slice_get both_sides 3) there refl in
    absurd (none_there m (subst (λ (y : Node). Contains (successors_of y) m) e edge))
before_last (suc (suc (suc (suc n)))) x m there edge last = absurd (cc)

set_before_last : (before : List NodeId) (n : NodeId) → Leads (func both_sides) before n → n.0 ≡ 3 → IsSet (func both_sides) before (r 1)
set_before_last before n entry last = absurd (omega arith)
set_before_last before n (goes {n = m} x p there edge) last =
    record { at' = m; node = x; among = (0, omega arith, refl); there = there; sets = before_last m.0 x n there edge last }

-- so it is set where it is read
set_on_both_sides : AreDefined (func both_sides)
set_on_both_sides n s u =
    let last = last_reads n.0 u.node s u.there u.read u.no_param in
    u.unset (subst (λ (t : RegId). IsSet (func both_sides) u.before t) (sym last.1) (set_before_last u.before n u.leads last.0))

-- a function with two registers and those nodes names its own
pub one_side_is_named : (f : Func) → length f.regs ≡ 2 → f.nodes ≡ one_side → IsNamed f
one_side_is_named f regs nodes =
    let size : length f.nodes ≡ 3 = ap length nodes in
    let reg : RegId → Type 0 = λ t. t.0 < length f.regs in
    let node' : NodeId → Type 0 = λ t. t.0 < length f.nodes in
    record {
      few_nodes = omega arith;
      few_regs = omega arith;
      nonempty = omega arith;
      reads = All-same (λ (x : Node). All reg (reads x)) f.nodes one_side nodes
          (All-from_recursion (λ (x : Node). All reg (reads x)) one_side
          (All-from_recursion reg (r 0 ∷ []) (omega arith, tt), (All-nil reg, (All-from_recursion reg (r 1 ∷ []) (omega arith, tt), tt))));
      successors = All-same (λ (x : Node). All node' (successors_of x)) f.nodes one_side nodes
          (All-from_recursion (λ (x : Node). All node' (successors_of x)) one_side
          (All-from_recursion node' (at 1 ∷ at 2 ∷ []) (omega arith, (omega arith, tt)), (All-from_recursion node' (at 2 ∷ []) (omega arith, tt), (All-nil node', tt))));
    }
