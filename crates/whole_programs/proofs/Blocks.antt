-- The nodes of blocks and edges: how many there are, where they lead, and that each names what there is.
use Rattle.std.proofs.Common.{◌≡◌, ℕ, suc, ◌+◌, ◌<◌, ◌≤◌, Bool, true, false, cond, List, [], ◌∷◌, ◌++◌, length, Option, Some, None, refl, ap, arith, length-append}
use Rattle.std.specs.Prelude.{map}
use Rattle.std.specs.List.{AllByRecursion, flat_map}
use Rattle.std.proofs.lemmas.List.{length-map}
use Rattle.flat_ir.specs.declared.names.NodeId.{NodeId}
use Rattle.flat_ir.specs.declared.nodes.MoveSet.{MoveSet}
use Rattle.flat_ir.specs.declared.nodes.Node.{Node}
use Rattle.flat_ir.specs.declared.nodes.RegType.TheVariants as type
use Rattle.flat_ir.specs.declared.nodes.SwitchCase.{SwitchCase}
use Rattle.flat_ir.specs.Whole as flat
use Rattle.ir_tree.specs.Texts.{same}
use Rattle.ir_tree.specs.declared.types.Name.{Name}
use Rattle.ir_tree.specs.declared.constants.Value.{Value}
use Rattle.ir_tree.specs.declared.instructions.Block.{Block}
use Rattle.ir_tree.specs.declared.instructions.Case.{Case}
use Rattle.ir_tree.specs.declared.instructions.Incoming.{Incoming}
use Rattle.ir_tree.specs.declared.instructions.Instruction.{Instruction}
use Rattle.ir_tree.specs.declared.instructions.Phi.{Phi}
use Rattle.ir_tree.specs.declared.instructions.TerminatorForm.{TerminatorForm}
use Rattle.ir_tree.specs.declared.instructions.TerminatorForm.TheVariants as terminators
use Rattle.ir_tree.specs.declared.module.FunctionDefinition.{FunctionDefinition}
use Rattle.ir_tree.specs.declared.module.IrTree.{IrTree}
use Rattle.ir_programs.specs.Texts.{among}
use Rattle.ir_programs.specs.Parts.{Written, written, typed, register_type, phi_values, terminator_values, targets, case_label}
use Rattle.ir_programs.specs.Locals.{register_names, label_of}
use Rattle.ir_programs.specs.Uses.{is_global}
use Rattle.ir_programs.specs.Registers.{number_of, global_of}
use Rattle.ir_programs.specs.Operands.{operand_of}
use Rattle.ir_programs.specs.Flow.{at, size_of_block, node_count, start_among, start_of, phis_among, phis_of, Edge, edge_if, block_edges, edges_of, behind_edge, led_by, led_to, behind, value_from}
use Rattle.ir_programs.specs.Nodes.{instruction_nodes, switch_cases, behind_cases, terminator_node, set_to, edge_sets, edge_node, nodes_from, nodes_of}
use Rattle.whole_programs.proofs.Lists.{weaker, together, of_mapped, to_mapped, to_flat}
use Rattle.whole_programs.proofs.Operands.{IsKnown, AreKnown, operand_in}
use Rattle.whole_programs.proofs.Instructions.{IsNode, IsPlaced, instruction_in}

-- ---- lengths

pub instruction_count : (t : IrTree) (f : FunctionDefinition) (n : ℕ) (is : List Instruction) → length (instruction_nodes t f n is) ≡ length is
instruction_count t f n [] = refl
instruction_count t f n (i ∷ is) = ap suc (instruction_count t f (n + 1) is)

block_count : (t : IrTree) (f : FunctionDefinition) (n k : ℕ) (bs : List Block) → length (nodes_from t f n k bs) ≡ node_count bs
block_count t f n k [] = refl
block_count t f n k (b ∷ bs) =
    let next = nodes_from t f (n + size_of_block b) (k + length (block_edges f b)) bs in
    let own = instruction_nodes t f n b.instructions in
    let whole : length (own ++ terminator_node t f k b.terminator.form ∷ next) ≡ length own + suc (length next) = length-append own (terminator_node t f k b.terminator.form ∷ next) in
    let first = instruction_count t f n b.instructions in
    let more = block_count t f (n + size_of_block b) (k + length (block_edges f b)) bs in
    omega (arith, whole, first, more)

pub count_is : (t : IrTree) (f : FunctionDefinition) → length (nodes_of t f) ≡ node_count f.blocks + length (edges_of f)
count_is t f =
    let own = nodes_from t f 0 (node_count f.blocks) f.blocks in
    let whole = length-append own (map (edge_node t f) (edges_of f)) in
    let first = block_count t f 0 (node_count f.blocks) f.blocks in
    let last = length-map (edges_of f) (edge_node t f) in
    omega (arith, whole, first, last)

pub flat_length : {A B : Type 0} (g : A → List B) (xs ys : List A) → length (flat_map g (xs ++ ys)) ≡ length (flat_map g xs) + length (flat_map g ys)
flat_length g [] ys = omega arith
flat_length g (x ∷ xs) ys =
    let a = length-append (g x) (flat_map g (xs ++ ys)) in
    let b = length-append (g x) (flat_map g xs) in
    let more = flat_length g xs ys in
    omega (arith, a, b, more)

-- ---- where a block begins

start_below : (n : ℕ) (name : List ℕ) (bs : List Block) → 0 < n + node_count bs → start_among n name bs < n + node_count bs
start_below n name [] h = h
start_below n name (b ∷ bs) h = go (start_below (n + size_of_block b) name bs (omega arith)) (same (label_of b) name)
  where
    go : start_among (n + size_of_block b) name bs < (n + size_of_block b) + node_count bs → (c : Bool) → cond c n (start_among (n + size_of_block b) name bs) < n + (size_of_block b + node_count bs)
    go more true = omega arith
    go more false = omega (arith, more)

pub start_is_below : (f : FunctionDefinition) → 0 < node_count f.blocks → (name : List ℕ) → start_of f name < node_count f.blocks
start_is_below f h name = let r = start_below 0 name f.blocks (omega (arith, h)) in omega (arith, r)

-- ---- blocks

pub record IsPhi (t : IrTree) (f : FunctionDefinition) (p : Phi) : Type 0 where
  pub values : AreKnown t f (phi_values p)
  pub named : among p.result.text (register_names f) ≡ true

pub record IsBlock (t : IrTree) (f : FunctionDefinition) (funcs : ℕ) (b : Block) : Type 0 where
  pub phis : AllByRecursion (IsPhi t f) b.phis
  pub instructions : AllByRecursion (IsPlaced t f funcs) b.instructions
  pub terminator : AreKnown t f (terminator_values b.terminator.form)

phis_hold : (t : IrTree) (f : FunctionDefinition) (funcs : ℕ) (name : List ℕ) (bs : List Block) → AllByRecursion (IsBlock t f funcs) bs → AllByRecursion (IsPhi t f) (phis_among name bs)
phis_hold t f funcs name [] h = tt
phis_hold t f funcs name (b ∷ bs) h = go (phis_hold t f funcs name bs h.1) (same (label_of b) name)
  where
    go : AllByRecursion (IsPhi t f) (phis_among name bs) → (c : Bool) → AllByRecursion (IsPhi t f) (cond c b.phis (phis_among name bs))
    go more true = h.0.phis
    go more false = more

abbrev MayBeKnown : IrTree → FunctionDefinition → Option Value → Type 0
MayBeKnown t f (Some v) = IsKnown t f v
MayBeKnown t f None = Unit {0}

value_holds : (t : IrTree) (f : FunctionDefinition) (name : List ℕ) (is : List Incoming) → AllByRecursion (λ (i : Incoming). IsKnown t f i.value) is → MayBeKnown t f (value_from name is)
value_holds t f name [] h = tt
value_holds t f name (i ∷ is) h = go (value_holds t f name is h.1) (same i.label.text name)
  where
    go : MayBeKnown t f (value_from name is) → (c : Bool) → MayBeKnown t f (cond c (Some i.value) (value_from name is))
    go more true = h.0
    go more false = more

module _ (t : IrTree) (f : FunctionDefinition) (globals funcs regs nodes : ℕ) (global_in : (name : List ℕ) → is_global t name ≡ true → global_of t name < globals)
    (number_in : (name : List ℕ) → among name (register_names f) ≡ true → number_of name (register_names f) < regs) (start_in : (name : List ℕ) → start_of f name < nodes) where
  abbrev Is : Node → Type 0
  Is n = IsNode globals funcs regs nodes n

  operand : (w : Written) → IsKnown t f w.value → flat.OperandIn globals regs (operand_of t f w)
  operand = operand_in t f globals regs global_in number_in

  -- ---- edges

  abbrev SetIn : MoveSet → Type 0
  SetIn s = flat.OperandIn globals regs s.value × (s.register.0 < regs)

  set_in : (p : Phi) (o : Option Value) → IsPhi t f p → MayBeKnown t f o → AllByRecursion SetIn (set_to t f p o)
  set_in p (Some v) h k = ((operand (written (register_type p.kind) v) k, number_in p.result.text h.named), tt)
  set_in p None h k = tt

  pub edge_in : AllByRecursion (IsBlock t f funcs) f.blocks → (e : Edge) → Is (edge_node t f e)
  edge_in h e =
      let phis = phis_hold t f funcs e.target f.blocks h in
      let sets = to_flat SetIn (λ (p : Phi). set_to t f p (value_from e.source p.incoming)) (phis_of f e.target)
      (weaker (λ (p : Phi) k. set_in p (value_from e.source p.incoming) k (value_holds t f e.source p.incoming (of_mapped (λ (w : Written). IsKnown t f w.value) (λ (i : Incoming). written (register_type p.kind) i.value) p.incoming k.values))) (phis_of f e.target) phis) in
      record {
        operands = to_mapped (flat.OperandIn globals regs) (λ (s : MoveSet). s.value) (edge_sets t f e) (weaker (λ (s : MoveSet) k. k.0) (edge_sets t f e) sets);
        results = to_mapped (λ r. r.0 < regs) (λ (s : MoveSet). s.register) (edge_sets t f e) (weaker (λ (s : MoveSet) k. k.1) (edge_sets t f e) sets);
        successors = (start_in e.target, tt);
        names = tt;
      }

  -- ---- terminators; from is the label of the block

  abbrev edge_to : List ℕ → Name → List Edge
  edge_to from to = edge_if (phis_of f to.text) (record { source = from; target = to.text })

  led_in : (from : List ℕ) (k : ℕ) (to : Name) → k + length (edge_to from to) ≤ nodes → (led_to f k to).0 < nodes
  led_in from k to h = go (phis_of f to.text) h
    where
      go : (ps : List Phi) → k + length (edge_if ps (record { source = from; target = to.text })) ≤ nodes → (led_by ps k (start_of f to.text)).0 < nodes
      go [] le = start_in to.text
      go (p ∷ ps) le = omega (arith, le)

  behind_is : (from : List ℕ) (k : ℕ) (to : Name) → behind f k to ≡ k + length (edge_to from to)
  behind_is from k to = go (phis_of f to.text)
    where
      go : (ps : List Phi) → behind_edge ps k ≡ k + length (edge_if ps (record { source = from; target = to.text }))
      go [] = omega arith
      go (p ∷ ps) = omega arith

  cases_in : (from : List ℕ) (k : ℕ) (cs : List Case) → k + length (flat_map (edge_to from) (map case_label cs)) ≤ nodes → AllByRecursion (λ (c : SwitchCase). c.to.0 < nodes) (switch_cases f k cs)
  cases_in from k [] h = tt
  cases_in from k (c ∷ cs) h =
      let whole = length-append (edge_to from c.label) (flat_map (edge_to from) (map case_label cs)) in
      let next = behind_is from k c.label in
      (led_in from k c.label (omega (arith, h, whole)), cases_in from (behind f k c.label) cs (omega (arith, h, whole, next)))

  behind_all : (from : List ℕ) (k : ℕ) (cs : List Case) → behind_cases f k cs ≡ k + length (flat_map (edge_to from) (map case_label cs))
  behind_all from k [] = omega arith
  behind_all from k (c ∷ cs) =
      let whole = length-append (edge_to from c.label) (flat_map (edge_to from) (map case_label cs)) in
      let next = behind_is from k c.label in
      let more = behind_all from (behind f k c.label) cs in
      omega (arith, whole, next, more)

  terminator_in : (from : List ℕ) (k : ℕ) (form : TerminatorForm) → AreKnown t f (terminator_values form) → k + length (flat_map (edge_to from) (targets form)) ≤ nodes → Is (terminator_node t f k form)
  terminator_in from k (terminators.Return (Some v)) V h = record { operands = (operand (typed v) V.0, tt); results = tt; successors = tt; names = tt }
  terminator_in from k (terminators.Return None) V h = record { operands = tt; results = tt; successors = tt; names = tt }
  terminator_in from k (terminators.Jump to) V h =
      let whole = length-append (edge_to from to) [] in
      record { operands = tt; results = tt; successors = (led_in from k to (omega (arith, h, whole)), tt); names = tt }
  terminator_in from k (terminators.Branch condition if_true if_false) V h =
      let whole = length-append (edge_to from if_true) (edge_to from if_false ++ []) in
      let last = length-append (edge_to from if_false) [] in
      let next = behind_is from k if_true in
      record {
        operands = (operand (written (type.Int 1) condition) V.0, tt);
        results = tt;
        successors = (led_in from k if_true (omega (arith, h, whole)), (led_in from (behind f k if_true) if_false (omega (arith, h, whole, last, next)), tt));
        names = tt;
      }
  terminator_in from k (terminators.Switch width value default cases) V h =
      let whole = flat_length (edge_to from) (map case_label cases) (default ∷ []) in
      let last = length-append (edge_to from default) [] in
      let next = behind_all from k cases in
      record {
        operands = (operand (written (type.Int width) value) V.0, tt);
        results = tt;
        successors = together (λ (s : NodeId). s.0 < nodes) (map (λ (c : SwitchCase). c.to) (switch_cases f k cases)) (led_to f (behind_cases f k cases) default ∷ [])
            (to_mapped (λ (s : NodeId). s.0 < nodes) (λ (c : SwitchCase). c.to) (switch_cases f k cases) (cases_in from k cases (omega (arith, h, whole))))
            (led_in from (behind_cases f k cases) default (omega (arith, h, whole, last, next)), tt);
        names = tt;
      }
  terminator_in from k terminators.Unreachable V h = record { operands = tt; results = tt; successors = tt; names = tt }

  -- ---- all of them

  instructions_in : (n : ℕ) (is : List Instruction) → n + length is < nodes → AllByRecursion (IsPlaced t f funcs) is → AllByRecursion Is (instruction_nodes t f n is)
  instructions_in n [] lt h = tt
  instructions_in n (i ∷ is) lt h = (instruction_in t f globals funcs regs nodes global_in number_in (at (n + 1)) (omega (arith, lt)) i h.0, instructions_in (n + 1) is (omega (arith, lt)) h.1)

  blocks_in : (n k : ℕ) (bs : List Block) → n + node_count bs ≤ nodes → k + length (flat_map (block_edges f) bs) ≤ nodes → AllByRecursion (IsBlock t f funcs) bs → AllByRecursion Is (nodes_from t f n k bs)
  blocks_in n k [] le edges h = tt
  blocks_in n k (b ∷ bs) le edges h =
      let whole = length-append (block_edges f b) (flat_map (block_edges f) bs) in
      together Is (instruction_nodes t f n b.instructions) (terminator_node t f k b.terminator.form ∷ nodes_from t f (n + size_of_block b) (k + length (block_edges f b)) bs)
      (instructions_in n b.instructions (omega (arith, le)) h.0.instructions)
      (terminator_in (label_of b) k b.terminator.form h.0.terminator (omega (arith, edges, whole)), blocks_in (n + size_of_block b) (k + length (block_edges f b)) bs (omega (arith, le)) (omega (arith, edges, whole)) h.1)

  edges_in : AllByRecursion (IsBlock t f funcs) f.blocks → (es : List Edge) → AllByRecursion Is (map (edge_node t f) es)
  edges_in h [] = tt
  edges_in h (e ∷ es) = (edge_in h e, edges_in h es)

  pub nodes_in : nodes ≡ length (nodes_of t f) → AllByRecursion (IsBlock t f funcs) f.blocks → AllByRecursion Is (nodes_of t f)
  nodes_in is h =
      let count = count_is t f in
      together Is (nodes_from t f 0 (node_count f.blocks) f.blocks) (map (edge_node t f) (edges_of f)) (blocks_in 0 (node_count f.blocks) f.blocks (omega (arith, is, count)) (omega (arith, is, count)) h) (edges_in h (edges_of f))
