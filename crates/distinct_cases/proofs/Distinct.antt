-- No number of a switch stands twice in the program of a tree without refusals.
use Rattle.std.proofs.Common.{◌≡◌, ℕ, Bool, true, false, ◌||◌, ◌+◌, List, [], ◌∷◌, ◌++◌, cond, subst, length, Option, Some, None, refl, All}
use Rattle.std.specs.Prelude.{map}
use Rattle.std.specs.List.{AllByRecursion as Each, IsDistinct, flat_map, list_all}
use Rattle.std.proofs.lemmas.List.Elements.{All-from_recursion}
use Rattle.bitnum.specs.Number.{Number}
use Rattle.flat_ir.specs.declared.names.NodeId.{NodeId}
use Rattle.flat_ir.specs.declared.names.RegId.{RegId}
use Rattle.flat_ir.specs.declared.nodes.Node.{Node}
use Rattle.flat_ir.specs.declared.nodes.Node.TheVariants as node
use Rattle.flat_ir.specs.declared.nodes.Operand.{Operand}
use Rattle.flat_ir.specs.declared.nodes.SwitchCase.{SwitchCase}
use Rattle.flat_ir.specs.declared.program.Func.{Func}
use Rattle.flat_ir.specs.declared.program.ProgramData.{ProgramData}
use Rattle.ir_tree.specs.declared.instructions.Block.{Block}
use Rattle.ir_tree.specs.declared.instructions.Case.{Case}
use Rattle.ir_tree.specs.declared.instructions.Instruction.{Instruction}
use Rattle.ir_tree.specs.declared.instructions.Operation.{Operation}
use Rattle.ir_tree.specs.declared.instructions.Operation.TheVariants as operations
use Rattle.ir_tree.specs.declared.instructions.TerminatorForm.{TerminatorForm}
use Rattle.ir_tree.specs.declared.instructions.TerminatorForm.TheVariants as terminators
use Rattle.ir_tree.specs.declared.module.FunctionDefinition.{FunctionDefinition}
use Rattle.ir_tree.specs.declared.module.IrTree.{IrTree}
use Rattle.prelude.specs.Prelude.{functions}
use Rattle.prelude.specs.Primitives.{primitive_of}
use Rattle.prelude.specs.declared.primitives.Primitive.{Primitive}
use Rattle.prelude.specs.declared.primitives.Primitive.TheVariants as primitive
use Rattle.ir_programs.specs.declared.refusals.Cause.TheVariants.{UnknownName, UnknownFunction, DuplicateName}
use Rattle.ir_programs.specs.declared.refusals.Refusal.{Refusal}
use Rattle.ir_programs.specs.Answers.{refusals, has_main, Resolved, Refused, NoMain, answered}
use Rattle.ir_programs.specs.Calls.{node_or_call}
use Rattle.ir_programs.specs.Causes as causes
use Rattle.ir_programs.specs.Causes.{bits_of, same_case, is_case_of, repeated_cases, terminator_cases, duplicate_cases}
use Rattle.ir_programs.specs.Flow.{at, size_of_block, node_count, Edge, block_edges, edges_of, behind}
use Rattle.ir_programs.specs.Locals.{repeated_locals}
use Rattle.ir_programs.specs.Nodes.{operation_node, instruction_nodes, switch_cases, terminator_node, edge_node, nodes_from, nodes_of}
use Rattle.ir_programs.specs.Operands.{register_in, result_of}
use Rattle.ir_programs.specs.Programs.{func_of, program_of}
use Rattle.ir_programs.specs.Refusals.{refused, first}
use Rattle.ir_programs.specs.Registers.{is_called, called}
use Rattle.whole_programs.proofs.Lists.{weaker, of_each, together, to_mapped, filtered, listed, cons_not_nil, front_empty, back_empty, map_empty, flat_empty}
use Rattle.agreement.specs.Premises.{same_number, NodeHasDistinctCases, HasDistinctCases}
use Rattle.distinct_cases.specs.Cases.{CasesAreDistinct}

-- ---- what isn't refused

first-none : (rs : List Refusal) → first rs ≡ None → rs ≡ []
first-none [] e = refl
first-none (r ∷ rs) e = absurd cc

third-empty : (a b c d : List Refusal) → a ++ (b ++ (c ++ d)) ≡ [] → c ≡ []
third-empty a b c d e = front_empty c d (back_empty b (c ++ d) (back_empty a (b ++ (c ++ d)) e))

names-once : (t : IrTree) → first (refusals t) ≡ None → causes.duplicate_names t ≡ []
names-once t e =
    map_empty (λ at. record { at = at; cause = DuplicateName }) (causes.duplicate_names t)
    (third-empty (refused UnknownName (causes.unknown_names t)) (refused UnknownFunction (causes.unknown_functions t)) (refused DuplicateName (causes.duplicate_names t)) _ (first-none (refusals t) e))

cases-once : (t : IrTree) → causes.duplicate_names t ≡ [] → Each (λ (f : FunctionDefinition). duplicate_cases f ≡ []) t.functions
cases-once t e =
    flat_empty duplicate_cases t.functions
    (back_empty (flat_map repeated_locals t.functions) (flat_map duplicate_cases t.functions)
    (back_empty (causes.duplicate_globals t) (flat_map repeated_locals t.functions ++ flat_map duplicate_cases t.functions)
    (back_empty (causes.duplicate_types t) (causes.duplicate_globals t ++ (flat_map repeated_locals t.functions ++ flat_map duplicate_cases t.functions)) e)))

-- ---- the numbers of a switch

neither : (p q : Bool) → (p || q) ≡ false → (p ≡ false) × (q ≡ false)
neither false q e = (refl, e)
neither true q e = absurd cc

told-none : (seen : Bool) (place : ℕ) (more : List ℕ) → cond seen (place ∷ more) more ≡ [] → (seen ≡ false) × (more ≡ [])
told-none true place more e = absurd (cons_not_nil place more e)
told-none false place more e = (refl, e)

abbrev numbers : List SwitchCase → List Number
numbers cases = map (λ c. c.number) cases

abbrev number_in : Case → Number
number_in c = record { width = c.width; bits = bits_of c.width c.value }

-- a case that is none of those that were seen isn't this one
abbrev IsSeen : Case → List Case → Type 0
IsSeen d seen = (c : Case) → is_case_of seen c ≡ false → same_case d c ≡ false

away : (f : FunctionDefinition) (k : ℕ) (d : Case) (seen cs : List Case) → IsSeen d seen → repeated_cases seen cs ≡ [] → Each (λ y. same_number (number_in d) y ≡ false) (numbers (switch_cases f k cs))
away f k d seen [] h e = tt
away f k d seen (c ∷ cs) h e =
    let once = told-none (is_case_of seen c) c.at (repeated_cases (c ∷ seen) cs) e in
    (h c once.0, away f (behind f k c.label) d (c ∷ seen) cs (λ b other. h b (neither (same_case c b) (is_case_of seen b) other).1) once.1)

numbers-distinct : (f : FunctionDefinition) (k : ℕ) (seen cs : List Case) → repeated_cases seen cs ≡ [] → IsDistinct same_number (numbers (switch_cases f k cs))
unfolding IsDistinct
numbers-distinct f k seen [] e = tt
numbers-distinct f k seen (c ∷ cs) e =
    let once = told-none (is_case_of seen c) c.at (repeated_cases (c ∷ seen) cs) e in
    (away f (behind f k c.label) c (c ∷ seen) cs (λ b other. (neither (same_case c b) (is_case_of seen b) other).0) once.1, numbers-distinct f (behind f k c.label) (c ∷ seen) cs once.1)

-- ---- nodes

call-distinct : (t : IrTree) (name : List ℕ) (args : List Operand) (result : Option RegId) (next : NodeId) (p : Option Primitive) → NodeHasDistinctCases (node_or_call t name args result next p)
call-distinct t name args result next (Some primitive.Malloc) = tt
call-distinct t name args result next (Some primitive.Free) = tt
call-distinct t name args result next (Some primitive.Exit) = tt
call-distinct t name args result next (Some primitive.Abort) = tt
call-distinct t name args result next (Some primitive.AssertFail) = tt
call-distinct t name args result next None = tt

operation-distinct : (t : IrTree) (f : FunctionDefinition) (r : RegId) (result : Option RegId) (next : NodeId) (o : Operation) → NodeHasDistinctCases (operation_node t f r result next o)
operation-distinct t f r result next (operations.Binary op width a b) = tt
operation-distinct t f r result next (operations.Compare pred kind a b) = tt
operation-distinct t f r result next (operations.Cast op from value to) = tt
operation-distinct t f r result next (operations.Select condition a b) = tt
operation-distinct t f r result next (operations.Alloca kind) = tt
operation-distinct t f r result next (operations.Load kind pointer) = tt
operation-distinct t f r result next (operations.Store kind value pointer) = tt
operation-distinct t f r result next (operations.GetElementPtr source pointer indices) = tt
operation-distinct t f r result next (operations.Call kind callee arguments) = call-distinct t callee.text _ result next (primitive_of callee.text)

instructions-distinct : (t : IrTree) (f : FunctionDefinition) (n : ℕ) (is : List Instruction) → Each NodeHasDistinctCases (instruction_nodes t f n is)
instructions-distinct t f n [] = tt
instructions-distinct t f n (i ∷ is) = (operation-distinct t f (result_of f i.result) (register_in f i.result) (at (n + 1)) i.operation, instructions-distinct t f (n + 1) is)

terminator-distinct : (t : IrTree) (f : FunctionDefinition) (k : ℕ) (form : TerminatorForm) → repeated_cases [] (terminator_cases form) ≡ [] → NodeHasDistinctCases (terminator_node t f k form)
terminator-distinct t f k (terminators.Return (Some value)) e = tt
terminator-distinct t f k (terminators.Return None) e = tt
terminator-distinct t f k (terminators.Jump to) e = tt
terminator-distinct t f k (terminators.Branch condition if_true if_false) e = tt
terminator-distinct t f k (terminators.Switch width value default cases) e = numbers-distinct f k [] cases e
terminator-distinct t f k terminators.Unreachable e = tt

blocks-distinct : (t : IrTree) (f : FunctionDefinition) (n k : ℕ) (bs : List Block) → Each (λ (b : Block). repeated_cases [] (terminator_cases b.terminator.form) ≡ []) bs → Each NodeHasDistinctCases (nodes_from t f n k bs)
blocks-distinct t f n k [] h = tt
blocks-distinct t f n k (b ∷ bs) h =
    together NodeHasDistinctCases (instruction_nodes t f n b.instructions) (terminator_node t f k b.terminator.form ∷ nodes_from t f (n + size_of_block b) (k + length (block_edges f b)) bs)
    (instructions-distinct t f n b.instructions)
    (terminator-distinct t f k b.terminator.form h.0, blocks-distinct t f (n + size_of_block b) (k + length (block_edges f b)) bs h.1)

nodes-distinct : (t : IrTree) (f : FunctionDefinition) → duplicate_cases f ≡ [] → Each NodeHasDistinctCases (nodes_of t f)
nodes-distinct t f e =
    together NodeHasDistinctCases (nodes_from t f 0 (node_count f.blocks) f.blocks) (map (edge_node t f) (edges_of f))
    (blocks-distinct t f 0 (node_count f.blocks) f.blocks (flat_empty (λ (b : Block). repeated_cases [] (terminator_cases b.terminator.form)) f.blocks e))
    (to_mapped NodeHasDistinctCases (edge_node t f) (edges_of f) (of_each (λ (e : Edge). NodeHasDistinctCases (edge_node t f e)) (λ e. tt) (edges_of f)))

-- ---- functions

abbrev FuncHasDistinctCases : Func → Type 0
FuncHasDistinctCases f = All NodeHasDistinctCases f.nodes

abbrev is_no_switch : Node → Bool
is_no_switch (node.Switch value cases otherwise) = false
is_no_switch _ = true

no-switch : (n : Node) → is_no_switch n ≡ true → NodeHasDistinctCases n
no-switch (node.Switch value cases otherwise) e = absurd cc
no-switch _ e = tt

-- the functions that have a body of their own have no switch
known-distinct : Each FuncHasDistinctCases functions
known-distinct =
    weaker (λ (f : Func) e. All-from_recursion NodeHasDistinctCases f.nodes (weaker no-switch f.nodes (listed is_no_switch f.nodes e))) functions
    (listed (λ (f : Func). list_all is_no_switch f.nodes) functions refl)

unrefused-distinct : (t : IrTree) → first (refusals t) ≡ None → HasDistinctCases (program_of t)
unrefused-distinct t e =
    All-from_recursion FuncHasDistinctCases (map (func_of t) t.functions ++ called t)
    (together FuncHasDistinctCases (map (func_of t) t.functions) (called t)
    (to_mapped FuncHasDistinctCases (func_of t) t.functions
    (weaker (λ (f : FunctionDefinition) once. All-from_recursion NodeHasDistinctCases (nodes_of t f) (nodes-distinct t f once)) t.functions (cases-once t (names-once t e))))
    (filtered FuncHasDistinctCases (is_called t) functions known-distinct))

-- ---- the program that is the answer

same-program : (p q : ProgramData) → Resolved p ≡ Resolved q → p ≡ q
same-program p q e = cc

not-refused : (r : Refusal) (p : ProgramData) → Refused r ≡ Resolved p → ⊥
not-refused r p e = cc

not-missing : (p : ProgramData) → NoMain ≡ Resolved p → ⊥
not-missing p e = cc

pub cases-distinct : CasesAreDistinct
cases-distinct t p there = by-refusal (first (refusals t)) refl there
  where
    by-main : (b : Bool) → first (refusals t) ≡ None → cond b (Resolved (program_of t)) NoMain ≡ Resolved p → HasDistinctCases p
    by-main true none e = subst HasDistinctCases (same-program (program_of t) p e) (unrefused-distinct t none)
    by-main false none e = absurd (not-missing p e)

    by-refusal : (o : Option Refusal) → first (refusals t) ≡ o → answered t o ≡ Resolved p → HasDistinctCases p
    by-refusal (Some r) q e = absurd (not-refused r p e)
    by-refusal None q e = by-main (has_main t) q e
