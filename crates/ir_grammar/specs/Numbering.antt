-- The numbers of what a function leaves unnamed (Language Reference, "Identifiers"): unnamed parameters, blocks and results share one
-- counter from 0, in the order of the text. A written number counts, too; whether it is the next one is not decided here.
use Rattle.std.specs.Prelude.{ℕ, ◌+◌, Bool, true, false, if◌then◌else◌, List, [], ◌∷◌, Option, Some, None, map}
use Rattle.std.specs.Fmt.{decimal}
use Rattle.ir_tree.specs.declared.types.Name.{Name}
use Rattle.ir_tree.specs.declared.instructions.Operation.{Operation}
use Rattle.ir_tree.specs.declared.instructions.Operation.TheVariants as operations
use Rattle.ir_tree.specs.declared.instructions.Instruction.{Instruction}
use Rattle.ir_tree.specs.declared.instructions.Phi.{Phi}
use Rattle.ir_tree.specs.declared.instructions.Block.{Block}
use Rattle.ir_tree.specs.declared.module.Parameter.{Parameter}
use Rattle.ir_tree.specs.declared.module.Header.{Header}
use Rattle.ir_tree.specs.declared.module.FunctionDefinition.{FunctionDefinition}
use Rattle.ir_tree.specs.declared.module.IrTree.{IrTree}
use Rattle.ir_grammar.specs.Tokens.{are_digits}

-- a name of digits alone is a number, quoted or not
abbrev pub is_number : List ℕ → Bool
is_number [] = false
is_number (d ∷ ds) = are_digits (d ∷ ds)

-- the counter after a name that is written
abbrev pub counted : ℕ → Name → ℕ
counted n name = if is_number name.text then n + 1 else n

-- the name itself, or the counter's number where it is left out; and the counter after it
abbrev pub numbered_name : ℕ → ℕ → Option Name → Name × ℕ
numbered_name at n (Some name) = (name, counted n name)
numbered_name at n None = (record { text = decimal n; at = at }, n + 1)

abbrev pub numbered_parameter : Parameter → Name → Parameter
numbered_parameter p name = record { kind = p.kind; name = Some name }

abbrev pub numbered_parameters : ℕ → ℕ → List Parameter → List Parameter × ℕ
numbered_parameters at n [] = ([], n)
numbered_parameters at n (p ∷ ps) =
    let first = numbered_name at n p.name in
    let others = numbered_parameters at first.1 ps in
    (numbered_parameter p first.0 ∷ others.0, others.1)

abbrev pub after_phis : ℕ → List Phi → ℕ
after_phis n [] = n
after_phis n (p ∷ ps) = after_phis (counted n p.result) ps

-- all operations but a store and a call of a void function
abbrev pub has_result : Operation → Bool
has_result (operations.Store t v p) = false
has_result (operations.Call None f args) = false
has_result _ = true

-- the name that an instruction sets, and the counter after it; a name in front of a void call counts as well
abbrev pub numbered_result : ℕ → ℕ → Option Name → Bool → Option Name × ℕ
numbered_result at n (Some name) has = (Some name, counted n name)
numbered_result at n None true = (Some (record { text = decimal n; at = at }), n + 1)
numbered_result at n None false = (None, n)

abbrev pub with_result : Instruction → Option Name → Instruction
with_result i name = record { at = i.at; result = name; operation = i.operation }

abbrev pub numbered_instructions : ℕ → ℕ → List Instruction → List Instruction × ℕ
numbered_instructions at n [] = ([], n)
numbered_instructions at n (i ∷ is) =
    let first = numbered_result at n i.result (has_result i.operation) in
    let others = numbered_instructions at first.1 is in
    (with_result i first.0 ∷ others.0, others.1)

abbrev pub with_names : Block → Name → List Instruction → Block
with_names b name is = record { label = Some name; phis = b.phis; instructions = is; terminator = b.terminator }

abbrev pub numbered_blocks : ℕ → ℕ → List Block → List Block
numbered_blocks at n [] = []
numbered_blocks at n (b ∷ bs) =
    let name = numbered_name at n b.label in
    let is = numbered_instructions at (after_phis name.1 b.phis) b.instructions in
    with_names b name.0 is.0 ∷ numbered_blocks at is.1 bs

abbrev pub with_parameters : Header → List Parameter → Header
with_parameters h ps = record { result = h.result; name = h.name; parameters = ps }

abbrev pub numbered_header : Header → Header
numbered_header h = with_parameters h (numbered_parameters h.name.at 0 h.parameters).0

abbrev pub numbered_function : FunctionDefinition → FunctionDefinition
numbered_function f =
    let ps = numbered_parameters f.header.name.at 0 f.header.parameters in
    record { header = with_parameters f.header ps.0; blocks = numbered_blocks f.header.name.at ps.1 f.blocks }

-- the tree with the numbers of all that it leaves unnamed
abbrev pub numbered : IrTree → IrTree
numbered t = record { types = t.types; globals = t.globals; declares = map numbered_header t.declares; functions = map numbered_function t.functions }
