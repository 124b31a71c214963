-- Instructions, terminators and blocks that are read; once they are numbered, each that gives a value names its register.
use Rattle.std.proofs.Common.{◌≡◌, ℕ, Bool, true, false, not, ◌||◌, List, [], ◌∷◌, Option, Some, None, refl, subst}
use Rattle.std.specs.Option.{is_some}
use Rattle.std.specs.List.{AllByRecursion, list_all}
use Rattle.ir_tree.specs.declared.types.Name.{Name}
use Rattle.ir_tree.specs.declared.types.IrType.{IrType}
use Rattle.ir_tree.specs.declared.instructions.Operation.{Operation}
use Rattle.ir_tree.specs.declared.instructions.Operation.TheVariants as operations
use Rattle.ir_tree.specs.declared.instructions.Typed.{Typed}
use Rattle.ir_tree.specs.declared.instructions.Incoming.{Incoming}
use Rattle.ir_tree.specs.declared.instructions.Instruction.{Instruction}
use Rattle.ir_tree.specs.declared.instructions.Case.{Case}
use Rattle.ir_tree.specs.declared.instructions.Terminator.{Terminator}
use Rattle.ir_tree.specs.declared.instructions.TerminatorForm.TheVariants as terminators
use Rattle.ir_tree.specs.declared.instructions.Block.{Block}
use Rattle.ir_grammar.specs.Tokens.{square}
use Rattle.ir_grammar.specs.Numbers.{fits_width}
use Rattle.ir_grammar.specs.Numbering.{has_result, numbered_result, with_result, numbered_instructions, numbered_name, after_phis, numbered_blocks}
use Rattle.ir_grammar.specs.Instructions.{Line, a_phi, an_instruction, store, call_alone, incoming, phi, set, named_line, line, phis_after, lines, phis_of, instructions_of, return_term, branch_term, case, switch_term, unreachable_term, terminator, block}
use Rattle.ir_programs.specs.Readable.{is_width, is_readable_value, gives_value, is_readable_instruction, is_readable_phi, is_readable_terminator, is_readable_block}
use Rattle.readable_trees.proofs.Gives.{Gives, step, over, made, or, each_from, each, both, all_true}
use Rattle.readable_trees.proofs.Types.{width_gives, value_type_gives, scalar_gives}
use Rattle.readable_trees.proofs.Values.{operand_gives, pointer_gives}
use Rattle.readable_trees.proofs.Operations.{IsOperation, in_type_gives, typed_gives, items_give, call_at_gives, operation_gives}

-- ---- lines

abbrev IsLine : Line → Type 0
IsLine (a_phi p) = is_readable_phi p ≡ true
IsLine (an_instruction i) = IsOperation i.operation

store_gives : Gives store.derives (λ i. IsOperation i.operation)
unfolding store
store_gives =
    over (λ at. over (λ _. step scalar_gives (λ t T. step (in_type_gives t) (λ v V. over (λ _. step pointer_gives (λ p P. over (λ _.
    made (record { at = at; result = None; operation = operations.Store t v p }) (both T (both V P)))))))))

call_alone_gives : Gives call_alone.derives (λ i. IsOperation i.operation)
unfolding call_alone
call_alone_gives =
    or (over (λ at. step call_at_gives (λ c C. made (record { at = at; result = None; operation = c.1 }) C)))
    (step call_at_gives (λ c C. made (record { at = c.0; result = None; operation = c.1 }) C))

abbrev IsIncoming : Incoming → Type 0
IsIncoming i = is_readable_value i.value ≡ true

incoming_gives : (t : IrType) → Gives (incoming t).derives IsIncoming
incoming_gives t = over (λ _. step (in_type_gives t) (λ v V. over (λ _. over (λ l. over (λ _. made (record { value = v; label = l }) V)))))

phi_gives : (r : Name) → Gives (phi r).derives IsLine
unfolding phi
phi_gives r =
    over (λ _. step value_type_gives (λ t T. step (incoming_gives t) (λ i I. step (items_give (square ∷ []) (incoming t) IsIncoming (incoming_gives t)) (λ is IS.
    made (a_phi (record { result = r; kind = t; incoming = i ∷ is })) (both T (both I (all_true (λ (j : Incoming). is_readable_value j.value) is IS)))))))

set_gives : (r : Name) → Gives (set r).derives IsLine
set_gives r = step operation_gives (λ o O. made (an_instruction (record { at = r.at; result = Some r; operation = o })) O)

named_gives : (u : Bool) → Gives (named_line u).derives IsLine
named_gives true = over (λ r. over (λ _. or (phi_gives r) (set_gives r)))
named_gives false = over (λ r. over (λ _. set_gives r))

line_gives : (u : Bool) → Gives (line u).derives IsLine
unfolding line
line_gives u = or (named_gives u) (step (or store_gives call_alone_gives) (λ i I. made (an_instruction i) I))

lines_give : Gives lines.derives (AllByRecursion IsLine)
lines_give = each_from line phis_after line_gives true

phis_give : (ls : List Line) → AllByRecursion IsLine ls → AllByRecursion (λ p. is_readable_phi p ≡ true) (phis_of ls)
phis_give [] h = tt
phis_give (a_phi p ∷ ls) h = (h.0, phis_give ls h.1)
phis_give (an_instruction i ∷ ls) h = phis_give ls h.1

abbrev pub HasOperation : Instruction → Type 0
HasOperation i = IsOperation i.operation

instructions_give : (ls : List Line) → AllByRecursion IsLine ls → AllByRecursion HasOperation (instructions_of ls)
instructions_give [] h = tt
instructions_give (a_phi p ∷ ls) h = instructions_give ls h.1
instructions_give (an_instruction i ∷ ls) h = (h.0, instructions_give ls h.1)

-- ---- terminators

abbrev pub IsEnd : Terminator → Type 0
IsEnd t = is_readable_terminator t.form ≡ true

abbrev IsCase : Case → Type 0
IsCase c = is_width c.width ≡ true

abbrev IsReturned : Option Typed → Type 0
IsReturned v = is_readable_terminator (terminators.Return v) ≡ true

return_gives : Gives return_term.derives IsEnd
return_gives =
    over (λ at. step (or (over (λ _. made {Result = IsReturned} None refl)) (step typed_gives (λ v V. made {Result = IsReturned} (Some v) V))) (λ v V. over (λ _.
    made (record { at = at; form = terminators.Return v }) V)))

branch_gives : Gives branch_term.derives IsEnd
branch_gives =
    over (λ at.
    or (over (λ to. over (λ _. made (record { at = at; form = terminators.Jump to }) refl)))
    (over (λ _. step (operand_gives (fits_width 1)) (λ c C. over (λ _. over (λ n. over (λ _. over (λ m. over (λ _.
    made (record { at = at; form = terminators.Branch c n m }) C)))))))))

case_gives : Gives case.derives IsCase
case_gives = step width_gives (λ w W. over (λ n. over (λ _. over (λ l. made (record { width = w; value = n.0; at = n.1; label = l }) W))))

switch_gives : Gives switch_term.derives IsEnd
switch_gives =
    over (λ at. step width_gives (λ w W. step (operand_gives (fits_width w)) (λ v V. over (λ _. over (λ d. over (λ _. step (each case case_gives) (λ cs C. over (λ _. over (λ _.
    made (record { at = at; form = terminators.Switch w v d cs }) (both W (both V (all_true (λ (c : Case). is_width c.width) cs C))))))))))))

unreachable_gives : Gives unreachable_term.derives IsEnd
unreachable_gives = over (λ at. over (λ _. made (record { at = at; form = terminators.Unreachable }) refl))

terminator_gives : Gives terminator.derives IsEnd
unfolding terminator
terminator_gives = or return_gives (or branch_gives (or switch_gives unreachable_gives))

-- ---- blocks

pub record BlockFact (b : Block) : Type 0 where
  pub phis : list_all is_readable_phi b.phis ≡ true
  pub instructions : AllByRecursion HasOperation b.instructions
  pub terminator : IsEnd b.terminator

pub block_gives : Gives block.derives BlockFact
unfolding block
block_gives =
    over (λ l. step lines_give (λ ls H. step terminator_gives (λ t T.
    made (record { label = l; phis = phis_of ls; instructions = instructions_of ls; terminator = t })
    (record { phis = all_true is_readable_phi (phis_of ls) (phis_give ls H); instructions = instructions_give ls H; terminator = T }))))

-- ---- once they are numbered

gives_result : (o : Operation) → has_result o ≡ gives_value o
gives_result (operations.Binary op w a b) = refl
gives_result (operations.Compare p t a b) = refl
gives_result (operations.Cast op from v to) = refl
gives_result (operations.Select c a b) = refl
gives_result (operations.Alloca t) = refl
gives_result (operations.Load t p) = refl
gives_result (operations.Store t v p) = refl
gives_result (operations.GetElementPtr t p is) = refl
gives_result (operations.Call (Some t) f vs) = refl
gives_result (operations.Call None f vs) = refl

has_name : (at n : ℕ) (o : Option Name) (has : Bool) → (not has || is_some (numbered_result at n o has).0) ≡ true
has_name at n (Some name) true = refl
has_name at n (Some name) false = refl
has_name at n None true = refl
has_name at n None false = refl

instruction_told : (at n : ℕ) (i : Instruction) → HasOperation i → is_readable_instruction (with_result i (numbered_result at n i.result (has_result i.operation)).0) ≡ true
instruction_told at n i h =
    both h (subst (λ g. (not g || is_some (numbered_result at n i.result (has_result i.operation)).0) ≡ true) (gives_result i.operation) (has_name at n i.result (has_result i.operation)))

instructions_told : (at n : ℕ) (is : List Instruction) → AllByRecursion HasOperation is → list_all is_readable_instruction (numbered_instructions at n is).0 ≡ true
instructions_told at n [] h = refl
instructions_told at n (i ∷ is) h = both (instruction_told at n i h.0) (instructions_told at (numbered_result at n i.result (has_result i.operation)).1 is h.1)

pub blocks_told : (at n : ℕ) (bs : List Block) → AllByRecursion BlockFact bs → list_all is_readable_block (numbered_blocks at n bs) ≡ true
blocks_told at n [] h = refl
blocks_told at n (b ∷ bs) h =
    let k = after_phis (numbered_name at n b.label).1 b.phis in
    both (both h.0.phis (both (instructions_told at k b.instructions h.0.instructions) h.0.terminator)) (blocks_told at (numbered_instructions at k b.instructions).1 bs h.1)
