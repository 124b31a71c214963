-- Instructions and phis are read again, with the numbers of their results.
use Rattle.std.proofs.Common.{◌≡◌, ℕ, Bool, true, false, List, [], ◌∷◌, ◌++◌, Option, Some, None, refl, sym, ap, subst, ◌∙◌, append_assoc}
use Rattle.std.specs.Prelude.{codes, map}
use Rattle.std.specs.Fmt.{decimal}
use Rattle.std.specs.List.{AllByRecursion}
use Rattle.ir_tree.specs.declared.types.Name.{Name}
use Rattle.ir_tree.specs.declared.types.IrType.{IrType}
use Rattle.ir_tree.specs.declared.constants.Value.{Value}
use Rattle.ir_tree.specs.declared.instructions.Operation.{Operation}
use Rattle.ir_tree.specs.declared.instructions.Operation.TheVariants as operations
use Rattle.ir_tree.specs.declared.instructions.Instruction.{Instruction}
use Rattle.ir_tree.specs.declared.instructions.Incoming.{Incoming}
use Rattle.ir_tree.specs.declared.instructions.Phi.{Phi}
use Rattle.ir_tree.specs.Spelling.{instruction_tokens, incoming_tokens, phi_tokens}
use Rattle.ir_tree.specs.Printing.{phi_line, instruction_line}
use Rattle.ir_tree.specs.Places.{bare_name, bare_type, bare_value, bare_operation, bare_instruction, bare_incoming, bare_phi}
use Rattle.phrases.specs.Phrase.{either, from_derive}
use Rattle.ir_grammar.specs.Tokens.{word, square}
use Rattle.ir_grammar.specs.Numbering.{has_result, numbered_result, with_result, numbered_instructions}
use Rattle.ir_grammar.specs.Instructions.{store, call, call_alone, operation, incoming, Line, a_phi, an_instruction, phi, set, named_line, line, phis_after, lines, phis_of, instructions_of}
use Rattle.printed_again.specs.Again.{token_texts}
use Rattle.printed_again.proofs.Bytes.{digits_are_bytes}
use Rattle.printed_again.proofs.Numbers.{decimal_digits}
use Rattle.printed_again.proofs.Backs.{Back, bind, ends, gives, alike, left, right, the_word, the_mark, the_place, none_from, more_from}
use Rattle.printed_again.proofs.Tells.{Tells, step, over, made, or, told_as, each_from}
use Rattle.printed_again.proofs.Lists.{moved, cons_like}
use Rattle.printed_again.proofs.Types.{IsName, SameName, local_back, local_tells, IsValueType, value_type_tells, scalar_tells, scalar_back}
use Rattle.printed_again.proofs.Values.{pointer_tells}
use Rattle.printed_again.proofs.Operations.{volatile_back, closes, in_type_tells, in_scalar_tells, in_type, SameOperation, OperationBack, operation_tells, CallBack, call_at_tells, untailed, items_tell, items_back}

-- the name of a number
pub number_name : (at n : ℕ) → IsName (record { text = decimal n; at = at })
number_name at n = digits_are_bytes (decimal n) (decimal_digits n)

-- ---- instructions

abbrev pub SameInstruction : Instruction → Instruction → Type 0
SameInstruction i j = bare_instruction j ≡ bare_instruction i

abbrev pub IsInstruction : Instruction → Line → Type 0
IsInstruction i l = (j : Instruction) × (l ≡ an_instruction j) × SameInstruction i j

-- a line is read from the tokens that the instruction is printed as
abbrev pub LineBack : Instruction → Type 0
LineBack i = (u : Bool) → Back (line u).derives (instruction_tokens i) (IsInstruction i)

-- with the number of its result
abbrev pub numbered_as : ℕ → ℕ → Instruction → Instruction
numbered_as at n i = with_result i (numbered_result at n i.result (has_result i.operation)).0

abbrev pub InstructionBack : Instruction → Type 0
InstructionBack i = (at n : ℕ) → LineBack (numbered_as at n i)

abbrev an_instr : ℕ → Option Name → Operation → Instruction
an_instr at r o = record { at = at; result = r; operation = o }

set_like : (at : ℕ) (r s : Name) (o p : Operation) → SameName r s → SameOperation o p → SameInstruction (an_instr at (Some r) o) (an_instr s.at (Some s) p)
set_like at r s o p er eo = ap (λ n. an_instr 0 (Some n) (bare_operation p)) er ∙ ap (an_instr 0 (Some (bare_name r))) eo

set_back : (at : ℕ) (r : Name) (o : Operation) → IsName r → OperationBack o → LineBack (an_instr at (Some r) o)
unfolding line
set_back at r o R O true =
    left (bind (local_back r R) (λ s es. bind (the_mark (codes "=") refl) (λ _ _. right (ends O (λ p ep. gives (an_instruction (an_instr s.at (Some s) p)) (an_instr s.at (Some s) p, refl, set_like at r s o p es ep))))))
set_back at r o R O false =
    left (bind (local_back r R) (λ s es. bind (the_mark (codes "=") refl) (λ _ _. ends O (λ p ep. gives (an_instruction (an_instr s.at (Some s) p)) (an_instr s.at (Some s) p, refl, set_like at r s o p es ep)))))

plain_back : (i : Instruction) → Back (either (word (codes "store") ∷ []) store call_alone).derives (instruction_tokens i) (SameInstruction i) → LineBack i
unfolding line
plain_back i P u = right (ends P (λ j e. gives (an_instruction j) (j, refl, e)))

store_tells : Tells store.derives InstructionBack
unfolding store
store_tells =
    over (λ at. over (λ _. step scalar_tells (λ t T. step (in_scalar_tells t T) (λ v V. over (λ _. step pointer_tells (λ p P. over (λ _.
    made (an_instr at None (operations.Store t v p)) (λ from n. plain_back (an_instr at None (operations.Store t v p))
    (left
    (bind (the_place (codes "store") refl) (λ k _.
    bind volatile_back (λ _ _.
    bind (scalar_back t T) (λ u eu.
    bind (in_type t u v eu V) (λ x ex.
    bind (the_mark (codes ",") refl) (λ _ _.
    ends P (λ q eq.
    closes (an_instr k None (operations.Store u x q)) (let e : bare_instruction (an_instr k None (operations.Store u x q)) ≡ bare_instruction (an_instr at None (operations.Store t v p)) = cc in e)))))))))))))))))

call_operation : (c : ℕ × Operation) → CallBack c → OperationBack c.1
unfolding operation call
call_operation c C = right (right (right (right (right (right (right (bind untailed (λ _ _. ends C (λ d e. gives d.1 e)))))))))

call_back : (at : ℕ) (c : ℕ × Operation) → CallBack c → InstructionBack (an_instr at None c.1)
unfolding call_alone
call_back at c C from n = go (has_result c.1)
  where
    alone : LineBack (an_instr at None c.1)
    alone = plain_back (an_instr at None c.1) (right (right (ends C (λ d e. gives (an_instr d.0 None d.1) (ap (an_instr 0 None) e)))))

    go : (b : Bool) → LineBack (with_result (an_instr at None c.1) (numbered_result from n None b).0)
    go true = set_back at (record { text = decimal n; at = from }) c.1 (number_name from n) (call_operation c C)
    go false = alone

call_alone_tells : Tells call_alone.derives InstructionBack
unfolding call_alone
call_alone_tells =
    or (over (λ at. step call_at_tells (λ c C. made (an_instr at None c.1) (call_back at c C))))
    (step call_at_tells (λ c C. made (an_instr c.0 None c.1) (call_back c.0 c C)))

-- ---- phis

abbrev IncomingBack : IrType → Incoming → Type 0
IncomingBack t i = Back (incoming t).derives (incoming_tokens i) (λ j. bare_incoming j ≡ bare_incoming i)

abbrev an_incoming : Value → Name → Incoming
an_incoming v l = record { value = v; label = l }

incoming_tells : (t : IrType) → IsValueType t → Tells (incoming t).derives (IncomingBack t)
incoming_tells t T =
    over (λ _. step (in_type_tells t T) (λ v V. over (λ _. step local_tells (λ l L. over (λ _.
    made (an_incoming v l)
    (bind (the_mark (codes "[") refl) (λ _ _.
    bind V (λ x ex.
    bind (the_mark (codes ",") refl) (λ _ _.
    bind (local_back l L) (λ m em.
    bind (the_mark (codes "]") refl) (λ _ _.
    gives (an_incoming x m) (ap (λ k. an_incoming k (bare_name m)) ex ∙ ap (an_incoming (bare_value v)) em))))))))))))

abbrev pub SamePhi : Phi → Phi → Type 0
SamePhi p q = bare_phi q ≡ bare_phi p

abbrev pub IsPhi : Phi → Line → Type 0
IsPhi p l = (q : Phi) × (l ≡ a_phi q) × SamePhi p q

abbrev pub PhiBack : Phi → Type 0
PhiBack p = Back (line true).derives (phi_tokens p) (IsPhi p)

abbrev one_phi : Name → IrType → List Incoming → Phi
one_phi r t is = record { result = r; kind = t; incoming = is }

-- what is told of a line
abbrev pub LineFact : Line → Type 0
LineFact (a_phi p) = PhiBack p
LineFact (an_instruction i) = InstructionBack i

phi_like : (r s : Name) (t u : IrType) (i j : Incoming) (is js : List Incoming) → SameName r s → u ≡ t → bare_incoming j ≡ bare_incoming i → map bare_incoming js ≡ map bare_incoming is → SamePhi (one_phi r t (i ∷ is)) (one_phi s u (j ∷ js))
phi_like r s t u i j is js er et e es =
    ap (λ n. one_phi n (bare_type u) (map bare_incoming (j ∷ js))) er ∙ ap (λ k. one_phi (bare_name r) (bare_type k) (map bare_incoming (j ∷ js))) et ∙ ap (one_phi (bare_name r) (bare_type t)) (cons_like bare_incoming i j is js e es)

phi_back : (r : Name) (t : IrType) (i : Incoming) (is : List Incoming) → IsName r → IsValueType t → IncomingBack t i → AllByRecursion (IncomingBack t) is → PhiBack (one_phi r t (i ∷ is))
unfolding line phi
phi_back r t i is R T I IS =
    left
    (bind (local_back r R) (λ s es.
    bind (the_mark (codes "=") refl) (λ _ _.
    left
    (bind (the_word (codes "phi") refl) (λ _ _.
    bind T.back (λ u eu.
    bind (subst (λ k. IncomingBack k i) (sym eu) I) (λ j ej.
    ends (items_back (square ∷ []) (incoming u) incoming_tokens bare_incoming is (subst (λ k. AllByRecursion (IncomingBack k) is) (sym eu) IS)) (λ js ejs.
    gives (a_phi (one_phi s u (j ∷ js))) (one_phi s u (j ∷ js), refl, phi_like r s t u i j is js es eu ej ejs)))))))))

phi_tells : (r : Name) → IsName r → Tells (phi r).derives LineFact
unfolding phi
phi_tells r R =
    over (λ _. step value_type_tells (λ t T. step (incoming_tells t T) (λ i I. step (items_tell (square ∷ []) (incoming t) incoming_tokens bare_incoming (incoming_tells t T)) (λ is IS.
    made (a_phi (one_phi r t (i ∷ is))) (phi_back r t i is R T I IS)))))

-- ---- lines

set_tells : (r : Name) → IsName r → Tells (set r).derives LineFact
set_tells r R = step operation_tells (λ o O. made (an_instruction (an_instr r.at (Some r) o)) (λ at n. set_back r.at r o R O))

named_tells : (u : Bool) → Tells (named_line u).derives LineFact
named_tells true = step local_tells (λ r R. over (λ _. or (phi_tells r R) (set_tells r R)))
named_tells false = step local_tells (λ r R. over (λ _. set_tells r R))

line_tells : (u : Bool) → Tells (line u).derives LineFact
unfolding line
line_tells u = or (named_tells u) (step (or store_tells call_alone_tells) (λ i I. made (an_instruction i) I))

phis_told : (ls : List Line) → AllByRecursion LineFact ls → AllByRecursion PhiBack (phis_of ls)
phis_told [] h = tt
phis_told (a_phi p ∷ ls) h = (h.0, phis_told ls h.1)
phis_told (an_instruction i ∷ ls) h = phis_told ls h.1

instructions_told : (ls : List Line) → AllByRecursion LineFact ls → AllByRecursion InstructionBack (instructions_of ls)
instructions_told [] h = tt
instructions_told (a_phi p ∷ ls) h = instructions_told ls h.1
instructions_told (an_instruction i ∷ ls) h = (h.0, instructions_told ls h.1)

-- phis, and instructions
pub record AreLines (ls : List Line) : Type 0 where
  pub phis : AllByRecursion PhiBack (phis_of ls)
  pub instructions : AllByRecursion InstructionBack (instructions_of ls)

pub lines_tell : Tells lines.derives AreLines
lines_tell = told_as (λ ls h. record { phis = phis_told ls h; instructions = instructions_told ls h }) (each_from line phis_after line_tells true)

-- numbered in order
pub numbered_told : (at n : ℕ) (is : List Instruction) → AllByRecursion InstructionBack is → AllByRecursion LineBack (numbered_instructions at n is).0
numbered_told at n [] h = tt
numbered_told at n (i ∷ is) h = (h.0 at n, numbered_told at (numbered_result at n i.result (has_result i.operation)).1 is h.1)

abbrev pub AreInstructions : List Instruction → List Line → Type 0
AreInstructions is ls = (js : List Instruction) × (ls ≡ map an_instruction js) × (map bare_instruction js ≡ map bare_instruction is)

instructions_back : (u : Bool) (is : List Instruction) → AllByRecursion LineBack is → Back (from_derive line phis_after u) (token_texts (map instruction_line is)) (AreInstructions is)
instructions_back u [] h = alike (λ ls e. ([], e, refl)) (none_from line phis_after u)
instructions_back u (i ∷ is) h = more_from line phis_after u {Like = IsInstruction i} {Good = AreInstructions is} (h.0 u) (λ l p. instructions_back (phis_after u l) is h.1) (λ l ls p q. (p.0 ∷ q.0, ap (λ x. x ∷ ls) p.1 ∙ ap (λ xs. an_instruction p.0 ∷ xs) q.1, cons_like bare_instruction i p.0 is q.0 p.2 q.2))

-- what is read from the lines of a block
pub record AreParts (ps : List Phi) (is : List Instruction) (ls : List Line) : Type 0 where
  pub phis : List Phi
  pub instructions : List Instruction
  pub whole : ls ≡ map a_phi phis ++ map an_instruction instructions
  pub same_phis : map bare_phi phis ≡ map bare_phi ps
  pub same_instructions : map bare_instruction instructions ≡ map bare_instruction is

pub parts_back : (ps : List Phi) (is : List Instruction) → AllByRecursion PhiBack ps → AllByRecursion LineBack is
    → Back (from_derive line phis_after true) (token_texts (map phi_line ps) ++ token_texts (map instruction_line is)) (AreParts ps is)
parts_back [] is h hs = alike (λ ls p. record { phis = []; instructions = p.0; whole = p.1; same_phis = refl; same_instructions = p.2 }) (instructions_back true is hs)
parts_back (p ∷ ps) is h hs =
    let rest = parts_back ps is h.1 hs in
    moved (sym (append_assoc (phi_tokens p) (token_texts (map phi_line ps)) (token_texts (map instruction_line is))))
    (more_from line phis_after true {Like = IsPhi p} {Good = AreParts ps is} h.0
    (λ l q. subst (λ v. Back (from_derive line phis_after (phis_after true v)) (token_texts (map phi_line ps) ++ token_texts (map instruction_line is)) (AreParts ps is)) (sym q.1) rest)
    (λ l ls q r. record {
      phis = q.0 ∷ r.phis;
      instructions = r.instructions;
      whole = ap (λ x. x ∷ ls) q.1 ∙ ap (λ xs. a_phi q.0 ∷ xs) r.whole;
      same_phis = cons_like bare_phi p q.0 ps r.phis q.2 r.same_phis;
      same_instructions = r.same_instructions;
    }))

pub only_phis : (ps : List Phi) (is : List Instruction) → phis_of (map a_phi ps ++ map an_instruction is) ≡ ps
only_phis (p ∷ ps) is = ap (λ xs. p ∷ xs) (only_phis ps is)
only_phis [] [] = refl
only_phis [] (i ∷ is) = only_phis [] is

pub only_instructions : (ps : List Phi) (is : List Instruction) → instructions_of (map a_phi ps ++ map an_instruction is) ≡ is
only_instructions (p ∷ ps) is = only_instructions ps is
only_instructions [] [] = refl
only_instructions [] (i ∷ is) = ap (λ xs. i ∷ xs) (only_instructions [] is)
