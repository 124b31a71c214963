-- Blocks, headers and functions are read again, with their numbers.
use Rattle.std.proofs.Common.{◌≡◌, ℕ, List, [], ◌∷◌, ◌++◌, Option, Some, None, refl, sym, ap, ◌∙◌, append_assoc, append-nil}
use Rattle.std.specs.Prelude.{codes, map}
use Rattle.std.specs.List.{AllByRecursion}
use Rattle.ir_tree.specs.declared.types.Name.{Name}
use Rattle.ir_tree.specs.declared.types.IrType.{IrType}
use Rattle.ir_tree.specs.declared.instructions.Instruction.{Instruction}
use Rattle.ir_tree.specs.declared.instructions.Phi.{Phi}
use Rattle.ir_tree.specs.declared.instructions.Terminator.{Terminator}
use Rattle.ir_tree.specs.declared.instructions.Block.{Block}
use Rattle.ir_tree.specs.declared.module.Parameter.{Parameter}
use Rattle.ir_tree.specs.declared.module.Header.{Header}
use Rattle.ir_tree.specs.Texts.{label_text}
use Rattle.ir_tree.specs.Spelling.{terminator_tokens}
use Rattle.ir_tree.specs.Printing.{Line, inner, parameter_tokens, header_tokens, phi_line, instruction_line, block_lines, blocks_lines}
use Rattle.ir_tree.specs.Places.{bare_name, bare_type, bare_phi, bare_instruction, bare_block, bare_parameter, bare_header, on_some}
use Rattle.ir_grammar.specs.Words.{linkage_words}
use Rattle.ir_grammar.specs.Types.{attribute_or}
use Rattle.ir_grammar.specs.Numbering.{numbered_name, numbered_parameters, after_phis, numbered_instructions, numbered_blocks, with_parameters}
use Rattle.ir_grammar.specs.Instructions.{Line as GrammarLine, label, phis_of, instructions_of, block}
use Rattle.ir_grammar.specs.Module.{ignored, parameter, header}
use Rattle.printed_again.specs.Again.{token_texts}
use Rattle.printed_again.proofs.Backs.{Back, bind, ends, gives, alike, left, Any, the_mark, all_of, none, more, nothing}
use Rattle.printed_again.proofs.Tells.{Tells, step, over, made, or}
use Rattle.printed_again.proofs.Lists.{moved, cons_like, listed_back, listed_tell}
use Rattle.printed_again.proofs.Types.{IsName, SameName, global_back, global_tells, local_back, local_tells, label_back, label_tells, IsValueType, value_type_tells}
use Rattle.printed_again.proofs.Operations.{attributes_back, tail_back, ResultBack, result_tells}
use Rattle.printed_again.proofs.Lines.{number_name, LineBack, PhiBack, InstructionBack, lines_tell, numbered_told, AreParts, parts_back, only_phis, only_instructions}
use Rattle.printed_again.proofs.Terminators.{TerminatorBack, SameTerminator, terminator_tells}

-- ---- texts of lines

pub texts_append : (xs ys : List Line) → token_texts (xs ++ ys) ≡ token_texts xs ++ token_texts ys
texts_append [] ys = refl
texts_append (x ∷ xs) ys = ap (λ r. x.tokens ++ r) (texts_append xs ys) ∙ sym (append_assoc x.tokens (token_texts xs) (token_texts ys))

-- ---- names that may be left out

abbrev pub MayBeName : Option Name → Type 0
MayBeName (Some n) = IsName n
MayBeName None = Unit {0}

pub numbered_is_name : (at n : ℕ) (o : Option Name) → MayBeName o → IsName (numbered_name at n o).0
numbered_is_name at n (Some name) h = h
numbered_is_name at n None h = number_name at n

-- ---- blocks

-- what is told of a block
pub record BlockFact (b : Block) : Type 0 where
  pub label : MayBeName b.label
  pub phis : AllByRecursion PhiBack b.phis
  pub instructions : AllByRecursion InstructionBack b.instructions
  pub terminator : TerminatorBack b.terminator

label_told : Tells label.derives MayBeName
label_told = or (step label_tells (λ n N. made (Some n) N)) (made None tt)

abbrev a_block : Option Name → List Phi → List Instruction → Terminator → Block
a_block l ps is t = record { label = l; phis = ps; instructions = is; terminator = t }

pub block_tells : Tells block.derives BlockFact
unfolding block
block_tells =
    step label_told (λ l L. step lines_tell (λ ls H. step terminator_tells (λ t T.
    made (a_block l (phis_of ls) (instructions_of ls) t) (record { label = L; phis = H.phis; instructions = H.instructions; terminator = T }))))

abbrev pub SameBlock : Block → Block → Type 0
SameBlock b c = bare_block c ≡ bare_block b

abbrev block_texts : Name → List Phi → List Instruction → Terminator → List (List ℕ)
block_texts name ps is t = label_text name.text ∷ ((token_texts (map phi_line ps) ++ token_texts (map instruction_line is)) ++ terminator_tokens t.form)

block_texts_are : (name : Name) (ps : List Phi) (is : List Instruction) (t : Terminator) → token_texts (block_lines (a_block (Some name) ps is t)) ≡ block_texts name ps is t
block_texts_are name ps is t =
    ap (λ r. label_text name.text ∷ r)
    (texts_append (map phi_line ps) (map instruction_line is ++ inner (terminator_tokens t.form) ∷ [])
    ∙ ap (λ r. token_texts (map phi_line ps) ++ r) (texts_append (map instruction_line is) (inner (terminator_tokens t.form) ∷ []) ∙ ap (λ r. token_texts (map instruction_line is) ++ r) (append-nil (terminator_tokens t.form)))
    ∙ sym (append_assoc (token_texts (map phi_line ps)) (token_texts (map instruction_line is)) (terminator_tokens t.form)))

parts_like : (name : Name) (m : Name) (ps qs : List Phi) (is js : List Instruction) (t u : Terminator) → SameName name m → map bare_phi qs ≡ map bare_phi ps → map bare_instruction js ≡ map bare_instruction is → SameTerminator t u
    → SameBlock (a_block (Some name) ps is t) (a_block (Some m) qs js u)
parts_like name m ps qs is js t u en ep ei et =
    let e : bare_block (a_block (Some m) qs js u) ≡ bare_block (a_block (Some name) ps is t) = cc in e

abbrev IsLabel : Name → Option Name → Type 0
IsLabel name l = (m : Name) × (l ≡ Some m) × SameName name m

read_like : (name : Name) (ps : List Phi) (is : List Instruction) (t : Terminator) (l : Option Name) (ls : List GrammarLine) (u : Terminator) → IsLabel name l → AreParts ps is ls → SameTerminator t u
    → SameBlock (a_block (Some name) ps is t) (a_block l (phis_of ls) (instructions_of ls) u)
read_like name ps is t l ls u el p eu =
    ap (λ x. bare_block (a_block x (phis_of ls) (instructions_of ls) u)) el.1
    ∙ ap (λ x. bare_block (a_block (Some el.0) x (instructions_of ls) u)) (ap phis_of p.whole ∙ only_phis p.phis p.instructions)
    ∙ ap (λ x. bare_block (a_block (Some el.0) p.phis x u)) (ap instructions_of p.whole ∙ only_instructions p.phis p.instructions)
    ∙ parts_like name el.0 ps p.phis is p.instructions t u el.2 p.same_phis p.same_instructions eu

-- a block with a name
abbrev pub NamedBlock : Block → Type 0
NamedBlock b = Back block.derives (token_texts (block_lines b)) (SameBlock b)

block_back : (name : Name) (ps : List Phi) (is : List Instruction) (t : Terminator) → IsName name → AllByRecursion PhiBack ps → AllByRecursion LineBack is → TerminatorBack t → NamedBlock (a_block (Some name) ps is t)
unfolding block
block_back name ps is t N P I T =
    moved (sym (block_texts_are name ps is t))
    (bind {xs = label_text name.text ∷ []} {Like = IsLabel name} (left (ends (label_back name N) (λ m e. gives (Some m) (m, refl, e)))) (λ l el.
    bind (parts_back ps is P I) (λ ls p.
    ends T (λ u eu.
    gives (a_block l (phis_of ls) (instructions_of ls) u) (read_like name ps is t l ls u el p eu)))))

pub numbered_blocks_told : (at n : ℕ) (bs : List Block) → AllByRecursion BlockFact bs → AllByRecursion NamedBlock (numbered_blocks at n bs)
numbered_blocks_told at n [] h = tt
numbered_blocks_told at n (b ∷ bs) h =
    let name = numbered_name at n b.label in
    let k = after_phis name.1 b.phis in (
      block_back name.0 b.phis (numbered_instructions at k b.instructions).0 b.terminator (numbered_is_name at n b.label h.0.label) h.0.phis (numbered_told at k b.instructions h.0.instructions) h.0.terminator,
      numbered_blocks_told at (numbered_instructions at k b.instructions).1 bs h.1,
    )

pub blocks_back : (bs : List Block) → AllByRecursion NamedBlock bs → Back (all_of block) (token_texts (blocks_lines bs)) (λ cs. map bare_block cs ≡ map bare_block bs)
blocks_back [] h = alike (λ cs e. ap (map bare_block) e) (none block)
blocks_back (b ∷ bs) h = moved (sym (texts_append (block_lines b) (blocks_lines bs))) (more block h.0 (blocks_back bs h.1) (λ c cs e es. cons_like bare_block b c bs cs e es))

-- ---- headers

pub record ParameterFact (p : Parameter) : Type 0 where
  pub kind : IsValueType p.kind
  pub name : MayBeName p.name

abbrev a_parameter : IrType → Option Name → Parameter
a_parameter t n = record { kind = t; name = n }

parameter_tells : Tells parameter.derives ParameterFact
unfolding parameter
parameter_tells =
    step value_type_tells (λ t T. over (λ _. step (or (step local_tells (λ n N. made {Result = MayBeName} (Some n) N)) (made {Result = MayBeName} None tt)) (λ n N.
    made (a_parameter t n) (record { kind = T; name = N }))))

abbrev pub ParameterBack : Parameter → Type 0
ParameterBack p = Back parameter.derives (parameter_tokens p) (λ q. bare_parameter q ≡ bare_parameter p)

parameter_back : (t : IrType) (n : Name) → IsValueType t → IsName n → ParameterBack (a_parameter t (Some n))
unfolding parameter
parameter_back t n T N =
    bind T.back (λ u eu.
    bind attributes_back (λ _ _.
    ends {Like = λ o. on_some bare_name o ≡ Some (bare_name n)} (left (ends (local_back n N) (λ m e. gives (Some m) (ap Some e)))) (λ o eo.
    gives (a_parameter u o) (ap (λ k. a_parameter (bare_type k) (on_some bare_name o)) eu ∙ ap (a_parameter (bare_type t)) eo))))

pub numbered_parameters_told : (at n : ℕ) (ps : List Parameter) → AllByRecursion ParameterFact ps → AllByRecursion ParameterBack (numbered_parameters at n ps).0
numbered_parameters_told at n [] h = tt
numbered_parameters_told at n (p ∷ ps) h = (parameter_back p.kind (numbered_name at n p.name).0 h.0.kind (numbered_is_name at n p.name h.0.name), numbered_parameters_told at (numbered_name at n p.name).1 ps h.1)

pub record HeaderFact (h : Header) : Type 0 where
  pub result : ResultBack h.result
  pub name : IsName h.name
  pub parameters : AllByRecursion ParameterFact h.parameters

abbrev a_header : Option IrType → Name → List Parameter → Header
a_header r n ps = record { result = r; name = n; parameters = ps }

pub header_tells : Tells header.derives HeaderFact
unfolding header
header_tells =
    over (λ _. step result_tells (λ r R. step global_tells (λ n N. over (λ _. step (listed_tell (codes ")") parameter parameter_tells) (λ ps P. over (λ _.
    made (a_header r n ps) (record { result = R; name = N; parameters = P })))))))

pub ignored_back : Back ignored.derives [] Any
ignored_back = nothing (attribute_or linkage_words)

abbrev pub HeaderBack : Header → Type 0
HeaderBack h = Back header.derives (header_tokens h) (λ k. bare_header k ≡ bare_header h)

pub header_back : (h : Header) (ps : List Parameter) → HeaderFact h → AllByRecursion ParameterBack ps → HeaderBack (with_parameters h ps)
unfolding header
header_back h ps H P =
    bind ignored_back (λ _ _.
    bind H.result (λ s es.
    bind (global_back h.name H.name) (λ m em.
    bind (the_mark (codes "(") refl) (λ _ _.
    ends (listed_back parameter parameter_tokens bare_parameter (codes ")") refl ps P) (λ qs eqs.
    bind tail_back (λ _ _.
    gives (a_header s m qs) (let e : bare_header (a_header s m qs) ≡ bare_header (with_parameters h ps) = cc in e)))))))
