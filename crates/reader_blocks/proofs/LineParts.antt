-- The parts of lines that are gathered.
use Rattle.std.proofs.Common.{◌≡◌, Bool, List, [], ◌∷◌, ◌++◌, ap, ◌∙◌, append_assoc}
use Rattle.std.proofs.lemmas.List.{append-nil}
use Rattle.ir_tree.specs.declared.instructions.Phi.{Phi}
use Rattle.ir_tree.specs.declared.instructions.Instruction.{Instruction}
use Rattle.phrases.specs.Piece.{Piece}
use Rattle.phrases.specs.Phrase.{Outcome, got, refused, and_then}
use Rattle.phrases.proofs.Laws.{got_is, refused_is, never, never_got}
use Rattle.ir_grammar.specs.Instructions.{Line, a_phi, an_instruction, phis_of, instructions_of}
use Rattle.reader_blocks.specs.declared.lines.Body.{Body}
use Rattle.reader_blocks.specs.Lines.{with_lines, body_of, parted}

abbrev make : List Phi → List Instruction → Body
make ps is = record { phis = ps; instructions = is }

body_is : (ps qs : List Phi) (is js : List Instruction) → ps ≡ qs → is ≡ js → make ps is ≡ make qs js
body_is ps qs is js e f = ap (λ x. make x is) e ∙ ap (λ x. make qs x) f

pub lines_none : (b : Body) → with_lines b [] ≡ b
lines_none b = body_is (b.phis ++ []) b.phis (b.instructions ++ []) b.instructions (append-nil b.phis) (append-nil b.instructions)

pub lines_later : (b : Body) (a : Line) (ls : List Line) → with_lines (with_lines b (a ∷ [])) ls ≡ with_lines b (a ∷ ls)
lines_later b (a_phi p) ls = body_is ((b.phis ++ p ∷ []) ++ phis_of ls) (b.phis ++ p ∷ phis_of ls) ((b.instructions ++ []) ++ instructions_of ls) (b.instructions ++ instructions_of ls) (append_assoc b.phis (p ∷ []) (phis_of ls)) (ap (λ x. x ++ instructions_of ls) (append-nil b.instructions))
lines_later b (an_instruction i) ls = body_is ((b.phis ++ []) ++ phis_of ls) (b.phis ++ phis_of ls) ((b.instructions ++ i ∷ []) ++ instructions_of ls) (b.instructions ++ i ∷ instructions_of ls) (ap (λ x. x ++ phis_of ls) (append-nil b.phis)) (append_assoc b.instructions (i ∷ []) (instructions_of ls))

-- lines that are read, parted, in front of what goes on with their parts
pub parts_then : {X : Type 0} (read : Outcome (List Line)) (b : Body) (rest : List Piece) (k : Body → List Piece → Outcome X) → parted read ≡ got b rest → and_then read (λ ls after. k (body_of ls) after) ≡ k b rest
parts_then (got ls after) b rest k e = let same = got_is (body_of ls) b after rest e in ap (λ x. k x after) same.0 ∙ ap (k b) same.1
parts_then (refused n after) b rest k e = absurd (never_got b rest n after e)

pub parts_refused : {X : Type 0} (read : Outcome (List Line)) (n : Bool) (rest : List Piece) (k : Body → List Piece → Outcome X) → parted read ≡ refused n rest → and_then read (λ ls after. k (body_of ls) after) ≡ refused n rest
parts_refused (got ls after) n rest k e = absurd (never (body_of ls) after n rest e)
parts_refused (refused m after) n rest k e = let same = refused_is Body m n after rest e in ap (λ x. refused x after) same.0 ∙ ap (refused n) same.1
