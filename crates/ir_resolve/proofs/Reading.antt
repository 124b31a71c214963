-- What a part of a tree that was read has.
use Rattle.std.proofs.Common.{◌≡◌, ◌<◌, ℕ, zero, suc, Bool, true, false, List, [], ◌∷◌, length, get_or, refl, ap, arith, ◌∙◌}
use Rattle.std.specs.Prelude.{◌&&◌, nat_le}
use Rattle.std.specs.List.{list_all}
use Rattle.std.proofs.lemmas.Bool.{leb-true}
use Rattle.bitnum.specs.Number.{IsWidth}
use Rattle.ir_tree.specs.declared.instructions.Block.{Block}
use Rattle.ir_tree.specs.declared.instructions.Case.{Case}
use Rattle.ir_tree.specs.declared.instructions.TerminatorForm.TheVariants as terminators
use Rattle.ir_tree.specs.declared.constants.Value.{Value}
use Rattle.ir_tree.specs.declared.types.Name.{Name}
use Rattle.ir_tree.specs.declared.module.FunctionDefinition.{FunctionDefinition}
use Rattle.ir_tree.specs.declared.module.IrTree.{IrTree}
use Rattle.ir_programs.specs.Readable.{is_width, is_readable_value, is_readable_phi, is_readable_instruction, is_readable_terminator, is_readable_block, is_readable_header, has_block, is_readable_function, is_readable_constant, has_widths, is_readable}

pub left : (a b : Bool) → (a && b) ≡ true → a ≡ true
left true b e = refl
left false b e = e

pub right : (a b : Bool) → (a && b) ≡ true → b ≡ true
right true b e = e
right false b e = absurd (apart e)
  where
    apart : false ≡ true → ⊥
    apart d = cc

pub width_is : (n : ℕ) → is_width n ≡ true → IsWidth n
width_is n e = record { least = leb-true 1 n (left (nat_le 1 n) (nat_le n 64) e); most = leb-true n 64 (right (nat_le 1 n) (nat_le n 64) e) }

-- what holds of each holds of one
pub all_at : {A : Type 0} (p : A → Bool) (xs : List A) (i : ℕ) (x : A) → list_all p xs ≡ true → i < length xs → x ≡ get_or xs i x → p x ≡ true
all_at p [] i x all lt is = absurd (omega (arith, lt))
all_at {A} p (y ∷ ys) zero x all lt is = ap p is ∙ left (p y) (list_all p ys) all
all_at p (y ∷ ys) (suc i) x all lt is = all_at p ys i x (right (p y) (list_all p ys) all) (omega (arith, lt)) is

pub cases_readable : (width : ℕ) (value : Value) (default : Name) (cases : List Case) → is_readable_terminator (terminators.Switch width value default cases) ≡ true → list_all (λ c. is_width c.width) cases ≡ true
cases_readable width value default cases e =
    right (is_readable_value value) (list_all (λ c. is_width c.width) cases) (right (is_width width) (is_readable_value value && list_all (λ c. is_width c.width) cases) e)

pub terminator_readable : (b : Block) → is_readable_block b ≡ true → is_readable_terminator b.terminator.form ≡ true
terminator_readable b e =
    let inner = list_all is_readable_instruction b.instructions && is_readable_terminator b.terminator.form in
    right (list_all is_readable_instruction b.instructions) (is_readable_terminator b.terminator.form) (right (list_all is_readable_phi b.phis) inner e)

pub blocks_readable : (f : FunctionDefinition) → is_readable_function f ≡ true → list_all is_readable_block f.blocks ≡ true
blocks_readable f e = right (has_block f.blocks) (list_all is_readable_block f.blocks) (right (is_readable_header f.header) (has_block f.blocks && list_all is_readable_block f.blocks) e)

pub functions_readable : (t : IrTree) → is_readable t ≡ true → list_all is_readable_function t.functions ≡ true
functions_readable t e =
    let globals = list_all (λ g. is_readable_constant g.value) t.globals in
    right globals (list_all is_readable_function t.functions) (right (list_all (λ d. has_widths d.kind) t.types) (globals && list_all is_readable_function t.functions) e)
