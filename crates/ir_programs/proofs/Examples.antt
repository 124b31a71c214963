-- Worked examples: names, numbers, nodes and edges of small trees, by computation.
use Rattle.std.proofs.Common.{◌≡◌, ℕ, true, false, List, [], ◌∷◌, Some, None, refl}
use Rattle.std.specs.Prelude.{codes}
use Rattle.std.specs.Fmt.{digits}
use Rattle.bitnum.specs.declared.BinOp.TheVariants as op
use Rattle.bitnum.specs.declared.Pred.TheVariants as pred
use Rattle.flat_ir.specs.declared.nodes.RegType.TheVariants as type
use Rattle.ir_tree.specs.declared.types.IrType.TheVariants as types
use Rattle.ir_tree.specs.declared.constants.Integer.{Integer}
use Rattle.ir_tree.specs.declared.instructions.Operation.TheVariants as operations
use Rattle.ir_tree.specs.declared.instructions.TerminatorForm.TheVariants as terminators
use Rattle.ir_tree.specs.declared.module.FunctionDefinition.{FunctionDefinition}
use Rattle.prelude.specs.Copying.{memset_intrinsic, memset_intrinsic_nodes}
use Rattle.ir_programs.specs.declared.locals.Local.{Local}
use Rattle.ir_programs.specs.Locals.{local as local_of, wrong_numbers, repeated, register_types}
use Rattle.ir_programs.specs.Constants.{fits_width}
use Rattle.ir_programs.specs.Causes.{bits_of, repeated_cases}
use Rattle.ir_programs.specs.Nodes.{nodes_of}
use Rattle.ir_programs.specs.Fits.{clashes_of}
use Rattle.ir_programs.specs.Edges.{bad_edges_of}
use Rattle.ir_programs.specs.Answers.{answer, NoMain}
use Rattle.ir_programs.proofs.SmallTrees.{out_int, out_ptr, size_of_byte, named, named_at, local, count, parameter, set, unset, from, phi, block, function, only}

-- ---- numbers

-- a block, a register and a number, at places 3, 5 and 7
abbrev locals : List ℕ → List ℕ → List ℕ → List Local
locals a b c = local_of (named_at 3 a) None ∷ local_of (named_at 5 b) (Some (type.Int 8)) ∷ local_of (named_at 7 c) (Some type.Ptr) ∷ []

numbers_in_turn : wrong_numbers 0 (locals (codes "0") (codes "x") (codes "1")) ≡ []
unfolding digits
numbers_in_turn = refl

a_number_is_left_out : wrong_numbers 0 (locals (codes "0") (codes "x") (codes "2")) ≡ 7 ∷ []
unfolding digits
a_number_is_left_out = refl

-- each number that stands counts, and a leading zero makes another number of it
a_leading_zero : wrong_numbers 0 (locals (codes "00") (codes "1") (codes "3")) ≡ 3 ∷ 7 ∷ []
unfolding digits
a_leading_zero = refl

a_name_twice : repeated [] (locals (codes "x") (codes "y") (codes "x")) ≡ 7 ∷ []
a_name_twice = refl

-- ---- integers

abbrev plus : ℕ → Integer
plus n = record { negative = false; magnitude = n }

abbrev minus : ℕ → Integer
minus n = record { negative = true; magnitude = n }

the_least_of_a_byte : fits_width 8 (minus 128) ≡ true
the_least_of_a_byte = refl

below_the_least : fits_width 8 (minus 129) ≡ false
below_the_least = refl

the_greatest_of_a_byte : fits_width 8 (plus 255) ≡ true
the_greatest_of_a_byte = refl

above_the_greatest : fits_width 8 (plus 256) ≡ false
above_the_greatest = refl

minus_one : bits_of 8 (minus 1) ≡ 255
minus_one = refl

no_bits_of_zero : bits_of 8 (minus 0) ≡ 0
no_bits_of_zero = refl

-- of eight bits -1 is 255
equal_cases : repeated_cases [] (record { width = 8; value = minus 1; at = 4; label = named [] } ∷ record { width = 8; value = plus 255; at = 9; label = named [] } ∷ []) ≡ 9 ∷ []
equal_cases = refl

-- ---- nodes

-- the text of the function that sets memory, under another name
abbrev fill : FunctionDefinition
fill = function (codes "fill") None
    (parameter types.Ptr (codes "d") ∷ parameter (types.Int 8) (codes "b") ∷ parameter (types.Int 64) (codes "n") ∷ parameter (types.Int 1) (codes "v") ∷ [])
    (block (codes "e") [] [] (terminators.Jump (named (codes "l")))
    ∷ block (codes "l") (phi (codes "i") (types.Int 64) (from (count 0) (codes "e") ∷ from (local (codes "j")) (codes "k") ∷ []) ∷ [])
    (set (codes "t") (operations.Compare pred.Ult (types.Int 64) (local (codes "i")) (local (codes "n"))) ∷ [])
    (terminators.Branch (local (codes "t")) (named (codes "k")) (named (codes "x")))
    ∷ block (codes "k") []
    (set (codes "p") (operations.GetElementPtr (types.Int 8) (local (codes "d")) (record { width = 64; value = local (codes "i") } ∷ []))
    ∷ unset (operations.Store (types.Int 8) (local (codes "b")) (local (codes "p")))
    ∷ set (codes "j") (operations.Binary op.Add 64 (local (codes "i")) (count 1)) ∷ [])
    (terminators.Jump (named (codes "l")))
    ∷ block (codes "x") [] [] (terminators.Return None)
    ∷ [])

-- its registers and nodes are those of the known function
its_registers : register_types fill ≡ memset_intrinsic.regs
its_registers = simp (out_int, out_ptr)

its_nodes : nodes_of (only (fill ∷ [])) fill ≡ memset_intrinsic_nodes
its_nodes = simp (out_int, size_of_byte)

its_types_fit : clashes_of (only (fill ∷ [])) fill ≡ []
its_types_fit = simp (out_int, out_ptr)

its_edges_are_good : bad_edges_of fill ≡ []
its_edges_are_good = refl

-- ---- answers

nothing_has_no_main : answer (only []) ≡ NoMain
nothing_has_no_main = refl
