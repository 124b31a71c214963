-- Worked examples: which trees are such as a text's.
use Rattle.std.proofs.Common.{◌≡◌, true, false, [], ◌∷◌, Some, None, refl}
use Rattle.std.specs.Prelude.{codes}
use Rattle.ir_tree.specs.declared.instructions.TerminatorForm.TheVariants as terminators
use Rattle.ir_programs.specs.Readable.{is_width, is_readable}
use Rattle.ir_programs.proofs.SmallTrees.{block, function, only}

least : is_width 0 ≡ false
least = refl

most : is_width 64 ≡ true
most = refl

above : is_width 65 ≡ false
above = refl

-- a module without functions, and one whose function has a block, or none
empty : is_readable (only []) ≡ true
empty = refl

with_block : is_readable (only (function (codes "f") None [] (block (codes "0") [] [] terminators.Unreachable ∷ []) ∷ [])) ≡ true
with_block = refl

without_block : is_readable (only (function (codes "f") None [] [] ∷ [])) ≡ false
without_block = refl
