use Rattle.std.proofs.Common.{◌≡◌, ℕ, true, List, sym, subst}
use Rattle.ir_grammar.specs.Tokens.{seen}
use Rattle.ir_programs.specs.Readable.{is_readable}
use Rattle.ir_reader.specs.Reading.{IsReadAs}
use Rattle.ir_tree.specs.declared.module.IrTree.{IrTree}
use Rattle.readable_trees.proofs.Module.{trees_are_readable}
use Rattle.machine_tests.proofs.programs.program_of.Goals as goal

read-is-readable : (bytes : List ℕ) (t : IrTree) → IsReadAs bytes t → is_readable t ≡ true
read-is-readable bytes t a = subst (λ u. is_readable u ≡ true) (sym a.numbers) (trees_are_readable a.spelled (seen bytes a.tokens) a.is_module)

pub resolve-requires : goal.resolve-requires
resolve-requires c = record { readable = read-is-readable c.args.bytes.now c.in-Ok.tree c.in-Ok.ensures.tree }
