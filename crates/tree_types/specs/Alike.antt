-- How types are spelled with their names replaced.
use Rattle.std.specs.Prelude.{ℕ, suc, List, Option, None}
use Rattle.ir_tree.specs.Layout.{kind_of}
use Rattle.ir_tree.specs.Spelling.{type_tokens}
use Rattle.ir_tree.specs.declared.types.IrType.{IrType, fold-IrType, out-IrType}
use Rattle.ir_tree.specs.declared.types.IrType.TheOpen.{IrType-F}
use Rattle.ir_tree.specs.declared.module.TypeDefinition.{TypeDefinition}
use Rattle.ir_programs.specs.Types.{expanded_level, expanded_name}

-- the tokens of a type, so many names within one another replaced
abbrev pub spelled : ℕ → List TypeDefinition → IrType → List (List ℕ)
spelled n types t = type_tokens (fold-IrType IrType (expanded_level (expanded_name n types)) t)

-- what a name stands for, where so many are replaced
abbrev pub replaced_level : ℕ → List TypeDefinition → IrType-F IrType → Option IrType
replaced_level (suc n) types (IrType-F.Named name at) = kind_of types name
replaced_level _ types _ = None

abbrev pub replaced : ℕ → List TypeDefinition → IrType → Option IrType
replaced n types t = replaced_level n types (out-IrType t)
