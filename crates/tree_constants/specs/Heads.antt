-- Widths of a type's head.
use Rattle.std.specs.Prelude.{Bool, true, List}
use Rattle.std.specs.List.{list_all}
use Rattle.ir_tree.specs.declared.types.IrType.{IrType}
use Rattle.ir_tree.specs.declared.types.IrType.TheOpen.{IrType-F}
use Rattle.ir_tree.specs.declared.module.TypeDefinition.{TypeDefinition}
use Rattle.ir_programs.specs.Readable.{is_width, has_widths}

-- an integer has 1 to 64 bits
abbrev pub has_width : IrType-F IrType → Bool
has_width (IrType-F.Int width) = is_width width
has_width _ = true

-- each integer type in the definitions has 1 to 64 bits
abbrev pub have_widths : List TypeDefinition → Bool
have_widths ds = list_all (λ d. has_widths d.kind) ds
