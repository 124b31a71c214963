-- Steps of pointers by the types that they lead into (Language Reference, "'getelementptr' Instruction").
use Rattle.std.specs.Prelude.{ℕ, List, Option, Some, None, slice_get}
use Rattle.ir_tree.specs.declared.types.IrType.{IrType}
use Rattle.ir_tree.specs.declared.types.IrType.TheOpen.{IrType-F}
use Rattle.ir_tree.specs.declared.constants.ValueForm.{ValueForm}
use Rattle.ir_programs.specs.Addresses.{constant_of}

-- the field with this number, if there is a number
abbrev pub field_in : List IrType → Option ℕ → Option IrType
field_in fields (Some k) = slice_get fields k
field_in fields None = None

-- what an index steps into
abbrev pub inner_of : IrType-F IrType → ValueForm → Option IrType
inner_of (IrType-F.Array at len element) form = Some element
inner_of (IrType-F.Struct at fields packed) form = field_in fields (constant_of form)
inner_of _ form = None
