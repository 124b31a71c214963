-- Accesses by the history.
use Rattle.std.specs.Prelude.{◌&&◌, ◌==◌, if◌then◌else◌, ◌≡◌, ℕ, List, Option, None, Some}
use Rattle.flat_ir.specs.declared.names.ObjectName.{ObjectName}
use Rattle.flat_ir.specs.declared.names.ObjectName.TheVariants.{Global, Made}
use Rattle.flat_ir.specs.declared.program.ProgramData.{ProgramData}
use Rattle.flat_ir.specs.declared.values.Address.{Address}
use Rattle.flat_ir.specs.declared.values.ConcreteByte.{ConcreteByte}
use Rattle.flat_ir.specs.declared.values.FaultKind.{FaultKind}
use Rattle.flat_ir.specs.declared.values.FaultKind.TheVariants as fault
use Rattle.flat_ir.specs.History.{History}
use Rattle.flat_ir.specs.Registers.{first_of}
use Rattle.flat_ir.specs.Steps.{access_fault, byte_there, made_by_malloc}

-- an access of n bytes passes its tests, and these are the bytes there
pub record Reaches (p : ProgramData) (h : History) (n : ℕ) (at : Address) (bytes : List ConcreteByte) : Type 0 where
  pub passes : access_fault p h n at ≡ None
  pub bytes_are : bytes ≡ first_of n 0 (byte_there p h at)

-- a global that isn't there has no byte, and another object isn't alive
abbrev pub fault_of_missing : ObjectName → FaultKind
fault_of_missing (Global g) = fault.OutOfBounds
fault_of_missing (Made frame made) = fault.UseAfterFree

abbrev pub free_fault_of_missing : ObjectName → FaultKind
free_fault_of_missing (Global g) = fault.BadFree
free_fault_of_missing (Made frame made) = fault.UseAfterFree

-- only what a malloc made is freed, at its start
abbrev pub fault_of_live_free : ProgramData → ObjectName → ℕ → Option FaultKind
fault_of_live_free p x offset = if made_by_malloc p x && (offset == 0) then None else Some fault.BadFree
