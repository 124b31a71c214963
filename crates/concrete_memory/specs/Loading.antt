-- Loads by the history.
use Rattle.std.specs.Prelude.{◌≡◌, Option, None, Some}
use Rattle.flat_ir.specs.declared.nodes.RegType.{RegType}
use Rattle.flat_ir.specs.declared.program.ProgramData.{ProgramData}
use Rattle.flat_ir.specs.declared.values.Address.{Address}
use Rattle.flat_ir.specs.declared.values.ConcreteValue.{ConcreteValue}
use Rattle.flat_ir.specs.declared.values.FaultKind.{FaultKind}
use Rattle.flat_ir.specs.declared.values.FaultKind.TheVariants as fault
use Rattle.flat_ir.specs.History.{History}
use Rattle.flat_ir.specs.Registers.{bytes_of_type}
use Rattle.flat_ir.specs.Steps.{access_fault, loaded}

-- the load passes its tests, and this is the value there
pub record Loads (p : ProgramData) (h : History) (at : Address) (t : RegType) (v : ConcreteValue) : Type 0 where
  pub passes : access_fault p h (bytes_of_type t) at ≡ None
  pub value : loaded p h at t ≡ Some v

-- bytes that make no value are mixed
abbrev pub mixed_fault : Option ConcreteValue → Option FaultKind
mixed_fault None = Some fault.MixedBytes
mixed_fault (Some v) = None

-- the first of two faults
abbrev pub first_fault : Option FaultKind → Option FaultKind → Option FaultKind
first_fault None later = later
first_fault (Some kind) later = Some kind

-- the first test of a load that fails
abbrev pub load_fault : ProgramData → History → Address → RegType → Option FaultKind
load_fault p h at t = first_fault (access_fault p h (bytes_of_type t) at) (mixed_fault (loaded p h at t))
