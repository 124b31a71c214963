-- The bytes of one object, by the history.
use Rattle.flat_ir.specs.Orderly.{is_named}
use Rattle.std.specs.Prelude.{◌≡◌, ℕ, ◌<◌, true, false, List, length, Some, slice_get}
use Rattle.flat_ir.specs.declared.names.ObjectName.{ObjectName}
use Rattle.flat_ir.specs.declared.program.ProgramData.{ProgramData}
use Rattle.flat_ir.specs.declared.program.GlobalVar.{GlobalVar}
use Rattle.flat_ir.specs.declared.values.ConcreteByte.{ConcreteByte}
use Rattle.flat_ir.specs.declared.values.ConcreteByte.TheVariants as byte
use Rattle.flat_ir.specs.History.{History, is_alive, size_of, byte_at, initial_of}

-- an object of n bytes of value 0
pub record AreZero (n : ℕ) (bytes : List ConcreteByte) : Type 0 where
  pub size : length bytes ≡ n
  pub zero_at : (k : ℕ) → k < length bytes → slice_get bytes k ≡ Some (byte.Int 0)

-- what a global starts with
pub record AreInitial (var : GlobalVar) (bytes : List ConcreteByte) : Type 0 where
  pub size : length bytes ≡ var.size
  pub initial_at : (k : ℕ) → k < length bytes → slice_get bytes k ≡ Some (initial_of (Some var) k)

-- an object that lives, with these bytes
pub record IsLive (p : ProgramData) (h : History) (x : ObjectName) (bytes : List ConcreteByte) : Type 0 where
  pub named : is_named p x h ≡ true
  pub alive : is_alive x h ≡ true
  pub size : length bytes ≡ size_of p x h
  pub byte_is : (k : ℕ) → k < length bytes → slice_get bytes k ≡ Some (byte_at p h x k)

-- an object that lived
pub record IsEnded (p : ProgramData) (h : History) (x : ObjectName) : Type 0 where
  pub named : is_named p x h ≡ true
  pub dead : is_alive x h ≡ false
