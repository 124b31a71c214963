-- The tests of a free.
use Rattle.flat_ir.specs.Orderly.{is_named}
use Rattle.std.proofs.Common.{◌≡◌, ℕ, true, false, Some, None, IsSome, refl, sym}
use Rattle.flat_ir.specs.declared.names.ObjectName.{ObjectName}
use Rattle.flat_ir.specs.declared.names.ObjectName.TheVariants.{Global, Made}
use Rattle.flat_ir.specs.declared.program.ProgramData.{ProgramData}
use Rattle.flat_ir.specs.declared.values.Address.{Address}
use Rattle.flat_ir.specs.declared.values.FaultKind.TheVariants as fault
use Rattle.flat_ir.specs.History.{History, is_alive}
use Rattle.flat_ir.specs.Steps.{freed_object_fault}
use Rattle.concrete_memory.specs.declared.objects.Store.{Store}
use Rattle.concrete_memory.specs.declared.objects.Life.TheVariants.{Ended}
use Rattle.concrete_memory.specs.Objects.{IsEnded}
use Rattle.concrete_memory.specs.Accesses.{free_fault_of_missing, fault_of_live_free}
use Rattle.concrete_memory.specs.Standing.{StandsFor, life_of, IsMadeName, Puts, Frees}
use Rattle.concrete_memory.proofs.Changes.{free_stands}

pub missing_free_faults : (p : ProgramData) (h : History) (x : ObjectName) (offset : ℕ) → is_named p x h ≡ false → freed_object_fault p h x offset ≡ Some (free_fault_of_missing x)
missing_free_faults p h (Global g) offset none = refl
missing_free_faults p h (Made frame made) offset none = rw none refl

pub ended_free_faults : (p : ProgramData) (h : History) (x : ObjectName) (offset : ℕ) → IsEnded p h x → freed_object_fault p h x offset ≡ Some fault.UseAfterFree
ended_free_faults p h x offset ended = rw ended.dead refl

pub live_free_faults : (p : ProgramData) (h : History) (x : ObjectName) (offset : ℕ) → is_alive x h ≡ true → freed_object_fault p h x offset ≡ fault_of_live_free p x offset
live_free_faults p h x offset live = rw live refl

pub frees_object : (p : ProgramData) (h : History) (old new : Store) (x : ObjectName) (at : Address) → at.base ≡ Some x → None ≡ freed_object_fault p h x at.offset → IsMadeName x → IsSome (life_of old x) → StandsFor p old h → Puts old new x Ended → Frees p new at h
frees_object p h old new x at base passes is_made_name some stands puts = record {
  passes = rw base (sym passes);
  stands = rw base (free_stands p h old new x stands is_made_name some puts);
}
