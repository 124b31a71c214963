-- A store stands for a history.
use Rattle.flat_ir.specs.Effects.{freed_in, stored_in, written_in}
use Rattle.flat_ir.specs.Orderly.{IsOrderly, is_named}
use Rattle.std.specs.Prelude.{◌≡◌, ℕ, false, Option, None, Some, cond, slice_set, List, [], ◌∷◌, ◌+◌, ◌≤◌, ◌<◌, ◌^◌, length}
use Rattle.std.specs.Option.{option_map}
use Rattle.flat_ir.specs.declared.values.Address.{Address}
use Rattle.flat_ir.specs.declared.values.ConcreteByte.{ConcreteByte}
use Rattle.flat_ir.specs.declared.values.ConcreteValue.{ConcreteValue}
use Rattle.flat_ir.specs.declared.values.FaultKind.{FaultKind}
use Rattle.flat_ir.specs.Registers.{bytes_of_value}
use Rattle.flat_ir.specs.Steps.{free_fault, access_fault, byte_there}
use Rattle.concrete_memory.specs.declared.values.AccessError.{AccessError}
use Rattle.concrete_memory.specs.declared.values.AccessError.TheVariants.{Fault, Memory}
use Rattle.std.specs.HashMap.{get}
use Rattle.flat_ir.specs.declared.names.ObjectName.{ObjectName}
use Rattle.flat_ir.specs.declared.names.ObjectName.TheVariants.{Made}
use Rattle.flat_ir.specs.declared.program.ProgramData.{ProgramData}
use Rattle.flat_ir.specs.History.{History, Write, same_object}
use Rattle.concrete_memory.specs.declared.objects.Store.{Store}
use Rattle.concrete_memory.specs.declared.objects.Life.{Life}
use Rattle.concrete_memory.specs.declared.objects.Life.TheVariants.{Live, Ended}
use Rattle.concrete_memory.specs.Loading.{first_fault}
use Rattle.concrete_memory.specs.Objects.{IsLive, IsEnded}

-- what a store says of a name
abbrev pub life_of : Store → ObjectName → Option Life
life_of store x = get same_object store.objects x

-- what a history says of a name
abbrev pub Holds : ProgramData → History → ObjectName → Option Life → Type 0
Holds p h x None = is_named p x h ≡ false
Holds p h x (Some (Live bytes)) = IsLive p h x bytes
Holds p h x (Some Ended) = IsEnded p h x

-- the store has the names of the history, each object's life, and each live object's size and bytes
pub record StandsFor (p : ProgramData) (store : Store) (h : History) : Type 0 where
  pub orderly : IsOrderly h
  pub objects : (x : ObjectName) → Holds p h x (life_of store x)

-- the stores say the same of each name
abbrev pub SameObjects : Store → Store → Type 0
SameObjects old new = (x : ObjectName) → life_of new x ≡ life_of old x

abbrev pub IsMadeName : ObjectName → Type 0
IsMadeName (Made frame made) = Unit {0}
IsMadeName _ = ⊥

-- a made name that the store doesn't have
pub record IsNew (store : Store) (name : ObjectName) : Type 0 where
  pub made : IsMadeName name
  pub none : life_of store name ≡ None

-- the new store has this life at the name, and else what the old has
abbrev pub Puts : Store → Store → ObjectName → Life → Type 0
Puts old new y life = (x : ObjectName) → life_of new x ≡ cond (same_object y x) (Some life) (life_of old x)

-- bytes with others written over them, the first of those at a place
abbrev pub overwritten : ℕ → List ConcreteByte → List ConcreteByte → List ConcreteByte
overwritten place [] bytes = bytes
overwritten place (b ∷ bs) bytes = overwritten (place + 1) bs (slice_set bytes place b)

abbrev pub overwritten_life : ℕ → List ConcreteByte → Life → Life
overwritten_life place bs (Live bytes) = Live (overwritten place bs bytes)
overwritten_life place bs Ended = Ended

-- an object that lives has so many bytes
abbrev pub LivesWith : ℕ → Life → Type 0
LivesWith n (Live bytes) = n ≤ length bytes
LivesWith n Ended = Unit {0}

-- the new store has the bytes at that place of the object, and else what the old has
abbrev pub PutsBytes : Store → Store → ObjectName → ℕ → List ConcreteByte → Type 0
PutsBytes old new y place bs = (x : ObjectName) → life_of new x ≡ cond (same_object y x) (option_map (overwritten_life place bs) (life_of old y)) (life_of old x)

-- a free passes its tests, and the store stands for the history with it
pub record Frees (p : ProgramData) (new : Store) (at : Address) (h : History) : Type 0 where
  pub passes : free_fault p h at ≡ None
  pub stands : StandsFor p new (freed_in at h)

-- the object lives, and n of its bytes stand from a place on
pub record HasPlaces (store : Store) (x : ObjectName) (place n : ℕ) : Type 0 where
  pub bytes : List ConcreteByte
  pub lives : life_of store x ≡ Some (Live bytes)
  pub within : place + n ≤ length bytes
  pub fits : length bytes < 2 ^ 64

-- the history after some bytes were written from a place on, one after another
abbrev pub all_written : ObjectName → ℕ → List ConcreteByte → History → History
all_written x k [] h = h
all_written x k (b ∷ bs) h = all_written x (k + 1) bs (Write x k b ∷ h)

-- a store of a value passes its tests, and the memory stands for the history with it
pub record Stores (p : ProgramData) (new : Store) (at : Address) (v : ConcreteValue) (h : History) : Type 0 where
  pub passes : access_fault p h (bytes_of_value v) at ≡ None
  pub stands : StandsFor p new (stored_in (bytes_of_value v) 0 at v h)

-- the first test of a copy of one byte that fails: the source's, then the target's
abbrev pub copy_fault : ProgramData → History → Address → Address → Option FaultKind
copy_fault p h from there = first_fault (access_fault p h 1 from) (access_fault p h 1 there)

-- a copy of one byte passes its tests, and the memory stands for the history with it
pub record Copies (p : ProgramData) (new : Store) (from there : Address) (h : History) : Type 0 where
  pub passes : copy_fault p h from there ≡ None
  pub stands : StandsFor p new (written_in there (byte_there p h from 0) 0 h)

-- a fact of the fault, if the error is one
abbrev pub IfFault : (FaultKind → Type 0) → AccessError → Type 0
IfFault P (Fault kind) = P kind
IfFault P Memory = Unit {0}
