-- Concrete memory: the list of all changes so far, the newest first. Objects and their lives are those of the LLVM
-- Language Reference, "Object Lifetime", with three choices of this project: fresh bytes are 0, an object is named by what
-- made it and has no number as its address, and bytes of a pointer are kept as such.
use Rattle.std.specs.Prelude.{ℕ, ◌+◌, Bool, true, false, not, ◌&&◌, ◌==◌, List, [], ◌∷◌, ◌++◌, Option, None, Some, slice_get, if◌then◌else◌}
use Rattle.std.specs.List.{list_any}
use Rattle.flat_ir.specs.declared.names.CallStep.{CallStep}
use Rattle.flat_ir.specs.declared.names.ObjectName.{ObjectName}
use Rattle.flat_ir.specs.declared.names.ObjectName.TheVariants.{Global, Made}
use Rattle.flat_ir.specs.declared.names.Site.{Site}
use Rattle.flat_ir.specs.declared.names.Site.TheVariants as site
use Rattle.flat_ir.specs.declared.values.ConcreteByte.{ConcreteByte}
use Rattle.flat_ir.specs.declared.values.ConcreteByte.TheVariants.{Int, PtrByte}
use Rattle.flat_ir.specs.declared.program.ProgramData.{ProgramData}
use Rattle.flat_ir.specs.declared.program.GlobalVar.{GlobalVar}
use Rattle.flat_ir.specs.declared.program.InitByte.{InitByte}
use Rattle.flat_ir.specs.declared.program.InitByte.TheVariants as init

-- a byte is written at a place of an object; an object of so many bytes is made; an object ends; a byte of the input is
-- read; a byte is written out
pub data Change : Type 0 where
  Write : (object : ObjectName) (place : ℕ) (byte : ConcreteByte) → Change
  Alloc : (object : ObjectName) (size : ℕ) → Change
  Free : (object : ObjectName) → Change
  Get : Change
  Put : (byte : ℕ) → Change

abbrev pub History : Type 0
History = List Change

-- the two are one execution of one node
abbrev pub same_step : CallStep → CallStep → Bool
same_step a b = (a.func.0 == b.func.0) && ((a.node.0 == b.node.0) && (a.count == b.count))

-- the two frames are one: they were made by the same calls
abbrev pub same_steps : List CallStep → List CallStep → Bool
same_steps [] [] = true
same_steps [] (b ∷ bs) = false
same_steps (a ∷ as') [] = false
same_steps (a ∷ as') (b ∷ bs) = same_step a b && same_steps as' bs

-- the two names are one object's
abbrev pub same_object : ObjectName → ObjectName → Bool
same_object (Global g) (Global h) = g == h
same_object (Global g) (Made frame made) = false
same_object (Made frame made) (Global h) = false
same_object (Made frame made) (Made frame' made') = same_steps frame frame' && same_step made made'

-- the change makes the object
abbrev pub is_alloc_of : ObjectName → Change → Bool
is_alloc_of x (Alloc y size) = same_object x y
is_alloc_of x _ = false

-- the change ends the object
abbrev pub is_free_of : ObjectName → Change → Bool
is_free_of x (Free y) = same_object x y
is_free_of x _ = false

-- a global always is alive, another object from its Alloc to its Free
abbrev pub is_alive : ObjectName → History → Bool
is_alive (Global g) h = true
is_alive (Made frame made) h = list_any (is_alloc_of (Made frame made)) h && not (list_any (is_free_of (Made frame made)) h)

abbrev pub size_of_global : Option GlobalVar → ℕ
size_of_global None = 0
size_of_global (Some g) = g.size

-- the size with which the object was made last
abbrev pub size_made : ObjectName → History → ℕ
size_made x [] = 0
size_made x (Alloc y size ∷ h) = if same_object x y then size else size_made x h
size_made x (_ ∷ h) = size_made x h

-- how many bytes an object has
abbrev pub size_of : ProgramData → ObjectName → History → ℕ
size_of p (Global g) h = size_of_global (slice_get p.globals g)
size_of p (Made frame made) h = size_made (Made frame made) h

abbrev pub initial_byte : Option InitByte → ConcreteByte
initial_byte None = Int 0
initial_byte (Some (init.Int b)) = Int b
initial_byte (Some (init.PtrByte g offset j)) = PtrByte (record { base = Some (Global g); offset = offset }) j

abbrev pub initial_of : Option GlobalVar → ℕ → ConcreteByte
initial_of None k = Int 0
initial_of (Some g) k = initial_byte (slice_get g.init k)

-- what an object holds before any write
abbrev pub initial : ProgramData → ObjectName → ℕ → ConcreteByte
initial p (Global g) k = initial_of (slice_get p.globals g) k
initial p (Made frame made) k = Int 0

-- the byte last written there, or the initial one
abbrev pub byte_at : ProgramData → History → ObjectName → ℕ → ConcreteByte
byte_at p [] x k = initial p x k
byte_at p (Write y j b ∷ h) x k = if same_object x y && (j == k) then b else byte_at p h x k
byte_at p (_ ∷ h) x k = byte_at p h x k

-- where an object comes from: its global, or the node that made it
abbrev pub site_of : ObjectName → Site
site_of (Global g) = site.Global g
site_of (Made frame made) = site.Node made.func made.node

-- how many bytes of the input were read
abbrev pub position : History → ℕ
position [] = 0
position (Get ∷ h) = position h + 1
position (_ ∷ h) = position h

-- what was written out, the oldest first
abbrev pub output : History → List ℕ
output [] = []
output (Put b ∷ h) = output h ++ b ∷ []
output (_ ∷ h) = output h
