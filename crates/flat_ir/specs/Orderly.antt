-- Histories in which each object is made once, before it is used.
use Rattle.std.specs.Prelude.{◌≡◌, Bool, true, false, nat_lt, [], ◌∷◌, length}
use Rattle.std.specs.List.{list_any}
use Rattle.flat_ir.specs.declared.names.ObjectName.{ObjectName}
use Rattle.flat_ir.specs.declared.names.ObjectName.TheVariants.{Global, Made}
use Rattle.flat_ir.specs.declared.program.ProgramData.{ProgramData}
use Rattle.flat_ir.specs.History.{History, Write, Alloc, Free, Get, Put, is_alloc_of, is_free_of}

-- the history allocates it
abbrev pub is_made : ObjectName → History → Bool
is_made x h = list_any (is_alloc_of x) h

-- the history frees it
abbrev pub is_freed : ObjectName → History → Bool
is_freed x h = list_any (is_free_of x) h

-- a global of the program, or an object that the history allocates
abbrev pub is_named : ProgramData → ObjectName → History → Bool
is_named p (Global g) h = nat_lt g (length p.globals)
is_named p (Made frame made) h = is_made (Made frame made) h

-- an object that may be written and freed: a global, or one that was allocated
abbrev pub IsKnown : ObjectName → History → Type 0
IsKnown (Global g) h = Unit {0}
IsKnown (Made frame made) h = is_made (Made frame made) h ≡ true

-- each object that isn't a global has at most one Alloc, and its Writes and its Free stand behind it
abbrev pub IsOrderly : History → Type 0
IsOrderly [] = Unit {0}
IsOrderly (Write x k b ∷ h) = IsKnown x h × IsOrderly h
IsOrderly (Alloc x size ∷ h) = (is_made x h ≡ false) × IsOrderly h
IsOrderly (Free x ∷ h) = IsKnown x h × IsOrderly h
IsOrderly (Get ∷ h) = IsOrderly h
IsOrderly (Put b ∷ h) = IsOrderly h
