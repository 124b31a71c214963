-- Worked logs: what is needed, read and alive, by computation.
use Rattle.std.proofs.Common.{◌≡◌, ℕ, List, [], ◌∷◌, refl}
use Rattle.terms.specs.declared.term.Binary.TheVariants.{Eq}
use Rattle.terms.specs.declared.term.Unary.TheVariants.{Not, Zext}
use Rattle.terms.specs.Folding.{folded_one, folded_two, folded_choice}
use Rattle.terms.specs.Same.{same}
use Rattle.terms.specs.Tree.{Tree, input, one, two, choice}
use Rattle.flat_ir.specs.declared.names.Location.TheVariants as location
use Rattle.flat_ir.specs.declared.names.ObjectName.{ObjectName}
use Rattle.flat_ir.specs.declared.names.ObjectName.TheVariants as object
use Rattle.flat_ir.specs.declared.program.GlobalVar.{GlobalVar}
use Rattle.sym_bytes.specs.declared.names.Base.TheVariants.{Null}
use Rattle.sym_bytes.specs.declared.names.CallId.{CallId}
use Rattle.sym_bytes.specs.Answers as answers
use Rattle.sym_bytes.specs.Building.{number, wide}
use Rattle.sym_bytes.specs.Byte as byte
use Rattle.sym_bytes.specs.Byte.{SymByte}
use Rattle.sym_bytes.specs.Entry as entry
use Rattle.flat_ir.specs.Locations.{cells_of, life_of}
use Rattle.log_laws.specs.Logs.{Item, Did, Marked, Log, life, position, fill}
use Rattle.log_laws.specs.Needs.{need}
use Rattle.log_laws.specs.Reading.{read_byte}

-- a global of 8 bytes, all 0
abbrev globals : List GlobalVar
globals = record { name = []; size = 8; init = [] } ∷ []

abbrev x : ObjectName
x = object.Global 0

-- what node 3 of function 1 made
abbrev y : ObjectName
y = object.Made [] (record { func = record { 0 = 1 }; node = record { 0 = 3 }; count = 1 })

abbrev call : ℕ → CallId
call n = record { 0 = n }

abbrev small : ℕ → SymByte
small n = byte.Int (number 8 n)

abbrev written : Tree → SymByte → Item
written offset b = Did (entry.Write x offset (b ∷ []))

-- an offset that the input decides
abbrev chosen : Tree
chosen = one (Zext 64) (input 0)

-- a write of another byte behind the mark doesn't cover the one that is wanted, so the call is needed
far_write : need (answers.Bytes x (wide 0) 1) (written (wide 5) (small 7) ∷ Marked (call 1) (cells_of x ∷ []) [] ∷ []) ≡ call 1 ∷ []
unfolding folded_two
far_write = refl

-- a write of the byte covers it, so no call is needed
covering_write : need (answers.Bytes x (wide 0) 1) (written (wide 0) (small 7) ∷ Marked (call 1) (cells_of x ∷ []) [] ∷ []) ≡ []
unfolding folded_two
covering_write = refl

-- needed calls stand oldest first
two_calls : need (answers.Bytes x (wide 0) 1) (Marked (call 2) (cells_of x ∷ []) [] ∷ Marked (call 1) (cells_of x ∷ []) [] ∷ []) ≡ call 1 ∷ call 2 ∷ []
unfolding folded_two
two_calls = refl

-- an Alloc that is filled at a mark ends the walk behind that mark
filled_alloc : need (answers.Bytes y (wide 0) 1)
    (Marked (call 2) (cells_of y ∷ life_of y ∷ []) (record { at = life_of y; entries = entry.Alloc y (wide 4) ∷ [] } ∷ [])
    ∷ Marked (call 1) (cells_of y ∷ []) [] ∷ []) ≡ call 2 ∷ []
unfolding folded_two
filled_alloc = refl

filled_life : life globals y (Marked (call 2) (life_of y ∷ []) (record { at = life_of y; entries = entry.Alloc y (wide 4) ∷ [] } ∷ []) ∷ []) ≡ answers.Alive (wide 4)
filled_life = refl

freed_life : life globals y (Did (entry.Free y) ∷ Did (entry.Alloc y (wide 4)) ∷ []) ≡ answers.Dead
freed_life = refl

-- a write in a fill covers the byte, and is the byte
abbrev filled_log : Log
filled_log = Marked (call 2) (cells_of x ∷ []) (record { at = cells_of x; entries = entry.Write x (wide 0) (small 3 ∷ []) ∷ [] } ∷ [])
    ∷ Marked (call 1) (cells_of x ∷ []) [] ∷ []

filled_write_covers : need (answers.Bytes x (wide 0) 1) filled_log ≡ []
unfolding folded_two
filled_write_covers = refl

filled_write_is_read : read_byte globals [] x (wide 0) filled_log ≡ answers.Byte (small 3)
unfolding folded_two folded_one same
filled_write_is_read = refl

-- a fill stands at its call's mark, below what was written since
fill_below : read_byte globals [] x (wide 0)
    (fill (call 1) (cells_of x) (entry.Write x (wide 0) (small 3 ∷ []) ∷ []) (written (wide 0) (small 9) ∷ Marked (call 1) (cells_of x ∷ []) [] ∷ []))
    ≡ answers.Byte (small 9)
unfolding folded_two folded_one same
fill_below = refl

-- at an offset that the input decides the newer byte is chosen where the offsets are equal
chosen_write : read_byte globals [] x (wide 0) (written chosen (small 5) ∷ written (wide 0) (small 9) ∷ [])
    ≡ answers.Byte (byte.Int (choice (two Eq chosen (wide 0)) (number 8 5) (number 8 9)))
unfolding folded_two folded_one folded_choice same
chosen_write = refl

known_equal : read_byte globals (two Eq chosen (wide 0) ∷ []) x (wide 0) (written chosen (small 5) ∷ written (wide 0) (small 9) ∷ []) ≡ answers.Byte (small 5)
unfolding folded_two folded_one folded_choice same
known_equal = refl

known_other : read_byte globals (one Not (two Eq chosen (wide 0)) ∷ []) x (wide 0) (written chosen (small 5) ∷ written (wide 0) (small 9) ∷ []) ≡ answers.Byte (small 9)
unfolding folded_two folded_one folded_choice same
known_other = refl

-- a byte of a pointer can't stand in a choice: the first equality is asked
pointer_byte : read_byte globals [] x (wide 0) (written chosen (byte.PtrByte (record { base = Null; offset = wide 0 }) 0) ∷ []) ≡ answers.Undecided (two Eq chosen (wide 0))
unfolding folded_two folded_one folded_choice same
pointer_byte = refl

-- what was read from the input in a recovered call counts
filled_gets : position (Did entry.Get ∷ Marked (call 1) (location.Input ∷ []) (record { at = location.Input; entries = entry.Get ∷ entry.Get ∷ [] } ∷ []) ∷ []) ≡ 3
filled_gets = refl
