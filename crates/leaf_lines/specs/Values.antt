-- What a path shows as text: objects, numbers and values.
use Rattle.std.specs.Prelude.{ℕ, List, [], ◌∷◌, ◌++◌, map, reverse, codes, Option, Some, None, slice_get, if◌then◌else◌}
use Rattle.std.specs.List.{flat_map}
use Rattle.std.specs.Fmt.{decimal}
use Rattle.bitnum.specs.Number.{Number}
use Rattle.terms.specs.Tree.{Tree}
use Rattle.terms.specs.Value.{value_of}
use Rattle.terms.specs.Folding.{constant_of}
use Rattle.flat_ir.specs.declared.names.CallStep.{CallStep}
use Rattle.flat_ir.specs.declared.names.ObjectName.{ObjectName}
use Rattle.flat_ir.specs.declared.names.ObjectName.TheVariants.{Global, Made}
use Rattle.flat_ir.specs.declared.program.ProgramData.{ProgramData}
use Rattle.sym_bytes.specs.declared.names.Base.{Base}
use Rattle.sym_bytes.specs.declared.names.Base.TheVariants.{Null, Object}
use Rattle.sym_bytes.specs.Building.{same_call}
use Rattle.sym_bytes.specs.Pointers.{Pointer}
use Rattle.sym_bytes.specs.Under.{bits_under}
use Rattle.sym_bytes.specs.Value.{SymValue, Int, Ptr, Pending}
use Rattle.leaves.specs.Events.{Recovered}
use Rattle.name_texts.specs.Lines.{place_text, global_named}
use Rattle.value_texts.specs.Values.{bytes_text}

-- ---- objects

-- an execution of a node: the node, and how often its frame has executed it
abbrev pub step_text : ProgramData → CallStep → List ℕ
step_text p s = place_text p s.func s.node ++ (codes "#" ++ decimal s.count)

-- a call that made a frame, with a slash behind it
abbrev pub call_text : ProgramData → CallStep → List ℕ
call_text p s = step_text p s ++ codes "/"

-- the calls that made a frame, the oldest first; a name has the newest first
abbrev pub frame_text : ProgramData → List CallStep → List ℕ
frame_text p frame = flat_map (call_text p) (reverse frame)

-- a global by its name behind a sign; what a node made by the frame and the execution that made it
abbrev pub object_text : ProgramData → ObjectName → List ℕ
object_text p (Global g) = global_named (slice_get p.globals g)
object_text p (Made frame made) = frame_text p frame ++ step_text p made

-- what a pointer points into
abbrev pub base_text : ProgramData → Base → List ℕ
base_text p Null = codes "null"
base_text p (Object x) = object_text p x

-- ---- numbers and bytes under the kept input

-- a number that is known, or that it isn't
abbrev pub known_text : Option Number → List ℕ
known_text None = codes "?"
known_text (Some n) = decimal n.bits

-- a number's value under the kept input; where none is kept a constant is known all the same, and nothing else
abbrev pub number_text : Option (List ℕ) → Tree → List ℕ
number_text None t = known_text (constant_of t)
number_text (Some input) t = known_text (Some (value_of t input))

-- an input, or that none is kept
abbrev pub input_text : Option (List ℕ) → List ℕ
input_text None = codes "?"
input_text (Some bytes) = bytes_text bytes

-- what was written out under the kept input; where none is kept it isn't known
abbrev pub output_text : Option (List ℕ) → List Tree → List ℕ
output_text None written = codes "?"
output_text (Some input) written = bytes_text (map (bits_under input) written)

-- ---- values

-- what a skipped call returned, where that is recovered, in place of its result
abbrev pub with_result : Recovered → SymValue → SymValue
with_result r (Int t) = Int t
with_result r (Ptr q) = Ptr q
with_result r (Pending c t) = if same_call r.call c then r.value else Pending c t

-- a value with what skipped calls returned, the oldest call first; a call may return what an older one returned
abbrev pub with_results : List Recovered → SymValue → SymValue
with_results [] v = v
with_results (r ∷ newer) v = with_result r (with_results newer v)

-- what a pointer points into, and where there
abbrev pub pointer_text : ProgramData → Option (List ℕ) → Pointer → List ℕ
pointer_text p kept q = base_text p q.base ++ (codes "+" ++ number_text kept q.offset)

-- a number, a pointer, or the skipped call whose result isn't recovered
abbrev pub value_text : ProgramData → Option (List ℕ) → SymValue → List ℕ
value_text p kept (Int t) = number_text kept t
value_text p kept (Ptr q) = pointer_text p kept q
value_text p kept (Pending c t) = codes "call " ++ decimal c.0
