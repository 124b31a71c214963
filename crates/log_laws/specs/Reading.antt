-- The byte of an object at an offset, looked for from the newest entry back.
use Rattle.std.specs.Prelude.{ℕ, ◌+◌, ◌==◌, Bool, false, List, [], ◌∷◌, ◌++◌, Option, Some, None, slice_get, if◌then◌else◌}
use Rattle.bitnum.specs.Number.{Number}
use Rattle.terms.specs.Tree.{Tree}
use Rattle.terms.specs.Folding.{constant_of, folded_choice}
use Rattle.term_store.specs.Condition.{answer}
use Rattle.term_store.specs.declared.conditions.Added.{Added}
use Rattle.term_store.specs.declared.conditions.Added.TheVariants.{Held, Appended, Contradicted}
use Rattle.flat_ir.specs.declared.names.ObjectName.{ObjectName}
use Rattle.flat_ir.specs.declared.names.ObjectName.TheVariants as object
use Rattle.flat_ir.specs.declared.program.GlobalVar.{GlobalVar}
use Rattle.flat_ir.specs.declared.program.InitByte.{InitByte}
use Rattle.flat_ir.specs.declared.program.InitByte.TheVariants as init
use Rattle.flat_ir.specs.History.{same_object}
use Rattle.sym_bytes.specs.declared.names.Base.TheVariants.{Object}
use Rattle.sym_bytes.specs.Entry.{Entry}
use Rattle.sym_bytes.specs.Entry as entry
use Rattle.sym_bytes.specs.Answers.{Read}
use Rattle.sym_bytes.specs.Answers.{Byte, Undecided}
use Rattle.sym_bytes.specs.Byte.{SymByte}
use Rattle.sym_bytes.specs.Byte as byte
use Rattle.sym_bytes.specs.Building.{number, wide, equal, behind}
use Rattle.sym_bytes.specs.Joining.{int_of}
use Rattle.flat_ir.specs.Locations.{cells_of}
use Rattle.log_laws.specs.Logs.{Log, seen_at}

-- a byte that is the one looked for where the test is 1
pub record Candidate : Type 0 where
  pub test : Tree
  pub found : SymByte

-- the byte of the first candidate whose test is 1, else the last one
pub record Chain : Type 0 where
  pub candidates : List Candidate
  pub last : SymByte

abbrev pub surely : SymByte → Chain
surely b = record { candidates = []; last = b }

abbrev pub or_else : List Candidate → Chain → Chain
or_else cs chain = record { candidates = cs ++ chain.candidates; last = chain.last }

-- the bytes of a Write, each where its place is the one looked for
abbrev pub candidates_of : Tree → Tree → ℕ → List SymByte → List Candidate
candidates_of at offset j [] = []
candidates_of at offset j (b ∷ bs) = record { test = equal (behind offset j) at; found = b } ∷ candidates_of at offset (j + 1) bs

abbrev pub sure_if : Added → SymByte → Option SymByte → Option SymByte
sure_if Held b more = Some b
sure_if Appended b more = more
sure_if Contradicted b more = more

-- the first whose test is 1 under the condition
abbrev pub sure_of : List Tree → List Candidate → Option SymByte
sure_of known [] = None
sure_of known (c ∷ cs) = sure_if (answer known c.test) c.found (sure_of known cs)

abbrev pub open_if : Added → Candidate → List Candidate → List Candidate
open_if Held c more = c ∷ more
open_if Appended c more = c ∷ more
open_if Contradicted c more = more

-- those whose test isn't 0 under the condition
abbrev pub open_of : List Tree → List Candidate → List Candidate
open_of known [] = []
open_of known (c ∷ cs) = open_if (answer known c.test) c (open_of known cs)

abbrev pub chained : Option SymByte → List Candidate → Chain → Chain
chained (Some b) cs rest = surely b
chained None cs rest = or_else cs rest

-- the chain through the entries, the newest first, with what stands behind the last one
abbrev pub chain_through : List Tree → ObjectName → Tree → List Entry → Chain → Chain
chain_through known x at [] behind_all = behind_all
chain_through known x at (entry.Write y offset bytes ∷ es) behind_all =
    if same_object x y
    then chained (sure_of known (candidates_of at offset 0 bytes)) (open_of known (candidates_of at offset 0 bytes)) (chain_through known x at es behind_all)
    else chain_through known x at es behind_all
chain_through known x at (_ ∷ es) behind_all = chain_through known x at es behind_all

abbrev pub initial_byte : InitByte → SymByte
initial_byte (init.Int b) = byte.Int (number 8 b)
initial_byte (init.PtrByte g offset j) = byte.PtrByte (record { base = Object (object.Global g); offset = wide offset }) j

abbrev pub zero_byte : SymByte
zero_byte = byte.Int (number 8 0)

abbrev pub byte_or_zero : Option InitByte → SymByte
byte_or_zero None = zero_byte
byte_or_zero (Some b) = initial_byte b

abbrev pub init_of : Option GlobalVar → List InitByte
init_of None = []
init_of (Some g) = g.init

-- the bytes that an object begins with; behind them all are 0
abbrev pub initial_bytes : List GlobalVar → ObjectName → List InitByte
initial_bytes globals (object.Global g) = init_of (slice_get globals g)
initial_bytes globals (object.Made frame made) = []

abbrev pub is_zero : InitByte → Bool
is_zero (init.Int b) = b == 0
is_zero _ = false

abbrev pub scan_step : Added → Tree → SymByte → Chain → Chain
scan_step Held test b rest = surely b
scan_step Appended test b rest = or_else (record { test = test; found = b } ∷ []) rest
scan_step Contradicted test b rest = rest

-- the initial bytes other than 0, from offset k on, each where its offset is the one looked for, and then 0
abbrev pub scanned : List Tree → Tree → ℕ → List InitByte → Chain
scanned known at k [] = surely zero_byte
scanned known at k (b ∷ bs) =
    if is_zero b then scanned known at (k + 1) bs
    else scan_step (answer known (equal (wide k) at)) (equal (wide k) at) (initial_byte b) (scanned known at (k + 1) bs)

abbrev pub initial_at : Option Number → List Tree → Tree → List InitByte → Chain
initial_at (Some n) known at bytes = surely (byte_or_zero (slice_get bytes n.bits))
initial_at None known at bytes = scanned known at 0 bytes

abbrev pub chain_of : List GlobalVar → List Tree → ObjectName → Tree → List Entry → Chain
chain_of globals known x at es = chain_through known x at es (initial_at (constant_of at) known at (initial_bytes globals x))

abbrev pub choose : Tree → Option Tree → Option Tree → Option Tree
choose test (Some a) (Some b) = Some (folded_choice test a b)
choose test (Some a) None = None
choose test None b = None

-- the chain as one term, if all its bytes are integers
abbrev pub term_of : List Candidate → SymByte → Option Tree
term_of [] last = int_of last
term_of (c ∷ cs) last = choose c.test (int_of c.found) (term_of cs last)

abbrev pub undecided : List Candidate → SymByte → Read
undecided [] last = Byte last
undecided (c ∷ cs) last = Undecided c.test

abbrev pub answer_of : Chain → Read
answer_of chain = elim (term_of chain.candidates chain.last) [ Some t ↦ Byte (byte.Int t) | None ↦ undecided chain.candidates chain.last ]

abbrev pub read_byte : List GlobalVar → List Tree → ObjectName → Tree → Log → Read
read_byte globals known x at log = answer_of (chain_of globals known x at (seen_at (cells_of x) log))
