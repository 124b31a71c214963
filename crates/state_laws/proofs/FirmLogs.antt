-- A log without marks needs no call, and gives firm bytes.
use Rattle.std.proofs.Common.{◌≡◌, ℕ, Bool, true, false, ◌+◌, List, [], ◌∷◌, ◌++◌, Option, Some, None, refl}
use Rattle.std.specs.Prelude.{cond, slice_get, ◌||◌}
use Rattle.std.specs.Option.{option_map}
use Rattle.bitnum.specs.Number.{Number}
use Rattle.terms.specs.Folding.{constant_of}
use Rattle.terms.specs.Tree.{Tree}
use Rattle.term_store.specs.Condition.{answer}
use Rattle.term_store.specs.declared.conditions.Added.{Added}
use Rattle.term_store.specs.declared.conditions.Added.TheVariants.{Held, Appended, Contradicted}
use Rattle.flat_ir.specs.declared.names.Location.{Location}
use Rattle.flat_ir.specs.declared.names.Location.TheVariants as location
use Rattle.flat_ir.specs.declared.names.ObjectName.{ObjectName}
use Rattle.flat_ir.specs.declared.names.ObjectName.TheVariants as object
use Rattle.flat_ir.specs.declared.program.GlobalVar.{GlobalVar}
use Rattle.flat_ir.specs.declared.program.InitByte.{InitByte}
use Rattle.flat_ir.specs.declared.program.InitByte.TheVariants as init
use Rattle.flat_ir.specs.History.{same_object}
use Rattle.sym_bytes.specs.Answers.{Read, Byte, Undecided, Want}
use Rattle.sym_bytes.specs.Answers as answers
use Rattle.sym_bytes.specs.Building.{wide, equal}
use Rattle.sym_bytes.specs.Byte as byte
use Rattle.sym_bytes.specs.Byte.{SymByte}
use Rattle.sym_bytes.specs.Entry.{Entry}
use Rattle.sym_bytes.specs.Entry as entry
use Rattle.flat_ir.specs.Locations.{cells_of}
use Rattle.log_laws.specs.Logs.{Did, Marked, Log, seen_at, is_alloc_of}
use Rattle.log_laws.specs.Needs.{constants_of, offsets_from, left_behind, is_covered, need_bytes, is_freed, need_life_back, need_life, need_all, need}
use Rattle.log_laws.specs.Reading.{Candidate, Chain, surely, or_else, candidates_of, sure_if, sure_of, open_if, open_of, chained, chain_through, initial_byte, zero_byte, byte_or_zero, initial_bytes, is_zero, scan_step, scanned, initial_at, chain_of, term_of, undecided, answer_of, read_byte}
use Rattle.state_laws.specs.Skipless.{IsFirmByte, AreFirmBytes, IsFirmEntry, IsFirmLog}

-- ---- nothing is needed

none-if : {A : Type 0} (b : Bool) (xs : List A) → xs ≡ [] → cond b [] xs ≡ []
none-if true xs h = refl
none-if false xs h = h

need_bytes-none : (x : ObjectName) (left : Option (List ℕ)) (log : Log) → IsFirmLog log → need_bytes x left log ≡ []
need_bytes-none x left [] h = refl
need_bytes-none x left (Did e ∷ log) h = none-if (is_covered left || is_alloc_of x e) (need_bytes x (option_map (left_behind x e) left) log) (need_bytes-none x (option_map (left_behind x e) left) log h.1)
need_bytes-none x left (Marked c mods fills ∷ log) h = absurd h

need_back-none : (x : ObjectName) (log : Log) → IsFirmLog log → need_life_back x log ≡ []
need_back-none x [] h = refl
need_back-none x (Did e ∷ log) h = none-if (is_alloc_of x e) (need_life_back x log) (need_back-none x log h.1)
need_back-none x (Marked c mods fills ∷ log) h = absurd h

need_life-none : (x : ObjectName) (log : Log) → IsFirmLog log → need_life x log ≡ []
need_life-none (object.Global g) log h = refl
need_life-none (object.Made frame made) log h = none-if (is_freed (object.Made frame made) log) (need_life_back (object.Made frame made) log) (need_back-none (object.Made frame made) log h)

need_all-none : (at : Location) (log : Log) → IsFirmLog log → need_all at log ≡ []
need_all-none at [] h = refl
need_all-none at (Did e ∷ log) h = need_all-none at log h.1
need_all-none at (Marked c mods fills ∷ log) h = absurd h

pub need-none : (w : Want) (log : Log) → IsFirmLog log → need w log ≡ []
need-none (answers.Bytes x offset count) log h = need_bytes-none x (constants_of (offsets_from offset count)) log h
need-none (answers.Life x) log h = need_life-none x log h
need-none answers.Input log h = need_all-none location.Input log h
need-none answers.Output log h = need_all-none location.Output log h

-- ---- firm bytes are read

abbrev pub AreFirmEntries : List Entry → Type 0
AreFirmEntries [] = Unit {0}
AreFirmEntries (e ∷ es) = IsFirmEntry e × AreFirmEntries es

seen-firm : (at : Location) (log : Log) → IsFirmLog log → AreFirmEntries (seen_at at log)
seen-firm at [] h = tt
seen-firm at (Did e ∷ log) h = (h.0, seen-firm at log h.1)
seen-firm at (Marked c mods fills ∷ log) h = absurd h

abbrev AreFirmCandidates : List Candidate → Type 0
AreFirmCandidates [] = Unit {0}
AreFirmCandidates (c ∷ cs) = IsFirmByte c.found × AreFirmCandidates cs

record IsFirmChain (c : Chain) : Type 0 where
  candidates : AreFirmCandidates c.candidates
  last : IsFirmByte c.last

abbrev IsFirmByteIf : Option SymByte → Type 0
IsFirmByteIf None = Unit {0}
IsFirmByteIf (Some b) = IsFirmByte b

candidates-firm : (at offset : Tree) (j : ℕ) (bs : List SymByte) → AreFirmBytes bs → AreFirmCandidates (candidates_of at offset j bs)
candidates-firm at offset j [] h = tt
candidates-firm at offset j (b ∷ bs) h = (h.0, candidates-firm at offset (j + 1) bs h.1)

candidates-append : (cs ds : List Candidate) → AreFirmCandidates cs → AreFirmCandidates ds → AreFirmCandidates (cs ++ ds)
candidates-append [] ds h k = k
candidates-append (c ∷ cs) ds h k = (h.0, candidates-append cs ds h.1 k)

sure_if-firm : (a : Added) (b : SymByte) (more : Option SymByte) → IsFirmByte b → IsFirmByteIf more → IsFirmByteIf (sure_if a b more)
sure_if-firm Held b more h k = h
sure_if-firm Appended b more h k = k
sure_if-firm Contradicted b more h k = k

sure-firm : (known : List Tree) (cs : List Candidate) → AreFirmCandidates cs → IsFirmByteIf (sure_of known cs)
sure-firm known [] h = tt
sure-firm known (c ∷ cs) h = sure_if-firm (answer known c.test) c.found (sure_of known cs) h.0 (sure-firm known cs h.1)

open_if-firm : (a : Added) (c : Candidate) (more : List Candidate) → IsFirmByte c.found → AreFirmCandidates more → AreFirmCandidates (open_if a c more)
open_if-firm Held c more h k = (h, k)
open_if-firm Appended c more h k = (h, k)
open_if-firm Contradicted c more h k = k

open-firm : (known : List Tree) (cs : List Candidate) → AreFirmCandidates cs → AreFirmCandidates (open_of known cs)
open-firm known [] h = tt
open-firm known (c ∷ cs) h = open_if-firm (answer known c.test) c (open_of known cs) h.0 (open-firm known cs h.1)

surely-firm : (b : SymByte) → IsFirmByte b → IsFirmChain (surely b)
surely-firm b h = record { candidates = tt; last = h }

or_else-firm : (cs : List Candidate) (rest : Chain) → AreFirmCandidates cs → IsFirmChain rest → IsFirmChain (or_else cs rest)
or_else-firm cs rest h k = record { candidates = candidates-append cs rest.candidates h k.candidates; last = k.last }

chained-firm : (sure : Option SymByte) (cs : List Candidate) (rest : Chain) → IsFirmByteIf sure → AreFirmCandidates cs → IsFirmChain rest → IsFirmChain (chained sure cs rest)
chained-firm None cs rest s h k = or_else-firm cs rest h k
chained-firm (Some b) cs rest s h k = surely-firm b s

chain-if : (b : Bool) (c d : Chain) → IsFirmChain c → IsFirmChain d → IsFirmChain (cond b c d)
chain-if true c d h k = h
chain-if false c d h k = k

through-firm : (known : List Tree) (x : ObjectName) (at : Tree) (es : List Entry) (rest : Chain) → AreFirmEntries es → IsFirmChain rest → IsFirmChain (chain_through known x at es rest)
through-firm known x at [] rest h k = k
through-firm known x at (entry.Write y offset bytes ∷ es) rest h k =
    let cs = candidates_of at offset 0 bytes in
    let firm = candidates-firm at offset 0 bytes h.0 in
    let more = through-firm known x at es rest h.1 k in
    chain-if (same_object x y) (chained (sure_of known cs) (open_of known cs) (chain_through known x at es rest)) (chain_through known x at es rest)
    (chained-firm (sure_of known cs) (open_of known cs) (chain_through known x at es rest) (sure-firm known cs firm) (open-firm known cs firm) more) more
through-firm known x at (entry.Alloc y size ∷ es) rest h k = through-firm known x at es rest h.1 k
through-firm known x at (entry.Free y ∷ es) rest h k = through-firm known x at es rest h.1 k
through-firm known x at (entry.Put t ∷ es) rest h k = through-firm known x at es rest h.1 k
through-firm known x at (entry.Get ∷ es) rest h k = through-firm known x at es rest h.1 k

initial-firm : (b : InitByte) → IsFirmByte (initial_byte b)
initial-firm (init.Int b) = tt
initial-firm (init.PtrByte g offset j) = tt

step-firm : (a : Added) (t : Tree) (b : SymByte) (rest : Chain) → IsFirmByte b → IsFirmChain rest → IsFirmChain (scan_step a t b rest)
step-firm Held t b rest h k = surely-firm b h
step-firm Appended t b rest h k = or_else-firm (record { test = t; found = b } ∷ []) rest (h, tt) k
step-firm Contradicted t b rest h k = k

scanned-firm : (known : List Tree) (at : Tree) (k : ℕ) (bs : List InitByte) → IsFirmChain (scanned known at k bs)
scanned-firm known at k [] = surely-firm zero_byte tt
scanned-firm known at k (b ∷ bs) =
    let rest = scanned-firm known at (k + 1) bs in
    chain-if (is_zero b) (scanned known at (k + 1) bs) (scan_step (answer known (equal (wide k) at)) (equal (wide k) at) (initial_byte b) (scanned known at (k + 1) bs)) rest
    (step-firm (answer known (equal (wide k) at)) (equal (wide k) at) (initial_byte b) (scanned known at (k + 1) bs) (initial-firm b) rest)

byte_or_zero-firm : (o : Option InitByte) → IsFirmByte (byte_or_zero o)
byte_or_zero-firm None = tt
byte_or_zero-firm (Some b) = initial-firm b

initial_at-firm : (constant : Option Number) (known : List Tree) (at : Tree) (bs : List InitByte) → IsFirmChain (initial_at constant known at bs)
initial_at-firm None known at bs = scanned-firm known at 0 bs
initial_at-firm (Some m) known at bs = surely-firm (byte_or_zero (slice_get bs m.bits)) (byte_or_zero-firm (slice_get bs m.bits))

abbrev pub ReadIsFirm : Read → Type 0
ReadIsFirm (Byte b) = IsFirmByte b
ReadIsFirm (Undecided t) = Unit {0}

undecided-firm : (cs : List Candidate) (last : SymByte) → IsFirmByte last → ReadIsFirm (undecided cs last)
undecided-firm [] last h = h
undecided-firm (c ∷ cs) last h = tt

answer-firm : (c : Chain) → IsFirmChain c → ReadIsFirm (answer_of c)
answer-firm c h =
    elim (term_of c.candidates c.last) as (λ o. ReadIsFirm (elim o [ Some t ↦ Byte (byte.Int t) | None ↦ undecided c.candidates c.last ]))
    [ Some t ↦ tt | None ↦ undecided-firm c.candidates c.last h.last ]

pub read-firm : (globals : List GlobalVar) (known : List Tree) (x : ObjectName) (at : Tree) (log : Log) → IsFirmLog log → ReadIsFirm (read_byte globals known x at log)
read-firm globals known x at log h =
    answer-firm (chain_of globals known x at (seen_at (cells_of x) log))
    (through-firm known x at (seen_at (cells_of x) log) (initial_at (constant_of at) known at (initial_bytes globals x)) (seen-firm (cells_of x) log h)
    (initial_at-firm (constant_of at) known at (initial_bytes globals x)))
