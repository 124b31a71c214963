-- What memory answers is over the first n bytes of input, where its log is.
use Rattle.std.proofs.Common.{ℕ, zero, suc, ◌+◌, ◌<◌, ◌≤◌, ◌^◌, Bool, true, false, List, [], ◌∷◌, ◌++◌, length, Option, Some, None, arith, lit≤}
use Rattle.std.specs.Prelude.{cond, slice_get}
use Rattle.std.specs.List.{list_any}
use Rattle.bitnum.specs.Number.{Number}
use Rattle.terms.specs.Folding.{constant_of}
use Rattle.terms.specs.Tree.{Tree}
use Rattle.term_store.specs.Condition.{answer}
use Rattle.term_store.specs.declared.conditions.Added.{Added}
use Rattle.term_store.specs.declared.conditions.Added.TheVariants.{Held, Appended, Contradicted}
use Rattle.flat_ir.specs.declared.names.Location.{Location}
use Rattle.flat_ir.specs.declared.names.Location.TheVariants as location
use Rattle.flat_ir.specs.declared.names.ObjectName.{ObjectName}
use Rattle.flat_ir.specs.declared.names.ObjectName.TheVariants as object
use Rattle.flat_ir.specs.declared.program.GlobalVar.{GlobalVar}
use Rattle.flat_ir.specs.declared.program.InitByte.{InitByte}
use Rattle.flat_ir.specs.declared.program.InitByte.TheVariants as init
use Rattle.flat_ir.specs.History.{same_object, size_of_global}
use Rattle.sym_bytes.specs.Answers.{Byte, Dead}
use Rattle.sym_bytes.specs.Building.{number, wide, equal, behind}
use Rattle.sym_bytes.specs.Byte as byte
use Rattle.sym_bytes.specs.Byte.{SymByte}
use Rattle.sym_bytes.specs.Entry as entry
use Rattle.sym_bytes.specs.Entry.{Entry}
use Rattle.sym_bytes.specs.Joining.{int_of}
use Rattle.flat_ir.specs.Locations.{cells_of, life_of, same_location}
use Rattle.log_laws.specs.Logs.{Fill, Did, Marked, Log, filled, seen_at, is_free_of, newest_size, alive_with, life, puts_in, output}
use Rattle.log_laws.specs.Reading.{Candidate, Chain, surely, or_else, candidates_of, sure_if, sure_of, open_if, open_of, chained, chain_through, initial_byte, byte_or_zero, init_of, initial_bytes, is_zero, scan_step, scanned, initial_at, chain_of, choose, term_of, undecided, answer_of, read_byte}
use Rattle.leaves.specs.Fitting.{IsTermOf, AreTermsOf, ByteFits, BytesFit, EntriesFit}
use Rattle.sym_states.specs.Fitting.{FillsFit, LogFits, InitFits, InitsFit, GlobalsFit, LivingFits, ReadFits}
use Rattle.sym_states.proofs.Widths.{equal-fits, choice-fits, wide-fits, byte-fits, behind-fits}

-- ---- the log as a location sees it

pub entries-append : (n : ℕ) (es fs : List Entry) → EntriesFit n es → EntriesFit n fs → EntriesFit n (es ++ fs)
entries-append n [] fs h k = k
entries-append n (e ∷ es) fs h k = (h.0, entries-append n es fs h.1 k)

entries-if : (n : ℕ) (test : Bool) (es fs : List Entry) → EntriesFit n es → EntriesFit n fs → EntriesFit n (cond test es fs)
entries-if n true es fs h k = h
entries-if n false es fs h k = k

filled-fit : (n : ℕ) (at : Location) (fills : List Fill) → FillsFit n fills → EntriesFit n (filled at fills)
filled-fit n at [] h = tt
filled-fit n at (f ∷ fills) h = entries-if n (same_location at f.at) f.entries (filled at fills) h.0 (filled-fit n at fills h.1)

pub seen-fit : (n : ℕ) (at : Location) (log : Log) → LogFits n log → EntriesFit n (seen_at at log)
seen-fit n at [] h = tt
seen-fit n at (Did e ∷ log) h = (h.0, seen-fit n at log h.1)
seen-fit n at (Marked c mods fills ∷ log) h = entries-append n (filled at fills) (seen_at at log) (filled-fit n at fills h.0) (seen-fit n at log h.1)

-- ---- life and output

abbrev SizeFits : ℕ → Option Tree → Type 0
SizeFits n None = Unit {0}
SizeFits n (Some t) = IsTermOf n 64 t

size-if : (n : ℕ) (test : Bool) (a b : Option Tree) → SizeFits n a → SizeFits n b → SizeFits n (cond test a b)
size-if n true a b h k = h
size-if n false a b h k = k

newest-fits : (n : ℕ) (x : ObjectName) (es : List Entry) → EntriesFit n es → SizeFits n (newest_size x es)
newest-fits n x [] h = tt
newest-fits n x (entry.Alloc y size ∷ es) h = size-if n (same_object x y) (Some size) (newest_size x es) h.0 (newest-fits n x es h.1)
newest-fits n x (entry.Write y offset bytes ∷ es) h = newest-fits n x es h.1
newest-fits n x (entry.Free y ∷ es) h = newest-fits n x es h.1
newest-fits n x (entry.Put t ∷ es) h = newest-fits n x es h.1
newest-fits n x (entry.Get ∷ es) h = newest-fits n x es h.1

alive-fits : (n : ℕ) (size : Option Tree) → SizeFits n size → LivingFits n (alive_with size)
alive-fits n None h = tt
alive-fits n (Some t) h = h

living-if : (n : ℕ) (test : Bool) (size : Option Tree) → SizeFits n size → LivingFits n (cond test Dead (alive_with size))
living-if n true size h = tt
living-if n false size h = alive-fits n size h

global-size : (n : ℕ) (globals : List GlobalVar) (g : ℕ) → GlobalsFit globals → IsTermOf n 64 (wide (size_of_global (slice_get globals g)))
global-size n [] g h = wide-fits n 0 (lit≤ tt)
global-size n (x ∷ globals) zero h = wide-fits n x.size h.0.small
global-size n (x ∷ globals) (suc g) h = global-size n globals g h.1

pub life-fits : (n : ℕ) (globals : List GlobalVar) (x : ObjectName) (log : Log) → GlobalsFit globals → LogFits n log → LivingFits n (life globals x log)
life-fits n globals (object.Global g) log gs h = global-size n globals g gs
life-fits n globals (object.Made frame made) log gs h =
    let x = object.Made frame made in
    let es = seen_at (life_of x) log in
    living-if n (list_any (is_free_of x) es) (newest_size x es) (newest-fits n x es (seen-fit n (life_of x) log h))

puts-append : (n w : ℕ) (ts us : List Tree) → AreTermsOf n w ts → AreTermsOf n w us → AreTermsOf n w (ts ++ us)
puts-append n w [] us h k = k
puts-append n w (t ∷ ts) us h k = (h.0, puts-append n w ts us h.1 k)

puts-fit : (n : ℕ) (es : List Entry) → EntriesFit n es → AreTermsOf n 8 (puts_in es)
puts-fit n [] h = tt
puts-fit n (entry.Put t ∷ es) h = puts-append n 8 (puts_in es) (t ∷ []) (puts-fit n es h.1) (h.0, tt)
puts-fit n (entry.Alloc y size ∷ es) h = puts-fit n es h.1
puts-fit n (entry.Write y offset bytes ∷ es) h = puts-fit n es h.1
puts-fit n (entry.Free y ∷ es) h = puts-fit n es h.1
puts-fit n (entry.Get ∷ es) h = puts-fit n es h.1

pub output-fits : (n : ℕ) (log : Log) → LogFits n log → AreTermsOf n 8 (output log)
output-fits n log h = puts-fit n (seen_at location.Output log) (seen-fit n location.Output log h)

-- ---- bytes

pub record CandidateFits (n : ℕ) (c : Candidate) : Type 0 where
  pub test : IsTermOf n 1 c.test
  pub found : ByteFits n c.found

abbrev pub CandidatesFit : ℕ → List Candidate → Type 0
CandidatesFit n [] = Unit {0}
CandidatesFit n (c ∷ cs) = CandidateFits n c × CandidatesFit n cs

pub record ChainFits (n : ℕ) (c : Chain) : Type 0 where
  pub candidates : CandidatesFit n c.candidates
  pub last : ByteFits n c.last

candidates-append : (n : ℕ) (cs ds : List Candidate) → CandidatesFit n cs → CandidatesFit n ds → CandidatesFit n (cs ++ ds)
candidates-append n [] ds h k = k
candidates-append n (c ∷ cs) ds h k = (h.0, candidates-append n cs ds h.1 k)

candidates-fit : (n : ℕ) (at offset : Tree) (j : ℕ) (bs : List SymByte) → IsTermOf n 64 at → IsTermOf n 64 offset → j + length bs ≤ 2 ^ 64 → BytesFit n bs → CandidatesFit n (candidates_of at offset j bs)
candidates-fit n at offset j [] a o few h = tt
candidates-fit n at offset j (b ∷ bs) a o few h =
    let below : j < 2 ^ 64 = omega (arith, few) in
    let more : (j + 1) + length bs ≤ 2 ^ 64 = omega (arith, few) in
    (record { test = equal-fits n 64 (behind offset j) at (behind-fits n offset j o below) a; found = h.0 }, candidates-fit n at offset (j + 1) bs a o more h.1)

abbrev SureFits : ℕ → Option SymByte → Type 0
SureFits n None = Unit {0}
SureFits n (Some b) = ByteFits n b

sure_if-fits : (n : ℕ) (a : Added) (b : SymByte) (more : Option SymByte) → ByteFits n b → SureFits n more → SureFits n (sure_if a b more)
sure_if-fits n Held b more h k = h
sure_if-fits n Appended b more h k = k
sure_if-fits n Contradicted b more h k = k

sure-fits : (n : ℕ) (known : List Tree) (cs : List Candidate) → CandidatesFit n cs → SureFits n (sure_of known cs)
sure-fits n known [] h = tt
sure-fits n known (c ∷ cs) h = sure_if-fits n (answer known c.test) c.found (sure_of known cs) h.0.found (sure-fits n known cs h.1)

open_if-fits : (n : ℕ) (a : Added) (c : Candidate) (more : List Candidate) → CandidateFits n c → CandidatesFit n more → CandidatesFit n (open_if a c more)
open_if-fits n Held c more h k = (h, k)
open_if-fits n Appended c more h k = (h, k)
open_if-fits n Contradicted c more h k = k

open-fits : (n : ℕ) (known : List Tree) (cs : List Candidate) → CandidatesFit n cs → CandidatesFit n (open_of known cs)
open-fits n known [] h = tt
open-fits n known (c ∷ cs) h = open_if-fits n (answer known c.test) c (open_of known cs) h.0 (open-fits n known cs h.1)

or_else-fits : (n : ℕ) (cs : List Candidate) (rest : Chain) → CandidatesFit n cs → ChainFits n rest → ChainFits n (or_else cs rest)
or_else-fits n cs rest h k = record { candidates = candidates-append n cs rest.candidates h k.candidates; last = k.last }

surely-fits : (n : ℕ) (b : SymByte) → ByteFits n b → ChainFits n (surely b)
surely-fits n b h = record { candidates = tt; last = h }

chained-fits : (n : ℕ) (sure : Option SymByte) (cs : List Candidate) (rest : Chain) → SureFits n sure → CandidatesFit n cs → ChainFits n rest → ChainFits n (chained sure cs rest)
chained-fits n None cs rest s h k = or_else-fits n cs rest h k
chained-fits n (Some b) cs rest s h k = surely-fits n b s

chain-if : (n : ℕ) (test : Bool) (c d : Chain) → ChainFits n c → ChainFits n d → ChainFits n (cond test c d)
chain-if n true c d h k = h
chain-if n false c d h k = k

through-fits : (n : ℕ) (known : List Tree) (x : ObjectName) (at : Tree) (es : List Entry) (rest : Chain) → IsTermOf n 64 at → EntriesFit n es → ChainFits n rest → ChainFits n (chain_through known x at es rest)
through-fits n known x at [] rest a h k = k
through-fits n known x at (entry.Write y offset bytes ∷ es) rest a h k =
    let cs = candidates_of at offset 0 bytes in
    let few : 0 + length bytes ≤ 2 ^ 64 = omega (arith, h.0.1) in
    let fit = candidates-fit n at offset 0 bytes a h.0.0 few h.0.2 in
    let behind_it = through-fits n known x at es rest a h.1 k in
    chain-if n (same_object x y) (chained (sure_of known cs) (open_of known cs) (chain_through known x at es rest)) (chain_through known x at es rest)
    (chained-fits n (sure_of known cs) (open_of known cs) (chain_through known x at es rest) (sure-fits n known cs fit) (open-fits n known cs fit) behind_it)
    behind_it
through-fits n known x at (entry.Alloc y size ∷ es) rest a h k = through-fits n known x at es rest a h.1 k
through-fits n known x at (entry.Free y ∷ es) rest a h k = through-fits n known x at es rest a h.1 k
through-fits n known x at (entry.Put t ∷ es) rest a h k = through-fits n known x at es rest a h.1 k
through-fits n known x at (entry.Get ∷ es) rest a h k = through-fits n known x at es rest a h.1 k

initial-fits : (n : ℕ) (b : InitByte) → InitFits b → ByteFits n (initial_byte b)
initial-fits n (init.Int b) h = byte-fits n b h
initial-fits n (init.PtrByte g offset j) h = wide-fits n offset h

step-fits : (n : ℕ) (a : Added) (t : Tree) (b : SymByte) (rest : Chain) → IsTermOf n 1 t → ByteFits n b → ChainFits n rest → ChainFits n (scan_step a t b rest)
step-fits n Held t b rest g h k = surely-fits n b h
step-fits n Appended t b rest g h k = or_else-fits n (record { test = t; found = b } ∷ []) rest (record { test = g; found = h }, tt) k
step-fits n Contradicted t b rest g h k = k

scanned-fits : (n : ℕ) (known : List Tree) (at : Tree) (k : ℕ) (bs : List InitByte) → IsTermOf n 64 at → k + length bs ≤ 2 ^ 64 → InitsFit bs → ChainFits n (scanned known at k bs)
scanned-fits n known at k [] a few h = surely-fits n (byte.Int (number 8 0)) (byte-fits n 0 (lit≤ tt))
scanned-fits n known at k (b ∷ bs) a few h =
    let below : k < 2 ^ 64 = omega (arith, few) in
    let more : (k + 1) + length bs ≤ 2 ^ 64 = omega (arith, few) in
    let rest = scanned-fits n known at (k + 1) bs a more h.1 in
    chain-if n (is_zero b) (scanned known at (k + 1) bs) (scan_step (answer known (equal (wide k) at)) (equal (wide k) at) (initial_byte b) (scanned known at (k + 1) bs)) rest
    (step-fits n (answer known (equal (wide k) at)) (equal (wide k) at) (initial_byte b) (scanned known at (k + 1) bs) (equal-fits n 64 (wide k) at (wide-fits n k below) a) (initial-fits n b h.0) rest)

byte_or_zero-fits : (n : ℕ) (bs : List InitByte) (k : ℕ) → InitsFit bs → ByteFits n (byte_or_zero (slice_get bs k))
byte_or_zero-fits n [] k h = byte-fits n 0 (lit≤ tt)
byte_or_zero-fits n (b ∷ bs) zero h = initial-fits n b h.0
byte_or_zero-fits n (b ∷ bs) (suc k) h = byte_or_zero-fits n bs k h.1

initial_at-fits : (n : ℕ) (constant : Option Number) (known : List Tree) (at : Tree) (bs : List InitByte) → IsTermOf n 64 at → length bs ≤ 2 ^ 64 → InitsFit bs → ChainFits n (initial_at constant known at bs)
initial_at-fits n None known at bs a few h = scanned-fits n known at 0 bs a (omega (arith, few)) h
initial_at-fits n (Some m) known at bs a few h = surely-fits n (byte_or_zero (slice_get bs m.bits)) (byte_or_zero-fits n bs m.bits h)

-- what a global begins with
pub record BeginsFit (bs : List InitByte) : Type 0 where
  pub few : length bs ≤ 2 ^ 64
  pub inits : InitsFit bs

begins-nothing : BeginsFit []
begins-nothing = record { few = omega arith; inits = tt }

begins-global : (globals : List GlobalVar) (g : ℕ) → GlobalsFit globals → BeginsFit (init_of (slice_get globals g))
begins-global [] g h = begins-nothing
begins-global (x ∷ globals) zero h = record { few = h.0.few; inits = h.0.inits }
begins-global (x ∷ globals) (suc g) h = begins-global globals g h.1

begins-fit : (globals : List GlobalVar) (x : ObjectName) → GlobalsFit globals → BeginsFit (initial_bytes globals x)
begins-fit globals (object.Global g) h = begins-global globals g h
begins-fit globals (object.Made frame made) h = begins-nothing

abbrev TermFits : ℕ → Option Tree → Type 0
TermFits n None = Unit {0}
TermFits n (Some t) = IsTermOf n 8 t

int-fits : (n : ℕ) (b : SymByte) → ByteFits n b → TermFits n (int_of b)
int-fits n (byte.Int t) h = h
int-fits n (byte.PtrByte p j) h = tt
int-fits n (byte.PendingByte c t j) h = tt

choose-fits : (n : ℕ) (test : Tree) (a b : Option Tree) → IsTermOf n 1 test → TermFits n a → TermFits n b → TermFits n (choose test a b)
choose-fits n test None b g h k = tt
choose-fits n test (Some a) None g h k = tt
choose-fits n test (Some a) (Some b) g h k = choice-fits n 8 test a b g h k

term-fits : (n : ℕ) (cs : List Candidate) (last : SymByte) → CandidatesFit n cs → ByteFits n last → TermFits n (term_of cs last)
term-fits n [] last h k = int-fits n last k
term-fits n (c ∷ cs) last h k = choose-fits n c.test (int_of c.found) (term_of cs last) h.0.test (int-fits n c.found h.0.found) (term-fits n cs last h.1 k)

undecided-fits : (n : ℕ) (cs : List Candidate) (last : SymByte) → CandidatesFit n cs → ByteFits n last → ReadFits n (undecided cs last)
undecided-fits n [] last h k = k
undecided-fits n (c ∷ cs) last h k = h.0.test

answer-fits : (n : ℕ) (c : Chain) → ChainFits n c → ReadFits n (answer_of c)
answer-fits n c h =
    elim (term_of c.candidates c.last) as (λ o. TermFits n o → ReadFits n (elim o [ Some t ↦ Byte (byte.Int t) | None ↦ undecided c.candidates c.last ]))
    [ Some t ↦ (λ k. k) | None ↦ (λ k. undecided-fits n c.candidates c.last h.candidates h.last) ] (term-fits n c.candidates c.last h.candidates h.last)

pub read-fits : (n : ℕ) (globals : List GlobalVar) (known : List Tree) (x : ObjectName) (at : Tree) (log : Log) → GlobalsFit globals → LogFits n log → IsTermOf n 64 at
    → ReadFits n (read_byte globals known x at log)
read-fits n globals known x at log gs h a =
    let begins = begins-fit globals x gs in
    answer-fits n (chain_of globals known x at (seen_at (cells_of x) log))
    (through-fits n known x at (seen_at (cells_of x) log) (initial_at (constant_of at) known at (initial_bytes globals x)) a (seen-fit n (cells_of x) log h)
    (initial_at-fits n (constant_of at) known at (initial_bytes globals x) a begins.few begins.inits))
