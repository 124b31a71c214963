-- Logs whose pending bytes name older calls: cut, filled and read.
use Rattle.std.proofs.Common.{◌≡◌, ◌⊎◌, ℕ, zero, suc, Bool, true, false, ◌+◌, ◌-◌, ◌<◌, ◌≤◌, ◌||◌, List, [], ◌∷◌, ◌++◌, length, map, take, Option, Some, None, refl, sym, ◌∙◌, ap, subst, inl, inr, arith}
use Rattle.std.specs.Prelude.{cond, filter, nat_lt, slice_get}
use Rattle.std.specs.List.{AllByRecursion as Each}
use Rattle.std.proofs.lemmas.Bool.{eqb-true}
use Rattle.bitnum.specs.Number.{Number}
use Rattle.terms.specs.Folding.{constant_of}
use Rattle.terms.specs.Tree.{Tree}
use Rattle.term_store.specs.Condition.{answer}
use Rattle.term_store.specs.declared.conditions.Added.{Added}
use Rattle.term_store.specs.declared.conditions.Added.TheVariants.{Held, Appended, Contradicted}
use Rattle.flat_ir.specs.declared.names.Location.{Location}
use Rattle.flat_ir.specs.declared.names.ObjectName.{ObjectName}
use Rattle.flat_ir.specs.declared.nodes.RegType.{RegType}
use Rattle.flat_ir.specs.declared.program.GlobalVar.{GlobalVar}
use Rattle.flat_ir.specs.declared.program.InitByte.{InitByte}
use Rattle.flat_ir.specs.declared.program.InitByte.TheVariants as init
use Rattle.flat_ir.specs.History.{same_object}
use Rattle.flat_ir.specs.Locations.{cells_of, same_location}
use Rattle.sym_bytes.specs.declared.names.CallId.{CallId}
use Rattle.sym_bytes.specs.Answers.{Read, Byte, Undecided}
use Rattle.sym_bytes.specs.Building.{wide, equal, same_call}
use Rattle.sym_bytes.specs.Byte as byte
use Rattle.sym_bytes.specs.Byte.{SymByte}
use Rattle.sym_bytes.specs.Entry.{Entry}
use Rattle.sym_bytes.specs.Entry as entry
use Rattle.log_laws.specs.Logs.{Fill, Did, Marked, Log, lies_in, filled, seen_at, fill, cut, entries_in}
use Rattle.log_laws.specs.Reading.{Candidate, Chain, surely, or_else, candidates_of, sure_if, sure_of, open_if, open_of, chained, chain_through, initial_byte, zero_byte, byte_or_zero, initial_bytes, is_zero, scan_step, scanned, initial_at, chain_of, term_of, undecided, answer_of, read_byte}
use Rattle.exploration_laws.specs.Open.{MarksFall}
use Rattle.exploration_laws.specs.Pending.{Kind, Returns, Earlier, ByteNames, EntryNames, LogNames, older}
use Rattle.exploration_laws.proofs.NamedValues.{each-more, each-append, each-if, byte-more, returns-older}

-- ---- bounds

later : (n low high : ℕ) → n < low → low ≤ high → n < high
later n low high h k = omega (arith, h, k)

at-most : (n bound : ℕ) → n < bound → n ≤ bound
at-most n bound h = omega (arith, h)

same-most : (n m : ℕ) → n ≡ m → n ≤ m
same-most n m h = omega (arith, h)

pub earlier-more : (ks : List Kind) (low high : ℕ) → low ≤ high → (c : CallId) (t : RegType) → Earlier ks low c t → Earlier ks high c t
earlier-more ks low high most c t h = (later c.0 low high h.0 most, h.1)

pub entry-more : (P Q : CallId → RegType → Type 0) → ((c : CallId) (t : RegType) → P c t → Q c t) → (e : Entry) → EntryNames P e → EntryNames Q e
entry-more P Q more (entry.Write x offset bytes) h = each-more (ByteNames P) (ByteNames Q) (byte-more P Q more) bytes h
entry-more P Q more (entry.Alloc x size) h = tt
entry-more P Q more (entry.Free x) h = tt
entry-more P Q more (entry.Put t) h = tt
entry-more P Q more entry.Get h = tt

pub entries-more : (P Q : CallId → RegType → Type 0) → ((c : CallId) (t : RegType) → P c t → Q c t) → (es : List Entry) → Each (EntryNames P) es → Each (EntryNames Q) es
entries-more P Q more es h = each-more (EntryNames P) (EntryNames Q) (entry-more P Q more) es h

fills-more : (P Q : CallId → RegType → Type 0) → ((c : CallId) (t : RegType) → P c t → Q c t) → (fills : List Fill) → Each (λ f. Each (EntryNames P) f.entries) fills → Each (λ f. Each (EntryNames Q) f.entries) fills
fills-more P Q more fills h = each-more (λ f. Each (EntryNames P) f.entries) (λ f. Each (EntryNames Q) f.entries) (λ f g. entries-more P Q more f.entries g) fills h

-- the calls below the bound are among the others
abbrev pub Within : ℕ → List Kind → List Kind → Type 0
Within bound ks more = (c : CallId) (t : RegType) → c.0 < bound → Returns ks c t → Returns more c t

earlier-within : (bound : ℕ) (ks more : List Kind) → Within bound ks more → (c : CallId) (t : RegType) → Earlier ks bound c t → Earlier more bound c t
earlier-within bound ks more within c t h = (h.0, within c t h.0 h.1)

pub log-within : (bound : ℕ) (ks more : List Kind) (log : Log) → Within bound ks more → LogNames ks bound log → LogNames more bound log
log-within bound ks more [] within h = tt
log-within bound ks more (Did e ∷ log) within h = (entry-more (Earlier ks bound) (Earlier more bound) (earlier-within bound ks more within) e h.0, log-within bound ks more log within h.1)
log-within bound ks more (Marked c mods fills ∷ log) within h =
    let below : Within c.0 ks more = λ d t less r. within d t (later d.0 c.0 bound less (at-most c.0 bound h.0)) r in
    (h.0, (fills-more (Earlier ks c.0) (Earlier more c.0) (earlier-within c.0 ks more below) fills h.1.0, log-within c.0 ks more log below h.1.1))

pub log-later : (ks : List Kind) (low high : ℕ) (log : Log) → low ≤ high → LogNames ks low log → LogNames ks high log
log-later ks low high [] most h = tt
log-later ks low high (Did e ∷ log) most h = (entry-more (Earlier ks low) (Earlier ks high) (earlier-more ks low high most) e h.0, log-later ks low high log most h.1)
log-later ks low high (Marked c mods fills ∷ log) most h = (later c.0 low high h.0 most, h.1)

pub within-older : (call : CallId) (bound : ℕ) (ks : List Kind) → bound ≤ call.0 → Within bound ks (older call ks)
within-older call bound ks most c t less r = returns-older call ks c t (later c.0 bound call.0 less most) r

pub names-fall : (ks : List Kind) (bound : ℕ) (log : Log) → LogNames ks bound log → MarksFall bound log
names-fall ks bound [] h = tt
names-fall ks bound (Did e ∷ log) h = names-fall ks bound log h.1
names-fall ks bound (Marked c mods fills ∷ log) h = (h.0, names-fall ks c.0 log h.1.1)

-- ---- cut and filled

pub cut-names : (ks : List Kind) (call : CallId) (bound : ℕ) (log : Log) → LogNames ks bound log → LogNames (older call ks) call.0 (cut call log)
cut-names ks call bound [] h = tt
cut-names ks call bound (Did e ∷ log) h = cut-names ks call bound log h.1
cut-names ks call bound (Marked c mods fills ∷ log) h = by-test (same_call call c) refl (cut-names ks call c.0 log h.1.1)
  where
    by-test : (b : Bool) → same_call call c ≡ b → LogNames (older call ks) call.0 (cut call log) → LogNames (older call ks) call.0 (cond b log (cut call log))
    by-test true e more =
        let is = eqb-true call.0 c.0 e in
        subst (λ n. LogNames (older call ks) n log) (sym is) (log-within c.0 ks (older call ks) log (within-older call c.0 ks (same-most c.0 call.0 (sym is))) h.1.1)
    by-test false e more = more

pub fill-names : (ks : List Kind) (call : CallId) (at : Location) (es : List Entry) (bound : ℕ) (log : Log) → Each (EntryNames (Earlier ks call.0)) es → LogNames ks bound log → LogNames ks bound (fill call at es log)
fill-names ks call at es bound [] g h = tt
fill-names ks call at es bound (Did e ∷ log) g h = (h.0, fill-names ks call at es bound log g h.1)
fill-names ks call at es bound (Marked c mods fills ∷ log) g h = by-test (same_call call c) refl (fill-names ks call at es c.0 log g h.1.1)
  where
    by-test : (b : Bool) → same_call call c ≡ b → LogNames ks c.0 (fill call at es log) → LogNames ks bound (cond b (Marked c mods (fills ++ record { at = at; entries = es } ∷ []) ∷ log) (Marked c mods fills ∷ fill call at es log))
    by-test true e more =
        let own : Each (EntryNames (Earlier ks c.0)) es = subst (λ n. Each (EntryNames (Earlier ks n)) es) (eqb-true call.0 c.0 e) g in
        (h.0, (each-append (λ f. Each (EntryNames (Earlier ks c.0)) f.entries) fills (record { at = at; entries = es } ∷ []) h.1.0 (own, tt), h.1.1))
    by-test false e more = (h.0, (h.1.0, more))

-- ---- entries

pub take-names : (ks : List Kind) (bound count : ℕ) (log : Log) → LogNames ks bound log → LogNames ks bound (take count log)
take-names ks bound zero log h = tt
take-names ks bound (suc count) [] h = tt
take-names ks bound (suc count) (Did e ∷ log) h = (h.0, take-names ks bound count log h.1)
take-names ks bound (suc count) (Marked c mods fills ∷ log) h = (h.0, (h.1.0, take-names ks c.0 count log h.1.1))

pub in-names : (ks : List Kind) (bound : ℕ) (at : Location) (log : Log) → LogNames ks bound log → Each (EntryNames (Earlier ks bound)) (entries_in at log)
in-names ks bound at [] h = tt
in-names ks bound at (Did e ∷ log) h =
    each-if (EntryNames (Earlier ks bound)) (lies_in at e) (e ∷ entries_in at log) (entries_in at log) (h.0, in-names ks bound at log h.1) (in-names ks bound at log h.1)
in-names ks bound at (Marked c mods fills ∷ log) h =
    entries-more (Earlier ks c.0) (Earlier ks bound) (earlier-more ks c.0 bound (at-most c.0 bound h.0)) (entries_in at log) (in-names ks c.0 at log h.1.1)

filled-names : (P : CallId → RegType → Type 0) (at : Location) (fills : List Fill) → Each (λ f. Each (EntryNames P) f.entries) fills → Each (EntryNames P) (filled at fills)
filled-names P at [] h = tt
filled-names P at (f ∷ fills) h = each-if (EntryNames P) (same_location at f.at) f.entries (filled at fills) h.0 (filled-names P at fills h.1)

seen-names : (ks : List Kind) (bound : ℕ) (at : Location) (log : Log) → LogNames ks bound log → Each (EntryNames (Earlier ks bound)) (seen_at at log)
seen-names ks bound at [] h = tt
seen-names ks bound at (Did e ∷ log) h = (h.0, seen-names ks bound at log h.1)
seen-names ks bound at (Marked c mods fills ∷ log) h =
    let more = entries-more (Earlier ks c.0) (Earlier ks bound) (earlier-more ks c.0 bound (at-most c.0 bound h.0)) in
    each-append (EntryNames (Earlier ks bound)) (filled at fills) (seen_at at log)
    (more (filled at fills) (filled-names (Earlier ks c.0) at fills h.1.0)) (more (seen_at at log) (seen-names ks c.0 at log h.1.1))

-- ---- bytes that are read

module _ (P : CallId → RegType → Type 0) where
  abbrev CandidatesName : List Candidate → Type 0
  CandidatesName cs = Each (λ c. ByteNames P c.found) cs

  abbrev ChainNames : Chain → Type 0
  ChainNames c = CandidatesName c.candidates × ByteNames P c.last

  abbrev ByteNamesIf : Option SymByte → Type 0
  ByteNamesIf None = Unit {0}
  ByteNamesIf (Some b) = ByteNames P b

  candidates-names : (at offset : Tree) (j : ℕ) (bs : List SymByte) → Each (ByteNames P) bs → CandidatesName (candidates_of at offset j bs)
  candidates-names at offset j [] h = tt
  candidates-names at offset j (b ∷ bs) h = (h.0, candidates-names at offset (j + 1) bs h.1)

  candidates-append : (cs ds : List Candidate) → CandidatesName cs → CandidatesName ds → CandidatesName (cs ++ ds)
  candidates-append [] ds h k = k
  candidates-append (c ∷ cs) ds h k = (h.0, candidates-append cs ds h.1 k)

  sure_if-names : (a : Added) (b : SymByte) (more : Option SymByte) → ByteNames P b → ByteNamesIf more → ByteNamesIf (sure_if a b more)
  sure_if-names Held b more h k = h
  sure_if-names Appended b more h k = k
  sure_if-names Contradicted b more h k = k

  sure-names : (known : List Tree) (cs : List Candidate) → CandidatesName cs → ByteNamesIf (sure_of known cs)
  sure-names known [] h = tt
  sure-names known (c ∷ cs) h = sure_if-names (answer known c.test) c.found (sure_of known cs) h.0 (sure-names known cs h.1)

  open_if-names : (a : Added) (c : Candidate) (more : List Candidate) → ByteNames P c.found → CandidatesName more → CandidatesName (open_if a c more)
  open_if-names Held c more h k = (h, k)
  open_if-names Appended c more h k = (h, k)
  open_if-names Contradicted c more h k = k

  open-names : (known : List Tree) (cs : List Candidate) → CandidatesName cs → CandidatesName (open_of known cs)
  open-names known [] h = tt
  open-names known (c ∷ cs) h = open_if-names (answer known c.test) c (open_of known cs) h.0 (open-names known cs h.1)

  surely-names : (b : SymByte) → ByteNames P b → ChainNames (surely b)
  surely-names b h = (tt, h)

  or_else-names : (cs : List Candidate) (rest : Chain) → CandidatesName cs → ChainNames rest → ChainNames (or_else cs rest)
  or_else-names cs rest h k = (candidates-append cs rest.candidates h k.0, k.1)

  chained-names : (sure : Option SymByte) (cs : List Candidate) (rest : Chain) → ByteNamesIf sure → CandidatesName cs → ChainNames rest → ChainNames (chained sure cs rest)
  chained-names None cs rest s h k = or_else-names cs rest h k
  chained-names (Some b) cs rest s h k = surely-names b s

  chain-if : (b : Bool) (c d : Chain) → ChainNames c → ChainNames d → ChainNames (cond b c d)
  chain-if true c d h k = h
  chain-if false c d h k = k

  through-names : (known : List Tree) (x : ObjectName) (at : Tree) (es : List Entry) (rest : Chain) → Each (EntryNames P) es → ChainNames rest → ChainNames (chain_through known x at es rest)
  through-names known x at [] rest h k = k
  through-names known x at (entry.Write y offset bytes ∷ es) rest h k =
      let cs = candidates_of at offset 0 bytes in
      let named = candidates-names at offset 0 bytes h.0 in
      let more = through-names known x at es rest h.1 k in
      chain-if (same_object x y) (chained (sure_of known cs) (open_of known cs) (chain_through known x at es rest)) (chain_through known x at es rest)
      (chained-names (sure_of known cs) (open_of known cs) (chain_through known x at es rest) (sure-names known cs named) (open-names known cs named) more) more
  through-names known x at (entry.Alloc y size ∷ es) rest h k = through-names known x at es rest h.1 k
  through-names known x at (entry.Free y ∷ es) rest h k = through-names known x at es rest h.1 k
  through-names known x at (entry.Put t ∷ es) rest h k = through-names known x at es rest h.1 k
  through-names known x at (entry.Get ∷ es) rest h k = through-names known x at es rest h.1 k

  initial-names : (b : InitByte) → ByteNames P (initial_byte b)
  initial-names (init.Int b) = tt
  initial-names (init.PtrByte g offset j) = tt

  step-names : (a : Added) (t : Tree) (b : SymByte) (rest : Chain) → ByteNames P b → ChainNames rest → ChainNames (scan_step a t b rest)
  step-names Held t b rest h k = surely-names b h
  step-names Appended t b rest h k = or_else-names (record { test = t; found = b } ∷ []) rest (h, tt) k
  step-names Contradicted t b rest h k = k

  scanned-names : (known : List Tree) (at : Tree) (k : ℕ) (bs : List InitByte) → ChainNames (scanned known at k bs)
  scanned-names known at k [] = surely-names zero_byte tt
  scanned-names known at k (b ∷ bs) =
      let rest = scanned-names known at (k + 1) bs in
      chain-if (is_zero b) (scanned known at (k + 1) bs) (scan_step (answer known (equal (wide k) at)) (equal (wide k) at) (initial_byte b) (scanned known at (k + 1) bs)) rest
      (step-names (answer known (equal (wide k) at)) (equal (wide k) at) (initial_byte b) (scanned known at (k + 1) bs) (initial-names b) rest)

  byte_or_zero-names : (o : Option InitByte) → ByteNames P (byte_or_zero o)
  byte_or_zero-names None = tt
  byte_or_zero-names (Some b) = initial-names b

  initial_at-names : (constant : Option Number) (known : List Tree) (at : Tree) (bs : List InitByte) → ChainNames (initial_at constant known at bs)
  initial_at-names None known at bs = scanned-names known at 0 bs
  initial_at-names (Some m) known at bs = surely-names (byte_or_zero (slice_get bs m.bits)) (byte_or_zero-names (slice_get bs m.bits))

  abbrev pub ReadNames : Read → Type 0
  ReadNames (Byte b) = ByteNames P b
  ReadNames (Undecided t) = Unit {0}

  undecided-names : (cs : List Candidate) (last : SymByte) → ByteNames P last → ReadNames (undecided cs last)
  undecided-names [] last h = h
  undecided-names (c ∷ cs) last h = tt

  answer-names : (c : Chain) → ChainNames c → ReadNames (answer_of c)
  answer-names c h =
      elim (term_of c.candidates c.last) as (λ o. ReadNames (elim o [ Some t ↦ Byte (byte.Int t) | None ↦ undecided c.candidates c.last ]))
      [ Some t ↦ tt | None ↦ undecided-names c.candidates c.last h.1 ]

pub read-names : (ks : List Kind) (bound : ℕ) (globals : List GlobalVar) (known : List Tree) (x : ObjectName) (at : Tree) (log : Log) → LogNames ks bound log → ReadNames (Earlier ks bound) (read_byte globals known x at log)
read-names ks bound globals known x at log h =
    let P = Earlier ks bound in
    answer-names P (chain_of globals known x at (seen_at (cells_of x) log))
    (through-names P known x at (seen_at (cells_of x) log) (initial_at (constant_of at) known at (initial_bytes globals x)) (seen-names ks bound (cells_of x) log h)
    (initial_at-names P (constant_of at) known at (initial_bytes globals x)))
