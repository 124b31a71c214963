-- Values and bytes name skipped calls, and what is resolved names such whose results aren't recovered.
use Rattle.std.proofs.Common.{◌≡◌, ◌⊎◌, ℕ, zero, suc, Bool, true, false, ◌+◌, ◌-◌, ◌<◌, ◌≤◌, ◌&&◌, ◌==◌, List, [], ◌∷◌, ◌++◌, length, map, slice_set, Option, Some, None, refl, sym, ◌∙◌, ap, subst, inl, inr, arith}
use Rattle.std.specs.Prelude.{cond, filter, nat_lt, slice_get}
use Rattle.std.specs.Option.{option_map}
use Rattle.std.specs.List.{AllByRecursion as Each}
use Rattle.std.proofs.lemmas.Bool.{eqb-true, eqb-false, ltb-true, ltb-false}
use Rattle.std.proofs.lemmas.List.{map-append}
use Rattle.terms.specs.Tree.{Tree}
use Rattle.terms.specs.Joining.{folded_join}
use Rattle.flat_ir.specs.declared.names.Location.{Location}
use Rattle.flat_ir.specs.declared.names.Location.TheVariants as location
use Rattle.flat_ir.specs.declared.nodes.Operand.{Operand}
use Rattle.flat_ir.specs.declared.nodes.Operand.TheVariants as operand
use Rattle.flat_ir.specs.declared.nodes.RegType.{RegType}
use Rattle.flat_ir.specs.declared.nodes.RegType.TheVariants as type
use Rattle.flat_ir.specs.declared.program.ProgramData.{ProgramData}
use Rattle.flat_ir.specs.Registers.{first_of}
use Rattle.sym_bytes.specs.declared.names.CallId.{CallId}
use Rattle.sym_bytes.specs.Answers as answers
use Rattle.sym_bytes.specs.Answers.{Join}
use Rattle.sym_bytes.specs.Building.{same_call, same_type}
use Rattle.sym_bytes.specs.Byte as byte
use Rattle.sym_bytes.specs.Byte.{SymByte}
use Rattle.sym_bytes.specs.Cutting.{byte_of, cut_value}
use Rattle.sym_bytes.specs.Joining.{ints_of, offsets_of, is_pending, are_pending, put_first, put_call, mixed_or, pending_call, calls_in, join_pending, join_integer, join_null, null_if_zero, join_offsets, join_pointer, join_bytes}
use Rattle.sym_bytes.specs.Pointers.{Pointer}
use Rattle.sym_bytes.specs.Value.{SymValue, Int, Ptr, Pending}
use Rattle.leaves.specs.Events.{Recovered}
use Rattle.skip_records.specs.Snapshots.{Snapshot}
use Rattle.sym_states.specs.States.{State, Needed, needs_at, results_of}
use Rattle.sym_states.specs.Terms.{bytes_of_value, is_of_bytes, part_of, instead, with_result, resolved, byte_resolved, set_or_null, raw_in, value_in, put_pending, pending_in, stored_bytes, joined_as}
use Rattle.exploration_laws.specs.Calls.{Skip, skips_of, NumberedFrom}
use Rattle.exploration_laws.specs.Open.{Rise}
use Rattle.exploration_laws.specs.Pending.{Kind, kind_of, kinds_of, Returns, Earlier, ValueNames, ValueNamesIf, ByteNames, SnapshotNames, ResultsName, NoneTwice}

-- ---- lists

pub each-more : {A : Type 0} (P Q : A → Type 0) → ((x : A) → P x → Q x) → (xs : List A) → Each P xs → Each Q xs
each-more P Q more [] h = tt
each-more P Q more (x ∷ xs) h = (more x h.0, each-more P Q more xs h.1)

pub each-append : {A : Type 0} (P : A → Type 0) (xs ys : List A) → Each P xs → Each P ys → Each P (xs ++ ys)
each-append P [] ys h k = k
each-append P (x ∷ xs) ys h k = (h.0, each-append P xs ys h.1 k)

pub each-if : {A : Type 0} (P : A → Type 0) (b : Bool) (xs ys : List A) → Each P xs → Each P ys → Each P (cond b xs ys)
each-if P true xs ys h k = h
each-if P false xs ys h k = k

-- ---- calls that return values

pub returns-more : (ks more : List Kind) (c : CallId) (t : RegType) → Returns ks c t → Returns (ks ++ more) c t
returns-more [] more c t h = absurd h
returns-more (k ∷ ks) more c t (inl h) = inl h
returns-more (k ∷ ks) more c t (inr h) = inr (returns-more ks more c t h)

pub returns-last : (ks : List Kind) (k : Kind) (c : CallId) (t : RegType) → k.call.0 ≡ c.0 → k.result ≡ Some t → Returns (ks ++ k ∷ []) c t
returns-last [] k c t h is = inl (h, is)
returns-last (m ∷ ks) k c t h is = inr (returns-last ks k c t h is)

no-less : (n m : ℕ) → n < m → m ≤ n → ⊥
no-less n m h k = omega (arith, h, k)

same-less : (n m bound : ℕ) → n ≡ m → m < bound → n < bound
same-less n m bound h k = omega (arith, h, k)

-- a call that is older than another one is among those that are
pub returns-older : (n : CallId) (ks : List Kind) (c : CallId) (t : RegType) → c.0 < n.0 → Returns ks c t → Returns (filter (λ k. nat_lt k.call.0 n.0) ks) c t
returns-older n [] c t less h = absurd h
returns-older n (k ∷ ks) c t less (inl h) = by-test (nat_lt k.call.0 n.0) refl
  where
    by-test : (b : Bool) → nat_lt k.call.0 n.0 ≡ b → Returns (cond b (k ∷ filter (λ m. nat_lt m.call.0 n.0) ks) (filter (λ m. nat_lt m.call.0 n.0) ks)) c t
    by-test true e = inl h
    by-test false e = absurd (no-less k.call.0 n.0 (same-less k.call.0 c.0 n.0 h.0 less) (ltb-false k.call.0 n.0 e))
returns-older n (k ∷ ks) c t less (inr h) =
    elim (nat_lt k.call.0 n.0) as (λ b. Returns (cond b (k ∷ filter (λ m. nat_lt m.call.0 n.0) ks) (filter (λ m. nat_lt m.call.0 n.0) ks)) c t)
    [ true ↦ inr (returns-older n ks c t less h) | false ↦ returns-older n ks c t less h ]

-- and those are among all
pub returns-all : (n : CallId) (ks : List Kind) (c : CallId) (t : RegType) → Returns (filter (λ k. nat_lt k.call.0 n.0) ks) c t → Returns ks c t
returns-all n [] c t h = absurd h
returns-all n (k ∷ ks) c t h = by-test (nat_lt k.call.0 n.0) h (λ g. returns-all n ks c t g)
  where
    by-test : (b : Bool) → Returns (cond b (k ∷ filter (λ m. nat_lt m.call.0 n.0) ks) (filter (λ m. nat_lt m.call.0 n.0) ks)) c t → (Returns (filter (λ m. nat_lt m.call.0 n.0) ks) c t → Returns ks c t) → Returns (k ∷ ks) c t
    by-test true (inl g) more = inl g
    by-test true (inr g) more = inr (more g)
    by-test false g more = inr (more g)

-- ---- what names more

pub value-more : (P Q : CallId → RegType → Type 0) → ((c : CallId) (t : RegType) → P c t → Q c t) → (v : SymValue) → ValueNames P v → ValueNames Q v
value-more P Q more (Int t) h = tt
value-more P Q more (Ptr p) h = tt
value-more P Q more (Pending c t) h = more c t h

pub value-more-if : (P Q : CallId → RegType → Type 0) → ((c : CallId) (t : RegType) → P c t → Q c t) → (v : Option SymValue) → ValueNamesIf P v → ValueNamesIf Q v
value-more-if P Q more None h = tt
value-more-if P Q more (Some v) h = value-more P Q more v h

pub byte-more : (P Q : CallId → RegType → Type 0) → ((c : CallId) (t : RegType) → P c t → Q c t) → (b : SymByte) → ByteNames P b → ByteNames Q b
byte-more P Q more (byte.Int t) h = tt
byte-more P Q more (byte.PtrByte p j) h = tt
byte-more P Q more (byte.PendingByte c t j) h = more c t h

-- ---- recovered results

-- the call's result isn't recovered
abbrev pub IsNotGiven : CallId → List Snapshot → Type 0
IsNotGiven c shots = Each (λ s. s.call.0 ≡ c.0 → s.result ≡ None) shots

-- a pending result that stands where recovered ones are put in their places
abbrev pub Waits : List Kind → ℕ → List Snapshot → CallId → RegType → Type 0
Waits ks bound shots c t = Earlier ks bound c t × IsNotGiven c shots

pub numbered-above : (mods : List (List Location)) (low k : ℕ) (shots : List Snapshot) → low < k → NumberedFrom k (skips_of mods shots) → Each (λ s. low < s.call.0) shots
numbered-above mods low k [] less h = tt
numbered-above mods low k (s ∷ shots) less h = (above low s.call.0 k less h.0, numbered-above mods low (k + 1) shots (more low k less) h.1)
  where
    above : (low n k : ℕ) → low < k → n ≡ k → low < n
    above low n k h is = omega (arith, h, is)

    more : (low k : ℕ) → low < k → low < k + 1
    more low k h = omega (arith, h)

other-call : (a b : ℕ) → a < b → b ≡ a → ⊥
other-call a b h is = omega (arith, h, is)

not-given-above : (c : CallId) (shots : List Snapshot) → Each (λ s. c.0 < s.call.0) shots → IsNotGiven c shots
not-given-above c [] h = tt
not-given-above c (s ∷ shots) h = ((λ is. absurd (other-call c.0 s.call.0 h.0 is)), not-given-above c shots h.1)

lower : (a b c : ℕ) → a < b → b < c → a < c
lower a b c h k = omega (arith, h, k)

given-here : (ks : List Kind) (bound : ℕ) (s : Snapshot) (newer : List Snapshot) (v : SymValue) → s.call.0 < bound → Each (λ n. s.call.0 < n.call.0) newer → ValueNames (Earlier ks s.call.0) v → ValueNames (Waits ks bound (s ∷ newer)) v
given-here ks bound s newer (Int t) low above h = tt
given-here ks bound s newer (Ptr p) low above h = tt
given-here ks bound s newer (Pending c t) low above h = (
  (lower c.0 s.call.0 bound h.0 low, h.1),
  ((λ is. absurd (other-call c.0 s.call.0 h.0 is)), not-given-above c newer (each-more (λ n. s.call.0 < n.call.0) (λ n. c.0 < n.call.0) (λ n more. lower c.0 s.call.0 n.call.0 h.0 more) newer above)),
)

instead-waits : (ks : List Kind) (bound : ℕ) (s : Snapshot) (newer : List Snapshot) (c : CallId) (t : RegType) (o : Option SymValue) → s.result ≡ o → s.call.0 ≡ c.0 → Each (λ n. s.call.0 < n.call.0) newer → ValueNamesIf (Earlier ks s.call.0) o
    → Waits ks bound newer c t → ValueNames (Waits ks bound (s ∷ newer)) (instead o (Pending c t))
instead-waits ks bound s newer c t None none is above g h = (h.0, ((λ e. none), h.1))
instead-waits ks bound s newer c t (Some v) some is above g h = given-here ks bound s newer v (same-less s.call.0 c.0 bound is h.0.0) above g

with_result-waits : (ks : List Kind) (bound : ℕ) (s : Snapshot) (newer : List Snapshot) (v : SymValue) → Each (λ n. s.call.0 < n.call.0) newer → SnapshotNames ks s → ValueNames (Waits ks bound newer) v → ValueNames (Waits ks bound (s ∷ newer)) (with_result s v)
with_result-waits ks bound s newer (Int t) above g h = tt
with_result-waits ks bound s newer (Ptr p) above g h = tt
with_result-waits ks bound s newer (Pending c t) above g h = by-test (same_call s.call c) refl
  where
    by-test : (b : Bool) → same_call s.call c ≡ b → ValueNames (Waits ks bound (s ∷ newer)) (cond b (instead s.result (Pending c t)) (Pending c t))
    by-test true e = instead-waits ks bound s newer c t s.result refl (eqb-true s.call.0 c.0 e) above g.1 h
    by-test false e = (h.0, ((λ is. absurd (eqb-false s.call.0 c.0 e is)), h.1))

module _ (mods : List (List Location)) (ks : List Kind) (bound : ℕ) where
  pub resolved-waits : (k : ℕ) (shots : List Snapshot) (v : SymValue) → NumberedFrom k (skips_of mods shots) → Each (SnapshotNames ks) shots → ValueNames (Earlier ks bound) v → ValueNames (Waits ks bound shots) (resolved shots v)
  resolved-waits k [] v numbered g h = value-more (Earlier ks bound) (Waits ks bound []) (λ c t names. (names, tt)) v h
  resolved-waits k (s ∷ shots) v numbered g h =
      with_result-waits ks bound s shots (resolved shots v) (numbered-above mods s.call.0 (k + 1) shots (next s.call.0 k numbered.0) numbered.1) g.0 (resolved-waits (k + 1) shots v numbered.1 g.1 h)
    where
      next : (n k : ℕ) → n ≡ k → n < k + 1
      next n k is = omega (arith, is)

-- ---- results that are told

told-if : (ks : List Kind) (call : CallId) (o : Option SymValue) (more : List Recovered) → ValueNamesIf (Earlier ks call.0) o → ResultsName more
    → ResultsName (elim o [ None ↦ more | Some v ↦ record { call = call; value = v } ∷ more ])
told-if ks call None more h k = k
told-if ks call (Some v) more h k = (value-more (Earlier ks call.0) (λ c t. c.0 < call.0) (λ c t names. names.0) v h, k)

pub results-name : (ks : List Kind) (shots : List Snapshot) → Each (SnapshotNames ks) shots → ResultsName (results_of shots)
results-name ks [] h = tt
results-name ks (s ∷ shots) h = told-if ks s.call s.result (results_of shots) h.0.1 (results-name ks shots h.1)

-- ---- parts of values

part-if : (P : CallId → RegType → Type 0) (b : Bool) (x y : SymByte) → ByteNames P x → ByteNames P y → ByteNames P (cond b x y)
part-if P true x y h k = h
part-if P false x y h k = k

byte_of-names : (P : CallId → RegType → Type 0) (v : SymValue) (j : ℕ) → ValueNames P v → ByteNames P (byte_of v j)
byte_of-names P (Int t) j h = tt
byte_of-names P (Ptr p) j h = tt
byte_of-names P (Pending c t) j h = h

part_of-names : (P : CallId → RegType → Type 0) (v : SymValue) (j : ℕ) → ValueNames P v → ByteNames P (part_of v j)
part_of-names P v j h = part-if P (is_of_bytes v && nat_lt j (bytes_of_value v)) (byte_of v j) _ (byte_of-names P v j h) tt

cut-names : (P : CallId → RegType → Type 0) (v : SymValue) (count k : ℕ) → ValueNames P v → Each (ByteNames P) (first_of count k (byte_of v))
cut-names P v zero k h = tt
cut-names P v (suc count) k h = (byte_of-names P v k h, cut-names P v count (k + 1) h)

pub stored-names : (P : CallId → RegType → Type 0) (v : SymValue) → ValueNames P v → Each (ByteNames P) (stored_bytes v)
stored-names P v h = each-if (ByteNames P) (is_of_bytes v) (cut_value v (bytes_of_value v)) [] (cut-names P v (bytes_of_value v) 0 h) tt

-- ---- registers

pub set_or_null-names : (P : CallId → RegType → Type 0) (regs : List (Option SymValue)) (r : ℕ) → Each (ValueNamesIf P) regs → ValueNames P (set_or_null (slice_get regs r))
set_or_null-names P [] r h = tt
set_or_null-names P (Some v ∷ regs) zero h = h.0
set_or_null-names P (None ∷ regs) zero h = tt
set_or_null-names P (v ∷ regs) (suc r) h = set_or_null-names P regs r h.1

pub raw_in-names : (P : CallId → RegType → Type 0) (regs : List (Option SymValue)) (a : Operand) → Each (ValueNamesIf P) regs → ValueNames P (raw_in regs a)
raw_in-names P regs (operand.Reg r) h = set_or_null-names P regs r.0 h
raw_in-names P regs (operand.Int m) h = tt
raw_in-names P regs operand.Null h = tt
raw_in-names P regs (operand.Global g offset) h = tt

pub regs-set-name : (P : CallId → RegType → Type 0) (regs : List (Option SymValue)) (k : ℕ) (v : SymValue) → Each (ValueNamesIf P) regs → ValueNames P v → Each (ValueNamesIf P) (slice_set regs k (Some v))
regs-set-name P [] k v h g = tt
regs-set-name P (w ∷ regs) zero v h g = (g, h.1)
regs-set-name P (w ∷ regs) (suc k) v h g = (h.0, regs-set-name P regs k v h.1 g)

pub args-name : (P : CallId → RegType → Type 0) (args : List SymValue) (rest : List (Option SymValue)) → Each (ValueNames P) args → Each (ValueNamesIf P) rest → Each (ValueNamesIf P) (map Some args ++ rest)
args-name P [] rest h k = k
args-name P (v ∷ args) rest h k = (h.0, args-name P args rest h.1 k)

pub unset-name : (P : CallId → RegType → Type 0) (types : List RegType) → Each (ValueNamesIf P) (map (λ r. None) types)
unset-name P [] = tt
unset-name P (t ∷ types) = (tt, unset-name P types)

-- ---- calls in ascending order

-- the call waits, of some type
abbrev pub IsWaited : (CallId → RegType → Type 0) → CallId → Type 0
IsWaited P c = (t : RegType) × P c t

first-each : (Q : CallId → Type 0) (b : Bool) (c d : CallId) (ds : List CallId) → Q c → Each Q (d ∷ ds) → Each Q (cond b (d ∷ ds) (c ∷ d ∷ ds))
first-each Q true c d ds h k = k
first-each Q false c d ds h k = (h, k)

pub put-each : (Q : CallId → Type 0) (c : CallId) (ds : List CallId) → Q c → Each Q ds → Each Q (put_call c ds)
put-each Q c [] h k = (h, tt)
put-each Q c (d ∷ ds) h k =
    elim (nat_lt d.0 c.0) as (λ b. Each Q (cond b (d ∷ put_call c ds) (put_first c (d ∷ ds))))
    [ true ↦ (k.0, put-each Q c ds h k.1) | false ↦ first-each Q (same_call c d) c d ds h k ]

at-least : (c d : ℕ) → c ≤ d → (c ≡ d → ⊥) → c < d
at-least c d h other = by-test (nat_lt c d) refl
  where
    same : c ≤ d → d ≤ c → c ≡ d
    same h k = omega (arith, h, k)

    by-test : (b : Bool) → nat_lt c d ≡ b → c < d
    by-test true e = ltb-true c d e
    by-test false e = absurd (other (same h (ltb-false c d e)))

first-rise : (b : Bool) (c d : CallId) (ds : List CallId) → same_call c d ≡ b → c.0 ≤ d.0 → Rise (d ∷ ds) → Rise (cond b (d ∷ ds) (c ∷ d ∷ ds))
first-rise true c d ds e most k = k
first-rise false c d ds e most k =
    let less = at-least c.0 d.0 most (eqb-false c.0 d.0 e) in
    ((less, each-more (λ x. d.0 < x.0) (λ x. c.0 < x.0) (λ x h. lower c.0 d.0 x.0 less h) ds k.0), k)

pub put-rise : (c : CallId) (ds : List CallId) → Rise ds → Rise (put_call c ds)
put-rise c [] k = (tt, tt)
put-rise c (d ∷ ds) k = by-test (nat_lt d.0 c.0) refl (put-rise c ds k.1)
  where
    by-test : (b : Bool) → nat_lt d.0 c.0 ≡ b → Rise (put_call c ds) → Rise (cond b (d ∷ put_call c ds) (put_first c (d ∷ ds)))
    by-test true e more = (put-each (λ x. d.0 < x.0) c ds (ltb-true d.0 c.0 e) k.0, more)
    by-test false e more = first-rise (same_call c d) c d ds refl (ltb-false d.0 c.0 e) k

-- calls that wait, in ascending order
abbrev pub AreWaited : (CallId → RegType → Type 0) → List CallId → Type 0
AreWaited P calls = Each (IsWaited P) calls × Rise calls

pub put_pending-waits : (P : CallId → RegType → Type 0) (v : SymValue) (calls : List CallId) → ValueNames P v → AreWaited P calls → AreWaited P (put_pending v calls)
put_pending-waits P (Int t) calls h k = k
put_pending-waits P (Ptr p) calls h k = k
put_pending-waits P (Pending c t) calls h k = (put-each (IsWaited P) c calls (t, h) k.0, put-rise c calls k.1)

calls_in-wait : (P : CallId → RegType → Type 0) (bs : List SymByte) → Each (ByteNames P) bs → AreWaited P (calls_in bs)
calls_in-wait P [] h = (tt, tt)
calls_in-wait P (byte.Int t ∷ bs) h = calls_in-wait P bs h.1
calls_in-wait P (byte.PtrByte p j ∷ bs) h = calls_in-wait P bs h.1
calls_in-wait P (byte.PendingByte c t j ∷ bs) h = let more = calls_in-wait P bs h.1 in (put-each (IsWaited P) c (calls_in bs) (t, h.0) more.0, put-rise c (calls_in bs) more.1)

-- ---- what bytes make

abbrev pub JoinNames : (CallId → RegType → Type 0) → Join → Type 0
JoinNames P (answers.Value v) = ValueNames P v
JoinNames P (answers.Needs calls) = AreWaited P calls
JoinNames P (answers.Test t v) = ValueNames P v
JoinNames P answers.Mixed = Unit {0}

same-type : (t u : RegType) → same_type t u ≡ true → u ≡ t
same-type (type.Int v) (type.Int w) h = ap (λ n. type.Int n) (sym (eqb-true v w h))
same-type (type.Int v) type.Ptr h = cc
same-type type.Ptr (type.Int w) h = cc
same-type type.Ptr type.Ptr h = refl

pub front : (a b : Bool) → (a && b) ≡ true → a ≡ true
front true b h = refl
front false b h = h

behind : (a b : Bool) → (a && b) ≡ true → b ≡ true
behind true b h = h
behind false b h = cc

mixed-names : (P : CallId → RegType → Type 0) (calls : List CallId) → AreWaited P calls → JoinNames P (mixed_or calls)
mixed-names P [] h = tt
mixed-names P (c ∷ calls) h = h

-- the call whose result the bytes are
abbrev CallNames : (CallId → RegType → Type 0) → RegType → Option CallId → Type 0
CallNames P t None = Unit {0}
CallNames P t (Some c) = P c t

pending-if : (P : CallId → RegType → Type 0) (t u : RegType) (c : CallId) (b : Bool) → (b ≡ true → u ≡ t) → P c u → CallNames P t (cond b (Some c) None)
pending-if P t u c true same h = subst (P c) (same refl) h
pending-if P t u c false same h = tt

pending_call-names : (P : CallId → RegType → Type 0) (t : RegType) (bs : List SymByte) → Each (ByteNames P) bs → CallNames P t (pending_call t bs)
pending_call-names P t [] h = tt
pending_call-names P t (byte.Int u ∷ bs) h = tt
pending_call-names P t (byte.PtrByte p j ∷ bs) h = tt
pending_call-names P t (byte.PendingByte c u j ∷ bs) h =
    pending-if P t u c (are_pending c t 0 (byte.PendingByte c u j ∷ bs))
    (λ e. same-type t u (front (same_type t u) (j == 0) (behind (same_call c c) (same_type t u && (j == 0)) (front (is_pending c t 0 (byte.PendingByte c u j)) (are_pending c t 1 bs) e)))) h.0

join_pending-names : (P : CallId → RegType → Type 0) (t : RegType) (bs : List SymByte) → Each (ByteNames P) bs → JoinNames P (join_pending t bs)
join_pending-names P t bs h =
    elim (pending_call t bs) as (λ o. CallNames P t o → JoinNames P (elim o [ Some c ↦ answers.Value (Pending c t) | None ↦ mixed_or (calls_in bs) ]))
    [ Some c ↦ (λ g. g) | None ↦ (λ g. mixed-names P (calls_in bs) (calls_in-wait P bs h)) ]
    (pending_call-names P t bs h)

join_integer-names : (P : CallId → RegType → Type 0) (t : RegType) (bs : List SymByte) → Each (ByteNames P) bs → JoinNames P (join_integer t bs)
join_integer-names P t bs h =
    elim (ints_of bs) as (λ o. JoinNames P (elim o [ Some terms ↦ answers.Value (Int (folded_join terms)) | None ↦ join_pending t bs ]))
    [ Some terms ↦ tt | None ↦ join_pending-names P t bs h ]

join_null-names : (P : CallId → RegType → Type 0) (bs : List SymByte) → Each (ByteNames P) bs → JoinNames P (join_null bs)
join_null-names P bs h =
    elim (ints_of bs) as (λ o. JoinNames P (elim o [ Some terms ↦ null_if_zero terms | None ↦ join_pending type.Ptr bs ]))
    [ Some terms ↦ tt | None ↦ join_pending-names P type.Ptr bs h ]

join_offsets-names : (P : CallId → RegType → Type 0) (p : Pointer) (o : Option (List Tree)) (bs : List SymByte) → Each (ByteNames P) bs → JoinNames P (join_offsets p o bs)
join_offsets-names P p None bs h = join_pending-names P type.Ptr bs h
join_offsets-names P p (Some ts) bs h = tt

join_pointer-names : (P : CallId → RegType → Type 0) (bs : List SymByte) → Each (ByteNames P) bs → JoinNames P (join_pointer bs)
join_pointer-names P [] h = join_null-names P [] h
join_pointer-names P (byte.Int t ∷ bs) h = join_null-names P (byte.Int t ∷ bs) h
join_pointer-names P (byte.PtrByte p j ∷ bs) h = join_offsets-names P p (offsets_of p.base 0 (byte.PtrByte p j ∷ bs)) (byte.PtrByte p j ∷ bs) h
join_pointer-names P (byte.PendingByte c t j ∷ bs) h = join_null-names P (byte.PendingByte c t j ∷ bs) h

join_bytes-names : (P : CallId → RegType → Type 0) (t : RegType) (bs : List SymByte) → Each (ByteNames P) bs → JoinNames P (join_bytes bs t)
join_bytes-names P (type.Int width) bs h = join_integer-names P (type.Int width) bs h
join_bytes-names P type.Ptr bs h = join_pointer-names P bs h

pub joined-names : (P : CallId → RegType → Type 0) (t : RegType) (bs : List SymByte) → Each (ByteNames P) bs → JoinNames P (joined_as t bs)
joined-names P t [] h = tt
joined-names P t (b ∷ bs) h = join_bytes-names P t (b ∷ bs) h

module _ (mods : List (List Location)) (ks : List Kind) (bound : ℕ) where
  byte_resolved-waits : (shots : List Snapshot) (b : SymByte) → NumberedFrom 1 (skips_of mods shots) → Each (SnapshotNames ks) shots → ByteNames (Earlier ks bound) b → ByteNames (Waits ks bound shots) (byte_resolved shots b)
  byte_resolved-waits shots (byte.Int t) numbered g h = tt
  byte_resolved-waits shots (byte.PtrByte p j) numbered g h = tt
  byte_resolved-waits shots (byte.PendingByte c t j) numbered g h = part_of-names (Waits ks bound shots) (resolved shots (Pending c t)) j (resolved-waits mods ks bound 1 shots (Pending c t) numbered g h)

  pub bytes_resolved-wait : (shots : List Snapshot) (bs : List SymByte) → NumberedFrom 1 (skips_of mods shots) → Each (SnapshotNames ks) shots → Each (ByteNames (Earlier ks bound)) bs → Each (ByteNames (Waits ks bound shots)) (map (byte_resolved shots) bs)
  bytes_resolved-wait shots [] numbered g h = tt
  bytes_resolved-wait shots (b ∷ bs) numbered g h = (byte_resolved-waits shots b numbered g h.0, bytes_resolved-wait shots bs numbered g h.1)
