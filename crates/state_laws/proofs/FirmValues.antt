-- Values and bytes that are no pending results make no such ones.
use Rattle.std.proofs.Common.{◌≡◌, ℕ, zero, suc, Bool, true, false, ◌+◌, List, [], ◌∷◌, ◌++◌, map, slice_set, Option, Some, None, refl, ◌∙◌}
use Rattle.std.specs.Prelude.{cond, slice_get}
use Rattle.std.specs.Option.{option_map}
use Rattle.terms.specs.Tree.{Tree}
use Rattle.terms.specs.Joining.{folded_join}
use Rattle.flat_ir.specs.declared.nodes.Operand.{Operand}
use Rattle.flat_ir.specs.declared.nodes.Operand.TheVariants as operand
use Rattle.flat_ir.specs.declared.nodes.RegType.{RegType}
use Rattle.flat_ir.specs.declared.nodes.RegType.TheVariants as type
use Rattle.flat_ir.specs.Registers.{first_of}
use Rattle.sym_bytes.specs.declared.names.CallId.{CallId}
use Rattle.sym_bytes.specs.Answers as answers
use Rattle.sym_bytes.specs.Answers.{Join}
use Rattle.sym_bytes.specs.Byte as byte
use Rattle.sym_bytes.specs.Byte.{SymByte}
use Rattle.sym_bytes.specs.Cutting.{byte_of, cut_value}
use Rattle.sym_bytes.specs.Joining.{ints_of, offsets_of, mixed_or, pending_call, calls_in, join_pending, join_integer, join_null, null_if_zero, join_offsets, join_pointer, join_bytes}
use Rattle.sym_bytes.specs.Pointers.{Pointer}
use Rattle.sym_bytes.specs.Value.{SymValue, Int, Ptr, Pending}
use Rattle.skip_records.specs.Snapshots.{Snapshot}
use Rattle.sym_states.specs.States.{State}
use Rattle.sym_states.specs.Terms.{bytes_of_value, is_of_bytes, with_result, resolved, byte_resolved, set_or_null, raw_in, value_in, put_pending, pending_in, stored_bytes, joined_as}
use Rattle.state_laws.specs.Skipless.{IsFirm, IsFirmIf, RegsAreFirm, IsFirmByte, AreFirmBytes, HasNoCalls}

-- ---- operands

resolved-firm : (shots : List Snapshot) (v : SymValue) → IsFirm v → IsFirm (resolved shots v)
resolved-firm [] v h = h
resolved-firm (s ∷ shots) v h = with_result-firm s (resolved shots v) (resolved-firm shots v h)
  where
    with_result-firm : (s : Snapshot) (v : SymValue) → IsFirm v → IsFirm (with_result s v)
    with_result-firm s (Int t) h = tt
    with_result-firm s (Ptr p) h = tt
    with_result-firm s (Pending c t) h = absurd h

set_or_null-firm : (regs : List (Option SymValue)) (r : ℕ) → RegsAreFirm regs → IsFirm (set_or_null (slice_get regs r))
set_or_null-firm [] r h = tt
set_or_null-firm (Some v ∷ regs) zero h = h.0
set_or_null-firm (None ∷ regs) zero h = tt
set_or_null-firm (v ∷ regs) (suc r) h = set_or_null-firm regs r h.1

raw_in-firm : (regs : List (Option SymValue)) (a : Operand) → RegsAreFirm regs → IsFirm (raw_in regs a)
raw_in-firm regs (operand.Reg r) h = set_or_null-firm regs r.0 h
raw_in-firm regs (operand.Int m) h = tt
raw_in-firm regs operand.Null h = tt
raw_in-firm regs (operand.Global g offset) h = tt

pub value_in-firm : (s : State) (a : Operand) → HasNoCalls s → IsFirm (value_in s a)
value_in-firm s a h = resolved-firm s.snapshots (raw_in s.frame.regs a) (raw_in-firm s.frame.regs a h.frame)

pub value_in-firm-if : (s : State) (a : Option Operand) → HasNoCalls s → IsFirmIf (option_map (value_in s) a)
value_in-firm-if s None h = tt
value_in-firm-if s (Some a) h = value_in-firm s a h

put-nothing : (v : SymValue) (calls : List CallId) → IsFirm v → put_pending v calls ≡ calls
put-nothing (Int t) calls h = refl
put-nothing (Ptr p) calls h = refl
put-nothing (Pending c t) calls h = absurd h

-- no operand is pending
pub pending-none : (s : State) (operands : List Operand) → HasNoCalls s → pending_in s operands ≡ []
pending-none s [] h = refl
pending-none s (a ∷ as') h = put-nothing (value_in s a) (pending_in s as') (value_in-firm s a h) ∙ pending-none s as' h

abbrev pub ValuesAreFirm : List SymValue → Type 0
ValuesAreFirm [] = Unit {0}
ValuesAreFirm (v ∷ vs) = IsFirm v × ValuesAreFirm vs

pub values-firm : (s : State) (operands : List Operand) → HasNoCalls s → ValuesAreFirm (map (value_in s) operands)
values-firm s [] h = tt
values-firm s (a ∷ as') h = (value_in-firm s a h, values-firm s as' h)

-- ---- registers

pub regs-set-firm : (regs : List (Option SymValue)) (k : ℕ) (v : SymValue) → RegsAreFirm regs → IsFirm v → RegsAreFirm (slice_set regs k (Some v))
regs-set-firm [] k v h g = tt
regs-set-firm (w ∷ regs) zero v h g = (g, h.1)
regs-set-firm (w ∷ regs) (suc k) v h g = (h.0, regs-set-firm regs k v h.1 g)

pub args-firm : (args : List SymValue) (rest : List (Option SymValue)) → ValuesAreFirm args → RegsAreFirm rest → RegsAreFirm (map Some args ++ rest)
args-firm [] rest h k = k
args-firm (v ∷ args) rest h k = (h.0, args-firm args rest h.1 k)

pub unset-firm : (types : List RegType) → RegsAreFirm (map (λ r. None) types)
unset-firm [] = tt
unset-firm (t ∷ types) = (tt, unset-firm types)

-- ---- bytes

byte_of-firm : (v : SymValue) (j : ℕ) → IsFirm v → IsFirmByte (byte_of v j)
byte_of-firm (Int t) j h = tt
byte_of-firm (Ptr p) j h = tt
byte_of-firm (Pending c t) j h = absurd h

cut-firm : (v : SymValue) (count k : ℕ) → IsFirm v → AreFirmBytes (first_of count k (byte_of v))
cut-firm v zero k h = tt
cut-firm v (suc count) k h = (byte_of-firm v k h, cut-firm v count (k + 1) h)

bytes-if : (b : Bool) (bs : List SymByte) → AreFirmBytes bs → AreFirmBytes (cond b bs [])
bytes-if true bs h = h
bytes-if false bs h = tt

pub stored-firm : (v : SymValue) → IsFirm v → AreFirmBytes (stored_bytes v)
stored-firm v h = bytes-if (is_of_bytes v) (cut_value v (bytes_of_value v)) (cut-firm v (bytes_of_value v) 0 h)

byte_resolved-firm : (shots : List Snapshot) (b : SymByte) → IsFirmByte b → IsFirmByte (byte_resolved shots b)
byte_resolved-firm shots (byte.Int t) h = tt
byte_resolved-firm shots (byte.PtrByte p j) h = tt
byte_resolved-firm shots (byte.PendingByte c t j) h = absurd h

pub bytes_resolved-firm : (shots : List Snapshot) (bs : List SymByte) → AreFirmBytes bs → AreFirmBytes (map (byte_resolved shots) bs)
bytes_resolved-firm shots [] h = tt
bytes_resolved-firm shots (b ∷ bs) h = (byte_resolved-firm shots b h.0, bytes_resolved-firm shots bs h.1)

-- ---- what firm bytes make

abbrev pub JoinIsFirm : Join → Type 0
JoinIsFirm (answers.Value v) = IsFirm v
JoinIsFirm (answers.Needs calls) = ⊥
JoinIsFirm (answers.Test t v) = IsFirm v
JoinIsFirm answers.Mixed = Unit {0}

no-calls : (bs : List SymByte) → AreFirmBytes bs → calls_in bs ≡ []
no-calls [] h = refl
no-calls (byte.Int t ∷ bs) h = no-calls bs h.1
no-calls (byte.PtrByte p j ∷ bs) h = no-calls bs h.1
no-calls (byte.PendingByte c t j ∷ bs) h = absurd h.0

no-pending : (t : RegType) (bs : List SymByte) → AreFirmBytes bs → pending_call t bs ≡ None
no-pending t [] h = refl
no-pending t (byte.Int u ∷ bs) h = refl
no-pending t (byte.PtrByte p j ∷ bs) h = refl
no-pending t (byte.PendingByte c u j ∷ bs) h = absurd h.0

mixed-firm : (calls : List CallId) → calls ≡ [] → JoinIsFirm (mixed_or calls)
mixed-firm [] h = tt
mixed-firm (c ∷ calls) h = absurd (none h)
  where
    none : c ∷ calls ≡ [] → ⊥
    none p = cc

by-call : (t : RegType) (bs : List SymByte) (o : Option CallId) → o ≡ None → AreFirmBytes bs → JoinIsFirm (elim o [ Some c ↦ answers.Value (Pending c t) | None ↦ mixed_or (calls_in bs) ])
by-call t bs None e h = mixed-firm (calls_in bs) (no-calls bs h)
by-call t bs (Some c) e h = absurd (none e)
  where
    none : Some c ≡ None → ⊥
    none p = cc

join_pending-firm : (t : RegType) (bs : List SymByte) → AreFirmBytes bs → JoinIsFirm (join_pending t bs)
join_pending-firm t bs h = by-call t bs (pending_call t bs) (no-pending t bs h) h

join_integer-firm : (t : RegType) (bs : List SymByte) → AreFirmBytes bs → JoinIsFirm (join_integer t bs)
join_integer-firm t bs h =
    elim (ints_of bs) as (λ o. JoinIsFirm (elim o [ Some terms ↦ answers.Value (Int (folded_join terms)) | None ↦ join_pending t bs ]))
    [ Some terms ↦ tt | None ↦ join_pending-firm t bs h ]

join_null-firm : (bs : List SymByte) → AreFirmBytes bs → JoinIsFirm (join_null bs)
join_null-firm bs h =
    elim (ints_of bs) as (λ o. JoinIsFirm (elim o [ Some terms ↦ null_if_zero terms | None ↦ join_pending type.Ptr bs ]))
    [ Some terms ↦ tt | None ↦ join_pending-firm type.Ptr bs h ]

join_offsets-firm : (p : Pointer) (o : Option (List Tree)) (bs : List SymByte) → AreFirmBytes bs → JoinIsFirm (join_offsets p o bs)
join_offsets-firm p None bs h = join_pending-firm type.Ptr bs h
join_offsets-firm p (Some ts) bs h = tt

join_pointer-firm : (bs : List SymByte) → AreFirmBytes bs → JoinIsFirm (join_pointer bs)
join_pointer-firm [] h = join_null-firm [] h
join_pointer-firm (byte.Int t ∷ bs) h = join_null-firm (byte.Int t ∷ bs) h
join_pointer-firm (byte.PtrByte p j ∷ bs) h = join_offsets-firm p (offsets_of p.base 0 (byte.PtrByte p j ∷ bs)) (byte.PtrByte p j ∷ bs) h
join_pointer-firm (byte.PendingByte c t j ∷ bs) h = absurd h.0

join_bytes-firm : (t : RegType) (bs : List SymByte) → AreFirmBytes bs → JoinIsFirm (join_bytes bs t)
join_bytes-firm (type.Int width) bs h = join_integer-firm (type.Int width) bs h
join_bytes-firm type.Ptr bs h = join_pointer-firm bs h

pub joined-firm : (t : RegType) (bs : List SymByte) → AreFirmBytes bs → JoinIsFirm (joined_as t bs)
joined-firm t [] h = tt
joined-firm t (b ∷ bs) h = join_bytes-firm t (b ∷ bs) h
