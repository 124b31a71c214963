-- The value of a type that some bytes make, the lowest first, and what has to be known before that is decided (LLVM
-- Language Reference, "Load Instruction" and "Data Layout"; a mixture of bytes of different kinds makes no value, which is
-- a choice of this project).
use Rattle.std.specs.Prelude.{ℕ, ◌+◌, ◌==◌, ◌&&◌, nat_lt, Bool, true, false, List, [], ◌∷◌, Option, Some, None, if◌then◌else◌}
use Rattle.bitnum.specs.declared.BinOp.TheVariants as op
use Rattle.terms.specs.Tree.{Tree}
use Rattle.terms.specs.Folding.{folded_two}
use Rattle.terms.specs.Joining.{folded_join}
use Rattle.terms.specs.declared.term.Binary.TheVariants.{Bin}
use Rattle.flat_ir.specs.declared.nodes.RegType.{RegType}
use Rattle.flat_ir.specs.declared.nodes.RegType.TheVariants as type
use Rattle.sym_bytes.specs.declared.names.Base.{Base}
use Rattle.sym_bytes.specs.declared.names.CallId.{CallId}
use Rattle.sym_bytes.specs.Answers.{Join, Value, Needs, Test, Mixed}
use Rattle.sym_bytes.specs.Building.{number, wide, equal, null, same_call, same_type, same_base}
use Rattle.sym_bytes.specs.Byte as byte
use Rattle.sym_bytes.specs.Byte.{SymByte}
use Rattle.sym_bytes.specs.Pointers.{Pointer}
use Rattle.sym_bytes.specs.Value as value

-- an element in front of a list, if both are there
abbrev pub put_before : {A : Type 0} → Option A → Option (List A) → Option (List A)
put_before (Some x) (Some xs) = Some (x ∷ xs)
put_before (Some x) None = None
put_before None xs = None

-- the term of a byte that is an integer
abbrev pub int_of : SymByte → Option Tree
int_of (byte.Int t) = Some t
int_of (byte.PtrByte p j) = None
int_of (byte.PendingByte c t j) = None

-- the terms of bytes that all are integers
abbrev pub ints_of : List SymByte → Option (List Tree)
ints_of [] = Some []
ints_of (b ∷ bs) = put_before (int_of b) (ints_of bs)

-- a byte's offset, if it is byte j of a pointer of the base
abbrev pub offset_of : Base → ℕ → SymByte → Option Tree
offset_of base j (byte.PtrByte p k) = if same_base base p.base && (k == j) then Some p.offset else None
offset_of base j _ = None

-- the offsets of bytes that are bytes j and on of pointers of one base
abbrev pub offsets_of : Base → ℕ → List SymByte → Option (List Tree)
offsets_of base j [] = Some []
offsets_of base j (b ∷ bs) = put_before (offset_of base j b) (offsets_of base (j + 1) bs)

-- a byte is byte j of a call's result of the type
abbrev pub is_pending : CallId → RegType → ℕ → SymByte → Bool
is_pending call t j (byte.PendingByte c u k) = same_call call c && (same_type t u && (k == j))
is_pending call t j _ = false

-- the bytes are bytes j and on of a call's result of the type
abbrev pub are_pending : CallId → RegType → ℕ → List SymByte → Bool
are_pending call t j [] = true
are_pending call t j (b ∷ bs) = is_pending call t j b && are_pending call t (j + 1) bs

-- the calls begin with this one
abbrev pub starts_with : CallId → List CallId → Bool
starts_with c [] = false
starts_with c (d ∷ ds) = same_call c d

-- the calls with one in front, unless it stands there
abbrev pub put_first : CallId → List CallId → List CallId
put_first c ds = if starts_with c ds then ds else c ∷ ds

-- calls in ascending order with one more, none of them twice
abbrev pub put_call : CallId → List CallId → List CallId
put_call c [] = c ∷ []
put_call c (d ∷ ds) = if nat_lt d.0 c.0 then d ∷ put_call c ds else put_first c (d ∷ ds)

-- the calls of whose results there are bytes
abbrev pub calls_in : List SymByte → List CallId
calls_in [] = []
calls_in (byte.PendingByte c t j ∷ bs) = put_call c (calls_in bs)
calls_in (_ ∷ bs) = calls_in bs

-- bytes that make no value are mixed, unless the results of some calls will decide
abbrev pub mixed_or : List CallId → Join
mixed_or [] = Mixed
mixed_or calls = Needs calls

-- the call of whose result of the type these are the bytes
abbrev pub pending_call : RegType → List SymByte → Option CallId
pending_call t (byte.PendingByte c u j ∷ bs) = if are_pending c t 0 (byte.PendingByte c u j ∷ bs) then Some c else None
pending_call t _ = None

-- the bytes of one pending result of the type are that result, and other pending bytes need their results
abbrev pub join_pending : RegType → List SymByte → Join
join_pending t bs = elim (pending_call t bs) [ Some c ↦ Value (value.Pending c t) | None ↦ mixed_or (calls_in bs) ]

-- integers make the number whose bytes they are
abbrev pub join_integer : RegType → List SymByte → Join
join_integer t bs = elim (ints_of bs) [ Some terms ↦ Value (value.Int (folded_join terms)) | None ↦ join_pending t bs ]

-- integers make null where their join is 0
abbrev pub null_if_zero : List Tree → Join
null_if_zero terms = Test (equal (folded_join terms) (wide 0)) null

abbrev pub join_null : List SymByte → Join
join_null bs = elim (ints_of bs) [ Some terms ↦ null_if_zero terms | None ↦ join_pending type.Ptr bs ]

-- the first is so far, and each of the others equals it too
abbrev pub all_equal : Tree → Tree → List Tree → Tree
all_equal first so_far [] = so_far
all_equal first so_far (t ∷ ts) = all_equal first (folded_two (Bin op.And) so_far (equal t first)) ts

-- one bit, whether all offsets equal the first
abbrev pub alike : List Tree → Tree
alike [] = number 1 1
alike (t ∷ []) = number 1 1
alike (t ∷ u ∷ ts) = all_equal t (equal u t) ts

-- bytes 0 to 7 of pointers of one base make that pointer where their offsets are equal
abbrev pub join_offsets : Pointer → Option (List Tree) → List SymByte → Join
join_offsets p (Some offsets) bs = Test (alike offsets) (value.Ptr p)
join_offsets p None bs = join_pending type.Ptr bs

abbrev pub join_pointer : List SymByte → Join
join_pointer (byte.PtrByte p j ∷ bs) = join_offsets p (offsets_of p.base 0 (byte.PtrByte p j ∷ bs)) (byte.PtrByte p j ∷ bs)
join_pointer bs = join_null bs

-- what the bytes make of the type
abbrev pub join_bytes : List SymByte → RegType → Join
join_bytes bs (type.Int width) = join_integer (type.Int width) bs
join_bytes bs type.Ptr = join_pointer bs
