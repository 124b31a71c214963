-- Each step stays within the points-to sets.
use Rattle.std.specs.Prelude.{slice_get, slice_set, unwrap_or, map, drop, take, reverse, ◌==◌, ◌%◌, ◌^◌, nat_lt, if◌then◌else◌}
use Rattle.std.specs.Option.{option_map}
use Rattle.std.proofs.Common.{◌≡◌, ◌+◌, ℕ, zero, suc, true, false, ◌&&◌, List, [], ◌∷◌, ◌++◌, length, Option, Some, None, refl, sym, ap, subst, arith}
use Rattle.std.specs.List.{Contains, AllByRecursion as Each}
use Rattle.std.proofs.lemmas.List.Elements.{Contains-append_left, Contains-append_right}
use Rattle.flat_ir.specs.declared.names.FuncId.{FuncId}
use Rattle.flat_ir.specs.declared.names.NodeId.{NodeId}
use Rattle.flat_ir.specs.declared.names.RegId.{RegId}
use Rattle.flat_ir.specs.declared.names.ObjectName.{ObjectName}
use Rattle.flat_ir.specs.declared.names.ObjectName.TheVariants.{Global, Made}
use Rattle.flat_ir.specs.declared.names.Site.TheVariants as site
use Rattle.flat_ir.specs.declared.nodes.MoveSet.{MoveSet}
use Rattle.flat_ir.specs.declared.nodes.Node.{Node}
use Rattle.flat_ir.specs.declared.nodes.Node.TheVariants as node
use Rattle.flat_ir.specs.declared.nodes.Operand.{Operand}
use Rattle.flat_ir.specs.declared.nodes.Operand.TheVariants as operand
use Rattle.flat_ir.specs.declared.nodes.RegType.{RegType}
use Rattle.flat_ir.specs.declared.nodes.RegType.TheVariants as type
use Rattle.flat_ir.specs.declared.program.GlobalVar.{GlobalVar}
use Rattle.flat_ir.specs.declared.program.InitByte.{InitByte}
use Rattle.flat_ir.specs.declared.program.InitByte.TheVariants as init
use Rattle.flat_ir.specs.declared.program.ProgramData.{ProgramData}
use Rattle.flat_ir.specs.declared.values.Address.{Address}
use Rattle.flat_ir.specs.declared.values.ConcreteByte.{ConcreteByte}
use Rattle.flat_ir.specs.declared.values.ConcreteByte.TheVariants as byte
use Rattle.flat_ir.specs.declared.values.ConcreteValue.{ConcreteValue}
use Rattle.flat_ir.specs.declared.values.ConcreteValue.TheVariants.{Int, Ptr}
use Rattle.flat_ir.specs.declared.values.FaultKind.{FaultKind}
use Rattle.flat_ir.specs.History.{History, Change, Write, Alloc, Free, Get, Put, site_of, same_object, byte_at, initial_of, initial_byte}
use Rattle.flat_ir.specs.Same.{same_object-true}
use Rattle.flat_ir.specs.Effects.{written_in, stored_in, freed_in}
use Rattle.flat_ir.specs.Registers.{int, null, address, cut, joined, joined_number, joined_pointer, null_if_zero, number_of_width, are_bytes_of, first_of, zero_of, bytes_of_type, bytes_of_value}
use Rattle.flat_ir.specs.Machine.{Frame, State, Run, On, Over, func_at, regs_of, nodes_of, node_at, type_at, value_in, counted}
use Rattle.flat_ir.specs.Steps.{attempt, unless, with_frame, number_in, address_in, division_fault, free_fault, access_fault, gives, gives_if, gives_loaded, new_here, allocated, byte_there, loaded, set_all, branches, returns, ended, frees_of_node, frees_at, frees_from, call_result, set_result}
use Rattle.flat_ir.specs.Run.{step, run, goes_on, step-attempt, run-zero, run-suc}
use Rattle.flat_ir.specs.Whole.{IsWhole, OperandIn, operands_of}
use Rattle.bitnum.specs.Operations.{applied}
use Rattle.flat_ir.proofs.MadeBasics.{each_reverse}
use Rattle.points_to.proofs.Parts.{first, second, each_part}
use Rattle.points_to.specs.declared.holders.Holder.{Holder}
use Rattle.points_to.specs.declared.holders.Holder.TheVariants.{Register, Returned, Bytes}
use Rattle.points_to.specs.declared.holders.Inclusion.{Inclusion}
use Rattle.points_to.specs.declared.holders.Inclusion.TheVariants.{Names, Copies, Loads, Stores, Moves}
use Rattle.points_to.specs.Asked.{holder_in, made_in, loaded_in, moved_in, passed_in, received_in, returned_in, asked_by, asked}
use Rattle.points_to.specs.Points.{PointsTo, address as addressed, names, copies, loads, stores, moves}
use Rattle.points_to.specs.Within.{BaseWithin, PointsWithin, ByteWithin, RegisterWithin, RegistersWithin, FrameWithin, BytesWithin, callee_of, AreCalls, Within, IsWithin, RunWithin}
use Rattle.points_to.proofs.Containing.{node_asked, node_reads, byte_asked}

-- a pointer that is copied
base_copied : (p : ProgramData) (from to : Holder) (b : Option ObjectName) → Contains (asked p) (Copies from to) → BaseWithin p from b → BaseWithin p to b
base_copied p from to None c h = tt
base_copied p from to (Some x) c h = copies from to (site_of x) c h

value_copied : (p : ProgramData) (from to : Holder) (v : ConcreteValue) → Contains (asked p) (Copies from to) → PointsWithin p from v → PointsWithin p to v
value_copied p from to (Int n) c h = tt
value_copied p from to (Ptr a) c h = base_copied p from to a.base c h

pub address_within : (p : ProgramData) (h : Holder) (v : ConcreteValue) → PointsWithin p h v → BaseWithin p h (address v).base
address_within p h (Int n) w = tt
address_within p h (Ptr a) w = w

-- the value of an operand
pub operand_within : (p : ProgramData) (f : Frame) (a : Operand) → FrameWithin p f → OperandIn (length p.globals) (length (regs_of (func_at p f.func))) a → PointsWithin p (holder_in f.func a) (value_in f a)
operand_within p f (operand.Reg r) w is = w r.0 is
operand_within p f (operand.Int n) w is = tt
operand_within p f operand.Null w is = tt
operand_within p f (operand.Global g offset) w is = addressed g

pub operands_within : (p : ProgramData) (f : Frame) (as' : List Operand) → FrameWithin p f → Each (OperandIn (length p.globals) (length (regs_of (func_at p f.func)))) as'
    → Each (λ a. PointsWithin p (holder_in f.func a) (value_in f a)) as'
operands_within p f [] w is = tt
operands_within p f (a ∷ as') w is = (operand_within p f a w is.0, operands_within p f as' w is.1)

-- registers with one set
set_read : {V : Type 0} (P : ℕ → V → Type 0) (xs : List V) (j : ℕ) (a d : V) → P j a → ((k : ℕ) → P k (unwrap_or (slice_get xs k) d)) → (k : ℕ) → P k (unwrap_or (slice_get (slice_set xs j a) k) d)
set_read P [] j a d it all k = all k
set_read P (x ∷ xs) zero a d it all zero = it
set_read P (x ∷ xs) zero a d it all (suc k) = all (suc k)
set_read P (x ∷ xs) (suc j) a d it all zero = all zero
set_read P (x ∷ xs) (suc j) a d it all (suc k) = set_read (λ n. P (suc n)) xs j a d it (λ n. all (suc n)) k

register_set : (p : ProgramData) (f : FuncId) (regs : List ConcreteValue) (r : RegId) (v : ConcreteValue) → RegistersWithin p f regs → PointsWithin p (Register f r) v
    → RegistersWithin p f (slice_set regs r.0 v)
register_set p f regs r v w it = set_read (RegisterWithin p f) regs r.0 v (Ptr null) (λ lt. it) w

-- a node is about to be executed
record IsAt (p : ProgramData) (n : Node) (s : State) : Type 0 where
  within : IsWithin p s
  reads : Each (λ a. PointsWithin p (holder_in s.frame.func a) (value_in s.frame a)) (operands_of n)
  asks : (c : Inclusion) → Contains (asked_by p s.frame.func s.frame.node n) c → Contains (asked p) c
  at : node_at p s.frame.func s.frame.node ≡ n

unless_within : (p : ProgramData) (o : Option FaultKind) (s : State) (r : Run) → RunWithin p r → RunWithin p (unless o s r)
unless_within p None s r w = w
unless_within p (Some kind) s r w = tt

-- with other registers, or another history
with_regs : (p : ProgramData) (s : State) (regs : List ConcreteValue) → IsWithin p s → RegistersWithin p s.frame.func regs → Within p s.frame.func regs s.callers s.history
with_regs p s regs w new = record { registers = new; waiting = w.waiting; called = w.called; bytes = w.bytes }

with_bytes : (p : ProgramData) (s : State) (regs : List ConcreteValue) (h : History) → IsWithin p s → RegistersWithin p s.frame.func regs → BytesWithin p h → Within p s.frame.func regs s.callers h
with_bytes p s regs h w new bytes = record { registers = new; waiting = w.waiting; called = w.called; bytes = bytes }

sets : (p : ProgramData) (s : State) (r : RegId) (v : ConcreteValue) → IsWithin p s → PointsWithin p (Register s.frame.func r) v → Within p s.frame.func (slice_set s.frame.regs r.0 v) s.callers s.history
sets p s r v w it = with_regs p s (slice_set s.frame.regs r.0 v) w (register_set p s.frame.func s.frame.regs r v w.registers it)

-- malloc
malloc_within : (p : ProgramData) (s : State) (size : ℕ) (result : Option RegId) (next : NodeId) → IsWithin p s
    → ((c : Inclusion) → Contains (made_in s.frame.func s.frame.node result) c → Contains (asked p) c) → RunWithin p (gives_if result (new_here s) next (allocated size s))
malloc_within p s size None next w asks = with_bytes p s s.frame.regs (allocated size s).history w w.registers w.bytes
malloc_within p s size (Some r) next w asks =
    with_bytes p s (slice_set s.frame.regs r.0 (new_here s)) (allocated size s).history w
    (register_set p s.frame.func s.frame.regs r (new_here s) w.registers
    (names (Register s.frame.func r) (site.Node s.frame.func s.frame.node) (asks (Names (Register s.frame.func r) (site.Node s.frame.func s.frame.node)) (first _ [])))) w.bytes

null_within : (p : ProgramData) (s : State) (result : Option RegId) (next : NodeId) → IsWithin p s → RunWithin p (gives_if result (Ptr null) next s)
null_within p s None next w = w
null_within p s (Some r) next w = sets p s r (Ptr null) w tt

-- bytes that are freed or written
freed_within : (p : ProgramData) (b : Option ObjectName) (h : History) → BytesWithin p h → BytesWithin p (elim b [ None ↦ h | Some x ↦ Free x ∷ h ])
freed_within p None h w = w
freed_within p (Some x) h w = w

-- the value may stand where the pointer points
abbrev MayStand : ProgramData → Option ObjectName → ConcreteValue → Type 0
MayStand p None v = Unit {0}
MayStand p (Some x) v = PointsWithin p (Bytes (site_of x)) v

cut_within : (p : ProgramData) (h : Holder) (v : ConcreteValue) (j : ℕ) → PointsWithin p h v → ByteWithin p h (cut v j)
cut_within p h (Int n) j w = tt
cut_within p h (Ptr a) j w = w

written_within : (p : ProgramData) (b : Option ObjectName) (place : ℕ) (v : ConcreteValue) (j : ℕ) (h : History) → MayStand p b v → BytesWithin p h
    → BytesWithin p (elim b [ None ↦ h | Some x ↦ Write x place (cut v j) ∷ h ])
written_within p None place v j h may w = w
written_within p (Some x) place v j h may w = (cut_within p (Bytes (site_of x)) v j may, w)

stored_within : (p : ProgramData) (n j : ℕ) (a : Address) (v : ConcreteValue) (h : History) → MayStand p a.base v → BytesWithin p h → BytesWithin p (stored_in n j a v h)
stored_within p zero j a v h may w = w
stored_within p (suc n) j a v h may w =
    stored_within p n (j + 1) a v (written_in a (cut v j) j h) may (written_within p a.base ((a.offset + j) % 2 ^ 64) v j h may w)

base_stored : (p : ProgramData) (from q : Holder) (x : ObjectName) (b : Option ObjectName) → Contains (asked p) (Stores from q) → PointsTo p q (site_of x) → BaseWithin p from b → BaseWithin p (Bytes (site_of x)) b
base_stored p from q x None c target w = tt
base_stored p from q x (Some y) c target w = stores from q (site_of x) (site_of y) c target w

value_stored : (p : ProgramData) (from q : Holder) (b : Option ObjectName) (v : ConcreteValue) → Contains (asked p) (Stores from q) → BaseWithin p q b → PointsWithin p from v → MayStand p b v
value_stored p from q None v c target w = tt
value_stored p from q (Some x) (Int n) c target w = tt
value_stored p from q (Some x) (Ptr a) c target w = base_stored p from q x a.base c target w

-- bytes with which globals start
initial_within : (p : ProgramData) (g k : ℕ) (var : GlobalVar) (o : Option InitByte) → slice_get p.globals g ≡ Some var → slice_get var.init k ≡ o → ByteWithin p (Bytes (site.Global g)) (initial_byte o)
initial_within p g k var None at e = tt
initial_within p g k var (Some (init.Int b)) at e = tt
initial_within p g k var (Some (init.PtrByte h offset j)) at e =
    names (Bytes (site.Global g)) (site.Global h) (byte_asked p g k var (init.PtrByte h offset j) (Names (Bytes (site.Global g)) (site.Global h)) at e (first _ []))

global_within : (p : ProgramData) (g k : ℕ) (o : Option GlobalVar) → slice_get p.globals g ≡ o → ByteWithin p (Bytes (site.Global g)) (initial_of o k)
global_within p g k None at = tt
global_within p g k (Some var) at = initial_within p g k var (slice_get var.init k) at refl

-- the byte at a place of an object
byte_within : (p : ProgramData) (h : History) (x : ObjectName) (k : ℕ) → BytesWithin p h → ByteWithin p (Bytes (site_of x)) (byte_at p h x k)
byte_within p [] (Global g) k w = global_within p g k (slice_get p.globals g) refl
byte_within p [] (Made frame made) k w = tt
byte_within p (Write y j b ∷ h) x k w =
    elim (same_object x y) as (λ t. same_object x y ≡ t → ByteWithin p (Bytes (site_of x)) (if t && (j == k) then b else byte_at p h x k)) [
      | true ↦ λ e. elim (j == k) as (λ t. ByteWithin p (Bytes (site_of x)) (if t then b else byte_at p h x k)) [
        | true ↦ subst (λ (z : ObjectName). ByteWithin p (Bytes (site_of z)) b) (sym (same_object-true x y e)) w.0
        | false ↦ byte_within p h x k w.1
      ]
      | false ↦ λ e. byte_within p h x k w.1
    ] refl
byte_within p (Alloc y size ∷ h) x k w = byte_within p h x k w
byte_within p (Free y ∷ h) x k w = byte_within p h x k w
byte_within p (Get ∷ h) x k w = byte_within p h x k w
byte_within p (Put b ∷ h) x k w = byte_within p h x k w

-- the value that bytes make
abbrev OptionWithin : ProgramData → Holder → Option ConcreteValue → Type 0
OptionWithin p h None = Unit {0}
OptionWithin p h (Some v) = PointsWithin p h v

null_option : (p : ProgramData) (h : Holder) (o : Option ℕ) → OptionWithin p h (null_if_zero o)
null_option p h None = tt
null_option p h (Some n) = elim (n == 0) as (λ t. OptionWithin p h (if t then Some (Ptr null) else None)) [ true ↦ tt | false ↦ tt ]

number_option : (p : ProgramData) (h : Holder) (w : ℕ) (o : Option ℕ) → OptionWithin p h (number_of_width w o)
number_option p h w None = tt
number_option p h w (Some n) = tt

pointer_option : (p : ProgramData) (h : Holder) (bs : List ConcreteByte) → Each (ByteWithin p h) bs → OptionWithin p h (joined_pointer bs)
pointer_option p h [] all = tt
pointer_option p h (byte.Int b ∷ bs) all = null_option p h (joined_number (byte.Int b ∷ bs))
pointer_option p h (byte.PtrByte a j ∷ bs) all =
    elim (are_bytes_of a 0 (byte.PtrByte a j ∷ bs)) as (λ t. OptionWithin p h (if t then Some (Ptr a) else None)) [ true ↦ all.0 | false ↦ tt ]

first_within : (p : ProgramData) (h : Holder) (n k : ℕ) (f : ℕ → ConcreteByte) → ((j : ℕ) → ByteWithin p h (f j)) → Each (ByteWithin p h) (first_of n k f)
first_within p h zero k f all = tt
first_within p h (suc n) k f all = (all k, first_within p h n (k + 1) f all)

base_loaded : (p : ProgramData) (q to : Holder) (x : ObjectName) (b : Option ObjectName) → Contains (asked p) (Loads q to) → PointsTo p q (site_of x) → BaseWithin p (Bytes (site_of x)) b → BaseWithin p to b
base_loaded p q to x None c target w = tt
base_loaded p q to x (Some y) c target w = loads q to (site_of x) (site_of y) c target w

option_loaded : (p : ProgramData) (q to : Holder) (x : ObjectName) (o : Option ConcreteValue) → Contains (asked p) (Loads q to) → PointsTo p q (site_of x) → OptionWithin p (Bytes (site_of x)) o → OptionWithin p to o
option_loaded p q to x None c target w = tt
option_loaded p q to x (Some (Int n)) c target w = tt
option_loaded p q to x (Some (Ptr a)) c target w = base_loaded p q to x a.base c target w

-- what a load gives
loaded_at : (p : ProgramData) (h : History) (f : FuncId) (t : RegType) (pointer : Operand) (r : RegId) (b : Option ObjectName) (offset : ℕ) → BytesWithin p h
    → BaseWithin p (holder_in f pointer) b → ((c : Inclusion) → Contains (loaded_in f t pointer r) c → Contains (asked p) c)
    → OptionWithin p (Register f r) (joined t (first_of (bytes_of_type t) 0 (λ j. elim b [ None ↦ cut (int 8 0) 0 | Some x ↦ byte_at p h x ((offset + j) % 2 ^ 64) ])))
loaded_at p h f (type.Int w) pointer r b offset bytes target asks = number_option p (Register f r) w (joined_number (first_of (bytes_of_type (type.Int w)) 0 (λ j. elim b [ None ↦ cut (int 8 0) 0 | Some x ↦ byte_at p h x ((offset + j) % 2 ^ 64) ])))
loaded_at p h f type.Ptr pointer r None offset bytes target asks =
    pointer_option p (Register f r) (first_of 8 0 (λ j. cut (int 8 0) 0)) (first_within p (Register f r) 8 0 (λ j. cut (int 8 0) 0) (λ j. tt))
loaded_at p h f type.Ptr pointer r (Some x) offset bytes target asks =
    let there : ℕ → ConcreteByte = λ j. byte_at p h x ((offset + j) % 2 ^ 64) in
    option_loaded p (holder_in f pointer) (Register f r) x (joined_pointer (first_of 8 0 there)) (asks (Loads (holder_in f pointer) (Register f r)) (first _ [])) target
    (pointer_option p (Bytes (site_of x)) (first_of 8 0 there) (first_within p (Bytes (site_of x)) 8 0 there (λ j. byte_within p h x ((offset + j) % 2 ^ 64) bytes)))

gives_within : (p : ProgramData) (s : State) (o : Option ConcreteValue) (r : RegId) (next : NodeId) → IsWithin p s → OptionWithin p (Register s.frame.func r) o → RunWithin p (gives_loaded o r next s)
gives_within p s None r next w it = tt
gives_within p s (Some v) r next w it = sets p s r v w it

-- a byte that is copied
moved_base : (p : ProgramData) (from to : Holder) (x y : ObjectName) (b : Option ObjectName) → Contains (asked p) (Moves from to) → PointsTo p from (site_of x) → PointsTo p to (site_of y)
    → BaseWithin p (Bytes (site_of x)) b → BaseWithin p (Bytes (site_of y)) b
moved_base p from to x y None c source target w = tt
moved_base p from to x y (Some z) c source target w = moves from to (site_of x) (site_of y) (site_of z) c source w target

moved_byte : (p : ProgramData) (from to : Holder) (x y : ObjectName) (b : ConcreteByte) → Contains (asked p) (Moves from to) → PointsTo p from (site_of x) → PointsTo p to (site_of y)
    → ByteWithin p (Bytes (site_of x)) b → ByteWithin p (Bytes (site_of y)) b
moved_byte p from to x y (byte.Int n) c source target w = tt
moved_byte p from to x y (byte.PtrByte a j) c source target w = moved_base p from to x y a.base c source target w

copied_within : (p : ProgramData) (h : History) (from to : Holder) (b d : Option ObjectName) (j k : ℕ) → BytesWithin p h → Contains (asked p) (Moves from to) → BaseWithin p from b → BaseWithin p to d
    → BytesWithin p (elim d [ None ↦ h | Some y ↦ Write y k (elim b [ None ↦ cut (int 8 0) 0 | Some x ↦ byte_at p h x j ]) ∷ h ])
copied_within p h from to b None j k bytes c source target = bytes
copied_within p h from to None (Some y) j k bytes c source target = (tt, bytes)
copied_within p h from to (Some x) (Some y) j k bytes c source target = (moved_byte p from to x y (byte_at p h x j) c source target (byte_within p h x j bytes), bytes)

-- moves
moves_within : (p : ProgramData) (s : State) (f : Frame) (next : NodeId) (ms : List MoveSet) → IsWithin p s → f.func ≡ s.frame.func → RegistersWithin p s.frame.func f.regs
    → Each (λ a. PointsWithin p (holder_in s.frame.func a) (value_in s.frame a)) (map (λ (m : MoveSet). m.value) ms)
    → ((c : Inclusion) → Contains (moved_in s.frame.func ms) c → Contains (asked p) c) → Within p (set_all s.frame ms f).func (set_all s.frame ms f).regs s.callers s.history
moves_within p s f next [] w same regs values asks =
    subst (λ (g : FuncId). Within p g f.regs s.callers s.history) (sym same) (with_regs p s f.regs w regs)
moves_within p s f next (m ∷ ms) w same regs values asks =
    let move = Copies (holder_in s.frame.func m.value) (Register s.frame.func m.register) in
    moves_within p s (record f { regs = slice_set f.regs m.register.0 (value_in s.frame m.value) }) next ms w same
    (register_set p s.frame.func f.regs m.register (value_in s.frame m.value) regs
    (value_copied p (holder_in s.frame.func m.value) (Register s.frame.func m.register) (value_in s.frame m.value) (asks move (first move (moved_in s.frame.func ms))) values.0))
    values.1 (λ c h. asks c (Contains-append_right (move ∷ []) (moved_in s.frame.func ms) c h))

-- the registers of the frame that a call makes
zero_within : (p : ProgramData) (h : Holder) (ts : List RegType) (j : ℕ) → PointsWithin p h (unwrap_or (slice_get (map zero_of ts) j) (Ptr null))
zero_within p h [] j = tt
zero_within p h (type.Int w ∷ ts) zero = tt
zero_within p h (type.Ptr ∷ ts) zero = tt
zero_within p h (t ∷ ts) (suc j) = zero_within p h ts j

passed_within : (p : ProgramData) (g : Frame) (callee : FuncId) (ts : List RegType) (k n : ℕ) (as' : List Operand) → k + n ≡ length (regs_of (func_at p callee))
    → Each (λ a. PointsWithin p (holder_in g.func a) (value_in g a)) as' → ((c : Inclusion) → Contains (passed_in g.func callee k (take n as')) c → Contains (asked p) c)
    → (j : ℕ) → RegisterWithin p callee (k + j) (unwrap_or (slice_get (map (value_in g) as' ++ map zero_of ts) j) (Ptr null))
passed_within p g callee ts k n [] size values asks j = λ lt. zero_within p (Register callee (record { 0 = k + j })) ts j
passed_within p g callee ts k zero (a ∷ as') size values asks j = λ lt. absurd (omega (arith, lt, size))
passed_within p g callee ts k (suc n) (a ∷ as') size values asks zero =
    let e : k ≡ k + 0 = omega arith in
    let move = Copies (holder_in g.func a) (Register callee (record { 0 = k })) in
    λ lt. subst (λ (i : ℕ). PointsWithin p (Register callee (record { 0 = i })) (value_in g a)) e
    (value_copied p (holder_in g.func a) (Register callee (record { 0 = k })) (value_in g a) (asks move (first move (passed_in g.func callee (k + 1) (take n as')))) values.0)
passed_within p g callee ts k (suc n) (a ∷ as') size values asks (suc j) =
    let e : k + 1 + j ≡ k + suc j = omega arith in
    let move = Copies (holder_in g.func a) (Register callee (record { 0 = k })) in
    subst (λ (i : ℕ). RegisterWithin p callee i (unwrap_or (slice_get (map (value_in g) as' ++ map zero_of ts) j) (Ptr null))) e
    (passed_within p g callee ts (k + 1) n as' (omega (arith, size)) values.1 (λ c h. asks c (Contains-append_right (move ∷ []) (passed_in g.func callee (k + 1) (take n as')) c h)) j)

-- what a frame frees at its end
abbrev IsFree : Change → Type 0
IsFree (Free x) = Unit {0}
IsFree _ = ⊥

only_frees : (p : ProgramData) (cs : List Change) (h : History) → Each IsFree cs → BytesWithin p h → BytesWithin p (cs ++ h)
only_frees p [] h all w = w
only_frees p (Free x ∷ cs) h all w = only_frees p cs h all.1 w
only_frees p _ h all w = absurd all.0

node_frees : (f : Frame) (n : NodeId) (more k : ℕ) → Each IsFree (frees_of_node f n more k)
node_frees f n zero k = tt
node_frees f n (suc more) k = (tt, node_frees f n more (k + 1))

at_frees : (f : Frame) (n : NodeId) (count : ℕ) (x : Node) → Each IsFree (frees_at f n count x)
at_frees f n count (node.Alloca size result next) = node_frees f n count 1
at_frees f n count _ = tt

from_frees : (f : Frame) (ns : List Node) → Each IsFree (frees_from f 0 ns)
from_frees f ns =
    each_part (λ k x. frees_at f (record { 0 = k }) (unwrap_or (slice_get f.counts k) 0) x) (frees_from f) (λ k. refl, λ k x xs. refl) IsFree ns
    (λ k x at. at_frees f (record { 0 = k }) (unwrap_or (slice_get f.counts k) 0) x)

-- the caller receives what its call returns
received : (p : ProgramData) (g : Frame) (f : FuncId) (call : Node) (v : ConcreteValue) → callee_of call ≡ Some f → ((c : Inclusion) → Contains (asked_by p g.func g.node call) c → Contains (asked p) c)
    → FrameWithin p g → PointsWithin p (Returned f) v → FrameWithin p (set_result (call_result call) (Some v) g)
received p g f (node.Call callee args None next) v calls asks w it = w
received p g f (node.Call callee args (Some r) next) v calls asks w it =
    let same : callee ≡ f = cc in
    let receive = Copies (Returned callee) (Register g.func r) in
    register_set p g.func g.regs r v w
    (value_copied p (Returned callee) (Register g.func r) v
    (asks receive (Contains-append_right (passed_in g.func callee 0 (take (length (regs_of (func_at p callee))) args)) (receive ∷ []) receive (first receive [])))
    (subst (λ (h : FuncId). PointsWithin p (Returned h) v) (sym same) it))
received p g f _ v calls asks w it = cc

pub result_func : (r : Option RegId) (v : Option ConcreteValue) (g : Frame) → (set_result r v g).func ≡ g.func
result_func r None g = refl
result_func None (Some v) g = refl
result_func (Some r) (Some v) g = refl

frame_received : (p : ProgramData) (g : Frame) (f : FuncId) (v : Option ConcreteValue) → callee_of (node_at p g.func g.node) ≡ Some f → FrameWithin p g → OptionWithin p (Returned f) v
    → FrameWithin p (set_result (call_result (node_at p g.func g.node)) v g)
frame_received p g f None calls w it = w
frame_received p g f (Some v) calls w it = received p g f (node_at p g.func g.node) v calls (node_asked p g.func g.node) w it

returns_within : (p : ProgramData) (f : FuncId) (v : Option ConcreteValue) (callers : List Frame) (s : State) → Each (FrameWithin p) callers → AreCalls p f callers → BytesWithin p s.history
    → OptionWithin p (Returned f) v → RunWithin p (returns p v callers s)
returns_within p f v [] s frames called bytes it = tt
returns_within p f v (g ∷ gs) s frames called bytes it =
    let call = node_at p g.func g.node in
    let back = set_result (call_result call) v g in
    record {
      registers = frame_received p g f v called.0 frames.0 it;
      waiting = frames.1;
      called = subst (λ (h : FuncId). AreCalls p h gs) (sym (result_func (call_result call) v g)) called.1;
      bytes = bytes;
    }

returned_within : (p : ProgramData) (g : Frame) (value : Option Operand) → Each (λ a. PointsWithin p (holder_in g.func a) (value_in g a)) (operands_of (node.Ret value))
    → ((c : Inclusion) → Contains (returned_in g.func value) c → Contains (asked p) c) → OptionWithin p (Returned g.func) (option_map (value_in g) value)
returned_within p g None values asks = tt
returned_within p g (Some a) values asks =
    value_copied p (holder_in g.func a) (Returned g.func) (value_in g a) (asks (Copies (holder_in g.func a) (Returned g.func)) (first _ [])) values.0

-- each node stays within the sets
attempt_within : (p : ProgramData) (input : List ℕ) (n : Node) (s : State) → IsAt p n s → RunWithin p (attempt p input n s)
attempt_within p input (node.Bin op a b result next) s at =
    let v = Int (applied op (number_in s a) (number_in s b)) in
    unless_within p (division_fault op (number_in s a) (number_in s b)) s (gives result (Int (applied op (number_in s a) (number_in s b))) next s) (sets p s result v at.within tt)
attempt_within p input (node.Cmp pred a b result next) s at = sets p s result _ at.within tt
attempt_within p input (node.Cast op a result next) s at = sets p s result _ at.within tt
attempt_within p input (node.Gep base parts result next) s at =
    sets p s result _ at.within
    (base_copied p (holder_in s.frame.func base) (Register s.frame.func result) (address_in s base).base (at.asks _ (first _ []))
    (address_within p (holder_in s.frame.func base) (value_in s.frame base) at.reads.0))
attempt_within p input (node.Select condition a b result next) s at =
    sets p s result _ at.within
    (elim ((number_in s condition).bits == 1) as (λ t. PointsWithin p (Register s.frame.func result) (if t then value_in s.frame a else value_in s.frame b)) [
      | true ↦ value_copied p (holder_in s.frame.func a) (Register s.frame.func result) (value_in s.frame a) (at.asks (Copies (holder_in s.frame.func a) (Register s.frame.func result)) (first (Copies (holder_in s.frame.func a) (Register s.frame.func result)) (Copies (holder_in s.frame.func b) (Register s.frame.func result) ∷ []))) at.reads.1.0
      | false ↦ value_copied p (holder_in s.frame.func b) (Register s.frame.func result) (value_in s.frame b) (at.asks _ (second _ _ [])) at.reads.1.1.0
    ])
attempt_within p input (node.Alloca size result next) s at = malloc_within p s size (Some result) next at.within at.asks
attempt_within p input (node.Malloc size result next) s at =
    elim (nat_lt 65536 (number_in s size).bits) as (λ t. RunWithin p (if t then gives_if result (Ptr null) next s else gives_if result (new_here s) next (allocated (number_in s size).bits s))) [
      | true ↦ null_within p s result next at.within
      | false ↦ malloc_within p s (number_in s size).bits result next at.within at.asks
    ]
attempt_within p input (node.Free pointer next) s at =
    unless_within p (free_fault p s.history (address_in s pointer)) s _
    (with_bytes p s s.frame.regs (freed_in (address_in s pointer) s.history) at.within at.within.registers (freed_within p (address_in s pointer).base s.history at.within.bytes))
attempt_within p input (node.Load pointer result next) s at =
    unless_within p (access_fault p s.history (bytes_of_type (type_at p s.frame.func result)) (address_in s pointer)) s _
    (gives_within p s (loaded p s.history (address_in s pointer) (type_at p s.frame.func result)) result next at.within
    (loaded_at p s.history s.frame.func (type_at p s.frame.func result) pointer result (address_in s pointer).base (address_in s pointer).offset at.within.bytes
    (address_within p (holder_in s.frame.func pointer) (value_in s.frame pointer) at.reads.0) at.asks))
attempt_within p input (node.Store value pointer next) s at =
    let v = value_in s.frame value in
    unless_within p (access_fault p s.history (bytes_of_value v) (address_in s pointer)) s _
    (with_bytes p s s.frame.regs (stored_in (bytes_of_value v) 0 (address_in s pointer) v s.history) at.within at.within.registers
    (stored_within p (bytes_of_value v) 0 (address_in s pointer) v s.history
    (value_stored p (holder_in s.frame.func value) (holder_in s.frame.func pointer) (address_in s pointer).base v (at.asks _ (first _ []))
    (address_within p (holder_in s.frame.func pointer) (value_in s.frame pointer) at.reads.1.0) at.reads.0)
    at.within.bytes))
attempt_within p input (node.Copy from there next) s at =
    unless_within p (access_fault p s.history 1 (address_in s from)) s _
    (unless_within p (access_fault p s.history 1 (address_in s there)) s _
    (with_bytes p s s.frame.regs (written_in (address_in s there) (byte_there p s.history (address_in s from) 0) 0 s.history) at.within at.within.registers
    (copied_within p s.history (holder_in s.frame.func from) (holder_in s.frame.func there) (address_in s from).base (address_in s there).base
    (((address_in s from).offset + 0) % 2 ^ 64) (((address_in s there).offset + 0) % 2 ^ 64) at.within.bytes (at.asks _ (first _ []))
    (address_within p (holder_in s.frame.func from) (value_in s.frame from) at.reads.0)
    (address_within p (holder_in s.frame.func there) (value_in s.frame there) at.reads.1.0))))
attempt_within p input (node.In result next) s at =
    with_bytes p s _ (Get ∷ s.history) at.within (register_set p s.frame.func s.frame.regs result _ at.within.registers tt) at.within.bytes
attempt_within p input (node.Put value next) s at = with_bytes p s s.frame.regs _ at.within at.within.registers at.within.bytes
attempt_within p input (node.Call callee args result next) s at =
    let ts = drop (length (map (value_in s.frame) args)) (regs_of (func_at p callee)) in
    let size = length (regs_of (func_at p callee)) in
    record {
      registers = λ j.
          let e : 0 + j ≡ j = omega arith in
          subst (λ (i : ℕ). RegisterWithin p callee i (unwrap_or (slice_get (map (value_in s.frame) args ++ map zero_of ts) j) (Ptr null))) e
          (passed_within p s.frame callee ts 0 size args (omega arith) at.reads
          (λ c h. at.asks c (Contains-append_left (passed_in s.frame.func callee 0 (take size args)) (received_in s.frame.func callee result) c h)) j);
      waiting = (at.within.registers, at.within.waiting);
      called = (ap callee_of at.at, at.within.called);
      bytes = at.within.bytes;
    }
attempt_within p input (node.Moves ms next) s at = moves_within p s s.frame next ms at.within refl at.within.registers at.reads at.asks
attempt_within p input (node.Jump next) s at = at.within
attempt_within p input (node.Branch condition first second) s at =
    elim ((number_in s condition).bits == 1) as (λ t. RunWithin p (if t then branches 0 first s else branches 1 second s)) [ true ↦ at.within | false ↦ at.within ]
attempt_within p input (node.Switch value cases otherwise) s at = at.within
attempt_within p input (node.Ret value) s at =
    returns_within p s.frame.func (option_map (value_in s.frame) value) s.callers (ended p s) at.within.waiting at.within.called
    (only_frees p (reverse (frees_from s.frame 0 (nodes_of (func_at p s.frame.func)))) s.history
    (each_reverse IsFree (frees_from s.frame 0 (nodes_of (func_at p s.frame.func))) (from_frees s.frame (nodes_of (func_at p s.frame.func)))) at.within.bytes)
    (returned_within p s.frame value at.reads at.asks)
attempt_within p input _ s at = tt

pub step_within : (p : ProgramData) (input : List ℕ) (s : State) → IsWhole p → IsWithin p s → RunWithin p (step p input s)
step_within p input s whole w =
    let n : Node = node_at p s.frame.func s.frame.node in
    rw (step-attempt p input s) (attempt_within p input n (with_frame (counted s.frame) s) (record {
      within = w;
      reads = operands_within p (counted s.frame) (operands_of n) w.registers (node_reads p s.frame.func s.frame.node whole);
      asks = node_asked p s.frame.func s.frame.node;
      at = refl;
    }))

pub run_within : (p : ProgramData) (input : List ℕ) (n : ℕ) → IsWhole p → RunWithin p (run p input n)
run_within p input zero whole = rw (run-zero p input) (record {
  registers = λ k lt. zero_within p (Register p.main (record { 0 = k })) (regs_of (func_at p p.main)) k;
  waiting = tt;
  called = tt;
  bytes = tt;
})
run_within p input (suc n) whole = rw (run-suc p input n) (more (run p input n) (run_within p input n whole))
  where
    more : (r : Run) → RunWithin p r → RunWithin p (goes_on p input r)
    more (On s) w = step_within p input s whole w
    more (Over e s) w = tt
