-- Each node keeps names, and so does each run.
use Rattle.std.specs.Prelude.{slice_get, unwrap_or, ◌==◌, if◌then◌else◌}
use Rattle.std.proofs.Common.{◌≡◌, ℕ, zero, suc, ◌+◌, ◌<◌, true, false, ◌&&◌, List, [], ◌∷◌, length, get_or, Option, Some, None, refl, sym, ◌∙◌, ap, subst, arith}
use Rattle.std.proofs.lemmas.Bool.{lt-ltb}
use Rattle.std.proofs.lemmas.Option.{slice_get_within, get_or_from_slice_get, unwrap_or-slice_get}
use Rattle.std.proofs.lemmas.List.Elements.{recursion_from_All}
use Rattle.std.specs.List.{AllByRecursion as Each}
use Rattle.flat_ir.specs.declared.names.FuncId.{FuncId}
use Rattle.flat_ir.specs.declared.names.ObjectName.{ObjectName}
use Rattle.flat_ir.specs.declared.names.ObjectName.TheVariants.{Global, Made}
use Rattle.flat_ir.specs.declared.nodes.Node.{Node}
use Rattle.flat_ir.specs.declared.nodes.Node.TheVariants as node
use Rattle.flat_ir.specs.declared.nodes.Operand.{Operand}
use Rattle.flat_ir.specs.declared.nodes.Operand.TheVariants as operand
use Rattle.flat_ir.specs.declared.nodes.RegType.{RegType}
use Rattle.flat_ir.specs.declared.nodes.RegType.TheVariants as type
use Rattle.flat_ir.specs.declared.program.Func.{Func}
use Rattle.flat_ir.specs.declared.program.GlobalVar.{GlobalVar}
use Rattle.flat_ir.specs.declared.program.InitByte.{InitByte}
use Rattle.flat_ir.specs.declared.program.InitByte.TheVariants as init
use Rattle.flat_ir.specs.declared.program.ProgramData.{ProgramData}
use Rattle.flat_ir.specs.declared.values.ConcreteByte.{ConcreteByte}
use Rattle.flat_ir.specs.declared.values.ConcreteByte.TheVariants as byte
use Rattle.flat_ir.specs.declared.values.ConcreteValue.{ConcreteValue}
use Rattle.flat_ir.specs.declared.values.ConcreteValue.TheVariants.{Int, Ptr}
use Rattle.flat_ir.specs.History.{History, Write, Alloc, Free, Get, Put, same_object, byte_at, initial_of, initial_byte}
use Rattle.flat_ir.specs.Registers.{null, address, cut, joined, joined_number, joined_pointer, null_if_zero, number_of_width, are_bytes_of, first_of}
use Rattle.flat_ir.specs.Machine.{Frame, Run, On, Over, func_at, nodes_of, node_at, value_in}
use Rattle.flat_ir.specs.Whole.{IsWhole, IsFuncOf, IsNodeOf, IsGlobalOf, InitIn, OperandIn}
use Rattle.flat_ir.specs.MadeNames.{IsFrameOf, IsKnownBase, IsKnownValue, IsKnownByte, HoldsKnown, HasKnownBytes, NamesAreKept}
use Rattle.flat_ir.proofs.MadeBasics.{each_read, byte_more}

-- what a run that goes on keeps
abbrev pub RunKeeps : ProgramData → Run → Type 0
RunKeeps p (On s) = NamesAreKept p s
RunKeeps p (Over e s) = Unit {0}

-- the value of an operand of a program is known
pub operand_known : (p : ProgramData) (h : History) (f : Frame) (regs : ℕ) (a : Operand)
    → HoldsKnown p h f → OperandIn (length p.globals) regs a → IsKnownValue p h (value_in f a)
operand_known p h f regs (operand.Reg r) known there = each_read (IsKnownValue p h) f.regs r.0 (Ptr null) known tt
operand_known p h f regs (operand.Int n) known there = tt
operand_known p h f regs operand.Null known there = tt
operand_known p h f regs (operand.Global g offset) known there = lt-ltb g (length p.globals) there

pub address_known : (p : ProgramData) (h : History) (v : ConcreteValue) → IsKnownValue p h v → IsKnownBase p h (address v).base
address_known p h (Int n) known = tt
address_known p h (Ptr a) known = known

pub cut_known : (p : ProgramData) (h : History) (v : ConcreteValue) (j : ℕ) → IsKnownValue p h v → IsKnownByte p h (cut v j)
cut_known p h (Int n) j known = tt
cut_known p h (Ptr a) j known = known

-- an initial byte is known
init_known : (p : ProgramData) (h : History) (b : InitByte) → InitIn (length p.globals) b → IsKnownByte p h (initial_byte (Some b))
init_known p h (init.Int b) there = tt
init_known p h (init.PtrByte g offset j) there = lt-ltb g (length p.globals) there.0

init_at_known : (p : ProgramData) (h : History) (bs : List InitByte) (k : ℕ) → Each (InitIn (length p.globals)) bs → IsKnownByte p h (initial_byte (slice_get bs k))
init_at_known p h [] k all = tt
init_at_known p h (b ∷ bs) zero all = init_known p h b all.0
init_at_known p h (b ∷ bs) (suc k) all = init_at_known p h bs k all.1

global_known : (p : ProgramData) (h : History) (gs : List GlobalVar) (g k : ℕ) → Each (IsGlobalOf (length p.globals)) gs → IsKnownByte p h (initial_of (slice_get gs g) k)
global_known p h [] g k all = tt
global_known p h (var ∷ gs) zero k all = init_at_known p h var.init k (recursion_from_All (InitIn (length p.globals)) var.init all.0.init)
global_known p h (var ∷ gs) (suc g) k all = global_known p h gs g k all.1

-- each byte that stands anywhere is known
pub byte_known : (p : ProgramData) (h : History) (x : ObjectName) (k : ℕ) → IsWhole p → HasKnownBytes p h → IsKnownByte p h (byte_at p h x k)
byte_known p [] (Global g) k whole known = global_known p [] p.globals g k (recursion_from_All (IsGlobalOf (length p.globals)) p.globals whole.globals)
byte_known p [] (Made frame made) k whole known = tt
byte_known p (Write y j b ∷ h) x k whole known =
    let H : History = Write y j b ∷ h in
    elim (same_object x y && (j == k)) as (λ t. IsKnownByte p H (if t then b else byte_at p h x k)) [
      | true ↦ byte_more p (Write y j b) h b known.0
      | false ↦ byte_more p (Write y j b) h (byte_at p h x k) (byte_known p h x k whole known.1)
    ]
byte_known p (Alloc y size ∷ h) x k whole known = byte_more p (Alloc y size) h (byte_at p h x k) (byte_known p h x k whole known)
byte_known p (Free y ∷ h) x k whole known = byte_more p (Free y) h (byte_at p h x k) (byte_known p h x k whole known)
byte_known p (Get ∷ h) x k whole known = byte_more p Get h (byte_at p h x k) (byte_known p h x k whole known)
byte_known p (Put b ∷ h) x k whole known = byte_more p (Put b) h (byte_at p h x k) (byte_known p h x k whole known)

-- a value that known bytes make is known
abbrev pub IsKnownOption : ProgramData → History → Option ConcreteValue → Type 0
IsKnownOption p h None = Unit {0}
IsKnownOption p h (Some v) = IsKnownValue p h v

null_known : (p : ProgramData) (h : History) (o : Option ℕ) → IsKnownOption p h (null_if_zero o)
null_known p h None = tt
null_known p h (Some n) = elim (n == 0) as (λ t. IsKnownOption p h (if t then Some (Ptr null) else None)) [ true ↦ tt | false ↦ tt ]

number_known : (p : ProgramData) (h : History) (w : ℕ) (o : Option ℕ) → IsKnownOption p h (number_of_width w o)
number_known p h w None = tt
number_known p h w (Some n) = tt

pointer_known : (p : ProgramData) (h : History) (bs : List ConcreteByte) → Each (IsKnownByte p h) bs → IsKnownOption p h (joined_pointer bs)
pointer_known p h [] all = tt
pointer_known p h (byte.Int b ∷ bs) all = null_known p h (joined_number (byte.Int b ∷ bs))
pointer_known p h (byte.PtrByte a j ∷ bs) all =
    elim (are_bytes_of a 0 (byte.PtrByte a j ∷ bs)) as (λ t. IsKnownOption p h (if t then Some (Ptr a) else None)) [ true ↦ all.0 | false ↦ tt ]

pub joined_known : (p : ProgramData) (h : History) (t : RegType) (bs : List ConcreteByte) → Each (IsKnownByte p h) bs → IsKnownOption p h (joined t bs)
joined_known p h (type.Int w) bs all = number_known p h w (joined_number bs)
joined_known p h type.Ptr bs all = pointer_known p h bs all

pub first_known : (p : ProgramData) (h : History) (n k : ℕ) (f : ℕ → ConcreteByte) → ((j : ℕ) → IsKnownByte p h (f j)) → Each (IsKnownByte p h) (first_of n k f)
first_known p h zero k f all = tt
first_known p h (suc n) k f all = (all k, first_known p h n (k + 1) f all)

-- the function in which a frame stands, and its node, are the program's
pub func_is : (p : ProgramData) (f : Frame) → IsWhole p → (is : IsFrameOf p f) → IsFuncOf (length p.globals) (length p.funcs) is.func
func_is p f whole is =
    let there = get_or_from_slice_get p.funcs f.func.0 is.func is.func is.there in
    let F : Func → Type 0 = IsFuncOf (length p.globals) (length p.funcs) in
    subst F there (whole.funcs f.func.0 is.func (slice_get_within p.funcs f.func.0 is.func is.there))

pub node_is : (p : ProgramData) (f : Frame) → IsWhole p → (is : IsFrameOf p f)
    → IsNodeOf (length p.globals) (length p.funcs) (length is.func.regs) (length is.func.nodes) (node_at p f.func f.node)
node_is p f whole is =
    let func = func_is p f whole is in
    let there : get_or is.func.nodes f.node.0 node.Unreachable ≡ node_at p f.func f.node =
    sym (ap (λ (o : Option Func). unwrap_or (slice_get (nodes_of o) f.node.0) node.Unreachable) is.there ∙ unwrap_or-slice_get is.func.nodes f.node.0 node.Unreachable) in
    let N : Node → Type 0 = IsNodeOf (length p.globals) (length p.funcs) (length is.func.regs) (length is.func.nodes) in
    subst N there (func.nodes f.node.0 node.Unreachable is.node)

-- the first node of a function that there is
pub entry_is : (p : ProgramData) (callee : FuncId) (regs : List ConcreteValue) (f : Frame) → IsWhole p → callee.0 < length p.funcs
    → (func : Func) × (func_at p callee ≡ Some func) × (0 < length func.nodes)
entry_is p callee regs f whole within =
    elim (slice_get p.funcs callee.0) as (λ o. slice_get p.funcs callee.0 ≡ o → (func : Func) × (func_at p callee ≡ Some func) × (0 < length func.nodes)) [
      | None ↦ λ e. absurd (missing p.funcs callee.0 within e)
      | Some func ↦ λ e.
          let there = get_or_from_slice_get p.funcs callee.0 func func e in
          let F : Func → Type 0 = IsFuncOf (length p.globals) (length p.funcs) in
          (func, e, (subst F there (whole.funcs callee.0 func within)).nonempty)
    ] refl
  where
    missing : {A : Type 0} (xs : List A) (k : ℕ) → k < length xs → slice_get xs k ≡ None → ⊥
    missing [] k within e = absurd (omega arith)
    missing (x ∷ xs) zero within e = cc
    missing (x ∷ xs) (suc k) within e = missing xs k (omega arith) e
