-- What a program that fits has at its places.
use Rattle.std.proofs.Common.{ℕ, zero, suc, length, List, [], ◌∷◌, unwrap_or, lit≤}
use Rattle.std.specs.Prelude.{slice_get}
use Rattle.std.specs.List.{AllByRecursion}
use Rattle.std.proofs.lemmas.List.Elements.{recursion_from_All}
use Rattle.flat_ir.specs.declared.names.FuncId.{FuncId}
use Rattle.flat_ir.specs.declared.names.RegId.{RegId}
use Rattle.flat_ir.specs.declared.nodes.Node.{Node}
use Rattle.flat_ir.specs.declared.nodes.Node.TheVariants as node
use Rattle.flat_ir.specs.declared.nodes.RegType.{RegType}
use Rattle.flat_ir.specs.declared.nodes.RegType.TheVariants as type
use Rattle.flat_ir.specs.declared.program.Func.{Func}
use Rattle.flat_ir.specs.declared.program.ProgramData.{ProgramData}
use Rattle.flat_ir.specs.Machine.{nodes_of, regs_of, func_at, type_at}
use Rattle.flat_ir.specs.Whole.{IsWidth, IsFuncOf, IsWhole}
use Rattle.sym_states.specs.States.{Frame, node_of, code_of}
use Rattle.state_laws.proofs.Values.{eighth}
use Rattle.state_laws.specs.Kept.{IsShortType, AreShortTypes, NodeFits, NodesFit, FuncsFit, HaveShortRegs, ProgramFits}

nodes-at : (p : ProgramData) (fs : List Func) (k : ℕ) → FuncsFit p fs → NodesFit p (nodes_of (slice_get fs k))
nodes-at p [] k h = tt
nodes-at p (f ∷ fs) zero h = h.0
nodes-at p (f ∷ fs) (suc k) h = nodes-at p fs k h.1

regs-at : (fs : List Func) (k : ℕ) → HaveShortRegs fs → AreShortTypes (regs_of (slice_get fs k))
regs-at [] k h = tt
regs-at (f ∷ fs) zero h = h.0
regs-at (f ∷ fs) (suc k) h = regs-at fs k h.1

node-at : (p : ProgramData) (ns : List Node) (k : ℕ) → NodesFit p ns → NodeFits p (unwrap_or (slice_get ns k) node.Unreachable)
node-at p [] k h = record { operands = tt; names = tt }
node-at p (n ∷ ns) zero h = h.0
node-at p (n ∷ ns) (suc k) h = node-at p ns k h.1

type-at : (ts : List RegType) (k : ℕ) → AreShortTypes ts → IsShortType (unwrap_or (slice_get ts k) type.Ptr)
type-at [] k h = lit≤ tt
type-at (t ∷ ts) zero h = h.0
type-at (t ∷ ts) (suc k) h = type-at ts k h.1

pub code_of-fits : (p : ProgramData) (frame : Frame) → ProgramFits p → NodeFits p (code_of p frame)
code_of-fits p frame h = node-at p (nodes_of (func_at p frame.func)) (node_of frame.place).0 (nodes-at p p.funcs frame.func.0 h.nodes)

pub type_at-short : (p : ProgramData) (f : FuncId) (r : RegId) → HaveShortRegs p.funcs → IsShortType (type_at p f r)
type_at-short p f r h = type-at (regs_of (func_at p f)) r.0 (regs-at p.funcs f.0 h)

-- ---- a whole program's registers have at most 64 bits

pub width-short : (t : RegType) → IsWidth t → IsShortType t
width-short (type.Int width) h = eighth width h.1
width-short type.Ptr h = lit≤ tt

types-short : (ts : List RegType) → AllByRecursion IsWidth ts → AreShortTypes ts
types-short [] h = tt
types-short (t ∷ ts) h = (width-short t h.0, types-short ts h.1)

funcs-short : (globals funcs : ℕ) (fs : List Func) → AllByRecursion (IsFuncOf globals funcs) fs → HaveShortRegs fs
funcs-short globals funcs [] h = tt
funcs-short globals funcs (f ∷ fs) h = (types-short f.regs (recursion_from_All IsWidth f.regs h.0.widths), funcs-short globals funcs fs h.1)

pub whole-short : (p : ProgramData) → IsWhole p → HaveShortRegs p.funcs
whole-short p h = funcs-short (length p.globals) (length p.funcs) p.funcs (recursion_from_All (IsFuncOf (length p.globals) (length p.funcs)) p.funcs h.funcs)
