-- What a walk over a program finds, said by recursion.
use Rattle.std.proofs.Common.{◌≡◌, ℕ, zero, suc, ◌≤◌, true, List, [], ◌∷◌, ◌++◌, length, map, Option, Some, None, unwrap_or, All, refl, subst, arith}
use Rattle.std.specs.Prelude.{slice_get}
use Rattle.std.specs.List.{AllByRecursion as Each, flat_map}
use Rattle.std.proofs.lemmas.List.Elements.{recursion_from_All}
use Rattle.bitnum.specs.Number.{IsNumber}
use Rattle.checks.specs.Errors.{IsChecked}
use Rattle.checks.specs.Typed.{is_typed}
use Rattle.checks.specs.Types.{sets, type_at}
use Rattle.flat_ir.specs.declared.names.FuncId.{FuncId}
use Rattle.flat_ir.specs.declared.names.RegId.{RegId}
use Rattle.flat_ir.specs.declared.nodes.GepPart.{GepPart}
use Rattle.flat_ir.specs.declared.nodes.MoveSet.{MoveSet}
use Rattle.flat_ir.specs.declared.nodes.Node.{Node}
use Rattle.flat_ir.specs.declared.nodes.Node.TheVariants as node
use Rattle.flat_ir.specs.declared.nodes.Operand.{Operand}
use Rattle.flat_ir.specs.declared.nodes.RegType.{RegType}
use Rattle.flat_ir.specs.declared.nodes.RegType.TheVariants as type
use Rattle.flat_ir.specs.declared.nodes.SwitchCase.{SwitchCase}
use Rattle.flat_ir.specs.declared.program.Func.{Func}
use Rattle.flat_ir.specs.declared.program.GlobalVar.{GlobalVar}
use Rattle.flat_ir.specs.declared.program.InitByte.{InitByte}
use Rattle.flat_ir.specs.declared.program.ProgramData.{ProgramData}
use Rattle.flat_ir.specs.Machine.{func_at, nodes_of, regs_of}
use Rattle.flat_ir.specs.Whole.{IsGlobalOf, IsWhole, operands_of_part}
use Rattle.sym_states.specs.Fitting.{InitFits, InitsFit, GlobalsFit}
use Rattle.sym_states.specs.Attempts.{result_type}
use Rattle.state_laws.specs.Kept.{IsShortType, AreShortTypes, IsShortTypeIf, OperandFits, OperandsFit, PartFits, PartsFit, CasesFit, CallFits, NamesFit, NodesFit, FuncsFit, HaveShortRegs, ProgramFits}
use Rattle.state_laws.proofs.Programs.{whole-short}
use Rattle.typed_runs.specs.Suiting.{result_of}
use Rattle.typed_runs.proofs.Checked.{node_typed}
use Rattle.typed_runs.proofs.Types.{same_is}
use Rattle.typed_runs.proofs.Values.{call_sets}
use Rattle.sym_machine.specs.Numbers.{OthersFit, NumbersFit, AllNumbersFit}

pub operands-all : (as' : List Operand) → Each OperandFits as' → OperandsFit as'
operands-all [] h = tt
operands-all (a ∷ as') h = (h.0, operands-all as' h.1)

operands-append : (as' bs : List Operand) → OperandsFit as' → OperandsFit bs → OperandsFit (as' ++ bs)
operands-append [] bs h k = k
operands-append (a ∷ as') bs h k = (h.0, operands-append as' bs h.1 k)

pub indices-all : (parts : List GepPart) → Each (λ p. OperandsFit (operands_of_part p)) parts → OperandsFit (flat_map operands_of_part parts)
indices-all [] h = tt
indices-all (p ∷ parts) h = operands-append (operands_of_part p) (flat_map operands_of_part parts) h.0 (indices-all parts h.1)

pub sets-all : (sets : List MoveSet) → Each (λ s. OperandFits s.value) sets → OperandsFit (map (λ s. s.value) sets)
sets-all [] h = tt
sets-all (s ∷ sets) h = (h.0, sets-all sets h.1)

pub parts-all : (parts : List GepPart) → Each PartFits parts → PartsFit parts
parts-all [] h = tt
parts-all (p ∷ parts) h = (h.0, parts-all parts h.1)

pub cases-all : (cases : List SwitchCase) → Each (λ k. IsNumber k.number) cases → CasesFit cases
cases-all [] h = tt
cases-all (k ∷ cases) h = (h.0, cases-all cases h.1)

pub nodes-all : (nodes : List Node) → Each NumbersFit nodes → AllNumbersFit nodes
nodes-all [] h = tt
nodes-all (n ∷ nodes) h = (h.0, nodes-all nodes h.1)

pub inits-all : (bytes : List InitByte) → Each InitFits bytes → InitsFit bytes
inits-all [] h = tt
inits-all (b ∷ bytes) h = (h.0, inits-all bytes h.1)

-- ---- with what is known of a program whose names are its own and that passed its checks

type-short : (ts : List RegType) (k : ℕ) → AreShortTypes ts → IsShortType (unwrap_or (slice_get ts k) type.Ptr)
type-short [] k h = omega arith
type-short (t ∷ ts) zero h = h.0
type-short (t ∷ ts) (suc k) h = type-short ts k h.1

result-short : (regs : List RegType) (r : RegId) (t : Option RegType) → AreShortTypes regs → sets regs (Some r) t ≡ true → IsShortTypeIf t
result-short regs r None short e = tt
result-short regs r (Some t) short e = subst IsShortType (same_is (type_at regs r) t e) (type-short regs r.0 short)

-- a call's register has the type of the callee's result
call-fits : (p : ProgramData) (regs : List RegType) (callee : FuncId) (result : Option RegId) → AreShortTypes regs
    → sets regs result (result_of (func_at p callee)) ≡ true → CallFits p callee result
call-fits p regs callee None short e = tt
call-fits p regs callee (Some r) short e = by-func (func_at p callee) e
  where
    by-func : (o : Option Func) → sets regs (Some r) (result_of o) ≡ true → IsShortTypeIf (result_type o)
    by-func None e = tt
    by-func (Some f) e = result-short regs r f.result short e

names-fit : (p : ProgramData) (regs : List RegType) (returned : Option RegType) (n : Node) → AreShortTypes regs → is_typed p.funcs regs returned n ≡ true → OthersFit n → NamesFit p n
names-fit p regs returned (node.Gep base parts result next) short typed h = h
names-fit p regs returned (node.Alloca size result next) short typed h = h
names-fit p regs returned (node.Switch value cases otherwise) short typed h = h
names-fit p regs returned (node.Call callee args result next) short typed h =
    call-fits p regs callee result short (call_sets p.funcs regs returned (node.Call callee args result next) callee refl typed)
names-fit p regs returned _ short typed h = tt

nodes-fit : (p : ProgramData) (regs : List RegType) (returned : Option RegType) (ns : List Node) → AreShortTypes regs
    → ((j : ℕ) → is_typed p.funcs regs returned (unwrap_or (slice_get ns j) node.Unreachable) ≡ true) → AllNumbersFit ns → NodesFit p ns
nodes-fit p regs returned [] short typed h = tt
nodes-fit p regs returned (n ∷ ns) short typed h =
    (record { operands = h.0.operands; names = names-fit p regs returned n short (typed 0) h.0.others }, nodes-fit p regs returned ns short (λ j. typed (suc j)) h.1)

funcs-fit : (p : ProgramData) (fs : List Func) → HaveShortRegs fs
    → ((k : ℕ) (f : Func) → slice_get fs k ≡ Some f → (j : ℕ) → is_typed p.funcs f.regs f.result (unwrap_or (slice_get f.nodes j) node.Unreachable) ≡ true)
    → Each (λ f. AllNumbersFit f.nodes) fs → FuncsFit p fs
funcs-fit p [] short typed h = tt
funcs-fit p (f ∷ fs) short typed h = (nodes-fit p f.regs f.result f.nodes short.0 (typed 0 f refl) h.0, funcs-fit p fs short.1 (λ k g is. typed (suc k) g is) h.1)

typed-in : (p : ProgramData) → IsChecked p.funcs → (k : ℕ) (f : Func) → slice_get p.funcs k ≡ Some f → (j : ℕ)
    → is_typed p.funcs f.regs f.result (unwrap_or (slice_get f.nodes j) node.Unreachable) ≡ true
typed-in p checked k f is j =
    subst (λ o. is_typed p.funcs (regs_of o) (result_of o) (unwrap_or (slice_get (nodes_of o) j) node.Unreachable) ≡ true) is
    (node_typed p (record { 0 = k }) (record { 0 = j }) checked)

pub program-all : (p : ProgramData) → IsWhole p → IsChecked p.funcs → All (λ f. AllNumbersFit f.nodes) p.funcs → ProgramFits p
program-all p whole checked h =
    let short = whole-short p whole in
    record { nodes = funcs-fit p p.funcs short (typed-in p checked) (recursion_from_All (λ f. AllNumbersFit f.nodes) p.funcs h); regs = short }

globals-each : (n : ℕ) (gs : List GlobalVar) → Each (λ g. InitsFit g.init) gs → Each (IsGlobalOf n) gs → GlobalsFit gs
globals-each n [] h k = tt
globals-each n (g ∷ gs) h k =
    let small : g.size ≤ 65536 = k.0.small in
    let fits : length g.init ≤ g.size = k.0.fits in
    (record { small = omega arith; few = omega arith; inits = h.0 }, globals-each n gs h.1 k.1)

pub globals-all : (n : ℕ) (gs : List GlobalVar) → All (λ g. InitsFit g.init) gs → All (IsGlobalOf n) gs → GlobalsFit gs
globals-all n gs h k = globals-each n gs (recursion_from_All (λ g. InitsFit g.init) gs h) (recursion_from_All (IsGlobalOf n) gs k)
