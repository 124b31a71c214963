-- Fitting is kept: what a part of an attempt gives is over the bytes of the input that the state was over.
use Rattle.std.specs.Prelude.{◌≡◌, ℕ, ◌<◌, ◌≤◌, ◌^◌, List, [], ◌∷◌, length, Option, Some, None, IfSome}
use Rattle.bitnum.specs.Number.{IsNumber}
use Rattle.terms.specs.Tree.{Tree}
use Rattle.flat_ir.specs.declared.names.FuncId.{FuncId}
use Rattle.flat_ir.specs.declared.names.RegId.{RegId}
use Rattle.flat_ir.specs.declared.nodes.GepPart.{GepPart}
use Rattle.flat_ir.specs.declared.nodes.GepPart.TheVariants.{Field, Index}
use Rattle.flat_ir.specs.declared.nodes.Node.{Node}
use Rattle.flat_ir.specs.declared.nodes.Node.TheVariants as node
use Rattle.flat_ir.specs.declared.nodes.Operand.{Operand}
use Rattle.flat_ir.specs.declared.nodes.Operand.TheVariants as operand
use Rattle.flat_ir.specs.declared.nodes.RegType.{RegType}
use Rattle.flat_ir.specs.declared.nodes.SwitchCase.{SwitchCase}
use Rattle.flat_ir.specs.declared.program.Func.{Func}
use Rattle.flat_ir.specs.declared.program.ProgramData.{ProgramData}
use Rattle.flat_ir.specs.Machine.{func_at}
use Rattle.flat_ir.specs.Registers.{bytes_of_type}
use Rattle.flat_ir.specs.Whole.{operands_of}
use Rattle.sym_bytes.specs.Answers.{Join, Value, Needs, Test, Mixed}
use Rattle.sym_bytes.specs.Value as value
use Rattle.sym_bytes.specs.Value.{SymValue}
use Rattle.leaves.specs.Events.{Leaf, Done, told_of}
use Rattle.leaves.specs.Fitting.{IsTermOf, AreTermsOf, ValueFits, BytesFit, ToldFitsIn, DoneFitsIn, LeafFits}
use Rattle.sym_states.specs.Attempts.{Reached, ReadBytes, Valued, result_type, attempt}
use Rattle.sym_states.specs.Fitting.{StateFits}
use Rattle.sym_states.specs.Sides.{Offspring, Lives, Spends, Offer, Alone, Several, Tested, Good, Bad, Answered}
use Rattle.sym_states.specs.States as states
use Rattle.skip_records.specs.Snapshots.{Snapshot}
use Rattle.sym_states.specs.States.{Frame, State, Context, Child, Step, Flow}
use Rattle.sym_states.specs.Verdicts.{Sat}

-- ---- what is taken of a program: its numbers fit their widths, and its values have at most 8 bytes

abbrev pub IsShortType : RegType → Type 0
IsShortType t = bytes_of_type t ≤ 8

abbrev pub AreShortTypes : List RegType → Type 0
AreShortTypes [] = Unit {0}
AreShortTypes (t ∷ ts) = IsShortType t × AreShortTypes ts

abbrev pub IsShortTypeIf : Option RegType → Type 0
IsShortTypeIf None = Unit {0}
IsShortTypeIf (Some t) = IsShortType t

abbrev pub OperandFits : Operand → Type 0
OperandFits (operand.Reg r) = Unit {0}
OperandFits (operand.Int n) = IsNumber n
OperandFits operand.Null = Unit {0}
OperandFits (operand.Global g offset) = offset < 2 ^ 64

abbrev pub OperandsFit : List Operand → Type 0
OperandsFit [] = Unit {0}
OperandsFit (a ∷ as') = OperandFits a × OperandsFit as'

abbrev pub PartFits : GepPart → Type 0
PartFits (Field by) = by < 2 ^ 64
PartFits (Index scale index) = scale < 2 ^ 64

abbrev pub PartsFit : List GepPart → Type 0
PartsFit [] = Unit {0}
PartsFit (part ∷ parts) = PartFits part × PartsFit parts

abbrev pub CasesFit : List SwitchCase → Type 0
CasesFit [] = Unit {0}
CasesFit (c ∷ cs) = IsNumber c.number × CasesFit cs

-- what a call gives a register has at most 8 bytes
abbrev pub CallFits : ProgramData → FuncId → Option RegId → Type 0
CallFits p callee None = Unit {0}
CallFits p callee (Some r) = IsShortTypeIf (result_type (func_at p callee))

-- what a node names beside its operands
abbrev pub NamesFit : ProgramData → Node → Type 0
NamesFit p (node.Gep base parts result next) = PartsFit parts
NamesFit p (node.Alloca size result next) = size < 2 ^ 64
NamesFit p (node.Call callee args result next) = CallFits p callee result
NamesFit p (node.Switch value cases otherwise) = CasesFit cases
NamesFit p _ = Unit {0}

pub record NodeFits (p : ProgramData) (n : Node) : Type 0 where
  pub operands : OperandsFit (operands_of n)
  pub names : NamesFit p n

abbrev pub NodesFit : ProgramData → List Node → Type 0
NodesFit p [] = Unit {0}
NodesFit p (n ∷ ns) = NodeFits p n × NodesFit p ns

abbrev pub FuncsFit : ProgramData → List Func → Type 0
FuncsFit p [] = Unit {0}
FuncsFit p (f ∷ fs) = NodesFit p f.nodes × FuncsFit p fs

abbrev pub HaveShortRegs : List Func → Type 0
HaveShortRegs [] = Unit {0}
HaveShortRegs (f ∷ fs) = AreShortTypes f.regs × HaveShortRegs fs

pub record ProgramFits (p : ProgramData) : Type 0 where
  pub nodes : FuncsFit p p.funcs
  pub regs : HaveShortRegs p.funcs

-- a verdict's input has as many bytes as it is asked for
pub record IsFitting (c : Context) : Type 0 where
  pub sizes : (condition : List Tree) (n : ℕ) (input : List ℕ) → n ≤ 64 → c.verdict condition n ≡ Sat input → length input ≡ n

-- ---- states

-- a result that is pending has at most 8 bytes
abbrev pub IsShort : SymValue → Type 0
IsShort (value.Int t) = Unit {0}
IsShort (value.Ptr p) = Unit {0}
IsShort (value.Pending c t) = IsShortType t

abbrev pub IsShortIf : Option SymValue → Type 0
IsShortIf None = Unit {0}
IsShortIf (Some v) = IsShort v

abbrev pub AreShort : List SymValue → Type 0
AreShort [] = Unit {0}
AreShort (v ∷ vs) = IsShort v × AreShort vs

abbrev pub RegsAreShort : List (Option SymValue) → Type 0
RegsAreShort [] = Unit {0}
RegsAreShort (v ∷ vs) = IsShortIf v × RegsAreShort vs

abbrev pub FramesAreShort : List Frame → Type 0
FramesAreShort [] = Unit {0}
FramesAreShort (f ∷ fs) = RegsAreShort f.regs × FramesAreShort fs

pub record IsShortSnapshot (s : Snapshot) : Type 0 where
  pub args : AreShort s.args
  pub result : IsShortIf s.result

abbrev pub AreShortSnapshots : List Snapshot → Type 0
AreShortSnapshots [] = Unit {0}
AreShortSnapshots (s ∷ ss) = IsShortSnapshot s × AreShortSnapshots ss

-- each pending result of the state has at most 8 bytes
pub record IsShortState (s : State) : Type 0 where
  pub frame : RegsAreShort s.frame.regs
  pub callers : FramesAreShort s.callers
  pub snapshots : AreShortSnapshots s.snapshots

-- the state fits, at n bytes of input
pub record StateFitsAt (n : ℕ) (s : State) : Type 0 where
  pub fits : StateFits s
  pub size : length s.kept ≡ n
  pub short : IsShortState s

pub record ValueFitsAt (n : ℕ) (v : SymValue) : Type 0 where
  pub fits : ValueFits n v
  pub short : IsShort v

-- ---- what the parts of an attempt give

-- what a recovery gives
abbrev pub RecoveredFits : ℕ → Leaf → Type 0
RecoveredFits n (Done told entries result) = DoneFitsIn n entries result × IsShortIf result
RecoveredFits n _ = Unit {0}

-- a leaf fits; what it tells also where no input is kept
pub record LeafFitsAt (n : ℕ) (l : Leaf) : Type 0 where
  pub fits : LeafFits l
  pub told : ToldFitsIn n (told_of l)
  pub size : IfSome (told_of l).kept (λ kept. length kept ≡ n)
  pub recovered : RecoveredFits n l

abbrev pub ChildFits : ℕ → Child → Type 0
ChildFits n (states.Go s) = StateFitsAt n s
ChildFits n (states.Stop l) = LeafFitsAt n l

abbrev pub ChildrenFit : ℕ → List Child → Type 0
ChildrenFit n [] = Unit {0}
ChildrenFit n (c ∷ cs) = ChildFits n c × ChildrenFit n cs

abbrev pub StepFits : ℕ → Step → Type 0
StepFits n (states.Goes s) = StateFitsAt n s
StepFits n (states.Forks cs) = ChildrenFit n cs
StepFits n (states.Needs s calls) = StateFitsAt n s
StepFits n (states.Ends l) = LeafFitsAt n l

-- a part goes on with what has the property, or its answer fits
abbrev pub FlowFits : {A : Type 0} → ℕ → (A → Type 0) → Flow A → Type 0
FlowFits n P (states.On x) = P x
FlowFits n P (states.Over step) = StepFits n step

abbrev pub OffspringFits : ℕ → Offspring → Type 0
OffspringFits n (Lives side condition kept) = AreTermsOf n 1 condition × (length kept ≡ n)
OffspringFits n (Spends condition) = AreTermsOf n 1 condition

abbrev pub OffspringsFit : ℕ → List Offspring → Type 0
OffspringsFit n [] = Unit {0}
OffspringsFit n (o ∷ os) = OffspringFits n o × OffspringsFit n os

abbrev pub OfferFits : ℕ → Offer → Type 0
OfferFits n (Alone side s) = StateFitsAt n s
OfferFits n (Several os) = OffspringsFit n os

abbrev pub TestedFits : ℕ → Tested → Type 0
TestedFits n (Good s) = StateFitsAt n s
TestedFits n (Bad s) = StateFitsAt n s
TestedFits n (Answered step) = StepFits n step

pub record ReachedFits (n : ℕ) (r : Reached) : Type 0 where
  pub offset : IsTermOf n 64 r.offset
  pub state : StateFitsAt n r.state

-- so many bytes were read
pub record ReadBytesFits (n count : ℕ) (r : ReadBytes) : Type 0 where
  pub bytes : BytesFit n r.bytes
  pub size : length r.bytes ≡ count
  pub state : StateFitsAt n r.state

pub record ValuedFits (n : ℕ) (v : Valued) : Type 0 where
  pub value : ValueFitsAt n v.value
  pub state : StateFitsAt n v.state

abbrev pub JoinFits : ℕ → Join → Type 0
JoinFits n (Value v) = ValueFitsAt n v
JoinFits n (Needs calls) = Unit {0}
JoinFits n (Test t v) = IsTermOf n 1 t × ValueFitsAt n v
JoinFits n Mixed = Unit {0}

-- ---- the law

-- what an attempt of a state that fits gives, fits at as many bytes of input
abbrev pub AttemptsKeepFitting : Type 0
AttemptsKeepFitting = (c : Context) (s : State) → IsFitting c → ProgramFits c.program → StateFits s → IsShortState s → StepFits (length s.kept) (attempt c s)
