-- Where no call was skipped and none is, nothing is needed, and no leaf is of a skipped call.
use Rattle.std.specs.Prelude.{◌≡◌, List, [], ◌∷◌, Option, Some, None}
use Rattle.sym_bytes.specs.Byte as byte
use Rattle.sym_bytes.specs.Byte.{SymByte}
use Rattle.sym_bytes.specs.Entry as entry
use Rattle.sym_bytes.specs.Entry.{Entry}
use Rattle.sym_bytes.specs.Value as value
use Rattle.sym_bytes.specs.Value.{SymValue}
use Rattle.log_laws.specs.Logs.{Did, Marked, Log}
use Rattle.leaves.specs.Events.{Event, Branch, Load, Told, Leaf, Complete, Fault, Skipped, Open, Done}
use Rattle.sym_states.specs.Attempts.{attempt}
use Rattle.sym_states.specs.States.{Frame, State, Context, Child, Go, Stop, Step, Goes, Forks, Needs, Ends}

-- the value is no result that is pending
abbrev pub IsFirm : SymValue → Type 0
IsFirm (value.Int t) = Unit {0}
IsFirm (value.Ptr p) = Unit {0}
IsFirm (value.Pending c t) = ⊥

abbrev pub IsFirmIf : Option SymValue → Type 0
IsFirmIf None = Unit {0}
IsFirmIf (Some v) = IsFirm v

abbrev pub RegsAreFirm : List (Option SymValue) → Type 0
RegsAreFirm [] = Unit {0}
RegsAreFirm (v ∷ vs) = IsFirmIf v × RegsAreFirm vs

abbrev pub FramesAreFirm : List Frame → Type 0
FramesAreFirm [] = Unit {0}
FramesAreFirm (f ∷ fs) = RegsAreFirm f.regs × FramesAreFirm fs

abbrev pub IsFirmByte : SymByte → Type 0
IsFirmByte (byte.Int t) = Unit {0}
IsFirmByte (byte.PtrByte p j) = Unit {0}
IsFirmByte (byte.PendingByte c t j) = ⊥

abbrev pub AreFirmBytes : List SymByte → Type 0
AreFirmBytes [] = Unit {0}
AreFirmBytes (b ∷ bs) = IsFirmByte b × AreFirmBytes bs

abbrev pub IsFirmEntry : Entry → Type 0
IsFirmEntry (entry.Write x offset bytes) = AreFirmBytes bytes
IsFirmEntry _ = Unit {0}

-- the log has no mark, and what it wrote is firm
abbrev pub IsFirmLog : Log → Type 0
IsFirmLog [] = Unit {0}
IsFirmLog (Did e ∷ log) = IsFirmEntry e × IsFirmLog log
IsFirmLog (Marked c mods fills ∷ log) = ⊥

abbrev pub IsFirmEvent : Event → Type 0
IsFirmEvent (Branch func node side) = Unit {0}
IsFirmEvent (Load func node v) = IsFirm v

abbrev pub AreFirmEvents : List Event → Type 0
AreFirmEvents [] = Unit {0}
AreFirmEvents (e ∷ es) = IsFirmEvent e × AreFirmEvents es

-- no call was skipped on the way to the state, and it is in no recovery
pub record HasNoCalls (s : State) : Type 0 where
  pub frame : RegsAreFirm s.frame.regs
  pub callers : FramesAreFirm s.callers
  pub log : IsFirmLog s.memory.log
  pub snapshots : s.snapshots ≡ []
  pub path : AreFirmEvents s.path
  pub target : s.target ≡ None

pub record ToldHasNoCalls (t : Told) : Type 0 where
  pub path : AreFirmEvents t.path
  pub results : t.results ≡ []

abbrev pub LeafHasNoCalls : Leaf → Type 0
LeafHasNoCalls (Complete told status output) = ToldHasNoCalls told
LeafHasNoCalls (Fault told kind func n output) = ToldHasNoCalls told
LeafHasNoCalls (Skipped told kind func n) = ⊥
LeafHasNoCalls (Open told cause) = ToldHasNoCalls told
LeafHasNoCalls (Done told entries result) = ⊥

abbrev pub ChildHasNoCalls : Child → Type 0
ChildHasNoCalls (Go s) = HasNoCalls s
ChildHasNoCalls (Stop l) = LeafHasNoCalls l

abbrev pub ChildrenHaveNoCalls : List Child → Type 0
ChildrenHaveNoCalls [] = Unit {0}
ChildrenHaveNoCalls (c ∷ cs) = ChildHasNoCalls c × ChildrenHaveNoCalls cs

-- nothing is needed, and what is given has no calls
abbrev pub StepHasNoCalls : Step → Type 0
StepHasNoCalls (Goes s) = HasNoCalls s
StepHasNoCalls (Forks cs) = ChildrenHaveNoCalls cs
StepHasNoCalls (Needs s calls) = ⊥
StepHasNoCalls (Ends l) = LeafHasNoCalls l

-- where no function's calls are skipped, an attempt of a state without calls needs none and makes none
abbrev pub AttemptsNeedNothing : Type 0
AttemptsNeedNothing = (c : Context) (s : State) → c.skips ≡ [] → HasNoCalls s → StepHasNoCalls (attempt c s)
