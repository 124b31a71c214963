-- What is known of the node at which a state stands, and the run's attempt of it.
use Rattle.std.proofs.Common.{◌≡◌, ℕ, true, List, [], ◌∷◌, ◌++◌, map, length, Option, Some, None, sym, ◌∙◌, ap, subst}
use Rattle.std.specs.List.{AllByRecursion as Each}
use Rattle.std.proofs.lemmas.List.{map-append}
use Rattle.checks.specs.Typed.{is_typed}
use Rattle.flat_ir.specs.declared.names.ObjectName.{ObjectName}
use Rattle.flat_ir.specs.declared.nodes.Node.{Node}
use Rattle.flat_ir.specs.declared.nodes.Operand.{Operand}
use Rattle.flat_ir.specs.declared.values.FaultKind.{FaultKind}
use Rattle.flat_ir.specs.Machine as machine
use Rattle.flat_ir.specs.Machine.{Event, Branched, Loaded, Entered, Returned, Faulted, node_at, func_at, regs_of}
use Rattle.flat_ir.specs.Registers as registers
use Rattle.flat_ir.specs.Skipped.{outside}
use Rattle.flat_ir.specs.Steps as steps
use Rattle.flat_ir.specs.Steps.{unless, with_frame}
use Rattle.flat_ir.specs.Whole.{operands_of}
use Rattle.terms.specs.Value.{value_of}
use Rattle.sym_bytes.specs.Under.{address_under, value_under}
use Rattle.log_laws.specs.Law.{IsBorn, IsOnce}
use Rattle.leaves.specs.Claims.{event_under}
use Rattle.leaves.specs.Events as leaf
use Rattle.leaves.specs.Fitting.{IsTerm}
use Rattle.sym_states.specs.States.{State}
use Rattle.sym_states.specs.Terms.{value_in, number_in, address_in}
use Rattle.state_laws.specs.Kept.{OperandFits, NodeFits}
use Rattle.state_laws.proofs.FirmValues.{value_in-firm}
use Rattle.state_laws.proofs.States.{number_in-fits}
use Rattle.typed_runs.specs.TypedRuns.{HoldsTypes, IsTyped, RunIsTyped}
use Rattle.typed_runs.specs.Suiting.{result_of}
use Rattle.typed_runs.proofs.Checked.{node_typed}
use Rattle.typed_runs.proofs.Runs.{run_typed}
use Rattle.agreement.proofs.Along.{Scene, IsHere, HasFault, IsGiven, operand-along, value-counted, fault-along}
use Rattle.agreement.proofs.Here.{given-here, fits-here}
use Rattle.agreement.proofs.Births.{run_born, run_once}
use Rattle.agreement.proofs.Values.{number-under, address-under}

-- the state in which the run executes its node
abbrev pub begun : machine.State → machine.State
begun m = with_frame (machine.counted m.frame) m

-- the run's attempt of the node is this
abbrev pub Attempts : Scene → machine.State → Node → machine.Run → Type 0
Attempts e m x r = steps.attempt e.c.program e.input x (begun m) ≡ r

-- the node stands there
abbrev pub StandsThere : Scene → machine.State → Node → Type 0
StandsThere e m x = node_at e.c.program m.frame.func m.frame.node ≡ x

pub unless-fault : (o : Option FaultKind) (kind : FaultKind) (m : machine.State) (r : machine.Run) → o ≡ Some kind → unless o m r ≡ machine.Over (Faulted kind m.frame.func m.frame.node) m
unless-fault o kind m r is = ap (λ o. unless o m r) is

pub unless-none : (o : Option FaultKind) (m : machine.State) (r : machine.Run) → o ≡ None → unless o m r ≡ r
unless-none o m r is = ap (λ o. unless o m r) is

-- a fault of the node's tests
pub tests-fault : (e : Scene) (m : machine.State) (x : Node) (o : Option FaultKind) (r : machine.Run) → StandsThere e m x → Attempts e m x (unless o (begun m) r) → (kind : FaultKind) → o ≡ Some kind → HasFault e m kind
tests-fault e m x o r code does kind is = fault-along e m x kind code (does ∙ unless-fault o kind (begun m) r is)

-- ---- what is known at a node

pub record IsAt (e : Scene) (k : ℕ) (m : machine.State) (s : State) (x : Node) : Type 0 where
  pub here : IsHere e k m s
  pub code : StandsThere e m x
  pub fits : NodeFits e.c.program x
  pub given : Each (IsGiven s) (operands_of x)
  pub holds : HoldsTypes e.c.program m.frame
  pub typed : is_typed e.c.program.funcs (regs_of (func_at e.c.program m.frame.func)) (result_of (func_at e.c.program m.frame.func)) x ≡ true
  pub born : (y : ObjectName) → IsBorn y m.history
  pub once : (y : ObjectName) → IsOnce y m.history

pub is-at : (e : Scene) (k : ℕ) (m : machine.State) (s : State) (x : Node) → IsHere e k m s → StandsThere e m x → IsAt e k m s x
is-at e k m s x h code =
    let p = e.c.program in
    let typed : IsTyped p m = subst (RunIsTyped p) h.runs (run_typed p e.input k e.plain.checked) in
    record {
      here = h;
      code = code;
      fits = fits-here e k m s x h code;
      given = given-here e k m s x h code;
      holds = typed.frame;
      typed = subst (λ n. is_typed p.funcs (regs_of (func_at p m.frame.func)) (result_of (func_at p m.frame.func)) n ≡ true) code (node_typed p m.frame.func m.frame.node e.plain.checked);
      born = λ y. run_born p e.input k m y e.plain.whole h.runs;
      once = λ y. run_once p e.input k m y e.plain.whole h.runs;
    }

-- ---- operands

pub value-along : (e : Scene) (k : ℕ) (m : machine.State) (s : State) (a : Operand) → IsHere e k m s → IsGiven s a → machine.value_in (begun m).frame a ≡ value_under e.input [] (value_in s a)
value-along e k m s a h given = value-counted m.frame a ∙ operand-along e k m s a h given

pub address-along : (e : Scene) (k : ℕ) (m : machine.State) (s : State) (a : Operand) → IsHere e k m s → IsGiven s a → steps.address_in (begun m) a ≡ address_under e.input (address_in s a)
address-along e k m s a h given = ap registers.address (value-along e k m s a h given) ∙ address-under e.input (value_in s a) (value_in-firm s a h.state.no_calls)

pub number-along : (e : Scene) (k : ℕ) (m : machine.State) (s : State) (a : Operand) → IsHere e k m s → IsGiven s a → steps.number_in (begun m) a ≡ value_of (number_in s a) e.input
number-along e k m s a h given = ap registers.number (value-along e k m s a h given) ∙ number-under e.input (value_in s a) (value_in-firm s a h.state.no_calls)

pub term-along : (e : Scene) (k : ℕ) (m : machine.State) (s : State) (a : Operand) → IsHere e k m s → OperandFits a → IsTerm (length e.input) (number_in s a)
term-along e k m s a h fits = number_in-fits (length e.input) s a h.state.fits fits

-- ---- changes of the path

outside-more : (events : List Event) (last : Event) → outside [] (last ∷ []) ≡ last ∷ [] → outside [] (events ++ last ∷ []) ≡ outside [] events ++ last ∷ []
outside-more [] last is = is
outside-more (Branched f n side ∷ t) last is = ap (λ es. Branched f n side ∷ es) (outside-more t last is)
outside-more (Loaded f n v ∷ t) last is = ap (λ es. Loaded f n v ∷ es) (outside-more t last is)
outside-more (Entered f n g ∷ t) last is = outside-more t last is
outside-more (Returned v ∷ t) last is = outside-more t last is

-- one event more
pub path-shown : (input : List ℕ) (x : leaf.Event) (shows : Event) (path : List leaf.Event) (events : List Event) → outside [] events ≡ map (event_under input []) path → outside [] (shows ∷ []) ≡ shows ∷ [] → shows ≡ event_under input [] x
    → outside [] (events ++ shows ∷ []) ≡ map (event_under input []) (path ++ x ∷ [])
path-shown input x shows path events same quiet is = outside-more events shows quiet ∙ (λ i. same i ++ is i ∷ []) ∙ sym (map-append (event_under input []) path (x ∷ []))
