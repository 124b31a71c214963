-- In a run of a program that passed its checks the machine has what its node needs.
use Rattle.std.specs.Prelude.{◌≤◌, slice_get, slice_index, unwrap_or}
use Rattle.std.proofs.Common.{◌≡◌, ℕ, zero, suc, Bool, true, false, List, [], ◌∷◌, refl, sym, ◌∙◌, ap, subst, arith}
use Rattle.std.specs.List.{AllByRecursion as Each}
use Rattle.checks.specs.Errors.{IsChecked}
use Rattle.flat_ir.specs.declared.nodes.Node.{Node}
use Rattle.flat_ir.specs.declared.nodes.Node.TheVariants as node
use Rattle.flat_ir.specs.declared.program.ProgramData.{ProgramData}
use Rattle.flat_ir.specs.Machine as run
use Rattle.flat_ir.specs.Machine.{State, func_at, nodes_of, node_at, made_here, counted}
use Rattle.flat_ir.specs.MadeNames.{NamesAreKept, is_alloca}
use Rattle.flat_ir.specs.Run.{run as run_of}
use Rattle.flat_ir.specs.Whole.{IsWhole}
use Rattle.flat_ir.proofs.MadeBasics.{alive_made}
use Rattle.flat_ir.proofs.MadeKept.{begins}
use Rattle.flat_ir.proofs.MadeRuns.{run_keeps, step_makes_new}
use Rattle.flat_ir.proofs.MadeSteps.{RunKeeps}
use Rattle.typed_runs.specs.Counting.{StateCountsTo, RunCountsTo}
use Rattle.typed_runs.specs.Suiting as values
use Rattle.typed_runs.specs.TypedRuns.{IsTyped, RunIsTyped}
use Rattle.typed_runs.proofs.Counted.{run_counts}
use Rattle.typed_runs.proofs.Runs.{run_typed}
use Rattle.typed_runs.proofs.Suited.{frame_suits}
use Rattle.concrete_memory.specs.declared.objects.Store.{Store}
use Rattle.concrete_memory.specs.Standing.{IsNew, StandsFor}
use Rattle.concrete_memory.proofs.ForCallers.{new_name_is_absent}
use Rattle.concrete_machine.specs.declared.machine.Frame.{Frame}
use Rattle.concrete_machine.specs.declared.machine.Machine.{Machine}
use Rattle.concrete_machine.specs.Frames.{frame_of}
use Rattle.concrete_machine.specs.Stepping.{IsRunning}
use Rattle.concrete_machine.specs.Suiting.{Suits, Keeps}

-- what a frame and a store have for a node
pub record IsReady (p : ProgramData) (store : Store) (f : run.Frame) (kind : Node) : Type 0 where
  pub typed : values.Suits p f kind
  pub fresh : IsNew store (made_here f)
  pub keeps : is_alloca kind ≡ false → Keeps p store f

suits : (p : ProgramData) (m : Machine) (kind : Node) → IsReady p m.store (frame_of m.frame) kind → Suits p m kind
suits p m (node.Bin op a b result next) ready = ready.typed
suits p m (node.Cmp pr a b result next) ready = ready.typed
suits p m (node.Cast op a result next) ready = ready.typed
suits p m (node.Alloca size result next) ready = ready.fresh
suits p m (node.Malloc size result next) ready = ready.fresh
suits p m (node.Load pointer result next) ready = ready.typed
suits p m (node.Store value pointer next) ready = ready.typed
suits p m (node.Ret value) ready = ready.keeps refl
suits p m _ ready = tt

-- what holds where a run goes on
names_kept : (p : ProgramData) (input : List ℕ) (n : ℕ) (s : State) → IsWhole p → run_of p input n ≡ run.On s → NamesAreKept p s
names_kept p input n s whole e = subst (RunKeeps p) e (run_keeps p input n whole)

types_kept : (p : ProgramData) (input : List ℕ) (n : ℕ) (s : State) → IsChecked p.funcs → run_of p input n ≡ run.On s → IsTyped p s
types_kept p input n s checked e = subst (RunIsTyped p) e (run_typed p input n checked)

counts_kept : (p : ProgramData) (input : List ℕ) (n : ℕ) (s : State) → run_of p input n ≡ run.On s → StateCountsTo n s
counts_kept p input n s e = subst (RunCountsTo n) e (run_counts p input n)

ready_in : (p : ProgramData) (store : Store) (s : State) → IsWhole p → IsChecked p.funcs → NamesAreKept p s → IsTyped p s → StandsFor p store s.history
    → IsReady p store (counted s.frame) (node_at p s.frame.func s.frame.node)
ready_in p store s whole checked names types stands =
    let f = counted s.frame in
    let begun = begins p s.frame s.callers s.history names in
    record {
      typed = frame_suits p f whole checked types.frame;
      fresh = record { made = tt; none = new_name_is_absent p s.history store f.name (run.step_here f) stands (step_makes_new p s names) };
      keeps = λ none. record {
        history = s.history;
        stands = stands;
        made = λ m k alloca least most.
            (alive_made f.name (record { func = f.func; node = m; count = k }) s.history (begun.objects m k alloca least most (λ e.
            let here : is_alloca (node_at p f.func f.node) ≡ true =
            subst (λ (i : ℕ). is_alloca (unwrap_or (slice_get (nodes_of (func_at p f.func)) i) node.Unreachable) ≡ true) e alloca in
            absurd (both_ways here none)))).0;
      };
    }
  where
    both_ways : {b : Bool} → b ≡ true → b ≡ false → ⊥
    both_ways t f = cc

-- the machine, its node counted, has what the node needs
pub running_suits : (p : ProgramData) (input : List ℕ) (m : Machine) (f : Frame) (kind : Node) → IsRunning p input m
    → frame_of f ≡ counted (frame_of m.frame) → kind ≡ node_at p m.frame.func m.frame.node → Suits p (record m { frame = f }) kind
running_suits p input m f kind running counts is =
    let s = running.at.state in
    let stands = running.at.stands in
    let names = names_kept p input running.done s running.whole running.at.goes_on in
    let types = types_kept p input running.done s running.checked running.at.goes_on in
    let frame : frame_of f ≡ counted s.frame = counts ∙ ap counted stands.frame in
    let here : kind ≡ node_at p s.frame.func s.frame.node = is ∙ ap (λ (g : run.Frame). node_at p g.func g.node) stands.frame in
    let ready = ready_in p m.store s running.whole running.checked names types stands.remembers.memory in
    suits p (record m { frame = f }) kind (subst (λ (g : run.Frame). IsReady p m.store g kind) (sym frame) (subst (λ (n : Node). IsReady p m.store (counted s.frame) n) (sym here) ready))

index_within : (n : ℕ) (xs : List ℕ) (k : ℕ) → Each (λ c. c ≤ n) xs → slice_index xs k ≤ n
index_within n [] k all = omega arith
index_within n (x ∷ xs) zero all = all.0
index_within n (x ∷ xs) (suc k) all = index_within n xs k all.1

-- its node can be counted
pub running_counts : (p : ProgramData) (input : List ℕ) (m : Machine) (running : IsRunning p input m) → slice_index m.frame.counts.items m.frame.node.0 ≤ running.done
running_counts p input m running =
    let counts = counts_kept p input running.done running.at.state running.at.goes_on in
    index_within running.done m.frame.counts.items m.frame.node.0
    (subst (λ (cs : List ℕ). Each (λ c. c ≤ running.done) cs) (sym (ap (λ (g : run.Frame). g.counts) running.at.stands.frame)) counts.0)
