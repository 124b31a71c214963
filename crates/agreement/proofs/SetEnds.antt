-- What is set stays so at a node's end, at a call and at a return.
use Rattle.std.proofs.Common.{◌≡◌, ℕ, zero, suc, ◌<◌, ◌≤◌, true, List, [], ◌∷◌, ◌++◌, length, map, take, drop, slice_set, Option, Some, None, unwrap_or, refl, sym, ◌∙◌, ap, subst, arith, ⊎_elim, ◌⊎◌, inl, inr}
use Rattle.std.specs.Prelude.{slice_get}
use Rattle.std.specs.Option.{option_map, option_to_list}
use Rattle.std.specs.List.{Contains}
use Rattle.std.proofs.lemmas.Bool.{false≢true}
use Rattle.std.proofs.lemmas.List.{length-set, length-map}
use Rattle.std.proofs.lemmas.List.Elements.{All-contains, Contains-push_cases, Contains-append_cases}
use Rattle.std.proofs.lemmas.Option.{none-some, slice_get_within, get_or_from_slice_get}
use Rattle.checks.specs.Types.{sets, has, have}
use Rattle.checks.specs.Types as types
use Rattle.checks.specs.Typed.{is_typed}
use Rattle.checks.specs.Typed as typed
use Rattle.flow.specs.Flow.{entry}
use Rattle.flow.proofs.Bridges.{none_there, no_set}
use Rattle.flat_ir.specs.declared.names.FuncId.{FuncId}
use Rattle.flat_ir.specs.declared.names.NodeId.{NodeId}
use Rattle.flat_ir.specs.declared.names.RegId.{RegId}
use Rattle.flat_ir.specs.declared.names.CallStep.{CallStep}
use Rattle.flat_ir.specs.declared.nodes.MoveSet.{MoveSet}
use Rattle.flat_ir.specs.declared.nodes.Node.{Node}
use Rattle.flat_ir.specs.declared.nodes.Node.TheVariants as node
use Rattle.flat_ir.specs.declared.nodes.Operand.{Operand}
use Rattle.flat_ir.specs.declared.nodes.RegType.{RegType}
use Rattle.flat_ir.specs.declared.program.Func.{Func}
use Rattle.flat_ir.specs.declared.program.ProgramData.{ProgramData}
use Rattle.flat_ir.specs.declared.residual.Residual.{Residual}
use Rattle.flat_ir.specs.Machine.{func_at, regs_of}
use Rattle.flat_ir.specs.Steps.{call_result}
use Rattle.flat_ir.specs.Whole.{IsWhole, IsFuncOf, IsNodeOf, results_of, successors_of}
use Rattle.flat_ir.proofs.MadeBasics.{both}
use Rattle.sym_bytes.specs.Value.{SymValue}
use Rattle.sym_states.specs.declared.frames.Place.{Place}
use Rattle.sym_states.specs.declared.frames.Place.TheVariants.{At}
use Rattle.sym_states.specs.States.{Frame, State, Context, node_of, code_of, counted, set_if, moved, place_after, first_node, entered}
use Rattle.sym_states.specs.Terms.{value_in, set_all}
use Rattle.typed_runs.specs.TypedRuns.{IsCallOf}
use Rattle.typed_runs.specs.Suiting.{result_of}
use Rattle.typed_runs.proofs.Checked.{node_typed}
use Rattle.typed_runs.proofs.Values.{call_sets}
use Rattle.agreement.specs.Premises.{IsPlain, HasValue, IsSetFrame, WaitAtCalls}
use Rattle.agreement.proofs.SetFrames.{node_there, still_has, now_has, frame_behind}

-- ---- the program's functions and nodes

pub func_whole : (p : ProgramData) (f : FuncId) (code : Func) → IsWhole p → func_at p f ≡ Some code → IsFuncOf (length p.globals) (length p.funcs) code
func_whole p f code whole there =
    let F : Func → Type 0 = IsFuncOf (length p.globals) (length p.funcs) in
    subst F (get_or_from_slice_get p.funcs f.0 code code there) (whole.funcs f.0 code (slice_get_within p.funcs f.0 code there))

node_whole : (p : ProgramData) (code : Func) (n : ℕ) (x : Node) → IsFuncOf (length p.globals) (length p.funcs) code → slice_get code.nodes n ≡ Some x
    → IsNodeOf (length p.globals) (length p.funcs) (length code.regs) (length code.nodes) x
node_whole p code n x whole there =
    let N : Node → Type 0 = IsNodeOf (length p.globals) (length p.funcs) (length code.regs) (length code.nodes) in
    subst N (get_or_from_slice_get code.nodes n x x there) (whole.nodes n x (slice_get_within code.nodes n x there))

results_within : (p : ProgramData) (f : Frame) (x : Node) (r : RegId) → IsWhole p → (s : IsSetFrame p f) → slice_get s.code.nodes (node_of f.place).0 ≡ Some x → Contains (results_of x) r → r.0 < length f.regs
results_within p f x r whole s there result =
    let within = All-contains (λ (q : RegId). q.0 < length s.code.regs) (results_of x) r (node_whole p s.code (node_of f.place).0 x (func_whole p f.func s.code whole s.there) there).results result in
    omega (arith, within, s.size)

-- the node leads somewhere, so it is there
leading_there : (p : ProgramData) (f : Frame) (s : IsSetFrame p f) (x : Node) (side : ℕ) (m : NodeId) → code_of p f ≡ x → slice_get (successors_of x) side ≡ Some m → slice_get s.code.nodes (node_of f.place).0 ≡ Some x
leading_there p f s x side m is leads = ⊎_elim (λ there. there) (λ gone. absurd (none-some m (subst (λ y. slice_get (successors_of y) side ≡ Some m) gone leads))) (node_there p f s x is)

-- ---- a node's end

pub place_is : (c : Context) (f : Frame) (x : Node) (side : ℕ) (m : NodeId) (residual : Option Residual) → residual ≡ None → code_of c.program f ≡ x → slice_get (successors_of x) side ≡ Some m
    → place_after c.program residual side f ≡ At m
place_is c f x side m None no_slice is leads =
    ap (λ (y : Node). At (unwrap_or (slice_get (successors_of y) side) first_node)) is ∙ ap (λ (o : Option NodeId). At (unwrap_or o first_node)) leads
place_is c f x side m (Some residual) no_slice is leads = cc

-- the frame, with these registers, goes on at a successor
pub goes_set : (c : Context) (f : Frame) (x : Node) (side : ℕ) (m : NodeId) (regs : List (Option SymValue)) (counts : List ℕ) → IsPlain c → (s : IsSetFrame c.program f) → code_of c.program f ≡ x
    → slice_get (successors_of x) side ≡ Some m → length regs ≡ length f.regs → ((r : ℕ) → HasValue f.regs r → HasValue regs r)
    → ((r : RegId) → Contains (results_of x) r → r.0 < length f.regs → HasValue regs r.0)
    → IsSetFrame c.program (moved c side (record f { regs = regs; counts = counts }))
goes_set c f x side m regs counts plain s is leads size still results =
    let there = leading_there c.program f s x side m is leads in
    let place = place_is c (record f { regs = regs; counts = counts }) x side m c.residual plain.no_slice is leads in
    subst (λ (q : Place). IsSetFrame c.program (record { func = f.func; place = q; regs = regs; name = f.name; counts = counts })) (sym place)
    (frame_behind c.program f x m regs counts s there (side, slice_get_within (successors_of x) side m leads, get_or_from_slice_get (successors_of x) side m m leads) size still
    (λ r result. results r result (results_within c.program f x r plain.whole s there result)))

-- the node sets the register that is named to a value
abbrev pub GivesValue : Option RegId → Option SymValue → Type 0
GivesValue None v = Unit {0}
GivesValue (Some r) None = ⊥
GivesValue (Some r) (Some v) = Unit {0}

pub gives_some : (r : Option RegId) (v : SymValue) → GivesValue r (Some v)
gives_some None v = tt
gives_some (Some r) v = tt

one_result : (r q : RegId) → Contains (r ∷ []) q → r ≡ q
one_result r q h = ⊎_elim (λ none. absurd (none_there q none)) (λ e. e) (Contains-push_cases [] r q h)

-- The node sets its register, if it names one, and goes on. How often nodes were executed doesn't matter.
pub gives_set : (c : Context) (f : Frame) (x : Node) (side : ℕ) (m : NodeId) (result : Option RegId) (v : Option SymValue) (counts : List ℕ) → IsPlain c → IsSetFrame c.program f → code_of c.program f ≡ x
    → slice_get (successors_of x) side ≡ Some m → results_of x ≡ option_to_list result → GivesValue result v
    → IsSetFrame c.program (moved c side (set_if result v (record f { counts = counts })))
gives_set c f x side m None v counts plain s is leads results gives = goes_set c f x side m f.regs counts plain s is leads refl (λ r h. h)
    (λ r h within. absurd (none_there r (subst (λ (rs : List RegId). Contains rs r) results h)))
gives_set c f x side m (Some r) None counts plain s is leads results gives = absurd gives
gives_set c f x side m (Some r) (Some v) counts plain s is leads results gives = goes_set c f x side m (slice_set f.regs r.0 (Some v)) counts plain s is leads (length-set f.regs r.0 (Some v))
    (λ q h. still_has f.regs r.0 v q h)
    (λ q h within. let same = one_result r q (subst (λ (rs : List RegId). Contains rs q) results h) in
    subst (λ (t : RegId). HasValue (slice_set f.regs r.0 (Some v)) t.0) same (now_has f.regs r.0 v (subst (λ (t : RegId). t.0 < length f.regs) (sym same) within)))

-- ---- moves

-- registers in which so many sets were made
abbrev pub regs_after : State → List MoveSet → List (Option SymValue) → List (Option SymValue)
regs_after old [] regs = regs
regs_after old (m ∷ ms) regs = regs_after old ms (slice_set regs m.register.0 (Some (value_in old m.value)))

pub set_all_is : (old : State) (ms : List MoveSet) (f : Frame) → set_all old ms f ≡ record f { regs = regs_after old ms f.regs }
set_all_is old [] f = refl
set_all_is old (m ∷ ms) f = set_all_is old ms (record f { regs = slice_set f.regs m.register.0 (Some (value_in old m.value)) })

after_size : (old : State) (ms : List MoveSet) (regs : List (Option SymValue)) → length (regs_after old ms regs) ≡ length regs
after_size old [] regs = refl
after_size old (m ∷ ms) regs = after_size old ms (slice_set regs m.register.0 (Some (value_in old m.value))) ∙ length-set regs m.register.0 (Some (value_in old m.value))

after_still : (old : State) (ms : List MoveSet) (regs : List (Option SymValue)) (r : ℕ) → HasValue regs r → HasValue (regs_after old ms regs) r
after_still old [] regs r h = h
after_still old (m ∷ ms) regs r h = after_still old ms (slice_set regs m.register.0 (Some (value_in old m.value))) r (still_has regs m.register.0 (value_in old m.value) r h)

first_or_rest : (r q : RegId) (rs : List RegId) → Contains (r ∷ rs) q → (r ≡ q) ⊎ Contains rs q
first_or_rest r q rs h = ⊎_elim (λ one. inl (one_result r q one)) (λ more. inr more) (Contains-append_cases (r ∷ []) rs q h)

after_sets : (old : State) (ms : List MoveSet) (regs : List (Option SymValue)) (r : RegId) → Contains (map (λ m. m.register) ms) r → r.0 < length regs → HasValue (regs_after old ms regs) r.0
after_sets old [] regs r h within = absurd (none_there r h)
after_sets old (m ∷ ms) regs r h within =
    let v = value_in old m.value in
    ⊎_elim
    (λ same. after_still old ms (slice_set regs m.register.0 (Some v)) r.0 (subst (λ (t : RegId). HasValue (slice_set regs m.register.0 (Some v)) t.0) same (now_has regs m.register.0 v (subst (λ (t : RegId). t.0 < length regs) (sym same) within))))
    (λ more. after_sets old ms (slice_set regs m.register.0 (Some v)) r more (omega (arith, within, length-set regs m.register.0 (Some v))))
    (first_or_rest m.register r (map (λ n. n.register) ms) h)

-- the sets are made, and the frame goes on
pub moves_set : (c : Context) (s : State) (ms : List MoveSet) (next : NodeId) (counts : List ℕ) → IsPlain c → IsSetFrame c.program s.frame → code_of c.program s.frame ≡ node.Moves ms next
    → IsSetFrame c.program (moved c 0 (record (set_all s ms s.frame) { counts = counts }))
moves_set c s ms next counts plain set is =
    subst (λ (f : Frame). IsSetFrame c.program (moved c 0 (record f { counts = counts }))) (sym (set_all_is s ms s.frame))
    (goes_set c s.frame (node.Moves ms next) 0 next (regs_after s ms s.frame.regs) counts plain set is refl (after_size s ms s.frame.regs) (after_still s ms s.frame.regs)
    (λ r h within. after_sets s ms s.frame.regs r h within))

-- ---- calls

-- counting the node changes nothing of what is set
pub counted_set : (p : ProgramData) (f : Frame) → IsSetFrame p f → IsSetFrame p (counted f)
counted_set p f s = record { code = s.code; there = s.there; at' = s.at'; size = s.size; before = s.before; leads = s.leads; params = s.params; set = s.set }

-- what waits does so below any frame of the same function
pub waits_as : (p : ProgramData) (f g : Frame) (fs : List Frame) → f.func ≡ g.func → WaitAtCalls p f fs → WaitAtCalls p g fs
waits_as p f g [] e waits = tt
waits_as p f g (caller ∷ callers) e waits = (subst (λ (h : FuncId). IsCallOf h (code_of p caller)) e waits.0, waits.1)

args_size : (regs : List RegType) (args : List Operand) (params : ℕ) (ts : List RegType) → params ≤ length ts → have regs args (take params ts) ≡ true → length args ≡ params
args_size regs [] zero ts few e = refl
args_size regs [] (suc params) [] few e = absurd (omega (arith, few))
args_size regs [] (suc params) (t ∷ ts) few e = cc
args_size regs (a ∷ args) zero ts few e = cc
args_size regs (a ∷ args) (suc params) [] few e = absurd (omega (arith, few))
args_size regs (a ∷ args) (suc params) (t ∷ ts) few e = ap suc (args_size regs args params ts (omega (arith, few)) (both (has regs a t) (have regs args (take params ts)) e).1)

abbrev unset_one : RegType → Option SymValue
unset_one t = None

entered_size : (args : List SymValue) (ts : List RegType) → length args ≤ length ts → length (map (λ (v : SymValue). Some v) args ++ map unset_one (drop (length args) ts)) ≡ length ts
entered_size [] ts few = length-map ts unset_one
entered_size (v ∷ args) [] few = absurd (omega (arith, few))
entered_size (v ∷ args) (t ∷ ts) few = ap suc (entered_size args ts (omega (arith, few)))

entered_has : (args : List SymValue) (rest : List (Option SymValue)) (r : ℕ) → r < length args → HasValue (map (λ (v : SymValue). Some v) args ++ rest) r
entered_has [] rest r within = absurd (omega (arith, within))
entered_has (v ∷ args) rest zero within = (v, refl)
entered_has (v ∷ args) rest (suc r) within = entered_has args rest r (omega (arith, within))

-- the frame that a call makes has its parameters set
pub entered_set : (c : Context) (callee : FuncId) (code : Func) (args : List SymValue) (name : List CallStep) → IsPlain c → func_at c.program callee ≡ Some code → length args ≡ code.params → code.params ≤ length code.regs
    → IsSetFrame c.program (entered c.program c.residual callee args name)
entered_set c callee code args name plain there size few =
    subst (λ residual. IsSetFrame c.program (entered c.program residual callee args name)) (sym plain.no_slice) (record {
      code = code;
      there = there;
      at' = refl;
      size = rw there (entered_size args code.regs (omega (arith, size, few)));
      before = [];
      leads = entry;
      params = λ r within. entered_has args (map (λ t. None) (drop (length args) (regs_of (func_at c.program callee)))) r (omega (arith, within, size));
      set = λ r h. absurd (no_set code r h);
    })

-- what a call's types say of its callee
pub record Callee (c : Context) (f : FuncId) (args : List Operand) : Type 0 where
  pub code : Func
  pub there : func_at c.program f ≡ Some code
  pub size : length args ≡ code.params
  pub few : code.params ≤ length code.regs

pub callee_is : (c : Context) (f : Frame) (callee : FuncId) (args : List Operand) (result : Option RegId) (next : NodeId) → IsPlain c → code_of c.program f ≡ node.Call callee args result next → Callee c callee args
callee_is c f callee args result next plain is =
    let types : List RegType = regs_of (func_at c.program f.func) in
    let fits : typed.calls types (slice_get c.program.funcs callee.0) args result ≡ true =
    subst (λ (x : Node). is_typed c.program.funcs types (result_of (func_at c.program f.func)) x ≡ true) is (node_typed c.program f.func (node_of f.place) plain.checked) in
    elim (slice_get c.program.funcs callee.0) as (λ o. slice_get c.program.funcs callee.0 ≡ o → typed.calls types o args result ≡ true → Callee c callee args) [
      | None ↦ λ e h. absurd (false≢true h)
      | Some code ↦ λ e h.
          let few = (func_whole c.program callee code plain.whole e).params in
          record {
            code = code;
            there = e;
            size = args_size types args code.params code.regs few (both (have types args (take code.params code.regs)) (sets types result code.result) h).0;
            few = few;
          }
    ] refl fits

-- ---- returns

returned : (mine theirs : List RegType) (result : Option RegId) (o : Option RegType) (s : State) (value : Option Operand) → sets theirs result o ≡ true → types.gives mine value o ≡ true → GivesValue result (option_map (value_in s) value)
returned mine theirs None o s value e h = tt
returned mine theirs (Some r) None s value e h = cc
returned mine theirs (Some r) (Some t) s None e h = cc
returned mine theirs (Some r) (Some t) s (Some a) e h = tt

resumed_at : (c : Context) (s : State) (value : Option Operand) (caller : Frame) (x : Node) → IsPlain c → IsSetFrame c.program caller → code_of c.program caller ≡ x → IsCallOf s.frame.func x → code_of c.program s.frame ≡ node.Ret value
    → IsSetFrame c.program (moved c 0 (set_if (call_result x) (option_map (value_in s) value) caller))
resumed_at c s value caller (node.Call callee args result next) plain set is calls ret =
    let mine : List RegType = regs_of (func_at c.program s.frame.func) in
    let theirs : List RegType = regs_of (func_at c.program caller.func) in
    let fits = subst (λ (x : Node). is_typed c.program.funcs mine (result_of (func_at c.program s.frame.func)) x ≡ true) ret (node_typed c.program s.frame.func (node_of s.frame.place) plain.checked) in
    let call = subst (λ (x : Node). is_typed c.program.funcs theirs (result_of (func_at c.program caller.func)) x ≡ true) is (node_typed c.program caller.func (node_of caller.place) plain.checked) in
    let given = returned mine theirs result (result_of (func_at c.program s.frame.func)) s value
    (call_sets c.program.funcs theirs (result_of (func_at c.program caller.func)) (node.Call callee args result next) s.frame.func calls call) fits in
    gives_set c caller (node.Call callee args result next) 0 next result (option_map (value_in s) value) caller.counts plain set is refl refl given
resumed_at c s value caller _ plain set is calls ret = absurd calls

-- the caller goes on behind its call, with the result
pub resumed_set : (c : Context) (s : State) (value : Option Operand) (caller : Frame) → IsPlain c → IsSetFrame c.program caller → IsCallOf s.frame.func (code_of c.program caller) → code_of c.program s.frame ≡ node.Ret value
    → IsSetFrame c.program (moved c 0 (set_if (call_result (code_of c.program caller)) (option_map (value_in s) value) caller))
resumed_set c s value caller plain set calls ret = resumed_at c s value caller (code_of c.program caller) plain set refl calls ret
