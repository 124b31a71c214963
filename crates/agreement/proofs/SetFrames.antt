-- Registers that a frame's node reads are set, and what a node's end keeps of that.
use Rattle.std.proofs.Common.{◌≡◌, ℕ, zero, suc, ◌<◌, List, [], ◌∷◌, length, slice_set, Option, Some, None, unwrap_or, refl, sym, ◌∙◌, ap, subst, arith, ⊎_elim, ◌⊎◌, inl, inr}
use Rattle.std.specs.Prelude.{slice_get}
use Rattle.std.specs.List.{Contains, flat_map, AllByRecursion as Each}
use Rattle.std.proofs.lemmas.Bool.{cases_lt}
use Rattle.std.proofs.lemmas.Option.{none-some}
use Rattle.std.proofs.lemmas.List.Elements.{Contains-append_left, Contains-append_right}
use Rattle.checks.specs.Errors.{IsChecked}
use Rattle.flow.specs.Flow.{goes, reads, read_by}
use Rattle.flow.proofs.Bridges.{none_there, same_node, first_or_later}
use Rattle.flat_ir.specs.declared.names.NodeId.{NodeId}
use Rattle.flat_ir.specs.declared.names.RegId.{RegId}
use Rattle.flat_ir.specs.declared.nodes.Node.{Node}
use Rattle.flat_ir.specs.declared.nodes.Node.TheVariants as node
use Rattle.flat_ir.specs.declared.nodes.Operand.{Operand}
use Rattle.flat_ir.specs.declared.nodes.Operand.TheVariants as operand
use Rattle.flat_ir.specs.declared.program.Func.{Func}
use Rattle.flat_ir.specs.declared.program.ProgramData.{ProgramData}
use Rattle.flat_ir.specs.Machine.{nodes_of}
use Rattle.flat_ir.specs.Whole.{operands_of, results_of, successors_of}
use Rattle.sym_bytes.specs.Value.{SymValue}
use Rattle.sym_states.specs.declared.frames.Place.TheVariants.{At}
use Rattle.sym_states.specs.States.{Frame, State, node_of, code_of}
use Rattle.agreement.specs.Premises.{HasValue, IsSetFrame}
use Rattle.agreement.proofs.Along.{IsGiven}

-- ---- what a node reads

-- a register has a value, or it has none
has_or_not : (regs : List (Option SymValue)) (r : ℕ) → HasValue regs r ⊎ (HasValue regs r → ⊥)
has_or_not regs r =
    elim (slice_get regs r) as (λ o. slice_get regs r ≡ o → HasValue regs r ⊎ (HasValue regs r → ⊥)) [
      | None ↦ λ e. inr (λ has. none-some (Some has.0) (sym e ∙ has.1))
      | Some o ↦ λ e. elim o as (λ q. slice_get regs r ≡ Some q → HasValue regs r ⊎ (HasValue regs r → ⊥)) [
        | None ↦ λ f. inr (λ has. unset (slice_get regs r) has.0 f has.1)
        | Some v ↦ λ f. inl (v, f)
      ] e
    ] refl
  where
    unset : (o : Option (Option SymValue)) (v : SymValue) → o ≡ Some None → o ≡ Some (Some v) → ⊥
    unset o v e f = cc

-- the node at which the frame stands is there, or it is Unreachable
pub node_there : (p : ProgramData) (f : Frame) (s : IsSetFrame p f) (x : Node) → code_of p f ≡ x → (slice_get s.code.nodes (node_of f.place).0 ≡ Some x) ⊎ (x ≡ node.Unreachable)
node_there p f s x is =
    let at : unwrap_or (slice_get s.code.nodes (node_of f.place).0) node.Unreachable ≡ x =
    sym (ap (λ (o : Option Func). unwrap_or (slice_get (nodes_of o) (node_of f.place).0) node.Unreachable) s.there) ∙ is in
    elim (slice_get s.code.nodes (node_of f.place).0) as (λ o. slice_get s.code.nodes (node_of f.place).0 ≡ o → unwrap_or o node.Unreachable ≡ x → (slice_get s.code.nodes (node_of f.place).0 ≡ Some x) ⊎ (x ≡ node.Unreachable)) [
      | None ↦ λ e h. inr (sym h)
      | Some y ↦ λ e h. inl (e ∙ ap (λ (z : Node). Some z) h)
    ] refl at

reads_none : (r : RegId) → Contains (reads node.Unreachable) r → ⊥
reads_none r h = none_there r h

-- what the node reads is set
pub is_set : (p : ProgramData) (f : Frame) (x : Node) (r : RegId) → IsSetFrame p f → IsChecked p.funcs → code_of p f ≡ x → Contains (reads x) r → HasValue f.regs r.0
is_set p f x r s checked is read =
    elim (has_or_not f.regs r.0) [
      | inl has ↦ has
      | inr none ↦ absurd (⊎_elim
          (λ there. elim (cases_lt r.0 s.code.params) [
            | inl param ↦ none (s.params r.0 param)
            | inr past ↦ (checked f.func.0 s.code s.there (node_of f.place).0).undefined r (record {
              node = x;
              there = there;
              read = read;
              no_param = past;
              before = s.before;
              leads = s.leads;
              unset = λ h. none (s.set r h);
            })
          ])
          (λ gone. reads_none r (subst (λ y. Contains (reads y) r) gone read))
          (node_there p f s x is))
    ]

given_all : (s : State) (operands : List Operand) → ((r : RegId) → Contains (flat_map read_by operands) r → HasValue s.frame.regs r.0) → Each (IsGiven s) operands
given_all s [] has = tt
given_all s (a ∷ operands) has = (given a (λ r h. has r (Contains-append_left (read_by a) (flat_map read_by operands) r h)), given_all s operands (λ r h. has r (Contains-append_right (read_by a) (flat_map read_by operands) r h)))
  where
    given : (a : Operand) → ((r : RegId) → Contains (read_by a) r → HasValue s.frame.regs r.0) → IsGiven s a
    given (operand.Reg r) h = h r (0, omega arith, refl)
    given (operand.Int n) h = tt
    given operand.Null h = tt
    given (operand.Global g offset) h = tt

-- each operand of the node has a value
pub are_given : (p : ProgramData) (s : State) (x : Node) → IsSetFrame p s.frame → IsChecked p.funcs → code_of p s.frame ≡ x → Each (IsGiven s) (operands_of x)
are_given p s x h checked is = given_all s (operands_of x) (λ r read. is_set p s.frame x r h checked is read)

-- ---- registers that are set

-- what has a value keeps one
pub still_has : (regs : List (Option SymValue)) (k : ℕ) (v : SymValue) (r : ℕ) → HasValue regs r → HasValue (slice_set regs k (Some v)) r
still_has [] k v r h = h
still_has (x ∷ xs) zero v zero h = (v, refl)
still_has (x ∷ xs) zero v (suc r) h = h
still_has (x ∷ xs) (suc k) v zero h = h
still_has (x ∷ xs) (suc k) v (suc r) h = still_has xs k v r h

pub now_has : (regs : List (Option SymValue)) (k : ℕ) (v : SymValue) → k < length regs → HasValue (slice_set regs k (Some v)) k
now_has [] k v within = absurd (omega (arith, within))
now_has (x ∷ xs) zero v within = (v, refl)
now_has (x ∷ xs) (suc k) v within = now_has xs k v (omega (arith, within))

-- The frame behind its node, with these registers: what had a value has one, and so has what the node sets.
pub frame_behind : (p : ProgramData) (f : Frame) (x : Node) (m : NodeId) (regs : List (Option SymValue)) (counts : List ℕ) → (s : IsSetFrame p f) → slice_get s.code.nodes (node_of f.place).0 ≡ Some x
    → Contains (successors_of x) m → length regs ≡ length f.regs → ((r : ℕ) → HasValue f.regs r → HasValue regs r) → ((r : RegId) → Contains (results_of x) r → HasValue regs r.0)
    → IsSetFrame p (record { func = f.func; place = At m; regs = regs; name = f.name; counts = counts })
frame_behind p f x m regs counts s there leads size still sets = record {
  code = s.code;
  there = s.there;
  at' = refl;
  size = size ∙ s.size;
  before = node_of f.place ∷ s.before;
  leads = goes x s.leads there leads;
  params = λ r param. still r (s.params r param);
  set = λ r h. ⊎_elim
      (λ e. sets r (subst (λ (y : Node). Contains (results_of y) r)
      (same_node h.node x (slice_get s.code.nodes h.at'.0) h.there (ap (λ (n : NodeId). slice_get s.code.nodes n.0) (sym e) ∙ there)) h.sets))
      (λ more. still r.0 (s.set r (record { at' = h.at'; node = h.node; among = more; there = h.there; sets = h.sets })))
      (first_or_later (node_of f.place) s.before h.at' h.among);
}
