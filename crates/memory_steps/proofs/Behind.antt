-- Bytes that are read one after the other.
use Rattle.std.proofs.Common.{◌≡◌, ℕ, suc, ◌+◌, List, [], ◌∷◌, ◌++◌, length, refl, sym, ap, ◌∙◌, subst}
use Rattle.terms.specs.Tree.{Tree}
use Rattle.flat_ir.specs.declared.names.ObjectName.{ObjectName}
use Rattle.sym_bytes.specs.Building.{behind}
use Rattle.sym_bytes.specs.Byte.{SymByte}
use Rattle.leaves.specs.Fitting.{IsTermOf}
use Rattle.sym_states.specs.Attempts.{ReadBytes, read_one, read_all, before}
use Rattle.sym_states.specs.States.{State, Context, Step, Flow, On, Over, then_flow}
use Rattle.state_laws.specs.Kept.{StateFitsAt, FlowFits, ReadBytesFits}

-- what fits at n bytes fits at those that a state keeps, if it has n, and the other way round
pub term-own : (n w : ℕ) (s : State) (t : Tree) → StateFitsAt n s → IsTermOf n w t → IsTermOf (length s.kept) w t
term-own n w s t h k = subst (λ m. IsTermOf m w t) (sym h.size) k

pub state-back : (n : ℕ) (s u : State) → StateFitsAt n s → StateFitsAt (length s.kept) u → StateFitsAt n u
state-back n s u h k = subst (λ m. StateFitsAt m u) h.size k

append-one : {A : Type 0} (xs : List A) (x : A) (ys : List A) → xs ++ (x ∷ ys) ≡ (xs ++ x ∷ []) ++ ys
append-one [] x ys = refl
append-one (y ∷ xs) x ys = ap (λ zs. y ∷ zs) (append-one xs x ys)

append-none : {A : Type 0} (xs : List A) → xs ++ [] ≡ xs
append-none [] = refl
append-none (x ∷ xs) = ap (λ ys. x ∷ ys) (append-none xs)

pub nothing-before : (f : Flow ReadBytes) → then_flow f (before []) ≡ f
nothing-before (On r) = refl
nothing-before (Over step) = refl

before-one : (f : Flow ReadBytes) (bytes : List SymByte) (b : SymByte) → then_flow (then_flow f (before (b ∷ []))) (before bytes) ≡ then_flow f (before (bytes ++ b ∷ []))
before-one (On r) bytes b = ap (λ bs. On (record { bytes = bs; state = r.state })) (append-one bytes b r.bytes)
before-one (Over step) bytes b = refl

module _ (c : Context) (x : ObjectName) (offset : Tree) (m j : ℕ) (bytes : List SymByte) (s : State) where
  -- the rest, behind the next byte
  abbrev rest-of : Flow ReadBytes → Flow ReadBytes
  rest-of f = then_flow (then_flow f (λ r. then_flow (read_all c x offset m (j + 1) r.state) (before r.bytes))) (before bytes)

  pub read-more : (b : SymByte) (t : State) (whole : Flow ReadBytes) → read_one c x (behind offset j) s ≡ On (record { bytes = b ∷ []; state = t })
      → then_flow (read_all c x offset (suc m) j s) (before bytes) ≡ whole → then_flow (read_all c x offset m (j + 1) t) (before (bytes ++ b ∷ [])) ≡ whole
  read-more b t whole is h = sym (before-one (read_all c x offset m (j + 1) t) bytes b) ∙ sym (ap rest-of is) ∙ h

  pub read-over : (step : Step) (whole : Flow ReadBytes) → read_one c x (behind offset j) s ≡ Over step
      → then_flow (read_all c x offset (suc m) j s) (before bytes) ≡ whole → Over step ≡ whole
  read-over step whole is h = sym (ap rest-of is) ∙ h

  -- nothing is left to be read
  pub read-end : (whole : Flow ReadBytes) → then_flow (read_all c x offset 0 j s) (before bytes) ≡ whole → On (record { bytes = bytes; state = s }) ≡ whole
  read-end whole h = sym (ap (λ bs. On (record { bytes = bs; state = s })) (append-none bytes)) ∙ h
