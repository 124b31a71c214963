-- What moves, switches, input and output leave.
use Rattle.std.specs.Prelude.{map, min, nat_lt, slice_get, ◌==◌, if◌then◌else◌}
use Rattle.std.proofs.Common.{◌≡◌, ℕ, zero, suc, ◌+◌, Bool, true, false, List, [], ◌∷◌, ◌++◌, length, refl, sym, ◌∙◌, ap, subst, arith}
use Rattle.std.proofs.lemmas.Bool.Decides.{nat_tests}
use Rattle.flat_ir.specs.declared.names.NodeId.{NodeId}
use Rattle.flat_ir.specs.declared.nodes.MoveSet.{MoveSet}
use Rattle.flat_ir.specs.declared.nodes.SwitchCase.{SwitchCase}
use Rattle.flat_ir.specs.declared.program.ProgramData.{ProgramData}
use Rattle.flat_ir.specs.History.{History, Put, Get, position}
use Rattle.flat_ir.specs.Machine as run
use Rattle.flat_ir.specs.Machine.{set, value_in}
use Rattle.flat_ir.specs.Steps.{set_all, case_of}
use Rattle.concrete_memory.specs.declared.objects.Store.{Store}
use Rattle.concrete_memory.specs.Standing.{StandsFor}
use Rattle.concrete_memory.proofs.Untouched.{stands_put, stands_get}
use Rattle.concrete_machine.specs.declared.machine.Machine.{Machine}
use Rattle.concrete_machine.specs.Control.{target_of, all_set, ReadsOn}
use Rattle.concrete_machine.specs.Standing.{Remembers}

-- sets that were read first are made at once
pub moved : (old : run.Frame) (sets : List MoveSet) (frame : run.Frame) → all_set (map (λ m. (m.register, value_in old m.value)) sets) frame ≡ set_all old sets frame
moved old [] frame = refl
moved old (m ∷ ms) frame = moved old ms (set m.register (value_in old m.value) frame)

pub target_is : (v k : ℕ) (cases : List SwitchCase) (otherwise : NodeId) → target_of v cases otherwise ≡ (case_of v k cases otherwise).1
target_is v k [] otherwise = refl
target_is v k (c ∷ cs) otherwise = by_test (c.number.bits == v) (target_is v (k + 1) cs otherwise)
  where
    by_test : (t : Bool) → target_of v cs otherwise ≡ (case_of v (k + 1) cs otherwise).1
        → (if t then c.to else target_of v cs otherwise) ≡ (if t then (k, c.to) else case_of v (k + 1) cs otherwise).1
    by_test true rest = refl
    by_test false rest = rest

-- behind its end a list has no more
pub get_until : {A : Type 0} (xs : List A) (k m : ℕ) → m ≡ min k (length xs) → slice_get xs m ≡ slice_get xs k
get_until [] k m is = refl
get_until (x ∷ xs) zero zero is = refl
get_until (x ∷ xs) zero (suc m) is = absurd (omega arith)
get_until (x ∷ xs) (suc k) zero is = absurd (omega arith)
get_until (x ∷ xs) (suc k) (suc m) is = get_until xs k m (omega arith)

pub remembers_put : (p : ProgramData) (input : List ℕ) (m : Machine) (h : History) (out : List ℕ) (b b' : ℕ)
    → Remembers p input m h → out ≡ m.output ++ b ∷ [] → b ≡ b' → Remembers p input (record m { output = out }) (Put b' ∷ h)
remembers_put p input m h out b b' remembers pushed same = record {
  memory = stands_put p m.store h b' remembers.memory;
  position = remembers.position;
  output = pushed ∙ ap (λ o. o ++ b ∷ []) remembers.output ∙ ap (λ x. Rattle.flat_ir.specs.History.output h ++ x ∷ []) same;
}

pub remembers_read : (p : ProgramData) (input : List ℕ) (old new : Machine) (h : History) → Remembers p input old h → ReadsOn old new input → Remembers p input new (Get ∷ h)
remembers_read p input old new h remembers reads = record {
  memory = subst (λ (s : Store). StandsFor p s (Get ∷ h)) (sym reads.store) (stands_get p old.store h remembers.memory);
  position = reads.position ∙ further old.position (position h) (length input) remembers.position;
  output = reads.output ∙ remembers.output;
}
  where
    further : (at here end : ℕ) → at ≡ min here end → (if nat_lt at end then at + 1 else at) ≡ min (here + 1) end
    further at here end is = grind (arith, nat_tests)
