-- What ends need: their values and leaves fit.
use Rattle.std.proofs.Common.{◌≡◌, ℕ, List, Option, Some, None, sym, subst}
use Rattle.std.specs.Option.{option_map, option_to_list}
use Rattle.flat_ir.specs.declared.nodes.Operand.{Operand}
use Rattle.terms.specs.Tree.{Tree}
use Rattle.sym_bytes.specs.Entry.{Entry}
use Rattle.sym_bytes.specs.Value.{SymValue}
use Rattle.log_laws.specs.Logs.{output, entries_since}
use Rattle.leaves.specs.Events as events
use Rattle.leaves.specs.Events.{Leaf, Told}
use Rattle.leaves.specs.Fitting.{ValueFitsIf, DoneFitsIn, LeafFits}
use Rattle.sym_states.specs.declared.frames.Target.{Target}
use Rattle.sym_states.specs.Attempts.{if_result}
use Rattle.sym_states.specs.States.{State, told}
use Rattle.sym_states.specs.Terms.{value_in, status_of}
use Rattle.state_laws.specs.Kept.{StateFitsAt, OperandsFit}
use Rattle.state_laws.proofs.States.{parts_of, told-own, value_in-fits}
use Rattle.state_laws.proofs.Ends.{completed-fits, entries_since-fit, if_result-fits}

-- the value of an operand, if there is one
pub returned-fits : (n : ℕ) (s : State) (operand : Option Operand) (v : Option SymValue) → v ≡ option_map (value_in s) operand
    → OperandsFit (option_to_list operand) → StateFitsAt n s → ValueFitsIf n v
returned-fits n s None v e k h = subst (ValueFitsIf n) (sym e) tt
returned-fits n s (Some a) v e k h = subst (ValueFitsIf n) (sym e) (value_in-fits n s a h k.0).fits

pub complete-fits : (n : ℕ) (s : State) (v : Option SymValue) (t : Told) (status : Tree) (bytes : List Tree)
    → t ≡ told s → status ≡ status_of v → bytes ≡ output s.memory.log → ValueFitsIf n v → StateFitsAt n s → LeafFits (events.Complete t status bytes)
complete-fits n s v t status bytes same ends shows k h =
    let e : events.Complete t status bytes ≡ events.Complete (told s) (status_of v) (output s.memory.log) = cc in
    subst LeafFits (sym e) (completed-fits n v s k h).fits

pub done-fits : (n : ℕ) (s : State) (target : Target) (v result : Option SymValue) (t : Told) (entries : List Entry)
    → t ≡ told s → entries ≡ entries_since target.length target.at s.memory.log → result ≡ if_result target.at v → ValueFitsIf n v → StateFitsAt n s → LeafFits (events.Done t entries result)
done-fits n s target v result t entries same appended gives k h =
    let e : events.Done t entries result ≡ events.Done (told s) (entries_since target.length target.at s.memory.log) (if_result target.at v) = cc in
    let given : DoneFitsIn n (entries_since target.length target.at s.memory.log) (if_result target.at v) = record {
      entries_fit = entries_since-fit n target.length target.at s.memory.log (parts_of n s h).log;
      result_fits = if_result-fits n target.at v k;
    } in
    subst LeafFits (sym e) (told-own n s h, subst (λ m. DoneFitsIn m (entries_since target.length target.at s.memory.log) (if_result target.at v)) (sym h.size) given)
