-- What stores and new objects leave.
use Rattle.std.specs.Prelude.{min, ◌+◌, ◌%◌, ◌^◌}
use Rattle.std.proofs.Common.{◌≡◌, ℕ, zero, suc, List, ◌∷◌, length, Some, None, refl, sym, ◌∙◌, ap, subst}
use Rattle.flat_ir.specs.declared.names.NodeId.{NodeId}
use Rattle.flat_ir.specs.declared.program.ProgramData.{ProgramData}
use Rattle.flat_ir.specs.declared.values.Address.{Address}
use Rattle.flat_ir.specs.declared.values.ConcreteByte.{ConcreteByte}
use Rattle.flat_ir.specs.declared.values.ConcreteValue.{ConcreteValue}
use Rattle.flat_ir.specs.Effects.{written_in, stored_in}
use Rattle.flat_ir.specs.History.{History, Write, Alloc, position, output}
use Rattle.flat_ir.specs.Machine.{Event, made_here, at_node}
use Rattle.flat_ir.specs.Registers.{bytes_of_value, cut}
use Rattle.flat_ir.specs.Steps.{access_fault, unless, to, with_history}
use Rattle.concrete_memory.specs.declared.objects.Store.{Store}
use Rattle.concrete_memory.specs.Standing.{Stores}
use Rattle.concrete_machine.specs.declared.machine.Machine.{Machine}
use Rattle.concrete_machine.specs.declared.machine.Led.TheVariants.{On}
use Rattle.concrete_machine.specs.Frames.{frame_of, state_at, TurnsTo}
use Rattle.concrete_machine.specs.Making.{Makes}
use Rattle.concrete_machine.specs.Standing.{Remembers, Leads}
use Rattle.concrete_machine.proofs.Leading.{leads_past, stands_moved}

-- a write reads no input and writes nothing out
position_written : (a : Address) (b : ConcreteByte) (j : ℕ) (h : History) → position (written_in a b j h) ≡ position h
position_written a b j h = elim a.base as (λ o. position (elim o [ None ↦ h | Some x ↦ Write x ((a.offset + j) % 2 ^ 64) b ∷ h ]) ≡ position h) [ None ↦ refl | Some x ↦ refl ]

output_written : (a : Address) (b : ConcreteByte) (j : ℕ) (h : History) → output (written_in a b j h) ≡ output h
output_written a b j h = elim a.base as (λ o. output (elim o [ None ↦ h | Some x ↦ Write x ((a.offset + j) % 2 ^ 64) b ∷ h ]) ≡ output h) [ None ↦ refl | Some x ↦ refl ]

pub position_stored : (n j : ℕ) (a : Address) (v : ConcreteValue) (h : History) → position (stored_in n j a v h) ≡ position h
position_stored zero j a v h = refl
position_stored (suc n) j a v h = position_stored n (j + 1) a v (written_in a (cut v j) j h) ∙ position_written a (cut v j) j h

pub output_stored : (n j : ℕ) (a : Address) (v : ConcreteValue) (h : History) → output (stored_in n j a v h) ≡ output h
output_stored zero j a v h = refl
output_stored (suc n) j a v h = output_stored n (j + 1) a v (written_in a (cut v j) j h) ∙ output_written a (cut v j) j h

-- a store that passed its tests
pub store_leads : (p : ProgramData) (input : List ℕ) (old new : Machine) (store : Store) (next : NodeId) (at at' : Address) (v v' : ConcreteValue) (h : History) (events : List Event)
    → at ≡ at' → v ≡ v' → Remembers p input old h → Stores p store at v h → TurnsTo (record old { store = store }) new (at_node next (frame_of old.frame))
    → Leads p input new On (unless (access_fault p h (bytes_of_value v') at') (state_at old h events) (to next (with_history (stored_in (bytes_of_value v') 0 at' v' h) (state_at old h events))))
store_leads p input old new store next at at' v v' h events same_at same_v remembers stores turns =
    let L : Address → ConcreteValue → Type 0 = λ a w. Leads p input new On (unless (access_fault p h (bytes_of_value w) a) (state_at old h events) (to next (with_history (stored_in (bytes_of_value w) 0 a w h) (state_at old h events)))) in
    subst (λ a. L a v') same_at (subst (λ w. L at w) same_v
    (leads_past p input new On _ _ _ stores.passes (stands_moved p input old (record old { store = store }) new _ _ events (record {
      memory = stores.stands;
      position = remembers.position ∙ ap (λ k. min k (length input)) (sym (position_stored (bytes_of_value v) 0 at v h));
      output = remembers.output ∙ sym (output_stored (bytes_of_value v) 0 at v h);
    }) refl turns)))

-- a new object
pub remembers_made : (p : ProgramData) (input : List ℕ) (old new : Machine) (size : ℕ) (made : ConcreteValue) (h : History)
    → Remembers p input old h → Makes old new size made → Remembers p input new (Alloc (made_here (frame_of old.frame)) size ∷ h)
remembers_made p input old new size made h remembers makes = record {
  memory = makes.memory p h remembers.memory;
  position = makes.position ∙ remembers.position;
  output = makes.output ∙ remembers.output;
}
