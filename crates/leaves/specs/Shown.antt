-- What contracts see of the code's events and leaves: the same, with no table of terms.
use Rattle.leaves.specs.declared.events.EventKind.{EventKind}
use Rattle.leaves.specs.declared.events.EventKind.TheVariants as event_kind
use Rattle.leaves.specs.declared.leaf.LeafKind.{LeafKind}
use Rattle.leaves.specs.declared.leaf.LeafKind.TheVariants as leaf_kind
use Rattle.leaves.specs.Events.{Event, Branch, Load, Leaf, Complete, Fault, Skipped, Open, Done}

abbrev pub event_of_kind : {H : Type 0} → EventKind H → Event
event_of_kind (event_kind.Branch func n side) = Branch func n side
event_of_kind (event_kind.Load func n value) = Load func n value

abbrev pub leaf_of_kind : {H : Type 0} → LeafKind H → Leaf
leaf_of_kind (leaf_kind.Complete told status output) = Complete told status output
leaf_of_kind (leaf_kind.Fault told kind func n output) = Fault told kind func n output
leaf_of_kind (leaf_kind.Skipped told kind func n) = Skipped told kind func n
leaf_of_kind (leaf_kind.Open told cause) = Open told cause
leaf_of_kind (leaf_kind.Done told entries result) = Done told entries result
