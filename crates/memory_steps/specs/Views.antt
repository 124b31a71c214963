-- How the code's results of accesses show themselves: the same, with no table of terms.
use Rattle.std.specs.Prelude.{◌≡◌, ℕ, [], ◌∷◌}
use Rattle.sym_states.specs.Attempts as attempts
use Rattle.sym_states.specs.Attempts.{either_way}
use Rattle.sym_states.specs.Sides.{Tested}
use Rattle.sym_states.specs.States as states
use Rattle.state_laws.specs.Kept.{StateFitsAt}
use Rattle.state_sides.specs.Views.{state_seen, step_seen}
use Rattle.memory_steps.specs.declared.accesses.Reached.{Reached}
use Rattle.memory_steps.specs.declared.loading.Valued.{Valued}
use Rattle.memory_steps.specs.declared.reading.OneByte.{OneByte}
use Rattle.memory_steps.specs.declared.reading.ReadBytes.{ReadBytes}
use Rattle.memory_steps.specs.declared.reading.Tried.{Tried}
use Rattle.memory_steps.specs.declared.reading.Tried.TheVariants.{Byte, Again, Over}

module _ {H K : Type 0} where
  abbrev pub reached_seen : Reached H K → attempts.Reached
  reached_seen r = record { object = r.object; offset = r.offset; state = state_seen r.state }

  abbrev pub bytes_seen : ReadBytes H K → attempts.ReadBytes
  bytes_seen r = record { bytes = r.bytes; state = state_seen r.state }

  abbrev pub byte_seen : OneByte H K → attempts.ReadBytes
  byte_seen r = record { bytes = r.byte ∷ []; state = state_seen r.state }

  abbrev pub valued_seen : Valued H K → attempts.Valued
  valued_seen v = record { value = v.value; state = state_seen v.state }

  -- a byte that was tried goes on to the next try where a test was taken
  abbrev pub tried_then : Tried H K → (states.State → states.Flow attempts.ReadBytes) → states.Flow attempts.ReadBytes
  tried_then (Byte one) next = states.On (byte_seen one)
  tried_then (Again s) next = next (state_seen s)
  tried_then (Over step) next = states.Over (step_seen step)

  -- whichever the side of the test, it is tried again
  abbrev pub IsEitherWay : Tested → Tried H K → Type 0
  IsEitherWay t tried = (next : states.State → states.Flow attempts.ReadBytes) → tried_then tried next ≡ either_way t next

  -- the state that goes on to the next try fits
  abbrev pub TriedFits : ℕ → Tried H K → Type 0
  TriedFits n (Byte one) = Unit {0}
  TriedFits n (Again s) = StateFitsAt n (state_seen s)
  TriedFits n (Over step) = Unit {0}
