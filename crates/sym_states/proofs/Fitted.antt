-- What is done to a state keeps what holds of it.
use Rattle.std.proofs.Common.{ℕ, zero, suc, List, [], ◌∷◌, ◌++◌, length, slice_set, Option, Some, None}
use Rattle.flat_ir.specs.declared.names.RegId.{RegId}
use Rattle.sym_bytes.specs.Entry.{Entry}
use Rattle.sym_bytes.specs.Value.{SymValue}
use Rattle.leaves.specs.Events.{Event}
use Rattle.leaves.specs.Fitting.{ValueFits, ValueFitsIf, EntryFits, EventFits, EventsFit}
use Rattle.sym_states.specs.declared.frames.Place.{Place}
use Rattle.sym_states.specs.Fitting.{RegsFit, StateFits}
use Rattle.sym_states.specs.States.{Frame, State, appended, shown, in_frame, counted, set_if}

pub events-append : (n : ℕ) (es fs : List Event) → EventsFit n es → EventsFit n fs → EventsFit n (es ++ fs)
events-append n [] fs h k = k
events-append n (e ∷ es) fs h k = (h.0, events-append n es fs h.1 k)

pub regs-set : (n : ℕ) (regs : List (Option SymValue)) (k : ℕ) (v : SymValue) → RegsFit n regs → ValueFits n v → RegsFit n (slice_set regs k (Some v))
regs-set n [] k v h g = tt
regs-set n (w ∷ regs) zero v h g = (g, h.1)
regs-set n (w ∷ regs) (suc k) v h g = (h.0, regs-set n regs k v h.1 g)

pub appended-fits : (e : Entry) (s : State) → EntryFits (length s.kept) e → StateFits s → StateFits (appended e s)
appended-fits e s h fits = record { size = fits.size; frame = fits.frame; callers = fits.callers; globals = fits.globals; log = (h, fits.log); snapshots = fits.snapshots; condition = fits.condition; path = fits.path }

pub shown-fits : (e : Event) (s : State) → EventFits (length s.kept) e → StateFits s → StateFits (shown e s)
shown-fits e s h fits = record { size = fits.size; frame = fits.frame; callers = fits.callers; globals = fits.globals; log = fits.log; snapshots = fits.snapshots; condition = fits.condition; path = events-append (length s.kept) s.path (e ∷ []) fits.path (h, tt) }

pub set_if-fits : (n : ℕ) (r : Option RegId) (v : Option SymValue) (f : Frame) → ValueFitsIf n v → RegsFit n f.regs → RegsFit n (set_if r v f).regs
set_if-fits n None v f h fits = fits
set_if-fits n (Some r) None f h fits = fits
set_if-fits n (Some r) (Some v) f h fits = regs-set n f.regs r.0 v fits h

pub done-fits : (r : Option RegId) (v : Option SymValue) (place : Place) (s : State) → ValueFitsIf (length s.kept) v → StateFits s
    → StateFits (in_frame (record (set_if r v (counted s.frame)) { place = place }) s)
done-fits r v place s h fits = record { size = fits.size; frame = set_if-fits (length s.kept) r v (counted s.frame) h fits.frame; callers = fits.callers; globals = fits.globals; log = fits.log; snapshots = fits.snapshots; condition = fits.condition; path = fits.path }
