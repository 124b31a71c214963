-- What events and leaves are under an input and the results of the skipped calls.
use Rattle.std.specs.Prelude.{ℕ, List, map}
use Rattle.terms.specs.Value.{are_met_by}
use Rattle.flat_ir.specs.Machine as run
use Rattle.flat_ir.specs.Sound as sound
use Rattle.flat_ir.specs.Sound.{Claim}
use Rattle.sym_bytes.specs.Under.{Results, bits_under, value_under}
use Rattle.leaves.specs.Events.{Event, Branch, Load, Leaf, Complete, Fault, Skipped, Open, Done, told_of}

-- what the run shows
abbrev pub event_under : List ℕ → Results → Event → run.Event
event_under input results (Branch func n side) = run.Branched func n side
event_under input results (Load func n value) = run.Loaded func n (value_under input results value)

-- How the run ends. A recovery's leaf says of no whole run anything: as a leaf of an exploration it claims that there is none.
abbrev pub verdict_of : Leaf → List ℕ → sound.Verdict
verdict_of (Complete told status output) input = sound.Completes (bits_under input status) (map (bits_under input) output)
verdict_of (Fault told kind func n output) input = sound.Faults kind func n (map (bits_under input) output)
verdict_of (Skipped told kind func n) input = sound.Skips
verdict_of (Open told cause) input = sound.Opens
verdict_of (Done told entries result) input = sound.Skips

-- what a leaf says of each input
abbrev pub claim_of : Leaf → Claim
claim_of leaf = record {
  is_met = λ input. are_met_by input (told_of leaf).condition;
  path = λ input results. map (event_under input results) (told_of leaf).path;
  verdict = verdict_of leaf;
}
