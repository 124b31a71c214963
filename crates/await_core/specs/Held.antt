-- What lies in a place that was filled.
use Rattle.std.specs.Prelude.{Option, Some, None, IsSome}
use Rattle.std.proofs.lemmas.Bool.{false≢true}

-- the value that is there
abbrev pub held_value : {T : Type 0} (o : Option T) → IsSome o → T
held_value None there = absurd (false≢true there)
held_value (Some x) there = x
