-- How the code's types show what a state takes of its sides.
use Rattle.std.specs.Prelude.{◌≡◌, ℕ, List, [], ◌∷◌, map, Option, Some, None}
use Rattle.state_sides.specs.declared.sides.Offer as code_offer
use Rattle.state_sides.specs.declared.sides.Offer.TheVariants as code
use Rattle.state_sides.specs.declared.sides.Offspring as code_offspring
use Rattle.state_sides.specs.declared.sides.Offspring.TheVariants as offspring
use Rattle.state_sides.specs.declared.sides.Tested as code_tested
use Rattle.state_sides.specs.declared.sides.Tested.TheVariants as tested_case
use Rattle.state_sides.specs.declared.sides.Way.{Way}
use Rattle.state_sides.specs.declared.sides.Way.TheVariants.{Stays, Takes}
use Rattle.sym_states.specs.States.{State, Context}
use Rattle.sym_states.specs.Attempts.{took}
use Rattle.sym_states.specs.Sides.{Offspring, Lives, Spends, Offer, Alone, Several, Tested, Good, Bad, Answered, stays}
use Rattle.state_sides.specs.Views.{state_seen, step_seen}

-- what the child of a side does
abbrev pub taking : Context → Way → ℕ → State → State
taking c Stays = stays
taking c Takes = took c

module _ {H : Type 0} where
  abbrev pub offspring_seen : code_offspring.Offspring H → Offspring
  offspring_seen (offspring.Lives side condition kept) = Lives side condition kept
  offspring_seen (offspring.Spends condition) = Spends condition

  abbrev pub maybe_seen : Option (code_offspring.Offspring H) → List Offspring
  maybe_seen None = []
  maybe_seen (Some o) = offspring_seen o ∷ []

module _ {H K : Type 0} where
  -- the code's offer of a state is this one; of several sides it keeps the state
  abbrev pub IsOffer : code_offer.Offer H K → State → Offer → Type 0
  IsOffer (code.Alone side t) s o = o ≡ Alone side (state_seen t)
  IsOffer (code.Several t os) s o = (state_seen t ≡ s) × (o ≡ Several (map offspring_seen os.items))

  abbrev pub tested_seen : code_tested.Tested H K → Tested
  tested_seen (tested_case.Good s) = Good (state_seen s)
  tested_seen (tested_case.Bad s) = Bad (state_seen s)
  tested_seen (tested_case.Answered step) = Answered (step_seen step)
