use Rattle.std.proofs.Common.{◌≡◌, drop, map}
use Rattle.ir_programs.specs.Texts.{texts, number_among}
use Rattle.tree_constants.proofs.places.place_of_global.Given as goal

abbrev pub invariant-places : goal.invariant-places
invariant-places l = number_among 0 l.name (texts (map (λ g. g.name) l.globals)) ≡ number_among l.place l.name (texts (map (λ g. g.name) (drop l.place l.globals)))
