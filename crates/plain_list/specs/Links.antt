-- One level of a list that shares its tail.
use Rattle.std.specs.Prelude.{List, [], ◌∷◌}
use Rattle.plain_list.specs.declared.shared.Link.{Link}
use Rattle.plain_list.specs.declared.shared.Link.TheVariants.{Start, Newest}

abbrev pub items_of : {T : Type 0} → Link T → List T
items_of Start = []
items_of (Newest item older) = item ∷ older
