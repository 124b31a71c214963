-- What contracts see of the code's items: the same, with no table of terms.
use Rattle.log_laws.specs.Logs.{Item, Did, Marked}
use Rattle.write_log.specs.declared.items.ItemKind.{ItemKind}
use Rattle.write_log.specs.declared.items.ItemKind.TheVariants as kind

abbrev pub item_of : {H : Type 0} → ItemKind H → Item
item_of (kind.Did e) = Did e
item_of (kind.Marked call mods fills) = Marked call mods fills
