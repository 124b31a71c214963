-- The entries of a location since a length, item by item.
use Rattle.std.proofs.Common.{◌≡◌, ℕ, List, [], ◌∷◌, ◌++◌, ◌<◌, sym, ap, ◌∙◌, subst, append_assoc, length}
use Rattle.flat_ir.specs.declared.names.Location.{Location}
use Rattle.sym_bytes.specs.Entry.{Entry}
use Rattle.log_laws.specs.Logs.{Item, Log, entries_in, entries_since}
use Rattle.write_log.proofs.Steps.{since_walk}

pub since_on : (old : ℕ) (at : Location) (item : Item) (left older : Log) (list more all : List Entry)
    → left ≡ item ∷ older → old < length left → more ≡ list ++ entries_in at (item ∷ [])
    → list ++ entries_since old at left ≡ all → more ++ entries_since old at older ≡ all
since_on old at item left older list more all is bound pushed before =
    ap (λ l. l ++ entries_since old at older) pushed
    ∙ append_assoc list (entries_in at (item ∷ [])) (entries_since old at older)
    ∙ ap (λ es. list ++ es) (sym (since_walk old at item older (subst (λ l. old < length l) is bound)))
    ∙ ap (λ l. list ++ entries_since old at l) (sym is)
    ∙ before
