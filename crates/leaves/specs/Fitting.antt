-- Terms over the first n bytes of input, and what is made of them.
use Rattle.std.specs.Prelude.{◌≡◌, ℕ, ◌≤◌, List, [], ◌∷◌, length, Option, Some, None, IfSome}
use Rattle.terms.specs.Tree.{Tree, IsTree, width_of}
use Rattle.terms.specs.Value.{ReadsBelow}
use Rattle.sym_bytes.specs.Byte as byte
use Rattle.sym_bytes.specs.Byte.{SymByte}
use Rattle.sym_bytes.specs.Entry as entry
use Rattle.sym_bytes.specs.Entry.{Entry}
use Rattle.sym_bytes.specs.Value as value
use Rattle.sym_bytes.specs.Value.{SymValue}
use Rattle.leaves.specs.Events.{Event, Branch, Load, Recovered, Told, Leaf, Complete, Fault, Skipped, Open, Done}

-- a term over the first n bytes
pub record IsTerm (n : ℕ) (t : Tree) : Type 0 where
  pub tree : IsTree t
  pub reads : ReadsBelow n t

-- one of so many bits
pub record IsTermOf (n width : ℕ) (t : Tree) : Type 0 where
  pub term : IsTerm n t
  pub has_width : width_of t ≡ width

abbrev pub AreTermsOf : ℕ → ℕ → List Tree → Type 0
AreTermsOf n width [] = Unit {0}
AreTermsOf n width (t ∷ ts) = IsTermOf n width t × AreTermsOf n width ts

abbrev pub ValueFits : ℕ → SymValue → Type 0
ValueFits n (value.Int t) = IsTerm n t
ValueFits n (value.Ptr p) = IsTermOf n 64 p.offset
ValueFits n (value.Pending c t) = Unit {0}

abbrev pub ValueFitsIf : ℕ → Option SymValue → Type 0
ValueFitsIf n None = Unit {0}
ValueFitsIf n (Some v) = ValueFits n v

abbrev pub ByteFits : ℕ → SymByte → Type 0
ByteFits n (byte.Int t) = IsTermOf n 8 t
ByteFits n (byte.PtrByte p j) = IsTermOf n 64 p.offset
ByteFits n (byte.PendingByte c t j) = Unit {0}

abbrev pub BytesFit : ℕ → List SymByte → Type 0
BytesFit n [] = Unit {0}
BytesFit n (b ∷ bs) = ByteFits n b × BytesFit n bs

abbrev pub EntryFits : ℕ → Entry → Type 0
EntryFits n (entry.Write x offset bytes) = IsTermOf n 64 offset × (length bytes ≤ 8) × BytesFit n bytes
EntryFits n (entry.Alloc x size) = IsTermOf n 64 size
EntryFits n (entry.Free x) = Unit {0}
EntryFits n (entry.Put t) = IsTermOf n 8 t
EntryFits n entry.Get = Unit {0}

abbrev pub EntriesFit : ℕ → List Entry → Type 0
EntriesFit n [] = Unit {0}
EntriesFit n (e ∷ es) = EntryFits n e × EntriesFit n es

abbrev pub EventFits : ℕ → Event → Type 0
EventFits n (Branch func node side) = Unit {0}
EventFits n (Load func node v) = ValueFits n v

abbrev pub EventsFit : ℕ → List Event → Type 0
EventsFit n [] = Unit {0}
EventsFit n (e ∷ es) = EventFits n e × EventsFit n es

abbrev pub ResultsFit : ℕ → List Recovered → Type 0
ResultsFit n [] = Unit {0}
ResultsFit n (r ∷ rs) = ValueFits n r.value × ResultsFit n rs

-- conjuncts have one bit
pub record ToldFitsIn (n : ℕ) (t : Told) : Type 0 where
  pub condition : AreTermsOf n 1 t.condition
  pub path : EventsFit n t.path
  pub results : ResultsFit n t.results

-- what is told reads no byte past the kept input
abbrev pub ToldFits : Told → Type 0
ToldFits t = IfSome t.kept (λ kept. ToldFitsIn (length kept) t)

-- a status and what is written out have 8 bits
pub record EndFitsIn (n : ℕ) (status : Tree) (output : List Tree) : Type 0 where
  pub status_fits : IsTermOf n 8 status
  pub output_fits : AreTermsOf n 8 output

pub record DoneFitsIn (n : ℕ) (entries : List Entry) (result : Option SymValue) : Type 0 where
  pub entries_fit : EntriesFit n entries
  pub result_fits : ValueFitsIf n result

abbrev pub LeafFits : Leaf → Type 0
LeafFits (Complete told status output) = ToldFits told × IfSome told.kept (λ kept. EndFitsIn (length kept) status output)
LeafFits (Fault told kind func n output) = ToldFits told × IfSome told.kept (λ kept. AreTermsOf (length kept) 8 output)
LeafFits (Skipped told kind func n) = ToldFits told
LeafFits (Open told cause) = ToldFits told
LeafFits (Done told entries result) = ToldFits told × IfSome told.kept (λ kept. DoneFitsIn (length kept) entries result)

abbrev pub LeavesFit : List Leaf → Type 0
LeavesFit [] = Unit {0}
LeavesFit (l ∷ ls) = LeafFits l × LeavesFit ls
