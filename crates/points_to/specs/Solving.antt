-- What the tables of all holders say, and how they grow.
use Rattle.std.specs.Prelude.{◌≡◌, ◌<◌, ◌≤◌, ◌⊎◌, ℕ, zero, suc, Bool, true, false, List, length, slice_index_or}
use Rattle.std.specs.List.{Contains}
use Rattle.flat_ir.specs.declared.names.Site.{Site}
use Rattle.flat_ir.specs.declared.names.Site.TheVariants as site
use Rattle.points_to.specs.declared.holders.Holder.{Holder}
use Rattle.points_to.specs.declared.holders.Holder.TheVariants.{Register, Returned, Bytes, Address, Nothing}
use Rattle.points_to.specs.declared.holders.Inclusion.{Inclusion}
use Rattle.points_to.specs.declared.holders.Inclusion.TheVariants.{Names, Copies, Loads, Stores, Moves}
use Rattle.points_to.specs.declared.tables.Place.{Place}
use Rattle.points_to.specs.Points.{Points}
use Rattle.points_to.specs.Rows as rows
use Rattle.points_to.specs.Rows.{IsSmall, AreSmall, Key, In, Tables, AreTables, size, bound}

-- where a holder's row stands: registers, nodes, globals, functions; the others have none
abbrev pub place_of : Holder → Place
place_of (Register f r) = record { kind = 0; part = f.0; at = r.0 }
place_of (Bytes (site.Node f n)) = record { kind = 1; part = f.0; at = n.0 }
place_of (Bytes (site.Global g)) = record { kind = 2; part = 0; at = g }
place_of (Returned f) = record { kind = 3; part = 0; at = f.0 }
place_of (Address g) = record { kind = 4; part = 0; at = g }
place_of Nothing = record { kind = 5; part = 0; at = 0 }

abbrev pub key_at : Place → Site → Key
key_at place s = (place.kind, (place.part, (place.at, s)))

abbrev pub key_of : Holder → Site → Key
key_of h s = key_at (place_of h) s

-- whose row stands there
abbrev pub holder_at : ℕ → ℕ → ℕ → Holder
holder_at zero part at' = Register (record { 0 = part }) (record { 0 = at' })
holder_at (suc zero) part at' = Bytes (site.Node (record { 0 = part }) (record { 0 = at' }))
holder_at (suc (suc zero)) part at' = Bytes (site.Global at')
holder_at (suc (suc (suc zero))) part at' = Returned (record { 0 = at' })
holder_at (suc (suc (suc (suc zero)))) part at' = Address at'
holder_at (suc (suc (suc (suc (suc k))))) part at' = Nothing

-- the tables have the site for the holder
abbrev pub Has : Tables → Holder → Site → Type 0
Has t (Register f r) s = In t (key_of (Register f r) s)
Has t (Returned f) s = In t (key_of (Returned f) s)
Has t (Bytes (site.Global g)) s = In t (key_of (Bytes (site.Global g)) s)
Has t (Bytes (site.Node f n)) s = In t (key_of (Bytes (site.Node f n)) s)
Has t (Address g) s = s ≡ site.Global g
Has t Nothing s = ⊥

-- the tables have nothing but what is asked
abbrev pub IsSound : List Inclusion → Tables → Type 0
IsSound list t = (k : Key) → In t k → Points list (holder_at k.0 k.1.0 k.1.1.0) k.1.1.1

-- the list has the sites that are so
pub record AreThose (P : Site → Type 0) (sites : List Site) : Type 0 where
  pub only : (s : Site) → Contains sites s → P s
  pub all : (s : Site) → P s → Contains sites s
  pub small : AreSmall sites

-- what the bytes of some sites may point to
abbrev pub HeldBy : Tables → List Site → Site → Type 0
HeldBy t targets s = (u : Site) × Contains targets u × Has t (Bytes u) s

-- what the bytes of the first of them may point to
abbrev pub HeldFirst : Tables → List Site → ℕ → Site → Type 0
HeldFirst t targets count s = (i : ℕ) × (i < count) × (i < length targets) × Has t (Bytes (slice_index_or targets i (site.Global 0))) s

-- a holder that has a row
abbrev pub IsStored : Holder → Type 0
IsStored (Register f r) = Unit {0}
IsStored (Returned f) = Unit {0}
IsStored (Bytes s) = Unit {0}
IsStored (Address g) = ⊥
IsStored Nothing = ⊥

-- tables, and whether something was added to them, before and after
pub record Gains (old : Tables) (before : Bool) (new : Tables) (after : Bool) : Type 0 where
  pub grows : (k : Key) → In old k → In new k
  pub fine : AreTables new
  pub places : (k : Key) → rows.Place old k → rows.Place new k
  pub stays : after ≡ false → (before ≡ false) × (new ≡ old)
  pub more : before ≡ false → after ≡ true → size old < size new
  pub no_less : size old ≤ size new
  pub bound : bound new ≡ bound old

-- a site is put in for a holder
pub record Puts (old : Tables) (before : Bool) (h : Holder) (s : Site) (new : Tables) (after : Bool) : Type 0 where
  pub gains : Gains old before new after
  pub only : (k : Key) → In new k → In old k ⊎ (k ≡ key_of h s)
  pub there : rows.Place old (key_of h s) → In new (key_of h s)

-- the first sites of a list are put in for a holder
pub record PutsFirst (old : Tables) (before : Bool) (h : Holder) (sites : List Site) (count : ℕ) (new : Tables) (after : Bool) : Type 0 where
  pub gains : Gains old before new after
  pub only : (k : Key) → In new k → In old k ⊎ ((s : Site) × Contains sites s × (k ≡ key_of h s))
  pub all : (i : ℕ) → i < count → rows.Place old (key_of h (slice_index_or sites i (site.Global 0))) → In new (key_of h (slice_index_or sites i (site.Global 0)))

-- all are
pub record PutsAll (old : Tables) (before : Bool) (h : Holder) (sites : List Site) (new : Tables) (after : Bool) : Type 0 where
  pub gains : Gains old before new after
  pub only : (k : Key) → In new k → In old k ⊎ ((s : Site) × Contains sites s × (k ≡ key_of h s))
  pub all : (s : Site) → Contains sites s → rows.Place old (key_of h s) → In new (key_of h s)

-- they are put in for the bytes of the first targets
pub record PutsBytes (old : Tables) (before : Bool) (targets sites : List Site) (count : ℕ) (new : Tables) (after : Bool) : Type 0 where
  pub gains : Gains old before new after
  pub only : (k : Key) → In new k → In old k ⊎ ((t : Site) × Contains targets t × ((s : Site) × Contains sites s × (k ≡ key_of (Bytes t) s)))
  pub all : (i : ℕ) → i < count → (s : Site) → Contains sites s → rows.Place old (key_of (Bytes (slice_index_or targets i (site.Global 0))) s)
      → In new (key_of (Bytes (slice_index_or targets i (site.Global 0))) s)

pub record PutsAllBytes (old : Tables) (before : Bool) (targets sites : List Site) (new : Tables) (after : Bool) : Type 0 where
  pub gains : Gains old before new after
  pub only : (k : Key) → In new k → In old k ⊎ ((t : Site) × Contains targets t × ((s : Site) × Contains sites s × (k ≡ key_of (Bytes t) s)))
  pub all : (t s : Site) → Contains targets t → Contains sites s → rows.Place old (key_of (Bytes t) s) → In new (key_of (Bytes t) s)

-- numbers of 32 bits name each site
abbrev pub IsSmallHolder : Holder → Type 0
IsSmallHolder (Address g) = g < 4294967296
IsSmallHolder (Register f r) = Unit {0}
IsSmallHolder (Returned f) = Unit {0}
IsSmallHolder (Bytes s) = Unit {0}
IsSmallHolder Nothing = Unit {0}

abbrev pub IsSmallIn : Inclusion → Type 0
IsSmallIn (Names h s) = IsSmall s
IsSmallIn (Copies from to) = IsSmallHolder from
IsSmallIn (Loads q to) = IsSmallHolder q
IsSmallIn (Stores from q) = IsSmallHolder from × IsSmallHolder q
IsSmallIn (Moves from to) = IsSmallHolder from × IsSmallHolder to

-- what is asked, where the first tables have what it stands on, holds in the second
abbrev pub Fires : Inclusion → Tables → Tables → Type 0
Fires (Names h s) old new = rows.Place old (key_of h s) → In new (key_of h s)
Fires (Copies from to) old new = (s : Site) → Has old from s → rows.Place old (key_of to s) → In new (key_of to s)
Fires (Loads q to) old new = (t s : Site) → Has old q t → Has old (Bytes t) s → rows.Place old (key_of to s) → In new (key_of to s)
Fires (Stores from q) old new = (t s : Site) → Has old q t → Has old from s → rows.Place old (key_of (Bytes t) s) → In new (key_of (Bytes t) s)
Fires (Moves from to) old new = (t u s : Site) → Has old from t → Has old (Bytes t) s → Has old to u → rows.Place old (key_of (Bytes u) s) → In new (key_of (Bytes u) s)

-- what is asked is done
pub record Applies (c : Inclusion) (old : Tables) (before : Bool) (new : Tables) (after : Bool) : Type 0 where
  pub gains : Gains old before new after
  pub sound : (list : List Inclusion) → Contains list c → IsSound list old → IsSound list new
  pub fires : Fires c old new

-- the first of a list are done
pub record AppliesFirst (list : List Inclusion) (count : ℕ) (old : Tables) (before : Bool) (new : Tables) (after : Bool) : Type 0 where
  pub gains : Gains old before new after
  pub sound : IsSound list old → IsSound list new
  pub fires : after ≡ false → (i : ℕ) → i < count → (c : Inclusion) → c ≡ slice_index_or list i c → Fires c new new

-- all are
pub record AppliesAll (list : List Inclusion) (old : Tables) (before : Bool) (new : Tables) (after : Bool) : Type 0 where
  pub gains : Gains old before new after
  pub sound : IsSound list old → IsSound list new
  pub fires : after ≡ false → (c : Inclusion) → Contains list c → Fires c new new

-- nothing more follows
pub record Solves (list : List Inclusion) (old new : Tables) : Type 0 where
  pub fine : AreTables new
  pub places : (k : Key) → rows.Place old k → rows.Place new k
  pub sound : IsSound list old → IsSound list new
  pub closed : (c : Inclusion) → Contains list c → Fires c new new
