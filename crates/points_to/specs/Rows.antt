-- Rows of sites in tables that grow by one site at a time.
use Rattle.std.specs.Prelude.{◌≡◌, ◌<◌, ◌+◌, ◌⊎◌, ℕ, Bool, true, false, List, [], length, slice_index_or}
use Rattle.std.specs.List.{Contains, sum_by}
use Rattle.flat_ir.specs.declared.names.Site.{Site}
use Rattle.flat_ir.specs.declared.names.Site.TheVariants as site
use Rattle.points_to.specs.Points.{IsAscending}

-- each part of the name is a number of 32 bits
abbrev pub IsSmall : Site → Type 0
IsSmall (site.Global g) = g < 4294967296
IsSmall (site.Node f n) = (f.0 < 4294967296) × (n.0 < 4294967296)

abbrev pub AreSmall : List Site → Type 0
AreSmall sites = (s : Site) → Contains sites s → IsSmall s

pub record IsRow (row : List Site) : Type 0 where
  pub ascending : IsAscending row
  pub small : AreSmall row

-- what was put in is there now, and nothing else came or went; the answer says whether it is new
pub record Adds {Y K : Type 0} (In Place : Y → K → Type 0) (IsOk : Y → Type 0) (size limit : Y → ℕ) (old : Y) (key : K) (added : Bool) (new : Y) : Type 0 where
  pub only : (k : K) → In new k → In old k ⊎ (k ≡ key)
  pub grows : (k : K) → In old k → In new k
  pub there : Place old key → In new key
  pub fine : IsOk new
  pub places : (k : K) → Place old k → Place new k
  pub same : added ≡ false → new ≡ old
  pub more : added ≡ true → size new ≡ size old + 1
  pub bound : limit new ≡ limit old

-- the same of a list of such: a key is the number of one of them with its key
abbrev pub InList : {Y K : Type 0} → Y → (Y → K → Type 0) → List Y → ℕ × K → Type 0
InList d In ys k = In (slice_index_or ys k.0 d) k.1

abbrev pub PlaceList : {Y K : Type 0} → Y → (Y → K → Type 0) → List Y → ℕ × K → Type 0
PlaceList d Place ys k = (k.0 < length ys) × Place (slice_index_or ys k.0 d) k.1

abbrev pub EachOk : {Y : Type 0} → Y → (Y → Type 0) → List Y → Type 0
EachOk d IsOk ys = (i : ℕ) → IsOk (slice_index_or ys i d)

abbrev pub most : List Site → ℕ
most row = 36893488147419103232

abbrev pub AnyPlace : List Site → Site → Type 0
AnyPlace row s = Unit {0}

abbrev pub Rows : Type 0
Rows = List (List Site)

abbrev pub Table : Type 0
Table = List Rows

abbrev pub Tables : Type 0
Tables = List Table

abbrev pub AddsToRow : List Site → Site → Bool → List Site → Type 0
AddsToRow = Adds Contains AnyPlace IsRow length most

abbrev pub AddsToRows : Rows → ℕ × Site → Bool → Rows → Type 0
AddsToRows = Adds (InList [] Contains) (PlaceList [] AnyPlace) (EachOk [] IsRow) (sum_by length) (sum_by most)

abbrev pub AreRows : Rows → Type 0
AreRows = EachOk [] IsRow

abbrev pub AddsToTable : Table → ℕ × (ℕ × Site) → Bool → Table → Type 0
AddsToTable = Adds (InList [] (InList [] Contains)) (PlaceList [] (PlaceList [] AnyPlace)) (EachOk [] AreRows) (sum_by (sum_by length)) (sum_by (sum_by most))

abbrev pub IsTable : Table → Type 0
IsTable = EachOk [] AreRows

abbrev pub Key : Type 0
Key = ℕ × (ℕ × (ℕ × Site))

abbrev pub In : Tables → Key → Type 0
In = InList [] (InList [] (InList [] Contains))

abbrev pub Place : Tables → Key → Type 0
Place = PlaceList [] (PlaceList [] (PlaceList [] AnyPlace))

abbrev pub AreTables : Tables → Type 0
AreTables = EachOk [] IsTable

abbrev pub size : Tables → ℕ
size = sum_by (sum_by (sum_by length))

abbrev pub bound : Tables → ℕ
bound = sum_by (sum_by (sum_by most))

abbrev pub AddsToTables : Tables → Key → Bool → Tables → Type 0
AddsToTables = Adds In Place AreTables size bound

abbrev pub row_of : Tables → ℕ → ℕ → ℕ → List Site
row_of t kind outer inner = slice_index_or (slice_index_or (slice_index_or t kind []) outer []) inner []
