-- Bytes in memory fit, and so does what they are joined to.
use Rattle.std.specs.Prelude.{All, slice_get, ◌*◌, ◌/◌, ◌%◌, ◌^◌, ◌==◌, if◌then◌else◌}
use Rattle.std.proofs.Common.{◌≡◌, ℕ, zero, suc, ◌+◌, ◌≤◌, ◌<◌, true, false, ◌&&◌, List, [], ◌∷◌, length, Option, Some, None, refl, sym, ◌∙◌, ap, subst, arith}
use Rattle.std.proofs.Math.Nat.{mod-lt, div-le_of_le-mul}
use Rattle.std.proofs.lemmas.Nat.{pow_pos, pow-add}
use Rattle.std.proofs.lemmas.List.Elements.{recursion_from_All}
use Rattle.std.specs.List.{AllByRecursion as Each}
use Rattle.checks.specs.Types.{is_scalar}
use Rattle.flat_ir.specs.declared.names.ObjectName.{ObjectName}
use Rattle.flat_ir.specs.declared.names.ObjectName.TheVariants.{Global, Made}
use Rattle.flat_ir.specs.declared.nodes.RegType.{RegType}
use Rattle.flat_ir.specs.declared.nodes.RegType.TheVariants as type
use Rattle.flat_ir.specs.declared.program.GlobalVar.{GlobalVar}
use Rattle.flat_ir.specs.declared.program.InitByte.{InitByte}
use Rattle.flat_ir.specs.declared.program.InitByte.TheVariants as init
use Rattle.flat_ir.specs.declared.program.ProgramData.{ProgramData}
use Rattle.flat_ir.specs.declared.values.Address.{Address}
use Rattle.flat_ir.specs.declared.values.ConcreteByte.{ConcreteByte}
use Rattle.flat_ir.specs.declared.values.ConcreteByte.TheVariants as byte
use Rattle.flat_ir.specs.declared.values.ConcreteValue.{ConcreteValue}
use Rattle.flat_ir.specs.declared.values.ConcreteValue.TheVariants.{Int, Ptr}
use Rattle.flat_ir.specs.History.{History, Write, Alloc, Free, Get, Put, same_object, byte_at, initial_of, initial_byte}
use Rattle.flat_ir.specs.Effects.{written_in, stored_in}
use Rattle.flat_ir.specs.Registers.{int, null, cut, bytes_of_type, bytes_of_value, joined, joined_number, joined_pointer, null_if_zero, number_of_width, are_bytes_of, first_of}
use Rattle.flat_ir.specs.Steps.{byte_there, loaded}
use Rattle.flat_ir.specs.Whole.{IsWhole, IsWidth, IsGlobalOf, InitIn}
use Rattle.typed_runs.specs.FittingRuns.{Fits, FitsByte, InitFits, NumbersFit, BytesFit}
use Rattle.typed_runs.specs.Shown.{OptionFits}
use Rattle.typed_runs.proofs.Numbers.{none_offset, width_is}
use Rattle.typed_runs.proofs.Suited.{scalar_bytes}

below_256 : (n : ℕ) → n % 256 < 256
below_256 n = mod-lt n (omega arith)

-- a byte that is cut from a value
pub cut_fits : (v : ConcreteValue) (j : ℕ) → Fits v → j < 8 → FitsByte (cut v j)
cut_fits (Int n) j fits few = below_256 (n.bits / 2 ^ (8 * j))
cut_fits (Ptr a) j fits few = (fits, few)

-- how many bytes a value has
pub few_bytes : (v : ConcreteValue) → Fits v → bytes_of_value v ≤ 8
few_bytes (Int n) fits = div-le_of_le-mul 8 fits.width_is.most
few_bytes (Ptr a) fits = omega arith

-- writing
pub writes_fit : (base : Option ObjectName) (place : ℕ) (b : ConcreteByte) (h : History) → FitsByte b → BytesFit h → BytesFit (elim base [ None ↦ h | Some x ↦ Write x place b ∷ h ])
writes_fit None place b h it all = all
writes_fit (Some x) place b h it all = (it, all)

pub stores_fit : (n j : ℕ) (a : Address) (v : ConcreteValue) (h : History) → j + n ≤ 8 → Fits v → BytesFit h → BytesFit (stored_in n j a v h)
stores_fit zero j a v h few fits all = all
stores_fit (suc n) j a v h few fits all =
    stores_fit n (j + 1) a v (written_in a (cut v j) j h) (omega (arith, few)) fits
    (writes_fit a.base ((a.offset + j) % 2 ^ 64) (cut v j) h (cut_fits v j fits (omega (arith, few))) all)

pub frees_fit : (base : Option ObjectName) (h : History) → BytesFit h → BytesFit (elim base [ None ↦ h | Some x ↦ Free x ∷ h ])
frees_fit None h all = all
frees_fit (Some x) h all = all

-- initial bytes
init_fits : (globals : ℕ) (b : InitByte) → InitIn globals b → InitFits b → FitsByte (initial_byte (Some b))
init_fits globals (init.Int b) within it = it
init_fits globals (init.PtrByte g offset j) within it = (it, within.1)

init_at_fits : (globals : ℕ) (bs : List InitByte) (k : ℕ) → Each (InitIn globals) bs → Each InitFits bs → FitsByte (initial_byte (slice_get bs k))
init_at_fits globals [] k within all = omega arith
init_at_fits globals (b ∷ bs) zero within all = init_fits globals b within.0 all.0
init_at_fits globals (b ∷ bs) (suc k) within all = init_at_fits globals bs k within.1 all.1

global_fits : (globals : ℕ) (gs : List GlobalVar) (g k : ℕ) → Each (IsGlobalOf globals) gs → Each (λ v. All InitFits v.init) gs → FitsByte (initial_of (slice_get gs g) k)
global_fits globals [] g k within all = omega arith
global_fits globals (v ∷ gs) zero k within all =
    init_at_fits globals v.init k (recursion_from_All (InitIn globals) v.init within.0.init) (recursion_from_All InitFits v.init all.0)
global_fits globals (v ∷ gs) (suc g) k within all = global_fits globals gs g k within.1 all.1

-- each byte that stands anywhere fits
pub byte_fits : (p : ProgramData) (h : History) (x : ObjectName) (k : ℕ) → IsWhole p → NumbersFit p → BytesFit h → FitsByte (byte_at p h x k)
byte_fits p [] (Global g) k whole numbers all =
    global_fits (length p.globals) p.globals g k (recursion_from_All (IsGlobalOf (length p.globals)) p.globals whole.globals)
    (recursion_from_All (λ (v : GlobalVar). All InitFits v.init) p.globals numbers.globals)
byte_fits p [] (Made frame made) k whole numbers all = omega arith
byte_fits p (Write y j b ∷ h) x k whole numbers all =
    elim (same_object x y && (j == k)) as (λ t. FitsByte (if t then b else byte_at p h x k)) [
      | true ↦ all.0
      | false ↦ byte_fits p h x k whole numbers all.1
    ]
byte_fits p (Alloc y size ∷ h) x k whole numbers all = byte_fits p h x k whole numbers all
byte_fits p (Free y ∷ h) x k whole numbers all = byte_fits p h x k whole numbers all
byte_fits p (Get ∷ h) x k whole numbers all = byte_fits p h x k whole numbers all
byte_fits p (Put b ∷ h) x k whole numbers all = byte_fits p h x k whole numbers all

-- the byte behind an address
there_at : (p : ProgramData) (h : History) (base : Option ObjectName) (place : ℕ) → IsWhole p → NumbersFit p → BytesFit h
    → FitsByte (elim base [ None ↦ cut (int 8 0) 0 | Some x ↦ byte_at p h x place ])
there_at p h None place whole numbers all = below_256 (0 / 2 ^ (8 * 0))
there_at p h (Some x) place whole numbers all = byte_fits p h x place whole numbers all

pub there_fits : (p : ProgramData) (h : History) (a : Address) (j : ℕ) → IsWhole p → NumbersFit p → BytesFit h → FitsByte (byte_there p h a j)
there_fits p h a j whole numbers all = there_at p h a.base ((a.offset + j) % 2 ^ 64) whole numbers all

-- so many bytes
first_fit : (n k : ℕ) (f : ℕ → ConcreteByte) → ((j : ℕ) → FitsByte (f j)) → Each FitsByte (first_of n k f)
first_fit zero k f all = tt
first_fit (suc n) k f all = (all k, first_fit n (k + 1) f all)

length-first : (n k : ℕ) (f : ℕ → ConcreteByte) → length (first_of n k f) ≡ n
length-first zero k f = refl
length-first (suc n) k f = ap (λ (m : ℕ). suc m) (length-first n (k + 1) f)

-- the number that they are joined to
abbrev IsBelow : ℕ → Option ℕ → Type 0
IsBelow limit None = Unit {0}
IsBelow limit (Some n) = n < limit

eight_more : (n : ℕ) → 2 ^ (8 * suc n) ≡ 256 * 2 ^ (8 * n)
eight_more n = ap (λ (k : ℕ). 2 ^ k) (grows n) ∙ pow-add 2 8 (8 * n)
  where
    grows : (m : ℕ) → 8 * suc m ≡ 8 + 8 * m
    grows m = omega arith

one_more : (b limit : ℕ) (o : Option ℕ) → b < 256 → IsBelow limit o → IsBelow (256 * limit) (elim o [ None ↦ None | Some n ↦ Some (b + 256 * n) ])
one_more b limit None below all = tt
one_more b limit (Some n) below all = omega (arith, below, all)

number_below : (bs : List ConcreteByte) → Each FitsByte bs → IsBelow (2 ^ (8 * length bs)) (joined_number bs)
number_below [] all = pow_pos (8 * 0)
number_below (byte.PtrByte a j ∷ bs) all = tt
number_below (byte.Int b ∷ bs) all =
    subst (λ (limit : ℕ). IsBelow limit (joined_number (byte.Int b ∷ bs))) (sym (eight_more (length bs)))
    (one_more b (2 ^ (8 * length bs)) (joined_number bs) all.0 (number_below bs all.1))

of_width_fits : (w : ℕ) (o : Option ℕ) → IsWidth (type.Int w) → IsBelow (2 ^ w) o → OptionFits (number_of_width w o)
of_width_fits w None width below = tt
of_width_fits w (Some n) width below = record { width_is = width_is w width; fits = below }

null_fits : (o : Option ℕ) → OptionFits (null_if_zero o)
null_fits None = tt
null_fits (Some n) = elim (n == 0) as (λ t. OptionFits (if t then Some (Ptr null) else None)) [ true ↦ none_offset | false ↦ tt ]

pointer_fits : (bs : List ConcreteByte) → Each FitsByte bs → OptionFits (joined_pointer bs)
pointer_fits [] all = tt
pointer_fits (byte.Int b ∷ bs) all = null_fits (joined_number (byte.Int b ∷ bs))
pointer_fits (byte.PtrByte a j ∷ bs) all =
    elim (are_bytes_of a 0 (byte.PtrByte a j ∷ bs)) as (λ t. OptionFits (if t then Some (Ptr a) else None)) [ true ↦ all.0.0 | false ↦ tt ]

joined_fits : (t : RegType) (bs : List ConcreteByte) → IsWidth t → is_scalar t ≡ true → length bs ≡ bytes_of_type t → Each FitsByte bs → OptionFits (joined t bs)
joined_fits (type.Int w) bs width scalar count all =
    of_width_fits w (joined_number bs) width
    (subst (λ (k : ℕ). IsBelow (2 ^ k) (joined_number bs)) (ap (λ (k : ℕ). 8 * k) count ∙ sym (scalar_bytes w scalar).0) (number_below bs all))
joined_fits type.Ptr bs width scalar count all = pointer_fits bs all

-- what is loaded
pub loaded_fits : (p : ProgramData) (h : History) (a : Address) (t : RegType) → IsWhole p → NumbersFit p → BytesFit h → IsWidth t → is_scalar t ≡ true
    → OptionFits (loaded p h a t)
loaded_fits p h a t whole numbers all width scalar =
    joined_fits t (first_of (bytes_of_type t) 0 (byte_there p h a)) width scalar (length-first (bytes_of_type t) 0 (byte_there p h a))
    (first_fit (bytes_of_type t) 0 (byte_there p h a) (λ j. there_fits p h a j whole numbers all))
