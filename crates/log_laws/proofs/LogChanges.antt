-- Changes to an object among others: what is written, what is not, and what a location sees.
use Rattle.std.proofs.Common.{◌≡◌, ℕ, Bool, true, false, [], ◌∷◌, ◌++◌, inl, inr, ◌==◌, ◌&&◌, ◌||◌, refl, ap, ◌∙◌, subst}
use Rattle.std.specs.Prelude.{cond}
use Rattle.std.specs.List.{list_any, filter}
use Rattle.std.proofs.lemmas.Bool.{false≢true, eqb-true, and_parts, and_from, or_cases}
use Rattle.flat_ir.specs.declared.names.Location.{Location}
use Rattle.flat_ir.specs.declared.names.Location.TheVariants as location
use Rattle.flat_ir.specs.declared.names.ObjectName.{ObjectName}
use Rattle.flat_ir.specs.declared.names.ObjectName.TheVariants as object
use Rattle.flat_ir.specs.declared.names.Site.{Site}
use Rattle.flat_ir.specs.declared.names.Site.TheVariants as site
use Rattle.flat_ir.specs.declared.values.ConcreteByte.{ConcreteByte}
use Rattle.flat_ir.specs.History.{Change, Write, Alloc, Free, Get, Put, History, same_object, same_steps, same_step}
use Rattle.log_laws.specs.Law.{byte_over, Unwritten, IsBorn}
use Rattle.flat_ir.specs.Locations.{same_site, same_location, cells_of, lies_in}
use Rattle.flat_ir.specs.History.{site_of}

-- ---- places are one where the tests say so

same_site-true : (s t : Site) → same_site s t ≡ true → s ≡ t
same_site-true (site.Global g) (site.Global h) e = ap site.Global (eqb-true g h e)
same_site-true (site.Global g) (site.Node f n) e = cc
same_site-true (site.Node f n) (site.Global g) e = cc
same_site-true (site.Node f n) (site.Node g m) e =
    let parts = and_parts (f.0 == g.0) (n.0 == m.0) e in
    λ i. site.Node (record { 0 = eqb-true f.0 g.0 parts.0 i }) (record { 0 = eqb-true n.0 m.0 parts.1 i })

pub same_location-true : (a b : Location) → same_location a b ≡ true → a ≡ b
same_location-true (location.Cells s) (location.Cells t) e = ap location.Cells (same_site-true s t e)
same_location-true (location.Life s) (location.Life t) e = ap location.Life (same_site-true s t e)
same_location-true location.Input location.Input e = refl
same_location-true location.Output location.Output e = refl
same_location-true location.Result location.Result e = refl
same_location-true (location.Cells s) (location.Life t) e = cc
same_location-true (location.Cells s) location.Input e = cc
same_location-true (location.Cells s) location.Output e = cc
same_location-true (location.Cells s) location.Result e = cc
same_location-true (location.Life s) (location.Cells t) e = cc
same_location-true (location.Life s) location.Input e = cc
same_location-true (location.Life s) location.Output e = cc
same_location-true (location.Life s) location.Result e = cc
same_location-true location.Input (location.Cells t) e = cc
same_location-true location.Input (location.Life t) e = cc
same_location-true location.Input location.Output e = cc
same_location-true location.Input location.Result e = cc
same_location-true location.Output (location.Cells t) e = cc
same_location-true location.Output (location.Life t) e = cc
same_location-true location.Output location.Input e = cc
same_location-true location.Output location.Result e = cc
same_location-true location.Result (location.Cells t) e = cc
same_location-true location.Result (location.Life t) e = cc
same_location-true location.Result location.Input e = cc
same_location-true location.Result location.Output e = cc

-- objects that are one come from one site
pub sites_agree : (x y : ObjectName) → same_object x y ≡ true → same_site (site_of x) (site_of y) ≡ true
sites_agree (object.Global g) (object.Global h) e = e
sites_agree (object.Global g) (object.Made frame made) e = cc
sites_agree (object.Made frame made) (object.Global h) e = cc
sites_agree (object.Made frame made) (object.Made frame' made') e =
    let steps = and_parts (same_steps frame frame') (same_step made made') e in
    let parts = and_parts (made.func.0 == made'.func.0) ((made.node.0 == made'.node.0) && (made.count == made'.count)) steps.1 in
    and_from _ _ parts.0 (and_parts (made.node.0 == made'.node.0) (made.count == made'.count) parts.1).0

-- ---- what a location sees of changes

site_or_other : (seen same : Bool) (hit : Bool) (b : ConcreteByte) (rest : ConcreteByte) → (same ≡ true → seen ≡ true) → cond (seen && (same && hit)) b rest ≡ cond (same && hit) b rest
site_or_other true same hit b rest h = refl
site_or_other false true hit b rest h = absurd (false≢true (h refl))
site_or_other false false hit b rest h = refl

over_cond : (seen : Bool) (y : ObjectName) (j : ℕ) (b : ConcreteByte) (h : History) (before : ConcreteByte) (x : ObjectName) (k : ℕ)
    → byte_over before (cond seen (Write y j b ∷ h) h) x k ≡ cond (seen && (same_object x y && (j == k))) b (byte_over before h x k)
over_cond true y j b h before x k = refl
over_cond false y j b h before x k = refl

skip_cond : (seen : Bool) (change : Change) (h : History) (before : ConcreteByte) (x : ObjectName) (k : ℕ)
    → byte_over before (change ∷ h) x k ≡ byte_over before h x k → byte_over before (cond seen (change ∷ h) h) x k ≡ byte_over before h x k
skip_cond true change h before x k e = e
skip_cond false change h before x k e = refl

-- the writes of an object all lie in its cells
pub over_cells : (before : ConcreteByte) (h : History) (x : ObjectName) (k : ℕ) → byte_over before (filter (lies_in (cells_of x)) h) x k ≡ byte_over before h x k
over_cells before [] x k = refl
over_cells before (Write y j b ∷ h) x k =
    over_cond (same_site (site_of x) (site_of y)) y j b (filter (lies_in (cells_of x)) h) before x k
    ∙ site_or_other (same_site (site_of x) (site_of y)) (same_object x y) (j == k) b _ (sites_agree x y)
    ∙ ap (λ d. cond (same_object x y && (j == k)) b d) (over_cells before h x k)
over_cells before (Alloc y size ∷ h) x k = over_cells before h x k
over_cells before (Free y ∷ h) x k = over_cells before h x k
over_cells before (Get ∷ h) x k = over_cells before h x k
over_cells before (Put b ∷ h) x k = over_cells before h x k

-- ---- a byte that is written

abbrev pub is_write_at : ObjectName → ℕ → Change → Bool
is_write_at x k (Write y j b) = same_object x y && (j == k)
is_write_at x k _ = false

abbrev pub wrote : ObjectName → ℕ → History → Bool
wrote x k h = list_any (is_write_at x k) h

same_rest : (hit more : Bool) (b c d : ConcreteByte) → (hit || more) ≡ true → (more ≡ true → c ≡ d) → cond hit b c ≡ cond hit b d
same_rest true more b c d e h = refl
same_rest false true b c d e h = h refl
same_rest false false b c d e h = cc

-- then what stood before doesn't matter
pub wrote_over : (c d : ConcreteByte) (h : History) (x : ObjectName) (k : ℕ) → wrote x k h ≡ true → byte_over c h x k ≡ byte_over d h x k
wrote_over c d [] x k e = cc
wrote_over c d (Write y j b ∷ h) x k e = same_rest (same_object x y && (j == k)) (wrote x k h) b _ _ e (wrote_over c d h x k)
wrote_over c d (Alloc y size ∷ h) x k e = wrote_over c d h x k e
wrote_over c d (Free y ∷ h) x k e = wrote_over c d h x k e
wrote_over c d (Get ∷ h) x k e = wrote_over c d h x k e
wrote_over c d (Put b ∷ h) x k e = wrote_over c d h x k e

any_cond : (test seen : Bool) (P : Change → Bool) (change : Change) (h : History) → P change ≡ test → list_any P (cond seen (change ∷ h) h) ≡ true → (test || list_any P h) ≡ true
any_cond true seen P change h e is = refl
any_cond false true P change h e is = subst (λ t. (t || list_any P h) ≡ true) e is
any_cond false false P change h e is = is

or_more : (test a b : Bool) → (test || a) ≡ true → (a ≡ true → b ≡ true) → (test || b) ≡ true
or_more true a b e h = refl
or_more false a b e h = h e

-- what a part has the whole has
pub any_filter : (P seen : Change → Bool) (h : History) → list_any P (filter seen h) ≡ true → list_any P h ≡ true
any_filter P seen [] e = cc
any_filter P seen (change ∷ h) e = or_more (P change) (list_any P (filter seen h)) (list_any P h) (any_cond (P change) (seen change) P change (filter seen h) refl e) (any_filter P seen h)

-- ---- nothing written

pub unwritten_over : (before : ConcreteByte) (h : History) (x : ObjectName) (k : ℕ) → Unwritten x h → byte_over before h x k ≡ before
unwritten_over before [] x k none = refl
unwritten_over before (Write y j b ∷ h) x k none =
    ap (λ t. cond (t && (j == k)) b (byte_over before h x k)) none.0 ∙ unwritten_over before h x k none.1
unwritten_over before (Alloc y size ∷ h) x k none = unwritten_over before h x k none
unwritten_over before (Free y ∷ h) x k none = unwritten_over before h x k none
unwritten_over before (Get ∷ h) x k none = unwritten_over before h x k none
unwritten_over before (Put b ∷ h) x k none = unwritten_over before h x k none

pub unwritten_parts : (x : ObjectName) (g h : History) → Unwritten x (g ++ h) → Unwritten x g × Unwritten x h
unwritten_parts x [] h none = (tt, none)
unwritten_parts x (Write y j b ∷ g) h none = let parts = unwritten_parts x g h none.1 in ((none.0, parts.0), parts.1)
unwritten_parts x (Alloc y size ∷ g) h none = unwritten_parts x g h none
unwritten_parts x (Free y ∷ g) h none = unwritten_parts x g h none
unwritten_parts x (Get ∷ g) h none = unwritten_parts x g h none
unwritten_parts x (Put b ∷ g) h none = unwritten_parts x g h none

abbrev pub is_alloc_at : ObjectName → Change → Bool
is_alloc_at x (Alloc y size) = same_object x y
is_alloc_at x _ = false

-- behind changes that allocate the object nothing of it was written
pub born_unwritten : (x : ObjectName) (g h : History) → IsBorn x (g ++ h) → list_any (is_alloc_at x) g ≡ true → Unwritten x h
born_unwritten x [] h born e = cc
born_unwritten x (Alloc y size ∷ g) h born e = elim (or_cases (same_object x y) (list_any (is_alloc_at x) g) e) [
  | inl is ↦ (unwritten_parts x g h (born.0 is)).1
  | inr more ↦ born_unwritten x g h born.1 more
]
born_unwritten x (Write y j b ∷ g) h born e = born_unwritten x g h born e
born_unwritten x (Free y ∷ g) h born e = born_unwritten x g h born e
born_unwritten x (Get ∷ g) h born e = born_unwritten x g h born e
born_unwritten x (Put b ∷ g) h born e = born_unwritten x g h born e

pub born_rest : (x : ObjectName) (g h : History) → IsBorn x (g ++ h) → IsBorn x h
born_rest x [] h born = born
born_rest x (Alloc y size ∷ g) h born = born_rest x g h born.1
born_rest x (Write y j b ∷ g) h born = born_rest x g h born
born_rest x (Free y ∷ g) h born = born_rest x g h born
born_rest x (Get ∷ g) h born = born_rest x g h born
born_rest x (Put b ∷ g) h born = born_rest x g h born
