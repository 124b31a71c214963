-- Histories that agree on what a slice needs, and go on doing so.
use Rattle.std.specs.Prelude.{◌==◌, if◌then◌else◌, cond}
use Rattle.std.proofs.Common.{◌≡◌, ◌+◌, ◌∙◌, ◌||◌, ◌&&◌, ℕ, Bool, true, false, [], ◌∷◌, ◌++◌, refl, sym, ap, subst, append_assoc}
use Rattle.std.specs.List.{filter}
use Rattle.std.proofs.lemmas.List.Elements.{filter-append}
use Rattle.flat_ir.specs.declared.names.Location.{Location}
use Rattle.flat_ir.specs.declared.names.Location.TheVariants as location
use Rattle.flat_ir.specs.declared.names.ObjectName.{ObjectName}
use Rattle.flat_ir.specs.declared.names.ObjectName.TheVariants.{Global, Made}
use Rattle.flat_ir.specs.declared.names.Site.{Site}
use Rattle.flat_ir.specs.declared.program.ProgramData.{ProgramData}
use Rattle.flat_ir.specs.History.{History, Change, Write, Alloc, Free, Get, Put, same_object, is_alloc_of, is_free_of, site_of, size_made, size_of, byte_at, position}
use Rattle.flat_ir.specs.Orderly.{is_made, is_freed}
use Rattle.flat_ir.specs.Same.{same_object-true}
use Rattle.flat_ir.specs.Locations.{location_of}
use Rattle.slices.specs.Slice.{Items, Need}
use Rattle.slice_laws.specs.Simulation.{Agree}
use Rattle.slice_laws.proofs.Lists.{not_both}

-- the slice needs the location of a change
abbrev pub is_needed : Items → Change → Bool
is_needed items c = items (Need (location_of c))

agree_sym : (p : ProgramData) (l : Location) (h h' : History) → Agree p l h h' → Agree p l h' h
agree_sym p (location.Cells s) h h' a = λ x k e. sym (a x k e)
agree_sym p (location.Life s) h h' a = λ x e. let b = a x e in (sym b.0, sym b.1, sym b.2)
agree_sym p location.Input h h' a = sym a
agree_sym p location.Output h h' a = tt
agree_sym p location.Result h h' a = tt

agree_then : (p : ProgramData) (l : Location) (h g k : History) → Agree p l h g → Agree p l g k → Agree p l h k
agree_then p (location.Cells s) h g k a b = λ x j e. a x j e ∙ b x j e
agree_then p (location.Life s) h g k a b = λ x e. let c = a x e in let d = b x e in (c.0 ∙ d.0, c.1 ∙ d.1, c.2 ∙ d.2)
agree_then p location.Input h g k a b = a ∙ b
agree_then p location.Output h g k a b = tt
agree_then p location.Result h g k a b = tt

agree_refl : (p : ProgramData) (l : Location) (h : History) → Agree p l h h
agree_refl p (location.Cells s) h = λ x k e. refl
agree_refl p (location.Life s) h = λ x e. (refl, refl, refl)
agree_refl p location.Input h = refl
agree_refl p location.Output h = tt
agree_refl p location.Result h = tt

-- ---- the same change of both

byte_same : (p : ProgramData) (c : Change) (h h' : History) (x : ObjectName) (k : ℕ) → byte_at p h x k ≡ byte_at p h' x k → byte_at p (c ∷ h) x k ≡ byte_at p (c ∷ h') x k
byte_same p (Write y j b) h h' x k e = ap (λ old. if same_object x y && (j == k) then b else old) e
byte_same p _ h h' x k e = e

made_same : (c : Change) (h h' : History) (x : ObjectName) → size_made x h ≡ size_made x h' → size_made x (c ∷ h) ≡ size_made x (c ∷ h')
made_same (Alloc y size) h h' x e = ap (λ old. if same_object x y then size else old) e
made_same _ h h' x e = e

size_same : (p : ProgramData) (c : Change) (h h' : History) (x : ObjectName) → size_of p x h ≡ size_of p x h' → size_of p x (c ∷ h) ≡ size_of p x (c ∷ h')
size_same p c h h' (Global g) e = refl
size_same p c h h' (Made frame made) e = made_same c h h' (Made frame made) e

position_same : (c : Change) (h h' : History) → position h ≡ position h' → position (c ∷ h) ≡ position (c ∷ h')
position_same Get h h' e = ap (λ n. n + 1) e
position_same _ h h' e = e

agree_same : (p : ProgramData) (l : Location) (c : Change) (h h' : History) → Agree p l h h' → Agree p l (c ∷ h) (c ∷ h')
agree_same p (location.Cells s) c h h' a = λ x k e. byte_same p c h h' x k (a x k e)
agree_same p (location.Life s) c h h' a = λ x e.
    let b = a x e in
    (ap (λ m. is_alloc_of x c || m) b.0, ap (λ m. is_free_of x c || m) b.1, size_same p c h h' x b.2)
agree_same p location.Input c h h' a = position_same c h h' a
agree_same p location.Output c h h' a = tt
agree_same p location.Result c h h' a = tt

pub agree_on : (p : ProgramData) (l : Location) (cs h h' : History) → Agree p l h h' → Agree p l (cs ++ h) (cs ++ h')
agree_on p l [] h h' a = a
agree_on p l (c ∷ cs) h h' a = agree_same p l c (cs ++ h) (cs ++ h') (agree_on p l cs h h' a)

-- ---- a change that isn't needed

-- an object of another site is another object
apart : (x y : ObjectName) (s : Site) (P : Site → Bool) → site_of x ≡ s → P s ≡ true → P (site_of y) ≡ false → same_object x y ≡ false
apart x y s P is yes' no' =
    elim (same_object x y) as (λ t. same_object x y ≡ t → t ≡ false) [
      | true ↦ λ e. not_both (P s) yes' (subst (λ (z : Site). P z ≡ false) is (subst (λ (z : ObjectName). P (site_of z) ≡ false) (sym (same_object-true x y e)) no'))
      | false ↦ λ e. refl
    ] refl

byte_other : (p : ProgramData) (items : Items) (c : Change) (h : History) (x : ObjectName) (k : ℕ) (s : Site) → site_of x ≡ s → items (Need (location.Cells s)) ≡ true → is_needed items c ≡ false
    → byte_at p (c ∷ h) x k ≡ byte_at p h x k
byte_other p items (Write y j b) h x k s is need no' =
    ap (λ t. if t && (j == k) then b else byte_at p h x k) (apart x y s (λ z. items (Need (location.Cells z))) is need no')
byte_other p items _ h x k s is need no' = refl

alloc_other : (items : Items) (c : Change) (x : ObjectName) (s : Site) → site_of x ≡ s → items (Need (location.Life s)) ≡ true → is_needed items c ≡ false → is_alloc_of x c ≡ false
alloc_other items (Alloc y size) x s is need no' = apart x y s (λ z. items (Need (location.Life z))) is need no'
alloc_other items _ x s is need no' = refl

free_other : (items : Items) (c : Change) (x : ObjectName) (s : Site) → site_of x ≡ s → items (Need (location.Life s)) ≡ true → is_needed items c ≡ false → is_free_of x c ≡ false
free_other items (Free y) x s is need no' = apart x y s (λ z. items (Need (location.Life z))) is need no'
free_other items _ x s is need no' = refl

made_other : (c : Change) (h : History) (x : ObjectName) → is_alloc_of x c ≡ false → size_made x (c ∷ h) ≡ size_made x h
made_other (Alloc y size) h x e = ap (λ t. if t then size else size_made x h) e
made_other _ h x e = refl

size_other : (p : ProgramData) (c : Change) (h : History) (x : ObjectName) → is_alloc_of x c ≡ false → size_of p x (c ∷ h) ≡ size_of p x h
size_other p c h (Global g) e = refl
size_other p c h (Made frame made) e = made_other c h (Made frame made) e

position_other : (items : Items) (c : Change) (h : History) → items (Need location.Input) ≡ true → is_needed items c ≡ false → position (c ∷ h) ≡ position h
position_other items Get h need no' = not_both (items (Need location.Input)) need no'
position_other items _ h need no' = refl

agree_other : (p : ProgramData) (items : Items) (l : Location) (c : Change) (h : History) → items (Need l) ≡ true → is_needed items c ≡ false → Agree p l (c ∷ h) h
agree_other p items (location.Cells s) c h need no' = λ x k is. byte_other p items c h x k s is need no'
agree_other p items (location.Life s) c h need no' = λ x is.
    let made = alloc_other items c x s is need no' in
    (ap (λ b. b || is_made x h) made, ap (λ b. b || is_freed x h) (free_other items c x s is need no'), size_other p c h x made)
agree_other p items location.Input c h need no' = position_other items c h need no'
agree_other p items location.Output c h need no' = tt
agree_other p items location.Result c h need no' = tt

-- what is needed alone counts
agree_kept : (p : ProgramData) (items : Items) (l : Location) (cs h : History) → items (Need l) ≡ true → Agree p l (cs ++ h) (filter (is_needed items) cs ++ h)
agree_kept p items l [] h need = agree_refl p l h
agree_kept p items l (c ∷ cs) h need =
    elim (is_needed items c) as (λ b. is_needed items c ≡ b → Agree p l (c ∷ cs ++ h) (cond b (c ∷ filter (is_needed items) cs) (filter (is_needed items) cs) ++ h)) [
      | true ↦ λ e. agree_same p l c (cs ++ h) (filter (is_needed items) cs ++ h) (agree_kept p items l cs h need)
      | false ↦ λ e. agree_then p l (c ∷ cs ++ h) (cs ++ h) (filter (is_needed items) cs ++ h) (agree_other p items l c (cs ++ h) need e) (agree_kept p items l cs h need)
    ] refl

-- two histories that grew by the same needed changes
pub record Grew (items : Items) (h h' now now' : History) : Type 0 where
  pub added : History
  pub added' : History
  pub whole : now ≡ added ++ h
  pub part : now' ≡ added' ++ h'
  pub same : filter (is_needed items) added' ≡ filter (is_needed items) added

pub grew_none : (items : Items) (h h' : History) → Grew items h h' h h'
grew_none items h h' = record { added = []; added' = []; whole = refl; part = refl; same = refl }

pub grow : (items : Items) (h h' now now' cs cs' : History) → Grew items h h' now now' → filter (is_needed items) cs' ≡ filter (is_needed items) cs → Grew items h h' (cs ++ now) (cs' ++ now')
grow items h h' now now' cs cs' g e = record {
  added = cs ++ g.added;
  added' = cs' ++ g.added';
  whole = ap (λ l. cs ++ l) g.whole ∙ sym (append_assoc cs g.added h);
  part = ap (λ l. cs' ++ l) g.part ∙ sym (append_assoc cs' g.added' h');
  same = filter-append (is_needed items) cs' g.added' ∙ (λ i. e i ++ g.same i) ∙ sym (filter-append (is_needed items) cs g.added);
}

-- they agree on what is needed, if they did before
pub still_agree : (p : ProgramData) (items : Items) (h h' now now' : History) → ((l : Location) → items (Need l) ≡ true → Agree p l h h') → Grew items h h' now now'
    → (l : Location) → items (Need l) ≡ true → Agree p l now now'
still_agree p items h h' now now' agree g l need =
    let kept = filter (is_needed items) g.added in
    let one : Agree p l (g.added ++ h) (kept ++ h) = agree_kept p items l g.added h need in
    let two : Agree p l (kept ++ h) (kept ++ h') = agree_on p l kept h h' (agree l need) in
    let three : Agree p l (g.added' ++ h') (kept ++ h') = subst (λ (ks : History). Agree p l (g.added' ++ h') (ks ++ h')) g.same (agree_kept p items l g.added' h' need) in
    let all = agree_then p l (g.added ++ h) (kept ++ h) (g.added' ++ h') one (agree_then p l (kept ++ h) (kept ++ h') (g.added' ++ h') two (agree_sym p l (g.added' ++ h') (kept ++ h') three)) in
    subst (λ (x : History). Agree p l x now') (sym g.whole) (subst (λ (x : History). Agree p l (g.added ++ h) x) (sym g.part) all)
