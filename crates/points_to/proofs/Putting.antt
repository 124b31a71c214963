-- Sites are put in for holders, and what is asked is done.
use Rattle.std.specs.Prelude.{slice_index_or}
use Rattle.std.proofs.Common.{◌≡◌, ◌<◌, ◌≤◌, ◌+◌, ◌⊎◌, ◌∙◌, ◌||◌, ℕ, Bool, true, false, List, [], ◌∷◌, ◌++◌, length, refl, sym, ap, subst, ⊎_elim, inl, inr, arith}
use Rattle.std.specs.List.{Contains}
use Rattle.std.proofs.lemmas.Bool.{cases_lt}
use Rattle.std.proofs.lemmas.List.Elements.{Contains-get_or, Contains-append_cases, Contains-append_left, Contains-append_right, Contains-push, Contains-push_cases}
use Rattle.std.proofs.lemmas.List.{get_or_default}
use Rattle.flat_ir.specs.declared.names.Site.{Site}
use Rattle.flat_ir.specs.declared.names.Site.TheVariants as site
use Rattle.points_to.specs.declared.holders.Holder.{Holder}
use Rattle.points_to.specs.declared.holders.Holder.TheVariants.{Register, Returned, Bytes, Address, Nothing}
use Rattle.points_to.specs.declared.holders.Inclusion.{Inclusion}
use Rattle.points_to.specs.declared.holders.Inclusion.TheVariants.{Names, Copies, Loads, Stores, Moves}
use Rattle.points_to.specs.Points.{Points, address, names, copies, loads, stores, moves, site_at}
use Rattle.points_to.specs.Rows as rows
use Rattle.points_to.specs.Rows.{IsSmall, AreSmall, Key, In, Tables, AreTables, AddsToTables, size, bound, row_of}
use Rattle.points_to.specs.Solving.{key_of, place_of, holder_at, IsStored, Has, HeldBy, HeldFirst, IsSound, AreThose, Gains, Puts, PutsFirst, PutsAll, PutsBytes, PutsAllBytes, Fires, Applies, AppliesFirst, AppliesAll}
use Rattle.points_to.proofs.Growing.{sums_at_most}
use Rattle.points_to.proofs.Inserting.{row_at_most}

pub gains_none : (t : Tables) (b : Bool) → AreTables t → Gains t b t b
gains_none t b fine = record {
  grows = λ k h. h;
  fine = fine;
  places = λ k h. h;
  stays = λ e. (e, refl);
  more = λ e e'. absurd (cc);
  no_less = omega arith;
  bound = refl;
}

pub gains_then : (a : Tables) (p : Bool) (b : Tables) (q : Bool) (c : Tables) (r : Bool) → Gains a p b q → Gains b q c r → Gains a p c r
gains_then a p b q c r one two = record {
  grows = λ k h. two.grows k (one.grows k h);
  fine = two.fine;
  places = λ k h. two.places k (one.places k h);
  stays = λ e. let later = two.stays e in let earlier = one.stays later.0 in (earlier.0, later.1 ∙ earlier.1);
  more = more q one two;
  no_less = omega (arith, one.no_less, two.no_less);
  bound = two.bound ∙ one.bound;
}
  where
    more : (q : Bool) → Gains a p b q → Gains b q c r → p ≡ false → r ≡ true → size a < size c
    more true one two e e' = omega (arith, one.more e refl, two.no_less)
    more false one two e e' = omega (arith, one.no_less, two.more refl e')

pub puts_of : (old : Tables) (before : Bool) (h : Holder) (s : Site) (added : Bool) (new : Tables) (after : Bool) → AddsToTables old (key_of h s) added new
    → after ≡ (before || added) → Puts old before h s new after
puts_of old before h s added new after a e = subst (λ (b : Bool). Puts old before h s new b) (sym e) (record {
  gains = record {
    grows = a.grows;
    fine = a.fine;
    places = a.places;
    stays = stays before added a.same;
    more = more before added a.more;
    no_less = no_less added a.same a.more;
    bound = a.bound;
  };
  only = a.only;
  there = a.there;
})
  where
    stays : (b c : Bool) → (c ≡ false → new ≡ old) → (b || c) ≡ false → (b ≡ false) × (new ≡ old)
    stays true c same e = absurd (cc)
    stays false c same e = (refl, same e)

    more : (b c : Bool) → (c ≡ true → size new ≡ size old + 1) → b ≡ false → (b || c) ≡ true → size old < size new
    more true c grown e e' = absurd (cc)
    more false c grown e e' = omega (arith, grown e')

    no_less : (c : Bool) → (c ≡ false → new ≡ old) → (c ≡ true → size new ≡ size old + 1) → size old ≤ size new
    no_less true same grown = omega (arith, grown refl)
    no_less false same grown = omega (arith, ap size (same refl))

pub puts_none : (t : Tables) (b : Bool) (h : Holder) (sites : List Site) → AreTables t → PutsFirst t b h sites 0 t b
puts_none t b h sites fine = record { gains = gains_none t b fine; only = λ k at. inl at; all = λ i lt. absurd (omega (arith, lt)) }

pub puts_next : (old : Tables) (before : Bool) (h : Holder) (sites : List Site) (i : ℕ) (mid : Tables) (now : Bool) (new : Tables) (after : Bool) → i < length sites
    → PutsFirst old before h sites i mid now → Puts mid now h (site_at sites i) new after → PutsFirst old before h sites (i + 1) new after
puts_next old before h sites i mid now new after within first next = record {
  gains = gains_then old before mid now new after first.gains next.gains;
  only = λ k at. ⊎_elim (first.only k) (λ e. inr (site_at sites i, Contains-get_or sites i (site.Global 0) within, e)) (next.only k at);
  all = λ j lt place. ⊎_elim
      (λ (b : j < i). next.gains.grows (key_of h (site_at sites j)) (first.all j b place))
      (λ (a : i ≤ j). let e : i ≡ j = omega (arith, a, lt) in
      subst (λ (n : ℕ). In new (key_of h (site_at sites n))) e (next.there (subst (λ (n : ℕ). rows.Place mid (key_of h (site_at sites n))) (sym e) (first.gains.places (key_of h (site_at sites j)) place))))
      (cases_lt j i);
}

-- what stands at a place of a list
found_at : (P : Site → Type 0) (sites : List Site) → ((i : ℕ) → i < length sites → P (site_at sites i)) → (s : Site) → Contains sites s → P s
found_at P sites each s there = subst P (get_or_default sites there.0 (site.Global 0) s there.1 ∙ there.2) (each there.0 there.1)

pub puts_all : (old : Tables) (before : Bool) (h : Holder) (sites : List Site) (count : ℕ) (new : Tables) (after : Bool) → length sites ≤ count
    → PutsFirst old before h sites count new after → PutsAll old before h sites new after
puts_all old before h sites count new after enough first = record {
  gains = first.gains;
  only = first.only;
  all = found_at (λ s. rows.Place old (key_of h s) → In new (key_of h s)) sites (λ i lt. first.all i (omega (arith, lt, enough)));
}

pub bytes_none : (t : Tables) (b : Bool) (targets sites : List Site) → AreTables t → PutsBytes t b targets sites 0 t b
bytes_none t b targets sites fine = record { gains = gains_none t b fine; only = λ k at. inl at; all = λ i lt. absurd (omega (arith, lt)) }

pub bytes_next : (old : Tables) (before : Bool) (targets sites : List Site) (i : ℕ) (mid : Tables) (now : Bool) (new : Tables) (after : Bool) → i < length targets
    → PutsBytes old before targets sites i mid now → PutsAll mid now (Bytes (site_at targets i)) sites new after → PutsBytes old before targets sites (i + 1) new after
bytes_next old before targets sites i mid now new after within first next = record {
  gains = gains_then old before mid now new after first.gains next.gains;
  only = λ k at. ⊎_elim (first.only k) (λ w. inr (site_at targets i, Contains-get_or targets i (site.Global 0) within, w)) (next.only k at);
  all = λ j lt s there place. ⊎_elim
      (λ (b : j < i). next.gains.grows (key_of (Bytes (site_at targets j)) s) (first.all j b s there place))
      (λ (a : i ≤ j). let e : i ≡ j = omega (arith, a, lt) in
      subst (λ (n : ℕ). In new (key_of (Bytes (site_at targets n)) s)) e
      (next.all s there (subst (λ (n : ℕ). rows.Place mid (key_of (Bytes (site_at targets n)) s)) (sym e) (first.gains.places (key_of (Bytes (site_at targets j)) s) place))))
      (cases_lt j i);
}

pub bytes_all : (old : Tables) (before : Bool) (targets sites : List Site) (count : ℕ) (new : Tables) (after : Bool) → length targets ≤ count
    → PutsBytes old before targets sites count new after → PutsAllBytes old before targets sites new after
bytes_all old before targets sites count new after enough first = record {
  gains = first.gains;
  only = first.only;
  all = λ t s at. found_at (λ u. Contains sites s → rows.Place old (key_of (Bytes u) s) → In new (key_of (Bytes u) s)) targets
      (λ i lt. first.all i (omega (arith, lt, enough)) s) t at;
}

-- the row of a holder is its own
at_key : (list : List Inclusion) (h : Holder) (s : Site) → Points list h s → Points list (holder_at (key_of h s).0 (key_of h s).1.0 (key_of h s).1.1.0) s
at_key list (Register f r) s h = h
at_key list (Returned f) s h = h
at_key list (Bytes (site.Global g)) s h = h
at_key list (Bytes (site.Node f n)) s h = h
at_key list (Address g) s h = h
at_key list Nothing s h = h

-- what the tables have is asked
pub has_points : (list : List Inclusion) (t : Tables) → IsSound list t → (h : Holder) (s : Site) → Has t h s → Points list h s
has_points list t sound (Register f r) s at = sound (key_of (Register f r) s) at
has_points list t sound (Returned f) s at = sound (key_of (Returned f) s) at
has_points list t sound (Bytes (site.Global g)) s at = sound (key_of (Bytes (site.Global g)) s) at
has_points list t sound (Bytes (site.Node f n)) s at = sound (key_of (Bytes (site.Node f n)) s) at
has_points list t sound (Address g) s at = subst (λ (u : Site). Points list (Address g) u) (sym at) (address g)
has_points list t sound Nothing s at = absurd at

-- what is new is asked too
sound_with : (list : List Inclusion) (old new : Tables) (h : Holder) (sites : List Site) → IsSound list old
    → ((k : Key) → In new k → In old k ⊎ ((s : Site) × Contains sites s × (k ≡ key_of h s))) → ((s : Site) → Contains sites s → Points list h s) → IsSound list new
sound_with list old new h sites sound only points k at =
    ⊎_elim (sound k)
    (λ w. let P : Key → Type 0 = λ j. Points list (holder_at j.0 j.1.0 j.1.1.0) j.1.1.1 in subst P (sym w.2) (at_key list h w.0 (points w.0 w.1)))
    (only k at)

sound_with_bytes : (list : List Inclusion) (old new : Tables) (targets sites : List Site) → IsSound list old
    → ((k : Key) → In new k → In old k ⊎ ((t : Site) × Contains targets t × ((s : Site) × Contains sites s × (k ≡ key_of (Bytes t) s))))
    → ((t s : Site) → Contains targets t → Contains sites s → Points list (Bytes t) s) → IsSound list new
sound_with_bytes list old new targets sites sound only points k at =
    ⊎_elim (sound k)
    (λ w. let P : Key → Type 0 = λ j. Points list (holder_at j.0 j.1.0 j.1.1.0) j.1.1.1 in
    subst P (sym w.2.2) (at_key list (Bytes w.0) w.2.0 (points w.0 w.2.0 w.1 w.2.1)))
    (only k at)

one_site : (s t : Site) → Contains (s ∷ []) t → t ≡ s
one_site s t h = ⊎_elim (λ no'. absurd (omega (arith, no'.1))) (λ e. sym e) (Contains-push_cases [] s t h)

pub names_applies : (h : Holder) (s : Site) (old : Tables) (before : Bool) (new : Tables) (after : Bool) → Puts old before h s new after → Applies (Names h s) old before new after
names_applies h s old before new after puts = record {
  gains = puts.gains;
  sound = λ list asked sound. sound_with list old new h (s ∷ []) sound (λ k at. ⊎_elim inl (λ e. inr (s, Contains-push [] s, e)) (puts.only k at))
      (λ t there. subst (λ (u : Site). Points list h u) (sym (one_site s t there)) (names h s asked));
  fires = puts.there;
}

pub copies_applies : (from to : Holder) (sites : List Site) (old : Tables) (before : Bool) (new : Tables) (after : Bool) → AreThose (Has old from) sites
    → PutsAll old before to sites new after → Applies (Copies from to) old before new after
copies_applies from to sites old before new after those puts = record {
  gains = puts.gains;
  sound = λ list asked sound. sound_with list old new to sites sound puts.only (λ s there. copies from to s asked (has_points list old sound from s (those.only s there)));
  fires = λ s has place. puts.all s (those.all s has) place;
}

pub loads_applies : (q to : Holder) (targets sites : List Site) (old : Tables) (before : Bool) (new : Tables) (after : Bool) → AreThose (Has old q) targets
    → AreThose (HeldBy old targets) sites → PutsAll old before to sites new after → Applies (Loads q to) old before new after
loads_applies q to targets sites old before new after pointed those puts = record {
  gains = puts.gains;
  sound = λ list asked sound. sound_with list old new to sites sound puts.only (λ s there.
      let w = those.only s there in
      loads q to w.0 s asked (has_points list old sound q w.0 (pointed.only w.0 w.1)) (has_points list old sound (Bytes w.0) s w.2));
  fires = λ t s points held place. puts.all s (those.all s (t, pointed.all t points, held)) place;
}

pub stores_applies : (from q : Holder) (targets sites : List Site) (old : Tables) (before : Bool) (new : Tables) (after : Bool) → AreThose (Has old from) sites
    → AreThose (Has old q) targets → PutsAllBytes old before targets sites new after → Applies (Stores from q) old before new after
stores_applies from q targets sites old before new after those pointed puts = record {
  gains = puts.gains;
  sound = λ list asked sound. sound_with_bytes list old new targets sites sound puts.only (λ t s at there.
      stores from q t s asked (has_points list old sound q t (pointed.only t at)) (has_points list old sound from s (those.only s there)));
  fires = λ t s points has place. puts.all t s (pointed.all t points) (those.all s has) place;
}

pub moves_applies : (from to : Holder) (sources targets sites : List Site) (old : Tables) (before : Bool) (new : Tables) (after : Bool) → AreThose (Has old from) sources
    → AreThose (Has old to) targets → AreThose (HeldBy old sources) sites → PutsAllBytes old before targets sites new after → Applies (Moves from to) old before new after
moves_applies from to sources targets sites old before new after read pointed those puts = record {
  gains = puts.gains;
  sound = λ list asked sound. sound_with_bytes list old new targets sites sound puts.only (λ u s at there.
      let w = those.only s there in
      moves from to w.0 u s asked (has_points list old sound from w.0 (read.only w.0 w.1)) (has_points list old sound (Bytes w.0) s w.2) (has_points list old sound to u (pointed.only u at)));
  fires = λ t u s source held points place. puts.all u s (pointed.all u points) (those.all s (t, read.all t source, held)) place;
}

pub applies_none : (list : List Inclusion) (t : Tables) (b : Bool) → AreTables t → AppliesFirst list 0 t b t b
applies_none list t b fine = record { gains = gains_none t b fine; sound = λ h. h; fires = λ e i lt. absurd (omega (arith, lt)) }

pub applies_next : (list : List Inclusion) (i : ℕ) (d : Inclusion) (old : Tables) (before : Bool) (mid : Tables) (now : Bool) (new : Tables) (after : Bool) → i < length list
    → AppliesFirst list i old before mid now → Applies (slice_index_or list i d) mid now new after → AppliesFirst list (i + 1) old before new after
applies_next list i d old before mid now new after within first next = record {
  gains = gains_then old before mid now new after first.gains next.gains;
  sound = λ h. next.sound list (Contains-get_or list i d within) (first.sound h);
  fires = λ e j lt c is.
      let still = next.gains.stays e in
      ⊎_elim
      (λ (b : j < i). subst (λ (t : Tables). Fires c t t) (sym still.1) (first.fires still.0 j b c is))
      (λ (a : i ≤ j). let same : j ≡ i = omega (arith, a, lt) in
      let it : slice_index_or list i d ≡ c = get_or_default list i d c within ∙ sym (is ∙ ap (λ n. slice_index_or list n c) same) in
      subst (λ (x : Inclusion). Fires x new new) it (subst (λ (t : Tables). Fires (slice_index_or list i d) t new) (sym still.1) next.fires))
      (cases_lt j i);
}

pub applies_all : (list : List Inclusion) (count : ℕ) (old : Tables) (before : Bool) (new : Tables) (after : Bool) → length list ≤ count
    → AppliesFirst list count old before new after → AppliesAll list old before new after
applies_all list count old before new after enough first = record {
  gains = first.gains;
  sound = first.sound;
  fires = λ e c there. first.fires e there.0 (omega (arith, there.1, enough)) c (sym there.2);
}

-- the tables never have more than there is place for
pub size_at_most : (t : Tables) → AreTables t → size t ≤ bound t
size_at_most t fine =
    sums_at_most _ _ _ [] (λ table is. sums_at_most _ _ _ [] (λ rs are. sums_at_most rows.IsRow length rows.most [] row_at_most rs are) table is) t fine

-- the row of some bytes
bytes_row : (t : Tables) (u s : Site) → Contains (row_of t (place_of (Bytes u)).kind (place_of (Bytes u)).part (place_of (Bytes u)).at) s → Has t (Bytes u) s
bytes_row t (site.Global g) s h = h
bytes_row t (site.Node f n) s h = h

row_bytes : (t : Tables) (u s : Site) → Has t (Bytes u) s → Contains (row_of t (place_of (Bytes u)).kind (place_of (Bytes u)).part (place_of (Bytes u)).at) s
row_bytes t (site.Global g) s h = h
row_bytes t (site.Node f n) s h = h

pub held_none : (t : Tables) (targets : List Site) → AreThose (HeldFirst t targets 0) []
held_none t targets = record { only = λ s h. absurd (omega (arith, h.1)); all = λ s w. absurd (omega (arith, w.1)); small = λ s h. absurd (omega (arith, h.1)) }

pub held_next : (t : Tables) (targets : List Site) (i : ℕ) (found row : List Site) → AreTables t → i < length targets → AreThose (HeldFirst t targets i) found
    → row ≡ row_of t (place_of (Bytes (site_at targets i))).kind (place_of (Bytes (site_at targets i))).part (place_of (Bytes (site_at targets i))).at
    → AreThose (HeldFirst t targets (i + 1)) (found ++ row)
held_next t targets i found row fine within those is =
    let place = place_of (Bytes (site_at targets i)) in
    record {
      only = λ s h. ⊎_elim
          (λ old. let w = those.only s old in (w.0, omega (arith, w.1), w.2, w.3))
          (λ new. (i, omega arith, within, bytes_row t (site_at targets i) s (subst (λ (r : List Site). Contains r s) is new)))
          (Contains-append_cases found row s h);
      all = λ s w. ⊎_elim
          (λ (b : w.0 < i). Contains-append_left found row s (those.all s (w.0, b, w.2, w.3)))
          (λ (a : i ≤ w.0). let e : w.0 ≡ i = omega (arith, a, w.1) in
          Contains-append_right found row s (subst (λ (r : List Site). Contains r s) (sym is)
          (row_bytes t (site_at targets i) s (subst (λ (n : ℕ). Has t (Bytes (site_at targets n)) s) e w.3))))
          (cases_lt w.0 i);
      small = λ s h. ⊎_elim (those.small s) (λ new. (fine place.kind place.part place.at).small s (subst (λ (r : List Site). Contains r s) is new)) (Contains-append_cases found row s h);
    }

pub held_all : (t : Tables) (targets : List Site) (count : ℕ) (found : List Site) → length targets ≤ count → AreThose (HeldFirst t targets count) found → AreThose (HeldBy t targets) found
held_all t targets count found enough those = record {
  only = λ s h. let w = those.only s h in (site_at targets w.0, Contains-get_or targets w.0 (site.Global 0) w.2, w.3);
  all = λ s w. those.all s (
    w.1.0,
    omega (arith, w.1.1, enough),
    w.1.1,
    subst (λ (u : Site). Has t (Bytes u) s) (sym (get_or_default targets w.1.0 (site.Global 0) w.0 w.1.1 ∙ w.1.2)) w.2,
  );
  small = those.small;
}

-- the row of a holder that has one
pub stored_row : (t : Tables) (h : Holder) (sites : List Site) → AreTables t → IsStored h → sites ≡ row_of t (place_of h).kind (place_of h).part (place_of h).at → AreThose (Has t h) sites
stored_row t (Register f r) sites fine there is = subst (λ (row : List Site). AreThose (Has t (Register f r)) row) (sym is) (record { only = λ s h. h; all = λ s h. h; small = (fine 0 f.0 r.0).small })
stored_row t (Returned f) sites fine there is = subst (λ (row : List Site). AreThose (Has t (Returned f)) row) (sym is) (record { only = λ s h. h; all = λ s h. h; small = (fine 3 0 f.0).small })
stored_row t (Bytes (site.Global g)) sites fine there is = subst (λ (row : List Site). AreThose (Has t (Bytes (site.Global g))) row) (sym is) (record { only = λ s h. h; all = λ s h. h; small = (fine 2 0 g).small })
stored_row t (Bytes (site.Node f n)) sites fine there is = subst (λ (row : List Site). AreThose (Has t (Bytes (site.Node f n))) row) (sym is) (record { only = λ s h. h; all = λ s h. h; small = (fine 1 f.0 n.0).small })
stored_row t (Address g) sites fine there is = absurd there
stored_row t Nothing sites fine there is = absurd there
