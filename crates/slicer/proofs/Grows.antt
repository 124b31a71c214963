-- What a growth of a set of facts gives, and what a closing round makes of it.
use Rattle.slice_laws.proofs.OneSlice.{same_test}
use Rattle.slice_laws.proofs.Lists.{each_from}
use Rattle.points_to.proofs.Parts.{first}
use Rattle.std.specs.Prelude.{◌↔◌, ◌==◌, ◌||◌}
use Rattle.std.proofs.Common.{◌≡◌, ◌<◌, ◌+◌, ◌++◌, ◌∙◌, ◌⊎◌, inl, inr, ℕ, Bool, true, false, List, [], ◌∷◌, length, Option, Some, None, refl, sym, ap, subst, arith, ⊎_elim}
use Rattle.std.specs.List.{Contains, flat_map, AllByRecursion as Each}
use Rattle.std.proofs.lemmas.List.Elements.{All-contains, All-from_recursion}
use Rattle.least.specs.Sets.{has, Within, Exactly}
use Rattle.least.proofs.Bits.{members, unchanged}
use Rattle.control_closure.specs.Met.{Parts}
use Rattle.flat_ir.specs.declared.names.FuncId.{FuncId}
use Rattle.flat_ir.specs.declared.names.NodeId.{NodeId}
use Rattle.flat_ir.specs.declared.names.Location.{Location}
use Rattle.flat_ir.specs.declared.names.Location.TheVariants as location
use Rattle.flat_ir.specs.declared.program.ProgramData.{ProgramData}
use Rattle.flat_ir.specs.Whole.{IsWhole}
use Rattle.points_to.specs.Rows.{Tables}
use Rattle.points_to.specs.Sets.{ArePointsTo}
use Rattle.slices.specs.Slice.{Item, Items, Keep, Need, Looks, Grown, IsGrown, IsClosingRound, IsClosedSlice, PartsIn, graph_of, retained, end_of}
use Rattle.slices.specs.Slice as slice
use Rattle.slicer.specs.declared.marks.Mark.{Mark}
use Rattle.slicer.specs.declared.marks.Mark.TheVariants.{Kept, Needed, Wanted, Returns, Holds}
use Rattle.slicer.specs.declared.marks.Link.{Link}
use Rattle.slicer.specs.declared.reaching.Arrow.{Arrow}
use Rattle.slicer.specs.Links.{links}
use Rattle.slicer.specs.Places.{AreLaidOut, number, has_at, marked, mark_of, items_of, both, arrow_of, size_of, number_at, spot_of}
use Rattle.slicer.specs.Reached.{Reached, begins, follows, AreWithin}
use Rattle.slicer.specs.Facts.{func, Means, IsMeant, AreGiven, Grows, ClosesOnce}
use Rattle.slicer.proofs.Numbers.{one_mark, numbered, within_size}
use Rattle.slicer.proofs.Carrying.{each_flat_map, links_carry}
use Rattle.slicer.proofs.Complete.{contains_flat_map, marked_has, IsFull, IsOwn, grown_in, grown_looks}

-- ---- numbers and facts

pub marked_at : (p : ProgramData) (starts : List ℕ) (set : List Bool) (m : Mark) (k : ℕ) → number p starts m ≡ Some k → has set k ≡ true → marked p starts set m ≡ true
marked_at p starts set m k e h = subst (λ (o : Option ℕ). has_at set o ≡ true) (sym e) h

pub marked_within : (p : ProgramData) (starts : List ℕ) (a b : List Bool) → Within (has a) (has b) → (m : Mark) → marked p starts a m ≡ true → marked p starts b m ≡ true
marked_within p starts a b within m h = let w = marked_has a (number p starts m) h in marked_at p starts b m w.0 w.1 (within w.0 w.2)

each_of_both : (P : Arrow → Type 0) (o q : Option ℕ) → ((a b : ℕ) → o ≡ Some a → q ≡ Some b → P (record { from = a; to = b })) → Each P (both o q)
each_of_both P None q h = tt
each_of_both P (Some a) None h = tt
each_of_both P (Some a) (Some b) h = (h a b refl refl, tt)

-- each arrow stands for a link
pub arrows_within : (p : ProgramData) (starts : List ℕ) → AreLaidOut p starts → (ls : List Link) → AreWithin (size_of p starts) (flat_map (arrow_of p starts) ls)
arrows_within p starts laid ls a =
    let P : Arrow → Type 0 = λ a. (a.from < size_of p starts) × (a.to < size_of p starts) in
    All-contains P (flat_map (arrow_of p starts) ls) a (All-from_recursion P (flat_map (arrow_of p starts) ls)
    (each_flat_map (arrow_of p starts) P ls (each_from (λ l. Each P (arrow_of p starts l)) ls
    (λ l there. each_of_both P (number p starts l.from) (number p starts l.to)
    (λ a b e e'. (within_size p starts laid l.from a e, within_size p starts laid l.to b e'))))))

-- the arrow of a link between facts of the program
arrow_there : (p : ProgramData) (starts : List ℕ) (ls : List Link) (l : Link) (a b : ℕ) → Contains ls l → number p starts l.from ≡ Some a → number p starts l.to ≡ Some b
    → Contains (flat_map (arrow_of p starts) ls) (record { from = a; to = b })
arrow_there p starts ls l a b there e e' =
    let x : Arrow = record { from = a; to = b } in
    contains_flat_map (arrow_of p starts) ls l x there
    (subst (λ (o : Option ℕ). Contains (both o (number p starts l.to)) x) (sym e) (subst (λ (o : Option ℕ). Contains (both (Some a) o) x) (sym e') (first x [])))

-- ---- a growth

module _ (p : ProgramData) (whole : IsWhole p) (t : Tables) (are : ArePointsTo p t) (f : FuncId) (at' : Location) (starts : List ℕ) (laid : AreLaidOut p starts)
    (looked : List Bool) (exactly : Exactly (λ k. Looks p f (func k)) (has looked)) where
  arrows : List Arrow
  arrows = flat_map (arrow_of p starts) (links p t looked)

  arrow_means : (base : Items) (l : Link) → Contains (links p t looked) l → (a b : ℕ) → number p starts l.from ≡ Some a → number p starts l.to ≡ Some b
      → IsMeant p f at' starts base a → IsMeant p f at' starts base b
  arrow_means base l there a b e e' is =
      let same : is.mark ≡ l.from = one_mark p starts laid is.mark l.from a is.number_is e in
      record {
        mark = l.to;
        number_is = e';
        means = links_carry p whole t are f at' base looked exactly.only l there (subst (λ (m : Mark). Means p f at' base m) same is.means);
      }

  arrows_mean : (base : Items) (a : Arrow) → Contains (flat_map (arrow_of p starts) (links p t looked)) a → IsMeant p f at' starts base a.from → IsMeant p f at' starts base a.to
  arrows_mean base a =
      let P : Arrow → Type 0 = λ a. IsMeant p f at' starts base a.from → IsMeant p f at' starts base a.to in
      let ls : List Link = links p t looked in
      All-contains P (flat_map (arrow_of p starts) ls) a (All-from_recursion P (flat_map (arrow_of p starts) ls)
      (each_flat_map (arrow_of p starts) P ls (each_from (λ l. Each P (arrow_of p starts l)) ls
      (λ l there. each_of_both P (number p starts l.from) (number p starts l.to) (λ a b e e'. arrow_means base l there a b e e')))))

  reached_means : (base : Items) (set : List Bool) → ((k : ℕ) → has set k ≡ true → IsMeant p f at' starts base k) → (k : ℕ)
      → Reached (flat_map (arrow_of p starts) (links p t looked)) (has set) k → IsMeant p f at' starts base k
  reached_means base set sound k (begins _ h) = sound k h
  reached_means base set sound _ (follows a there r) = arrows_mean base a there (reached_means base set sound a.from r)

  -- an item of such a set grows
  meant_item : (base : Items) (set : List Bool) → ((k : ℕ) → has set k ≡ true → IsMeant p f at' starts base k) → (i : Item) → items_of p starts set i ≡ true → Grown p f at' base i
  meant_item base set sound (Keep g n) h =
      let w = marked_has set (number p starts (Kept g n)) h in
      let is = sound w.0 w.2 in
      subst (λ (m : Mark). Means p f at' base m) (one_mark p starts laid is.mark (Kept g n) w.0 is.number_is w.1) is.means
  meant_item base set sound (Need l) h =
      let w = marked_has set (number p starts (Needed l)) h in
      let is = sound w.0 w.2 in
      subst (λ (m : Mark). Means p f at' base m) (one_mark p starts laid is.mark (Needed l) w.0 is.number_is w.1) is.means

  -- what is reached is what a round grows
  pub grows : (base : Items) (set grown : List Bool) → AreGiven p f at' starts base set → Exactly (Reached (flat_map (arrow_of p starts) (links p t looked)) (has set)) (has grown)
      → Grows p f at' starts base set grown
  grows base set grown given reach =
      let within : Within (has set) (has grown) = λ k h. reach.all k (begins k h) in
      let sound : (k : ℕ) → has grown k ≡ true → IsMeant p f at' starts base k = λ k h. reached_means base set given.sound k (reach.only k h) in
      let full : IsFull p t f at' base starts looked grown = record {
        closed = closed;
        all = λ i h. marked_within p starts set grown within (mark_of i) (given.all i h);
        asked = marked_within p starts set grown within (Needed at') given.asked;
        returns = λ e. marked_within p starts set grown within (Returns f) (given.returns e);
        looks = given.looks;
        known = λ g looks. exactly.all g.0 looks;
      } in
      record {
        grown_is = λ i. (meant_item base grown sound i, grown_in p t f at' base starts looked grown full whole are i);
        sound = sound;
        within = within;
      }
    where
      closed : (l : Link) → Contains (links p t looked) l → marked p starts grown l.from ≡ true → IsOwn p l.to → marked p starts grown l.to ≡ true
      closed l there h own =
          let w = marked_has grown (number p starts l.from) h in
          let e = numbered p starts l.to own in
          marked_at p starts grown l.to (number_at starts (spot_of p l.to)) e
          (reach.all (number_at starts (spot_of p l.to))
          (follows (record { from = w.0; to = number_at starts (spot_of p l.to) }) (arrow_there p starts (links p t looked) l w.0 (number_at starts (spot_of p l.to)) there w.1 e) (reach.only w.0 w.2)))

-- ---- a closing round

kept_same : (g h : FuncId) (n m : NodeId) → Kept g n ≡ Kept h m → (g ≡ h) × (n ≡ m)
kept_same g h n m e = (cc, cc)

module _ (p : ProgramData) (f : FuncId) (starts : List ℕ) (laid : AreLaidOut p starts) (looked : List Bool) (exactly : Exactly (λ k. Looks p f (func k)) (has looked)) (old new : List Bool)
    (closes : ClosesOnce p starts looked old new) where
  -- a node of the new set was one of the old, or parts its ways
  kept_or_parts : (g : FuncId) (n : NodeId) → marked p starts new (Kept g n) ≡ true → (marked p starts old (Kept g n) ≡ true) ⊎ PartsIn p f (items_of p starts old) g n
  kept_or_parts g n h =
      let w = marked_has new (number p starts (Kept g n)) h in
      ⊎_elim (λ before. inl (marked_at p starts old (Kept g n) w.0 w.1 before))
      (λ is.
      let same = kept_same is.func g is.node n (one_mark p starts laid (Kept is.func is.node) (Kept g n) w.0 is.number_is w.1) in
      inr (subst (λ (h : FuncId). PartsIn p f (items_of p starts old) h n) same.0
      (subst (λ (m : NodeId). PartsIn p f (items_of p starts old) is.func m) same.1 (exactly.only is.func.0 is.known, is.parts))))
      (closes.only w.0 w.2)

  need_same : (l : Location) → marked p starts new (Needed l) ≡ true → marked p starts old (Needed l) ≡ true
  need_same l h =
      let w = marked_has new (number p starts (Needed l)) h in
      ⊎_elim (λ before. marked_at p starts old (Needed l) w.0 w.1 before)
      (λ is. let e : Kept is.func is.node ≡ Needed l = one_mark p starts laid (Kept is.func is.node) (Needed l) w.0 is.number_is w.1 in absurd (cc))
      (closes.only w.0 w.2)

  pub closing_round : IsClosingRound p f (items_of p starts old) (items_of p starts new)
  closing_round = record {
    nodes = λ g n. (kept_or_parts g n, λ h. ⊎_elim (marked_within p starts old new closes.grows (Kept g n)) (λ is. closes.all g (exactly.all g.0 is.0) n is.1) h);
    needs = λ l. same_test (marked p starts new (Needed l)) (marked p starts old (Needed l)) (need_same l) (marked_within p starts old new closes.grows (Needed l));
  }

  or_true : (a b : Bool) → b ≡ true → (a || b) ≡ false → ⊥
  or_true true b e h = absurd (cc)
  or_true false b e h = absurd (cc)

  -- a closing round that added nothing
  pub is_closed : length old ≡ length new → members new ≡ members old → IsClosedSlice p f (items_of p starts old)
  is_closed size same = λ g n open' parts.
      let e : old ≡ new = unchanged old new size closes.grows same in
      let in' : marked p starts new (Kept g n) ≡ true = closes.all g (exactly.all g.0 parts.0) n parts.1 in
      or_true (n.0 == end_of p g) (marked p starts old (Kept g n)) (subst (λ (s : List Bool). marked p starts s (Kept g n) ≡ true) (sym e) in') open'

  -- what holds of the facts that a round grew holds of those that the next one begins with
  pub given_again : (at' : Location) (base : Items) (set : List Bool) → AreGiven p f at' starts base set → Grows p f at' starts base set old → length new ≡ size_of p starts
      → AreGiven p f at' starts (items_of p starts new) new
  given_again at' base set given grew size = record {
    size = size;
    sound = sound;
    all = λ i h. h;
    asked = marked_within p starts set new all' (Needed at') given.asked;
    returns = λ e. marked_within p starts set new all' (Returns f) (given.returns e);
    looks = looks;
  }
    where
      all' : Within (has set) (has new)
      all' k h = closes.grows k (grew.within k h)

      -- what grew before is there now
      again : (i : Item) → Grown p f at' base i → Grown p f at' (items_of p starts new) i
      again i h = slice.before i (marked_within p starts old new closes.grows (mark_of i) ((grew.grown_is i).1 h))

      means_again : (m : Mark) → Means p f at' base m → Means p f at' (items_of p starts new) m
      means_again (Kept g n) h = again (Keep g n) h
      means_again (Needed l) h = again (Need l) h
      means_again (Wanted g r) h = (h.0, again (Keep g h.0) h.1, h.2)
      means_again (Returns g) h = λ k ret. again (Keep g k) (h k ret)
      means_again (Holds g) h = (h.0, again (Keep g h.0) h.1)

      sound : (k : ℕ) → has new k ≡ true → IsMeant p f at' starts (items_of p starts new) k
      sound k h = ⊎_elim
          (λ before. let is = grew.sound k before in record { mark = is.mark; number_is = is.number_is; means = means_again is.mark is.means })
          (λ is. record {
            mark = Kept is.func is.node;
            number_is = is.number_is;
            means = slice.before (Keep is.func is.node) (marked_at p starts new (Kept is.func is.node) k is.number_is h);
          })
          (closes.only k h)

      looks : (g : FuncId) (n : NodeId) → items_of p starts new (Keep g n) ≡ true → Looks p f g
      looks g n h = ⊎_elim (λ before. grown_looks p f at' base given.looks (Keep g n) ((grew.grown_is (Keep g n)).0 before)) (λ is. is.0) (kept_or_parts g n h)
