-- The life of an object in a log with marks.
use Rattle.std.proofs.Common.{◌≡◌, ℕ, Bool, true, false, not, List, [], ◌∷◌, ◌++◌, inl, inr, ◌&&◌, ◌||◌, refl, sym, ap, ◌∙◌, subst}
use Rattle.std.specs.Prelude.{cond}
use Rattle.std.specs.List.{list_any, filter}
use Rattle.std.proofs.lemmas.Bool.{false≢true, cases_Bool, or_cases, or_left, or_right, or_parts}
use Rattle.std.proofs.lemmas.List.Elements.{filter-append}
use Rattle.std.proofs.lemmas.List.Folds.{list_any-append}
use Rattle.flat_ir.specs.declared.names.CallStep.{CallStep}
use Rattle.flat_ir.specs.declared.names.Location.{Location}
use Rattle.flat_ir.specs.declared.names.ObjectName.{ObjectName}
use Rattle.flat_ir.specs.declared.names.ObjectName.TheVariants as object
use Rattle.flat_ir.specs.declared.program.ProgramData.{ProgramData}
use Rattle.flat_ir.specs.History as history
use Rattle.flat_ir.specs.History.{Change, Write, Alloc, Free, Get, Put, History, same_object}
use Rattle.sym_bytes.specs.Entry.{Entry}
use Rattle.sym_bytes.specs.Entry as entry
use Rattle.sym_bytes.specs.Answers.{Dead}
use Rattle.sym_bytes.specs.Under.{Results}
use Rattle.log_laws.specs.Law.{LifeIs, is_life_of, IsOnce}
use Rattle.flat_ir.specs.Locations.{life_of, same_location, lies_in}
use Rattle.log_laws.specs.Logs.{Fill, Did, Marked, Log, life, alive_with, newest_size, is_free_of, is_alloc_of, seen_at, filled, is_filled, is_open}
use Rattle.log_laws.specs.Needs.{recovered_at, is_freed, need_life, need_life_back, call_if}
use Rattle.log_laws.specs.Standing.{Gave, changes_under, all_under, log_under, AreFills, IsMarkOf, AreMarks, StandsFor}
use Rattle.log_laws.proofs.LogChanges.{same_location-true, sites_agree, is_alloc_at}
use Rattle.log_laws.proofs.Marks.{filled_is, unfilled_is, closed_is, under_append, append_empty, call_closed, recovered_any, alloc_any, allocs_any}
use Rattle.log_laws.proofs.Lives.{frees_under, sizes_under, size_moves, made_life, and_false}

-- ---- parts of parts

filter_within : (p q : Change → Bool) → ((change : Change) → p change ≡ true → q change ≡ true) → (h : List Change) → filter p (filter q h) ≡ filter p h
filter_within p q inside [] = refl
filter_within p q inside (change ∷ h) = by_tests (p change) (q change) refl refl (filter_within p q inside h)
  where
    by_tests : (a b : Bool) → p change ≡ a → q change ≡ b → filter p (filter q h) ≡ filter p h → filter p (cond b (change ∷ filter q h) (filter q h)) ≡ cond a (change ∷ filter p h) (filter p h)
    by_tests true true e f more = ap (λ t. cond t (change ∷ filter p (filter q h)) (filter p (filter q h))) e ∙ ap (λ g. change ∷ g) more
    by_tests true false e f more = absurd (false≢true (sym f ∙ inside change e))
    by_tests false true e f more = ap (λ t. cond t (change ∷ filter p (filter q h)) (filter p (filter q h))) e ∙ more
    by_tests false false e f more = more

any_within : (p q : Change → Bool) → ((change : Change) → p change ≡ true → q change ≡ true) → (h : List Change) → list_any p (filter q h) ≡ list_any p h
any_within p q inside [] = refl
any_within p q inside (change ∷ h) = by_tests (p change) (q change) refl refl (any_within p q inside h)
  where
    by_tests : (a b : Bool) → p change ≡ a → q change ≡ b → list_any p (filter q h) ≡ list_any p h → list_any p (cond b (change ∷ filter q h) (filter q h)) ≡ (a || list_any p h)
    by_tests true true e f more = ap (λ t. t || list_any p (filter q h)) e
    by_tests true false e f more = absurd (false≢true (sym f ∙ inside change e))
    by_tests false true e f more = ap (λ t. t || list_any p (filter q h)) e ∙ more
    by_tests false false e f more = more

none_filter : (p : Change → Bool) (h : List Change) → list_any p h ≡ false → filter p h ≡ []
none_filter p [] e = refl
none_filter p (change ∷ h) e =
    let parts = or_parts (p change) (list_any p h) e in
    ap (λ t. cond t (change ∷ filter p h) (filter p h)) parts.0 ∙ none_filter p h parts.1

life_is_there : (x : ObjectName) (change : Change) → is_life_of x change ≡ true → lies_in (life_of x) change ≡ true
life_is_there x (Alloc y size) e = sites_agree x y e
life_is_there x (Free y) e = sites_agree x y e
life_is_there x (Write y j b) e = cc
life_is_there x Get e = cc
life_is_there x (Put b) e = cc

free_is_life : (x : ObjectName) (change : Change) → history.is_free_of x change ≡ true → is_life_of x change ≡ true
free_is_life x (Free y) e = e
free_is_life x (Alloc y size) e = cc
free_is_life x (Write y j b) e = cc
free_is_life x Get e = cc
free_is_life x (Put b) e = cc

alloc_is_life : (x : ObjectName) (change : Change) → history.is_alloc_of x change ≡ true → is_life_of x change ≡ true
alloc_is_life x (Alloc y size) e = e
alloc_is_life x (Free y) e = cc
alloc_is_life x (Write y j b) e = cc
alloc_is_life x Get e = cc
alloc_is_life x (Put b) e = cc

-- the changes of the object's life
abbrev lives : ObjectName → History → History
lives x h = filter (is_life_of x) h

size_lives : (x : ObjectName) (h : History) → history.size_made x (lives x h) ≡ history.size_made x h
size_lives x [] = refl
size_lives x (Alloc y size ∷ h) = by_object (same_object x y) refl (size_lives x h)
  where
    by_object : (t : Bool) → same_object x y ≡ t → history.size_made x (lives x h) ≡ history.size_made x h
        → history.size_made x (cond t (Alloc y size ∷ lives x h) (lives x h)) ≡ cond t size (history.size_made x h)
    by_object true e more = ap (λ t. cond t size (history.size_made x (lives x h))) e
    by_object false e more = more
size_lives x (Free y ∷ h) = by_object (same_object x y) (size_lives x h)
  where
    by_object : (t : Bool) → history.size_made x (lives x h) ≡ history.size_made x h → history.size_made x (cond t (Free y ∷ lives x h) (lives x h)) ≡ history.size_made x h
    by_object true more = more
    by_object false more = more
size_lives x (Write y j b ∷ h) = size_lives x h
size_lives x (Get ∷ h) = size_lives x h
size_lives x (Put b ∷ h) = size_lives x h

-- ---- the walk

once_rest : (x : ObjectName) (g h : History) → IsOnce x (g ++ h) → IsOnce x h
once_rest x [] h once = once
once_rest x (Alloc y size ∷ g) h once = once_rest x g h once.1
once_rest x (Free y ∷ g) h once = once_rest x g h once
once_rest x (Write y j b ∷ g) h once = once_rest x g h once
once_rest x (Get ∷ g) h once = once_rest x g h once
once_rest x (Put b ∷ g) h once = once_rest x g h once

once_before : (x : ObjectName) (g h : History) → IsOnce x (g ++ h) → list_any (is_alloc_at x) g ≡ true → list_any (is_life_of x) h ≡ false
once_before x [] h once e = cc
once_before x (Alloc y size ∷ g) h once e = elim (or_cases (same_object x y) (list_any (is_alloc_at x) g) e) [
  | inl is ↦ (or_parts (list_any (is_life_of x) g) (list_any (is_life_of x) h) (sym (list_any-append (is_life_of x) g h) ∙ once.0 is)).1
  | inr more ↦ once_before x g h once.1 more
]
once_before x (Free y ∷ g) h once e = once_before x g h once e
once_before x (Write y j b ∷ g) h once e = once_before x g h once e
once_before x (Get ∷ g) h once e = once_before x g h once e
once_before x (Put b ∷ g) h once e = once_before x g h once e

empty_lives : (input : List ℕ) (results : Results) (changes : List Change) (x : ObjectName) (mods : List Location) (fills : List Fill)
    → IsMarkOf input results changes mods fills → list_any (is_life_of x) changes ≡ false → lives x (all_under input results (filled (life_of x) fills)) ≡ []
empty_lives input results changes x mods fills mark none = elim (cases_Bool (is_filled (life_of x) fills)) [
  | inl is ↦ ap (lives x) (filled_is input results changes (life_of x) fills mark.fills_are is)
      ∙ filter_within (is_life_of x) (lies_in (life_of x)) (life_is_there x) changes ∙ none_filter (is_life_of x) changes none
  | inr other ↦ ap (lives x) (unfilled_is input results (life_of x) fills other)
]

none_seen : (input : List ℕ) (results : Results) (gave : Gave) (x : ObjectName) (log : Log)
    → AreMarks input results gave log → list_any (is_life_of x) (log_under input results gave log) ≡ false → lives x (all_under input results (seen_at (life_of x) log)) ≡ []
none_seen input results gave x [] marks none = refl
none_seen input results gave x (Did e ∷ log) marks none =
    let parts = or_parts _ _ (sym (list_any-append (is_life_of x) (changes_under input results e) (log_under input results gave log)) ∙ none) in
    filter-append (is_life_of x) (changes_under input results e) (all_under input results (seen_at (life_of x) log))
    ∙ ap (λ g. g ++ lives x (all_under input results (seen_at (life_of x) log))) (none_filter (is_life_of x) (changes_under input results e) parts.0)
    ∙ none_seen input results gave x log marks parts.1
none_seen input results gave x (Marked c mods fills ∷ log) marks none =
    let parts = or_parts _ _ (sym (list_any-append (is_life_of x) (gave c) (log_under input results gave log)) ∙ none) in
    ap (lives x) (under_append input results (filled (life_of x) fills) (seen_at (life_of x) log))
    ∙ filter-append (is_life_of x) (all_under input results (filled (life_of x) fills)) (all_under input results (seen_at (life_of x) log))
    ∙ ap (λ g. g ++ lives x (all_under input results (seen_at (life_of x) log))) (empty_lives input results (gave c) x mods fills marks.0 parts.0)
    ∙ none_seen input results gave x log marks.1 parts.1

two_parts : (x : ObjectName) (a b c d : History) → lives x a ≡ lives x c → lives x b ≡ lives x d → lives x (a ++ b) ≡ lives x (c ++ d)
two_parts x a b c d e f = filter-append (is_life_of x) a b ∙ ap (λ g. g ++ lives x b) e ∙ ap (λ g. lives x c ++ g) f ∙ sym (filter-append (is_life_of x) c d)

both_none : (input : List ℕ) (results : Results) (gave : Gave) (x : ObjectName) (log : Log)
    → AreMarks input results gave log → list_any (is_life_of x) (log_under input results gave log) ≡ false
    → lives x (all_under input results (seen_at (life_of x) log)) ≡ lives x (log_under input results gave log)
both_none input results gave x log marks none = none_seen input results gave x log marks none ∙ sym (none_filter (is_life_of x) (log_under input results gave log) none)

pub lives_seen : (input : List ℕ) (results : Results) (gave : Gave) (x : ObjectName) (log : Log)
    → AreMarks input results gave log → IsOnce x (log_under input results gave log) → need_life_back x log ≡ []
    → lives x (all_under input results (seen_at (life_of x) log)) ≡ lives x (log_under input results gave log)
lives_seen input results gave x [] marks once none = refl
lives_seen input results gave x (Did e ∷ log) marks once none =
    two_parts x (changes_under input results e) _ (changes_under input results e) _ refl
    (elim (cases_Bool (is_alloc_of x e)) [
      | inl is ↦ both_none input results gave x log marks (once_before x (changes_under input results e) (log_under input results gave log) once (alloc_any input results x e is))
      | inr other ↦ lives_seen input results gave x log marks (once_rest x (changes_under input results e) (log_under input results gave log) once)
          (sym (ap (λ t. cond t [] (need_life_back x log)) other) ∙ none)
    ])
lives_seen input results gave x (Marked c mods fills ∷ log) marks once none =
    let here = append_empty (cond (list_any (is_alloc_of x) (recovered_at fills)) [] (need_life_back x log)) (call_if (is_open (life_of x) mods fills) c) none in
    ap (lives x) (under_append input results (filled (life_of x) fills) (seen_at (life_of x) log))
    ∙ two_parts x (all_under input results (filled (life_of x) fills)) _ (gave c) _
    (ap (lives x) (closed_is input results (gave c) (life_of x) mods fills marks.0 (call_closed (is_open (life_of x) mods fills) c here.1))
    ∙ filter_within (is_life_of x) (lies_in (life_of x)) (life_is_there x) (gave c))
    (elim (cases_Bool (list_any (is_alloc_of x) (recovered_at fills))) [
      | inl is ↦ both_none input results gave x log marks.1 (once_before x (gave c) (log_under input results gave log) once
          (recovered_any input results (is_alloc_at x) (gave c) fills marks.0.fills_are (allocs_any input results x (recovered_at fills) is)))
      | inr other ↦ lives_seen input results gave x log marks.1 (once_rest x (gave c) (log_under input results gave log) once)
          (sym (ap (λ t. cond t [] (need_life_back x log)) other) ∙ here.0)
    ])

-- the law of lives where no Free of the object stands in the log
pub unfreed_law : (p : ProgramData) (input : List ℕ) (results : Results) (gave : Gave) (frame : List CallStep) (made : CallStep) (log : Log) (h : History)
    → StandsFor log h input results gave → IsOnce (object.Made frame made) h → need_life_back (object.Made frame made) log ≡ []
    → LifeIs p input (object.Made frame made) h (life p.globals (object.Made frame made) log)
unfreed_law p input results gave frame made log h stands once none =
    let x = object.Made frame made in
    let es = seen_at (life_of x) log in
    let shown = all_under input results es in
    let same : lives x shown ≡ lives x h = lives_seen input results gave x log stands.marks (subst (IsOnce x) stands.is once) none ∙ ap (lives x) (sym stands.is) in
    let frees : list_any (history.is_free_of x) h ≡ list_any (history.is_free_of x) shown =
    sym (any_within (history.is_free_of x) (is_life_of x) (free_is_life x) h) ∙ ap (list_any (history.is_free_of x)) (sym same) ∙ any_within (history.is_free_of x) (is_life_of x) (free_is_life x) shown in
    let allocs : list_any (history.is_alloc_of x) h ≡ list_any (history.is_alloc_of x) shown =
    sym (any_within (history.is_alloc_of x) (is_life_of x) (alloc_is_life x) h) ∙ ap (list_any (history.is_alloc_of x)) (sym same) ∙ any_within (history.is_alloc_of x) (is_life_of x) (alloc_is_life x) shown in
    let sizes : history.size_made x h ≡ history.size_made x shown = sym (size_lives x h) ∙ ap (history.size_made x) (sym same) ∙ size_lives x shown in
    made_life p input frame made h (list_any (is_free_of x) es) (newest_size x es) (frees ∙ frees_under input results x es)
    (size_moves input x h shown (newest_size x es) allocs sizes (sizes_under input results x es))

-- ---- a Free in the log or its fills

frees_any : (input : List ℕ) (results : Results) (x : ObjectName) (e : Entry) → is_free_of x e ≡ true → list_any (history.is_free_of x) (changes_under input results e) ≡ true
frees_any input results x (entry.Free y) e = or_left _ false e
frees_any input results x (entry.Alloc y size) e = cc
frees_any input results x (entry.Write y offset bs) e = cc
frees_any input results x (entry.Put t) e = cc
frees_any input results x entry.Get e = cc

one_or_none : (b : Bool) → (b || false) ≡ true → b ≡ true
one_or_none true e = refl
one_or_none false e = cc

freed_history : (input : List ℕ) (results : Results) (gave : Gave) (x : ObjectName) (log : Log)
    → AreMarks input results gave log → is_freed x log ≡ true → list_any (history.is_free_of x) (log_under input results gave log) ≡ true
freed_history input results gave x [] marks e = cc
freed_history input results gave x (Did d ∷ log) marks e =
    list_any-append (history.is_free_of x) (changes_under input results d) (log_under input results gave log)
    ∙ (elim (or_cases (list_any (is_free_of x) (d ∷ [])) (is_freed x log) e) [
      | inl here ↦ or_left _ _ (frees_any input results x d (one_or_none (is_free_of x d) here))
      | inr more ↦ or_right (list_any (history.is_free_of x) (changes_under input results d)) _ (freed_history input results gave x log marks more)
    ])
freed_history input results gave x (Marked c mods fills ∷ log) marks e =
    list_any-append (history.is_free_of x) (gave c) (log_under input results gave log)
    ∙ (elim (or_cases (list_any (is_free_of x) (recovered_at fills)) (is_freed x log) e) [
      | inl here ↦ or_left _ _ (recovered_any input results (history.is_free_of x) (gave c) fills marks.0.fills_are (frees_under input results x (recovered_at fills) ∙ here))
      | inr more ↦ or_right (list_any (history.is_free_of x) (gave c)) _ (freed_history input results gave x log marks.1 more)
    ])

-- a Free of the object lies nowhere but in its life
free_there : (x : ObjectName) (at : Location) (h : List Change) → list_any (history.is_free_of x) (filter (lies_in at) h) ≡ true → same_location (life_of x) at ≡ true
free_there x at [] e = cc
free_there x at (Free y ∷ h) e = by_place (same_location at (life_of y)) refl e (free_there x at h)
  where
    by_place : (t : Bool) → same_location at (life_of y) ≡ t → list_any (history.is_free_of x) (cond t (Free y ∷ filter (lies_in at) h) (filter (lies_in at) h)) ≡ true
        → (list_any (history.is_free_of x) (filter (lies_in at) h) ≡ true → same_location (life_of x) at ≡ true) → same_location (life_of x) at ≡ true
    by_place false is found more = more found
    by_place true is found more = elim (or_cases (same_object x y) (list_any (history.is_free_of x) (filter (lies_in at) h)) found) [
      | inl same ↦ ap (same_location (life_of x)) (same_location-true at (life_of y) is) ∙ sites_agree x y same
      | inr later ↦ more later
    ]
free_there x at (Alloc y size ∷ h) e = free_there x at h (skip (same_location at (life_of y)) e)
  where
    skip : (t : Bool) → list_any (history.is_free_of x) (cond t (Alloc y size ∷ filter (lies_in at) h) (filter (lies_in at) h)) ≡ true → list_any (history.is_free_of x) (filter (lies_in at) h) ≡ true
    skip true found = found
    skip false found = found
free_there x at (Write y j b ∷ h) e = free_there x at h (skip (lies_in at (Write y j b)) e)
  where
    skip : (t : Bool) → list_any (history.is_free_of x) (cond t (Write y j b ∷ filter (lies_in at) h) (filter (lies_in at) h)) ≡ true → list_any (history.is_free_of x) (filter (lies_in at) h) ≡ true
    skip true found = found
    skip false found = found
free_there x at (Get ∷ h) e = free_there x at h (skip (lies_in at Get) e)
  where
    skip : (t : Bool) → list_any (history.is_free_of x) (cond t (Get ∷ filter (lies_in at) h) (filter (lies_in at) h)) ≡ true → list_any (history.is_free_of x) (filter (lies_in at) h) ≡ true
    skip true found = found
    skip false found = found
free_there x at (Put b ∷ h) e = free_there x at h (skip (lies_in at (Put b)) e)
  where
    skip : (t : Bool) → list_any (history.is_free_of x) (cond t (Put b ∷ filter (lies_in at) h) (filter (lies_in at) h)) ≡ true → list_any (history.is_free_of x) (filter (lies_in at) h) ≡ true
    skip true found = found
    skip false found = found

free_filled : (input : List ℕ) (results : Results) (changes : List Change) (x : ObjectName) (fills : List Fill)
    → AreFills input results changes fills → list_any (history.is_free_of x) (all_under input results (recovered_at fills)) ≡ true → is_filled (life_of x) fills ≡ true
free_filled input results changes x [] right e = cc
free_filled input results changes x (f ∷ fills) right e =
    elim (or_cases (list_any (history.is_free_of x) (all_under input results f.entries)) (list_any (history.is_free_of x) (all_under input results (recovered_at fills)))
    (sym (ap (list_any (history.is_free_of x)) (under_append input results f.entries (recovered_at fills)) ∙ list_any-append (history.is_free_of x) (all_under input results f.entries) (all_under input results (recovered_at fills))) ∙ e)) [
      | inl here ↦ or_left _ _ (free_there x f.at changes (ap (list_any (history.is_free_of x)) (sym right.0) ∙ here))
      | inr more ↦ or_right (same_location (life_of x) f.at) _ (free_filled input results changes x fills right.1 more)
    ]

freed_seen : (input : List ℕ) (results : Results) (gave : Gave) (x : ObjectName) (log : Log)
    → AreMarks input results gave log → is_freed x log ≡ true → list_any (history.is_free_of x) (all_under input results (seen_at (life_of x) log)) ≡ true
freed_seen input results gave x [] marks e = cc
freed_seen input results gave x (Did d ∷ log) marks e =
    list_any-append (history.is_free_of x) (changes_under input results d) (all_under input results (seen_at (life_of x) log))
    ∙ (elim (or_cases (list_any (is_free_of x) (d ∷ [])) (is_freed x log) e) [
      | inl here ↦ or_left _ _ (frees_any input results x d (one_or_none (is_free_of x d) here))
      | inr more ↦ or_right (list_any (history.is_free_of x) (changes_under input results d)) _ (freed_seen input results gave x log marks more)
    ])
freed_seen input results gave x (Marked c mods fills ∷ log) marks e =
    ap (list_any (history.is_free_of x)) (under_append input results (filled (life_of x) fills) (seen_at (life_of x) log))
    ∙ list_any-append (history.is_free_of x) (all_under input results (filled (life_of x) fills)) (all_under input results (seen_at (life_of x) log))
    ∙ (elim (or_cases (list_any (is_free_of x) (recovered_at fills)) (is_freed x log) e) [
      | inl here ↦
          let found : list_any (history.is_free_of x) (all_under input results (recovered_at fills)) ≡ true = frees_under input results x (recovered_at fills) ∙ here in
          or_left _ _ (ap (list_any (history.is_free_of x)) (filled_is input results (gave c) (life_of x) fills marks.0.fills_are (free_filled input results (gave c) x fills marks.0.fills_are found))
          ∙ any_within (history.is_free_of x) (lies_in (life_of x)) (λ change is. life_is_there x change (free_is_life x change is)) (gave c)
          ∙ recovered_any input results (history.is_free_of x) (gave c) fills marks.0.fills_are found)
      | inr more ↦ or_right (list_any (history.is_free_of x) (all_under input results (filled (life_of x) fills))) _ (freed_seen input results gave x log marks.1 more)
    ])

freed_law : (p : ProgramData) (input : List ℕ) (results : Results) (gave : Gave) (frame : List CallStep) (made : CallStep) (log : Log) (h : History)
    → StandsFor log h input results gave → is_freed (object.Made frame made) log ≡ true
    → LifeIs p input (object.Made frame made) h (life p.globals (object.Made frame made) log)
freed_law p input results gave frame made log h stands freed =
    let x = object.Made frame made in
    let es = seen_at (life_of x) log in
    let dead : list_any (is_free_of x) es ≡ true = sym (frees_under input results x es) ∙ freed_seen input results gave x log stands.marks freed in
    let gone : list_any (history.is_free_of x) h ≡ true = ap (list_any (history.is_free_of x)) stands.is ∙ freed_history input results gave x log stands.marks freed in
    subst (λ t. LifeIs p input x h (cond t Dead (alive_with (newest_size x es)))) (sym dead)
    (ap (λ t. list_any (history.is_alloc_of x) h && not t) gone ∙ and_false (list_any (history.is_alloc_of x) h))

-- the law: where no call is needed, what is said of an object's life is so in the history
pub life_law : (p : ProgramData) (input : List ℕ) (results : Results) (gave : Gave) (x : ObjectName) (log : Log) (h : History)
    → StandsFor log h input results gave → IsOnce x h → need_life x log ≡ []
    → LifeIs p input x h (life p.globals x log)
life_law p input results gave (object.Global g) log h stands once none = (refl, refl)
life_law p input results gave (object.Made frame made) log h stands once none = elim (cases_Bool (is_freed (object.Made frame made) log)) [
  | inl freed ↦ freed_law p input results gave frame made log h stands freed
  | inr other ↦ unfreed_law p input results gave frame made log h stands once (sym (ap (λ t. cond t [] (need_life_back (object.Made frame made) log)) other) ∙ none)
]
