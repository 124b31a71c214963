-- The memory law with marks: where no call is needed, what the location's fills show is what the calls changed.
use Rattle.std.proofs.Common.{◌≡◌, ℕ, Bool, true, false, not, List, [], ◌∷◌, ◌++◌, length, Option, Some, None, ◌⊎◌, inl, inr, ◌+◌, ◌%◌, ◌^◌, ◌==◌, ◌&&◌, ◌||◌, ◌≤◌, refl, sym, ap, ◌∙◌, subst, append_assoc}
use Rattle.std.specs.Prelude.{cond}
use Rattle.std.specs.Option.{option_map}
use Rattle.std.specs.List.{list_any, filter}
use Rattle.std.proofs.lemmas.Bool.{false≢true, eqb-true, and_from, and_cases, or_cases, or_left, or_right, or_parts, cases_Bool, not-false}
use Rattle.std.proofs.lemmas.List.Folds.{list_any-append}
use Rattle.bitnum.specs.Number.{Number}
use Rattle.terms.specs.Tree.{Tree, constant, one, two, choice}
use Rattle.terms.specs.Tree as tree
use Rattle.terms.specs.Folding.{constant_of}
use Rattle.flat_ir.specs.declared.names.Location.{Location}
use Rattle.flat_ir.specs.declared.names.ObjectName.{ObjectName}
use Rattle.flat_ir.specs.declared.program.ProgramData.{ProgramData}
use Rattle.flat_ir.specs.declared.values.ConcreteByte.{ConcreteByte}
use Rattle.flat_ir.specs.History.{Change, Write, History, same_object, byte_at, initial}
use Rattle.flat_ir.specs.Registers.{first_of}
use Rattle.sym_bytes.specs.declared.names.CallId.{CallId}
use Rattle.sym_bytes.specs.Entry.{Entry}
use Rattle.sym_bytes.specs.Entry as entry
use Rattle.sym_bytes.specs.Answers.{Byte}
use Rattle.sym_bytes.specs.Byte.{SymByte}
use Rattle.sym_bytes.specs.Under.{Results, bits_under, byte_under}
use Rattle.log_laws.specs.Law.{byte_over, Unwritten, IsBorn, Wants}
use Rattle.sym_bytes.specs.Fitting.{IsWide, AreEntries}
use Rattle.flat_ir.specs.Locations.{cells_of, same_location, location_of as place_of, lies_in}
use Rattle.log_laws.specs.Logs.{Fill, Did, Marked, Log, seen_at, is_filled, filled, is_open, is_alloc_of}
use Rattle.log_laws.specs.Needs.{left_by, left_behind, left_behind_all, recovered_at, is_covered, call_if, need_bytes}
use Rattle.log_laws.specs.Reading.{initial_bytes, read_byte}
use Rattle.terms.specs.Value.{are_met_by}
use Rattle.log_laws.specs.Standing.{Gave, writes_under, changes_under, all_under, log_under, OnlyIn, AreFills, IsMarkOf, AreMarks, StandsFor}
use Rattle.log_laws.proofs.Chains.{over_append}
use Rattle.log_laws.proofs.LogChanges.{same_location-true, over_cells, wrote, is_write_at, wrote_over, any_filter, unwritten_over, unwritten_parts, is_alloc_at, born_unwritten, born_rest}
use Rattle.log_laws.proofs.Unmarked.{over_initial, seen_law}

-- ---- a mark that isn't open shows what its call changed there

pub filled_is : (input : List ℕ) (results : Results) (changes : List Change) (at : Location) (fills : List Fill)
    → AreFills input results changes fills → is_filled at fills ≡ true → all_under input results (filled at fills) ≡ filter (lies_in at) changes
filled_is input results changes at [] right e = cc
filled_is input results changes at (f ∷ fills) right e = elim (cases_Bool (same_location at f.at)) [
  | inl is ↦
      ap (λ t. all_under input results (cond t f.entries (filled at fills))) is ∙ right.0
      ∙ ap (λ place. filter (lies_in place) changes) (sym (same_location-true at f.at is))
  | inr other ↦
      ap (λ t. all_under input results (cond t f.entries (filled at fills))) other
      ∙ filled_is input results changes at fills right.1 (subst (λ t. (t || is_filled at fills) ≡ true) other e)
]

pub unfilled_is : (input : List ℕ) (results : Results) (at : Location) (fills : List Fill) → is_filled at fills ≡ false → all_under input results (filled at fills) ≡ []
unfilled_is input results at [] e = refl
unfilled_is input results at (f ∷ fills) e =
    let parts = or_parts (same_location at f.at) (is_filled at fills) e in
    ap (λ t. all_under input results (cond t f.entries (filled at fills))) parts.0 ∙ unfilled_is input results at fills parts.1

-- a call that may not change the location doesn't
nothing_there : (at : Location) (mods : List Location) (changes : List Change)
    → OnlyIn mods changes → list_any (same_location at) mods ≡ false → filter (lies_in at) changes ≡ []
nothing_there at mods [] within none = refl
nothing_there at mods (change ∷ changes) within none = elim (cases_Bool (lies_in at change)) [
  | inl is ↦ absurd (false≢true (sym none ∙ ap (λ place. list_any (same_location place) mods) (same_location-true at (place_of change) is) ∙ within.0))
  | inr other ↦ ap (λ t. cond t (change ∷ filter (lies_in at) changes) (filter (lies_in at) changes)) other ∙ nothing_there at mods changes within.1 none
]

pub closed_is : (input : List ℕ) (results : Results) (changes : List Change) (at : Location) (mods : List Location) (fills : List Fill)
    → IsMarkOf input results changes mods fills → is_open at mods fills ≡ false → all_under input results (filled at fills) ≡ filter (lies_in at) changes
closed_is input results changes at mods fills mark closed = elim (cases_Bool (is_filled at fills)) [
  | inl is ↦ filled_is input results changes at fills mark.fills_are is
  | inr other ↦
      unfilled_is input results at fills other
      ∙ sym (nothing_there at mods changes mark.within (elim (and_cases (list_any (same_location at) mods) (not (is_filled at fills)) closed) [
        | inl none ↦ none
        | inr filled_after_all ↦ absurd (false≢true (sym other ∙ not-false (is_filled at fills) filled_after_all))
      ]))
]

-- ---- a covered offset is written

among_filter : (P : ℕ → Bool) (k : ℕ) (ks : List ℕ) → P k ≡ true → list_any (λ n. n == k) ks ≡ true → list_any (λ n. n == k) (filter P ks) ≡ true
among_filter P k [] keeps e = cc
among_filter P k (n ∷ ns) keeps e = elim (cases_Bool (n == k)) [
  | inl is ↦
      ap (λ t. list_any (λ m. m == k) (cond t (n ∷ filter P ns) (filter P ns))) (ap P (eqb-true n k is) ∙ keeps) ∙ or_left (n == k) (list_any (λ m. m == k) (filter P ns)) is
  | inr other ↦
      let more : list_any (λ m. m == k) ns ≡ true = subst (λ t. (t || list_any (λ m. m == k) ns) ≡ true) other e in
      later (P n) (n == k) (filter P ns) (among_filter P k ns keeps more)
]
  where
    later : (kept hit : Bool) (rest : List ℕ) → list_any (λ m. m == k) rest ≡ true → list_any (λ m. m == k) (cond kept (n ∷ rest) rest) ≡ true
    later true hit rest h = or_right (n == k) (list_any (λ m. m == k) rest) h
    later false hit rest h = h

abbrev covers : ℕ → ℕ → ℕ → ℕ → Bool
covers u j n k = list_any (λ i. ((u + i) % 2 ^ 64) == k) (first_of n j (λ i. i))

covered_wrote : (input : List ℕ) (results : Results) (x y : ObjectName) (u k j : ℕ) (bs : List SymByte)
    → same_object x y ≡ true → covers u j (length bs) k ≡ true → wrote x k (writes_under input results y u j bs) ≡ true
covered_wrote input results x y u k j [] same e = cc
covered_wrote input results x y u k j (b ∷ bs) same e =
    list_any-append (is_write_at x k) (writes_under input results y u (j + 1) bs) (Write y ((u + j) % 2 ^ 64) (byte_under input results b) ∷ [])
    ∙ (elim (or_cases (((u + j) % 2 ^ 64) == k) (covers u (j + 1) (length bs) k) e) [
      | inl hit ↦ or_right (wrote x k (writes_under input results y u (j + 1) bs)) _ (or_left (same_object x y && (((u + j) % 2 ^ 64) == k)) false (and_from _ _ same hit))
      | inr more ↦ or_left (wrote x k (writes_under input results y u (j + 1) bs)) _ (covered_wrote input results x y u k (j + 1) bs same more)
    ])

pub constant_bits : (t : Tree) (n : Number) (input : List ℕ) → constant_of t ≡ Some n → bits_under input t ≡ n.bits
constant_bits (constant m) n input e = ap (λ o. elim o [ Some u ↦ u.bits | None ↦ m.bits ]) e
constant_bits (tree.input k) n input e = cc
constant_bits (one o a) n input e = cc
constant_bits (two o a b) n input e = cc
constant_bits (choice c a b) n input e = cc

-- an offset that is wanted is wanted behind a write too, or the write covers it
left_or_wrote : (input : List ℕ) (results : Results) (x y : ObjectName) (offset : Tree) (bs : List SymByte) (k : ℕ) (ks : List ℕ) (o : Option Number)
    → same_object x y ≡ true → constant_of offset ≡ o → list_any (λ n. n == k) ks ≡ true
    → (list_any (λ n. n == k) (left_by o (length bs) ks) ≡ true) ⊎ (wrote x k (writes_under input results y (bits_under input offset) 0 bs) ≡ true)
left_or_wrote input results x y offset bs k ks None same is e = inl e
left_or_wrote input results x y offset bs k ks (Some u) same is e = elim (cases_Bool (covers u.bits 0 (length bs) k)) [
  | inl hit ↦ inr (ap (λ v. wrote x k (writes_under input results y v 0 bs)) (constant_bits offset u input is) ∙ covered_wrote input results x y u.bits k 0 bs same hit)
  | inr other ↦ inl (among_filter (λ m. not (covers u.bits 0 (length bs) m)) k ks (ap not other) e)
]

entry_left : (input : List ℕ) (results : Results) (x : ObjectName) (k : ℕ) (e : Entry) (ks : List ℕ) → list_any (λ n. n == k) ks ≡ true
    → (list_any (λ n. n == k) (left_behind x e ks) ≡ true) ⊎ (wrote x k (changes_under input results e) ≡ true)
entry_left input results x k (entry.Write y offset bs) ks e = by_object (same_object x y) refl
  where
    by_object : (same : Bool) → same_object x y ≡ same
        → (list_any (λ n. n == k) (cond same (left_by (constant_of offset) (length bs) ks) ks) ≡ true) ⊎ (wrote x k (writes_under input results y (bits_under input offset) 0 bs) ≡ true)
    by_object true is = left_or_wrote input results x y offset bs k ks (constant_of offset) is refl e
    by_object false is = inl e
entry_left input results x k (entry.Alloc y size) ks e = inl e
entry_left input results x k (entry.Free y) ks e = inl e
entry_left input results x k (entry.Put t) ks e = inl e
entry_left input results x k entry.Get ks e = inl e

entries_left : (input : List ℕ) (results : Results) (x : ObjectName) (k : ℕ) (es : List Entry) (ks : List ℕ) → list_any (λ n. n == k) ks ≡ true
    → (list_any (λ n. n == k) (left_behind_all x es ks) ≡ true) ⊎ (wrote x k (all_under input results es) ≡ true)
entries_left input results x k [] ks e = inl e
entries_left input results x k (first ∷ es) ks e = elim (entry_left input results x k first ks e) [
  | inr hit ↦ inr (list_any-append (is_write_at x k) (changes_under input results first) (all_under input results es) ∙ or_left _ _ hit)
  | inl more ↦ elim (entries_left input results x k es (left_behind x first ks) more) [
    | inl still ↦ inl still
    | inr hit ↦ inr (list_any-append (is_write_at x k) (changes_under input results first) (all_under input results es) ∙ or_right (wrote x k (changes_under input results first)) _ hit)
  ]
]

-- ---- what is recovered at a mark its call did

pub under_append : (input : List ℕ) (results : Results) (es fs : List Entry) → all_under input results (es ++ fs) ≡ all_under input results es ++ all_under input results fs
under_append input results [] fs = refl
under_append input results (e ∷ es) fs = ap (λ h. changes_under input results e ++ h) (under_append input results es fs) ∙ sym (append_assoc (changes_under input results e) (all_under input results es) (all_under input results fs))

pub recovered_any : (input : List ℕ) (results : Results) (P : Change → Bool) (changes : List Change) (fills : List Fill)
    → AreFills input results changes fills → list_any P (all_under input results (recovered_at fills)) ≡ true → list_any P changes ≡ true
recovered_any input results P changes [] right e = cc
recovered_any input results P changes (f ∷ fills) right e =
    elim (or_cases (list_any P (all_under input results f.entries)) (list_any P (all_under input results (recovered_at fills)))
    (sym (ap (list_any P) (under_append input results f.entries (recovered_at fills)) ∙ list_any-append P (all_under input results f.entries) (all_under input results (recovered_at fills))) ∙ e)) [
      | inl here ↦ any_filter P (lies_in f.at) changes (ap (list_any P) (sym right.0) ∙ here)
      | inr more ↦ recovered_any input results P changes fills right.1 more
    ]

pub alloc_any : (input : List ℕ) (results : Results) (x : ObjectName) (e : Entry) → is_alloc_of x e ≡ true → list_any (is_alloc_at x) (changes_under input results e) ≡ true
alloc_any input results x (entry.Alloc y size) e = or_left _ false e
alloc_any input results x (entry.Write y offset bs) e = cc
alloc_any input results x (entry.Free y) e = cc
alloc_any input results x (entry.Put t) e = cc
alloc_any input results x entry.Get e = cc

pub allocs_any : (input : List ℕ) (results : Results) (x : ObjectName) (es : List Entry) → list_any (is_alloc_of x) es ≡ true → list_any (is_alloc_at x) (all_under input results es) ≡ true
allocs_any input results x [] e = cc
allocs_any input results x (first ∷ es) e =
    list_any-append (is_alloc_at x) (changes_under input results first) (all_under input results es)
    ∙ (elim (or_cases (is_alloc_of x first) (list_any (is_alloc_of x) es) e) [
      | inl here ↦ or_left _ _ (alloc_any input results x first here)
      | inr more ↦ or_right (list_any (is_alloc_at x) (changes_under input results first)) _ (allocs_any input results x es more)
    ])

-- ---- the walk

pub append_empty : (xs ys : List CallId) → xs ++ ys ≡ [] → (xs ≡ []) × (ys ≡ [])
append_empty [] ys e = (refl, e)
append_empty (x ∷ xs) ys e = cc

pub call_closed : (open_there : Bool) (c : CallId) → call_if open_there c ≡ [] → open_there ≡ false
call_closed true c e = cc
call_closed false c e = refl

not_covered : (k : ℕ) (left : Option (List ℕ)) → Wants k left → is_covered left ≡ false
not_covered k None wants = refl
not_covered k (Some []) wants = cc
not_covered k (Some (n ∷ ns)) wants = refl

-- the same in front of equal bytes, or of a write of that byte
in_front : (d : ConcreteByte) (x : ObjectName) (k : ℕ) (g g' a b : History)
    → ((c : ConcreteByte) → byte_over c g x k ≡ byte_over c g' x k)
    → (byte_over d a x k ≡ byte_over d b x k) ⊎ (wrote x k g' ≡ true)
    → byte_over d (g ++ a) x k ≡ byte_over d (g' ++ b) x k
in_front d x k g g' a b alike_there e =
    over_append d g a x k ∙ alike_there (byte_over d a x k)
    ∙ (elim e [
      | inl same ↦ ap (λ c. byte_over c g' x k) same
      | inr hit ↦ wrote_over (byte_over d a x k) (byte_over d b x k) g' x k hit
    ])
    ∙ sym (over_append d g' b x k)

mark_unwritten : (input : List ℕ) (results : Results) (changes : List Change) (x : ObjectName) (k : ℕ) (mods : List Location) (fills : List Fill) (d : ConcreteByte)
    → IsMarkOf input results changes mods fills → Unwritten x changes → byte_over d (all_under input results (filled (cells_of x) fills)) x k ≡ d
mark_unwritten input results changes x k mods fills d mark none = elim (cases_Bool (is_filled (cells_of x) fills)) [
  | inl is ↦
      ap (λ h. byte_over d h x k) (filled_is input results changes (cells_of x) fills mark.fills_are is)
      ∙ over_cells d changes x k ∙ unwritten_over d changes x k none
  | inr other ↦ ap (λ h. byte_over d h x k) (unfilled_is input results (cells_of x) fills other)
]

-- where the history writes nothing, the log shows nothing
unwritten_seen : (input : List ℕ) (results : Results) (gave : Gave) (x : ObjectName) (k : ℕ) (d : ConcreteByte) (log : Log)
    → AreMarks input results gave log → Unwritten x (log_under input results gave log) → byte_over d (all_under input results (seen_at (cells_of x) log)) x k ≡ d
unwritten_seen input results gave x k d [] marks none = refl
unwritten_seen input results gave x k d (Did e ∷ log) marks none =
    let parts = unwritten_parts x (changes_under input results e) (log_under input results gave log) none in
    over_append d (changes_under input results e) (all_under input results (seen_at (cells_of x) log)) x k
    ∙ unwritten_over _ (changes_under input results e) x k parts.0
    ∙ unwritten_seen input results gave x k d log marks parts.1
unwritten_seen input results gave x k d (Marked c mods fills ∷ log) marks none =
    let parts = unwritten_parts x (gave c) (log_under input results gave log) none in
    ap (λ h. byte_over d h x k) (under_append input results (filled (cells_of x) fills) (seen_at (cells_of x) log))
    ∙ over_append d (all_under input results (filled (cells_of x) fills)) (all_under input results (seen_at (cells_of x) log)) x k
    ∙ mark_unwritten input results (gave c) x k mods fills _ marks.0 parts.0
    ∙ unwritten_seen input results gave x k d log marks.1 parts.1

both_unwritten : (input : List ℕ) (results : Results) (gave : Gave) (x : ObjectName) (k : ℕ) (d : ConcreteByte) (log : Log)
    → AreMarks input results gave log → Unwritten x (log_under input results gave log)
    → byte_over d (all_under input results (seen_at (cells_of x) log)) x k ≡ byte_over d (log_under input results gave log) x k
both_unwritten input results gave x k d log marks none =
    unwritten_seen input results gave x k d log marks none ∙ sym (unwritten_over d (log_under input results gave log) x k none)

cond_is : (t : Bool) (xs ys : List CallId) → cond t xs ys ≡ [] → t ≡ false → ys ≡ []
cond_is true xs ys e is = absurd (false≢true (sym is))
cond_is false xs ys e is = e

wants_behind : (input : List ℕ) (results : Results) (x : ObjectName) (k : ℕ) (es : List Entry) (left : Option (List ℕ)) → Wants k left
    → Wants k (option_map (left_behind_all x es) left) ⊎ (wrote x k (all_under input results es) ≡ true)
wants_behind input results x k es None wants = inl tt
wants_behind input results x k es (Some ks) wants = entries_left input results x k es ks wants

wants_behind_one : (input : List ℕ) (results : Results) (x : ObjectName) (k : ℕ) (e : Entry) (left : Option (List ℕ)) → Wants k left
    → Wants k (option_map (left_behind x e) left) ⊎ (wrote x k (changes_under input results e) ≡ true)
wants_behind_one input results x k e None wants = inl tt
wants_behind_one input results x k e (Some ks) wants = entry_left input results x k e ks wants

-- where no call is needed, the location's entries leave the byte that the history leaves
pub seen_changes : (input : List ℕ) (results : Results) (gave : Gave) (x : ObjectName) (k : ℕ) (d : ConcreteByte) (log : Log) (left : Option (List ℕ))
    → AreMarks input results gave log → IsBorn x (log_under input results gave log) → need_bytes x left log ≡ [] → Wants k left
    → byte_over d (all_under input results (seen_at (cells_of x) log)) x k ≡ byte_over d (log_under input results gave log) x k
seen_changes input results gave x k d [] left marks born none wants = refl
seen_changes input results gave x k d (Did e ∷ log) left marks born none wants =
    in_front d x k (changes_under input results e) (changes_under input results e) (all_under input results (seen_at (cells_of x) log)) (log_under input results gave log) (λ c. refl)
    (elim (cases_Bool (is_alloc_of x e)) [
      | inl is ↦ inl (both_unwritten input results gave x k d log marks
          (born_unwritten x (changes_under input results e) (log_under input results gave log) born (alloc_any input results x e is)))
      | inr other ↦
          let rest = cond_is (is_covered left || is_alloc_of x e) [] (need_bytes x (option_map (left_behind x e) left) log) none
          (ap (λ t. t || is_alloc_of x e) (not_covered k left wants) ∙ other) in
          elim (wants_behind_one input results x k e left wants) [
            | inl more ↦ inl (seen_changes input results gave x k d log (option_map (left_behind x e) left) marks
                (born_rest x (changes_under input results e) (log_under input results gave log) born) rest more)
            | inr hit ↦ inr hit
          ]
    ])
seen_changes input results gave x k d (Marked c mods fills ∷ log) left marks born none wants =
    let here = append_empty (cond (list_any (is_alloc_of x) (recovered_at fills)) [] (need_bytes x (option_map (left_behind_all x (recovered_at fills)) left) log)) (call_if (is_open (cells_of x) mods fills) c)
    (cond_is (is_covered left) [] _ none (not_covered k left wants)) in
    let closed = closed_is input results (gave c) (cells_of x) mods fills marks.0 (call_closed (is_open (cells_of x) mods fills) c here.1) in
    ap (λ h. byte_over d h x k) (under_append input results (filled (cells_of x) fills) (seen_at (cells_of x) log))
    ∙ in_front d x k (all_under input results (filled (cells_of x) fills)) (gave c) (all_under input results (seen_at (cells_of x) log)) (log_under input results gave log)
    (λ before. ap (λ h. byte_over before h x k) closed ∙ over_cells before (gave c) x k)
    (elim (cases_Bool (list_any (is_alloc_of x) (recovered_at fills))) [
      | inl is ↦ inl (both_unwritten input results gave x k d log marks.1
          (born_unwritten x (gave c) (log_under input results gave log) born
          (recovered_any input results (is_alloc_at x) (gave c) fills marks.0.fills_are (allocs_any input results x (recovered_at fills) is))))
      | inr other ↦
          let rest = cond_is (list_any (is_alloc_of x) (recovered_at fills)) [] (need_bytes x (option_map (left_behind_all x (recovered_at fills)) left) log) here.0 other in
          elim (wants_behind input results x k (recovered_at fills) left wants) [
            | inl more ↦ inl (seen_changes input results gave x k d log (option_map (left_behind_all x (recovered_at fills)) left) marks.1
                (born_rest x (gave c) (log_under input results gave log) born) rest more)
            | inr hit ↦ inr (recovered_any input results (is_write_at x k) (gave c) fills marks.0.fills_are hit)
          ]
    ])

-- the law: where no call is needed, a byte that is read is, under the input, the byte last written
pub memory_law : (p : ProgramData) (input : List ℕ) (results : Results) (gave : Gave) (known : List Tree) (x : ObjectName) (at : Tree) (left : Option (List ℕ)) (log : Log) (h : History) (b : SymByte)
    → are_met_by input known ≡ true → IsWide at → length (initial_bytes p.globals x) ≤ 2 ^ 64 → AreEntries (seen_at (cells_of x) log)
    → StandsFor log h input results gave → IsBorn x h
    → need_bytes x left log ≡ [] → Wants (bits_under input at) left
    → read_byte p.globals known x at log ≡ Byte b
    → byte_under input results b ≡ byte_at p h x (bits_under input at)
memory_law p input results gave known x at left log h b met wide_at room right stands born none wants e =
    seen_law p input results known x at log b met wide_at room right e
    ∙ seen_changes input results gave x (bits_under input at) (initial p x (bits_under input at)) log left stands.marks (subst (IsBorn x) stands.is born) none wants
    ∙ ap (λ g. byte_over (initial p x (bits_under input at)) g x (bits_under input at)) (sym stands.is)
    ∙ over_initial p h x (bits_under input at)
