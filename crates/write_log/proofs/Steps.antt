-- One step of a walk through a log.
use Rattle.std.proofs.Common.{◌≡◌, ℕ, Bool, true, false, List, [], ◌∷◌, ◌++◌, Option, Some, None, suc, ◌+◌, ◌-◌, ◌<◌, ◌≤◌, ◌||◌, refl, sym, ap, ◌∙◌, append_assoc, length, take, reverse, arith}
use Rattle.std.specs.Prelude.{cond}
use Rattle.std.specs.List.{list_any}
use Rattle.std.specs.Option.{option_map}
use Rattle.std.proofs.lemmas.List.{append-nil, reverse-append}
use Rattle.flat_ir.specs.declared.names.Location.{Location}
use Rattle.flat_ir.specs.declared.names.Location.TheVariants as location
use Rattle.flat_ir.specs.declared.names.ObjectName.{ObjectName}
use Rattle.flat_ir.specs.History.{same_object}
use Rattle.sym_bytes.specs.declared.names.CallId.{CallId}
use Rattle.sym_bytes.specs.Answers.{Dead}
use Rattle.sym_bytes.specs.Entry as entry
use Rattle.sym_bytes.specs.Entry.{Entry}
use Rattle.terms.specs.Tree.{Tree}
use Rattle.flat_ir.specs.Locations.{cells_of, life_of}
use Rattle.log_laws.specs.Logs.{Item, Did, Marked, Log, seen_at, gets_in, position, puts_in, output, newest_size, is_free_of, is_alloc_of, alive_with, cut, fill, entries_in, entries_since, lies_in, is_open}
use Rattle.log_laws.specs.Needs.{is_covered, left_behind, left_behind_all, recovered_at, entries_of, call_if, need_bytes, need_life_back, need_all}
use Rattle.write_log.specs.Walks.{seen_in, is_mark_of, with_fill, open_call, get_of, put_of, size_in, or_size, life_from}

pub seen_step : (at : Location) (item : Item) (log : Log) → seen_at at (item ∷ log) ≡ seen_in at item ++ seen_at at log
seen_step at (Did e) log = refl
seen_step at (Marked c mods fills) log = refl

-- ---- the input

pub gets_step : (e : Entry) (es : List Entry) → gets_in (e ∷ es) ≡ gets_in es + get_of e
gets_step (entry.Get) es = refl
gets_step (entry.Write x offset bytes) es = omega arith
gets_step (entry.Alloc x size) es = omega arith
gets_step (entry.Free x) es = omega arith
gets_step (entry.Put t) es = omega arith

gets_append : (es fs : List Entry) → gets_in (es ++ fs) ≡ gets_in es + gets_in fs
gets_append [] fs = omega arith
gets_append (e ∷ es) fs =
    let more = gets_append es fs in
    let left = gets_step e (es ++ fs) in
    let right = gets_step e es in
    omega (arith, more, left, right)

pub position_step : (item : Item) (log : Log) → position (item ∷ log) ≡ gets_in (seen_in location.Input item) + position log
position_step item log = ap gets_in (seen_step location.Input item log) ∙ gets_append (seen_in location.Input item) (seen_at location.Input log)

-- ---- the output

abbrev one_or_none : Option Tree → List Tree
one_or_none (Some t) = t ∷ []
one_or_none None = []

puts_step : (e : Entry) (es : List Entry) → puts_in (e ∷ es) ≡ puts_in es ++ one_or_none (put_of e)
puts_step (entry.Put t) es = refl
puts_step (entry.Get) es = sym (append-nil (puts_in es))
puts_step (entry.Write x offset bytes) es = sym (append-nil (puts_in es))
puts_step (entry.Alloc x size) es = sym (append-nil (puts_in es))
puts_step (entry.Free x) es = sym (append-nil (puts_in es))

pub puts_none : (e : Entry) (es : List Entry) → put_of e ≡ None → puts_in (e ∷ es) ≡ puts_in es
puts_none e es none = puts_step e es ∙ ap (λ o. puts_in es ++ one_or_none o) none ∙ append-nil (puts_in es)

pub puts_some : (e : Entry) (es : List Entry) (t : Tree) → put_of e ≡ Some t → puts_in (e ∷ es) ≡ puts_in es ++ t ∷ []
puts_some e es t some = puts_step e es ∙ ap (λ o. puts_in es ++ one_or_none o) some

puts_append : (es fs : List Entry) → puts_in (es ++ fs) ≡ puts_in fs ++ puts_in es
puts_append [] fs = sym (append-nil (puts_in fs))
puts_append (e ∷ es) fs =
    puts_step e (es ++ fs) ∙ ap (λ ts. ts ++ one_or_none (put_of e)) (puts_append es fs)
    ∙ append_assoc (puts_in fs) (puts_in es) (one_or_none (put_of e)) ∙ ap (λ ts. puts_in fs ++ ts) (sym (puts_step e es))

pub output_step : (item : Item) (log : Log) → output (item ∷ log) ≡ output log ++ puts_in (seen_in location.Output item)
output_step item log = ap puts_in (seen_step location.Output item log) ∙ puts_append (seen_in location.Output item) (seen_at location.Output log)

-- ---- lives

any_append : {A : Type 0} (p : A → Bool) (xs ys : List A) → list_any p (xs ++ ys) ≡ (list_any p xs || list_any p ys)
any_append p [] ys = refl
any_append p (x ∷ xs) ys = by_first (p x) (any_append p xs ys)
  where
    by_first : (b : Bool) → list_any p (xs ++ ys) ≡ (list_any p xs || list_any p ys) → (b || list_any p (xs ++ ys)) ≡ ((b || list_any p xs) || list_any p ys)
    by_first true e = refl
    by_first false e = e

pub size_step : (x : ObjectName) (e : Entry) (es : List Entry) → newest_size x (e ∷ es) ≡ or_size (size_in x e) (newest_size x es)
size_step x (entry.Alloc y size) es = by_test (same_object x y)
  where
    by_test : (b : Bool) → cond b (Some size) (newest_size x es) ≡ or_size (cond b (Some size) None) (newest_size x es)
    by_test true = refl
    by_test false = refl
size_step x (entry.Put t) es = refl
size_step x (entry.Get) es = refl
size_step x (entry.Write y offset bytes) es = refl
size_step x (entry.Free y) es = refl

or_assoc : (a b c : Option Tree) → or_size (or_size a b) c ≡ or_size a (or_size b c)
or_assoc (Some a) b c = refl
or_assoc None b c = refl

size_append : (x : ObjectName) (es fs : List Entry) → newest_size x (es ++ fs) ≡ or_size (newest_size x es) (newest_size x fs)
size_append x [] fs = refl
size_append x (e ∷ es) fs =
    size_step x e (es ++ fs) ∙ ap (or_size (size_in x e)) (size_append x es fs) ∙ sym (or_assoc (size_in x e) (newest_size x es) (newest_size x fs))
    ∙ ap (λ o. or_size o (newest_size x fs)) (sym (size_step x e es))

pub life_step : (x : ObjectName) (size : Option Tree) (item : Item) (log : Log) → list_any (is_free_of x) (seen_in (life_of x) item) ≡ false
    → life_from x size (seen_at (life_of x) (item ∷ log)) ≡ life_from x (or_size size (newest_size x (seen_in (life_of x) item))) (seen_at (life_of x) log)
life_step x size item log none =
    let here = seen_in (life_of x) item in
    let more = seen_at (life_of x) log in
    ap (life_from x size) (seen_step (life_of x) item log)
    ∙ ap (λ b. cond b Dead (alive_with (or_size size (newest_size x (here ++ more))))) (any_append (is_free_of x) here more ∙ ap (λ b. b || list_any (is_free_of x) more) none)
    ∙ ap (λ o. cond (list_any (is_free_of x) more) Dead (alive_with o)) (ap (or_size size) (size_append x here more) ∙ sym (or_assoc size (newest_size x here) (newest_size x more)))

pub life_freed : (x : ObjectName) (size : Option Tree) (item : Item) (log : Log) → list_any (is_free_of x) (seen_in (life_of x) item) ≡ true
    → life_from x size (seen_at (life_of x) (item ∷ log)) ≡ Dead
life_freed x size item log freed =
    let here = seen_in (life_of x) item in
    let more = seen_at (life_of x) log in
    ap (life_from x size) (seen_step (life_of x) item log)
    ∙ ap (λ b. cond b Dead (alive_with (or_size size (newest_size x (here ++ more))))) (any_append (is_free_of x) here more ∙ ap (λ b. b || list_any (is_free_of x) more) freed)

or_none : (o : Option Tree) → or_size o None ≡ o
or_none (Some t) = refl
or_none None = refl

pub life_end : (x : ObjectName) (size : Option Tree) → life_from x size [] ≡ alive_with size
life_end x size = ap alive_with (or_none size)

-- ---- marks

pub cut_step : (call : CallId) (item : Item) (log : Log) → cut call (item ∷ log) ≡ cond (is_mark_of call item) log (cut call log)
cut_step call (Did e) log = refl
cut_step call (Marked c mods fills) log = refl

pub fill_step : (call : CallId) (at : Location) (es : List Entry) (item : Item) (log : Log)
    → fill call at es (item ∷ log) ≡ cond (is_mark_of call item) (with_fill (record { at = at; entries = es }) item ∷ log) (item ∷ fill call at es log)
fill_step call at es (Did e) log = refl
fill_step call at es (Marked c mods fills) log = refl

-- ---- needs

pub all_step : (at : Location) (item : Item) (log : Log) → need_all at (item ∷ log) ≡ need_all at log ++ open_call at item
all_step at (Did e) log = sym (append-nil (need_all at log))
all_step at (Marked c mods fills) log = refl

or_false : (b : Bool) → (b || false) ≡ b
or_false true = refl
or_false false = refl

pub life_back_step : (x : ObjectName) (item : Item) (log : Log)
    → need_life_back x (item ∷ log) ≡ cond (list_any (is_alloc_of x) (entries_of item)) [] (need_life_back x log) ++ open_call (life_of x) item
life_back_step x (Did e) log =
    ap (λ b. cond b [] (need_life_back x log)) (sym (or_false (is_alloc_of x e))) ∙ sym (append-nil (cond (is_alloc_of x e || false) [] (need_life_back x log)))
life_back_step x (Marked c mods fills) log = refl

pub bytes_step : (x : ObjectName) (left : Option (List ℕ)) (item : Item) (log : Log) → is_covered left ≡ false
    → need_bytes x left (item ∷ log)
    ≡ cond (list_any (is_alloc_of x) (entries_of item)) [] (need_bytes x (option_map (left_behind_all x (entries_of item)) left) log) ++ open_call (cells_of x) item
bytes_step x left (Did e) log gap =
    ap (λ b. cond (b || is_alloc_of x e) [] (need_bytes x (option_map (left_behind x e) left) log)) gap
    ∙ ap (λ b. cond b [] (need_bytes x (option_map (left_behind x e) left) log)) (sym (or_false (is_alloc_of x e)))
    ∙ sym (append-nil (cond (is_alloc_of x e || false) [] (need_bytes x (option_map (left_behind x e) left) log)))
bytes_step x left (Marked c mods fills) log gap =
    ap (λ b. cond b [] (cond (list_any (is_alloc_of x) (recovered_at fills)) [] (need_bytes x (option_map (left_behind_all x (recovered_at fills)) left) log) ++ call_if (is_open (cells_of x) mods fills) c)) gap

pub bytes_covered : (x : ObjectName) (left : Option (List ℕ)) (log : Log) → is_covered left ≡ true → need_bytes x left log ≡ []
bytes_covered x left [] covered = refl
bytes_covered x left (Did e ∷ log) covered = ap (λ b. cond (b || is_alloc_of x e) [] (need_bytes x (option_map (left_behind x e) left) log)) covered
bytes_covered x left (Marked c mods fills ∷ log) covered =
    ap (λ b. cond b [] (cond (list_any (is_alloc_of x) (recovered_at fills)) [] (need_bytes x (option_map (left_behind_all x (recovered_at fills)) left) log) ++ call_if (is_open (cells_of x) mods fills) c)) covered

-- ---- the same with what was gathered so far behind

pub all_walk : (at : Location) (item : Item) (log : Log) (cs : List CallId) → need_all at (item ∷ log) ++ cs ≡ need_all at log ++ (open_call at item ++ cs)
all_walk at item log cs = ap (λ ds. ds ++ cs) (all_step at item log) ∙ append_assoc (need_all at log) (open_call at item) cs

pub life_back_walk : (x : ObjectName) (item : Item) (log : Log) (cs : List CallId) → list_any (is_alloc_of x) (entries_of item) ≡ false
    → need_life_back x (item ∷ log) ++ cs ≡ need_life_back x log ++ (open_call (life_of x) item ++ cs)
life_back_walk x item log cs other =
    ap (λ ds. ds ++ cs) (life_back_step x item log ∙ ap (λ b. cond b [] (need_life_back x log) ++ open_call (life_of x) item) other)
    ∙ append_assoc (need_life_back x log) (open_call (life_of x) item) cs

pub life_back_end : (x : ObjectName) (item : Item) (log : Log) (cs : List CallId) → list_any (is_alloc_of x) (entries_of item) ≡ true
    → need_life_back x (item ∷ log) ++ cs ≡ open_call (life_of x) item ++ cs
life_back_end x item log cs is =
    ap (λ ds. ds ++ cs) (life_back_step x item log ∙ ap (λ b. cond b [] (need_life_back x log) ++ open_call (life_of x) item) is)

pub bytes_walk : (x : ObjectName) (left : Option (List ℕ)) (item : Item) (log : Log) (cs : List CallId)
    → is_covered left ≡ false → list_any (is_alloc_of x) (entries_of item) ≡ false
    → need_bytes x left (item ∷ log) ++ cs ≡ need_bytes x (option_map (left_behind_all x (entries_of item)) left) log ++ (open_call (cells_of x) item ++ cs)
bytes_walk x left item log cs gap other =
    ap (λ ds. ds ++ cs) (bytes_step x left item log gap
    ∙ ap (λ b. cond b [] (need_bytes x (option_map (left_behind_all x (entries_of item)) left) log) ++ open_call (cells_of x) item) other)
    ∙ append_assoc (need_bytes x (option_map (left_behind_all x (entries_of item)) left) log) (open_call (cells_of x) item) cs

pub bytes_end : (x : ObjectName) (left : Option (List ℕ)) (item : Item) (log : Log) (cs : List CallId)
    → is_covered left ≡ false → list_any (is_alloc_of x) (entries_of item) ≡ true
    → need_bytes x left (item ∷ log) ++ cs ≡ open_call (cells_of x) item ++ cs
bytes_end x left item log cs gap is =
    ap (λ ds. ds ++ cs) (bytes_step x left item log gap
    ∙ ap (λ b. cond b [] (need_bytes x (option_map (left_behind_all x (entries_of item)) left) log) ++ open_call (cells_of x) item) is)

pub put_assoc : {A : Type 0} (xs : List A) (y : A) (ys : List A) → (xs ++ y ∷ []) ++ ys ≡ xs ++ y ∷ ys
put_assoc xs y ys = append_assoc xs (y ∷ []) ys

in_step : (at : Location) (item : Item) (rest : Log) → entries_in at (item ∷ rest) ≡ entries_in at (item ∷ []) ++ entries_in at rest
in_step at (Did e) rest = by_test (lies_in at e)
  where
    by_test : (b : Bool) → cond b (e ∷ entries_in at rest) (entries_in at rest) ≡ cond b (e ∷ []) [] ++ entries_in at rest
    by_test true = refl
    by_test false = refl
in_step at (Marked c mods fills) rest = refl

-- the entries so far, the newest first, in front of those that are left
pub since_walk : (old : ℕ) (at : Location) (item : Item) (log : Log) → old < length (item ∷ log)
    → entries_since old at (item ∷ log) ≡ entries_in at (item ∷ []) ++ entries_since old at log
since_walk old at item log more =
    let one : length (item ∷ log) - old ≡ suc (length log - old) = omega (arith, more) in
    ap (λ n. entries_in at (take n (item ∷ log))) one ∙ in_step at item (take (length log - old) log)

pub since_end : (old : ℕ) (at : Location) (log : Log) → length log ≤ old → entries_since old at log ≡ []
since_end old at log none =
    let zero_is : length log - old ≡ 0 = omega (arith, none) in ap (λ n. entries_in at (take n log)) zero_is

-- what an entry writes out, upon what was gathered so far, the newest first
pub puts_walk : (e : Entry) (es : List Entry) (t : Tree) (made : List Tree) → put_of e ≡ Some t
    → puts_in (e ∷ es) ++ reverse made ≡ puts_in es ++ reverse (made ++ t ∷ [])
puts_walk e es t made some =
    ap (λ ts. ts ++ reverse made) (puts_some e es t some) ∙ append_assoc (puts_in es) (t ∷ []) (reverse made)
    ∙ ap (λ ts. puts_in es ++ ts) (sym (reverse-append made (t ∷ [])))

pub puts_skip : (e : Entry) (es : List Entry) (made : List Tree) → put_of e ≡ None → puts_in (e ∷ es) ++ reverse made ≡ puts_in es ++ reverse made
puts_skip e es made none = ap (λ ts. ts ++ reverse made) (puts_none e es none)

pub output_walk : (item : Item) (log : Log) (made : List Tree) → output (item ∷ log) ++ made ≡ output log ++ (puts_in (seen_in location.Output item) ++ made)
output_walk item log made = ap (λ ts. ts ++ made) (output_step item log) ∙ append_assoc (output log) (puts_in (seen_in location.Output item)) made
