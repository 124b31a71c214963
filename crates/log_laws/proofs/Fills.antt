-- A fill with what the call changed keeps that the log stands for the history; positions and outputs are the history's.
use Rattle.std.proofs.Common.{◌≡◌, ℕ, Bool, true, false, List, [], ◌∷◌, ◌++◌, map, ◌+◌, refl, sym, ap, ◌∙◌, append_assoc}
use Rattle.std.specs.Prelude.{cond}
use Rattle.std.specs.List.{filter}
use Rattle.std.proofs.lemmas.Bool.{eqb-true}
use Rattle.std.proofs.lemmas.List.Elements.{filter-append}
use Rattle.terms.specs.Tree.{Tree}
use Rattle.flat_ir.specs.declared.names.Location.{Location}
use Rattle.flat_ir.specs.declared.names.Location.TheVariants as location
use Rattle.flat_ir.specs.declared.names.ObjectName.{ObjectName}
use Rattle.flat_ir.specs.History as history
use Rattle.flat_ir.specs.History.{Change, Write, Alloc, Free, Get, Put, History}
use Rattle.sym_bytes.specs.declared.names.CallId.{CallId}
use Rattle.sym_bytes.specs.Entry.{Entry}
use Rattle.sym_bytes.specs.Entry as entry
use Rattle.sym_bytes.specs.Byte.{SymByte}
use Rattle.sym_bytes.specs.Building.{same_call}
use Rattle.sym_bytes.specs.Under.{Results, bits_under}
use Rattle.log_laws.specs.Logs.{Fill, Did, Marked, Log, seen_at, filled, is_open, fill, gets_in, puts_in, position, output}
use Rattle.log_laws.specs.Needs.{need_all, call_if}
use Rattle.flat_ir.specs.Locations.{lies_in}
use Rattle.log_laws.specs.Standing.{Gave, writes_under, changes_under, all_under, log_under, AreFills, AreMarks, StandsFor}
use Rattle.log_laws.proofs.Marks.{closed_is, under_append, append_empty, call_closed}

-- ---- fills

same_call-true : (c d : CallId) → same_call c d ≡ true → c ≡ d
same_call-true c d e = λ i. record { 0 = eqb-true c.0 d.0 e i }

fills_more : (input : List ℕ) (results : Results) (changes : List Change) (fills : List Fill) (f : Fill)
    → AreFills input results changes fills → all_under input results f.entries ≡ filter (lies_in f.at) changes → AreFills input results changes (fills ++ f ∷ [])
fills_more input results changes [] f right is = (is, tt)
fills_more input results changes (g ∷ fills) f right is = (right.0, fills_more input results changes fills f right.1 is)

filled_under : (input : List ℕ) (results : Results) (gave : Gave) (call : CallId) (at : Location) (es : List Entry) (log : Log)
    → log_under input results gave (fill call at es log) ≡ log_under input results gave log
filled_under input results gave call at es [] = refl
filled_under input results gave call at es (Did e ∷ log) = ap (λ h. changes_under input results e ++ h) (filled_under input results gave call at es log)
filled_under input results gave call at es (Marked c mods fills ∷ log) = by_call (same_call call c) (filled_under input results gave call at es log)
  where
    by_call : (same : Bool) → log_under input results gave (fill call at es log) ≡ log_under input results gave log → log_under input results gave (cond same (Marked c mods (fills ++ record { at = at; entries = es } ∷ []) ∷ log) (Marked c mods fills ∷ fill call at es log))
        ≡ gave c ++ log_under input results gave log
    by_call true more = refl
    by_call false more = ap (λ h. gave c ++ h) more

filled_marks : (input : List ℕ) (results : Results) (gave : Gave) (call : CallId) (at : Location) (es : List Entry) (log : Log)
    → all_under input results es ≡ filter (lies_in at) (gave call) → AreMarks input results gave log → AreMarks input results gave (fill call at es log)
filled_marks input results gave call at es [] is marks = tt
filled_marks input results gave call at es (Did e ∷ log) is marks = filled_marks input results gave call at es log is marks
filled_marks input results gave call at es (Marked c mods fills ∷ log) is marks = by_call (same_call call c) refl (filled_marks input results gave call at es log is marks.1)
  where
    by_call : (same : Bool) → same_call call c ≡ same → AreMarks input results gave (fill call at es log)
        → AreMarks input results gave (cond same (Marked c mods (fills ++ record { at = at; entries = es } ∷ []) ∷ log) (Marked c mods fills ∷ fill call at es log))
    by_call true e more = (
      record {
        within = marks.0.within;
        fills_are = fills_more input results (gave c) fills (record { at = at; entries = es }) marks.0.fills_are (is ∙ ap (λ d. filter (lies_in at) (gave d)) (same_call-true call c e));
      },
      marks.1,
    )
    by_call false e more = (marks.0, more)

-- a fill with the part of the call's changes that lies there keeps that the log stands for the history
pub fill_law : (input : List ℕ) (results : Results) (gave : Gave) (call : CallId) (at : Location) (es : List Entry) (log : Log) (h : History)
    → all_under input results es ≡ filter (lies_in at) (gave call) → StandsFor log h input results gave → StandsFor (fill call at es log) h input results gave
fill_law input results gave call at es log h is stands = record {
  is = stands.is ∙ sym (filled_under input results gave call at es log);
  marks = filled_marks input results gave call at es log is stands.marks;
}

-- ---- what one location sees

filter_again : (p : Change → Bool) (h : List Change) → filter p (filter p h) ≡ filter p h
filter_again p [] = refl
filter_again p (change ∷ h) = by_test (p change) refl (filter_again p h)
  where
    by_test : (t : Bool) → p change ≡ t → filter p (filter p h) ≡ filter p h → filter p (cond t (change ∷ filter p h) (filter p h)) ≡ cond t (change ∷ filter p h) (filter p h)
    by_test true e more = ap (λ t. cond t (change ∷ filter p (filter p h)) (filter p (filter p h))) e ∙ ap (λ g. change ∷ g) more
    by_test false e more = more

both_parts : (p : Change → Bool) (a b c d : List Change) → filter p a ≡ filter p c → filter p b ≡ filter p d → filter p (a ++ b) ≡ filter p (c ++ d)
both_parts p a b c d e f = filter-append p a b ∙ ap (λ g. g ++ filter p b) e ∙ ap (λ g. filter p c ++ g) f ∙ sym (filter-append p c d)

-- where no call is needed, the log shows in the location what the history has there
pub seen_all : (input : List ℕ) (results : Results) (gave : Gave) (at : Location) (log : Log)
    → AreMarks input results gave log → need_all at log ≡ [] → filter (lies_in at) (all_under input results (seen_at at log)) ≡ filter (lies_in at) (log_under input results gave log)
seen_all input results gave at [] marks none = refl
seen_all input results gave at (Did e ∷ log) marks none =
    both_parts (lies_in at) (changes_under input results e) _ (changes_under input results e) _ refl (seen_all input results gave at log marks none)
seen_all input results gave at (Marked c mods fills ∷ log) marks none =
    let parts = append_empty (need_all at log) (call_if (is_open at mods fills) c) none in
    ap (filter (lies_in at)) (under_append input results (filled at fills) (seen_at at log))
    ∙ both_parts (lies_in at) (all_under input results (filled at fills)) _ (gave c) _
    (ap (filter (lies_in at)) (closed_is input results (gave c) at mods fills marks.0 (call_closed (is_open at mods fills) c parts.1)) ∙ filter_again (lies_in at) (gave c))
    (seen_all input results gave at log marks.1 parts.0)

-- ---- positions

gets_there : (h : History) → history.position (filter (lies_in location.Input) h) ≡ history.position h
gets_there [] = refl
gets_there (Get ∷ h) = ap (λ n. n + 1) (gets_there h)
gets_there (Write y j b ∷ h) = gets_there h
gets_there (Alloc y size ∷ h) = gets_there h
gets_there (Free y ∷ h) = gets_there h
gets_there (Put b ∷ h) = gets_there h

writes_get_none : (input : List ℕ) (results : Results) (x : ObjectName) (u j : ℕ) (bs : List SymByte) (h : History)
    → history.position (writes_under input results x u j bs ++ h) ≡ history.position h
writes_get_none input results x u j [] h = refl
writes_get_none input results x u j (b ∷ bs) h =
    ap history.position (append_assoc (writes_under input results x u (j + 1) bs) _ h) ∙ writes_get_none input results x u (j + 1) bs _

gets_under : (input : List ℕ) (results : Results) (es : List Entry) → history.position (all_under input results es) ≡ gets_in es
gets_under input results [] = refl
gets_under input results (entry.Get ∷ es) = ap (λ n. n + 1) (gets_under input results es)
gets_under input results (entry.Write x offset bs ∷ es) = writes_get_none input results x (bits_under input offset) 0 bs (all_under input results es) ∙ gets_under input results es
gets_under input results (entry.Alloc x size ∷ es) = gets_under input results es
gets_under input results (entry.Free x ∷ es) = gets_under input results es
gets_under input results (entry.Put t ∷ es) = gets_under input results es

-- the law of the position
pub position_law : (input : List ℕ) (results : Results) (gave : Gave) (log : Log) (h : History)
    → StandsFor log h input results gave → need_all location.Input log ≡ [] → position log ≡ history.position h
position_law input results gave log h stands none =
    sym (gets_under input results (seen_at location.Input log))
    ∙ sym (gets_there (all_under input results (seen_at location.Input log)))
    ∙ ap history.position (seen_all input results gave location.Input log stands.marks none)
    ∙ gets_there (log_under input results gave log)
    ∙ ap history.position (sym stands.is)

-- ---- outputs

puts_there : (h : History) → history.output (filter (lies_in location.Output) h) ≡ history.output h
puts_there [] = refl
puts_there (Put b ∷ h) = ap (λ bs. bs ++ b ∷ []) (puts_there h)
puts_there (Get ∷ h) = puts_there h
puts_there (Write y j b ∷ h) = puts_there h
puts_there (Alloc y size ∷ h) = puts_there h
puts_there (Free y ∷ h) = puts_there h

writes_put_none : (input : List ℕ) (results : Results) (x : ObjectName) (u j : ℕ) (bs : List SymByte) (h : History)
    → history.output (writes_under input results x u j bs ++ h) ≡ history.output h
writes_put_none input results x u j [] h = refl
writes_put_none input results x u j (b ∷ bs) h =
    ap history.output (append_assoc (writes_under input results x u (j + 1) bs) _ h) ∙ writes_put_none input results x u (j + 1) bs _

puts_under : (input : List ℕ) (results : Results) (es : List Entry) → history.output (all_under input results es) ≡ map (bits_under input) (puts_in es)
puts_under input results [] = refl
puts_under input results (entry.Put t ∷ es) =
    ap (λ bs. bs ++ bits_under input t ∷ []) (puts_under input results es) ∙ sym (map_more (puts_in es) t)
  where
    map_more : (ts : List Tree) (t : Tree) → map (bits_under input) (ts ++ t ∷ []) ≡ map (bits_under input) ts ++ bits_under input t ∷ []
    map_more [] t = refl
    map_more (u ∷ ts) t = ap (λ bs. bits_under input u ∷ bs) (map_more ts t)
puts_under input results (entry.Write x offset bs ∷ es) = writes_put_none input results x (bits_under input offset) 0 bs (all_under input results es) ∙ puts_under input results es
puts_under input results (entry.Alloc x size ∷ es) = puts_under input results es
puts_under input results (entry.Free x ∷ es) = puts_under input results es
puts_under input results (entry.Get ∷ es) = puts_under input results es

-- the law of the output
pub output_law : (input : List ℕ) (results : Results) (gave : Gave) (log : Log) (h : History)
    → StandsFor log h input results gave → need_all location.Output log ≡ [] → map (bits_under input) (output log) ≡ history.output h
output_law input results gave log h stands none =
    sym (puts_under input results (seen_at location.Output log))
    ∙ sym (puts_there (all_under input results (seen_at location.Output log)))
    ∙ ap history.output (seen_all input results gave location.Output log stands.marks none)
    ∙ puts_there (log_under input results gave log)
    ∙ ap history.output (sym stands.is)
