-- What the end of a frame leaves.
use Rattle.std.specs.Prelude.{map, min, reverse, slice_get, unwrap_or}
use mathlib.Core.List.{reverse_aux}
use Rattle.std.specs.List.{AllByRecursion as Each}
use Rattle.std.proofs.Common.{◌≡◌, ℕ, zero, suc, ◌+◌, ◌<◌, ◌≤◌, true, List, [], ◌∷◌, ◌++◌, length, take, get_or, Option, Some, None, IsSome, refl, sym, ◌∙◌, ap, subst, arith, add-zero, length-take}
use Rattle.flat_ir.specs.declared.names.CallStep.{CallStep}
use Rattle.flat_ir.specs.declared.names.NodeId.{NodeId}
use Rattle.flat_ir.specs.declared.names.ObjectName.TheVariants.{Made}
use Rattle.flat_ir.specs.declared.nodes.Node.{Node}
use Rattle.flat_ir.specs.declared.nodes.Node.TheVariants as node
use Rattle.flat_ir.specs.declared.program.ProgramData.{ProgramData}
use Rattle.flat_ir.specs.History.{History, Change, Write, Alloc, Free, Get, Put, position, output}
use Rattle.flat_ir.specs.Orderly.{is_made}
use Rattle.flat_ir.specs.Machine as run
use Rattle.flat_ir.specs.MadeNames.{count_at, object_of}
use Rattle.flat_ir.specs.Steps.{frees_of_node, frees_at, frees_from}
use Rattle.flat_ir.proofs.MadeBasics.{each_append}
use Rattle.concrete_memory.specs.declared.objects.Store.{Store}
use Rattle.concrete_memory.specs.declared.objects.Life.{Life}
use Rattle.concrete_memory.specs.Standing.{StandsFor, Holds, life_of}
use Rattle.concrete_machine.specs.declared.machine.Frame.{Frame}
use Rattle.concrete_machine.specs.declared.machine.Machine.{Machine}
use Rattle.concrete_machine.specs.Ending.{after_all}
use Rattle.concrete_machine.specs.Frames.{frame_of}
use Rattle.concrete_machine.specs.Standing.{Remembers}
use Rattle.std.proofs.lemmas.List.{map-append, reverse-append}

-- the change ends an object
abbrev pub IsFree : Change → Type 0
IsFree (Free x) = Unit {0}
IsFree (Write x k b) = ⊥
IsFree (Alloc x size) = ⊥
IsFree Get = ⊥
IsFree (Put b) = ⊥

pub after_append : (xs ys : List Change) (h : History) → after_all (xs ++ ys) h ≡ after_all ys (after_all xs h)
after_append [] ys h = refl
after_append (x ∷ xs) ys h = after_append xs ys (x ∷ h)

after_onto : (xs ys : List Change) (h : History) → reverse_aux xs ys ++ h ≡ after_all xs (ys ++ h)
after_onto [] ys h = refl
after_onto (x ∷ xs) ys h = after_onto xs (x ∷ ys) h

pub after_reverse : (xs : List Change) (h : History) → reverse xs ++ h ≡ after_all xs h
after_reverse xs h = after_onto xs [] h

-- ends of objects make nothing, read nothing and write nothing out
pub made_after : (frame : List CallStep) (made : CallStep) (cs : List Change) (h : History) → Each IsFree cs → is_made (Made frame made) (after_all cs h) ≡ is_made (Made frame made) h
made_after frame made [] h frees = refl
made_after frame made (Free x ∷ cs) h frees = made_after frame made cs (Free x ∷ h) frees.1
made_after frame made (Write x k b ∷ cs) h frees = absurd frees.0
made_after frame made (Alloc x size ∷ cs) h frees = absurd frees.0
made_after frame made (Get ∷ cs) h frees = absurd frees.0
made_after frame made (Put b ∷ cs) h frees = absurd frees.0

pub position_after : (cs : List Change) (h : History) → Each IsFree cs → position (after_all cs h) ≡ position h
position_after [] h frees = refl
position_after (Free x ∷ cs) h frees = position_after cs (Free x ∷ h) frees.1
position_after (Write x k b ∷ cs) h frees = absurd frees.0
position_after (Alloc x size ∷ cs) h frees = absurd frees.0
position_after (Get ∷ cs) h frees = absurd frees.0
position_after (Put b ∷ cs) h frees = absurd frees.0

pub output_after : (cs : List Change) (h : History) → Each IsFree cs → output (after_all cs h) ≡ output h
output_after [] h frees = refl
output_after (Free x ∷ cs) h frees = output_after cs (Free x ∷ h) frees.1
output_after (Write x k b ∷ cs) h frees = absurd frees.0
output_after (Alloc x size ∷ cs) h frees = absurd frees.0
output_after (Get ∷ cs) h frees = absurd frees.0
output_after (Put b ∷ cs) h frees = absurd frees.0

pub frees_of_node_end : (f : run.Frame) (n : NodeId) (count k : ℕ) → Each IsFree (frees_of_node f n count k)
frees_of_node_end f n zero k = tt
frees_of_node_end f n (suc more) k = (tt, frees_of_node_end f n more (k + 1))

pub frees_at_end : (f : run.Frame) (n : NodeId) (count : ℕ) (kind : Node) → Each IsFree (frees_at f n count kind)
frees_at_end f n count (node.Alloca size result next) = frees_of_node_end f n count 1
frees_at_end f n count _ = tt

pub frees_end : (f : run.Frame) (k : ℕ) (ns : List Node) → Each IsFree (frees_from f k ns)
frees_end f k [] = tt
frees_end f k (n ∷ ns) =
    let count = unwrap_or (slice_get f.counts k) 0 in
    each_append IsFree (frees_at f (record { 0 = k }) count n) (frees_from f (k + 1) ns) (frees_at_end f (record { 0 = k }) count n) (frees_end f (k + 1) ns)

-- one object more of a node
pub frees_more : (f : run.Frame) (n : NodeId) (m k : ℕ) (h : History)
    → after_all (frees_of_node f n (suc m) k) h ≡ Free (object_of f n (k + m)) ∷ after_all (frees_of_node f n m k) h
frees_more f n zero k h = ap (λ (i : ℕ). Free (object_of f n i) ∷ h) (sym (add-zero k))
frees_more f n (suc m) k h =
    frees_more f n m (k + 1) (Free (object_of f n k) ∷ h)
    ∙ ap (λ (i : ℕ). Free (object_of f n i) ∷ after_all (frees_of_node f n m (k + 1)) (Free (object_of f n k) ∷ h)) (moved k m)
  where
    moved : (k m : ℕ) → k + 1 + m ≡ k + suc m
    moved k m = omega arith

-- one node more
pub frees_next : (f : run.Frame) (k : ℕ) (ns : List Node) (n : Node) (h : History)
    → after_all (frees_from f k (ns ++ n ∷ [])) h
    ≡ after_all (frees_at f (record { 0 = k + length ns }) (count_at f (record { 0 = k + length ns })) n) (after_all (frees_from f k ns) h)
frees_next f k [] n h =
    let at = λ (i : ℕ). frees_at f (record { 0 = i }) (count_at f (record { 0 = i })) n in
    after_append (at k) [] h ∙ ap (λ (i : ℕ). after_all (at i) h) (sym (add-zero k))
frees_next f k (m ∷ ns) n h =
    let at = λ (i : ℕ). frees_at f (record { 0 = i }) (count_at f (record { 0 = i })) n in
    let first = frees_at f (record { 0 = k }) (count_at f (record { 0 = k })) m in
    after_append first (frees_from f (k + 1) (ns ++ n ∷ [])) h
    ∙ (frees_next f (k + 1) ns n (after_all first h)
    ∙ (ap (λ (i : ℕ). after_all (at i) (after_all (frees_from f (k + 1) ns) (after_all first h))) (moved k (length ns))
    ∙ ap (λ g. after_all (at (k + suc (length ns))) g) (sym (after_append first (frees_from f (k + 1) ns) h))))
  where
    moved : (k m : ℕ) → k + 1 + m ≡ k + suc m
    moved k m = omega arith

present_by : (p : ProgramData) (h : History) (frame : List CallStep) (made : CallStep) (life : Option Life) → Holds p h (Made frame made) life → is_made (Made frame made) h ≡ true → IsSome life
present_by p h frame made None holds there = cc
present_by p h frame made (Some life) holds there = refl

-- what was made is in the store, also after ends
pub kept_is_there : (p : ProgramData) (store : Store) (cs : List Change) (h : History) (frame : List CallStep) (made : CallStep)
    → Each IsFree cs → StandsFor p store (after_all cs h) → is_made (Made frame made) h ≡ true → IsSome (life_of store (Made frame made))
kept_is_there p store cs h frame made frees stands there =
    present_by p (after_all cs h) frame made (life_of store (Made frame made)) (stands.objects (Made frame made)) (made_after frame made cs h frees ∙ there)

-- an element that was read
pub read_is : {A : Type 0} (xs : List A) (k : ℕ) (x d : A) → k < length xs → x ≡ get_or xs k x → x ≡ unwrap_or (slice_get xs k) d
read_is [] k x d within e = absurd (omega arith)
read_is (y ∷ ys) zero x d within e = e
read_is (y ∷ ys) (suc k) x d within e = read_is ys k x d (omega arith) e

pub length_front : {A : Type 0} (xs : List A) (k : ℕ) → k < length xs → 0 + length (take k xs) ≡ k
length_front xs k within = grind (arith, length-take)

pub take_whole : {A : Type 0} (xs : List A) (k : ℕ) → length xs ≤ k → take k xs ≡ xs
take_whole [] zero long = refl
take_whole [] (suc k) long = refl
take_whole (x ∷ xs) zero long = absurd (omega arith)
take_whole (x ∷ xs) (suc k) long = ap (λ l. x ∷ l) (take_whole xs k (omega arith))

-- the frames of a machine, as its callers are put and taken
pub callers_with : (xs ys : List Frame) (f : Frame) → xs ≡ ys ++ f ∷ [] → reverse (map frame_of xs) ≡ frame_of f ∷ reverse (map frame_of ys)
callers_with xs ys f e =
    ap (λ l. reverse (map frame_of l)) e ∙ (ap reverse (map-append frame_of ys (f ∷ [])) ∙ reverse-append (map frame_of ys) (frame_of f ∷ []))

pub no_callers : (xs : List Frame) → length xs ≡ 0 → reverse (map frame_of xs) ≡ []
no_callers [] e = refl
no_callers (x ∷ xs) e = absurd (omega arith)

-- what is remembered when a frame's objects have ended
pub remembers_ended : (p : ProgramData) (input : List ℕ) (old new : Machine) (f : run.Frame) (ns ms : List Node) (h : History)
    → Remembers p input old h → StandsFor p new.store (after_all (frees_from f 0 ns) h) → ns ≡ ms → new.position ≡ old.position → new.output ≡ old.output
    → Remembers p input new (reverse (frees_from f 0 ms) ++ h)
remembers_ended p input old new f ns ms h remembers stands same position' output' =
    let cs = frees_from f 0 ms in
    let ended = subst (λ (l : List Node). StandsFor p new.store (after_all (frees_from f 0 l) h)) same stands in
    let after = after_reverse cs h in
    record {
      memory = subst (λ (g : History). StandsFor p new.store g) (sym after) ended;
      position = position' ∙ (remembers.position ∙ ap (λ k. min k (length input)) (sym (ap position after ∙ position_after cs h (frees_end f 0 ms))));
      output = output' ∙ (remembers.output ∙ sym (ap output after ∙ output_after cs h (frees_end f 0 ms)));
    }
