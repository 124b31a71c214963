-- A file that is read piece by piece, and a text that is written so.
use Rattle.std.proofs.Common.{◌≡◌, ℕ, ◌+◌, ◌-◌, ◌≤◌, List, [], ◌++◌, length, take, drop, Option, Some, None, refl, ap, ◌∙◌, arith, append_assoc, append-nil, IfSome}
use Rattle.std.proofs.lemmas.Grind.{common_steps}
use Rattle.std.proofs.lemmas.List.{take-append-drop}
use Rattle.std.proofs.Math.Seq.{take-add}
use Rattle.std.specs.Option.{option_map}
use Rattle.chop_outside.specs.Reading.{Named, contents_of, Holds}
use Rattle.chop_outside.specs.Writing.{SinkState, Appends}

-- what was read, and what is left of the file, make its contents, where they are told
abbrev pub Parts : Option Named → List ℕ → List ℕ → Option (List ℕ) → Type 0
Parts None name read left = Unit {0}
Parts (Some named) name read left = (rest : List ℕ) × (left ≡ Some rest) × (named name ≡ Some (read ++ rest))

pub parts-open : (named : Option Named) (name : List ℕ) (left : Option (List ℕ)) → IfSome named (λ f. (contents : List ℕ) × (f name ≡ Some contents)) → left ≡ contents_of named name → Parts named name [] left
parts-open None name left there opened = tt
parts-open (Some f) name left there opened = (there.0, opened ∙ there.1, there.1)

pub parts-read : (named : Option Named) (name read : List ℕ) (n : ℕ) (left next : Option (List ℕ)) (into : List ℕ) → IfSome left (λ xs. (n ≤ length xs) × (take n into ≡ take n xs)) → next ≡ option_map (drop n) left → Parts named name read left → Parts named name (read ++ take n into) next
parts-read None name read n left next into bytes took parts = tt
parts-read (Some f) name read n None next into bytes took parts = let none : None ≡ Some parts.0 = parts.1 in cc
parts-read (Some f) name read n (Some rest) next into bytes took parts =
    let front : take n into ≡ take n rest = bytes.1 in
    let left : Some rest ≡ Some parts.0 = parts.1 in
    let whole : f name ≡ Some (read ++ parts.0) = parts.2 in
    (drop n rest, took, cc (append_assoc read (take n into) (drop n rest), take-append-drop n rest))

pub parts-end : (named : Option Named) (name read : List ℕ) (left : Option (List ℕ)) → IfSome left (λ xs. xs ≡ []) → Parts named name read left → Holds named name read
parts-end None name read left empty parts = tt
parts-end (Some f) name read None empty parts = let none : None ≡ Some parts.0 = parts.1 in cc
parts-end (Some f) name read (Some rest) empty parts =
    let left : Some rest ≡ Some parts.0 = parts.1 in
    let whole : f name ≡ Some (read ++ parts.0) = parts.2 in
    cc (append-nil read)

pub appended-twice : (xs ys : List ℕ) (o : Option (List ℕ)) → option_map (λ w. w ++ ys) (option_map (λ w. w ++ xs) o) ≡ option_map (λ w. w ++ (xs ++ ys)) o
appended-twice xs ys None = refl
appended-twice xs ys (Some w) = ap Some (append_assoc w xs ys)

pub rest_from : (at : ℕ) (bytes : List ℕ) → take (length bytes - at) (drop at bytes) ≡ drop at bytes
rest_from at bytes = grind (arith, common_steps)

pub appends-more : (bytes : List ℕ) (at n : ℕ) (old mid new : SinkState) → Appends (take at bytes) old mid → Appends (take n (take (length bytes - at) (drop at bytes))) mid new → Appends (take (at + n) bytes) old new
appends-more bytes at n old mid new first second =
    let rest : Appends (take n (drop at bytes)) mid new = rw (rest_from at bytes) at second in
    rw (take-add at n bytes, ← appended-twice (take at bytes) (take n (drop at bytes)) old.written, ← first) rest
