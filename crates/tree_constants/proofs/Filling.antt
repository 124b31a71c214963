-- Bytes that are filled up with zeros.
use Rattle.std.proofs.Common.{◌≡◌, ◌∙◌, ◌++◌, ◌+◌, ◌-◌, ◌/◌, ◌%◌, ◌<◌, ℕ, suc, Bool, List, [], ◌∷◌, length, drop, get_or, map, replicate, refl, sym, ap, append_assoc, arith}
use Rattle.std.proofs.lemmas.List.{length-append, append-nil}
use Rattle.flat_ir.specs.declared.program.InitByte.{InitByte}
use Rattle.flat_ir.specs.declared.program.InitByte.TheVariants as init
use Rattle.ir_tree.specs.declared.types.IrType.{IrType}
use Rattle.ir_tree.specs.declared.constants.Constant.{Constant}
use Rattle.ir_tree.specs.declared.module.IrTree.{IrTree}
use Rattle.ir_programs.specs.Addresses.{field_offset}
use Rattle.ir_programs.specs.Programs.{padded, fields_from, number_bytes, constant_bytes}
use Rattle.tree_constants.proofs.OneByOne.{rest_less}

abbrev pub zeros : ℕ → List InitByte
zeros n = replicate n (init.Int 0)

left : (start inner size : ℕ) → start + size - (start + inner) ≡ size - inner
left start inner size = omega arith

-- what is filled up behind a start is padded
pub padded_behind : (before inner all next : List InitByte) (start size : ℕ) → start ≡ length before → all ≡ before ++ inner → next ≡ all ++ zeros (start + size - length all) → next ≡ before ++ padded size inner
padded_behind before inner all next start size se ae ne =
    let count : start + size - length all ≡ size - length inner = ap (λ (n : ℕ). start + size - n) (ap length ae ∙ (length-append before inner ∙ ap (λ (n : ℕ). n + length inner) (sym se))) ∙ left start (length inner) size in
    ne ∙ (ap (λ (n : ℕ). all ++ zeros n) count ∙ (ap (λ (xs : List InitByte). xs ++ zeros (size - length inner)) ae ∙ append_assoc before inner (zeros (size - length inner))))

-- the fields so far are these bytes
pub record SoFar (t : IrTree) (fields : List IrType) (packed : Bool) (cs : List Constant) (before : List InitByte) (place : ℕ) (all : List InitByte) : Type 0 where
  pub inner : List InitByte
  pub behind : all ≡ before ++ inner
  pub same : fields_from t fields packed place inner (map (constant_bytes t) (drop place cs)) ≡ fields_from t fields packed 0 [] (map (constant_bytes t) cs)

pub no_fields : (t : IrTree) (fields : List IrType) (packed : Bool) (cs : List Constant) (before : List InitByte) → SoFar t fields packed cs before 0 before
no_fields t fields packed cs before = record { inner = []; behind = sym (append-nil before); same = refl }

pub one_more_field : (t : IrTree) (fields : List IrType) (packed : Bool) (cs : List Constant) (before : List InitByte) (place start : ℕ) (c : Constant) (all filled next : List InitByte) →
    place < length cs → c ≡ get_or cs place c → start ≡ length before → filled ≡ all ++ zeros (start + field_offset t.types fields packed place - length all) → next ≡ filled ++ constant_bytes t c →
    SoFar t fields packed cs before place all → SoFar t fields packed cs before (place + 1) next
one_more_field t fields packed cs before place start c all filled next lt is se fe ne so_far =
    let inner = padded (field_offset t.types fields packed place) so_far.inner in
    let there : filled ≡ before ++ inner = padded_behind before so_far.inner all filled start (field_offset t.types fields packed place) se so_far.behind fe in
    record {
      inner = inner ++ constant_bytes t c;
      behind = ne ∙ (ap (λ (xs : List InitByte). xs ++ constant_bytes t c) there ∙ append_assoc before inner (constant_bytes t c));
      same = sym (ap (λ (xs : List Constant). fields_from t fields packed place so_far.inner (map (constant_bytes t) xs)) (rest_less cs place c lt is)) ∙ so_far.same;
    }

-- one more byte of a number
pub one_byte : (count place rest : ℕ) (all next whole : List InitByte) → place < count → next ≡ all ++ init.Int (rest % 256) ∷ [] → all ++ number_bytes (count - place) rest ≡ whole →
    next ++ number_bytes (count - (place + 1)) (rest / 256) ≡ whole
one_byte count place rest all next whole lt ne before =
    let more = number_bytes (count - (place + 1)) (rest / 256) in
    let one : count - place ≡ suc (count - (place + 1)) = omega arith in
    ap (λ (xs : List InitByte). xs ++ more) ne ∙ (append_assoc all (init.Int (rest % 256) ∷ []) more ∙ (sym (ap (λ (n : ℕ). all ++ number_bytes n rest) one) ∙ before))

pub filled : (before inner all : List InitByte) (start size : ℕ) → start ≡ length before → all ≡ before ++ inner → all ++ zeros (start + size - length all) ≡ before ++ padded size inner
filled before inner all start size se ae = padded_behind before inner all (all ++ zeros (start + size - length all)) start size se ae refl

-- one more element is made
pub one_more_made : {A B : Type 0} (f : A → B) (xs : List A) (i : ℕ) (x : A) (all next whole : List B) (y : B) → i < length xs → x ≡ get_or xs i x → next ≡ all ++ y ∷ [] → y ≡ f x →
    all ++ map f (drop i xs) ≡ whole → next ++ map f (drop (i + 1) xs) ≡ whole
one_more_made {A} {B} f xs i x all next whole y lt is ne ye before =
    let rest = map f (drop (i + 1) xs) in
    ap (λ (l : List B). l ++ rest) ne
    ∙ (append_assoc all (y ∷ []) rest ∙ (ap (λ (z : B). all ++ z ∷ rest) ye ∙ (ap (λ (l : List A). all ++ map f l) (sym (rest_less xs i x lt is)) ∙ before)))
