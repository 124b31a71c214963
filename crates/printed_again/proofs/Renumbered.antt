-- A tree in which all that can have a number has a name is left as it is by numbering, without regard to places.
use Rattle.std.proofs.Common.{◌≡◌, ℕ, ◌+◌, Bool, true, false, cond, List, [], ◌∷◌, Option, Some, None, refl, sym, ap, subst, ◌∙◌}
use Rattle.std.specs.Prelude.{map}
use Rattle.std.specs.Fmt.{decimal}
use Rattle.ir_tree.specs.declared.types.Name.{Name}
use Rattle.ir_tree.specs.declared.instructions.Operation.{Operation}
use Rattle.ir_tree.specs.declared.instructions.Operation.TheVariants as operations
use Rattle.ir_tree.specs.declared.instructions.Instruction.{Instruction}
use Rattle.ir_tree.specs.declared.instructions.Phi.{Phi}
use Rattle.ir_tree.specs.declared.instructions.Block.{Block}
use Rattle.ir_tree.specs.declared.module.Parameter.{Parameter}
use Rattle.ir_tree.specs.declared.module.Header.{Header}
use Rattle.ir_tree.specs.declared.module.FunctionDefinition.{FunctionDefinition}
use Rattle.ir_tree.specs.declared.module.IrTree.{IrTree}
use Rattle.ir_tree.specs.Places.{on_some, bare_name, bare_type, bare_operation, bare_instruction, bare_phi, bare_terminator, bare_block, bare_parameter, bare_header, bare_function, without_places}
use Rattle.ir_grammar.specs.Tokens.{are_digits}
use Rattle.ir_grammar.specs.Numbering.{is_number, counted, numbered_name, numbered_parameter, numbered_parameters, after_phis, has_result, numbered_result, with_result, numbered_instructions, with_names, numbered_blocks, with_parameters, numbered_header, numbered_function, numbered}
use Rattle.printed_again.proofs.Numbers.{decimal_digits, decimal_not_empty}
use Rattle.printed_again.proofs.Lists.{cons_like}

-- ---- a number is a number

digits_number : (ds : List ℕ) → are_digits ds ≡ true → (ds ≡ [] → ⊥) → is_number ds ≡ true
digits_number [] h some = absurd (some refl)
digits_number (d ∷ ds) h some = h

counts : (n at : ℕ) → counted n (record { text = decimal n; at = at }) ≡ n + 1
counts n at = ap (λ b. cond b (n + 1) n) (digits_number (decimal n) (decimal_digits n) (decimal_not_empty n))

-- the counter after a name looks at its text alone
counted_alike : (n : ℕ) (x y : Name) → bare_name x ≡ bare_name y → counted n x ≡ counted n y
counted_alike n x y e = ap (λ m. counted n m) e

name_counts : (at n : ℕ) (o : Option Name) → counted n (numbered_name at n o).0 ≡ (numbered_name at n o).1
name_counts at n (Some x) = refl
name_counts at n None = counts n at

some_bare : (x y : Name) → Some (bare_name x) ≡ Some (bare_name y) → bare_name x ≡ bare_name y
some_bare x y e = cc

none_bare : (y : Name) → None ≡ Some (bare_name y) → ⊥
none_bare y e = cc

some_none : (x : Name) → Some (bare_name x) ≡ None → ⊥
some_none x e = cc

named_again : (at from n : ℕ) (o q : Option Name) → on_some bare_name o ≡ Some (bare_name (numbered_name at n q).0)
    → (Some (bare_name (numbered_name from n o).0) ≡ Some (bare_name (numbered_name at n q).0)) × ((numbered_name from n o).1 ≡ (numbered_name at n q).1)
named_again at from n None q e = absurd (none_bare (numbered_name at n q).0 e)
named_again at from n (Some x) q e = (e, counted_alike n x (numbered_name at n q).0 (some_bare x (numbered_name at n q).0 e) ∙ name_counts at n q)

-- ---- lists without regard to places

cons_head : {A : Type 0} (x y : A) (xs ys : List A) → x ∷ xs ≡ y ∷ ys → x ≡ y
cons_head x y xs ys e = cc

cons_tail : {A : Type 0} (x y : A) (xs ys : List A) → x ∷ xs ≡ y ∷ ys → xs ≡ ys
cons_tail x y xs ys e = cc

nil_cons : {A : Type 0} (y : A) (ys : List A) → [] ≡ y ∷ ys → ⊥
nil_cons y ys e = cc

cons_nil : {A : Type 0} (y : A) (ys : List A) → y ∷ ys ≡ [] → ⊥
cons_nil y ys e = cc

-- ---- parameters

abbrev SameParameters : List Parameter × ℕ → List Parameter × ℕ → Type 0
SameParameters x y = (map bare_parameter x.0 ≡ map bare_parameter y.0) × (x.1 ≡ y.1)

parameters_again : (at from n : ℕ) (ps qs : List Parameter) → map bare_parameter ps ≡ map bare_parameter (numbered_parameters at n qs).0 → SameParameters (numbered_parameters from n ps) (numbered_parameters at n qs)
parameters_again at from n [] [] e = (refl, refl)
parameters_again at from n [] (q ∷ qs) e = absurd (nil_cons _ _ e)
parameters_again at from n (p ∷ ps) [] e = absurd (cons_nil _ _ e)
parameters_again at from n (p ∷ ps) (q ∷ qs) e =
    let name = numbered_name at n q.name in
    let head = cons_head (bare_parameter p) (bare_parameter (numbered_parameter q name.0)) (map bare_parameter ps) (map bare_parameter (numbered_parameters at name.1 qs).0) e in
    let tail = cons_tail (bare_parameter p) (bare_parameter (numbered_parameter q name.0)) (map bare_parameter ps) (map bare_parameter (numbered_parameters at name.1 qs).0) e in
    let r = named_again at from n p.name q.name (ap (λ x. x.name) head) in
    let rest = subst (λ k. SameParameters (numbered_parameters from k ps) (numbered_parameters at name.1 qs)) (sym r.1) (parameters_again at from name.1 ps qs tail) in (
      cons_like bare_parameter (numbered_parameter q name.0) (numbered_parameter p (numbered_name from n p.name).0) (numbered_parameters at name.1 qs).0 (numbered_parameters from (numbered_name from n p.name).1 ps).0
          (ap (λ k. record { kind = k; name = Some (bare_name (numbered_name from n p.name).0) }) (ap (λ x. x.kind) head) ∙ ap (λ o. record { kind = bare_type q.kind; name = o }) r.0)
          rest.0,
      rest.1,
    )

-- ---- instructions

has_result_bare : (o : Operation) → has_result (bare_operation o) ≡ has_result o
has_result_bare (operations.Binary op w a b) = refl
has_result_bare (operations.Compare p t a b) = refl
has_result_bare (operations.Cast op from v to) = refl
has_result_bare (operations.Select c a b) = refl
has_result_bare (operations.Alloca t) = refl
has_result_bare (operations.Load t p) = refl
has_result_bare (operations.Store t v p) = refl
has_result_bare (operations.GetElementPtr t p is) = refl
has_result_bare (operations.Call (Some t) f vs) = refl
has_result_bare (operations.Call None f vs) = refl

abbrev SameResult : Option Name × ℕ → Option Name × ℕ → Type 0
SameResult x y = (on_some bare_name x.0 ≡ on_some bare_name y.0) × (x.1 ≡ y.1)

result_again : (at from n : ℕ) (o q : Option Name) (has : Bool) → on_some bare_name o ≡ on_some bare_name (numbered_result at n q has).0 → SameResult (numbered_result from n o has) (numbered_result at n q has)
result_again at from n (Some x) (Some y) has e = (e, counted_alike n x y (some_bare x y e))
result_again at from n None (Some y) has e = absurd (none_bare y e)
result_again at from n (Some x) None true e = (e, counted_alike n x (record { text = decimal n; at = at }) (some_bare x (record { text = decimal n; at = at }) e) ∙ counts n at)
result_again at from n None None true e = absurd (none_bare (record { text = decimal n; at = at }) e)
result_again at from n (Some x) None false e = absurd (some_none x e)
result_again at from n None None false e = (refl, refl)

abbrev SameInstructions : List Instruction × ℕ → List Instruction × ℕ → Type 0
SameInstructions x y = (map bare_instruction x.0 ≡ map bare_instruction y.0) × (x.1 ≡ y.1)

instructions_again : (at from n : ℕ) (is js : List Instruction) → map bare_instruction is ≡ map bare_instruction (numbered_instructions at n js).0 → SameInstructions (numbered_instructions from n is) (numbered_instructions at n js)
instructions_again at from n [] [] e = (refl, refl)
instructions_again at from n [] (j ∷ js) e = absurd (nil_cons _ _ e)
instructions_again at from n (i ∷ is) [] e = absurd (cons_nil _ _ e)
instructions_again at from n (i ∷ is) (j ∷ js) e =
    let there = numbered_result at n j.result (has_result j.operation) in
    let here = numbered_result from n i.result (has_result i.operation) in
    let head = cons_head (bare_instruction i) (bare_instruction (with_result j there.0)) (map bare_instruction is) (map bare_instruction (numbered_instructions at there.1 js).0) e in
    let tail = cons_tail (bare_instruction i) (bare_instruction (with_result j there.0)) (map bare_instruction is) (map bare_instruction (numbered_instructions at there.1 js).0) e in
    let same : bare_operation i.operation ≡ bare_operation j.operation = ap (λ x. x.operation) head in
    let has : has_result i.operation ≡ has_result j.operation = sym (has_result_bare i.operation) ∙ ap has_result same ∙ has_result_bare j.operation in
    let r : SameResult here there = subst (λ b. SameResult (numbered_result from n i.result b) there) (sym has) (result_again at from n i.result j.result (has_result j.operation) (ap (λ x. x.result) head)) in
    let rest = subst (λ k. SameInstructions (numbered_instructions from k is) (numbered_instructions at there.1 js)) (sym r.1) (instructions_again at from there.1 is js tail) in (
      cons_like bare_instruction (with_result j there.0) (with_result i here.0) (numbered_instructions at there.1 js).0 (numbered_instructions from here.1 is).0
          (ap (λ o. record { at = 0; result = o; operation = bare_operation i.operation }) r.0 ∙ ap (λ o. record { at = 0; result = on_some bare_name there.0; operation = o }) same)
          rest.0,
      rest.1,
    )

-- ---- blocks

phis_again : (n : ℕ) (ps qs : List Phi) → map bare_phi ps ≡ map bare_phi qs → after_phis n ps ≡ after_phis n qs
phis_again n [] [] e = refl
phis_again n [] (q ∷ qs) e = absurd (nil_cons _ _ e)
phis_again n (p ∷ ps) [] e = absurd (cons_nil _ _ e)
phis_again n (p ∷ ps) (q ∷ qs) e =
    let head = cons_head (bare_phi p) (bare_phi q) (map bare_phi ps) (map bare_phi qs) e in
    phis_again (counted n p.result) ps qs (cons_tail (bare_phi p) (bare_phi q) (map bare_phi ps) (map bare_phi qs) e) ∙ ap (λ k. after_phis k qs) (counted_alike n p.result q.result (ap (λ x. x.result) head))

block_like : (b c : Block) (m k : Name) (is js : List Instruction) → Some (bare_name m) ≡ Some (bare_name k) → map bare_phi b.phis ≡ map bare_phi c.phis → map bare_instruction is ≡ map bare_instruction js → bare_terminator b.terminator ≡ bare_terminator c.terminator
    → bare_block (with_names b m is) ≡ bare_block (with_names c k js)
block_like b c m k is js en ep ei et = let e : bare_block (with_names b m is) ≡ bare_block (with_names c k js) = cc in e

blocks_again : (at from n : ℕ) (bs cs : List Block) → map bare_block bs ≡ map bare_block (numbered_blocks at n cs) → map bare_block (numbered_blocks from n bs) ≡ map bare_block (numbered_blocks at n cs)
blocks_again at from n [] [] e = refl
blocks_again at from n [] (c ∷ cs) e = absurd (nil_cons _ _ e)
blocks_again at from n (b ∷ bs) [] e = absurd (cons_nil _ _ e)
blocks_again at from n (b ∷ bs) (c ∷ cs) e =
    let there = numbered_name at n c.label in
    let here = numbered_name from n b.label in
    let js = numbered_instructions at (after_phis there.1 c.phis) c.instructions in
    let is = numbered_instructions from (after_phis here.1 b.phis) b.instructions in
    let head = cons_head (bare_block b) (bare_block (with_names c there.0 js.0)) (map bare_block bs) (map bare_block (numbered_blocks at js.1 cs)) e in
    let tail = cons_tail (bare_block b) (bare_block (with_names c there.0 js.0)) (map bare_block bs) (map bare_block (numbered_blocks at js.1 cs)) e in
    let name = named_again at from n b.label c.label (ap (λ x. x.label) head) in
    let phis = ap (λ x. x.phis) head in
    let counter : after_phis here.1 b.phis ≡ after_phis there.1 c.phis = ap (λ k. after_phis k b.phis) name.1 ∙ phis_again there.1 b.phis c.phis phis in
    let r : SameInstructions is js = subst (λ k. SameInstructions (numbered_instructions from k b.instructions) js) (sym counter) (instructions_again at from (after_phis there.1 c.phis) b.instructions c.instructions (ap (λ x. x.instructions) head)) in
    cons_like bare_block (with_names c there.0 js.0) (with_names b here.0 is.0) (numbered_blocks at js.1 cs) (numbered_blocks from is.1 bs)
    (block_like b c here.0 there.0 is.0 js.0 name.0 phis r.0 (ap (λ x. x.terminator) head))
    (subst (λ k. map bare_block (numbered_blocks from k bs) ≡ map bare_block (numbered_blocks at js.1 cs)) (sym r.1) (blocks_again at from js.1 bs cs tail))

-- ---- the tree

header_like : (g h : Header) (ps qs : List Parameter) → on_some bare_type g.result ≡ on_some bare_type h.result → bare_name g.name ≡ bare_name h.name → map bare_parameter ps ≡ map bare_parameter qs → bare_header (with_parameters g ps) ≡ bare_header (with_parameters h qs)
header_like g h ps qs er en ep = let e : bare_header (with_parameters g ps) ≡ bare_header (with_parameters h qs) = cc in e

header_again : (g h : Header) → bare_header g ≡ bare_header (numbered_header h) → bare_header (numbered_header g) ≡ bare_header (numbered_header h)
header_again g h e =
    header_like g h (numbered_parameters g.name.at 0 g.parameters).0 (numbered_parameters h.name.at 0 h.parameters).0 (ap (λ x. x.result) e) (ap (λ x. x.name) e)
    (parameters_again h.name.at g.name.at 0 g.parameters h.parameters (ap (λ x. x.parameters) e)).0

function_again : (f g : FunctionDefinition) → bare_function f ≡ bare_function (numbered_function g) → bare_function (numbered_function f) ≡ bare_function (numbered_function g)
function_again f g e =
    let head = ap (λ x. x.header) e in
    let qs = numbered_parameters g.header.name.at 0 g.header.parameters in
    let ps = numbered_parameters f.header.name.at 0 f.header.parameters in
    let same = parameters_again g.header.name.at f.header.name.at 0 f.header.parameters g.header.parameters (ap (λ x. x.parameters) head) in
    let blocks : map bare_block (numbered_blocks f.header.name.at ps.1 f.blocks) ≡ map bare_block (numbered_blocks g.header.name.at qs.1 g.blocks) =
    subst (λ k. map bare_block (numbered_blocks f.header.name.at k f.blocks) ≡ map bare_block (numbered_blocks g.header.name.at qs.1 g.blocks)) (sym same.1) (blocks_again g.header.name.at f.header.name.at qs.1 f.blocks g.blocks (ap (λ x. x.blocks) e))
    in
    ap (λ h. record { header = h; blocks = map bare_block (numbered_blocks f.header.name.at ps.1 f.blocks) }) (header_like f.header g.header ps.0 qs.0 (ap (λ x. x.result) head) (ap (λ x. x.name) head) same.0)
    ∙ ap (λ bs. record { header = bare_header (with_parameters g.header qs.0); blocks = bs }) blocks

headers_again : (gs hs : List Header) → map bare_header gs ≡ map bare_header (map numbered_header hs) → map bare_header (map numbered_header gs) ≡ map bare_header (map numbered_header hs)
headers_again [] [] e = refl
headers_again [] (h ∷ hs) e = absurd (nil_cons _ _ e)
headers_again (g ∷ gs) [] e = absurd (cons_nil _ _ e)
headers_again (g ∷ gs) (h ∷ hs) e =
    cons_like bare_header (numbered_header h) (numbered_header g) (map numbered_header hs) (map numbered_header gs)
    (header_again g h (cons_head (bare_header g) (bare_header (numbered_header h)) (map bare_header gs) (map bare_header (map numbered_header hs)) e))
    (headers_again gs hs (cons_tail (bare_header g) (bare_header (numbered_header h)) (map bare_header gs) (map bare_header (map numbered_header hs)) e))

functions_again : (fs gs : List FunctionDefinition) → map bare_function fs ≡ map bare_function (map numbered_function gs) → map bare_function (map numbered_function fs) ≡ map bare_function (map numbered_function gs)
functions_again [] [] e = refl
functions_again [] (g ∷ gs) e = absurd (nil_cons _ _ e)
functions_again (f ∷ fs) [] e = absurd (cons_nil _ _ e)
functions_again (f ∷ fs) (g ∷ gs) e =
    cons_like bare_function (numbered_function g) (numbered_function f) (map numbered_function gs) (map numbered_function fs)
    (function_again f g (cons_head (bare_function f) (bare_function (numbered_function g)) (map bare_function fs) (map bare_function (map numbered_function gs)) e))
    (functions_again fs gs (cons_tail (bare_function f) (bare_function (numbered_function g)) (map bare_function fs) (map bare_function (map numbered_function gs)) e))

pub tree_again : (s t : IrTree) → without_places s ≡ without_places (numbered t) → without_places (numbered s) ≡ without_places (numbered t)
tree_again s t e =
    let types = ap (λ x. x.types) e in
    let globals = ap (λ x. x.globals) e in
    let declares = headers_again s.declares t.declares (ap (λ x. x.declares) e) in
    let functions = functions_again s.functions t.functions (ap (λ x. x.functions) e) in
    let same : without_places (numbered s) ≡ without_places (numbered t) = cc in
    same
