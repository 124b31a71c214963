-- Instructions, terminators and blocks (Language Reference, "Instruction Reference").
use Rattle.std.specs.Prelude.{ℕ, Bool, true, false, List, [], ◌∷◌, ◌++◌, Option, Some, None, codes}
use Rattle.bitnum.specs.declared.BinOp.{BinOp}
use Rattle.bitnum.specs.declared.BinOp.TheVariants as ops
use Rattle.bitnum.specs.declared.Pred.{Pred}
use Rattle.bitnum.specs.declared.Pred.TheVariants as preds
use Rattle.ir_tree.specs.declared.types.Name.{Name}
use Rattle.ir_tree.specs.declared.types.IrType.{IrType}
use Rattle.ir_tree.specs.declared.constants.Integer.{Integer}
use Rattle.ir_tree.specs.declared.instructions.CastOp.{CastOp}
use Rattle.ir_tree.specs.declared.instructions.CastOp.TheVariants as casts
use Rattle.ir_tree.specs.declared.instructions.Typed.{Typed}
use Rattle.ir_tree.specs.declared.instructions.Index.{Index}
use Rattle.ir_tree.specs.declared.instructions.Operation.{Operation}
use Rattle.ir_tree.specs.declared.instructions.Operation.TheVariants as operations
use Rattle.ir_tree.specs.declared.instructions.Instruction.{Instruction}
use Rattle.ir_tree.specs.declared.instructions.Incoming.{Incoming}
use Rattle.ir_tree.specs.declared.instructions.Phi.{Phi}
use Rattle.ir_tree.specs.declared.instructions.Case.{Case}
use Rattle.ir_tree.specs.declared.instructions.TerminatorForm.TheVariants as terminators
use Rattle.ir_tree.specs.declared.instructions.Terminator.{Terminator}
use Rattle.ir_tree.specs.declared.instructions.Block.{Block}
use Rattle.phrases.specs.Piece.{Class}
use Rattle.phrases.specs.Phrase.{Phrase, one, skip, place, done, ◌>>=◌, ◌>>◌, either, many, many_from, skip_many, but}
use Rattle.ir_grammar.specs.Tokens.{a_local, a_label, a_str, an_attr_group, a_meta, word, words, meaning, heads, comma, equals, round, square, integer_type}
use Rattle.ir_grammar.specs.Numbers.{fits_width, fits_index}
use Rattle.ir_grammar.specs.Types.{skip_word, skip_mark, place_of, global_name, local_name, label_name, width, listed, flags, alignment, attribute_or, attribute_starts, attributes, value_type, scalar_type, mem_type, nesting}
use Rattle.ir_grammar.specs.Constants.{placed, operand, operand_in, operand_where, pointer}

-- ---- what may stand after an instruction, and is ignored

-- 'align' Int | Meta Meta
abbrev pub attached : Phrase (Unit {0})
attached = either (word (codes "align") ∷ []) alignment (skip (a_meta ∷ []) >> skip (a_meta ∷ []))

-- After := {',' 'align' Int | ',' Meta Meta}
abbrev pub after : Phrase (Unit {0})
after = skip_many (comma ∷ []) (skip_mark (codes ",") >> attached)

-- After an alloca, where an integer type behind a comma is named as unsupported: it would be a number of elements.
abbrev pub after_alloca : Phrase (Unit {0})
after_alloca = skip_many (comma ∷ []) (skip_mark (codes ",") >> but (integer_type ∷ []) attached)

-- Str ['=' Str]
abbrev pub string_attribute : Phrase (Unit {0})
string_attribute = do
  skip (a_str ∷ [])
  either (equals ∷ []) (skip_mark (codes "=") >> skip (a_str ∷ [])) (done tt)

-- Tail := {Attr | AttrGroup | Str ['=' Str]}
abbrev pub tail_item : Phrase (Unit {0})
tail_item = either (a_str ∷ []) string_attribute (either (an_attr_group ∷ []) (skip (an_attr_group ∷ [])) (attribute_or []))

abbrev pub tail_starts : List Class
tail_starts = a_str ∷ an_attr_group ∷ attribute_starts []

abbrev pub tail : Phrase (Unit {0})
tail = skip_many tail_starts tail_item

-- ---- lists behind commas that end where attachments begin

-- an item, or an attachment, after which no item may stand
abbrev pub item_or_attached : {A : Type 0} → List Class → Phrase A → Bool → Phrase (Option A)
item_or_attached starts item true = skip_mark (codes ",") >> (attached >> done None)
item_or_attached starts item false = skip_mark (codes ",") >> either starts (do
  x ← item
  done (Some x)) (attached >> done None)

abbrev pub attachments_begun : {A : Type 0} → Bool → Option A → Bool
attachments_begun begun (Some x) = begun
attachments_begun begun None = true

abbrev pub present : {A : Type 0} → List (Option A) → List A
present [] = []
present (Some x ∷ xs) = x ∷ present xs
present (None ∷ xs) = present xs

-- {',' item} After
abbrev pub items_and_after : {A : Type 0} → List Class → Phrase A → Phrase (List A)
items_and_after starts item = do
  found ← many_from (comma ∷ []) (item_or_attached starts item) attachments_begun false
  done (present found)

-- ---- operations

abbrev pub binary_rows : List (List ℕ × BinOp)
binary_rows = (codes "add", ops.Add) ∷ (codes "sub", ops.Sub) ∷ (codes "mul", ops.Mul) ∷ (codes "udiv", ops.Udiv) ∷ (codes "sdiv", ops.Sdiv) ∷ (codes "urem", ops.Urem) ∷ (codes "srem", ops.Srem) ∷ (codes "shl", ops.Shl) ∷ (codes "lshr", ops.Lshr) ∷ (codes "ashr", ops.Ashr) ∷ (codes "and", ops.And) ∷ (codes "or", ops.Or) ∷ (codes "xor", ops.Xor) ∷ []

abbrev pub pred_rows : List (List ℕ × Pred)
pred_rows = (codes "eq", preds.Eq) ∷ (codes "ne", preds.Ne) ∷ (codes "ugt", preds.Ugt) ∷ (codes "uge", preds.Uge) ∷ (codes "ult", preds.Ult) ∷ (codes "ule", preds.Ule) ∷ (codes "sgt", preds.Sgt) ∷ (codes "sge", preds.Sge) ∷ (codes "slt", preds.Slt) ∷ (codes "sle", preds.Sle) ∷ []

abbrev pub cast_rows : List (List ℕ × CastOp)
cast_rows = (codes "trunc", casts.Trunc) ∷ (codes "zext", casts.Zext) ∷ (codes "sext", casts.Sext) ∷ []

-- BinOp Flag* iN Val ',' Val After
abbrev pub binary : Phrase Operation
binary = do
  op ← one (meaning binary_rows)
  flags
  w ← width
  a ← operand w
  skip_mark (codes ",")
  b ← operand w
  after
  done (operations.Binary op w a b)

-- 'icmp' Flag* Pred Type Val ',' Val After
abbrev pub compare : Phrase Operation
compare = do
  skip_word (codes "icmp")
  flags
  p ← one (meaning pred_rows)
  t ← value_type
  a ← operand_in t
  skip_mark (codes ",")
  b ← operand_in t
  after
  done (operations.Compare p t a b)

-- ('trunc'|'zext'|'sext') Flag* iN Val 'to' iN After
abbrev pub cast : Phrase Operation
cast = do
  op ← one (meaning cast_rows)
  flags
  from ← width
  v ← operand from
  skip_word (codes "to")
  to ← width
  after
  done (operations.Cast op from v to)

-- Type Val
abbrev pub typed : Phrase Typed
typed = do
  t ← value_type
  v ← operand_in t
  done (record { kind = t; value = v })

-- 'select' 'i1' Val ',' Type Val ',' Type Val After
abbrev pub select : Phrase Operation
select = do
  skip_word (codes "select")
  skip_word (codes "i1")
  c ← operand 1
  skip_mark (codes ",")
  a ← typed
  skip_mark (codes ",")
  b ← typed
  after
  done (operations.Select c a b)

-- 'alloca' MemType After
abbrev pub alloca : Phrase Operation
alloca = do
  skip_word (codes "alloca")
  t ← mem_type nesting
  after_alloca
  done (operations.Alloca t)

-- ['volatile']
abbrev pub volatile : Phrase (Unit {0})
volatile = either (word (codes "volatile") ∷ []) (skip_word (codes "volatile")) (done tt)

-- 'load' ['volatile'] Scalar ',' 'ptr' Val After
abbrev pub load : Phrase Operation
load = do
  skip_word (codes "load")
  volatile
  t ← scalar_type
  skip_mark (codes ",")
  p ← pointer
  after
  done (operations.Load t p)

-- iN Val, an index: an Int is in the range of iN, and below 2^63 in size
abbrev pub index : Phrase Index
index = do
  w ← width
  v ← operand_where (fits_index w)
  done (record { width = w; value = v })

-- 'getelementptr' Flag* MemType ',' 'ptr' Val {',' iN Val} After
abbrev pub element_pointer : Phrase Operation
element_pointer = do
  skip_word (codes "getelementptr")
  flags
  t ← mem_type nesting
  skip_mark (codes ",")
  p ← pointer
  is ← items_and_after (integer_type ∷ []) index
  done (operations.GetElementPtr t p is)

-- ---- calls

-- 'void' | Type; in front of it attributes may stand, which the productions that use it read
abbrev pub result_type : Phrase (Option IrType)
result_type = either (word (codes "void") ∷ []) (skip_word (codes "void") >> done None) (do
  t ← value_type
  done (Some t))

-- the callee: `(`, which would begin a function's type, and a register are named as unsupported
abbrev pub callee : Phrase Name
callee = but (round ∷ a_local ∷ []) global_name

-- Type Attr* Val
abbrev pub argument : Phrase Typed
argument = do
  t ← value_type
  attributes
  v ← operand_in t
  done (record { kind = t; value = v })

-- ['tail'|'notail']
abbrev pub tail_mark : Phrase (Unit {0})
tail_mark = either (words (codes "tail" ∷ codes "notail" ∷ [])) (skip (words (codes "tail" ∷ codes "notail" ∷ []))) (done tt)

-- 'call' Attr* Ret Global '(' [Type Attr* Val {',' Type Attr* Val}] ')' Tail After
abbrev pub call_at : Phrase (ℕ × Operation)
call_at = do
  at ← place_of (codes "call")
  attributes
  r ← result_type
  f ← callee
  skip_mark (codes "(")
  args ← listed (codes ")") argument
  tail
  after
  done (at, operations.Call r f args)

abbrev pub call_words : List Class
call_words = words (codes "tail" ∷ codes "notail" ∷ codes "call" ∷ [])

-- ['tail'|'notail'] 'call' ..
unfoldable pub call : Phrase Operation
call = do
  tail_mark
  c ← call_at
  done c.1

-- ---- instructions

-- what may stand behind `Local =`, but a phi
unfoldable pub operation : Phrase Operation
operation =
    either (heads binary_rows) binary
    (either (word (codes "icmp") ∷ []) compare
    (either (heads cast_rows) cast
    (either (word (codes "select") ∷ []) select
    (either (word (codes "alloca") ∷ []) alloca
    (either (word (codes "load") ∷ []) load
    (either (word (codes "getelementptr") ∷ []) element_pointer
    call))))))

-- 'store' ['volatile'] Scalar Val ',' 'ptr' Val After
unfoldable pub store : Phrase Instruction
store = do
  at ← place_of (codes "store")
  volatile
  t ← scalar_type
  v ← operand_in t
  skip_mark (codes ",")
  p ← pointer
  after
  done (record { at = at; result = None; operation = operations.Store t v p })

-- ['tail'|'notail'] 'call' .., without a register: its place is that of its first word
unfoldable pub call_alone : Phrase Instruction
call_alone =
    either (words (codes "tail" ∷ codes "notail" ∷ [])) (do
      at ← place (words (codes "tail" ∷ codes "notail" ∷ []))
      c ← call_at
      done (record { at = at; result = None; operation = c.1 })) (do
        c ← call_at
        done (record { at = c.0; result = None; operation = c.1 }))

-- '[' Val ',' Local ']'
abbrev pub incoming : IrType → Phrase Incoming
incoming t = do
  skip_mark (codes "[")
  v ← operand_in t
  skip_mark (codes ",")
  l ← local_name
  skip_mark (codes "]")
  done (record { value = v; label = l })

-- a phi, or an instruction
pub data Line : Type 0 where
  a_phi : Phi → Line
  an_instruction : Instruction → Line

-- 'phi' Type '[' Val ',' Local ']' {',' '[' Val ',' Local ']'} After
unfoldable pub phi : Name → Phrase Line
phi r = do
  skip_word (codes "phi")
  t ← value_type
  first ← incoming t
  others ← items_and_after (square ∷ []) (incoming t)
  done (a_phi (record { result = r; kind = t; incoming = first ∷ others }))

abbrev pub set : Name → Phrase Line
set r = do
  o ← operation
  done (an_instruction (record { at = r.at; result = Some r; operation = o }))

-- Local '=' and what may stand behind it: a phi only where phis may still stand
abbrev pub named_line : Bool → Phrase Line
named_line true = do
  r ← local_name
  skip_mark (codes "=")
  either (word (codes "phi") ∷ []) (phi r) (set r)
named_line false = do
  r ← local_name
  skip_mark (codes "=")
  set r

abbrev pub plain_line : Phrase Line
plain_line = do
  i ← either (word (codes "store") ∷ []) store call_alone
  done (an_instruction i)

unfoldable pub line : Bool → Phrase Line
line phis = either (a_local ∷ []) (named_line phis) plain_line

-- phis may stand only before the other instructions
abbrev pub phis_after : Bool → Line → Bool
phis_after phis (a_phi p) = phis
phis_after phis (an_instruction i) = false

abbrev pub line_starts : List Class
line_starts = a_local ∷ words (codes "store" ∷ codes "tail" ∷ codes "notail" ∷ codes "call" ∷ [])

-- Phi* Instr*
abbrev pub lines : Phrase (List Line)
lines = many_from line_starts line phis_after true

abbrev pub phis_of : List Line → List Phi
phis_of [] = []
phis_of (a_phi p ∷ ls) = p ∷ phis_of ls
phis_of (an_instruction i ∷ ls) = phis_of ls

abbrev pub instructions_of : List Line → List Instruction
instructions_of [] = []
instructions_of (a_phi p ∷ ls) = instructions_of ls
instructions_of (an_instruction i ∷ ls) = i ∷ instructions_of ls

-- ---- terminators

-- 'ret' ('void' | Type Val) After
abbrev pub return_term : Phrase Terminator
return_term = do
  at ← place_of (codes "ret")
  v ← either (word (codes "void") ∷ []) (skip_word (codes "void") >> done None) (do
    v ← typed
    done (Some v))
  after
  done (record { at = at; form = terminators.Return v })

-- 'label' Local
abbrev pub target : Phrase Name
target = do
  skip_word (codes "label")
  local_name

-- 'label' Local After
abbrev pub jump : ℕ → Phrase Terminator
jump at = do
  to ← target
  after
  done (record { at = at; form = terminators.Jump to })

-- 'i1' Val ',' 'label' Local ',' 'label' Local After
abbrev pub branch : ℕ → Phrase Terminator
branch at = do
  skip_word (codes "i1")
  c ← operand 1
  skip_mark (codes ",")
  if_true ← target
  skip_mark (codes ",")
  if_false ← target
  after
  done (record { at = at; form = terminators.Branch c if_true if_false })

-- 'br' ..
abbrev pub branch_term : Phrase Terminator
branch_term = do
  at ← place_of (codes "br")
  either (word (codes "label") ∷ []) (jump at) (branch at)

-- an Int in a range, and its byte
abbrev pub placed_int : (Integer → Bool) → Phrase (Integer × ℕ)
placed_int fits = one (placed fits (λ n at. (n, at)))

-- iN Int ',' 'label' Local
abbrev pub case : Phrase Case
case = do
  w ← width
  n ← placed_int (fits_width w)
  skip_mark (codes ",")
  l ← target
  done (record { width = w; value = n.0; at = n.1; label = l })

-- 'switch' iN Val ',' 'label' Local '[' {iN Int ',' 'label' Local} ']' After
abbrev pub switch_term : Phrase Terminator
switch_term = do
  at ← place_of (codes "switch")
  w ← width
  v ← operand w
  skip_mark (codes ",")
  d ← target
  skip_mark (codes "[")
  cs ← many (integer_type ∷ []) case
  skip_mark (codes "]")
  after
  done (record { at = at; form = terminators.Switch w v d cs })

-- 'unreachable' After
abbrev pub unreachable_term : Phrase Terminator
unreachable_term = do
  at ← place_of (codes "unreachable")
  after
  done (record { at = at; form = terminators.Unreachable })

unfoldable pub terminator : Phrase Terminator
terminator =
    either (word (codes "ret") ∷ []) return_term
    (either (word (codes "br") ∷ []) branch_term
    (either (word (codes "switch") ∷ []) switch_term
    unreachable_term))

-- ---- blocks

abbrev pub label : Phrase (Option Name)
label = either (a_label ∷ []) (do
  n ← label_name
  done (Some n)) (done None)

-- Block := [Label] Phi* Instr* Term
unfoldable pub block : Phrase Block
block = do
  l ← label
  ls ← lines
  t ← terminator
  done (record { label = l; phis = phis_of ls; instructions = instructions_of ls; terminator = t })

abbrev pub block_starts : List Class
block_starts = a_label ∷ line_starts ++ words (codes "ret" ∷ codes "br" ∷ codes "switch" ∷ codes "unreachable" ∷ [])
