-- A text has one tree and one program, or one of the reasons why it is refused.
use Rattle.std.proofs.Common.{◌≡◌, ℕ, true, List, Option, Some, None, sym, ◌∙◌, ap, subst}
use Rattle.flat_ir.specs.declared.program.ProgramData.{ProgramData}
use Rattle.checks.specs.Errors.{IsChecked}
use Rattle.checks.proofs.Unique.{not_both}
use Rattle.ir_lexer.specs.declared.token.Token.{Token}
use Rattle.ir_lexer.proofs.Lexed.{has_one_list}
use Rattle.ir_tree.specs.declared.module.IrTree.{IrTree}
use Rattle.ir_grammar.specs.Laws.{IsModule}
use Rattle.ir_grammar.specs.Numbering.{numbered}
use Rattle.ir_grammar.specs.Tokens.{seen}
use Rattle.ir_grammar.proofs.Decided.{one_tree, never_both}
use Rattle.ir_reader.specs.declared.text.SyntaxError.{SyntaxError}
use Rattle.ir_reader.specs.declared.text.SyntaxError.TheVariants as syntax
use Rattle.ir_reader.specs.Reading.{IsReadAs, IsRefusedAt, Says}
use Rattle.ir_programs.specs.declared.refusals.Refusal.{Refusal}
use Rattle.ir_programs.specs.Answers.{Answer, Resolved, Refused, NoMain, answer}
use Rattle.ir_programs.specs.Readable.{is_readable}
use Rattle.readable_trees.proofs.Module.{trees_are_readable}
use Rattle.ir_resolve.specs.declared.error.ResolveError.{ResolveError}
use Rattle.ir_resolve.specs.declared.error.ResolveError.TheVariants as resolve
use Rattle.ir_resolve.specs.Resolving as resolving
use Rattle.refusal_lines.specs.Refusals.{misread_line, unresolved_line}
use Rattle.chop_top.specs.Accepted.{IsTextOf, Reads, HasOneProgram}
use Rattle.chop_top.specs.Refusals.{IsMisread, IsUnresolvedTree, IsUncheckedProgram, IsUnresolved, IsUnchecked, IsUnaccepted, misread, unresolved, unchecked}

none-some : {A : Type 0} (x : A) → None ≡ Some x → ⊥
none-some x e = cc

-- the tokens of a text are the same
same-tokens : (bytes : List ℕ) (tree : IrTree) (a b : List Token) → a ≡ b → IsModule tree (seen bytes a) → IsModule tree (seen bytes b)
same-tokens bytes tree a b e m = subst (λ ts. IsModule tree (seen bytes ts)) e m

pub same-tree : (bytes : List ℕ) (t u : IrTree) → IsReadAs bytes t → IsReadAs bytes u → t ≡ u
same-tree bytes t u a b =
    let tokens = has_one_list bytes a.tokens b.tokens a.lexed b.lexed in
    let spelled = one_tree (seen bytes b.tokens) a.spelled b.spelled (same-tokens bytes a.spelled a.tokens b.tokens tokens a.is_module) b.is_module in
    a.numbers ∙ (ap numbered spelled ∙ sym b.numbers)

resolved-same : (p q : ProgramData) → Resolved p ≡ Resolved q → p ≡ q
resolved-same p q e = cc

pub one-program : HasOneProgram
one-program bytes p q a b =
    let same = same-tree bytes a.0 b.0 a.1.read b.1.read in
    resolved-same p q (sym a.1.resolves ∙ (ap answer same ∙ b.1.resolves))

-- ---- a text that is accepted isn't refused

read-or-refused : (bytes : List ℕ) (t : IrTree) (at : ℕ) (what : Option (List ℕ)) → IsReadAs bytes t → IsRefusedAt bytes at what → ⊥
read-or-refused bytes t at what a r =
    let tokens = has_one_list bytes a.tokens r.tokens a.lexed r.lexed in
    never_both (seen bytes r.tokens) r.rest r.named a.spelled (same-tokens bytes a.spelled a.tokens r.tokens tokens a.is_module) r.is_refused

says-nothing : (bytes : List ℕ) (t : IrTree) (written : List ℕ) → IsReadAs bytes t → (e : SyntaxError) → Says bytes e → misread_line e ≡ Some written → ⊥
says-nothing bytes t written a (syntax.Syntax at) says line = read-or-refused bytes t at None a says
says-nothing bytes t written a (syntax.Unsupported at what) says line = read-or-refused bytes t at (Some what) a says
says-nothing bytes t written a syntax.Memory says line = none-some written line

answered-once : (o : Answer) (p : ProgramData) (r : Refusal) → o ≡ Resolved p → o ≡ Refused r → ⊥
answered-once o p r a b = let same : Resolved p ≡ Refused r = sym a ∙ b in cc

has-no-line : (t : IrTree) (p : ProgramData) (written : List ℕ) → answer t ≡ Resolved p → (e : ResolveError) → resolving.Says t e → unresolved_line e ≡ Some written → ⊥
has-no-line t p written a (resolve.UnknownName at) says line = answered-once (answer t) p _ a says
has-no-line t p written a (resolve.UnknownFunction at name) says line = answered-once (answer t) p _ a says.0
has-no-line t p written a (resolve.DuplicateName at) says line = answered-once (answer t) p _ a says
has-no-line t p written a (resolve.ReservedName at) says line = answered-once (answer t) p _ a says
has-no-line t p written a (resolve.ObjectTooLarge at) says line = answered-once (answer t) p _ a says
has-no-line t p written a (resolve.RecursiveType at) says line = answered-once (answer t) p _ a says
has-no-line t p written a (resolve.WrongNumber at) says line = answered-once (answer t) p _ a says
has-no-line t p written a (resolve.BadInitialiser at) says line = answered-once (answer t) p _ a says
has-no-line t p written a (resolve.FunctionValue at) says line = answered-once (answer t) p _ a says
has-no-line t p written a (resolve.MainParameters at) says line = answered-once (answer t) p _ a says
has-no-line t p written a resolve.NoMain says line = let same : Resolved p ≡ NoMain = sym a ∙ says in cc
has-no-line t p written a resolve.Memory says line = none-some written line

pub not-unaccepted : (bytes written : List ℕ) (p : ProgramData) → Reads bytes p → IsUnaccepted bytes written → ⊥
not-unaccepted bytes written p reads (misread m) = says-nothing bytes reads.0 written reads.1.read m.error m.says m.line
not-unaccepted bytes written p reads (unresolved u) =
    let same = same-tree bytes reads.0 u.tree reads.1.read u.read in
    has-no-line u.tree p written (subst (λ t. answer t ≡ Resolved p) same reads.1.resolves) u.unresolved.error u.unresolved.says u.unresolved.line
not-unaccepted bytes written p reads (unchecked u) =
    let same = same-tree bytes reads.0 u.tree reads.1.read u.read in
    let one = resolved-same p u.program (sym reads.1.resolves ∙ (ap answer same ∙ u.resolves)) in
    not_both u.program.funcs u.unchecked.error (subst (λ q. IsChecked q.funcs) one reads.1.checked) u.unchecked.first

-- a tree that was read is readable
pub read-is-readable : (bytes : List ℕ) (t : IrTree) → IsReadAs bytes t → is_readable t ≡ true
read-is-readable bytes t a = subst (λ u. is_readable u ≡ true) (sym a.numbers) (trees_are_readable a.spelled (seen bytes a.tokens) a.is_module)
