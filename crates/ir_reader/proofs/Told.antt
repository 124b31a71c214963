-- What the answer says of the text decides what it is where the text is read or refused.
use Rattle.std.proofs.Common.{◌≡◌, ℕ, ◌≤◌, Bool, false, List, [], ◌∷◌, length, Option, Some, None, Result, Ok, Err, IfOk, IfErr, sym, ap, subst, ◌∙◌, arith}
use Rattle.ir_lexer.specs.declared.token.Token.{Token}
use Rattle.ir_lexer.proofs.Lexed.{has_one_list}
use Rattle.ir_tree.specs.declared.module.IrTree.{IrTree}
use Rattle.ir_lexer.specs.Lexing.{AreTokens}
use Rattle.phrases.specs.Piece.{Piece}
use Rattle.phrases.specs.Phrase.{got, refused}
use Rattle.phrases.specs.Reading.{to_the_end}
use Rattle.phrases.proofs.Wholes.{is_derived, is_refused}
use Rattle.ir_grammar.specs.Tokens.{seen}
use Rattle.ir_grammar.specs.Module.{module_text}
use Rattle.ir_grammar.specs.Laws.{IsModule, IsRefused}
use Rattle.ir_grammar.specs.Numbering.{numbered}
use Rattle.ir_grammar.proofs.ModuleExact.{module_exact}
use Rattle.ir_grammar.proofs.Decided.{one_tree, never_both, once}
use Rattle.ir_reader.specs.declared.text.SyntaxError.{SyntaxError}
use Rattle.ir_reader.specs.declared.text.SyntaxError.TheVariants as errors
use Rattle.ir_reader.specs.Refusing.{Tells, TellsOf}
use Rattle.ir_reader.specs.Reading.{IsReadAs, IsRefusedAt, place_of, unsupported_text, Says, IsTree, IsRefusal}

-- a text is read as one tree
same_tree : (bytes : List ℕ) (a b : IrTree) → IsReadAs bytes a → IsReadAs bytes b → a ≡ b
same_tree bytes a b p q =
    let tokens : p.tokens ≡ q.tokens = has_one_list bytes p.tokens q.tokens p.lexed q.lexed in
    let there : IsModule p.spelled (seen bytes q.tokens) = subst (λ ts. IsModule p.spelled (seen bytes ts)) tokens p.is_module in
    p.numbers ∙ ap numbered (one_tree (seen bytes q.tokens) p.spelled q.spelled there q.is_module) ∙ sym q.numbers

-- and then not refused
not_refused : (bytes : List ℕ) (tree : IrTree) (at : ℕ) (what : Option (List ℕ)) → IsReadAs bytes tree → IsRefusedAt bytes at what → ⊥
not_refused bytes tree at what p r =
    let tokens : p.tokens ≡ r.tokens = has_one_list bytes p.tokens r.tokens p.lexed r.lexed in
    let there : IsModule p.spelled (seen bytes r.tokens) = subst (λ ts. IsModule p.spelled (seen bytes ts)) tokens p.is_module in
    never_both (seen bytes r.tokens) r.rest r.named p.spelled there r.is_refused

-- it is refused at one place
same_refusal : (bytes : List ℕ) (at place : ℕ) (what text : Option (List ℕ)) → IsRefusedAt bytes at what → IsRefusedAt bytes place text → (at ≡ place) × (what ≡ text)
same_refusal bytes at place what text r s =
    let tokens : r.tokens ≡ s.tokens = has_one_list bytes r.tokens s.tokens r.lexed s.lexed in
    let there : IsRefused (seen bytes s.tokens) r.rest r.named = subst (λ ts. IsRefused (seen bytes ts) r.rest r.named) tokens r.is_refused in
    let same = once (seen bytes s.tokens) r.rest s.rest r.named s.named there s.is_refused in
    (r.place ∙ ap (place_of bytes) same.0 ∙ sym s.place, r.what ∙ ap (λ n. unsupported_text n r.rest) same.1 ∙ ap (unsupported_text s.named) same.0 ∙ sym s.what)

pub tree_told : (bytes : List ℕ) (r : Result IrTree SyntaxError) → IfOk r (λ tree. IsReadAs bytes tree) → IfErr r (λ e. Says bytes e) → (tree : IrTree) → IsReadAs bytes tree → IsTree tree r
tree_told bytes (Ok found) p q tree h = same_tree bytes found tree p h
tree_told bytes (Err (errors.Syntax at)) p q tree h = not_refused bytes tree at None h q
tree_told bytes (Err (errors.Unsupported at what)) p q tree h = not_refused bytes tree at (Some what) h q
tree_told bytes (Err errors.Memory) p q tree h = tt

pub refusal_told : (bytes : List ℕ) (r : Result IrTree SyntaxError) → IfOk r (λ tree. IsReadAs bytes tree) → IfErr r (λ e. Says bytes e) → (at : ℕ) (what : Option (List ℕ)) → IsRefusedAt bytes at what → IsRefusal at what r
refusal_told bytes (Ok found) p q at what h = not_refused bytes found at what p h
refusal_told bytes (Err (errors.Syntax place)) p q at what h = let same = same_refusal bytes place at None what q h in (same.0, sym same.1)
refusal_told bytes (Err (errors.Unsupported place text)) p q at what h = let same = same_refusal bytes place at (Some text) what q h in (same.0, sym same.1)
refusal_told bytes (Err errors.Memory) p q at what h = tt

-- ---- from what was read

pub read_whole : (ts rest : List Piece) (tree : IrTree) → module_text.reads ts ≡ got tree rest → length rest ≡ 0 → IsModule tree ts
read_whole ts [] tree e h = is_derived module_text _ _ _ _ module_exact ts tree [] (ap to_the_end e)
read_whole ts (t ∷ rest) tree e h = absurd (omega arith)

told_of : (bytes : List ℕ) (ts rest : List Piece) (named : Bool) (e : SyntaxError) → IsRefused ts rest named → Tells bytes named rest e → TellsOf bytes ts e
told_of bytes ts rest named (errors.Syntax at) r t = (rest, named, r, t)
told_of bytes ts rest named (errors.Unsupported at what) r t = (rest, named, r, t)
told_of bytes ts rest named errors.Memory r t = tt

pub trailing : (bytes : List ℕ) (ts rest : List Piece) (tree : IrTree) (e : SyntaxError) → module_text.reads ts ≡ got tree rest → 1 ≤ length rest → Tells bytes false rest e → TellsOf bytes ts e
trailing bytes ts [] tree e q h t = absurd (omega arith)
trailing bytes ts (p ∷ rest) tree e q h t = told_of bytes ts (p ∷ rest) false e (is_refused module_text _ _ _ _ module_exact ts false (p ∷ rest) (ap to_the_end q)) t

pub stopped : (bytes : List ℕ) (ts rest : List Piece) (named : Bool) (e : SyntaxError) → module_text.reads ts ≡ refused named rest → Tells bytes named rest e → TellsOf bytes ts e
stopped bytes ts rest named e q t = told_of bytes ts rest named e (is_refused module_text _ _ _ _ module_exact ts named rest (ap to_the_end q)) t

pub says : (bytes : List ℕ) (tokens : List Token) (e : SyntaxError) → AreTokens bytes tokens → TellsOf bytes (seen bytes tokens) e → Says bytes e
says bytes tokens (errors.Syntax at) lexed t = record { tokens = tokens; lexed = lexed; rest = t.0; named = t.1; is_refused = t.2; place = t.3.0; what = sym t.3.1 }
says bytes tokens (errors.Unsupported at what) lexed t = record { tokens = tokens; lexed = lexed; rest = t.0; named = t.1; is_refused = t.2; place = t.3.0; what = sym t.3.1 }
says bytes tokens errors.Memory lexed t = tt

pub read_as : (bytes : List ℕ) (tokens : List Token) (spelled tree : IrTree) → AreTokens bytes tokens → IsModule spelled (seen bytes tokens) → tree ≡ numbered spelled → IsReadAs bytes tree
read_as bytes tokens spelled tree lexed m e = record { tokens = tokens; lexed = lexed; spelled = spelled; is_module = m; numbers = e }
