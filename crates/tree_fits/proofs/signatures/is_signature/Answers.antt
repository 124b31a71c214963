use Rattle.std.proofs.Common.{◌≡◌, ◌∙◌, List, Option, Some, None, ap, sym}
use Rattle.std.specs.List.{filter, find}
use Rattle.std.specs.Option.{option_copied}
use Rattle.std.proofs.lemmas.Result.{IfOk-weaker}
use Rattle.flat_ir.specs.declared.program.Func.{Func}
use Rattle.ir_tree.specs.Texts.{same}
use Rattle.ir_tree.specs.declared.module.FunctionDefinition.{FunctionDefinition}
use Rattle.ir_programs.specs.Calls as spec
use Rattle.prelude.specs.Prelude.{functions}
use Rattle.prelude.specs.Primitives.{primitive_of}
use Rattle.tree_fits.proofs.Known.{is_named, first_defined, none_defined}
use Rattle.tree_fits.proofs.signatures.is_signature.Goals as goal

pub returns-in-Some : goal.returns-in-Some
returns-in-Some c =
    let name = c.args.name.now in
    let known = spec.known_signature (primitive_of name) (filter (λ (g : Func). same g.name name) functions) in
    let at : find (is_named name) c.args.tree.now.functions ≡ Some c.in-Some.function.now =
    ap (λ (fs : List FunctionDefinition). find (is_named name) fs) (sym c.as_slice.ensures) ∙ (sym c.defined.ensures ∙ ap option_copied c.in-Some.is) in
    IfOk-weaker c.is_header.result _ _
    (λ b e. e ∙ sym (ap (λ s. spec.is_signature c.args.params.now c.args.returned s) (first_defined name c.args.tree.now.functions c.in-Some.function.now known at))) c.is_header.ensures

pub returns-in-None : goal.returns-in-None
returns-in-None c =
    let name = c.args.name.now in
    let known = spec.known_signature (primitive_of name) (filter (λ (g : Func). same g.name name) functions) in
    let at : find (is_named name) c.args.tree.now.functions ≡ None =
    ap (λ (fs : List FunctionDefinition). find (is_named name) fs) (sym c.as_slice.ensures) ∙ (sym c.defined.ensures ∙ ap option_copied c.in-None.is) in
    IfOk-weaker c.is_known.result _ _
    (λ b e. e ∙ sym (ap (λ s. spec.is_signature c.args.params.now c.args.returned s) (none_defined name c.args.tree.now.functions known at))) c.is_known.ensures
