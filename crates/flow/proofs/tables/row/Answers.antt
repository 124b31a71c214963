use Rattle.std.proofs.Common.{◌≡◌, ◌∙◌, ◌++◌, ◌∷◌, [], List, map, ap, refl, sym}
use Rattle.std.proofs.lemmas.Result.{IfOk-weaker}
use Rattle.flat_ir.specs.declared.names.NodeId.{NodeId}
use Rattle.flat_ir.specs.declared.nodes.SwitchCase.{SwitchCase}
use Rattle.flow.specs.Paths.{row_of}
use Rattle.flow.proofs.tables.row.Goals as goal

switch_is : (cases : List SwitchCase) (default : NodeId) →
    map (λ (s : NodeId). s.0) (map (λ (k : SwitchCase). k.to) cases ++ default ∷ []) ≡ map (λ (k : SwitchCase). k.to.0) cases ++ default.0 ∷ []
switch_is [] default = refl
switch_is (k ∷ cases) default = ap (λ row. k.to.0 ∷ row) (switch_is cases default)

pub returns-in-Switch : goal.returns-in-Switch
returns-in-Switch c =
    let e : row_of c.args.node.now ≡ map (λ (k : SwitchCase). k.to.0) c.as_slice.result.now ++ c.in-Switch.default.0 ∷ [] =
    ap row_of c.in-Switch.is ∙ switch_is c.in-Switch.cases c.in-Switch.default
    ∙ ap (λ (cases : List SwitchCase). map (λ (k : SwitchCase). k.to.0) cases ++ c.in-Switch.default.0 ∷ []) (sym c.as_slice.ensures) in
    IfOk-weaker c.switch_row.result (λ row. row ≡ map (λ (k : SwitchCase). k.to.0) c.as_slice.result.now ++ c.in-Switch.default.0 ∷ []) (λ row. row ≡ row_of c.args.node.now)
    (λ row h. h ∙ sym e) c.switch_row.ensures
