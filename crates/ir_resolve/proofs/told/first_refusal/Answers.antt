use Rattle.ir_resolve.proofs.Ordering.{first_told}
use Rattle.ir_resolve.proofs.told.first_refusal.Goals as goal

pub returns : goal.returns
returns c =
    first_told c.args.tree.now c.mains_told.result (record {
      types = c.in_ok-types.types;
      values = c.in_ok-values.values;
      constants = c.constants_told-constants.result;
      functions = c.in_ok-functions.functions;
      names = c.in_ok-names.names;
      callees = c.in_ok-callees.callees;
      types_told = c.in_ok-types.ensures;
      values_told = c.in_ok-values.ensures;
      constants_told = c.constants_told-constants.ensures;
      functions_told = c.in_ok-functions.ensures;
      names_told = c.in_ok-names.ensures;
      callees_told = c.in_ok-callees.ensures;
      mains_told = c.mains_told.ensures;
    })
