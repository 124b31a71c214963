use Rattle.std.proofs.lemmas.Result.{on_ok_weaker}
use Rattle.ir_tree.specs.Printing.{phi_line}
use Rattle.ir_tree.proofs.Lines.{line_put}
use Rattle.ir_tree.proofs.printing.lines.PhiLined.put_line.Goals as goal

pub returns : goal.returns
returns c = on_ok_weaker c.end_line.result (λ e. line_put (phi_line c.args.self.now) c.args.page.now _ _ c.end_line.new.self c.in_ok-begin_line.ensures c.in_ok-put_phi.ensures e) c.end_line.ensures
