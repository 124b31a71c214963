use Rattle.std.proofs.Common.{refl}
use Rattle.std.proofs.lemmas.Result.{on_ok_weaker}
use Rattle.ir_tree.proofs.Writing.{put_parts}
use Rattle.ir_tree.proofs.printing.page.Page.put_width.Goals as goal

pub returns : goal.returns
returns c = on_ok_weaker c.extend_decimal.result (λ e. put_parts c.args.self.now c.begin_token.new.self c.extend_decimal.new.self 105 _ c.in_ok-begin_token.ensures e refl refl) c.extend_decimal.ensures
