use Rattle.std.proofs.Common.{refl}
use Rattle.std.proofs.lemmas.Result.{on_ok_weaker}
use Rattle.ir_tree.proofs.Writing.{put_parts}
use Rattle.ir_tree.proofs.printing.page.Page.put_local.Goals as goal

pub returns : goal.returns
returns c = on_ok_weaker c.extend_name.result (λ e. put_parts c.args.self.now c.begin_token.new.self c.extend_name.new.self 37 _ c.in_ok-begin_token.ensures e refl refl) c.extend_name.ensures
