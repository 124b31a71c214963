use Rattle.std.proofs.Common.{refl}
use Rattle.std.proofs.lemmas.Result.{on_ok_weaker}
use Rattle.ir_tree.proofs.Writing.{put_parts}
use Rattle.ir_tree.proofs.printing.page.Page.put_string.Goals as goal

pub returns : goal.returns
returns c = on_ok_weaker c.extend_quoted.result (λ e. put_parts c.args.self.now c.begin_token.new.self c.extend_quoted.new.self 99 _ c.in_ok-begin_token.ensures e refl refl) c.extend_quoted.ensures
