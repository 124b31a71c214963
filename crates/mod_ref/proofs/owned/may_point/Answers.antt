use Rattle.std.proofs.Common.{ap}
use Rattle.points_to.specs.Asked.{holder_in}
use Rattle.mod_ref.proofs.OwnChanges.{reg_points, global_points, none_points}
use Rattle.mod_ref.proofs.owned.may_point.Goals as goal

pub returns-in-Reg : goal.returns-in-Reg
returns-in-Reg c =
    reg_points c.args.program.now c.args.sets.now c.args.from c.in-Reg.register c.args.pointer c.args.site c.of_reg.result.now c.has_site.result c.requires.sets c.requires.operand c.in-Reg.is
    c.of_reg.ensures c.has_site.ensures

pub returns-in-Global : goal.returns-in-Global
returns-in-Global c =
    global_points c.args.program.now c.requires.whole c.args.from c.in-Global.global c.in-Global.offset c.args.pointer c.args.site c.is_site.result c.in-Global.is c.is_site.ensures

pub returns-in-Int : goal.returns-in-Int
returns-in-Int c = none_points c.args.program.now c.requires.whole c.args.from c.args.pointer c.args.site (ap (holder_in c.args.from) c.in-Int.is)

pub returns-in-Null : goal.returns-in-Null
returns-in-Null c = none_points c.args.program.now c.requires.whole c.args.from c.args.pointer c.args.site (ap (holder_in c.args.from) c.in-Null.is)
