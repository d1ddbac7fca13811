use Rattle.std.proofs.Common.{arith}
use Rattle.am_office_report.proofs.Flat.{table_heard}
use Rattle.am_office_report.proofs.messages.MessageTable.learn.Goals as goal

pub returns : goal.returns
returns c =
    table_heard c.self.inside.sources.items c.args.self.now c.from.result c.index_mut.result.now c.index_mut.result.now c.learn.new.self c.args.serial
    c.args.news c.self.view_is c.from.ensures (omega arith) c.index_mut.ensures.value c.learn.ensures
