use Rattle.std.proofs.Common.{arith}
use Rattle.am_office_report.specs.Tables.{accepted_state}
use Rattle.am_office_report.proofs.Flat.{table_accepted_ok}
use Rattle.am_office_report.proofs.messages.MessageTable.accept.Goals as goal

pub returns : goal.returns
returns c =
    table_accepted_ok c.accept.result c.self.inside.sources.items c.args.self.now c.from.result c.index_mut.result.now c.index_mut.result.now c.accept.new.self
    c.args.serial (accepted_state c.args.kind) c.self.view_is c.from.ensures (omega arith) c.index_mut.ensures.value c.accept.ensures
