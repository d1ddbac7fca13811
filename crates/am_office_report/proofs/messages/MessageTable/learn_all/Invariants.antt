use Rattle.std.proofs.Common.{◌≡◌, take}
use Rattle.am_office_report.specs.Tables.{messages_in, heard_all}
use Rattle.am_office_report.proofs.messages.MessageTable.learn_all.Given as goal

abbrev pub invariant-loop-serial : goal.invariant-loop-serial
invariant-loop-serial l = messages_in l.self ≡ heard_all (messages_in l.fn.self) (take l.serial-index l.news)
