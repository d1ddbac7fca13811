use Rattle.std.proofs.Common.{sym}
use Rattle.am_translate.proofs.Translate.take_credit.Goals as goal

pub take-requires-clause-free : goal.take-requires-clause-free
take-requires-clause-free c = sym c.in-Ok.ensures.fault
