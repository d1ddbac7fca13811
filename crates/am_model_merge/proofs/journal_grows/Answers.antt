use Rattle.am_model_merge.proofs.Grown.{journal_grown, journal_kept}
use Rattle.am_model_merge.proofs.journal_grows.Goals as goal

pub returns-clause-touched : goal.returns-clause-touched
returns-clause-touched c = journal_grown

pub returns-clause-untouched : goal.returns-clause-untouched
returns-clause-untouched c = journal_kept
