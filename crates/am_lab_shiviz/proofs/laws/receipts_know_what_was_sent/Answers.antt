use Rattle.am_lab_shiviz.proofs.Heard.{knows_what_it_hears}
use Rattle.am_lab_shiviz.proofs.Lines.{receipts_know}
use Rattle.am_lab_shiviz.proofs.laws.receipts_know_what_was_sent.Goals as goal

pub returns-clause-happenings : goal.returns-clause-happenings
returns-clause-happenings c = knows_what_it_hears

pub returns-clause-receipts : goal.returns-clause-receipts
returns-clause-receipts c = receipts_know
