use Rattle.am_library.proofs.Lawful.{all_run_where_they_lead}
use Rattle.am_library.proofs.laws.all_run_where_they_lead.Goals as goal

pub returns : goal.returns
returns c = all_run_where_they_lead
