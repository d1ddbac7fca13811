use Rattle.am_check.proofs.Returning.{begun_by}
use Rattle.am_check.proofs.Walking.{history_of}
use Rattle.am_check.proofs.laws.checked_journals_are_histories.Goals as goal

pub returns : goal.returns
returns c = λ form s journal lawful. (λ p. history_of form s journal lawful p.0 p.1, λ h. begun_by form s journal h)
