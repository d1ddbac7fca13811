use Rattle.am_lab_picture.proofs.Shown as shown
use Rattle.am_lab_picture.proofs.laws.rows_are_entries.Goals as goal

pub returns-clause-entries : goal.returns-clause-entries
returns-clause-entries c = shown.rows_are_entries

pub returns-clause-fates : goal.returns-clause-fates
returns-clause-fates c = shown.rows_tell_fates
