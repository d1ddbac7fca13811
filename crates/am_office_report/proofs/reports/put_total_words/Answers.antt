use Rattle.am_office_report.proofs.reports.put_total_words.Goals as goal

pub returns-clause-ok : goal.returns-clause-ok
returns-clause-ok c = rw c.totals_of-totals.ensures at c.put_spaced.ensures.ok
