use Rattle.am_lab_chart.proofs.Faulted.{document_of, rows_of, titles_of}
use Rattle.am_lab_chart.proofs.before.chart_before.Goals as goal

pub returns-clause-formed : goal.returns-clause-formed
returns-clause-formed c = document_of c.args.picture.now c.args.line c.args.told.now c.text_of.result c.text_of.ensures

pub returns-clause-titles : goal.returns-clause-titles
returns-clause-titles c = titles_of c.args.picture.now c.args.line c.args.told.now c.text_of.result c.text_of.ensures

pub returns-clause-rows : goal.returns-clause-rows
returns-clause-rows c = rows_of c.args.picture.now c.args.line c.args.told.now c.text_of.result c.text_of.ensures
