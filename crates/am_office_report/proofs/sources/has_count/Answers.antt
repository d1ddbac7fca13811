use Rattle.std.proofs.Common.{arith, rules}
use Rattle.std.proofs.lemmas.Bool.{eqb-true, eqb-false}
use Rattle.am_office_report.proofs.Placing.{is_there, is_missing, past_end}
use Rattle.am_office_report.proofs.sources.has_count.Goals as goal

pub returns-then-place-rows : goal.returns-then-place-rows
returns-then-place-rows c = record {
  there = search rules;
  missing = λ is. past_end c.args.rows.now c.args.count c.args.place (omega arith);
}

pub returns : goal.returns
returns c = record {
  there = λ is. is_there c.args.rows.now c.args.count c.args.place (omega arith) (eqb-true _ _ is);
  missing = λ is. is_missing c.args.rows.now c.args.count c.args.place (eqb-false _ _ is);
}
