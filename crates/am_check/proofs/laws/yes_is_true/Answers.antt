use Rattle.am_check.specs.Exact.{IsChecked}
use Rattle.am_check.proofs.Returning.{begun_by}
use Rattle.am_check.proofs.Walking.{history_of, is_history}
use Rattle.am_check.specs.Laws.Laws.{IsTrueReport}
use Rattle.am_model_scripts.proofs.Lawful.{lawful_layout}
use Rattle.am_model_scripts.specs.Layout.{layout_of}
use Rattle.std.proofs.Common.{take}
use Rattle.am_check.proofs.laws.yes_is_true.Goals as goal

pub returns : goal.returns
returns c = λ form text. (
  λ (k : IsChecked form text).
      let s = k.scenario in
      let journal = k.report.journal in
      let lawful = (c.one_scenario_or_fault.ensures.lawful form (take k.place text) s k.spelled).0 in
      let history = history_of form s journal lawful k.report.begun k.report.ended in
      record {
        place = k.place;
        place' = k.place';
        scenario = s;
        spelled = k.spelled;
        journal = journal;
        history = history;
        laws = c.post_office.ensures (layout_of s) journal (lawful_layout s lawful) (is_history form s journal history);
        report' = k.report.text;
      },
  λ (t : IsTrueReport form text).
      let begun = begun_by form t.scenario t.journal t.history in
      record {
        place = t.place;
        place' = t.place';
        scenario = t.scenario;
        spelled = t.spelled;
        report = record { journal = t.journal; begun = begun.0; ended = begun.1; text = t.report' };
      },
)
