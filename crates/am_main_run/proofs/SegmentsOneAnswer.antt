-- No two answers are those of one run without threads, since there is one such run, or it is cut off in one way.
use Rattle.std.specs.Prelude.{Result, Ok, Err}
use Rattle.std.proofs.Common.{◌≡◌, inl, inr, ℕ, List, ◌++◌, sym, ap, ◌∙◌}
use Rattle.am_office_entries.specs.declared.Entry.{Entry}
use Rattle.am_office_report.specs.Report.{report}
use Rattle.am_scenario_types.specs.declared.faults.ScenarioFault.{ScenarioFault}
use Rattle.am_segment.specs.declared.scenario.SegmentScenario.{SegmentScenario}
use Rattle.am_segment.specs.Printed.{segments_text}
use Rattle.am_main_lines.specs.Lines.{Answer, ids_of}
use Rattle.am_main_run.proofs.OneAnswer.{one_cut_report, one_run, run_or_cut, same_answer}
use Rattle.am_main_run.specs.Segments.Segments.{HasNoTurns, IsSegmentsAnswer, PrintsSegments, SegmentsAnswers, SegmentsHaveOneAnswer}

one_text : (s : SegmentScenario) (one other : List ℕ) → s.scenario.turns ≡ 0 → PrintsSegments s one → PrintsSegments s other → one ≡ other
one_text s one other none a b =
    a.text'
    ∙ ap (λ (j : List Entry). report (ids_of s.scenario.ends) j ++ segments_text s.expanded j) (one_run s.scenario a.journal b.journal none a.run b.run)
    ∙ sym b.text'

one_of_scenario : (s : SegmentScenario) (a b : Answer) → s.scenario.turns ≡ 0 → IsSegmentsAnswer s a → IsSegmentsAnswer s b → a ≡ b
one_of_scenario s a b none (inl (one, prints)) (inl (other, tells)) = same_answer a b 0 one other (one_text s a.text b.text none prints tells)
one_of_scenario s a b none (inl (one, prints)) (inr (other, (here, cut))) = run_or_cut s.scenario prints.journal cut.journal here none prints.run cut.cut
one_of_scenario s a b none (inr (one, (part, cut))) (inl (other, tells)) = run_or_cut s.scenario tells.journal cut.journal part none tells.run cut.cut
one_of_scenario s a b none (inr (one, (part, cut))) (inr (other, (here, ends))) =
    same_answer a b 6 one other (one_cut_report s.scenario part here a.text b.text none cut ends)

one_of_segments : (read : Result SegmentScenario ScenarioFault) (a b : Answer) → HasNoTurns read → SegmentsAnswers read a → SegmentsAnswers read b → a ≡ b
one_of_segments (Ok s) a b none one other = one_of_scenario s a b none one other
one_of_segments (Err fault) a b none one other = one ∙ sym other

pub segments_have_one_answer : SegmentsHaveOneAnswer
segments_have_one_answer = one_of_segments
