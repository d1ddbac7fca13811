-- No two answers are those of one run without threads: the drain makes one journal, or is cut off in one way.
use Rattle.std.specs.Prelude.{Result, Ok, Err}
use Rattle.std.proofs.Common.{◌≡◌, inl, inr, ℕ, List, [], ◌++◌, sym, ap, ◌∙◌, subst}
use Rattle.am_office_entries.specs.declared.Entry.{Entry}
use Rattle.am_office_entries.specs.declared.Part.{Part}
use Rattle.am_office_report.specs.Report.{report}
use Rattle.am_scenario_types.specs.declared.faults.ScenarioFault.{ScenarioFault}
use Rattle.am_scenario_types.specs.Lists.{ScenarioLists}
use Rattle.am_model_drain.specs.Cut.{IsDrainCutOff}
use Rattle.am_model_drain.proofs.CutOff.{cut_is_determined}
use Rattle.am_cluster.specs.Runs.{IsRunCutOff}
use Rattle.am_main_lines.specs.Lines.{Answer, full_line, ids_of}
use Rattle.am_main_run.specs.Runs.{HasNoTurns, HaveOneAnswer, IsDrainedAlone, IsRunAnswer, IsRunOf, MakeAnswers, PrintsCutRun, PrintsRun, RunAnswers, Summarizes}
use Rattle.am_main_run.specs.Runs.{TellsCutRun, make_text}
use Rattle.am_scenario_generator.specs.Scenarios.{generated}

pub same_answer : (a b : Answer) (n : ℕ) → a.status ≡ n → b.status ≡ n → a.text ≡ b.text → a ≡ b
same_answer a b n one other text =
    let status = one ∙ sym other in
    λ i. record { status = status i; text = text i }

one_journal : (s : ScenarioLists) (one other : List Entry) → IsDrainedAlone s one → IsDrainedAlone s other → one ≡ other
one_journal s one other a b = b.only one a.drained.drained

never_both : {X : Type 0} (s : ScenarioLists) (one other : List Entry) (part : Part) → IsDrainedAlone s one → IsDrainCutOff s [] part other → X
never_both s one other part a b = absurd (cut_is_determined.or s [] other one part b a.drained)

-- ---- run, where there are no turns

pub cut_alone : (s : ScenarioLists) (part : Part) (journal : List Entry) → s.turns ≡ 0 → IsRunCutOff s part journal → IsDrainCutOff s [] part journal
cut_alone s part journal none c = subst (λ (phase : List Entry). IsDrainCutOff s phase part journal) (c.made.none none) c.cut

pub one_run : (s : ScenarioLists) (one other : List Entry) → s.turns ≡ 0 → IsRunOf s one → IsRunOf s other → one ≡ other
one_run s one other none a b = one_journal s one other (a.alone none) (b.alone none)

pub run_or_cut : {X : Type 0} (s : ScenarioLists) (one other : List Entry) (part : Part) → s.turns ≡ 0 → IsRunOf s one → IsRunCutOff s part other → X
run_or_cut s one other part none a b = never_both s one other part (a.alone none) (cut_alone s part other none b)

one_report : (s : ScenarioLists) (one other : List ℕ) → s.turns ≡ 0 → PrintsRun s one → PrintsRun s other → one ≡ other
one_report s one other none a b =
    a.text' ∙ ap (λ (j : List Entry). report (ids_of s.ends) j) (one_run s a.journal b.journal none a.run b.run) ∙ sym b.text'

pub one_cut_report : (s : ScenarioLists) (part here : Part) (one other : List ℕ) → s.turns ≡ 0 → PrintsCutRun s part one → PrintsCutRun s here other → one ≡ other
one_cut_report s part here one other none a b =
    let same = cut_is_determined.one s [] a.journal b.journal part here (cut_alone s part a.journal none a.cut) (cut_alone s here b.journal none b.cut) in
    a.text'
    ∙ ap (λ (p : Part). full_line p ++ report (ids_of s.ends) a.journal) same.0
    ∙ ap (λ (j : List Entry). full_line here ++ report (ids_of s.ends) j) same.1
    ∙ sym b.text'

report_or_cut : {X : Type 0} (s : ScenarioLists) (here : Part) (one other : List ℕ) → s.turns ≡ 0 → PrintsRun s one → PrintsCutRun s here other → X
report_or_cut s here one other none a b = run_or_cut s a.journal b.journal here none a.run b.cut

one_of_scenario : (s : ScenarioLists) (a b : Answer) → s.turns ≡ 0 → IsRunAnswer s a → IsRunAnswer s b → a ≡ b
one_of_scenario s a b none (inl (one, prints)) (inl (other, tells)) = same_answer a b 0 one other (one_report s a.text b.text none prints tells)
one_of_scenario s a b none (inl (one, prints)) (inr (other, (here, cut))) = report_or_cut s here a.text b.text none prints cut
one_of_scenario s a b none (inr (one, (part, cut))) (inl (other, tells)) = report_or_cut s part b.text a.text none tells cut
one_of_scenario s a b none (inr (one, (part, cut))) (inr (other, (here, ends))) =
    same_answer a b 6 one other (one_cut_report s part here a.text b.text none cut ends)

one_of_run : (read : Result ScenarioLists ScenarioFault) (a b : Answer) → HasNoTurns read → RunAnswers read a → RunAnswers read b → a ≡ b
one_of_run (Ok s) a b none one other = one_of_scenario s a b none one other
one_of_run (Err fault) a b none one other = one ∙ sym other

-- ---- make

one_summary : (n : ℕ) (one other : List ℕ) → Summarizes n one → Summarizes n other → one ≡ other
one_summary n one other a b = a.text' ∙ ap (λ (j : List Entry). make_text n 1744 j) (one_journal (generated n) a.journal b.journal a.alone b.alone)
    ∙ sym b.text'

one_cut : (n : ℕ) (part here : Part) (one other : List ℕ) → TellsCutRun n part one → TellsCutRun n here other → one ≡ other
one_cut n part here one other a b =
    let same = cut_is_determined.one (generated n) [] a.journal b.journal part here a.cut.cut b.cut.cut in
    a.text' ∙ ap full_line same.0 ∙ sym b.text'

one_of_make : (n : ℕ) (a b : Answer) → MakeAnswers n a → MakeAnswers n b → a ≡ b
one_of_make n a b (inl (one, made)) (inl (other, tells)) = same_answer a b 0 one other (one_summary n a.text b.text made tells)
one_of_make n a b (inl (one, made)) (inr (other, (here, cut))) = never_both (generated n) made.journal cut.journal here made.alone cut.cut.cut
one_of_make n a b (inr (one, (part, cut))) (inl (other, tells)) = never_both (generated n) tells.journal cut.journal part tells.alone cut.cut.cut
one_of_make n a b (inr (one, (part, cut))) (inr (other, (here, ends))) = same_answer a b 6 one other (one_cut n part here a.text b.text cut ends)

pub have_one_answer : HaveOneAnswer
have_one_answer = record { run = one_of_run; make = one_of_make }
