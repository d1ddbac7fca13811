-- The answer of `step` to a text is the one that is computed.
use Rattle.std.specs.Prelude.{slice_get, Result, Ok, Err}
use Rattle.std.proofs.Common.{◌≡◌, ◌↔◌, ℕ, List, length, Option, Some, None, refl, sym, ap, ◌∙◌, subst, inl, inr, arith}
use Rattle.std.proofs.lemmas.List.{length-map, take_all}
use Rattle.am_office_entries.specs.declared.Entry.{Entry}
use Rattle.am_office_entries.specs.declared.Event.{Event}
use Rattle.am_office_report.specs.Report.{report}
use Rattle.am_scenario.specs.Grammar.{grammar}
use Rattle.am_scenario.proofs.Lawfully.{spells_lawful}
use Rattle.am_scenario_types.specs.Lawful.{IsLawful}
use Rattle.am_scenario_types.specs.Lists.{ScenarioLists}
use Rattle.am_scenario_types.specs.declared.faults.ScenarioFault.{ScenarioFault}
use Rattle.am_scenario_types.specs.declared.parts.Form.TheVariants as Forms
use Rattle.am_model_scripts.specs.Layout.{layout_of, events_of}
use Rattle.am_model.specs.Steps.{Made, Stop, NotEnabled, LogFull, made}
use Rattle.am_model_scripts.specs.Steps.Laws.{StopsAt}
use Rattle.am_model_scripts.proofs.StepMakers.{made_alone}
use Rattle.am_main_lines.specs.Lines.{Answer, full_line, ids_of}
use Rattle.am_main_step.specs.Answer.{answer_of, answer_of_made, answer_of_stop, line_at, not_enabled_line}
use Rattle.am_main_step.specs.Meaning.{IsStepStopped, PrintsHistory, StepAnswers, StepHasOneAnswer}
use Rattle.am_main_step.proofs.Made.{is_stopped, prints_history}

-- the history that an answer tells is what the steps make
whole_made : (s : ScenarioLists) (text : List ℕ) (p : PrintsHistory s text) → made (layout_of s) (events_of s.steps) ≡ record {
  journal = p.journal;
  stopped = None;
}
whole_made s text p =
    let events : List Event = events_of s.steps in
    let long : length p.journal ≡ length events = sym (length-map p.journal (λ (x : Entry). x.event)) ∙ ap length p.follows.in_order in
    sym (made_alone (layout_of s) events (record { journal = p.journal; stopped = None }) (record {
      history = p.history;
      follows = record { in_order = p.follows.in_order ∙ sym (take_all (length p.journal) events (omega (arith, long))); stamped = p.follows.stamped };
      unstopped = p.unstopped;
      whole = λ e. long;
      stopped = λ why e. absurd (cc);
    }))

-- and so are the steps before one that is stopped
stopped_made : (s : ScenarioLists) (why : Stop) (p : IsStepStopped s why) → made (layout_of s) (events_of s.steps) ≡ record {
  journal = p.journal;
  stopped = Some why;
}
stopped_made s why p =
    let next : Option Event = slice_get (events_of s.steps) (length p.journal) in
    sym (made_alone (layout_of s) (events_of s.steps) (record { journal = p.journal; stopped = Some why }) (record {
      history = p.history;
      follows = p.follows;
      unstopped = p.unstopped;
      whole = λ e. absurd (cc);
      stopped = λ other e. let same : why ≡ other = cc in subst (λ (w : Stop). StopsAt (layout_of s) p.journal next w) same p.stops;
    }))

answer_is : (answer : Answer) (status : ℕ) (text : List ℕ) → answer.status ≡ status → answer.text ≡ text → answer ≡ record { status = status; text = text }
answer_is answer status text is tells = λ i. record { status = is i; text = tells i }

is_computed : (read : Result ScenarioLists ScenarioFault) (answer : Answer) → StepAnswers read answer → answer ≡ answer_of read
is_computed (Ok s) answer (inl (zero', p)) =
    answer_is answer 0 (report (ids_of s.ends) p.journal) zero' p.text' ∙ sym (ap (answer_of_made s) (whole_made s answer.text p))
is_computed (Ok s) answer (inr (inl (three, t))) =
    answer_is answer 3 (not_enabled_line (line_at s.steps (length t.stops.journal)) t.condition) three t.text'
    ∙ sym (ap (answer_of_made s) (stopped_made s (NotEnabled t.condition) t.stops))
is_computed (Ok s) answer (inr (inr (six, t))) =
    answer_is answer 6 (full_line t.part) six t.text' ∙ sym (ap (answer_of_made s) (stopped_made s (LogFull t.part) t.stops))
is_computed (Err fault) answer is = is

computed_means : (s : ScenarioLists) → IsLawful s → (answer : Answer) → answer ≡ answer_of (Ok s) → StepAnswers (Ok s) answer
computed_means s lawful answer is = subst (λ (a : Answer). StepAnswers (Ok s) a) (sym is) (by_stop m.stopped refl)
  where
    m : Made
    m = made (layout_of s) (events_of s.steps)

    by_stop : (stopped : Option Stop) → m.stopped ≡ stopped → StepAnswers (Ok s) (answer_of_stop s m.journal stopped)
    by_stop None e =
        inl (
          refl,
          prints_history s m.journal (report (ids_of s.ends) m.journal) lawful (λ i. record { journal = m.journal; stopped = e i }) refl,
        )
    by_stop (Some (NotEnabled condition)) e =
        inr (inl (refl, record { condition = condition; stops = is_stopped s (NotEnabled condition) lawful e; text' = refl }))
    by_stop (Some (LogFull part)) e = inr (inr (refl, record { part = part; stops = is_stopped s (LogFull part) lawful e; text' = refl }))

pub one_answer : StepHasOneAnswer
one_answer bytes answer = by_read (grammar Forms.Step bytes) refl
  where
    by_read : (read : Result ScenarioLists ScenarioFault) → grammar Forms.Step bytes ≡ read → StepAnswers read answer ↔ (answer ≡ answer_of read)
    by_read (Ok s) e = (is_computed (Ok s) answer, computed_means s (spells_lawful Forms.Step bytes s e).0 answer)
    by_read (Err fault) e = (is_computed (Err fault) answer, λ is. is)
