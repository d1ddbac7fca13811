use Rattle.std.proofs.Common.{◌≡◌, ℕ, [], List, Result, Ok, Err, refl, sym, subst, ◌∙◌}
use Rattle.std.specs.Prelude.{IfOk}
use Rattle.am_cluster_scripted.specs.Scripted.{RunView}
use Rattle.am_model.specs.History.{EachAfter}
use Rattle.am_office_entries.specs.declared.Entry.{Entry}
use Rattle.am_scenario_types.specs.declared.parts.Form.TheVariants as Forms
use Rattle.am_model_scripts.specs.Layout.{layout_of}
use Rattle.am_lab_reasons.specs.Journal.Lines.{IsMadeAgain}
use Rattle.am_lab_reasons.specs.Due.Due.{StandsAt}
use Rattle.am_lab_reasons.proofs.StoppedDue.{lines_at}
use Rattle.am_lab_reasons.proofs.due.told.follow_line.Goals as goal

run_has : {E : Type 0} (r : Result RunView E) (P : List Entry → Type 0) (js : List Entry) → P js → IfOk r (λ (run : RunView). run.journal ≡ js) →
    IfOk r (λ (run : RunView). P run.journal)
run_has (Ok run) P js has is = subst P (sym is) has
run_has (Err x) P js has is = tt

pub journal_at-requires-clause-place : goal.journal_at-requires-clause-place
journal_at-requires-clause-place c = (Forms.Run, c.requires.place)

pub followed-requires-clause-again : goal.followed-requires-clause-again
followed-requires-clause-again c =
    let s = c.args.scenario.now in
    let h = c.requires.place in
    let plain = lines_at Forms.Run s c.requires.lawful c.args.bytes.now c.args.line h.journal h.left h.at (layout_of s) refl in
    let entries : c.deref.result.now ≡ h.journal = c.deref.ensures.value ∙ c.journal.view_is ∙ c.in_ok-journal.ensures Forms.Run h in
    subst (λ (js : List Entry). EachAfter (IsMadeAgain (layout_of s)) [] js) (sym entries) plain.each

pub returns-clause-at : goal.returns-clause-at
returns-clause-at c =
    let s = c.args.scenario.now in
    let h = c.requires.place in
    let entries : c.deref.result.now ≡ h.journal = c.deref.ensures.value ∙ c.journal.view_is ∙ c.in_ok-journal.ensures Forms.Run h in
    let Stands = λ (js : List Entry). (left : List (List ℕ)) × StandsAt Forms.Run s c.args.bytes.now c.args.line js left in
    run_has c.followed.result Stands c.deref.result.now (
      h.left,
      subst (λ (js : List Entry). StandsAt Forms.Run s c.args.bytes.now c.args.line js h.left)
          (sym entries) h.at,
    ) c.followed.ensures.journal
