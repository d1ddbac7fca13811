use Rattle.std.proofs.Common.{◌≡◌, ℕ, [], List, length, sym, ap, ◌∙◌, subst, arith}
use Rattle.std.specs.Global.{Vec}
use Rattle.std.specs.Prelude.{IfOk}
use Rattle.am_model.specs.History.{EachAfter}
use Rattle.am_model_scripts.specs.Layout.{layout_of}
use Rattle.am_office_entries.specs.declared.Entry.{Entry}
use Rattle.am_lab_reasons.specs.Journal.Lines.{IsMadeAgain}
use Rattle.am_lab_reasons.proofs.Reported.{reported}
use Rattle.am_lab_state.specs.Changes.{changes}
use Rattle.am_lab_state.proofs.changes.changes_text.Goals as goal

pub entries_text-requires-clause-again : goal.entries_text-requires-clause-again
entries_text-requires-clause-again c =
    let s = c.args.scenario.now in
    let form = c.requires.report.0 in
    let r = c.requires.report.1 in
    let t = reported form s c.requires.lawful c.args.bytes.now c.requires.few r in
    let entries : c.deref.result.now ≡ r.journal = c.deref.ensures.value ∙ c.journal.view_is ∙ c.in_ok-journal.ensures.made form r in
    subst (λ (js : List Entry). EachAfter (IsMadeAgain (layout_of s)) [] js) (sym entries) t.are.each

pub entries_text-requires-clause-few : goal.entries_text-requires-clause-few
entries_text-requires-clause-few c =
    let s = c.args.scenario.now in
    let form = c.requires.report.0 in
    let r = c.requires.report.1 in
    let t = reported form s c.requires.lawful c.args.bytes.now c.requires.few r in
    let entries : c.deref.result.now ≡ r.journal = c.deref.ensures.value ∙ c.journal.view_is ∙ c.in_ok-journal.ensures.made form r in
    let long = ap (length {A = Entry}) entries in
    let low = t.low in
    let few = c.requires.few in
    omega (arith, long, low, few)

pub returns : goal.returns
returns c = λ form r.
    let s = c.args.scenario.now in
    let entries : c.deref.result.now ≡ r.journal = c.deref.ensures.value ∙ c.journal.view_is ∙ c.in_ok-journal.ensures.made form r in
    subst (λ (js : List Entry). IfOk c.entries_text.result (λ (text : Vec ℕ). text.items ≡ changes s js)) entries c.entries_text.ensures
