use Rattle.std.proofs.Common.{◌≡◌, ◌∷◌, List, sym, ap, ◌∙◌}
use Rattle.am_model_drain.specs.Made.{next_entry}
use Rattle.am_check_lines.specs.Reading.{event_of}
use Rattle.am_model.specs.Layout.{Layout}
use Rattle.am_office_entries.specs.declared.Entry.{Entry}
use Rattle.am_office_entries.specs.declared.Event.{Event}
use Rattle.am_model_scripts.specs.Layout.{layout_of}
use Rattle.am_lab_reasons.specs.Due.Due.{DueEntry}
use Rattle.am_lab_reasons.specs.Due.Texts.{due_entry}
use Rattle.am_lab_reasons.proofs.StoppedDue.{lines_at, one_event, place_at, range_at, text_told}
use Rattle.am_lab_reasons.proofs.due.told.due_entry.Goals as goal

pub reach-requires-clause-place : goal.reach-requires-clause-place
reach-requires-clause-place c =
    let h = c.requires.event.1 in
    let t = h.tells in
    place_at c.requires.event.0 c.args.scenario.now c.requires.lawful c.args.bytes.now c.args.line h.journal (t.line ∷ t.left) t.at
    c.in_ok-cluster.cluster.layout c.in_ok-cluster.ensures.layout

pub apply-requires : goal.apply-requires
apply-requires c =
    let s = c.args.scenario.now in
    let h = c.requires.event.1 in
    let t = h.tells in
    let are = lines_at c.requires.event.0 s c.requires.lawful c.args.bytes.now c.args.line h.journal (t.line ∷ t.left) t.at c.in_ok-cluster.cluster.layout
    c.in_ok-cluster.ensures.layout in
    let got = c.in_ok-lines.ensures.reached h.journal (t.line ∷ t.left) are t.at.number' in
    let same = one_event c.in-Some.event h.event (event_of t.line) (c.in-Some.ensures t.line t.left got.1) t.told in
    record {
      in_range = range_at c.reach.new.cluster.layout (layout_of s) c.in-Some.event h.event (c.in_ok-lines.ensures.layout
          ∙ c.in_ok-cluster.ensures.layout) same t.in_range;
    }

pub returns-in-Ok : goal.returns-in-Ok
returns-in-Ok c = λ form h.
    let s = c.args.scenario.now in
    let t = h.tells in
    let are = lines_at form s c.requires.lawful c.args.bytes.now c.args.line h.journal (t.line ∷ t.left) t.at c.in_ok-cluster.cluster.layout
    c.in_ok-cluster.ensures.layout in
    let got = c.in_ok-lines.ensures.reached h.journal (t.line ∷ t.left) are t.at.number' in
    let same = one_event c.in-Some.event h.event (event_of t.line) (c.in-Some.ensures t.line t.left got.1) t.told in
    let layout = c.in_ok-lines.ensures.layout ∙ c.in_ok-cluster.ensures.layout in
    let made : c.in-Ok.entry ≡ next_entry (layout_of s) h.journal h.event =
    c.in-Ok.ensures.1
    ∙ ap (λ (l : Layout). next_entry l c.reach.new.cluster.journal c.in-Some.event) layout
    ∙ ap (λ (j : List Entry). next_entry (layout_of s) j c.in-Some.event) got.0
    ∙ ap (λ (e : Event). next_entry (layout_of s) h.journal e) (sym same) in
    text_told c.entry_text.result (due_entry c.in-Ok.entry) (DueEntry form s c.args.bytes.now c.args.line)
    (λ out p. record { journal = h.journal; event = h.event; tells = t; text = p ∙ ap due_entry made })
    c.entry_text.ensures
