use Rattle.std.proofs.Common.{◌≡◌, ◌∷◌, List, refl, sym, ap, ◌∙◌}
use Rattle.am_check_lines.specs.Reading.{event_of}
use Rattle.am_office_entries.specs.declared.Entry.{Entry}
use Rattle.am_office_entries.specs.declared.Event.{Event}
use Rattle.am_model_scripts.specs.Layout.{layout_of}
use Rattle.am_lab_reasons.specs.Due.Due.{FoundState}
use Rattle.am_lab_reasons.specs.Due.Found.{found}
use Rattle.am_lab_reasons.proofs.StoppedDue.{lines_at, one_event, place_at, range_at, text_told}
use Rattle.am_lab_reasons.proofs.due.told.found_state.Goals as goal

pub reach-requires-clause-place : goal.reach-requires-clause-place
reach-requires-clause-place c =
    let h = c.requires.event.1 in
    let t = h.tells in
    place_at c.requires.event.0 c.args.scenario.now c.requires.lawful c.args.bytes.now c.args.line h.journal (t.line ∷ t.left) t.at
    c.in_ok-cluster.cluster.layout c.in_ok-cluster.ensures.layout

pub found_text-requires-clause-in_range : goal.found_text-requires-clause-in_range
found_text-requires-clause-in_range c =
    let s = c.args.scenario.now in
    let h = c.requires.event.1 in
    let t = h.tells in
    let are = lines_at c.requires.event.0 s c.requires.lawful c.args.bytes.now c.args.line h.journal (t.line ∷ t.left) t.at c.in_ok-cluster.cluster.layout
    c.in_ok-cluster.ensures.layout in
    let got = c.in_ok-lines.ensures.reached h.journal (t.line ∷ t.left) are t.at.number' in
    let same = one_event c.in-Some.event h.event (event_of t.line) (c.in-Some.ensures t.line t.left got.1) t.told in
    range_at (layout_of s) (layout_of s) c.in-Some.event h.event refl same t.in_range

pub returns : goal.returns
returns c = λ form h.
    let s = c.args.scenario.now in
    let t = h.tells in
    let are = lines_at form s c.requires.lawful c.args.bytes.now c.args.line h.journal (t.line ∷ t.left) t.at c.in_ok-cluster.cluster.layout
    c.in_ok-cluster.ensures.layout in
    let got = c.in_ok-lines.ensures.reached h.journal (t.line ∷ t.left) are t.at.number' in
    let same = one_event c.in-Some.event h.event (event_of t.line) (c.in-Some.ensures t.line t.left got.1) t.told in
    let is : found (layout_of s) c.reach.new.cluster.journal c.in-Some.event c.args.condition ≡ found (layout_of s) h.journal h.event c.args.condition =
    ap (λ (j : List Entry). found (layout_of s) j c.in-Some.event c.args.condition) got.0
    ∙ ap (λ (e : Event). found (layout_of s) h.journal e c.args.condition) (sym same) in
    text_told c.found_text.result (found (layout_of s) c.reach.new.cluster.journal c.in-Some.event c.args.condition)
    (FoundState form s c.args.bytes.now c.args.line c.args.condition)
    (λ out p. record { journal = h.journal; event = h.event; tells = t; text = p ∙ is })
    c.found_text.ensures
