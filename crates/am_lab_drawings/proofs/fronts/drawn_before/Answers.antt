use Rattle.std.proofs.Common.{◌≡◌, Result, Ok, Err, ℕ, List}
use Rattle.std.specs.Prelude.{IfOk}
use Rattle.am_check.specs.declared.faults.CheckWhat.{CheckWhat}
use Rattle.am_lab_reasons.specs.Before.{IsFrontOf}
use Rattle.am_lab_drawings.specs.Fronts.{DrawsFront, front_drawing, whole_picture}
use Rattle.am_lab_drawings.proofs.fronts.drawn_before.Goals as goal
use Rattle.am_main_lines.specs.Lines.{Answer, answer_in}
use Rattle.am_main_lines.specs.declared.outputs.Output.{Output}
use Rattle.am_office_entries.specs.declared.Entry.{Entry}
use Rattle.am_scenario_types.specs.Lists.{ScenarioLists}
use Rattle.am_scenario_types.specs.declared.parts.Form.{Form}

drawn : {E : Type 0} (form : Form) (words bytes : List ℕ) (number : ℕ) (what : CheckWhat) (checked : Answer) (s : ScenarioLists) (journal : List Entry)
    (r : Result Output E) → IsFrontOf form bytes number what s journal →
    IfOk r (λ (o : Output). answer_in o ≡ front_drawing words number checked (whole_picture s journal)) →
    IfOk r (λ (o : Output). DrawsFront form words bytes number what checked (answer_in o))
drawn form words bytes number what checked s journal (Ok o) front is = record { scenario = s; journal = journal; front = front; answer' = is }
drawn form words bytes number what checked s journal (Err e) front is = tt

pub returns : goal.returns
returns c =
    let a = c.args in
    let front = c.in_ok-front.front in
    drawn a.form a.words.now a.bytes.now a.line a.what (answer_in a.checked.now) front.scenario front.journal c.front_drawn.result c.in_ok-front.ensures.front
    c.front_drawn.ensures
