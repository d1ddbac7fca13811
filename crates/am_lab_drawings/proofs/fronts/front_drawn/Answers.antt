use Rattle.std.proofs.Common.{◌≡◌, Result, subst}
use Rattle.std.specs.Prelude.{IfOk}
use Rattle.am_lab_picture.specs.Data.{PictureLists}
use Rattle.am_lab_drawings.specs.Fronts.{front_drawing, whole_picture}
use Rattle.am_lab_drawings.specs.declared.view.parts.PictureFault.{PictureFault}
use Rattle.am_lab_drawings.proofs.Answering.{refused_front}
use Rattle.am_lab_drawings.proofs.Drawable.{drawable_whole, shown_only}
use Rattle.am_lab_drawings.proofs.fronts.front_drawn.Goals as goal
use Rattle.am_main_lines.specs.Lines.{answer_in}
use Rattle.am_main_lines.specs.declared.outputs.Output.{Output}

pub with_fault-requires : goal.with_fault-requires
with_fault-requires c =
    let s = c.args.front.scenario in
    let journal = c.args.front.journal in
    let p = c.in-Ok.picture in
    drawable_whole s journal p c.requires.lawful
    (shown_only c.picture_part.result (λ (r : Result PictureLists PictureFault). r ≡ whole_picture s journal) c.picture_part.ensures p c.in-Ok.is)

pub returns-in-Ok : goal.returns-in-Ok
returns-in-Ok c =
    let s = c.args.front.scenario in
    let journal = c.args.front.journal in
    let checked = answer_in c.args.checked.now in
    let shown = shown_only c.picture_part.result (λ (r : Result PictureLists PictureFault). r ≡ whole_picture s journal) c.picture_part.ensures c.in-Ok.picture c.in-Ok.is
    in
    subst
    (λ (r : Result PictureLists PictureFault).
    IfOk c.with_fault.result (λ (o : Output). answer_in o ≡ front_drawing c.args.words.now c.args.line checked r))
    shown c.with_fault.ensures

pub returns : goal.returns
returns c =
    let s = c.args.front.scenario in
    let journal = c.args.front.journal in
    refused_front c.in-Err.fault c.refused.result c.args.words.now c.args.line (answer_in c.args.checked.now) (whole_picture s journal) c.in-Err.ensures
    c.refused.ensures.told c.refused.ensures.starved
