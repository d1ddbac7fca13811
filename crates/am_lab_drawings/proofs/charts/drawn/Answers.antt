use Rattle.std.proofs.Common.{◌≡◌, Result}
use Rattle.am_main_lines.specs.declared.outputs.Output.{Output}
use Rattle.am_main_lines.specs.Lines.{answer_in}
use Rattle.am_lab_picture.specs.Data.{PictureLists}
use Rattle.am_lab_drawings.specs.View.Pictures.{Shows}
use Rattle.am_lab_drawings.specs.declared.view.parts.PictureFault.{PictureFault}
use Rattle.am_lab_drawings.specs.Charts.{drawing_of}
use Rattle.am_lab_drawings.proofs.Drawable.{drawable, refusal_shown, shown_only}
use Rattle.am_lab_drawings.proofs.charts.drawn.Goals as goal

pub chart-requires : goal.chart-requires
chart-requires c =
    drawable c.one_scenario_or_fault.ensures.lawful c.args.form c.args.bytes.now c.args.part c.in-Ok.picture
    (shown_only c.picture.result (Shows c.args.form c.args.bytes.now c.args.part) c.picture.ensures c.in-Ok.picture c.in-Ok.is)

pub returns-in-Err : goal.returns-in-Err
returns-in-Err c =
    refusal_shown c.in-Err.fault c.refused.result (Shows c.args.form c.args.bytes.now c.args.part)
    (λ (o : Output) (shown : Result PictureLists PictureFault). answer_in o ≡ drawing_of c.args.bytes.now shown) c.in-Err.ensures c.refused.ensures.told
    c.refused.ensures.starved
