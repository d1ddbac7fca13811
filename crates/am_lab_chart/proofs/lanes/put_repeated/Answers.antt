use Rattle.std.proofs.Common.{map, refl}
use Rattle.am_office_text.specs.Pieces.{word_of}
use Rattle.am_lab_chart.proofs.Again.{again_more}
use Rattle.am_lab_chart.proofs.lanes.put_repeated.Goals as goal

pub loop-page-preserved : goal.loop-page-preserved
loop-page-preserved c =
    again_more c.args.x (map word_of c.args.told.now) (map word_of c.args.words.now) c.loop-page.page _ c.args.out.now.items c.loop-page.out.items
    c.put_head.new.out.items c.loop-page.invariant c.in_ok-put_head.ensures refl
