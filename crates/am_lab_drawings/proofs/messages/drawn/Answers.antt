use Rattle.std.proofs.Common.{length, ap, arith}
use Rattle.am_lab_picture.specs.Data.{PictureLists}
use Rattle.am_lab_drawings.proofs.messages.drawn.Goals as goal

pub chart-requires : goal.chart-requires
chart-requires c =
    record {
      rows = omega (arith, c.if-len.false, c.len-2.ensures, ap (λ (p : PictureLists). length p.rows) c.picture.view_is);
      order = c.requires.order;
      lanes = c.requires.lanes;
    }
