use Rattle.std.proofs.Common.{◌+◌, refl}
use Rattle.am_lab_picture.specs.declared.data.Residency.TheVariants.{Disk}
use Rattle.am_lab_drawings.proofs.Passing.{keeps_at_opening, opened_next}
use Rattle.am_lab_drawings.proofs.view.tracks.opening_tracks.Goals as goal

pub standing_of-standing-requires : goal.standing_of-standing-requires
standing_of-standing-requires c =
    keeps_at_opening c.args.cluster.now.layout c.args.cluster.now.journal c.end_at-end.result.now (record {
      residency = Disk;
      records = 0;
      received = 0;
    }) c.requires.fresh c.end_at-end.ensures.state
    refl refl

pub loop-index-preserved : goal.loop-index-preserved
loop-index-preserved c =
    opened_next c.args.cluster.now.layout c.args.cluster.now.journal c.args.line c.loop-index.index (c.loop-index.index + 1) c.end_at-end.result.now
    c.standing_of-standing.result c.new-track.result c.loop-index.tracks.items c.push.new.self.items c.requires.fresh refl c.end_at-end.ensures.setting
    c.end_at-end.ensures.state
    c.standing_of-standing.ensures c.new-track.ensures c.loop-index.invariant c.in_ok-push.ensures.items
