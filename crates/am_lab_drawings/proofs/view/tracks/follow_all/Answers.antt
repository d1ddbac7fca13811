use Rattle.std.proofs.Common.{◌+◌, refl}
use Rattle.am_lab_drawings.proofs.Passing.{all_passed, followed_here, keep_here}
use Rattle.am_lab_drawings.proofs.view.tracks.follow_all.Goals as goal

pub standing_of-standing-requires : goal.standing_of-standing-requires
standing_of-standing-requires c =
    keep_here c.args.cluster.now.layout c.args.cluster.now.journal c.args.line c.loop-index.index c.args.tracks.now c.loop-index.tracks c.end_at-end.result.now
    c.index-tracks-index.result c.standing-kept.result c.loop-index-test.true c.requires.count c.requires.keep c.loop-index.invariant
    c.end_at-end.ensures.setting c.end_at-end.ensures.state
    c.standing-kept.ensures

pub loop-index-preserved : goal.loop-index-preserved
loop-index-preserved c =
    followed_here c.args.cluster.now.layout c.args.cluster.now.journal c.args.line c.loop-index.index (c.loop-index.index + 1) c.args.tracks.now
    c.loop-index.tracks c.end_at-end.result.now
    c.index-tracks-index-in-loop-index.result c.follow.new.self c.standing_of-standing.result refl c.loop-index-test.true c.requires.count
    c.loop-index.invariant c.end_at-end.ensures.setting
    c.end_at-end.ensures.state c.standing_of-standing.ensures c.in_ok-follow.ensures

pub returns : goal.returns
returns c =
    all_passed c.args.cluster.now.layout c.args.cluster.now.journal c.args.line c.loop-index.index c.args.tracks.now c.loop-index.tracks c.loop-index-test.false
    c.requires.count c.loop-index.invariant
