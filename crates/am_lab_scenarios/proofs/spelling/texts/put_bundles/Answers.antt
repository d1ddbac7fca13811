use Rattle.am_lab_scenarios.specs.Spelling.Texts.{bundle_line}
use Rattle.am_lab_scenarios.proofs.Each.{line_more}
use Rattle.am_lab_scenarios.proofs.spelling.texts.put_bundles.Goals as goal

pub loop-bundle-preserved : goal.loop-bundle-preserved
loop-bundle-preserved c =
    line_more bundle_line _ c.loop-bundle.bundle-index _ _ _ _ _ c.loop-bundle-test.true c.bundle-item.is c.loop-bundle.invariant c.in_ok-put_bundle_line.ensures
