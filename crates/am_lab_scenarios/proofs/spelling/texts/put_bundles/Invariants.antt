use Rattle.std.proofs.Common.{◌≡◌, ◌++◌, take}
use Rattle.std.specs.List.{flat_map}
use Rattle.am_lab_scenarios.specs.Spelling.Texts.{bundle_line}
use Rattle.am_lab_scenarios.proofs.spelling.texts.put_bundles.Given as goal

abbrev pub invariant-loop-bundle : goal.invariant-loop-bundle
invariant-loop-bundle l = l.out.items ≡ l.fn.out.items ++ flat_map bundle_line (take l.bundle-index l.bundles)
