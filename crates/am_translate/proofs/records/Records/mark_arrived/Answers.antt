use Rattle.std.proofs.Common.{◌≡◌, ◌≤◌, length, map, drop, ap, ◌∙◌, arith}
use Rattle.am_model.specs.Changes.{arrived}
use Rattle.am_translate.proofs.Lists.{take-mapped}
use Rattle.am_translate.proofs.records.Records.mark_arrived.Goals as goal

pub returns : goal.returns
returns c =
    let places = c.self.inside.places in
    let count = c.self.inside.count in
    let all : length places ≡ 32 = c.self.ranges.0.1.0.1 in
    let few : count ≤ 32 = c.self.invariant in
    take-mapped (arrived c.args.request) count places c.mark.new.places (drop count places) (omega (arith, all, few)) c.mark.ensures
    ∙ ap (map (arrived c.args.request)) c.self.view_is
