use Rattle.std.proofs.Common.{◌≡◌, ◌+◌, ◌-◌, ◌<◌, ◌≤◌, suc, length, take, ap, ◌∙◌, arith}
use Rattle.std.proofs.lemmas.List.{length-take-le}
use Rattle.std.specs.List.{remove}
use Rattle.am_translate.proofs.Lists.{take-rotated}
use Rattle.am_translate.proofs.records.Records.remove.Goals as goal

pub returns : goal.returns
returns c =
    let places = c.self.inside.places in
    let count = c.self.inside.count in
    let all : length places ≡ 32 = c.self.ranges.0.1.0.1 in
    let few : count ≤ 32 = c.self.invariant in
    let within : c.args.place < count = omega (arith, c.requires, ap length c.self.view_is, length-take-le count places (omega (arith, few, all))) in
    let last : suc (count - 1) ≡ count = omega (arith, within) in
    take-rotated places c.rotate_left.new.self c.args.place (count - 1) (count - c.args.place) (omega (arith, within)) (omega (arith, within))
    (omega (arith, last, few, all)) c.rotate_left.ensures.after
    ∙ ap (λ n. remove (take n places) c.args.place) last
    ∙ ap (λ xs. remove xs c.args.place) c.self.view_is
