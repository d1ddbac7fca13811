use Rattle.std.proofs.Common.{rules, ◌≡◌, [], ◌++◌, ap, ◌∙◌, drop, take}
use Rattle.am_places_stays.specs.Stays.{KeepsBeginnings, added_at}
use Rattle.am_example_tally.proofs.Lists.{all_lines, rest_is}
use Rattle.am_example_tally.proofs.tally.Goals as goal

pub returns : goal.returns
returns g c =
    let first = c.join-first.result.0 in
    let second = c.join-first.result.1 in
    let ours = c.args.ours.now in
    let theirs = c.args.theirs.now in
    let one : added_at 0 first.0.token.me.0 ≡ added_at 0 c.in_ok-places.first.token.me.0 ++ take first.1 ours = search rules in
    let two : added_at 0 second.0.token.me.0 ≡ added_at 0 c.in_ok-places.second.token.me.0 ++ take second.1 theirs = search rules in
    let kept : KeepsBeginnings c.in_ok-places.second.token.me.0 second.0.token.me.0 = search rules in
    let merge = c.end_two-lines.ensures [] (kept.began 0 [] c.in_ok-places.ensures.second.began) in
    all_lines ours theirs (added_at 0 first.0.token.me.0) (added_at 0 second.0.token.me.0) merge.0 c.extend_from_slice-2.new.self.items first.1 second.1
    (one ∙ ap (λ lines. lines ++ take first.1 ours) c.in_ok-places.ensures.first.added)
    (two ∙ ap (λ lines. lines ++ take second.1 theirs) c.in_ok-places.ensures.second.added) merge.2
    (c.in_ok-extend_from_slice-2.ensures.items
    ∙ (λ i. c.extend_from_slice.new.self.items ++ rest_is theirs second.1 i)
    ∙ ap (λ lines. lines ++ drop second.1 theirs) (c.in_ok-extend_from_slice.ensures.items ∙ (λ i. merge.1 i ++ rest_is ours first.1 i)))
