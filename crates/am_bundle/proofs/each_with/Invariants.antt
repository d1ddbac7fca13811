use Rattle.std.proofs.Common.{◌≡◌, map, take}
use Rattle.am_bundle.proofs.each_with.Given as goal

abbrev pub invariant-loop-member : goal.invariant-loop-member
invariant-loop-member l = l.calls.items ≡ map (λ member. (member, l.call)) (take l.member-index l.members)
