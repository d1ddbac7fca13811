use Rattle.std.specs.Fmt.{decimal}
use Rattle.std.proofs.lemmas.List.{append-nil}
use Rattle.am_names.specs.declared.EndpointId.{EndpointId}
use Rattle.am_office_text.proofs.Extended.{spaced_nil, next_word}
use Rattle.am_lab_scenarios.proofs.Printed.{one_word}
use Rattle.am_lab_scenarios.proofs.spelling.lines.put_members.Goals as goal

pub loop-member-init : goal.loop-member-init
loop-member-init c = rw (spaced_nil, append-nil c.args.out.now.items)

pub loop-member-preserved : goal.loop-member-preserved
loop-member-preserved c =
    next_word (λ (member : EndpointId). decimal member.0) _ _ (record { 0 = 0 }) _ _ _ c.loop-member-test.true c.loop-member.invariant
    (one_word _ _ _ (rw c.small.ensures at c.in_ok-put_spaced.ensures.ok))
