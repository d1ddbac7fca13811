use Rattle.std.proofs.Common.{rules, ◌≡◌, ◌++◌, ap, ◌∙◌, subst, map}
use Rattle.std.specs.Prelude.{OnOk}
use Rattle.am_wire_release.specs.Faults.{said}
use Rattle.am_wire_relay.specs.Relays.{SameOut, emitted}
use Rattle.am_wire_relay.specs.Shapes.{shape}
use Rattle.am_example_sums.specs.Numbers.{fault_of, numbers_to, restamped, stamp_of, value_of}
use Rattle.am_example_sums.proofs.relay.Goals as goal

pub returns-clause-shape : goal.returns-clause-shape
returns-clause-shape g c =
    let out = c.join-out.result.0.0 in
    let same : SameOut c.in_ok-out.out out = search rules in
    let sent : OnOk c.join-out.result.0.1 (emitted out ≡ numbers_to 10) = search rules in
    let faults : said out.faults ≡ fault_of = ap said same.faults ∙ c.in_ok-out.ensures.faults ∙ c.in_ok-faults.ensures in
    let all : emitted out ≡ numbers_to 10 = subst (λ r. OnOk r (emitted out ≡ numbers_to 10)) c.in_ok-sent.was sent in
    c.in_ok-extend_from_slice.ensures.items
    ∙ (λ i. c.in_ok-received.field-0.received.items ++ c.as_slice.ensures.value i)
    ∙ c.in_ok-received.ensures.shape
    ∙ (λ i. shape stamp_of restamped (faults i) (all i))

pub returns-clause-values : goal.returns-clause-values
returns-clause-values g c = ap (map value_of) (returns-clause-shape g c)
