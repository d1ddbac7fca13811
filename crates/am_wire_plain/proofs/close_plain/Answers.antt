use Rattle.std.proofs.Common.{◌≡◌, ◌++◌, refl, subst}
use Rattle.std.specs.Prelude.{IfOk}
use Rattle.am_wire_relay.specs.Relays.{emitted, faults_of}
use Rattle.am_wire_plain.specs.Plain.{no_stamp, unchanged}
use Rattle.am_wire_plain.proofs.Faultless.{shape_is_emitted}
use Rattle.am_wire_plain.proofs.close_plain.Goals as goal

pub returns-clause-whole : goal.returns-clause-whole
returns-clause-whole g c =
    subst (λ items. IfOk c.close_relay.result (λ relay. relay.received.items ++ relay.left.items ≡ items))
    (shape_is_emitted no_stamp unchanged (λ x. refl) (faults_of c.args.out) c.requires.faultless (emitted c.args.out))
    c.close_relay.ensures.shape
