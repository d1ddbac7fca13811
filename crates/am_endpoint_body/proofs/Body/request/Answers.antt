use Rattle.std.proofs.Common.{◌≡◌, false, sym, ap, subst, arith}
use Rattle.am_names.specs.declared.Serial.{Serial}
use Rattle.am_translate.specs.Tables.{is_known}
use Rattle.am_endpoint_body.specs.Views.{View, slots_held, table_of}
use Rattle.am_endpoint_body.proofs.Slots.{spare_request}
use Rattle.am_endpoint_body.proofs.Body.request.Goals as goal

pub take_credit-requires-clause-unknown : goal.take_credit-requires-clause-unknown
take_credit-requires-clause-unknown c = subst (λ (s : Serial). is_known (table_of c.args.self.now) s ≡ false) (sym c.new_serial.ensures) c.requires.unknown

pub queue_copy-requires : goal.queue_copy-requires
queue_copy-requires c =
    let counted = ap (λ (v : View). slots_held v.body) c.accept_next.ensures in
    let taken = ap (λ (v : View). slots_held v.body) c.take_credit.ensures in
    omega (arith, counted, taken, spare_request c.args.self.now.body c.requires.within c.in-Ok.ensures.spare)
