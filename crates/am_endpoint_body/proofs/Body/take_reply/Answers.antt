use Rattle.std.proofs.Common.{sym, ap, ◌∙◌, find}
use Rattle.am_names.specs.Names.{is_reply}
use Rattle.am_block.specs.declared.List.TheVariants.{Received}
use Rattle.am_endpoint_body.specs.Views.{message_in}
use Rattle.am_endpoint_body.specs.Walks.{is_sought_at}
use Rattle.am_endpoint_body.specs.declared.walks.Sought.TheVariants as Soughts
use Rattle.am_endpoint_body.proofs.Filed.{reply_gone}
use Rattle.am_endpoint_body.proofs.Seen.{found-times, seen-found, seen-missed, stands-below}
use Rattle.am_endpoint_body.proofs.Body.take_reply.Goals as goal

pub get-requires : goal.get-requires
get-requires c =
    let p = c.self.inside.block in
    stands-below p Received c.in-Some.slot.0 c.self.invariant.block (found-times (λ s. is_sought_at Soughts.Reply p s) p.received c.in-Some.slot.0
    (sym c.in-Some.ensures.found))

pub move_slot-requires : goal.move_slot-requires
move_slot-requires c =
    let p = c.self.inside.block in
    stands-below p Received c.in-Some.slot.0 c.self.invariant.block (found-times (λ s. is_sought_at Soughts.Reply p s) p.received c.in-Some.slot.0
    (sym c.in-Some.ensures.found))

pub returns-in-Some-clause-reply : goal.returns-in-Some-clause-reply
returns-in-Some-clause-reply c =
    let p = c.self.inside.block in
    seen-found message_in is_reply p.descriptors p.received c.in-Some.slot.0 c.get.result.now c.in-Some.ensures.found c.get.ensures
    ∙ ap (λ v. find is_reply v.body.received) c.self.view_is

pub returns-in-Some-clause-taken : goal.returns-in-Some-clause-taken
returns-in-Some-clause-taken c =
    reply_gone c.self.inside c.args.self.now c.move_slot.new.self c.in-Some.slot.0 c.self.view_is c.self.invariant c.move_slot.ensures.moved
    (sym c.in-Some.ensures.found)

pub returns-in-None-clause-reply : goal.returns-in-None-clause-reply
returns-in-None-clause-reply c =
    let p = c.self.inside.block in
    seen-missed message_in is_reply p.descriptors p.received c.in-None.ensures.found ∙ ap (λ v. find is_reply v.body.received) c.self.view_is
