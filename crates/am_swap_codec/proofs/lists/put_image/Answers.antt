use Rattle.std.proofs.Common.{List, ◌++◌, Option, ap, ◌∙◌}
use Rattle.std.specs.Prelude.{flat_map}
use Rattle.am_names.specs.declared.Message.{Message}
use Rattle.am_office_entries.specs.declared.HandlerKind.{HandlerKind}
use Rattle.am_model.specs.declared.Mapping.{Mapping}
use Rattle.am_model.specs.declared.Awaited.{Awaited}
use Rattle.am_model.specs.declared.Queued.{Queued}
use Rattle.am_model.specs.declared.Notice.{Notice}
use Rattle.am_model.specs.Endpoint.{Body}
use Rattle.am_swap_image.specs.Image.{magic, long, short, counted, mapping_bytes, record_bytes, handler_bytes, queued_bytes, notice_bytes, received_bytes}
use Rattle.am_swap_image.specs.Image.{image}
use Rattle.am_swap_pieces.proofs.Turns.{eleven}
use Rattle.am_swap_codec.proofs.lists.put_image.Goals as goal

pub returns : goal.returns
returns c =
    let i = c.lists.inside in
    eleven _ _ _ _ _ _ _ _ _ _ _ _ magic (long i.tag.0) (long i.sum) (short i.accepted) (flat_map mapping_bytes i.mapped.items)
    (counted record_bytes i.awaited.items) (flat_map handler_bytes i.handlers.items) (counted queued_bytes i.requests.items)
    (counted queued_bytes i.replies.items) (counted notice_bytes i.notices.items) (counted received_bytes i.received.items)
    c.in_ok-put_magic.ensures
    c.in_ok-put_long.ensures
    c.in_ok-put_long-2.ensures
    c.in_ok-put_short.ensures
    (c.in_ok-put_each.ensures ∙ ap (λ (xs : List (Option Mapping)). c.put_short.new.out.items ++ flat_map mapping_bytes xs) c.deref.ensures.value)
    (c.in_ok-put_counted.ensures ∙ ap (λ (xs : List (Awaited)). c.put_each.new.out.items ++ counted record_bytes xs) c.deref-2.ensures.value)
    (c.in_ok-put_each-2.ensures ∙ ap (λ (xs : List (Option HandlerKind)). c.put_counted.new.out.items ++ flat_map handler_bytes xs) c.deref-3.ensures.value)
    (c.in_ok-put_counted-2.ensures ∙ ap (λ (xs : List (Queued)). c.put_each-2.new.out.items ++ counted queued_bytes xs) c.deref-4.ensures.value)
    (c.in_ok-put_counted-3.ensures ∙ ap (λ (xs : List (Queued)). c.put_counted-2.new.out.items ++ counted queued_bytes xs) c.deref-5.ensures.value)
    (c.in_ok-put_counted-4.ensures ∙ ap (λ (xs : List (Notice)). c.put_counted-3.new.out.items ++ counted notice_bytes xs) c.deref-6.ensures.value)
    (c.in_ok-put_counted-5.ensures ∙ ap (λ (xs : List (Message)). c.put_counted-4.new.out.items ++ counted received_bytes xs) c.deref-7.ensures.value)
    ∙ ap (λ (b : Body). c.args.out.now.items ++ image b) c.lists.view_is
