use Rattle.std.proofs.Common.{◌≡◌, ⊎_elim, ap, ◌∙◌, sym}
use Rattle.am_channel.specs.Receiving.{arrival_of}
use Rattle.am_channel.specs.declared.receiving.Arrival.{Arrival as Arrives}
use Rattle.am_model.specs.Channels.{Arrival}
use Rattle.am_model_parts.specs.Interface.{answers_to}
use Rattle.am_iface.proofs.by_ends.emits_parcel.Goals as goal

pub returns-in-Stale : goal.returns-in-Stale
returns-in-Stale c = ap (λ (a : Arrival). answers_to c.args.p.now.from a) c.in-Stale.ensures.table

pub returns-in-Fresh : goal.returns-in-Fresh
returns-in-Fresh c =
    let from = c.args.p.now.from in
    let by_table = ap (λ (a : Arrival). answers_to from a) c.arrive.ensures.table in
    ⊎_elim (λ fresh. ap (λ (a : Arrives). answers_to from (arrival_of a)) (sym fresh) ∙ by_table)
    (λ again. ap (λ (a : Arrives). answers_to from (arrival_of a)) (sym again.1) ∙ by_table) c.in-Fresh.is
