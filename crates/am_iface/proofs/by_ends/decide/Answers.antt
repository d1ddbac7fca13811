use Rattle.std.proofs.Common.{◌≡◌, ap, sym, ◌∙◌}
use Rattle.am_model.specs.Channels.{Arrival, arrival}
use Rattle.am_channel.specs.Calls.{mark_later}
use Rattle.am_iface.proofs.by_ends.decide.Goals as goal

pub returns : goal.returns
returns c =
    let mark : c.decided.new.self ≡ mark_later c.args.ends.now.receiving c.args.p.now c.args.verdict (arrival c.args.ends.now.receiving c.args.p.now.seq
    c.args.p.now.attempt) =
    c.decided.ensures ∙ ap (λ (a : Arrival). mark_later c.args.ends.now.receiving c.args.p.now c.args.verdict a) (sym c.requires) in
    λ j. record { sending = c.args.ends.now.sending; receiving = mark j }
