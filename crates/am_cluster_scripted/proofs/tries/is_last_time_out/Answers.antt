use Rattle.std.specs.Prelude.{nat_le, is_some}
use Rattle.std.proofs.Common.{◌≡◌, ◌+◌, true, false, Option, rules, ap, sym, ◌∙◌}
use Rattle.am_channel.specs.declared.sending.Bound.{Bound}
use Rattle.am_model.specs.Channels.{attempt}
use Rattle.am_model.specs.History.{channel_to, is_bound}
use Rattle.am_cluster_scripted.proofs.Lasting.{attempt_read, last_time_out}
use Rattle.am_cluster_scripted.proofs.Looking.{bound_read}
use Rattle.am_cluster_scripted.proofs.tries.is_last_time_out.Goals as goal

pub returns-in-Some : goal.returns-in-Some
returns-in-Some c =
    let s = c.args.scenario.now in
    let v = c.args.cluster.now in
    let tries : c.from.result ≡ s.tries = search rules in
    let used : c.from-in-Some.result ≡ c.in-Some.bound.attempt = search rules in
    let same : c.in-Some.bound.attempt ≡ attempt (channel_to c.args.node c.args.peer c.args.channel) v.journal = c.in-Some.ensures.attempt
    ∙ attempt_read v.layout v.journal c.args.node c.args.peer c.args.channel c.iface.result.now c.iface.ensures in
    last_time_out s v.journal c.args.node c.args.peer c.args.channel _ (λ bound i. nat_le (tries i) ((used ∙ same) i + 2))

pub returns-in-None : goal.returns-in-None
returns-in-None c =
    let s = c.args.scenario.now in
    let v = c.args.cluster.now in
    let read = bound_read v.layout v.journal c.args.node c.args.peer c.args.channel c.iface.result.now c.bound.result c.iface.ensures c.bound.ensures.message in
    let idle : false ≡ is_bound (channel_to c.args.node c.args.peer c.args.channel) v.journal = ap (λ (b : Option Bound). is_some b) (sym c.in-None.is)
    ∙ read in
    last_time_out s v.journal c.args.node c.args.peer c.args.channel false (λ bound. absurd (let both : false ≡ true = idle ∙ bound in cc))
