use Rattle.std.proofs.Common.{◌≡◌, ℕ, Some, ◌∙◌, ap, sym, subst}
use Rattle.am_names.specs.declared.NodeId.{NodeId}
use Rattle.am_office_entries.specs.declared.Event.TheVariants as Events
use Rattle.am_office_entries.specs.declared.Entry.{Entry}
use Rattle.am_model_parts.specs.Interface.{channel_in}
use Rattle.am_model_parts.specs.declared.work.Work.TheVariants as Works
use Rattle.am_channel.specs.declared.ends.Ends.{Ends}
use Rattle.am_channel.specs.declared.sending.TimedOut.TheVariants as Times
use Rattle.am_channel.specs.Sending.{timed_out}
use Rattle.am_channel.specs.Calls.{TimeOut, after}
use Rattle.am_iface.specs.Made.{IsMade}
use Rattle.am_iface.specs.View.{own}
use Rattle.am_iface.proofs.Telling as telling
use Rattle.am_iface.proofs.Turning as turning
use Rattle.am_iface.proofs.Interface.expire_alone.Goals as goal

pub enter-requires-clause-made : goal.enter-requires-clause-made
enter-requires-clause-made c =
    let e = c.ends-ends.result in
    let bound : e.sending.bound ≡ Some c.in-Some.bound = sym c.busy.ensures.bound ∙ c.in-Some.is in
    let timed : timed_out c.args.self.now.settings.tries e.sending.seq c.in-Some.bound ≡ Times.Resend c.in-Resend.sent =
    telling.timed_is e.sending.bound c.in-Some.bound c.tries.result c.args.self.now.settings.tries e.sending.seq c.time_out.result c.in-Resend.sent bound
    c.tries.ensures c.time_out.ensures.answer c.in-Resend.is in
    subst (λ (new : Ends). IsMade (channel_in (own c.args.self.now) c.args.peer c.args.channel) c.args.self.now.log new c.resend-entry.result)
    (sym (c.time_out.ensures.after ∙ ap (λ (n : ℕ). after e (TimeOut n)) c.tries.ensures))
    (telling.retry_made (channel_in (own c.args.self.now) c.args.peer c.args.channel) c.args.self.now.log c.args.self.now.settings.tries
    c.next_number-number.result e c.in-Some.bound c.in-Resend.sent c.resend-entry.result c.ends-ends.ensures bound timed
    (ap (λ (x : Entry). x.event) c.resend-entry.ensures ∙ ap (λ (n : NodeId). Events.Expire n c.args.peer c.args.channel) c.node.ensures)
    (ap (λ (x : Entry). x.outcome) c.resend-entry.ensures))

pub returns : goal.returns
returns c s =
    let e = c.ends-ends.result in
    let bound : e.sending.bound ≡ Some c.in-Some.bound = sym c.busy.ensures.bound ∙ c.in-Some.is in
    let timed : timed_out c.args.self.now.settings.tries e.sending.seq c.in-Some.bound ≡ Times.Resend c.in-Resend.sent =
    telling.timed_is e.sending.bound c.in-Some.bound c.tries.result c.args.self.now.settings.tries e.sending.seq c.time_out.result c.in-Resend.sent bound
    c.tries.ensures c.time_out.ensures.answer c.in-Resend.is in
    turning.turns_by_entering c.args.self.now c.enter.new.self s c.args.stamp (Works.Expire c.args.peer c.args.channel) c.resend-entry.result c.enter.result
    (record {
      event = ap (λ (x : Entry). x.event) c.resend-entry.ensures ∙ ap (λ (n : NodeId). Events.Expire n c.args.peer c.args.channel) c.node.ensures;
      outcome =
          ap (λ (x : Entry). x.outcome) c.resend-entry.ensures
          ∙ telling.retry_outcome (own c.args.self.now) s c.args.peer c.args.channel c.next_number-number.result e c.in-Some.bound c.in-Resend.sent
          c.ends-ends.ensures bound timed c.next_number-number.ensures;
      stamped = ap (λ (x : Entry). x.stamp) c.resend-entry.ensures;
      enabled =
          telling.bound_enabled (own c.args.self.now) s c.args.peer c.args.channel c.in-Some.bound.message
          (telling.message_is (channel_in (own c.args.self.now) c.args.peer c.args.channel) c.args.self.now.log e (Some c.in-Some.bound) c.ends-ends.ensures
          bound);
    })
    (record { logged = c.enter.ensures.logged; enabled = c.enter.ensures.enabled; full = c.enter.ensures.full; err = c.enter.ensures.err })
