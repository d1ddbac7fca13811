use Rattle.std.proofs.Common.{◌≡◌, ◌<◌, ◌^◌, ◌∙◌, Some, ap, append-nil, false, refl, subst, sym}
use Rattle.am_endpoint.specs.View.{EndpointView, state_after}
use Rattle.am_iface.specs.Settings.{SettingsView}
use Rattle.am_iface.specs.View.{own}
use Rattle.am_iface.specs.With.{KnowsHome}
use Rattle.am_model.specs.Endpoint.{entry_at, is_direct}
use Rattle.am_model.specs.Parts.{last_stamp}
use Rattle.am_model_parts.specs.Granted.{FitsEndpoint}
use Rattle.am_model_parts.specs.Interface.{home_in}
use Rattle.am_workers.specs.Turns.Turns.{MayBounce, SettlesHere}
use Rattle.am_workers.proofs.WorkTurns.{not_low, not_of, not_ready, passed_all}
use Rattle.am_workers.proofs.turns.works.work_at.Goals as goal
use Rattle.am_workers.proofs.turns.works.work_at.Goals.{then-not-is_of-via-then-not-is_of, then-not-is_of-via-else-not-is_of+then-not-is_ready_for}

pub returns-then-not-is_of-clause-found : goal.returns-then-not-is_of-clause-found
returns-then-not-is_of-clause-found c = (
  refl,
  elim c.then-not-is_of.branch [
    | then-not-is_of-via-then-not-is_of w ↦
        not_of c.args.set.now c.deref.result.now c.args.book.now.end.value c.args.interface.now c.args.work.now c.is_of.result c.requires.set c.deref.ensures
        c.is_of.ensures.value w.if-not-is_of.true
    | then-not-is_of-via-else-not-is_of+then-not-is_ready_for w ↦
        not_ready w.deref-else-not-is_of.result.now c.args.book.now.end.value c.args.interface.now c.args.work.now w.is_ready_for.result
        w.deref-else-not-is_of.ensures w.is_ready_for.ensures.value w.if-not-is_ready_for.true
  ],
)

pub work_on-requires-clause-passed : goal.work_on-requires-clause-passed
work_on-requires-clause-passed c =
    passed_all c.args.set.now c.deref.result.now c.deref-else-not-is_of.result.now c.deref-2.result.now c.args.book.now.end.value c.args.interface.now
    c.args.work.now c.is_of.result c.is_ready_for.result c.is_low.result c.requires.set c.deref.ensures c.deref-else-not-is_of.ensures c.deref-2.ensures
    c.is_of.ensures.value c.if-not-is_of.false c.is_ready_for.ensures.value c.if-not-is_ready_for.false c.is_low.ensures.value c.if-not-is_low.false

pub returns-then-not-is_of-clause-added : goal.returns-then-not-is_of-clause-added
returns-then-not-is_of-clause-added c = sym (append-nil c.args.book.now.end.value.log)

pub returns-then-not-is_low-clause-added : goal.returns-then-not-is_low-clause-added
returns-then-not-is_low-clause-added c = sym (append-nil c.args.book.now.end.value.log)

pub returns-then-not-is_low-clause-found : goal.returns-then-not-is_low-clause-found
returns-then-not-is_low-clause-found c = (
  refl,
  not_low c.deref-2.result.now c.args.book.now.end.value c.args.interface.now c.args.work.now c.is_low.result c.deref-2.ensures c.is_low.ensures.value
      c.if-not-is_low.true,
)

pub work_on-requires-clause-home : goal.work_on-requires-clause-home
work_on-requires-clause-home c =
    let d = c.deref.result.now in
    subst (λ (e : EndpointView). home_in (own c.args.interface.now) e.settings.id ≡ Some e.settings.node) c.deref.ensures
    (subst (λ (set : SettingsView). entry_at set.homes d.settings.id.0 ≡ Some d.settings.node) c.requires.set
    (c.is_of.ensures.home c.if-not-is_of.false))

pub work_on-requires-clause-network : goal.work_on-requires-clause-network
work_on-requires-clause-network c =
    subst (λ (e : EndpointView). is_direct (state_after e).head.place ≡ false) c.deref.ensures (c.is_of.ensures.network c.if-not-is_of.false)

pub work_on-requires-clause-limit : goal.work_on-requires-clause-limit
work_on-requires-clause-limit c =
    subst (λ (e : EndpointView). e.settings.bounces ≡ c.args.interface.now.settings.bounces) c.deref.ensures
    (c.is_of.ensures.bounces c.if-not-is_of.false ∙ ap (λ (set : SettingsView). set.bounces) c.requires.set)

pub work_on-requires-clause-known : goal.work_on-requires-clause-known
work_on-requires-clause-known c =
    subst (λ (e : EndpointView). KnowsHome (own c.args.interface.now) (state_after e) c.args.work.now) c.deref-else-not-is_of.ensures
    (c.is_ready_for.ensures.home c.if-not-is_ready_for.false)

pub work_on-requires-clause-flies : goal.work_on-requires-clause-flies
work_on-requires-clause-flies c =
    subst (λ (e : EndpointView). FitsEndpoint (own c.args.interface.now) (state_after e) c.args.work.now) c.deref-else-not-is_of.ensures
    (c.is_ready_for.ensures.flies c.if-not-is_ready_for.false)

pub work_on-requires-clause-bounces : goal.work_on-requires-clause-bounces
work_on-requires-clause-bounces c =
    subst (λ (e : EndpointView). MayBounce c.args.interface.now.settings.bounces (state_after e) c.args.work.now) c.deref-else-not-is_of.ensures
    (c.is_ready_for.ensures.bounces c.if-not-is_ready_for.false)

pub work_on-requires-clause-here : goal.work_on-requires-clause-here
work_on-requires-clause-here c =
    subst (λ (e : EndpointView). SettlesHere (state_after e) c.args.work.now) c.deref-else-not-is_of.ensures
    (c.is_ready_for.ensures.here c.if-not-is_ready_for.false)

pub work_on-requires-clause-last : goal.work_on-requires-clause-last
work_on-requires-clause-last c = c.is_low.ensures.last c.if-not-is_low.false

pub work_on-requires-clause-last_there : goal.work_on-requires-clause-last_there
work_on-requires-clause-last_there c =
    subst (λ (e : EndpointView). last_stamp e.log < 2 ^ 63) c.deref-2.ensures (c.is_low.ensures.last_there c.if-not-is_low.false)

pub work_on-requires-clause-packet : goal.work_on-requires-clause-packet
work_on-requires-clause-packet c = c.is_low.ensures.packet c.if-not-is_low.false
