-- What an entry found is what the logs at the end have below its stamp.
use Rattle.std.proofs.Common.{◌≡◌, List, Option, Some, None, sym, ap, ◌∙◌, subst}
use Rattle.am_names.specs.declared.EndpointId.{EndpointId}
use Rattle.am_office_entries.specs.declared.Entry.{Entry}
use Rattle.am_model.specs.Changes.{replay}
use Rattle.am_model.specs.Calls.{outcome_of_call}
use Rattle.am_model.specs.Endpoint.{State}
use Rattle.am_model.specs.Layout.{Layout, opening}
use Rattle.am_model_parts.specs.Asked.{failing_call, failing_want}
use Rattle.am_model_merge.specs.Logs.{AreRising, IsRising, Logs, before}
use Rattle.am_model_merge.specs.Right as right
use Rattle.am_model_merge.specs.Right.{IsMadeRight, IsRight, IsStateBefore, state_before}
use Rattle.am_model_merge.proofs.Before.{before_it}
use Rattle.am_workers_laws.specs.Phases.Then.{ByCall, ByMove, ByWant, ByWork, IsFound, IsRightThen, StandsAfter, WasRight}

pub stood : (log past : List Entry) (x : Entry) → IsRising log → StandsAfter log past x → before x.stamp log ≡ past
stood log past x rising after = ap (before x.stamp) after.1 ∙ before_it past x after.0 (subst IsRising after.1 rising)

found_before : (layout : Layout) (logs : Logs) (x : Entry) (s : State) (e : Option EndpointId) → AreRising logs → IsFound layout logs.end x s e →
    IsStateBefore layout logs x.stamp s e
found_before layout logs x s None rising found = tt
found_before layout logs x s (Some e) rising found = found.2 ∙ ap (replay e (opening layout e)) (sym (stood (logs.end e) found.0 x (rising.ends e) found.1))

right_then : (layout : Layout) (logs : Logs) (x : Entry) → AreRising logs → IsRightThen layout logs x → IsMadeRight layout logs x
right_then layout logs x rising (ByCall c) =
    let state : c.s ≡ state_before layout logs x.stamp c.end = found_before layout logs x c.s (Some c.end) rising c.found in
    right.ByCall
    (record {
      actor = c.actor;
      end = c.end;
      call = c.call;
      event = c.event;
      enabled = ap failing_call (sym state) ∙ c.enabled;
      outcome = c.outcome ∙ ap (λ (s : State). outcome_of_call layout.pool c.end s c.call) state;
    })
right_then layout logs x rising (ByWant w) =
    let state : w.s ≡ state_before layout logs x.stamp w.end = found_before layout logs x w.s (Some w.end) rising w.found in
    right.ByWant (record { actor = w.actor; end = w.end; event = w.event; enabled = ap failing_want (sym state) ∙ w.enabled; outcome = w.outcome })
right_then layout logs x rising (ByWork w) =
    right.ByInterface
    (record {
      i = w.i;
      s = w.s;
      w = w.w;
      settings = w.settings;
      log = sym (stood (logs.node w.i.settings.node) w.i.log x (rising.nodes w.i.settings.node) w.past);
      state = found_before layout logs x w.s _ rising w.found;
      packet = w.packet;
      event = w.event;
      enabled = w.enabled;
      outcome = w.outcome;
    })
right_then layout logs x rising (ByMove m) =
    right.ByDriver
    (record {
      d = m.d;
      s = m.s;
      settings = m.settings;
      log = sym (stood (logs.driver m.d.settings.node) m.d.log x (rising.drivers m.d.settings.node) m.past);
      state = found_before layout logs x m.s _ rising m.found;
      driver = m.driver;
      enabled = m.enabled;
      outcome = m.outcome;
    })

pub was_right : (layout : Layout) (logs : Logs) (x : Entry) → AreRising logs → WasRight layout logs x → IsRight layout logs x
was_right layout logs x rising was = record { in_range = was.in_range; right = right_then layout logs x rising was.then }
