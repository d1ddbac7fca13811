-- What is asked of endpoints is found by their states alone.
use Rattle.std.specs.Prelude.{is_none, not}
use Rattle.std.proofs.Common.{◌≡◌, true, List, [], ◌∷◌, Option, Some, None, refl, sym, ap, ◌∙◌}
use Rattle.am_names.specs.declared.EndpointId.{EndpointId}
use Rattle.am_office_entries.specs.declared.Actor.{Actor}
use Rattle.am_office_entries.specs.declared.Call.{Call}
use Rattle.am_office_entries.specs.declared.Condition.TheVariants as Needs
use Rattle.am_office_entries.specs.declared.Entry.{Entry}
use Rattle.am_model.specs.Choice.{first_holding}
use Rattle.am_model.specs.declared.Queued.{Queued}
use Rattle.am_model.specs.Endpoint.{State, front, verdict}
use Rattle.am_model.specs.Calls.{outcome_of_call}
use Rattle.am_model.specs.Layout.{Layout}
use Rattle.am_model.specs.History.{state_of, carry, judged}
use Rattle.am_model_parts.specs.Asked.{failing_call, failing_want, carry_at, IsThere}
use Rattle.am_model_parts.specs.Together.{SaysTheSameOfCall, SaysTheSameOfWant, SaysTheSameOfCarry}

pub call_local : (layout : Layout) (past : List Entry) (actor : Actor) (e : EndpointId) (call : Call) (s : State) → s ≡ state_of layout past e →
    SaysTheSameOfCall layout past actor e call s
call_local layout past actor e call s at =
    record { outcome = ap (λ (t : State). outcome_of_call layout.pool e t call) (sym at); failing = ap failing_call (sym at) }

pub want_local : (layout : Layout) (past : List Entry) (actor : Actor) (e : EndpointId) (s : State) → s ≡ state_of layout past e →
    SaysTheSameOfWant layout past actor e s
want_local layout past actor e s at = record { outcome = refl; failing = ap failing_want (sym at) }

pub carry_local : (layout : Layout) (past : List Entry) (e : EndpointId) (s there : State) → layout.direct ≡ true → s ≡ state_of layout past e →
    IsThere layout past (front s) there → SaysTheSameOfCarry layout past e s there
carry_local layout past e s there direct at dest =
    record {
      outcome = ap (λ (t : State). carry layout past (front t)) (sym at) ∙ by_front (front s) dest;
      failing = (λ k. first_holding ((not (direct k), Needs.NotDirect) ∷ (is_none (front (sym at k)), Needs.NoMessage) ∷ []));
    }
  where
    by_front : (q : Option Queued) → IsThere layout past q there → carry layout past q ≡ carry_at layout.bounces q there
    by_front None h = refl
    by_front (Some q) h = ap (λ (t : State). judged layout.bounces q.message q.bounces (verdict t q.message)) (sym h)
