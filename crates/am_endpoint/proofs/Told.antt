-- A call that a table does or refuses.
use Rattle.std.specs.Prelude.{Result, Ok, Err, OnOk, OnErr}
use Rattle.std.specs.Result.{result_err}
use Rattle.std.proofs.Common.{◌≡◌, Option, sym, ap, ◌∙◌}
use Rattle.am_office_entries.specs.declared.Call.{Call}
use Rattle.am_office_entries.specs.declared.Outcome.TheVariants as Out
use Rattle.am_office_entries.specs.declared.Refusal.{Refusal}
use Rattle.am_model.specs.declared.Head.{Head}
use Rattle.am_model.specs.Endpoint.{Body, State}
use Rattle.am_model.specs.Calls.{unless}
use Rattle.am_model.specs.Changes.{called}
use Rattle.am_endpoint_body.specs.Views.{View}
use Rattle.am_endpoint.specs.Done.{done}

abbrev pub at_head : Head → Body → State
at_head h b = record { head = h; body = b }

-- what the call makes of it where it is done and where it is refused
pub record Does (h : Head) (b c : Body) (call : Call) : Type 0 where
  pub yes : called (at_head h b) call Out.Done ≡ at_head h c
  pub no : (r : Refusal) → called (at_head h b) call (Out.Refused r) ≡ at_head h b

pub done_state : (h : Head) (v w : View) (c : Body) (call : Call) (r : Result (Unit {0}) Refusal) → Does h v.body c call → OnOk r (w ≡ record v { body = c }) →
    OnErr r (w ≡ v) → at_head h w.body ≡ called (at_head h v.body) call (done r)
done_state h v w c call (Ok u) does ok err = ap (λ (x : View). at_head h x.body) ok ∙ sym does.yes
done_state h v w c call (Err r) does ok err = ap (λ (x : View). at_head h x.body) err ∙ sym (does.no r)

pub done_pool : (v w : View) (c : Body) (r : Result (Unit {0}) Refusal) → OnOk r (w ≡ record v { body = c }) → OnErr r (w ≡ v) → w.pool ≡ v.pool
done_pool v w c (Ok u) ok err = ap (λ (x : View). x.pool) ok
done_pool v w c (Err r) ok err = ap (λ (x : View). x.pool) err

pub done_outcome : (r : Result (Unit {0}) Refusal) (refusal : Option Refusal) → result_err r ≡ refusal → done r ≡ unless refusal Out.Done
done_outcome (Ok u) refusal is = ap (λ w. unless w Out.Done) is
done_outcome (Err x) refusal is = ap (λ w. unless w Out.Done) is

pub done_flights : (v w : View) (c : Body) (r : Result (Unit {0}) Refusal) → OnOk r (w ≡ record v { body = c }) → OnErr r (w ≡ v) → w.flights ≡ v.flights
done_flights v w c (Ok u) ok err = ap (λ (x : View). x.flights) ok
done_flights v w c (Err r) ok err = ap (λ (x : View). x.flights) err
