-- The sum that is read off a journal is the endpoint's.
use Rattle.std.proofs.Common.{◌≡◌, Bool, true, false, List, [], ◌∷◌, ◌++◌, Option, Some, None, refl, sym, ap, ◌∙◌}
use Rattle.std.specs.List.{find, list_any}
use Rattle.std.proofs.lemmas.List.Sums.{fold_push}
use Rattle.am_names.specs.declared.EndpointId.{EndpointId}
use Rattle.am_names.specs.Names.{same_end}
use Rattle.am_office_entries.specs.declared.Actor.{Actor}
use Rattle.am_office_entries.specs.declared.Call.{Call}
use Rattle.am_office_entries.specs.declared.Call.TheVariants as Calls
use Rattle.am_office_entries.specs.declared.Event.{Event}
use Rattle.am_office_entries.specs.declared.Event.TheVariants as Events
use Rattle.am_office_entries.specs.declared.Outcome.{Outcome}
use Rattle.am_office_entries.specs.declared.Outcome.TheVariants as Out
use Rattle.am_office_entries.specs.declared.Entry.{Entry}
use Rattle.am_office_entries.specs.Entries.{ends_touched, touches}
use Rattle.am_model.specs.Changes.{called, changed}
use Rattle.am_model.specs.Endpoint.{State}
use Rattle.am_model.specs.Layout.{EndSetting, Layout, has_id, opening_by}
use Rattle.am_model.specs.History.{IsHistory, MayFollow, state_of}
use Rattle.am_model.proofs.Books.{not_touched}
use Rattle.am_model.proofs.Each.{over_each, state_of_push}
use Rattle.am_model.proofs.Own.{own_kept}
use Rattle.am_model.proofs.Received.{one_touched}
use Rattle.am_library_views.specs.declared.sums.Summing.{Summing}
use Rattle.am_library_views.specs.Views.{summed, summed_by, summing, unsummed}

-- the handlers and the sum of an endpoint, as other crates name them
abbrev pub Sums : Type 0
Sums = Summing

-- what an endpoint has of it
abbrev pub shown : State → Summing
shown s = record { kinds = s.body.handlers; sum = s.body.sum }

called_shown : (e : EndpointId) (s : State) (c : Call) (o : Outcome) (actor : Actor) (end : EndpointId) → same_end e end ≡ true →
    shown (called s c o) ≡ summed_by e (shown s) (Events.Call actor end c) o
called_shown e s (Calls.Request index handler words) (Out.Requested m) actor end at = refl
called_shown e s Calls.Poll (Out.Zero serial why) actor end at = refl
called_shown e s Calls.Poll (Out.Ran None m None) actor end at = refl
called_shown e s Calls.Poll (Out.Ran None m (Some reply)) actor end at = refl
called_shown e s Calls.Poll (Out.Ran (Some handler) m None) actor end at = rw at refl
called_shown e s Calls.Poll (Out.Ran (Some handler) m (Some reply)) actor end at = rw at refl
called_shown e s (Calls.SetTag tag) Out.Done actor end at = refl
called_shown e s (Calls.Map index name tag credits) Out.Done actor end at = refl
called_shown e s (Calls.Unmap index) Out.Done actor end at = refl
called_shown e s (Calls.SetHandler index kind) Out.Done actor end at = rw at refl
called_shown e s (Calls.GiveUp serial) Out.Done actor end at = refl
called_shown e s Calls.Close Out.Done actor end at = refl
called_shown e s c o actor end at = refl

touched_shown : (e : EndpointId) (s : State) (event : Event) (o : Outcome) → list_any (same_end e) (ends_touched event o) ≡ true →
    shown (changed e s event o) ≡ summed_by e (shown s) event o
touched_shown e s (Events.Call actor end call) o t = called_shown e s call o actor end (one_touched (same_end e end) t)
touched_shown e s event o t =
    let own = own_kept e s event o refl in λ i. record { kinds = (own i).handlers; sum = (own i).sum }

untouched_stays : (e : EndpointId) (t : Summing) (event : Event) (o : Outcome) → list_any (same_end e) (ends_touched event o) ≡ false →
    summed_by e t event o ≡ t
untouched_stays e t (Events.Call actor end (Calls.SetHandler index kind)) Out.Done off = let at : same_end e end ≡ false =
    not_touched (same_end e end) off in rw at refl
untouched_stays e t (Events.Call actor end Calls.Poll) (Out.Ran None m sends) off = refl
untouched_stays e t (Events.Call actor end Calls.Poll) (Out.Ran (Some handler) m sends) off = let at : same_end e end ≡ false =
    not_touched (same_end e end) off in rw at refl
untouched_stays e t event o off = refl

abbrev IsShown : Layout → EndpointId → List Entry → Type 0
IsShown layout e past = shown (state_of layout past e) ≡ summing past e

shown_more : (layout : Layout) (e : EndpointId) (past : List Entry) (x : Entry) → IsShown layout e past → IsShown layout e (past ++ x ∷ [])
shown_more layout e past x so_far = by_test (touches e x) refl
  where
    by_test : (t : Bool) → touches e x ≡ t → shown (state_of layout (past ++ x ∷ []) e) ≡ summing (past ++ x ∷ []) e
    by_test true at =
        ap shown (state_of_push layout past x e true at)
        ∙ touched_shown e (state_of layout past e) x.event x.outcome at
        ∙ ap (λ (t : Summing). summed e t x) so_far
        ∙ sym (fold_push (summed e) unsummed past x)
    by_test false at =
        ap shown (state_of_push layout past x e false at)
        ∙ so_far
        ∙ sym (untouched_stays e (summing past e) x.event x.outcome at)
        ∙ sym (fold_push (summed e) unsummed past x)

shown_begin : (layout : Layout) (setting : Option EndSetting) → shown (opening_by layout setting) ≡ unsummed
shown_begin layout None = refl
shown_begin layout (Some setting) = refl

pub is_shown : (layout : Layout) (journal : List Entry) → IsHistory layout journal → (e : EndpointId) → shown (state_of layout journal e) ≡ summing journal e
is_shown layout journal history e =
    over_each (MayFollow layout) (IsShown layout e) (λ (past : List Entry) (x : Entry) (so_far : IsShown layout e past) (may : MayFollow layout past x).
    shown_more layout e past x so_far) [] journal (shown_begin layout (find (has_id e) layout.ends)) history
