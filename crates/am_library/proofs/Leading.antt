-- Where each map of a script names one endpoint, every request goes there.
use Rattle.std.proofs.Common.{◌≡◌, ℕ, Bool, true, false, ◌&&◌, Option, Some, None, List, [], ◌∷◌, ◌++◌, refl, sym, ap, ◌∙◌, subst, filter_map}
use Rattle.std.proofs.Common.{if◌then◌else◌, arith}
use Rattle.std.specs.Prelude.{◌==◌, MatchOption, filter, sum_by, unwrap_or}
use Rattle.std.specs.List.{Contains}
use Rattle.std.proofs.lemmas.List.Elements.{Contains-append_left, Contains-append_right, Contains-push}
use Rattle.am_names.specs.declared.EndpointId.{EndpointId}
use Rattle.am_names.specs.declared.Message.{Message}
use Rattle.am_names.specs.Names.{is_request, same_end}
use Rattle.am_office_entries.specs.declared.Actor.TheVariants.{Thread, Outside}
use Rattle.am_office_entries.specs.declared.Call.TheVariants as Calls
use Rattle.am_office_entries.specs.declared.Event.{Event}
use Rattle.am_office_entries.specs.declared.Event.TheVariants as Events
use Rattle.am_office_entries.specs.declared.Outcome.{Outcome}
use Rattle.am_office_entries.specs.declared.Outcome.TheVariants as Out
use Rattle.am_office_entries.specs.declared.Entry.{Entry}
use Rattle.am_office_entries.specs.Entries.{accepted_in, accepted_of, run_of}
use Rattle.am_model.specs.declared.Mapping.{Mapping}
use Rattle.am_model.specs.Layout.{Layout}
use Rattle.am_model.specs.History.{EachAfter, IsHistory}
use Rattle.am_model.specs.PostOffice.{IsAcceptedBy, PostOffice, mapping_of, mapping_set}
use Rattle.am_model.proofs.Each.{over_each}
use Rattle.am_model.proofs.Names.{same_end-is, same_end-refl}
use Rattle.am_model.proofs.Own.{last_given_push}
use Rattle.am_scenario_types.specs.Lawful.{IsLawful}
use Rattle.am_scenario_types.specs.Lists.{ScenarioLists}
use Rattle.am_model_scripts.specs.Layout.{layout_of}
use Rattle.am_model_scripts.specs.Scripts.{KeepsScripts, call_made}
use Rattle.am_model_scripts.specs.Follows.{KeepsToEvents, is_of_run}
use Rattle.am_library.specs.Laws.{LeadsTo, leads}
use Rattle.am_library_views.specs.Views.{is_to, requests_run, runs_at}
use Rattle.am_library.proofs.Adding.{weighs_none}
use Rattle.am_library_views.proofs.Distinct.{all_accepted}
use Rattle.am_library_views.proofs.Ended.{request_as}
use Rattle.am_library.proofs.Replied.{kept_among}
use Rattle.am_library.proofs.Scripted.{Goes, all_go, call_passes}
use Rattle.am_library_views.proofs.Weights.{of, only, sum_push}

-- what an index leads to, if anywhere
abbrev Leads : EndpointId → Option Mapping → Type 0
Leads e o = MatchOption o (Unit {0}) (λ (mapping : Mapping). mapping.name ≡ e)

-- a map that an entry makes names the endpoint
abbrev SetsWell : EndpointId → Option (Option Mapping) → Type 0
SetsWell e o = MatchOption o (Unit {0}) (Leads e)

map_well : (e : EndpointId) (b : Bool) (mapping : Mapping) → mapping.name ≡ e → SetsWell e (if b then Some (Some mapping) else None)
map_well e true mapping is = is
map_well e false mapping is = tt

unmap_well : (e : EndpointId) (b : Bool) → SetsWell e (if b then Some None else None)
unmap_well e true = tt
unmap_well e false = tt

sets_well : (s : ScenarioLists) (e at : EndpointId) (index : ℕ) (event : Event) (o : Outcome) → is_of_run s event ≡ true →
    call_passes (leads e) (call_made event) ≡ true → SetsWell e (mapping_set at index event o)
sets_well s e at index (Events.Call (Thread t) end (Calls.Map i name tag credits)) Out.Done run good =
    map_well e (same_end at end && (index == i)) (record { name = name; tag = tag; credits = credits }) (sym (same_end-is e name good))
sets_well s e at index (Events.Call Outside end (Calls.Map i name tag credits)) Out.Done run good = absurd (cc)
sets_well s e at index (Events.Call actor end (Calls.Unmap i)) Out.Done run good = unmap_well e (same_end at end && (index == i))
sets_well s e at index event o run good = tt

set_leads : (e : EndpointId) (set : Option (Option Mapping)) (old : Option Mapping) → SetsWell e set → Leads e old → Leads e (unwrap_or set old)
set_leads e None old well so_far = so_far
set_leads e (Some new) old well so_far = well

-- ---- no request goes elsewhere

abbrev strays : EndpointId → Message → ℕ
strays e m = only (is_request m) (only (if is_to e m then false else true) 1)

reply_strays : (e : EndpointId) (m : Message) (b : Bool) → is_request m ≡ b → (if b then false else true) ≡ true → strays e m ≡ 0
reply_strays e m true is never = absurd (cc)
reply_strays e m false is none = ap (λ (b : Bool). only b (only (if is_to e m then false else true) 1)) is

goes_there : (e dest : EndpointId) (request : Bool) → dest ≡ e → only request (only (if same_end e dest then false else true) 1) ≡ 0
goes_there e dest request is =
    ap (λ (b : Bool). only request (only (if b then false else true) 1)) (subst (λ (d : EndpointId). same_end e d ≡ true) (sym is) (same_end-refl e))
    ∙ nothing request
  where
    nothing : (b : Bool) → only b 0 ≡ 0
    nothing true = refl
    nothing false = refl

none_strays : (e : EndpointId) (layout : Layout) (past : List Entry) (event : Event) (o : Outcome) → IsAcceptedBy layout past event o →
    ((at : EndpointId) (index : ℕ) → Leads e (mapping_of past at index)) → of (strays e) (accepted_in event o) ≡ 0
none_strays e layout past (Events.Call actor end (Calls.Request index handler words)) (Out.Requested m) asked lead =
    by_mapping (mapping_of past end index) asked (lead end index)
  where
    by_mapping : (o : Option Mapping) → MatchOption o ⊥ (λ (mapping : Mapping). m ≡ request_as layout past end handler words mapping) → Leads e o →
        strays e m ≡ 0
    by_mapping None never leads' = absurd never
    by_mapping (Some mapping) is leads' = ap (strays e) is ∙ goes_there e mapping.name true leads'
none_strays e layout past (Events.Call actor end Calls.Poll) (Out.Ran handler m (Some reply)) asked lead =
    reply_strays e reply (is_request reply) refl asked.kind
none_strays e layout past (Events.Call actor end Calls.Poll) (Out.Ran handler m None) asked lead = refl
none_strays e layout past (Events.Call actor end call) o asked lead = refl
none_strays e layout past event o asked lead = refl

record LeadsSo (e : EndpointId) (past : List Entry) : Type 0 where
  lead : (at : EndpointId) (index : ℕ) → Leads e (mapping_of past at index)
  none : sum_by (strays e) (filter_map accepted_of past) ≡ 0

leads_step : (s : ScenarioLists) (e : EndpointId) (past : List Entry) (x : Entry) → LeadsSo e past → Goes (leads e) s past x → LeadsSo e (past ++ x ∷ [])
leads_step s e past x so_far goes = record {
  lead = λ (at : EndpointId) (index : ℕ).
      subst (Leads e) (sym (last_given_push None (λ (y : Entry). mapping_set at index y.event y.outcome) past x))
      (set_leads e (mapping_set at index x.event x.outcome) (mapping_of past at index) (sets_well s e at index x.event x.outcome goes.run goes.passes)
      (so_far.lead at index));
  none = omega (
    arith,
    sum_push accepted_of (strays e) past x,
    none_strays e (layout_of s) past x.event x.outcome goes.asked so_far.lead,
    so_far.none,
  );
}

all_lead : (s : ScenarioLists) (e : EndpointId) (journal : List Entry) → EachAfter (Goes (leads e) s) [] journal → LeadsSo e journal
all_lead s e journal goes =
    over_each (Goes (leads e) s) (LeadsSo e) (λ (past : List Entry) (x : Entry) (so_far : LeadsSo e past) (now : Goes (leads e) s past x). leads_step s e past
    x so_far now) [] journal (record { lead = λ (at : EndpointId) (index : ℕ). tt; none = refl }) goes

-- ---- so what ran, ran there

stays_there : (e : EndpointId) (m : Message) (b : Bool) → is_to e m ≡ b → is_request m ≡ true → strays e m ≡ 0 → is_to e m ≡ true
stays_there e m true is request none = is
stays_there e m false is request none =
    let one : strays e m ≡ 1 =
    ap (λ (b : Bool). only b (only (if is_to e m then false else true) 1)) request ∙ ap (λ (b : Bool). only (if b then false else true) 1) is in
    absurd (omega (arith, one, none))

all_kept : (p : Message → Bool) (ms : List Message) → ((m : Message) → Contains ms m → p m ≡ true) → filter p ms ≡ ms
all_kept p [] each = refl
all_kept p (m ∷ ms) each =
    let here : p m ≡ true = each m (Contains-append_left (m ∷ []) ms m (Contains-push [] m)) in
    ap (λ (b : Bool). if b then m ∷ filter p ms else filter p ms) here
    ∙ ap (λ (l : List Message). m ∷ l) (all_kept p ms (λ (n : Message) (has : Contains ms n). each n (Contains-append_right (m ∷ []) ms n has)))

pub runs_lead : (s : ScenarioLists) (journal : List Entry) (e : EndpointId) → IsLawful s → IsHistory (layout_of s) journal →
    PostOffice (layout_of s) journal → KeepsScripts s journal → KeepsToEvents s journal → LeadsTo s e → runs_at journal e ≡ requests_run journal
runs_lead s journal e lawful history laws scripts events all =
    let lead : LeadsSo e journal = all_lead s e journal (all_go (leads e) s journal lawful history laws scripts events all) in
    all_kept (is_to e) (requests_run journal) (λ (m : Message) (has : Contains (requests_run journal) m).
    let ran = kept_among is_request (filter_map run_of journal) m has in
    stays_there e m (is_to e m) refl ran.1 (weighs_none (strays e) journal m lead.none (all_accepted (layout_of s) journal laws m ran.0)))
