-- Every accepted message comes from a declared endpoint and goes to one.
use Rattle.std.specs.Prelude.{MatchOption, unwrap_or}
use Rattle.std.proofs.Common.{◌≡◌, ◌⊎◌, ⊎_elim, ℕ, ◌==◌, ◌&&◌, ◌+◌, Bool, true, false, List, [], ◌∷◌, ◌++◌, Option, Some, None, refl, sym, ap, ◌∙◌, subst}
use Rattle.std.proofs.Common.{if◌then◌else◌, ◌<◌}
use Rattle.std.proofs.lemmas.Bool.{and_parts}
use Rattle.std.specs.List.{find}
use Rattle.am_names.specs.declared.EndpointId.{EndpointId}
use Rattle.am_names.specs.declared.Serial.{Serial}
use Rattle.am_names.specs.declared.Message.{Message}
use Rattle.am_names.specs.declared.MsgKind.TheVariants as Kind
use Rattle.am_names.specs.Names.{same_end}
use Rattle.am_names.specs.declared.NodeId.{NodeId}
use Rattle.am_office_entries.specs.declared.Actor.{Actor}
use Rattle.am_office_entries.specs.declared.Call.{Call}
use Rattle.am_office_entries.specs.declared.Call.TheVariants as Calls
use Rattle.am_office_entries.specs.declared.Event.{Event}
use Rattle.am_office_entries.specs.declared.Event.TheVariants as Events
use Rattle.am_office_entries.specs.declared.Outcome.{Outcome}
use Rattle.am_office_entries.specs.declared.Outcome.TheVariants as Out
use Rattle.am_office_entries.specs.declared.Entry.{Entry}
use Rattle.am_office_entries.specs.Entries.{accepted_of, accepted_in, run_in}
use Rattle.am_model.specs.declared.Mapping.{Mapping}
use Rattle.am_model.specs.declared.Queued.{Queued}
use Rattle.am_model.specs.Endpoint.{front}
use Rattle.am_model.specs.Layout.{Layout, declared, EndSetting, IsLawful, IsSettingLawful, has_id, home, home_by}
use Rattle.am_model.specs.History.{MayFollow, IsHistory, state_of, is_in_range, is_actor_in_range, is_call_in_range, is_byte, is_eight_bytes}
use Rattle.am_model.specs.History.{are_credits_in_range}
use Rattle.am_model.specs.PostOffice.{WasAccepted, IsAcceptedBy, times, is_from, own_tag, mapping_of, mapping_set}
use Rattle.am_model.proofs.Each.{over_each, each_push}
use Rattle.am_model.proofs.Own.{last_given_push}
use Rattle.am_laws.proofs.Asked.{is_asked, knows}
use Rattle.am_laws.proofs.Delivered.{delivers, run_facts}
use Rattle.am_laws.proofs.Sent.{front_are}
use Rattle.am_laws.proofs.Alls.{all_found}
use Rattle.am_laws.proofs.Gave.{gave_back}
use Rattle.am_laws_cluster.specs.Homes.Homes.{IsAddressed}

-- an index is mapped to a declared endpoint
abbrev pub MapsAreDeclared : Layout → List Entry → Type 0
MapsAreDeclared layout past = (e : EndpointId) (index : ℕ) (mapping : Mapping) → mapping_of past e index ≡ Some mapping → declared layout mapping.name ≡ true

map_names : (layout : Layout) (actor : Actor) (end : EndpointId) (c : Call) → is_in_range layout (Events.Call actor end c) ≡ true →
    (declared layout end ≡ true) × (is_call_in_range layout c ≡ true)
map_names layout actor end c range =
    let outer = and_parts (is_actor_in_range actor && declared layout end) (is_call_in_range layout c) range in
    let inner = and_parts (is_actor_in_range actor) (declared layout end) outer.0 in
    (inner.1, outer.1)

name_declared : (layout : Layout) (a b c d : Bool) → (a && b && c && d) ≡ true → b ≡ true
name_declared layout a b c d h =
    let outer = and_parts (a && b && c) d h in
    let inner = and_parts (a && b) c outer.0 in
    (and_parts a b inner.0).1

maps_more : (layout : Layout) (past : List Entry) (x : Entry) → is_in_range layout x.event ≡ true → MapsAreDeclared layout past →
    MapsAreDeclared layout (past ++ x ∷ [])
maps_more layout past x range known e index mapping h =
    by_event x.event x.outcome range (sym (last_given_push None (λ (y : Entry). mapping_set e index y.event y.outcome) past x) ∙ h)
  where
    of_map : (t : Bool) (name : EndpointId) (new : Mapping) → new.name ≡ name → declared layout name ≡ true →
        unwrap_or (if t then Some (Some new) else None) (mapping_of past e index) ≡ Some mapping → declared layout mapping.name ≡ true
    of_map true name new is there h = let same : new ≡ mapping = cc in ap (λ (w : Mapping). declared layout w.name) (sym same) ∙ ap (declared layout) is ∙ there
    of_map false name new is there h = known e index mapping h

    of_unmap : (t : Bool) → unwrap_or (if t then Some None else None) (mapping_of past e index) ≡ Some mapping → declared layout mapping.name ≡ true
    of_unmap true h = absurd (cc)
    of_unmap false h = known e index mapping h

    by_event : (event : Event) (o : Outcome) → is_in_range layout event ≡ true →
        unwrap_or (mapping_set e index event o) (mapping_of past e index) ≡ Some mapping → declared layout mapping.name ≡ true
    by_event (Events.Call actor end (Calls.Map at name tag credits)) Out.Done r h =
        of_map (same_end e end && (index == at)) name (record { name = name; tag = tag; credits = credits }) refl
        (name_declared layout (is_byte at) (declared layout name) (is_eight_bytes tag.0) (are_credits_in_range layout.pool credits)
        (map_names layout actor end (Calls.Map at name tag credits) r).1) h
    by_event (Events.Call actor end (Calls.Unmap at)) Out.Done r h = of_unmap (same_end e end && (index == at)) h
    by_event event o r h = known e index mapping h

-- what was accepted is addressed
abbrev pub AreAddressed : Layout → List Entry → Type 0
AreAddressed layout past = (m : Message) → WasAccepted past m → IsAddressed layout m

accepted_addressed : (layout : Layout) (past : List Entry) (event : Event) (o : Outcome) (m : Message) → MapsAreDeclared layout past →
    is_in_range layout event ≡ true → IsAcceptedBy layout past event o → ((request : Message) → run_in event o ≡ Some request → IsAddressed layout request) →
    accepted_in event o ≡ Some m → IsAddressed layout m
accepted_addressed layout past (Events.Call actor end (Calls.Request index handler words)) (Out.Requested n) m maps range asked ran is =
    let same : n ≡ m = cc in subst (IsAddressed layout) same (of_request (mapping_of past end index) refl asked)
  where
    of_request : (w : Option Mapping) → mapping_of past end index ≡ w → MatchOption w ⊥ (λ mapping. n ≡ record {
      serial = record { source = end; count = times accepted_of (is_from end) past + 1 };
      kind = Kind.Request;
      dest = mapping.name;
      tag = mapping.tag;
      reply_tag = own_tag layout past end;
      handler = handler;
      words = words;
      about = None;
    }) → IsAddressed layout n
    of_request None e a = absurd a
    of_request (Some mapping) e a = record {
      source = ap (λ (w : Message). declared layout w.serial.source) a ∙ (map_names layout actor end (Calls.Request index handler words) range).0;
      dest = ap (λ (w : Message). declared layout w.dest) a ∙ maps end index mapping e;
    }
accepted_addressed layout past (Events.Call actor end Calls.Poll) (Out.Ran handler request (Some reply)) m maps range asked ran is =
    let same : reply ≡ m = cc in
    subst (IsAddressed layout) same
    (record {
      source = ap (λ (s : Serial). declared layout s.source) asked.serial ∙ (map_names layout actor end Calls.Poll range).0;
      dest = ap (declared layout) asked.dest ∙ (ran request refl).source;
    })
accepted_addressed layout past event o m maps range asked ran is = absurd (cc)

pub record Addresses (layout : Layout) (past : List Entry) : Type 0 where
  pub history : IsHistory layout past
  pub maps : MapsAreDeclared layout past
  pub messages : AreAddressed layout past

addresses_more : (layout : Layout) (past : List Entry) (x : Entry) → Addresses layout past → MayFollow layout past x → Addresses layout (past ++ x ∷ [])
addresses_more layout past x a may =
    record {
      history = each_push (MayFollow layout) [] past x a.history may;
      maps = maps_more layout past x may.in_range a.maps;
      messages = λ m h. ⊎_elim (a.messages m) (now m) (gave_back accepted_of past x m h);
    }
  where
    now : (m : Message) → accepted_of x ≡ Some m → IsAddressed layout m
    now m is =
        accepted_addressed layout past x.event x.outcome m a.maps may.in_range (is_asked layout past x (knows layout past a.history) may)
        (λ request ran. a.messages request (run_facts layout past x (delivers layout past a.history) may request ran).held.held.accepted) is

pub addresses : (layout : Layout) (past : List Entry) → IsHistory layout past → Addresses layout past
addresses layout past h =
    over_each (MayFollow layout) (Addresses layout) (λ xs x a may. addresses_more layout xs x a may) [] past
    (record { history = tt; maps = λ e index mapping is. absurd (cc); messages = λ m is. absurd (cc) }) h

pub messages_addressed : (layout : Layout) (past : List Entry) → IsHistory layout past → (m : Message) → WasAccepted past m → IsAddressed layout m
messages_addressed layout past h m is = (addresses layout past h).messages m is

pub front_addressed : (layout : Layout) (past : List Entry) → IsHistory layout past → (e : EndpointId) (q : Queued) → front (state_of layout past e) ≡ Some q →
    IsAddressed layout q.message
front_addressed layout past h e q is = messages_addressed layout past h q.message (front_are (WasAccepted past) (state_of layout past e) q is
    ((delivers layout past h).sent e))

pub home_found : (layout : Layout) → IsLawful layout → (o : Option EndSetting) (e : EndpointId) (node : NodeId) → find (has_id e) layout.ends ≡ o →
    home_by o ≡ Some node → node.0 < layout.nodes
home_found layout lawful None e node is h = absurd (cc)
home_found layout lawful (Some setting) e node is h =
    let same : setting.node ≡ node = cc in
    let at : setting.node.0 < layout.nodes = (all_found (IsSettingLawful layout) (has_id e) layout.ends setting is lawful.ends).node in
    subst (λ (n : NodeId). n.0 < layout.nodes) same at

pub home_below : (layout : Layout) → IsLawful layout → (e : EndpointId) (node : NodeId) → home layout e ≡ Some node → node.0 < layout.nodes
home_below layout lawful e node h = home_found layout lawful (find (has_id e) layout.ends) e node refl h
