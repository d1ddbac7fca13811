-- The law of acceptance.
use Rattle.std.specs.Prelude.{nat_le, MatchOption}
use Rattle.std.proofs.Common.{◌≡◌, ℕ, ◌+◌, Bool, true, false, List, [], ◌∷◌, ◌++◌, Option, Some, None, refl, sym, ap, subst, if◌then◌else◌}
use Rattle.std.specs.List.{find}
use Rattle.am_names.specs.declared.EndpointId.{EndpointId}
use Rattle.am_names.specs.declared.Serial.{Serial}
use Rattle.am_names.specs.declared.Words.{Words}
use Rattle.am_names.specs.declared.Message.{Message}
use Rattle.am_names.specs.declared.MsgKind.TheVariants as Kind
use Rattle.am_office_entries.specs.declared.HandlerKind.{HandlerKind}
use Rattle.am_office_entries.specs.declared.HandlerKind.TheVariants.{Note, Echo, Add}
use Rattle.am_office_entries.specs.declared.Call.{Call}
use Rattle.am_office_entries.specs.declared.Call.TheVariants as Calls
use Rattle.am_office_entries.specs.declared.Event.{Event}
use Rattle.am_office_entries.specs.declared.Event.TheVariants as Events
use Rattle.am_office_entries.specs.declared.Outcome.{Outcome}
use Rattle.am_office_entries.specs.declared.Outcome.TheVariants as Out
use Rattle.am_office_entries.specs.declared.Refusal.{Refusal}
use Rattle.am_office_entries.specs.declared.Entry.{Entry}
use Rattle.am_names.specs.Names.{is_reply}
use Rattle.am_model.specs.declared.Mapping.{Mapping}
use Rattle.am_model.specs.declared.Notice.{Notice}
use Rattle.am_model.specs.Endpoint.{entry_at, replies_held}
use Rattle.am_model.specs.Calls.{outcome_of_call, unless, request_refusal, new_request, request_message, answer, poll, poll_received, poll_requests}
use Rattle.am_office_entries.specs.Entries.{accepted_of}
use Rattle.am_model.specs.Layout.{Layout}
use Rattle.am_model.specs.History.{state_of, MayFollow, IsHistory, outcome_of}
use Rattle.am_model.specs.PostOffice.{times, is_from, own_tag, mapping_of, IsReplyTo, IsAcceptedSo, IsAcceptedBy, IsAcceptedAsAsked, AcceptedOnce}
use Rattle.am_model.proofs.Each.{over_each, each_has}
use Rattle.am_model.proofs.Own.{TagKept, tag_more}
use Rattle.am_laws.proofs.Once.{SerialsOnce, accepted_once_more, opening_counted, next_counts}
use Rattle.am_laws.proofs.Mapped.{IsMapped, mapped_more, mapped_begin}

-- what an endpoint knows of its own calls
pub record KnowsCalls (layout : Layout) (past : List Entry) : Type 0 where
  pub serials : SerialsOnce layout past
  pub tag : TagKept layout past
  pub mapped : IsMapped layout past

pub knows_more : (layout : Layout) (past : List Entry) (x : Entry) → KnowsCalls layout past → MayFollow layout past x → KnowsCalls layout (past ++ x ∷ [])
knows_more layout past x k may =
    record { serials = accepted_once_more layout past x k.serials may; tag = tag_more layout past x k.tag; mapped = mapped_more layout past x k.mapped may }

pub knows_begin : (layout : Layout) → KnowsCalls layout []
knows_begin layout = record { serials = opening_counted layout; tag = λ e. refl; mapped = mapped_begin layout }

next_is : (layout : Layout) (past : List Entry) → KnowsCalls layout past → (e : EndpointId) →
    ◌≡◌ {A = Serial} (record { source = e; count = (state_of layout past e).body.accepted + 1 }) (record {
      source = e;
      count = times accepted_of (is_from e) past + 1;
    })
next_is layout past k e = ap (λ (n : ℕ). record { source = e; count = n + 1 }) (k.serials.counted e)

request_asked : (layout : Layout) (past : List Entry) → KnowsCalls layout past →
    (e : EndpointId) (index handler : ℕ) (words : Words) (r : Option Refusal) (mapping : Option Mapping) → mapping ≡ mapping_of past e index →
    IsAcceptedSo layout past e (Calls.Request index handler words) (unless r (new_request e (state_of layout past e) mapping handler words))
request_asked layout past k e index handler words (Some r) mapping is = tt
request_asked layout past k e index handler words None None is = tt
request_asked layout past k e index handler words None (Some mapping) is =
    subst (λ (w : Option Mapping). MatchOption w ⊥ (λ mp. request_message e (state_of layout past e) mapping handler words ≡ record {
      serial = record { source = e; count = times accepted_of (is_from e) past + 1 };
      kind = Kind.Request;
      dest = mp.name;
      tag = mp.tag;
      reply_tag = own_tag layout past e;
      handler = handler;
      words = words;
      about = None;
    })) is
    (λ i. record {
      serial = next_is layout past k e i;
      kind = Kind.Request;
      dest = mapping.name;
      tag = mapping.tag;
      reply_tag = k.tag e i;
      handler = handler;
      words = words;
      about = None;
    })

reply_asked : (layout : Layout) (past : List Entry) → KnowsCalls layout past → (e : EndpointId) (m : Message) (kind : Option HandlerKind) →
    IsReplyTo e past m (answer e (state_of layout past e) m kind)
reply_asked layout past k e m (Some (Echo to)) = record {
  serial = next_is layout past k e;
  kind = refl;
  dest = refl;
  tag = refl;
  reply_tag = refl;
  about = refl;
}
reply_asked layout past k e m (Some (Add to)) = record {
  serial = next_is layout past k e;
  kind = refl;
  dest = refl;
  tag = refl;
  reply_tag = refl;
  about = refl;
}
reply_asked layout past k e m (Some Note) = record { serial = next_is layout past k e; kind = refl; dest = refl; tag = refl; reply_tag = refl; about = refl }
reply_asked layout past k e m None = record { serial = next_is layout past k e; kind = refl; dest = refl; tag = refl; reply_tag = refl; about = refl }

poll_asked : (layout : Layout) (past : List Entry) → KnowsCalls layout past → (e : EndpointId) (notices : List Notice) →
    IsAcceptedSo layout past e Calls.Poll (poll e (state_of layout past e) notices)
poll_asked layout past k e (notice ∷ notices) = tt
poll_asked layout past k e [] = by_found (find is_reply (state_of layout past e).body.received)
  where
    by_full : (m : Message) (full : Bool) → IsAcceptedSo layout past e Calls.Poll (if full then Out.Blocked else Out.Ran (Some m.handler) m
        (Some (answer e (state_of layout past e) m (entry_at (state_of layout past e).body.handlers m.handler))))
    by_full m true = tt
    by_full m false = reply_asked layout past k e m (entry_at (state_of layout past e).body.handlers m.handler)

    by_list : (xs : List Message) → IsAcceptedSo layout past e Calls.Poll (poll_requests e (state_of layout past e) xs)
    by_list [] = tt
    by_list (m ∷ ms) = by_full m (nat_le 16 (replies_held (state_of layout past e).body))

    by_found : (f : Option Message) → IsAcceptedSo layout past e Calls.Poll (poll_received e (state_of layout past e) f)
    by_found (Some m) = tt
    by_found None = by_list (state_of layout past e).body.received

call_asked : (layout : Layout) (past : List Entry) → KnowsCalls layout past → (e : EndpointId) (c : Call) →
    IsAcceptedSo layout past e c (outcome_of_call layout.pool e (state_of layout past e) c)
call_asked layout past k e (Calls.Request index handler words) =
    request_asked layout past k e index handler words (request_refusal layout.pool (state_of layout past e) index)
    (entry_at (state_of layout past e).body.mapped index) (k.mapped.mapped e index)
call_asked layout past k e Calls.Poll = poll_asked layout past k e (state_of layout past e).body.notices
call_asked layout past k e (Calls.SetTag tag) = tt
call_asked layout past k e (Calls.Map index name tag credits) = tt
call_asked layout past k e (Calls.Unmap index) = tt
call_asked layout past k e (Calls.SetHandler index kind) = tt
call_asked layout past k e (Calls.GiveUp serial) = tt
call_asked layout past k e Calls.Close = tt
call_asked layout past k e (Calls.Test mask) = tt

event_asked : (layout : Layout) (past : List Entry) → KnowsCalls layout past → (event : Event) → IsAcceptedBy layout past event (outcome_of layout past event)
event_asked layout past k (Events.Call actor end call) = call_asked layout past k end call
event_asked layout past k event = tt

pub is_asked : (layout : Layout) (past : List Entry) (x : Entry) → KnowsCalls layout past → MayFollow layout past x → IsAcceptedAsAsked layout past x
is_asked layout past x k may = subst (λ (o : Outcome). IsAcceptedBy layout past x.event o) (sym may.outcome) (event_asked layout past k x.event)

pub accepted_once : (layout : Layout) (journal : List Entry) → IsHistory layout journal → AcceptedOnce layout journal
accepted_once layout journal h =
    let k : KnowsCalls layout ([] ++ journal) = over_each (MayFollow layout) (λ past. KnowsCalls layout past) (λ past x k may. knows_more layout past x k may)
    [] journal (knows_begin layout) h in
    record {
      once = k.serials.once;
      in_order = next_counts layout journal h;
      as_asked = each_has (MayFollow layout) (IsAcceptedAsAsked layout) (λ past. KnowsCalls layout past) (λ past x k may. knows_more layout past x k may)
          (λ past x k may. is_asked layout past x k may) [] journal (knows_begin layout) h;
    }

pub knows : (layout : Layout) (past : List Entry) → IsHistory layout past → KnowsCalls layout past
knows layout past h = over_each (MayFollow layout) (λ xs. KnowsCalls layout xs) (λ xs x k may. knows_more layout xs x k may) [] past (knows_begin layout) h
