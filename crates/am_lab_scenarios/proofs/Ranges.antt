-- The events of a history may stand in a step script, whoever made them.
use Rattle.std.proofs.Common.{◌≡◌, ℕ, ◌<◌, ◌≤◌, ◌^◌, Bool, true, eqb, ltb, ◌||◌, List, [], ◌∷◌, ◌++◌, map, Option, Some, None, refl, sym, ap, ◌∙◌, inl, inr}
use Rattle.std.proofs.Common.{arith}
use Rattle.std.specs.List.{All, list_any}
use Rattle.std.proofs.lemmas.Bool.{and_parts, cases_Bool, ltb-true, leb-true}
use Rattle.std.proofs.lemmas.List.Elements.{All-nil, All-cons}
use Rattle.am_lemmas.proofs.Numbers.{eqb_commutes}
use Rattle.am_names.specs.declared.EndpointId.{EndpointId}
use Rattle.am_names.specs.declared.Words.{Words}
use Rattle.am_office_entries.specs.declared.HandlerKind.{HandlerKind}
use Rattle.am_office_entries.specs.declared.HandlerKind.TheVariants as Kinds
use Rattle.am_office_entries.specs.declared.Call.{Call}
use Rattle.am_office_entries.specs.declared.Call.TheVariants as Calls
use Rattle.am_office_entries.specs.declared.Event.{Event}
use Rattle.am_office_entries.specs.declared.Event.TheVariants as Events
use Rattle.am_office_entries.specs.declared.Entry.{Entry}
use Rattle.am_model.specs.Layout.{has_id}
use Rattle.am_model.specs.History.{EachAfter, MayFollow, is_in_range, is_call_in_range, are_words_in_range, are_credits_in_range, is_kind_in_range, is_byte}
use Rattle.am_scenario_types.specs.declared.parts.EndLine.{EndLine}
use Rattle.am_scenario_types.specs.Lists.{ScenarioLists}
use Rattle.am_scenario_types.specs.Lawful.{IsDeclared, IsWithin, AreWords, IsLawfulKind, IsLawfulCall, IsLawfulEvent, least_credits}
use Rattle.am_model_scripts.specs.Layout.{setting_of, layout_of}
use Rattle.am_lab_scenarios.specs.Spelling.Replays.{by_anyone, HistoriesAreReplayable}

declared_back : (ends : List EndLine) (id : EndpointId) → list_any (has_id id) (map setting_of ends) ≡ true → IsDeclared ends id
declared_back [] id h = absurd cc
declared_back (end ∷ ends) id h = elim (cases_Bool (eqb end.id.0 id.0)) [
  | inl t ↦ rw t refl
  | inr f ↦
      let rest : list_any (has_id id) (map setting_of ends) ≡ true =
      sym (ap (λ (b : Bool). b || list_any (has_id id) (map setting_of ends)) (eqb_commutes id.0 end.id.0 ∙ f)) ∙ h in
      rw f (declared_back ends id rest)
]

byte_back : (n : ℕ) → is_byte n ≡ true → n ≤ 255
byte_back n h = let less : n < 256 = ltb-true n 256 h in omega arith

words_back : (w : Words) → are_words_in_range w ≡ true → AreWords w
words_back w h =
    let p = and_parts _ _ h in
    let q = and_parts _ _ p.0 in
    let r = and_parts _ _ q.0 in
    (ltb-true w.a (2 ^ 64) r.0, ltb-true w.b (2 ^ 64) r.1, ltb-true w.c (2 ^ 64) q.1, ltb-true w.d (2 ^ 64) p.1)

handler_back : (n : ℕ) → ltb n 16 ≡ true → n ≤ 15
handler_back n h = let less : n < 16 = ltb-true n 16 h in omega arith

kind_back : (k : HandlerKind) → is_kind_in_range k ≡ true → IsLawfulKind k
kind_back Kinds.Note h = tt
kind_back (Kinds.Echo to) h = let p = and_parts _ _ h in (leb-true 1 to p.0, handler_back to p.1)
kind_back (Kinds.Add to) h = let p = and_parts _ _ h in (leb-true 1 to p.0, handler_back to p.1)

credits_back : (pool : Option ℕ) (credits : ℕ) → are_credits_in_range pool credits ≡ true → IsWithin (least_credits pool) 8 credits
credits_back None credits h = let p = and_parts _ _ h in (leb-true 1 credits p.0, leb-true credits 8 p.1)
credits_back (Some pool) credits h = (omega arith, leb-true credits 8 h)

call_back : (s : ScenarioLists) (c : Call) → is_call_in_range (layout_of s) c ≡ true → IsLawfulCall s.ends (least_credits s.pool) c
call_back s (Calls.Request index handler words) h =
    let p = and_parts _ _ h in
    let q = and_parts _ _ p.0 in
    (byte_back index q.0, byte_back handler q.1, words_back words p.1)
call_back s Calls.Poll h = tt
call_back s (Calls.SetTag tag) h = ltb-true tag.0 (2 ^ 64) h
call_back s (Calls.Map index name tag credits) h =
    let p = and_parts _ _ h in
    let q = and_parts _ _ p.0 in
    let r = and_parts _ _ q.0 in
    (byte_back index r.0, declared_back s.ends name r.1, ltb-true tag.0 (2 ^ 64) q.1, credits_back s.pool credits p.1)
call_back s (Calls.Unmap index) h = byte_back index h
call_back s (Calls.SetHandler index kind) h = let p = and_parts _ _ h in (byte_back index p.0, kind_back kind p.1)
call_back s (Calls.GiveUp serial) h = let p = and_parts _ _ h in (byte_back serial.source.0 p.0, ltb-true serial.count (2 ^ 32) p.1)
call_back s Calls.Close h = tt
call_back s (Calls.Test mask) h = tt

number_back : (n : ℕ) → ltb n (2 ^ 32) ≡ true → n ≤ 0xffff_ffff
number_back n h = let less : n < 2 ^ 32 = ltb-true n (2 ^ 32) h in omega arith

event_back : (s : ScenarioLists) (e : Event) → is_in_range (layout_of s) e ≡ true →
    IsLawfulEvent s.ends s.nodes s.frames s.channels (least_credits s.pool) (by_anyone e)
unfolding by_anyone
event_back s (Events.Call actor end call) h =
    let p = and_parts _ _ h in
    let q = and_parts _ _ p.0 in
    (refl, declared_back s.ends end q.1, call_back s call p.1)
event_back s (Events.Want actor end) h = let p = and_parts _ _ h in (refl, declared_back s.ends end p.1)
event_back s (Events.Carry end) h = declared_back s.ends end h
event_back s (Events.Bind node end) h = let p = and_parts _ _ h in (ltb-true node.0 s.nodes p.1, declared_back s.ends end p.0)
event_back s (Events.Expire node peer channel) h =
    let p = and_parts _ _ h in
    let q = and_parts _ _ p.0 in
    (ltb-true node.0 s.nodes q.0, ltb-true peer.0 s.nodes q.1, ltb-true channel s.channels p.1)
event_back s (Events.Receive node peer number) h =
    let p = and_parts _ _ h in
    let q = and_parts _ _ p.0 in
    let r = and_parts _ _ q.0 in
    (ltb-true node.0 s.nodes r.0, ltb-true peer.0 s.nodes r.1, (leb-true 1 number q.1, number_back number p.1))
event_back s (Events.Drain node end) h = let p = and_parts _ _ h in (ltb-true node.0 s.nodes p.1, declared_back s.ends end p.0)
event_back s (Events.Unload node end) h = let p = and_parts _ _ h in (ltb-true node.0 s.nodes p.1, declared_back s.ends end p.0)
event_back s (Events.Load node end frame) h =
    let p = and_parts _ _ h in
    let q = and_parts _ _ p.0 in
    (ltb-true node.0 s.nodes q.1, declared_back s.ends end q.0, ltb-true frame s.frames p.1)
event_back s (Events.PageOut node end) h = let p = and_parts _ _ h in (ltb-true node.0 s.nodes p.1, declared_back s.ends end p.0)
event_back s (Events.PageIn node end) h = let p = and_parts _ _ h in (ltb-true node.0 s.nodes p.1, declared_back s.ends end p.0)

abbrev MayStand : ScenarioLists → Entry → Type 0
MayStand s x = IsLawfulEvent s.ends s.nodes s.frames s.channels (least_credits s.pool) (by_anyone x.event)

each_may : (s : ScenarioLists) (past journal : List Entry) → EachAfter (MayFollow (layout_of s)) past journal → All (MayStand s) journal
each_may s past [] h = All-nil (MayStand s)
each_may s past (x ∷ xs) h = All-cons (MayStand s) x xs (event_back s x.event h.0.in_range) (each_may s (past ++ x ∷ []) xs h.1)

pub replayable : HistoriesAreReplayable
replayable s journal history few = record { events = each_may s [] journal history; count = few }
