-- A lawful scenario begins in a lawful layout, and its events are in range.
use Rattle.std.specs.Prelude.{IsSome, IfSome, IsTrue, is_some, slice_index_or, nat_le, nat_lt, count_by}
use Rattle.std.specs.List.{All, AllPairs, list_any, find}
use Rattle.std.specs.Option.{option_map}
use Rattle.std.proofs.Common.{◌≡◌, ℕ, zero, suc, ◌+◌, ◌<◌, ◌≤◌, ◌^◌, ◌==◌, Bool, true, false, cond, ◌||◌, ◌&&◌, List, [], ◌∷◌, map, length, Option, Some, None}
use Rattle.std.proofs.Common.{refl, sym, ap, ◌∙◌, arith, eqb-true, lt-ltb}
use Rattle.std.proofs.lemmas.Bool.{le-leb, and_from}
use Rattle.std.proofs.lemmas.List.Sums.{sum_by-cons}
use Rattle.am_lemmas.proofs.Numbers.{eqb_less, eqb_commutes}
use Rattle.am_names.specs.declared.EndpointId.{EndpointId}
use Rattle.am_names.specs.declared.NodeId.{NodeId}
use Rattle.am_names.specs.declared.Words.{Words}
use Rattle.am_names.specs.Names.{same_end, same_node}
use Rattle.am_office_entries.specs.declared.Actor.{Actor}
use Rattle.am_office_entries.specs.declared.Actor.TheVariants.{Outside}
use Rattle.am_office_entries.specs.declared.HandlerKind.{HandlerKind}
use Rattle.am_office_entries.specs.declared.HandlerKind.TheVariants.{Note, Echo, Add}
use Rattle.am_office_entries.specs.declared.Call.{Call}
use Rattle.am_office_entries.specs.declared.Call.TheVariants as Calls
use Rattle.am_office_entries.specs.declared.Event.{Event}
use Rattle.am_office_entries.specs.declared.Event.TheVariants as Events
use Rattle.am_scenario_types.specs.declared.parts.EndLine.{EndLine}
use Rattle.am_scenario_types.specs.declared.parts.FaultLine.{FaultLine}
use Rattle.am_scenario_types.specs.declared.parts.Network.{Network}
use Rattle.am_scenario_types.specs.declared.parts.Network.TheVariants as Networks
use Rattle.am_scenario_types.specs.declared.parts.StepLine.{StepLine}
use Rattle.am_scenario_types.specs.Lists.{ScenarioLists}
use Rattle.am_scenario_types.specs.Lawful as lawful
use Rattle.am_model.specs.Layout.{EndSetting, Fault, AllAre, AreApart, IsSettingLawful, IsFaultLawful, IsPoolLawful, IsLawful, has_id, declared}
use Rattle.am_model.specs.History.{is_in_range, is_call_in_range, is_actor_in_range, are_words_in_range, are_credits_in_range, is_kind_in_range, is_byte}
use Rattle.am_model_scripts.specs.Steps.Laws.{AreInRange}
use Rattle.am_model_scripts.specs.Layout.{is_direct, setting_of, fault_of, layout_of, events_of}

-- ---- each and each two

pub each_of : {X Y : Type 0} (P : X → Type 0) (Q : Y → Type 0) (f : X → Y) → ((x : X) → P x → Q (f x)) → (xs : List X) → All P xs → AllAre Q (map f xs)
each_of P Q f step [] h = tt
each_of P Q f step (x ∷ xs) h = (step x (h zero x (omega arith)), each_of P Q f step xs (λ k d lt. h (suc k) d (omega (arith, lt))))

none_same : {X Y : Type 0} (R : X → X → Type 0) (same : Y → Y → Bool) (f : X → Y) → ((a b : X) → R a b → same (f a) (f b) ≡ false) → (x : X) (xs : List X) →
    ((j : ℕ) (d : X) → j < length xs → R x (slice_index_or xs j d)) → list_any (same (f x)) (map f xs) ≡ false
none_same R same f step x [] h = refl
none_same R same f step x (y ∷ ys) h =
    λ i. step x y (h zero y (omega arith)) i || none_same R same f step x ys (λ j d lt. h (suc j) d (omega (arith, lt))) i

pub apart_of : {X Y : Type 0} (R : X → X → Type 0) (same : Y → Y → Bool) (f : X → Y) → ((a b : X) → R a b → same (f a) (f b) ≡ false) → (xs : List X) →
    AllPairs R xs → AreApart same (map f xs)
apart_of R same f step [] h = tt
apart_of R same f step (x ∷ xs) h = (
  none_same R same f step x xs (λ j d lt. h zero (suc j) d (omega arith) (omega (arith, lt))),
  apart_of R same f step xs (λ i j d lt le. h (suc i) (suc j) d (omega (arith, lt)) (omega (arith, le))),
)

-- ---- tests on numbers

-- ---- the layout

pool_lawful : (pool : Option ℕ) → IfSome pool (λ p. p ≤ 32) → IsPoolLawful pool
pool_lawful None h = tt
pool_lawful (Some pool) h = h

disk_lawful : (network : Network) (disk : Bool) → (IsTrue disk → network ≡ Networks.Packet) → is_direct network ≡ true → disk ≡ false
disk_lawful network false h direct = refl
disk_lawful network true h direct =
    let packet : is_direct network ≡ false = ap is_direct (h refl) in
    absurd (cc)

count_ends : (node : NodeId) (ends : List EndLine) → count_by (λ (s : EndSetting). same_node node s.node) (map setting_of ends) ≡ count_by
    (λ (end : EndLine). end.node.0 == node.0) ends
count_ends node [] = refl
count_ends node (end ∷ ends) =
    sum_by-cons (λ (s : EndSetting). cond (same_node node s.node) 1 0) (setting_of end) (map setting_of ends)
    ∙ (λ i. cond (eqb_commutes node.0 end.node.0 i) 1 0 + count_ends node ends i)
    ∙ sym (sum_by-cons (λ (e : EndLine). cond (e.node.0 == node.0) 1 0) end ends)

same_call : (a b : FaultLine) → ¬ lawful.IsSamePageCall a b → (same_node a.node b.node && (a.number == b.number)) ≡ false
same_call a b apart = by_tests (a.node.0 == b.node.0) (a.number == b.number) refl refl
  where
    by_tests : (s t : Bool) → (a.node.0 == b.node.0) ≡ s → (a.number == b.number) ≡ t → (s && t) ≡ false
    by_tests true true is at = absurd (apart (eqb-true a.node.0 b.node.0 is, eqb-true a.number b.number at))
    by_tests true false is at = refl
    by_tests false t is at = refl

length_faults : (xs : List FaultLine) → length (map fault_of xs) ≡ length xs
length_faults [] = refl
length_faults (x ∷ xs) = ap suc (length_faults xs)

pub lawful_layout : (s : ScenarioLists) → lawful.IsLawful s → IsLawful (layout_of s)
lawful_layout s h =
    record {
      nodes = h.settings.nodes;
      frames = h.settings.frames;
      channels = h.settings.channels;
      tries = h.settings.tries;
      bounces = h.settings.bounces;
      pool = pool_lawful s.pool h.settings.pool;
      log = h.settings.log;
      ends =
          each_of (lawful.IsLawfulEnd s.network s.nodes) (IsSettingLawful (layout_of s)) setting_of
          (λ end e. record {
            id = (let low = e.id in omega (arith, low));
            node = e.node;
            tag = e.tag;
            disk = disk_lawful s.network end.disk e.disk;
          }) s.ends h.ends;
      ids = apart_of (λ (a b : EndLine). a.id.0 < b.id.0) (λ (a b : EndSetting). same_end a.id b.id) setting_of (λ a b lt. eqb_less a.id.0 b.id.0 lt) s.ends
          h.ends_rise;
      room = λ node. (let few = h.ends_of_a_node node.0 in let same = count_ends node s.ends in omega (arith, few, same));
      faults =
          each_of (lawful.IsLawfulFaultLine s.nodes) (IsFaultLawful (layout_of s)) fault_of
          (λ line f. record { node = f.node; number = f.number }) s.faults h.faults;
      numbers = apart_of (λ (a b : FaultLine). ¬ lawful.IsSamePageCall a b) (λ (f g : Fault). same_node f.node g.node && (f.number == g.number)) fault_of
          same_call s.faults h.faults_once;
      few = (let most = h.fault_lines in let same = length_faults s.faults in omega (arith, most, same));
    }

-- ---- events

find_declared : (ends : List EndLine) (id : EndpointId) → IsSome (option_map (λ (end : EndLine). end.node) (find (λ (end : EndLine). end.id.0 == id.0) ends)) →
    list_any (has_id id) (map setting_of ends) ≡ true
find_declared [] id h = absurd (cc)
find_declared (end ∷ ends) id h = by_test (end.id.0 == id.0) refl h (find_declared ends id)
  where
    or_true : (b : Bool) → (true || b) ≡ true
    or_true b = refl

    by_test : (t : Bool) → (end.id.0 == id.0) ≡ t → is_some (option_map (λ (e : EndLine). e.node)
        (cond t (Some end) (find (λ (e : EndLine). e.id.0 == id.0) ends))) ≡ true →
        (is_some (option_map (λ (e : EndLine). e.node) (find (λ (e : EndLine). e.id.0 == id.0) ends)) ≡ true →
        list_any (has_id id) (map setting_of ends) ≡ true) → (same_end id end.id || list_any (has_id id) (map setting_of ends)) ≡ true
    by_test true is k more = ap (λ (b : Bool). b || list_any (has_id id) (map setting_of ends)) (eqb_commutes id.0 end.id.0 ∙ is)
    by_test false is k more = ap (λ (b : Bool). b || list_any (has_id id) (map setting_of ends)) (eqb_commutes id.0 end.id.0 ∙ is) ∙ more k

pub is_declared : (s : ScenarioLists) (id : EndpointId) → lawful.IsDeclared s.ends id → declared (layout_of s) id ≡ true
is_declared s id h = find_declared s.ends id h

byte : (n : ℕ) → n ≤ 255 → is_byte n ≡ true
byte n h = lt-ltb n 256 (omega (arith, h))

words_in_range : (w : Words) → lawful.AreWords w → are_words_in_range w ≡ true
words_in_range w h = λ i. lt-ltb w.a (2 ^ 64) h.0 i && lt-ltb w.b (2 ^ 64) h.1 i && lt-ltb w.c (2 ^ 64) h.2 i && lt-ltb w.d (2 ^ 64) h.3 i

kind_in_range : (k : HandlerKind) → lawful.IsLawfulKind k → is_kind_in_range k ≡ true
kind_in_range Note h = refl
kind_in_range (Echo to) h = and_from (nat_le 1 to) (nat_lt to 16) (le-leb 1 to h.0) (lt-ltb to 16 (omega (arith, h.1)))
kind_in_range (Add to) h = and_from (nat_le 1 to) (nat_lt to 16) (le-leb 1 to h.0) (lt-ltb to 16 (omega (arith, h.1)))

credits_in_range : (pool : Option ℕ) (credits : ℕ) → lawful.IsWithin (lawful.least_credits pool) 8 credits → are_credits_in_range pool credits ≡ true
credits_in_range None credits h = and_from (nat_le 1 credits) (nat_le credits 8) (le-leb 1 credits h.0) (le-leb credits 8 h.1)
credits_in_range (Some pool) credits h = le-leb credits 8 h.1

call_in_range : (s : ScenarioLists) (c : Call) → lawful.IsLawfulCall s.ends (lawful.least_credits s.pool) c → is_call_in_range (layout_of s) c ≡ true
call_in_range s (Calls.Request index handler words) h = λ i. byte index h.0 i && byte handler h.1 i && words_in_range words h.2 i
call_in_range s Calls.Poll h = refl
call_in_range s (Calls.SetTag tag) h = lt-ltb tag.0 (2 ^ 64) h
call_in_range s (Calls.Map index name tag credits) h =
    λ i. byte index h.0 i && is_declared s name h.1 i && lt-ltb tag.0 (2 ^ 64) h.2 i && credits_in_range s.pool credits h.3 i
call_in_range s (Calls.Unmap index) h = byte index h
call_in_range s (Calls.SetHandler index kind) h = λ i. byte index h.0 i && kind_in_range kind h.1 i
call_in_range s (Calls.GiveUp serial) h = λ i. byte serial.source.0 h.0 i && lt-ltb serial.count (2 ^ 32) h.1 i
call_in_range s Calls.Close h = refl
call_in_range s (Calls.Test mask) h = refl

outside : (actor : Actor) → actor ≡ Outside → is_actor_in_range actor ≡ true
outside actor is = ap is_actor_in_range is

pub event_in_range : (s : ScenarioLists) (event : Event) → lawful.IsLawfulEvent s.ends s.nodes s.frames s.channels (lawful.least_credits s.pool) event →
    is_in_range (layout_of s) event ≡ true
event_in_range s (Events.Call actor end call) h = λ i. outside actor h.0 i && is_declared s end h.1 i && call_in_range s call h.2 i
event_in_range s (Events.Want actor end) h = λ i. outside actor h.0 i && is_declared s end h.1 i
event_in_range s (Events.Carry end) h = is_declared s end h
event_in_range s (Events.Bind node end) h = λ i. is_declared s end h.1 i && lt-ltb node.0 s.nodes h.0 i
event_in_range s (Events.Expire node peer channel) h = λ i. lt-ltb node.0 s.nodes h.0 i && lt-ltb peer.0 s.nodes h.1 i && lt-ltb channel s.channels h.2 i
event_in_range s (Events.Receive node peer number) h = λ i. lt-ltb node.0 s.nodes h.0 i && lt-ltb peer.0 s.nodes h.1 i && le-leb 1 number h.2.0 i && lt-ltb
    number (2 ^ 32) (omega (arith, h.2.1)) i
event_in_range s (Events.Drain node end) h = λ i. is_declared s end h.1 i && lt-ltb node.0 s.nodes h.0 i
event_in_range s (Events.Unload node end) h = λ i. is_declared s end h.1 i && lt-ltb node.0 s.nodes h.0 i
event_in_range s (Events.Load node end frame) h = λ i. is_declared s end h.1 i && lt-ltb node.0 s.nodes h.0 i && lt-ltb frame s.frames h.2 i
event_in_range s (Events.PageOut node end) h = λ i. is_declared s end h.1 i && lt-ltb node.0 s.nodes h.0 i
event_in_range s (Events.PageIn node end) h = λ i. is_declared s end h.1 i && lt-ltb node.0 s.nodes h.0 i

pub steps_in_range : (s : ScenarioLists) → lawful.IsLawful s → AreInRange (layout_of s) (events_of s.steps)
steps_in_range s h =
    each_of (λ (step : StepLine). lawful.IsLawfulEvent s.ends s.nodes s.frames s.channels (lawful.least_credits s.pool) step.event)
    (λ (event : Event). is_in_range (layout_of s) event ≡ true) (λ (step : StepLine). step.event) (λ step l. event_in_range s step.event l) s.steps h.steps
