-- A turn adds entries of drivers, and then the entry of its event. What each turn keeps, the drain keeps.
use Rattle.std.proofs.Common.{◌≡◌, ℕ, zero, suc, ◌+◌, ◌<◌, List, [], ◌∷◌, ◌++◌, Option, Some, None, true, refl, sym, ◌∙◌, ap, subst, append_assoc, append-nil}
use Rattle.std.proofs.Common.{length-append, arith}
use Rattle.std.specs.Prelude.{length, option_map, option_and_then}
use Rattle.std.specs.List.{list_all}
use Rattle.std.proofs.lemmas.Bool.{and_parts}
use Rattle.am_office_entries.specs.declared.Actor.TheVariants.{Thread}
use Rattle.am_office_entries.specs.declared.Event.{Event}
use Rattle.am_office_entries.specs.declared.Event.TheVariants as Events
use Rattle.am_office_entries.specs.declared.Entry.{Entry}
use Rattle.am_model.specs.Layout.{Layout, home}
use Rattle.am_scenario_types.specs.Lists.{ScenarioLists}
use Rattle.am_model_scripts.specs.Layout.{layout_of}
use Rattle.am_model_scripts.specs.Links.{first_some, next_receipt}
use Rattle.am_model_scripts.specs.Standings.{standings}
use Rattle.am_model_scripts.proofs.Lists.{some_mapped}
use Rattle.am_model_drain.specs.declared.Turn.{Turn}
use Rattle.am_model_drain.specs.declared.Turn.TheVariants.{Once, Send, Make}
use Rattle.am_model_drain.specs.Made.{next_entry}
use Rattle.am_model_drain.specs.Rules.{next_time_out, next_page_in, next_send, next_call, next_poll, next_turn}
use Rattle.am_model_drain.specs.Ready.{ready, ready_dest, off_disk_at}
use Rattle.am_model_drain.specs.Drain.{after_turn, after_turns, DrainAdds}
use Rattle.am_model_drain.specs.Laws.{TurnsMakeEntries}
use Rattle.am_model_drain.proofs.Quiet.{is_driven, Quiet, same, then, ready-quiet, ready_dest-quiet, off_disk_at-quiet}

-- the event of a turn
abbrev pub event_of : Turn → Event
event_of (Once event) = event
event_of (Send node e m) = Events.Bind node e
event_of (Make c) = Events.Call (Thread c.thread) c.endpoint c.call

-- a journal with entries of drivers and the entry of an event more
pub record Grows (layout : Layout) (past : List Entry) (event : Event) (next : List Entry) : Type 0 where
  pub ready : List Entry
  pub is_ready : Quiet past ready
  pub grows : next ≡ ready ++ next_entry layout ready event ∷ []

pub turn_grows : (scenario : ScenarioLists) (past : List Entry) (t : Turn) → Grows (layout_of scenario) past (event_of t) (after_turn scenario past t)
turn_grows scenario past (Once event) = record { ready = past; is_ready = same past; grows = refl }
turn_grows scenario past (Send node e m) =
    let layout : Layout = layout_of scenario in
    let one : List Entry = ready layout scenario.keep node e e m.dest past in
    let two : List Entry = ready_dest layout scenario.keep e m.dest one in
    record {
      ready = two;
      is_ready = then past one two (ready-quiet layout scenario.keep node e e m.dest past) (ready_dest-quiet layout scenario.keep e m.dest one);
      grows = refl;
    }
turn_grows scenario past (Make c) =
    let layout : Layout = layout_of scenario in
    record {
      ready = off_disk_at (home layout c.endpoint) layout c.endpoint past;
      is_ready = off_disk_at-quiet (home layout c.endpoint) layout c.endpoint past;
      grows = refl;
    }

-- which rule gives a turn
pub data IsTurnBy (scenario : ScenarioLists) (past : List Entry) (t : Turn) : Type 0 where
  Receives : (event : Event) → next_receipt scenario past ≡ Some event → Once event ≡ t → IsTurnBy scenario past t
  TimesOut : next_receipt scenario past ≡ None → next_time_out scenario past ≡ Some t → IsTurnBy scenario past t
  PagesIn : next_receipt scenario past ≡ None → next_time_out scenario past ≡ None → next_page_in (standings (layout_of scenario) past) ≡ Some t →
      IsTurnBy scenario past t
  Sends : next_receipt scenario past ≡ None → next_time_out scenario past ≡ None → next_page_in (standings (layout_of scenario) past) ≡ None →
      next_send (standings (layout_of scenario) past) ≡ Some t → IsTurnBy scenario past t
  Makes : next_receipt scenario past ≡ None → next_time_out scenario past ≡ None → next_page_in (standings (layout_of scenario) past) ≡ None →
      next_send (standings (layout_of scenario) past) ≡ None → next_call scenario past ≡ Some t → IsTurnBy scenario past t
  Polls : next_receipt scenario past ≡ None → next_time_out scenario past ≡ None → next_page_in (standings (layout_of scenario) past) ≡ None →
      next_send (standings (layout_of scenario) past) ≡ None → next_call scenario past ≡ None → next_poll (standings (layout_of scenario) past) ≡ Some t →
      IsTurnBy scenario past t

by_rule : (scenario : ScenarioLists) (past : List Entry) (t : Turn) (r : Option Event) (o p s c l : Option Turn) → next_receipt scenario past ≡ r →
    next_time_out scenario past ≡ o → next_page_in (standings (layout_of scenario) past) ≡ p → next_send (standings (layout_of scenario) past) ≡ s →
    next_call scenario past ≡ c → next_poll (standings (layout_of scenario) past) ≡ l → first_some (option_map Once r ∷ o ∷ p ∷ s ∷ c ∷ l ∷ []) ≡ Some t →
    IsTurnBy scenario past t
by_rule scenario past t (Some event) o p s c l er eo ep es ec el e = Receives event er (cc)
by_rule scenario past t None (Some u) p s c l er eo ep es ec el e = TimesOut er (eo ∙ e)
by_rule scenario past t None None (Some u) s c l er eo ep es ec el e = PagesIn er eo (ep ∙ e)
by_rule scenario past t None None None (Some u) c l er eo ep es ec el e = Sends er eo ep (es ∙ e)
by_rule scenario past t None None None None (Some u) l er eo ep es ec el e = Makes er eo ep es (ec ∙ e)
by_rule scenario past t None None None None None (Some u) er eo ep es ec el e = Polls er eo ep es ec (el ∙ e)
by_rule scenario past t None None None None None None er eo ep es ec el e = absurd (cc)

pub turn_by : (scenario : ScenarioLists) (past : List Entry) (t : Turn) → next_turn scenario past ≡ Some t → IsTurnBy scenario past t
turn_by scenario past t e = by_rule scenario past t _ _ _ _ _ _ refl refl refl refl refl refl e

-- what each turn keeps
abbrev pub TurnKeeps : ScenarioLists → (List Entry → Type 0) → Type 0
TurnKeeps scenario P = (past : List Entry) (t : Turn) → P past → IsTurnBy scenario past t → P (after_turn scenario past t)

over_turn : (n : ℕ) (scenario : ScenarioLists) (P : List Entry → Type 0) (past journal : List Entry) (o : Option Turn) → TurnKeeps scenario P →
    next_turn scenario past ≡ o → option_and_then (after_turns n scenario) (option_map (after_turn scenario past) o) ≡ Some journal → P past →
    ((next : List Entry) → P next → after_turns n scenario next ≡ Some journal → P journal) → P journal
over_turn n scenario P past journal None keeps is e h later = absurd (cc)
over_turn n scenario P past journal (Some t) keeps is e h later = later (after_turn scenario past t) (keeps past t h (turn_by scenario past t is)) e

pub over_turns : (n : ℕ) (scenario : ScenarioLists) (P : List Entry → Type 0) → TurnKeeps scenario P → (past journal : List Entry) → P past →
    after_turns n scenario past ≡ Some journal → P journal
over_turns zero scenario P keeps past journal h e =
    let same_list : past ≡ journal = cc in
    subst P same_list h
over_turns (suc n) scenario P keeps past journal h e =
    over_turn n scenario P past journal (next_turn scenario past) keeps refl e h (λ (next : List Entry) k. over_turns n scenario P keeps next journal k)

-- what is kept by each driver's entry and by the entry of each turn's event is kept by each turn
quiet_keeps : (P : List Entry → Type 0) → ((past : List Entry) (x : Entry) → is_driven x ≡ true → P past → P (past ++ x ∷ [])) → (past added : List Entry) →
    list_all is_driven added ≡ true → P past → P (past ++ added)
quiet_keeps P step past [] driven h = subst P (sym (append-nil past)) h
quiet_keeps P step past (x ∷ xs) driven h =
    let parts = and_parts (is_driven x) (list_all is_driven xs) driven in
    subst P (append_assoc past (x ∷ []) xs) (quiet_keeps P step (past ++ x ∷ []) xs parts.1 (step past x parts.0 h))

pub ready_keeps : (P : List Entry → Type 0) → ((past : List Entry) (x : Entry) → is_driven x ≡ true → P past → P (past ++ x ∷ [])) → (past next : List Entry) →
    Quiet past next → P past → P next
ready_keeps P step past next q h = subst P (sym q.adds) (quiet_keeps P step past q.added q.driven h)

-- ---- what a turn adds

abbrev pub Extends : List Entry → List Entry → Type 0
Extends past next = (added : List Entry) × (next ≡ past ++ added)

grown_extends : (layout : Layout) (past next : List Entry) (event : Event) → Grows layout past event next → Extends past next
grown_extends layout past next event g =
    let x : List Entry = next_entry layout g.ready event ∷ [] in
    (g.is_ready.added ++ x, g.grows ∙ (ap (λ (xs : List Entry). xs ++ x) g.is_ready.adds ∙ append_assoc past g.is_ready.added x))

pub extends_on : (past next last : List Entry) → Extends past next → Extends next last → Extends past last
extends_on past next last (a, p) (b, q) = (a ++ b, q ∙ (ap (λ (xs : List Entry). xs ++ b) p ∙ append_assoc past a b))

pub turn_extends : (scenario : ScenarioLists) (past : List Entry) (t : Turn) → Extends past (after_turn scenario past t)
turn_extends scenario past t = grown_extends (layout_of scenario) past (after_turn scenario past t) (event_of t) (turn_grows scenario past t)

pub turns_extend : (n : ℕ) (scenario : ScenarioLists) (past journal : List Entry) → after_turns n scenario past ≡ Some journal → Extends past journal
turns_extend n scenario past journal e =
    over_turns n scenario (λ (next : List Entry). Extends past next) (λ (next : List Entry) (t : Turn) h is. extends_on past next (after_turn scenario next t) h
    (turn_extends scenario next t)) past journal ([], sym (append-nil past)) e

pub drain_adds : DrainAdds
drain_adds scenario past journal (n, d) = turns_extend n scenario past journal d.made

longer : (layout : Layout) (past next : List Entry) (event : Event) → Grows layout past event next → length past < length next
longer layout past next event g =
    let x : Entry = next_entry layout g.ready event in
    let whole : length next ≡ length (g.ready ++ x ∷ []) = ap length g.grows in
    let more : length g.ready ≡ length (past ++ g.is_ready.added) = ap length g.is_ready.adds in
    omega (arith, whole, more, length-append past g.is_ready.added, length-append g.ready (x ∷ []))

pub turn_longer : (scenario : ScenarioLists) (past : List Entry) (t : Turn) → length past < length (after_turn scenario past t)
turn_longer scenario past t = longer (layout_of scenario) past (after_turn scenario past t) (event_of t) (turn_grows scenario past t)

pub turns_make_entries : TurnsMakeEntries
turns_make_entries scenario past next e =
    let r = some_mapped (after_turn scenario past) (next_turn scenario past) next e in
    let more = turn_longer scenario past r.0 in
    omega (arith, more, ap length r.2)
