-- Where the plan withholds nothing, nothing is unknown.
use Rattle.std.proofs.Common.{◌≡◌, ◌⊎◌, inl, inr, ⊎_elim, ℕ, zero, suc, ◌+◌, ◌-◌, Bool, true, false, cond, ◌||◌, List, [], ◌∷◌, ◌++◌, map, length, Option, Some}
use Rattle.std.proofs.Common.{None, refl, sym, ap, ◌∙◌, subst, arith, true≢false, if◌then◌else◌}
use Rattle.std.specs.Prelude.{find, slice_get}
use Rattle.std.specs.List.{All, list_any}
use Rattle.am_names.specs.declared.NodeId.{NodeId}
use Rattle.am_names.specs.declared.Serial.{Serial}
use Rattle.am_names.specs.declared.Cause.{Cause}
use Rattle.am_names.specs.declared.Packet.{Packet}
use Rattle.am_names.specs.declared.Packet.TheVariants as Packets
use Rattle.am_office_entries.specs.declared.Event.{Event}
use Rattle.am_office_entries.specs.declared.Event.TheVariants as Events
use Rattle.am_office_entries.specs.declared.Outcome.{Outcome}
use Rattle.am_office_entries.specs.declared.Outcome.TheVariants as Out
use Rattle.am_office_entries.specs.declared.Entry.{Entry}
use Rattle.am_office_entries.specs.declared.endings.Fate.{Fate}
use Rattle.am_office_entries.specs.declared.endings.Fate.TheVariants as Fates
use Rattle.am_office_entries.specs.Entries.{unknown_in, unknown_of, is_serial}
use Rattle.am_office_entries.specs.Fates.{fate_by, causes_of, is_unknown, is_run, is_accepted, fate_of_accepted}
use Rattle.am_model.specs.Channels.{emitted}
use Rattle.am_model.specs.History.{MayFollow, IsHistory}
use Rattle.am_model.proofs.Each.{each_front}
use Rattle.am_model.proofs.Ends.{EmittedIn}
use Rattle.am_laws_cluster.proofs.Sent.{gave_emitted}
use Rattle.am_scenario_plan.specs.declared.plan.LinkFault.{LinkFault}
use Rattle.am_scenario_plan.specs.declared.plan.LinkFault.TheVariants.{Repeat}
use Rattle.am_scenario_plan.specs.declared.plan.PlanLine.{PlanLine}
use Rattle.am_scenario_plan.specs.Shape.{is_line_of, fault_in, fault_at, at_once, late_from, stamped, stamp_of, number_of, released_by, shape_after}
use Rattle.am_scenario_types.specs.Lists.{ScenarioLists}
use Rattle.am_model_scripts.specs.Layout.{layout_of}
use Rattle.am_model_scripts.specs.Links.{numbers_released}
use Rattle.am_laws_runs.specs.Turns.Endings.{is_among, IsAnsweredInVain, IsKeptBack, IsOrderly, IsWithheld, WithholdsNothing, NoneIsUnknown}
use Rattle.am_laws_runs.proofs.Withheld.{among_left, among_right, among_first}
use Rattle.am_laws_runs.proofs.TurnCounts.{counted}
use Rattle.am_laws_runs.proofs.Unknown.{expired}
use Rattle.am_model.specs.Packets.{from_of, receiver_of}

-- ---- each packet is released

-- no packet is lost or late
abbrev Passes : Option LinkFault → Type 0
Passes o = (o ≡ None) ⊎ (o ≡ Some Repeat)

pub fault_found : (plan : List PlanLine) (p : PlanLine → Bool) → All (λ (line : PlanLine). line.fault ≡ Repeat) plan → Passes (fault_in (find p plan))
fault_found [] p all = inl refl
fault_found (l ∷ ls) p all = by_test (p l) (fault_found ls p (λ i d lt. all (suc i) d (omega (arith, lt))))
  where
    by_test : (b : Bool) → Passes (fault_in (find p ls)) → Passes (fault_in (cond b (Some l) (find p ls)))
    by_test true later = inr (ap (λ (f : LinkFault). Some f) (all zero l (omega arith)))
    by_test false later = later

at_once_has : (o : Option LinkFault) (p : Packet) → Passes o → is_among (number_of p) (map number_of (at_once o p)) ≡ true
at_once_has o p h =
    ⊎_elim
    (λ (none : o ≡ None). ap (λ (l : Option LinkFault). is_among (number_of p) (map number_of (at_once l p))) none ∙ among_first (number_of p) p [] refl)
    (λ (twice : o ≡ Some Repeat). ap (λ (l : Option LinkFault). is_among (number_of p) (map number_of (at_once l p))) twice
    ∙ among_first (number_of p) p (p ∷ []) refl)
    h

pub all_come : (fault : ℕ → Option LinkFault) → ((k : ℕ) → Passes (fault k)) → (before ps : List Packet) (i : ℕ) (p : Packet) → slice_get ps i ≡ Some p →
    is_among (number_of p) (map number_of (shape_after fault before ps)) ≡ true
all_come fault passes before [] i p h = absurd (cc)
all_come fault passes before (q ∷ qs) zero p h =
    let same : q ≡ p = cc in
    among_left (number_of p) (released_by fault before q) (shape_after fault (before ++ q ∷ []) qs)
    (among_left (number_of p) (at_once (fault (length before + 1)) q) (map (stamped (stamp_of q)) (late_from fault (length before + 1) 1 before))
    (subst (λ (r : Packet). is_among (number_of r) (map number_of (at_once (fault (length before + 1)) q)) ≡ true) same
    (at_once_has (fault (length before + 1)) q (passes (length before + 1)))))
all_come fault passes before (q ∷ qs) (suc i) p h =
    among_right (number_of p) (released_by fault before q) (shape_after fault (before ++ q ∷ []) qs) (all_come fault passes (before ++ q ∷ []) qs i p h)

pub is_released : (s : ScenarioLists) (past : List Entry) → WithholdsNothing s → IsHistory (layout_of s) past → (p : Packet) → EmittedIn p past →
    is_among (number_of p) (numbers_released s (from_of p) (receiver_of p) past) ≡ true
is_released s past nothing h p there =
    all_come (fault_at s.plan (from_of p) (receiver_of p)) (λ (k : ℕ). fault_found s.plan (is_line_of (from_of p) (receiver_of p) k) nothing) []
    (emitted (from_of p) (receiver_of p) past) (number_of p - 1) p ((counted (layout_of s) past h).placed p there)

-- ---- an entry that leaves a message unknown

-- a list around an element that passes
record Around {X : Type 0} (p : X → Bool) (xs : List X) : Type 0 where
  before : List X
  here : X
  after : List X
  is : xs ≡ before ++ here ∷ after
  passes : p here ≡ true

around : {X : Type 0} (p : X → Bool) (xs : List X) → list_any p xs ≡ true → Around p xs
around p [] h = absurd (true≢false (sym h))
around {X} p (x ∷ xs) h = by_test (p x) refl h (around p xs)
  where
    by_test : (b : Bool) → p x ≡ b → (b || list_any p xs) ≡ true → (list_any p xs ≡ true → Around p xs) → Around p (x ∷ xs)
    by_test true is k later = record { before = []; here = x; after = xs; is = refl; passes = is }
    by_test false is k later =
        let a : Around p xs = later k in
        record { before = x ∷ a.before; here = a.here; after = a.after; is = ap (λ (ys : List X). x ∷ ys) a.is; passes = a.passes }

-- the time-out that leaves a message unknown
record TimesOut (event : Event) (o : Outcome) : Type 0 where
  node : NodeId
  peer : NodeId
  channel : ℕ
  serial : Serial
  event' : event ≡ Events.Expire node peer channel
  outcome' : o ≡ Out.Unknown serial

times_out : (s : Serial) (event : Event) (o : Outcome) → is_serial s (unknown_in event o) ≡ true → TimesOut event o
times_out s (Events.Expire node peer channel) (Out.Unknown serial) h = record {
  node = node;
  peer = peer;
  channel = channel;
  serial = serial;
  event' = refl;
  outcome' = refl;
}
times_out s event o h = absurd (true≢false (sym h))

-- the plan withholds nothing of a last try
none_withheld : (s : ScenarioLists) (past : List Entry) (node peer : NodeId) (channel : ℕ) (serial : Serial) → WithholdsNothing s →
    IsHistory (layout_of s) past → IsWithheld s past node peer channel serial → ⊥
none_withheld s past node peer channel serial nothing h w =
    ⊎_elim
    (λ (k : IsKeptBack s past w.parcel.from w.parcel.to w.parcel.number). true≢false (sym
    (is_released s past nothing h (Packets.Parcel w.parcel) (gave_emitted (Packets.Parcel w.parcel) past w.last.sent)) ∙ k.unreleased))
    (λ (v : IsAnsweredInVain s past w.parcel).
    true≢false (sym (is_released s past nothing h (Packets.Answer v.answer) (gave_emitted (Packets.Answer v.answer) past v.answered))
    ∙ (v.kept v.answer v.answered v.to_parcel).unreleased))
    w.kept

none_times_out : (s : ScenarioLists) (past later : List Entry) (x : Entry) → IsOrderly s (past ++ x ∷ later) → WithholdsNothing s → TimesOut x.event x.outcome →
    ⊥
none_times_out s past later x orderly nothing t =
    none_withheld s past t.node t.peer t.channel t.serial nothing (each_front (MayFollow (layout_of s)) [] past (x ∷ later) orderly.run.history)
    (expired s past later x t.node t.peer t.channel t.serial orderly t.event' t.outcome')

none_unknown : (s : ScenarioLists) (journal : List Entry) → IsOrderly s journal → WithholdsNothing s → (serial : Serial) → is_unknown journal serial ≡ true → ⊥
none_unknown s journal orderly nothing serial h =
    let a : Around (λ (x : Entry). is_serial serial (unknown_of x)) journal = around (λ (x : Entry). is_serial serial (unknown_of x)) journal h in
    none_times_out s a.before a.after a.here (subst (λ (xs : List Entry). IsOrderly s xs) a.is orderly) nothing
    (times_out serial a.here.event a.here.outcome a.passes)

-- ---- fates

fate_unknown : (causes : List Cause) (unknown ran : Bool) → (fate_by causes unknown ran ≡ Fates.Unknown) ⊎ (fate_by causes unknown ran ≡ Fates.UnknownButRan) →
    unknown ≡ true
fate_unknown causes true ran h = refl
fate_unknown (cause ∷ causes) false ran h = absurd (⊎_elim (λ (e : Fates.Returned cause ≡ Fates.Unknown). cc)
    (λ (e : Fates.Returned cause ≡ Fates.UnknownButRan). cc) h)
fate_unknown [] false true h = absurd (⊎_elim (λ (e : Fates.Ran ≡ Fates.Unknown). cc) (λ (e : Fates.Ran ≡ Fates.UnknownButRan). cc) h)
fate_unknown [] false false h = absurd (⊎_elim (λ (e : Fates.Pending ≡ Fates.Unknown). cc) (λ (e : Fates.Pending ≡ Fates.UnknownButRan). cc) h)

pub accepted_fate : (b : Bool) (f g : Fate) → (if b then Some f else None) ≡ Some g → f ≡ g
accepted_fate true f g h = cc
accepted_fate false f g h = absurd (cc)

pub none_is_unknown : NoneIsUnknown
none_is_unknown s journal orderly nothing serial = (
  λ e. none_unknown s journal orderly nothing serial (fate_unknown (causes_of journal serial) (is_unknown journal serial) (is_run journal serial)
      (inl (accepted_fate (is_accepted journal serial) (fate_of_accepted journal serial) Fates.Unknown e))),
  λ e. none_unknown s journal orderly nothing serial (fate_unknown (causes_of journal serial) (is_unknown journal serial) (is_run journal serial)
      (inr (accepted_fate (is_accepted journal serial) (fate_of_accepted journal serial) Fates.UnknownButRan e))),
)
