-- A book that an entry was added to is a book again.
use Rattle.std.proofs.Common.{◌≡◌, ◌↔◌, ℕ, true, false, ◌+◌, ◌<◌, max, [], ◌∷◌, ◌++◌, length, Option, Some, None, Result, Ok, Err, IfOk, OnErr, inl, refl, sym}
use Rattle.std.proofs.Common.{ap, ◌∙◌, arith}
use Rattle.am_names.specs.declared.EndpointId.{EndpointId}
use Rattle.am_office_entries.specs.declared.Actor.{Actor}
use Rattle.am_office_entries.specs.declared.Event.{Event}
use Rattle.am_office_entries.specs.declared.Event.TheVariants as Events
use Rattle.am_office_entries.specs.declared.Entry.{Entry}
use Rattle.am_endpoint.specs.View.{EndpointView, state_after}
use Rattle.am_model.specs.Parts.{last_stamp}
use Rattle.am_endpoint.specs.declared.settings.EndFault.{EndFault}
use Rattle.am_endpoint.specs.declared.settings.EndFault.TheVariants as Faults
use Rattle.am_model.specs.Endpoint.{State, is_on_disk}
use Rattle.am_workers_laws.specs.Phases.Lying.{keeps_body, keeps_on_disk}
use Rattle.am_workers_laws.specs.Books.Books.{IsBook}
use Rattle.am_workers_laws.proofs.BooksKept.{grown_book, here_keeps, kept_keeps, same_book}
use Rattle.am_office_entries.specs.declared.Condition.{Condition}
use Rattle.am_office_entries.specs.declared.Part.{Part}
use Rattle.am_office_entries.specs.declared.Part.TheVariants as Parts
use Rattle.am_model_parts.specs.declared.work.Work.{Work}
use Rattle.am_iface.specs.Turns.{stamp_after}
use Rattle.am_model_parts.specs.Interface.{stamp_in}
use Rattle.am_iface.specs.View.{InterfaceView}
use Rattle.am_iface.specs.With.{IsFullOf}
use Rattle.am_iface.specs.declared.Turned.{Turned}
use Rattle.am_model.specs.declared.EntryFault.{EntryFault}
use Rattle.am_model.specs.declared.EntryFault.TheVariants as EntryFaults

-- a book after a call or a want, whatever it answers
pub called_book : (e f : EndpointView) (r : Result Entry EndFault) (clock : ℕ) → IsBook e → f.settings ≡ e.settings →
    IfOk r (λ (x : Entry). f.log ≡ e.log ++ x ∷ []) → OnErr r (f.log ≡ e.log)
    → ((r ≡ Err Faults.LogFull) ↔ (length e.log ≡ e.settings.log)) → IfOk r (λ (x : Entry). x.stamp ≡ 1 + max clock (last_stamp e.log)) →
    IfOk r (λ (x : Entry). keeps_on_disk (state_after e) x ≡ true) → IsBook f
called_book e f (Ok x) clock b set log same full stamped keeps =
    grown_book e f x b set log (λ h. absurd (let bad : ◌≡◌ {A = Result Entry EndFault} (Ok x) (Err Faults.LogFull) = full.1 h in cc))
    (let s : x.stamp ≡ 1 + max clock (last_stamp e.log) = stamped in omega arith) keeps
called_book e f (Err fault) clock b set log same full stamped keeps = same_book e f b set same

-- want of memory is told only where the log isn't full
pub not_full : (r : Result Entry EndFault) (P : Type 0) → r ≡ Err Faults.NoMemory → ((r ≡ Err Faults.LogFull) ↔ P) → P → ⊥
not_full r P is full h = let bad : ◌≡◌ {A = Result Entry EndFault} (Err Faults.NoMemory) (Err Faults.LogFull) = sym is ∙ full.1 h in cc

pub call_keeps : (s : State) (r : Result Entry EndFault) → is_on_disk s.head.place ≡ false → IfOk r (λ (x : Entry). keeps_on_disk s x ≡ true)
call_keeps s (Ok x) here = here_keeps s x here
call_keeps s (Err fault) here = tt

pub want_keeps : (s : State) (r : Result Entry EndFault) (actor : Actor) (end : EndpointId) → IfOk r (λ (x : Entry). x.event ≡ Events.Want actor end) →
    IfOk r (λ (x : Entry). keeps_on_disk s x ≡ true)
want_keeps s (Ok x) actor end is = kept_keeps s x (ap (λ (v : Event). keeps_body v x.outcome) is)
want_keeps s (Err fault) actor end is = tt

-- ---- a book after an interface's work

-- the first condition that fails, where the turn did its work
abbrev pub TellsDisabled : Result Turned EntryFault → Option Condition → Type 0
TellsDisabled r failing = (c : Condition) → (r ≡ Err (EntryFaults.NotEnabled c)) ↔ (failing ≡ Some c)

abbrev pub TellsFull : Result Turned EntryFault → Option Condition → (Part → Type 0) → Type 0
TellsFull r failing Full = (p : Part) → (r ≡ Err (EntryFaults.LogFull p)) ↔ ((failing ≡ None) × Full p)

pub enabled_done : (t : Turned) (failing : Option Condition) → TellsDisabled (Ok t) failing → failing ≡ None
enabled_done t None disabled = refl
enabled_done t (Some c) disabled = absurd (let bad : ◌≡◌ {A = Result Turned EntryFault} (Ok t) (Err (EntryFaults.NotEnabled c)) = (disabled c).1 refl in cc)

pub enabled_starved : (failing : Option Condition) → TellsDisabled (Err EntryFaults.NoMemory) failing → failing ≡ None
enabled_starved None disabled = refl
enabled_starved (Some c) disabled = absurd (let bad : ◌≡◌ {A = Result Turned EntryFault} (Err EntryFaults.NoMemory) (Err (EntryFaults.NotEnabled c)) =
    (disabled c).1 refl in cc)

full_none : (t : Turned) (failing : Option Condition) (Full : Part → Type 0) (p : Part) → TellsDisabled (Ok t) failing → TellsFull (Ok t) failing Full →
    Full p → ⊥
full_none t failing Full p disabled full h = let bad : ◌≡◌ {A = Result Turned EntryFault} (Ok t) (Err (EntryFaults.LogFull p)) =
    (full p).1 (enabled_done t failing disabled, h) in cc

pub worked_book : (e f : EndpointView) (i : InterfaceView) (w : Work) (r : Result Turned EntryFault) (failing : Option Condition) → IsBook e →
    f.settings ≡ e.settings → IfOk r (λ (t : Turned). f.log ≡ e.log ++ t.entry ∷ []) → OnErr r (f.log ≡ e.log)
    → TellsDisabled r failing → TellsFull r failing (IsFullOf i e) → IfOk r (λ (t : Turned). t.entry.stamp ≡ stamp_after (max 0 (last_stamp e.log)) i.log w) →
    IfOk r (λ (t : Turned). keeps_on_disk (state_after e) t.entry ≡ true) → IsBook f
worked_book e f i w (Ok t) failing b set log same disabled full stamped keeps =
    grown_book e f t.entry b set log (λ h. full_none t failing (IsFullOf i e) (Parts.Endpoint e.settings.id) disabled full (inl (refl, h)))
    (above (last_stamp e.log) (last_stamp i.log) (stamp_in w) t.entry.stamp stamped) keeps
  where
    above : (n l s stamp : ℕ) → stamp ≡ 1 + max (max (max 0 n) l) s → n < stamp
    above n l s stamp is = omega arith
worked_book e f i w (Err fault) failing b set log same disabled full stamped keeps = same_book e f b set same
