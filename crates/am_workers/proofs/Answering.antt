-- What a turn answers, by what it found.
use Rattle.std.proofs.Common.{◌≡◌, ℕ, ◌<◌, ◌^◌, max, false, List, [], ◌∷◌, sym, ap, ◌∙◌, subst, true≢false}
use Rattle.am_office_entries.specs.declared.Call.{Call}
use Rattle.am_office_entries.specs.declared.Entry.{Entry}
use Rattle.am_endpoint_body.specs.declared.settings.EndSettings.{EndSettings}
use Rattle.am_endpoint.specs.View.{state_by}
use Rattle.am_model.specs.Endpoint.{is_on_disk}
use Rattle.am_model.specs.Parts.{last_stamp}
use Rattle.am_workers_laws.specs.Phases.Lying.{moves_by}
use Rattle.am_places.specs.Rule.{joined}
use Rattle.am_places.specs.declared.board.Tenure.{Tenure}
use Rattle.am_workers_laws.specs.Invariants.Seats.{EndPass, Stayed, Stays}
use Rattle.am_workers.specs.Turns.Turns.{IsCallDue, ThreadFound, ThreadTurns, made_in}
use Rattle.am_workers.specs.declared.turns.turns.ThreadTurn.{ThreadTurn}
use Rattle.am_workers.specs.declared.turns.turns.ThreadTurn.TheVariants as Turns
use Rattle.am_workers_laws.proofs.Staying.{AreStill}

pub still_made : (thread : ℕ) (call : Call) (clock : ℕ) (turn : ThreadTurn) (set : EndSettings) (log : List Entry) →
    ThreadFound thread call clock turn set log → AreStill (made_in turn)
still_made thread call clock (Turns.Made x) set log h = (ap moves_by h.event, tt)
still_made thread call clock (Turns.Wanted x) set log h = (ap moves_by h.event, tt)
still_made thread call clock (Turns.Busy holder) set log h = tt
still_made thread call clock Turns.Waits set log h = tt
still_made thread call clock Turns.Full set log h = tt
still_made thread call clock Turns.Spent set log h = tt
still_made thread call clock Turns.NoMemory set log h = tt

-- ---- a call is due

pub due_here : (clock : ℕ) (set : EndSettings) (log : List Entry) → is_on_disk (state_by set log).head.place ≡ false → max clock (last_stamp log) < 2 ^ 63 →
    IsCallDue clock set log
due_here clock set log here low = record { unwanted = λ on. absurd (true≢false (sym on ∙ here)); low = low }

pub due_away : (clock : ℕ) (set : EndSettings) (log : List Entry) → (state_by set log).head.wanted ≡ false → max clock (last_stamp log) < 2 ^ 63 →
    IsCallDue clock set log
due_away clock set log unwanted low = record { unwanted = λ on. unwanted; low = low }

-- ---- a stay

pub why_stayed : (k : ℕ) (new : List Entry) (Why : EndSettings → List Entry →
    Type 0) (v w : EndPass) (set : EndSettings) (place : ℕ) (log : List (Tenure Entry)) (past : List Entry) → Stays k set place log new v w →
    joined log ≡ past → Why set past → Stayed k new Why v w
why_stayed k new Why v w set place log past stays is why = record { set = set; place = place; log = log; stays = stays; why = subst (Why set) (sym is) why }

pub thread_turned : (k thread : ℕ) (call : Call) (clock : ℕ) (turn : ThreadTurn) (v w : EndPass) (set : EndSettings) (place : ℕ) (log : List (Tenure Entry))
    (past : List Entry) → Stays k set place log (made_in turn) v w → joined log ≡ past
    → ThreadFound thread call clock turn set past → ThreadTurns k thread call clock v w turn
thread_turned k thread call clock (Turns.Made x) v w set place log past stays is found =
    why_stayed k (x ∷ []) (ThreadFound thread call clock (Turns.Made x)) v w set place log past stays is found
thread_turned k thread call clock (Turns.Wanted x) v w set place log past stays is found =
    why_stayed k (x ∷ []) (ThreadFound thread call clock (Turns.Wanted x)) v w set place log past stays is found
thread_turned k thread call clock (Turns.Busy holder) v w set place log past stays is found = absurd found
thread_turned k thread call clock Turns.Waits v w set place log past stays is found =
    why_stayed k [] (ThreadFound thread call clock Turns.Waits) v w set place log past stays is found
thread_turned k thread call clock Turns.Full v w set place log past stays is found =
    why_stayed k [] (ThreadFound thread call clock Turns.Full) v w set place log past stays is found
thread_turned k thread call clock Turns.Spent v w set place log past stays is found =
    why_stayed k [] (ThreadFound thread call clock Turns.Spent) v w set place log past stays is found
thread_turned k thread call clock Turns.NoMemory v w set place log past stays is found =
    why_stayed k [] (ThreadFound thread call clock Turns.NoMemory) v w set place log past stays is found
