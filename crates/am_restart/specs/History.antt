-- The histories of a session.
use Rattle.std.specs.Prelude.{◌≡◌, ℕ, None, List, [], ◌∷◌, ◌++◌, map}
use Rattle.am_restart.specs.declared.events.SessionEntry.{SessionEntry}
use Rattle.am_restart.specs.declared.events.SessionEvent.{SessionEvent}
use Rattle.am_restart.specs.State.{SessionState, opening, moved}
use Rattle.am_restart.specs.Moves.{failing, move_of}

-- the session after an event
abbrev pub after : SessionState → SessionEvent → SessionState
after s event = moved (move_of s event) s

-- the session after the events of these entries
abbrev pub replayed : SessionState → List SessionEntry → SessionState
replayed s [] = s
replayed s (x ∷ xs) = replayed (after s x.event) xs

-- the state of a session, of messages with so many tries, after these entries
abbrev pub state_of : ℕ → List SessionEntry → SessionState
state_of tries past = replayed (opening tries) past

-- an entry may follow in a session: its event may happen, and its outcome is what comes of it
pub record MayFollow (s : SessionState) (x : SessionEntry) : Type 0 where
  pub enabled : failing s x.event ≡ None
  pub outcome' : x.outcome ≡ (move_of s x.event).outcome

-- the same of each entry, with those before it
abbrev pub EachAfter : (List SessionEntry → SessionEntry → Type 0) → List SessionEntry → List SessionEntry → Type 0
EachAfter May past [] = Unit {0}
EachAfter May past (x ∷ xs) = May past x × EachAfter May (past ++ x ∷ []) xs

-- a whole history, from nothing
abbrev pub IsSession : ℕ → List SessionEntry → Type 0
IsSession tries entries = EachAfter (λ past x. MayFollow (state_of tries past) x) [] entries

-- the entry of an event
abbrev pub entry_of : SessionState → SessionEvent → SessionEntry
entry_of s event = record { event = event; outcome = (move_of s event).outcome }

-- the entries are those of these events, in order
abbrev pub IsOfEvents : List SessionEvent → List SessionEntry → Type 0
IsOfEvents events entries = map (λ (x : SessionEntry). x.event) entries ≡ events
