-- What a text spells, and what its lines so far have said.
use Rattle.std.specs.Prelude.{ℕ, ◌≤◌, List, length, map, Option}
use Rattle.am_restart.specs.declared.events.SessionEvent.{SessionEvent}
use Rattle.am_session.specs.declared.script.SessionStep.{SessionStep}

-- how many tries a message has, and the events in order
pub record Script : Type 0 where
  pub tries : ℕ
  pub steps : List SessionStep

abbrev pub events_of : List SessionStep → List SessionEvent
events_of steps = map (λ (x : SessionStep). x.event) steps

-- a message has 2 to 16 tries, and there are at most 65,536 events
pub record IsPlayable (s : Script) : Type 0 where
  pub at_least : 2 ≤ s.tries
  pub at_most : s.tries ≤ 16
  pub few : length s.steps ≤ 65536

-- the section of the last line that said something, or 0; the tries, where they are said; and the events
pub record Said : Type 0 where
  pub section : ℕ
  pub tries : Option ℕ
  pub steps : List SessionStep
