-- What became of a message, and why.
use Rattle.std.specs.Prelude.{◌≡◌, ℕ, Bool, Option, Some, None, List, [], ◌++◌, codes, take, drop, if◌then◌else◌}
use Rattle.std.specs.Fmt.{decimal}
use Rattle.am_check.specs.Cut.{place_of}
use Rattle.am_check.specs.Declares.{declares}
use Rattle.am_check.specs.Follows.{IsBegun, IsEnded, ids_of}
use Rattle.am_office_text.specs.EntryLines.Lines.{line_of}
use Rattle.am_names.specs.declared.Cause.{Cause}
use Rattle.am_names.specs.declared.Cause.TheVariants as Causes
use Rattle.am_names.specs.declared.EndpointId.{EndpointId}
use Rattle.am_names.specs.declared.Serial.{Serial}
use Rattle.am_office_entries.specs.declared.Entry.{Entry}
use Rattle.am_office_entries.specs.declared.endings.Fate.{Fate}
use Rattle.am_office_entries.specs.declared.endings.Fate.TheVariants as Fates
use Rattle.am_office_entries.specs.Entries.{emitted_of}
use Rattle.am_office_entries.specs.Fates.{fate}
use Rattle.am_scenario_plan.specs.declared.plan.PlanLine.{PlanLine}
use Rattle.am_office_report.specs.Report.{report}
use Rattle.am_scenario.specs.Laws.{Spells}
use Rattle.am_scenario_types.specs.declared.parts.Form.{Form}
use Rattle.am_scenario_types.specs.Lists.{ScenarioLists}
use Rattle.am_office_text.specs.Words.{serial}
use Rattle.am_lemmas.specs.Numbered.{numbered}
use Rattle.am_lab_reasons.specs.Packets.{packet_line}
use Rattle.am_lab_reasons.specs.Touches.{touches}
use Rattle.am_lab_reasons.specs.Whereabouts.{where_is}
use Rattle.am_lab_reasons.specs.declared.whereabouts.Whereabouts.{Whereabouts}
use Rattle.am_lab_reasons.specs.declared.whereabouts.Whereabouts.TheVariants as Places

-- an entry with the number of its line, and what became of the packet that it emits
abbrev pub entry_lines : List PlanLine → List Entry → ℕ → Entry → List ℕ
entry_lines plan journal number x = codes "line " ++ decimal number ++ codes " " ++ line_of x ++ packet_line plan journal (emitted_of x)

-- an entry, if it touches a message
abbrev pub touching_lines : List PlanLine → List Entry → Serial → ℕ → Entry → List ℕ
touching_lines plan journal s number x = if touches s x then entry_lines plan journal number x else []

-- why a message was returned
unfoldable pub cause_text : Cause → List ℕ
cause_text Causes.NoEndpoint = codes "returned: its destination was closed\n"
cause_text Causes.NotResident = codes "returned: its destination was in no frame, as often as it may bounce\n"
cause_text Causes.BadTag = codes "returned: its tag did not match that of its destination\n"
cause_text Causes.BadHandler = codes "returned: its destination has no such handler\n"
cause_text Causes.QueueFull = codes "returned: its destination had no room, as often as it may bounce\n"
cause_text Causes.NoRequest = codes "returned: its destination awaits no reply to such a request\n"

-- where a message is of which nothing came
unfoldable pub place_text : Whereabouts → List ℕ
place_text Places.Waiting = codes "pending: it waits to be sent\n"
place_text Places.Underway = codes "pending: it was sent, and no answer has come\n"
place_text Places.PutBack = codes "pending: it was put back, to be sent again\n"
place_text Places.Put = codes "pending: it was put at its destination, and no poll ran it\n"

unfoldable pub fate_text : Whereabouts → Fate → List ℕ
fate_text place Fates.Ran = codes "ran: a poll at its destination ran it\n"
fate_text place (Fates.Returned cause) = cause_text cause
fate_text place Fates.Unknown = codes "unknown: its last try timed out with no answer, and no poll ran it\n"
fate_text place Fates.UnknownButRan = codes "unknown-but-ran: its last try timed out with no answer, and a poll ran it\n"
fate_text place Fates.Pending = place_text place

-- what became of a message at the end, if an entry accepts it
abbrev pub end_text : Whereabouts → Option Fate → List ℕ
end_text place None = codes "was never accepted\n"
end_text place (Some fate) = fate_text place fate

abbrev pub ending : Serial → Whereabouts → Option Fate → List ℕ
ending s place fate = codes "message " ++ serial s ++ codes " " ++ end_text place fate

-- the lines of the report that touch a message, of which the journal's first is the third, and its fate; of a pending one where it is
abbrev pub reasons : List PlanLine → List Entry → Serial → List ℕ
reasons plan journal s = numbered (touching_lines plan journal s) 3 journal ++ ending s (where_is journal s) (fate journal s)

-- What is told of a message of the report of a scenario.
pub record TellsOf (form : Form) (scenario : ScenarioLists) (bytes : List ℕ) (s : Serial) (out : List ℕ) : Type 0 where
  pub journal : List Entry
  pub begun : IsBegun form scenario journal
  pub ended : IsEnded form scenario journal
  pub report' : bytes ≡ report (ids_of scenario) journal
  pub text : out ≡ reasons scenario.plan journal s

-- What is told of a message of the report in a text: the report is that of a journal that follows the scenario in front of it.
pub record TellsReasons (form : Form) (text : List ℕ) (s : Serial) (out : List ℕ) : Type 0 where
  pub place : ℕ
  pub place' : place_of text ≡ Some place
  pub scenario : ScenarioLists
  pub spelled : Spells form (take place text) scenario
  pub told : TellsOf form scenario (drop place text) s out

-- Whether the scenario in front of the report in a text declares an endpoint.
pub record IsDeclared (form : Form) (text : List ℕ) (e : EndpointId) (declared : Bool) : Type 0 where
  pub place : ℕ
  pub place' : place_of text ≡ Some place
  pub scenario : ScenarioLists
  pub spelled : Spells form (take place text) scenario
  pub declared' : declared ≡ declares e scenario.ends
