-- An entry that comes next is told by its line, and nothing stops that line.
use Rattle.std.proofs.Common.{◌≡◌, true, List, length, Option, Some, None, refl, sym, ap, ◌∙◌, subst, ⊎_elim}
use Rattle.am_office_entries.specs.declared.Entry.{Entry}
use Rattle.am_office_entries.specs.declared.Event.{Event}
use Rattle.am_model.specs.History.{failing, is_in_range}
use Rattle.am_model.specs.Steps.{NotEnabled, LogFull, stop}
use Rattle.am_scenario_types.specs.declared.parts.Form.{Form}
use Rattle.am_scenario_types.specs.declared.parts.Form.TheVariants.{Step, Run}
use Rattle.am_scenario_types.specs.Lists.{ScenarioLists}
use Rattle.am_scenario_types.specs.Lawful.{IsLawful}
use Rattle.am_model_scripts.specs.Layout.{layout_of}
use Rattle.am_model_drain.specs.Made.{next_entry}
use Rattle.am_check_lines.specs.Grammar.{IsLineOf, printed}
use Rattle.am_check_lines.specs.Reading.{event_of}
use Rattle.am_check_lines.proofs.Lines.{printed_lines, read_line}
use Rattle.am_check.specs.declared.faults.CheckWhat.TheVariants as Whats
use Rattle.am_check.specs.declared.faults.LineStop.{LineStop}
use Rattle.am_check.specs.declared.faults.LineStop.TheVariants as Stops
use Rattle.am_check.specs.Follows.{MayCome, IsEarly, Comes}
use Rattle.am_check.specs.Lines.{StopsLine}
use Rattle.am_check.proofs.Numbers.{numbers_of}
use Rattle.am_check.proofs.Steps.{in_range_at}

-- what stops a line is not want of memory
abbrev pub IsReason : LineStop → Type 0
IsReason Stops.NoMemory = ⊥
IsReason why = Unit {0}

pub in_range : (form : Form) (s : ScenarioLists) → IsLawful s → (past : List Entry) (event : Event) → MayCome form s past event →
    is_in_range (layout_of s) event ≡ true
in_range Step s lawful past event may = in_range_at s (layout_of s) (length past) event lawful refl may
in_range Run s lawful past event may = may.in_range

-- the line of an entry that comes tells its event
line_told : (form : Form) (s : ScenarioLists) → IsLawful s → (past : List Entry) (x : Entry) → Comes form s past x → IsLineOf (printed x) x.event
line_told form s lawful past x c = (printed_lines x).line (numbers_of s lawful x.event (in_range form s lawful past x.event c.may))

pub told_by_line : (form : Form) (s : ScenarioLists) → IsLawful s → (past : List Entry) (x : Entry) → Comes form s past x → event_of (printed x) ≡ Some x.event
told_by_line form s lawful past x c = read_line (printed x) x.event (line_told form s lawful past x c)

-- so two entries that may come have two lines
pub one_entry : (form : Form) (s : ScenarioLists) → IsLawful s → (past : List Entry) (x y : Entry) → Comes form s past x → Comes form s past y →
    printed x ≡ printed y → x ≡ y
one_entry form s lawful past x y c d same =
    let first : Some x.event ≡ Some y.event = sym (told_by_line form s lawful past x c) ∙ ap event_of same ∙ told_by_line form s lawful past y d in
    let event : x.event ≡ y.event = cc in
    c.made ∙ ap (next_entry (layout_of s) past) event ∙ sym d.made

one_event : (x : Event) (y : Event) (o : Option Event) → o ≡ Some x → o ≡ Some y → x ≡ y
one_event x y o e f = cc

-- no reason stops the line of an entry that comes
pub passes : (form : Form) (s : ScenarioLists) → IsLawful s → (past : List Entry) (x : Entry) (why : LineStop) → Comes form s past x → IsReason why →
    StopsLine form s past (printed x) why → ⊥
passes form s lawful past x (Stops.What Whats.Form) c reason p = p x.event (line_told form s lawful past x c)
passes form s lawful past x (Stops.What Whats.Follows) c reason p =
    let same : x.event ≡ p.0 = one_event x.event p.0 (event_of (printed x)) (told_by_line form s lawful past x c) (read_line (printed x) p.0 p.1) in
    let is : next_entry (layout_of s) past p.0 ≡ x = ap (next_entry (layout_of s) past) (sym same) ∙ sym c.made in
    ⊎_elim
    (λ (never : ¬ (MayCome form s past p.0)). never (subst (λ (e : Event). MayCome form s past e) same c.may))
    (λ (early : MayCome form s past p.0 × (failing (layout_of s) past p.0 ≡ None) × IsEarly form s past (next_entry (layout_of s) past p.0)). c.in_time
    (subst (λ (z : Entry). IsEarly form s past z) is early.2))
    p.2
passes form s lawful past x (Stops.What (Whats.NotEnabled condition)) c reason p =
    let same : x.event ≡ p.0 = one_event x.event p.0 (event_of (printed x)) (told_by_line form s lawful past x c) (read_line (printed x) p.0 p.1.told) in
    let none : stop (layout_of s) past p.0 ≡ None = ap (stop (layout_of s) past) (sym same) ∙ c.unstopped in
    let some : stop (layout_of s) past p.0 ≡ Some (NotEnabled condition) = p.2 in
    cc
passes form s lawful past x (Stops.LogFull part) c reason p =
    let same : x.event ≡ p.0 = one_event x.event p.0 (event_of (printed x)) (told_by_line form s lawful past x c) (read_line (printed x) p.0 p.1.told) in
    let none : stop (layout_of s) past p.0 ≡ None = ap (stop (layout_of s) past) (sym same) ∙ c.unstopped in
    let some : stop (layout_of s) past p.0 ≡ Some (LogFull part) = p.3 in
    cc
passes form s lawful past x (Stops.What Whats.Outcome) c reason p =
    let same : x.event ≡ p.0 = one_event x.event p.0 (event_of (printed x)) (told_by_line form s lawful past x c) (read_line (printed x) p.0 p.1.told) in
    p.4 (ap printed (c.made ∙ ap (next_entry (layout_of s) past) same))
passes form s lawful past x (Stops.What Whats.Tail) c reason p = p
passes form s lawful past x Stops.NoMemory c reason p = reason
