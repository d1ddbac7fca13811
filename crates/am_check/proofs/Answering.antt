-- Of all answers for a text just one is right, apart from want of memory.
use Rattle.std.proofs.Common.{◌≡◌, ◌⊎◌, ℕ, ◌<◌, ◌^◌, List, length, take, drop, Option, Some, None, Result, Ok, Err, refl, sym, ap, ◌∙◌, subst, inl, inr, ⊎_elim}
use Rattle.std.proofs.Common.{arith, length-drop}
use Rattle.am_lexer.specs.Text.{lines_of}
use Rattle.am_office_report.specs.Report.{report}
use Rattle.am_scenario_types.specs.declared.parts.Form.{Form}
use Rattle.am_scenario_types.specs.declared.faults.ScenarioFault.{ScenarioFault}
use Rattle.am_scenario_types.specs.Lists.{ScenarioLists}
use Rattle.am_scenario_types.specs.Lawful.{IsLawful}
use Rattle.am_scenario.specs.Grammar.{grammar}
use Rattle.am_scenario.specs.Laws.{Spells, FirstFault, SpellsLawful}
use Rattle.am_check.specs.declared.faults.CheckWhat.TheVariants as Whats
use Rattle.am_check.specs.declared.faults.CheckStop.{CheckStop}
use Rattle.am_check.specs.declared.faults.CheckStop.TheVariants as Answers
use Rattle.am_check.specs.declared.faults.LineStop.{LineStop}
use Rattle.am_check.specs.declared.faults.LineStop.TheVariants as Stops
use Rattle.am_check.specs.Cut.{place_of}
use Rattle.am_check.specs.Exact.{AreSame, IsChecked, FitsMemory, AnswersAreExact, OneAnswer}
use Rattle.am_check.specs.Follows.{ids_of}
use Rattle.am_check.specs.Verdict.{AnswersAt, AnswersParts, AnswersReport, AnswersScenario, Checks, LacksLine, StopsAtLine, at_line, count_of}
use Rattle.am_check.proofs.Breaks.{count_is, rest_is, count_fits}
use Rattle.am_check.proofs.Coming.{IsReason}
use Rattle.am_check.proofs.Walks.{StandsAt, stands_once}

abbrev Answer : Type 0
Answer = Result (Unit {0}) CheckStop

-- ---- a report

-- the report tells no number of entries, or the checking of its lines ends somewhere, or memory is wanting
abbrev ReportView : Form → ScenarioLists → List ℕ → Answer → Type 0
ReportView form s bytes answer =
    ((count_of (lines_of bytes) ≡ None) × (answer ≡ Err (Answers.Fault 2 Whats.Form)))
    ⊎ (StandsAt form s bytes answer ⊎ (answer ≡ Err Answers.NoMemory))

stopped_view : (form : Form) (s : ScenarioLists) (bytes : List ℕ) (count number : ℕ) (why : LineStop) → IsReason why → count_of (lines_of bytes) ≡ Some count →
    StopsAtLine form s count (drop 2 (lines_of bytes)) number why → ReportView form s bytes (Err (at_line number why))
stopped_view form s bytes count number why reason is p =
    inr (inl (record {
      count = count;
      count' = is;
      journal = p.journal;
      left = _;
      reached = p.reached;
      ending = inl (
        p.more,
        inr (record {
          line = p.line;
          more = p.left;
          left' = refl;
          why = why;
          reason = reason;
          stops = p.stops;
          answer' = ap (λ (n : ℕ). Err (at_line n why)) p.number';
        }),
      );
    }))

lacking_view : (form : Form) (s : ScenarioLists) (bytes : List ℕ) (count number : ℕ) → count_of (lines_of bytes) ≡ Some count →
    LacksLine form s count (drop 2 (lines_of bytes)) number → ReportView form s bytes (Err (Answers.Fault number Whats.Form))
lacking_view form s bytes count number is p =
    inr (inl (record {
      count = count;
      count' = is;
      journal = p.journal;
      left = _;
      reached = p.reached;
      ending = inl (p.more, inl (refl, ap (λ (n : ℕ). Err (Answers.Fault n Whats.Form)) p.number'));
    }))

report_view : (form : Form) (s : ScenarioLists) (bytes : List ℕ) (answer : Answer) → FitsMemory bytes → AnswersReport form s bytes answer →
    ReportView form s bytes answer
report_view form s bytes (Ok x) fits p =
    let ids = ids_of s in
    let text : length bytes ≡ length (report ids p.journal) = ap length p.text in
    let few : length p.journal < 2 ^ 64 = omega (arith, fits, text, count_fits ids p.journal) in
    inr (inl (record {
      count = length p.journal;
      count' = ap (λ (b : List ℕ). count_of (lines_of b)) p.text ∙ count_is ids p.journal few;
      journal = p.journal;
      left = _;
      reached = record { begun = p.begun; lines' = ap (λ (b : List ℕ). drop 2 (lines_of b)) p.text ∙ rest_is ids p.journal };
      ending = inr (refl, inr (p.ended, inr (p.text, refl)));
    }))
report_view form s bytes (Err (Answers.Fault number Whats.Form)) fits (inl p) = inl (p.0, ap (λ (n : ℕ). Err (Answers.Fault n Whats.Form)) p.1)
report_view form s bytes (Err (Answers.Fault number Whats.Form)) fits (inr p) =
    ⊎_elim
    (λ (q : LacksLine form s p.count (drop 2 (lines_of bytes)) number). lacking_view form s bytes p.count number p.count' q)
    (λ (q : StopsAtLine form s p.count (drop 2 (lines_of bytes)) number (Stops.What Whats.Form)). stopped_view form s bytes p.count number
    (Stops.What Whats.Form) tt p.count' q)
    p.stops
report_view form s bytes (Err (Answers.Fault number Whats.Follows)) fits (inl p) =
    inr (inl (record {
      count = length p.journal;
      count' = p.has.count;
      journal = p.journal;
      left = p.has.left;
      reached = p.has.reached;
      ending = inr (refl, inl (p.early, ap (λ (n : ℕ). Err (Answers.Fault n Whats.Follows)) p.number'));
    }))
report_view form s bytes (Err (Answers.Fault number Whats.Follows)) fits (inr p) =
    stopped_view form s bytes p.count number (Stops.What Whats.Follows) tt p.count' p.stops
report_view form s bytes (Err (Answers.Fault number (Whats.NotEnabled condition))) fits p =
    stopped_view form s bytes p.count number (Stops.What (Whats.NotEnabled condition)) tt p.count' p.stops
report_view form s bytes (Err (Answers.Fault number Whats.Outcome)) fits p =
    stopped_view form s bytes p.count number (Stops.What Whats.Outcome) tt p.count' p.stops
report_view form s bytes (Err (Answers.Fault number Whats.Tail)) fits p =
    inr (inl (record {
      count = length p.journal;
      count' = p.has.count;
      journal = p.journal;
      left = p.has.left;
      reached = p.has.reached;
      ending = inr (refl, inr (p.ended, inl (p.other, ap (λ (n : ℕ). Err (Answers.Fault n Whats.Tail)) p.number')));
    }))
report_view form s bytes (Err (Answers.LogFull part)) fits p = stopped_view form s bytes p.count p.stops.0 (Stops.LogFull part) tt p.count' p.stops.1
report_view form s bytes (Err Answers.NoMemory) fits p = inr (inr refl)
report_view form s bytes (Err (Answers.Scenario fault)) fits p = absurd p.stops

no_count : (n : ℕ) (o : Option ℕ) → o ≡ None → o ≡ Some n → ⊥
no_count n o e f = cc

report_once : (form : Form) (s : ScenarioLists) → IsLawful s → (bytes : List ℕ) (one other : Answer) → ReportView form s bytes one →
    ReportView form s bytes other → AreSame one other
report_once form s lawful bytes one other (inr (inr p)) q = inr (inl p)
report_once form s lawful bytes one other (inl p) (inr (inr q)) = inr (inr q)
report_once form s lawful bytes one other (inr (inl p)) (inr (inr q)) = inr (inr q)
report_once form s lawful bytes one other (inl p) (inl q) = inl (p.1 ∙ sym q.1)
report_once form s lawful bytes one other (inl p) (inr (inl q)) = absurd (no_count q.count (count_of (lines_of bytes)) p.0 q.count')
report_once form s lawful bytes one other (inr (inl p)) (inl q) = absurd (no_count p.count (count_of (lines_of bytes)) q.0 p.count')
report_once form s lawful bytes one other (inr (inl p)) (inr (inl q)) = inl (stands_once form s lawful bytes one other p q)

-- ---- a text with a report

-- the text in front has a fault, or spells a scenario, or memory is wanting
abbrev PartsView : Form → List ℕ → List ℕ → Answer → Type 0
PartsView form front bytes answer =
    ((fault : ScenarioFault) × FirstFault form front fault × (answer ≡ Err (Answers.Scenario fault)))
    ⊎ (((s : ScenarioLists) × Spells form front s × AnswersReport form s bytes answer) ⊎ (answer ≡ Err Answers.NoMemory))

parts_view : (form : Form) (front bytes : List ℕ) (answer : Answer) → AnswersParts form front bytes answer → PartsView form front bytes answer
parts_view form front bytes (Ok x) p = inr (inl p)
parts_view form front bytes (Err (Answers.Scenario fault)) p = inl (fault, p, refl)
parts_view form front bytes (Err (Answers.Fault number what)) p = inr (inl p)
parts_view form front bytes (Err (Answers.LogFull part)) p = inr (inl p)
parts_view form front bytes (Err Answers.NoMemory) p = inr (inr refl)

same_fault : (a b : ScenarioFault) (r : Result ScenarioLists ScenarioFault) → r ≡ Err a → r ≡ Err b → a ≡ b
same_fault a b r e f = cc

same_scenario : (a b : ScenarioLists) (r : Result ScenarioLists ScenarioFault) → r ≡ Ok a → r ≡ Ok b → a ≡ b
same_scenario a b r e f = cc

not_both : (a : ScenarioLists) (b : ScenarioFault) (r : Result ScenarioLists ScenarioFault) → r ≡ Ok a → r ≡ Err b → ⊥
not_both a b r e f = cc

parts_once : SpellsLawful → (form : Form) (front bytes : List ℕ) (one other : Answer) → FitsMemory bytes → PartsView form front bytes one →
    PartsView form front bytes other → AreSame one other
parts_once laws form front bytes one other fits (inr (inr p)) q = inr (inl p)
parts_once laws form front bytes one other fits (inl p) (inr (inr q)) = inr (inr q)
parts_once laws form front bytes one other fits (inr (inl p)) (inr (inr q)) = inr (inr q)
parts_once laws form front bytes one other fits (inl p) (inl q) = inl (p.2
    ∙ ap (λ (f : ScenarioFault). Err (Answers.Scenario f)) (same_fault p.0 q.0 (grammar form front) p.1 q.1) ∙ sym q.2)
parts_once laws form front bytes one other fits (inl p) (inr (inl q)) = absurd (not_both q.0 p.0 (grammar form front) q.1 p.1)
parts_once laws form front bytes one other fits (inr (inl p)) (inl q) = absurd (not_both p.0 q.0 (grammar form front) p.1 q.1)
parts_once laws form front bytes one other fits (inr (inl p)) (inr (inl q)) =
    let s = p.0 in
    let same : q.0 ≡ s = same_scenario q.0 s (grammar form front) q.1 p.1 in
    let again : AnswersReport form s bytes other = subst (λ (t : ScenarioLists). AnswersReport form t bytes other) same q.2 in
    report_once form s (laws form front s p.1).0 bytes one other (report_view form s bytes one fits p.2) (report_view form s bytes other fits again)

-- ---- a text without one

abbrev ScenarioView : Form → List ℕ → Answer → Type 0
ScenarioView form text answer =
    ((fault : ScenarioFault) × FirstFault form text fault × (answer ≡ Err (Answers.Scenario fault)))
    ⊎ (((s : ScenarioLists) × Spells form text s × (answer ≡ Err (Answers.Fault 1 Whats.Form))) ⊎ (answer ≡ Err Answers.NoMemory))

scenario_view : (form : Form) (text : List ℕ) (answer : Answer) → AnswersScenario form text answer → ScenarioView form text answer
scenario_view form text (Ok x) p = absurd p
scenario_view form text (Err (Answers.Scenario fault)) p = inl (fault, p, refl)
scenario_view form text (Err (Answers.Fault number Whats.Form)) p = inr (inl (p.0.0, p.0.1, ap (λ (n : ℕ). Err (Answers.Fault n Whats.Form)) p.1))
scenario_view form text (Err (Answers.Fault number Whats.Follows)) p = absurd p
scenario_view form text (Err (Answers.Fault number (Whats.NotEnabled condition))) p = absurd p
scenario_view form text (Err (Answers.Fault number Whats.Outcome)) p = absurd p
scenario_view form text (Err (Answers.Fault number Whats.Tail)) p = absurd p
scenario_view form text (Err (Answers.LogFull part)) p = absurd p
scenario_view form text (Err Answers.NoMemory) p = inr (inr refl)

scenario_once : (form : Form) (text : List ℕ) (one other : Answer) → ScenarioView form text one → ScenarioView form text other → AreSame one other
scenario_once form text one other (inr (inr p)) q = inr (inl p)
scenario_once form text one other (inl p) (inr (inr q)) = inr (inr q)
scenario_once form text one other (inr (inl p)) (inr (inr q)) = inr (inr q)
scenario_once form text one other (inl p) (inl q) = inl (p.2 ∙ ap (λ (f : ScenarioFault). Err (Answers.Scenario f))
    (same_fault p.0 q.0 (grammar form text) p.1 q.1) ∙ sym q.2)
scenario_once form text one other (inl p) (inr (inl q)) = absurd (not_both q.0 p.0 (grammar form text) q.1 p.1)
scenario_once form text one other (inr (inl p)) (inl q) = absurd (not_both p.0 q.0 (grammar form text) p.1 q.1)
scenario_once form text one other (inr (inl p)) (inr (inl q)) = inl (p.2 ∙ sym q.2)

-- ---- every text

at_once : SpellsLawful → (form : Form) (text : List ℕ) (at : Option ℕ) (one other : Answer) → FitsMemory text → AnswersAt form text at one →
    AnswersAt form text at other → AreSame one other
at_once laws form text None one other fits p q = scenario_once form text one other (scenario_view form text one p) (scenario_view form text other q)
at_once laws form text (Some place) one other fits p q =
    let less : FitsMemory (drop place text) = omega (arith, fits, length-drop place text) in
    parts_once laws form (take place text) (drop place text) one other less (parts_view form (take place text) (drop place text) one p)
    (parts_view form (take place text) (drop place text) other q)

pub one_answer : SpellsLawful → OneAnswer
one_answer laws form text one fits p = λ other q. at_once laws form text (place_of text) one other fits p q

-- ---- yes

checked_at : (form : Form) (text : List ℕ) (at : Option ℕ) → place_of text ≡ at → AnswersAt form text at (Ok tt) → IsChecked form text
checked_at form text None is p = absurd p
checked_at form text (Some place) is p = record { place = place; place' = is; scenario = p.0; spelled = p.1; report = p.2 }

answered_yes : (form : Form) (text : List ℕ) → IsChecked form text → Checks form text (Ok tt)
answered_yes form text c = subst (λ (at : Option ℕ). AnswersAt form text at (Ok tt)) (sym c.place') (c.scenario, c.spelled, c.report)

stop_of_yes : (stop : CheckStop) (answer : Answer) → answer ≡ Err stop → answer ≡ Ok tt → ⊥
stop_of_yes stop answer e f = cc

one_stop : (a b : CheckStop) (answer : Answer) → answer ≡ Err a → answer ≡ Err b → a ≡ b
one_stop a b answer e f = cc

apart : (stop : CheckStop) (one other : Answer) → one ≡ Err stop → other ≡ Ok tt → ((stop ≡ Answers.NoMemory) → ⊥) → AreSame one other → ⊥
apart stop one other is passed reason (inl same) = stop_of_yes stop other (sym same ∙ is) passed
apart stop one other is passed reason (inr (inl want)) = reason (one_stop stop Answers.NoMemory one is want)
apart stop one other is passed reason (inr (inr want)) = stop_of_yes Answers.NoMemory other want passed

never_both : SpellsLawful → (form : Form) (text : List ℕ) (stop : CheckStop) → FitsMemory text → ((stop ≡ Answers.NoMemory) → ⊥) → Checks form text (Err stop) →
    IsChecked form text → ⊥
never_both laws form text stop fits reason p c =
    apart stop (Err stop) (Ok tt) refl refl reason (one_answer laws form text (Err stop) fits p (Ok tt) (answered_yes form text c))

pub exact : SpellsLawful → AnswersAreExact
exact laws form text (Ok x) fits p = checked_at form text (place_of text) refl p
exact laws form text (Err Answers.NoMemory) fits p = tt
exact laws form text (Err (Answers.Scenario fault)) fits p = never_both laws form text (Answers.Scenario fault) fits (λ e. cc) p
exact laws form text (Err (Answers.Fault number what)) fits p = never_both laws form text (Answers.Fault number what) fits (λ e. cc) p
exact laws form text (Err (Answers.LogFull part)) fits p = never_both laws form text (Answers.LogFull part) fits (λ e. cc) p
