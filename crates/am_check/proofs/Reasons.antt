-- A line is stopped for one reason.
use Rattle.std.proofs.Common.{◌≡◌, ◌⊎◌, ℕ, List, Option, Some, None, refl, sym, ap, ◌∙◌, subst, inl, inr, ⊎_elim}
use Rattle.am_cluster_scripted.proofs.Applying.{stop_refused}
use Rattle.am_office_entries.specs.declared.Condition.{Condition}
use Rattle.am_office_entries.specs.declared.Part.{Part}
use Rattle.am_office_entries.specs.declared.Entry.{Entry}
use Rattle.am_office_entries.specs.declared.Event.{Event}
use Rattle.am_model.specs.History.{failing}
use Rattle.am_model.specs.Steps.{NotEnabled, LogFull, Stop, stop, stop_by, full_log}
use Rattle.am_model_scripts.proofs.StepMakers.{no_condition}
use Rattle.am_scenario_types.specs.declared.parts.Form.{Form}
use Rattle.am_scenario_types.specs.Lists.{ScenarioLists}
use Rattle.am_model_scripts.specs.Layout.{layout_of}
use Rattle.am_model_drain.specs.Made.{next_entry}
use Rattle.am_check_lines.specs.Grammar.{IsLineOf}
use Rattle.am_check_lines.specs.Reading.{event_of}
use Rattle.am_check_lines.proofs.Lines.{read_line}
use Rattle.am_check.specs.declared.faults.CheckWhat.TheVariants as Whats
use Rattle.am_check.specs.declared.faults.LineStop.{LineStop}
use Rattle.am_check.specs.declared.faults.LineStop.TheVariants as Stops
use Rattle.am_check.specs.Follows.{MayCome, IsEarly}
use Rattle.am_check.specs.Lines.{StopsLine}
use Rattle.am_check.proofs.Coming.{IsReason}

-- of a line that tells an event, one question after the other: whether a log is full, whether the entry comes too early, whether
-- the event is enabled, whether it may come
abbrev FullOrOther : ScenarioLists → List Entry → Event → LineStop → Type 0
FullOrOther s past event why =
    ((part : Part) × (stop (layout_of s) past event ≡ Some (LogFull part)) × (why ≡ Stops.LogFull part))
    ⊎ ((stop (layout_of s) past event ≡ None) × (why ≡ Stops.What Whats.Outcome))

abbrev EarlyOrNot : Form → ScenarioLists → List Entry → Event → LineStop → Type 0
EarlyOrNot form s past event why =
    (IsEarly form s past (next_entry (layout_of s) past event) × (why ≡ Stops.What Whats.Follows))
    ⊎ ((¬ (IsEarly form s past (next_entry (layout_of s) past event))) × FullOrOther s past event why)

abbrev DisabledOrNot : Form → ScenarioLists → List Entry → Event → LineStop → Type 0
DisabledOrNot form s past event why =
    ((condition : Condition) × (failing (layout_of s) past event ≡ Some condition) × (why ≡ Stops.What (Whats.NotEnabled condition)))
    ⊎ ((failing (layout_of s) past event ≡ None) × EarlyOrNot form s past event why)

abbrev MayOrNot : Form → ScenarioLists → List Entry → Event → LineStop → Type 0
MayOrNot form s past event why =
    ((¬ (MayCome form s past event)) × (why ≡ Stops.What Whats.Follows))
    ⊎ (MayCome form s past event × DisabledOrNot form s past event why)

abbrev ToldOrNot : Form → ScenarioLists → List Entry → List ℕ → LineStop → Type 0
ToldOrNot form s past line why =
    (((event : Event) → ¬ (IsLineOf line event)) × (why ≡ Stops.What Whats.Form))
    ⊎ ((event : Event) × IsLineOf line event × MayOrNot form s past event why)

no_condition_full : (f : Option Condition) (g : Option Part) (part : Part) → stop_by f g ≡ Some (LogFull part) → f ≡ None
no_condition_full None g part e = refl
no_condition_full (Some c) g part e = absurd (cc)

asked : (form : Form) (s : ScenarioLists) (past : List Entry) (line : List ℕ) (why : LineStop) → IsReason why → StopsLine form s past line why →
    ToldOrNot form s past line why
asked form s past line (Stops.What Whats.Form) reason p = inl (p, refl)
asked form s past line (Stops.What Whats.Follows) reason p =
    inr (
      p.0,
      p.1,
      ⊎_elim
          (λ (never : ¬ (MayCome form s past p.0)). inl (never, refl))
          (λ (early : MayCome form s past p.0 × (failing (layout_of s) past p.0 ≡ None) × IsEarly form s past (next_entry (layout_of s) past p.0)). inr
          (early.0, inr (early.1, inl (early.2, refl))))
          p.2,
    )
asked form s past line (Stops.What (Whats.NotEnabled condition)) reason p =
    inr (p.0, p.1.told, inr (p.1.may, inl (condition, stop_refused (failing (layout_of s) past p.0) (full_log (layout_of s) past p.0) condition p.2, refl)))
asked form s past line (Stops.LogFull part) reason p =
    inr (
      p.0,
      p.1.told,
      inr (
        p.1.may,
        inr (
          no_condition_full (failing (layout_of s) past p.0) (full_log (layout_of s) past p.0) part p.3,
          inr (p.2, inl (part, p.3, refl)),
        ),
      ),
    )
asked form s past line (Stops.What Whats.Outcome) reason p =
    inr (p.0, p.1.told, inr (p.1.may, inr (no_condition (failing (layout_of s) past p.0) (full_log (layout_of s) past p.0) p.3, inr (p.2, inr (p.3, refl)))))
asked form s past line (Stops.What Whats.Tail) reason p = absurd p
asked form s past line Stops.NoMemory reason p = absurd reason

full_once : (s : ScenarioLists) (past : List Entry) (event : Event) (a b : LineStop) → FullOrOther s past event a → FullOrOther s past event b → a ≡ b
full_once s past event a b (inl p) (inl q) = let same : p.0 ≡ q.0 = one_part p.0 q.0 (stop (layout_of s) past event) p.1 q.1 in p.2 ∙ ap Stops.LogFull same
    ∙ sym q.2
  where
    one_part : (x y : Part) (o : Option Stop) → o ≡ Some (LogFull x) → o ≡ Some (LogFull y) → x ≡ y
    one_part x y o e f = cc
full_once s past event a b (inl p) (inr q) = let some = p.1 in let none = q.0 in absurd (cc)
full_once s past event a b (inr p) (inl q) = let none = p.0 in let some = q.1 in absurd (cc)
full_once s past event a b (inr p) (inr q) = p.1 ∙ sym q.1

early_once : (form : Form) (s : ScenarioLists) (past : List Entry) (event : Event) (a b : LineStop) → EarlyOrNot form s past event a →
    EarlyOrNot form s past event b → a ≡ b
early_once form s past event a b (inl p) (inl q) = p.1 ∙ sym q.1
early_once form s past event a b (inl p) (inr q) = absurd (q.0 p.0)
early_once form s past event a b (inr p) (inl q) = absurd (p.0 q.0)
early_once form s past event a b (inr p) (inr q) = full_once s past event a b p.1 q.1

disabled_once : (form : Form) (s : ScenarioLists) (past : List Entry) (event : Event) (a b : LineStop) → DisabledOrNot form s past event a →
    DisabledOrNot form s past event b → a ≡ b
disabled_once form s past event a b (inl p) (inl q) = let same : p.0 ≡ q.0 = one_condition p.0 q.0 (failing (layout_of s) past event) p.1 q.1 in p.2
    ∙ ap (λ (c : Condition). Stops.What (Whats.NotEnabled c)) same ∙ sym q.2
  where
    one_condition : (x y : Condition) (o : Option Condition) → o ≡ Some x → o ≡ Some y → x ≡ y
    one_condition x y o e f = cc
disabled_once form s past event a b (inl p) (inr q) = let some = p.1 in let none = q.0 in absurd (cc)
disabled_once form s past event a b (inr p) (inl q) = let none = p.0 in let some = q.1 in absurd (cc)
disabled_once form s past event a b (inr p) (inr q) = early_once form s past event a b p.1 q.1

may_once : (form : Form) (s : ScenarioLists) (past : List Entry) (event : Event) (a b : LineStop) → MayOrNot form s past event a →
    MayOrNot form s past event b → a ≡ b
may_once form s past event a b (inl p) (inl q) = p.1 ∙ sym q.1
may_once form s past event a b (inl p) (inr q) = absurd (p.0 q.0)
may_once form s past event a b (inr p) (inl q) = absurd (q.0 p.0)
may_once form s past event a b (inr p) (inr q) = disabled_once form s past event a b p.1 q.1

told_once : (form : Form) (s : ScenarioLists) (past : List Entry) (line : List ℕ) (a b : LineStop) → ToldOrNot form s past line a →
    ToldOrNot form s past line b → a ≡ b
told_once form s past line a b (inl p) (inl q) = p.1 ∙ sym q.1
told_once form s past line a b (inl p) (inr q) = absurd (p.0 q.0 q.1)
told_once form s past line a b (inr p) (inl q) = absurd (q.0 p.0 p.1)
told_once form s past line a b (inr p) (inr q) =
    let same : q.0 ≡ p.0 = one_event q.0 p.0 (event_of line) (read_line line q.0 q.1) (read_line line p.0 p.1) in
    may_once form s past p.0 a b p.2 (subst (λ (e : Event). MayOrNot form s past e b) same q.2)
  where
    one_event : (x y : Event) (o : Option Event) → o ≡ Some x → o ≡ Some y → x ≡ y
    one_event x y o e f = cc

pub one_reason : (form : Form) (s : ScenarioLists) (past : List Entry) (line : List ℕ) (a b : LineStop) → IsReason a → IsReason b →
    StopsLine form s past line a → StopsLine form s past line b → a ≡ b
one_reason form s past line a b i j p q = told_once form s past line a b (asked form s past line a i p) (asked form s past line b j q)
