-- A beginning of what some turns of a history make is a history.
use Rattle.std.proofs.Common.{◌≡◌, ⊎_elim, ℕ, zero, suc, ◌+◌, ◌≤◌, ◌<◌, ◌^◌, List, [], ◌∷◌, ◌++◌, length, Option, Some, None, refl, sym, ap, ◌∙◌, subst, arith}
use Rattle.std.proofs.Common.{length-append}
use Rattle.std.specs.Prelude.{option_and_then, option_map}
use Rattle.std.proofs.lemmas.Bool.{cases_lt}
use Rattle.am_office_entries.specs.declared.Condition.{Condition}
use Rattle.am_office_entries.specs.declared.Entry.{Entry}
use Rattle.am_model.specs.History.{MayFollow, IsHistory, failing}
use Rattle.am_model.proofs.Each.{each_front, each_at}
use Rattle.am_scenario_types.specs.Lists.{ScenarioLists}
use Rattle.am_model_scripts.specs.Layout.{layout_of}
use Rattle.am_model_drain.specs.declared.Turn.{Turn}
use Rattle.am_model_drain.specs.Rules.{next_turn}
use Rattle.am_model_drain.specs.Drain.{after_turn, after_next_turn, after_turns}
use Rattle.am_model_drain.proofs.Turns.{Extends, turns_extend}
use Rattle.am_laws_runs.specs.Turns.Enabled.{IsOfRun}
use Rattle.am_laws_runs.proofs.Turning.{turns_may_follow}
use Rattle.am_laws_runs.specs.Drained.{BeginningsAreHistories, DrainsAreNotRefused, CutOffsAreHistories}

-- of two beginnings of a list the shorter begins the longer
pub shorter_begins : {X : Type 0} (xs ys us vs : List X) → xs ++ us ≡ ys ++ vs → length xs ≤ length ys → (more : List X) × (ys ≡ xs ++ more)
shorter_begins [] ys us vs e low = (ys, refl)
shorter_begins (x ∷ xs) [] us vs e low = absurd (omega (arith, low))
shorter_begins {X} (x ∷ xs) (y ∷ ys) us vs e low =
    let rest = shorter_begins xs ys us vs (cc) (omega (arith, low)) in
    let first : y ≡ x = cc in
    (rest.0, ap (λ (z : X). z ∷ ys) first ∙ ap (λ (zs : List X). x ∷ zs) rest.1)

-- a journal begins what so many turns make of a history, which is a history
pub record IsCovered (s : ScenarioLists) (past journal : List Entry) : Type 0 where
  pub turns : ℕ
  pub whole : List Entry
  pub later : List Entry
  pub is : whole ≡ journal ++ later
  pub planned : after_turns turns s past ≡ Some whole
  pub history : IsHistory (layout_of s) whole

next_history : (s : ScenarioLists) (past next : List Entry) (o : Option Turn) → next_turn s past ≡ o → IsOfRun s past → length past < 2 ^ 32 →
    option_map (after_turn s past) o ≡ Some next → IsHistory (layout_of s) next
next_history s past next None is run short e = absurd (cc)
next_history s past next (Some t) is run short e =
    let same : after_turn s past t ≡ next = cc in
    subst (λ (xs : List Entry). IsHistory (layout_of s) xs) same (turns_may_follow s past t run short is)

-- by induction on the turns
pub covers : (n : ℕ) (s : ScenarioLists) (past journal later : List Entry) → IsOfRun s past → length journal ≤ 2 ^ 32 →
    after_turns n s past ≡ Some (journal ++ later) → IsCovered s past journal
covers zero s past journal later run low e =
    let same : past ≡ journal ++ later = cc in
    record { turns = zero; whole = past; later = later; is = same; planned = refl; history = run.history }
covers (suc n) s past journal later run low e =
    ⊎_elim
    (λ (short : length past < length journal). by_turn (omega (arith, short, low)) (after_next_turn s past) refl e
    (λ next r f. covers n s next journal later r low f))
    (λ (long : length journal ≤ length past).
    let ex : Extends past (journal ++ later) = turns_extend (suc n) s past (journal ++ later) e in
    let r = shorter_begins journal past later ex.0 ex.1 long in
    record { turns = zero; whole = past; later = r.0; is = r.1; planned = refl; history = run.history })
    (cases_lt (length past) (length journal))
  where
    by_turn : length past < 2 ^ 32 → (o : Option (List Entry)) → after_next_turn s past ≡ o → option_and_then (after_turns n s) o ≡ Some (journal ++ later) →
        ((next : List Entry) → IsOfRun s next → after_turns n s next ≡ Some (journal ++ later) → IsCovered s next journal) → IsCovered s past journal
    by_turn short None is f more = absurd (cc)
    by_turn short (Some next) is f more =
        let c : IsCovered s next journal = more next (record {
          lawful = run.lawful;
          packet = run.packet;
          history = next_history s past next (next_turn s past) refl run short is;
        }) f in
        record {
          turns = suc c.turns;
          whole = c.whole;
          later = c.later;
          is = c.is;
          planned = ap (option_and_then (after_turns c.turns s)) is ∙ c.planned;
          history = c.history;
        }

-- so the beginning is a history
pub begins : (n : ℕ) (s : ScenarioLists) (past journal later : List Entry) → IsOfRun s past → length journal ≤ 2 ^ 32 →
    after_turns n s past ≡ Some (journal ++ later) → IsHistory (layout_of s) journal
begins n s past journal later run low e =
    let c : IsCovered s past journal = covers n s past journal later run low e in
    each_front (MayFollow (layout_of s)) [] journal c.later (subst (λ (xs : List Entry). IsHistory (layout_of s) xs) c.is c.history)

pub beginnings_are_histories : BeginningsAreHistories
beginnings_are_histories s past journal run low b =
    begins b.turns s past journal b.begins.later run low (b.is_planned ∙ ap (λ (xs : List Entry). Some xs) b.begins.is_planned)

append_one : {X : Type 0} (xs : List X) (x : X) (ys : List X) → xs ++ x ∷ ys ≡ (xs ++ x ∷ []) ++ ys
append_one [] x ys = refl
append_one {X} (z ∷ xs) x ys = ap (λ (zs : List X). z ∷ zs) (append_one xs x ys)

-- the entry that was to come next may follow
pub next_may : (n : ℕ) (s : ScenarioLists) (past journal later : List Entry) (x : Entry) → IsOfRun s past → length journal < 2 ^ 32 →
    after_turns n s past ≡ Some (journal ++ x ∷ later) → MayFollow (layout_of s) journal x
next_may n s past journal later x run low e =
    let one : length (journal ++ x ∷ []) ≡ length journal + 1 = length-append journal (x ∷ []) in
    let h : IsHistory (layout_of s) (journal ++ x ∷ []) = begins n s past (journal ++ x ∷ []) later run (omega (arith, one, low)) (e
    ∙ ap (λ (xs : List Entry). Some xs) (append_one journal x later)) in
    each_at (MayFollow (layout_of s)) [] journal x [] h

may_not_fail : (s : ScenarioLists) (journal : List Entry) (x : Entry) (condition : Condition) → MayFollow (layout_of s) journal x →
    failing (layout_of s) journal x.event ≡ Some condition → ⊥
may_not_fail s journal x condition may fails =
    let both : None ≡ Some condition = sym may.enabled ∙ fails in
    cc

pub drains_are_not_refused : DrainsAreNotRefused
drains_are_not_refused s past journal condition run low r =
    let d = r.drained in
    may_not_fail s journal d.next condition (next_may d.turns s past journal d.later d.next run low d.planned) r.failing'

pub cut_offs_are_histories : CutOffsAreHistories
cut_offs_are_histories s past journal part run low c = let d = c.drained in begins d.turns s past journal (d.next ∷ d.later) run low d.planned
