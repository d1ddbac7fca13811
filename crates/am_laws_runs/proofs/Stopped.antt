-- What is so of a run that is stopped for a full log.
use Rattle.std.proofs.Common.{◌≡◌, true, false, ◌||◌, List, [], ◌∷◌, ◌++◌, subst}
use Rattle.std.specs.Prelude.{not}
use Rattle.std.proofs.lemmas.List.Elements.{filter_map-append}
use Rattle.am_names.specs.Rules.{is_transient}
use Rattle.am_names.specs.declared.Cause.{Cause}
use Rattle.am_office_entries.specs.declared.Entry.{Entry}
use Rattle.am_office_entries.specs.Fates.{cause_of, causes_of}
use Rattle.am_model.specs.Layout.{AllAre}
use Rattle.am_model.proofs.Each.{each_front}
use Rattle.am_model_scripts.specs.Layout.{layout_of}
use Rattle.am_model_scripts.specs.Follows.{is_last}
use Rattle.am_model_scripts.specs.Links.{IsReceiptInOrder, is_all_received}
use Rattle.am_laws_runs.specs.Turns.Enabled.{IsOfRun}
use Rattle.am_laws_runs.specs.Stopped.{StoppedRunsAreOrderly, StoppedReturnsAreForGood}
use Rattle.am_laws_runs.proofs.Beginnings.{IsCovered, covers}
use Rattle.am_laws_runs.proofs.Orderly.{IsKept, turns_keep}
use Rattle.am_laws_runs.proofs.Returns.{IsWhole, ReturnsForGood, fate_for_good, turns_return_for_good}

pub stopped_runs_are_orderly : StoppedRunsAreOrderly
stopped_runs_are_orderly s journal part run st =
    let d = st.drained in
    let k : IsKept s (journal ++ d.next ∷ d.later) = turns_keep d.turns s st.phase (journal ++ d.next ∷ d.later) st.is_phase d.planned in
    record {
      run = run;
      in_order = each_front (λ (before : List Entry) (x : Entry). IsReceiptInOrder s before x.event) [] journal (d.next ∷ d.later) k.in_order;
      last_tries = each_front (λ (before : List Entry) (x : Entry). (not (is_last s before x) || is_all_received s before) ≡ true) [] journal (d.next ∷ d.later)
          k.last_tries;
    }

all_front : (P : Cause → Type 0) (xs ys : List Cause) → AllAre P (xs ++ ys) → AllAre P xs
all_front P [] ys all = tt
all_front P (x ∷ xs) ys all = (all.0, all_front P xs ys all.1)

returns_before : (journal later : List Entry) → ReturnsForGood (journal ++ later) → ReturnsForGood journal
returns_before journal later k s =
    all_front (λ (cause : Cause). is_transient cause ≡ false) (causes_of journal s) (causes_of later s)
    (subst (λ (cs : List Cause). AllAre (λ (cause : Cause). is_transient cause ≡ false) cs)
    (filter_map-append (λ (y : Entry). cause_of s y.event y.outcome) journal later) (k s))

pub stopped_returns_are_for_good : StoppedReturnsAreForGood
stopped_returns_are_for_good s journal part run short st nothing serial cause e =
    let d = st.drained in
    let phase : IsOfRun s st.phase = record { lawful = run.lawful; packet = run.packet; history = st.is_phase.history } in
    let c : IsCovered s st.phase journal = covers d.turns s st.phase journal (d.next ∷ d.later) phase short d.planned in
    let whole : IsWhole s c.whole = record {
      run = record { lawful = run.lawful; packet = run.packet; history = c.history };
      order = (turns_keep c.turns s st.phase c.whole st.is_phase c.planned).in_order;
      nothing = nothing;
    } in
    let all : ReturnsForGood c.whole = turns_return_for_good c.turns s st.phase c.whole whole st.is_phase.is_phase.no_last c.planned in
    fate_for_good journal serial cause e (returns_before journal c.later (subst (λ (xs : List Entry). ReturnsForGood xs) c.is all))
