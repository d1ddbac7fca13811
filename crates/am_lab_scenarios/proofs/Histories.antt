-- With its callers aside a history is still one.
use Rattle.std.proofs.Common.{List, [], ◌∷◌, ◌++◌, sym, ◌∙◌, subst}
use Rattle.std.proofs.lemmas.List.{map_push}
use Rattle.am_office_entries.specs.declared.Entry.{Entry}
use Rattle.am_model_scripts.specs.Steps.Laws.{IsUnstopped}
use Rattle.am_model.specs.History.{EachAfter, MayFollow}
use Rattle.am_model.specs.Layout.{Layout}
use Rattle.am_lab_scenarios.specs.Replays.Callers.{CallersChangeNothing, CallersStopNothing, callers_aside, made_by_anyone}
use Rattle.am_lab_scenarios.proofs.Enabled.{failing_stays, later_stays, range_stays}
use Rattle.am_lab_scenarios.proofs.Outcomes.{outcome_stays, stop_stays}

-- what holds of each entry with its caller aside, after those before it with theirs
each_aside : (May : List Entry → Entry → Type 0) → ((past : List Entry) (x : Entry) → May past x → May (callers_aside past) (made_by_anyone x)) →
    (past xs : List Entry) → EachAfter May past xs → EachAfter May (callers_aside past) (callers_aside xs)
each_aside May step past [] h = tt
each_aside May step past (x ∷ xs) h =
    let rest = each_aside May step (past ++ x ∷ []) xs h.1 in
    (step past x h.0, subst (λ (l : List Entry). EachAfter May l (callers_aside xs)) (map_push made_by_anyone past x) rest)

may_follow : (layout : Layout) (past : List Entry) (x : Entry) → MayFollow layout past x → MayFollow layout (callers_aside past) (made_by_anyone x)
may_follow layout past x h =
    record {
      in_range = range_stays layout x.event h.in_range;
      enabled = failing_stays layout past x.event ∙ h.enabled;
      outcome = h.outcome ∙ sym (outcome_stays layout past x.event);
      later = later_stays past x ∙ h.later;
    }

pub histories_stay : CallersChangeNothing
histories_stay layout journal h = each_aside (MayFollow layout) (may_follow layout) [] journal h

pub unstopped_stay : CallersStopNothing
unstopped_stay layout journal h = each_aside (IsUnstopped layout) (λ past x free. stop_stays layout past x.event ∙ free) [] journal h
