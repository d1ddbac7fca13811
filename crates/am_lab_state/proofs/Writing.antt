-- What is written to disk is read off the log of an endpoint.
use Rattle.std.proofs.Common.{◌≡◌, Bool, true, false, cond, ◌||◌, List, [], ◌∷◌, refl, ap, ◌∙◌}
use Rattle.std.specs.List.{filter, list_any}
use Rattle.am_model.specs.Endpoint.{State}
use Rattle.am_names.specs.declared.EndpointId.{EndpointId}
use Rattle.am_names.specs.declared.NodeId.{NodeId}
use Rattle.am_names.specs.Names.{same_end}
use Rattle.am_office_entries.specs.Entries.{ends_touched, touches}
use Rattle.am_office_entries.specs.declared.Entry.{Entry}
use Rattle.am_office_entries.specs.declared.Event.{Event}
use Rattle.am_office_entries.specs.declared.Event.TheVariants as Events
use Rattle.am_office_entries.specs.declared.Outcome.{Outcome}
use Rattle.am_office_entries.specs.declared.Outcome.TheVariants as Out
use Rattle.am_scenario_types.specs.declared.parts.EndLine.{EndLine}
use Rattle.am_lab_state.specs.Nodes.{is_written, key_by, writes}

any_within : {X : Type 0} (p q : X → Bool) → ((x : X) → p x ≡ true → q x ≡ true) → (xs : List X) → list_any p (filter q xs) ≡ list_any p xs
any_within p q within [] = refl
any_within p q within (x ∷ xs) = by_tests (p x) (q x) refl refl (any_within p q within xs)
  where
    by_tests : (b t : Bool) → p x ≡ b → q x ≡ t → list_any p (filter q xs) ≡ list_any p xs →
        list_any p (cond t (x ∷ filter q xs) (filter q xs)) ≡ (b || list_any p xs)
    by_tests b true is on more = ap (λ (a : Bool). a || list_any p (filter q xs)) is ∙ ap (λ (a : Bool). b || a) more
    by_tests true false is on more = absurd (let bad : q x ≡ true = within x is in cc)
    by_tests false false is on more = more

or_false : (b : Bool) → b ≡ true → (b || false) ≡ true
or_false true h = refl
or_false false h = absurd (cc)

written_here : (e : EndpointId) (event : Event) (o : Outcome) → writes e event o ≡ true → list_any (same_end e) (ends_touched event o) ≡ true
written_here e (Events.PageOut node end) Out.Done h = or_false (same_end e end) h
written_here e event o h = absurd (cc)

written_own : (e : EndpointId) (past : List Entry) → is_written e (filter (touches e) past) ≡ is_written e past
written_own e past = any_within (λ (x : Entry). writes e x.event x.outcome) (touches e) (λ x. written_here e x.event x.outcome) past

-- what is told of an endpoint by its log and its state
pub key_told : (node : NodeId) (end : EndLine) (past log : List Entry) (s t : State) → log ≡ filter (touches end.id) past → s ≡ t →
    key_by node end (is_written end.id log) s ≡ key_by node end (is_written end.id past) t
key_told node end past log s t own same =
    ap (λ (b : Bool). key_by node end b s) (ap (is_written end.id) own ∙ written_own end.id past)
    ∙ ap (key_by node end (is_written end.id past)) same
