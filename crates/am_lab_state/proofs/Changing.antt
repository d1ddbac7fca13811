-- What the entries of a journal change, told one after the other.
use Rattle.std.proofs.Common.{◌≡◌, ℕ, ◌+◌, ◌-◌, ◌≤◌, List, ◌++◌, drop, length, take, sym, ap, ◌∙◌, arith}
use Rattle.std.proofs.lemmas.List.{length-append, length-drop, take_at}
use Rattle.am_model.specs.Layout.{Layout}
use Rattle.am_office_entries.specs.declared.Entry.{Entry}
use Rattle.am_scenario_types.specs.Lists.{ScenarioLists}
use Rattle.am_lab_reasons.proofs.Following.{IsHalfway}
use Rattle.am_lab_state.specs.Changes.{change, change_lines}
use Rattle.am_lab_state.specs.Texts.{state_text}

-- where the entries from one on are to be made, those in front of it are
pub halfway_front : (layout : Layout) (entries : List Entry) (index : ℕ) (past : List Entry) → IsHalfway layout entries index past → index ≤ length entries →
    past ≡ take index entries
halfway_front layout entries index past h within =
    let rest : List Entry = drop index entries in
    let whole = ap (length {A = Entry}) h.all in
    let long : length past ≡ index = omega (arith, length-append past rest, whole, length-drop index entries, within) in
    sym (take_at past rest index long) ∙ ap (take index) h.all

-- the change between the states in front of an entry and behind it is that of its line
pub change_told : (s : ScenarioLists) (entries : List Entry) (i number : ℕ) (past after : List Entry) (before behind out new : List ℕ) → number ≡ i + 3 →
    past ≡ take i entries → after ≡ take (i + 1) entries → before ≡ state_text s past → behind ≡ state_text s after → new ≡ out ++ change number before behind →
    new ≡ out ++ change_lines s entries number
change_told s entries i number past after before behind out new at front front' is is' put =
    let one : number - 1 - 2 ≡ i = omega (arith, at) in
    let two : number - 2 ≡ i + 1 = omega (arith, at) in
    let first : before ≡ state_text s (take (number - 1 - 2) entries) =
    is ∙ ap (state_text s) (front ∙ ap (λ (n : ℕ). take n entries) (sym one)) in
    let second : behind ≡ state_text s (take (number - 2) entries) =
    is' ∙ ap (state_text s) (front' ∙ ap (λ (n : ℕ). take n entries) (sym two)) in
    put
    ∙ ap (λ (t : List ℕ). out ++ change number t behind) first
    ∙ ap (λ (t : List ℕ). out ++ change number (state_text s (take (number - 1 - 2) entries)) t) second
