-- The picture of a report can be drawn.
use Rattle.std.proofs.Common.{◌≡◌, ◌≢◌, ℕ, zero, suc, ◌+◌, ◌-◌, ◌<◌, ◌≤◌, ◌⊎◌, inl, inr, Bool, true, false, List, [], ◌∷◌, length, map, take}
use Rattle.std.proofs.Common.{drop, Option, Some, None, Result, Ok, Err, refl, sym, subst, arith, slice_index_or}
use Rattle.std.specs.Prelude.{IfOk, All, AllPairs, nat_le, if◌then◌else◌}
use Rattle.std.proofs.lemmas.Bool.{leb-true}
use Rattle.std.proofs.lemmas.List.{length-map, length-take}
use Rattle.std.proofs.lemmas.List.Kept.{IsNonDecreasingBy-filter}
use Rattle.am_office_entries.specs.declared.Entry.{Entry}
use Rattle.am_scenario.specs.Laws.{SpellsLawful}
use Rattle.am_scenario_types.specs.Lawful.{IsLawful, IsLawfulEnd}
use Rattle.am_scenario_types.specs.Lists.{ScenarioLists}
use Rattle.am_scenario_types.specs.declared.parts.EndLine.{EndLine}
use Rattle.am_scenario_types.specs.declared.parts.Form.{Form}
use Rattle.am_scenario_types.specs.declared.parts.Network.{Network}
use Rattle.am_lab_picture.specs.Layout.Layout.{IsDrawable}
use Rattle.am_lab_picture.specs.Data.{PictureLists}
use Rattle.am_lab_picture.specs.declared.data.Lines.{Lines}
use Rattle.am_lab_drawings.specs.Fronts.{whole_picture}
use Rattle.am_lab_drawings.specs.View.Messages.{ShowsMessage}
use Rattle.am_lab_drawings.specs.View.Parts.{all_lines, few, is_within, lines_of, part_lines}
use Rattle.am_lab_drawings.specs.View.Pictures.{Shows, picture_by, picture_of}
use Rattle.am_lab_drawings.specs.declared.view.parts.LineRange.{LineRange}
use Rattle.am_lab_drawings.specs.declared.view.parts.PictureFault.{PictureFault}
use Rattle.am_lab_drawings.specs.declared.view.parts.PictureFault.TheVariants as Faults
use Rattle.am_lab_drawings.specs.View.Standings.{lane, lanes}
use Rattle.am_lab_picture.specs.Messages.{is_touching, lane_seen, touching}
use Rattle.am_lab_picture.specs.Rows.{AreInOrder, entries_in}
use Rattle.am_lab_picture.specs.declared.data.PlacedRow.{PlacedRow}
use Rattle.am_lab_picture.proofs.Placing.{length_placed, placed_in_order}
use Rattle.am_names.specs.declared.Serial.{Serial}
use Rattle.am_model_scripts.specs.Layout.{layout_of}

-- ---- at most 256 endpoints

-- endpoints rise, so the one at a place has a number that isn't less
at_least : (xs : List EndLine) → AllPairs (λ a b. a.id.0 < b.id.0) xs → (d : EndLine) (k : ℕ) → k < length xs → k ≤ (slice_index_or xs k d).id.0
at_least xs rise d zero low = omega arith
at_least xs rise d (suc k) low =
    let before : k ≤ (slice_index_or xs k d).id.0 = at_least xs rise d k (omega (arith, low)) in
    let step : (slice_index_or xs k d).id.0 < (slice_index_or xs (suc k) d).id.0 = rise k (suc k) d (omega arith) low in
    omega (arith, before, step)

few_ends : (network : Network) (nodes : ℕ) (xs : List EndLine) → AllPairs (λ a b. a.id.0 < b.id.0) xs → All (IsLawfulEnd network nodes) xs → length xs ≤ 256
few_ends network nodes [] rise ends = omega arith
few_ends network nodes (e ∷ es) rise ends =
    let last : length es ≤ (slice_index_or (e ∷ es) (length es) e).id.0 = at_least (e ∷ es) rise e (length es) (omega arith) in
    let small : (slice_index_or (e ∷ es) (length es) e).id.0 ≤ 255 = (ends (length es) e (omega arith)).id in
    omega (arith, last, small)

-- ---- which lines are drawn

few_by : (b : Bool) (lines l : Lines) → (if b then Ok lines else Err Faults.TooManyRows) ≡ Ok l → (b ≡ true) × (lines ≡ l)
few_by true lines l e = (refl, cc)
few_by false lines l e = absurd (cc)

within_by : (b : Bool) (found : Result Lines PictureFault) (l : Lines) → (if b then found else Err Faults.NoSuchLines) ≡ Ok l → (b ≡ true) × (found ≡ Ok l)
within_by true found l e = (refl, e)
within_by false found l e = absurd (cc)

few_lines : (count : ℕ) (part : Option LineRange) (l : Lines) → lines_of count part ≡ Ok l → l.count ≤ 20_000
few_lines count None l e =
    let f = few_by (nat_le count 20_000) (record { first = 3; count = count }) l e in
    subst (λ (lines : Lines). lines.count ≤ 20_000) f.1 (leb-true count 20_000 f.0)
few_lines count (Some part) l e =
    let w = within_by (is_within count part) (few (part_lines part)) l e in
    let f = few_by (nat_le (part.to + 1 - part.from) 20_000) (part_lines part) l w.1 in
    subst (λ (lines : Lines). lines.count ≤ 20_000) f.1 (leb-true (part.to + 1 - part.from) 20_000 f.0)

-- what is shown is the picture of lines
shown_of : (s : ScenarioLists) (journal : List Entry) (r : Result Lines PictureFault) (p : PictureLists) → Ok p ≡ picture_by s journal r →
    (lines : Lines) × (r ≡ Ok lines) × (p ≡ picture_of s journal lines)
shown_of s journal (Ok lines) p e = (lines, refl, cc)
shown_of s journal (Err fault) p e = absurd (cc)

-- ---- the picture

few_lanes : (s : ScenarioLists) (journal : List Entry) (lines : Lines) → IsLawful s → length (lanes s journal lines) ≤ 256
few_lanes s journal lines lawful =
    let all : length (map (lane (layout_of s) journal lines) s.ends) ≡ length s.ends = length-map s.ends (lane (layout_of s) journal lines) in
    let ends = few_ends s.network s.nodes s.ends lawful.ends_rise lawful.ends in
    omega (arith, all, ends)

drawable_of : (s : ScenarioLists) (journal : List Entry) (lines : Lines) → IsLawful s → lines.count ≤ 20_000 → IsDrawable (picture_of s journal lines)
drawable_of s journal lines lawful few =
    let all = length_placed journal lines.first (entries_in lines journal) in
    let taken : length (entries_in lines journal) ≤ lines.count = omega (arith, length-take lines.count (drop (lines.first - 3) journal)) in
    record { rows = omega (arith, all, taken, few); order = placed_in_order lines journal; lanes = few_lanes s journal lines lawful }

-- that of a whole journal
pub drawable_whole : (s : ScenarioLists) (journal : List Entry) (p : PictureLists) → IsLawful s → Ok p ≡ whole_picture s journal → IsDrawable p
drawable_whole s journal p lawful is =
    let found = shown_of s journal (lines_of (length journal) None) p is in
    subst IsDrawable (sym found.2) (drawable_of s journal found.0 lawful (few_lines (length journal) None found.0 found.1))

pub drawable : SpellsLawful → (form : Form) (text : List ℕ) (part : Option LineRange) (p : PictureLists) → Shows form text part (Ok p) → IsDrawable p
drawable law form text part p shows =
    let s = shows.scenario in
    let shown = shows.shown in
    let lawful : IsLawful s = (law form (take shows.place text) s shows.spelled).0 in
    let found = shown_of s shown.journal (lines_of (length shown.journal) part) p shown.answer' in
    subst IsDrawable (sym found.2) (drawable_of s shown.journal found.0 lawful (few_lines (length shown.journal) part found.0 found.1))

-- the picture of a message is of few lanes, and its rows stand in order
pub message_drawable : SpellsLawful → (form : Form) (text : List ℕ) (serial : Serial) (p : PictureLists) → ShowsMessage form text serial p →
    AreInOrder p.rows × (length p.lanes ≤ 256)
message_drawable law form text serial p shows =
    let s = shows.scenario in
    let shown = shows.shown in
    let lines = all_lines shown.journal in
    let whole = picture_of s shown.journal lines in
    let rows = touching serial whole.rows in
    let lawful : IsLawful s = (law form (take shows.place text) s shows.spelled).0 in
    let all : length (map (lane_seen rows) whole.lanes) ≡ length whole.lanes = length-map whole.lanes (lane_seen rows) in
    let few = few_lanes s shown.journal lines lawful in
    subst (λ (q : PictureLists). AreInOrder q.rows × (length q.lanes ≤ 256)) (sym shown.picture') (
      IsNonDecreasingBy-filter (λ (placed : PlacedRow). placed.line) (λ (placed : PlacedRow). is_touching serial placed.row) whole.rows
          (placed_in_order lines shown.journal),
      omega (arith, all, few),
    )

-- what is shown is shown, or there was no memory
pub shown_only : {P : Type 0} (result : Result P PictureFault) (shows : Result P PictureFault → Type 0) → (result ≡ Err Faults.NoMemory) ⊎ shows result →
    (p : P) → result ≡ Ok p → shows (Ok p)
shown_only result shows (inl none) p is = absurd (cc)
shown_only result shows (inr shown) p is = subst shows is shown

pub refusal_shown : {P O E : Type 0} (fault : PictureFault) (told : Result O E) (shows : Result P PictureFault → Type 0) (holds : O → Result P PictureFault →
    Type 0) → (◌≡◌ {A = Result P PictureFault} (Err fault) (Err Faults.NoMemory)) ⊎ shows (Err fault) → IfOk told (λ o. holds o (Err fault)) →
    IfOk told (λ o. fault ≢ Faults.NoMemory) → IfOk told (λ o. (shown : Result P PictureFault) × shows shown × holds o shown)
refusal_shown fault (Ok o) shows holds (inl none) is some = absurd (some (cc))
refusal_shown fault (Ok o) shows holds (inr shown) is some = (Err fault, shown, is)
refusal_shown fault (Err e) shows holds found is some = tt
