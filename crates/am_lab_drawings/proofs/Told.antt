-- What is shown, in other words.
use Rattle.std.proofs.Common.{◌≡◌, ℕ, zero, suc, ◌+◌, ◌-◌, ◌≤◌, Bool, true, ◌||◌, List, [], ◌∷◌, ◌++◌, Some, length, map, take, drop, refl, sym, ap, ◌∙◌, subst}
use Rattle.std.proofs.Common.{arith, slice_get, length-drop}
use Rattle.std.specs.Prelude.{nat_eq}
use Rattle.std.specs.List.{AllByRecursion, range_with_len}
use Rattle.std.proofs.lemmas.Bool.{eqb-true}
use Rattle.std.proofs.lemmas.List.{length-map, length-take-le}
use Rattle.am_lemmas.proofs.Lists.{slice_get-Some, take-slice_get}
use Rattle.am_lab_reasons.specs.Packets as reasons
use Rattle.am_model.specs.Endpoint.{State}
use Rattle.am_model.specs.History.{state_of}
use Rattle.am_model.specs.Layout.{Layout}
use Rattle.am_names.specs.Packets.{from_of, number_of, receiver_of, way_of}
use Rattle.am_names.specs.declared.EndpointId.{EndpointId}
use Rattle.am_names.specs.declared.NodeId.{NodeId}
use Rattle.am_office_entries.specs.declared.Entry.{Entry}
use Rattle.am_office_entries.specs.declared.Event.{Event}
use Rattle.am_office_entries.specs.declared.Event.TheVariants as Events
use Rattle.am_scenario_types.specs.declared.parts.EndLine.{EndLine}
use Rattle.am_model_scripts.specs.Layout.{layout_of}
use Rattle.am_lab_picture.specs.Residencies.{same_residency}
use Rattle.am_lab_picture.specs.Spans.{AreJoined, spans, spread}
use Rattle.am_lab_picture.specs.Ways.{is_received, is_way, received_way}
use Rattle.am_lab_picture.specs.declared.data.Lines.{Lines}
use Rattle.am_lab_picture.specs.declared.data.Standing.{Standing}
use Rattle.am_lab_picture.proofs.Laning.{residency_is}
use Rattle.am_lab_picture.proofs.Spread.{spans_are_values}
use Rattle.am_lab_drawings.specs.View.Laws.{IsLane, LanesAreTheStates, ReceiptsAreThoseOfReasons, states}
use Rattle.am_lab_drawings.specs.View.Standings.{lane, standing, standing_in, standings, standings_behind}
use Rattle.am_lab_drawings.proofs.Following.{length_behind}

-- ---- how an endpoint stands, by how many entries were made

dropped_at : (xs : List Entry) (k : ℕ) (x : Entry) → slice_get xs k ≡ Some x → drop k xs ≡ x ∷ drop (suc k) xs
dropped_at [] k x at = absurd (cc)
dropped_at (y ∷ xs) zero x at = let same : y ≡ x = cc in ap (λ (z : Entry). z ∷ xs) same
dropped_at (y ∷ xs) (suc k) x at = dropped_at xs k x at

behind_by : (layout : Layout) (e : EndpointId) (journal : List Entry) (a next c : ℕ) → next ≡ a + 1 → a + c ≤ length journal →
    standings_behind layout e (take a journal) (take c (drop a journal)) ≡ map (λ (n : ℕ). standing layout (take n journal) e) (range_with_len next c)
behind_by layout e journal a next zero step within = refl
behind_by layout e journal a next (suc c) step within =
    let found = slice_get-Some journal a (omega (arith, within)) in
    let x : Entry = found.0 in
    let at : slice_get journal a ≡ Some x = found.1 in
    let up : suc a ≡ next = omega (arith, step) in
    let one : take a journal ++ x ∷ [] ≡ take next journal = sym (take-slice_get journal a x at) ∙ ap (λ (n : ℕ). take n journal) up in
    ap (λ (l : List Entry). standings_behind layout e (take a journal) (take (suc c) l)) (dropped_at journal a x at)
    ∙ ap (λ (j : List Entry). standing layout j e ∷ standings_behind layout e j (take c (drop (suc a) journal))) one
    ∙ ap (λ (n : ℕ). standing layout (take next journal) e ∷ standings_behind layout e (take next journal) (take c (drop n journal))) up
    ∙ ap (λ (l : List Standing). standing layout (take next journal) e ∷ l) (behind_by layout e journal next _ c refl (omega (arith, step, within)))

map_map : {X Y Z : Type 0} (f : X → Y) (g : Y → Z) (xs : List X) → map g (map f xs) ≡ map (λ x. g (f x)) xs
map_map f g [] = refl
map_map f g (x ∷ xs) = ap (λ l. g (f x) ∷ l) (map_map f g xs)

module _ (layout : Layout) (journal : List Entry) (lines : Lines) (low : 3 ≤ lines.first) (within : lines.first + lines.count ≤ length journal + 3)
    (e : EndpointId) where
  abbrev before : ℕ
  before = lines.first - 3

  abbrev stood : List Standing
  stood = standings layout e (take before journal) (take lines.count (drop before journal))

  stood_is : stood ≡ map standing_in (states layout journal lines e)
  stood_is =
      ap (λ (l : List Standing). standing layout (take before journal) e ∷ l) (behind_by layout e journal before _ lines.count refl
      (omega (arith, low, within)))
      ∙ sym (map_map (λ (n : ℕ). state_of layout (take n journal) e) standing_in (range_with_len before (suc lines.count)))
      ∙ ap (λ (n : ℕ). map standing_in (map (λ (k : ℕ). state_of layout (take k journal) e) (range_with_len before n))) (suc_is lines.count)
    where
      suc_is : (n : ℕ) → suc n ≡ n + 1
      suc_is n = omega arith

  values : {X : Type 0} (g : Standing → X) (same : X → X → Bool) → ((x y : X) → same x y ≡ true → x ≡ y) →
      spread (spans same (lines.first - 1) (map g stood)) ≡ map (λ (s : State). g (standing_in s)) (states layout journal lines e)
  values g same decides =
      (spans_are_values same decides (lines.first - 1) (g (standing layout (take before journal) e))
      (map g (standings_behind layout e (take before journal) (take lines.count (drop before journal))))).0
      ∙ ap (map g) stood_is
      ∙ map_map standing_in g (states layout journal lines e)

  joined : {X : Type 0} (g : Standing → X) (same : X → X → Bool) → ((x y : X) → same x y ≡ true → x ≡ y) →
      AreJoined (lines.first - 1) (spans same (lines.first - 1) (map g stood)) (lines.first + lines.count)
  joined g same decides =
      let behind = standings_behind layout e (take before journal) (take lines.count (drop before journal)) in
      let many : length (map g behind) ≡ length behind = length-map behind g in
      let long = length_behind layout e (take before journal) (take lines.count (drop before journal)) in
      let left = length-drop before journal in
      let taken : length (take lines.count (drop before journal)) ≡ lines.count =
      length-take-le lines.count (drop before journal) (omega (arith, low, within, left)) in
      let last : lines.first - 1 + 1 + length (map g behind) ≡ lines.first + lines.count = omega (arith, low, many, long, taken) in
      subst (λ (n : ℕ). AreJoined (lines.first - 1) (spans same (lines.first - 1) (map g stood)) n) last
      (spans_are_values same decides (lines.first - 1) (g (standing layout (take before journal) e)) (map g behind)).1

is_lane : (layout : Layout) (journal : List Entry) (lines : Lines) → 3 ≤ lines.first → lines.first + lines.count ≤ length journal + 3 → (end : EndLine) →
    IsLane layout journal lines (lane layout journal lines end)
is_lane layout journal lines low within end =
    record {
      residency = values layout journal lines low within end.id (λ (s : Standing). s.residency) same_residency residency_is;
      records = values layout journal lines low within end.id (λ (s : Standing). s.records) nat_eq eqb-true;
      received = values layout journal lines low within end.id (λ (s : Standing). s.received) nat_eq eqb-true;
      residency_joined = joined layout journal lines low within end.id (λ (s : Standing). s.residency) same_residency residency_is;
      records_joined = joined layout journal lines low within end.id (λ (s : Standing). s.records) nat_eq eqb-true;
      received_joined = joined layout journal lines low within end.id (λ (s : Standing). s.received) nat_eq eqb-true;
    }

all_lanes : (layout : Layout) (journal : List Entry) (lines : Lines) → 3 ≤ lines.first → lines.first + lines.count ≤ length journal + 3 →
    (ends : List EndLine) → AllByRecursion (IsLane layout journal lines) (map (lane layout journal lines) ends)
all_lanes layout journal lines low within [] = tt
all_lanes layout journal lines low within (e ∷ es) = (is_lane layout journal lines low within e, all_lanes layout journal lines low within es)

pub lanes_are_the_states : LanesAreTheStates
lanes_are_the_states s journal lines low within = all_lanes (layout_of s) journal lines low within s.ends

-- ---- receipts

receives_same : (from to : NodeId) (number : ℕ) (event : Event) →
    is_way (record { from = from; to = to; number = number }) (received_way event) ≡ reasons.receives from to number event
receives_same from to number (Events.Receive node peer other) = refl
receives_same from to number event = refl

pub receipts_same : ReceiptsAreThoseOfReasons
receipts_same [] p = refl
receipts_same (x ∷ xs) p =
    ap (λ (b : Bool). b || is_received xs (way_of p)) (receives_same (from_of p) (receiver_of p) (number_of p) x.event)
    ∙ ap (λ (b : Bool). reasons.receives (from_of p) (receiver_of p) (number_of p) x.event || b) (receipts_same xs p)
