-- In a history each packet that is received was emitted before, so each receipt has its arrow.
use Rattle.std.proofs.Common.{◌≡◌, ℕ, suc, ◌+◌, ◌<◌, ◌≤◌, Bool, true, false, ◌&&◌, ◌||◌, ◌==◌, cond, List, [], ◌∷◌, ◌++◌, Option, Some, None, is_some, length}
use Rattle.std.proofs.Common.{map, refl, sym, ap, ◌∙◌, subst, true≢false, arith, filter_map, ⊎_elim, length-append, append_assoc}
use Rattle.std.specs.Prelude.{nat_le, nat_lt}
use Rattle.std.specs.List.{AllByRecursion, cons_option, filter, position_from}
use Rattle.std.specs.Option.{option_map, option_or}
use Rattle.std.proofs.lemmas.Bool.{cases_lt, eq-eqb, eqb-true, le-leb, leb-true, lt-ltb, ltb-false}
use Rattle.std.proofs.lemmas.List.Elements.{filter-append, filter_map-append}
use Rattle.am_lemmas.proofs.Lists.{slice_get-Some}
use Rattle.am_laws_runs.proofs.Receipts.{packet_next}
use Rattle.am_model.specs.Channels.{emitted, is_on_link}
use Rattle.am_model.specs.Choice.{first_holding}
use Rattle.am_model.specs.History.{EachAfter, IsHistory, MayFollow, failing, is_in_range}
use Rattle.am_model.specs.Layout.{Layout}
use Rattle.am_model.proofs.Each.{over_each}
use Rattle.am_names.specs.Packets.{from_of, number_of, receiver_of, way_of}
use Rattle.am_names.specs.declared.NodeId.{NodeId}
use Rattle.am_names.specs.declared.Packet.{Packet}
use Rattle.am_names.specs.declared.Packet.TheVariants as Packets
use Rattle.am_names.specs.Names.{same_node}
use Rattle.am_office_entries.specs.Entries.{emitted_of}
use Rattle.am_office_entries.specs.declared.Condition.{Condition}
use Rattle.am_office_entries.specs.declared.Entry.{Entry}
use Rattle.am_office_entries.specs.declared.Event.{Event}
use Rattle.am_office_entries.specs.declared.Event.TheVariants as Events
use Rattle.am_lab_picture.specs.Arrows.{arrow_at, arrow_by, arrow_from, arrow_of, arrow_shown, counts, if_shown, is_among, is_shown}
use Rattle.am_lab_picture.specs.Abouts.{about_of}
use Rattle.am_lemmas.specs.Numbered.{numbered}
use Rattle.am_lab_picture.specs.Rows.{named_by}
use Rattle.am_lab_picture.specs.Ways.{emits, emitter, is_way, received_way}
use Rattle.am_lab_picture.specs.declared.data.Arrow.{Arrow}
use Rattle.am_names.specs.declared.Way.{Way}
use Rattle.am_lab_picture.proofs.Finding.{position_push}
use Rattle.am_lemmas.proofs.Bools.{and_first, and_second}
use Rattle.am_lab_picture.proofs.Shown.{found_at, node_is}
use Rattle.am_lab_drawings.specs.View.Laws.{EachReceiptHasItsArrow, receipt_line}
use Rattle.am_lab_drawings.specs.View.Parts.{all_lines}

-- ---- what was emitted is found

both : (a b : Bool) → a ≡ true → b ≡ true → (a && b) ≡ true
both a b e f = rw (e, f) refl

some_first : (a b : Option ℕ) → is_some a ≡ true → is_some (option_or a b) ≡ true
some_first None b e = absurd (true≢false (sym e))
some_first (Some n) b e = refl

some_last : (a : Option ℕ) (k : ℕ) → is_some (option_or a (Some k)) ≡ true
some_last None k = refl
some_last (Some n) k = refl

emitted_push : (from to : NodeId) (past more : List Entry) → emitted from to (past ++ more) ≡ emitted from to past ++ emitted from to more
emitted_push from to past more =
    ap (filter (is_on_link from to)) (filter_map-append emitted_of past more)
    ∙ filter-append (is_on_link from to) (filter_map emitted_of past) (filter_map emitted_of more)

on_link : (from to : NodeId) (p : Packet) → is_on_link from to p ≡ (same_node from (from_of p) && same_node to (receiver_of p))
on_link from to (Packets.Parcel p) = refl
on_link from to (Packets.Answer p) = refl

abbrev to_way : NodeId → NodeId → ℕ → Way
to_way from to n = record { from = from; to = to; number = n }

-- each number of a link up to that of its last packet is emitted by an entry
abbrev IsFound : List Entry → Type 0
IsFound journal = (from to : NodeId) (n : ℕ) → 1 ≤ n → n ≤ length (emitted from to journal) → is_some (emitter journal (to_way from to n)) ≡ true

module _ (layout : Layout) (past : List Entry) (x : Entry) (may : MayFollow layout past x) (from to : NodeId) (n : ℕ)
    (above : length (emitted from to past) < n) where
  new_on : (p : Packet) (b : Bool) → emitted_of x ≡ Some p → is_on_link from to p ≡ b → n ≤ length (emitted from to past) + length (cond b (p ∷ []) []) →
      is_way (to_way from to n) (Some (way_of p)) ≡ true
  new_on p false e on most = absurd (omega (arith, above, most))
  new_on p true e on most =
      let link : (same_node from (from_of p) && same_node to (receiver_of p)) ≡ true = sym (on_link from to p) ∙ on in
      let is_from : from ≡ from_of p = node_is from (from_of p) (eqb-true from.0 (from_of p).0
      (and_first (same_node from (from_of p)) (same_node to (receiver_of p)) link)) in
      let is_to : to ≡ receiver_of p = node_is to (receiver_of p) (eqb-true to.0 (receiver_of p).0
      (and_second (same_node from (from_of p)) (same_node to (receiver_of p)) link)) in
      let next : number_of p ≡ length (emitted from to past) + 1 =
      packet_next layout past x may p e
      ∙ ap (λ (a : NodeId). length (emitted a (receiver_of p) past) + 1) (sym is_from)
      ∙ ap (λ (b : NodeId). length (emitted from b past) + 1) (sym is_to)
      in
      let same : n ≡ number_of p = omega (arith, above, most, next) in
      both (same_node from (from_of p) && same_node to (receiver_of p)) (n == number_of p) link (eq-eqb n (number_of p) same)

  new_by : (o : Option Packet) → emitted_of x ≡ o → n ≤ length (emitted from to past) + length (filter (is_on_link from to) (cons_option o [])) →
      is_way (to_way from to n) (option_map way_of o) ≡ true
  new_by None e most = absurd (omega (arith, above, most))
  new_by (Some p) e most = new_on p (is_on_link from to p) e refl most

found_more : (layout : Layout) (past : List Entry) (x : Entry) → IsFound past → MayFollow layout past x → IsFound (past ++ x ∷ [])
found_more layout past x found may from to n least most =
    let w = to_way from to n in
    let pushed : emitter (past ++ x ∷ []) w ≡ option_or (emitter past w) (cond (emits w x) (Some (length past)) None) =
    position_push (emits w) 0 (length past) past x (omega arith) in
    let grown = ap (λ (l : List Packet). length l) (emitted_push from to past (x ∷ [])) ∙ length-append (emitted from to past) (emitted from to (x ∷ [])) in
    ap is_some pushed
    ∙ ⊎_elim
    (λ (above : length (emitted from to past) < n).
    ap (λ (b : Bool). is_some (option_or (emitter past w) (cond b (Some (length past)) None)))
    (new_by layout past x may from to n above (emitted_of x) refl (omega (arith, most, grown)))
    ∙ some_last (emitter past w) (length past))
    (λ (within : n ≤ length (emitted from to past)). some_first (emitter past w) (cond (emits w x) (Some (length past)) None) (found from to n least within))
    (cases_lt (length (emitted from to past)) n)

found_none : IsFound []
found_none from to n least most = absurd (omega (arith, least, most))

found_all : (layout : Layout) (journal : List Entry) → IsHistory layout journal → IsFound journal
found_all layout journal history = over_each (MayFollow layout) IsFound (λ past x found may. found_more layout past x found may) [] journal found_none history

-- ---- what is received was emitted

second_fails : (a b : Bool) (x y : Condition) → first_holding ((a, x) ∷ (b, y) ∷ []) ≡ None → b ≡ false
second_fails true b x y e = absurd (cc)
second_fails false true x y e = absurd (cc)
second_fails false false x y e = refl

pub record IsThere (past : List Entry) (w : Way) : Type 0 where
  pub least : 1 ≤ w.number
  pub most : w.number ≤ length (emitted w.from w.to past)

there_by : (layout : Layout) (past : List Entry) (event : Event) → is_in_range layout event ≡ true → failing layout past event ≡ None → (w : Way) →
    received_way event ≡ Some w → IsThere past w
there_by layout past (Events.Receive node peer number) range enabled w is =
    let way : record { from = peer; to = node; number = number } ≡ w = cc in
    subst (λ (v : Way). IsThere past v) way
    (record {
      least = leb-true 1 number (and_second _ (nat_le 1 number) (and_first _ _ range));
      most = ltb-false (length (emitted peer node past)) number (second_fails layout.direct (nat_lt (length (emitted peer node past)) number) _ _ enabled);
    })
there_by layout past event range enabled w is = absurd (cc)

-- the packet that an entry receives is emitted by an entry of the journal
abbrev HasEmitter : List Entry → Entry → Type 0
HasEmitter journal x = (w : Way) → received_way x.event ≡ Some w → is_some (emitter journal w) ≡ true

each_has : (layout : Layout) (journal past xs : List Entry) → IsFound journal → past ++ xs ≡ journal → EachAfter (MayFollow layout) past xs →
    AllByRecursion (HasEmitter journal) xs
each_has layout journal past [] found all each = tt
each_has layout journal past (x ∷ xs) found all each = (
  λ (w : Way) (is : received_way x.event ≡ Some w).
      let there = there_by layout past x.event each.0.in_range each.0.enabled w is in
      let most = there.most in
      let grown = ap (λ (j : List Entry). length (emitted w.from w.to j)) (sym all)
      ∙ ap (λ (l : List Packet). length l) (emitted_push w.from w.to past (x ∷ xs))
      ∙ length-append (emitted w.from w.to past) (emitted w.from w.to (x ∷ xs)) in
      found w.from w.to w.number there.least (omega (arith, most, grown)),
  each_has layout journal (past ++ x ∷ []) xs found (append_assoc past (x ∷ []) xs ∙ all) each.1,
)

-- ---- the arrows

within_by : (b : Bool) (i n k : ℕ) (rest : Option ℕ) → cond b (Some i) rest ≡ Some n → (rest ≡ Some n → n < i + 1 + k) → n < i + suc k
within_by true i n k rest e more = let same : i ≡ n = cc in omega (arith, same)
within_by false i n k rest e more = let later = more e in omega (arith, later)

place_within : (p : Entry → Bool) (i : ℕ) (xs : List Entry) (n : ℕ) → position_from p i xs ≡ Some n → n < i + length xs
place_within p i [] n e = absurd (cc)
place_within p i (y ∷ xs) n e = within_by (p y) i n (length xs) (position_from p (i + 1) xs) e (λ f. place_within p (i + 1) xs n f)

module _ (journal : List Entry) (line : ℕ) (x : Entry) (low : 3 ≤ line) (within : line < 3 + length journal) where
  to_if : (a : Arrow) (b : Bool) → b ≡ true → a.to ≡ line → map (λ (d : Arrow). d.to) (cond b (a ∷ []) []) ≡ line ∷ []
  to_if a true e is = ap (λ (n : ℕ). n ∷ []) is
  to_if a false e is = absurd (true≢false (sym e))

  among : (a : Arrow) → a.to ≡ line → is_shown (all_lines journal) a ≡ true
  among a is =
      let here : is_among (all_lines journal) line ≡ true = both (nat_le 3 line) (nat_lt line (3 + length journal)) (le-leb 3 line low)
      (lt-ltb line (3 + length journal) within) in
      last (is_among (all_lines journal) a.from) (is_among (all_lines journal) a.to) (ap (is_among (all_lines journal)) is ∙ here)
    where
      last : (b c : Bool) → c ≡ true → (b || c) ≡ true
      last true c e = refl
      last false c e = e

  of_packet : (place : ℕ) (y : Entry) (w : Way) (o : Option Packet) → is_way w (option_map way_of o) ≡ true →
      map (λ (d : Arrow). d.to) (if_shown (all_lines journal) (arrow_of journal line x place y o)) ≡ line ∷ []
  of_packet place y w None e = absurd (true≢false (sym e))
  of_packet place y w (Some p) e =
      let a : Arrow = record { from = place + 3; to = line; packet = p; about = named_by journal (about_of y); counts = counts x.outcome } in
      to_if a (is_shown (all_lines journal) a) (among a refl) refl

  of_place : (w : Way) (o : Option ℕ) → emitter journal w ≡ o → is_some o ≡ true →
      map (λ (d : Arrow). d.to) (if_shown (all_lines journal) (arrow_from journal line x o)) ≡ line ∷ []
  of_place w None found some = absurd (true≢false (sym some))
  of_place w (Some place) found some =
      let less = place_within (emits w) 0 journal place found in
      let there = slice_get-Some journal place (omega (arith, less)) in
      ap (λ (o : Option Entry). map (λ (d : Arrow). d.to) (if_shown (all_lines journal) (arrow_at journal line x place o))) there.1
      ∙ of_packet place there.0 w (emitted_of there.0) (found_at (emits w) 0 place place journal there.0 found (omega arith) there.1)

  of_way : (o : Option Way) → ((w : Way) → o ≡ Some w → is_some (emitter journal w) ≡ true) →
      map (λ (d : Arrow). d.to) (if_shown (all_lines journal) (arrow_by journal line x o)) ≡ cond (is_some o) (line ∷ []) []
  of_way None has = refl
  of_way (Some w) has = of_place w (emitter journal w) refl (has w refl)

map_append : (xs ys : List Arrow) → map (λ (d : Arrow). d.to) (xs ++ ys) ≡ map (λ (d : Arrow). d.to) xs ++ map (λ (d : Arrow). d.to) ys
map_append [] ys = refl
map_append (x ∷ xs) ys = ap (λ (l : List ℕ). x.to ∷ l) (map_append xs ys)

all_receipts : (journal : List Entry) (line : ℕ) (xs : List Entry) → 3 ≤ line → line + length xs ≡ 3 + length journal → AllByRecursion (HasEmitter journal) xs →
    map (λ (d : Arrow). d.to) (numbered (arrow_shown journal (all_lines journal)) line xs) ≡ numbered receipt_line line xs
all_receipts journal line [] low long has = refl
all_receipts journal line (x ∷ xs) low long has =
    map_append (arrow_shown journal (all_lines journal) line x) (numbered (arrow_shown journal (all_lines journal)) (line + 1) xs)
    ∙ ap (λ (l : List ℕ). l ++ map (λ (d : Arrow). d.to) (numbered (arrow_shown journal (all_lines journal)) (line + 1) xs))
    (of_way journal line x low (omega (arith, long)) (received_way x.event) has.0)
    ∙ ap (λ (l : List ℕ). receipt_line line x ++ l) (all_receipts journal (line + 1) xs (omega (arith, low)) (omega (arith, long)) has.1)

pub each_receipt_has_its_arrow : EachReceiptHasItsArrow
each_receipt_has_its_arrow layout journal history =
    all_receipts journal 3 journal (omega arith) refl (each_has layout journal [] journal (found_all layout journal history) refl history)
