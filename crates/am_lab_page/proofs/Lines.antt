-- The lines of a journal's objects.
use Rattle.std.proofs.Common.{◌≡◌, ℕ, suc, ◌+◌, Bool, true, false, ◌||◌, eqb, not, List, [], ◌∷◌, ◌++◌, codes, length, Option, Some, None, refl, ap, ◌∙◌, append_assoc}
use Rattle.std.specs.Fmt.{decimal}
use Rattle.std.specs.List.{list_all}
use Rattle.std.proofs.lemmas.Bool.{and_parts, not-true}
use Rattle.am_check_lines.proofs.Cuts.{is_free}
use Rattle.am_lab_picture.specs.Rows.{row}
use Rattle.am_lab_picture.specs.declared.data.Named.{Named}
use Rattle.am_lab_picture.specs.declared.data.Row.{Row}
use Rattle.am_lab_xml.proofs.Bools.{all_of_both, all_weaker, apart}
use Rattle.am_lemmas.specs.Numbered.{numbered}
use Rattle.am_lexer.specs.Text.{lines_of}
use Rattle.am_names.specs.declared.Packet.{Packet}
use Rattle.am_names.specs.declared.Way.{Way}
use Rattle.am_names.specs.Packets.{way_of}
use Rattle.am_office_entries.specs.Entries.{emitted_of}
use Rattle.am_office_entries.specs.declared.Entry.{Entry}
use Rattle.am_office_entries.specs.declared.endings.Fate.{Fate}
use Rattle.am_office_entries.specs.declared.endings.Fate.TheVariants as Fates
use Rattle.am_office_text.specs.EntryLines.Lines.{outcome, what, who}
use Rattle.am_office_text.specs.Words.{Word, serial}
use Rattle.am_lab_page.specs.Json.Objects.{fate_of, fate_value, link_part, message_part, object_of, packet_value, place_part, quoted, serial_value, spread, text_part, text_value, way_value}
use Rattle.am_lab_page.specs.Json.Laws.{EachEntryHasItsLine, ObjectsAreInert, are_plain, is_of_object, is_plain}
use Rattle.am_lab_page.proofs.Plain.{nothing_is_escaped, number_is_plain, serial_is_plain}

-- ---- the bytes of an object

IsInert : List ℕ → Type 0
IsInert text = list_all is_of_object text ≡ true

both : (a b : List ℕ) → IsInert a → IsInert b → IsInert (a ++ b)
unfolding IsInert
both a b h k = all_of_both is_of_object a b h k

or_more : (a b : Bool) → a ≡ true → (a || b) ≡ true
or_more true b h = refl
or_more false b h = absurd (cc)

plain : (text : List ℕ) → are_plain text ≡ true → IsInert text
unfolding IsInert
plain text h = all_weaker is_plain is_of_object (λ byte p. or_more (is_plain byte) _ p) text h

number : (n : ℕ) → IsInert (decimal n)
number n = plain (decimal n) (number_is_plain n)

in_quotes : (text : List ℕ) → IsInert text → IsInert (quoted text)
unfolding quoted IsInert
in_quotes text h = both (codes "\"" ++ text) (codes "\"") (both (codes "\"") text refl h) refl

of_words : (words : List Word) → are_plain (spread words) ≡ true → IsInert (text_value words)
unfolding IsInert
of_words [] h = refl
of_words (word ∷ words) h = in_quotes (spread (word ∷ words)) (plain (spread (word ∷ words)) h)

of_serial : (named : Option Named) → IsInert (serial_value named)
unfolding IsInert
of_serial None = refl
of_serial (Some named) = in_quotes (serial named.serial) (plain (serial named.serial) (serial_is_plain named.serial))

of_fate : (fate : Option Fate) → IsInert (fate_value fate)
unfolding IsInert fate_value
of_fate None = refl
of_fate (Some Fates.Ran) = refl
of_fate (Some (Fates.Returned cause)) = refl
of_fate (Some Fates.Unknown) = refl
of_fate (Some Fates.UnknownButRan) = refl
of_fate (Some Fates.Pending) = refl

of_named : (named : Option Named) → IsInert (fate_of named)
unfolding IsInert
of_named None = refl
of_named (Some named) = of_fate named.fate

of_link : (from to : ℕ) → IsInert (link_part from to)
unfolding link_part IsInert
of_link from to =
    let one : List ℕ = codes "{\"from\":" ++ decimal from in
    let two : List ℕ = one ++ codes ",\"to\":" in
    both two (decimal to) (both one (codes ",\"to\":") (both (codes "{\"from\":") (decimal from) refl (number from)) refl) (number to)

of_way : (way : Way) → IsInert (way_value way)
unfolding way_value IsInert
of_way way =
    let link : List ℕ = link_part way.from.0 way.to.0 in
    let name : List ℕ = link ++ codes ",\"number\":" in
    let value : List ℕ = name ++ decimal way.number in
    both value (codes "}") (both name (decimal way.number) (both link (codes ",\"number\":") (of_link way.from.0 way.to.0) refl) (number way.number)) refl

of_packet : (packet : Option Packet) → IsInert (packet_value packet)
unfolding IsInert
of_packet None = refl
of_packet (Some packet) = of_way (way_of packet)

of_place : (line stamp : ℕ) → IsInert (place_part line stamp)
unfolding place_part IsInert
of_place line stamp =
    let one : List ℕ = codes "{\"line\":" ++ decimal line in
    let two : List ℕ = one ++ codes ",\"stamp\":" in
    both two (decimal stamp) (both one (codes ",\"stamp\":") (both (codes "{\"line\":") (decimal line) refl (number line)) refl) (number stamp)

-- three names, each with its value
three : (name value name' value' name'' value'' : List ℕ) → IsInert name → IsInert value → IsInert name' → IsInert value' → IsInert name'' →
    IsInert value'' → IsInert (name ++ value ++ name' ++ value' ++ name'' ++ value'')
three name value name' value' name'' value'' n v n' v' n'' v'' =
    both (name ++ value ++ name' ++ value' ++ name'') value'' (both (name ++ value ++ name' ++ value') name'' (both (name ++ value ++ name') value'
    (both (name ++ value) name' (both name value n v) n') v') n'') v''

of_texts : (x : Entry) → IsInert (text_part x)
unfolding text_part IsInert
of_texts x =
    let p = nothing_is_escaped x in
    three (codes ",\"actor\":") (quoted (who x.event)) (codes ",\"event\":") (quoted (spread (what x.event))) (codes ",\"outcome\":") (text_value (outcome x.outcome))
    refl (in_quotes (who x.event) (plain (who x.event) p.actor)) refl (in_quotes (spread (what x.event)) (plain (spread (what x.event)) p.event)) refl
    (of_words (outcome x.outcome) p.outcome')

of_messages : (r : Row) → IsInert (message_part r)
unfolding message_part IsInert
of_messages r =
    three (codes ",\"serial\":") (serial_value r.about) (codes ",\"fate\":") (fate_of r.about) (codes ",\"reply\":") (serial_value r.reply)
    refl (of_serial r.about) refl (of_named r.about) refl (of_serial r.reply)

inert : (number : ℕ) (r : Row) → IsInert (object_of number r)
unfolding IsInert
inert number r =
    let one : List ℕ = place_part number r.entry.stamp ++ text_part r.entry in
    let two : List ℕ = one ++ message_part r in
    let name : List ℕ = two ++ codes ",\"packet\":" in
    let packet : List ℕ = packet_value (emitted_of r.entry) in
    both (name ++ packet) (codes "}") (both name packet (both two (codes ",\"packet\":") (both one (message_part r)
    (both (place_part number r.entry.stamp) (text_part r.entry) (of_place number r.entry.stamp) (of_texts r.entry)) (of_messages r)) refl)
    (of_packet (emitted_of r.entry))) refl

pub objects_are_inert : ObjectsAreInert
unfolding IsInert
objects_are_inert number r = inert number r

-- ---- their lines

not_so : (a : Bool) → a ≡ false → not a ≡ true
not_so false h = refl
not_so true h = absurd (cc)

whole : (number : ℕ) (r : Row) → is_free 10 (object_of number r) ≡ true
whole number r = all_weaker is_of_object (λ b. not (eqb b 10)) (λ b p. not_so (eqb b 10) (apart is_of_object b 10 p refl)) (object_of number r) (objects_are_inert number r)

line_first : (line text : List ℕ) → is_free 10 line ≡ true → lines_of (line ++ 10 ∷ text) ≡ line ∷ lines_of text
unfolding lines_of
line_first [] text h = refl
line_first (byte ∷ line) text h =
    let p = and_parts _ _ h in
    let other : eqb byte 10 ≡ false = not-true _ p.0 in
    rw (other, line_first line text p.1) refl

no_lines : lines_of [] ≡ []
unfolding lines_of
no_lines = refl

module _ {X : Type 0} (give : ℕ → X → List ℕ) (is_whole : (number : ℕ) (x : X) → is_free 10 (give number x) ≡ true) where
  lines_are : (number : ℕ) (xs : List X) → lines_of (numbered (λ n x. give n x ++ codes "\n") number xs) ≡ numbered (λ n x. give n x ∷ []) number xs
  lines_are number [] = no_lines
  lines_are number (x ∷ xs) =
      ap lines_of (append_assoc (give number x) (codes "\n") (numbered (λ n y. give n y ++ codes "\n") (number + 1) xs))
      ∙ line_first (give number x) (numbered (λ n y. give n y ++ codes "\n") (number + 1) xs) (is_whole number x)
      ∙ ap (λ (ls : List (List ℕ)). give number x ∷ ls) (lines_are (number + 1) xs)

  count_is : (number : ℕ) (xs : List X) → length (numbered (λ n x. give n x ∷ []) number xs) ≡ length xs
  count_is number [] = refl
  count_is number (x ∷ xs) = ap (λ (n : ℕ). suc n) (count_is (number + 1) xs)

pub each_entry_has_its_line : EachEntryHasItsLine
each_entry_has_its_line journal =
    let lines = lines_are (λ n x. object_of n (row journal x)) (λ n x. whole n (row journal x)) 3 journal in
    record { lines = lines; count = ap length lines ∙ count_is (λ n x. object_of n (row journal x)) (λ n x. whole n (row journal x)) 3 journal }
