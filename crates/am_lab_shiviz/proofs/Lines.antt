-- The lines of the text, and the receipts of a journal.
use Rattle.std.specs.Prelude.{codes}
use Rattle.std.proofs.Common.{◌≡◌, ℕ, ◌+◌, ◌*◌, Bool, true, false, eqb, cond, List, [], ◌∷◌, ◌++◌, length, refl, ap, ◌∙◌, arith, append_assoc}
use Rattle.std.specs.Fmt.{decimal}
use Rattle.std.proofs.lemmas.Bool.{and_parts, not-true}
use Rattle.std.proofs.lemmas.List.{length-map}
use Rattle.std.proofs.lemmas.List.Folds.{list_all-append}
use Rattle.std.specs.Prelude.{option_and_then}
use Rattle.am_check.proofs.Newlines.{decimal_whole, printed_whole}
use Rattle.am_check_lines.proofs.Cuts.{is_free}
use Rattle.am_check_lines.specs.Grammar.{printed}
use Rattle.am_lemmas.proofs.Lists.{slice_get-Some, slice_get-map_Some}
use Rattle.std.proofs.lemmas.Option.{slice_get_within}
use Rattle.am_lemmas.specs.Numbered.{numbered}
use Rattle.am_lexer.specs.Text.{lines_of}
use Rattle.am_names.specs.declared.NodeId.{NodeId}
use Rattle.am_office_entries.specs.declared.Entry.{Entry}
use Rattle.am_office_text.specs.EntryLines.Lines.{line_of}
use Rattle.am_scenario_types.specs.declared.parts.EndLine.{EndLine}
use Rattle.am_lab_picture.specs.Ways.{emitter}
use Rattle.am_lab_shiviz.specs.declared.knowledge.Clock.{Clock}
use Rattle.am_lab_shiviz.specs.Happenings.{happening, happenings_of, host}
use Rattle.am_lab_shiviz.specs.Laws.{EachEntryHasItsLines, ReceiptsKnowWhatWasSent, clocks_in, lines_at}
use Rattle.am_lab_shiviz.specs.Texts.{clock_at, clock_text, event_at, host_text, lead_after, member, member_by, members}
use Rattle.am_lab_shiviz.proofs.Heard.{each_has_its_clock, knows_what_it_hears}

-- ---- no line has a newline in it

abbrev IsWhole : List ℕ → Type 0
IsWhole text = is_free 10 text ≡ true

both : (one two : List ℕ) → IsWhole one → IsWhole two → IsWhole (one ++ two)
both one two h k = rw (list_all-append _ one two, h, k) refl

member_whole : (lead : List ℕ) (node count : ℕ) → IsWhole lead → IsWhole (member lead node count)
unfolding member
member_whole lead node count h =
    let name : List ℕ = lead ++ codes "\"n" in
    both (name ++ decimal node ++ codes "\":") (decimal count)
    (both (name ++ decimal node) (codes "\":") (both name (decimal node) (both lead (codes "\"n") h refl) (decimal_whole node)) refl) (decimal_whole count)

by_count : (zero' : Bool) (lead : List ℕ) (node count : ℕ) → IsWhole lead → IsWhole (cond zero' [] (member lead node count))
by_count true lead node count h = refl
by_count false lead node count h = member_whole lead node count h

lead_whole : (zero' : Bool) (lead : List ℕ) → IsWhole lead → IsWhole (cond zero' lead (codes ","))
lead_whole true lead h = h
lead_whole false lead h = refl

members_whole : (lead : List ℕ) (node : ℕ) (counts : List ℕ) → IsWhole lead → IsWhole (members lead node counts)
members_whole lead node [] h = refl
members_whole lead node (count ∷ counts) h =
    both (member_by lead node count) (members (lead_after lead count) (node + 1) counts) (by_count (eqb count 0) lead node count h)
    (members_whole (lead_after lead count) (node + 1) counts (lead_whole (eqb count 0) lead h))

clock_whole : (clock : Clock) → IsWhole (clock_text clock)
unfolding clock_text
clock_whole clock =
    let counts : List ℕ = members [] 0 clock.counts in
    both (codes "{" ++ counts) (codes "}") (both (codes "{") counts refl (members_whole [] 0 clock.counts refl)) refl

host_whole : (node : NodeId) (clock : Clock) → IsWhole (host_text node clock)
unfolding host_text
host_whole node clock =
    let name : List ℕ = codes "n" ++ decimal node.0 in
    both (name ++ codes " ") (clock_text clock) (both name (codes " ") (both (codes "n") (decimal node.0) refl (decimal_whole node.0)) refl) (clock_whole clock)

-- ---- the lines

line_first : (line text : List ℕ) → IsWhole line → lines_of (line ++ 10 ∷ text) ≡ line ∷ lines_of text
unfolding lines_of
line_first [] text h = refl
line_first (byte ∷ line) text h =
    let p = and_parts _ _ h in
    let other : eqb byte 10 ≡ false = not-true _ p.0 in
    rw (other, line_first line text p.1) refl

no_lines : lines_of [] ≡ []
unfolding lines_of
no_lines = refl

line_is : (x : Entry) → line_of x ≡ printed x ++ codes "\n"
unfolding line_of
line_is x = refl

-- two lines in front of a text
two_first : (one two text : List ℕ) → IsWhole one → IsWhole two → lines_of (one ++ codes "\n" ++ (two ++ codes "\n") ++ text) ≡ one ∷ two ∷ lines_of text
two_first one two text h k =
    ap lines_of (append_assoc (one ++ codes "\n") (two ++ codes "\n") text ∙ append_assoc one (codes "\n") (two ++ codes "\n" ++ text))
    ∙ line_first one (two ++ codes "\n" ++ text) h
    ∙ ap (λ (ls : List (List ℕ)). one ∷ ls) (ap lines_of (append_assoc two (codes "\n") text) ∙ line_first two text k)

all_lines : (ends : List EndLine) (clocks : List Clock) (place : ℕ) (xs : List Entry) →
    lines_of (numbered (event_at ends clocks) place xs) ≡ numbered (lines_at ends clocks) place xs
all_lines ends clocks place [] = no_lines
all_lines ends clocks place (x ∷ xs) =
    let first : List ℕ = host_text (host ends x.event) (clock_at clocks place) in
    let rest : List ℕ = numbered (event_at ends clocks) (place + 1) xs in
    ap (λ (l : List ℕ). lines_of (first ++ codes "\n" ++ l ++ rest)) (line_is x)
    ∙ two_first first (printed x) rest (host_whole (host ends x.event) (clock_at clocks place)) (printed_whole x)
    ∙ ap (λ (ls : List (List ℕ)). first ∷ printed x ∷ ls) (all_lines ends clocks (place + 1) xs)

twice : (ends : List EndLine) (clocks : List Clock) (place : ℕ) (xs : List Entry) → length (numbered (lines_at ends clocks) place xs) ≡ 2 * length xs
twice ends clocks place [] = refl
twice ends clocks place (x ∷ xs) = let more = twice ends clocks (place + 1) xs in omega (arith, more)

pub each_entry_has_its_lines : EachEntryHasItsLines
each_entry_has_its_lines ends journal =
    let lines = all_lines ends (clocks_in ends journal) 0 journal in
    record {
      lines = lines;
      count = ap length lines ∙ twice ends (clocks_in ends journal) 0 journal;
      clocks = each_has_its_clock (happenings_of ends journal) ∙ length-map journal (happening ends journal);
    }

-- ---- receipts

pub receipts_know : ReceiptsKnowWhatWasSent
receipts_know ends journal from place x way sent clock at receives emits less first last =
    let size = length-map journal (happening ends journal) in
    let within = slice_get_within journal place x at in
    let there = slice_get-Some (happenings_of ends journal) from (omega (arith, size, within, less)) in
    knows_what_it_hears (happenings_of ends journal) from place there.0 (happening ends journal x) sent clock
    (record { there = there.1; clock' = first })
    (record { there = slice_get-map_Some (happening ends journal) journal place x at; clock' = last })
    less
    (ap (option_and_then (emitter journal)) receives ∙ emits)
