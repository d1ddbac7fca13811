-- Texts of one part more.
use Rattle.std.proofs.Common.{◌≡◌, ℕ, true, ◌+◌, ◌*◌, List, [], ◌∷◌, ◌++◌, refl, sym, ap, ◌∙◌, length, take, drop, map, add-one, zero-add, replicate, arith}
use Rattle.std.proofs.Common.{min, ◌-◌, ◌≤◌, ◌^◌}
use Rattle.std.specs.Prelude.{find, ◌==◌}
use Rattle.std.specs.List.{flat_map, range_with_len}
use Rattle.std.proofs.lemmas.List.{append_assoc, append-nil, length-drop, take_min}
use Rattle.std.proofs.lemmas.Grind.{flat_map-append}
use Rattle.std.proofs.lemmas.List.FromFn.{map-range_with_len_more, length-map-range_with_len}
use Rattle.am_office_entries.specs.declared.Entry.{Entry}
use Rattle.am_names.specs.declared.Words.{Words}
use Rattle.am_segment_pieces.specs.declared.parts.Piece.{Piece}
use Rattle.am_segment_pieces.specs.declared.segment.SegmentLine.{SegmentLine}
use Rattle.am_segment_pieces.specs.Pieces.{words_of}
use Rattle.am_segment_pieces.specs.Blocks.{piece_at, pieces_of, piece_count}
use Rattle.am_segment.specs.declared.saying.Sent.{Sent}
use Rattle.am_segment_pieces.specs.Lists.{TransferLists}
use Rattle.am_segment.specs.Laid.{Laid, closed}
use Rattle.am_segment.specs.Expansion.{with_transfer}
use Rattle.am_segment.specs.Texts.{piece_lines, poll_line, request_line, transfer_lines}
use Rattle.am_segment.specs.Printed.{part_of, parts_below, row_of, rows_below}

-- one part more at the end
pub more : (out0 out1 out2 a part : List ℕ) → out1 ≡ out0 ++ a → out2 ≡ out1 ++ part → out2 ≡ out0 ++ (a ++ part)
more out0 out1 out2 a part e f = rw (f, e) (append_assoc out0 a part)

pub rows_none : (bytes : List ℕ) → rows_below bytes 0 ≡ []
unfolding rows_below
rows_none bytes = refl

pub rows_more : (bytes : List ℕ) (n : ℕ) → rows_below bytes (n + 1) ≡ rows_below bytes n ++ row_of (take 32 (drop (32 * n) bytes))
unfolding rows_below
rows_more bytes n = rw add-one refl

pub parts_none : (journal : List Entry) (segments : List SegmentLine) → parts_below journal segments 0 ≡ []
unfolding parts_below
parts_none journal segments = refl

pub parts_more : (journal : List Entry) (segments : List SegmentLine) (n : ℕ) →
    parts_below journal segments (n + 1) ≡ parts_below journal segments n ++ part_of journal (find (λ (s : SegmentLine). s.end.0 == n) segments)
unfolding parts_below
parts_more journal segments n = rw add-one refl

-- the lines of the first pieces
abbrev pub lines_of_pieces : ℕ → ℕ → Sent → ℕ → List ℕ
lines_of_pieces number thread sent n = flat_map closed (flat_map (piece_lines thread sent) (map (piece_at number sent.transfer) (range_with_len 0 n)))

pub lines_more : (number thread : ℕ) (sent : Sent) (n : ℕ) → lines_of_pieces number thread sent (n + 1) ≡ lines_of_pieces number thread sent n ++
    (closed (request_line thread sent.end sent.index sent.handler (words_of (piece_at number sent.transfer n))) ++ (closed (poll_line thread sent.end) ++ []))
lines_more number thread sent n =
    let f : Piece → List (List ℕ) = piece_lines thread sent in
    let front : List Piece = map (piece_at number sent.transfer) (range_with_len 0 n) in
    let piece : Piece = piece_at number sent.transfer n in
    ap (λ (pieces : List Piece). flat_map closed (flat_map f pieces)) (map-range_with_len_more (piece_at number sent.transfer) 0 n n (zero-add n))
    ∙ ap (flat_map closed) (flat_map-append f front (piece ∷ []))
    ∙ flat_map-append closed (flat_map f front) (f piece ++ [])

four : (out0 out1 out2 out3 a r p : List ℕ) → out1 ≡ out0 ++ a → out2 ≡ out1 ++ r → out3 ≡ out2 ++ p → out3 ≡ out0 ++ (a ++ (r ++ (p ++ [])))
four out0 out1 out2 out3 a r p e f g = rw (g, f, e) (simp (append_assoc, append-nil))

-- a request and a poll more
pub piece_more : (number thread : ℕ) (sent : Sent) (n : ℕ) (piece : Piece) (words : Words) (out0 out1 out2 out3 : List ℕ) →
    piece ≡ piece_at number sent.transfer n → words ≡ words_of piece → out1 ≡ out0 ++ lines_of_pieces number thread sent n →
    out2 ≡ out1 ++ closed (request_line thread sent.end sent.index sent.handler words) → out3 ≡ out2 ++ closed (poll_line thread sent.end) →
    out3 ≡ out0 ++ lines_of_pieces number thread sent (n + 1)
piece_more number thread sent n piece words out0 out1 out2 out3 at are e f g =
    let r : List ℕ = closed (request_line thread sent.end sent.index sent.handler (words_of (piece_at number sent.transfer n))) in
    let p : List ℕ = closed (poll_line thread sent.end) in
    let a : List ℕ = lines_of_pieces number thread sent n in
    let second : out2 ≡ out1 ++ r = rw (← at, ← are) f in
    four out0 out1 out2 out3 a r p e second g ∙ ap (λ (rest : List ℕ). out0 ++ rest) (sym (lines_more number thread sent n))

-- each piece has two lines
twice : (thread : ℕ) (sent : Sent) (pieces : List Piece) → length (flat_map (piece_lines thread sent) pieces) ≡ 2 * length pieces
twice thread sent [] = refl
twice thread sent (piece ∷ pieces) = let rest : length (flat_map (piece_lines thread sent) pieces) ≡ 2 * length pieces = twice thread sent pieces in omega arith

pub transfer_lines_length : (number thread : ℕ) (sent : Sent) → length (transfer_lines number thread sent) ≡ 2 * piece_count sent.transfer
transfer_lines_length number thread sent =
    twice thread sent (pieces_of number sent.transfer) ∙ ap (λ (n : ℕ). 2 * n) (length-map-range_with_len (piece_at number sent.transfer) 0
    (piece_count sent.transfer))

-- the row of bytes from a place on
pub row_taken : (xs : List ℕ) (start end : ℕ) → end ≡ min (start + 32) (length xs) → start ≤ length xs →
    take (end - start) (drop start xs) ≡ take 32 (drop start xs)
row_taken xs start end is within =
    let size : length (drop start xs) ≡ length xs - start = length-drop start xs in
    let count : end - start ≡ min 32 (length (drop start xs)) = omega arith in
    ap (λ (n : ℕ). take n (drop start xs)) count ∙ take_min 32 (drop start xs)

-- what is said after a transfer
pub sent_laid : (said : Laid) (number thread : ℕ) (sent : Sent) (transfers : List TransferLists) (text origin : List ℕ) (pieces transfer : ℕ)
    → transfer ≡ length said.transfers + 1
    → pieces ≡ piece_count sent.transfer
    → transfers ≡ said.transfers ++ sent.transfer ∷ []
    → text ≡ said.text ++ flat_map closed (transfer_lines transfer thread sent)
    → origin ≡ said.origin ++ replicate (2 * pieces) number
    → record said {
      scripted = true;
      transfers = transfers;
      calls = said.calls + 2 * pieces;
      text = text;
      origin = origin;
    } ≡ with_transfer number thread said sent
sent_laid said number thread sent transfers text origin pieces transfer at counted pushed put from =
    let calls' : said.calls + 2 * pieces ≡ said.calls + 2 * piece_count sent.transfer = ap (λ (n : ℕ). said.calls + 2 * n) counted in
    let text' : text ≡ said.text ++ flat_map closed (transfer_lines (length said.transfers + 1) thread sent) = put
    ∙ ap (λ (n : ℕ). said.text ++ flat_map closed (transfer_lines n thread sent)) at in
    let lines : 2 * pieces ≡ length (transfer_lines (length said.transfers + 1) thread sent) = ap (λ (n : ℕ). 2 * n) counted
    ∙ sym (transfer_lines_length (length said.transfers + 1) thread sent) in
    let origin' : origin ≡ said.origin ++ replicate (length (transfer_lines (length said.transfers + 1) thread sent)) number = from
    ∙ ap (λ (n : ℕ). said.origin ++ replicate n number) lines in
    λ i. record { ends = said.ends; scripted = true; segments = said.segments; transfers = pushed i; calls = calls' i; text = text' i; origin = origin' i }

-- the line behind the last
pub behind_all : (number all : ℕ) (lines : List (List ℕ)) → number ≤ 2 ^ 32 - 1 → lines ≡ [] → min (number + length lines) (2 ^ 32 - 1) ≡ all → number ≡ all
behind_all number all lines small none is =
    let front : min (number + 0) (2 ^ 32 - 1) ≡ all = rw none at is in
    omega arith
