-- The lines that stand in the text for an own line.
use Rattle.std.specs.Prelude.{ℕ, List, [], ◌∷◌, ◌++◌, codes, replicate}
use Rattle.std.specs.Fmt.{decimal}
use Rattle.std.specs.List.{flat_map}
use Rattle.am_names.specs.declared.EndpointId.{EndpointId}
use Rattle.am_names.specs.declared.Words.{Words}
use Rattle.am_office_text.specs.Words.{spaced}
use Rattle.am_segment_pieces.specs.declared.parts.Piece.{Piece}
use Rattle.am_segment_pieces.specs.Pieces.{words_of}
use Rattle.am_segment_pieces.specs.Blocks.{pieces_of}
use Rattle.am_segment.specs.declared.saying.Sent.{Sent}
use Rattle.am_segment.specs.declared.saying.Served.{Served}

-- tT poll E
unfoldable pub poll_line : ℕ → EndpointId → List ℕ
poll_line thread end = codes "t" ++ decimal thread ++ spaced (codes "poll" ∷ decimal end.0 ∷ [])

-- tT request E I H A B C D
unfoldable pub request_line : ℕ → EndpointId → ℕ → ℕ → Words → List ℕ
request_line thread end index handler w =
    codes "t" ++ decimal thread
    ++ spaced (codes "request" ∷ decimal end.0 ∷ decimal index ∷ decimal handler ∷ decimal w.a ∷ decimal w.b ∷ decimal w.c ∷ decimal w.d ∷ [])

-- a piece becomes a request and a poll of its source
abbrev pub piece_lines : ℕ → Sent → Piece → List (List ℕ)
piece_lines thread sent piece = request_line thread sent.end sent.index sent.handler (words_of piece) ∷ poll_line thread sent.end ∷ []

-- the lines of a transfer, which has this number
abbrev pub transfer_lines : ℕ → ℕ → Sent → List (List ℕ)
transfer_lines number thread sent = flat_map (piece_lines thread sent) (pieces_of number sent.transfer)

abbrev pub serve_lines : ℕ → Served → List (List ℕ)
serve_lines thread served = replicate served.polls (poll_line thread served.end)
