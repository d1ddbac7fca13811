-- Text inside a document: the bytes that mean something to XML, and line feeds, are written as references.
use Rattle.std.specs.Prelude.{ℕ, Bool, ◌&&◌, ◌||◌, ◌==◌, nat_le, List, [], ◌∷◌, ◌++◌, codes, if◌then◌else◌, Option, Some, None, flat_map, bytes_eq}
use Rattle.std.specs.List.{list_all}

-- printable ASCII
abbrev pub is_printable : ℕ → Bool
is_printable byte = nat_le 32 byte && nat_le byte 126

-- what a text may hold: printable ASCII and line feeds
abbrev pub is_allowed : ℕ → Bool
is_allowed byte = byte == 10 || is_printable byte

abbrev pub is_text : List ℕ → Bool
is_text text = list_all is_allowed text

-- how a byte is written; what isn't allowed as a question mark
unfoldable pub escaped_byte : ℕ → List ℕ
escaped_byte byte =
    if byte == 38 then codes "&amp;" else
    (if byte == 60 then codes "&lt;" else
    (if byte == 62 then codes "&gt;" else
    (if byte == 34 then codes "&quot;" else
    (if byte == 39 then codes "&apos;" else
    (if byte == 10 then codes "&#10;" else
    (if is_printable byte then byte ∷ [] else codes "?"))))))

abbrev pub escaped : List ℕ → List ℕ
escaped text = flat_map escaped_byte text

-- what the reference with this name stands for
unfoldable pub meant : List ℕ → List ℕ
meant name =
    if bytes_eq name (codes "amp") then codes "&" else
    (if bytes_eq name (codes "lt") then codes "<" else
    (if bytes_eq name (codes "gt") then codes ">" else
    (if bytes_eq name (codes "quot") then codes "\"" else
    (if bytes_eq name (codes "apos") then codes "'" else
    (if bytes_eq name (codes "#10") then codes "\n" else [])))))

-- Written text is read from the left: outside of references, or inside one with the part of its name that was read.
abbrev pub Reads : Type 0
Reads = Option (List ℕ)

-- what is read out of a byte
abbrev pub read_of : Reads → ℕ → List ℕ
read_of None byte = if byte == 38 then [] else byte ∷ []
read_of (Some name) byte = if byte == 59 then meant name else []

-- where the byte leaves the reader
abbrev pub reads_on : Reads → ℕ → Reads
reads_on None byte = if byte == 38 then Some [] else None
reads_on (Some name) byte = if byte == 59 then None else Some (name ++ byte ∷ [])

abbrev pub read_from : Reads → List ℕ → List ℕ
read_from reads [] = []
read_from reads (byte ∷ written) = read_of reads byte ++ read_from (reads_on reads byte) written

-- the text that a written text stands for: each reference `&name;` stands for its byte, and every other byte for itself
abbrev pub unescaped : List ℕ → List ℕ
unescaped written = read_from None written
