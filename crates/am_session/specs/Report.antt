-- The report of a session.
use Rattle.std.specs.Prelude.{ℕ, List, [], ◌∷◌, ◌++◌, codes, length}
use Rattle.std.specs.Fmt.{decimal}
use Rattle.std.specs.List.{flat_map, range_with_len}
use Rattle.am_office_text.specs.Words.{line}
use Rattle.am_restart.specs.declared.events.SessionEntry.{SessionEntry}
use Rattle.am_restart.specs.Fates.{fate, messages}
use Rattle.am_session.specs.Lines.{line_of, fate_word}

-- `fate M FATE`
unfoldable pub fate_line : List SessionEntry → ℕ → List ℕ
fate_line entries m = line (codes "fate") (decimal m ∷ fate_word (fate entries m) ∷ [])

-- the fates of the messages 1, 2 and so on, of which there are so many
abbrev pub fate_lines : List SessionEntry → ℕ → List ℕ
fate_lines entries count = flat_map (fate_line entries) (range_with_len 1 count)

-- the report: how many entries there are, their lines, how many messages were offered, and the fate of each
unfoldable pub report : List SessionEntry → List ℕ
report entries =
    line (codes "session") (codes "report" ∷ codes "1" ∷ [])
    ++ line (codes "entries") (decimal (length entries) ∷ [])
    ++ flat_map line_of entries
    ++ line (codes "messages") (decimal (messages entries) ∷ [])
    ++ fate_lines entries (messages entries)
