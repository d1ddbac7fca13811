-- The words of the printed texts. A number is printed in decimal without leading zeros.
use Rattle.std.specs.Prelude.{ℕ, List, ◌++◌, codes, if◌then◌else◌, ◌==◌}
use Rattle.std.specs.Fmt.{decimal}
use Rattle.std.specs.List.{flat_map}
use Rattle.am_names.specs.declared.Serial.{Serial}
use Rattle.am_names.specs.declared.Tag.{Tag}
use Rattle.am_names.specs.declared.MsgKind.{MsgKind}
use Rattle.am_names.specs.declared.MsgKind.TheVariants as Kinds
use Rattle.am_names.specs.declared.Cause.{Cause}
use Rattle.am_names.specs.declared.Cause.TheVariants as Causes
use Rattle.am_names.specs.declared.Verdict.{Verdict}
use Rattle.am_names.specs.declared.Verdict.TheVariants as Verdicts
use Rattle.am_names.specs.declared.Why.{Why}
use Rattle.am_names.specs.declared.Why.TheVariants as Whys

-- the bytes of a word
abbrev pub Word : Type 0
Word = List ℕ

-- each word after a space
unfoldable pub spaced : List Word → List ℕ
spaced words = flat_map (λ (word : Word). codes " " ++ word) words

-- a line: its words with one space between them, and its end
abbrev pub line : Word → List Word → List ℕ
line first words = first ++ spaced words ++ codes "\n"

-- `E.K`: the source and the count
unfoldable pub serial : Serial → Word
serial s = decimal s.source.0 ++ codes "." ++ decimal s.count

-- `none`, `all` or a number
unfoldable pub tag : Tag → Word
tag t = if t.0 == 0 then codes "none" else (if t.0 == 18446744073709551615 then codes "all" else decimal t.0)

unfoldable pub cause : Cause → Word
cause Causes.NoEndpoint = codes "no-endpoint"
cause Causes.NotResident = codes "not-resident"
cause Causes.BadTag = codes "bad-tag"
cause Causes.BadHandler = codes "bad-handler"
cause Causes.QueueFull = codes "queue-full"
cause Causes.NoRequest = codes "no-request"

unfoldable pub verdict : Verdict → Word
verdict Verdicts.Accepted = codes "accepted"
verdict (Verdicts.Refused c) = cause c

unfoldable pub why : Why → Word
why Whys.Unknown = codes "unknown"
why (Whys.Refused c) = cause c

unfoldable pub kind : MsgKind → Word
kind Kinds.Request = codes "request"
kind Kinds.Reply = codes "reply"
kind Kinds.Empty = codes "empty"
