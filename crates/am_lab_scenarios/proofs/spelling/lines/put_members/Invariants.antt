use Rattle.std.proofs.Common.{◌≡◌, ◌++◌, take}
use Rattle.am_office_text.specs.Words.{spaced}
use Rattle.am_lab_scenarios.specs.Spelling.Texts.{member_words}
use Rattle.am_lab_scenarios.proofs.spelling.lines.put_members.Given as goal

abbrev pub invariant-loop-member : goal.invariant-loop-member
invariant-loop-member l = l.out.items ≡ l.fn.out.items ++ spaced (member_words (take l.member-index l.members))
