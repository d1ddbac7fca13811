use Rattle.std.proofs.Common.{◌≡◌, ◌++◌, map}
use Rattle.am_lab_xml.specs.Trees.{printed}
use Rattle.am_office_text.specs.Pieces.{word_of}
use Rattle.am_lab_chart.specs.Lanes.{repeated}
use Rattle.am_lab_chart.proofs.lanes.put_repeated.Given as goal

abbrev pub invariant-loop-page : goal.invariant-loop-page
invariant-loop-page l = l.out.items ≡ l.fn.out.items ++ printed (repeated l.x (map word_of l.told) (map word_of l.words) l.page)
