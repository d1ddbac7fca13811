use Rattle.std.proofs.Common.{◌≡◌, ◌≤◌, ◌+◌, ◌*◌, ◌++◌, ◌||◌, drop, map}
use Rattle.am_lab_xml.specs.Trees.{printed}
use Rattle.am_lab_chart.specs.Legends.{has_some, meanings, meant_by}
use Rattle.am_lab_chart.proofs.legends.put_meanings.Given as goal

abbrev pub invariant-loop-meaning : goal.invariant-loop-meaning
invariant-loop-meaning l =
    record {
      near : l.x ≤ 20 + 255 * l.meaning-index;
      some : (l.has_some || has_some l.picture (map meant_by (drop l.meaning-index l.meanings))) ≡ has_some l.picture (map meant_by l.meanings);
      out : l.out.items ++ printed (meanings l.picture l.x l.y (map meant_by (drop l.meaning-index l.meanings))) ≡ l.fn.out.items ++ printed
          (meanings l.picture 20 l.y (map meant_by l.meanings));
    }
