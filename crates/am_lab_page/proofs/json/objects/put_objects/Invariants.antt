use Rattle.std.proofs.Common.{◌≡◌, ◌+◌, ◌++◌, drop}
use Rattle.am_lemmas.specs.Numbered.{numbered}
use Rattle.am_lab_page.specs.Json.Objects.{object_line}
use Rattle.am_lab_page.proofs.json.objects.put_objects.Given as goal

abbrev pub invariant-loop-row : goal.invariant-loop-row
invariant-loop-row l =
    record {
      line : l.line ≡ l.row-index + 3;
      out : l.out.items ++ numbered object_line l.line (drop l.row-index l.rows) ≡ l.fn.out.items ++ numbered object_line 3 l.rows;
    }
