use Rattle.std.proofs.Common.{◌≡◌, ◌++◌, [], drop}
use denote.Text.{Utf8}
use denote.Shadow.{shadow}
use Rattle.am_lab_shiviz.specs.Texts.{members}
use Rattle.am_lab_shiviz.proofs.texts.put_members.Given as goal

abbrev pub invariant-loop-number : goal.invariant-loop-number
invariant-loop-number l =
    record {
      lead : shadow (Utf8 l.lead);
      node : l.node ≡ l.number-index;
      out : l.out.items ++ members l.lead l.node (drop l.number-index l.counts) ≡ l.fn.out.items ++ members [] 0 l.counts;
    }
