-- What the reader keeps stands for.
use Rattle.am_segment.specs.declared.expansion.Expansion.{Expansion}
use Rattle.am_segment.specs.Laid.{Laid}

abbrev pub laid : Expansion → Laid
laid e = record {
  ends = e.ends.items;
  scripted = e.scripted;
  segments = e.segments.items;
  transfers = e.transfers.items;
  calls = e.calls;
  text = e.text.items;
  origin = e.origin.items;
}
