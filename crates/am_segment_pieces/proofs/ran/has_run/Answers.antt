use Rattle.std.proofs.Common.{List, ◌∙◌}
use Rattle.am_office_entries.specs.declared.Entry.{Entry}
use Rattle.am_segment_pieces.specs.Runs.{TellsRuns, run_key}
use Rattle.am_segment_pieces.proofs.Counted.{key_is_run}
use Rattle.am_segment_pieces.proofs.ran.has_run.Goals as goal

pub returns : goal.returns
returns c = λ (journal : List Entry) (tells : TellsRuns c.args.runs.now journal).
    rw (← c.words.ensures)
    (c.contains.ensures ∙ (rw c.run_key.ensures (tells.each (run_key c.args.segment.end c.args.segment.handler c.words.result)))
    ∙ key_is_run journal c.args.segment.end c.args.segment.handler c.words.result)
