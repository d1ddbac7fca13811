use Rattle.std.proofs.Common.{ℕ, List, refl}
use Rattle.am_lab_xml.specs.Trees.{each, printed}
use Rattle.am_lab_picture.specs.declared.data.Span.{Span}
use Rattle.am_lab_chart.specs.Bars.{records}
use Rattle.am_lab_chart.proofs.Each.{one_more}
use Rattle.am_lab_chart.proofs.bars.put_records.Goals as goal

pub loop-span-preserved : goal.loop-span-preserved
loop-span-preserved c =
    one_more (λ (item : Span ℕ). printed (records c.args.picture.now c.args.x c.args.end item))
    (λ (items : List (Span ℕ)). printed (each (records c.args.picture.now c.args.x c.args.end) items)) c.args.spans.now
    c.loop-span.span-index _ _ _ _ _ (λ item rest. refl) c.loop-span-test.true refl c.loop-span.invariant c.in_ok-put_record_level.ensures
