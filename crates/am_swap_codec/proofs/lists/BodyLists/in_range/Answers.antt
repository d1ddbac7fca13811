use Rattle.std.proofs.Common.{sym, ap, ◌∙◌, subst}
use Rattle.std.specs.List.{list_all}
use Rattle.am_swap_image.specs.Range.{IsInRange, fits_handler, fits_mapping, fits_message, fits_notice, fits_queued, fits_record}
use Rattle.am_swap_codec.proofs.lists.BodyLists.in_range.Goals as goal

pub returns : goal.returns
returns c =
    subst IsInRange c.self.view_is
    (record {
      tag = c.head_in_range.ensures.tag;
      sum = c.head_in_range.ensures.sum;
      accepted = c.head_in_range.ensures.accepted;
      mapped = ap (list_all fits_mapping) (sym c.deref.ensures.value) ∙ c.all_in_range.ensures;
      awaited = ap (list_all fits_record) (sym c.deref-2.ensures.value) ∙ c.all_in_range-2.ensures;
      handlers = ap (list_all fits_handler) (sym c.deref-3.ensures.value) ∙ c.all_in_range-3.ensures;
      requests = ap (list_all fits_queued) (sym c.deref-4.ensures.value) ∙ c.all_in_range-4.ensures;
      replies = ap (list_all fits_queued) (sym c.deref-5.ensures.value) ∙ c.all_in_range-5.ensures;
      notices = ap (list_all fits_notice) (sym c.deref-6.ensures.value) ∙ c.all_in_range-6.ensures;
      received = ap (list_all fits_message) (sym c.deref-7.ensures.value) ∙ c.all_in_range-7.ensures;
    })
