use Rattle.std.proofs.Common.{refl, sym, ap, ◌∙◌, true≢false}
use Rattle.am_model.specs.Endpoint.{waits_for}
use Rattle.am_translate.specs.Seen.{table_in}
use Rattle.am_translate.proofs.Kept.{table_marked_as}
use Rattle.am_translate.proofs.Lists.{found, unfound}
use Rattle.am_translate.proofs.Translate.reply_arrives.Goals as goal

pub returns-in-None-clause-no_request : goal.returns-in-None-clause-no_request
returns-in-None-clause-no_request c = (
  λ _. unfound (waits_for c.args.request) _ _ _ c.args.self.now.awaited c.waiting_place.ensures c.in-None.is c.as_slice.ensures.items
      (ap (λ t. t.awaited) c.self.view_is),
  λ _. refl,
)

pub returns-in-Some-clause-no_request : goal.returns-in-Some-clause-no_request
returns-in-Some-clause-no_request c = (
  λ e. absurd (cc),
  λ no. absurd (true≢false (sym (found (waits_for c.args.request) _ _ _ _ c.args.self.now.awaited c.waiting_place.ensures c.in-Some.is c.as_slice.ensures.items
      (ap (λ t. t.awaited) c.self.view_is)).0 ∙ no)),
)

pub invariant_of-self : goal.invariant_of-self
invariant_of-self c = table_marked_as (table_in c.self.inside) c.args.request c.mark_arrived.new.self c.mark_arrived.ensures c.self.invariant

pub returns-in-Some-clause-table : goal.returns-in-Some-clause-table
returns-in-Some-clause-table c = invariant_of-self c
