use Rattle.std.proofs.Common.{refl, sym, ap, ◌∙◌, true≢false}
use Rattle.am_model.specs.Endpoint.{waits_for}
use Rattle.am_model.specs.Changes.{without_waiting}
use Rattle.am_translate.specs.Seen.{table_in}
use Rattle.am_translate.proofs.Kept.{table_without}
use Rattle.am_translate.specs.Tables.{with_awaited}
use Rattle.am_translate.proofs.Lists.{found, unfound}
use Rattle.am_translate.proofs.Translate.give_up.Goals as goal

pub returns-in-None-clause-no_request : goal.returns-in-None-clause-no_request
returns-in-None-clause-no_request c = (
  λ _. unfound (waits_for c.args.request) _ _ _ c.args.self.now.awaited c.waiting_place.ensures c.in-None.is c.as_slice.ensures.items
      (ap (λ t. t.awaited) c.self.view_is),
  λ _. refl,
)

pub returns-in-Some-clause-no_request : goal.returns-in-Some-clause-no_request
returns-in-Some-clause-no_request c = (
  λ e. absurd (cc),
  λ no. absurd (true≢false (sym (found (waits_for c.args.request) _ _ _ _ c.args.self.now.awaited c.waiting_place.ensures c.in-Some.is c.as_slice.ensures.items
      (ap (λ t. t.awaited) c.self.view_is)).0 ∙ no)),
)

pub invariant_of-self : goal.invariant_of-self
invariant_of-self c =
    table_without (table_in c.self.inside) (waits_for c.args.request) c.remove.new.self
    (c.remove.ensures ∙ sym (found (waits_for c.args.request) _ _ _ _ c.self.inside.awaited c.waiting_place.ensures c.in-Some.is c.as_slice.ensures.items
    refl).1) c.self.invariant

pub returns-in-Some-clause-ok : goal.returns-in-Some-clause-ok
returns-in-Some-clause-ok c =
    ap (λ xs. with_awaited (table_in c.self.inside) xs)
    (c.remove.ensures ∙ sym (found (waits_for c.args.request) _ _ _ _ c.self.inside.awaited c.waiting_place.ensures c.in-Some.is c.as_slice.ensures.items
    refl).1)
    ∙ ap (λ t. with_awaited t (without_waiting c.args.request t.awaited)) c.self.view_is

pub returns-in-Some-clause-table : goal.returns-in-Some-clause-table
returns-in-Some-clause-table c = invariant_of-self c
