use Rattle.std.proofs.Common.{refl, sym, ap, ◌∙◌, true≢false}
use Rattle.am_model.specs.Valid.{has_arrived}
use Rattle.am_translate.specs.Seen.{table_in}
use Rattle.am_model.specs.Choice.{without_first}
use Rattle.am_model.specs.Changes.{is_of}
use Rattle.am_translate.proofs.Kept.{table_without, taken_settled}
use Rattle.am_translate.specs.Tables.{with_awaited}
use Rattle.am_translate.proofs.Lists.{found, unfound}
use Rattle.am_translate.proofs.Translate.reply_taken.Goals as goal

pub returns-in-None-clause-no_request : goal.returns-in-None-clause-no_request
returns-in-None-clause-no_request c = (
  λ _. unfound (has_arrived c.args.request) _ _ _ c.args.self.now.awaited c.answered_place.ensures c.in-None.is c.as_slice.ensures.items
      (ap (λ t. t.awaited) c.self.view_is),
  λ _. refl,
)

pub returns-in-Some-clause-no_request : goal.returns-in-Some-clause-no_request
returns-in-Some-clause-no_request c = (
  λ e. absurd (cc),
  λ no. absurd (true≢false (sym (found (has_arrived c.args.request) _ _ _ _ c.args.self.now.awaited c.answered_place.ensures c.in-Some.is
      c.as_slice.ensures.items (ap (λ t. t.awaited) c.self.view_is)).0 ∙ no)),
)

pub invariant_of-self : goal.invariant_of-self
invariant_of-self c =
    table_without (table_in c.self.inside) (has_arrived c.args.request) c.remove.new.self
    (c.remove.ensures ∙ sym (found (has_arrived c.args.request) _ _ _ _ c.self.inside.awaited c.answered_place.ensures c.in-Some.is c.as_slice.ensures.items
    refl).1) c.self.invariant

pub returns-in-Some-clause-ok : goal.returns-in-Some-clause-ok
returns-in-Some-clause-ok c =
    let here = found (has_arrived c.args.request) _ _ _ _ c.self.inside.awaited c.answered_place.ensures c.in-Some.is c.as_slice.ensures.items refl in
    ap (λ xs. with_awaited (table_in c.self.inside) xs)
    (c.remove.ensures ∙ sym here.1 ∙ taken_settled c.args.request c.self.inside.awaited (c.self.invariant.once c.args.request) here.0)
    ∙ ap (λ t. with_awaited t (without_first (is_of c.args.request) t.awaited)) c.self.view_is

pub returns-in-Some-clause-table : goal.returns-in-Some-clause-table
returns-in-Some-clause-table c = invariant_of-self c
