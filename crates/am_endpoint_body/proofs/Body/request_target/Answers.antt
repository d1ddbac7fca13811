use Rattle.std.proofs.Common.{false, true, None, Some, refl, sym, ap, ◌∙◌, arith}
use Rattle.std.specs.Prelude.{nat_le}
use Rattle.std.proofs.lemmas.Bool.{le-leb, lt-leb}
use Rattle.am_model.specs.Endpoint.{requests_held}
use Rattle.am_translate.specs.Tables.{credit_fault}
use Rattle.am_endpoint_body.specs.Views.{View, table_of}
use Rattle.am_endpoint_body.proofs.Refused.{credit_told, untagged}
use Rattle.am_endpoint_body.proofs.Body.request_target.Goals as goal

pub returns-then-is_tagless-clause-refusal : goal.returns-then-is_tagless-clause-refusal
returns-then-is_tagless-clause-refusal c = untagged c.args.self.now c.args.index (sym c.is_tagless.ensures ∙ c.if-is_tagless.true)

pub returns-in-Err-clause-refusal : goal.returns-in-Err-clause-refusal
returns-in-Err-clause-refusal c =
    ap (λ r. Some r) c.of_credit.ensures
    ∙ credit_told c.args.self.now c.args.index (Some c.in-Err.fault) (nat_le 16 (requests_held c.args.self.now.body)) (sym c.is_tagless.ensures
    ∙ c.if-is_tagless.false)
    (c.in-Err.ensures.fault ∙ ap (λ (v : View). credit_fault (table_of v) c.args.index) c.self.view_is) refl

pub returns-then-requests_held-ge16-clause-refusal : goal.returns-then-requests_held-ge16-clause-refusal
returns-then-requests_held-ge16-clause-refusal c =
    credit_told c.args.self.now c.args.index None true (sym c.is_tagless.ensures ∙ c.if-is_tagless.false)
    (c.in-Ok.ensures.fault ∙ ap (λ (v : View). credit_fault (table_of v) c.args.index) c.self.view_is)
    (sym (le-leb 16 (requests_held c.args.self.now.body) (omega arith)))

pub returns-else-requests_held-ge16-clause-refusal : goal.returns-else-requests_held-ge16-clause-refusal
returns-else-requests_held-ge16-clause-refusal c =
    credit_told c.args.self.now c.args.index None false (sym c.is_tagless.ensures ∙ c.if-is_tagless.false)
    (c.in-Ok.ensures.fault ∙ ap (λ (v : View). credit_fault (table_of v) c.args.index) c.self.view_is)
    (sym (lt-leb 16 (requests_held c.args.self.now.body) (omega arith)))

pub returns-else-requests_held-ge16-clause-credit : goal.returns-else-requests_held-ge16-clause-credit
returns-else-requests_held-ge16-clause-credit c = sym (c.in-Ok.ensures.fault ∙ ap (λ (v : View). credit_fault (table_of v) c.args.index) c.self.view_is)
