use Rattle.std.proofs.Common.{◌≡◌, ℕ, List, ap, ◌∙◌, length, arith}
use Rattle.am_scenario_types.specs.declared.parts.Form.TheVariants.{Run}
use Rattle.am_scenario_types.specs.Lawful.{IsLawful, IsOfForm}
use Rattle.std.proofs.lemmas.List.Elements.{All-push}
use Rattle.am_job.specs.declared.words.codes.CodedWord.{CodedWord}
use Rattle.am_job.specs.Rounds.{round_at, round_count}
use Rattle.am_job.proofs.More.{job_is, made_more}
use Rattle.am_job.proofs.scenario.rounds.Goals as goal

pub loop-number-preserved : goal.loop-number-preserved
loop-number-preserved c = record {
  made = made_more (round_at c.args.w c.args.turns c.in_ok-words.words.sent.items) c.loop-number.number c.loop-number.rounds.items c.push.new.self.items
      c.in_ok-round.field-0 c.loop-number.invariant.made
      (c.in_ok-round.ensures.exact ∙ ap (λ (l : List CodedWord). round_at c.args.w c.args.turns l c.loop-number.number) c.deref.ensures.value)
      c.in_ok-push.ensures.items;
  lawful = rw c.in_ok-push.ensures.items (All-push IsLawful c.loop-number.rounds.items c.in_ok-round.field-0 c.loop-number.invariant.lawful
      c.in_ok-round.ensures.lawful);
  of_form = rw c.in_ok-push.ensures.items (All-push (IsOfForm Run) c.loop-number.rounds.items c.in_ok-round.field-0 c.loop-number.invariant.of_form
      c.in_ok-round.ensures.of_form);
}

pub returns-clause-exact : goal.returns-clause-exact
returns-clause-exact c =
    let last : c.loop-number.number ≡ c.round_count-number-end.result = omega arith in
    job_is c.args.w c.args.turns c.loop-number.number c.in_ok-words.words.long c.args.text.now c.in_ok-words.words.sent.items c.loop-number.rounds.items
    c.loop-number.invariant.made
    (last ∙ c.round_count-number-end.ensures ∙ ap (λ (l : List CodedWord). round_count c.args.w (length l)) c.as_slice.ensures.value) c.in_ok-words.ensures.sent
    c.in_ok-words.ensures.long

pub returns-clause-of_text : goal.returns-clause-of_text
returns-clause-of_text c = record {
  text = c.args.text.now;
  w = c.args.w;
  turns = c.args.turns;
  is_text = λ (i : ℕ). omega (arith, c.type_inv.text i);
  size = c.requires.size;
  some = c.requires.some;
  nodes = c.requires.nodes;
  is = returns-clause-exact c;
}
