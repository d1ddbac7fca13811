use Rattle.std.proofs.Common.{◌≡◌, map}
use Rattle.std.specs.List.{All, range_with_len}
use Rattle.am_scenario_types.specs.declared.parts.Form.TheVariants.{Run}
use Rattle.am_scenario_types.specs.Lawful.{IsLawful, IsOfForm}
use Rattle.am_job.specs.Rounds.{round_at}
use Rattle.am_job.proofs.scenario.rounds.Given as goal

abbrev pub invariant-loop-number : goal.invariant-loop-number
invariant-loop-number l = record {
  made : l.rounds.items ≡ map (round_at l.w l.turns l.words.sent.items) (range_with_len 0 l.number);
  lawful : All IsLawful l.rounds.items;
  of_form : All (IsOfForm Run) l.rounds.items;
}
