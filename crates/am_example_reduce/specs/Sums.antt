-- WHAT A SUM OVER NODES COMES TO. A number is told by the words in which it is sent: the number, and its node.
use Rattle.std.specs.Prelude.{◌≡◌, ◌⊎◌, ℕ, ◌+◌, ◌<◌, ◌%◌, ◌^◌, Option, IfSome, List, [], ◌∷◌, ◌++◌, flat_map, length, map, slice_get, sum_by}
use Rattle.std.specs.List.{All, range_with_len}
use Rattle.std.specs.Option.{option_map}
use Rattle.am_names.specs.declared.Message.{Message}
use Rattle.am_names.specs.declared.Words.{Words}
use Rattle.am_office_entries.specs.declared.Entry.{Entry}
use Rattle.am_scenario_plan.specs.declared.plan.LinkFault.TheVariants.{Repeat}
use Rattle.am_scenario_plan.specs.declared.plan.PlanLine.{PlanLine}
use Rattle.am_scenario_types.specs.Lists.{ScenarioLists}
use Rattle.am_library_views.specs.declared.round_sum.RoundSum.{RoundSum}
use Rattle.am_library_views.specs.Ends.{is_lost, words_asked, words_fated}
use Rattle.am_library.specs.Laws.{first_of}
use Rattle.am_library.specs.Runs.{IsRun}
use Rattle.am_library_views.specs.RoundSums.{left_by}
use Rattle.am_library_views.specs.Views.{first_word, runs_at, sum_at}
use Rattle.am_example_reduce.specs.declared.reduce.Reduced.{Reduced}
use Rattle.am_example_reduce.specs.declared.reduce.Reduced.TheVariants as Answer
use Rattle.am_example_reduce.specs.Rounds.{end_of, root}

-- a run under a plan, which came to its end
pub record Run (plan : List PlanLine) : Type 0 where
  pub scenario : ScenarioLists
  pub journal : List Entry
  pub planned : scenario.plan ≡ plan
  pub is_run : IsRun scenario journal

-- what the words weigh that ran at the root in a run; and in all runs
abbrev pub weight_at_root : (Words → ℕ) → List Entry → ℕ
weight_at_root weight journal = sum_by (λ (m : Message). weight m.words) (runs_at journal root)

abbrev pub weight_summed : {plan : List PlanLine} → (Words → ℕ) → List (Run plan) → ℕ
weight_summed {plan} weight runs = sum_by (λ (run : Run plan). weight_at_root weight run.journal) runs

-- Rounds one after the other: the first asks for these numbers, each next for what the one before left, and the last leaves this.
abbrev pub Leave : {plan : List PlanLine} → List Words → List (Run plan) → List Words → Type 0
Leave numbers [] left = left ≡ numbers
Leave numbers (run ∷ runs) left = (words_asked run.scenario.script ≡ numbers) × Leave (left_by run.journal) runs left

-- what is unknown after some rounds
abbrev pub unknown_by : {plan : List PlanLine} → List (Run plan) → List Words
unknown_by {plan} runs = flat_map (λ (run : Run plan). words_fated is_lost run.journal) runs

-- Some rounds summed the numbers but for those that are left and those that are unknown: each number was summed, is left or is unknown, and
-- only one of these, since whatever they weigh the three weigh as much. The sum is that of the numbers that were summed, modulo 2^64, and
-- that of the root's sums. Where the plan only repeats, no number is unknown.
pub record SumsAllBut (plan : List PlanLine) (numbers : List Words) (sum : ℕ) (left unknown : List Words) : Type 0 where
  pub runs : List (Run plan)
  pub left' : Leave numbers runs left
  pub unknown' : unknown ≡ unknown_by runs
  pub each : (weight : Words → ℕ) → sum_by weight numbers ≡ weight_summed weight runs + sum_by weight left + sum_by weight unknown
  pub summed : sum ≡ weight_summed first_of runs % 2 ^ 64
  pub at_root : sum ≡ sum_by (λ (run : Run plan). sum_at run.journal root) runs % 2 ^ 64
  pub known : All (λ (line : PlanLine). line.fault ≡ Repeat) plan → unknown ≡ []

-- the same of a summed
abbrev pub Sums : List PlanLine → List Words → RoundSum → Type 0
Sums plan numbers summed = SumsAllBut plan numbers summed.sum summed.left.items summed.unknown.items

-- the number that a node heard: the first word of the first request that ran at its endpoint
abbrev pub heard_by : List Entry → ℕ → Option ℕ
heard_by journal node = option_map first_word (slice_get (runs_at journal (end_of node)) 0)

-- what the nodes heard in a run: each of them the sum, or nothing
pub record AreNotes (plan : List PlanLine) (nodes sum : ℕ) (notes : List (Option ℕ)) : Type 0 where
  pub run : Run plan
  pub heard : notes ≡ map (heard_by run.journal) (range_with_len 0 nodes)
  pub same : All (λ (note : Option ℕ). IfSome note (λ (number : ℕ). number ≡ sum)) notes

-- so many rounds came to this, or nothing was left before
abbrev pub IsAfter : List PlanLine → List Words → ℕ → RoundSum → Type 0
IsAfter plan numbers rounds summed = (sums : Sums plan numbers summed) × ((length sums.runs ≡ rounds) ⊎ (summed.left.items ≡ []))

-- THE ANSWER. Whole: the sum of all numbers modulo 2^64, and what the nodes heard. Open: that of the numbers but some, which are listed; what
-- is left was asked for in four rounds.
abbrev pub IsReduced : List PlanLine → ℕ → List Words → Reduced → Type 0
IsReduced plan nodes numbers (Answer.Whole sum notes) =
    (sum ≡ sum_by first_of numbers % 2 ^ 64) × SumsAllBut plan numbers sum [] [] × AreNotes plan nodes sum notes.items
IsReduced plan nodes numbers (Answer.Open summed) =
    IsAfter plan numbers 4 summed × (0 < length summed.left.items + length summed.unknown.items)
