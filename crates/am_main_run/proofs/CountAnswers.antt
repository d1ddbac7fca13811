-- What the command `count` prints stands for the answer to the text.
use Rattle.std.proofs.Common.{◌≡◌, inl, inr, ℕ, ◌<◌, ◌≤◌, List, ◌++◌, length, refl, ap}
use Rattle.am_office_entries.specs.declared.Entry.{Entry}
use Rattle.am_office_entries.specs.declared.Part.{Part}
use Rattle.am_office_report.specs.Report.{report}
use Rattle.am_scenario_types.specs.Lists.{ScenarioLists}
use Rattle.am_job.specs.Words.Codes.{sent_words}
use Rattle.am_cluster.specs.Runs.{IsRunCutOff}
use Rattle.am_job.specs.Count.Counting.{PrintsCount}
use Rattle.am_job.specs.Count.Stops.{IsCountStop}
use Rattle.am_job.specs.declared.count.counting.CountStop.TheVariants as Stop
use Rattle.am_main_run.specs.Counts.Cluster.Rounds.{IsRoundRun}
use Rattle.am_main_lines.specs.Lines.{Answer, full_line, ids_of}
use Rattle.am_main_run.specs.Counts.Counts.{CountAnswers, IsCountAnswer}
use Rattle.am_main_lines.specs.Offers.{text_too_long}

pub words_counted : (nodes turns : ℕ) (bytes text : List ℕ) → PrintsCount IsRoundRun nodes turns bytes text →
    IsCountAnswer nodes turns bytes (record { status = 0; text = text })
words_counted nodes turns bytes text counts = inl (refl, counts)

pub count_cut : (nodes turns : ℕ) (bytes : List ℕ) (scenario : ScenarioLists) (part : Part) (journal : List Entry) (text : List ℕ) →
    IsCountStop IsRoundRun IsRunCutOff nodes turns (sent_words bytes) (Stop.LogFull scenario part journal) →
    text ≡ full_line part ++ report (ids_of scenario.ends) journal → IsCountAnswer nodes turns bytes (record { status = 6; text = text })
count_cut nodes turns bytes scenario part journal text (round, cut) printed =
    inr (refl, record { scenario = scenario; round = round; part = part; prints = record { journal = journal; cut = cut; text' = printed } })

abbrev answer_with : ℕ → List ℕ → Answer
answer_with status text = record { status = status; text = text }

pub text_is_too_long : (nodes turns : ℕ) (bytes text : List ℕ) → 1_048_576 < length bytes → text ≡ text_too_long.text →
    CountAnswers nodes turns bytes (record { status = 11; text = text })
text_is_too_long nodes turns bytes text longer printed = inl (longer, ap (answer_with 11) printed)

pub text_counted : (nodes turns : ℕ) (bytes : List ℕ) (answer : Answer) → length bytes ≤ 1_048_576 → IsCountAnswer nodes turns bytes answer →
    CountAnswers nodes turns bytes answer
text_counted nodes turns bytes answer few answers = inr (few, answers)
