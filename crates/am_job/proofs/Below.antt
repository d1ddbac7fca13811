-- The lines that declare the endpoints and the threads below a number.
use Rattle.std.proofs.Common.{ℕ, List, map}
use Rattle.std.specs.List.{range_with_len}
use Rattle.am_scenario_types.specs.declared.parts.EndLine.{EndLine}
use Rattle.am_scenario_types.specs.declared.parts.ThreadLine.{ThreadLine}
use Rattle.am_job.specs.Rounds.{end_line, thread_line}

abbrev pub ends_below : ℕ → List EndLine
ends_below n = map end_line (range_with_len 0 n)

abbrev pub threads_below : ℕ → List ThreadLine
threads_below n = map thread_line (range_with_len 0 n)
