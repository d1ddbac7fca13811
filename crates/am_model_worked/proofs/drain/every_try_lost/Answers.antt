use Rattle.std.proofs.Common.{rules, [], refl}
use Rattle.am_model_scripts.specs.Links.{KeepsLinks}
use Rattle.am_model_scripts.specs.Scripts.{KeepsScripts}
use Rattle.am_model_scripts.specs.Standings.{IsAtRest}
use Rattle.am_model_scripts.specs.Follows.{KeepsLastTries, KeepsToEvents, IsPhase}
use Rattle.am_model_drain.specs.Drain.{IsDrainedIn}
use Rattle.am_model_drain.specs.Follows.{IsPhaseThenDrain}
use Rattle.am_model_worked.specs.Drain.EveryTryLost.{scenario, journal}
use Rattle.am_model_worked.proofs.drain.every_try_lost.Goals as goal

scripts : KeepsScripts scenario journal
scripts = search rules

links : KeepsLinks scenario journal
links = search rules

last_tries : KeepsLastTries scenario journal
last_tries = search rules

rest : IsAtRest scenario journal
rest = search rules

events : KeepsToEvents scenario journal
events = refl

is_phase : IsPhase scenario []
is_phase = search rules

drained : IsDrainedIn 7 scenario [] journal
drained = search rules

phases : IsPhaseThenDrain scenario journal
phases = record { phase = []; is_phase = is_phase; drained = (7, drained) }

pub returns-clause-follows : goal.returns-clause-follows
returns-clause-follows c = record { scripts = scripts; links = links; last_tries = last_tries; rest = rest; events = events; phases = phases }
