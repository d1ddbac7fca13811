-- The scenario that a text spells, or its first fault.
use Rattle.std.specs.Prelude.{ℕ, zero, suc, ◌-◌, ◌==◌, List, [], ◌∷◌, ◌++◌, if◌then◌else◌, Option, Some, None, Result, Ok, Err}
use Rattle.std.specs.Option.{unwrap_or, option_to_list}
use Rattle.am_lexer.specs.declared.what.What.{What}
use Rattle.am_lexer.specs.declared.what.What.TheVariants.{Missing}
use Rattle.am_lexer.specs.Text.{lines_of}
use Rattle.am_lexer.specs.Fields.{◌>>=◌, or_else}
use Rattle.am_lexer.specs.Lines.{line_after}
use Rattle.am_scenario_types.specs.declared.parts.Form.{Form}
use Rattle.am_scenario_types.specs.declared.parts.EndLine.{EndLine}
use Rattle.am_scenario_types.specs.declared.parts.ThreadLine.{ThreadLine}
use Rattle.am_scenario_types.specs.declared.faults.ScenarioFault.{ScenarioFault}
use Rattle.am_scenario_types.specs.Lists.{ScenarioLists}
use Rattle.am_scenario.specs.declared.drafts.settings.Version.{Version}
use Rattle.am_scenario.specs.declared.drafts.settings.Settings.{Settings}
use Rattle.am_scenario.specs.Drafts.Said.{Said, nothing, end_of, thread_of, frame_count, channel_count}
use Rattle.am_scenario.specs.Lines.Heads.{knows_pools}
use Rattle.am_scenario.specs.Order.{after_line}

-- the lines that declare the endpoints below a number, in ascending order
unfoldable pub ends_below : Said → ℕ → List EndLine
ends_below said zero = []
ends_below said (suc n) = ends_below said n ++ option_to_list (end_of said n)

-- the lines that declare the threads below a number, in ascending order
unfoldable pub threads_below : Said → ℕ → List ThreadLine
threads_below said zero = []
threads_below said (suc n) = threads_below said n ++ option_to_list (thread_of said n)

abbrev pub tries_of : Settings → ℕ
tries_of settings = unwrap_or settings.tries 4

-- one less than the tries, where no line says another number
abbrev pub bounces_of : Settings → ℕ
bounces_of settings = unwrap_or settings.bounces (tries_of settings - 1)

-- in version 2 alone
abbrev pub pool_of : Option Version → Settings → Option ℕ
pool_of version settings = if knows_pools version then Some (unwrap_or settings.pool 0) else None

-- what all lines together have said
unfoldable pub whole : Said → Result ScenarioLists What
whole said =
    if said.section == 0 then Err Missing else (do
      network ← or_else Missing said.settings.network
      nodes ← or_else Missing said.settings.nodes
      Ok (record {
        network = network;
        nodes = nodes;
        frames = frame_count said.settings;
        channels = channel_count said.settings;
        tries = tries_of said.settings;
        bounces = bounces_of said.settings;
        pool = pool_of said.version said.settings;
        keep = unwrap_or said.settings.keep 64;
        log = unwrap_or said.settings.log 65_536;
        turns = unwrap_or said.settings.turns 0;
        ends = ends_below said 256;
        bundles = said.bundles;
        threads = threads_below said 64;
        plan = said.plan;
        faults = said.faults;
        script = said.script;
        steps = said.steps;
      }))

-- what comes of a line, by its number
abbrev pub on_line : {A B : Type 0} → ℕ → Result A What → (A → Result B ScenarioFault) → Result B ScenarioFault
on_line number (Ok x) f = f x
on_line number (Err what) f = Err (record { line = number; what = what })

-- the lines from this number on
unfoldable pub read_from : Form → ℕ → Said → List (List ℕ) → Result ScenarioLists ScenarioFault
read_from form number said [] = on_line number (whole said) (λ scenario. Ok scenario)
read_from form number said (line ∷ lines) = on_line number (after_line form number said line) (λ next. read_from form (line_after number) next lines)

-- The scenario that the bytes spell, or the line and cause of their first fault.
abbrev pub grammar : Form → List ℕ → Result ScenarioLists ScenarioFault
grammar form bytes = read_from form 1 nothing (lines_of bytes)
