-- The drain makes one journal of a journal.
use Rattle.std.proofs.Common.{◌≡◌, ℕ, zero, suc, List, Option, Some, None, ap, ◌∙◌}
use Rattle.std.specs.Prelude.{option_map, option_and_then}
use Rattle.am_office_entries.specs.declared.Entry.{Entry}
use Rattle.am_scenario_types.specs.Lists.{ScenarioLists}
use Rattle.am_model_drain.specs.declared.Turn.{Turn}
use Rattle.am_model_drain.specs.Rules.{next_turn}
use Rattle.am_model_drain.specs.Drain.{after_turn, after_next_turn, after_turns, DrainIsDetermined}

-- where no rule applies there is no further turn
pub no_more : (more : ℕ) (scenario : ScenarioLists) (past : List Entry) → next_turn scenario past ≡ None → after_turns (suc more) scenario past ≡ None
no_more more scenario past e =
    ap (λ (t : Option Turn). option_and_then (after_turns more scenario) (option_map (after_turn scenario past) t)) e

pub determined : (n m : ℕ) (scenario : ScenarioLists) (past one other : List Entry) → after_turns n scenario past ≡ Some one → next_turn scenario one ≡ None →
    after_turns m scenario past ≡ Some other → next_turn scenario other ≡ None → one ≡ other
determined zero zero scenario past one other p e q f = cc
determined zero (suc m) scenario past one other p e q f =
    let same : past ≡ one = cc in
    let none = no_more m scenario past (ap (next_turn scenario) same ∙ e) in
    cc
determined (suc n) zero scenario past one other p e q f =
    let same : past ≡ other = cc in
    let none = no_more n scenario past (ap (next_turn scenario) same ∙ f) in
    cc
determined (suc n) (suc m) scenario past one other p e q f =
    elim (after_next_turn scenario past) as (λ (t : Option (List Entry)). option_and_then (after_turns n scenario) t ≡ Some one →
    option_and_then (after_turns m scenario) t ≡ Some other → one ≡ other) [
      | None ↦ λ p' q'. cc
      | Some next ↦ λ p' q'. determined n m scenario next one other p' e q' f
    ] p q

pub drain_is_determined : DrainIsDetermined
drain_is_determined scenario past one other (n, d) (m, d') =
    determined n m scenario past one other d.made d.ended d'.made d'.ended

-- a turn more, after so many
pub one_turn_more : (n : ℕ) (scenario : ScenarioLists) (past now next : List Entry) → after_turns n scenario past ≡ Some now →
    after_next_turn scenario now ≡ Some next → after_turns (suc n) scenario past ≡ Some next
one_turn_more zero scenario past now next e f =
    let same : past ≡ now = cc in
    ap (λ (xs : List Entry). after_turns 1 scenario xs) same ∙ ap (λ (o : Option (List Entry)). option_and_then (after_turns 0 scenario) o) f
one_turn_more (suc n) scenario past now next e f =
    elim (after_next_turn scenario past) as (λ (t : Option (List Entry)). option_and_then (after_turns n scenario) t ≡ Some now →
    option_and_then (after_turns (suc n) scenario) t ≡ Some next) [
      | None ↦ λ p. absurd (cc)
      | Some first ↦ λ p. one_turn_more n scenario first now next p f
    ] e
