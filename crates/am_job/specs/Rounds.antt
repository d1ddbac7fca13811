-- The rounds in which the words of a text are sent, and the scenario of each.
use Rattle.std.specs.Prelude.{◌≡◌, ℕ, ◌+◌, ◌-◌, ◌*◌, ◌/◌, ◌<◌, ◌≤◌, false, List, [], length, take, drop, map, None}
use Rattle.std.specs.List.{range_with_len}
use Rattle.am_lemmas.specs.Bytes.{AreBytes}
use Rattle.am_scenario_types.specs.declared.parts.Network.TheVariants.{Packet}
use Rattle.am_scenario_types.specs.declared.parts.EndLine.{EndLine}
use Rattle.am_scenario_types.specs.declared.parts.ThreadLine.{ThreadLine}
use Rattle.am_scenario_types.specs.declared.parts.ScriptCall.{ScriptCall}
use Rattle.am_scenario_types.specs.Lists.{ScenarioLists}
use Rattle.am_job.specs.declared.words.codes.CodedWord.{CodedWord}
use Rattle.am_job.specs.Words.Codes.{sent_words}
use Rattle.am_job.specs.Words.Texts.{long_count}
use Rattle.am_job.specs.Lists.{JobLists}
use Rattle.am_job.specs.Scripts.{script}

-- endpoint e is on node e / 2, with the tag 100 + e
abbrev pub end_line : ℕ → EndLine
end_line e = record { id = record { 0 = e }; node = record { 0 = e / 2 }; tag = record { 0 = 100 + e }; disk = false }

-- thread n is on node n
abbrev pub thread_line : ℕ → ThreadLine
thread_line n = record { id = n; node = record { 0 = n } }

-- the scenario of w nodes, with so many turns, in which their threads make these calls
abbrev pub scripted : ℕ → ℕ → List ScriptCall → ScenarioLists
scripted w turns calls = record {
  network = Packet;
  nodes = w;
  frames = 2;
  channels = 1;
  tries = 4;
  bounces = 3;
  pool = None;
  keep = 64;
  log = 65_536;
  turns = turns;
  ends = map end_line (range_with_len 0 (2 * w));
  bundles = [];
  threads = map thread_line (range_with_len 0 w);
  plan = [];
  faults = [];
  script = calls;
  steps = [];
}

-- the scenario in which w nodes send these words to their owners, with so many turns
unfoldable pub scenario : ℕ → ℕ → List CodedWord → ScenarioLists
scenario w turns words = scripted w turns (script w words)

-- how many words a round of w nodes has at most
abbrev pub round_size : ℕ → ℕ
round_size w = 16_000 / (w + 2)

-- how many rounds so many words make
abbrev pub round_count : ℕ → ℕ → ℕ
round_count w words = (words + (round_size w - 1)) / round_size w

-- the words of the round with this number, counted from 0
abbrev pub round_words : ℕ → List CodedWord → ℕ → List CodedWord
round_words w words number = take (round_size w) (drop (round_size w * number) words)

-- the scenario of that round
abbrev pub round_at : ℕ → ℕ → List CodedWord → ℕ → ScenarioLists
round_at w turns words number = scenario w turns (round_words w words number)

-- all rounds of these words, in order
abbrev pub rounds_of : ℕ → ℕ → List CodedWord → List ScenarioLists
rounds_of w turns words = map (round_at w turns words) (range_with_len 0 (round_count w (length words)))

-- THE JOB of a text: its short words in rounds, and how many words are long
unfoldable pub job_of : ℕ → ℕ → List ℕ → JobLists
job_of w turns text = record { rounds = rounds_of w turns (sent_words text); long = long_count text }

-- the job of some text of at most 1,048,576 bytes, for 1 to 8 nodes
pub record IsJob (job : JobLists) : Type 0 where
  pub text : List ℕ
  pub w : ℕ
  pub turns : ℕ
  pub is_text : AreBytes text
  pub size : length text ≤ 1_048_576
  pub some : 0 < w
  pub nodes : w ≤ 8
  pub is : job ≡ job_of w turns text
