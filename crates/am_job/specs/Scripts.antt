-- What the threads of a round call. Node n has endpoint 2n, which sends, endpoint 2n + 1, which owns, and thread n.
use Rattle.std.specs.Prelude.{ℕ, zero, suc, ◌+◌, ◌*◌, ◌%◌, List, [], ◌∷◌, ◌++◌}
use Rattle.am_office_entries.specs.declared.Call.{Call}
use Rattle.am_office_entries.specs.declared.Call.TheVariants.{Request, Poll, Map, SetHandler}
use Rattle.am_office_entries.specs.declared.HandlerKind.TheVariants.{Note}
use Rattle.am_scenario_types.specs.declared.parts.ScriptCall.{ScriptCall}
use Rattle.am_job.specs.declared.words.codes.CodedWord.{CodedWord}

-- a thread's call on the endpoint of its node that owns, and on the one that sends
abbrev pub on_owner : ℕ → Call → ScriptCall
on_owner n call = record { thread = n; endpoint = record { 0 = 2 * n + 1 }; call = call }

abbrev pub on_sender : ℕ → Call → ScriptCall
on_sender n call = record { thread = n; endpoint = record { 0 = 2 * n }; call = call }

-- index k of the sender names the owner of node k; endpoint e has the tag 100 + e
abbrev pub map_to : ℕ → Call
map_to k = Map k (record { 0 = 2 * k + 1 }) (record { 0 = 101 + 2 * k }) 8

unfoldable pub maps_below : ℕ → ℕ → List ScriptCall
maps_below n zero = []
maps_below n (suc k) = maps_below n k ++ on_sender n (map_to k) ∷ []

-- the calls with which a thread begins: its owner notes words, and its sender names the owner of each node
unfoldable pub opening : ℕ → ℕ → List ScriptCall
opening w n = on_owner n (SetHandler 1 Note) ∷ [] ++ maps_below n w

unfoldable pub openings_below : ℕ → ℕ → List ScriptCall
openings_below w zero = []
openings_below w (suc n) = openings_below w n ++ opening w n

-- so many polls of the owner
unfoldable pub polls : ℕ → ℕ → List ScriptCall
polls n zero = []
polls n (suc times) = polls n times ++ on_owner n Poll ∷ []

-- THE OWNER of a word is the node whose number is the sum of the word's bytes modulo the number of nodes.
abbrev pub owner : ℕ → CodedWord → ℕ
owner w word = word.sum % w

-- thread n sends a word to its owner, polls its own owner once for each node, and its sender once
unfoldable pub sending : ℕ → ℕ → CodedWord → List ScriptCall
sending w n word = on_sender n (Request (owner w word) 1 word.words) ∷ [] ++ polls n w ++ on_sender n Poll ∷ []

-- the threads take turns: the word at place j is sent by thread j modulo the number of nodes
unfoldable pub sendings : ℕ → ℕ → List CodedWord → List ScriptCall
sendings w j [] = []
sendings w j (word ∷ words) = sending w (j % w) word ++ sendings w (j + 1) words

-- the calls of a round of words
unfoldable pub script : ℕ → List CodedWord → List ScriptCall
script w words = openings_below w w ++ sendings w 0 words
