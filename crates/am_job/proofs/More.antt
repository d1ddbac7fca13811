-- One more of each.
use Rattle.std.proofs.Common.{◌≡◌, ℕ, ◌+◌, ◌%◌, ◌<◌, ◌≤◌, List, [], ◌∷◌, ◌++◌, refl, sym, ap, ◌∙◌, length, drop, get_or, map, arith, append_assoc, append-nil}
use Rattle.std.proofs.Common.{add-one}
use Rattle.std.specs.List.{range_with_len}
use Rattle.std.proofs.lemmas.List.{drop_more, drop_all}
use Rattle.std.proofs.lemmas.List.FromFn.{map-range_with_len_more}
use Rattle.am_office_entries.specs.declared.Call.TheVariants.{Request, Poll, SetHandler}
use Rattle.am_office_entries.specs.declared.HandlerKind.TheVariants.{Note}
use Rattle.am_scenario_types.specs.declared.parts.ScriptCall.{ScriptCall}
use Rattle.am_job.specs.declared.words.codes.CodedWord.{CodedWord}
use Rattle.am_scenario_types.specs.Lists.{ScenarioLists}
use Rattle.am_library_drafts.specs.Drafts.{with_calls}
use Rattle.am_job.specs.Words.Codes.{sent_words}
use Rattle.am_job.specs.Words.Texts.{long_count}
use Rattle.am_job.specs.Lists.{JobLists}
use Rattle.am_job.specs.Rounds.{job_of, round_at, round_count, rounds_of}
use Rattle.am_job.specs.Scripts.{map_to, maps_below, on_owner, on_sender, opening, openings_below, owner, polls, script, sending, sendings}

pub maps_none : (n : ℕ) → maps_below n 0 ≡ []
unfolding maps_below
maps_none n = refl

pub maps_more : (n k : ℕ) → maps_below n (k + 1) ≡ maps_below n k ++ on_sender n (map_to k) ∷ []
unfolding maps_below
maps_more n k = rw add-one refl

pub openings_none : (w : ℕ) → openings_below w 0 ≡ []
unfolding openings_below
openings_none w = refl

pub openings_more : (w n : ℕ) → openings_below w (n + 1) ≡ openings_below w n ++ opening w n
unfolding openings_below
openings_more w n = rw add-one refl

pub polls_none : (n : ℕ) → polls n 0 ≡ []
unfolding polls
polls_none n = refl

pub polls_more : (n times : ℕ) → polls n (times + 1) ≡ polls n times ++ on_owner n Poll ∷ []
unfolding polls
polls_more n times = rw add-one refl

-- ---- a draft that gets call by call

-- the request of a word
abbrev pub sent_by : ℕ → ℕ → CodedWord → ScriptCall
sent_by w n word = on_sender n (Request (owner w word) 1 word.words)

pub none_called : (start : ScenarioLists) (none : List ScriptCall) → none ≡ [] → start ≡ with_calls start none
none_called start none is = λ i. record start { script = (sym (append-nil start.script) ∙ ap (λ (l : List ScriptCall). start.script ++ l) (sym is)) i }

pub more_called : (start was now : ScenarioLists) (piece before after : List ScriptCall) → was ≡ with_calls start before → now ≡ with_calls was piece →
    after ≡ before ++ piece → now ≡ with_calls start after
more_called start was now piece before after so_far put next =
    put
    ∙ ap (λ (s : ScenarioLists). with_calls s piece) so_far
    ∙ (λ i. record start { script = (append_assoc start.script before piece ∙ ap (λ (l : List ScriptCall). start.script ++ l) (sym next)) i })

pub begun : (w n : ℕ) (start one two : ScenarioLists) → one ≡ with_calls start (on_owner n (SetHandler 1 Note) ∷ []) → two ≡ with_calls one (maps_below n w) →
    two ≡ with_calls start (opening w n)
unfolding opening
begun w n start one two noted mapped = more_called start one two (maps_below n w) (on_owner n (SetHandler 1 Note) ∷ []) (opening w n) noted mapped refl

pub polled : (w n : ℕ) (word : CodedWord) (start one two : ScenarioLists) → one ≡ with_calls start (sent_by w n word ∷ []) →
    two ≡ with_calls one (polls n w) → two ≡ with_calls start (sent_by w n word ∷ [] ++ polls n w)
polled w n word start one two sent polls' =
    more_called start one two (polls n w) (sent_by w n word ∷ []) (sent_by w n word ∷ [] ++ polls n w) sent polls' refl

pub sent : (w n : ℕ) (word : CodedWord) (start two three : ScenarioLists) → two ≡ with_calls start (sent_by w n word ∷ [] ++ polls n w) →
    three ≡ with_calls two (on_sender n Poll ∷ []) → three ≡ with_calls start (sending w n word)
unfolding sending
sent w n word start two three before last =
    more_called start two three (on_sender n Poll ∷ []) (sent_by w n word ∷ [] ++ polls n w) (sending w n word) before last refl

pub scripted_all : (w : ℕ) (words : List CodedWord) (start one two : ScenarioLists) → one ≡ with_calls start (openings_below w w) →
    two ≡ with_calls one (sendings w 0 words) → two ≡ with_calls start (script w words)
unfolding script
scripted_all w words start one two opened all = more_called start one two (sendings w 0 words) (openings_below w w) (script w words) opened all refl

-- ---- one word more

pub sendings_cons : (w j : ℕ) (word : CodedWord) (words : List CodedWord) → sendings w j (word ∷ words) ≡ sending w (j % w) word ++ sendings w (j + 1) words
unfolding sendings
sendings_cons w j word words = refl

sendings_nil : (w j : ℕ) → sendings w j [] ≡ []
unfolding sendings
sendings_nil w j = refl

-- what was sent, and what is still to be sent
pub send_more : (w i : ℕ) (start was now : List ScriptCall) (words : List CodedWord) (d : CodedWord) (n : ℕ) → i < length words → n ≡ i % w →
    now ≡ was ++ sending w n (get_or words i d)
    → was ++ sendings w i (drop i words) ≡ start ++ sendings w 0 words → now ++ sendings w (i + 1) (drop (i + 1) words) ≡ start ++ sendings w 0 words
send_more w i start was now words d n below is sent' so_far =
    let word : CodedWord = get_or words i d in
    let sent : now ≡ was ++ sending w (i % w) word = sent' ∙ ap (λ (k : ℕ). was ++ sending w k word) is in
    let rest : List ScriptCall = sendings w (i + 1) (drop (i + 1) words) in
    let next : drop i words ≡ word ∷ drop (i + 1) words = drop_more words i d below in
    ap (λ (l : List ScriptCall). l ++ rest) sent
    ∙ append_assoc was (sending w (i % w) word) rest
    ∙ ap (λ (l : List ScriptCall). was ++ l) (sym (ap (λ (l : List CodedWord). sendings w i l) next ∙ sendings_cons w i word (drop (i + 1) words)))
    ∙ so_far

pub send_all : (w i : ℕ) (start was : List ScriptCall) (words : List CodedWord) → length words ≤ i →
    was ++ sendings w i (drop i words) ≡ start ++ sendings w 0 words → was ≡ start ++ sendings w 0 words
send_all w i start was words past so_far =
    sym (append-nil was)
    ∙ ap (λ (l : List ScriptCall). was ++ l) (sym (ap (λ (l : List CodedWord). sendings w i l) (drop_all i words past) ∙ sendings_nil w i))
    ∙ so_far

-- ---- one round more

pub made_more : (f : ℕ → ScenarioLists) (n : ℕ) (rounds new : List ScenarioLists) (made : ScenarioLists) → rounds ≡ map f (range_with_len 0 n) → made ≡ f n →
    new ≡ rounds ++ made ∷ [] → new ≡ map f (range_with_len 0 (n + 1))
made_more f n rounds new made so_far is push =
    push
    ∙ ap (λ (l : List ScenarioLists). l ++ made ∷ []) so_far
    ∙ ap (λ (r : ScenarioLists). map f (range_with_len 0 n) ++ r ∷ []) is
    ∙ sym (map-range_with_len_more f 0 n n (omega arith))

abbrev job : List ScenarioLists → ℕ → JobLists
job rounds long = record { rounds = rounds; long = long }

pub job_is : (w turns n long : ℕ) (text : List ℕ) (sent : List CodedWord) (rounds : List ScenarioLists) →
    rounds ≡ map (round_at w turns sent) (range_with_len 0 n) → n ≡ round_count w (length sent) → sent ≡ sent_words text → long ≡ long_count text →
    job rounds long ≡ job_of w turns text
unfolding job_of
job_is w turns n long text sent rounds made all sent_is long_is =
    let whole : rounds ≡ rounds_of w turns (sent_words text) =
    made
    ∙ ap (λ (k : ℕ). map (round_at w turns sent) (range_with_len 0 k)) all
    ∙ ap (λ (l : List CodedWord). rounds_of w turns l) sent_is in
    ap (λ (l : List ScenarioLists). job l long) whole ∙ ap (λ (k : ℕ). job (rounds_of w turns (sent_words text)) k) long_is
