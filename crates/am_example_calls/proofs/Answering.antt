-- What is told of each call after one round more.
use Rattle.std.specs.Global.{Vec}
use Rattle.std.specs.Prelude.{fold}
use Rattle.std.proofs.Common.{◌≡◌, ℕ, ◌+◌, ◌<◌, Bool, true, false, Option, Some, None, List, [], ◌∷◌, ◌++◌, refl, sym, ap, ◌∙◌, subst, length, map, take, get_or}
use Rattle.std.proofs.Common.{replicate, arith, drop}
use Rattle.std.specs.List.{All, Contains}
use Rattle.std.proofs.lemmas.List.{get_or-replicate, length-replicate, map-append, map_more, take-append-le, take_all}
use Rattle.std.proofs.lemmas.List.Folds.{fold-map}
use Rattle.std.proofs.lemmas.List.Elements.{All-nil, All-push, Contains-append_left, Contains-push}
use Rattle.am_names.specs.declared.Message.{Message}
use Rattle.am_names.specs.declared.Words.{Words}
use Rattle.am_office_entries.specs.declared.Entry.{Entry}
use Rattle.am_scenario_plan.specs.declared.plan.PlanLine.{PlanLine}
use Rattle.am_scenario_types.specs.Lists.{ScenarioLists}
use Rattle.am_library_views.specs.declared.runs.Run.{Run}
use Rattle.am_library.specs.Laws.{AllRunWhereTheyLead, EachAskedHasItsEnd, EachReplyHasItsEnd, EchoesAreWords, EndOf, IsGone, ItRan, WasRefused}
use Rattle.am_library.specs.Laws.{WhatRanWasAskedFor}
use Rattle.am_library.specs.Runs.{IsRun}
use Rattle.am_library_views.specs.Views.{reply_to, requests_run, runs_at, with_reply}
use Rattle.am_example_calls.specs.declared.answers.Answer.{Answer}
use Rattle.am_example_calls.specs.declared.answers.Answer.TheVariants.{Heard, Unheard, NeverRan}
use Rattle.am_example_calls.specs.Answers.{answer_at, is_heard, noted}
use Rattle.am_example_calls.specs.Calls.{AreAnswered, GaveNoAnswer, IsAnswer, Ran, Refused, ReplyGone, RequestGone, Round, call_at}
use Rattle.am_example_calls.specs.Rounds.{AsksFor, server}
use Rattle.am_example_calls.proofs.Hearing.{Came, Gone, Known, Next, Still, length_noted, next, noted_in}

-- the laws that it rests on
pub record Laws : Type 0 where
  pub lead : AllRunWhereTheyLead
  pub asked : EachAskedHasItsEnd
  pub reply : EachReplyHasItsEnd
  pub echo : EchoesAreWords
  pub ran : WhatRanWasAskedFor

-- a round was run for what these answers left open
pub record Asked (arguments : List ℕ) (old : List Answer) (plan : List PlanLine) (s : ScenarioLists) (journal : List Entry) : Type 0 where
  pub laws : Laws
  pub is_round : AsksFor arguments old plan (length arguments) s
  pub run : IsRun s journal

abbrev round_of : ScenarioLists → List Entry → Round
round_of s journal = record { scenario = s; journal = journal }

-- what ran at the server is what ran
all_there : (arguments : List ℕ) (old : List Answer) (plan : List PlanLine) (s : ScenarioLists) (journal : List Entry) → Asked arguments old plan s journal →
    runs_at journal server ≡ requests_run journal
all_there arguments old plan s journal c = c.laws.lead s journal server c.run c.is_round.serves.leads

-- a run with a token has the words of its call
own_words : (arguments : List ℕ) (old : List Answer) (plan : List PlanLine) (s : ScenarioLists) (journal : List Entry) → Asked arguments old plan s journal →
    (token : ℕ) (m : Message) → Contains (runs_at journal server) m → m.words.a ≡ token →
    Contains (requests_run journal) m × (m.words ≡ call_at arguments token)
own_words arguments old plan s journal c token m has at =
    let inside : Contains (requests_run journal) m = subst (λ (l : List Message). Contains l m) (all_there arguments old plan s journal c) has in
    let call = c.is_round.calls m.words (c.laws.ran s journal m c.run inside) in
    let same : call.0 ≡ token = sym (ap (λ (w : Words). w.a) call.2) ∙ at in (inside, call.2 ∙ ap (call_at arguments) same)

-- a call that has no answer, and of which nothing ran
left_open : (arguments : List ℕ) (old : List Answer) (plan : List PlanLine) (s : ScenarioLists) (journal : List Entry) → Asked arguments old plan s journal →
    (token : ℕ) → token < length arguments → is_heard (answer_at old token) ≡ false →
    ((m : Message) → Contains (runs_at journal server) m → m.words.a ≡ token → ⊥) →
    (Ran (call_at arguments token) (round_of s journal) → ⊥) × GaveNoAnswer (call_at arguments token) (round_of s journal)
left_open arguments old plan s journal c token below open' none = (
  λ (ran : Ran (call_at arguments token) (round_of s journal)). never ran.0 ran.1 ran.2,
  by_end (c.laws.asked s journal (call_at arguments token) c.run (c.is_round.open' token below open')),
)
  where
    never : (m : Message) → Contains (requests_run journal) m → m.words ≡ call_at arguments token → ⊥
    never m has words =
        none m (subst (λ (l : List Message). Contains l m) (sym (all_there arguments old plan s journal c)) has) (ap (λ (w : Words). w.a) words)

    by_end : EndOf s journal (call_at arguments token) → GaveNoAnswer (call_at arguments token) (round_of s journal)
    by_end (ItRan m has words) = absurd (never m has words)
    by_end (WasRefused refused) = Refused refused
    by_end (IsGone m has words gone) = RequestGone m has words gone

none_yet : (rounds : List Round) (call : Words) (a : Answer) → is_heard a ≡ false → IsAnswer rounds call a → All (GaveNoAnswer call) rounds
none_yet rounds call (Heard words) open' is = absurd (cc)
none_yet rounds call Unheard open' is = is.1
none_yet rounds call NeverRan open' is = is.1

still : (rounds : List Round) (round : Round) (call : Words) (a : Answer) → is_heard a ≡ false → (Ran call round → ⊥) → GaveNoAnswer call round →
    IsAnswer rounds call a → IsAnswer (rounds ++ round ∷ []) call a
still rounds round call (Heard words) open' not_ran left is = absurd (cc)
still rounds round call Unheard open' not_ran left is = (
  (is.0.0, Contains-append_left rounds (round ∷ []) is.0.0 is.0.1, is.0.2),
  All-push (GaveNoAnswer call) rounds round is.1 left,
)
still rounds round call NeverRan open' not_ran left is = (
  All-push (λ (r : Round). Ran call r → ⊥) rounds round is.0 not_ran,
  All-push (GaveNoAnswer call) rounds round is.1 left,
)

known : (rounds : List Round) (round : Round) (call : Words) (a : Answer) → is_heard a ≡ true → IsAnswer rounds call a →
    IsAnswer (rounds ++ round ∷ []) call a
known rounds round call (Heard words) heard is = (is.0, (is.1.0, Contains-append_left rounds (round ∷ []) is.1.0 is.1.1, is.1.2))
known rounds round call Unheard heard is = absurd (cc)
known rounds round call NeverRan heard is = absurd (cc)

-- what is told of one call
token_more : (arguments : List ℕ) (old : List Answer) (plan : List PlanLine) (s : ScenarioLists) (journal : List Entry) → Asked arguments old plan s journal →
    (rounds : List Round) (token : ℕ) (b : Answer) → token < length arguments → IsAnswer rounds (call_at arguments token) (answer_at old token) →
    Next journal (runs_at journal server) token (answer_at old token) b → IsAnswer (rounds ++ round_of s journal ∷ []) (call_at arguments token) b
token_more arguments old plan s journal c rounds token b below was (Known heard is) =
    subst (IsAnswer (rounds ++ round_of s journal ∷ []) (call_at arguments token)) (sym is)
    (known rounds (round_of s journal) (call_at arguments token) (answer_at old token) heard was)
token_more arguments old plan s journal c rounds token b below was (Came open' m r has at reply is) =
    let own = own_words arguments old plan s journal c token m has at in
    subst (IsAnswer (rounds ++ round_of s journal ∷ []) (call_at arguments token)) (sym is) (
      c.laws.echo s journal server m r c.run c.is_round.serves.echoes has reply ∙ own.1,
      (round_of s journal, Contains-push rounds (round_of s journal), (m, own.0, own.1)),
    )
token_more arguments old plan s journal c rounds token b below was (Gone open' m has at none is) =
    let own = own_words arguments old plan s journal c token m has at in
    subst (IsAnswer (rounds ++ round_of s journal ∷ []) (call_at arguments token)) (sym is) (
      (round_of s journal, Contains-push rounds (round_of s journal), (m, own.0, own.1)),
      All-push (GaveNoAnswer (call_at arguments token)) rounds (round_of s journal)
          (none_yet rounds (call_at arguments token) (answer_at old token) open' was)
          (ReplyGone m own.0 own.1 (c.laws.reply s journal m c.run own.0 (none m has at))),
    )
token_more arguments old plan s journal c rounds token b below was (Still open' none is) =
    let left = left_open arguments old plan s journal c token below open' none in
    subst (IsAnswer (rounds ++ round_of s journal ∷ []) (call_at arguments token)) (sym is)
    (still rounds (round_of s journal) (call_at arguments token) (answer_at old token) open' left.0 left.1 was)

abbrev plan_in : Round → List PlanLine
plan_in round = round.scenario.plan

abbrev lines_of : Vec PlanLine → List PlanLine
lines_of plan = plan.items

-- a run of the scenario was made, and what ran at the server was noted
pub record HasNoted (s : ScenarioLists) (old new : List Answer) : Type 0 where
  pub journal : List Entry
  pub run : IsRun s journal
  pub noted' : new ≡ fold (noted_in journal) old (runs_at journal server)

-- a round more
pub answered_more : (laws : Laws) (arguments : List ℕ) (plans : List (Vec PlanLine)) (count : ℕ) (d : Vec PlanLine) (old new : List Answer) (s : ScenarioLists) →
    count < length plans → AsksFor arguments old (get_or plans count d).items (length arguments) s → HasNoted s old new → AreAnswered arguments (take count plans) old →
    AreAnswered arguments (take (count + 1) plans) new
answered_more laws arguments plans count d old new s below is_round tells so_far =
    let plan : List PlanLine = (get_or plans count d).items in
    let round : Round = round_of s tells.journal in
    let asked : Asked arguments old plan s tells.journal = record { laws = laws; is_round = is_round; run = tells.run } in
    let many : length new ≡ length old = ap length tells.noted' ∙ length_noted tells.journal (runs_at tells.journal server) old in
    record {
      rounds = so_far.rounds ++ round ∷ [];
      planned =
          map-append plan_in so_far.rounds (round ∷ [])
          ∙ ap (λ (l : List (List PlanLine)). l ++ s.plan ∷ []) so_far.planned
          ∙ ap (λ (l : List PlanLine). map lines_of (take count plans) ++ l ∷ []) is_round.plan'
          ∙ sym (map_more lines_of plans count d below);
      run = All-push (λ (r : Round). IsRun r.scenario r.journal) so_far.rounds round so_far.run tells.run;
      as_many = many ∙ so_far.as_many;
      each = λ (token : ℕ) (within : token < length arguments).
          subst (λ (l : List Answer). IsAnswer (so_far.rounds ++ round ∷ []) (call_at arguments token) (answer_at l token)) (sym tells.noted')
          (token_more arguments old plan s tells.journal asked so_far.rounds token
          (answer_at (fold (noted_in tells.journal) old (runs_at tells.journal server)) token) within (so_far.each token within)
          (next tells.journal (runs_at tells.journal server) token old (subst (λ (n : ℕ). token < n) (sym so_far.as_many) within)));
    }

-- so where the answers are written back behind a slice
pub round_added : (laws : Laws) (arguments : List ℕ) (plans : List (Vec PlanLine)) (count : ℕ) (plan : Vec PlanLine) (len : ℕ)
    (items d m new : List Answer) (p : List PlanLine) (s : ScenarioLists) → count < length plans → plan ≡ get_or plans count plan → length items ≡ len →
    d ≡ items → p ≡ plan.items → m ≡ items → AsksFor arguments d p (length arguments) s → HasNoted s m new → AreAnswered arguments (take count plans) items →
    AreAnswered arguments (take (count + 1) plans) (take len (new ++ drop (length new) items))
round_added laws arguments plans count plan len items d m new p s below at many same_d same_p same_m is_round tells so_far =
    let long : length new ≡ len =
    ap length tells.noted' ∙ length_noted tells.journal (runs_at tells.journal server) m ∙ ap length same_m ∙ many in
    let back : take len (new ++ drop (length new) items) ≡ new =
    take-append-le len new (drop (length new) items) (omega (arith, long)) ∙ take_all len new (omega (arith, long)) in
    subst (AreAnswered arguments (take (count + 1) plans)) (sym back)
    (answered_more laws arguments plans count plan items new s below
    (subst (λ (l : List PlanLine). AsksFor arguments items l (length arguments) s) (same_p ∙ ap (λ (v : Vec PlanLine). v.items) at)
    (subst (λ (l : List Answer). AsksFor arguments l p (length arguments) s) same_d is_round))
    (subst (λ (l : List Answer). HasNoted s l new) same_m tells) so_far)

-- what the runs say that a round saw
pub heard : (s : ScenarioLists) (ran journal : List Entry) (runs seen : List Run) (old new : List Answer) → IsRun s ran → journal ≡ ran →
    runs ≡ map (with_reply journal) (runs_at journal server) → seen ≡ runs → new ≡ fold noted old seen → HasNoted s old new
heard s ran journal runs seen old new run same is same_runs told = record {
  journal = journal;
  run = subst (λ (l : List Entry). IsRun s l) (sym same) run;
  noted' = told ∙ ap (λ (l : List Run). fold noted old l) (same_runs ∙ is) ∙ fold-map noted (with_reply journal) old (runs_at journal server);
}

-- before the first round
pub none_answered : (arguments : List ℕ) (answers : List Answer) → answers ≡ replicate (length arguments) NeverRan → AreAnswered arguments [] answers
none_answered arguments answers is = record {
  rounds = [];
  planned = refl;
  run = All-nil (λ (r : Round). IsRun r.scenario r.journal);
  as_many = ap length is ∙ length-replicate (length arguments) NeverRan;
  each = λ (token : ℕ) (within : token < length arguments).
      subst (IsAnswer [] (call_at arguments token)) (sym (ap (λ (l : List Answer). answer_at l token) is ∙ get_or-replicate (length arguments) token NeverRan
      NeverRan within)) (
        All-nil (λ (r : Round). Ran (call_at arguments token) r → ⊥),
        All-nil (GaveNoAnswer (call_at arguments token)),
      );
}
