-- What the answers mean.
use Rattle.std.specs.Prelude.{slice_get, Result, Ok, Err, IfOk}
use Rattle.am_names.specs.declared.NoMemory.{NoMemory}
use Rattle.am_session.specs.declared.output.SessionOutput.{SessionOutput}
use Rattle.am_session.specs.Grammar.{grammar}
use Rattle.std.proofs.Common.{◌≡◌, inl, inr, ℕ, ◌+◌, List, [], ◌∷◌, ◌++◌, length, take, map, Option, Some, None, refl, sym, ap, ◌∙◌, subst, append_assoc}
use Rattle.std.proofs.lemmas.List.{append-nil, length-map, map-append}
use Rattle.am_restart.specs.declared.events.SessionCondition.{SessionCondition}
use Rattle.am_restart.specs.declared.events.SessionEntry.{SessionEntry}
use Rattle.am_restart.specs.declared.events.SessionEvent.{SessionEvent}
use Rattle.am_restart.specs.History.{IsSession, IsOfEvents, EachAfter, MayFollow, after, entry_of, state_of}
use Rattle.am_restart.specs.Moves.{failing, move_of}
use Rattle.am_restart.specs.State.{SessionState, opening}
use Rattle.am_restart.proofs.Sessions.{laws, replayed_push}
use Rattle.am_session.specs.declared.script.SessionStep.{SessionStep}
use Rattle.am_session.specs.declared.script.SessionTextFault.{SessionTextFault}
use Rattle.am_session.specs.declared.stops.Stop.{Stop}
use Rattle.am_session.specs.Answer.{Answer, answer_of_play, answer_of_played}
use Rattle.am_session.specs.Meaning.{SessionMeans, answer_in}
use Rattle.am_session.specs.Plays.{Played, played, played_by, played_from}
use Rattle.am_session.specs.Report.{report}
use Rattle.am_session.specs.Scripts.{Script, events_of}

each_push : (May : List SessionEntry → SessionEntry → Type 0) (past xs : List SessionEntry) (x : SessionEntry) → EachAfter May past xs → May (past ++ xs) x →
    EachAfter May past (xs ++ x ∷ [])
each_push May past [] x h more = (subst (λ (ys : List SessionEntry). May ys x) (append-nil past) more, tt)
each_push May past (y ∷ xs) x h more =
    (h.0, each_push May (past ++ y ∷ []) xs x h.1 (subst (λ (ys : List SessionEntry). May ys x) (sym (append_assoc past (y ∷ []) xs)) more))

-- two histories of the same events are the same
entry_same : (s : SessionState) (x y : SessionEntry) → MayFollow s x → MayFollow s y → x.event ≡ y.event → x ≡ y
entry_same s x y h k e =
    let o : x.outcome ≡ y.outcome = h.outcome' ∙ ap (λ (event : SessionEvent). (move_of s event).outcome) e ∙ sym k.outcome' in
    λ i. record { event = e i; outcome = o i }

agree : (tries : ℕ) (past xs ys : List SessionEntry) → EachAfter (λ past x. MayFollow (state_of tries past) x) past xs →
    EachAfter (λ past x. MayFollow (state_of tries past) x) past ys → map (λ (x : SessionEntry). x.event) xs ≡ map (λ (x : SessionEntry). x.event) ys → xs ≡ ys
agree tries past [] [] h k e = refl
agree tries past [] (y ∷ ys) h k e = absurd (cc)
agree tries past (x ∷ xs) [] h k e = absurd (cc)
agree tries past (x ∷ xs) (y ∷ ys) h k e =
    let event : x.event ≡ y.event = cc in
    let events : map (λ (z : SessionEntry). z.event) xs ≡ map (λ (z : SessionEntry). z.event) ys = cc in
    let same : x ≡ y = entry_same (state_of tries past) x y h.0 k.0 event in
    let h' : EachAfter (λ past x. MayFollow (state_of tries past) x) (past ++ y ∷ []) xs =
    subst (λ (z : SessionEntry). EachAfter (λ past x. MayFollow (state_of tries past) x) (past ++ z ∷ []) xs) same h.1 in
    let rest : xs ≡ ys = agree tries (past ++ y ∷ []) xs ys h' k.1 events in
    ap (λ (z : SessionEntry). z ∷ xs) same ∙ ap (λ (zs : List SessionEntry). y ∷ zs) rest

-- what stops the events behind these entries
record Stops (tries : ℕ) (all : List SessionStep) (entries : List SessionEntry) (stop : Stop) : Type 0 where
  follows : IsOfEvents (events_of (take (length entries) all)) entries
  step : SessionStep
  at : slice_get all (length entries) ≡ Some step
  fails : failing (state_of tries entries) step.event ≡ Some stop.condition
  line' : stop.line ≡ step.line

abbrev Ends : ℕ → List SessionStep → List SessionEntry → Option Stop → Type 0
Ends tries all entries None = IsOfEvents (events_of all) entries
Ends tries all entries (Some stop) = Stops tries all entries stop

record IsMade (tries : ℕ) (all : List SessionStep) (p : Played) : Type 0 where
  history : IsSession tries p.entries
  ends : Ends tries all p.entries p.stopped

as_many : (done : List SessionStep) (past : List SessionEntry) → IsOfEvents (events_of done) past → length past ≡ length done
as_many done past follows =
    sym (length-map past (λ (x : SessionEntry). x.event)) ∙ ap length follows ∙ length-map done (λ (x : SessionStep). x.event)

take_front : (done rest : List SessionStep) → take (length done) (done ++ rest) ≡ done
take_front [] rest = refl
take_front (x ∷ done) rest = ap (λ (l : List SessionStep). x ∷ l) (take_front done rest)

got_next : (done : List SessionStep) (step : SessionStep) (rest : List SessionStep) → slice_get (done ++ step ∷ rest) (length done) ≡ Some step
got_next [] step rest = refl
got_next (x ∷ done) step rest = got_next done step rest

made_from : (tries : ℕ) (done steps : List SessionStep) (past : List SessionEntry) → IsSession tries past → IsOfEvents (events_of done) past →
    IsMade tries (done ++ steps) (played_from (state_of tries past) past steps)
made_from tries done [] past h follows =
    record { history = h; ends = subst (λ (l : List SessionStep). IsOfEvents (events_of l) past) (sym (append-nil done)) follows }
made_from tries done (step ∷ steps) past h follows =
    by_failing (failing (state_of tries past) step.event) refl (λ next h' follows'. made_from tries (done ++ step ∷ []) steps next h' follows')
  where
    many : length past ≡ length done
    many = as_many done past follows

    by_failing : (o : Option SessionCondition) → failing (state_of tries past) step.event ≡ o →
        ((next : List SessionEntry) → IsSession tries next → IsOfEvents (events_of (done ++ step ∷ [])) next →
        IsMade tries ((done ++ step ∷ []) ++ steps) (played_from (state_of tries next) next steps)) →
        IsMade tries (done ++ step ∷ steps) (played_by o step.line past (played_from (after (state_of tries past) step.event)
        (past ++ entry_of (state_of tries past) step.event ∷ []) steps))
    by_failing (Some condition) is go =
        record {
          history = h;
          ends = record {
            follows = follows ∙ ap events_of (sym (ap (λ (n : ℕ). take n (done ++ step ∷ steps)) many ∙ take_front done (step ∷ steps)));
            step = step;
            at = ap (λ (n : ℕ). slice_get (done ++ step ∷ steps) n) many ∙ got_next done step steps;
            fails = is;
            line' = refl;
          };
        }
    by_failing None is go =
        let may : MayFollow (state_of tries past) (entry_of (state_of tries past) step.event) = record { enabled = is; outcome' = refl } in
        let more : IsSession tries (past ++ entry_of (state_of tries past) step.event ∷ []) =
        each_push (λ past x. MayFollow (state_of tries past) x) [] past (entry_of (state_of tries past) step.event) h may in
        let events : IsOfEvents (events_of (done ++ step ∷ [])) (past ++ entry_of (state_of tries past) step.event ∷ []) =
        map-append (λ (y : SessionEntry). y.event) past (entry_of (state_of tries past) step.event ∷ [])
        ∙ ap (λ (l : List SessionEvent). l ++ step.event ∷ []) follows ∙ sym (map-append (λ (y : SessionStep). y.event) done (step ∷ []))
        in
        let rest : IsMade tries ((done ++ step ∷ []) ++ steps) (played_from (state_of tries (past ++ entry_of (state_of tries past) step.event ∷ []))
        (past ++ entry_of (state_of tries past) step.event ∷ []) steps) = go (past ++ entry_of (state_of tries past) step.event ∷ []) more events in
        let at : IsMade tries (done ++ step ∷ steps) (played_from (state_of tries (past ++ entry_of (state_of tries past) step.event ∷ []))
        (past ++ entry_of (state_of tries past) step.event ∷ []) steps) =
        subst (λ (l : List SessionStep). IsMade tries l (played_from (state_of tries (past ++ entry_of (state_of tries past) step.event ∷ []))
        (past ++ entry_of (state_of tries past) step.event ∷ []) steps)) (append_assoc done (step ∷ []) steps) rest in
        subst (λ (s : SessionState). IsMade tries (done ++ step ∷ steps) (played_from s (past ++ entry_of (state_of tries past) step.event ∷ []) steps))
        (replayed_push (opening tries) past (entry_of (state_of tries past) step.event)) at

means_by : (script : Script) (entries : List SessionEntry) (stopped : Option Stop) → IsSession script.tries entries →
    Ends script.tries script.steps entries stopped → SessionMeans (Ok script) (answer_of_play (report entries) stopped)
means_by script entries None h follows =
    inl (
      refl,
      record {
        entries = entries;
        history = h;
        follows = follows;
        only = λ other also events. agree script.tries [] other entries also h (events ∙ sym follows);
        laws = laws script.tries entries h;
        text' = refl;
      },
    )
means_by script entries (Some stop) h stops =
    inr (
      refl,
      record {
        entries = entries;
        history = h;
        follows = stops.follows;
        step = stops.step;
        at = stops.at;
        stop = stop;
        fails = stops.fails;
        line' = stops.line';
        text' = refl;
      },
    )

-- the answer to a script means what it says
pub script_means : (script : Script) (answer : Answer) → answer ≡ answer_of_played (played script) → SessionMeans (Ok script) answer
script_means script answer is =
    let made : IsMade script.tries script.steps (played script) = made_from script.tries [] script.steps [] tt refl in
    subst (λ (a : Answer). SessionMeans (Ok script) a) (sym is) (means_by script (played script).entries (played script).stopped made.history made.ends)

-- so with what the code gives to print
pub output_means : (bytes : List ℕ) (script : Script) (result : Result SessionOutput NoMemory) → grammar bytes ≡ Ok script →
    IfOk result (λ output. answer_in output ≡ answer_of_played (played script)) → IfOk result (λ output. SessionMeans (grammar bytes) (answer_in output))
output_means bytes script (Ok output) e is = subst (λ (read : Result Script SessionTextFault). SessionMeans read (answer_in output)) (sym e)
    (script_means script (answer_in output) is)
output_means bytes script (Err fault) e is = tt
