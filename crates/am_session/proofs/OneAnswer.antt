-- The answer to a text of a session is the one that is computed.
use Rattle.std.specs.Prelude.{slice_get, Result, Ok, Err}
use Rattle.std.proofs.Common.{◌≡◌, ◌↔◌, ℕ, suc, List, [], ◌∷◌, ◌++◌, length, take, map, Option, Some, None, refl, sym, ap, ◌∙◌, subst, inl, inr, arith}
use Rattle.std.proofs.Common.{append_assoc}
use Rattle.std.proofs.lemmas.List.{append-nil, length-map, take_all}
use Rattle.am_restart.specs.declared.events.SessionCondition.{SessionCondition}
use Rattle.am_restart.specs.declared.events.SessionEntry.{SessionEntry}
use Rattle.am_restart.specs.declared.events.SessionEvent.{SessionEvent}
use Rattle.am_restart.specs.History.{EachAfter, MayFollow, after, entry_of, state_of}
use Rattle.am_restart.specs.Moves.{failing, move_of}
use Rattle.am_restart.specs.State.{SessionState, opening}
use Rattle.am_restart.proofs.Sessions.{replayed_push}
use Rattle.am_session.specs.declared.script.SessionStep.{SessionStep}
use Rattle.am_session.specs.declared.script.SessionTextFault.{SessionTextFault}
use Rattle.am_session.specs.declared.stops.Stop.{Stop}
use Rattle.am_session.specs.Answer.{Answer, answer_of, answer_of_played, not_enabled_line}
use Rattle.am_session.specs.Meaning.{SessionHasOneAnswer, SessionMeans}
use Rattle.am_session.specs.Plays.{played, played_by, played_from}
use Rattle.am_session.specs.Report.{report}
use Rattle.am_session.specs.Scripts.{Script, events_of}
use Rattle.am_session.proofs.Telling.{script_means}

abbrev May : ℕ → List SessionEntry → SessionEntry → Type 0
May tries past x = MayFollow (state_of tries past) x

-- the step that stands next can't happen, for the condition and in the line that the stop tells
abbrev StopsAt : ℕ → List SessionEntry → Option SessionStep → Stop → Type 0
StopsAt tries past None stop = ⊥
StopsAt tries past (Some step) stop = (failing (state_of tries past) step.event ≡ Some stop.condition) × (stop.line ≡ step.line)

-- entries that follow the steps from here on, all of them or those before one that is stopped, are what the steps make
from_here : (tries : ℕ) (past ys : List SessionEntry) (steps : List SessionStep) (stopped : Option Stop) → EachAfter (May tries) past ys →
    map (λ (y : SessionEntry). y.event) ys ≡ events_of (take (length ys) steps) → (stopped ≡ None → length ys ≡ length steps) →
    ((stop : Stop) → stopped ≡ Some stop → StopsAt tries (past ++ ys) (slice_get steps (length ys)) stop) →
    record { entries = past ++ ys; stopped = stopped } ≡ played_from (state_of tries past) past steps
from_here tries past [] [] None h follows whole stops = ap (λ (l : List SessionEntry). record { entries = l; stopped = None }) (append-nil past)
from_here tries past [] [] (Some stop) h follows whole stops = absurd (stops stop refl)
from_here tries past [] (step ∷ steps) None h follows whole stops = let none : 0 ≡ suc (length steps) = whole refl in absurd (cc)
from_here tries past [] (step ∷ steps) (Some stop) h follows whole stops =
    let s : SessionState = state_of tries past in
    let at : (failing s step.event ≡ Some stop.condition) × (stop.line ≡ step.line) =
    subst (λ (l : List SessionEntry). StopsAt tries l (Some step) stop) (append-nil past) (stops stop refl) in
    ap (λ (l : List SessionEntry). record { entries = l; stopped = Some stop }) (append-nil past)
    ∙ ap (λ (n : ℕ). record { entries = past; stopped = Some (record { line = n; condition = stop.condition }) }) at.1
    ∙ sym (ap (λ (o : Option SessionCondition). played_by o step.line past (played_from (after s step.event) (past ++ entry_of s step.event ∷ []) steps)) at.0)
from_here tries past (y ∷ ys) [] stopped h follows whole stops = absurd (cc)
from_here tries past (y ∷ ys) (step ∷ steps) stopped h follows whole stops =
    let s : SessionState = state_of tries past in
    let is : y.event ≡ step.event = cc in
    let later : map (λ (z : SessionEntry). z.event) ys ≡ events_of (take (length ys) steps) = cc in
    let outcome : y.outcome ≡ (move_of s step.event).outcome = h.0.outcome' ∙ ap (λ (e : SessionEvent). (move_of s e).outcome) is in
    let one : y ≡ entry_of s step.event = λ i. record { event = is i; outcome = outcome i } in
    let runs : failing s step.event ≡ None = sym (ap (λ (e : SessionEvent). failing s e) is) ∙ h.0.enabled in
    let all : past ++ y ∷ ys ≡ (past ++ y ∷ []) ++ ys = sym (append_assoc past (y ∷ []) ys) in
    let rest =
    from_here tries (past ++ y ∷ []) ys steps stopped h.1 later
    (λ none. let same : suc (length ys) ≡ suc (length steps) = whole none in omega (arith, same))
    (λ stop e. subst (λ (l : List SessionEntry). StopsAt tries l (slice_get steps (length ys)) stop) all (stops stop e)) in
    ap (λ (l : List SessionEntry). record { entries = l; stopped = stopped }) all
    ∙ rest
    ∙ ap (λ (t : SessionState). played_from t (past ++ y ∷ []) steps) (replayed_push (opening tries) past y)
    ∙ ap (λ (e : SessionEvent). played_from (after s e) (past ++ y ∷ []) steps) is
    ∙ ap (λ (z : SessionEntry). played_from (after s step.event) (past ++ z ∷ []) steps) one
    ∙ sym (ap (λ (o : Option SessionCondition). played_by o step.line past (played_from (after s step.event) (past ++ entry_of s step.event ∷ []) steps)) runs)

answer_is : (answer : Answer) (status : ℕ) (text : List ℕ) → answer.status ≡ status → answer.text ≡ text → answer ≡ record { status = status; text = text }
answer_is answer status text is tells = λ i. record { status = is i; text = tells i }

is_computed : (read : Result Script SessionTextFault) (answer : Answer) → SessionMeans read answer → answer ≡ answer_of read
is_computed (Ok script) answer (inl (zero', p)) =
    let long : length p.entries ≡ length script.steps =
    sym (length-map p.entries (λ (x : SessionEntry). x.event)) ∙ ap length p.follows ∙ length-map script.steps (λ (x : SessionStep). x.event) in
    let front : take (length p.entries) script.steps ≡ script.steps = take_all (length p.entries) script.steps (omega (arith, long)) in
    let made : record { entries = p.entries; stopped = None } ≡ played script =
    from_here script.tries [] p.entries script.steps None p.history (p.follows ∙ ap events_of (sym front)) (λ e. long) (λ stop e. absurd (cc)) in
    answer_is answer 0 (report p.entries) zero' p.text' ∙ ap answer_of_played made
is_computed (Ok script) answer (inr (three, p)) =
    let made : record { entries = p.entries; stopped = Some p.stop } ≡ played script =
    from_here script.tries [] p.entries script.steps (Some p.stop) p.history p.follows (λ e. absurd (cc))
    (λ stop e.
    let same : p.stop ≡ stop = cc in
    subst (λ (t : Stop). StopsAt script.tries p.entries (slice_get script.steps (length p.entries)) t) same
    (subst (λ (o : Option SessionStep). StopsAt script.tries p.entries o p.stop) (sym p.at) (p.fails, p.line'))) in
    answer_is answer 3 (not_enabled_line p.stop) three p.text' ∙ ap answer_of_played made
is_computed (Err fault) answer is = is

pub one_answer : SessionHasOneAnswer
one_answer (Ok script) answer = (is_computed (Ok script) answer, script_means script answer)
one_answer (Err fault) answer = (is_computed (Err fault) answer, λ is. is)
