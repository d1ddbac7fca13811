-- One more of each.
use Rattle.std.proofs.Common.{◌≡◌, ℕ, ◌+◌, List, [], ◌∷◌, ◌++◌, refl, sym, ap, ◌∙◌, append_assoc, append-nil, add-one}
use Rattle.rand_pcg.specs.Lcg.{Lcg}
use Rattle.rand_pcg.specs.Pcg.{pcg32}
use Rattle.am_office_entries.specs.declared.Call.TheVariants.{Poll}
use Rattle.am_scenario_types.specs.declared.parts.ScriptCall.{ScriptCall}
use Rattle.am_scenario_generator.specs.Words.{word, steps, after_threads}
use Rattle.am_scenario_generator.specs.Calls.{call_on, polls, drawn_call, drawn_calls, thread_calls, script_below}
use Rattle.am_scenario_generator.specs.Plan.{with_line, line_of, plan_after}

pub steps_none : (g : Lcg) → steps g 0 ≡ g
unfolding steps
steps_none g = refl

pub steps_more : (g : Lcg) (n : ℕ) → steps g (n + 1) ≡ (pcg32 (steps g n)).1
unfolding steps
steps_more g n = rw add-one refl

pub threads_none : (g : Lcg) → after_threads g 0 ≡ g
unfolding after_threads
threads_none g = refl

pub threads_more : (g : Lcg) (t : ℕ) → after_threads g (t + 1) ≡ steps (after_threads g t) 200
unfolding after_threads
threads_more g t = rw add-one refl

pub polls_none : (thread end : ℕ) → polls thread end 0 ≡ []
unfolding polls
polls_none thread end = refl

pub polls_more : (thread end n : ℕ) → polls thread end (n + 1) ≡ polls thread end n ++ call_on thread end Poll ∷ []
unfolding polls
polls_more thread end n = rw add-one refl

pub calls_none : (g : Lcg) (thread : ℕ) → drawn_calls g thread 0 ≡ []
unfolding drawn_calls
calls_none g thread = refl

pub calls_more : (g : Lcg) (thread n : ℕ) → drawn_calls g thread (n + 1) ≡ drawn_calls g thread n ++ drawn_call thread n (word (steps g n)) ∷ []
unfolding drawn_calls
calls_more g thread n = rw add-one refl

pub script_none : (g : Lcg) → script_below g 0 ≡ []
unfolding script_below
script_none g = refl

pub script_more : (g : Lcg) (t : ℕ) → script_below g (t + 1) ≡ script_below g t ++ thread_calls (after_threads g t) t
unfolding script_below
script_more g t = rw add-one refl

pub plan_none : (g : Lcg) → plan_after g 0 ≡ []
unfolding plan_after
plan_none g = refl

pub plan_more : (g : Lcg) (n : ℕ) → plan_after g (n + 1) ≡ with_line (plan_after g n) (line_of (word (steps g n)))
unfolding plan_after
plan_more g n = rw add-one refl

-- ---- one call more

pub draw_none : (g : Lcg) (thread : ℕ) (start : List ScriptCall) → start ≡ start ++ drawn_calls g thread 0
draw_none g thread start = rw (calls_none g thread) (sym (append-nil start))

pub draw_more : (g rng new : Lcg) (thread place w : ℕ) (start was now : List ScriptCall) → rng ≡ steps g place → (w, new) ≡ pcg32 rng
    → was ≡ start ++ drawn_calls g thread place → now ≡ was ++ drawn_call thread place w ∷ [] → now ≡ start ++ drawn_calls g thread (place + 1)
draw_more g rng new thread place w start was now at drawn before pushed =
    let same : w ≡ word (steps g place) = ap (λ (p : ℕ × Lcg). p.0) drawn ∙ ap (λ (r : Lcg). word r) at in
    pushed ∙ (ap (λ (l : List ScriptCall). l ++ drawn_call thread place w ∷ []) before
    ∙ (append_assoc start (drawn_calls g thread place) (drawn_call thread place w ∷ [])
    ∙ (ap (λ (n : ℕ). start ++ (drawn_calls g thread place ++ drawn_call thread place n ∷ [])) same
    ∙ ap (λ (l : List ScriptCall). start ++ l) (sym (calls_more g thread place)))))

pub step_more : (g rng new : Lcg) (place w : ℕ) → rng ≡ steps g place → (w, new) ≡ pcg32 rng → new ≡ steps g (place + 1)
step_more g rng new place w at drawn = ap (λ (p : ℕ × Lcg). p.1) drawn ∙ (ap (λ (r : Lcg). (pcg32 r).1) at ∙ sym (steps_more g place))

pub poll_none : (thread end : ℕ) (start : List ScriptCall) → start ≡ start ++ polls thread end 0
poll_none thread end start = rw (polls_none thread end) (sym (append-nil start))

pub poll_more : (thread end n : ℕ) (start was now : List ScriptCall) → was ≡ start ++ polls thread end n → now ≡ was ++ call_on thread end Poll ∷ [] →
    now ≡ start ++ polls thread end (n + 1)
poll_more thread end n start was now before pushed =
    pushed ∙ (ap (λ (l : List ScriptCall). l ++ call_on thread end Poll ∷ []) before
    ∙ (append_assoc start (polls thread end n) (call_on thread end Poll ∷ [])
    ∙ ap (λ (l : List ScriptCall). start ++ l) (sym (polls_more thread end n))))
