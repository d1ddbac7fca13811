-- A drain is cut off in one way, and not where it has room.
use Rattle.std.proofs.Common.{◌≡◌, ◌⊎◌, inl, inr, ⊎_elim, ℕ, zero, suc, List, [], ◌∷◌, ◌++◌, Option, Some, None, refl, sym, ◌∙◌, ap, subst, append_assoc}
use Rattle.std.proofs.Common.{append-nil}
use Rattle.std.specs.Prelude.{option_and_then}
use Rattle.am_office_entries.specs.declared.Part.{Part}
use Rattle.am_office_entries.specs.declared.Entry.{Entry}
use Rattle.am_scenario_types.specs.Lists.{ScenarioLists}
use Rattle.am_model.proofs.Each.{each_at}
use Rattle.am_model_drain.specs.Rules.{next_turn}
use Rattle.am_model_drain.specs.Drain.{after_next_turn, after_turns, IsDrainedBefore}
use Rattle.am_model_drain.specs.Cut.{full_for, MeetsNoFullLog, IsDrainCutOff}
use Rattle.am_model_drain.specs.Laws.{CutIsDetermined}
use Rattle.am_model_drain.proofs.Turns.{Extends, turns_extend}
use Rattle.am_model_drain.proofs.Determined.{no_more}

-- of two runs of turns from one journal, one goes on from the other
turns_meet : (n m : ℕ) (scenario : ScenarioLists) (past one other : List Entry) → after_turns n scenario past ≡ Some one →
    after_turns m scenario past ≡ Some other → Extends one other ⊎ Extends other one
turns_meet zero m scenario past one other e f =
    let same : past ≡ one = cc in
    inl (subst (λ (xs : List Entry). Extends xs other) same (turns_extend m scenario past other f))
turns_meet (suc n) zero scenario past one other e f =
    let same : past ≡ other = cc in
    inr (subst (λ (xs : List Entry). Extends xs one) same (turns_extend (suc n) scenario past one e))
turns_meet (suc n) (suc m) scenario past one other e f =
    elim (after_next_turn scenario past) as (λ (t : Option (List Entry)). option_and_then (after_turns n scenario) t ≡ Some one →
    option_and_then (after_turns m scenario) t ≡ Some other → Extends one other ⊎ Extends other one) [
      | None ↦ λ e' f'. absurd (cc)
      | Some next ↦ λ e' f'. turns_meet n m scenario next one other e' f'
    ] e f

-- where no rule applies, every run of turns was before
turns_before : (n m : ℕ) (scenario : ScenarioLists) (past one other : List Entry) → after_turns n scenario past ≡ Some one →
    after_turns m scenario past ≡ Some other → next_turn scenario other ≡ None → Extends one other
turns_before zero m scenario past one other e f end =
    let same : past ≡ one = cc in
    subst (λ (xs : List Entry). Extends xs other) same (turns_extend m scenario past other f)
turns_before (suc n) zero scenario past one other e f end =
    let same : past ≡ other = cc in
    let none = no_more n scenario past (ap (next_turn scenario) same ∙ end) in
    absurd (cc)
turns_before (suc n) (suc m) scenario past one other e f end =
    elim (after_next_turn scenario past) as (λ (t : Option (List Entry)). option_and_then (after_turns n scenario) t ≡ Some one →
    option_and_then (after_turns m scenario) t ≡ Some other → Extends one other) [
      | None ↦ λ e' f'. absurd (cc)
      | Some next ↦ λ e' f'. turns_before n m scenario next one other e' f' end
    ] e f

cancelled : (past xs ys : List Entry) → past ++ xs ≡ past ++ ys → xs ≡ ys
cancelled [] xs ys e = e
cancelled (x ∷ past) xs ys e = cancelled past xs ys (cc)

-- an entry meets a full log, after these
abbrev pub Meets : ScenarioLists → List Entry → Entry → Part → Type 0
Meets scenario past x part = full_for scenario past x ≡ Some part

at_first : (scenario : ScenarioLists) (past : List Entry) (x y : Entry) (part : Part) → Meets scenario (past ++ []) x part → full_for scenario past y ≡ None →
    x ≡ y → ⊥
at_first scenario past x y part full none same =
    let here : full_for scenario past x ≡ Some part = ap (λ (xs : List Entry). full_for scenario xs x) (sym (append-nil past)) ∙ full in
    let there : full_for scenario past x ≡ None = ap (full_for scenario past) same ∙ none in
    let both : Some part ≡ None = sym here ∙ there in
    cc

-- the first entry of a list that meets a full log is one
one_first : (scenario : ScenarioLists) (past xs zs : List Entry) (x y : Entry) (ls ks : List Entry) (part here : Part) → xs ++ x ∷ ls ≡ zs ++ y ∷ ks →
    MeetsNoFullLog scenario past xs → MeetsNoFullLog scenario past zs → Meets scenario (past ++ xs) x part → Meets scenario (past ++ zs) y here →
    (xs ≡ zs) × (x ≡ y)
one_first scenario past [] [] x y ls ks part here e ra rb fa fb = (refl, cc)
one_first scenario past [] (b ∷ zs) x y ls ks part here e ra rb fa fb = absurd (at_first scenario past x b part fa rb.0 (cc))
one_first scenario past (a ∷ xs) [] x y ls ks part here e ra rb fa fb = absurd (at_first scenario past y a here fb ra.0 (cc))
one_first scenario past (a ∷ xs) (b ∷ zs) x y ls ks part here e ra rb fa fb =
    let same : b ≡ a = cc in
    let rest : xs ++ x ∷ ls ≡ zs ++ y ∷ ks = cc in
    let room : MeetsNoFullLog scenario (past ++ a ∷ []) zs = subst (λ (c : Entry). MeetsNoFullLog scenario (past ++ c ∷ []) zs) same rb.1 in
    let meets_a : Meets scenario ((past ++ a ∷ []) ++ xs) x part = ap (λ (us : List Entry). full_for scenario us x) (append_assoc past (a ∷ []) xs) ∙ fa in
    let meets_b : Meets scenario ((past ++ a ∷ []) ++ zs) y here = ap (λ (us : List Entry). full_for scenario us y) (append_assoc past (a ∷ []) zs
    ∙ ap (λ (c : Entry). past ++ c ∷ zs) (sym same)) ∙ fb in
    let both = one_first scenario (past ++ a ∷ []) xs zs x y ls ks part here rest ra.1 room meets_a meets_b in
    (ap (λ (c : Entry). c ∷ xs) (sym same) ∙ ap (λ (us : List Entry). b ∷ us) both.0, both.1)

abbrev pub IsOne : Part → Part → List Entry → List Entry → Type 0
IsOne part here one other = (part ≡ here) × (one ≡ other)

some_part : (part here : Part) → Some part ≡ Some here → part ≡ here
some_part part here e = cc

cut_alike : (scenario : ScenarioLists) (past one other : List Entry) (part here : Part) (c : IsDrainCutOff scenario past part one)
    (d : IsDrainCutOff scenario past here other) (more : List Entry) →
    past ++ (d.drained.added ++ d.drained.next ∷ d.drained.later) ≡ (past ++ (c.drained.added ++ c.drained.next ∷ c.drained.later)) ++ more →
    IsOne part here one other
cut_alike scenario past one other part here c d more e =
    let a = c.drained in
    let b = d.drained in
    let whole : past ++ (a.added ++ a.next ∷ (a.later ++ more)) ≡ past ++ (b.added ++ b.next ∷ b.later) =
    sym (e ∙ (append_assoc past (a.added ++ a.next ∷ a.later) more ∙ ap (λ (xs : List Entry). past ++ xs) (append_assoc a.added (a.next ∷ a.later) more))) in
    let lists : a.added ++ a.next ∷ (a.later ++ more) ≡ b.added ++ b.next ∷ b.later =
    cancelled past (a.added ++ a.next ∷ (a.later ++ more)) (b.added ++ b.next ∷ b.later) whole in
    let full_c : Meets scenario (past ++ a.added) a.next part = ap (λ (xs : List Entry). full_for scenario xs a.next) (sym a.made) ∙ c.full in
    let full_d : Meets scenario (past ++ b.added) b.next here = ap (λ (xs : List Entry). full_for scenario xs b.next) (sym b.made) ∙ d.full in
    let both = one_first scenario past a.added b.added a.next b.next (a.later ++ more) b.later part here lists c.room d.room full_c full_d in
    let same : one ≡ other = a.made ∙ (ap (λ (xs : List Entry). past ++ xs) both.0 ∙ sym b.made) in
    (some_part part here (sym c.full ∙ (ap (λ (xs : List Entry). full_for scenario xs a.next) same ∙ (ap (full_for scenario other) both.1 ∙ d.full))), same)

plan_is : (scenario : ScenarioLists) (past one : List Entry) (c : IsDrainedBefore scenario past one) →
    after_turns c.turns scenario past ≡ Some (past ++ (c.added ++ c.next ∷ c.later))
plan_is scenario past one c =
    c.planned ∙ ap (λ (xs : List Entry). let o : Option (List Entry) = Some xs in o) (ap (λ (xs : List Entry). xs ++ c.next ∷ c.later) c.made
    ∙ append_assoc past c.added (c.next ∷ c.later))

pub cut_is_determined : CutIsDetermined
cut_is_determined =
    record {
      one = λ scenario past one other part here c d.
          ⊎_elim
          (λ (ex : Extends (past ++ (c.drained.added ++ c.drained.next ∷ c.drained.later)) (past ++ (d.drained.added ++ d.drained.next ∷ d.drained.later))).
          cut_alike scenario past one other part here c d ex.0 ex.1)
          (λ (ex : Extends (past ++ (d.drained.added ++ d.drained.next ∷ d.drained.later)) (past ++ (c.drained.added ++ c.drained.next ∷ c.drained.later))).
          let back = cut_alike scenario past other one here part d c ex.0 ex.1 in (sym back.0, sym back.1))
          (turns_meet c.drained.turns d.drained.turns scenario past (past ++ (c.drained.added ++ c.drained.next ∷ c.drained.later))
          (past ++ (d.drained.added ++ d.drained.next ∷ d.drained.later)) (plan_is scenario past one c.drained) (plan_is scenario past other d.drained));
      or = λ scenario past one other part c d.
          let ex : Extends (past ++ (c.drained.added ++ c.drained.next ∷ c.drained.later)) other =
          turns_before c.drained.turns d.drained.0 scenario past (past ++ (c.drained.added ++ c.drained.next ∷ c.drained.later)) other
          (plan_is scenario past one c.drained) d.drained.1.made d.drained.1.ended in
          let whole : past ++ d.added ≡ past ++ (c.drained.added ++ c.drained.next ∷ (c.drained.later ++ ex.0)) = sym d.made
          ∙ (ex.1 ∙ (append_assoc past (c.drained.added ++ c.drained.next ∷ c.drained.later) ex.0
          ∙ ap (λ (xs : List Entry). past ++ xs) (append_assoc c.drained.added (c.drained.next ∷ c.drained.later) ex.0))) in
          let lists : d.added ≡ c.drained.added ++ c.drained.next ∷ (c.drained.later ++ ex.0) =
          cancelled past d.added (c.drained.added ++ c.drained.next ∷ (c.drained.later ++ ex.0)) whole in
          let none : full_for scenario (past ++ c.drained.added) c.drained.next ≡ None =
          each_at (λ (before : List Entry) (x : Entry). full_for scenario before x ≡ None) past c.drained.added c.drained.next (c.drained.later ++ ex.0)
          (subst (λ (xs : List Entry). MeetsNoFullLog scenario past xs) lists d.room) in
          let some : full_for scenario (past ++ c.drained.added) c.drained.next ≡ Some part =
          ap (λ (xs : List Entry). full_for scenario xs c.drained.next) (sym c.drained.made) ∙ c.full in
          let both : Some part ≡ None = sym some ∙ none in
          absurd (cc);
    }
