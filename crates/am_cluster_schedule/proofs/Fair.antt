-- Each worker takes as many turns as the scenario gives.
use Rattle.std.specs.Prelude.{Bool, true, false, if◌then◌else◌, nat_lt, slice_get, slice_set}
use Rattle.std.specs.List.{remove, sum_by}
use Rattle.std.proofs.Common.{◌≡◌, ◌≢◌, ◌⊎◌, inl, inr, ⊎_elim, ℕ, zero, suc, ◌+◌, ◌-◌, ◌*◌, ◌%◌, ◌<◌, ◌≤◌, cond, count_by, List, [], ◌∷◌, ◌++◌, length, Option, Some, None, refl, sym, ap, ◌∙◌, subst, arith}
use Rattle.std.proofs.Math.Nat.{add-mul, mod-lt, zero-mul}
use Rattle.std.proofs.lemmas.Grind.{common_steps}
use Rattle.std.proofs.lemmas.List.Sums.{sum_by-append, sum_by-cons, sum_by-remove, sum_by-set}
use Rattle.std.proofs.lemmas.Option.{get_or_from_slice_get, slice_get_within}
use Rattle.am_lemmas.proofs.Lists.{slice_get-None}
use Rattle.am_scenario_generator.specs.Words.{word}
use Rattle.am_scenario_types.specs.Lists.{ScenarioLists}
use Rattle.am_cluster_schedule.proofs.Linked.{got_removed, got_set}
use Rattle.am_cluster_schedule.proofs.Orders.{first_at}
use Rattle.am_cluster_schedule.specs.Order.{EachTakesItsTurns, Schedule, behind, drawn_place, first_turns, scheduled, taking}
use Rattle.am_cluster_schedule.specs.declared.order.Turn.{Turn}
use Rattle.am_cluster_schedule.specs.declared.order.Worker.{Worker}

-- each of these turns is one that its worker has
abbrev AreLow : ℕ → List Turn → Type 0
AreLow turns ts = (k : ℕ) (t : Turn) → slice_get ts k ≡ Some t → t.number < turns

-- how many turns are left to the workers that pass a test
abbrev weight : (Worker → Bool) → ℕ → Turn → ℕ
weight p turns t = cond (p t.worker) (turns - t.number) 0

abbrev left : (Worker → Bool) → ℕ → List Turn → ℕ
left p turns ts = sum_by (weight p turns) ts

weight_on : (b : Bool) (turns n : ℕ) → n < turns → cond b (turns - n) 0 ≡ cond b (turns - (n + 1)) 0 + cond b 1 0
weight_on true turns n low = omega (arith, low)
weight_on false turns n low = omega arith

weight_last : (b : Bool) (turns n : ℕ) → n < turns → nat_lt (n + 1) turns ≡ false → cond b (turns - n) 0 ≡ cond b 1 0
weight_last true turns n low last = grind (arith, common_steps, low, last)
weight_last false turns n low last = refl

module _ (p : Worker → Bool) (turns : ℕ) (ts : List Turn) (at : ℕ) (t : Turn) (here : slice_get ts at ≡ Some t) (low : t.number < turns) where
  left_by : (b : Bool) → nat_lt (t.number + 1) turns ≡ b →
      left p turns (if b then slice_set ts at (record t { number = t.number + 1 }) else remove ts at) + cond (p t.worker) 1 0 ≡ left p turns ts
  left_by true is =
      let sums = sum_by-set (weight p turns) ts at (record t { number = t.number + 1 }) t (slice_get_within ts at t here) in
      let was = ap (weight p turns) (get_or_from_slice_get ts at t t here) in
      let on = weight_on (p t.worker) turns t.number low in
      omega (arith, sums, was, on)
  left_by false is =
      let sums = sum_by-remove (weight p turns) ts at t (slice_get_within ts at t here) in
      let was = ap (weight p turns) (get_or_from_slice_get ts at t t here) in
      let last = weight_last (p t.worker) turns t.number low is in
      omega (arith, sums, was, last)

  left_behind : left p turns (behind turns ts at t) + cond (p t.worker) 1 0 ≡ left p turns ts
  unfolding behind
  left_behind = left_by (nat_lt (t.number + 1) turns) refl

low_by : (turns : ℕ) (ts : List Turn) (at : ℕ) (t : Turn) (b : Bool) → nat_lt (t.number + 1) turns ≡ b → AreLow turns ts →
    AreLow turns (if b then slice_set ts at (record t { number = t.number + 1 }) else remove ts at)
low_by turns ts at t true is all k u at_u =
    ⊎_elim
    (λ (e : (k ≡ at) × (u ≡ record t { number = t.number + 1 })).
    let same = ap (λ (z : Turn). z.number) e.1 in grind (arith, common_steps, same, is))
    (λ (e : (k ≢ at) × (slice_get ts k ≡ Some u)). all k u e.1) (got_set ts at k (record t { number = t.number + 1 }) u at_u)
low_by turns ts at t false is all k u at_u = let g = got_removed ts at k u at_u in all g.0 u g.1

low_behind : (turns : ℕ) (ts : List Turn) (at : ℕ) (t : Turn) → AreLow turns ts → AreLow turns (behind turns ts at t)
unfolding behind
low_behind turns ts at t all = low_by turns ts at t (nat_lt (t.number + 1) turns) refl all

count_more : (p : Worker → Bool) (ws : List Worker) (w : Worker) → count_by p (ws ++ w ∷ []) ≡ count_by p ws + cond (p w) 1 0
count_more p ws w =
    let all = sum_by-append (λ (v : Worker). cond (p v) 1 0) ws (w ∷ []) in
    let one = sum_by-cons (λ (v : Worker). cond (p v) 1 0) w [] in
    let none : sum_by (λ (v : Worker). cond (p v) 1 0) [] ≡ 0 = refl in
    omega (arith, all, one, none)

abbrev always : Worker → Bool
always w = true

-- none is left, or so many turns were taken
abbrev Goes : ℕ → Schedule → Type 0
Goes n d = (d.next ≡ []) ⊎ (count_by always d.taken ≡ n)

-- after so many turns
record Stands (turns total n : ℕ) (p : Worker → Bool) (d : Schedule) : Type 0 where
  low : AreLow turns d.next
  counted : count_by p d.taken + left p turns d.next ≡ total
  goes : Goes n d

empty_next : (g : ℕ) (ts : List Turn) → slice_get ts (g % length ts) ≡ None → ts ≡ []
empty_next g [] none = refl
empty_next g (t ∷ ts) none =
    let past = slice_get-None (t ∷ ts) (g % length (t ∷ ts)) none in
    let within = mod-lt g {m = length (t ∷ ts)} (omega arith) in
    absurd (omega (arith, past, within))

stands_none : (turns total n : ℕ) (p : Worker → Bool) (d : Schedule) → slice_get d.next (drawn_place d.generator d.next) ≡ None → Stands turns total n p d →
    Stands turns total (suc n) p d
stands_none turns total n p d none h = record { low = h.low; counted = h.counted; goes = inl (empty_next (word d.generator) d.next none) }

goes_more : (turns n : ℕ) (d : Schedule) (t : Turn) → slice_get d.next (drawn_place d.generator d.next) ≡ Some t → Goes n d → Goes (suc n) (taking turns d (Some t))
goes_more turns n d t here (inl none) =
    absurd (let e : slice_get [] (drawn_place d.generator d.next) ≡ Some t = subst (λ (ts : List Turn). slice_get ts (drawn_place d.generator d.next) ≡ Some t) none here
    in cc)
goes_more turns n d t here (inr is) = inr (let more = count_more always d.taken t.worker in omega (arith, more, is))

stands_some : (turns total n : ℕ) (p : Worker → Bool) (d : Schedule) (t : Turn) → slice_get d.next (drawn_place d.generator d.next) ≡ Some t →
    Stands turns total n p d → Stands turns total (suc n) p (taking turns d (Some t))
stands_some turns total n p d t here h =
    let at = drawn_place d.generator d.next in
    record {
      low = low_behind turns d.next at t h.low;
      counted =
          let more = count_more p d.taken t.worker in
          let less = left_behind p turns d.next at t here (h.low at t here) in
          let was = h.counted in
          omega (arith, more, less, was);
      goes = goes_more turns n d t here h.goes;
    }

stands_by : (turns total n : ℕ) (p : Worker → Bool) (d : Schedule) (o : Option Turn) → slice_get d.next (drawn_place d.generator d.next) ≡ o →
    Stands turns total n p d → Stands turns total (suc n) p (taking turns d o)
stands_by turns total n p d None is h = stands_none turns total n p d is h
stands_by turns total n p d (Some t) is h = stands_some turns total n p d t is h

all_stands : (s : ScenarioLists) (seed : ℕ) (p : Worker → Bool) (n : ℕ) → 0 < s.turns → Stands s.turns (left p s.turns (first_turns s)) n p (scheduled s seed n)
unfolding scheduled
all_stands s seed p zero some = record {
  low = λ k t at. let none = (first_at s s.nodes k t at).number' in omega (arith, none, some);
  counted = omega arith;
  goes = inr refl;
}
all_stands s seed p (suc n) some =
    stands_by s.turns (left p s.turns (first_turns s)) n p (scheduled s seed n)
    (slice_get (scheduled s seed n).next (drawn_place (scheduled s seed n).generator (scheduled s seed n).next)) refl (all_stands s seed p n some)

-- what is left to the workers that pass a test is no more than what is left to all
left_most : (p : Worker → Bool) (turns : ℕ) (ts : List Turn) → left p turns ts ≤ left always turns ts
left_most p turns [] = let a : left p turns [] ≡ 0 = refl in let b : left always turns [] ≡ 0 = refl in omega (arith, a, b)
left_most p turns (t ∷ ts) =
    let rest = left_most p turns ts in
    let a = sum_by-cons (weight p turns) t ts in
    let b = sum_by-cons (weight always turns) t ts in
    let one = weight_most (p t.worker) (turns - t.number) in
    omega (arith, rest, a, b, one)
  where
    weight_most : (b : Bool) (n : ℕ) → cond b n 0 ≤ n
    weight_most true n = omega arith
    weight_most false n = omega arith

weight_first : (b : Bool) (turns n : ℕ) → n ≡ 0 → cond b (turns - n) 0 ≡ cond b 1 0 * turns
weight_first true turns n none = omega (arith, none)
weight_first false turns n none = omega arith

left_first : (p : Worker → Bool) (turns : ℕ) (ts : List Turn) → ((k : ℕ) (t : Turn) → slice_get ts k ≡ Some t → t.number ≡ 0) →
    left p turns ts ≡ count_by (λ (t : Turn). p t.worker) ts * turns
left_first p turns [] all = sym (zero-mul turns)
left_first p turns (t ∷ ts) all =
    let rest = left_first p turns ts (λ k u at. all (suc k) u at) in
    let a = sum_by-cons (weight p turns) t ts in
    let b = ap (λ (n : ℕ). n * turns) (sum_by-cons (λ (u : Turn). cond (p u.worker) 1 0) t ts) in
    let one = weight_first (p t.worker) turns t.number (all 0 t refl) in
    let split = add-mul (cond (p t.worker) 1 0) (count_by (λ (u : Turn). p u.worker) ts) turns in
    omega (arith, rest, a, b, one, split)

first_none : (s : ScenarioLists) (k : ℕ) (t : Turn) → slice_get (first_turns s) k ≡ Some t → t.number ≡ 0
first_none s k t at = (first_at s s.nodes k t at).number'

count_all : (ts : List Turn) → count_by (λ (t : Turn). always t.worker) ts ≡ length ts
count_all [] = refl
count_all (t ∷ ts) = let rest = count_all ts in let one = sum_by-cons (λ (u : Turn). cond true 1 0) t ts in omega (arith, rest, one)

-- at the end none is left
ends : (turns total all n : ℕ) (p : Worker → Bool) (d : Schedule) → Stands turns total n p d → Stands turns all n always d → all ≡ n → count_by p d.taken ≡ total
ends turns total all n p d h a is = ends_by h.goes
  where
    ends_by : Goes n d → count_by p d.taken ≡ total
    ends_by (inl none) = let gone = ap (λ (ts : List Turn). left p turns ts) none in let was = h.counted in omega (arith, gone, was)
    ends_by (inr taken) = let most = left_most p turns d.next in let was = h.counted in let every = a.counted in omega (arith, most, was, every, taken, is)

some_ends : (s : ScenarioLists) (seed : ℕ) (p : Worker → Bool) → 0 < s.turns →
    count_by p (scheduled s seed (length (first_turns s) * s.turns)).taken ≡ left p s.turns (first_turns s)
some_ends s seed p some =
    let n = length (first_turns s) * s.turns in
    ends s.turns (left p s.turns (first_turns s)) (left always s.turns (first_turns s)) n p (scheduled s seed n) (all_stands s seed p n some)
    (all_stands s seed always n some)
    (left_first always s.turns (first_turns s) (first_none s) ∙ ap (λ (k : ℕ). k * s.turns) (count_all (first_turns s)))

no_turns : (s : ScenarioLists) (seed : ℕ) (p : Worker → Bool) (n : ℕ) → n ≡ 0 → count_by p (scheduled s seed n).taken ≡ 0
unfolding scheduled
no_turns s seed p zero e = refl
no_turns s seed p (suc n) e = absurd (omega (arith, e))

by_turns : (s : ScenarioLists) (seed : ℕ) (p : Worker → Bool) (turns : ℕ) → s.turns ≡ turns →
    count_by p (scheduled s seed (length (first_turns s) * s.turns)).taken ≡ count_by (λ (t : Turn). p t.worker) (first_turns s) * s.turns
by_turns s seed p zero is =
    let a : length (first_turns s) * s.turns ≡ 0 = ap (λ (k : ℕ). length (first_turns s) * k) is ∙ omega arith in
    let b : count_by (λ (t : Turn). p t.worker) (first_turns s) * s.turns ≡ 0 =
    ap (λ (k : ℕ). count_by (λ (t : Turn). p t.worker) (first_turns s) * k) is ∙ omega arith in
    no_turns s seed p (length (first_turns s) * s.turns) a ∙ sym b
by_turns s seed p (suc more) is = some_ends s seed p (omega (arith, is)) ∙ left_first p s.turns (first_turns s) (first_none s)

pub each_takes_its_turns : EachTakesItsTurns
each_takes_its_turns s seed p = by_turns s seed p s.turns refl
