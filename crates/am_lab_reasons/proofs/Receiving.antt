-- The receipts of a packet: how they are kept, and how they are found one after the other.
use Rattle.std.proofs.Common.{◌≡◌, ℕ, zero, suc, ◌+◌, ◌-◌, ◌<◌, ◌≤◌, ◌==◌, ◌&&◌, ◌||◌, Bool, true, false, cond, Result, Ok, Err, OnOk, Option, Some, None, List, [], ◌∷◌, ◌++◌, drop, get_or, length}
use Rattle.std.proofs.Common.{replicate, slice_get, slice_set, refl, sym, ap, ◌∙◌, subst, arith, ⊎_elim, add-one, append_assoc}
use Rattle.std.proofs.Math.Seq.{drop-cons}
use Rattle.std.proofs.lemmas.Bool.{cases_lt, eqb-true}
use Rattle.std.proofs.lemmas.List.{length-replicate}
use Rattle.std.proofs.lemmas.Option.{slice_get-get_or, slice_get_within}
use Rattle.std.specs.BTreeMap.{BTreeMap}
use Rattle.std.specs.Fmt.{decimal}
use Rattle.std.specs.List.{list_any}
use Rattle.am_lemmas.proofs.Lists.{slice_get-set_elsewhere, slice_get-set_here}
use Rattle.am_lemmas.specs.Numbered.{numbered}
use Rattle.am_names.specs.declared.NodeId.{NodeId}
use Rattle.am_names.specs.declared.Way.{Way}
use Rattle.am_office_entries.specs.declared.Entry.{Entry}
use Rattle.am_office_entries.specs.declared.Event.{Event}
use Rattle.am_office_entries.specs.declared.Event.TheVariants as Events
use Rattle.am_office_text.specs.Words.{spaced}
use Rattle.am_scenario_plan.specs.Shape.{fault_at}
use Rattle.am_scenario_plan.specs.declared.plan.LinkFault.{LinkFault}
use Rattle.am_scenario_plan.specs.declared.plan.PlanLine.{PlanLine}
use Rattle.am_lab_reasons.specs.Packets.{is_received, never, receipt, received_lines, received_or, receives}
use Rattle.am_lab_reasons.specs.Receipts.{AreFirst, AreLater, first_receipt, later_receipt, place_for, place_in, receipt_behind, receipt_behind_entry, receipt_from, received_way}
use Rattle.am_lab_reasons.specs.Receipts.{receives_way}

-- ---- what is kept, after one entry more in front

pub first_noted : (old new : BTreeMap Way ℕ) (xs : List Entry) (n p : ℕ) (d : Entry) → n ≡ p + 1 → p < length xs → AreFirst old n xs →
    ((w : Way) → place_in new w ≡ cond (receives w.from w.to w.number (get_or xs p d).event) (Some p) (place_in old w)) → AreFirst new p xs
first_noted old new xs n p d is below are step =
    let next : suc p ≡ n = omega (arith, is) in
    let cut : drop p xs ≡ get_or xs p d ∷ drop n xs = drop-cons xs p d below ∙ ap (λ (k : ℕ). get_or xs p d ∷ drop k xs) next in
    record {
      each = λ (w : Way).
          step w
          ∙ ap (λ (o : Option ℕ). cond (receives_way w (get_or xs p d)) (Some p) o) (are.each w ∙ ap (λ (k : ℕ). receipt_from w k (drop n xs)) is)
          ∙ ap (λ (l : List Entry). receipt_from w p l) (sym cut);
    }

place_is : (first : BTreeMap Way ℕ) (xs : List Entry) (n p : ℕ) → n ≡ p + 1 → AreFirst first n xs → (o : Option Way) → place_for first o ≡ receipt_behind xs p o
place_is first xs n p is are None = refl
place_is first xs n p is are (Some w) = are.each w ∙ ap (λ (k : ℕ). receipt_from w k (drop k xs)) is

pub later_noted : (first : BTreeMap Way ℕ) (old : List (Option ℕ)) (xs : List Entry) (n p : ℕ) (d : Entry) (v : Option ℕ) → n ≡ p + 1 → p < length xs →
    AreFirst first n xs → AreLater old n xs → v ≡ place_for first (received_way (get_or xs p d).event) → AreLater (slice_set old p v) p xs
later_noted first old xs n p d v is below are later told =
    let stands : slice_get xs p ≡ Some (get_or xs p d) = slice_get-get_or xs p d below in
    let is_later : v ≡ later_receipt xs p = told ∙ place_is first xs n p is are (received_way (get_or xs p d).event)
    ∙ sym (ap (λ (o : Option Entry). receipt_behind_entry xs p o) stands) in
    let long = later.long in
    let here : slice_get (slice_set old p v) p ≡ Some (later_receipt xs p) =
    slice_get-set_here old p v (omega (arith, long, below)) ∙ ap (λ (o : Option ℕ). Some o) is_later in
    record {
      long = set_long old p v ∙ long;
      each = λ q low high.
          ⊎_elim
          (λ (less : p < q). slice_get-set_elsewhere old p q v (λ same. omega (arith, same, less)) ∙ later.each q (omega (arith, less, is)) high)
          (λ (most : q ≤ p).
          let same : p ≡ q = omega (arith, most, low) in
          subst (λ (k : ℕ). slice_get (slice_set old p v) k ≡ Some (later_receipt xs k)) same here)
          (cases_lt p q);
    }
  where
    set_long : {X : Type 0} (ys : List X) (k : ℕ) (y : X) → length (slice_set ys k y) ≡ length ys
    set_long [] k y = refl
    set_long (z ∷ ys) zero y = refl
    set_long (z ∷ ys) (suc k) y = ap suc (set_long ys k y)

drop_past : {X : Type 0} (xs : List X) (n : ℕ) → length xs ≤ n → drop n xs ≡ []
drop_past [] zero h = refl
drop_past [] (suc n) h = refl
drop_past (x ∷ xs) zero h = absurd (omega (arith, h))
drop_past (x ∷ xs) (suc n) h = drop_past xs n (omega (arith, h))

-- nothing is kept behind the last entry
pub none_first : (first : BTreeMap Way ℕ) (xs : List Entry) (n : ℕ) → n ≡ length xs → ((w : Way) → place_in first w ≡ None) → AreFirst first n xs
none_first first xs n is empty =
    record { each = λ (w : Way). empty w ∙ sym (ap (λ (l : List Entry). receipt_from w n l) (drop_past xs n (omega (arith, is)))) }

pub none_later : (xs : List Entry) (n m : ℕ) → n ≡ length xs → m ≡ length xs → AreLater (replicate m None) n xs
none_later xs n m is same = record { long = length-replicate m None ∙ same; each = λ p low high. absurd (omega (arith, low, high, is)) }

-- ---- one receipt after the other

-- an entry at a place receives the packet
pub record IsReceipt (w : Way) (xs : List Entry) (p : ℕ) : Type 0 where
  pub entry : Entry
  pub stands : slice_get xs p ≡ Some entry
  pub receives' : receives_way w entry ≡ true

abbrev pub IsNext : Way → List Entry → Option ℕ → Type 0
IsNext w xs None = Unit {0}
IsNext w xs (Some p) = IsReceipt w xs p

-- the numbers of the lines that receive the packet, from the entry at a place on
abbrev pub numbers_at : Way → List Entry → Option ℕ → List ℕ
numbers_at w xs None = []
numbers_at w xs (Some p) = numbered (receipt w.from w.to w.number) (p + 3) (drop p xs)

-- how many entries there are from a place on
abbrev pub left_at : List Entry → Option ℕ → ℕ
left_at xs None = 0
left_at xs (Some p) = length xs - p

drop_tail : {X : Type 0} (xs : List X) (k : ℕ) (y : X) (ys : List X) → drop k xs ≡ y ∷ ys → drop (k + 1) xs ≡ ys
drop_tail {X = X} xs k y ys e = rw add-one (by_place xs k e)
  where
    by_place : (zs : List X) (j : ℕ) → drop j zs ≡ y ∷ ys → drop (suc j) zs ≡ ys
    by_place [] zero h = absurd (cc)
    by_place [] (suc j) h = absurd (cc)
    by_place (z ∷ zs) zero h = cc
    by_place (z ∷ zs) (suc j) h = by_place zs j h

at_drop : {X : Type 0} (xs : List X) (k : ℕ) (y : X) (ys : List X) → drop k xs ≡ y ∷ ys → slice_get xs k ≡ Some y
at_drop [] zero y ys h = absurd (cc)
at_drop [] (suc k) y ys h = absurd (cc)
at_drop (x ∷ xs) zero y ys h = cc
at_drop (x ∷ xs) (suc k) y ys h = at_drop xs k y ys h

drop_at : {X : Type 0} (xs : List X) (k : ℕ) (y : X) → slice_get xs k ≡ Some y → drop k xs ≡ y ∷ drop (k + 1) xs
drop_at {X = X} xs k y e = rw add-one (by_place xs k e)
  where
    by_place : (zs : List X) (j : ℕ) → slice_get zs j ≡ Some y → drop j zs ≡ y ∷ drop (suc j) zs
    by_place [] zero h = absurd (cc)
    by_place [] (suc j) h = absurd (cc)
    by_place (z ∷ zs) zero h = cc
    by_place (z ∷ zs) (suc j) h = by_place zs j h

-- the lines that receive it begin at the first that does
pub numbers_from : (w : Way) (xs ys : List Entry) (k : ℕ) → drop k xs ≡ ys →
    numbered (receipt w.from w.to w.number) (k + 3) ys ≡ numbers_at w xs (receipt_from w k ys)
numbers_from w xs [] k e = refl
numbers_from w xs (y ∷ ys) k e = by_test (receives_way w y) refl (numbers_from w xs ys (k + 1) (drop_tail xs k y ys e))
  where
    give : ℕ → Entry → List ℕ
    give = receipt w.from w.to w.number

    by_test : (b : Bool) → receives_way w y ≡ b → numbered give (k + 1 + 3) ys ≡ numbers_at w xs (receipt_from w (k + 1) ys) →
        numbered give (k + 3) (y ∷ ys) ≡ numbers_at w xs (cond (receives_way w y) (Some k) (receipt_from w (k + 1) ys))
    by_test true is more =
        ap (λ (l : List Entry). numbered (receipt w.from w.to w.number) (k + 3) l) (sym e)
        ∙ ap (λ (b : Bool). numbers_at w xs (cond b (Some k) (receipt_from w (k + 1) ys))) (sym is)
    by_test false is more =
        let next : k + 3 + 1 ≡ k + 1 + 3 = omega arith in
        ap (λ (b : Bool). cond b (spaced (decimal (k + 3) ∷ [])) [] ++ numbered (receipt w.from w.to w.number) (k + 3 + 1) ys) is
        ∙ ap (λ (n : ℕ). numbered (receipt w.from w.to w.number) n ys) next
        ∙ more
        ∙ ap (λ (b : Bool). numbers_at w xs (cond b (Some k) (receipt_from w (k + 1) ys))) (sym is)

-- the place that is found is that of a receipt, and isn't in front of those that are looked at
pub record IsFound (w : Way) (xs : List Entry) (k p : ℕ) : Type 0 where
  pub receipt' : IsReceipt w xs p
  pub low : k ≤ p

pub is_found : (w : Way) (xs ys : List Entry) (k p : ℕ) → drop k xs ≡ ys → receipt_from w k ys ≡ Some p → IsFound w xs k p
is_found w xs [] k p e h = absurd (cc)
is_found w xs (y ∷ ys) k p e h = by_test (receives_way w y) refl (λ found. is_found w xs ys (k + 1) p (drop_tail xs k y ys e) found)
  where
    some_is : (a b : ℕ) → Some a ≡ Some b → a ≡ b
    some_is a b i = cc

    by_test : (b : Bool) → receives_way w y ≡ b → (receipt_from w (k + 1) ys ≡ Some p → IsFound w xs (k + 1) p) → IsFound w xs k p
    by_test true is more =
        let same : k ≡ p = some_is k p (sym (ap (λ (b : Bool). cond b (Some k) (receipt_from w (k + 1) ys)) is) ∙ h) in
        subst (λ (q : ℕ). IsFound w xs k q) same (record {
          receipt' = record { entry = y; stands = at_drop xs k y ys e; receives' = is };
          low = omega arith;
        })
    by_test false is more =
        let found = more (sym (ap (λ (b : Bool). cond b (Some k) (receipt_from w (k + 1) ys)) is) ∙ h) in
        let low = found.low in
        record { receipt' = found.receipt'; low = omega (arith, low) }

and_both : (a b : Bool) → (a && b) ≡ true → (a ≡ true) × (b ≡ true)
and_both true true h = (refl, refl)
and_both true false h = absurd (cc)
and_both false b h = absurd (cc)

abbrev way_at : NodeId → NodeId → ℕ → Option Way
way_at from to number = Some (record { from = from; to = to; number = number })

node_is : (a b : NodeId) → a.0 ≡ b.0 → a ≡ b
node_is a b e = ap {B = NodeId} (λ (n : ℕ). record { 0 = n }) e

same_way : (w : Way) (a b : NodeId) (n : ℕ) → a.0 ≡ w.from.0 → b.0 ≡ w.to.0 → n ≡ w.number → way_at a b n ≡ Some w
same_way w a b n from to number =
    ap (λ (x : NodeId). way_at x b n) (node_is a w.from from) ∙ ap (λ (x : NodeId). way_at w.from x n) (node_is b w.to to)
    ∙ ap (λ (k : ℕ). way_at w.from w.to k) number

-- the packet that an event receives is the one of which that is said
pub way_is : (w : Way) (e : Event) → receives w.from w.to w.number e ≡ true → received_way e ≡ Some w
way_is w (Events.Receive node peer number) h =
    let link_number = and_both ((w.from.0 == peer.0) && (w.to.0 == node.0)) (w.number == number) h in
    let link = and_both (w.from.0 == peer.0) (w.to.0 == node.0) link_number.0 in
    same_way w peer node number (sym (eqb-true w.from.0 peer.0 link.0)) (sym (eqb-true w.to.0 node.0 link.1))
    (sym (eqb-true w.number number link_number.1))
way_is w other h = absurd (cc)

-- the next receipt of the same packet
pub later_is : (w : Way) (xs : List Entry) (p : ℕ) → IsReceipt w xs p → later_receipt xs p ≡ receipt_from w (p + 1) (drop (p + 1) xs)
later_is w xs p r =
    ap (λ (o : Option Entry). receipt_behind_entry xs p o) r.stands ∙ ap (λ (o : Option Way). receipt_behind xs p o) (way_is w r.entry.event r.receives')

pub next_is : (w : Way) (xs : List Entry) (k : ℕ) (o : Option ℕ) → o ≡ receipt_from w k (drop k xs) → IsNext w xs o
next_is w xs k None e = tt
next_is w xs k (Some p) e = (is_found w xs (drop k xs) k p refl (sym e)).receipt'

pub next_left : (w : Way) (xs : List Entry) (p : ℕ) (o : Option ℕ) → IsReceipt w xs p → o ≡ receipt_from w (p + 1) (drop (p + 1) xs) →
    left_at xs o < left_at xs (Some p)
next_left w xs p None r e = let within = slice_get_within xs p r.entry r.stands in omega (arith, within)
next_left w xs p (Some q) r e =
    let within = slice_get_within xs p r.entry r.stands in
    let low = (is_found w xs (drop (p + 1) xs) (p + 1) q refl (sym e)).low in
    omega (arith, within, low)

-- a receipt is told, and then those behind it
pub told_on : (w : Way) (xs : List Entry) (p : ℕ) → IsReceipt w xs p →
    numbers_at w xs (Some p) ≡ spaced (decimal (p + 3) ∷ []) ++ numbers_at w xs (receipt_from w (p + 1) (drop (p + 1) xs))
told_on w xs p r =
    let give : ℕ → Entry → List ℕ = receipt w.from w.to w.number in
    let cut : drop p xs ≡ r.entry ∷ drop (p + 1) xs = drop_at xs p r.entry r.stands in
    let next : p + 3 + 1 ≡ p + 1 + 3 = omega arith in
    let here : receipt w.from w.to w.number (p + 3) r.entry ≡ spaced (decimal (p + 3) ∷ []) =
    ap (λ (b : Bool). cond b (spaced (decimal (p + 3) ∷ [])) []) r.receives' in
    ap (λ (l : List Entry). numbered give (p + 3) l) cut
    ∙ ap (λ (l : List ℕ). l ++ numbered give (p + 3 + 1) (drop (p + 1) xs)) here
    ∙ ap (λ (n : ℕ). spaced (decimal (p + 3) ∷ []) ++ numbered give n (drop (p + 1) xs)) next
    ∙ ap (λ (l : List ℕ). spaced (decimal (p + 3) ∷ []) ++ l) (numbers_from w xs (drop (p + 1) xs) (p + 1) refl)

-- ---- whether there is a receipt

abbrev pub is_there : Option ℕ → Bool
is_there None = false
is_there (Some p) = true

pub any_is : (w : Way) (ys : List Entry) (k : ℕ) → list_any (λ (x : Entry). receives w.from w.to w.number x.event) ys ≡ is_there (receipt_from w k ys)
any_is w [] k = refl
any_is w (y ∷ ys) k = by_test (receives_way w y) (list_any (λ (x : Entry). receives w.from w.to w.number x.event) ys) (any_is w ys (k + 1))
  where
    by_test : (b c : Bool) → c ≡ is_there (receipt_from w (k + 1) ys) → (b || c) ≡ is_there (cond b (Some k) (receipt_from w (k + 1) ys))
    by_test true c h = refl
    by_test false c h = h

-- ---- what is told

pub told_received : (w : Way) (plan : List PlanLine) (xs : List Entry) (p : ℕ) → first_receipt xs w ≡ Some p →
    received_lines xs w.from w.to w.number ≡ received_or (is_received w.from w.to w.number xs) plan xs w.from w.to w.number
told_received w plan xs p e = sym (ap (λ (b : Bool). received_or b plan xs w.from w.to w.number) (any_is w xs 0 ∙ ap is_there e))

pub told_never : (w : Way) (plan : List PlanLine) (xs : List Entry) (fault : Option LinkFault) → first_receipt xs w ≡ None →
    fault ≡ fault_at plan w.from w.to w.number → never fault ≡ received_or (is_received w.from w.to w.number xs) plan xs w.from w.to w.number
told_never w plan xs fault e is =
    ap never is ∙ sym (ap (λ (b : Bool). received_or b plan xs w.from w.to w.number) (any_is w xs 0 ∙ ap is_there e))

pub put_same : {A E : Type 0} (r : Result A E) (new old a b : List ℕ) → a ≡ b → OnOk r (new ≡ old ++ a) → OnOk r (new ≡ old ++ b)
put_same (Ok x) new old a b same h = h ∙ ap (λ (l : List ℕ). old ++ l) same
put_same (Err e) new old a b same h = tt

-- the first receipt is that of the packet, and all its lines are still to be told
pub all_told : (w : Way) (xs : List Entry) (p : ℕ) → first_receipt xs w ≡ Some p →
    numbers_at w xs (Some p) ≡ numbered (receipt w.from w.to w.number) 3 xs
all_told w xs p e = sym (numbers_from w xs xs 0 refl ∙ ap (λ (o : Option ℕ). numbers_at w xs o) e)

-- the loop's place is that of a receipt
pub receipt_of : (w : Way) (xs : List Entry) (o : Option ℕ) (p : ℕ) → IsNext w xs o → o ≡ Some p → IsReceipt w xs p
receipt_of w xs o p h e = subst (λ (v : Option ℕ). IsNext w xs v) e h

pub told_next : (w : Way) (xs : List Entry) (p : ℕ) (o next : Option ℕ) (out new all : List ℕ) → IsReceipt w xs p → o ≡ Some p →
    out ++ numbers_at w xs o ≡ all → new ≡ out ++ spaced (decimal (p + 3) ∷ []) → next ≡ later_receipt xs p → new ++ numbers_at w xs next ≡ all
told_next w xs p o next out new all r is told more e =
    ap (λ (l : List ℕ). l ++ numbers_at w xs next) more
    ∙ append_assoc out (spaced (decimal (p + 3) ∷ [])) (numbers_at w xs next)
    ∙ ap (λ (v : Option ℕ). out ++ (spaced (decimal (p + 3) ∷ []) ++ numbers_at w xs v)) (e ∙ later_is w xs p r)
    ∙ ap (λ (l : List ℕ). out ++ l) (sym (told_on w xs p r))
    ∙ ap (λ (v : Option ℕ). out ++ numbers_at w xs v) (sym is)
    ∙ told

pub next_smaller : (w : Way) (xs : List Entry) (p : ℕ) (o next : Option ℕ) → IsReceipt w xs p → o ≡ Some p → next ≡ later_receipt xs p →
    left_at xs next < left_at xs o
next_smaller w xs p o next r is e =
    subst (λ (v : Option ℕ). left_at xs next < left_at xs v) (sym is) (next_left w xs p next r (e ∙ later_is w xs p r))
