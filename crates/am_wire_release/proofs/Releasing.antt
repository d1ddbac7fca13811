-- What a stage releases and holds back, after emissions and after one more, is what the shape of a link says.
use Rattle.std.proofs.Common.{◌≡◌, ℕ, ◌+◌, List, [], ◌∷◌, ◌++◌, length, refl, sym, ◌∙◌, ap, append_assoc, append-nil, true, false, Bool, arith, eqb-true}
use Rattle.std.proofs.Common.{ltb-true, lt-ltb}
use Rattle.std.specs.Prelude.{Option, Some, None, map, ◌==◌, if◌then◌else◌}
use Rattle.std.specs.List.{filter, flat_map}
use Rattle.std.proofs.lemmas.List.{length_push, length-map, map-append}
use Rattle.std.proofs.lemmas.List.Elements.{filter-append}
use Rattle.am_names.specs.declared.Packet.{Packet}
use Rattle.am_names.specs.declared.Packet.TheVariants as Packets
use Rattle.am_scenario_plan.specs.declared.plan.LinkFault.{LinkFault}
use Rattle.am_scenario_plan.specs.declared.plan.LinkFault.TheVariants.{Lose, Repeat, Late}
use Rattle.am_scenario_plan.specs.Shape.{at_once, is_late_until, late_from, number_of, stamp_of, stamped}
use Rattle.am_wire_release.specs.declared.stage.LateItem.{LateItem}
use Rattle.am_wire_release.specs.Laws.{HoldsOn, NumbersLeave, PacketsLeave}
use Rattle.am_wire_release.specs.Stages.{all_held, copies, falls_due, freed, held_after, held_back, is_later}

map_same : {X : Type 0} (xs : List X) → map (λ (x : X). x) xs ≡ xs
map_same [] = refl
map_same (x ∷ xs) = ap (λ l. x ∷ l) (map_same xs)

module _ {X : Type 0} where
  due-append : (place : ℕ) (xs ys : List (LateItem X)) → flat_map (falls_due place) (xs ++ ys) ≡ flat_map (falls_due place) xs ++ flat_map (falls_due place) ys
  due-append place [] ys = refl
  due-append place (x ∷ xs) ys =
      ap (λ (l : List X). falls_due place x ++ l) (due-append place xs ys)
      ∙ sym (append_assoc (falls_due place x) (flat_map (falls_due place) xs) (flat_map (falls_due place) ys))

  all_held-push : (faults : ℕ → Option LinkFault) (place : ℕ) (xs : List X) (x : X) (n : ℕ) → n ≡ place + length xs
      → all_held faults place (xs ++ x ∷ []) ≡ all_held faults place xs ++ held_back (faults n) n x
  all_held-push faults place [] x n e = append-nil (held_back (faults place) place x) ∙ ap (λ (k : ℕ). held_back (faults k) k x) (omega arith)
  all_held-push faults place (y ∷ xs) x n e =
      ap (λ (l : List (LateItem X)). held_back (faults place) place y ++ l) (all_held-push faults (place + 1) xs x n (omega arith))
      ∙ sym (append_assoc (held_back (faults place) place y) (all_held faults (place + 1) xs) (held_back (faults n) n x))

  -- what one place finds later, an earlier one does
  later_before : (n : ℕ) (h : LateItem X) → is_later (n + 1) h ≡ true → is_later n h ≡ true
  later_before n h is = let lt = ltb-true (n + 1) h.due is in lt-ltb n h.due (omega (arith, lt))

  later_twice : (n : ℕ) (hs : List (LateItem X)) → filter (is_later (n + 1)) (filter (is_later n) hs) ≡ filter (is_later (n + 1)) hs
  later_twice n [] = refl
  later_twice n (h ∷ hs) = by_tests (is_later n h) (is_later (n + 1) h) refl refl (later_twice n hs)
    where
      by_tests : (a b : Bool) → is_later n h ≡ a → is_later (n + 1) h ≡ b → filter (is_later (n + 1)) (filter (is_later n) hs) ≡ filter (is_later (n + 1)) hs →
          filter (is_later (n + 1)) (if a then h ∷ filter (is_later n) hs else filter (is_later n) hs) ≡
          (if b then h ∷ filter (is_later (n + 1)) hs else filter (is_later (n + 1)) hs)
      by_tests true true a b more =
          ap (λ (t : Bool). if t then h ∷ filter (is_later (n + 1)) (filter (is_later n) hs) else filter (is_later (n + 1)) (filter (is_later n) hs)) b
          ∙ ap (λ (l : List (LateItem X)). h ∷ l) more
      by_tests true false a b more =
          ap (λ (t : Bool). if t then h ∷ filter (is_later (n + 1)) (filter (is_later n) hs) else filter (is_later (n + 1)) (filter (is_later n) hs)) b ∙ more
      by_tests false true a b more = absurd (let both : true ≡ false = sym (later_before n h b) ∙ a in cc)
      by_tests false false a b more = more

  -- what was released before does not fall due again
  none_due : (n : ℕ) (h : LateItem X) → is_later n h ≡ false → falls_due (n + 1) h ≡ []
  none_due n h early = by_test (h.due == n + 1) refl
    where
      by_test : (b : Bool) → (h.due == n + 1) ≡ b → (if b then h.item ∷ [] else []) ≡ []
      by_test true is =
          let due : h.due ≡ n + 1 = eqb-true h.due (n + 1) is in
          absurd (let both : true ≡ false = sym (lt-ltb n h.due (omega (arith, due))) ∙ early in cc)
      by_test false is = refl

  due_later : (n : ℕ) (hs : List (LateItem X)) → flat_map (falls_due (n + 1)) (filter (is_later n) hs) ≡ flat_map (falls_due (n + 1)) hs
  due_later n [] = refl
  due_later n (h ∷ hs) = by_test (is_later n h) refl (due_later n hs)
    where
      by_test : (b : Bool) → is_later n h ≡ b → flat_map (falls_due (n + 1)) (filter (is_later n) hs) ≡ flat_map (falls_due (n + 1)) hs →
          flat_map (falls_due (n + 1)) (if b then h ∷ filter (is_later n) hs else filter (is_later n) hs) ≡ falls_due (n + 1) h ++ flat_map (falls_due (n + 1))
          hs
      by_test true is more = ap (λ (l : List X). falls_due (n + 1) h ++ l) more
      by_test false is more = more ∙ ap (λ (l : List X). l ++ flat_map (falls_due (n + 1)) hs) (sym (none_due n h is))

  -- ---- one emission more

  pub held_more : HoldsOn X
  held_more faults xs x =
      filter-append (is_later (length xs + 1)) (filter (is_later (length xs)) (all_held faults 1 xs)) held
      ∙ (ap (λ (l : List (LateItem X)). l ++ filter (is_later (length xs + 1)) held) (later_twice (length xs) (all_held faults 1 xs))
      ∙ (sym (filter-append (is_later (length xs + 1)) (all_held faults 1 xs) held)
      ∙ (ap (filter (is_later (length xs + 1))) (sym (all_held-push faults 1 xs x (length xs + 1) (omega arith)))
      ∙ ap (λ (n : ℕ). filter (is_later n) (all_held faults 1 (xs ++ x ∷ []))) (sym (length_push xs x)))))
    where
      held : List (LateItem X)
      held = held_back (faults (length xs + 1)) (length xs + 1) x

-- ---- items that stand for packets

module _ {X : Type 0} (of : Packet → X) where
  late_one : (fault : Option LinkFault) (now place : ℕ) (p : Packet) (late : List Packet) (rest : List X)
      → map of late ≡ rest
      → map of (if is_late_until now place fault then p ∷ late else late) ≡ flat_map (falls_due now) (held_back fault place (of p)) ++ rest
  late_one None now place p late rest e = e
  late_one (Some Lose) now place p late rest e = e
  late_one (Some Repeat) now place p late rest e = e
  late_one (Some (Late by)) now place p late rest e = by_test (place + by == now)
    where
      by_test : (b : Bool) → map of (if b then p ∷ late else late) ≡ ((if b then of p ∷ [] else []) ++ []) ++ rest
      by_test true = ap (λ (l : List X). of p ∷ l) e
      by_test false = e

  late_is_due : (faults : ℕ → Option LinkFault) (now place : ℕ) (ps : List Packet)
      → map of (late_from faults now place ps) ≡ flat_map (falls_due now) (all_held faults place (map of ps))
  late_is_due faults now place [] = refl
  late_is_due faults now place (p ∷ ps) =
      late_one (faults place) now place p (late_from faults now (place + 1) ps) (flat_map (falls_due now) (all_held faults (place + 1) (map of ps)))
      (late_is_due faults now (place + 1) ps)
      ∙ sym (due-append now (held_back (faults place) place (of p)) (all_held faults (place + 1) (map of ps)))

  -- what an emission releases, before it is stamped
  pub leaves : (faults : ℕ → Option LinkFault) (sent : List Packet) (x : X)
      → freed (length sent + 1) (faults (length sent + 1)) x (held_after faults (map of sent)) ≡ copies (faults (length sent + 1)) x ++ map
      of (late_from faults (length sent + 1) 1 sent)
  leaves faults sent x =
      ap (λ (n : ℕ). copies (faults (length sent + 1)) x ++ flat_map (falls_due (length sent + 1)) (filter (is_later n) (all_held faults 1 (map of sent))))
      (length-map sent of)
      ∙ ap (λ (l : List X). copies (faults (length sent + 1)) x ++ l) (due_later (length sent) (all_held faults 1 (map of sent))
      ∙ sym (late_is_due faults (length sent + 1) 1 sent))

-- ---- the packets themselves

pub stamped_again : (p : Packet) → stamped (stamp_of p) p ≡ p
stamped_again (Packets.Parcel p) = refl
stamped_again (Packets.Answer p) = refl

stamped_at_once : (fault : Option LinkFault) (p : Packet) → map (stamped (stamp_of p)) (copies fault p) ≡ at_once fault p
stamped_at_once None p = ap (λ (q : Packet). q ∷ []) (stamped_again p)
stamped_at_once (Some Repeat) p = ap (λ (q : Packet). q ∷ q ∷ []) (stamped_again p)
stamped_at_once (Some Lose) p = refl
stamped_at_once (Some (Late by)) p = refl

pub packets_leave : PacketsLeave
packets_leave faults sent p =
    ap (λ (l : List Packet). map (stamped (stamp_of p)) (freed (length sent + 1) fault p (held_after faults l))) (sym (map_same sent))
    ∙ ap (map (stamped (stamp_of p))) (leaves (λ (q : Packet). q) faults sent p ∙ ap (λ (l : List Packet). copies fault p ++ l) (map_same late))
    ∙ map-append (stamped (stamp_of p)) (copies fault p) late
    ∙ ap (λ (l : List Packet). l ++ map (stamped (stamp_of p)) late) (stamped_at_once fault p)
  where
    fault : Option LinkFault
    fault = faults (length sent + 1)

    late : List Packet
    late = late_from faults (length sent + 1) 1 sent

-- ---- their numbers

number_stamped : (stamp : ℕ) (ps : List Packet) → map number_of (map (stamped stamp) ps) ≡ map number_of ps
number_stamped stamp [] = refl
number_stamped stamp (Packets.Parcel p ∷ ps) = ap (λ (l : List ℕ). p.number ∷ l) (number_stamped stamp ps)
number_stamped stamp (Packets.Answer p ∷ ps) = ap (λ (l : List ℕ). p.number ∷ l) (number_stamped stamp ps)

numbers_at_once : (fault : Option LinkFault) (p : Packet) → copies fault (number_of p) ≡ map number_of (at_once fault p)
numbers_at_once None p = refl
numbers_at_once (Some Repeat) p = refl
numbers_at_once (Some Lose) p = refl
numbers_at_once (Some (Late by)) p = refl

pub numbers_leave : NumbersLeave
numbers_leave faults sent p =
    leaves number_of faults sent (number_of p)
    ∙ (λ i. numbers_at_once (faults (length sent + 1)) p i ++ sym (number_stamped (stamp_of p) late) i)
    ∙ sym (map-append number_of (at_once (faults (length sent + 1)) p) (map (stamped (stamp_of p)) late))
  where
    late : List Packet
    late = late_from faults (length sent + 1) 1 sent
