-- What each happening knows: all that happened at its node up to it, all that was known to the one that it hears, and all that was known at a node
-- that it touches.
use Rattle.std.specs.Prelude.{slice_get}
use Rattle.std.proofs.Common.{◌≡◌, ℕ, ◌+◌, ◌<◌, true, List, [], ◌∷◌, ◌++◌, length, take, Some, refl, sym, ap, ◌∙◌, subst, arith, eq-eqb, inl, inr, ⊎_elim, ◌⊎◌}
use Rattle.std.proofs.lemmas.List.{length_push, take_all, take-append-le}
use Rattle.std.proofs.lemmas.Option.{slice_get_within}
use Rattle.am_lemmas.proofs.Lists.{slice_get-push_cases}
use Rattle.am_names.specs.declared.NodeId.{NodeId}
use Rattle.am_office_entries.specs.Entries.{is_node}
use Rattle.am_lab_shiviz.specs.declared.knowledge.Clock.{Clock}
use Rattle.am_lab_shiviz.specs.declared.knowledge.Happening.{Happening}
use Rattle.am_lab_shiviz.specs.Clocks.{Known, before, clock, count_at, known, known_at, learned, touches, unknown}
use Rattle.am_lab_shiviz.specs.Laws.{CountsItsNode, EachHasItsClock, KnowsAll, KnowsWhatItHears, KnowsWhatWasKnownThere, happens_at, so_many}
use Rattle.am_lab_shiviz.proofs.Knowing.{Stands, all_known, counted_more, heard_before, or_left, own_clock, stands_begun, stands_next, told_by_case, touched_before, trans_all}

-- the happening at a place, and its clock
record IsAt (past : List Happening) (clocks : List Clock) (place : ℕ) (h : Happening) (c : Clock) : Type 0 where
  there : slice_get past place ≡ Some h
  clock' : slice_get clocks place ≡ Some c

record IsLast (past : List Happening) (place : ℕ) (h g : Happening) (c d : Clock) : Type 0 where
  place' : place ≡ length past
  same : g ≡ h
  clock' : d ≡ c

-- it is one of those before, or the last one
at_cases : (past : List Happening) (clocks : List Clock) (h : Happening) (c : Clock) (place : ℕ) (g : Happening) (d : Clock) → length clocks ≡ length past →
    IsAt (past ++ h ∷ []) (clocks ++ c ∷ []) place g d → IsAt past clocks place g d ⊎ IsLast past place h g c d
at_cases past clocks h c place g d long at =
    ⊎_elim
    (λ (old : slice_get past place ≡ Some g).
    ⊎_elim (λ (same : slice_get clocks place ≡ Some d). inl (record { there = old; clock' = same }))
    (λ (last : (place ≡ length clocks) × (d ≡ c)).
    let less = slice_get_within past place g old in let e = last.0 in absurd (omega (arith, less, e, long)))
    (slice_get-push_cases clocks c place d at.clock'))
    (λ (last : (place ≡ length past) × (g ≡ h)).
    ⊎_elim
    (λ (same : slice_get clocks place ≡ Some d).
    let less = slice_get_within clocks place d same in let e = last.0 in absurd (omega (arith, less, e, long)))
    (λ (same : (place ≡ length clocks) × (d ≡ c)). inr (record { place' = last.0; same = last.1; clock' = same.1 }))
    (slice_get-push_cases clocks c place d at.clock'))
    (slice_get-push_cases past h place g at.there)

at_before : (past : List Happening) (clocks : List Clock) (h : Happening) (c : Clock) (place : ℕ) (g : Happening) (d : Clock) → length clocks ≡ length past →
    IsAt (past ++ h ∷ []) (clocks ++ c ∷ []) place g d → place < length past → IsAt past clocks place g d
at_before past clocks h c place g d long at less =
    ⊎_elim (λ old. old) (λ (last : IsLast past place h g c d). let e = last.place' in absurd (omega (arith, less, e)))
    (at_cases past clocks h c place g d long at)

within : (past : List Happening) (clocks : List Clock) (place : ℕ) (g : Happening) (d : Clock) → IsAt past clocks place g d → place < length past
within past clocks place g d at = slice_get_within past place g at.there

-- what the happenings so far know
record Says (past : List Happening) (k : Known) : Type 0 where
  stands : Stands past k
  counts : (place : ℕ) (h : Happening) (c : Clock) → IsAt past k.clocks place h c → h.node.0 < 16 →
      count_at c h.node ≡ so_many h.node (take (place + 1) past)
  hears : (from place : ℕ) (g h : Happening) (d c : Clock) → IsAt past k.clocks from g d → IsAt past k.clocks place h c → from < place →
      h.hears ≡ Some from → KnowsAll d c
  touched : (n : NodeId) (place : ℕ) (h : Happening) (c : Clock) → n.0 < 16 → IsAt past k.clocks place h c → touches n h ≡ true →
      KnowsAll c (known_at k.nodes n)
  rises : (n : NodeId) (from place : ℕ) (g h : Happening) (d c : Clock) → n.0 < 16 → IsAt past k.clocks from g d → IsAt past k.clocks place h c →
      from < place → touches n g ≡ true → touches n h ≡ true → KnowsAll d c

here : (h : Happening) → touches h.node h ≡ true
here h = or_left (happens_at h.node h) (is_node h.node h.reached) (eq-eqb h.node.0 h.node.0 refl)

module _ (past : List Happening) (k : Known) (h : Happening) (s : Says past k) where
  next_counts : (place : ℕ) (g : Happening) (d : Clock) → IsAt (past ++ h ∷ []) (learned k h).clocks place g d → g.node.0 < 16 →
      count_at d g.node ≡ so_many g.node (take (place + 1) (past ++ h ∷ []))
  next_counts place g d at low =
      ⊎_elim
      (λ (old : IsAt past k.clocks place g d).
      let less = within past k.clocks place g d old in
      s.counts place g d old low ∙ ap (so_many g.node) (sym (take-append-le (place + 1) past (h ∷ []) (omega (arith, less)))))
      (λ (last : IsLast past place h g (clock k h) d).
      let same = last.same in
      let low' : h.node.0 < 16 = subst (λ (x : Happening). x.node.0 < 16) same low in
      let e = last.place' in
      let long = length_push past h in
      let all : take (place + 1) (past ++ h ∷ []) ≡ past ++ h ∷ [] = take_all (place + 1) (past ++ h ∷ []) (omega (arith, e, long)) in
      ap (λ (x : Clock). count_at x g.node) last.clock'
      ∙ ap (λ (x : Happening). count_at (clock k h) x.node) same
      ∙ own_clock past k h h.node s.stands (here h) low'
      ∙ ap (λ (x : Happening). so_many x.node (past ++ h ∷ [])) (sym same)
      ∙ ap (so_many g.node) (sym all))
      (at_cases past k.clocks h (clock k h) place g d s.stands.long at)

  next_hears : (from place : ℕ) (f g : Happening) (b d : Clock) → IsAt (past ++ h ∷ []) (learned k h).clocks from f b →
      IsAt (past ++ h ∷ []) (learned k h).clocks place g d → from < place → g.hears ≡ Some from → KnowsAll b d
  next_hears from place f g b d at more less e =
      ⊎_elim
      (λ (old : IsAt past k.clocks place g d).
      let few = within past k.clocks place g d old in
      s.hears from place f g b d (at_before past k.clocks h (clock k h) from f b s.stands.long at (omega (arith, less, few))) old less e)
      (λ (last : IsLast past place h g (clock k h) d).
      let end = last.place' in
      let old = at_before past k.clocks h (clock k h) from f b s.stands.long at (omega (arith, less, end)) in
      let heard = heard_before past k h from b s.stands (ap (λ (x : Happening). x.hears) (sym last.same) ∙ e) old.clock' in
      subst (KnowsAll b) (sym last.clock') (trans_all b (before k h) (clock k h) heard (counted_more (before k h) h.node)))
      (at_cases past k.clocks h (clock k h) place g d s.stands.long more)

  -- what was known at a node is known to a happening that touches it
  touched_clock : (n : NodeId) → touches n h ≡ true → KnowsAll (known_at k.nodes n) (clock k h)
  touched_clock n t =
      trans_all (known_at k.nodes n) (before k h) (clock k h) (touched_before past k h n s.stands t) (counted_more (before k h) h.node)

  next_touched : (n : NodeId) (place : ℕ) (g : Happening) (d : Clock) → n.0 < 16 → IsAt (past ++ h ∷ []) (learned k h).clocks place g d →
      touches n g ≡ true → KnowsAll d (known_at (learned k h).nodes n)
  next_touched n place g d low at t =
      let few = s.stands.nodes in
      ⊎_elim
      (λ (old : IsAt past k.clocks place g d).
      let was = s.touched n place g d low old t in
      told_by_case (KnowsAll d) k.nodes h (clock k h) n (omega (arith, few, low))
      (λ touched. trans_all d (known_at k.nodes n) (clock k h) was (touched_clock n touched)) (λ other. was))
      (λ (last : IsLast past place h g (clock k h) d).
      let t' : touches n h ≡ true = ap (touches n) (sym last.same) ∙ t in
      subst (λ (x : Clock). KnowsAll x (known_at (learned k h).nodes n)) (sym last.clock')
      (told_by_case (KnowsAll (clock k h)) k.nodes h (clock k h) n (omega (arith, few, low)) (λ touched. λ m. omega arith) (λ other. absurd (cc))))
      (at_cases past k.clocks h (clock k h) place g d s.stands.long at)

  next_rises : (n : NodeId) (from place : ℕ) (f g : Happening) (b d : Clock) → n.0 < 16 → IsAt (past ++ h ∷ []) (learned k h).clocks from f b →
      IsAt (past ++ h ∷ []) (learned k h).clocks place g d → from < place → touches n f ≡ true → touches n g ≡ true → KnowsAll b d
  next_rises n from place f g b d low at more less t u =
      ⊎_elim
      (λ (old : IsAt past k.clocks place g d).
      let few = within past k.clocks place g d old in
      s.rises n from place f g b d low (at_before past k.clocks h (clock k h) from f b s.stands.long at (omega (arith, less, few))) old less t u)
      (λ (last : IsLast past place h g (clock k h) d).
      let end = last.place' in
      let old = at_before past k.clocks h (clock k h) from f b s.stands.long at (omega (arith, less, end)) in
      let u' : touches n h ≡ true = ap (touches n) (sym last.same) ∙ u in
      subst (KnowsAll b) (sym last.clock') (trans_all b (known_at k.nodes n) (clock k h) (s.touched n from f b low old t) (touched_clock n u')))
      (at_cases past k.clocks h (clock k h) place g d s.stands.long more)

  says_next : Says (past ++ h ∷ []) (learned k h)
  says_next = record { stands = stands_next past k h s.stands; counts = next_counts; hears = next_hears; touched = next_touched; rises = next_rises }

says_begun : Says [] unknown
says_begun =
    record {
      stands = stands_begun;
      counts = λ place h c at. absurd (nowhere place h at.there);
      hears = λ from place g h d c at. absurd (nowhere from g at.there);
      touched = λ n place h c low at. absurd (nowhere place h at.there);
      rises = λ n from place g h d c low at. absurd (nowhere from g at.there);
    }
  where
    nowhere : (place : ℕ) (h : Happening) → slice_get [] place ≡ Some h → ⊥
    nowhere place h at = cc

says : (happenings : List Happening) → Says happenings (known happenings)
says happenings = all_known Says says_next [] happenings unknown says_begun

-- ---- the laws

pub each_has_its_clock : EachHasItsClock
each_has_its_clock happenings = (says happenings).stands.long

pub counts_its_node : CountsItsNode
counts_its_node happenings place h c at low = (says happenings).counts place h c (record { there = at.there; clock' = at.clock' }) low

pub knows_what_it_hears : KnowsWhatItHears
knows_what_it_hears happenings from place g h d c at more less e =
    (says happenings).hears from place g h d c (record { there = at.there; clock' = at.clock' }) (record { there = more.there; clock' = more.clock' }) less e

pub knows_what_was_known_there : KnowsWhatWasKnownThere
knows_what_was_known_there happenings from place g h d c n at more less low t u =
    (says happenings).rises n from place g h d c low (record { there = at.there; clock' = at.clock' }) (record { there = more.there; clock' = more.clock' }) less t u
