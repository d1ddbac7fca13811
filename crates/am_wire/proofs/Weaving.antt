-- The links from one node more.
use Rattle.std.specs.Prelude.{slice_get}
use Rattle.std.specs.Global.{Vec}
use Rattle.std.proofs.Common.{◌≡◌, ⊎_elim, ℕ, ◌+◌, Some, List, [], ◌∷◌, ◌++◌, length, sym, ap, ◌∙◌, subst, arith}
use Rattle.std.proofs.lemmas.List.{length_push}
use Rattle.am_names.specs.declared.NodeId.{NodeId}
use Rattle.am_model.specs.Layout.{node_at}
use Rattle.am_scenario_plan.specs.declared.plan.PlanLine.{PlanLine}
use Rattle.am_wire.specs.Links.{IsLink, received}
use Rattle.am_wire.specs.declared.receiving.LinkIn.{LinkIn}
use Rattle.am_wire.specs.declared.sending.LinkOut.{LinkOut}
use Rattle.am_wire.specs.AllLinks.Links.{AreSpread, AreWoven, IsOpened, IsOutOpened, IsRow}
use Rattle.am_wire.proofs.Lists.{got_low, got_push, got_some}

-- ---- a row

pub row_more : (plan : List PlanLine) (from : NodeId) (n : ℕ) (outs : List LinkOut) (ins : List LinkIn) (o : LinkOut) (i : LinkIn) →
    IsRow plan from n outs ins → IsOpened plan from (node_at n) o i → IsRow plan from (n + 1) (outs ++ o ∷ []) (ins ++ i ∷ [])
row_more plan from n outs ins o i r new =
    record {
      all_outs = (let e = length_push outs o in let all = r.all_outs in omega (arith, e, all));
      all_ins = (let e = length_push ins i in let all = r.all_ins in omega (arith, e, all));
      each = λ k p j a b.
          ⊎_elim
          (λ (was : slice_get outs k ≡ Some p).
          ⊎_elim (λ (there : slice_get ins k ≡ Some j). r.each k p j was there) (λ (last : (k ≡ length ins) × (j ≡ i)). absurd (let low =
          got_low outs k p was in let x = r.all_outs in let y = r.all_ins in let at = last.0 in omega (arith, low, x, y, at))) (got_push ins i k j b))
          (λ (last : (k ≡ length outs) × (p ≡ o)).
          ⊎_elim (λ (there : slice_get ins k ≡ Some j). absurd (let low = got_low ins k j there in let x = r.all_outs in let y = r.all_ins in let at = last.0 in
          omega (arith, low, x, y, at))) (λ (end : (k ≡ length ins) × (j ≡ i)). at_end k p j (last.0 ∙ r.all_outs) last.1 end.1) (got_push ins i k j b))
          (got_push outs o k p a);
    }
  where
    at_end : (k : ℕ) (p : LinkOut) (j : LinkIn) → k ≡ n → p ≡ o → j ≡ i → IsOpened plan from (node_at k) p j
    at_end k p j at out inn =
        subst (λ (m : ℕ). IsOpened plan from (node_at m) p j) (sym at)
        (subst (λ (x : LinkOut). IsOpened plan from (node_at n) x j) (sym out) (subst (λ (y : LinkIn). IsOpened plan from (node_at n) o y) (sym inn) new))

-- ---- all rows

none_at : (l : List LinkIn) (k : ℕ) (i : LinkIn) → l ≡ [] → slice_get l k ≡ Some i → received i ≡ []
none_at [] k i e h = absurd (cc)
none_at (x ∷ l) k i e h = absurd (cc)

module _ (plan : List PlanLine) (nodes n : ℕ) (outs : List (Vec LinkOut)) (ins ins' : List (Vec LinkIn)) (new : Vec LinkOut) (ends : List LinkIn)
    (w : AreWoven plan nodes n outs ins) (r : IsRow plan (node_at n) nodes new.items ends) (s : AreSpread ends ins ins') where
  -- what a list was, and what was put last in it
  record Was (to : ℕ) (is : Vec LinkIn) : Type 0 where
    before : Vec LinkIn
    end : LinkIn
    had : slice_get ins to ≡ Some before
    put : slice_get ends to ≡ Some end
    now : is.items ≡ before.items ++ end ∷ []

  was : (to : ℕ) (is : Vec LinkIn) → slice_get ins' to ≡ Some is → Was to is
  was to is h =
      let low = got_low ins' to is h in
      let before = got_some ins to (let all = s.all in omega (arith, low, all)) in
      let end = got_some ends to (let all = s.all in let columns = w.columns in let row = r.all_ins in omega (arith, low, all, columns, row)) in
      record { before = before.0; end = end.0; had = before.1; put = end.1; now = s.each to end.0 before.0 is end.1 before.1 h }

  had_n : (to : ℕ) (is : Vec LinkIn) (b : Was to is) → length b.before.items ≡ n
  had_n to is b = w.column to b.before b.had

  column_now : (to : ℕ) (is : Vec LinkIn) → slice_get ins' to ≡ Some is → length is.items ≡ n + 1
  column_now to is h =
      let b = was to is h in
      ap length b.now ∙ (let e = length_push b.before.items b.end in let m = had_n to is b in omega (arith, e, m))

  row_now : (from : ℕ) (os : Vec LinkOut) → slice_get (outs ++ new ∷ []) from ≡ Some os → length os.items ≡ nodes
  row_now from os h =
      ⊎_elim (λ (old : slice_get outs from ≡ Some os). w.row from os old) (λ (last : (from ≡ length outs) × (os ≡ new)). ap
      (λ (v : Vec LinkOut). length v.items) last.1 ∙ r.all_outs) (got_push outs new from os h)

  -- the link of the new row to a node
  opened : (to : ℕ) (o : LinkOut) (i : LinkIn) → slice_get new.items to ≡ Some o → slice_get ends to ≡ Some i → IsOpened plan (node_at n) (node_at to) o i
  opened to o i a b = r.each to o i a b

  out_now : (from to : ℕ) (os : Vec LinkOut) (o : LinkOut) → slice_get (outs ++ new ∷ []) from ≡ Some os → slice_get os.items to ≡ Some o →
      IsOutOpened plan (node_at from) (node_at to) o
  out_now from to os o h g =
      ⊎_elim (λ (old : slice_get outs from ≡ Some os). w.out from to os o old g)
      (λ (last : (from ≡ length outs) × (os ≡ new)).
      (let at : slice_get new.items to ≡ Some o = subst (λ (v : Vec LinkOut). slice_get v.items to ≡ Some o) last.1 g in
      let low = got_low new.items to o at in
      let end = got_some ends to (let x = r.all_outs in let y = r.all_ins in omega (arith, low, x, y)) in
      subst (λ (m : ℕ). IsOutOpened plan (node_at m) (node_at to) o) (sym (last.0 ∙ w.rows)) (opened to o end.0 at end.1).out))
      (got_push outs new from os h)

  taken_now : (from to : ℕ) (is : Vec LinkIn) (i : LinkIn) → slice_get ins' to ≡ Some is → slice_get is.items from ≡ Some i → received i ≡ []
  taken_now from to is i h g =
      let b = was to is h in
      ⊎_elim (λ (old : slice_get b.before.items from ≡ Some i). w.taken from to b.before i b.had old)
      (λ (last : (from ≡ length b.before.items) × (i ≡ b.end)).
      (let low = got_low ends to b.end b.put in
      let out = got_some new.items to (let x = r.all_outs in let y = r.all_ins in omega (arith, low, x, y)) in
      ap received last.1 ∙ (opened to out.0 b.end out.1 b.put).taken))
      (got_push b.before.items b.end from i (subst (λ (l : List LinkIn). slice_get l from ≡ Some i) b.now g))

  link_now : (from to : ℕ) (os : Vec LinkOut) (is : Vec LinkIn) (o : LinkOut) (i : LinkIn) → slice_get (outs ++ new ∷ []) from ≡ Some os →
      slice_get ins' to ≡ Some is → slice_get os.items to ≡ Some o → slice_get is.items from ≡ Some i → IsLink o i
  link_now from to os is o i h g a c =
      let b = was to is g in
      let m = had_n to is b in
      let rows = w.rows in
      ⊎_elim
      (λ (old : slice_get outs from ≡ Some os).
      ⊎_elim (λ (there : slice_get b.before.items from ≡ Some i). w.link from to os b.before o i old b.had a there)
      (λ (last : (from ≡ length b.before.items) × (i ≡ b.end)). absurd (let low = got_low outs from os old in let at = last.0 in
      omega (arith, low, at, m, rows)))
      (got_push b.before.items b.end from i (subst (λ (l : List LinkIn). slice_get l from ≡ Some i) b.now c)))
      (λ (row : (from ≡ length outs) × (os ≡ new)).
      ⊎_elim (λ (there : slice_get b.before.items from ≡ Some i). absurd (let low = got_low b.before.items from i there in let at = row.0 in
      omega (arith, low, at, m, rows)))
      (λ (last : (from ≡ length b.before.items) × (i ≡ b.end)).
      subst (λ (j : LinkIn). IsLink o j) (sym last.1) (opened to o b.end (subst (λ (v : Vec LinkOut). slice_get v.items to ≡ Some o) row.1 a) b.put).link)
      (got_push b.before.items b.end from i (subst (λ (l : List LinkIn). slice_get l from ≡ Some i) b.now c)))
      (got_push outs new from os h)

  pub woven_more : AreWoven plan nodes (n + 1) (outs ++ new ∷ []) ins'
  woven_more =
      record {
        rows = (let e = length_push outs new in let rows = w.rows in omega (arith, e, rows));
        columns = s.all ∙ w.columns;
        row = row_now;
        column = column_now;
        out = out_now;
        taken = taken_now;
        link = link_now;
      }
