-- The links that are closed so far, of a node and of all nodes.
use Rattle.std.specs.Prelude.{remove, slice_get, slice_index_or, slice_set}
use Rattle.std.specs.Global.{Vec}
use Rattle.std.proofs.Common.{◌≡◌, ◌≢◌, ⊎_elim, ℕ, zero, suc, ◌+◌, ◌<◌, ◌≤◌, List, [], ◌∷◌, ◌++◌, length, length-append, drop, Some, refl, sym, ap, ◌∙◌, subst}
use Rattle.std.proofs.Common.{arith}
use Rattle.std.proofs.lemmas.Option.{slice_get_read, slice_get_within}
use Rattle.am_lemmas.proofs.Lists.{slice_get-Some, slice_get-push_cases, slice_get-set_here}
use Rattle.am_wire.specs.Links.{IsLink}
use Rattle.am_wire.specs.declared.closing.LinkRecord.{LinkRecord}
use Rattle.am_wire.specs.declared.receiving.LinkIn.{LinkIn}
use Rattle.am_wire.specs.declared.sending.LinkOut.{LinkOut}
use Rattle.am_cluster_running.specs.Closing.{AreClosed, AreLinkedEnds, IsLinkedRow, IsRecordOf, IsRowClosed}
use Rattle.am_cluster_running.proofs.Adding.{pairs_more}

-- ---- lists

got_seam : {X : Type 0} (xs ys : List X) (y : X) → slice_get (xs ++ y ∷ ys) (length xs) ≡ Some y
got_seam [] ys y = refl
got_seam (x ∷ xs) ys y = got_seam xs ys y

pub moved : {X : Type 0} (xs ys all : List X) (y : X) → xs ++ y ∷ ys ≡ all → (xs ++ y ∷ []) ++ ys ≡ all
moved [] ys all y e = e
moved (x ∷ xs) ys all y e = (λ i. x ∷ moved xs ys (xs ++ y ∷ ys) y refl i) ∙ e

pub longer : {X : Type 0} (xs : List X) (y : X) → length (xs ++ y ∷ []) ≡ length xs + 1
longer xs y = length-append xs (y ∷ [])

pub all_done : {X : Type 0} (xs ys all : List X) → xs ++ ys ≡ all → length ys ≡ 0 → xs ≡ all
all_done [] [] all e none = e
all_done [] (y ∷ ys) all e none = absurd (omega (arith, none))
all_done (x ∷ xs) ys all e none = (λ i. x ∷ all_done xs ys (xs ++ ys) refl none i) ∙ e

drop_seam : {X : Type 0} (xs : List X) (n : ℕ) (x : X) → slice_get xs n ≡ Some x → drop n xs ≡ x ∷ drop (suc n) xs
drop_seam [] n x e = absurd (cc)
drop_seam (y ∷ ys) zero x e = (let same : y ≡ x = cc in λ i. same i ∷ ys)
drop_seam (y ∷ ys) (suc n) x e = drop_seam ys n x e

next_is : {X : Type 0} (done rest all : List X) (o : X) (n : ℕ) → done ++ o ∷ rest ≡ all → n ≡ length done → slice_get all n ≡ Some o
next_is {X} done rest all o n e place = subst (λ (xs : List X). slice_get xs n ≡ Some o) e
    (subst (λ (k : ℕ). slice_get (done ++ o ∷ rest) k ≡ Some o) (sym place) (got_seam done rest o))

got_elsewhere : {X : Type 0} (xs : List X) (j k : ℕ) (y : X) → j ≢ k → slice_get (slice_set xs j y) k ≡ slice_get xs k
got_elsewhere [] j k y apart = refl
got_elsewhere (x ∷ xs) zero zero y apart = absurd (apart refl)
got_elsewhere (x ∷ xs) zero (suc k) y apart = refl
got_elsewhere (x ∷ xs) (suc j) zero y apart = refl
got_elsewhere (x ∷ xs) (suc j) (suc k) y apart = got_elsewhere xs j k y (λ same. apart (ap suc same))

long_set : {X : Type 0} (xs : List X) (j : ℕ) (y : X) → length (slice_set xs j y) ≡ length xs
long_set [] j y = refl
long_set (x ∷ xs) zero y = refl
long_set (x ∷ xs) (suc j) y = ap suc (long_set xs j y)

-- ---- the links from a node

-- the first of a row are closed, and the other nodes have what they had
pub record IsRowSoFar (done : List LinkOut) (ins : List (Vec LinkIn)) (records : List LinkRecord) (now : List (Vec LinkIn)) : Type 0 where
  pub all : length records ≡ length done
  pub left : length now ≡ length ins
  pub later : (to : ℕ) → length done ≤ to → slice_get now to ≡ slice_get ins to
  pub each : (to : ℕ) (o : LinkOut) (is is' : Vec LinkIn) (r : LinkRecord) → slice_get done to ≡ Some o → slice_get ins to ≡ Some is →
      slice_get now to ≡ Some is' → slice_get records to ≡ Some r → (i : LinkIn) × (is.items ≡ i ∷ is'.items) × IsRecordOf o i r

-- the first end that is left at a node is that of this link
pub record IsFirstLeft (n : ℕ) (now : List (Vec LinkIn)) (o : LinkOut) (is : Vec LinkIn) : Type 0 where
  pub got : slice_get now n ≡ Some is
  pub first : LinkIn
  pub tail : List LinkIn
  pub items : is.items ≡ first ∷ tail
  pub link : IsLink o first

pub next_within : (done rest outs : List LinkOut) (ins : List (Vec LinkIn)) (records : List LinkRecord) (now : List (Vec LinkIn)) (o : LinkOut) (n : ℕ) →
    IsLinkedRow outs ins → IsRowSoFar done ins records now → done ++ o ∷ rest ≡ outs → n ≡ length done → n < length now
next_within done rest outs ins records now o n linked so_far all place =
    let within = slice_get_within outs n o (next_is done rest outs o n all place) in
    let wide = linked.all in
    let left = so_far.left in
    omega (arith, within, wide, left)

pub first_left : (done rest outs : List LinkOut) (ins : List (Vec LinkIn)) (records : List LinkRecord) (now : List (Vec LinkIn)) (o : LinkOut) (is : Vec LinkIn)
    (n : ℕ) → IsLinkedRow outs ins → IsRowSoFar done ins records now → done ++ o ∷ rest ≡ outs → n ≡ length done → is ≡ slice_index_or now n is →
    IsFirstLeft n now o is
first_left done rest outs ins records now o is n linked so_far all place here =
    let low = next_within done rest outs ins records now o n linked so_far all place in
    let got : slice_get now n ≡ Some is = slice_get_read now (length now) n is refl low here in
    let was : slice_get ins n ≡ Some is = sym (so_far.later n (omega (arith, place))) ∙ got in
    let f = linked.each n o is (next_is done rest outs o n all place) was in
    record { got = got; first = f.0; tail = f.1; items = f.2; link = f.3 }

pub row_more : (done rest outs : List LinkOut) (ins : List (Vec LinkIn)) (records more : List LinkRecord) (now : List (Vec LinkIn)) (o : LinkOut)
    (is is' : Vec LinkIn) (i : LinkIn) (r : LinkRecord) (n : ℕ) → IsLinkedRow outs ins → IsRowSoFar done ins records now → done ++ o ∷ rest ≡ outs →
    n ≡ length done → is ≡ slice_index_or now n is → i ≡ slice_index_or is.items 0 i → is'.items ≡ remove is.items 0 → IsRecordOf o i r →
    more ≡ records ++ r ∷ [] → IsRowSoFar (done ++ o ∷ []) ins more (slice_set now n is')
row_more done rest outs ins records more now o is is' i r n linked so_far all place here first removed closed pushed =
    let f = first_left done rest outs ins records now o is n linked so_far all place here in
    let long_done = length-append done (o ∷ []) in
    let same : i ≡ f.first = first ∙ ap (λ (xs : List LinkIn). slice_index_or xs 0 i) f.items in
    let cut : is'.items ≡ f.tail = removed ∙ ap (λ (xs : List LinkIn). remove xs 0) f.items in
    let whole : is.items ≡ i ∷ is'.items = f.items ∙ (λ j. sym same j ∷ sym cut j) in
    record {
      all = ap (λ (xs : List LinkRecord). length xs) pushed ∙ length-append records (r ∷ []) ∙ ap (λ (m : ℕ). m + 1) so_far.all ∙ sym long_done;
      left = long_set now n is' ∙ so_far.left;
      later = λ to late. got_elsewhere now n to is' (λ same. absurd (omega (arith, same, late, long_done, place)))
          ∙ so_far.later to (omega (arith, late, long_done));
      each = λ to p js js' q at_p at_js at_js' at_q.
          ⊎_elim
          (λ (old : slice_get done to ≡ Some p).
          let low = slice_get_within done to p old in
          ⊎_elim
          (λ (was : slice_get records to ≡ Some q). so_far.each to p js js' q old at_js (sym
          (got_elsewhere now n to is' (λ same. absurd (omega (arith, same, low, place)))) ∙ at_js') was)
          (λ (last : (to ≡ length records) × (q ≡ r)). (let e = last.0 in let m = so_far.all in absurd (omega (arith, e, m, low))))
          (slice_get-push_cases records r to q (subst (λ (xs : List LinkRecord). slice_get xs to ≡ Some q) pushed at_q)))
          (λ (new : (to ≡ length done) × (p ≡ o)).
          let at : to ≡ n = new.0 ∙ sym place in
          ⊎_elim
          (λ (was : slice_get records to ≡ Some q). (let low = slice_get_within records to q was in let e = new.0 in let m = so_far.all in
          absurd (omega (arith, e, m, low))))
          (λ (last : (to ≡ length records) × (q ≡ r)).
          let was : slice_get ins n ≡ Some is = sym (so_far.later n (omega (arith, place))) ∙ f.got in
          let at_n : slice_get ins n ≡ Some js = subst (λ (k : ℕ). slice_get ins k ≡ Some js) at at_js in
          let is_js : is ≡ js = cc in
          let set : slice_get (slice_set now n is') n ≡ Some is' = slice_get-set_here now n is' (slice_get_within now n is f.got) in
          let set_n : slice_get (slice_set now n is') n ≡ Some js' = subst (λ (k : ℕ). slice_get (slice_set now n is') k ≡ Some js') at at_js' in
          let is_js' : is' ≡ js' = cc in (
            i,
            ap (λ (v : Vec LinkIn). v.items) (sym is_js) ∙ whole ∙ ap (λ (v : Vec LinkIn). i ∷ v.items) is_js',
            subst (λ (u : LinkOut). IsRecordOf u i q) (sym new.1) (subst (λ (u : LinkRecord). IsRecordOf o i u) (sym last.1) closed),
          ))
          (slice_get-push_cases records r to q (subst (λ (xs : List LinkRecord). slice_get xs to ≡ Some q) pushed at_q)))
          (slice_get-push_cases done o to p at_p);
    }

pub row_end : (outs : List LinkOut) (ins : List (Vec LinkIn)) (records : List LinkRecord) (now : List (Vec LinkIn)) → IsRowSoFar outs ins records now →
    IsRowClosed outs ins records now
row_end outs ins records now h = record { all = h.all; left = h.left; each = h.each }

-- ---- the links of all nodes

-- the links from the first nodes are closed
pub record AreClosedSoFar (done : List (Vec LinkOut)) (ins : List (Vec LinkIn)) (records : List (Vec LinkRecord)) (now : List (Vec LinkIn)) : Type 0 where
  pub all : length records ≡ length done
  pub left : length now ≡ length ins
  pub columns : (to : ℕ) (is is' : Vec LinkIn) → slice_get ins to ≡ Some is → slice_get now to ≡ Some is' → is'.items ≡ drop (length done) is.items
  pub rows : (from : ℕ) (os : Vec LinkOut) (rs : Vec LinkRecord) → slice_get done from ≡ Some os → slice_get records from ≡ Some rs →
      length rs.items ≡ length os.items
  pub each : (from to : ℕ) (os : Vec LinkOut) (is : Vec LinkIn) (rs : Vec LinkRecord) (o : LinkOut) (i : LinkIn) (r : LinkRecord) →
      slice_get done from ≡ Some os → slice_get ins to ≡ Some is → slice_get records from ≡ Some rs → slice_get os.items to ≡ Some o →
      slice_get is.items from ≡ Some i → slice_get rs.items to ≡ Some r → IsRecordOf o i r

pub none_closed : (ins : List (Vec LinkIn)) (records : List (Vec LinkRecord)) → records ≡ [] → AreClosedSoFar [] ins records ins
none_closed ins records none =
    record {
      all = ap (λ (xs : List (Vec LinkRecord)). length xs) none;
      left = refl;
      columns = λ to is is' at_is at_is'. (let same : is ≡ is' = cc in ap (λ (v : Vec LinkIn). v.items) (sym same));
      rows = λ from os rs at_os at_rs. absurd (cc);
      each = λ from to os is rs o i r at_os at_is at_rs at_o at_i at_r. absurd (cc);
    }

-- the links from the next node are as a row
pub next_row : (done rest outs : List (Vec LinkOut)) (ins : List (Vec LinkIn)) (records : List (Vec LinkRecord)) (now : List (Vec LinkIn)) (os : Vec LinkOut) →
    AreLinkedEnds outs ins → AreClosedSoFar done ins records now → done ++ os ∷ rest ≡ outs → IsLinkedRow os.items now
next_row done rest outs ins records now os linked so_far all =
    let at_os = next_is done rest outs os (length done) all refl in
    let long = linked.rows (length done) os at_os in
    let wide = linked.all in
    let left = so_far.left in
    let low = slice_get_within outs (length done) os at_os in
    record {
      all = omega (arith, long, wide, left);
      each = λ to o is' at_o at_is'.
          let low_to = slice_get_within now to is' at_is' in
          let is = slice_get-Some ins to (omega (arith, low_to, left)) in
          let column = linked.columns to is.0 is.1 in
          let i = slice_get-Some is.0.items (length done) (omega (arith, column, low)) in (
            i.0,
            drop (suc (length done)) is.0.items,
            so_far.columns to is.0 is' is.1 at_is'
                ∙ drop_seam is.0.items (length done) i.0 i.1,
            linked.each (length done) to os is.0 o i.0 at_os is.1 at_o i.1,
          );
    }

-- what was closed at the next node
pub record IsClosedNext (n to : ℕ) (o : LinkOut) (is is'' : Vec LinkIn) (r : LinkRecord) : Type 0 where
  pub first : LinkIn
  pub got : slice_get is.items n ≡ Some first
  pub rest : is''.items ≡ drop (suc n) is.items
  pub closed : IsRecordOf o first r

closed_next : (done rest outs : List (Vec LinkOut)) (ins : List (Vec LinkIn)) (records : List (Vec LinkRecord)) (now now' : List (Vec LinkIn))
    (os : Vec LinkOut) (rs : List LinkRecord) (to : ℕ) (is is'' : Vec LinkIn) (o : LinkOut) (r : LinkRecord) → AreLinkedEnds outs ins →
    AreClosedSoFar done ins records now → done ++ os ∷ rest ≡ outs → IsRowClosed os.items now rs now' → slice_get ins to ≡ Some is →
    slice_get now' to ≡ Some is'' → slice_get os.items to ≡ Some o → slice_get rs to ≡ Some r → IsClosedNext (length done) to o is is'' r
closed_next done rest outs ins records now now' os rs to is is'' o r linked so_far all row at_is at_is'' at_o at_r =
    let at_os = next_is done rest outs os (length done) all refl in
    let low = slice_get_within outs (length done) os at_os in
    let low_to = slice_get_within ins to is at_is in
    let left = so_far.left in
    let is' = slice_get-Some now to (omega (arith, low_to, left)) in
    let column = linked.columns to is at_is in
    let i = slice_get-Some is.items (length done) (omega (arith, column, low)) in
    let h = row.each to o is'.0 is'' r at_o is'.1 at_is'' at_r in
    let same : i.0 ∷ drop (suc (length done)) is.items ≡ h.0 ∷ is''.items = sym (drop_seam is.items (length done) i.0 i.1)
    ∙ sym (so_far.columns to is is'.0 at_is is'.1) ∙ h.1 in
    let first : h.0 ≡ i.0 = cc in
    let tail : is''.items ≡ drop (suc (length done)) is.items = cc in
    record { first = i.0; got = i.1; rest = tail; closed = subst (λ (k : LinkIn). IsRecordOf o k r) first h.2 }

pub rows_more : (done rest outs : List (Vec LinkOut)) (ins : List (Vec LinkIn)) (records more : List (Vec LinkRecord)) (now now' : List (Vec LinkIn))
    (os : Vec LinkOut) (rs : Vec LinkRecord) → AreLinkedEnds outs ins → AreClosedSoFar done ins records now → done ++ os ∷ rest ≡ outs →
    IsRowClosed os.items now rs.items now' → more ≡ records ++ rs ∷ [] → AreClosedSoFar (done ++ os ∷ []) ins more now'
rows_more done rest outs ins records more now now' os rs linked so_far all row pushed =
    let at_os = next_is done rest outs os (length done) all refl in
    let long = linked.rows (length done) os at_os in
    let wide = linked.all in
    let left = so_far.left in
    let few = row.all in
    record {
      all = ap (λ (xs : List (Vec LinkRecord)). length xs) pushed ∙ longer records rs ∙ ap (λ (m : ℕ). m + 1) so_far.all ∙ sym (longer done os);
      left = row.left ∙ so_far.left;
      columns = λ to is is'' at_is at_is''.
          let low_to = slice_get_within ins to is at_is in
          let o = slice_get-Some os.items to (omega (arith, low_to, long, wide)) in
          let r = slice_get-Some rs.items to (omega (arith, low_to, long, wide, few)) in
          let next = closed_next done rest outs ins records now now' os rs.items to is is'' o.0 r.0 linked so_far all row at_is at_is'' o.1 r.1 in
          let more = longer done os in
          let same : suc (length done) ≡ length (done ++ os ∷ []) = omega (arith, more) in
          next.rest ∙ ap (λ (n : ℕ). drop n is.items) same;
      rows = λ from ps qs at_ps at_qs. pairs_more (λ (u : Vec LinkOut) (v : Vec LinkRecord). length v.items ≡ length u.items) done records os rs so_far.all
          so_far.rows row.all from ps qs at_ps (subst (λ (xs : List (Vec LinkRecord)). slice_get xs from ≡ Some qs) pushed at_qs);
      each = λ from to ps is qs o i r at_ps at_is at_qs at_o at_i at_r.
          ⊎_elim
          (λ (old : slice_get done from ≡ Some ps).
          let low = slice_get_within done from ps old in
          ⊎_elim
          (λ (was : slice_get records from ≡ Some qs). so_far.each from to ps is qs o i r old at_is was at_o at_i at_r)
          (λ (last : (from ≡ length records) × (qs ≡ rs)). (let e = last.0 in let m = so_far.all in absurd (omega (arith, e, m, low))))
          (slice_get-push_cases records rs from qs (subst (λ (xs : List (Vec LinkRecord)). slice_get xs from ≡ Some qs) pushed at_qs)))
          (λ (new : (from ≡ length done) × (ps ≡ os)).
          ⊎_elim
          (λ (was : slice_get records from ≡ Some qs). (let low = slice_get_within records from qs was in let e = new.0 in let m = so_far.all in
          absurd (omega (arith, e, m, low))))
          (λ (last : (from ≡ length records) × (qs ≡ rs)).
          let low_to = slice_get_within ins to is at_is in
          let gone = row.left in
          let is'' = slice_get-Some now' to (omega (arith, low_to, left, gone)) in
          let next = closed_next done rest outs ins records now now' os rs.items to is is''.0 o r linked so_far all row at_is is''.1
          (subst (λ (v : Vec LinkOut). slice_get v.items to ≡ Some o) new.1 at_o) (subst (λ (v : Vec LinkRecord). slice_get v.items to ≡ Some r) last.1
          at_r) in
          let here : slice_get is.items (length done) ≡ Some i = subst (λ (k : ℕ). slice_get is.items k ≡ Some i) new.0 at_i in
          let got = next.got in
          let same : next.first ≡ i = cc in
          subst (λ (k : LinkIn). IsRecordOf o k r) same next.closed)
          (slice_get-push_cases records rs from qs (subst (λ (xs : List (Vec LinkRecord)). slice_get xs from ≡ Some qs) pushed at_qs)))
          (slice_get-push_cases done os from ps at_ps);
    }

pub rows_end : (outs : List (Vec LinkOut)) (ins : List (Vec LinkIn)) (records : List (Vec LinkRecord)) (now : List (Vec LinkIn)) →
    AreClosedSoFar outs ins records now → AreClosed outs ins records
rows_end outs ins records now h = record { all = h.all; rows = h.rows; each = h.each }
