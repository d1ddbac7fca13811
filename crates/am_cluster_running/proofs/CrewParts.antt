-- The parts of the first nodes.
use Rattle.std.specs.Prelude.{slice_get}
use Rattle.std.specs.Global.{Vec}
use Rattle.std.proofs.Common.{◌≡◌, ◌⊎◌, ⊎_elim, ℕ, zero, suc, ◌+◌, ◌<◌, ◌≤◌, List, [], ◌∷◌, ◌++◌, length, length-append, drop, Some, refl, sym, ap, ◌∙◌, subst}
use Rattle.std.proofs.Common.{arith}
use Rattle.std.proofs.lemmas.Option.{slice_get_within}
use Rattle.am_machine.proofs.Pushed.{each_more}
use Rattle.am_machine.specs.declared.node.NodePart.{NodePart}
use Rattle.am_wire.specs.declared.closing.LinkRecord.{LinkRecord}
use Rattle.am_cluster_running.specs.Parting.{ArePartsOf, IsPartOf}
use Rattle.am_cluster_running.specs.declared.ended.NodeEnded.{NodeEnded}

-- the first that is left, and what is left then
record IsNext {X : Type 0} (all : List X) (n : ℕ) (x : X) (rest : List X) : Type 0 where
  pub got : slice_get all n ≡ Some x
  pub less : n < length all
  pub rest' : rest ≡ drop (suc n) all

next_of : {X : Type 0} (all : List X) (n : ℕ) (x : X) (rest : List X) → drop n all ≡ x ∷ rest → IsNext all n x rest
next_of [] zero x rest e = absurd (cc)
next_of [] (suc n) x rest e = absurd (cc)
next_of (y ∷ all) zero x rest e = (let same : y ≡ x = cc in let tail : all ≡ rest = cc in record { got = ap Some same; less = omega arith; rest' = sym tail })
next_of (y ∷ all) (suc n) x rest e = (let h = next_of all n x rest e in record {
  got = h.got;
  less = (let low = h.less in omega (arith, low));
  rest' = h.rest';
})

dropped : {X : Type 0} (xs : List X) (n : ℕ) → n ≤ length xs → length (drop n xs) + n ≡ length xs
dropped [] zero few = refl
dropped [] (suc n) few = absurd (omega (arith, few))
dropped (x ∷ xs) zero few = omega arith
dropped (x ∷ xs) (suc n) few = (let h = dropped xs n (omega (arith, few)) in omega (arith, h))

-- the first nodes have their parts, and these nodes and links are left
pub record ArePartsSoFar (count : ℕ) (all : List NodeEnded) (records : List (Vec LinkRecord)) (parts : List NodePart) (left : List NodeEnded)
    (rows : List (Vec LinkRecord)) : Type 0 where
  pub few : length parts ≤ length all
  pub left' : left ≡ drop (length parts) all
  pub rows' : rows ≡ drop (length parts) records
  pub each : (k : ℕ) (n : NodeEnded) (rs : Vec LinkRecord) (p : NodePart) → slice_get all k ≡ Some n → slice_get records k ≡ Some rs →
      slice_get parts k ≡ Some p → IsPartOf count n rs.items p

pub none_parted : (count : ℕ) (all : List NodeEnded) (records : List (Vec LinkRecord)) (parts : List NodePart) (left : List NodeEnded)
    (rows : List (Vec LinkRecord)) → parts ≡ [] → left ≡ all → rows ≡ records → ArePartsSoFar count all records parts left rows
none_parted count all records parts left rows none is_left are_rows =
    let long : length parts ≡ 0 = ap (λ (xs : List NodePart). length xs) none in
    record {
      few = omega (arith, long);
      left' = is_left ∙ ap (λ (k : ℕ). drop k all) (sym long);
      rows' = are_rows ∙ ap (λ (k : ℕ). drop k records) (sym long);
      each = λ k n rs p at_n at_rs at_p. (let low = slice_get_within parts k p at_p in absurd (omega (arith, low, long)));
    }

pub parts_more : (count : ℕ) (all : List NodeEnded) (records : List (Vec LinkRecord)) (parts more : List NodePart) (left left_now : List NodeEnded)
    (rows rows_now : List (Vec LinkRecord)) (n : NodeEnded) (rs : Vec LinkRecord) (p : NodePart) → ArePartsSoFar count all records parts left rows →
    left ≡ n ∷ left_now → rows ≡ rs ∷ rows_now → IsPartOf count n rs.items p → more ≡ parts ++ p ∷ [] → ArePartsSoFar count all records more left_now rows_now
parts_more count all records parts more left left_now rows rows_now n rs p h is_left are_rows part pushed =
    let a = next_of all (length parts) n left_now (sym h.left' ∙ is_left) in
    let b = next_of records (length parts) rs rows_now (sym h.rows' ∙ are_rows) in
    let one = ap (λ (xs : List NodePart). length xs) pushed ∙ length-append parts (p ∷ []) in
    let long : suc (length parts) ≡ length more = omega (arith, one) in
    record {
      few = (let low = a.less in omega (arith, low, long));
      left' = a.rest' ∙ ap (λ (k : ℕ). drop k all) long;
      rows' = b.rest' ∙ ap (λ (k : ℕ). drop k records) long;
      each = λ k m qs q at_m at_qs at_q.
          each_more (λ (j : ℕ) (u : NodePart). (w : NodeEnded) (ws : Vec LinkRecord) → slice_get all j ≡ Some w → slice_get records j ≡ Some ws →
          IsPartOf count w ws.items u) parts p (length parts) refl
          (λ j u at_u w ws at_w at_ws. h.each j w ws u at_w at_ws at_u)
          (λ w ws at_w at_ws.
          let got_n = a.got in
          let got_rs = b.got in
          let same : n ≡ w = cc in
          let same_rows : rs ≡ ws = cc in
          subst (λ (u : NodeEnded). IsPartOf count u ws.items p) same (subst (λ (us : Vec LinkRecord). IsPartOf count n us.items p) same_rows part))
          k q (subst (λ (xs : List NodePart). slice_get xs k ≡ Some q) pushed at_q) m qs at_m at_qs;
    }

pub parts_end : (count : ℕ) (all : List NodeEnded) (records : List (Vec LinkRecord)) (parts : List NodePart) (left : List NodeEnded)
    (rows : List (Vec LinkRecord)) → length records ≡ length all → ArePartsSoFar count all records parts left rows → (length left ≡ 0) ⊎ (length rows ≡ 0) →
    ArePartsOf count all records parts
parts_end count all records parts left rows same h none =
    let few = h.few in
    let long_left = ap (λ (xs : List NodeEnded). length xs) h.left' in
    let long_rows = ap (λ (xs : List (Vec LinkRecord)). length xs) h.rows' in
    let a = dropped all (length parts) few in
    let b = dropped records (length parts) (omega (arith, few, same)) in
    record {
      all_parts =
          ⊎_elim (λ (no_node : length left ≡ 0). (omega (arith, no_node, long_left, a)))
          (λ (no_row : length rows ≡ 0). (omega (arith, no_row, long_rows, b, same)))
          none;
      each = h.each;
    }
