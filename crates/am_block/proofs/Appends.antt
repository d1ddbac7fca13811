-- What appending a node leaves.
use Rattle.std.proofs.Common.{◌≡◌, ℕ, List, Option, Some, None, get_or, sym, ap, ◌∙◌}
use Rattle.std.proofs.Math.ListN.{set}
use denote.RawPtr.{Ptr}
use Rattle.am_block.specs.Places.{somes}
use Rattle.am_block.specs.Links.{Links, inserted}
use Rattle.am_block.specs.Nodes.{IsLink, Good, links_of}
use Rattle.am_block.specs.declared.nodes.Node.{Node}
use Rattle.am_block.specs.declared.List.{List as Which}
use Rattle.am_block_row.specs.declared.Spot.{Spot}
use Rattle.am_block.proofs.GoodNodes.{prev_read, prev_linked, next_good, prev_good, good_set, next_written, prev_written, all_written}

module _ (at : Ptr) (n : ℕ) (cs : List (Option Node)) (g : Good at n cs) (s h : ℕ) (l : Which) (sp hp : Spot) (ks : IsLink at n (record {
  node = sp;
  slot = s;
})) (kh : IsLink at n (record { node = hp; slot = h })) (x : Node) (e : get_or cs h None ≡ Some x) where
  abbrev pub t : ℕ
  t = x.prev.slot

  pub last_linked : IsLink at n x.prev
  last_linked = prev_linked at n cs g h x e

  module _ (y1 : Node) (e1 : get_or cs t None ≡ Some y1) where
    abbrev pub cs1 : List (Option Node)
    cs1 = set cs t (Some (record y1 { next = record { node = sp; slot = s } }))

    pub good1 : Good at n cs1
    good1 = next_good at n cs g t y1 e1 (record { node = sp; slot = s }) ks

    module _ (y2 : Node) (e2 : get_or cs1 s None ≡ Some y2) where
      abbrev pub cs2 : List (Option Node)
      cs2 = set cs1 s (Some (record y2 { prev = x.prev; next = record { node = hp; slot = h }; list = l }))

      pub good2 : Good at n cs2
      good2 = good_set at n cs1 good1 s (record y2 { prev = x.prev; next = record { node = hp; slot = h }; list = l }) last_linked kh

      module _ (y3 : Node) (e3 : get_or cs2 h None ≡ Some y3) where
        abbrev pub cs3 : List (Option Node)
        cs3 = set cs2 h (Some (record y3 { prev = record { node = sp; slot = s } }))

        pub good3 : Good at n cs3
        good3 = prev_good at n cs2 good2 h y3 e3 (record { node = sp; slot = s }) ks

        pub appended3 : links_of (somes cs3) ≡ inserted (links_of (somes cs)) s h l
        appended3 =
            let k = links_of (somes cs) in
            let p = prev_read at n cs g h x e in
            prev_written at n cs2 good2 h y3 e3 (record { node = sp; slot = s })
            ∙ ap {A = Links} (λ v. record v { prev = set v.prev h s }) (all_written at n cs1 good1 s y2 e2 x.prev (record { node = hp; slot = h }) l)
            ∙ ap {A = Links} (λ v. record v {
              next = set v.next s h;
              prev = set (set v.prev s t) h s;
              lists = set v.lists s l;
            }) (next_written at n cs g t y1 e1 (record { node = sp; slot = s }))
            ∙ sym (λ j. record k { next = set (set k.next (p j) s) s h; prev = set (set k.prev s (p j)) h s; lists = set k.lists s l })
