-- A cluster as it begins.
use Rattle.std.specs.Prelude.{slice_get, IfSome, IsTrue}
use Rattle.std.specs.List.{AllPairs, All, find}
use Rattle.std.proofs.Common.{Option, None, ◌≤◌, ◌≡◌, ℕ, zero, suc, ◌+◌, ◌++◌, ◌<◌, take, get_or, Bool, true, false, cond, List, [], ◌∷◌, map, length, Some, refl, sym, ap, ◌∙◌, subst}
use Rattle.std.proofs.Common.{arith, eqb-true}
use Rattle.std.proofs.lemmas.List.{map-append, map_more}
use Rattle.std.proofs.lemmas.Option.{slice_get_within, get_or_from_slice_get}
use Rattle.am_names.specs.declared.EndpointId.{EndpointId}
use Rattle.am_names.specs.Names.{same_end}
use Rattle.am_model.specs.Endpoint.{is_on_disk}
use Rattle.am_model.specs.Layout.{Layout, EndSetting, AllAre, IsLawful, IsPoolLawful, has_id, home_by, opening_by, opening_place}
use Rattle.am_model.proofs.Names.{same_end-refl}
use Rattle.am_model.proofs.Alls.{all_by_place}
use Rattle.am_scenario_types.specs.declared.parts.EndLine.{EndLine}
use Rattle.am_scenario_types.specs.declared.parts.FaultLine.{FaultLine}
use Rattle.am_scenario_types.specs.declared.parts.Network.{Network}
use Rattle.am_scenario_types.specs.declared.parts.Network.TheVariants as Networks
use Rattle.am_scenario_types.specs.Lawful.{IsLawfulEnd}
use Rattle.am_model_scripts.specs.Layout.{is_direct, setting_of}
use Rattle.am_machine.specs.declared.settings.Settings.{Settings}
use Rattle.am_endpoint.specs.View.{EndpointView}
use Rattle.am_driver_moves.specs.Logs.{EndLog, kept}
use Rattle.am_machine.specs.Ends.{setting_in}
use Rattle.am_machine.specs.Kept.{IsOwn, IsShort, IsTied, layout_in}
use Rattle.am_iface.specs.View.{InterfaceView}
use Rattle.am_machine.specs.Beginnings.{opened}
use Rattle.am_machine.specs.Homes.{AreFresh}
use Rattle.am_machine.specs.Interfaces.{AreInterfaces}
use Rattle.am_machine.proofs.Homes.{home_told}

-- one endpoint more was opened
pub opened_more : (s : Settings) (lines : List EndLine) (k : ℕ) (d : EndLine) (vs us : List EndpointView) (v : EndpointView) → k < length lines →
    map kept vs ≡ map (opened s) (take k lines) → kept v ≡ opened s (get_or lines k d) → us ≡ vs ++ v ∷ [] →
    map kept us ≡ map (opened s) (take (k + 1) lines)
opened_more s lines k d vs us v lt before is pushed =
    ap (λ (l : List EndpointView). map kept l) pushed ∙ map-append kept vs (v ∷ [])
    ∙ ap (λ (l : List EndLog). l ++ kept v ∷ []) before
    ∙ ap (λ (e : EndLog). map (opened s) (take k lines) ++ e ∷ []) is
    ∙ sym (map_more (opened s) lines k d lt)

-- the lines rise by their numbers
abbrev pub Rise : List EndLine → Type 0
Rise lines = AllPairs (λ (a b : EndLine). a.id.0 < b.id.0) lines

pub rise_rest : (x : EndLine) (xs : List EndLine) → Rise (x ∷ xs) → Rise xs
rise_rest x xs h i j d lt le = h (suc i) (suc j) d (omega (arith, lt)) (omega (arith, le))

pub first_below : (x : EndLine) (xs : List EndLine) (k : ℕ) (y : EndLine) → Rise (x ∷ xs) → slice_get xs k ≡ Some y → x.id.0 < y.id.0
first_below x xs k y h at =
    let within = slice_get_within xs k y at in
    let less = h zero (suc k) y (omega arith) (omega (arith, within)) in
    subst (λ (z : EndLine). x.id.0 < z.id.0) (get_or_from_slice_get xs k y y at) less

apart_test : (a b : EndpointId) → b.0 < a.0 → same_end a b ≡ false
apart_test a b lt = by_test (same_end a b) refl
  where
    by_test : (t : Bool) → same_end a b ≡ t → t ≡ false
    by_test true is = let same = eqb-true a.0 b.0 is in absurd (omega (arith, lt, same))
    by_test false is = refl

-- a line is found by its number
pub found_line : (lines : List EndLine) (k : ℕ) (line : EndLine) → Rise lines → slice_get lines k ≡ Some line →
    find (has_id line.id) (map setting_of lines) ≡ Some (setting_of line)
found_line [] k line h at = absurd (cc)
found_line (x ∷ xs) zero line h at =
    let same : x ≡ line = cc in
    ap (λ (b : Bool). cond b (Some (setting_of x)) (find (has_id line.id) (map setting_of xs))) (ap (λ (z : EndLine). same_end line.id z.id) same
    ∙ same_end-refl line.id)
    ∙ ap (λ (z : EndLine). Some (setting_of z)) same
found_line (x ∷ xs) (suc k) line h at =
    ap (λ (b : Bool). cond b (Some (setting_of x)) (find (has_id line.id) (map setting_of xs))) (apart_test line.id x.id (first_below x xs k line h at))
    ∙ found_line xs k line (rise_rest x xs h) at

same_place : (direct disk : Bool) → opening_place direct (is_on_disk (opening_place direct disk)) ≡ opening_place direct disk
same_place true disk = refl
same_place false true = refl
same_place false false = refl

-- its settings are those of the line, where a line of the direct network has no disk
same_setting : (s : Settings) (line : EndLine) → (IsTrue line.disk → s.network ≡ Networks.Packet) → setting_in (opened s line) ≡ setting_of line
same_setting s line h = λ i. record { id = line.id; node = line.node; tag = line.tag; disk = by_network s.network line.disk h i }
  where
    by_network : (network : Network) (disk : Bool) → (IsTrue disk → network ≡ Networks.Packet) → is_on_disk (opening_place (is_direct network) disk) ≡ disk
    by_network Networks.Packet true k = refl
    by_network Networks.Packet false k = refl
    by_network Networks.Direct false k = refl
    by_network Networks.Direct true k = let no' = k refl in absurd (cc)

pub same_settings : (s : Settings) (nodes : ℕ) (lines : List EndLine) → All (IsLawfulEnd s.network nodes) lines →
    map setting_in (map (opened s) lines) ≡ map setting_of lines
same_settings s nodes [] h = refl
same_settings s nodes (x ∷ xs) h =
    let first = h zero x (omega arith) in
    λ i. same_setting s x first.disk i ∷ same_settings s nodes xs (λ k d lt. h (suc k) d (omega (arith, lt))) i

got_opened : (s : Settings) (lines : List EndLine) (j : ℕ) (d : EndLog) → slice_get (map (opened s) lines) j ≡ Some d →
    (line : EndLine) × ((slice_get lines j ≡ Some line) × (d ≡ opened s line))
got_opened s [] j d h = absurd (cc)
got_opened s (x ∷ xs) zero d h = let same : opened s x ≡ d = cc in (x, (refl, sym same))
got_opened s (x ∷ xs) (suc j) d h = got_opened s xs j d h

pub rise_apart : (lines : List EndLine) (j k : ℕ) (a b : EndLine) → Rise lines → slice_get lines j ≡ Some a → slice_get lines k ≡ Some b → a.id ≡ b.id → j ≡ k
rise_apart [] j k a b h p q same = absurd (cc)
rise_apart (x ∷ xs) zero zero a b h p q same = refl
rise_apart (x ∷ xs) zero (suc k) a b h p q same =
    let is : x ≡ a = cc in
    let less = first_below x xs k b h q in
    let one : x.id.0 ≡ b.id.0 = ap (λ (z : EndLine). z.id.0) is ∙ ap (λ (e : EndpointId). e.0) same in
    absurd (omega (arith, less, one))
rise_apart (x ∷ xs) (suc j) zero a b h p q same =
    let is : x ≡ b = cc in
    let less = first_below x xs j a h p in
    let one : a.id.0 ≡ x.id.0 = ap (λ (e : EndpointId). e.0) same ∙ sym (ap (λ (z : EndLine). z.id.0) is) in
    absurd (omega (arith, less, one))
rise_apart (x ∷ xs) (suc j) (suc k) a b h p q same = ap suc (rise_apart xs j k a b (rise_rest x xs h) p q same)

-- a cluster that begins so keeps what it is to keep
pub begins : (s : Settings) (faults : List FaultLine) (nodes : ℕ) (lines : List EndLine) (es : List EndLog) → es ≡ map (opened s) lines →
    All (IsLawfulEnd s.network nodes) lines → Rise lines → IsLawful (layout_in s faults es) → IsTied (layout_in s faults es) es []
begins s faults nodes lines es is lawful rise whole =
    subst (λ (ns : List EndLog). IsTied (layout_in s faults ns) ns []) (sym is)
    (record {
      lawful = subst (λ (ns : List EndLog). IsLawful (layout_in s faults ns)) is whole;
      history = tt;
      early = omega arith;
      ordered = refl;
      own = all_by_place (IsOwn layout []) (map (opened s) lines) own_at;
      short = short_at lines;
      apart = λ j k d e dj ek same.
          (let a = got_opened s lines j d dj in
          let b = got_opened s lines k e ek in
          rise_apart lines j k a.0 b.0 rise a.1.0 b.1.0 (ap (λ (l : EndLog). l.settings.id) (sym a.1.1) ∙ same ∙ ap (λ (l : EndLog). l.settings.id) b.1.1));
    })
  where
    layout : Layout
    layout = layout_in s faults (map (opened s) lines)

    short_at : (ls : List EndLine) → AllAre IsShort (map (opened s) ls)
    short_at [] = tt
    short_at (l ∷ ls) = (omega arith, short_at ls)

    own_at : (k : ℕ) (e : EndLog) → slice_get (map (opened s) lines) k ≡ Some e → IsOwn layout [] e
    own_at k e at =
        let r = got_opened s lines k e at in
        let found : find (has_id r.0.id) (map setting_in (map (opened s) lines)) ≡ Some (setting_of r.0) =
        ap (find (has_id r.0.id)) (same_settings s nodes lines lawful) ∙ found_line lines k r.0 rise r.1.0 in
        let place : opening_place (is_direct s.network) r.0.disk ≡ (opened s r.0).settings.place = refl in
        subst (IsOwn layout []) (sym r.1.1)
        (record {
          opening = ap (opening_by layout) found;
          log = refl;
          limit = refl;
          bounces = refl;
          pool = refl;
        })

-- and so do its interfaces
pub fresh_interfaces : (s : Settings) (faults : List FaultLine) (lines : List EndLine) (es : List EndLog) (is : List InterfaceView) →
    All (IsLawfulEnd s.network s.nodes) lines → map setting_in es ≡ map setting_of lines → AreFresh s lines is → AreInterfaces (layout_in s faults es) [] is
fresh_interfaces s faults lines es is lawful ends fresh' =
    record {
      each = λ k i at.
          (let f = fresh'.each k i at in
          let none = ap length f.log in
          record {
            is_node = f.is_node;
            nodes = f.nodes;
            channels = f.channels;
            tries = f.tries;
            bounces = f.bounces;
            limit = f.limit;
            homes = λ e. home_told s.network s.nodes lines i.settings.homes e lawful f.homes
                ∙ ap (λ (ss : List EndSetting). home_by (find (has_id e) ss)) (sym ends);
            part = f.log;
            bounded = omega (arith, none);
          });
      all = fresh'.all;
    }

pub pool_lawful : (pool : Option ℕ) → IfSome pool (λ (p : ℕ). p ≤ 32) → IsPoolLawful pool
pool_lawful None h = tt
pool_lawful (Some pool) h = h
