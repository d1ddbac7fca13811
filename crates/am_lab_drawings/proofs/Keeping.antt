-- An endpoint on disk holds what it held before.
use Rattle.std.proofs.Common.{◌≡◌, Bool, true, false, List, [], ◌∷◌, ◌++◌, Option, Some, None, refl, sym, ap, ◌∙◌, subst, true≢false, length, if◌then◌else◌}
use Rattle.std.specs.List.{find}
use Rattle.am_names.specs.declared.EndpointId.{EndpointId}
use Rattle.am_office_entries.specs.declared.Entry.{Entry}
use Rattle.am_office_entries.specs.declared.Event.{Event}
use Rattle.am_office_entries.specs.declared.Event.TheVariants as Events
use Rattle.am_office_entries.specs.declared.Outcome.{Outcome}
use Rattle.am_office_entries.specs.Entries.{touches}
use Rattle.am_model.specs.Changes.{after, changed}
use Rattle.am_model.specs.Endpoint.{Body, State, is_on_disk}
use Rattle.am_model.specs.History.{IsHistory, MayFollow, state_of}
use Rattle.am_model.specs.Layout.{EndSetting, IsLawful, Layout, has_id, opening_by}
use Rattle.am_model.proofs.Each.{each_push, state_of_push}
use Rattle.am_model.proofs.Unchanged.{paged_out_body}
use Rattle.am_model_drain.proofs.Entries.{entry_may_follow}
use Rattle.am_laws_cluster.specs.Disk.Disk.{pages_out}
use Rattle.am_laws_cluster.proofs.Still.{stays}
use Rattle.am_machine.proofs.Applied.{enabled_of}
use Rattle.am_machine.proofs.Direct.{off_disk}
use Rattle.am_lab_reasons.specs.Journal.Lines.{IsMadeAgain}
use Rattle.am_lab_picture.specs.declared.data.Standing.{Standing}
use Rattle.am_lab_drawings.specs.View.Standings.{Keeps, standing}

pub may_follow : (layout : Layout) (past : List Entry) (x : Entry) → IsMadeAgain layout past x → MayFollow layout past x
may_follow layout past x again =
    subst (λ (y : Entry). MayFollow layout past y) (sym again.made)
    (entry_may_follow layout past x.event again.in_range (enabled_of layout past x.event again.unstopped))

-- ---- at the beginning nothing is held

holds_none : (layout : Layout) (o : Option EndSetting) → (length (opening_by layout o).body.awaited ≡ 0) × (length (opening_by layout o).body.received ≡ 0)
holds_none layout None = (refl, refl)
holds_none layout (Some s) = (refl, refl)

pub keeps_opening : (layout : Layout) (kept : Standing) (e : EndpointId) → kept.records ≡ 0 → kept.received ≡ 0 → Keeps kept (state_of layout [] e)
keeps_opening layout kept e a b on = let none = holds_none layout (find (has_id e) layout.ends) in (a ∙ sym none.0, b ∙ sym none.1)

-- ---- one entry more

paged_body : (e : EndpointId) (s : State) (event : Event) (o : Outcome) → pages_out e event ≡ true → (changed e s event o).body ≡ s.body
paged_body e s (Events.PageOut node end) o h = paged_out_body s o
paged_body e s event o h = absurd (true≢false (sym h))

if_body : (t : Bool) (a b : State) → a.body ≡ b.body → (if t then a else b).body ≡ b.body
if_body true a b e = e
if_body false a b e = refl

body_by : (layout : Layout) (past : List Entry) (x : Entry) (e : EndpointId) (direct out : Bool) → layout.direct ≡ direct → pages_out e x.event ≡ out →
    IsLawful layout → IsHistory layout past → MayFollow layout past x → is_on_disk (state_of layout (past ++ x ∷ []) e).head.place ≡ true →
    (state_of layout (past ++ x ∷ []) e).body ≡ (state_of layout past e).body
body_by layout past x e true out direct is lawful history may on =
    absurd (true≢false (sym on ∙ off_disk layout direct (past ++ x ∷ []) (each_push (MayFollow layout) [] past x history may) e))
body_by layout past x e false true direct is lawful history may on =
    ap (λ (s : State). s.body) (state_of_push layout past x e (touches e x) refl)
    ∙ if_body (touches e x) (after e (state_of layout past e) x) (state_of layout past e) (paged_body e (state_of layout past e) x.event x.outcome is)
body_by layout past x e false false direct is lawful history may on = (stays layout past x direct lawful history may e is on).body

pub keeps_next : (layout : Layout) (past : List Entry) (x : Entry) (e : EndpointId) (kept : Standing) → IsLawful layout → IsHistory layout past →
    MayFollow layout past x → kept ≡ standing layout past e → Keeps kept (state_of layout (past ++ x ∷ []) e)
keeps_next layout past x e kept lawful history may is on =
    let body : (state_of layout (past ++ x ∷ []) e).body ≡ (state_of layout past e).body =
    body_by layout past x e layout.direct (pages_out e x.event) refl refl lawful history may on in (
      ap (λ (s : Standing). s.records) is ∙ ap (λ (b : Body). length b.awaited) (sym body),
      ap (λ (s : Standing). s.received) is
          ∙ ap (λ (b : Body). length b.received) (sym body),
    )
