-- How an endpoint lies, for its driver, after what others added, and after a move.
use Rattle.std.specs.Prelude.{slice_index, slice_set}
use Rattle.std.proofs.Common.{◌≡◌, ◌≢◌, ◌⊎◌, ◌↔◌, ⊎_elim, ℕ, zero, suc, ◌+◌, ◌<◌, ◌≤◌, Bool, true, false, List, [], ◌∷◌, length, Option, Some, refl, sym, ap}
use Rattle.std.proofs.Common.{◌∙◌, subst, arith, eq-eqb, eqb-true, true≢false, get_or-set_same, get_or-set_other, if◌then◌else◌}
use Rattle.std.proofs.lemmas.Bool.{cases_eq}
use Rattle.am_names.specs.declared.EndpointId.{EndpointId}
use Rattle.am_names.specs.Names.{same_end}
use Rattle.am_office_entries.specs.declared.Event.{Event}
use Rattle.am_office_entries.specs.declared.Event.TheVariants as Events
use Rattle.am_office_entries.specs.declared.Outcome.{Outcome}
use Rattle.am_office_entries.specs.declared.Place.{Place}
use Rattle.am_office_entries.specs.declared.Place.TheVariants.{Host, Disk, Frame, Direct}
use Rattle.am_office_entries.specs.declared.Entry.{Entry}
use Rattle.am_endpoint_body.specs.declared.settings.EndSettings.{EndSettings}
use Rattle.am_swap_device.specs.Causes.{Device, Holding, device_after, held_with}
use Rattle.am_swap_image.specs.Image.{image}
use Rattle.am_model.specs.Tables.{page_ended}
use Rattle.am_model.specs.Changes.{changed, paged_in, paged_out, replay}
use Rattle.am_model.specs.Endpoint.{Body, State, is_direct, is_in_a_frame, is_on_disk, is_on_host}
use Rattle.am_model.specs.History.{is_in_frame}
use Rattle.am_model.specs.Layout.{AllAre}
use Rattle.am_model.proofs.PlaceKinds.{on_host_not_on_disk}
use Rattle.am_driver_moves.specs.Logs.{EndLog, state_in}
use Rattle.am_driver_moves.specs.Pages.{HoldsImage, IsBodyValid}
use Rattle.am_workers_laws.specs.Phases.Lying.{moves_by, rests}
use Rattle.am_workers_laws.proofs.Lying.{places_are_kept, still}
use Rattle.am_places.specs.Codes.{place_code}
use Rattle.am_places.specs.Rule.{FrameFits}
use Rattle.am_driver_moves.specs.Devices.{device_by, is_failed, outcome_by}
use Rattle.am_workers_laws.specs.Invariants.Drives.{LiesSo, frames_after}

-- ---- what others add

pub lies_on : (frames : List ℕ) (device : Device) (k : ℕ) (set : EndSettings) (s : State) (xs : List Entry) → LiesSo frames device k set s →
    rests set.id s xs ≡ true → AllAre (λ (x : Entry). moves_by x.event ≡ false) xs → LiesSo frames device k set (replay set.id s xs)
lies_on frames device k set s xs l rest none =
    record {
      fits = subst (λ (p : Place). FrameFits frames k (place_code p)) (sym place) l.fits;
      network = ap is_direct place ∙ l.network;
      disk = λ on. (let was = ap is_on_disk (sym place) ∙ on in
          subst (HoldsImage device.held set.pool set.id) (sym (places_are_kept.bodies set.id s xs rest was none)) (l.disk was));
    }
  where
    place : (replay set.id s xs).head.place ≡ s.head.place
    place = still set.id s xs none

-- ---- the claims of frames

set_same : (fs : List ℕ) (f n : ℕ) → f < length fs → slice_index (slice_set fs f n) f ≡ n
set_same fs f n low = get_or-set_same fs f n 0 low

set_else : (fs : List ℕ) (f g n : ℕ) → g ≢ f → slice_index (slice_set fs f n) g ≡ slice_index fs g
set_else fs f g n other = get_or-set_other fs f g n 0 other

pub set_length : (fs : List ℕ) (f n : ℕ) → length (slice_set fs f n) ≡ length fs
set_length [] f n = refl
set_length (x ∷ xs) zero n = refl
set_length (x ∷ xs) (suc f) n = ap suc (set_length xs f n)

-- a frame that is set to another owner, for an endpoint that doesn't lie there
fits_other : (fs : List ℕ) (f n j place : ℕ) → f < length fs → n ≢ j + 1 → place ≢ 2 + f → FrameFits fs j place → FrameFits (slice_set fs f n) j place
fits_other fs f n j place low not_mine not_there fits = ((let below = fits.0 in omega (arith, below, set_length fs f n)), others)
  where
    others : (g : ℕ) → g < length (slice_set fs f n) → (slice_index (slice_set fs f n) g ≡ j + 1) ↔ (place ≡ 2 + g)
    others g lg = ⊎_elim
        (λ (same : g ≡ f). (
          (λ is. absurd (not_mine (sym (ap (slice_index (slice_set fs f n)) same ∙ set_same fs f n low) ∙ is))),
          (λ is. absurd (not_there (is ∙ ap (λ (m : ℕ). 2 + m) same))),
        ))
        (λ (other : g ≢ f).
        (let was = fits.1 g (omega (arith, lg, set_length fs f n)) in (
          (λ is. was.0 (sym (set_else fs f g n other) ∙ is)),
          (λ is. set_else fs f g n other ∙ was.1 is),
        )))
        (cases_eq g f)

-- a frame that the endpoint claims, where it lay in none
fits_claimed : (fs : List ℕ) (f k place : ℕ) → f < length fs → ((g : ℕ) → place ≢ 2 + g) → FrameFits fs k place → FrameFits (slice_set fs f (k + 1)) k (2 + f)
fits_claimed fs f k place low nowhere fits = (omega (arith, low, set_length fs f (k + 1)), others)
  where
    others : (g : ℕ) → g < length (slice_set fs f (k + 1)) → (slice_index (slice_set fs f (k + 1)) g ≡ k + 1) ↔ (2 + f ≡ 2 + g)
    others g lg = ⊎_elim
        (λ (same : g ≡ f). (
          (λ is. ap (λ (m : ℕ). 2 + m) (sym same)),
          (λ is. ap (slice_index (slice_set fs f (k + 1))) same ∙ set_same fs f (k + 1) low),
        ))
        (λ (other : g ≢ f).
        (let was = fits.1 g (omega (arith, lg, set_length fs f (k + 1))) in (
          (λ is. absurd (nowhere g (was.0 (sym (set_else fs f g (k + 1) other) ∙ is)))),
          (λ is. absurd (other (omega (arith, is)))),
        )))
        (cases_eq g f)

-- the frame that it leaves
fits_freed : (fs : List ℕ) (f k : ℕ) → f < length fs → FrameFits fs k (2 + f) → FrameFits (slice_set fs f 0) k 0
fits_freed fs f k low fits = (omega (arith), others)
  where
    others : (g : ℕ) → g < length (slice_set fs f 0) → (slice_index (slice_set fs f 0) g ≡ k + 1) ↔ (0 ≡ 2 + g)
    others g lg = ⊎_elim
        (λ (same : g ≡ f). (
          (λ is. absurd (let e : 0 ≡ k + 1 = sym (ap (slice_index (slice_set fs f 0)) same ∙ set_same fs f 0 low) ∙ is in omega (arith, e))),
          (λ is. absurd (omega (arith, is))),
        ))
        (λ (other : g ≢ f).
        (let was = fits.1 g (omega (arith, lg, set_length fs f 0)) in (
          (λ is. absurd (let e : 2 + f ≡ 2 + g = was.0 (sym (set_else fs f g 0 other) ∙ is) in other (omega (arith, e)))),
          (λ is. absurd (omega (arith, is))),
        )))
        (cases_eq g f)

-- from a place that is no frame to another
fits_nowhere : (fs : List ℕ) (k a b : ℕ) → ((g : ℕ) → a ≢ 2 + g) → b < 2 → FrameFits fs k a → FrameFits fs k b
fits_nowhere fs k a b away low fits = (omega (arith, low), λ g lg. ((λ is. absurd (away g ((fits.1 g lg).0 is))), (λ is. absurd (omega (arith, is, low)))))

-- ---- the disk

held_there : (d : Device) (key : EndpointId) (bytes : List ℕ) → same_end key key ≡ true →
    (device_after false d (held_with d.held key bytes)).held key ≡ Some bytes
held_there d key bytes same = ap (λ (b : Bool). if b then Some bytes else d.held key) same

holds_with : (s t : Holding) (pool : Option ℕ) (e : EndpointId) (b : Body) → t e ≡ s e → HoldsImage s pool e b → HoldsImage t pool e b
holds_with s t pool e b same h = record { held = same ∙ h.held; valid = h.valid }

held_still : (failed : Bool) (d : Device) (f : EndpointId) → (device_after failed d d.held).held f ≡ d.held f
held_still true d f = refl
held_still false d f = refl

-- what is held of another endpoint
pub held_beside : (failed : Bool) (d : Device) (e : EndLog) (event : Event) (f : EndpointId) → same_end f e.settings.id ≡ false →
    (device_by failed d e event).held f ≡ d.held f
held_beside true d e (Events.PageOut node end) f other = refl
held_beside false d e (Events.PageOut node end) f other =
    ap (λ (b : Bool). if b then Some (image (state_in e).body) else d.held f) other
held_beside failed d e (Events.PageIn node end) f other = held_still failed d f
held_beside failed d e event f other = refl

-- ---- places

pub host_nowhere : (place : Place) → is_on_host place ≡ true → (g : ℕ) → place_code place ≢ 2 + g
host_nowhere (Frame frame) h g = absurd (cc)
host_nowhere Host h g = λ is. absurd (omega (arith, is))
host_nowhere Disk h g = absurd (cc)
host_nowhere Direct h g = absurd (cc)

disk_nowhere : (place : Place) → is_on_disk place ≡ true → (g : ℕ) → place_code place ≢ 2 + g
disk_nowhere (Frame frame) h g = absurd (cc)
disk_nowhere Host h g = absurd (cc)
disk_nowhere Disk h g = λ is. absurd (omega (arith, is))
disk_nowhere Direct h g = absurd (cc)

-- a frame in which an endpoint lies is one of those that there are
pub low_of : (fs : List ℕ) (k f : ℕ) (place : Place) → FrameFits fs k (place_code place) → is_in_frame f place ≡ true → f < length fs
low_of fs k f (Frame g) fits is = let same : f ≡ g = eqb-true f g is in let below = fits.0 in omega (arith, same, below)
low_of fs k f Host fits is = absurd (true≢false (sym is))
low_of fs k f Disk fits is = absurd (true≢false (sym is))
low_of fs k f Direct fits is = absurd (true≢false (sym is))

not_in_frame : (frame : ℕ) (place : Place) → is_in_frame frame place ≡ false → is_direct place ≡ false → place_code place ≢ 2 + frame
not_in_frame frame (Frame other) h network is = absurd (let same : frame ≡ other = omega (arith, is) in true≢false (sym (eq-eqb frame other same) ∙ h))
not_in_frame frame Host h network is = absurd (omega (arith, is))
not_in_frame frame Disk h network is = absurd (omega (arith, is))
not_in_frame frame Direct h network is = absurd (cc)

-- ---- a move

-- how the endpoint lies that an event moves
abbrev pub MaySo : List ℕ → State → Event → Type 0
MaySo frames s (Events.Drain node end) = is_in_a_frame s.head.place ≡ true
MaySo frames s (Events.Unload node end) = is_in_a_frame s.head.place ≡ true
MaySo frames s (Events.Load node end frame) = (is_on_host s.head.place ≡ true) × (frame < length frames)
MaySo frames s (Events.PageOut node end) = is_on_host s.head.place ≡ true
MaySo frames s (Events.PageIn node end) = is_on_disk s.head.place ≡ true
MaySo frames s event = ⊥

-- another endpoint doesn't lie in the frame that it loads into
abbrev pub LeavesFree : State → Event → Type 0
LeavesFree s (Events.Load node end frame) = is_in_frame frame s.head.place ≡ false
LeavesFree s event = Unit {0}

pub frames_long : (k : ℕ) (event : Event) (place : Place) (frames : List ℕ) → length (frames_after k event place frames) ≡ length frames
frames_long k (Events.Load node end frame) place frames = set_length frames frame (k + 1)
frames_long k (Events.Unload node end) (Frame frame) frames = set_length frames frame 0
frames_long k event place frames = refl

owned_set : (fs : List ℕ) (f n m g : ℕ) → f < length fs → n ≤ m → slice_index fs g ≤ m → slice_index (slice_set fs f n) g ≤ m
owned_set fs f n m g low few was =
    ⊎_elim
    (λ (same : g ≡ f). (let is : slice_index (slice_set fs f n) g ≡ n = ap (slice_index (slice_set fs f n)) same
    ∙ set_same fs f n low in omega (arith, is, few)))
    (λ (other : g ≢ f). (let is : slice_index (slice_set fs f n) g ≡ slice_index fs g = set_else fs f g n other in omega (arith, is, was)))
    (cases_eq g f)

module _ (frames : List ℕ) (device : Device) (k : ℕ) (set : EndSettings) (log : List Entry) where
  abbrev one : EndLog
  one = record { settings = set; log = log }

  abbrev found : State
  found = state_in one

  in_low : (f : ℕ) → LiesSo frames device k set found → found.head.place ≡ Frame f → f < length frames
  in_low f l is = low_of frames k f found.head.place l.fits (ap (is_in_frame f) is ∙ eq-eqb f f refl)

  pub owned_after : (event : Event) (n g : ℕ) → LiesSo frames device k set found → MaySo frames found event → k < n → slice_index frames g ≤ n →
      slice_index (frames_after k event found.head.place frames) g ≤ n
  owned_after (Events.Load node end frame) n g l may less was = owned_set frames frame (k + 1) n g may.1 (omega (arith, less)) was
  owned_after (Events.Unload node end) n g l may less was = by_place found.head.place refl may
    where
      by_place : (p : Place) → found.head.place ≡ p → is_in_a_frame p ≡ true →
          slice_index (frames_after k (Events.Unload node end) found.head.place frames) g ≤ n
      by_place (Frame f) is h = subst (λ (q : Place). slice_index (frames_after k (Events.Unload node end) q frames) g ≤ n) (sym is)
          (owned_set frames f 0 n g (in_low f l is) (omega arith) was)
      by_place Host is h = absurd (cc)
      by_place Disk is h = absurd (cc)
      by_place Direct is h = absurd (cc)
  owned_after event n g l may less was = was

  -- the endpoint that is moved
  pub lies_moved : (event : Event) (o : Outcome) → LiesSo frames device k set found → MaySo frames found event →
      o ≡ outcome_by (is_failed o) event → IsBodyValid one event →
      LiesSo (frames_after k event found.head.place frames) (device_by (is_failed o) device one event) k set (changed set.id found event o)
  lies_moved (Events.Drain node end) o l may is valid = record { fits = l.fits; network = l.network; disk = l.disk }
  lies_moved (Events.Unload node end) o l may is valid = by_place found.head.place refl may
    where
      by_place : (p : Place) → found.head.place ≡ p → is_in_a_frame p ≡ true →
          LiesSo (frames_after k (Events.Unload node end) found.head.place frames) device k set (changed set.id found (Events.Unload node end) o)
      by_place (Frame f) at h =
          subst (λ (q : Place). LiesSo (frames_after k (Events.Unload node end) q frames) device k set (changed set.id found (Events.Unload node end) o))
          (sym at)
          (record {
            fits = fits_freed frames f k (in_low f l at) (subst (λ (q : Place). FrameFits frames k (place_code q)) at l.fits);
            network = refl;
            disk = λ on. absurd (true≢false (sym on));
          })
      by_place Host at h = absurd (cc)
      by_place Disk at h = absurd (cc)
      by_place Direct at h = absurd (cc)
  lies_moved (Events.Load node end frame) o l may is valid =
      record {
        fits = fits_claimed frames frame k (place_code found.head.place) may.1 (host_nowhere found.head.place may.0) l.fits;
        network = refl;
        disk = λ on. absurd (true≢false (sym on));
      }
  lies_moved (Events.PageOut node end) o l may is valid = by_test (is_failed o) is
    where
      by_test : (b : Bool) → o ≡ page_ended b → LiesSo frames (device_by b device one (Events.PageOut node end)) k set (paged_out found o)
      by_test true failed =
          subst (λ (v : Outcome). LiesSo frames (device_by true device one (Events.PageOut node end)) k set (paged_out found v)) (sym failed)
          (record { fits = l.fits; network = l.network; disk = λ on. absurd (on_host_not_on_disk found.head.place may on) })
      by_test false done =
          subst (λ (v : Outcome). LiesSo frames (device_by false device one (Events.PageOut node end)) k set (paged_out found v)) (sym done)
          (record {
            fits = fits_nowhere frames k (place_code found.head.place) 1 (host_nowhere found.head.place may) (omega (arith)) l.fits;
            network = refl;
            disk = λ on. record { held = held_there device set.id (image found.body) (eq-eqb set.id.0 set.id.0 refl); valid = valid };
          })
  lies_moved (Events.PageIn node end) o l may is valid = by_test (is_failed o) is
    where
      by_test : (b : Bool) → o ≡ page_ended b → LiesSo frames (device_by b device one (Events.PageIn node end)) k set (paged_in found o)
      by_test true failed =
          subst (λ (v : Outcome). LiesSo frames (device_by true device one (Events.PageIn node end)) k set (paged_in found v)) (sym failed)
          (record { fits = l.fits; network = l.network; disk = l.disk })
      by_test false done =
          subst (λ (v : Outcome). LiesSo frames (device_by false device one (Events.PageIn node end)) k set (paged_in found v)) (sym done)
          (record {
            fits = fits_nowhere frames k (place_code found.head.place) 0 (disk_nowhere found.head.place may) (omega (arith)) l.fits;
            network = refl;
            disk = λ on. absurd (true≢false (sym on));
          })
  lies_moved event o l may is valid = absurd may

  -- and another
  module _ (j : ℕ) (other : EndSettings) (s : State) where
    fits_beside : (event : Event) → j ≢ k → LiesSo frames device k set found → LiesSo frames device j other s → MaySo frames found event → LeavesFree s event →
        FrameFits (frames_after k event found.head.place frames) j (place_code s.head.place)
    fits_beside (Events.Load node end frame) apart l m may free =
        fits_other frames frame (k + 1) j (place_code s.head.place) may.1 (λ e. apart (omega (arith, e))) (not_in_frame frame s.head.place free m.network)
        m.fits
    fits_beside (Events.Unload node end) apart l m may free = by_place found.head.place refl may
      where
        by_place : (p : Place) → found.head.place ≡ p → is_in_a_frame p ≡ true →
            FrameFits (frames_after k (Events.Unload node end) found.head.place frames) j (place_code s.head.place)
        by_place (Frame f) at h =
            let low = in_low f l at in
            let mine : slice_index frames f ≡ k + 1 = (l.fits.1 f low).1 (ap place_code at) in
            subst (λ (q : Place). FrameFits (frames_after k (Events.Unload node end) q frames) j (place_code s.head.place)) (sym at)
            (fits_other frames f 0 j (place_code s.head.place) low (λ e. absurd (omega (arith, e)))
            (λ e. apart (let its : slice_index frames f ≡ j + 1 = (m.fits.1 f low).1 e in omega (arith, its, mine))) m.fits)
        by_place Host at h = absurd (cc)
        by_place Disk at h = absurd (cc)
        by_place Direct at h = absurd (cc)
    fits_beside event apart l m may free = m.fits

    pub lies_beside : (event : Event) (failed : Bool) → j ≢ k → same_end other.id set.id ≡ false → LiesSo frames device k set found →
        LiesSo frames device j other s →
        MaySo frames found event → LeavesFree s event → LiesSo (frames_after k event found.head.place frames) (device_by failed device one event) j other s
    lies_beside event failed apart ids l m may free =
        record {
          fits = fits_beside event apart l m may free;
          network = m.network;
          disk = λ on. holds_with device.held (device_by failed device one event).held other.pool other.id s.body
              (held_beside failed device one event other.id ids) (m.disk on);
        }
