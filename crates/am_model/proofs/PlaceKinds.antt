-- Places of endpoints: a place is of one kind alone.
use Rattle.std.proofs.Common.{◌≡◌, ℕ, true, false, refl, sym, true≢false}
use Rattle.am_office_entries.specs.declared.Place.{Place}
use Rattle.am_office_entries.specs.declared.Place.TheVariants.{Host, Disk, Frame, Direct}
use Rattle.am_model.specs.Endpoint.{is_on_host, is_on_disk, is_resident, is_in_a_frame, is_direct}
use Rattle.am_model.specs.History.{is_in_frame}

pub on_host_in_no_frame : (frame : ℕ) (place : Place) → is_on_host place ≡ true → is_in_frame frame place ≡ false
on_host_in_no_frame frame (Frame other) h = absurd (cc)
on_host_in_no_frame frame Host h = refl
on_host_in_no_frame frame Disk h = refl
on_host_in_no_frame frame Direct h = refl

pub on_disk_in_no_frame : (frame : ℕ) (place : Place) → is_on_disk place ≡ true → is_in_frame frame place ≡ false
on_disk_in_no_frame frame (Frame other) h = absurd (cc)
on_disk_in_no_frame frame Host h = refl
on_disk_in_no_frame frame Disk h = refl
on_disk_in_no_frame frame Direct h = refl

pub framed_is_resident : (place : Place) → is_in_a_frame place ≡ true → is_resident place ≡ true
framed_is_resident (Frame frame) h = refl
framed_is_resident Host h = absurd (cc)
framed_is_resident Disk h = absurd (cc)
framed_is_resident Direct h = absurd (cc)

pub resident_is_framed : (place : Place) → is_resident place ≡ true → is_direct place ≡ false → is_in_a_frame place ≡ true
resident_is_framed (Frame frame) h k = refl
resident_is_framed Direct h k = absurd (cc)
resident_is_framed Host h k = absurd (cc)
resident_is_framed Disk h k = absurd (cc)

pub framed_not_on_disk : (place : Place) → is_in_a_frame place ≡ true → is_on_disk place ≡ false
framed_not_on_disk (Frame frame) h = refl
framed_not_on_disk Host h = absurd (cc)
framed_not_on_disk Disk h = absurd (cc)
framed_not_on_disk Direct h = absurd (cc)

pub on_disk_unframed : (place : Place) → is_on_disk place ≡ true → is_in_a_frame place ≡ false
on_disk_unframed Host is = refl
on_disk_unframed Disk is = refl
on_disk_unframed (Frame frame) is = absurd (cc)
on_disk_unframed Direct is = absurd (cc)

pub on_host_unframed : (place : Place) → is_on_host place ≡ true → is_in_a_frame place ≡ false
on_host_unframed Host is = refl
on_host_unframed Disk is = refl
on_host_unframed (Frame frame) is = absurd (cc)
on_host_unframed Direct is = absurd (cc)

pub resident_not_on_disk : (p : Place) → is_resident p ≡ true → is_on_disk p ≡ false
resident_not_on_disk Host h = absurd (cc)
resident_not_on_disk Disk h = absurd (cc)
resident_not_on_disk Direct h = refl
resident_not_on_disk (Frame f) h = refl

pub on_host_not_on_disk : (p : Place) → is_on_host p ≡ true → is_on_disk p ≡ true → ⊥
on_host_not_on_disk (Frame frame) h k = true≢false (sym h)
on_host_not_on_disk Direct h k = true≢false (sym h)
on_host_not_on_disk Host h k = true≢false (sym k)
on_host_not_on_disk Disk h k = true≢false (sym h)
