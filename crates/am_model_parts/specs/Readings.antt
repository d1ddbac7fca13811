-- The readings of a list of entries that parts keep beside their log: which entries they read, and what one entry more
-- makes of them.
use Rattle.std.specs.Prelude.{◌≡◌, ℕ, Bool, true, false, ◌+◌, ◌||◌, List, [], ◌∷◌, ◌++◌, filter, if◌then◌else◌}
use Rattle.am_names.specs.declared.EndpointId.{EndpointId}
use Rattle.am_names.specs.declared.NodeId.{NodeId}
use Rattle.am_office_entries.specs.declared.Entry.{Entry}
use Rattle.am_office_entries.specs.Entries.{touches, touches_node}
use Rattle.am_model.specs.Changes.{after}
use Rattle.am_model.specs.Layout.{Layout}
use Rattle.am_model.specs.Channels.{Channel, sequence, bound_message, attempt, mark, emitted, binds, frees, sends, decides, sent_message, attempt_in, mark_in}
use Rattle.am_model.specs.History.{state_of, channel_to, free_from, is_page_call, page_calls}
use Rattle.am_model_parts.specs.Driver.{changes_frame, is_load_into, lies_in}
use Rattle.am_model.specs.Parts.{is_by_driver}

-- the entries that touch the node's interface
abbrev pub of_interface : NodeId → List Entry → List Entry
of_interface node past = filter (touches_node node) past

-- the entries that the node's driver makes
abbrev pub of_driver : NodeId → List Entry → List Entry
of_driver node past = filter (is_by_driver node) past

-- the ends of a node's channels, its free channels and the packets that it emitted are read off the entries of its own
-- interface, and the number of its page calls off those of its own driver
pub record ReadsItsOwn (node : NodeId) (past : List Entry) : Type 0 where
  pub sequences : (peer : NodeId) (k : ℕ) → sequence (channel_to node peer k) (of_interface node past) ≡ sequence (channel_to node peer k) past
  pub messages : (peer : NodeId) (k : ℕ) → bound_message (channel_to node peer k) (of_interface node past) ≡ bound_message (channel_to node peer k) past
  pub attempts : (peer : NodeId) (k : ℕ) → attempt (channel_to node peer k) (of_interface node past) ≡ attempt (channel_to node peer k) past
  pub marks : (peer : NodeId) (k : ℕ) → mark (channel_to node peer k) (of_interface node past) ≡ mark (channel_to node peer k) past
  pub packets : (peer : NodeId) → emitted node peer (of_interface node past) ≡ emitted node peer past
  pub channels : (peer : NodeId) (k more : ℕ) → free_from node peer (of_interface node past) k more ≡ free_from node peer past k more
  pub pages : page_calls node (of_driver node past) ≡ page_calls node past

-- what one entry more makes of each reading
pub record ReadingsGrow (log : List Entry) (x : Entry) : Type 0 where
  pub sequences : (c : Channel) → sequence c (log ++ x ∷ []) ≡ sequence c log + (if binds c x.event x.outcome then 1 else 0)
  pub messages : (c : Channel) → bound_message c (log ++ x ∷ []) ≡ (if binds c x.event x.outcome || frees c x.event x.outcome then sent_message x.outcome else bound_message c log)
  pub attempts : (c : Channel) → attempt c (log ++ x ∷ []) ≡ (if sends c x.event x.outcome then attempt_in x.outcome else attempt c log)
  pub marks : (c : Channel) → mark c (log ++ x ∷ []) ≡ (if decides c x.event x.outcome then mark_in x.outcome else mark c log)
  pub packets : (node peer : NodeId) → emitted node peer (log ++ x ∷ []) ≡ emitted node peer log ++ emitted node peer (x ∷ [])
  pub frames : (frame : ℕ) (e : EndpointId) → lies_in (log ++ x ∷ []) frame e ≡ (if changes_frame e x.event then is_load_into frame x.event else lies_in log frame e)
  pub pages : (node : NodeId) → page_calls node (log ++ x ∷ []) ≡ page_calls node log + (if is_page_call node x.event then 1 else 0)
  pub states : (layout : Layout) (e : EndpointId) → state_of layout (log ++ x ∷ []) e ≡ (if touches e x then after e (state_of layout log e) x else state_of layout log e)

-- a log after an entry, which stands at its end where it belongs into it
abbrev pub with_entry : Bool → Entry → List Entry → List Entry
with_entry true x log = log ++ x ∷ []
with_entry false x log = log
