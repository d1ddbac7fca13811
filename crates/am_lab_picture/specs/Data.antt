-- A picture and its lanes, with lists.
use Rattle.std.specs.Prelude.{ℕ, List}
use Rattle.am_names.specs.declared.EndpointId.{EndpointId}
use Rattle.am_names.specs.declared.NodeId.{NodeId}
use Rattle.am_names.specs.declared.Tag.{Tag}
use Rattle.am_scenario_types.specs.declared.parts.Network.{Network}
use Rattle.am_lab_picture.specs.declared.data.Arrow.{Arrow}
use Rattle.am_lab_picture.specs.declared.data.Cross.{Cross}
use Rattle.am_lab_picture.specs.declared.data.PlacedRow.{PlacedRow}
use Rattle.am_lab_picture.specs.declared.data.Residency.{Residency}
use Rattle.am_lab_picture.specs.declared.data.Span.{Span}

pub record LaneLists : Type 0 where
  pub id : EndpointId
  pub node : NodeId
  pub tag : Tag
  pub residency : List (Span Residency)
  pub records : List (Span ℕ)
  pub received : List (Span ℕ)

pub record PictureLists : Type 0 where
  pub network : Network
  pub nodes : ℕ
  pub rows : List PlacedRow
  pub arrows : List Arrow
  pub crosses : List Cross
  pub lanes : List LaneLists
  pub summary : List ℕ
