-- What a walk leaves as it is. No public promise rests on it.
use Rattle.std.specs.Prelude.{◌≡◌}
use Rattle.positions.specs.Roles.{Setting}
use Rattle.gather.specs.declared.gatherer.Gatherer.{Gatherer}

-- It walks the same page, and fills the same tables.
pub record Kept (g g' : Gatherer) : Type 0 where
  pub nodes : g'.nodes ≡ g.nodes
  pub starts : g'.starts ≡ g.starts
  pub options : g'.options ≡ g.options
  pub same_tables : g'.into.ghost_name ≡ g.into.ghost_name

-- the places and the options
abbrev pub setting_of : Gatherer → Setting
setting_of g = record { places = g.starts.places.now; options = g.options }
