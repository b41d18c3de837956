-- What a search for bounds stands on.
use Rattle.osek_base.specs.Proper.{IsProper}
use Rattle.osek_base.specs.System.{System}
use Rattle.law_future.specs.Need.{Suffices}
use Rattle.search_needs.specs.declared.table.Needs.{Needs}
use Rattle.search_needs.specs.Table.{need_of}
use Rattle.search_keys.specs.InRange.{NeedsOwnWords}

-- a system, and what is needed of it
pub record Ground : Type 0 where
  pub system : System
  pub needs : Needs

-- a system that a search can go through: its need suffices
pub record IsGround (g : Ground) : Type 0 where
  pub proper : IsProper g.system
  pub suffices : Suffices g.system (need_of g.needs)
  pub own : NeedsOwnWords g.system (need_of g.needs)
