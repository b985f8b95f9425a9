-- What is read of a yard once a run has ended.
use Rattle.std.specs.Prelude.{ℕ, List}
use Rattle.loglet_api.specs.View.{LogletView}
use Rattle.register_api.specs.View.{RegisterView}

-- the loglets of its shelf, the register of their chain, and the faults of each node's disk
pub record Shown : Type 0 where
  pub cells : List LogletView
  pub register : RegisterView
  pub disks : List ℕ
