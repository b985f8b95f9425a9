-- What a node is made of before a run.
use Rattle.std.specs.Prelude.{◌≡◌, ℕ, List, [], ◌∷◌}
use Rattle.delos_types.specs.declared.item.Item.{Item}
use Rattle.disk_model.specs.Disk.{DiskView, reads, IsSynced}

-- the kinds of a node's engines: 1 batch, 2 session, 3 view, 4 trim, 5 table
abbrev pub five_kinds : List ℕ
five_kinds = 1 ∷ 2 ∷ 3 ∷ 4 ∷ 5 ∷ []

-- engines of these kinds in which these items wait, and a disk: nothing waits in the engines, which are of kinds 1 to 5, and the
-- disk is empty, with nothing pending on it and no fault counted
pub record IsFreshNode (kinds : List ℕ) (waiting : List Item) (disk : DiskView) : Type 0 where
  pub kinds_are : kinds ≡ five_kinds
  pub nothing_waits : waiting ≡ []
  pub empty : reads disk ≡ []
  pub synced : IsSynced disk
  pub none_counted : disk.faults ≡ 0
