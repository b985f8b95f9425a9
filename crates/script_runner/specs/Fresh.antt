-- A yard as it is before a run, and what is read of one.
use Rattle.std.specs.Prelude.{◌≡◌, ℕ, List, length, map}
use Rattle.std.specs.List.{AllByRecursion}
use Rattle.loglet_api.specs.View.{LogletView, IsFresh}
use Rattle.register_api.specs.View as register
use Rattle.disk_model.specs.Disk.{DiskView}
use Rattle.delos_types.specs.declared.item.Item.{Item}
use Rattle.fitting_run.specs.Fresh.{IsFreshNode}
use Rattle.script_words.specs.declared.plan.Plan.{Plan}
use Rattle.fitting_run.specs.Yard.{Shown}

-- what is read of loglets, a register and what nodes are made of, each seen by a function of its own
abbrev pub shown : {L R K : Type 0} → (L → LogletView) → (R → register.RegisterView) → (K → ℕ) → List L → R → List K → Shown
shown view register faults cells r parts = record { cells = map view cells; register = register r; disks = map faults parts }

-- nothing was begun on any of its loglets
abbrev pub AreFresh : List LogletView → Type 0
AreFresh cells = AllByRecursion IsFresh cells

-- each node's engines are the five and hold nothing, and its disk is empty
abbrev pub AreFreshNodes : {K : Type 0} → (K → List ℕ) → (K → List Item) → (K → DiskView) → List K → Type 0
AreFreshNodes kinds waiting disk parts = AllByRecursion (λ k. IsFreshNode (kinds k) (waiting k) (disk k)) parts

-- as many loglets and nodes as the plan says; nothing was begun or written, and nothing failed
pub record IsFreshFor {K : Type 0} (kinds : K → List ℕ) (waiting : K → List Item) (disk : K → DiskView) (plan : Plan) (cells : List LogletView) (r : register.RegisterView) (parts : List K) : Type 0 where
  pub as_many : length cells ≡ length plan.shelf
  pub nodes : length parts ≡ plan.nodes
  pub fresh : AllByRecursion IsFresh cells
  pub register_is : register.IsFresh r
  pub parts_are : AllByRecursion (λ k. IsFreshNode (kinds k) (waiting k) (disk k)) parts
