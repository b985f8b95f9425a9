-- What number 0, which is no node, does as a phase begins.
use Rattle.std.specs.Prelude.{◌≡◌, ◌⊎◌, ℕ, ◌≤◌, List, [], ◌∷◌, ◌++◌, length, map, slice_get, Option, Some, None}
use Rattle.std.specs.List.{AllByRecursion}
use Rattle.legal_journal.specs.Law.{Law}
use Rattle.legal_journal.specs.declared.events.FabricCall.{FabricCall}
use Rattle.legal_journal.specs.declared.events.Event.{Event}
use Rattle.legal_journal.specs.Journal.{IsLegal, Exists}
use Rattle.script_text.specs.declared.faults.FaultLine.{FaultLine}
use Rattle.turn_scopes.specs.Alone.{AreOwn}
use Rattle.node_course.specs.FaultLines.{AreOutside, NamesThere}

abbrev pub as_list : {A : Type 0} → Option A → List A
as_list None = []
as_list (Some x) = x ∷ []

-- the fault lines name servers and nodes that are there, of so many nodes
pub record NameParts (shelf : List ℕ) (faults : List FaultLine) : Type 0 where
  pub nodes : ℕ
  pub few : length faults ≤ 20000
  pub there : (i : ℕ) (f : FaultLine) → slice_get faults i ≡ Some f → NamesThere shelf nodes f.asks

-- the cells and servers that these calls name are there
abbrev pub CanBegin : List ℕ → List FabricCall → Type 0
CanBegin shelf calls = AllByRecursion (Exists shelf) calls

-- number 0 made these calls, and nobody made others
pub record MakesCalls (calls : List FabricCall) (old new : List Event) : Type 0 where
  pub more : List Event
  pub seen : new ≡ old ++ more
  pub own : AreOwn 0 more
  pub calls_are : map (λ e. e.call) more ≡ calls

-- whatever number 0 made since, it broke or mended something, and nobody made others
pub record GoesOutside (law : Law) (old new : List Event) : Type 0 where
  pub more : List Event
  pub seen : new ≡ old ++ more
  pub outside : AreOutside more
  pub legal : (more ≡ []) ⊎ IsLegal law new
