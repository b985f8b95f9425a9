-- What stops did to the disks of all nodes.
use Rattle.std.specs.Prelude.{◌≡◌, ℕ, ◌+◌, ◌<◌, List, [], length, slice_get, Some}
use Rattle.replica_api.specs.Replica.{ReplicaView}
use Rattle.script_text.specs.declared.faults.FaultLine.{FaultLine}
use Rattle.node_course.specs.FaultLines.{ArmedBy, stops_before}

-- Each node's disk was armed by its stops, one after another, and by nothing else. Nodes are numbered from 1.
pub record AreArmed {A : Type 0} (stops : ℕ → List ℕ) (shows : A → ReplicaView) (old new : List A) : Type 0 where
  pub size : length new ≡ length old
  pub each : (j : ℕ) (was now : A) → slice_get old j ≡ Some was → slice_get new j ≡ Some now → ArmedBy (stops (j + 1)) (shows was) (shows now)

-- no disk was armed
abbrev pub NoneArmed : {A : Type 0} → (A → ReplicaView) → List A → List A → Type 0
NoneArmed {A} shows old new = AreArmed (λ n. []) shows old new

-- so the stops of all fault lines armed them, phase by phase
pub record ArmedByStops {A : Type 0} (faults : List FaultLine) (shows : A → ReplicaView) (old new : List A) : Type 0 where
  pub phases : ℕ
  pub all : (i : ℕ) (f : FaultLine) → slice_get faults i ≡ Some f → f.phase < phases
  pub armed : AreArmed (λ n. stops_before n faults phases) shows old new
