-- A state machine before a run.
use Rattle.std.specs.Prelude.{◌≡◌, ℕ, false, [], None}
use Rattle.replica_api.specs.Replica.{Meaning, ReplicaView, Survives}

-- a replica that has applied nothing, of the node with this number
pub record IsFreshReplica (meaning : Meaning) (node : ℕ) (v : ReplicaView) : Type 0 where
  pub empty : meaning.state [] v.contents
  pub start : v.cursor ≡ 0
  pub none_asked : v.asked ≡ None
  pub settled : v.stands ≡ false
  pub nothing_waits : v.kept ≡ []
  pub survives : Survives meaning.spells v
  pub origin_is : v.origin ≡ node
  pub none_told : (v.stops ≡ 0) × (v.reopenings ≡ 0)
