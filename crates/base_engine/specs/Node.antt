-- A node, as its callers see it.
use Rattle.std.specs.Prelude.{◌≡◌, ◌≢◌, ℕ, ◌≤◌, List, [], length, All}
use Rattle.delos_types.specs.declared.entry.Entry.{Entry}
use Rattle.engine_api.specs.Packing.{packed}
use Rattle.legal_journal.specs.Law.{Law}
use Rattle.legal_journal.specs.declared.events.Event.{Event}
use Rattle.legal_journal.specs.Journal.{IsLegal}
use Rattle.virtual_log.specs.Turning.{Later}
use Rattle.replica_api.specs.Replica.{Meaning, ReplicaView}
use Rattle.base_engine.specs.Following.{Follows, IsKnown}
use Rattle.base_engine.specs.Settling.{OutboxView, MaySend}

-- by whom its events are, how many nodes there are, the journal as far as it was seen, how much of the log it knows, its
-- replica, and what it has sent down and not settled
pub record NodeView : Type 0 where
  pub who : ℕ
  pub nodes : ℕ
  pub seen : List Event
  pub known : ℕ
  pub replica : ReplicaView
  pub outbox : OutboxView

-- what is left of it without its log
pub record RestedView : Type 0 where
  pub nodes : ℕ
  pub replica : ReplicaView
  pub outbox : OutboxView

abbrev pub awake : RestedView → ℕ → List Event → ℕ → NodeView
awake r who seen known = record { who = who; nodes = r.nodes; seen = seen; known = known; replica = r.replica; outbox = r.outbox }

pub record NodeOk (law : Law) (holds : List Event → ℕ → Entry → Type 0) (meaning : Meaning) (n : NodeView) : Type 0 where
  pub eight : n.nodes ≤ 8
  pub legal : IsLegal law n.seen
  pub follows : Follows holds meaning n.seen n.replica
  pub bounded : IsKnown n.known n.replica
  pub own : All (λ e. MaySend law.may n.who e) n.outbox.entries
  pub few : length n.outbox.entries ≤ 4
  pub waiting : n.replica.kept ≢ [] → law.may n.who (packed n.replica.origin n.replica.kept)

-- What each call keeps: who it is, what was seen, and that neither the cursor nor the count of faults falls.
pub record Keeps (law : Law) (old new : NodeView) : Type 0 where
  pub who : new.who ≡ old.who
  pub nodes : new.nodes ≡ old.nodes
  pub origin : new.replica.origin ≡ old.replica.origin
  pub later : Later law old.seen new.seen
  pub forward : old.replica.cursor ≤ new.replica.cursor
  pub counts : old.replica.faults ≤ new.replica.faults
