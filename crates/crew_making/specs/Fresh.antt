-- What a node is before a run.
use Rattle.std.specs.Prelude.{◌≡◌, ℕ, ◌+◌, if◌then◌else◌, List, [], ◌∷◌, length, slice_get, Some, None}
use Rattle.chain_map.specs.Chain.{first_chain}
use Rattle.legal_journal.specs.Law.{Law}
use Rattle.virtual_log.specs.Log as log
use Rattle.replica_api.specs.Replica.{Meaning, ReplicaView}
use Rattle.replica_api.specs.Fresh.{IsFreshReplica}
use Rattle.turn_scopes.specs.Seats.{SeatView, SeatOk}
use Rattle.node_lines.specs.declared.desk.Desk.{Desk}

-- a log that knows nothing but the first chain, over so many loglets
pub record IsFreshLog (cells : ℕ) (l : log.RestedView) : Type 0 where
  pub none_known : l.known ≡ 0
  pub version_is : l.version ≡ 1
  pub chain_is : l.chain ≡ first_chain
  pub shelf_is : l.shelf_len ≡ cells

-- a session's desk at which nothing was asked
pub record IsFreshDesk (s : ℕ) (d : Desk) : Type 0 where
  pub session_is : d.session ≡ s
  pub none_asked : d.asked ≡ 0
  pub none_sent : d.sent ≡ 0
  pub no_answers : d.answers.items ≡ []
  pub goes_on : d.stopped ≡ None
  pub not_ended : d.answered ≡ None

-- the first desks, by the numbers of their sessions
pub record AreDesksUpTo (count : ℕ) (desks : List Desk) : Type 0 where
  pub size : length desks ≡ count
  pub each : (s : ℕ) (d : Desk) → slice_get desks s ≡ Some d → IsFreshDesk s d

-- a desk for each session
abbrev pub AreFreshDesks : List Desk → Type 0
AreFreshDesks desks = AreDesksUpTo 64 desks

-- a replica that has applied nothing; it is down just where a fault of its disk was counted: one
pub record IsNewReplica (meaning : Meaning) (node : ℕ) (v : ReplicaView) : Type 0 where
  pub fresh : IsFreshReplica meaning node v
  pub counted : v.faults ≡ (if v.down then 1 else 0)

-- replicas of the nodes from this number on
abbrev pub AreFreshFrom : Meaning → ℕ → List ReplicaView → Type 0
AreFreshFrom meaning n [] = Unit {0}
AreFreshFrom meaning n (v ∷ vs) = IsNewReplica meaning n v × AreFreshFrom meaning (n + 1) vs

-- one of so many nodes that waits for its first turn: it has sent nothing, and may take the fabric before any event
pub record IsNewSeat (law : Law) (meaning : Meaning) (nodes who : ℕ) (seat : SeatView) : Type 0 where
  pub who_is : seat.who ≡ who
  pub nodes_is : seat.node.nodes ≡ nodes
  pub replica : IsNewReplica meaning who seat.node.replica
  pub outbox : seat.node.outbox ≡ record { entries = []; given = []; unsettled = None }
  pub ok : SeatOk law meaning [] seat

-- a node, and the desks of the sessions
pub record IsNewWorker (law : Law) (meaning : Meaning) (nodes who : ℕ) (seat : SeatView) (desks : List Desk) : Type 0 where
  pub waits : IsNewSeat law meaning nodes who seat
  pub desks_are : AreFreshDesks desks

-- all of so many nodes, numbered from 1, each by its own scope
abbrev pub AreNewWorkers : {A : Type 0} → (ℕ → Law) → Meaning → ℕ → (A → SeatView) → (A → List Desk) → List A → Type 0
AreNewWorkers {A} law meaning nodes seat desks workers = (j : ℕ) (w : A) → slice_get workers j ≡ Some w → IsNewWorker (law (j + 1)) meaning nodes (j + 1) (seat w) (desks w)
