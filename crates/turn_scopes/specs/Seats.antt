-- A node that waits for the fabric.
use Rattle.std.specs.Prelude.{◌≡◌, ℕ, List, length}
use Rattle.legal_journal.specs.Law.{Law}
use Rattle.legal_journal.specs.declared.events.Event.{Event}
use Rattle.legal_journal.specs.Journal.{state_of}
use Rattle.virtual_log.specs.Log as log
use Rattle.virtual_log.specs.Log.{GoesBy}
use Rattle.virtual_log.specs.Holding.{Holds}
use Rattle.replica_api.specs.Replica.{Meaning}
use Rattle.base_engine.specs.Node as node
use Rattle.base_engine.specs.Node.{NodeView, NodeOk, awake}

-- by whom its events are, and what is left of its log and of it
pub record SeatView : Type 0 where
  pub who : ℕ
  pub log : log.RestedView
  pub node : node.RestedView

-- the node that it is, once it has the fabric with this journal
abbrev pub node_of : SeatView → List Event → NodeView
node_of s journal = awake s.node s.who journal s.log.known

-- it can take the fabric with this journal
pub record SeatOk (law : Law) (meaning : Meaning) (journal : List Event) (s : SeatView) : Type 0 where
  pub shelf_is : s.log.shelf_len ≡ length law.shelf
  pub goes_by : GoesBy (state_of journal) s.log.version s.log.chain s.log.known
  pub node : NodeOk law Holds meaning (node_of s journal)
