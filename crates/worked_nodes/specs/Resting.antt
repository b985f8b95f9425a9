-- Two nodes over one loglet, of which one has the log at a time.
use Rattle.std.specs.Prelude.{◌≡◌, ◌≤◌, ℕ, List, [], ◌∷◌, length, min, None}
use Rattle.std.specs.FinMap as map
use Rattle.delos_types.specs.declared.entry.Entry.{Entry}
use Rattle.engine_api.specs.Acted.{unpack_all}
use Rattle.engine_api.specs.Members.{least_position}
use Rattle.legal_journal.specs.Law.{Law}
use Rattle.legal_journal.specs.declared.events.Event.{Event}
use Rattle.legal_journal.specs.Journal.{state_of}
use Rattle.virtual_log.specs.Holding.{Holds}
use Rattle.virtual_log.specs.Log.{GoesBy}
use Rattle.virtual_log.specs.Log as virtual_log
use Rattle.local_store.specs.View as store
use Rattle.local_replica.specs.Shown.{local_meaning}
use Rattle.base_engine.specs.Node.{NodeView, NodeOk, RestedView, awake}

-- everybody may append anything
abbrev pub anything : ℕ → Entry → Type 0
anything who e = Unit {0}

-- up to where a log of two nodes may be trimmed: to the least position of a member, in the state that these entries lead
-- to, and no further than they go
abbrev pub least_of_two : List Entry → ℕ → Type 0
least_of_two entries n = n ≤ min (length entries) (least_position 2 (unpack_all 0 entries))

-- one loglet of one server
abbrev pub one_loglet : List ℕ
one_loglet = 1 ∷ []

-- the law of two nodes
abbrev pub two_nodes : Law
two_nodes = record { may = anything; floor = least_of_two; shelf = one_loglet }

-- what a node without its log has, and what it knows of its log, holds by this journal
pub record Rests (who : ℕ) (seen : List Event) (node : RestedView) (log : virtual_log.RestedView) : Type 0 where
  pub ok : NodeOk two_nodes Holds local_meaning (awake node who seen log.known)
  pub goes_by : GoesBy (state_of seen) log.version log.chain log.known
  pub loglets : log.shelf_len ≡ 1
  pub nodes : node.nodes ≡ 2

-- the node that has the log goes by its number, and the other one rests
pub record AreTwo (number : ℕ) (node : NodeView) (other : ℕ) (rested : RestedView) (log : virtual_log.RestedView) : Type 0 where
  pub who : node.who ≡ number
  pub nodes : node.nodes ≡ 2
  pub rests : Rests other node.seen rested log

-- a store to which nothing was committed
pub record IsNew (v : store.View) : Type 0 where
  pub start : v.cursor ≡ 0
  pub empty : v.contents ≡ map.empty
  pub none_asked : v.asked ≡ None
  pub survives : store.Survives v
