-- What is known of a node's report of how much of the log is clean.
use Rattle.std.specs.Prelude.{◌≡◌, ℕ, ◌≤◌, List, length, map, Contains}
use Rattle.delos_types.specs.declared.entry.Entry.{Entry}
use Rattle.legal_journal.specs.declared.events.Event.{Event}
use Rattle.virtual_log.specs.Holding.{Holds}
use Rattle.engine_api.specs.declared.content.Content.{Content}
use Rattle.engine_api.specs.declared.content.Content.TheVariants as content
use Rattle.engine_api.specs.Items.{unpack}
use Rattle.engine_api.specs.Members.{clean_position}
use Rattle.base_engine.specs.Reading.{IsFront}
use Rattle.node_lines.specs.declared.lines.Looked.{Looked}
use Rattle.node_lines.specs.declared.lines.Looked.TheVariants as looked

-- an entry that says this stands in the log
pub record StandsThere (journal : List Event) (c : Content) : Type 0 where
  pub at : ℕ
  pub entry : Entry
  pub held : Holds journal at entry
  pub says : Contains (map (λ p. p.content) (unpack 0 entry)) c

-- So many entries are clean of a front of the log that reaches this tail, in what the node has applied, and the node's report of
-- that stands in the log.
pub record IsReport (journal : List Event) (tail cursor node position : ℕ) : Type 0 where
  pub log : List Entry
  pub front : IsFront Holds journal log
  pub from : tail ≤ length log
  pub within : length log ≤ cursor
  pub clean : position ≡ clean_position log
  pub stands : StandsThere journal (content.Alive node position)

-- if the node reported
abbrev pub ReportedSo : List Event → ℕ → ℕ → ℕ → Looked → Type 0
ReportedSo journal tail cursor node (looked.Reported position) = IsReport journal tail cursor node position
ReportedSo journal tail cursor node look = Unit {0}
