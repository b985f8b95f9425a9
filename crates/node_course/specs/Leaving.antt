-- What is known of a node that left.
use Rattle.std.specs.Prelude.{◌⊎◌, ℕ, ◌<◌, ◌≤◌, List}
use Rattle.legal_journal.specs.declared.events.Event.{Event}
use Rattle.virtual_log.specs.Holding.{IsTrimmed}
use Rattle.engine_api.specs.declared.content.Content.TheVariants as content
use Rattle.node_lines.specs.declared.lines.Looked.{Looked}
use Rattle.node_lines.specs.declared.lines.Looked.TheVariants as looked
use Rattle.node_course.specs.Reporting.{StandsThere}

-- An entry that says that the node leaves stands in the log. The node had applied so much as it left: that entry too, or what came next
-- for it was trimmed, as it may be behind a leave.
pub record IsLeave (journal : List Event) (cursor node : ℕ) : Type 0 where
  pub stands : StandsThere journal (content.Leave node)
  pub upto : ℕ
  pub low : upto ≤ cursor
  pub within : (stands.at < upto) ⊎ IsTrimmed journal upto

-- if the node left
abbrev pub LeftSo : List Event → ℕ → ℕ → Looked → Type 0
LeftSo journal cursor node looked.Left = IsLeave journal cursor node
LeftSo journal cursor node look = Unit {0}
