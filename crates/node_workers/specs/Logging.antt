-- What it takes to hand in a session's next command, and what comes of it.
use Rattle.std.specs.Prelude.{◌≡◌, ◌⊎◌, ◌<◌, ◌≤◌, ◌+◌, ◌^◌, ℕ, [], ◌∷◌, ◌++◌, length, None}
use Rattle.delos_types.specs.declared.entry.Entry.{Entry}
use Rattle.legal_journal.specs.Law.{Law}
use Rattle.table_core.specs.declared.command.Command.{Command}
use Rattle.table_core.specs.Spelling.{IsSpellable, command_length}
use Rattle.engine_api.specs.Packing.{packed, session_item}
use Rattle.base_engine.specs.Node.{NodeView}
use Rattle.base_engine.specs.Settling.{cause_in}
use Rattle.node_lines.specs.declared.desk.Desk.{Desk}
use Rattle.node_lines.specs.Moving.{CanPack, HandsIn}
use Rattle.node_lines.specs.Desks.{DeskOk, IsBound}
use Rattle.node_lines.proofs.Widening.{hands_wider}
use Rattle.turn_scopes.specs.Beside.{IsNarrower}

-- the session's next command may be handed in
pub record MayLog (may : ℕ → Entry → Type 0) (command : Command) (desk : Desk) (node : NodeView) : Type 0 where
  pub kept : CanPack node.replica.kept
  pub stands : DeskOk node desk.session desk
  pub stopped : desk.stopped ≡ None
  pub given : cause_in desk.session node.outbox.given ≡ None
  pub near : desk.sent + 1 ≤ length desk.answers.items + 64
  pub few : desk.asked < 2 ^ 32
  pub bound : IsBound may desk.session (desk.sent + 1)
  pub spelled : IsSpellable command
  pub short : command_length command ≤ 984
  pub own : may node.who (packed node.replica.origin (node.replica.kept ++ session_item desk.session (desk.sent + 1) command ∷ []))

-- it was handed in
pub record LogsOne (law : Law) (command : Command) (was is : Desk) (old new : NodeView) : Type 0 where
  pub hands : HandsIn law old new was.session was.sent
  pub desk : DeskOk new was.session is
  pub counts : is ≡ record was { asked = was.asked + 1; sent = was.sent + 1; answers = is.answers }
  pub kept : (new.replica.kept ≡ old.replica.kept ++ session_item was.session (was.sent + 1) command ∷ []) ⊎ (new.replica.kept ≡ [])

pub logs_wider : (scope law : Law) → IsNarrower scope law → (command : Command) (was is : Desk) (old new : NodeView) → LogsOne scope command was is old new → LogsOne law command was is old new
logs_wider scope law narrow command was is old new h = record { hands = hands_wider scope law narrow old new was.session was.sent h.hands; desk = h.desk; counts = h.counts; kept = h.kept }
