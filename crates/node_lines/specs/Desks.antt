-- What holds of a session's desk at its node, at each moment.
use Rattle.std.specs.Prelude.{◌≡◌, ℕ, ◌+◌, ◌<◌, ◌≤◌, All, List, [], ◌∷◌, ◌++◌, length, Some, None, slice_get}
use Rattle.delos_types.specs.declared.entry.Entry.{Entry}
use Rattle.delos_types.specs.declared.item.Item.{Item}
use Rattle.legal_journal.specs.Law.{Law}
use Rattle.legal_journal.specs.declared.events.Event.{Event}
use Rattle.legal_journal.specs.Journal.{IsLegal}
use Rattle.virtual_log.specs.Holding.{Holds, IsTrimmed}
use Rattle.engine_api.specs.Packing.{IsProposable, packed}
use Rattle.engine_steps.specs.declared.layout.Kept.{Kept}
use Rattle.base_engine.specs.Reading.{IsFront}
use Rattle.base_engine.specs.Settling.{cause_in}
use Rattle.base_engine.specs.Node.{NodeView}
use Rattle.node_lines.specs.declared.desk.Desk.{Desk}
use Rattle.node_lines.specs.Answered.{AreAnswers}
use Rattle.node_lines.specs.UnderWay.{HasRank, IsGiven}

-- the answers are those of the session's first commands in a front of the log, no longer than so
pub record HasAnswers (seen : List Event) (cursor s : ℕ) (answers : List Kept) : Type 0 where
  pub log : List Entry
  pub front : IsFront Holds seen log
  pub upto : length log ≤ cursor
  pub are : AreAnswers log s answers

-- Where a session wasn't stopped and has no cause, its node was given all that it asked. No command is sent that is more than
-- 64 above the last answer.
pub record DeskOk (n : NodeView) (s : ℕ) (d : Desk) : Type 0 where
  pub session : d.session ≡ s
  pub known : s ≤ 63
  pub few : d.sent ≤ d.asked
  pub near : d.sent ≤ length d.answers.items + 64
  pub acted : HasAnswers n.seen n.replica.cursor s d.answers.items
  pub ended : d.stopped ≡ None → d.answered ≡ None
  pub given : d.stopped ≡ None → cause_in s n.outbox.given ≡ None → (d.sent ≡ d.asked) × IsGiven n.seen n.outbox.entries n.replica.kept s d.sent

-- of all sessions, by their numbers
abbrev pub DesksOk : NodeView → List Desk → Type 0
DesksOk n desks = (s : ℕ) (d : Desk) → slice_get desks s ≡ Some d → DeskOk n s d

-- whoever may append, no rank of the session above this
abbrev pub IsBound : (ℕ → Entry → Type 0) → ℕ → ℕ → Type 0
IsBound may s sent = (who : ℕ) (e : Entry) (r : ℕ) → may who e → HasRank s r e → r ≤ sent

-- of no session that asked something a rank above those that were sent
abbrev pub AreBound : (ℕ → Entry → Type 0) → List Desk → Type 0
AreBound may desks = (s : ℕ) (d : Desk) → slice_get desks s ≡ Some d → 0 < d.asked → IsBound may s d.sent

-- one more item may be packed with those that may be already
abbrev pub MayJoin : (ℕ → Entry → Type 0) → ℕ → ℕ → Type 0
MayJoin may who origin =
    (items : List Item) (item : Item) → (length items ≡ 0 → ⊥) → All IsProposable items → length items ≤ 15 → IsProposable item
    → may who (packed origin items) → may who (packed origin (item ∷ [])) → may who (packed origin (items ++ item ∷ []))

-- nothing is trimmed at a position or above
abbrev pub KeepsFrom : Law → ℕ → Type 0
KeepsFrom law cursor = (seen : List Event) (pos : ℕ) → IsLegal law seen → IsTrimmed seen pos → pos + 1 ≤ cursor
