-- What a node's last calls come to.
use Rattle.std.specs.Prelude.{◌≡◌, ℕ, ◌≤◌, ◌⊎◌, Bool, true, false, [], ◌∷◌}
use Rattle.delos_types.specs.declared.cause.Cause.{Cause}
use Rattle.engine_steps.specs.Layout.{has_left_in}
use Rattle.virtual_log.specs.Turning.{IsAbove}
use Rattle.base_engine.specs.Arming.{LeavesArming}
use Rattle.base_engine.specs.Following.{IsAt, EndsBy}
use Rattle.base_engine.specs.Node.{NodeView}
use Rattle.node_lines.specs.Moving.{Spends, strikes}
use Rattle.run_closing.specs.declared.last.Calls.{Calls}
use Rattle.run_closing.specs.declared.last.Calls.TheVariants.{OfMembers, OfAny}

-- the log or the disk failed since, by a fault of its own
pub record Fails (old new : NodeView) : Type 0 where
  pub cause : Cause
  pub spends : Spends old.who old.seen new.seen (strikes old.replica) (strikes new.replica) (cause ∷ [])

-- The store is up, or the disk failed. Nothing was seen, sent or settled, and the disk wasn't armed.
pub record Reopens (old new : NodeView) : Type 0 where
  pub who : new.who ≡ old.who
  pub nodes : new.nodes ≡ old.nodes
  pub origin : new.replica.origin ≡ old.replica.origin
  pub seen : new.seen ≡ old.seen
  pub forward : old.replica.cursor ≤ new.replica.cursor
  pub counts : old.replica.faults ≤ new.replica.faults
  pub struck : strikes old.replica ≤ strikes new.replica
  pub arming : LeavesArming 0 old.replica new.replica
  pub kept : new.replica.kept ≡ old.replica.kept
  pub outbox : new.outbox ≡ old.outbox
  pub up : (new.replica.down ≡ false) ⊎ Fails old new

-- a tail of the log was found since, and the state is that at it
pub record IsPlayed (old new : NodeView) : Type 0 where
  pub tail : ℕ
  pub above : IsAbove old.who old.seen tail new.seen
  pub at : IsAt tail new.replica new.seen
  -- where no other node's event came meanwhile and nothing was trimmed that wasn't played, the log ends there
  pub exact : EndsBy old.who old.replica.cursor old.seen tail new.seen

-- the state is that at a tail, or the log or the disk failed
abbrev pub PlaysOut : NodeView → NodeView → Type 0
PlaysOut old new = IsPlayed old new ⊎ Fails old new

-- The node with this number makes no last calls, where it is members that make them: it left by a line, or as its state tells.
abbrev pub HasGone : Calls → ℕ → NodeView → Type 0
HasGone (OfMembers left) number n = (left ≡ true) ⊎ (has_left_in n.replica.contents number ≡ true)
HasGone OfAny number n = ⊥

-- it makes last calls
abbrev pub IsCalled : Calls → ℕ → NodeView → Type 0
IsCalled (OfMembers left) number n = (left ≡ false) × (has_left_in n.replica.contents number ≡ false)
IsCalled OfAny number n = Unit {0}

-- it has left, and is as it was
pub record IsPassedBy (calls : Calls) (number : ℕ) (old new : NodeView) : Type 0 where
  pub left : HasGone calls number old
  pub same : new ≡ old

-- it plays the log
pub record PlaysOn (calls : Calls) (number : ℕ) (old new : NodeView) : Type 0 where
  pub stays : IsCalled calls number old
  pub plays : PlaysOut old new

-- one of both, by whether it was passed by
abbrev pub Finishes : Calls → ℕ → Bool → NodeView → NodeView → Type 0
Finishes calls number true old new = IsPassedBy calls number old new
Finishes calls number false old new = PlaysOn calls number old new
