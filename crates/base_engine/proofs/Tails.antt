-- The tail of the log, as entries are read.
use Rattle.std.proofs.Common.{ℕ, ◌≤◌, List, refl, ◌∙◌, arith}
use Rattle.legal_journal.specs.Law.{Law}
use Rattle.legal_journal.specs.declared.events.Event.{Event}
use Rattle.legal_journal.specs.Journal.{state_of, tail_of}
use Rattle.virtual_log.specs.Turning.{OnlyOwn, Later}
use Rattle.virtual_log.proofs.OneTurn.{later_continues}
use Rattle.virtual_log.proofs.Owning.{own_split}
use Rattle.base_engine.specs.Following.{KeepsTail, EndsBy}

-- it stays where nothing came
pub keeps_same : (who pos : ℕ) (a : List Event) → KeepsTail who pos a a
keeps_same who pos a low alone = refl

module _ (law : Law) (who pos : ℕ) (a b c : List Event) (first : Later law a b) (second : Later law b c) where
  -- it stays over two steps, of which the second starts no lower
  pub keeps_on : (next : ℕ) → pos ≤ next → KeepsTail who pos a b → KeepsTail who next b c → KeepsTail who pos a c
  keeps_on next up f g low alone =
      let parts = own_split who a b c first.more second.more first.seen second.seen alone in
      let on = later_continues law b c second in
      g (omega (arith, low, up)) parts.1 ∙ f (omega (arith, low, on.trim)) parts.0

  -- a tail that was found stays the log's
  pub ends_on : (tail : ℕ) → (OnlyOwn who a b → tail_of (state_of b) ≤ tail) → KeepsTail who pos b c → EndsBy who pos a tail c
  ends_on tail f g low alone =
      let parts = own_split who a b c first.more second.more first.seen second.seen alone in
      omega (arith, f parts.0, g low parts.1)
