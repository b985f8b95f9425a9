-- Where the log isn't trimmed above where a node is, the node lacks nothing of what it knew.
use Rattle.std.proofs.Common.{◌≡◌, refl, ⊎_elim, ℕ, ◌≤◌, List, None, arith}
use Rattle.std.specs.Prelude.{max}
use Rattle.legal_journal.specs.Law.{Law}
use Rattle.legal_journal.specs.declared.events.Event.{Event}
use Rattle.legal_journal.specs.Journal.{IsLegal}
use Rattle.journal_laws.specs.Changes.{TrimsUpTo}
use Rattle.journal_laws.proofs.Changes.{trimmed_raised}
use Rattle.virtual_log.specs.Holding.{IsTrimmed}
use Rattle.base_engine.specs.Node.{NodeView}
use Rattle.node_lines.specs.Leaving.{PlaysKnown}

module _ (law : Law) where
  pub never_trimmed : (m : ℕ) (seen : List Event) → IsLegal law seen → TrimsUpTo m seen → IsTrimmed seen m → ⊥
  never_trimmed m seen legal high t =
      let x = trimmed_raised law seen m legal t in
      let upto = high x.0 x.1 in
      omega (arith, x.2, upto)

  pub known_played : (old new : NodeView) → TrimsUpTo new.replica.cursor new.seen → PlaysKnown law old new None → old.known ≤ new.replica.cursor
  known_played old new high plays =
      ⊎_elim (λ (h : new.replica.cursor ≡ max old.replica.cursor old.known). omega (arith, h))
      (λ (h : IsTrimmed new.seen new.replica.cursor). absurd (never_trimmed new.replica.cursor new.seen plays.moves.goes.keeps.later.legal high h)) (plays.reaches refl)
