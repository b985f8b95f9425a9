-- A session's desk at a later moment.
use Rattle.std.proofs.Common.{sym, subst, ℕ, ◌≤◌, List, length, arith}
use Rattle.delos_types.specs.declared.entry.Entry.{Entry}
use Rattle.delos_types.specs.declared.cause.Cause.{Cause}
use Rattle.legal_journal.specs.Law.{Law}
use Rattle.legal_journal.specs.declared.events.Event.{Event}
use Rattle.legal_journal.specs.Journal.{IsLegal}
use Rattle.virtual_log.specs.Holding.{Holds}
use Rattle.base_engine.specs.Holding.{held_stays}
use Rattle.base_engine.specs.Reading.{IsFront}
use Rattle.base_engine.specs.Node.{NodeView}
use Rattle.engine_steps.specs.declared.layout.Kept.{Kept}
use Rattle.node_lines.specs.declared.desk.Desk.{Desk}
use Rattle.node_lines.proofs.Settling.{Extends}
use Rattle.node_lines.specs.Moving.{Goes, StaysGiven, Moves}
use Rattle.node_lines.specs.Desks.{HasAnswers, DeskOk}
use Rattle.node_lines.proofs.Moving.{none-before}

module _ (law : Law) (low : (log : List Entry) (n : ℕ) → law.floor log n → n ≤ length log) where
  pub front_later : (old new : List Event) (log : List Entry) → IsLegal law new → Extends old new → IsFront Holds old log → IsFront Holds new log
  front_later old new log legal on h = λ pos e at. subst (λ l. Holds l pos e) (sym on.1) (held_stays law old on.0 pos e (subst (IsLegal law) on.1 legal) (h pos e at))

  pub answers_later : (old new : List Event) (c c' s : ℕ) (answers : List Kept) → IsLegal law new → Extends old new → c ≤ c' → HasAnswers old c s answers → HasAnswers new c' s answers
  answers_later old new c c' s answers legal on up h = record { log = h.log; front = front_later old new h.log legal on h.front; upto = omega (arith, h.upto, up); are = h.are }

  -- what a call keeps of a session's commands it keeps of its desk
  pub desk_goes : (old new : NodeView) (others : List Cause) (s : ℕ) (d : Desk) → Goes law old new others → StaysGiven old new s → DeskOk old s d → DeskOk new s d
  desk_goes old new others s d h stays k = record {
    session = k.session;
    known = k.known;
    few = k.few;
    near = k.near;
    acted = answers_later old.seen new.seen old.replica.cursor new.replica.cursor s d.answers.items h.keeps.later.legal (h.keeps.later.more, h.keeps.later.seen) h.keeps.forward k.acted;
    ended = k.ended;
    given = λ free none. let g = k.given free (none-before law low old new others s h none) in (g.0, stays d.sent none g.1);
  }

  pub desk_moves : (old new : NodeView) (others : List Cause) (s : ℕ) (d : Desk) → Moves law old new others → DeskOk old s d → DeskOk new s d
  desk_moves old new others s d h k = desk_goes old new others s d h.goes (h.stays s) k
