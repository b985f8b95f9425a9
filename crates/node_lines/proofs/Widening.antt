-- Within more counts more is allowed, and all that was so stays so.
use Rattle.std.proofs.Common.{◌∙◌, ap, subst, ℕ, ◌≤◌, Bool, List, [], ◌++◌, Option, append_assoc, arith, length}
use Rattle.std.specs.Prelude.{All}
use Rattle.std.proofs.lemmas.List.Elements.{All-weaker}
use Rattle.delos_types.specs.declared.entry.Entry.{Entry}
use Rattle.delos_types.specs.declared.item.Item.{Item}
use Rattle.delos_types.specs.declared.cause.Cause.{Cause}
use Rattle.table_core.specs.declared.command.Query.{Query}
use Rattle.legal_journal.specs.Law.{Law}
use Rattle.legal_journal.specs.declared.events.Event.{Event}
use Rattle.legal_journal.specs.Journal.{IsLegal}
use Rattle.journal_laws.proofs.Changes.{legal_by}
use Rattle.replica_api.specs.Replica.{Meaning}
use Rattle.base_engine.specs.Settling.{MaySend}
use Rattle.base_engine.specs.Node.{NodeView}
use Rattle.node_lines.specs.declared.desk.Desk.{Desk}
use Rattle.turn_scopes.specs.Beside.{Since}
use Rattle.turn_scopes.specs.Seats.{SeatView, SeatOk}
use Rattle.node_lines.specs.declared.lines.Looked.{Looked}
use Rattle.node_lines.specs.declared.measure.Measured.{Measured}
use Rattle.node_lines.specs.Moving.{Goes, Moves, CarriesAll, CarriesFirst, HandsIn}
use Rattle.node_lines.specs.Lines.{Readies, Looks, failure_in}
use Rattle.node_lines.specs.Extending.{ExtendsSo, Replaces}
use Rattle.node_lines.specs.Measuring.{Measures}
use Rattle.node_lines.specs.Reporting.{Tells}
use Rattle.node_lines.specs.Leaving.{PlaysKnown}
use Rattle.node_lines.specs.Trimming.{Cuts}
use Rattle.node_lines.specs.Turns.{AnswersAll, EndsTurn}
use Rattle.node_lines.proofs.Relaying.{goes_by, moves_by, first_by, measures_by, tells_by, plays_by, cuts_by}
use Rattle.node_lines.specs.Workers.{Within, OwnWithin, Grows, sent_of}
use Rattle.turn_scopes.specs.Beside.{IsNarrower}
use Rattle.turn_scopes.proofs.Widening.{legal_lower}

-- what was within the counts is within greater ones
pub within-more : (may : ℕ → Entry → Type 0) (a b : List ℕ) → ((s : ℕ) → sent_of a s ≤ sent_of b s) → (who : ℕ) (e : Entry) → Within may a who e → Within may b who e
within-more may a b low who e h = (h.0, λ s r k. omega (arith, h.1 s r k, low s))

pub own-more : (me : ℕ) (may : ℕ → Entry → Type 0) (a b : List ℕ) → ((s : ℕ) → sent_of a s ≤ sent_of b s) → (user : ℕ) (e : Entry) → OwnWithin me may a user e → OwnWithin me may b user e
own-more me may a b low user e h = (h.0, λ same s r k. omega (arith, h.1 same s r k, low s))

module _ (scope law : Law) (narrow : IsNarrower scope law) where
  pub legal_wide : (es : List Event) → IsLegal scope es → IsLegal law es
  legal_wide es h = legal_lower scope law narrow es h

  may_send : (who : ℕ) (es : List Entry) → All (λ e. MaySend scope.may who e) es → All (λ e. MaySend law.may who e) es
  may_send who es h = All-weaker (λ e. MaySend scope.may who e) (λ e. MaySend law.may who e) (λ e k. record { allowed = narrow.may who e k.allowed; spelled = k.spelled }) es h

  module _ (meaning : Meaning) (journal : List Event) (s : SeatView) where
    -- so is a seat, as far as its journal is legal
    pub seat_legal : IsLegal law journal → SeatOk scope meaning journal s → SeatOk law meaning journal s
    seat_legal legal h = record {
      shelf_is = h.shelf_is ∙ ap length narrow.shelf;
      goes_by = h.goes_by;
      node = record {
        eight = h.node.eight;
        legal = legal;
        follows = h.node.follows;
        bounded = h.node.bounded;
        own = may_send s.who s.node.outbox.entries h.node.own;
        few = h.node.few;
        waiting = λ some. narrow.may s.who _ (h.node.waiting some);
      };
    }

    pub seat_wider : SeatOk scope meaning journal s → SeatOk law meaning journal s
    seat_wider h = seat_legal (legal_wide journal h.node.legal) h

  pub goes_wider : (old new : NodeView) (others : List Cause) → Goes scope old new others → Goes law old new others
  goes_wider old new others h = goes_by scope law old new (legal_wide new.seen h.keeps.later.legal) others h

  pub moves_wider : (old new : NodeView) (others : List Cause) → Moves scope old new others → Moves law old new others
  moves_wider old new others h = moves_by scope law old new (legal_wide new.seen h.goes.keeps.later.legal) others h

  first_wider : (old new : NodeView) (others : List Cause) → CarriesFirst scope old new others → CarriesFirst law old new others
  first_wider old new others h = first_by scope law old new (legal_wide new.seen h.since.goes.keeps.later.legal) others h

  -- What the calls of a node say

  pub carries_wider : (old new : NodeView) → CarriesAll scope old new → CarriesAll law old new
  carries_wider old new h = record { moves = moves_wider old new [] h.moves; none = h.none; kept = h.kept }

  pub replaces_wider : (old new : NodeView) (l : Looked) → Replaces scope old new l → Replaces law old new l
  replaces_wider old new l h = record { others = h.others; moves = moves_wider old new h.others h.moves; replica = h.replica; outbox = h.outbox; extends = subst (λ cells. ExtendsSo cells old new h.others l) (ap length narrow.shelf) h.extends; seals = h.seals }

  pub measures_wider : (measure : List Entry → ℕ) (old new : NodeView) (m : Measured) → Measures scope measure old new m → Measures law measure old new m
  measures_wider measure old new m h = measures_by scope law old new (legal_wide new.seen h.moves.goes.keeps.later.legal) measure m h

  pub tells_wider : (old new : NodeView) (item : Item) (failed : Option Cause) → Tells scope old new item failed → Tells law old new item failed
  tells_wider old new item failed h = tells_by scope law old new (legal_wide new.seen h.moves.goes.keeps.later.legal) item failed h

  pub plays_wider : (old new : NodeView) (failed : Option Cause) → PlaysKnown scope old new failed → PlaysKnown law old new failed
  plays_wider old new failed h = plays_by scope law old new (legal_wide new.seen h.moves.goes.keeps.later.legal) failed h

  pub cuts_wider : (old new : NodeView) (l : Looked) → Cuts scope old new l → Cuts law old new l
  cuts_wider old new l h = cuts_by scope law old new (legal_wide new.seen h.moves.goes.keeps.later.legal) l h

  pub readies_wider : (old new : NodeView) (was is : Desk) (ready : Bool) → Readies scope old new was is ready → Readies law old new was is ready
  readies_wider old new was is ready h = record { others = h.others; moves = moves_wider old new h.others h.moves; desk = h.desk; stops = h.stops; free = h.free; held = h.held }

  pub hands_wider : (old new : NodeView) (s sent : ℕ) → HandsIn scope old new s sent → HandsIn law old new s sent
  hands_wider old new s sent h = record { goes = goes_wider old new [] h.goes; own = h.own; stays = h.stays; quiet = h.quiet }

  pub looks_wider : (old new : NodeView) (d : Desk) (query : Query) (l : Looked) → Looks scope old new d query l → Looks law old new d query l
  looks_wider old new d query l h = record { others = h.others; moves = moves_wider old new h.others h.moves; looks = h.looks }

  pub ends_wider : (old new : NodeView) (was is : List Desk) (failed : Option Cause) → EndsTurn scope old new was is failed → EndsTurn law old new was is failed
  ends_wider old new was is failed h = record {
    mid = h.mid;
    ends = record {
      moves = moves_wider old h.mid (failure_in failed) h.ends.moves;
      first = first_wider old h.mid (failure_in failed) h.ends.first;
      none = h.ends.none;
      unsettled = h.ends.unsettled;
      kept = h.ends.kept;
      acted = h.ends.acted;
      exact = h.ends.exact;
    };
    forgets = h.forgets;
    closes = h.closes;
    desks = h.desks;
  }

  pub answers_wider : (old new : NodeView) (was is : List Desk) (failed : Option Cause) → AnswersAll scope old new was is failed → AnswersAll law old new was is failed
  answers_wider old new was is failed h = record {
    moves = moves_wider old new (failure_in failed) h.moves;
    first = first_wider old new (failure_in failed) h.first;
    none = h.none;
    unsettled = h.unsettled;
    kept = h.kept;
    desks = h.desks;
    size = h.size;
    takes = h.takes;
    answered = h.answered;
  }

-- A journal that grows.

pub grows-since : (who : ℕ) (beside : ℕ → Type 0) (old new : List Event) → Since who beside old new → Grows old new
grows-since who beside old new h = (h.more, h.seen)

pub grows-both : (old mid new : List Event) → Grows old mid → Grows mid new → Grows old new
grows-both old mid new g h = (g.0 ++ h.0, h.1 ∙ (ap (λ l. l ++ h.0) g.1 ∙ append_assoc old g.0 h.0))
