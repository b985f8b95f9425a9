-- What came of a call by one scope's rules came of it by others too, where the journal is legal by them.
use Rattle.std.proofs.Common.{subst, ℕ, List, [], Option}
use Rattle.delos_types.specs.declared.entry.Entry.{Entry}
use Rattle.delos_types.specs.declared.item.Item.{Item}
use Rattle.delos_types.specs.declared.cause.Cause.{Cause}
use Rattle.legal_journal.specs.Law.{Law}
use Rattle.legal_journal.specs.Journal.{IsLegal}
use Rattle.legal_journal.proofs.Legal.{legal_front}
use Rattle.base_engine.specs.Node.{NodeView, Keeps}
use Rattle.node_lines.specs.declared.lines.Looked.{Looked}
use Rattle.node_lines.specs.declared.measure.Measured.{Measured}
use Rattle.node_lines.specs.Moving.{Goes, Moves, CarriesFirst}
use Rattle.node_lines.specs.Measuring.{Measures}
use Rattle.node_lines.specs.Reporting.{Tells}
use Rattle.node_lines.specs.Leaving.{PlaysKnown}
use Rattle.node_lines.specs.Trimming.{Cuts}

module _ (scope law : Law) (old new : NodeView) (legal : IsLegal law new.seen) where
  pub keeps_by : Keeps scope old new → Keeps law old new
  keeps_by k = record {
    who = k.who;
    nodes = k.nodes;
    origin = k.origin;
    later = record { more = k.later.more; seen = k.later.seen; legal = legal };
    forward = k.forward;
    counts = k.counts;
  }

  pub goes_by : (others : List Cause) → Goes scope old new others → Goes law old new others
  goes_by others h = record { keeps = keeps_by h.keeps; given = h.given; gained = h.gained; spends = h.spends; packs = h.packs; arming = h.arming }

  pub moves_by : (others : List Cause) → Moves scope old new others → Moves law old new others
  moves_by others h = record { goes = goes_by others h.goes; stays = h.stays; quiet = h.quiet }

module _ (scope law : Law) (old new : NodeView) (legal : IsLegal law new.seen) where
  pub first_by : (others : List Cause) → CarriesFirst scope old new others → CarriesFirst law old new others
  first_by others h =
      let k = h.since.goes.keeps in
      let early : IsLegal law h.settled.seen = legal_front law h.settled.seen k.later.more (subst (IsLegal law) k.later.seen legal) in
      record {
        settled = h.settled;
        carries = record { moves = moves_by scope law old h.settled early [] h.carries.moves; none = h.carries.none; kept = h.carries.kept };
        since = moves_by scope law h.settled new legal others h.since;
      }

  pub measures_by : (measure : List Entry → ℕ) (answer : Measured) → Measures scope measure old new answer → Measures law measure old new answer
  measures_by measure answer h = record { moves = moves_by scope law old new legal _ h.moves; first = first_by _ h.first; none = h.none; unsettled = h.unsettled; kept = h.kept; measured = h.measured }

  pub tells_by : (item : Item) (failed : Option Cause) → Tells scope old new item failed → Tells law old new item failed
  tells_by item failed h = record { moves = moves_by scope law old new legal _ h.moves; none = h.none; kept = h.kept; replica = h.replica; appended = h.appended }

  pub plays_by : (failed : Option Cause) → PlaysKnown scope old new failed → PlaysKnown law old new failed
  plays_by failed h = record { moves = moves_by scope law old new legal _ h.moves; outbox = h.outbox; kept = h.kept; reaches = h.reaches }

  pub cuts_by : (answer : Looked) → Cuts scope old new answer → Cuts law old new answer
  cuts_by answer h = record { others = h.others; moves = moves_by scope law old new legal h.others h.moves; replica = h.replica; outbox = h.outbox; cuts = h.cuts }
