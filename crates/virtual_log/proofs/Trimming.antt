-- Trims of the loglets below the trim of the chain.
use Rattle.std.proofs.Common.{◌≡◌, ℕ, zero, suc, ◌<◌, ◌≤◌, List, [], ◌∷◌, ◌++◌, length, Option, None, Some, refl, ap, ◌∙◌, arith}
use Rattle.std.specs.Prelude.{slice_get, slice_index_or}
use Rattle.delos_types.specs.declared.chain.Segment.{Segment}
use Rattle.delos_types.specs.declared.chain.Chain.{Chain}
use Rattle.loglet_api.specs.declared.call.Op.TheVariants.{Trim}
use Rattle.loglet_api.specs.declared.call.Answer.TheVariants.{TrimDone}
use Rattle.legal_journal.specs.Law.{Law}
use Rattle.legal_journal.specs.declared.events.Event.{Event}
use Rattle.legal_journal.specs.declared.events.FabricCall.TheVariants.{Begin}
use Rattle.legal_journal.specs.declared.events.FabricAnswer.TheVariants.{Begun}
use Rattle.legal_journal.specs.Journal.{state_of, trim_of, IsLegal}
use Rattle.legal_journal.specs.Turns.{MayTurn}
use Rattle.legal_journal.proofs.Log.{HasStart-in}
use Rattle.legal_journal.proofs.Legal.{sound, goes_on}
use Rattle.legal_journal.proofs.Chains.{is_in_at}
use Rattle.virtual_log.specs.Turning.{Opened, HasEvent, IsAnswer}
use Rattle.virtual_log.specs.Log.{GoesBy}
use Rattle.virtual_log.specs.Truncating.{end_below, length_below, IsTrimOf, LetsGo, AreTrimmed}
use Rattle.virtual_log.proofs.OneTurn.{event_since, event_until}
use Rattle.virtual_log.proofs.Appending.{started_within}

end_low : (n : ℕ) (o : Option ℕ) → end_below n o ≤ n
end_low n None = omega arith
end_low n (Some e) = omega arith

pub at_index : (ss : List Segment) (i : ℕ) (d : Segment) → i < length ss → slice_get ss i ≡ Some (slice_index_or ss i d)
at_index [] i d h = absurd (omega arith)
at_index (s ∷ ss) zero d h = refl
at_index (s ∷ ss) (suc i) d h = at_index ss i d (omega arith)

module _ (law : Law) where
  pub may_trim : (who : ℕ) (old : List Event) (s : Segment) (n m : ℕ) → IsLegal law old → (state_of old).starts s.id ≡ Some s.start → s.start < n → n ≤ trim_of (state_of old) → m ≡ length_below s n → MayTurn law who old (Begin s.id (Trim m))
  may_trim who old s n m legal at below high is others apart now =
      let on = goes_on law old others now in record {
        there = started_within law old s.id s.start legal at;
        asks = (s.start, on.starts s.id s.start at, omega (arith, is, end_low n s.end, on.trim));
      }

  -- each segment of a chain that was given started
  pub segments_started : (es : List Event) (v k : ℕ) (c : Chain) → IsLegal law es → GoesBy (state_of es) v c k → (i : ℕ) (s : Segment) → slice_get c.segments i ≡ Some s → (state_of es).starts s.id ≡ Some s.start
  segments_started es v k c legal g i s h =
      let ok = sound law es legal in
      (ok.olds v c g.given).start s.id s.start (HasStart-in s c.segments (is_in_at c.segments i s h))

pub trim_event : (who : ℕ) (old mid : List Event) (s : Segment) (n m t : ℕ) → m ≡ length_below s n → Opened who old s.id (Trim m) t mid → HasEvent old (IsTrimOf who s n t) mid
trim_event who old mid s n m t is o = record {
  event = o.event.event;
  is = o.event.is ∙ ap (λ k. record { who = who; call = Begin s.id (Trim k); answer = Begun t }) is;
  before = o.event.before;
  after = o.event.after;
  seen = o.event.seen;
}

-- what was let go since a later moment was since an earlier one
pub lets_go_since : (who : ℕ) (a b c : List Event) (s : Segment) (n : ℕ) (more : List Event) → b ≡ a ++ more → LetsGo who b s n c → LetsGo who a s n c
lets_go_since who a b c s n more is h = record {
  ticket = h.ticket;
  asked = h.asked;
  begun = event_since (IsTrimOf who s n h.ticket) a b h.asked more is h.begun;
  answered = h.answered;
}

-- and what was before an earlier moment was before a later one
pub lets_go_until : (who : ℕ) (a b c : List Event) (s : Segment) (n : ℕ) (more : List Event) → c ≡ b ++ more → LetsGo who a s n b → LetsGo who a s n c
lets_go_until who a b c s n more is h = record {
  ticket = h.ticket;
  asked = h.asked;
  begun = h.begun;
  answered = event_until (IsAnswer who s.id h.ticket TrimDone) h.asked b c more is h.answered;
}

pub trimmed_since : (who : ℕ) (a b c : List Event) (ss : List Segment) (n : ℕ) (more : List Event) → b ≡ a ++ more → AreTrimmed who b ss n c → AreTrimmed who a ss n c
trimmed_since who a b c ss n more is h k s at below = lets_go_since who a b c s n more is (h k s at below)
