-- What comes of a node's own lines that tell something: what was read off its state, and the entry that says so.
use Rattle.std.proofs.Common.{◌≡◌, refl, sym, ap, ◌∙◌, subst, ⊎_elim, ◌⊎◌, inl, inr, ℕ, ◌≤◌, List, [], ◌∷◌, Option, Some, None, length, arith}
use Rattle.std.specs.Prelude.{Contains}
use Rattle.delos_types.specs.declared.entry.Entry.{Entry}
use Rattle.delos_types.specs.declared.item.Item.{Item}
use Rattle.delos_types.specs.declared.cause.Cause.{Cause}
use Rattle.legal_journal.specs.Law.{Law}
use Rattle.legal_journal.specs.declared.events.Event.{Event}
use Rattle.virtual_log.specs.Sealing.{SealsNone}
use Rattle.engine_api.specs.declared.content.Content.{Content}
use Rattle.engine_api.specs.declared.content.Content.TheVariants as content
use Rattle.engine_api.specs.declared.content.Placed.{Placed}
use Rattle.engine_api.specs.Items.{content_of, unpack}
use Rattle.engine_api.specs.Members.{clean_at, clean_position}
use Rattle.engine_api.specs.Packing.{packed, IsProposable, alive_item, leave_item}
use Rattle.base_engine.specs.Node.{NodeView}
use Rattle.node_lines.specs.declared.lines.Looked.{Looked}
use Rattle.node_lines.specs.declared.lines.Looked.TheVariants as looked
use Rattle.node_lines.specs.declared.measure.Measured.TheVariants as measured
use Rattle.node_lines.specs.Moving.{Moves, CarriesAll, CarriesFirst}
use Rattle.node_lines.specs.Lines.{failure_in}
use Rattle.node_lines.specs.Extending.{Replaces, Extends}
use Rattle.node_lines.specs.Measuring.{Measures}
use Rattle.node_lines.specs.Reporting.{IsPlain, Tells, Reports}
use Rattle.node_lines.specs.Leaving.{Leaves}
use Rattle.node_lines.proofs.Moving.{moves-both}
use Rattle.node_lines.proofs.Assembling.{reports_of, reports_told, reports_untold, leaves_of, leaves_done, leaves_untold, leaves_unplayed}
use Rattle.node_lines.proofs.Reporting.{plain-rank, says_alone}
use Rattle.node_lines.specs.Workers.{OwnWithin, IsCommand, IsOfSessions, MayRun, OwnAdds, SaysAlone, ReportAdds, TellsLow, appended_by}
use Rattle.journal_laws.proofs.Changes.{held_appended}
use Rattle.node_lines.proofs.Desks.{front_later}
use Rattle.node_lines.proofs.Own.{own_adds_trans, own_adds_wider, reported_by}
use Rattle.node_lines.proofs.Cleaning.{clean_none, position_clean, position_low, says_command, says_that}
use Rattle.node_workers.proofs.Joining.{within-plain}
use Rattle.node_lines.specs.Steps.{TellsAndPlays, came_to}

-- What was appended meanwhile

pub adds_saying : (who : ℕ) (old mid new : List Event) (told : Entry) (c : Content) → OwnAdds who IsOfSessions old mid → OwnAdds who (λ e. IsOfSessions e ⊎ (e ≡ told)) mid new → SaysAlone c told → OwnAdds who (λ e. IsOfSessions e ⊎ SaysAlone c e) old new
adds_saying who old mid new told c first more says =
    let P : Entry → Type 0 = λ e. IsOfSessions e ⊎ SaysAlone c e in
    own_adds_trans who P old mid new
    (own_adds_wider who IsOfSessions P old mid (λ e k. inl k) first)
    (own_adds_wider who (λ e. IsOfSessions e ⊎ (e ≡ told)) P mid new (λ e k. ⊎_elim (λ (s : IsOfSessions e). inl s) (λ (t : e ≡ told). inr (subst (SaysAlone c) (sym t) says)) k) more)

pub adds_nothing : (who : ℕ) (c : Content) (old new : List Event) → OwnAdds who IsOfSessions old new → OwnAdds who (λ e. IsOfSessions e ⊎ SaysAlone c e) old new
adds_nothing who c old new h = own_adds_wider who IsOfSessions (λ e. IsOfSessions e ⊎ SaysAlone c e) old new (λ e k. inl k) h

-- a report that wasn't made
pub report_adds_none : (who cursor : ℕ) (old new : List Event) (l : Looked) → ((n : ℕ) → l ≡ looked.Reported n → ⊥) → OwnAdds who IsOfSessions old new → ReportAdds who cursor old new l
report_adds_none who cursor old new l none h = record {
  position = 0;
  clean = clean_none new;
  before = λ i e p early. absurd (omega (arith, early));
  low = omega arith;
  is = λ n e. absurd (none n e);
  adds = adds_nothing who (content.Alive who 0) old new h;
}

reported_is : (failed : Option Cause) (n k : ℕ) → came_to failed (looked.Reported n) ≡ looked.Reported k → k ≡ n
reported_is None n k h = cc
reported_is (Some c) n k h = absurd (cc)

-- an item of no session may be told, within the counts, where it may be at all
pub may_say : (may : ℕ → Entry → Type 0) (counts : List ℕ) (who who' origin : ℕ) (item said : Item) → who' ≡ who → origin ≡ who → item ≡ said → IsProposable item → IsPlain item → may who (packed who (said ∷ [])) → OwnWithin who' may counts who' (packed origin (item ∷ []))
may_say may counts who who' origin item said same own is fine plain allowed =
    subst (λ w. OwnWithin w may counts w (packed origin (item ∷ []))) (sym same)
    (subst (λ o. OwnWithin who may counts who (packed o (item ∷ []))) (sym own)
    (within-plain may counts who item fine (subst (λ i. may who (packed who (i ∷ []))) (sym is) allowed) (plain-rank item plain)))

-- what an item says its entry says alone
pub says_low : (origin m : ℕ) (item : Item) → IsProposable item → IsPlain item → ((c : Content) → content_of item ≡ Some c → TellsLow m c) → (p : Placed) → Contains (unpack 0 (packed origin (item ∷ []))) p → TellsLow m p.content
says_low origin m item fine plain low p there =
    subst (TellsLow m) (sym (says_that (packed origin (item ∷ [])) plain.content p (says_alone origin item item plain.content fine plain.says refl) there)) (low plain.content plain.says)

-- a position that was read off the state as clean isn't above where the node is
pub measured_low : (law : Law) (old new : NodeView) (n node : ℕ) (o : Option Content) → Measures law clean_position old new (measured.At n) → o ≡ Some (content.Alive node n) → (c : Content) → o ≡ Some c → TellsLow new.replica.cursor c
measured_low law old new n node o h says c is =
    let s = h.measured n refl in
    let both : Some (content.Alive node n) ≡ Some c = sym says ∙ is in
    let same : content.Alive node n ≡ c = cc in
    subst (TellsLow new.replica.cursor) same (omega (arith, s.is, position_low s.at.log, s.at.size))

-- a request for a trim is no leave and no report
pub trim_low : (m n : ℕ) (o : Option Content) → o ≡ Some (content.Trim n) → (c : Content) → o ≡ Some c → TellsLow m c
trim_low m n o says c is =
    let both : Some (content.Trim n) ≡ Some c = sym says ∙ is in
    let same : content.Trim n ≡ c = cc in
    subst (TellsLow m) same tt

module _ (law : Law) (low : (log : List Entry) (n : ℕ) → law.floor log n → n ≤ length log) where
  -- All was carried to its end, and then the last loglet was replaced.
  pub extends_both : (old mid new : NodeView) (l : Looked) → CarriesAll law old mid → SealsNone old.who old.seen mid.seen → Replaces law mid new l → Extends law old new l
  extends_both old mid new l carries unsealed replaces = record {
    others = replaces.others;
    moves = moves-both law low old mid new [] replaces.others carries.moves replaces.moves;
    settled = mid;
    settles = carries.moves;
    none = carries.none;
    kept = carries.kept;
    since = replaces.moves;
    unsealed = unsealed;
    replica = replaces.replica;
    outbox = replaces.outbox;
    extends = replaces.extends;
    seals = replaces.seals;
  }

  -- what a step that tells and plays keeps
  pub tells_moves : (old new : NodeView) (item : Item) (failed : Option Cause) → TellsAndPlays law old new item failed → Moves law old new (failure_in failed)
  tells_moves old new item failed (inl h) = subst (λ f. Moves law old new (failure_in f)) (sym h.is) h.tells.moves
  tells_moves old new item failed (inr h) = moves-both law low old h.told new [] (failure_in failed) h.tells.moves h.plays.moves

  -- What was measured was reported.
  pub reports : (old mid new : NodeView) (number n : ℕ) (item : Item) (failed : Option Cause) → Measures law clean_position old mid (measured.At n) → item ≡ alive_item number n → number ≡ old.replica.origin → IsProposable item
      → content_of item ≡ Some (content.Alive number n) → Tells law mid new item failed → Reports law old new (came_to failed (looked.Reported n))
  reports old mid new number n item None h made own fine says t = reports_told law low old mid new n item h t (reports_of law old mid new number n item h made own fine says t)
  reports old mid new number n item (Some c) h made own fine says t = reports_untold law low clean_position old mid new n item c h t

  -- The leave was appended and played.
  moves_carried : (old new : NodeView) (others : List Cause) → CarriesFirst law old new others → Moves law old new others
  moves_carried old new others h = moves-both law low old h.settled new [] others h.carries.moves h.since

  pub leaves : (old mid new : NodeView) (number : ℕ) (item : Item) (failed : Option Cause) → CarriesFirst law old mid [] → item ≡ leave_item number → number ≡ old.replica.origin → IsProposable item
      → content_of item ≡ Some (content.Leave number) → TellsAndPlays law mid new item failed → Leaves law old new (came_to failed looked.Left)
  leaves old mid new number item failed first made own fine says (inl t) = subst (λ f. Leaves law old new (came_to f looked.Left)) (sym t.is) (leaves_untold law low old mid new item t.cause first t.tells)
  leaves old mid new number item None first made own fine says (inr t) =
      leaves_done law low old mid t.told new item first t.tells t.plays (leaves_of law old mid t.told new number item (moves_carried old mid [] first) made own fine says t.tells t.plays)
  leaves old mid new number item (Some c) first made own fine says (inr t) = leaves_unplayed law low old mid t.told new item c first t.tells t.plays

  -- .. with what was appended by then
  pub report_adds : (rules : ℕ → Entry → Type 0) → MayRun (record law { may = rules }) → ((user : ℕ) (e : Entry) → law.may user e → rules user e) → (old mid new : NodeView) (who n : ℕ) (told : Entry) (failed : Option Cause) → Measures law clean_position old mid (measured.At n) → Moves law mid new (failure_in failed) → OwnAdds who IsOfSessions old.seen mid.seen
      → OwnAdds who (λ e. IsOfSessions e ⊎ (e ≡ told)) mid.seen new.seen → SaysAlone (content.Alive who n) told → ReportAdds who new.replica.cursor old.seen new.seen (came_to failed (looked.Reported n))
  report_adds rules run allows old mid new who n told failed m moves first then says =
      let s = m.measured n refl in
      let k = moves.goes.keeps in
      let legal = m.moves.goes.keeps.later.legal in
      record {
        position = n;
        clean = record {
          log = s.at.log;
          front = front_later law low mid.seen new.seen s.at.log k.later.legal (k.later.more, k.later.seen) s.at.front;
          within = omega (arith, s.is, position_low s.at.log);
          clean = ap (clean_at s.at.log) s.is ∙ position_clean s.at.log;
        };
        before = λ i e p early at there is. ⊎_elim
            (λ (was : Contains (appended_by who old.seen) e). was)
            (λ (k : IsOfSessions e). absurd (subst IsCommand is (says_command e p k there)))
            (first e (reported_by (record law { may = rules }) law run allows mid.seen legal who n e p (held_appended law mid.seen i e legal (s.at.front i e at)) there is));
        low = omega (arith, s.is, position_low s.at.log, s.at.size, k.forward);
        is = λ j e. reported_is failed n j e;
        adds = adds_saying who old.seen mid.seen new.seen told (content.Alive who n) first then says;
      }
