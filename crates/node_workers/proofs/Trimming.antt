-- A node asks for a trim to the least position of a member, plays that, and trims the log.
use Rattle.std.proofs.Common.{◌≡◌, refl, sym, ap, ◌∙◌, subst, ⊎_elim, ◌⊎◌, inl, inr, ℕ, ◌≤◌, false, List, [], ◌∷◌, ◌++◌, length, Some, None, arith}
use Rattle.std.specs.Prelude.{Contains}
use Rattle.delos_types.specs.declared.entry.Entry.{Entry}
use Rattle.delos_types.specs.declared.item.Item.{Item}
use Rattle.delos_types.specs.declared.cause.Cause.{Cause}
use Rattle.legal_journal.specs.Law.{Law}
use Rattle.legal_journal.specs.declared.events.Event.{Event}
use Rattle.legal_journal.specs.Journal.{IsLegal}
use Rattle.journal_laws.specs.Changes.{TrimsUpTo, appended}
use Rattle.journal_laws.proofs.Changes.{appended_stays}
use Rattle.virtual_log.specs.Holding.{Holds}
use Rattle.engine_api.specs.declared.content.Content.TheVariants.{Leave, Trim}
use Rattle.engine_api.specs.declared.content.Placed.{Placed}
use Rattle.engine_api.specs.Acted.{unpack_all}
use Rattle.engine_api.specs.Items.{content_of, placed_from, unpack}
use Rattle.engine_api.specs.Members.{has_left, least_position}
use Rattle.engine_api.specs.Packing.{IsProposable, trim_item}
use Rattle.log_laws.specs.State.{IsStateOf}
use Rattle.log_laws.proofs.Membership.{least_upto}
use Rattle.replica_api.specs.Replica.{saved_in}
use Rattle.base_engine.specs.Following.{IsStateAt}
use Rattle.base_engine.specs.Reading.{IsFront}
use Rattle.base_engine.specs.Trimming.{least_of, trim_to}
use Rattle.turn_scopes.specs.Floors.{FloorIs}
use Rattle.base_engine.specs.Node.{NodeView}
use Rattle.node_lines.specs.declared.lines.Looked.{Looked}
use Rattle.node_lines.specs.declared.lines.Looked.TheVariants as looked
use Rattle.node_lines.specs.declared.measure.Measured.TheVariants as measured
use Rattle.node_lines.specs.Measuring.{Measures}
use Rattle.node_lines.specs.Trimming.{Cuts, TrimsLog}
use Rattle.node_lines.specs.Steps.{TellsAndPlays}
use Rattle.node_lines.specs.Workers.{Grows, IsCommand, IsHeldReport, IsOfSessions, IsReported, OwnAdds, HasNotLeft, MayRun, ReportsUpTo, TrimAdds, SaysAlone, appended_by}
use Rattle.node_lines.proofs.Assembling.{trims_of, trims_done, trims_uncut, trims_unplayed, trims_untold}
use Rattle.node_lines.proofs.Cleaning.{front_appended, same_front, says_command, says_that}
use Rattle.node_lines.proofs.Floors.{least-in_state, point-in_state}
use Rattle.node_lines.proofs.Own.{own_adds_wider, own_appended, reported_by, stays_on}
use Rattle.node_lines.proofs.Leaving.{known_played}
use Rattle.node_lines.proofs.Saying.{is_member, least_held, least_said, position_low}
use Rattle.node_workers.proofs.Telling.{tells_moves}

-- What was appended meanwhile

pub trim_adds_none : (who : ℕ) (old new : List Event) → Grows old new → OwnAdds who IsOfSessions old new → TrimAdds who old new
trim_adds_none who old new g h = record {
  position = 0;
  reported = inl refl;
  adds = own_adds_wider who IsOfSessions (λ e. IsOfSessions e ⊎ SaysAlone (Trim 0) e) old new (λ e k. inl k) h;
  before = old;
  later = g;
  none = λ e k. inl k;
  held = inl refl;
}

pub trim_adds_told : (who : ℕ) (old mid new : List Event) (position : ℕ) → IsReported new position → OwnAdds who (λ e. IsOfSessions e ⊎ SaysAlone (Trim position) e) old new
    → Grows mid new → OwnAdds who IsOfSessions old mid → IsHeldReport mid position → TrimAdds who old new
trim_adds_told who old mid new position reported adds g none held = record { position = position; reported = reported; adds = adds; before = mid; later = g; none = none; held = held }

-- what was reported was so at each later moment
pub reported_on : (old new more : List Event) (n : ℕ) → new ≡ old ++ more → IsReported old n → IsReported new n
reported_on old new more n seen (inl none) = inl none
reported_on old new more n seen (inr h) = let s = h.1 in inr (
  h.0,
  record {
    entry = s.entry;
    appended_is = subst (λ es. Contains (appended es) s.entry) (sym seen) (appended_stays old more s.entry s.appended_is);
    placed = s.placed;
    among = s.among;
    is = s.is;
  },
)

module _ (law : Law) (low : (log : List Entry) (n : ℕ) → law.floor log n → n ≤ length log) where
  -- It was asked for no trim, or what was asked wasn't played.
  pub trims_not : (old mid new : NodeView) (n : ℕ) (item : Item) (c : Cause) → Measures law (λ log. least_position old.nodes (unpack_all 0 log)) old mid (measured.At n) → TellsAndPlays law mid new item (Some c) → TrimsLog law old new (looked.Failed c)
  trims_not old mid new n item c h (inl t) =
      let same : t.cause ≡ c = (let e = t.is in cc) in
      subst (λ x. TrimsLog law old new (looked.Failed x)) same (trims_untold law low (λ log. least_position old.nodes (unpack_all 0 log)) old mid new n item t.cause h t.tells)
  trims_not old mid new n item c h (inr t) = trims_unplayed law low (λ log. least_position old.nodes (unpack_all 0 log)) old mid t.told new n item c h t.tells t.plays

  -- the position that the node asks for, some node reported
  pub asks_reported : (old mid : NodeView) (n : ℕ) → Measures law (λ log. least_position old.nodes (unpack_all 0 log)) old mid (measured.At n) → IsReported mid.seen n
  asks_reported old mid n m =
      let so = m.measured n refl in
      subst (IsReported mid.seen) (sym so.is) (least_said mid.seen so.at.log (front_appended law mid.seen so.at.log m.moves.goes.keeps.later.legal so.at.front) old.nodes)

  -- .. and the log holds that report
  pub asks_held : (old mid : NodeView) (n : ℕ) → Measures law (λ log. least_position old.nodes (unpack_all 0 log)) old mid (measured.At n) → IsHeldReport mid.seen n
  asks_held old mid n m =
      let so = m.measured n refl in
      subst (IsHeldReport mid.seen) (sym so.is) (least_held mid.seen so.at.log so.at.front old.nodes)

  -- the log may be trimmed as far as the node's state says
  pub may_trim : (node : NodeView) (nodes : ℕ) → node.nodes ≡ nodes → IsLegal law node.seen → IsStateAt Holds IsStateOf node.seen (saved_in node.replica) → FloorIs law.floor nodes → (log : List Entry) → IsFront Holds node.seen log → length log ≡ node.replica.cursor
      → law.floor log (trim_to node.nodes node.replica)
  may_trim node nodes of legal at is log there size =
      let same : at.log ≡ log = same_front law node.seen at.log log legal at.front there (omega (arith, at.size, size)) in
      let m = node.replica.contents in
      let least : least_of node.nodes m ≡ least_position nodes (unpack_all 0 at.log) = ap (λ k. least_of k m) of ∙ least-in_state nodes at.log m at.led in
      let point = point-in_state at.log m at.led in
      subst (λ l. law.floor l (trim_to node.nodes node.replica)) same (is.free at.log (trim_to node.nodes node.replica) (record {
        within = omega (arith, at.size, least, point);
        point = omega (arith, at.size, least, point);
        least = omega (arith, at.size, least, point);
        whole = omega (arith, at.size, least, point);
      }))

  module _ (rules : ℕ → Entry → Type 0) (run : MayRun (record law { may = rules })) (allows : (user : ℕ) (e : Entry) → law.may user e → rules user e) where
    -- who hadn't left is a member still
    member : (old mid played : List Event) (who n : ℕ) (told : Entry) → HasNotLeft who old → IsLegal law mid → OwnAdds who IsOfSessions old mid → IsLegal law played → OwnAdds who (λ e. IsOfSessions e ⊎ (e ≡ told)) mid played
        → unpack 0 told ≡ placed_from 0 0 (Trim n ∷ []) → (log : List Entry) → IsFront Holds played log → has_left (unpack_all 0 log) who ≡ false
    member old mid played who n told stays early first legal adds says log front =
        is_member played log (front_appended law played log legal front) who
        (stays_on (record law { may = rules }) law run allows played legal who (λ e. IsOfSessions e ⊎ (e ≡ told)) mid
        (stays_on (record law { may = rules }) law run allows mid early who IsOfSessions old stays first (λ e p k there is. subst IsCommand is (says_command e p k there)))
        adds none)
      where
        apart : Trim n ≡ Leave who → ⊥
        apart e = cc

        none : (e : Entry) (p : Placed) → IsOfSessions e ⊎ (e ≡ told) → Contains (unpack 0 e) p → p.content ≡ Leave who → ⊥
        none e p (inl s) there is = subst IsCommand is (says_command e p s there)
        none e p (inr t) there is = apart (sym (says_that told (Trim n) p says (subst (λ x. Contains (unpack 0 x) p) t there)) ∙ is)

    -- what the node asks for it has applied: it is a member, and so it asks for no more than it reported itself
    asks_within : (old mid : NodeView) (who n : ℕ) → Measures law (λ log. least_position old.nodes (unpack_all 0 log)) old mid (measured.At n) → OwnAdds who IsOfSessions old.seen mid.seen → 1 ≤ who → who ≤ old.nodes → HasNotLeft who old.seen → ReportsUpTo who old.replica.cursor old.seen
        → n ≤ mid.replica.cursor
    asks_within old mid who n m first some few stays upto =
        let so = m.measured n refl in
        let legal = m.moves.goes.keeps.later.legal in
        let each = front_appended law mid.seen so.at.log legal so.at.front in
        let stays' = stays_on (record law { may = rules }) law run allows mid.seen legal who IsOfSessions old.seen stays first (λ e p k there is. subst IsCommand is (says_command e p k there)) in
        let least = least_upto old.nodes who (unpack_all 0 so.at.log) some few (is_member mid.seen so.at.log each who stays') in
        let own = position_low mid.seen so.at.log each who old.replica.cursor (reports_on old.seen mid.seen who old.replica.cursor legal first upto) in
        omega (arith, so.is, least, own, m.moves.goes.keeps.forward)
      where
        reports_on : (old mid : List Event) (who cursor : ℕ) → IsLegal law mid → OwnAdds who IsOfSessions old mid → ReportsUpTo who cursor old → ReportsUpTo who cursor mid
        reports_on old mid who cursor legal first upto = λ e p sent there position is. ⊎_elim
            (λ (was : Contains (appended_by who old) e). upto e p (own_appended who old e was) there position is)
            (λ (k : IsOfSessions e). absurd (subst IsCommand is (says_command e p k there)))
            (first e (reported_by (record law { may = rules }) law run allows mid legal who position e p sent there is))

    -- The log was trimmed, or the trim failed.
    pub trims : (old mid played new : NodeView) (n who : ℕ) (item : Item) (l : Looked) → Measures law (λ log. least_position old.nodes (unpack_all 0 log)) old mid (measured.At n) → OwnAdds who IsOfSessions old.seen mid.seen
        → item ≡ trim_item n → IsProposable item → content_of item ≡ Some (Trim n) → TellsAndPlays law mid played item None → (told : Entry) → OwnAdds who (λ e. IsOfSessions e ⊎ (e ≡ told)) mid.seen played.seen → unpack 0 told ≡ placed_from 0 0 (Trim n ∷ [])
        → IsStateAt Holds IsStateOf played.seen (saved_in played.replica) → 1 ≤ who → who ≤ old.nodes → HasNotLeft who old.seen → ReportsUpTo who old.replica.cursor old.seen → TrimsUpTo played.replica.cursor played.seen → Cuts law played new l → TrimsLog law old new l
    trims old mid played new n who item l m first made fine content (inl t) told adds says at some few stays upto high cuts = absurd (let e = t.is in cc)
    trims old mid played new n who item (looked.Trimmed trim) m first made fine content (inr t) told adds says at some few stays upto high cuts =
        let moves = tells_moves law low mid played item None (inr t) in
        trims_done law low (λ log. least_position old.nodes (unpack_all 0 log)) old mid t.told played new n trim item m t.tells t.plays cuts
        (trims_of law old mid t.told played new n trim who item m made fine content t.tells t.plays (known_played law t.told played high t.plays) at cuts some few
        (λ log front size. member old.seen mid.seen played.seen who n told stays m.moves.goes.keeps.later.legal first moves.goes.keeps.later.legal adds says log front)
        (let within = asks_within old mid who n m first some few stays upto in omega (arith, within, moves.goes.keeps.forward)))
    trims old mid played new n who item (looked.Failed c) m first made fine content (inr t) told adds says at some few stays upto high cuts =
        trims_uncut law low (λ log. least_position old.nodes (unpack_all 0 log)) old mid t.told played new n item c m t.tells t.plays cuts
    trims old mid played new n who item l m first made fine content (inr t) told adds says at some few stays upto high cuts = absurd cuts.cuts
