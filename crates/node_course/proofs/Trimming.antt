-- A line had its node trim the log.
use Rattle.std.proofs.Common.{◌≡◌, refl, sym, ap, ◌∙◌, subst, ◌⊎◌, inl, inr, ⊎_elim, Contains, ℕ, ◌+◌, ◌<◌, ◌≤◌, List, [], ◌∷◌, Option, Some, None, length, map, slice_get, slice_set, arith}
use Rattle.std.proofs.lemmas.Bool.{cases_lt}
use Rattle.delos_types.specs.declared.entry.Entry.{Entry}
use Rattle.legal_journal.specs.Law.{Law}
use Rattle.legal_journal.specs.declared.events.Event.{Event}
use Rattle.legal_journal.specs.Journal.{IsLegal, state_of, tail_of, trim_of}
use Rattle.virtual_log.specs.Sealing.{SealsNone}
use Rattle.virtual_log.specs.declared.extend.Extension.{Extension}
use Rattle.engine_api.specs.declared.content.Content.TheVariants as content
use Rattle.engine_api.specs.declared.content.Placed.{Placed}
use Rattle.engine_api.specs.Items.{unpack}
use Rattle.engine_api.specs.Acted.{unpack_all}
use Rattle.engine_api.specs.Members.{least_position}
use Rattle.engine_api.specs.Packing.{packed, trim_item}
use Rattle.replica_api.specs.Replica.{Meaning}
use Rattle.script_text.specs.declared.line.Admin.TheVariants.{Trim}
use Rattle.script_text.specs.declared.asks.NamedLine.{NamedLine}
use Rattle.script_text.specs.declared.asks.Asks.TheVariants as asks
use Rattle.turn_scopes.specs.Seats.{SeatView, node_of}
use Rattle.node_lines.specs.declared.desk.Desk.{Desk}
use Rattle.node_lines.specs.declared.lines.Looked.{Looked}
use Rattle.node_lines.specs.declared.lines.Looked.TheVariants as looked
use Rattle.node_lines.specs.Trimming.{HasTrimmed, TrimsLog, TrimsSo}
use Rattle.node_lines.specs.Workers.{Grows, HasNotLeft, IsCommand, IsHeldReport, IsOfSessions, MayRun, OwnWithin, SaysAlone, TrimAdds, WorkerOk, appended_by, sent_by}
use Rattle.node_course.specs.Script.{AreLines}
use Rattle.node_course.specs.Moments.{NodeCourse, moment, tails}
use Rattle.node_course.specs.Played.{Came}
use Rattle.node_course.specs.Desks.{IsOfNode}
use Rattle.node_course.specs.Leaving.{LeftSo}
use Rattle.node_course.specs.Reporting.{ReportedSo}
use Rattle.node_course.specs.Telling.{HasToldSo, IsLowest, IsTrim, WasHeld}
use Rattle.node_course.specs.Workers.{LineWent, NodeAt}
use Rattle.node_course.proofs.Legal.{worker_legal}
use Rattle.node_course.proofs.Keeping.{moments_or, own_upto}
use Rattle.node_course.proofs.Stands.{stands_on, trim_rises}
use Rattle.node_course.proofs.Told.{TellsOn, alone_is, command_is, stand_on, tells_one, told_asked}
use Rattle.node_course.proofs.Looks.{came_cases, came_on, no_look}
use Rattle.node_course.proofs.Moments.{grows_both, grows_not, moment_now, moment_on, moment_past, moment_seen}
use Rattle.node_lines.proofs.Own.{stays_on}
use Rattle.node_course.proofs.Lowest.{lowest_is}
use Rattle.node_course.proofs.Lines.{at_get}
use Rattle.node_course.proofs.Turning.{not_left}
use Rattle.node_course.proofs.Advance.{advanced, failed_of}
use Rattle.node_course.proofs.Playing.{none_taken}
use Rattle.node_course.proofs.Telling.{line_told, stands_now}

module _ (law : Law) (meaning : Meaning) (run : MayRun law) (lines : List NamedLine) (home : ℕ → ℕ) (nodes : ℕ) (c : NodeCourse) (looks : List (Option Looked)) (n from i : ℕ) (line : NamedLine) (look : Looked) (seat seat' : SeatView) (desks : List Desk) (journal : List Event) (are : AreLines lines home nodes) (at : slice_get lines i ≡ Some line) (node : line.node ≡ n) (phase : line.phase ≡ c.phase) (asks_is : line.asks ≡ asks.Admin Trim) (was : NodeAt law meaning lines home nodes c looks n from i c.phase seat desks) (still : SealsNone n c.seen journal) (adds : TrimAdds n c.seen journal) (does : TrimsLog (record law { may = OwnWithin n law.may (sent_by desks) }) (node_of seat c.seen) (node_of seat' journal) look) (now : WorkerOk law meaning n journal seat' desks) where
  abbrev then' : NodeCourse
  then' = advanced c n (map (λ g. g.cause) does.moves.goes.given) journal c.when

  abbrev So : Looked → Type 0
  So = TrimsSo (node_of seat c.seen) (node_of seat' journal) does.others

  legal : IsLegal law journal
  legal = worker_legal law meaning n journal seat' desks now

  not_yet : slice_get looks i ≡ Some None
  not_yet = was.waiting i line (omega arith) at node

  abbrev looks' : List (Option Looked)
  looks' = slice_set looks i (Some look)

  -- what the calls came across but what sessions were given is by what the log failed, or the disk
  paid_is : (x : Looked) → So x → does.others ≡ failed_of x
  paid_is (looked.Found after found) h = absurd h
  paid_is (looked.Kept k) h = absurd h
  paid_is (looked.Failed k) h = h
  paid_is (looked.Extended x) h = absurd h
  paid_is (looked.Reported position) h = absurd h
  paid_is looked.Left h = absurd h
  paid_is (looked.Trimmed trim) h = h.0

  of_node : (x : Looked) → So x → IsOfNode Trim x
  of_node (looked.Found after found) h = h
  of_node (looked.Kept k) h = h
  of_node (looked.Failed k) h = tt
  of_node (looked.Extended x) h = h
  of_node (looked.Reported position) h = h
  of_node looked.Left h = h
  of_node (looked.Trimmed trim) h = tt

  -- nothing was replaced
  none : (x : Extension) → look ≡ looked.Extended x → ⊥
  none x is = subst So is does.trims

  -- it told nothing of itself
  none_reported : (x : Looked) → So x → ReportedSo journal (tails then' line.phase) seat'.node.replica.cursor n x
  none_reported (looked.Found after found) h = tt
  none_reported (looked.Kept k) h = tt
  none_reported (looked.Failed k) h = tt
  none_reported (looked.Extended x) h = tt
  none_reported (looked.Reported position) h = absurd h
  none_reported looked.Left h = tt
  none_reported (looked.Trimmed trim) h = tt

  none_left : (x : Looked) → So x → LeftSo journal seat'.node.replica.cursor n x
  none_left (looked.Found after found) h = tt
  none_left (looked.Kept k) h = tt
  none_left (looked.Failed k) h = tt
  none_left (looked.Extended x) h = tt
  none_left (looked.Reported position) h = tt
  none_left looked.Left h = absurd h
  none_left (looked.Trimmed trim) h = tt

  stood : (x : Looked) → So x → HasToldSo journal n x
  stood (looked.Found after found) h = tt
  stood (looked.Kept k) h = tt
  stood (looked.Failed k) h = tt
  stood (looked.Extended x) h = tt
  stood (looked.Reported position) h = absurd h
  stood looked.Left h = absurd h
  stood (looked.Trimmed trim) h = tt

  -- whenever it had begun to ask for it, the log had held a report of as much
  asks_behind : (early : List Event) (e : Entry) (p : Placed) (position : ℕ) → Grows early journal → Contains (appended_by n early) e → Contains (unpack 0 e) p → p.content ≡ content.Trim position → content.Trim adds.position ≡ content.Trim position
      → Contains (appended_by n c.seen) e ⊎ WasHeld early position
  asks_behind early e p position up own among is told = ⊎_elim
      (λ (low : Grows early adds.before). ⊎_elim
      (λ (was : Contains (appended_by n c.seen) e). inl was)
      (λ (all : IsOfSessions e). absurd (subst IsCommand is (command_is e p all among)))
      (adds.none e (own_upto n early adds.before low e own)))
      (λ (high : Grows adds.before early × (length adds.before < length early)).
      inr (record { before = adds.before; grows = high.0; earlier = high.1; held = subst (IsHeldReport adds.before) (same told) adds.held }))
      (moments_or early adds.before journal up adds.later)
    where
      same : content.Trim adds.position ≡ content.Trim position → adds.position ≡ position
      same e = cc

  tells : TellsOn lines looks' n seat.node.replica.cursor seat'.node.replica.cursor c.seen journal
  tells =
      tells_one law c.seen journal (does.moves.goes.spends.more, does.moves.goes.spends.seen) legal lines looks looks' n (came_on lines looks n i line look at not_yet) run seat.node.replica.cursor seat'.node.replica.cursor
      does.moves.goes.keeps.forward was.did.told (content.Trim adds.position) adds.reported tt asks_behind adds.adds

  -- the node hadn't left, and didn't
  stays : HasNotLeft n journal
  stays = stays_on law law run (λ user e h. h) journal legal n (λ e. IsOfSessions e ⊎ SaysAlone (content.Trim adds.position) e) c.seen
      (not_left law run lines looks n c.seen was.did.legal was.did.told i was.waiting home nodes are line at node) adds.adds none_now
    where
      apart : content.Trim adds.position ≡ content.Leave n → ⊥
      apart e = cc

      none_now : (e : Entry) (p : Placed) → IsOfSessions e ⊎ SaysAlone (content.Trim adds.position) e → Contains (unpack 0 e) p → p.content ≡ content.Leave n → ⊥
      none_now e p (inl all) among is = subst IsCommand is (command_is e p all among)
      none_now e p (inr alone) among is = apart (sym (alone_is (content.Trim adds.position) e p alone among) ∙ is)

  -- what the node's lines before told stood in the log before the line
  told_before : (j : ℕ) (m : NamedLine) (x : Looked) → Came lines looks' n j m x → j < i → HasToldSo c.seen n x
  told_before j m x come low = by (came_cases lines looks n i line look at not_yet j m x come)
    where
      by : Came lines looks n j m x ⊎ ((j ≡ i) × (m ≡ line) × (look ≡ x)) → HasToldSo c.seen n x
      by (inl before) =
          let up = moment_seen c was.did.rise (m.phase + 1) in
          stand_on (moment c (m.phase + 1)) c.seen (λ y s. stands_on law (moment c (m.phase + 1)) c.seen up.0 up.1 was.did.legal y s) n x (was.did.stand j m x before)
      by (inr it) = absurd (omega (arith, it.0, low))

  -- it trimmed the log no lower than some node needs
  lowest : (trim : ℕ) → HasTrimmed (node_of seat c.seen) (node_of seat' journal) trim → IsLowest lines looks' nodes n c.seen i trim
  lowest trim h =
      let there = at_get (λ (l : NamedLine). (1 ≤ l.node) × (l.node ≤ nodes)) lines i line are.nodes_are at in
      lowest_is law run.low c.seen journal does.moves.goes.spends.more does.moves.goes.spends.seen legal h.log h.front h.from lines looks' nodes n i trim (omega (arith, there.0, node)) (omega (arith, there.1, node)) stays
      (subst (λ k. least_position k (unpack_all 0 h.log) ≤ trim) was.nodes_is h.reached) told_before

  -- its lines before trimmed the log no further than it was then
  earlier : (j : ℕ) (m : NamedLine) (less : ℕ) → Came lines looks' n j m (looked.Trimmed less) → j < i → less ≤ trim_of (state_of c.seen)
  earlier j m less come low = by (came_cases lines looks n i line look at not_yet j m (looked.Trimmed less) come)
    where
      by : Came lines looks n j m (looked.Trimmed less) ⊎ ((j ≡ i) × (m ≡ line) × (look ≡ looked.Trimmed less)) → less ≤ trim_of (state_of c.seen)
      by (inl before) =
          let k = was.did.trims j m less before in
          let up = grows_both k.early (moment c (m.phase + 1)) c.seen k.ended (moment_seen c was.did.rise (m.phase + 1)) in
          let rises = trim_rises law k.early c.seen up.0 up.1 was.did.legal in
          let upto = k.upto in
          omega (arith, upto, rises)
      by (inr it) = absurd (omega (arith, it.0, low))

  -- by now none of its lines was played but those before, and this one
  asked_before : (j : ℕ) (m : NamedLine) (x : Looked) → Came lines looks' n j m x → (m.asks ≡ asks.Admin Trim → ⊥) → j < i
  asked_before j m x come other = by (came_cases lines looks n i line look at not_yet j m x come)
    where
      by : Came lines looks n j m x ⊎ ((j ≡ i) × (m ≡ line) × (look ≡ x)) → j < i
      by (inl before) = ⊎_elim (λ (low : j < i). low) (λ (high : i ≤ j). absurd (no_look x (sym (was.waiting j m high before.is before.own) ∙ before.looked))) (cases_lt j i)
      by (inr it) = absurd (other (ap (λ (y : NamedLine). y.asks) it.1 ∙ asks_is))

  trimmed : (trim : ℕ) → look ≡ looked.Trimmed trim → IsTrim lines looks' nodes n then' i line trim
  trimmed trim is =
      let h : So (looked.Trimmed trim) = subst So is does.trims in
      record {
        before = c.seen;
        early = journal;
        began = subst (λ m. Grows m c.seen) (sym (moment_past c then' line.phase refl (let long = was.did.long in omega (arith, long, phase)))) (moment_seen c was.did.rise line.phase);
        went = (does.moves.goes.spends.more, does.moves.goes.spends.seen);
        ended = subst (Grows journal) (sym (moment_now then' (line.phase + 1) (let long = was.did.long in omega (arith, long, phase)))) (grows_not journal);
        lowest = lowest trim h.1;
        earlier = earlier;
        upto = h.1.upto;
        asked = told_asked lines looks' n (λ k m. k < i) journal asked_before tells.told;
        position = h.1.position;
        log = h.1.log;
        front = h.1.front;
        from =
            let old : tails then' line.phase ≡ tails c line.phase = ap (λ m. tail_of (state_of m)) (moment_past c then' line.phase refl (let long = was.did.long in omega (arith, long, phase))) in
            let up = (moment_on c was.did.rise law was.did.legal line.phase).tail in
            let met = h.1.from in
            omega (arith, old, up, met);
        least = h.1.least ∙ ap (λ k. least_position k (unpack_all 0 h.1.log)) was.nodes_is;
        stands = stands_now law seat.who h.1.synced journal (packed seat.node.replica.origin (trim_item h.1.position ∷ [])) legal h.1.landed (content.Trim h.1.position) h.1.says;
      }

  pub line_trimmed : LineWent law meaning lines home nodes c looks' n from (i + 1) journal seat' desks
  line_trimmed =
      line_told law meaning lines home nodes c looks n from i line Trim look seat seat' desks desks (none_taken desks) journal are at node phase asks_is was still does.others does.moves now none
      (paid_is look does.trims) (of_node look does.trims) (none_reported look does.trims) (none_left look does.trims)
      tells (stood look does.trims) trimmed (λ position is. absurd (subst So is does.trims))
