-- A line was played that logs no command: what it came to, it came to at once.
use Rattle.std.proofs.Common.{◌≡◌, ◌≢◌, refl, sym, ap, ◌∙◌, subst, ◌⊎◌, inl, inr, ⊎_elim, ℕ, ◌+◌, ◌<◌, ◌≤◌, Bool, false, cond, List, [], ◌++◌, Option, Some, None, map, length, length-set, count_by, slice_get, slice_set, Contains, arith}
use Rattle.std.specs.List.{AllByRecursion}
use Rattle.std.proofs.lemmas.Bool.{cases_lt}
use Rattle.std.proofs.lemmas.List.Sums.{sum_by-append}
use Rattle.delos_types.specs.declared.entry.Entry.{Entry}
use Rattle.delos_types.specs.declared.cause.Cause.{Cause}
use Rattle.delos_types.specs.declared.cause.Cause.TheVariants as cause
use Rattle.table_core.specs.declared.command.Found.{Found}
use Rattle.table_core.specs.declared.command.Query.{Query}
use Rattle.legal_journal.specs.Law.{Law}
use Rattle.legal_journal.specs.declared.events.Event.{Event}
use Rattle.legal_journal.specs.Journal.{IsLegal}
use Rattle.legal_journal.specs.Sealing.{own_seals}
use Rattle.journal_laws.specs.Own.{faults_of}
use Rattle.journal_laws.proofs.Changes.{held_appended}
use Rattle.engine_api.specs.declared.content.Content.TheVariants as content
use Rattle.engine_api.specs.Items.{unpack}
use Rattle.replica_api.specs.Replica.{Meaning}
use Rattle.base_engine.specs.declared.outbox.Given.{Given}
use Rattle.virtual_log.specs.declared.extend.Extension.{Extension}
use Rattle.script_text.specs.declared.line.Session.{Session}
use Rattle.script_text.specs.declared.asks.NamedLine.{NamedLine}
use Rattle.script_text.specs.declared.asks.Asks.TheVariants as asks
use Rattle.fitting_run.specs.Lines.{logs_for}
use Rattle.fitting_run.specs.Faults.{lacks_store}
use Rattle.fabric_core.proofs.Marks.{set_other}
use Rattle.fabric_core.proofs.Shelf.{some_at}
use Rattle.turn_scopes.specs.Seats.{SeatView, node_of}
use Rattle.node_lines.specs.declared.desk.Desk.{Desk}
use Rattle.node_lines.specs.declared.lines.Looked.{Looked}
use Rattle.node_lines.specs.declared.lines.Looked.TheVariants as looked
use Rattle.node_lines.specs.Moving.{causes_of, Moves, strikes}
use Rattle.node_lines.specs.Measuring.{IsCleanPoint}
use Rattle.node_lines.specs.UnderWay.{HasRank}
use Rattle.node_lines.specs.Workers.{Grows, OwnWithin, WorkerOk, appended_by, sent_by}
use Rattle.node_lines.proofs.Own.{own_may}
use Rattle.run_laws.specs.Ended.{CameTo, session_in}
use Rattle.run_laws.proofs.Members.{among-map}
use Rattle.run_laws.proofs.Placing.{same_some}
use Rattle.node_course.specs.Script.{AreLines, asked_by, failed_looks}
use Rattle.node_course.specs.Moments.{NodeCourse, GoesOn, moment, at_node}
use Rattle.node_course.specs.Played.{Came, went_further}
use Rattle.node_course.specs.Behind.{IsCleanSince, ReportsHold, WasReported}
use Rattle.node_course.specs.Course.{IsCourse}
use Rattle.node_course.specs.Reporting.{StandsThere}
use Rattle.node_lines.specs.Turns.{IsAnswered}
use Rattle.node_course.specs.Desks.{DeskAt, LookedSo, PlayedSo}
use Rattle.node_course.specs.Replacing.{AsksNode, Replaced}
use Rattle.node_course.specs.Telling.{HasToldSo, IsTrim}
use Rattle.node_course.specs.Workers.{LineWent, NodeAt}
use Rattle.node_course.proofs.Legal.{worker_legal, worker_within}
use Rattle.node_course.proofs.Looks.{came_cases, came_on}
use Rattle.node_course.proofs.Lines.{asked_more, asked_none, at_get, phase_before}
use Rattle.node_course.proofs.Moments.{grows_both, grows_not, moment_now, moment_seen}
use Rattle.node_course.proofs.Held.{reported_on}
use Rattle.node_course.proofs.Sent.{sent_low}
use Rattle.node_course.proofs.Stands.{clean_on, says_one, stands_on}
use Rattle.node_course.proofs.Told.{TellsOn, stand_then, trim_on}
use Rattle.node_course.proofs.Replacing.{LooksOn, replaced_then}
use Rattle.node_course.proofs.Advance.{advance, advanced, advanced_on, count_at_node, events_then, failed_of, failed_set, here_then, stores_counted}
use Rattle.node_course.proofs.Growing.{DeskOfOld, Grown, desk_answered, ended_grows, grown_of, halted_grows, played_grows}
use Rattle.node_course.proofs.Coming.{given_then}

module _ (law : Law) (meaning : Meaning) (lines : List NamedLine) (home : ℕ → ℕ) (nodes : ℕ) (c : NodeCourse) (looks : List (Option Looked)) (n from i : ℕ) (line : NamedLine) (look : Looked) (seat seat' : SeatView) (desks desks' : List Desk) (taken : IsAnswered desks desks') (journal : List Event) (are : AreLines lines home nodes) (at : slice_get lines i ≡ Some line) (node : line.node ≡ n) (phase : line.phase ≡ c.phase) (unlogged : (s : ℕ) → logs_for s line ≡ false) (was : NodeAt law meaning lines home nodes c looks n from i c.phase seat desks) (others : List Cause) (moves : Moves (record law { may = OwnWithin n law.may (sent_by desks) }) (node_of seat c.seen) (node_of seat' journal) others) (paid_is : others ≡ failed_of look) (on : LooksOn (length law.shelf) n c.seen journal look) (own : (x : Extension) → look ≡ looked.Extended x → AsksNode line.asks) (seals : faults_of n journal ≡ [] → own_seals n journal ≤ went_further n lines (slice_set looks i (Some look))) (now : WorkerOk law meaning n journal seat' desks') (tells : TellsOn lines (slice_set looks i (Some look)) n seat.node.replica.cursor seat'.node.replica.cursor c.seen journal) (stood : HasToldSo journal n look)
    (trimmed : (trim : ℕ) → look ≡ looked.Trimmed trim → IsTrim lines (slice_set looks i (Some look)) nodes n (advanced c n (map (λ g. g.cause) moves.goes.given) journal c.when) i line trim)
    (clean : (position : ℕ) → look ≡ looked.Reported position → IsCleanSince c.seen journal position) (high_read : (after : ℕ) (found : Found) → look ≡ looked.Found after found → seat.node.replica.cursor ≤ after) where
  abbrev came : List Cause
  came = map (λ g. g.cause) moves.goes.given

  abbrev then' : NodeCourse
  then' = advanced c n came journal c.when

  abbrev looks' : List (Option Looked)
  looks' = slice_set looks i (Some look)

  not_yet : slice_get looks i ≡ Some None
  not_yet = was.waiting i line (omega arith) at node

  legal : IsLegal law journal
  legal = worker_legal law meaning n journal seat' desks' now

  goes : GoesOn c then'
  goes = advanced_on c n came journal moves.goes.spends.more c.when moves.goes.spends.seen

  pub grown : Grown law c then'
  grown = grown_of law c then' goes was.did.long was.did.rise legal

  both : (P : Cause → Bool) → count_by P came + count_by P (failed_of look) ≡ count_by P (causes_of moves.goes.given others)
  both P =
      let a = ap (count_by P) paid_is in
      let b : count_by P (came ++ others) ≡ count_by P came + count_by P others = sum_by-append (λ k. cond (P k) 1 0) came others in
      omega (arith, a, b)

  paid : (by : ℕ → Cause → Bool) → failed_looks by lines looks' ≡ failed_looks by lines looks + count_by (by n) (failed_of look)
  paid by = failed_set by lines looks i line look at not_yet ∙ ap (λ m. failed_looks by lines looks + count_by (by m) (failed_of look)) node

  size : length looks' ≡ length looks
  size = length-set looks i (Some look)

  elsewhere : (j : ℕ) → j ≢ i → slice_get looks' j ≡ slice_get looks j
  elsewhere j other = set_other looks i j (Some look) other

  -- none of the node's lines behind it was played
  behind : (j : ℕ) (m : NamedLine) → slice_get lines j ≡ Some m → m.node ≡ n → i < j → slice_get looks j ≡ Some None
  behind j m get there low = was.waiting j m (omega (arith, low)) get there

  abbrev Cases : ℕ → NamedLine → Looked → Type 0
  Cases j l x = Came lines looks n j l x ⊎ ((j ≡ i) × (l ≡ line) × (look ≡ x))

  cases : (j : ℕ) (l : NamedLine) (x : Looked) → Came lines looks' n j l x → Cases j l x
  cases j l x come = came_cases lines looks n i line look at not_yet j l x come

  ahead : (j : ℕ) (l : NamedLine) (x : Looked) → Came lines looks' n j l x → l.phase ≤ c.phase
  ahead j l x come = by (cases j l x come)
    where
      by : Cases j l x → l.phase ≤ c.phase
      by (inl before) = was.did.ahead j l x before
      by (inr it) = let e = ap (λ (m : NamedLine). m.phase) it.1 in omega (arith, e, phase)

  -- of the phase to come the present moment is that of its beginning
  now_is : moment then' (c.phase + 1) ≡ journal
  now_is = moment_now then' (c.phase + 1) (let long = was.did.long in omega (arith, long))

  replaced : Replaced lines looks' n then' (length law.shelf)
  replaced = replaced_then law c then' grown lines looks n was.did.ahead was.did.replaced i line look at node phase not_yet on own behind now_is (moment_seen c was.did.rise)

  next_is : (l : NamedLine) → l ≡ line → moment then' (l.phase + 1) ≡ journal
  next_is l same = ap (λ (m : NamedLine). moment then' (m.phase + 1)) same ∙ (ap (λ p. moment then' (p + 1)) phase ∙ now_is)

  stand : (j : ℕ) (l : NamedLine) (x : Looked) → Came lines looks' n j l x → HasToldSo (moment then' (l.phase + 1)) n x
  stand j l x come = by (cases j l x come)
    where
      by : Cases j l x → HasToldSo (moment then' (l.phase + 1)) n x
      by (inl before) = stand_then law c then' grown lines looks looks' nodes n l x (was.did.stand j l x before)
      by (inr it) = subst (λ m. HasToldSo m n x) (sym (next_is l it.1)) (subst (HasToldSo journal n) it.2 stood)

  trims : (j : ℕ) (l : NamedLine) (trim : ℕ) → Came lines looks' n j l (looked.Trimmed trim) → IsTrim lines looks' nodes n then' j l trim
  trims j l trim come = by (cases j l (looked.Trimmed trim) come)
    where
      -- of lines before one that was played before none was played since
      back : Came lines looks n j l (looked.Trimmed trim) → (k : ℕ) (m : NamedLine) (x : Looked) → Came lines looks' n k m x → k < j → Came lines looks n k m x
      back before k m x come' low = of (cases k m x come')
        where
          none : Some None ≡ Some (Some (looked.Trimmed trim)) → ⊥
          none e = cc

          of : Cases k m x → Came lines looks n k m x
          of (inl h) = h
          of (inr it) = absurd (none (sym (behind j l before.is before.own (omega (arith, it.0, low))) ∙ before.looked))

      by : Cases j l (looked.Trimmed trim) → IsTrim lines looks' nodes n then' j l trim
      by (inl before) = trim_on law c then' grown lines looks looks' nodes n (came_on lines looks n i line look at not_yet) j l trim (was.did.ahead j l (looked.Trimmed trim) before) (back before) (was.did.trims j l trim before)
      by (inr it) = subst (λ k. IsTrim lines looks' nodes n then' k l trim) (sym it.0) (subst (λ m. IsTrim lines looks' nodes n then' i m trim) (sym it.1) (trimmed trim it.2))

  -- What comes behind its reports

  -- of a session it appended no command but of its lines before
  rank_low : (s r : ℕ) (e : Entry) → Contains (appended_by n journal) e → HasRank s r e → r ≤ asked_by lines n s i
  rank_low s r e own has =
      let within = own_may (record law { may = OwnWithin n law.may (sent_by desks') }) journal n e (worker_within law meaning n journal seat' desks' now) own in
      let low = within.1 refl s r has in
      let most = sent_low desks' s (asked_by lines n s i)
      (λ d get.
      let w = taken s d get in
      let sent = ap (λ (y : Desk). y.sent) w.2 in
      let few = (was.ok.each s w.0 w.1).few in
      let asked = (was.each s w.0 w.1).asked in
      omega (arith, sent, few, asked)) in
      omega (arith, low, most)

  each_reported : (j : ℕ) (l : NamedLine) (position : ℕ) → Came lines looks' n j l (looked.Reported position) → WasReported lines n then' j l.phase position
  each_reported j l position come = by (cases j l (looked.Reported position) come)
    where
      by : Cases j l (looked.Reported position) → WasReported lines n then' j l.phase position
      by (inl before) = reported_on law c then' grown lines looks looks' n j l.phase position (was.did.reports.each j l position before)
      by (inr it) = record {
        early = journal;
        upto = subst (Grows journal) (sym (next_is l it.1)) (grows_not journal);
        clean = (clean position it.2).clean;
        own = λ s r e own has. subst (λ k. r ≤ asked_by lines n s k) (sym it.0) (rank_low s r e own has);
      }

  -- what it reported before it had applied
  report_low : (j : ℕ) (l : NamedLine) (position : ℕ) → Came lines looks n j l (looked.Reported position) → position ≤ seat.node.replica.cursor
  report_low j l position come =
      let up = moment_seen c was.did.rise (l.phase + 1) in
      let s : StandsThere c.seen (content.Alive n position) =
      stands_on law (moment c (l.phase + 1)) c.seen up.0 up.1 was.did.legal (content.Alive n position) (was.did.stand j l (looked.Reported position) come) in
      let q = says_one (unpack 0 s.entry) (content.Alive n position) s.says in
      was.reports s.entry q.0 (held_appended law c.seen s.at s.entry was.did.legal s.held) q.1 position q.2

  high_reads : (j k : ℕ) (l m : NamedLine) (position after : ℕ) (found : Found) → Came lines looks' n j l (looked.Reported position) → Came lines looks' n k m (looked.Found after found) → j < k → position ≤ after
  high_reads j k l m position after found told saw low = by (cases k m (looked.Found after found) saw) (cases j l (looked.Reported position) told)
    where
      none : Some None ≡ Some (Some (looked.Found after found)) → ⊥
      none e = cc

      by : Cases k m (looked.Found after found) → Cases j l (looked.Reported position) → position ≤ after
      by (inl saw') (inl told') = was.did.reports.reads j k l m position after found told' saw' low
      by (inl saw') (inr it) = absurd (none (sym (behind k m saw'.is saw'.own (let here = it.0 in omega (arith, here, low))) ∙ saw'.looked))
      by (inr it) (inl told') = let upto = report_low j l position told' in let high = high_read after found it.2 in omega (arith, upto, high)
      by (inr it) (inr it') = absurd (let a = it.0 in let b = it'.0 in omega (arith, a, b, low))

  -- where it looked before it had applied
  read_low : (j : ℕ) (l : NamedLine) (s : Session) (query : Query) (after : ℕ) (found : Found) → Came lines looks n j l (looked.Found after found) → l.asks ≡ asks.Look s query → j < i → after ≤ seat.node.replica.cursor
  read_low j l s query after found come asks_is low =
      let h : PlayedSo lines c c.phase seat.node.replica.cursor n desks looks j l.phase (asks.Look s query) = subst (PlayedSo lines c c.phase seat.node.replica.cursor n desks looks j l.phase) asks_is (was.played j l low come.is come.own) in
      let few = at_get (λ (m : NamedLine). session_in m.asks ≤ 63) lines j l are.known come.is in
      let same = ap session_in asks_is in
      let size = was.ok.size in
      let d = some_at desks s.id (omega (arith, few, same, size)) in
      (subst (LookedSo lines c seat.node.replica.cursor n d.0 j l.phase s.id query) (same_look h.0 (looked.Found after found) (sym h.1 ∙ come.looked)) (h.2 d.0 d.1)).within
    where
      same_look : (x y : Looked) → Some (Some x) ≡ Some (Some y) → x ≡ y
      same_look x y e = cc

  reads_forward : (j k : ℕ) (l m : NamedLine) (s : Session) (query : Query) (after later : ℕ) (found next : Found) → Came lines looks' n j l (looked.Found after found) → Came lines looks' n k m (looked.Found later next) → l.asks ≡ asks.Look s query → j < k
      → after ≤ later
  reads_forward j k l m s query after later found next saw then' asks_is low = by (cases k m (looked.Found later next) then') (cases j l (looked.Found after found) saw)
    where
      none : Some None ≡ Some (Some (looked.Found later next)) → ⊥
      none e = cc

      by : Cases k m (looked.Found later next) → Cases j l (looked.Found after found) → after ≤ later
      by (inl b) (inl a) = was.did.reports.forward j k l m s query after later found next a b asks_is low
      by (inl b) (inr it) = absurd (none (sym (behind k m b.is b.own (let here = it.0 in omega (arith, here, low))) ∙ b.looked))
      by (inr it) (inl a) =
          let upto = read_low j l s query after found a asks_is (let here = it.0 in omega (arith, here, low)) in
          let high = high_read later next it.2 in
          omega (arith, upto, high)
      by (inr it) (inr it') = absurd (let a = it.0 in let b = it'.0 in omega (arith, a, b, low))

  -- what it reported before was clean before
  was_clean : (j : ℕ) (l : NamedLine) (position : ℕ) → Came lines looks n j l (looked.Reported position) → IsCleanPoint c.seen position
  was_clean j l position come =
      let k = was.did.reports.each j l position come in
      let up = grows_both k.early (moment c (l.phase + 1)) c.seen k.upto (moment_seen c was.did.rise (l.phase + 1)) in
      clean_on law k.early c.seen up.0 up.1 was.did.legal position k.clean

  high_reports : (j k : ℕ) (l m : NamedLine) (position later : ℕ) → Came lines looks' n j l (looked.Reported position) → Came lines looks' n k m (looked.Reported later) → j < k → position ≤ later
  high_reports j k l m position later told again low = by (cases k m (looked.Reported later) again) (cases j l (looked.Reported position) told)
    where
      none : Some None ≡ Some (Some (looked.Reported later)) → ⊥
      none e = cc

      by : Cases k m (looked.Reported later) → Cases j l (looked.Reported position) → position ≤ later
      by (inl again') (inl told') = was.did.reports.again j k l m position later told' again' low
      by (inl again') (inr it) = absurd (none (sym (behind k m again'.is again'.own (let here = it.0 in omega (arith, here, low))) ∙ again'.looked))
      by (inr it) (inl told') = (clean later it.2).most position (was_clean j l position told')
      by (inr it) (inr it') = absurd (let a = it.0 in let b = it'.0 in omega (arith, a, b, low))

  reports : ReportsHold lines looks' n then'
  reports = record { each = each_reported; reads = high_reads; forward = reads_forward; again = high_reports }

  -- what came across, the node's own events told
  told_by : (kind : Cause → Bool) → kind cause.Store ≡ false → count_by kind (causes_of moves.goes.given others) ≤ count_by kind (faults_of n moves.goes.spends.more)
  told_by kind store = subst (λ who. count_by kind (causes_of moves.goes.given others) ≤ count_by kind (faults_of who moves.goes.spends.more)) was.ok.who_is (moves.goes.spends.events kind store)

  did : IsCourse law lines nodes n then' looks'
  did = advance law lines nodes n c looks was.did then' goes legal
      (here_then law lines nodes n c looks was.did came journal moves.goes.spends.more c.when moves.goes.spends.seen) looks' (came_on lines looks n i line look at not_yet) size
      (λ kind store. events_then law lines nodes n c looks was.did came journal moves.goes.spends.more c.when moves.goes.spends.seen looks' kind store
      (let e = told_by kind store in let a = both kind in let b = paid (at_node n kind) in let d = count_at_node n kind (failed_of look) in omega (arith, e, a, b, d)))
      ahead replaced seals tells.told (tells.stays was.did.behind) stand trims reports

  none_more : (s : ℕ) → asked_by lines n s (i + 1) ≡ asked_by lines n s i
  none_more s = asked_none lines n s i line at (unlogged s)

  -- the desk of before, at which answers may have been taken
  of_old : (s : ℕ) → DeskOfOld c then' seat.node.replica.cursor desks desks' s
  of_old s = λ d get. let w = taken s d get in (w.0, w.1, desk_answered c then' seat.node.replica.cursor s w.0 d refl w.2)

  each : (s : ℕ) (d : Desk) → slice_get desks' s ≡ Some d → DeskAt lines home then' n from (i + 1) c.phase s d
  each s d get =
      let w = taken s d get in
      let x = was.each s w.0 w.1 in
      let answered = ap (λ (y : Desk). y.answered) w.2 in
      let stopped = ap (λ (y : Desk). y.stopped) w.2 in
      let asked = ap (λ (y : Desk). y.asked) w.2 in
      let sent = ap (λ (y : Desk). y.sent) w.2 in
      record {
        asked = asked ∙ x.asked ∙ sym (none_more s);
        ended = λ a first. let before = sym answered ∙ first in
            ended_grows law c then' grown lines n c.phase c.phase s seat.node.replica.cursor w.0 d a (omega arith) before (desk_answered c then' seat.node.replica.cursor s w.0 d refl w.2) (x.ended a before);
        here = λ a first. x.here a (sym answered ∙ first);
        halted = λ k none stop. halted_grows law c then' grown lines n from i (i + 1) c.phase s k refl (asked_more lines n s i (i + 1) (omega arith)) (x.halted k (sym answered ∙ none) (sym stopped ∙ stop));
        held = λ k none stop. let low = x.held k (sym answered ∙ none) (sym stopped ∙ stop) in omega (arith, low, asked, sent);
      }

  pub all_given : AllByRecursion (λ g. CameTo then'.faults g.cause n c.phase) seat'.node.outbox.given
  all_given = given_then law c n came journal c.when seat.node.outbox.given moves.goes.given seat'.node.outbox.given grown moves.goes.gained
      (λ g m. among-map (λ (x : Given). x.cause) moves.goes.given g m) was.given

  module _ (line_played : PlayedSo lines then' c.phase seat'.node.replica.cursor n desks' looks' i line.phase line.asks) where
    played : (j : ℕ) (l : NamedLine) → j < i + 1 → slice_get lines j ≡ Some l → l.node ≡ n → PlayedSo lines then' c.phase seat'.node.replica.cursor n desks' looks' j l.phase l.asks
    played j l low get there = ⊎_elim
        (λ (before : j < i).
        played_grows law c then' grown lines c.phase c.phase seat.node.replica.cursor seat'.node.replica.cursor n desks desks' looks looks' j l.phase l.asks
        (let up = phase_before lines home nodes are j i l line get at (omega (arith, before)) in omega (arith, up, phase)) (λ over. over) moves.goes.keeps.forward
        (elsewhere j (λ same. absurd (omega (arith, before, same)))) (of_old (session_in l.asks))
        (was.played j l before get there))
        (λ (high : i ≤ j).
        let same : i ≡ j = omega (arith, low, high) in
        let is : line ≡ l = same_some line l (sym at ∙ ap (slice_get lines) same ∙ get) in
        subst (λ k. PlayedSo lines then' c.phase seat'.node.replica.cursor n desks' looks' k l.phase l.asks) same
        (subst (λ (x : NamedLine). PlayedSo lines then' c.phase seat'.node.replica.cursor n desks' looks' i x.phase x.asks) is line_played))
        (cases_lt j i)

    node_then : NodeAt law meaning lines home nodes then' looks' n from (i + 1) c.phase seat' desks'
    node_then = record {
      ok = now;
      did = did;
      nodes_is = moves.goes.keeps.nodes ∙ was.nodes_is;
      order = omega (arith, was.order);
      early = λ j l low get there. let up = phase_before lines home nodes are j i l line get at (omega (arith, low)) in omega (arith, up, phase);
      each = each;
      quiet = λ s same. moves.quiet s (was.quiet s (same ∙ none_more s));
      given = all_given;
      waiting = λ j l high get there. elsewhere j (λ same. absurd (omega (arith, high, same))) ∙ was.waiting j l (omega (arith, high)) get there;
      played = played;
      reports = tells.own was.reports;
      stores = stores_counted lines n c.phase c.faults looks looks' came (failed_of look) (causes_of moves.goes.given others) (strikes seat.node.replica) (strikes seat'.node.replica) both (paid (lacks_store n)) moves.goes.spends.disk was.stores;
    }

    pub line_went : LineWent law meaning lines home nodes c looks' n from (i + 1) journal seat' desks'
    line_went = record {
      course = then';
      seen_is = refl;
      goes = goes;
      node = node_then;
    }

-- nothing was taken
pub none_taken : (desks : List Desk) → IsAnswered desks desks
none_taken desks s d get = (d, get, refl, omega arith)
