-- A line looked at the table at its node.
use Rattle.std.proofs.Common.{◌≡◌, refl, sym, ap, ◌∙◌, subst, ◌⊎◌, inl, inr, ⊎_elim, ℕ, ◌+◌, ◌<◌, ◌≤◌, false, List, [], Option, Some, None, IsSome, map, length, slice_get, slice_set, arith}
use Rattle.std.specs.List.{AllByRecursion}
use Rattle.std.proofs.lemmas.Bool.{cases_lt}
use Rattle.delos_types.specs.declared.cause.Cause.{Cause}
use Rattle.table_core.specs.declared.command.Query.{Query}
use Rattle.table_core.specs.declared.command.Found.{Found}
use Rattle.legal_journal.specs.Law.{Law}
use Rattle.legal_journal.specs.declared.events.Event.{Event}
use Rattle.legal_journal.specs.Journal.{IsLegal, state_of, tail_of}
use Rattle.legal_journal.specs.Sealing.{own_seals}
use Rattle.journal_laws.specs.Own.{faults_of}
use Rattle.virtual_log.specs.Sealing.{SealsNone}
use Rattle.virtual_log.specs.declared.extend.Extension.{Extension}
use Rattle.engine_api.specs.Acted.{asked_in}
use Rattle.engine_api.specs.Order.{gap_from}
use Rattle.replica_api.specs.Replica.{Meaning}
use Rattle.base_engine.specs.Settling.{cause_in}
use Rattle.script_text.specs.declared.line.Session.{Session}
use Rattle.script_text.specs.declared.asks.NamedLine.{NamedLine}
use Rattle.script_text.specs.declared.asks.Asks.TheVariants as asks
use Rattle.fitting_run.specs.Lines.{is_of, logs_for}
use Rattle.fabric_core.proofs.Marks.{set_same}
use Rattle.turn_scopes.specs.Seats.{SeatView, node_of}
use Rattle.node_lines.specs.declared.desk.Desk.{Desk}
use Rattle.node_lines.specs.declared.lines.Looked.{Looked}
use Rattle.node_lines.specs.declared.lines.Looked.TheVariants as looked
use Rattle.node_lines.specs.Lines.{Looks, LooksSo}
use Rattle.node_lines.specs.Workers.{IsOfSessions, MayRun, OwnAdds, OwnWithin, WorkerOk, sent_by}
use Rattle.node_lines.proofs.Moving.{none-before}
use Rattle.run_laws.specs.Ended.{CameTo}
use Rattle.run_laws.proofs.Placing.{same_some}
use Rattle.node_course.specs.Script.{AreLines, BeginsAt, asked_by}
use Rattle.node_course.specs.Moments.{NodeCourse, tails}
use Rattle.node_course.specs.Played.{went_further}
use Rattle.node_course.specs.Behind.{IsCleanSince}
use Rattle.node_course.specs.Desks.{DeskAt, LogsBefore, LookedSo, PlayedSo, SawSo, WasFree, WasStopped}
use Rattle.node_course.specs.Replacing.{AsksNode}
use Rattle.node_course.specs.Telling.{HasToldSo, IsTrim}
use Rattle.node_course.specs.Workers.{LineWent, NodeAt}
use Rattle.node_course.proofs.Legal.{worker_legal}
use Rattle.node_course.proofs.Looks.{came_on}
use Rattle.node_course.proofs.Told.{TellsOn, tells_commands}
use Rattle.node_course.proofs.Moments.{moment_now, moment_on, moment_past}
use Rattle.node_course.proofs.Seals.{seals_played}
use Rattle.node_course.proofs.Lines.{asked_more, asked_there, logs_before}
use Rattle.node_course.proofs.Advance.{advanced, failed_of}
use Rattle.node_course.proofs.Growing.{Grown, came_grows}
use Rattle.node_course.proofs.Coming.{cause_came}
use Rattle.node_course.proofs.Fronts.{front_low}
use Rattle.node_course.proofs.Replacing.{LooksOn}
use Rattle.node_course.proofs.Playing as playing
use Rattle.node_course.proofs.Playing.{none_taken}

module _ (law : Law) (meaning : Meaning) (run : MayRun law) (lines : List NamedLine) (home : ℕ → ℕ) (nodes : ℕ) (c : NodeCourse) (looks : List (Option Looked)) (n from i : ℕ) (line : NamedLine) (session : Session) (query : Query) (desk : Desk) (look : Looked) (seat seat' : SeatView) (desks : List Desk) (journal : List Event) (are : AreLines lines home nodes) (begins : BeginsAt lines from c.phase) (at : slice_get lines i ≡ Some line) (node : line.node ≡ n) (phase : line.phase ≡ c.phase) (asks_is : line.asks ≡ asks.Look session query) (was : NodeAt law meaning lines home nodes c looks n from i c.phase seat desks) (still : SealsNone n c.seen journal) (adds : OwnAdds n IsOfSessions c.seen journal) (desk_at : slice_get desks session.id ≡ Some desk) (does : Looks (record law { may = OwnWithin n law.may (sent_by desks) }) (node_of seat c.seen) (node_of seat' journal) desk query look) (now : WorkerOk law meaning n journal seat' desks) where
  abbrev came : List Cause
  came = map (λ g. g.cause) does.moves.goes.given

  abbrev then' : NodeCourse
  then' = advanced c n came journal c.when

  abbrev looks' : List (Option Looked)
  looks' = slice_set looks i (Some look)

  not_yet : slice_get looks i ≡ Some None
  not_yet = was.waiting i line (omega arith) at node

  -- what the calls came across but what sessions were given is by what the look failed
  paid_is : (x : Looked) → LooksSo (node_of seat c.seen) (node_of seat' journal) desk query does.others x → does.others ≡ failed_of x
  paid_is (looked.Found after found) h = h.0
  paid_is (looked.Kept k) h = h.0
  paid_is (looked.Failed k) h = h.0
  paid_is (looked.Extended x) h = absurd h
  paid_is (looked.Reported position) h = absurd h
  paid_is looked.Left h = absurd h
  paid_is (looked.Trimmed trim) h = absurd h

  on : LooksOn (length law.shelf) n c.seen journal look
  on x is = absurd (subst (LooksSo (node_of seat c.seen) (node_of seat' journal) desk query does.others) is does.looks)

  own : (x : Extension) → look ≡ looked.Extended x → AsksNode line.asks
  own x is = absurd (subst (LooksSo (node_of seat c.seen) (node_of seat' journal) desk query does.others) is does.looks)

  legal : IsLegal law journal
  legal = worker_legal law meaning n journal seat' desks now

  tells : TellsOn lines looks' n seat.node.replica.cursor seat'.node.replica.cursor c.seen journal
  tells =
      tells_commands law c.seen journal (does.moves.goes.spends.more, does.moves.goes.spends.seen) legal lines looks looks' n (came_on lines looks n i line look at not_yet) run
      seat.node.replica.cursor seat'.node.replica.cursor does.moves.goes.keeps.forward was.did.told adds

  -- it told nothing
  stood : (x : Looked) → LooksSo (node_of seat c.seen) (node_of seat' journal) desk query does.others x → HasToldSo journal n x
  stood (looked.Found after found) h = tt
  stood (looked.Kept k) h = tt
  stood (looked.Failed k) h = tt
  stood (looked.Extended x) h = tt
  stood (looked.Reported position) h = absurd h
  stood looked.Left h = absurd h
  stood (looked.Trimmed trim) h = tt

  trimmed : (trim : ℕ) → look ≡ looked.Trimmed trim → IsTrim lines looks' nodes n then' i line trim
  trimmed trim is = absurd (subst (LooksSo (node_of seat c.seen) (node_of seat' journal) desk query does.others) is does.looks)

  -- it looked at no less than the node had applied
  high_read : (after : ℕ) (found : Found) → look ≡ looked.Found after found → seat.node.replica.cursor ≤ after
  high_read after found is =
      let h : LooksSo (node_of seat c.seen) (node_of seat' journal) desk query does.others (looked.Found after found) = subst (LooksSo (node_of seat c.seen) (node_of seat' journal) desk query does.others) is does.looks in
      let same = h.4 in
      let up = does.moves.goes.keeps.forward in
      omega (arith, same, up)

  -- a read reports nothing
  clean : (position : ℕ) → look ≡ looked.Reported position → IsCleanSince c.seen journal position
  clean position is = absurd (subst (LooksSo (node_of seat c.seen) (node_of seat' journal) desk query does.others) is does.looks)

  seals : faults_of n journal ≡ [] → own_seals n journal ≤ went_further n lines looks'
  seals = seals_played n c.seen journal lines looks i line look at node not_yet still was.did.seals

  unlogged : (s : ℕ) → logs_for s line ≡ false
  unlogged s = ap (is_of s) asks_is

  grown : Grown law c then'
  grown = playing.grown law meaning lines home nodes c looks n from i line look seat seat' desks desks (none_taken desks) journal are at node phase unlogged was does.others does.moves (paid_is look does.looks) on own seals now tells (stood look does.looks) trimmed clean high_read

  all_given : AllByRecursion (λ g. CameTo then'.faults g.cause n c.phase) seat'.node.outbox.given
  all_given = playing.all_given law meaning lines home nodes c looks n from i line look seat seat' desks desks (none_taken desks) journal are at node phase unlogged was does.others does.moves (paid_is look does.looks) on own seals now tells (stood look does.looks) trimmed clean high_read

  -- The line

  own_at : DeskAt lines home c n from i c.phase session.id desk
  own_at = was.each session.id desk desk_at

  logs_then : asked_by lines n session.id from < asked_by lines n session.id i → LogsBefore lines i session.id line.phase
  logs_then more = subst (LogsBefore lines i session.id) (sym phase) (logs_before lines home nodes are n from i session.id c.phase line begins at phase more)

  -- something of a session that has a cause was on its way
  had_asked : (k : Cause) → cause_in desk.session seat'.node.outbox.given ≡ Some k → asked_by lines n session.id from < asked_by lines n session.id i
  had_asked k e = ⊎_elim (λ (more : asked_by lines n session.id from < asked_by lines n session.id i). more)
      (λ (low : asked_by lines n session.id i ≤ asked_by lines n session.id from).
      let up = asked_more lines n session.id from i was.order in
      let still = does.moves.quiet session.id (was.quiet session.id (let same : asked_by lines n session.id from ≡ asked_by lines n session.id i = omega arith in same)) in
      let own = (was.ok.each session.id desk desk_at).session in
      absurd (none_some k (sym still.free ∙ ap (λ s. cause_in s seat'.node.outbox.given) (sym own) ∙ e)))
      (cases_lt (asked_by lines n session.id from) (asked_by lines n session.id i))
    where
      none_some : (k : Cause) → None ≡ Some k → ⊥
      none_some k e = cc

  none_some : (a : ℕ) → None ≡ Some a → ⊥
  none_some a e = cc

  -- a session that isn't closed wasn't stopped in an earlier phase
  was_free : desk.answered ≡ None → WasFree then' desk line.phase session.id
  was_free none = λ a e. absurd (none_some a (sym none ∙ e))

  found_so : (after : ℕ) (found : Found) → LooksSo (node_of seat c.seen) (node_of seat' journal) desk query does.others (looked.Found after found) → SawSo lines then' seat'.node.replica.cursor desk i line.phase session.id query after found
  found_so after found h =
      let fine = was.ok.each session.id desk desk_at in
      let none = none-before (record law { may = OwnWithin n law.may (sent_by desks) }) run.low (node_of seat c.seen) (node_of seat' journal) does.others desk.session does.moves.goes h.1.1 in
      let given = fine.given h.1.0 (ap (λ s. cause_in s seat.node.outbox.given) (sym fine.session) ∙ none) in
      let shows = h.3 in
      let asked = own_at.asked in
      let there = asked_there lines home nodes are n i session.id line (asks.Look session query) at node asks_is (λ own. own) in
      record {
        log = shows.log;
        front = shows.front;
        size = shows.size;
        within = let own = h.4 in omega (arith, own);
        sees = ap (λ s. gap_from (asked_in 0 shows.log) s 1) (sym fine.session) ∙ shows.sees ∙ ap (λ k. k + 1) (given.0 ∙ asked ∙ there);
        shows = shows.shows;
        from =
            let old : tails then' line.phase ≡ tails c line.phase = ap (λ m. tail_of (state_of m)) (moment_past c then' line.phase refl (let long = was.did.long in omega (arith, long, phase))) in
            let up = (moment_on c was.did.rise law was.did.legal line.phase).tail in
            let seen = h.2 in
            omega (arith, old, up, seen);
        upto =
            let new : tails then' (line.phase + 1) ≡ tail_of (state_of journal) = ap (λ m. tail_of (state_of m)) (moment_now then' (line.phase + 1) (let long = was.did.long in omega (arith, long, phase))) in
            let below = front_low law run.low journal shows.log legal shows.front in
            let long = shows.size in
            omega (arith, new, below, long);
        free = was_free (fine.ended h.1.0);
        answered = λ a e. absurd (none_some a (sym (fine.ended h.1.0) ∙ e));
      }

  stopped_so : (k : Cause) → desk.stopped ≡ Some k → (o : Option ℕ) → desk.answered ≡ o → WasStopped then' desk line.phase session.id k ⊎ (LogsBefore lines i session.id line.phase × CameTo then'.faults k n line.phase × WasFree then' desk line.phase session.id)
  stopped_so k stop None none =
      let h = own_at.halted k none stop in
      inr (logs_then h.asked, subst (CameTo then'.faults k n) (sym phase) (came_grows law c then' grown k n c.phase h.came), was_free none)
  stopped_so k stop (Some a) first =
      let w = own_at.ended a first in
      inl (record { answered = subst IsSome (sym first) refl; cause_is = stop; earlier = omega (arith, w.before, phase) })

  looked_so : (x : Looked) → LooksSo (node_of seat c.seen) (node_of seat' journal) desk query does.others x → LookedSo lines then' seat'.node.replica.cursor n desk i line.phase session.id query x
  looked_so (looked.Found after found) h = found_so after found h
  looked_so (looked.Kept k) h = ⊎_elim (λ (stop : desk.stopped ≡ Some k). stopped_so k stop desk.answered refl)
      (λ (has : (desk.stopped ≡ None) × (cause_in desk.session seat'.node.outbox.given ≡ Some k)).
      inr (logs_then (had_asked k has.1), subst (CameTo then'.faults k n) (sym phase) (cause_came (λ x. CameTo then'.faults x n c.phase) desk.session seat'.node.outbox.given k all_given has.1), was_free ((was.ok.each session.id desk desk_at).ended has.0)))
      h.1
  looked_so (looked.Failed k) h = was_free ((was.ok.each session.id desk desk_at).ended h.1.0)
  looked_so (looked.Extended x) h = h
  looked_so (looked.Reported position) h = h
  looked_so looked.Left h = h
  looked_so (looked.Trimmed trim) h = h

  line_played : PlayedSo lines then' c.phase seat'.node.replica.cursor n desks looks' i line.phase line.asks
  line_played = subst (PlayedSo lines then' c.phase seat'.node.replica.cursor n desks looks' i line.phase) (sym asks_is)
      (look, set_same looks i (Some look) None not_yet, λ d get. subst (λ x. LookedSo lines then' seat'.node.replica.cursor n x i line.phase session.id query look) (same_some desk d (sym desk_at ∙ get)) (looked_so look does.looks))

  pub line_looked : LineWent law meaning lines home nodes c looks' n from (i + 1) journal seat' desks
  line_looked = playing.line_went law meaning lines home nodes c looks n from i line look seat seat' desks desks (none_taken desks) journal are at node phase unlogged was does.others does.moves (paid_is look does.looks) on own seals now tells (stood look does.looks) trimmed clean high_read line_played
