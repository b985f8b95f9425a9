-- A line had its node report how much of the log is clean.
use Rattle.std.proofs.Common.{◌≡◌, refl, sym, ap, ◌∙◌, subst, ℕ, ◌+◌, ◌<◌, ◌≤◌, true, List, [], ◌∷◌, Option, Some, None, length, map, take, slice_get, slice_set, Contains, arith}
use Rattle.delos_types.specs.declared.entry.Entry.{Entry}
use Rattle.legal_journal.specs.Law.{Law}
use Rattle.legal_journal.specs.declared.events.Event.{Event}
use Rattle.legal_journal.specs.Journal.{IsLegal, state_of, tail_of}
use Rattle.virtual_log.specs.Sealing.{SealsNone}
use Rattle.virtual_log.specs.declared.extend.Extension.{Extension}
use Rattle.engine_api.specs.declared.content.Content.TheVariants as content
use Rattle.engine_api.specs.declared.content.Placed.{Placed}
use Rattle.engine_api.specs.Items.{unpack}
use Rattle.engine_api.specs.Packing.{alive_item, packed}
use Rattle.engine_api.specs.Acted.{asked_in}
use Rattle.engine_api.specs.Members.{clean_at}
use Rattle.engine_api.specs.Order.{is_clean}
use Rattle.replica_api.specs.Replica.{Meaning}
use Rattle.base_engine.specs.Node.{NodeView}
use Rattle.script_text.specs.declared.line.Admin.TheVariants.{Alive}
use Rattle.script_text.specs.declared.asks.NamedLine.{NamedLine}
use Rattle.script_text.specs.declared.asks.Asks.TheVariants as asks
use Rattle.fabric_core.proofs.Marks.{set_same}
use Rattle.turn_scopes.specs.Seats.{SeatView, node_of}
use Rattle.node_lines.specs.declared.desk.Desk.{Desk}
use Rattle.node_lines.specs.declared.lines.Looked.{Looked}
use Rattle.node_lines.specs.declared.lines.Looked.TheVariants as looked
use Rattle.node_lines.specs.Reporting.{HasTold, Reports, ReportsSo}
use Rattle.node_lines.specs.Measuring.{IsCleanPoint}
use Rattle.node_lines.specs.Workers.{MayRun, OwnWithin, ReportAdds, WorkerOk, sent_by}
use Rattle.node_course.specs.Script.{AreLines}
use Rattle.node_course.specs.Moments.{NodeCourse, tails}
use Rattle.node_lines.proofs.Cleaning.{same_beginning}
use Rattle.run_laws.proofs.Clean.{clean-most}
use Rattle.node_course.specs.Behind.{IsCleanSince}
use Rattle.node_course.specs.Desks.{IsOfNode}
use Rattle.node_course.specs.Leaving.{LeftSo}
use Rattle.node_course.specs.Reporting.{IsReport, ReportedSo}
use Rattle.node_course.specs.Telling.{AskedFor, HasToldSo, IsReportedBehind, TellsAtLeast, ToldSo}
use Rattle.node_course.specs.Workers.{LineWent, NodeAt}
use Rattle.node_course.proofs.Legal.{worker_legal}
use Rattle.node_course.proofs.Fronts.{front_low}
use Rattle.node_course.proofs.Stands.{front_on, in_other}
use Rattle.node_course.proofs.Told.{TellsOn, tells_one}
use Rattle.node_course.proofs.Looks.{came_on}
use Rattle.node_course.proofs.Moments.{moment_on, moment_past}
use Rattle.node_course.proofs.Advance.{advanced, failed_of}
use Rattle.node_course.proofs.Playing.{none_taken}
use Rattle.node_course.proofs.Telling.{held_still, line_told, stands_now}

module _ (law : Law) (old new : NodeView) (position : ℕ) (legal : IsLegal law new.seen) (told : HasTold old new position) where
  -- its front reaches each tail that isn't above that of then
  told_report : (tail : ℕ) → tail ≤ tail_of (state_of old.seen) → IsReport new.seen tail new.replica.cursor old.replica.origin position
  told_report tail low =
      let e = packed old.replica.origin (alive_item old.replica.origin position ∷ []) in
      record {
        log = told.log;
        front = λ pos x at. held_still law old.who told.synced new.seen e legal told.landed pos x (told.front pos x at);
        from = omega (arith, low, told.from);
        within = told.within;
        clean = told.clean;
        stands = stands_now law old.who told.synced new.seen e legal told.landed (content.Alive old.replica.origin position) told.says;
      }

module _ (law : Law) (meaning : Meaning) (run : MayRun law) (lines : List NamedLine) (home : ℕ → ℕ) (nodes : ℕ) (c : NodeCourse) (looks : List (Option Looked)) (n from i : ℕ) (line : NamedLine) (look : Looked) (seat seat' : SeatView) (desks : List Desk) (journal : List Event) (are : AreLines lines home nodes) (at : slice_get lines i ≡ Some line) (node : line.node ≡ n) (phase : line.phase ≡ c.phase) (asks_is : line.asks ≡ asks.Admin Alive) (was : NodeAt law meaning lines home nodes c looks n from i c.phase seat desks) (still : SealsNone n c.seen journal) (adds : ReportAdds n seat'.node.replica.cursor c.seen journal look) (does : Reports (record law { may = OwnWithin n law.may (sent_by desks) }) (node_of seat c.seen) (node_of seat' journal) look) (now : WorkerOk law meaning n journal seat' desks) where
  abbrev then' : NodeCourse
  then' = advanced c n (map (λ g. g.cause) does.moves.goes.given) journal c.when

  abbrev So : Looked → Type 0
  So = ReportsSo (node_of seat c.seen) (node_of seat' journal) does.others

  legal : IsLegal law journal
  legal = worker_legal law meaning n journal seat' desks now

  not_yet : slice_get looks i ≡ Some None
  not_yet = was.waiting i line (omega arith) at node

  abbrev looks' : List (Option Looked)
  looks' = slice_set looks i (Some look)

  -- what the calls came across but what sessions were given is by what the log failed, or the disk
  paid_is : (x : Looked) → So x → does.others ≡ failed_of x
  paid_is (looked.Found after found) h = absurd h
  paid_is (looked.Kept k) h = absurd h
  paid_is (looked.Failed k) h = h
  paid_is (looked.Extended x) h = absurd h
  paid_is (looked.Reported position) h = h.0
  paid_is looked.Left h = absurd h
  paid_is (looked.Trimmed trim) h = absurd h

  of_node : (x : Looked) → So x → IsOfNode Alive x
  of_node (looked.Found after found) h = h
  of_node (looked.Kept k) h = h
  of_node (looked.Failed k) h = tt
  of_node (looked.Extended x) h = h
  of_node (looked.Reported position) h = tt
  of_node looked.Left h = h
  of_node (looked.Trimmed trim) h = h

  -- nothing was replaced
  none : (x : Extension) → look ≡ looked.Extended x → ⊥
  none x is = subst So is does.tells

  -- the phase's first tail isn't above the present one
  began_low : tails then' line.phase ≤ tail_of (state_of c.seen)
  began_low =
      let old : tails then' line.phase ≡ tails c line.phase = ap (λ m. tail_of (state_of m)) (moment_past c then' line.phase refl (let long = was.did.long in omega (arith, long, phase))) in
      let up = (moment_on c was.did.rise law was.did.legal line.phase).tail in
      omega (arith, old, up)

  reported : (x : Looked) → So x → ReportedSo journal (tails then' line.phase) seat'.node.replica.cursor n x
  reported (looked.Found after found) h = tt
  reported (looked.Kept k) h = tt
  reported (looked.Failed k) h = tt
  reported (looked.Extended x) h = tt
  reported (looked.Reported position) h =
      subst (λ who. IsReport journal (tails then' line.phase) seat'.node.replica.cursor who position) was.ok.origin
      (told_report law (node_of seat c.seen) (node_of seat' journal) position legal h.1 (tails then' line.phase) began_low)
  reported looked.Left h = tt
  reported (looked.Trimmed trim) h = tt

  -- it didn't leave
  none_left : (x : Looked) → So x → LeftSo journal seat'.node.replica.cursor n x
  none_left (looked.Found after found) h = tt
  none_left (looked.Kept k) h = tt
  none_left (looked.Failed k) h = tt
  none_left (looked.Extended x) h = tt
  none_left (looked.Reported position) h = tt
  none_left looked.Left h = absurd h
  none_left (looked.Trimmed trim) h = tt

  -- it told what it answers, or it isn't known what
  at_least : (x : Looked) → ((m : ℕ) → x ≡ looked.Reported m → m ≡ adds.position) → So x → TellsAtLeast adds.position x
  at_least (looked.Found after found) own h = h
  at_least (looked.Kept k) own h = h
  at_least (looked.Failed k) own h = tt
  at_least (looked.Extended x) own h = h
  at_least (looked.Reported position) own h = omega (arith, own position refl)
  at_least looked.Left own h = h
  at_least (looked.Trimmed trim) own h = h

  asked : AskedFor lines looks' n Alive (TellsAtLeast adds.position)
  asked = record {
    at = i;
    line = line;
    look = look;
    came = record { is = at; own = node; looked = set_same looks i (Some look) None not_yet };
    asks = asks_is;
    so = at_least look adds.is does.tells;
  }

  abbrev more : List Event
  more = does.moves.goes.spends.more

  -- No entry below the position says so: those that did before stand behind it, and what it told now wasn't there yet.
  none_below : (e : Entry) (p : Placed) (k : ℕ) → k < adds.position → slice_get adds.clean.log k ≡ Some e → Contains (unpack 0 e) p → p.content ≡ content.Alive n adds.position → ⊥
  none_below e p k early stands there is =
      let told = subst (ToldSo lines looks n c.seen) is (was.did.told e p (adds.before k e p early stands there is) there) in
      let b = told.1 in
      let front = front_on law c.seen journal more does.moves.goes.spends.seen legal b.clean.log b.clean.front in
      b.behind k e p early (in_other law c.seen journal more does.moves.goes.spends.seen legal adds.clean.log b.clean.log adds.clean.front front k e stands (omega (arith, early, b.clean.within))) there is

  behind : IsReportedBehind journal n adds.position
  behind = record { clean = adds.clean; behind = λ k e p early stands there is. none_below e p k early stands there is }

  tells : TellsOn lines looks' n seat.node.replica.cursor seat'.node.replica.cursor c.seen journal
  tells =
      tells_one law c.seen journal (more, does.moves.goes.spends.seen) legal lines looks looks' n (came_on lines looks n i line look at not_yet) run seat.node.replica.cursor seat'.node.replica.cursor
      does.moves.goes.keeps.forward was.did.told (content.Alive n adds.position) (refl, behind, asked) adds.low (λ early e p position up own among is told. absurd (apart position told)) adds.adds
    where
      apart : (position : ℕ) → content.Alive n adds.position ≡ content.Trim position → ⊥
      apart position e = cc

  stood : (x : Looked) → So x → ReportedSo journal (tails then' line.phase) seat'.node.replica.cursor n x → HasToldSo journal n x
  stood (looked.Found after found) h r = tt
  stood (looked.Kept k) h r = tt
  stood (looked.Failed k) h r = tt
  stood (looked.Extended x) h r = tt
  stood (looked.Reported position) h r = r.stands
  stood looked.Left h r = absurd h
  stood (looked.Trimmed trim) h r = tt

  -- What it reports is clean, and isn't less than what was clean before: its front reaches the tail of then.
  cleaned : (position : ℕ) → look ≡ looked.Reported position → IsCleanSince c.seen journal position
  cleaned position is = record { clean = subst (IsCleanPoint journal) (sym (adds.is position is)) adds.clean; most = most }
    where
      told : So (looked.Reported position)
      told = subst So is does.tells

      report : IsReport journal (tail_of (state_of c.seen)) seat'.node.replica.cursor seat.node.replica.origin position
      report = told_report law (node_of seat c.seen) (node_of seat' journal) position legal told.1 (tail_of (state_of c.seen)) (omega arith)

      most : (m : ℕ) → IsCleanPoint c.seen m → m ≤ position
      most m k =
          let low = front_low law run.low c.seen k.log was.did.legal k.front in
          let within = k.within in
          let from = report.from in
          let short : m ≤ length report.log = omega (arith, low, within, from) in
          let front = front_on law c.seen journal does.moves.goes.spends.more does.moves.goes.spends.seen legal k.log k.front in
          let same : take m report.log ≡ take m k.log = same_beginning law journal report.log k.log m legal report.front front short within in
          let clean : clean_at report.log m ≡ true = ap (λ l. is_clean (λ s. 1) (asked_in 0 l)) same ∙ k.clean in
          let high = clean-most report.log m short clean in
          let here = report.clean in
          omega (arith, high, here)

  pub line_reported : LineWent law meaning lines home nodes c looks' n from (i + 1) journal seat' desks
  line_reported =
      line_told law meaning lines home nodes c looks n from i line Alive look seat seat' desks desks (none_taken desks) journal are at node phase asks_is was still does.others does.moves now none
      (paid_is look does.tells) (of_node look does.tells) (reported look does.tells) (none_left look does.tells)
      tells (stood look does.tells (reported look does.tells)) (λ trim is. absurd (subst So is does.tells))
      cleaned
