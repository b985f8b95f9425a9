-- A line had its node replace the last loglet of the log, or find that another had.
use Rattle.std.proofs.Common.{◌≡◌, refl, sym, ap, ◌∙◌, subst, ℕ, ◌+◌, ◌≤◌, Bool, false, cond, not, List, [], ◌∷◌, ◌++◌, Option, Some, None, map, length, count_by, slice_get, slice_set, arith}
use Rattle.delos_types.specs.declared.cause.Cause.{Cause}
use Rattle.legal_journal.specs.Law.{Law}
use Rattle.legal_journal.specs.declared.events.Event.{Event}
use Rattle.legal_journal.specs.Journal.{IsLegal}
use Rattle.legal_journal.specs.Sealing.{own_seals}
use Rattle.journal_laws.specs.Own.{faults_of}
use Rattle.virtual_log.specs.declared.extend.Extension.{Extension}
use Rattle.virtual_log.specs.declared.extend.Extension.TheVariants.{Extended, Moved, NoSpare}
use Rattle.virtual_log.specs.Sealing.{SealsNone}
use Rattle.replica_api.specs.Replica.{Meaning}
use Rattle.script_text.specs.declared.line.Admin.TheVariants.{Extend}
use Rattle.script_text.specs.declared.asks.NamedLine.{NamedLine}
use Rattle.script_text.specs.declared.asks.Asks.TheVariants as asks
use Rattle.fitting_run.specs.Lines.{is_of, logs_for}
use Rattle.fabric_core.proofs.Marks.{set_same}
use Rattle.turn_scopes.specs.Seats.{SeatView, node_of}
use Rattle.node_lines.specs.declared.desk.Desk.{Desk}
use Rattle.node_lines.specs.declared.lines.Looked.{Looked}
use Rattle.node_lines.specs.declared.lines.Looked.TheVariants as looked
use Rattle.node_lines.specs.Moving.{causes_of, is_store}
use Rattle.node_lines.specs.Extending.{Extends, ExtendsSo}
use Rattle.node_lines.specs.Workers.{IsOfSessions, MayRun, OwnAdds, OwnWithin, WorkerOk, sent_by}
use Rattle.node_course.specs.Script.{AreLines}
use Rattle.node_course.specs.Moments.{NodeCourse, tails}
use Rattle.node_course.specs.Played.{goes_further, went_further}
use Rattle.node_course.specs.Desks.{IsOfNode, PlayedSo}
use Rattle.node_course.specs.Replacing.{AsksNode, IsReplaced}
use Rattle.node_course.specs.Reporting.{ReportedSo}
use Rattle.node_course.specs.Leaving.{LeftSo}
use Rattle.node_course.specs.Telling.{HasToldSo}
use Rattle.node_course.specs.Workers.{LineWent, NodeAt}
use Rattle.node_course.proofs.Chain.{replaced_so, sealed_so, seals_of}
use Rattle.node_course.proofs.Events.{calm_before, faults_on}
use Rattle.node_course.proofs.Legal.{worker_legal}
use Rattle.node_course.proofs.Looks.{came_on}
use Rattle.node_course.proofs.Told.{TellsOn, tells_commands}
use Rattle.node_course.proofs.Lines.{count-cons}
use Rattle.node_course.proofs.Advance.{advanced, count-append, failed_of}
use Rattle.node_course.proofs.Replacing.{LooksOn, further_set}
use Rattle.node_course.proofs.Playing.{line_went, none_taken}

module _ (law : Law) (meaning : Meaning) (run : MayRun law) (lines : List NamedLine) (home : ℕ → ℕ) (nodes : ℕ) (c : NodeCourse) (looks : List (Option Looked)) (n from i : ℕ) (line : NamedLine) (look : Looked) (seat seat' : SeatView) (desks : List Desk) (journal : List Event) (are : AreLines lines home nodes) (at : slice_get lines i ≡ Some line) (node : line.node ≡ n) (phase : line.phase ≡ c.phase) (asks_is : line.asks ≡ asks.Admin Extend) (was : NodeAt law meaning lines home nodes c looks n from i c.phase seat desks) (adds : OwnAdds n IsOfSessions c.seen journal) (does : Extends (record law { may = OwnWithin n law.may (sent_by desks) }) (node_of seat c.seen) (node_of seat' journal) look) (now : WorkerOk law meaning n journal seat' desks) where
  abbrev then' : NodeCourse
  then' = advanced c n (map (λ g. g.cause) does.moves.goes.given) journal c.when

  abbrev looks' : List (Option Looked)
  looks' = slice_set looks i (Some look)

  abbrev So : Looked → Type 0
  So = ExtendsSo (length law.shelf) does.settled (node_of seat' journal) does.others

  -- what the calls came across but what sessions were given is by what the log failed
  paid_is : (x : Looked) → So x → does.others ≡ failed_of x
  paid_is (looked.Found after found) h = absurd h
  paid_is (looked.Kept k) h = absurd h
  paid_is (looked.Failed k) h = h.0
  paid_is (looked.Extended x) h = h.0
  paid_is (looked.Reported position) h = absurd h
  paid_is looked.Left h = absurd h
  paid_is (looked.Trimmed trim) h = absurd h

  of_node : (x : Looked) → So x → IsOfNode Extend x
  of_node (looked.Found after found) h = h
  of_node (looked.Kept k) h = h
  of_node (looked.Failed k) h = tt
  of_node (looked.Extended x) h = tt
  of_node (looked.Reported position) h = h
  of_node looked.Left h = h
  of_node (looked.Trimmed trim) h = h

  -- it reported nothing
  none_reported : (x : Looked) → So x → ReportedSo journal (tails then' line.phase) seat'.node.replica.cursor n x
  none_reported (looked.Found after found) h = tt
  none_reported (looked.Kept k) h = tt
  none_reported (looked.Failed k) h = tt
  none_reported (looked.Extended x) h = tt
  none_reported (looked.Reported position) h = absurd h
  none_reported looked.Left h = tt
  none_reported (looked.Trimmed trim) h = tt

  -- nor did it leave
  none_left : (x : Looked) → So x → LeftSo journal seat'.node.replica.cursor n x
  none_left (looked.Found after found) h = tt
  none_left (looked.Kept k) h = tt
  none_left (looked.Failed k) h = tt
  none_left (looked.Extended x) h = tt
  none_left (looked.Reported position) h = tt
  none_left looked.Left h = absurd h
  none_left (looked.Trimmed trim) h = tt

  stood : (x : Looked) → So x → HasToldSo journal n x
  stood (looked.Found after found) h = tt
  stood (looked.Kept k) h = tt
  stood (looked.Failed k) h = tt
  stood (looked.Extended x) h = tt
  stood (looked.Reported position) h = absurd h
  stood looked.Left h = absurd h
  stood (looked.Trimmed trim) h = tt

  unlogged : (s : ℕ) → logs_for s line ≡ false
  unlogged s = ap (is_of s) asks_is

  not_yet : slice_get looks i ≡ Some None
  not_yet = was.waiting i line (omega arith) at node

  legal : IsLegal law journal
  legal = worker_legal law meaning n journal seat' desks now

  -- the node itself replaced it, with no Seal before
  who_is : does.settled.who ≡ n
  who_is = does.settles.goes.keeps.who ∙ was.ok.who_is

  still : SealsNone does.settled.who c.seen does.settled.seen
  still = subst (λ who. SealsNone who c.seen does.settled.seen) (sym does.settles.goes.keeps.who) does.unsealed

  on : LooksOn (length law.shelf) n c.seen journal look
  on x is =
      let h : So (looked.Extended x) = subst So is does.extends in
      subst (λ who. IsReplaced (length law.shelf) who c.seen journal x) who_is
      (replaced_so law does.settled.who c.seen does.settled.seen journal does.settled.known (node_of seat' journal).known h.1.0 legal still x h.1.1)

  own : (x : Extension) → look ≡ looked.Extended x → AsksNode line.asks
  own x is = subst AsksNode (sym asks_is) tt

  tells : TellsOn lines looks' n seat.node.replica.cursor seat'.node.replica.cursor c.seen journal
  tells =
      tells_commands law c.seen journal (does.moves.goes.spends.more, does.moves.goes.spends.seen) legal lines looks looks' n (came_on lines looks n i line look at not_yet) run
      seat.node.replica.cursor seat'.node.replica.cursor does.moves.goes.keeps.forward was.did.told adds

  -- a log that failed told a fault of the node's own
  no_failure : (k : Cause) → does.others ≡ k ∷ [] → is_store k ≡ false → faults_of n journal ≡ [] → ⊥
  no_failure k is apart calm =
      let spends = does.moves.goes.spends in
      let kind : Cause → Bool = λ x. not (is_store x) in
      let told = subst (λ who. count_by kind (causes_of does.moves.goes.given does.others) ≤ count_by kind (faults_of who spends.more)) was.ok.who_is (spends.events kind refl) in
      let parts = count-append kind (faults_of n c.seen) (faults_of n spends.more) in
      let none : count_by kind (faults_of n c.seen ++ faults_of n spends.more) ≡ 0 = ap (count_by kind) (sym (faults_on n c.seen spends.more) ∙ (sym (ap (faults_of n) spends.seen) ∙ calm)) in
      let all = count-append kind (map (λ g. g.cause) does.moves.goes.given) does.others in
      let same = ap (count_by kind) is in
      let one = count-cons kind k [] in
      let here : ◌≡◌ {A = ℕ} (cond (not (is_store k)) 1 0) 1 = ap {B = ℕ} (λ b. cond (not b) 1 0) apart in
      omega (arith, told, parts, none, all, same, one, here)

  -- it began one Seal at most, where it found the chain further on
  counted : (x : Extension) → seals_of x ≡ cond (goes_further (Some (looked.Extended x))) 1 0
  counted (Extended version start) = refl
  counted (Moved version) = refl
  counted NoSpare = refl

  by_look : (x : Looked) → look ≡ x → So x → faults_of n journal ≡ [] → own_seals n journal ≤ own_seals n c.seen + cond (goes_further (Some x)) 1 0
  by_look (looked.Found after found) is h calm = absurd h
  by_look (looked.Kept k) is h calm = absurd h
  by_look (looked.Failed k) is h calm = absurd (no_failure k h.0 h.1 calm)
  by_look (looked.Extended x) is h calm =
      subst (λ k. own_seals n journal ≤ own_seals n c.seen + k) (counted x)
      (subst (λ who. own_seals who journal ≤ own_seals who c.seen + seals_of x) who_is
      (sealed_so law does.settled.who c.seen does.settled.seen journal does.settled.known (node_of seat' journal).known h.1.0 legal still x h.1.1))
  by_look (looked.Reported position) is h calm = absurd h
  by_look looked.Left is h calm = absurd h
  by_look (looked.Trimmed trim) is h calm = absurd h

  seals : faults_of n journal ≡ [] → own_seals n journal ≤ went_further n lines looks'
  seals calm =
      let before = was.did.seals (calm_before n c.seen does.moves.goes.spends.more (sym (ap (faults_of n) does.moves.goes.spends.seen) ∙ calm)) in
      let more = further_set n lines looks i line look at node not_yet in
      let here = by_look look refl does.extends calm in
      omega (arith, before, more, here)

  line_played : PlayedSo lines then' c.phase seat'.node.replica.cursor n desks looks' i line.phase line.asks
  line_played = subst (PlayedSo lines then' c.phase seat'.node.replica.cursor n desks looks' i line.phase) (sym asks_is)
      (look, set_same looks i (Some look) None not_yet, of_node look does.extends, none_reported look does.extends, none_left look does.extends)

  pub line_extended : LineWent law meaning lines home nodes c looks' n from (i + 1) journal seat' desks
  line_extended =
      line_went law meaning lines home nodes c looks n from i line look seat seat' desks desks (none_taken desks) journal are at node phase unlogged was does.others does.moves
      (paid_is look does.extends) on own seals now tells (stood look does.extends) (λ trim is. absurd (subst So is does.extends))
      (λ position is. absurd (subst So is does.extends)) (λ after found is. absurd (subst So is does.extends)) line_played
