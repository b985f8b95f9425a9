-- A line had its node leave.
use Rattle.std.proofs.Common.{◌≡◌, refl, subst, ℕ, ◌+◌, List, [], ◌∷◌, Option, Some, None, map, slice_get, slice_set, arith}
use Rattle.legal_journal.specs.Law.{Law}
use Rattle.legal_journal.specs.declared.events.Event.{Event}
use Rattle.legal_journal.specs.Journal.{IsLegal}
use Rattle.virtual_log.specs.Sealing.{SealsNone}
use Rattle.virtual_log.specs.declared.extend.Extension.{Extension}
use Rattle.engine_api.specs.declared.content.Content.TheVariants as content
use Rattle.engine_api.specs.Packing.{leave_item, packed}
use Rattle.replica_api.specs.Replica.{Meaning}
use Rattle.base_engine.specs.Node.{NodeView}
use Rattle.script_text.specs.declared.line.Admin.TheVariants.{Retire}
use Rattle.script_text.specs.declared.asks.NamedLine.{NamedLine}
use Rattle.script_text.specs.declared.asks.Asks.TheVariants as asks
use Rattle.fabric_core.proofs.Marks.{set_same}
use Rattle.turn_scopes.specs.Seats.{SeatView, node_of}
use Rattle.node_lines.specs.declared.desk.Desk.{Desk}
use Rattle.node_lines.specs.declared.lines.Looked.{Looked}
use Rattle.node_lines.specs.declared.lines.Looked.TheVariants as looked
use Rattle.node_lines.specs.Leaving.{HasLeft, Leaves, LeavesSo}
use Rattle.node_lines.specs.Workers.{LeaveAdds, MayRun, OwnWithin, WorkerOk, sent_by}
use Rattle.node_course.specs.Script.{AreLines}
use Rattle.node_course.specs.Moments.{NodeCourse, tails}
use Rattle.node_lines.specs.Turns.{IsAnswered}
use Rattle.node_course.specs.Desks.{IsOfNode}
use Rattle.node_course.specs.Leaving.{IsLeave, LeftSo}
use Rattle.node_course.specs.Reporting.{ReportedSo}
use Rattle.node_course.specs.Telling.{AskedFor, HasToldSo}
use Rattle.node_course.specs.Workers.{LineWent, NodeAt}
use Rattle.node_course.proofs.Legal.{worker_legal}
use Rattle.node_course.proofs.Told.{TellsOn, tells_one}
use Rattle.node_course.proofs.Looks.{came_on}
use Rattle.node_course.proofs.Advance.{advanced, failed_of}
use Rattle.node_course.proofs.Telling.{line_told, stands_now}

told_leave : (law : Law) (old new : NodeView) → IsLegal law new.seen → HasLeft old new → IsLeave new.seen new.replica.cursor old.replica.origin
told_leave law old new legal left = record {
  stands = stands_now law old.who left.synced new.seen (packed old.replica.origin (leave_item old.replica.origin ∷ [])) legal left.landed (content.Leave old.replica.origin) left.says;
  upto = new.replica.cursor;
  low = omega arith;
  within = left.played;
}

module _ (law : Law) (meaning : Meaning) (run : MayRun law) (lines : List NamedLine) (home : ℕ → ℕ) (nodes : ℕ) (c : NodeCourse) (looks : List (Option Looked)) (n from i : ℕ) (line : NamedLine) (look : Looked) (seat seat' : SeatView) (desks desks' : List Desk) (taken : IsAnswered desks desks') (journal : List Event) (are : AreLines lines home nodes) (at : slice_get lines i ≡ Some line) (node : line.node ≡ n) (phase : line.phase ≡ c.phase) (asks_is : line.asks ≡ asks.Admin Retire) (was : NodeAt law meaning lines home nodes c looks n from i c.phase seat desks) (still : SealsNone n c.seen journal) (adds : LeaveAdds n c.seen journal) (does : Leaves (record law { may = OwnWithin n law.may (sent_by desks) }) (node_of seat c.seen) (node_of seat' journal) look) (now : WorkerOk law meaning n journal seat' desks') where
  abbrev then' : NodeCourse
  then' = advanced c n (map (λ g. g.cause) does.moves.goes.given) journal c.when

  abbrev So : Looked → Type 0
  So = LeavesSo (node_of seat c.seen) (node_of seat' journal) does.others

  legal : IsLegal law journal
  legal = worker_legal law meaning n journal seat' desks' now

  not_yet : slice_get looks i ≡ Some None
  not_yet = was.waiting i line (omega arith) at node

  abbrev looks' : List (Option Looked)
  looks' = slice_set looks i (Some look)

  -- what the calls came across but what sessions were given is by what the log failed, or the disk
  paid_is : (x : Looked) → So x → does.others ≡ failed_of x
  paid_is (looked.Found after found) h = absurd h
  paid_is (looked.Kept k) h = absurd h
  paid_is (looked.Failed k) h = h
  paid_is (looked.Extended x) h = absurd h
  paid_is (looked.Reported position) h = absurd h
  paid_is looked.Left h = h.0
  paid_is (looked.Trimmed trim) h = absurd h

  of_node : (x : Looked) → So x → IsOfNode Retire x
  of_node (looked.Found after found) h = h
  of_node (looked.Kept k) h = h
  of_node (looked.Failed k) h = tt
  of_node (looked.Extended x) h = h
  of_node (looked.Reported position) h = h
  of_node looked.Left h = tt
  of_node (looked.Trimmed trim) h = h

  -- nothing was replaced
  none : (x : Extension) → look ≡ looked.Extended x → ⊥
  none x is = subst So is does.leaves

  -- it reported nothing
  none_reported : (x : Looked) → So x → ReportedSo journal (tails then' line.phase) seat'.node.replica.cursor n x
  none_reported (looked.Found after found) h = tt
  none_reported (looked.Kept k) h = tt
  none_reported (looked.Failed k) h = tt
  none_reported (looked.Extended x) h = tt
  none_reported (looked.Reported position) h = absurd h
  none_reported looked.Left h = tt
  none_reported (looked.Trimmed trim) h = tt

  left : (x : Looked) → So x → LeftSo journal seat'.node.replica.cursor n x
  left (looked.Found after found) h = tt
  left (looked.Kept k) h = tt
  left (looked.Failed k) h = tt
  left (looked.Extended x) h = tt
  left (looked.Reported position) h = tt
  left looked.Left h =
      subst (IsLeave journal seat'.node.replica.cursor) was.ok.origin (told_leave law (node_of seat c.seen) (node_of seat' journal) legal h.1)
  left (looked.Trimmed trim) h = tt

  asked : AskedFor lines looks' n Retire (λ x. Unit {0})
  asked = record {
    at = i;
    line = line;
    look = look;
    came = record { is = at; own = node; looked = set_same looks i (Some look) None not_yet };
    asks = asks_is;
    so = tt;
  }

  tells : TellsOn lines looks' n seat.node.replica.cursor seat'.node.replica.cursor c.seen journal
  tells =
      tells_one law c.seen journal (does.moves.goes.spends.more, does.moves.goes.spends.seen) legal lines looks looks' n (came_on lines looks n i line look at not_yet) run seat.node.replica.cursor seat'.node.replica.cursor
      does.moves.goes.keeps.forward was.did.told (content.Leave n) (refl, asked) tt (λ early e p position up own among is told. absurd (apart position told)) adds
    where
      apart : (position : ℕ) → content.Leave n ≡ content.Trim position → ⊥
      apart position e = cc

  stood : (x : Looked) → So x → LeftSo journal seat'.node.replica.cursor n x → HasToldSo journal n x
  stood (looked.Found after found) h l = tt
  stood (looked.Kept k) h l = tt
  stood (looked.Failed k) h l = tt
  stood (looked.Extended x) h l = tt
  stood (looked.Reported position) h l = absurd h
  stood looked.Left h l = l.stands
  stood (looked.Trimmed trim) h l = tt

  pub line_left : LineWent law meaning lines home nodes c looks' n from (i + 1) journal seat' desks'
  line_left =
      line_told law meaning lines home nodes c looks n from i line Retire look seat seat' desks desks' taken journal are at node phase asks_is was still does.others does.moves now none
      (paid_is look does.leaves) (of_node look does.leaves) (none_reported look does.leaves) (left look does.leaves)
      tells (stood look does.leaves (left look does.leaves)) (λ trim is. absurd (subst So is does.leaves)) (λ position is. absurd (subst So is does.leaves))
