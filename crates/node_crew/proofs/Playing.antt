-- A node's turn, from line to line.
use Rattle.std.proofs.Common.{◌≡◌, ◌≢◌, refl, sym, ◌∙◌, subst, inl, inr, ⊎_elim, ℕ, ◌+◌, ◌<◌, ◌≤◌, false, List, [], ◌∷◌, Option, Some, length, arith}
use Rattle.std.specs.Prelude.{◌==◌, slice_get}
use Rattle.std.proofs.lemmas.Bool.{cases_lt}
use Rattle.delos_types.specs.declared.entry.Entry.{Entry}
use Rattle.legal_journal.specs.Law.{Law}
use Rattle.legal_journal.specs.declared.events.Event.{Event}
use Rattle.legal_journal.specs.Turns.{AreOthers}
use Rattle.replica_api.specs.Replica.{Meaning}
use Rattle.script_text.specs.declared.asks.NamedLine.{NamedLine}
use Rattle.script_text.specs.declared.faults.FaultAsk.TheVariants.{Stop}
use Rattle.script_text.specs.declared.faults.FaultLine.{FaultLine}
use Rattle.virtual_log.specs.Sealing.{SealsNone}
use Rattle.turn_scopes.specs.Alone.{AreOwn}
use Rattle.turn_scopes.specs.Floors.{FloorIs}
use Rattle.turn_scopes.specs.Seats.{SeatView, SeatOk}
use Rattle.turn_scopes.proofs.Seals.{seals_none}
use Rattle.node_lines.specs.declared.desk.Desk.{Desk}
use Rattle.node_lines.specs.declared.lines.Looked.{Looked}
use Rattle.node_lines.specs.Workers.{HasNotLeft, IsKept, MayRun, WorkerOk, sent_by}
use Rattle.node_lines.specs.Steps.{IsLeft}
use Rattle.node_lines.proofs.Scoping.{seat_allowed}
use Rattle.node_course.specs.Script.{AreLines, BeginsAt}
use Rattle.node_course.specs.FaultLines.{AreFaultLines, HasPartIn, NamesThere, StopsMembers}
use Rattle.node_course.specs.Moments.{NodeCourse}
use Rattle.node_course.specs.Workers.{CanPlay, LineWent}
use Rattle.node_course.proofs.Joining.{goes_none, goes_both}
use Rattle.node_course.proofs.Lines.{at_get}
use Rattle.node_course.proofs.Passing.{another_line}
use Rattle.node_course.proofs.Turning.{goes_on, not_left, trims_low}
use Rattle.node_crew.specs.Turns.{IsUnderWay}

-- a node with its sessions can take the fabric
pub worker_stands : (law : Law) (meaning : Meaning) (who : ℕ) (journal : List Event) (seat : SeatView) (desks : List Desk)
    → WorkerOk law meaning who journal seat desks → SeatOk law meaning journal seat
worker_stands law meaning who journal seat desks h = seat_allowed law who (sent_by desks) meaning journal seat h.ok

module _ (law : Law) (meaning : Meaning) (lines : List NamedLine) (home : ℕ → ℕ) (nodes : ℕ) (c : NodeCourse) (n from : ℕ) where
  -- no line was played yet
  pub none_went : (looks : List (Option Looked)) (journal : List Event) (seat : SeatView) (desks : List Desk) → IsUnderWay law meaning lines home nodes c looks n from from journal seat desks
      → LineWent law meaning lines home nodes c looks n from from journal seat desks
  none_went looks journal seat desks u = record {
    course = c;
    seen_is = u.seen_is;
    goes = goes_none c;
    node = u.node;
  }

  -- so far it is the node's turn
  pub under_way : (looks looks' : List (Option Looked)) (i : ℕ) (early journal : List Event) (seat seat' : SeatView) (desks desks' : List Desk) → IsUnderWay law meaning lines home nodes c looks n from from early seat desks
      → (w : LineWent law meaning lines home nodes c looks' n from i journal seat' desks') → IsUnderWay law meaning lines home nodes w.course looks' n from i journal seat' desks'
  under_way looks looks' i early journal seat seat' desks desks' u w = record {
    seen_is = w.seen_is;
    lines_are = u.lines_are;
    begins = subst (BeginsAt lines from) (sym w.goes.phase) u.begins;
    node = w.node;
  }

  -- one more line
  pub then_went : (looks' looks'' : List (Option Looked)) (i : ℕ) (journal journal' : List Event) (seat seat' : SeatView) (desks desks' : List Desk)
      → (w : LineWent law meaning lines home nodes c looks' n from i journal seat desks)
      → LineWent law meaning lines home nodes w.course looks'' n from (i + 1) journal' seat' desks'
      → LineWent law meaning lines home nodes c looks'' n from (i + 1) journal' seat' desks'
  then_went looks' looks'' i journal journal' seat seat' desks desks' w v = record {
    course = v.course;
    seen_is = v.seen_is;
    goes = goes_both c w.course v.course w.goes v.goes;
    node = v.node;
  }

  -- a line of another node
  pub passed_by : (looks' : List (Option Looked)) (i : ℕ) (line : NamedLine) (journal : List Event) (seat : SeatView) (desks : List Desk) → slice_get lines i ≡ Some line → (line.node == n) ≡ false
      → LineWent law meaning lines home nodes c looks' n from i journal seat desks → LineWent law meaning lines home nodes c looks' n from (i + 1) journal seat desks
  passed_by looks' i line journal seat desks at other w = record {
    course = w.course;
    seen_is = w.seen_is;
    goes = w.goes;
    node = another_line law meaning lines home nodes w.course looks' n from i w.course.phase line seat desks at other w.node;
  }

  module _ (faults : List FaultLine) (shelf : List ℕ) (are : AreFaultLines lines faults shelf nodes) where
    -- a node with a part in a phase is one of them
    pub part_number : AreLines lines home nodes → HasPartIn lines faults c.phase n → (1 ≤ n) × (n ≤ nodes)
    part_number lines_are (inl one) =
        let there = at_get (λ (l : NamedLine). (1 ≤ l.node) × (l.node ≤ nodes)) lines one.at one.line lines_are.nodes_are one.is in
        (omega (arith, there.0, one.node_is), omega (arith, there.1, one.node_is))
    part_number lines_are (inr one) = subst (NamesThere shelf nodes) one.asks_is (are.there one.at one.line one.is)

    -- a node with a part in a phase can play a line then: it hasn't left, so the log isn't trimmed above what it has applied
    pub can_begin : MayRun law → FloorIs law.floor nodes → (looks : List (Option Looked)) (journal : List Event) (seat : SeatView) (desks : List Desk) → HasPartIn lines faults c.phase n
        → IsUnderWay law meaning lines home nodes c looks n from from journal seat desks → CanPlay n journal seat
    can_begin run is looks journal seat desks part u = subst (λ j. CanPlay n j seat) u.seen_is (by part)
      where
        by : HasPartIn lines faults c.phase n → CanPlay n c.seen seat
        by (inl one) =
            let number = part_number u.lines_are (inl one) in
            let behind : from ≤ one.at = ⊎_elim (λ (less : one.at < from). absurd (omega (arith, u.begins.before one.at one.line one.is less, one.phase_is))) (λ (h : from ≤ one.at). h) (cases_lt one.at from) in
            let stays : HasNotLeft n c.seen = not_left law run lines looks n c.seen u.node.did.legal u.node.did.told one.at
            (λ j l low get own. u.node.waiting j l (omega (arith, low, behind)) get own) home nodes u.lines_are one.line one.is one.node_is in
            record {
              high = trims_low law nodes is c.seen u.node.did.legal n number.0 number.1 seat.node.replica.cursor stays u.node.reports;
              stays = stays;
              reports = u.node.reports;
            }
        by (inr one) =
            let number = part_number u.lines_are (inr one) in
            let stay : StopsMembers lines one.line.before (Stop n one.after) = subst (StopsMembers lines one.line.before) one.asks_is (are.stay one.at one.line one.is) in
            goes_on law meaning run lines home nodes c looks n from from c.phase seat desks is u.node number.0 number.1
            (λ j l low get own. stay j l get
            (⊎_elim (λ (less : j < one.line.before). less) (λ (high : one.line.before ≤ j). absurd (omega (arith, u.begins.before j l get low, (are.among one.at one.line one.is).below j l get high, one.phase_is))) (cases_lt j one.line.before)) own)

-- the lines of a phase are of it
pub phase_is : (lines : List NamedLine) (from to i phase : ℕ) (line : NamedLine) → BeginsAt lines from phase → BeginsAt lines to (phase + 1) → from ≤ i → i < to → slice_get lines i ≡ Some line → line.phase ≡ phase
phase_is lines from to i phase line b e low high at =
    let least = b.behind i line at low in
    let most = e.before i line at high in
    omega (arith, least, most)

-- a node that can play a line keeps the log from where it is
pub kept_by : {beside : ℕ → ℕ → Type 0} {floor : List Entry → ℕ → Type 0} {seat : SeatView} {journal : List Event} → FloorIs floor seat.node.nodes → (1 ≤ seat.who) × (seat.who ≤ seat.node.nodes) → CanPlay seat.who journal seat → IsKept beside floor seat journal
kept_by is there can = record {
  high = can.high;
  keeps = λ user there'. record { goes_by = is; least = there.0; most = there.1; stays = can.stays; upto = can.reports };
}

-- it began no Seal where it has no right to
pub left_still : {law : Law} {meaning : Meaning} {beside : ℕ → ℕ → Type 0} {old new : List Event} {a b : SeatView}
    → IsLeft law meaning beside ⊥ old a new b → SealsNone a.who old new
left_still {old} {new} {a} h = seals_none a.who old new h.seals

-- the events of one node are of others for each other node
pub others_of : (n m : ℕ) (es : List Event) → n ≢ m → AreOwn n es → AreOthers m es
others_of n m [] apart h = tt
others_of n m (e ∷ es) apart h = ((λ same. apart (sym h.0 ∙ same)), others_of n m es apart h.1)

-- Which looks are kept

-- What the lines' own looks came to is kept, but for those of node n's lines.
pub record KeepsOthers (lines : List NamedLine) (n : ℕ) (old new : List (Option Looked)) : Type 0 where
  pub size : length new ≡ length old
  pub others : (i : ℕ) (l : NamedLine) → slice_get lines i ≡ Some l → (l.node == n) ≡ false → slice_get new i ≡ slice_get old i

pub keeps_none : (lines : List NamedLine) (n : ℕ) (looks : List (Option Looked)) → KeepsOthers lines n looks looks
keeps_none lines n looks = record { size = refl; others = λ i l at other. refl }
