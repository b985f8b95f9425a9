-- A node's part in a phase.
use Rattle.std.proofs.Common.{◌≡◌, ◌≢◌, refl, sym, ap, ◌∙◌, subst, ◌⊎◌, inl, inr, ℕ, ◌+◌, ◌≤◌, true, false, List, [], Option, Some, Result, Ok, Err, append-nil, arith}
use mathlib.Core.Logic.{dite}
use native.Mathlib.Decide.{ℕ_discrete}
use Rattle.std.specs.Prelude.{◌==◌, OnOk, is_ok, slice_get}
use Rattle.std.proofs.lemmas.Bool.Decides.{nat_tests}
use Rattle.legal_journal.specs.Law.{Law}
use Rattle.legal_journal.specs.declared.events.Event.{Event}
use Rattle.replica_api.specs.Replica.{Meaning}
use Rattle.script_text.specs.declared.asks.NamedLine.{NamedLine}
use Rattle.script_text.specs.declared.faults.FaultLine.{FaultLine}
use Rattle.turn_scopes.specs.Beside.{Since}
use Rattle.turn_scopes.specs.Seats.{SeatView, SeatOk}
use Rattle.turn_scopes.proofs.Beside.{makes_none}
use Rattle.node_lines.specs.declared.desk.Desk.{Desk}
use Rattle.node_lines.specs.declared.lines.Looked.{Looked}
use Rattle.base_engine.proofs.Arming.{arming_refl}
use Rattle.node_course.specs.Script.{AreLines, BeginsAt}
use Rattle.node_course.specs.FaultLines.{ArmedBy, HasLineIn, HasPartIn, HasStopIn, stops_in}
use Rattle.node_course.specs.Moments.{NodeCourse}
use Rattle.node_course.specs.Workers.{HasRested, Rests}
use Rattle.node_course.proofs.Joining.{goes_none}
use Rattle.node_course.proofs.Passing.{phase_passed}
use Rattle.node_crew.specs.declared.note.Note.{Note}
use Rattle.node_crew.specs.Notes.{AreNotesOf, noted}
use Rattle.node_crew.specs.Turns.{HasNone, HasOne, IsPlaying, IsUnderWay}
use Rattle.node_crew.proofs.Playing.{worker_stands}
use Rattle.node_crew.proofs.Working.{has_line_in}
use Rattle.node_threads.specs.Parts.{CanTakePart, TookPart}

some_is : {A : Type 0} (x y : A) → Some x ≡ Some y → x ≡ y
some_is x y e = cc

not_number : (a b : ℕ) → a ≢ b → (a == b) ≡ false
not_number a b e = grind (arith, nat_tests)

ok_so : {A E : Type 0} {P : Type 0} (x : Result A E) → OnOk x P → is_ok x ≡ true → P
ok_so (Ok a) p is = p
ok_so (Err e) p is = absurd (cc)

-- one line more is another node's
pub none_more : (lines : List NamedLine) (from i n : ℕ) (line : NamedLine) → slice_get lines i ≡ Some line → line.node ≢ n → HasNone lines from i n → HasNone lines from (i + 1) n
none_more lines from i n line at other none = λ j l low high is.
    dite (ℕ_discrete j i)
    (λ same. let e : line ≡ l = some_is line l (sym at ∙ (ap (slice_get lines) (sym same) ∙ is)) in subst (λ (x : NamedLine). (x.node == n) ≡ false) e (not_number line.node n other))
    (λ ne. none j l low (omega arith) is)

module _ (law : Law) (meaning : Meaning) (lines : List NamedLine) (faults : List FaultLine) (phase from to n : ℕ) (journal : List Event) (seat : SeatView) (desks : List Desk) where
  -- its turn comes
  under_way : (home : ℕ → ℕ) (nodes : ℕ) (c : NodeCourse) (looks : List (Option Looked)) (notes : List Note) → notes ≡ [] → AreLines lines home nodes → BeginsAt lines from c.phase → c.seen ≡ journal
      → Rests law meaning lines home nodes c looks n from c.phase seat desks → IsUnderWay law meaning lines home nodes c (noted looks notes) n from from journal seat desks
  under_way home nodes c looks notes none are starts seen r = subst (λ ns. IsUnderWay law meaning lines home nodes c (noted looks ns) n from from journal seat desks) (sym none)
      (record { seen_is = seen; lines_are = are; begins = starts; node = r.node })

  -- a line or a stop is its
  pub part_of : CanTakePart law meaning lines faults phase from to n journal seat desks → HasOne lines from to n ⊎ HasStopIn faults phase n → HasPartIn lines faults phase n
  part_of can (inl one) = inl (subst (λ p. HasLineIn lines p n) can.phase_is (has_line_in lines from to can.course.phase n can.starts can.ends one))
  part_of can (inr one) = inr one

  pub part_plays : (notes : List Note) → notes ≡ [] → HasPartIn lines faults phase n → (can : CanTakePart law meaning lines faults phase from to n journal seat desks) → IsPlaying law meaning lines faults (noted can.looks notes) n from to journal seat desks
  part_plays notes none one can = record {
    home = can.home;
    nodes = can.nodes;
    course = can.course;
    ends = can.ends;
    one = subst (λ p. HasPartIn lines faults p n) (sym can.phase_is) one;
    now = under_way can.home can.nodes can.course can.looks notes none can.lines_are can.starts can.seen_is can.rests;
  }

  pub part_stands : CanTakePart law meaning lines faults phase from to n journal seat desks → SeatOk law meaning journal seat
  part_stands can = subst (λ es. SeatOk law meaning es seat) can.seen_is (worker_stands law meaning n can.course.seen seat desks can.rests.node.ok)

  -- a node without a line
  pub part_idle : from ≤ to → CanTakePart law meaning lines faults phase from to n journal seat desks → HasNone lines from to n → stops_in n phase faults ≡ [] → (notes : List Note) → notes ≡ [] → TookPart law meaning lines faults phase from to n journal seat desks journal seat desks notes true
  part_idle range can idle unstopped notes none = record {
    armed = λ sufficed. subst (λ xs. ArmedBy xs seat.node.replica seat.node.replica) (sym unstopped) (arming_refl 0 seat.node.replica);
    who_is = can.rests.node.ok.who_is;
    stands = part_stands can;
    grows = ([], sym (append-nil journal));
    quiet = record { more = []; seen = sym (append-nil journal); none = tt };
    own = subst (AreNotesOf lines n) (sym none) tt;
    works = inr refl;
    goes = λ sufficed home nodes c looks are starts ends seen r. record {
      course = c;
      seen_is = seen;
      goes = goes_none c;
      rests = subst (λ ns. Rests law meaning lines home nodes c (noted looks ns) n to (c.phase + 1) seat desks) (sym none)
          (record { node = phase_passed law meaning lines home nodes c looks n from to seat desks range starts idle r.node; none_given = r.none_given });
    };
  }

  -- a node that has played its lines
  pub part_done : {A E : Type 0} (beside : ℕ → Type 0) (apart : (user : ℕ) → beside user → user ≢ n) (answer : Result A E) (journal' : List Event) (seat' : SeatView) (desks' : List Desk) (was notes : List Note) → was ≡ [] → HasPartIn lines faults phase n → seat'.who ≡ n → SeatOk law meaning journal' seat'
      → Since n beside journal journal' → AreNotesOf lines n notes
      → ((home : ℕ → ℕ) (nodes : ℕ) (c : NodeCourse) (looks : List (Option Looked)) → IsUnderWay law meaning lines home nodes c (noted looks was) n from from journal seat desks → BeginsAt lines to (c.phase + 1)
      → OnOk answer (HasRested law meaning lines home nodes c (noted looks notes) n to (c.phase + 1) journal' seat' desks'))
      → OnOk answer (ArmedBy (stops_in n phase faults) seat.node.replica seat'.node.replica)
      → TookPart law meaning lines faults phase from to n journal seat desks journal' seat' desks' notes (is_ok answer)
  part_done beside apart answer journal' seat' desks' was notes none one who stands since own goes armed = record {
    armed = λ sufficed. ok_so answer armed sufficed;
    who_is = who;
    stands = stands;
    grows = (since.more, since.seen);
    quiet = makes_none n beside apart journal journal' since;
    own = own;
    works = inl one;
    goes = λ sufficed home nodes c looks are starts ends seen r. ok_so answer (goes home nodes c looks (under_way home nodes c looks was none are starts seen r) ends) sufficed;
  }
