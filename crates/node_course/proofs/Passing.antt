-- What changes nothing of a node: the lines of others, and phases without a line of its own.
use Rattle.std.proofs.Common.{◌≡◌, refl, sym, ap, ◌∙◌, subst, ◌⊎◌, inl, inr, ℕ, ◌+◌, ◌<◌, ◌≤◌, true, false, List, Option, Some, arith, eq-eqb}
use Rattle.std.specs.Prelude.{◌==◌, slice_get}
use Rattle.std.proofs.lemmas.Bool.{cases_lt}
use Rattle.legal_journal.specs.Law.{Law}
use Rattle.replica_api.specs.Replica.{Meaning}
use Rattle.script_text.specs.declared.asks.NamedLine.{NamedLine}
use Rattle.script_text.specs.declared.asks.Asks.{Asks}
use Rattle.script_text.specs.declared.asks.Asks.TheVariants as asks
use Rattle.turn_scopes.specs.Seats.{SeatView}
use Rattle.node_lines.specs.declared.desk.Desk.{Desk}
use Rattle.node_lines.specs.declared.lines.Looked.{Looked}
use Rattle.node_course.specs.Script.{BeginsAt, asked_by}
use Rattle.node_course.specs.Moments.{NodeCourse}
use Rattle.node_course.specs.Desks.{DeskAt, WasEnded, PlayedSo}
use Rattle.node_course.specs.Workers.{NodeAt}
use Rattle.node_course.proofs.Script.{asked-elsewhere, asked-none}

module _ (law : Law) (meaning : Meaning) (lines : List NamedLine) (home : ℕ → ℕ) (nodes : ℕ) (c : NodeCourse) (looks : List (Option Looked)) (n from : ℕ) where
  desk_at : (i j done s : ℕ) (d : Desk) → asked_by lines n s j ≡ asked_by lines n s i → DeskAt lines home c n from i done s d → DeskAt lines home c n from j done s d
  desk_at i j done s d same h = record {
    asked = h.asked ∙ sym same;
    ended = h.ended;
    here = h.here;
    halted = λ cause none some.
        let k = h.halted cause none some in
        record { came = k.came; running = k.running; asked = omega (arith, k.asked, same) };
    held = h.held;
  }

  pub another_line : (i done : ℕ) (line : NamedLine) (seat : SeatView) (desks : List Desk) → slice_get lines i ≡ Some line → (line.node == n) ≡ false
      → NodeAt law meaning lines home nodes c looks n from i done seat desks → NodeAt law meaning lines home nodes c looks n from (i + 1) done seat desks
  another_line i done line seat desks at other w = record {
    ok = w.ok;
    did = w.did;
    nodes_is = w.nodes_is;
    order = omega (arith, w.order);
    early = λ j l low is own. early_by j l low is own (cases_lt j i);
    each = λ s d is. desk_at i (i + 1) done s d (asked-elsewhere lines n s i line at other) (w.each s d is);
    quiet = λ s e. w.quiet s (e ∙ asked-elsewhere lines n s i line at other);
    given = w.given;
    waiting = λ j l low is own. w.waiting j l (omega (arith, low)) is own;
    played = λ j l low is own. by j l low is own (cases_lt j i);
    reports = w.reports;
    stores = w.stores;
  }
    where
      not_own : (l : NamedLine) → slice_get lines i ≡ Some l → l.node ≡ n → ⊥
      not_own l is own =
          let same : Some line ≡ Some l = sym at ∙ is in
          let it : line ≡ l = cc in
          let yes : (line.node == n) ≡ true = eq-eqb line.node n (ap (λ (m : NamedLine). m.node) it ∙ own) in
          let no : true ≡ false = sym yes ∙ other in
          cc

      early_by : (j : ℕ) (l : NamedLine) → j < i + 1 → slice_get lines j ≡ Some l → l.node ≡ n → (j < i) ⊎ (i ≤ j) → l.phase ≤ c.phase
      early_by j l low is own (inl lt) = w.early j l lt is own
      early_by j l low is own (inr ge) = absurd (let e : j ≡ i = omega arith in not_own l (subst (λ k. slice_get lines k ≡ Some l) e is) own)

      by : (j : ℕ) (l : NamedLine) → j < i + 1 → slice_get lines j ≡ Some l → l.node ≡ n → (j < i) ⊎ (i ≤ j) → PlayedSo lines c done seat.node.replica.cursor n desks looks j l.phase l.asks
      by j l low is own (inl lt) = w.played j l lt is own
      by j l low is own (inr ge) = absurd (let e : j ≡ i = omega arith in not_own l (subst (λ k. slice_get lines k ≡ Some l) e is) own)

  -- one more phase ended
  ended_on : (done s a : ℕ) (d : Desk) → WasEnded lines c n done s d a → WasEnded lines c n (done + 1) s d a
  ended_on done s a d h = record {
    cause = h.cause;
    is = h.is;
    came = h.came;
    before = omega (arith, h.before);
    unanswered = h.unanswered;
    earlier = h.earlier;
  }

  played_on : (done cursor i phase : ℕ) (desks : List Desk) (a : Asks) → phase < done → PlayedSo lines c done cursor n desks looks i phase a → PlayedSo lines c (done + 1) cursor n desks looks i phase a
  played_on done cursor i phase desks (asks.Logged s r command) low h = λ d is. record { acted = λ lt upto. (h d is).acted low upto; unsent = (h d is).unsent }
  played_on done cursor i phase desks (asks.Look s query) low h = h
  played_on done cursor i phase desks (asks.Admin a) low h = h

  pub phase_passed : (to : ℕ) (seat : SeatView) (desks : List Desk) → from ≤ to → BeginsAt lines from c.phase
      → ((i : ℕ) (l : NamedLine) → from ≤ i → i < to → slice_get lines i ≡ Some l → (l.node == n) ≡ false)
      → NodeAt law meaning lines home nodes c looks n from from c.phase seat desks → NodeAt law meaning lines home nodes c looks n to to (c.phase + 1) seat desks
  phase_passed to seat desks le begins none w = record {
    ok = w.ok;
    did = w.did;
    nodes_is = w.nodes_is;
    order = omega arith;
    early = λ j l low is own. early_by j l low is own (cases_lt j from);
    each = λ s d is.
        let h = w.each s d is in
        record {
          asked = h.asked ∙ sym (asked-none lines n s from to le none);
          ended = λ a e. ended_on c.phase s a d (h.ended a e);
          here = h.here;
          halted = λ cause free some. absurd (let k = (h.halted cause free some).asked in omega (arith, k));
          held = h.held;
        };
    quiet = λ s e. w.quiet s refl;
    given = w.given;
    waiting = λ j l low is own. w.waiting j l (omega (arith, low, le)) is own;
    played = λ j l low is own. by j l low is own (cases_lt j from);
    reports = w.reports;
    stores = w.stores;
  }
    where
      not_own : (j : ℕ) (l : NamedLine) → from ≤ j → j < to → slice_get lines j ≡ Some l → l.node ≡ n → ⊥
      not_own j l low high is own =
          let yes' : (l.node == n) ≡ true = eq-eqb l.node n own in
          let clash : true ≡ false = sym yes' ∙ none j l low high is in
          cc

      early_by : (j : ℕ) (l : NamedLine) → j < to → slice_get lines j ≡ Some l → l.node ≡ n → (j < from) ⊎ (from ≤ j) → l.phase ≤ c.phase
      early_by j l low is own (inl lt) = w.early j l lt is own
      early_by j l low is own (inr ge) = absurd (not_own j l ge low is own)

      by : (j : ℕ) (l : NamedLine) → j < to → slice_get lines j ≡ Some l → l.node ≡ n → (j < from) ⊎ (from ≤ j) → PlayedSo lines c (c.phase + 1) seat.node.replica.cursor n desks looks j l.phase l.asks
      by j l low is own (inl lt) = played_on c.phase seat.node.replica.cursor j l.phase desks l.asks (begins.before j l is lt) (w.played j l lt is own)
      by j l low is own (inr ge) = absurd (not_own j l ge low is own)
