-- All nodes rest on as number 0, which is no node, has events of its own.
use Rattle.std.proofs.Common.{◌≡◌, refl, sym, ap, ◌∙◌, subst, ⊎_elim, inl, ℕ, ◌+◌, ◌≤◌, true, false, List, ◌++◌, Option, Some, length, slice_get, arith}
use Rattle.std.proofs.lemmas.Option.{slice_get_within}
use Rattle.legal_journal.specs.Law.{Law}
use Rattle.legal_journal.specs.declared.events.Event.{Event}
use Rattle.legal_journal.specs.Journal.{IsLegal}
use Rattle.replica_api.specs.Replica.{Meaning}
use Rattle.script_text.specs.declared.asks.NamedLine.{NamedLine}
use Rattle.script_text.specs.declared.faults.FaultLine.{FaultLine}
use Rattle.turn_scopes.specs.Seats.{SeatView}
use Rattle.node_lines.specs.declared.desk.Desk.{Desk}
use Rattle.node_lines.specs.declared.lines.Looked.{Looked}
use Rattle.run_laws.proofs.Members.{Among, all-at, contained-among, contains-among}
use Rattle.node_course.specs.FaultLines.{AreOutside, IsOutside}
use Rattle.node_course.specs.Moments.{NodeCourse, and_then}
use Rattle.node_course.specs.Workers.{Rests}
use Rattle.node_course.proofs.Keeping.{behind_still}
use Rattle.node_course.proofs.Outside.{outside_others, outside_unsaid, outside_unsealing}
use Rattle.node_course.proofs.Staying.{node_stays_by}
use Rattle.node_crew.specs.Crews.{CrewRests, HasSeenAll, SealsOfNodes}
use Rattle.node_crew.proofs.Working.{among_parts, worked_on}

module _ {A : Type 0} (law : Law) (meaning : Meaning) (lines : List NamedLine) (faults : List FaultLine) (seat : A → SeatView) (desks : A → List Desk) (workers : List A) (from phase : ℕ) (journal more : List Event) (looks : List (Option Looked))
    (h : CrewRests law meaning lines faults from phase journal looks seat desks workers) (outside : AreOutside more) (legal : IsLegal law (journal ++ more)) where
  abbrev then' : ℕ → NodeCourse
  then' n = and_then (h.courses n) more

  seen : (n : ℕ) → 1 ≤ n → n ≤ length workers → HasSeenAll phase h.begins (journal ++ more) (then' n)
  seen n least most =
      let s = h.seen n least most in
      record { phase_is = s.phase_is; begins_are = s.begins_are; seen_is = ap (λ l. l ++ more) s.seen_is }

  -- a node stays as it was
  each : (j : ℕ) (w : A) → slice_get workers j ≡ Some w → Rests law meaning lines h.home (length workers) (then' (j + 1)) looks (j + 1) from phase (seat w) (desks w)
  each j w at =
      let inside = slice_get_within workers j w at in
      let s = h.seen (j + 1) (omega arith) (omega (arith, inside)) in
      let r = h.each j w at in
      record {
        node = node_stays_by law meaning lines h.home (length workers) (h.courses (j + 1)) looks looks (j + 1) from from phase more (seat w) (desks w) (outside_others (j + 1) (omega arith) more outside)
            (subst (λ l. IsLegal law (l ++ more)) (sym s.seen_is) legal) refl (λ i l get there. refl) r.node
            (λ e p there among position is. r.node.reports e p (outside_unsaid more outside (h.courses (j + 1)).seen e there) among position is);
        none_given = r.none_given;
      }

  apart : true ≡ false → ⊥
  apart e = cc

  seals : SealsOfNodes (length workers) (journal ++ more)
  seals = λ e has is. ⊎_elim
      (λ (was : Among journal e). h.seals e (contains-among journal e was) is)
      (λ (now : Among more e). absurd (apart (sym is ∙ outside_unsealing more e outside now)))
      (among_parts journal more e (contained-among (journal ++ more) e has))

  pub crew_outside : CrewRests law meaning lines faults from phase (journal ++ more) looks seat desks workers
  crew_outside = record {
    home = h.home;
    courses = then';
    begins = h.begins;
    lines_are = h.lines_are;
    ends = h.ends;
    long = h.long;
    made = worked_on lines faults phase h.begins journal more (journal ++ more) h.long refl (λ e has. inl (all-at IsOutside more e outside (contained-among more e has))) h.made;
    seals = seals;
    behind = behind_still law journal (journal ++ more) (more, refl) legal (outside_unsaid more outside journal) h.behind;
    seen = seen;
    each = each;
  }
