-- All answers were taken: the run has closed.
use Rattle.std.proofs.Common.{◌≡◌, refl, sym, ap, ◌∙◌, subst, ◌⊎◌, inl, inr, ⊎_elim, true, ℕ, ◌+◌, ◌<◌, ◌≤◌, List, ◌∷◌, ◌++◌, Option, Some, None, map, length, slice_get, arith, append_assoc}
use Rattle.std.specs.Prelude.{get_or, option_map}
use Rattle.std.proofs.lemmas.List.{append_cancel_left, length-map}
use Rattle.std.proofs.lemmas.Option.{slice_get-map, slice_get_within}
use Rattle.delos_types.specs.declared.entry.Entry.{Entry}
use Rattle.legal_journal.specs.Law.{Law}
use Rattle.delos_types.specs.declared.chain.Chain.{Chain}
use Rattle.legal_journal.specs.declared.events.Event.{Event}
use Rattle.legal_journal.specs.declared.events.FabricCall.{FabricCall}
use Rattle.legal_journal.specs.declared.events.FabricCall.TheVariants.{Begin, Carry, Forget, ReadChain, WriteChain, Stop, Mend, Stray, StopMeta, MendMeta}
use Rattle.legal_journal.specs.declared.events.FabricAnswer.{FabricAnswer}
use Rattle.legal_journal.specs.declared.events.FabricAnswer.TheVariants.{At, Down, Set}
use Rattle.legal_journal.specs.FaultCalls.{is_fault}
use Rattle.legal_journal.specs.Moves.{move_of}
use Rattle.virtual_log.specs.Writing.{chain_by}
use Rattle.virtual_log.specs.declared.extend.Extension.TheVariants.{Moved}
use Rattle.replica_api.specs.Replica.{Meaning}
use Rattle.script_text.specs.declared.asks.NamedLine.{NamedLine}
use Rattle.script_text.specs.declared.faults.FaultLine.{FaultLine}
use Rattle.turn_scopes.specs.Seats.{SeatView}
use Rattle.node_lines.specs.declared.desk.Desk.{Desk}
use Rattle.node_lines.specs.declared.lines.Looked.{Looked}
use Rattle.node_lines.specs.declared.lines.Looked.TheVariants as looked
use Rattle.run_laws.proofs.Members.{Among, among-right, contains-among}
use Rattle.node_course.specs.Script.{AreLines}
use Rattle.node_course.specs.FaultLines.{HasPartIn, IsOutside}
use Rattle.node_course.specs.Moments.{NodeCourse, moment}
use Rattle.node_course.specs.Played.{Came}
use Rattle.node_course.specs.Replacing.{IsPassed}
use Rattle.node_course.specs.Joined.{AreJoined}
use Rattle.node_course.proofs.Parts.{moment_is, node_there}
use Rattle.node_crew.specs.Crews.{AreAtWork, AreOfPhases, SealsOfNodes}
use Rattle.run_ends.specs.Closing.{HasBeside, WorkerEnd, WorkerClosed, HasClosed}
use Rattle.run_closing.specs.Taking.{CrewTakes}

-- each element of a list that was mapped comes of one
pub mapped : {A B : Type 0} (f : A → B) (xs : List A) (j : ℕ) (y : B) → slice_get (map f xs) j ≡ Some y → (x : A) × (slice_get xs j ≡ Some x) × (f x ≡ y)
mapped {A} {B} f xs j y at = by (slice_get xs j) refl (sym (slice_get-map f xs j) ∙ at)
  where
    by : (o : Option A) → slice_get xs j ≡ o → option_map f o ≡ Some y → (x : A) × (slice_get xs j ≡ Some x) × (f x ≡ y)
    by None is e = absurd (cc)
    by (Some x) is e = (x, is, cc)

-- who wrote a chain is no outsider
writes_none : (call : FabricCall) (answer : FabricAnswer) (c : Chain) → (call ≡ ReadChain) ⊎ (is_fault call ≡ true) → chain_by (move_of call answer) ≡ Some c → ⊥
writes_none ReadChain (At v d) c h wrote = absurd (cc)
writes_none ReadChain Down c h wrote = absurd (cc)
writes_none ReadChain answer c h wrote = absurd (cc)
writes_none (Stop i server n) (Set true) c h wrote = absurd (cc)
writes_none (Stop i server n) answer c h wrote = absurd (cc)
writes_none (Mend i server word) (Set up) c h wrote = absurd (cc)
writes_none (Mend i server word) answer c h wrote = absurd (cc)
writes_none (Stray i word) (Set true) c h wrote = absurd (cc)
writes_none (Stray i word) answer c h wrote = absurd (cc)
writes_none (StopMeta n) (Set true) c h wrote = absurd (cc)
writes_none (StopMeta n) answer c h wrote = absurd (cc)
writes_none (MendMeta word) (Set up) c h wrote = absurd (cc)
writes_none (MendMeta word) answer c h wrote = absurd (cc)
writes_none (Begin i op) answer c (inl is) wrote = absurd (cc)
writes_none (Begin i op) answer c (inr is) wrote = absurd (cc)
writes_none (Carry i t word) answer c (inl is) wrote = absurd (cc)
writes_none (Carry i t word) answer c (inr is) wrote = absurd (cc)
writes_none (Forget i t) answer c (inl is) wrote = absurd (cc)
writes_none (Forget i t) answer c (inr is) wrote = absurd (cc)
writes_none (WriteChain x d) answer c (inl is) wrote = absurd (cc)
writes_none (WriteChain x d) answer c (inr is) wrote = absurd (cc)

-- Where a line found that another node had replaced the last loglet, that node had an event in the phase, and so a part in it.
moved_beside : (law : Law) (lines : List NamedLine) (faults : List FaultLine) (home : ℕ → ℕ) (nodes : ℕ) (run : NodeCourse) (looks : List (Option Looked)) (courses : ℕ → NodeCourse) (journal : List Event) → AreLines lines home nodes → AreJoined law lines home nodes run looks courses
    → run.seen ≡ journal → AreOfPhases lines faults run.phase run.begins journal → ((i : ℕ) (l : NamedLine) → slice_get lines i ≡ Some l → l.phase < run.phase)
    → (i : ℕ) (l : NamedLine) (version : ℕ) → slice_get lines i ≡ Some l → slice_get looks i ≡ Some (Some (looked.Extended (Moved version))) → HasBeside lines faults l
moved_beside law lines faults home nodes run looks courses journal are join seen made over i l version at look = record {
  node = event.event.who;
  part = part;
  another = event.is.apart;
}
  where
    come : Came lines looks l.node i l (looked.Extended (Moved version))
    come = record { is = at; own = refl; looked = look }

    there : (1 ≤ l.node) × (l.node ≤ nodes)
    there = node_there law lines home nodes run looks courses are join l.node i l (looked.Extended (Moved version)) come

    event : IsPassed l.node (moment (courses l.node) l.phase) (moment (courses l.node) (l.phase + 1))
    event = ((join.did l.node there.0 there.1).replaced.each i l (Moved version) come).1

    moments : (p : ℕ) → moment (courses l.node) p ≡ get_or run.begins p journal
    moments p = moment_is law lines home nodes run looks courses join l.node there.0 there.1 p ∙ ap (get_or run.begins p) seen

    work : AreAtWork lines faults l.phase (moment (courses l.node) l.phase) (moment (courses l.node) (l.phase + 1))
    work =
        let early = over i l at in
        subst (λ j. AreAtWork lines faults l.phase j (moment (courses l.node) (l.phase + 1))) (sym (moments l.phase))
        (subst (AreAtWork lines faults l.phase (get_or run.begins l.phase journal)) (sym (moments (l.phase + 1))) (made i l at (omega (arith, early))))

    among : Among work.more event.event
    among =
        let same : work.more ≡ event.before ++ event.event ∷ event.after = append_cancel_left (moment (courses l.node) l.phase) work.more (event.before ++ event.event ∷ event.after)
        (sym work.seen ∙ (event.seen ∙ append_assoc (moment (courses l.node) l.phase) event.before (event.event ∷ event.after))) in
        subst (λ es. Among es event.event) (sym same) (among-right event.before (event.event ∷ event.after) event.event (inl refl))

    part : HasPartIn lines faults l.phase event.event.who
    part = ⊎_elim
        (λ (outside : IsOutside event.event). absurd (writes_none event.event.call event.event.answer event.is.chain outside.1 event.is.wrote))
        (λ (k : HasPartIn lines faults l.phase event.event.who). k)
        (work.each event.event (contains-among work.more event.event among))

module _ {A : Type 0} (law : Law) (meaning : Meaning) (lines : List NamedLine) (faults : List FaultLine) (seat : A → SeatView) (desks : A → List Desk) (workers : List A) (journal : List Event) (looks : List (Option Looked)) where
  abbrev ends : List WorkerEnd
  ends = map (λ w. record { seat = seat w; desks = desks w }) workers

  long : length ends ≡ length workers
  long = length-map workers (λ w. record { seat = seat w; desks = desks w })

  pub has_closed : (node cursor : ℕ) → CrewTakes law meaning lines faults node cursor (length workers) journal looks seat desks workers
      → (log : List Entry) × (length log ≡ cursor) × HasClosed law meaning lines faults journal looks log (map (λ w. record { seat = seat w; desks = desks w }) workers)
  has_closed node cursor h = (
    h.log,
    h.size,
    record {
      home = h.home;
      run = h.run;
      courses = h.courses;
      seen_is = h.seen_is;
      lines_are = subst (AreLines lines h.home) (sym long) h.lines_are;
      joined = subst (λ n. AreJoined law lines h.home n h.run looks h.courses) (sym long) h.joined;
      over = h.over;
      front = h.front;
      each = λ j e at. let from = mapped (λ (w : A). record { seat = seat w; desks = desks w }) workers j e at in
          subst (λ n. WorkerClosed law meaning lines h.home n (h.courses (j + 1)) looks h.log (j + 1) e) (sym long)
          (subst (WorkerClosed law meaning lines h.home (length workers) (h.courses (j + 1)) looks h.log (j + 1)) from.2
          (h.taken j from.0 (slice_get_within workers j from.0 from.1) from.1));
      beside = λ i l version at look. moved_beside law lines faults h.home (length workers) h.run looks h.courses journal h.lines_are h.joined h.seen_is h.made h.over i l version at look;
      seals = subst (λ n. SealsOfNodes n journal) (sym long) h.seals;
      behind = h.behind;
    },
  )
