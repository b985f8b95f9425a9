-- All nodes, in a phase and between two.
use Rattle.std.proofs.Common.{◌≡◌, ◌≢◌, refl, sym, ap, ◌∙◌, subst, ◌⊎◌, inl, inr, ℕ, zero, suc, ◌+◌, ◌-◌, ◌<◌, ◌≤◌, Bool, true, false, cond, List, [], ◌∷◌, ◌++◌, Option, Some, length, length-append, arith, eq-eqb, eqb-true}
use Rattle.std.specs.Prelude.{◌==◌, get_or, slice_get, slice_set, remove, insert}
use Rattle.std.proofs.lemmas.Bool.{cases_lt}
use Rattle.std.proofs.lemmas.Option.{slice_get_within}
use Rattle.fabric_core.proofs.Marks.{set_other, set_same}
use Rattle.legal_journal.specs.Law.{Law}
use Rattle.legal_journal.specs.declared.events.Event.{Event}
use Rattle.legal_journal.specs.Journal.{IsLegal}
use Rattle.replica_api.specs.Replica.{Meaning}
use Rattle.script_text.specs.declared.asks.NamedLine.{NamedLine}
use Rattle.script_text.specs.declared.faults.FaultLine.{FaultLine}
use Rattle.turn_scopes.specs.Alone.{OwnSince}
use Rattle.turn_scopes.specs.Seats.{SeatView, SeatOk}
use Rattle.node_lines.specs.declared.desk.Desk.{Desk}
use Rattle.node_lines.specs.declared.lines.Looked.{Looked}
use Rattle.node_lines.specs.Workers.{MayRun, Grows}
use Rattle.node_lines.proofs.Staying.{seat_later}
use Rattle.node_course.specs.Script.{AreLines, BeginsAt}
use Rattle.node_course.specs.Moments.{NodeCourse, and_then, next_phase}
use Rattle.node_course.specs.Telling.{AreBehind, AreTold, AsksBehind}
use Rattle.node_course.specs.Workers.{HasRested, NodeAt, Rests}
use Rattle.node_course.proofs.Asked.{behind_joined}
use Rattle.node_course.proofs.Staying.{node_stays}
use Rattle.run_laws.proofs.Members.{contained-among}
use Rattle.node_course.proofs.Passing.{phase_passed}
use Rattle.node_course.proofs.Beginning.{rests_then}
use Rattle.node_crew.specs.Turns.{HasNone}
use Rattle.node_crew.specs.Crews.{AreAtWork, AreOfPhases, HasSeenAll, CrewRests, CrewStands, SealsOfNodes}
use Rattle.node_crew.proofs.Playing.{KeepsOthers, others_of}
use Rattle.node_crew.proofs.Working.{at_work_none, get_beyond, get_pushed, own_who, seals_more}

-- A phase has ended, whose lines are those from `from` up to `to`, and the next one hasn't begun: each node has played its lines of it, and
-- has seen all of the run.
pub record CrewEnds {A : Type 0} (law : Law) (meaning : Meaning) (lines : List NamedLine) (faults : List FaultLine) (from to : ℕ) (journal : List Event) (looks : List (Option Looked)) (seat : A → SeatView) (desks : A → List Desk) (workers : List A) : Type 0 where
  pub home : ℕ → ℕ
  pub courses : ℕ → NodeCourse
  pub phase : ℕ
  pub begins : List (List Event)
  pub lines_are : AreLines lines home (length workers)
  pub starts : BeginsAt lines from phase
  pub ends : BeginsAt lines to (phase + 1)
  pub long : length begins ≡ phase + 1
  pub made : AreOfPhases lines faults phase begins journal
  pub seals : SealsOfNodes (length workers) journal
  pub behind : AreBehind journal
  pub seen : (n : ℕ) → 1 ≤ n → n ≤ length workers → HasSeenAll phase begins journal (courses n)
  pub each : (j : ℕ) (w : A) → slice_get workers j ≡ Some w → Rests law meaning lines home (length workers) (courses (j + 1)) looks (j + 1) to (phase + 1) (seat w) (desks w)

-- an element is taken out, and another put in its place
pub put_back : {A : Type 0} (xs : List A) (k : ℕ) (y : A) → k < length xs → insert (remove xs k) k y ≡ slice_set xs k y
put_back [] k y h = absurd (omega arith)
put_back (x ∷ xs) zero y h = refl
put_back (x ∷ xs) (suc k) y h = ap (λ l. x ∷ l) (put_back xs k y (omega arith))

-- each element after one was changed is that one, or was there
pub changed : {A : Type 0} (xs : List A) (k j : ℕ) (old y w : A) → slice_get xs k ≡ Some old → slice_get (slice_set xs k y) j ≡ Some w → ((j ≡ k) × (y ≡ w)) ⊎ ((j ≢ k) × (slice_get xs j ≡ Some w))
changed xs k j old y w at is = by (cases_lt j k) (cases_lt k j)
  where
    some : y ≡ y → Some y ≡ Some w → y ≡ w
    some r e = cc

    by : (j < k) ⊎ (k ≤ j) → (k < j) ⊎ (j ≤ k) → ((j ≡ k) × (y ≡ w)) ⊎ ((j ≢ k) × (slice_get xs j ≡ Some w))
    by (inl low) q = let other : j ≢ k = λ e. omega (arith, low, e) in inr (other, sym (set_other xs k j y other) ∙ is)
    by (inr high) (inl more) = let other : j ≢ k = λ e. omega (arith, more, e) in inr (other, sym (set_other xs k j y other) ∙ is)
    by (inr high) (inr low) =
        let same : j ≡ k = omega (arith, high, low) in
        inl (same, some refl (sym (set_same xs k y old at) ∙ (ap (slice_get (slice_set xs k y)) (sym same) ∙ is)))

-- a node that rests stays so while others make these events, and their lines' looks come to something
rests_on : (law : Law) (meaning : Meaning) → MayRun law → (lines : List NamedLine) (home : ℕ → ℕ) (nodes : ℕ) (c : NodeCourse) (looks looks' : List (Option Looked)) (n m from done : ℕ) (journal journal' : List Event) (seat : SeatView) (desks : List Desk)
    → (since : OwnSince n journal journal') → m ≢ n → c.seen ≡ journal → IsLegal law journal' → KeepsOthers lines n looks looks'
    → Rests law meaning lines home nodes c looks m from done seat desks → Rests law meaning lines home nodes (and_then c since.more) looks' m from done seat desks
rests_on law meaning run lines home nodes c looks looks' n m from done journal journal' seat desks since apart seen legal keeps r = record {
  node = node_stays law meaning run lines home nodes c looks looks' m from from done since.more seat desks (others_of n m since.more (λ same. apart (sym same)) since.own)
      (subst (IsLegal law) (since.seen ∙ ap (λ j. j ++ since.more) (sym seen)) legal) keeps.size (λ i l get own. keeps.others i l get (by l own (l.node == n) refl)) r.node;
  none_given = r.none_given;
}
  where
    by : (l : NamedLine) → l.node ≡ m → (b : Bool) → (l.node == n) ≡ b → (l.node == n) ≡ false
    by l own false is = is
    by l own true is = absurd (apart (sym own ∙ eqb-true l.node n is))

-- the course of a node whose turn it was; the others' go on with its events
abbrev pub courses_then : (ℕ → NodeCourse) → ℕ → NodeCourse → List Event → ℕ → NodeCourse
courses_then courses n course more m = cond (m == n) course (and_then (courses m) more)

course_own : (courses : ℕ → NodeCourse) (n : ℕ) (course : NodeCourse) (more : List Event) → courses_then courses n course more n ≡ course
course_own courses n course more = ap {B = NodeCourse} (λ b. cond b course (and_then (courses n) more)) (eq-eqb n n refl)

course_other : (courses : ℕ → NodeCourse) (n m : ℕ) (course : NodeCourse) (more : List Event) → m ≢ n → courses_then courses n course more m ≡ and_then (courses m) more
course_other courses n m course more apart = ap {B = NodeCourse} (λ b. cond b course (and_then (courses m) more)) (by (m == n) refl)
  where
    by : (b : Bool) → (m == n) ≡ b → (m == n) ≡ false
    by false is = is
    by true is = absurd (apart (eqb-true m n is))

module _ {A : Type 0} (law : Law) (meaning : Meaning) (lines : List NamedLine) (seat : A → SeatView) (desks : A → List Desk) (workers : List A) where
  -- the node at this index has seen all of the run
  seen_at : {phase : ℕ} {begins : List (List Event)} {journal : List Event} {courses : ℕ → NodeCourse} → ((n : ℕ) → 1 ≤ n → n ≤ length workers → HasSeenAll phase begins journal (courses n)) → (j : ℕ) (w : A) → slice_get workers j ≡ Some w → HasSeenAll phase begins journal (courses (j + 1))
  seen_at seen j w at = let inside = slice_get_within workers j w at in seen (j + 1) (omega arith) (omega (arith, inside))

  -- a node without a line in the phase passes by
  passes : (home : ℕ → ℕ) (c : NodeCourse) (looks : List (Option Looked)) (n from to phase : ℕ) (w : A) → c.phase ≡ phase → from ≤ to → BeginsAt lines from phase → HasNone lines from to n
      → Rests law meaning lines home (length workers) c looks n from phase (seat w) (desks w) → Rests law meaning lines home (length workers) c looks n to (phase + 1) (seat w) (desks w)
  passes home c looks n from to phase w is range b none r = subst (λ p. Rests law meaning lines home (length workers) c looks n to (p + 1) (seat w) (desks w)) is (record {
    node = phase_passed law meaning lines home (length workers) c looks n from to (seat w) (desks w) range (subst (BeginsAt lines from) (sym is) b) none
        (subst (λ p. NodeAt law meaning lines home (length workers) c looks n from from p (seat w) (desks w)) (sym is) r.node);
    none_given = r.none_given;
  })

  -- A node had events, and its course went on, to where it rests; so did those of the others.
  module _ (run : MayRun law) (home : ℕ → ℕ) (courses : ℕ → NodeCourse) (phase : ℕ) (begins : List (List Event)) (to done k : ℕ) (journal journal' : List Event) (looks looks' : List (Option Looked)) (w w' : A) (at : slice_get workers k ≡ Some w) (all : (n : ℕ) → 1 ≤ n → n ≤ length workers → HasSeenAll phase begins journal (courses n)) (since : OwnSince (k + 1) journal journal') (keeps : KeepsOthers lines (k + 1) looks looks') (t : HasRested law meaning lines home (length workers) (courses (k + 1)) looks' (k + 1) to done journal' (seat w') (desks w')) where
    abbrev pub then_courses : ℕ → NodeCourse
    then_courses m = courses_then courses (k + 1) t.course since.more m

    me : HasSeenAll phase begins journal (courses (k + 1))
    me = seen_at all k w at

    own_or_other : (n : ℕ) → (n ≡ k + 1) ⊎ (n ≢ k + 1)
    own_or_other n = by (n == k + 1) refl
      where
        by : (b : Bool) → (n == k + 1) ≡ b → (n ≡ k + 1) ⊎ (n ≢ k + 1)
        by true is = inl (eqb-true n (k + 1) is)
        by false is = inr (λ same. let clash : true ≡ false = sym (eq-eqb n (k + 1) same) ∙ is in cc)

    pub then_seen : (n : ℕ) → 1 ≤ n → n ≤ length workers → HasSeenAll phase begins journal' (then_courses n)
    then_seen n least most = by (own_or_other n) (all n least most)
      where
        by : (n ≡ k + 1) ⊎ (n ≢ k + 1) → HasSeenAll phase begins journal (courses n) → HasSeenAll phase begins journal' (then_courses n)
        by (inl same) s = subst (HasSeenAll phase begins journal') (sym (ap (λ m. then_courses m) same ∙ course_own courses (k + 1) t.course since.more))
            (record { phase_is = t.goes.phase ∙ me.phase_is; begins_are = t.goes.begins ∙ me.begins_are; seen_is = t.seen_is })
        by (inr apart) s = subst (HasSeenAll phase begins journal') (sym (course_other courses (k + 1) n t.course since.more apart))
            (record { phase_is = s.phase_is; begins_are = s.begins_are; seen_is = ap (λ j. j ++ since.more) s.seen_is ∙ sym since.seen })

    pub then_others : (j begin over : ℕ) (x : A) → j ≢ k → slice_get workers j ≡ Some x → Rests law meaning lines home (length workers) (courses (j + 1)) looks (j + 1) begin over (seat x) (desks x)
        → Rests law meaning lines home (length workers) (then_courses (j + 1)) looks' (j + 1) begin over (seat x) (desks x)
    then_others j begin over x other is r =
        let apart : j + 1 ≢ k + 1 = λ same. other (omega (arith, same)) in
        subst (λ c. Rests law meaning lines home (length workers) c looks' (j + 1) begin over (seat x) (desks x)) (sym (course_other courses (k + 1) (j + 1) t.course since.more apart))
        (rests_on law meaning run lines home (length workers) (courses (j + 1)) looks looks' (k + 1) (j + 1) begin over journal journal' (seat x) (desks x) since apart (seen_at all j x is).seen_is
        (subst (IsLegal law) t.seen_is t.rests.node.did.legal) keeps r)

    pub then_own : Rests law meaning lines home (length workers) (then_courses (k + 1)) looks' (k + 1) to done (seat w') (desks w')
    then_own = subst (λ c. Rests law meaning lines home (length workers) c looks' (k + 1) to done (seat w') (desks w')) (sym (course_own courses (k + 1) t.course since.more)) t.rests

    pub then_seals : SealsOfNodes (length workers) journal → SealsOfNodes (length workers) journal'
    then_seals h = seals_more (length workers) (k + 1) journal journal' (omega arith) (let inside = slice_get_within workers k w at in omega (arith, inside)) since h

    pub then_behind : AreBehind journal → AreBehind journal'
    then_behind h = behind_joined law run lines looks' journal journal' since.more since.seen (subst (IsLegal law) t.seen_is t.rests.node.did.legal) h
        (λ e there. inr (subst (λ n. AreTold lines looks' n journal' × AsksBehind n journal') (sym (own_who (k + 1) since.more e since.own (contained-among since.more e there)))
        (subst (AreTold lines looks' (k + 1)) t.seen_is t.rests.node.did.told, subst (AsksBehind (k + 1)) t.seen_is t.rests.node.did.behind)))

  -- one node came to a later journal, at which the others can take the fabric too
  pub still_stands : (k : ℕ) (journal journal' : List Event) (w w' : A) → slice_get workers k ≡ Some w → Grows journal journal'
      → CrewStands law meaning journal seat workers → SeatOk law meaning journal' (seat w') → CrewStands law meaning journal' seat (slice_set workers k w')
  still_stands k journal journal' w w' at grows h s = λ j x is. by j x (changed workers k j w w' x at is)
    where
      by : (j : ℕ) (x : A) → ((j ≡ k) × (w' ≡ x)) ⊎ ((j ≢ k) × (slice_get workers j ≡ Some x)) → SeatOk law meaning journal' (seat x)
      by j x (inl same) = subst (λ y. SeatOk law meaning journal' (seat y)) same.1 s
      by j x (inr other) =
          subst (λ i. SeatOk law meaning i (seat x)) (sym grows.1)
          (seat_later law journal grows.0 (subst (IsLegal law) grows.1 s.node.legal) meaning (seat x) (h j x other.1))

-- Phases

module _ {A : Type 0} (law : Law) (meaning : Meaning) (lines : List NamedLine) (faults : List FaultLine) (seat : A → SeatView) (desks : A → List Desk) (workers : List A) where
  -- a phase has ended
  pub crew_ends : (from to : ℕ) (journal : List Event) (looks : List (Option Looked))
      → (h : CrewEnds law meaning lines faults from to journal looks seat desks workers) → CrewRests law meaning lines faults to (h.phase + 1) journal looks seat desks workers
  crew_ends from to journal looks h = record {
    home = h.home;
    courses = λ n. next_phase (h.courses n);
    begins = h.begins ++ journal ∷ [];
    lines_are = h.lines_are;
    ends = h.ends;
    long = length-append h.begins (journal ∷ []) ∙ ap (λ n. n + 1) h.long;
    made = λ i l at low. made i l at low (cases_lt h.phase l.phase);
    seals = h.seals;
    behind = h.behind;
    seen = λ n least most. seen n (h.seen n least most);
    each = λ j w at. each j w at (seen_at law meaning lines seat desks workers h.seen j w at);
  }
    where
      -- in the next phase nothing has happened yet
      made : (i : ℕ) (l : NamedLine) → slice_get lines i ≡ Some l → l.phase ≤ h.phase + 1 → (h.phase < l.phase) ⊎ (l.phase ≤ h.phase)
          → AreAtWork lines faults l.phase (get_or (h.begins ++ journal ∷ []) l.phase journal) (get_or (h.begins ++ journal ∷ []) (l.phase + 1) journal)
      made i l at low (inr old) =
          subst (λ j. AreAtWork lines faults l.phase j (get_or (h.begins ++ journal ∷ []) (l.phase + 1) journal)) (sym (get_pushed h.begins l.phase journal))
          (subst (AreAtWork lines faults l.phase (get_or h.begins l.phase journal)) (sym (get_pushed h.begins (l.phase + 1) journal)) (h.made i l at old))
      made i l at low (inl new) =
          subst (λ j. AreAtWork lines faults l.phase j (get_or (h.begins ++ journal ∷ []) (l.phase + 1) journal)) (sym (now l.phase new))
          (subst (AreAtWork lines faults l.phase journal) (sym (now (l.phase + 1) (omega (arith, new)))) (at_work_none lines faults l.phase journal))
        where
          now : (p : ℕ) → h.phase < p → get_or (h.begins ++ journal ∷ []) p journal ≡ journal
          now p high = get_pushed h.begins p journal ∙ get_beyond h.begins p journal (let long = h.long in omega (arith, long, high))

      seen : (n : ℕ) → HasSeenAll h.phase h.begins journal (h.courses n) → HasSeenAll (h.phase + 1) (h.begins ++ journal ∷ []) journal (next_phase (h.courses n))
      seen n s = record {
        phase_is = ap (λ p. p + 1) s.phase_is;
        begins_are = ap (λ b. b ++ (h.courses n).seen ∷ []) s.begins_are ∙ ap (λ j. h.begins ++ j ∷ []) s.seen_is;
        seen_is = s.seen_is;
      }

      each : (j : ℕ) (w : A) → slice_get workers j ≡ Some w → HasSeenAll h.phase h.begins journal (h.courses (j + 1))
          → Rests law meaning lines h.home (length workers) (next_phase (h.courses (j + 1))) looks (j + 1) to (h.phase + 1) (seat w) (desks w)
      each j w at s = subst (λ p. Rests law meaning lines h.home (length workers) (next_phase (h.courses (j + 1))) looks (j + 1) to (p + 1) (seat w) (desks w)) s.phase_is
          (rests_then law meaning lines h.home (length workers) (h.courses (j + 1)) looks (j + 1) to (seat w) (desks w) (subst (λ p. BeginsAt lines to (p + 1)) (sym s.phase_is) h.ends)
          (subst (λ p. Rests law meaning lines h.home (length workers) (h.courses (j + 1)) looks (j + 1) to (p + 1) (seat w) (desks w)) (sym s.phase_is) (h.each j w at)))

  -- all nodes pass by a phase without a line
  all_pass : (from phase : ℕ) (journal : List Event) (looks : List (Option Looked)) → BeginsAt lines from (phase + 1)
      → CrewRests law meaning lines faults from phase journal looks seat desks workers → CrewRests law meaning lines faults from (phase + 1) journal looks seat desks workers
  all_pass from phase journal looks b h = crew_ends from from journal looks (record {
    home = h.home;
    courses = h.courses;
    phase = phase;
    begins = h.begins;
    lines_are = h.lines_are;
    starts = h.ends;
    ends = b;
    long = h.long;
    made = h.made;
    seals = h.seals;
    behind = h.behind;
    seen = h.seen;
    each = λ j w at. passes law meaning lines seat desks workers h.home (h.courses (j + 1)) looks (j + 1) from from phase w (seen_at law meaning lines seat desks workers h.seen j w at).phase_is (omega arith) h.ends (λ i l more less get. absurd (omega (arith, more, less))) (h.each j w at);
  })

  -- .. and by as many as there are
  pub crew_skips : (from n phase : ℕ) (journal : List Event) (looks : List (Option Looked)) → BeginsAt lines from (phase + n)
      → CrewRests law meaning lines faults from phase journal looks seat desks workers → CrewRests law meaning lines faults from (phase + n) journal looks seat desks workers
  crew_skips from zero phase journal looks b h = let e : phase ≡ phase + zero = omega arith in subst (λ p. CrewRests law meaning lines faults from p journal looks seat desks workers) e h
  crew_skips from (suc n) phase journal looks b h =
      let one : BeginsAt lines from (phase + 1) = record {
        before = λ i l at low. let early = h.ends.before i l at low in omega (arith, early);
        behind = λ i l at high. let late = b.behind i l at high in omega (arith, late);
      } in
      let same : (phase + 1) + n ≡ phase + suc n = omega arith in
      subst (λ p. CrewRests law meaning lines faults from p journal looks seat desks workers) same
      (crew_skips from n (phase + 1) journal looks (subst (BeginsAt lines from) (sym same) b) (all_pass from phase journal looks one h))

  -- all nodes come to a phase at which the lines behind begin
  pub crew_comes : (from phase q : ℕ) (journal : List Event) (looks : List (Option Looked)) → phase ≤ q → BeginsAt lines from q
      → CrewRests law meaning lines faults from phase journal looks seat desks workers → CrewRests law meaning lines faults from q journal looks seat desks workers
  crew_comes from phase q journal looks up b h =
      let is : phase + (q - phase) ≡ q = omega (arith, up) in
      subst (λ p. CrewRests law meaning lines faults from p journal looks seat desks workers) is
      (crew_skips from (q - phase) phase journal looks (subst (BeginsAt lines from) (sym is) b) h)
