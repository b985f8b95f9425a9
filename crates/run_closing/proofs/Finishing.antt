-- The nodes' last calls.
use Rattle.std.proofs.Common.{◌≡◌, ◌≢◌, refl, sym, ap, ◌∙◌, subst, ◌⊎◌, inl, inr, ⊎_elim, ℕ, ◌+◌, ◌<◌, ◌≤◌, Bool, true, false, List, [], Option, Some, length, arith}
use Rattle.std.specs.Prelude.{slice_get, slice_set}
use Rattle.std.proofs.lemmas.Bool.{cases_lt}
use Rattle.std.proofs.lemmas.List.{length-set}
use Rattle.std.proofs.lemmas.Option.{slice_get_within}
use Rattle.legal_journal.specs.Law.{Law}
use Rattle.legal_journal.specs.declared.events.Event.{Event}
use Rattle.virtual_log.specs.Sealing.{SealsNone}
use Rattle.engine_steps.specs.Layout.{has_left_in}
use Rattle.base_engine.specs.Node.{NodeView}
use Rattle.replica_api.specs.Replica.{Meaning}
use Rattle.script_text.specs.declared.asks.NamedLine.{NamedLine}
use Rattle.script_text.specs.declared.faults.FaultLine.{FaultLine}
use Rattle.turn_scopes.specs.Alone.{OwnSince}
use Rattle.turn_scopes.specs.Seats.{SeatView, SeatOk, node_of}
use Rattle.node_lines.specs.declared.desk.Desk.{Desk}
use Rattle.node_lines.specs.declared.lines.Looked.{Looked}
use Rattle.node_lines.specs.Moving.{Moves}
use Rattle.node_lines.specs.Workers.{Grows, MayRun, OwnAdds, OwnWithin, WorkerOk, IsOfSessions, sent_by}
use Rattle.node_lines.proofs.Widening.{grows-both}
use Rattle.node_course.specs.Script.{AreLines}
use Rattle.node_course.specs.Workers.{HasRested, Rests}
use Rattle.node_course.proofs.Finishing.{node_finished}
use Rattle.node_course.proofs.Looks.{same_or_other}
use Rattle.node_course.proofs.Moments.{grows_not}
use Rattle.fabric_core.proofs.Marks.{set_other, set_same}
use Rattle.node_crew.specs.Crews.{CrewRests, CrewStands, HasSeenAll, SealsOfNodes}
use Rattle.node_crew.proofs.Crews.{changed, courses_then, then_behind, then_others, then_own, then_seals, then_seen}
use Rattle.node_crew.proofs.Playing.{keeps_none, worker_stands}
use Rattle.node_crew.proofs.Working.{worked_before}
use Rattle.run_closing.specs.declared.last.Calls.{Calls}
use Rattle.run_closing.specs.declared.last.Calls.TheVariants.{OfMembers, OfAny}
use Rattle.run_closing.specs.declared.last.Reach.{Reach}
use Rattle.run_closing.specs.Ending.{Finishes, HasGone, IsCalled, PlaysOut}
use Rattle.run_closing.specs.Finishing.{AllLeft, AreCalls, HasFinished, HasLeft, HasMost, IsMost, MembersPlay, PassesBut, PassesBy, PlaysAt, PlaysLast, StaysAsItWas}
use Rattle.run_closing.proofs.Putting.{same_some, some_at}

module _ {A : Type 0} (law : Law) (meaning : Meaning) (lines : List NamedLine) (faults : List FaultLine) (seat : A → SeatView) (desks : A → List Desk) (workers : List A) (from phase : ℕ) (journal : List Event) (looks : List (Option Looked)) (h : CrewRests law meaning lines faults from phase journal looks seat desks workers) where
  pub seen_at : (k : ℕ) (w : A) → slice_get workers k ≡ Some w → HasSeenAll phase h.begins journal (h.courses (k + 1))
  seen_at k w at = let inside = slice_get_within workers k w at in h.seen (k + 1) (omega arith) (omega (arith, inside))

  -- nodes that rest can take the fabric
  pub rests_stand : CrewStands law meaning journal seat workers
  rests_stand j w at = subst (λ i. SeatOk law meaning i (seat w)) (seen_at j w at).seen_is (worker_stands law meaning (j + 1) (h.courses (j + 1)).seen (seat w) (desks w) (h.each j w at).node.ok)

  -- there is a node
  pub some_node : 0 < length workers
  some_node = let least = h.lines_are.there 0 in let most = h.lines_are.within 0 in omega (arith, least, most)

  -- and there are at most eight
  pub few_nodes : length workers ≤ 8
  few_nodes =
      let w = some_at workers 0 some_node in
      let r = (h.each 0 w.0 w.1).node in
      let few = r.ok.ok.node.eight in
      omega (arith, few, r.nodes_is)

  -- there is a look for each line
  pub looks_size : length looks ≡ length lines
  looks_size = let w = some_at workers 0 some_node in (h.each 0 w.0 w.1).node.did.size

  -- a node's own turn
  pub own_ok : (k : ℕ) (w : A) → slice_get workers k ≡ Some w → WorkerOk law meaning (seat w).who journal (seat w) (desks w)
  own_ok k w at =
      let ok = (h.each k w at).node.ok in
      subst (λ n. WorkerOk law meaning n journal (seat w) (desks w)) (sym ok.who_is) (subst (λ i. WorkerOk law meaning (k + 1) i (seat w) (desks w)) (seen_at k w at).seen_is ok)

  module _ (run : MayRun law) (k : ℕ) (journal' : List Event) (w w' : A) (at : slice_get workers k ≡ Some w) (since : OwnSince (seat w).who journal journal') (still : SealsNone (seat w).who journal journal') (adds : OwnAdds (seat w).who IsOfSessions journal journal') (moves : Moves (record law { may = OwnWithin (seat w).who law.may (sent_by (desks w)) }) (node_of (seat w) journal) (node_of (seat w') journal') []) (same : (seat w').node.outbox ≡ (seat w).node.outbox) (now : WorkerOk law meaning (seat w).who journal' (seat w') (desks w')) (kept : desks w' ≡ desks w) where
    who : (seat w).who ≡ k + 1
    who = (h.each k w at).node.ok.who_is

    it : HasSeenAll phase h.begins journal (h.courses (k + 1))
    it = seen_at k w at

    pub rested_since : OwnSince (k + 1) journal journal'
    rested_since = subst (λ n. OwnSince n journal journal') who since

    pub rested_adds : OwnAdds (k + 1) IsOfSessions (h.courses (k + 1)).seen journal'
    rested_adds = subst (λ n. OwnAdds n IsOfSessions (h.courses (k + 1)).seen journal') who (subst (λ i. OwnAdds (seat w).who IsOfSessions i journal') (sym it.seen_is) adds)

    pub rested : HasRested law meaning lines h.home (length workers) (h.courses (k + 1)) looks (k + 1) from phase journal' (seat w') (desks w')
    rested = subst (HasRested law meaning lines h.home (length workers) (h.courses (k + 1)) looks (k + 1) from phase journal' (seat w')) (sym kept)
        (node_finished law meaning run lines h.home (length workers) (h.courses (k + 1)) looks (k + 1) from phase (seat w) (seat w') (desks w) journal' h.ends (let is = it.phase_is in omega (arith, is)) (h.each k w at)
        (subst (λ n. SealsNone n (h.courses (k + 1)).seen journal') who (subst (λ i. SealsNone (seat w).who i journal') (sym it.seen_is) still))
        rested_adds
        (subst (λ n. Moves (record law { may = OwnWithin n law.may (sent_by (desks w)) }) (node_of (seat w) (h.courses (k + 1)).seen) (node_of (seat w') journal') []) who
        (subst (λ i. Moves (record law { may = OwnWithin (seat w).who law.may (sent_by (desks w)) }) (node_of (seat w) i) (node_of (seat w') journal') []) (sym it.seen_is) moves)) same
        (subst (λ n. WorkerOk law meaning n journal' (seat w') (desks w)) who (subst (WorkerOk law meaning (seat w).who journal' (seat w')) kept now)))

    size : length (slice_set workers k w') ≡ length workers
    size = length-set workers k w'

    each : (j : ℕ) (x : A) → ((j ≡ k) × (w' ≡ x)) ⊎ ((j ≢ k) × (slice_get workers j ≡ Some x)) → Rests law meaning lines h.home (length workers) (courses_then h.courses (k + 1) rested.course rested_since.more (j + 1)) looks (j + 1) from phase (seat x) (desks x)
    each j x (inl here) =
        subst (λ y. Rests law meaning lines h.home (length workers) (courses_then h.courses (k + 1) rested.course rested_since.more (j + 1)) looks (j + 1) from phase (seat y) (desks y)) here.1
        (subst (λ i. Rests law meaning lines h.home (length workers) (courses_then h.courses (k + 1) rested.course rested_since.more (i + 1)) looks (i + 1) from phase (seat w') (desks w')) (sym here.0)
        (then_own law meaning lines seat desks workers run h.home h.courses phase h.begins from phase k journal journal' looks looks w w' at h.seen rested_since (keeps_none lines (k + 1) looks) rested))
    each j x (inr other) =
        then_others law meaning lines seat desks workers run h.home h.courses phase h.begins from phase k journal journal' looks looks w w' at h.seen rested_since (keeps_none lines (k + 1) looks) rested j from phase x other.0 other.1 (h.each j x other.1)

    -- a node has made its last calls
    pub crew_finished : from ≡ length lines → CrewRests law meaning lines faults from phase journal' looks seat desks (slice_set workers k w')
    crew_finished over = record {
      home = h.home;
      courses = λ m. courses_then h.courses (k + 1) rested.course rested_since.more m;
      begins = h.begins;
      lines_are = subst (AreLines lines h.home) (sym size) h.lines_are;
      ends = h.ends;
      long = h.long;
      made = λ i l get low.
          let early = h.ends.before i l get (let inside = slice_get_within lines i l get in omega (arith, inside, over)) in
          worked_before lines faults phase h.begins journal journal' l.phase h.long (omega (arith, early)) (h.made i l get low);
      seals = subst (λ n. SealsOfNodes n journal') (sym size)
          (then_seals law meaning lines seat desks workers run h.home h.courses phase h.begins from phase k journal journal' looks looks w w' at h.seen rested_since (keeps_none lines (k + 1) looks) rested h.seals);
      behind = then_behind law meaning lines seat desks workers run h.home h.courses phase h.begins from phase k journal journal' looks looks w w' at h.seen rested_since (keeps_none lines (k + 1) looks) rested h.behind;
      seen = λ n least most. then_seen law meaning lines seat desks workers run h.home h.courses phase h.begins from phase k journal journal' looks looks w w' at h.seen rested_since (keeps_none lines (k + 1) looks) rested n least (omega (arith, most, size));
      each = λ j x is. subst (λ n. Rests law meaning lines h.home n (courses_then h.courses (k + 1) rested.course rested_since.more (j + 1)) looks (j + 1) from phase (seat x) (desks x)) (sym size) (each j x (changed workers k j w w' x at is));
    }

-- Which node has played most

module _ {A : Type 0} (seat : A → SeatView) (workers : List A) where
  pub most_first : 0 < length workers → HasMost seat workers 0 0 0
  most_first some = record {
    there = some;
    start = λ e. (refl, refl);
    low = λ less. absurd (omega (arith, less));
    at = λ less w is. absurd (omega (arith, less));
    most = λ j w less is. absurd (omega (arith, less));
  }

  module _ (k node cursor new : ℕ) (w w' : A) (at : slice_get workers k ≡ Some w) (is : (seat w').node.replica.cursor ≡ new) (h : HasMost seat workers k node cursor) where
    as_long : length (slice_set workers k w') ≡ length workers
    as_long = length-set workers k w'

    inside : k < length workers
    inside = slice_get_within workers k w at

    below : (j : ℕ) (x : A) (bound : ℕ) → cursor ≤ bound → new ≤ bound → j < k + 1 → ((j ≡ k) × (w' ≡ x)) ⊎ ((j ≢ k) × (slice_get workers j ≡ Some x)) → (seat x).node.replica.cursor ≤ bound
    below j x bound old now less (inl here) = subst (λ y. (seat y).node.replica.cursor ≤ bound) here.1 (omega (arith, is, now))
    below j x bound old now less (inr other) = let low = h.most j x (by (cases_lt j k)) other.1 in omega (arith, low, old)
      where
        by : (j < k) ⊎ (k ≤ j) → j < k
        by (inl low) = low
        by (inr high) = absurd (other.0 (omega (arith, high, less)))

    -- the next one has played more
    pub most_next : cursor < new → HasMost seat (slice_set workers k w') (k + 1) k new
    most_next more = record {
      there = omega (arith, inside, as_long);
      start = λ e. absurd (omega (arith, e));
      low = λ less. omega arith;
      at = λ less x get. by x (changed workers k k w w' x at get);
      most = λ j x less get. below j x new (omega (arith, more)) (omega arith) less (changed workers k j w w' x at get);
    }
      where
        by : (x : A) → ((k ≡ k) × (w' ≡ x)) ⊎ ((k ≢ k) × (slice_get workers k ≡ Some x)) → (seat x).node.replica.cursor ≡ new
        by x (inl here) = subst (λ y. (seat y).node.replica.cursor ≡ new) here.1 is
        by x (inr other) = absurd (other.0 refl)

    -- it hasn't
    pub most_stays : new ≤ cursor → HasMost seat (slice_set workers k w') (k + 1) node cursor
    most_stays few = record {
      there = let old = h.there in omega (arith, old, as_long);
      start = λ e. absurd (omega (arith, e));
      low = λ less. low (cases_lt 0 k);
      at = λ less x get. by x (cases_lt 0 k) (changed workers k node w w' x at get);
      most = λ j x less get. below j x cursor (omega arith) few less (changed workers k j w w' x at get);
    }
      where
        low : (0 < k) ⊎ (k ≤ 0) → node < k + 1
        low (inl some) = let old = h.low some in omega (arith, old)
        low (inr none) = let first = h.start (omega (arith, none)) in omega (arith, first.0)

        by : (x : A) → (0 < k) ⊎ (k ≤ 0) → ((node ≡ k) × (w' ≡ x)) ⊎ ((node ≢ k) × (slice_get workers node ≡ Some x)) → (seat x).node.replica.cursor ≡ cursor
        by x (inl some) (inl here) = absurd (let old = h.low some in omega (arith, old, here.0))
        by x (inl some) (inr other) = h.at some x other.1
        by x (inr none) (inl here) = let first = h.start (omega (arith, none)) in subst (λ y. (seat y).node.replica.cursor ≡ cursor) here.1 (omega (arith, is, few, first.1))
        by x (inr none) (inr other) = let first = h.start (omega (arith, none)) in absurd (other.0 (omega (arith, none, first.0)))

  -- the one that has played most plays on
  module _ (k cursor new : ℕ) (w w' : A) (at : slice_get workers k ≡ Some w) (is : (seat w').node.replica.cursor ≡ new) (forward : (seat w).node.replica.cursor ≤ new) (m : HasMost seat workers (length workers) k cursor) where
    size_last : length (slice_set workers k w') ≡ length workers
    size_last = length-set workers k w'

    was_last : (seat w).node.replica.cursor ≡ cursor
    was_last = m.at (let there = m.there in omega (arith, there)) w at

    upto_last : (j : ℕ) (x : A) → ((j ≡ k) × (w' ≡ x)) ⊎ ((j ≢ k) × (slice_get workers j ≡ Some x)) → (seat x).node.replica.cursor ≤ new
    upto_last j x (inl it) = subst (λ y. (seat y).node.replica.cursor ≤ new) it.1 (omega (arith, is))
    upto_last j x (inr other) = let low = m.most j x (slice_get_within workers j x other.1) other.1 in let same = was_last in omega (arith, low, forward, same)

    own_last : (x : A) → ((k ≡ k) × (w' ≡ x)) ⊎ ((k ≢ k) × (slice_get workers k ≡ Some x)) → (seat x).node.replica.cursor ≡ new
    own_last x (inl it) = subst (λ y. (seat y).node.replica.cursor ≡ new) it.1 is
    own_last x (inr other) = absurd (other.0 refl)

    pub most_last : HasMost seat (slice_set workers k w') (length (slice_set workers k w')) k new
    most_last = record {
      there = let there = m.there in omega (arith, there, size_last);
      start = λ e. absurd (let there = m.there in omega (arith, e, size_last, there));
      low = λ some. let there = m.there in omega (arith, there, size_last);
      at = λ some x get. own_last x (changed workers k k w w' x at get);
      most = λ j x less get. upto_last j x (changed workers k j w w' x at get);
    }

  -- no node has played more
  pub is_most : (node cursor : ℕ) → HasMost seat workers (length workers) node cursor → IsMost seat workers node
  is_most node cursor m = λ v at j w get.
      let low = m.most j w (slice_get_within workers j w get) get in
      let same = m.at (let there = m.there in omega (arith, there)) v at in
      omega (arith, low, same)

-- Who was passed by, and who played

apart_ends : true ≡ false → ⊥
apart_ends e = cc

module _ {A : Type 0} (lines : List NamedLine) (looks : List (Option Looked)) (seat : A → SeatView) where
  -- it had left before too
  left_same : (j : ℕ) (w v : A) → node_of (seat v) [] ≡ node_of (seat w) [] → HasLeft lines looks (j + 1) (seat w) → HasLeft lines looks (j + 1) (seat v)
  left_same j w v same (inl leave) = inl leave
  left_same j w v same (inr tells) = inr (ap (λ (n : NodeView). has_left_in n.replica.contents (j + 1)) same ∙ tells)

  module _ (old : List A) where
    pub none_passed : PassesBy lines looks seat old old
    none_passed j w at left = record { now = w; is = at; same = refl }

    -- no node but that one
    others_pass : (last : Bool) (mid new : List A) (k : ℕ) (journal journal' : List Event) (reach : Reach) → HasFinished lines looks last journal journal' seat mid new k reach
        → (j : ℕ) (w : A) → j ≢ k → StaysAsItWas seat w mid j → StaysAsItWas seat w new j
    others_pass last mid new k journal journal' reach f j w other s = record { now = s.now; is = subst (λ l. slice_get l j ≡ Some s.now) (sym f.is) (set_other mid k j f.now other ∙ s.is); same = s.same }

    module _ (mid new : List A) (k : ℕ) (journal journal' : List Event) (reach : Reach) (f : HasFinished lines looks false journal journal' seat mid new k reach) where
      at_new : slice_get new k ≡ Some f.now
      at_new = ap (λ l. slice_get l k) f.is ∙ set_same mid k f.now f.was f.was_at

      was_at : (j : ℕ) (w : A) → j ≡ k → slice_get mid j ≡ Some w → f.was ≡ w
      was_at j w same is = same_some f.was w (sym f.was_at ∙ (ap (slice_get mid) (sym same) ∙ is))

      -- it was passed by where it had left alone
      gone_left : (calls : Calls) → AreCalls lines looks (k + 1) false calls → HasGone calls (k + 1) (node_of (seat f.was) journal) → HasLeft lines looks (k + 1) (seat f.was)
      gone_left (OfMembers gone) are (inl left) = inl (are.1 left)
      gone_left (OfMembers gone) are (inr tells) = inr tells
      gone_left OfAny are gone = absurd gone

      -- and it played where it hadn't
      called_stays : (calls : Calls) → AreCalls lines looks (k + 1) false calls → IsCalled calls (k + 1) (node_of (seat f.was) journal) → HasLeft lines looks (k + 1) (seat f.was) → ⊥
      called_stays (OfMembers gone) are stays (inl leave) = are.2 stays.0 leave.0 leave.1.0 leave.1.1
      called_stays (OfMembers gone) are stays (inr tells) = apart_ends (sym tells ∙ stays.1)
      called_stays OfAny are stays left = apart_ends (sym are)

      pub passes_next : PassesBy lines looks seat old mid → PassesBy lines looks seat old new
      passes_next h j w at left = ⊎_elim
          (λ (same : j ≡ k). here same reach.passed f.does)
          (λ (other : j ≢ k). others_pass false mid new k journal journal' reach f j w other s)
          (same_or_other j k)
        where
          s : StaysAsItWas seat w mid j
          s = h j w at left

          state : j ≡ k → node_of (seat f.was) [] ≡ node_of (seat w) []
          state same = ap (λ (x : A). node_of (seat x) []) (was_at j s.now same s.is) ∙ s.same

          gone : j ≡ k → HasLeft lines looks (k + 1) (seat f.was)
          gone same = left_same k w f.was (state same) (subst (λ i. HasLeft lines looks (i + 1) (seat w)) same left)

          here : j ≡ k → (passed : Bool) → Finishes f.calls (k + 1) passed (node_of (seat f.was) journal) (node_of (seat f.now) journal') → StaysAsItWas seat w new j
          here same true p = record { now = f.now; is = ap (slice_get new) same ∙ at_new; same = ap (λ (n : NodeView). record n { seen = [] }) p.same ∙ state same }
          here same false p = absurd (called_stays f.calls f.calls_are p.stays (gone same))

      -- nodes behind it wait still
      pub waits_next : ((j : ℕ) → k ≤ j → slice_get mid j ≡ slice_get old j) → (j : ℕ) → k + 1 ≤ j → slice_get new j ≡ slice_get old j
      waits_next rest j high = ap (λ l. slice_get l j) f.is ∙ (set_other mid k j f.now (λ same. absurd (omega (arith, high, same))) ∙ rest j (omega (arith, high)))

      -- it is the one that it was at first
      first_at : slice_get mid k ≡ slice_get old k → (j : ℕ) (w : A) → j ≡ k → slice_get old j ≡ Some w → f.was ≡ w
      first_at rest j w same at = was_at j w same (ap (slice_get mid) same ∙ (rest ∙ (ap (slice_get old) (sym same) ∙ at)))

      before : (j : ℕ) → j < k + 1 → j ≢ k → j < k
      before j low other = ⊎_elim (λ (less : j < k). less) (λ (high : k ≤ j). absurd (other (omega (arith, low, high)))) (cases_lt j k)

      -- where it was passed by too, one more had left
      pub left_next : slice_get mid k ≡ slice_get old k → reach.passed ≡ true → ((j : ℕ) (w : A) → j < k → slice_get old j ≡ Some w → HasLeft lines looks (j + 1) (seat w))
          → (j : ℕ) (w : A) → j < k + 1 → slice_get old j ≡ Some w → HasLeft lines looks (j + 1) (seat w)
      left_next rest passed h j w low at = ⊎_elim
          (λ (same : j ≡ k). here same reach.passed passed f.does)
          (λ (other : j ≢ k). h j w (before j low other) at)
          (same_or_other j k)
        where
          here : j ≡ k → (b : Bool) → b ≡ true → Finishes f.calls (k + 1) b (node_of (seat f.was) journal) (node_of (seat f.now) journal') → HasLeft lines looks (j + 1) (seat w)
          here same true is p = subst (λ i. HasLeft lines looks (i + 1) (seat w)) (sym same) (subst (λ (x : A). HasLeft lines looks (k + 1) (seat x)) (first_at rest j w same at) (gone_left f.calls f.calls_are p.left))
          here same false is p = absurd (apart_ends (sym is))

      -- where it wasn't passed by, it hadn't
      pub some_stays : slice_get mid k ≡ slice_get old k → reach.passed ≡ false → AllLeft lines looks seat old → ⊥
      some_stays rest played all = here reach.passed played f.does
        where
          here : (b : Bool) → b ≡ false → Finishes f.calls (k + 1) b (node_of (seat f.was) journal) (node_of (seat f.now) journal') → ⊥
          here true is p = apart_ends is
          here false is p = called_stays f.calls f.calls_are p.stays (all k f.was (sym rest ∙ f.was_at))

      -- where it hadn't left, it played
      pub plays_next : (start : List Event) → Grows start journal → Grows journal journal' → slice_get mid k ≡ slice_get old k
          → ((j : ℕ) (w : A) → j < k → slice_get old j ≡ Some w → (HasLeft lines looks (j + 1) (seat w) → ⊥) → PlaysAt start journal seat w mid j)
          → (j : ℕ) (w : A) → j < k + 1 → slice_get old j ≡ Some w → (HasLeft lines looks (j + 1) (seat w) → ⊥) → PlaysAt start journal' seat w new j
      plays_next start since grows rest h j w low at stays = ⊎_elim
          (λ (same : j ≡ k). here same reach.passed f.does)
          (λ (other : j ≢ k). on other (h j w (before j low other) at stays))
          (same_or_other j k)
        where
          here : j ≡ k → (b : Bool) → Finishes f.calls (k + 1) b (node_of (seat f.was) journal) (node_of (seat f.now) journal') → PlaysAt start journal' seat w new j
          here same true p = absurd (stays (subst (λ i. HasLeft lines looks (i + 1) (seat w)) (sym same) (subst (λ (x : A). HasLeft lines looks (k + 1) (seat x)) (first_at rest j w same at) (gone_left f.calls f.calls_are p.left))))
          here same false p = record {
            now = f.now;
            is = ap (slice_get new) same ∙ at_new;
            plays = record { early = journal; late = journal'; since = since; upto = grows_not journal'; plays = subst (λ (x : A). PlaysOut (node_of (seat x) journal) (node_of (seat f.now) journal')) (first_at rest j w same at) p.plays };
          }

          on : j ≢ k → PlaysAt start journal seat w mid j → PlaysAt start journal' seat w new j
          on other e = record {
            now = e.now;
            is = subst (λ l. slice_get l j ≡ Some e.now) (sym f.is) (set_other mid k j f.now other ∙ e.is);
            plays = record { early = e.plays.early; late = e.plays.late; since = e.plays.since; upto = grows-both e.plays.late journal journal' e.plays.upto grows; plays = e.plays.plays };
          }

    -- the last calls of all are one node's
    pub passes_last : (new : List A) (k : ℕ) (journal journal' : List Event) (reach : Reach) → HasFinished lines looks true journal journal' seat old new k reach → PassesBut k lines looks seat old new
    passes_last new k journal journal' reach f = λ j w other at left. others_pass true old new k journal journal' reach f j w other (record { now = w; is = at; same = refl })

    pub plays_last : (new : List A) (k : ℕ) (journal journal' : List Event) (reach : Reach) → HasFinished lines looks true journal journal' seat old new k reach → PlaysLast k journal journal' seat old new
    plays_last new k journal journal' reach f w at = here f.calls f.calls_are reach.passed f.does
      where
        here : (calls : Calls) → AreCalls lines looks (k + 1) true calls → (b : Bool) → Finishes calls (k + 1) b (node_of (seat f.was) journal) (node_of (seat f.now) journal') → PlaysAt journal journal' seat w new k
        here calls are false p = record {
          now = f.now;
          is = ap (λ l. slice_get l k) f.is ∙ set_same old k f.now f.was f.was_at;
          plays = record { early = journal; late = journal'; since = grows_not journal; upto = grows_not journal'; plays = subst (λ (x : A). PlaysOut (node_of (seat x) journal) (node_of (seat f.now) journal')) (same_some f.was w (sym f.was_at ∙ at)) p.plays };
        }
        here (OfMembers gone) are true p = absurd (apart_ends are.0)
        here OfAny are true p = absurd p.left

    pub passes_still : (k : ℕ) → PassesBut k lines looks seat old old
    passes_still k = λ j w other at left. record { now = w; is = at; same = refl }

    -- first each node that had left was passed by, and then the last calls were made
    pub passes_both : (mid new : List A) (k : ℕ) → PassesBy lines looks seat old mid → PassesBut k lines looks seat mid new → PassesBut k lines looks seat old new
    passes_both mid new k h last = λ j w other at left.
        let s = h j w at left in
        let t = last j s.now other s.is (left_same j w s.now s.same left) in
        record { now = t.now; is = t.is; same = t.same ∙ s.same }

    -- where all had left, the one that has played most had before
    pub most_before : (mid : List A) (node cursor : ℕ) → HasMost seat mid (length mid) node cursor → PassesBy lines looks seat old mid → AllLeft lines looks seat old → IsMost seat old node
    most_before mid node cursor m h all = λ v at j w get.
        let a = h node v at (all node v at) in
        let b = h j w get (all j w get) in
        let low = is_most seat mid node cursor m a.now a.is j b.now b.is in
        let most : (seat a.now).node.replica.cursor ≡ (seat v).node.replica.cursor = ap (λ (n : NodeView). n.replica.cursor) a.same in
        let less : (seat b.now).node.replica.cursor ≡ (seat w).node.replica.cursor = ap (λ (n : NodeView). n.replica.cursor) b.same in
        omega (arith, low, most, less)

    -- it was as it had been, when it played
    pub plays_both : (mid new : List A) (k : ℕ) (journal journal' late : List Event) → Grows journal journal' → PassesBy lines looks seat old mid → AllLeft lines looks seat old → PlaysLast k journal' late seat mid new → PlaysLast k journal late seat old new
    plays_both mid new k journal journal' late grows h all last = λ w at.
        let s = h k w at (all k w at) in
        let e = last s.now s.is in
        record {
          now = e.now;
          is = e.is;
          plays = record {
            early = e.plays.early;
            late = e.plays.late;
            since = grows-both journal journal' e.plays.early grows e.plays.since;
            upto = e.plays.upto;
            plays = subst (λ (n : NodeView). PlaysOut n (node_of (seat e.now) e.plays.late)) (ap (λ (n : NodeView). record n { seen = e.plays.early }) s.same) e.plays.plays;
          };
        }

    -- Where not all were passed by, nothing comes behind that; where all were, all had left.
    module _ (passed : Bool) (mid new : List A) (journal journal' late : List Event) (all : passed ≡ true → AllLeft lines looks seat old) (still : passed ≡ false → (new ≡ mid) × (late ≡ journal')) where
      pub passes_all : PassesBy lines looks seat old mid → (AllLeft lines looks seat old → ⊥) → PassesBy lines looks seat old new
      passes_all h some = by passed refl
        where
          by : (b : Bool) → passed ≡ b → PassesBy lines looks seat old new
          by true is = absurd (some (all is))
          by false is = subst (PassesBy lines looks seat old) (sym (still is).0) h

      pub last_all : (k : ℕ) → (passed ≡ false → AllLeft lines looks seat old → ⊥) → (passed ≡ true → PlaysLast k journal' late seat mid new) → Grows journal journal' → PassesBy lines looks seat old mid → AllLeft lines looks seat old → PlaysLast k journal late seat old new
      last_all k some last grows h left = by passed refl
        where
          by : (b : Bool) → passed ≡ b → PlaysLast k journal late seat old new
          by true is = plays_both mid new k journal journal' late grows h left (last is)
          by false is = absurd (some is left)

      pub plays_all : MembersPlay lines looks journal journal' seat old mid → MembersPlay lines looks journal late seat old new
      plays_all h j w at stays = by passed refl
        where
          by : (b : Bool) → passed ≡ b → PlaysAt journal late seat w new j
          by true is = absurd (stays (all is j w at))
          by false is = subst (λ i. PlaysAt journal i seat w new j) (sym (still is).1) (subst (λ l. PlaysAt journal journal' seat w l j) (sym (still is).0) (h j w at stays))

-- the last calls of all aren't passed by
pub last_plays : {A : Type 0} (lines : List NamedLine) (looks : List (Option Looked)) (journal journal' : List Event) (seat : A → SeatView) (old new : List A) (k : ℕ) (reach : Reach) → HasFinished lines looks true journal journal' seat old new k reach → reach.passed ≡ false
last_plays lines looks journal journal' seat old new k reach f = by f.calls f.calls_are reach.passed refl f.does
  where
    by : (calls : Calls) → AreCalls lines looks (k + 1) true calls → (b : Bool) → reach.passed ≡ b → Finishes calls (k + 1) b (node_of (seat f.was) journal) (node_of (seat f.now) journal') → reach.passed ≡ false
    by calls are false is does = is
    by (OfMembers gone) are true is does = absurd (apart_ends are.0)
    by OfAny are true is does = absurd does.left
