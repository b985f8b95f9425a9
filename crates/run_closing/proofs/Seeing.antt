-- Where no fault came, some node has played the whole log, though those that left are passed by.
use Rattle.std.proofs.Common.{◌≡◌, ◌≢◌, refl, sym, ap, ◌∙◌, subst, ◌⊎◌, inl, inr, ⊎_elim, ℕ, ◌+◌, ◌-◌, ◌<◌, ◌≤◌, ◌&&◌, Bool, true, false, not, List, [], ◌∷◌, ◌++◌, Option, Some, None, count_by, length, map, slice_get, arith, eq-eqb, append-nil}
use Rattle.std.specs.Prelude.{slice_set, option_map}
use Rattle.std.proofs.lemmas.Option.{slice_get-map, slice_get_within}
use Rattle.fabric_core.proofs.Marks.{set_other, set_same}
use Rattle.delos_types.specs.declared.cause.Cause.{Cause}
use Rattle.delos_types.specs.declared.cause.Cause.TheVariants as cause
use Rattle.legal_journal.specs.Law.{Law}
use Rattle.legal_journal.specs.declared.events.Event.{Event}
use Rattle.legal_journal.specs.Journal.{IsLegal, state_of, trim_of, tail_of}
use Rattle.journal_laws.specs.Faults.{faults_in}
use Rattle.journal_laws.specs.Own.{faults_of}
use Rattle.virtual_log.specs.Holding.{IsTrimmed}
use Rattle.replica_api.specs.Replica.{Meaning}
use Rattle.base_engine.specs.Node.{NodeView}
use Rattle.turn_scopes.specs.Floors.{FloorIs}
use Rattle.script_text.specs.declared.line.Admin.TheVariants.{Retire}
use Rattle.script_text.specs.declared.asks.NamedLine.{NamedLine}
use Rattle.script_text.specs.declared.faults.FaultLine.{FaultLine}
use Rattle.script_text.specs.declared.asks.Asks.TheVariants as asks
use Rattle.fitting_run.specs.Faults.{lacks_store}
use Rattle.turn_scopes.specs.Alone.{OwnSince}
use Rattle.turn_scopes.specs.Seats.{SeatView, node_of}
use Rattle.node_lines.specs.declared.desk.Desk.{Desk}
use Rattle.node_lines.specs.declared.lines.Looked.{Looked}
use Rattle.node_lines.specs.declared.lines.Looked.TheVariants as looked
use Rattle.node_lines.specs.Moving.{is_store, strikes}
use Rattle.node_lines.specs.Workers.{IsOfSessions, MayRun, OwnAdds, ReportsUpTo}
use Rattle.node_lines.proofs.Ending.{never_above}
use Rattle.node_course.specs.Moments.{NodeCourse, at_node}
use Rattle.node_course.specs.Played.{Came}
use Rattle.node_course.specs.Telling.{AreTold, AskedFor}
use Rattle.node_course.specs.Desks.{IsOfNode, PlayedSo}
use Rattle.node_course.specs.Workers.{HasRested, Rests}
use Rattle.node_course.proofs.Looks.{same_or_other}
use Rattle.node_course.proofs.Still.{tells_still}
use Rattle.node_course.proofs.Trimmed.{some_told}
use Rattle.node_course.proofs.Turning.{trims_low, unasked_stays}
use Rattle.node_crew.specs.Crews.{CrewRests}
use Rattle.run_ends.specs.Closing.{WorkerEnd}
use Rattle.run_ends.proofs.Counting.{strikes_most}
use Rattle.run_closing.specs.declared.last.Calls.{Calls}
use Rattle.run_closing.specs.declared.last.Calls.TheVariants.{OfMembers, OfAny}
use Rattle.run_closing.specs.declared.last.Reach.{Reach}
use Rattle.run_closing.specs.Ending.{IsCalled, IsPlayed, Fails, Finishes, PlaysOn}
use Rattle.run_closing.specs.Finishing.{AreCalls, HasFinished, HasMost, HasNoFault, HasNoLeave, HasReached, IsMost, SeesAll, IsPlayedWhole}
use Rattle.run_closing.proofs.Calm.{failed_one, no_causes, none_before, none_of, only_own, trim_low}
use Rattle.run_closing.proofs.Finishing.{seen_at}
use Rattle.run_closing.proofs.Putting.{some_at, same_some}

-- A node that no line had leave

module _ (law : Law) (meaning : Meaning) (lines : List NamedLine) (home : ℕ → ℕ) (nodes : ℕ) (c : NodeCourse) (looks : List (Option Looked)) (n from done : ℕ) (seat : SeatView) (desks : List Desk) (r : Rests law meaning lines home nodes c looks n from done seat desks) (over : from ≡ length lines) (none : faults_in c.seen ≡ []) (calm : seat.node.replica.faults ≡ 0) where
  -- none of its lines failed
  failed_of_log : (P : Cause → Bool) (k : Cause) → P cause.Store ≡ false → P k ≡ true → (i : ℕ) (l : NamedLine) → Came lines looks n i l (looked.Failed k) → ⊥
  failed_of_log P k store is i l come =
      let few = r.node.did.events P store in
      let zero : count_by P (faults_of n c.seen) ≡ 0 = ap (count_by P) (none_of n c.seen none) in
      let here : at_node n P l.node k ≡ true = ap (λ b. b && P k) (eq-eqb l.node n come.own) ∙ is in
      let one = failed_one (at_node n P) l k here lines looks i come.is come.looked in
      absurd (omega (arith, few, zero, one))

  none_failed : (k : Cause) (i : ℕ) (l : NamedLine) → Came lines looks n i l (looked.Failed k) → ⊥
  none_failed (cause.NoQuorum id unreached) i l come = failed_of_log (λ k. not (is_store k)) (cause.NoQuorum id unreached) refl refl i l come
  none_failed (cause.Full id) i l come = failed_of_log (λ k. not (is_store k)) (cause.Full id) refl refl i l come
  none_failed cause.Meta i l come = failed_of_log (λ k. not (is_store k)) cause.Meta refl refl i l come
  none_failed cause.Store i l come =
      let few = r.node.stores in
      let one = failed_one (lacks_store n) l cause.Store (eq-eqb l.node n come.own) lines looks i come.is come.looked in
      absurd (let most = strikes_most seat.node.replica in omega (arith, few, one, calm, most))

  -- so no line asked it to leave
  pub not_asked : HasNoLeave lines looks n → AskedFor lines looks n Retire (λ look. Unit {0}) → ⊥
  not_asked stays a = by played.0 played.1 played.2
    where
      played : PlayedSo lines c done seat.node.replica.cursor n desks looks a.at a.line.phase (asks.Admin Retire)
      played = subst (PlayedSo lines c done seat.node.replica.cursor n desks looks a.at a.line.phase) a.asks
          (r.node.played a.at a.line (let inside = slice_get_within lines a.at a.line a.came.is in omega (arith, inside, over)) a.came.is a.came.own)

      by : (look : Looked) → slice_get looks a.at ≡ Some (Some look) → IsOfNode Retire look → ⊥
      by (looked.Found after found) look own = own
      by (looked.Kept k) look own = own
      by (looked.Failed k) look own = none_failed k a.at a.line (record { is = a.came.is; own = a.came.own; looked = look })
      by (looked.Extended x) look own = own
      by (looked.Reported position) look own = own
      by looked.Left look own = stays a.at a.line (record { is = a.came.is; own = a.came.own; looked = look })
      by (looked.Trimmed trim) look own = own

-- Last calls

some_cause : (c : Cause) → c ∷ [] ≡ [] → ⊥
some_cause c e = cc

-- the cursor of an element, if it is there
cursor_of : {A : Type 0} → (A → SeatView) → Option A → ℕ
cursor_of seat None = 0
cursor_of seat (Some x) = (seat x).node.replica.cursor

cursor_there : {A : Type 0} (seat : A → SeatView) (o : Option A) (x : A) → o ≡ Some x → cursor_of seat o ≡ (seat x).node.replica.cursor
unfolding cursor_of
cursor_there seat o x is = subst (λ p. cursor_of seat p ≡ (seat x).node.replica.cursor) (sym is) refl

module _ {A : Type 0} (seat : A → SeatView) (workers : List A) (k : ℕ) (w w' : A) (at : slice_get workers k ≡ Some w) where
  here : slice_get (slice_set workers k w') k ≡ Some w'
  here = set_same workers k w' w at

  -- what another node has reached it has still
  pub reached_on : (end : ℕ) → (seat w).node.replica.cursor ≤ (seat w').node.replica.cursor → HasReached seat workers end → HasReached seat (slice_set workers k w') end
  reached_on end forward r = ⊎_elim
      (λ (same : r.at ≡ k).
      let is : w ≡ r.one = same_some w r.one (sym at ∙ (ap (slice_get workers) (sym same) ∙ r.is)) in
      let upto : end ≤ (seat w).node.replica.cursor = subst (λ x. end ≤ (seat x).node.replica.cursor) (sym is) r.upto in
      record { at = k; one = w'; is = here; upto = omega (arith, upto, forward) })
      (λ (other : r.at ≢ k). record { at = r.at; one = r.one; is = set_other workers k r.at w' other ∙ r.is; upto = r.upto })
      (same_or_other r.at k)

  -- no fault had come before
  pub calm_before : (journal journal' more : List Event) → journal' ≡ journal ++ more → (seat w).node.replica.faults ≤ (seat w').node.replica.faults → HasNoFault journal' seat (slice_set workers k w') → HasNoFault journal seat workers
  calm_before journal journal' more seen counts calm = record { told = (none_before journal journal' more seen calm.told).0; disks = λ j x is. by j x is (same_or_other j k) }
    where
      by : (j : ℕ) (x : A) → slice_get workers j ≡ Some x → (j ≡ k) ⊎ (j ≢ k) → (seat x).node.replica.faults ≡ 0
      by j x is (inl same) =
          let one : w ≡ x = same_some w x (sym at ∙ (ap (slice_get workers) (sym same) ∙ is)) in
          let none = calm.disks k w' here in
          subst (λ y. (seat y).node.replica.faults ≡ 0) one (omega (arith, none, counts))
      by j x is (inr other) = calm.disks j x (set_other workers k j w' other ∙ is)

  module _ (law : Law) (meaning : Meaning) (run : MayRun law) (lines : List NamedLine) (faults : List FaultLine) (desks : A → List Desk) (from phase : ℕ) (journal journal' : List Event) (looks : List (Option Looked)) (h : CrewRests law meaning lines faults from phase journal looks seat desks workers) (over : from ≡ length lines) (rule : FloorIs law.floor (length workers)) (since : OwnSince (k + 1) journal journal') (own_since : OwnSince (seat w).who journal journal') (adds : OwnAdds (k + 1) IsOfSessions (h.courses (k + 1)).seen journal') (rests : HasRested law meaning lines h.home (length workers) (h.courses (k + 1)) looks (k + 1) from phase journal' (seat w') (desks w')) (new : CrewRests law meaning lines faults from phase journal' looks seat desks (slice_set workers k w')) (forward : (seat w).node.replica.cursor ≤ (seat w').node.replica.cursor) (rises : (seat w).node.replica.faults ≤ (seat w').node.replica.faults) where
    abbrev cursor : ℕ
    cursor = (seat w).node.replica.cursor

    legal : IsLegal law journal'
    legal = subst (IsLegal law) rests.seen_is rests.rests.node.did.legal

    was_seen : (h.courses (k + 1)).seen ≡ journal
    was_seen = (seen_at law meaning lines faults seat desks workers from phase journal looks h k w at).seen_is

    inside : k < length workers
    inside = slice_get_within workers k w at

    -- the node reported nothing meanwhile
    reports : ReportsUpTo (k + 1) cursor journal'
    reports =
        (tells_still law run lines looks (k + 1) (h.courses (k + 1)).seen journal' since.more (since.seen ∙ ap (λ l. l ++ since.more) (sym was_seen)) legal cursor cursor (omega arith)
        (h.each k w at).node.did.told adds).own (h.each k w at).node.reports

    -- where it hasn't left, the log isn't trimmed above what it had applied
    low_member : HasNoFault journal seat workers → HasNoLeave lines looks (k + 1) → trim_of (state_of journal') ≤ cursor
    low_member before stays =
        let gone = unasked_stays law run lines looks (k + 1) journal' legal (subst (AreTold lines looks (k + 1)) rests.seen_is rests.rests.node.did.told)
        (not_asked law meaning lines h.home (length workers) (h.courses (k + 1)) looks (k + 1) from phase (seat w) (desks w) (h.each k w at) over (subst (λ l. faults_in l ≡ []) (sym was_seen) before.told) (before.disks k w at) stays) in
        trim_low law cursor journal' legal (trims_low law (length workers) rule journal' legal (k + 1) (omega arith) (omega (arith, inside)) cursor gone reports)

    -- nor where it had played most
    low_most : IsMost seat workers k → trim_of (state_of journal') ≤ cursor
    low_most most = ⊎_elim
        (λ (none : trim_of (state_of journal') ≡ 0). omega (arith, none))
        (λ (some : (m : ℕ) × (1 ≤ m) × (m ≤ length workers) × (trim_of (state_of journal') ≤ cursor_of seat (slice_get workers (m - 1)))).
        let x = some_at workers (some.0 - 1) (let least = some.1 in let high = some.2 in omega (arith, least, high)) in
        let is = cursor_there seat (slice_get workers (some.0 - 1)) x.0 x.1 in
        let low = most w at (some.0 - 1) x.0 x.1 in
        let upto = some.3 in
        omega (arith, is, low, upto))
        (some_told law (length workers) journal' (λ m. cursor_of seat (slice_get workers (m - 1))) rule legal upto)
      where
        upto : (m : ℕ) → 1 ≤ m → m ≤ length workers → ReportsUpTo m (cursor_of seat (slice_get workers (m - 1))) journal'
        upto m least high = by x.0 x.1 (same_or_other (m - 1) k)
          where
            x : (y : A) × (slice_get workers (m - 1) ≡ Some y)
            x = some_at workers (m - 1) (omega (arith, least, high))

            back : m - 1 + 1 ≡ m
            back = omega (arith, least)

            by : (y : A) → slice_get workers (m - 1) ≡ Some y → (m - 1 ≡ k) ⊎ (m - 1 ≢ k) → ReportsUpTo m (cursor_of seat (slice_get workers (m - 1))) journal'
            by y is (inl same) =
                let one : w ≡ y = same_some w y (sym at ∙ (ap (slice_get workers) (sym same) ∙ is)) in
                subst (λ q. ReportsUpTo m q journal') (sym (cursor_there seat (slice_get workers (m - 1)) y is))
                (subst (λ q. ReportsUpTo q (seat y).node.replica.cursor journal') (ap (λ q. q + 1) (sym same) ∙ back)
                (subst (λ z. ReportsUpTo (k + 1) (seat z).node.replica.cursor journal') one reports))
            by y is (inr other) =
                let there : slice_get (slice_set workers k w') (m - 1) ≡ Some y = set_other workers k (m - 1) w' other ∙ is in
                let low : ReportsUpTo (m - 1 + 1) (seat y).node.replica.cursor journal' =
                subst (ReportsUpTo (m - 1 + 1) (seat y).node.replica.cursor) (seen_at law meaning lines faults seat desks (slice_set workers k w') from phase journal' looks new (m - 1) y there).seen_is
                (new.each (m - 1) y there).node.reports in
                subst (λ q. ReportsUpTo m q journal') (sym (cursor_there seat (slice_get workers (m - 1)) y is))
                (subst (λ q. ReportsUpTo q (seat y).node.replica.cursor journal') back low)

    -- It played: that was the whole log.
    pub finish_sees : (last : Bool) (calls : Calls) → AreCalls lines looks (k + 1) last calls → PlaysOn calls (k + 1) (node_of (seat w) journal) (node_of (seat w') journal') → (last ≡ true → IsMost seat workers k) → SeesAll journal' seat (slice_set workers k w') (seat w').node.replica.cursor
    finish_sees last calls are does most calm = by does.plays
      where
        before : HasNoFault journal seat workers
        before = calm_before journal journal' since.more since.seen rises calm

        low : (calls : Calls) → AreCalls lines looks (k + 1) last calls → IsCalled calls (k + 1) (node_of (seat w) journal) → trim_of (state_of journal') ≤ cursor
        low (OfMembers left) are stays = low_member before (are.2 stays.0)
        low OfAny are stays = low_most (most are)

        by : IsPlayed (node_of (seat w) journal) (node_of (seat w') journal') ⊎ Fails (node_of (seat w) journal) (node_of (seat w') journal') → tail_of (state_of journal') ≤ (seat w').node.replica.cursor
        by (inl p) =
            let under = low calls are does.stays in
            let top : tail_of (state_of journal') ≤ p.tail = p.exact under (only_own (seat w).who journal journal' own_since) in
            ⊎_elim
            (λ (played : (seat w').node.replica.cursor ≡ p.tail). omega (arith, top, played))
            (λ (trimmed : IsTrimmed journal' (seat w').node.replica.cursor). absurd (never_above law journal' (seat w').node.replica.cursor legal (omega (arith, under, forward)) trimmed))
            p.at
        by (inr f) =
            absurd (some_cause f.cause (no_causes (seat w).who journal journal' (strikes (seat w).node.replica) (strikes (seat w').node.replica) (f.cause ∷ []) f.spends calm.told
            (let few = (h.each k w at).node.stores in omega (arith, few))
            (let none = calm.disks k w' here in let most = strikes_most (seat w').node.replica in omega (arith, none, most))))

-- One after another

-- one more node made its last calls, or was passed by
pub some_next : {A : Type 0} (lines : List NamedLine) (looks : List (Option Looked)) (journal journal' : List Event) (seat : A → SeatView) (old new : List A) (k : ℕ) (reach : Reach) → HasFinished lines looks false journal journal' seat old new k reach
    → (reach.passed ≡ false → SeesAll journal' seat new reach.cursor) → (reach.passed ≡ true → IsPlayedWhole journal seat old) → IsPlayedWhole journal' seat new
some_next {A} lines looks journal journal' seat old new k reach f plays was = by reach.passed refl f.does
  where
    at_new : slice_get new k ≡ Some f.now
    at_new = ap (λ l. slice_get l k) f.is ∙ set_same old k f.now f.was f.was_at

    by : (b : Bool) → reach.passed ≡ b → Finishes f.calls (k + 1) b (node_of (seat f.was) journal) (node_of (seat f.now) journal') → IsPlayedWhole journal' seat new
    by false is does = λ calm. record { at = k; one = f.now; is = at_new; upto = let low = plays is calm in let same = f.at in omega (arith, low, same) }
    by true is does = λ calm.
        let seen : journal' ≡ journal = ap (λ (n : NodeView). n.seen) does.same in
        let replica = ap (λ (n : NodeView). n.replica) does.same in
        let cursor : (seat f.now).node.replica.cursor ≡ (seat f.was).node.replica.cursor = ap (λ (n : NodeView). n.replica.cursor) does.same in
        let faults : (seat f.now).node.replica.faults ≡ (seat f.was).node.replica.faults = ap (λ (n : NodeView). n.replica.faults) does.same in
        let before = calm_before seat old k f.was f.now f.was_at journal journal [] (sym (append-nil journal)) (omega (arith, faults)) (subst (λ l. HasNoFault l seat (slice_set old k f.now)) seen (subst (HasNoFault journal' seat) f.is calm)) in
        subst (λ l. HasReached seat new (tail_of (state_of l))) (sym seen)
        (subst (λ l. HasReached seat l (tail_of (state_of journal))) (sym f.is) (reached_on seat old k f.was f.now f.was_at (tail_of (state_of journal)) (omega (arith, cursor)) (was is before)))

-- the node that has played most has played the whole log
pub sees_most : {A : Type 0} (journal : List Event) (seat : A → SeatView) (workers : List A) (node cursor : ℕ) → HasMost seat workers (length workers) node cursor → IsPlayedWhole journal seat workers → SeesAll journal seat workers cursor
sees_most journal seat workers node cursor m some calm =
    let r = some calm in
    let low = m.most r.at r.one (slice_get_within workers r.at r.one r.is) r.is in
    let upto = r.upto in
    omega (arith, low, upto)

-- the nodes are the same but for their desks
pub sees_ends : {A : Type 0} (journal : List Event) (seat : A → SeatView) (desks : A → List Desk) (workers : List A) (cursor : ℕ) → SeesAll journal seat workers cursor
    → SeesAll journal (λ (w : WorkerEnd). w.seat) (map (λ w. record { seat = seat w; desks = desks w }) workers) cursor
sees_ends {A} journal seat desks workers cursor h none = h (record {
  told = none.told;
  disks = λ j w at. none.disks j (end w) (slice_get-map end workers j ∙ ap (λ o. option_map end o) at);
})
  where
    end : A → WorkerEnd
    end w = record { seat = seat w; desks = desks w }
