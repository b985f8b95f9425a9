-- The answers of sessions are taken, node by node.
use Rattle.std.proofs.Common.{◌≡◌, ◌≢◌, refl, sym, ap, ◌∙◌, subst, ◌⊎◌, inl, inr, ⊎_elim, ℕ, ◌+◌, ◌-◌, ◌<◌, ◌≤◌, List, [], Option, Some, length, arith, append-nil}
use Rattle.std.specs.Prelude.{All, Contains, slice_get, slice_set}
use Rattle.std.specs.List.{AllByRecursion}
use Rattle.std.proofs.lemmas.Bool.{cases_lt}
use Rattle.std.proofs.lemmas.List.{length-set}
use Rattle.std.proofs.lemmas.List.Elements.{All-weaker}
use Rattle.std.proofs.lemmas.Option.{slice_get_within}
use Rattle.fabric_core.proofs.Marks.{set_other, set_same}
use Rattle.delos_types.specs.declared.entry.Entry.{Entry}
use Rattle.legal_journal.specs.Law.{Law}
use Rattle.legal_journal.specs.declared.events.Event.{Event}
use Rattle.legal_journal.specs.Journal.{IsLegal}
use Rattle.virtual_log.specs.Holding.{Holds}
use Rattle.replica_api.specs.Replica.{Meaning, saved_in}
use Rattle.base_engine.specs.Reading.{IsFront}
use Rattle.base_engine.specs.Following.{IsStateAt}
use Rattle.base_engine.specs.Node.{NodeView, NodeOk}
use Rattle.base_engine.specs.Settling.{MaySend}
use Rattle.base_engine.specs.declared.outbox.Given.{Given}
use Rattle.script_text.specs.declared.asks.NamedLine.{NamedLine}
use Rattle.script_text.specs.declared.faults.FaultLine.{FaultLine}
use Rattle.turn_scopes.specs.Seats.{SeatView, SeatOk, node_of}
use Rattle.node_lines.specs.declared.desk.Desk.{Desk}
use Rattle.node_lines.specs.Answered.{AreAllAnswers}
use Rattle.node_lines.specs.declared.lines.Looked.{Looked}
use Rattle.node_lines.specs.Moving.{CanPack, IsQuiet, strikes}
use Rattle.node_lines.specs.Desks.{DesksOk}
use Rattle.node_lines.specs.Workers.{IsOfSession, OwnWithin, ReportsUpTo, Sends, WorkerOk, appended_by, sent_by}
use Rattle.node_lines.proofs.Bounding.{answers_stay}
use Rattle.node_lines.proofs.Own.{legal_own, own_may}
use Rattle.run_laws.specs.Ended.{CameTo}
use Rattle.node_course.specs.Script.{AreLines}
use Rattle.node_course.specs.Moments.{NodeCourse}
use Rattle.node_course.specs.Course.{IsCourse}
use Rattle.node_course.specs.Joined.{AreJoined, faults_to}
use Rattle.node_course.specs.Desks.{PlayedSo}
use Rattle.node_course.specs.Workers.{Rests}
use Rattle.node_course.proofs.Legal.{worker_legal, worker_within}
use Rattle.node_course.proofs.Looks.{same_or_other}
use Rattle.node_course.proofs.Sent.{sent_is}
use Rattle.node_crew.specs.Crews.{CrewRests, CrewStands, SealsOfNodes}
use Rattle.node_crew.proofs.Crews.{changed}
use Rattle.node_crew.proofs.Playing.{worker_stands}
use Rattle.run_closing.specs.Collecting.{CanTakeAll, TakesAll, WithinDesks}
use Rattle.run_ends.specs.Closing.{WorkerClosed, DeskClosed}
use Rattle.run_closing.specs.Finishing.{HasMost, SeesAll}
use Rattle.run_closing.specs.Taking.{CrewTakes, WaitsToTake}
use Rattle.run_closing.proofs.Finishing.{seen_at}
use Rattle.run_closing.proofs.Putting.{some_at, same_some}

-- a node that has slept meanwhile, and is the same
pub rests_same : (law : Law) (meaning : Meaning) (lines : List NamedLine) (home : ℕ → ℕ) (nodes : ℕ) (c : NodeCourse) (looks : List (Option Looked)) (n from done : ℕ) (seat seat' : SeatView) (desks : List Desk)
    → node_of seat' c.seen ≡ node_of seat c.seen → SeatOk law meaning c.seen seat'
    → Rests law meaning lines home nodes c looks n from done seat desks → Rests law meaning lines home nodes c looks n from done seat' desks
rests_same law meaning lines home nodes c looks n from done seat seat' desks same ok r = record {
  node = record {
    ok = record {
      who_is = ap (λ (x : NodeView). x.who) same ∙ r.node.ok.who_is;
      origin = ap (λ (x : NodeView). x.replica.origin) same ∙ r.node.ok.origin;
      ok = record { shelf_is = ok.shelf_is; goes_by = ok.goes_by; node = subst (NodeOk (record law { may = Sends n law.may (sent_by desks) c.seen }) Holds meaning) (sym same) r.node.ok.ok.node };
      packs = subst (λ (x : NodeView). CanPack x.replica.kept) (sym same) r.node.ok.packs;
      waits = subst (λ (x : NodeView). All IsOfSession x.replica.kept) (sym same) r.node.ok.waits;
      size = r.node.ok.size;
      each = subst (λ (x : NodeView). DesksOk x desks) (sym same) r.node.ok.each;
      home = r.node.ok.home;
    };
    did = r.node.did;
    nodes_is = ap (λ (x : NodeView). x.nodes) same ∙ r.node.nodes_is;
    order = r.node.order;
    early = r.node.early;
    each = r.node.each;
    quiet = λ s e. subst (λ (x : NodeView). IsQuiet x s) (sym same) (r.node.quiet s e);
    given = subst (λ (x : NodeView). AllByRecursion (λ (g : Given). CameTo c.faults g.cause n c.phase) x.outbox.given) (sym same) r.node.given;
    waiting = r.node.waiting;
    played = λ i l low at own. subst (λ (x : NodeView). PlayedSo lines c done x.replica.cursor n desks looks i l.phase l.asks) (sym same) (r.node.played i l low at own);
    reports = subst (λ (x : NodeView). ReportsUpTo n x.replica.cursor c.seen) (sym same) r.node.reports;
    stores = let same_count = ap (λ (x : NodeView). strikes x.replica) same in let was = r.node.stores in omega (arith, same_count, was);
  };
  none_given = ap (λ (x : NodeView). x.outbox.given) same ∙ r.none_given;
}

-- Worker j before and after answers were taken at the desks of worker k: the same node, with the same desks where it is another.
pub record Turned {A : Type 0} (law : Law) (meaning : Meaning) (journal : List Event) (seat : A → SeatView) (desks : A → List Desk) (k j : ℕ) (w w' : A) : Type 0 where
  pub same : node_of (seat w') journal ≡ node_of (seat w) journal
  pub ok : SeatOk law meaning journal (seat w')
  pub kept : j ≢ k → desks w' ≡ desks w

module _ {A : Type 0} (law : Law) (meaning : Meaning) (lines : List NamedLine) (faults : List FaultLine) (seat : A → SeatView) (desks : A → List Desk) (workers : List A) (journal : List Event) (looks : List (Option Looked)) where
  -- all have played what they could
  pub takes_first : (phase node cursor : ℕ) → CrewRests law meaning lines faults (length lines) phase journal looks seat desks workers → HasMost seat workers (length workers) node cursor → SeesAll journal seat workers cursor
      → CrewTakes law meaning lines faults node cursor 0 journal looks seat desks workers
  takes_first phase node cursor h m sees = record {
    home = h.home;
    run = record { seen = journal; phase = phase; begins = h.begins; faults = faults_to h.courses (length workers); when = λ s. (h.courses (h.home s)).when s };
    courses = h.courses;
    seen_is = refl;
    lines_are = h.lines_are;
    joined = record {
      faults = refl;
      part = λ n least most.
          let s = h.seen n least most in
          record { seen = s.seen_is; phase = s.phase_is; begins = s.begins_are; when = λ t home_is. ap (λ n. (h.courses n).when t) (sym home_is) };
      did = did;
    };
    over = λ i l at. h.ends.before i l at (slice_get_within lines i l at);
    made = h.made;
    seals = h.seals;
    behind = h.behind;
    log = front.log;
    size = long;
    front = subst (λ i. IsFront Holds i front.log) (seen_at law meaning lines faults seat desks workers (length lines) phase journal looks h node best.0 best.1).seen_is front.front;
    sees = sees;
    there = m.there;
    most = m.at some;
    taken = λ j w less at. absurd (omega (arith, less));
    waits = λ j w high at. record {
      rests = subst (λ p. Rests law meaning lines h.home (length workers) (h.courses (j + 1)) looks (j + 1) (length lines) p (seat w) (desks w)) (sym (seen_at law meaning lines faults seat desks workers (length lines) phase journal looks h j w at).phase_is) (h.each j w at);
      short = let low = m.most j w (slice_get_within workers j w at) at in let is = long in omega (arith, low, is);
    };
  }
    where
      some : 0 < length workers
      some = let inside = m.there in omega (arith, inside)

      best : (b : A) × (slice_get workers node ≡ Some b)
      best = some_at workers node m.there

      front : IsStateAt Holds meaning.state (h.courses (node + 1)).seen (saved_in (seat best.0).node.replica)
      front = (h.each node best.0 best.1).node.ok.ok.node.follows.now

      long : length front.log ≡ cursor
      long = front.size ∙ m.at some best.0 best.1

      did : (n : ℕ) → 1 ≤ n → n ≤ length workers → IsCourse law lines (length workers) n (h.courses n) looks
      did n least most =
          let w = some_at workers (n - 1) (omega (arith, least, most)) in
          let same : n - 1 + 1 ≡ n = omega (arith, least) in
          subst (λ k. IsCourse law lines (length workers) k (h.courses k) looks) same (h.each (n - 1) w.0 w.1).node.did

  module _ (node cursor k : ℕ) (h : CrewTakes law meaning lines faults node cursor k journal looks seat desks workers) where
    rest_of : (j : ℕ) (w : A) → slice_get workers j ≡ Some w → (was : List Desk) × Rests law meaning lines h.home (length workers) (h.courses (j + 1)) looks (j + 1) (length lines) (h.courses (j + 1)).phase (seat w) was
    rest_of j w at = by (cases_lt j k)
      where
        by : (j < k) ⊎ (k ≤ j) → (was : List Desk) × Rests law meaning lines h.home (length workers) (h.courses (j + 1)) looks (j + 1) (length lines) (h.courses (j + 1)).phase (seat w) was
        by (inl low) = let t = h.taken j w low at in (t.was, t.rests)
        by (inr high) = (desks w, (h.waits j w high at).rests)

    -- each node has seen all
    journal_at : (j : ℕ) (w : A) → slice_get workers j ≡ Some w → (h.courses (j + 1)).seen ≡ journal
    journal_at j w at = let inside = slice_get_within workers j w at in (h.joined.part (j + 1) (omega arith) (omega (arith, inside))).seen ∙ h.seen_is

    stand_ok : (j : ℕ) (w : A) → slice_get workers j ≡ Some w → SeatOk law meaning journal (seat w)
    stand_ok j w at = let r = rest_of j w at in subst (λ i. SeatOk law meaning i (seat w)) (journal_at j w at) (worker_stands law meaning (j + 1) (h.courses (j + 1)).seen (seat w) r.0 r.1.node.ok)

    -- What the next node sent of its sessions bounds what anybody appended of them.
    module _ (w : A) (at : slice_get workers k ≡ Some w) where
      ok : WorkerOk law meaning (k + 1) journal (seat w) (desks w)
      ok = subst (λ i. WorkerOk law meaning (k + 1) i (seat w) (desks w)) (journal_at k w at) (h.waits k w (omega arith) at).rests.node.ok

      bind_own : (e : Entry) → OwnWithin (k + 1) law.may (sent_by (desks w)) (k + 1) e → WithinDesks law.may (desks w) (k + 1) e
      bind_own e a = (a.0, λ s r d get some has. let low = a.1 refl s r has in let same = sent_is (desks w) s d get in omega (arith, low, same))

      bind_other : (user : ℕ) (e : Entry) → user ≢ k + 1 → law.may user e → WithinDesks law.may (desks w) user e
      bind_other user e apart a = (a, λ s r d get some has. absurd (apart (ok.home s d get some user r e a has)))

      bind : (user : ℕ) (e : Entry) → Contains (appended_by user journal) e → law.may user e → WithinDesks law.may (desks w) user e
      bind user e there a = ⊎_elim
          (λ (same : user ≡ k + 1). subst (λ u. WithinDesks law.may (desks w) u e) (sym same)
          (bind_own e (own_may (record law { may = OwnWithin (k + 1) law.may (sent_by (desks w)) }) journal (k + 1) e (worker_within law meaning (k + 1) journal (seat w) (desks w) ok) (subst (λ u. Contains (appended_by u journal) e) same there))))
          (λ (other : user ≢ k + 1). bind_other user e other a)
          (same_or_other user (k + 1))

      within : IsLegal (record law { may = WithinDesks law.may (desks w) }) journal
      within = legal_own law (WithinDesks law.may (desks w)) journal (worker_legal law meaning (k + 1) journal (seat w) (desks w) ok) bind

      -- so a node can take the fabric by this, of whose entries it is so
      seat_binds : (m : ℕ) (s : SeatView) (ds : List Desk) → s.who ≡ m → SeatOk (record law { may = Sends m law.may (sent_by ds) journal }) meaning journal s
          → ((e : Entry) → OwnWithin m law.may (sent_by ds) m e → WithinDesks law.may (desks w) m e) → SeatOk (record law { may = WithinDesks law.may (desks w) }) meaning journal s
      seat_binds m s ds who fine binds = record {
        shelf_is = fine.shelf_is;
        goes_by = fine.goes_by;
        node = record {
          eight = fine.node.eight;
          legal = within;
          follows = fine.node.follows;
          bounded = fine.node.bounded;
          own = All-weaker (λ e. MaySend (Sends m law.may (sent_by ds) journal) s.who e) (λ e. MaySend (WithinDesks law.may (desks w)) s.who e)
              (λ e k. record { allowed = up e k.allowed; spelled = k.spelled }) s.node.outbox.entries fine.node.own;
          few = fine.node.few;
          waiting = λ some. up _ (fine.node.waiting some);
        };
      }
        where
          up : (e : Entry) → Sends m law.may (sent_by ds) journal s.who e → WithinDesks law.may (desks w) s.who e
          up e a = subst (λ u. WithinDesks law.may (desks w) u e) (sym who) (binds e (subst (λ u. OwnWithin m law.may (sent_by ds) u e) who a.0))

    pub takes_ok : (j : ℕ) (b w : A) → slice_get workers j ≡ Some b → slice_get workers k ≡ Some w → SeatOk (record law { may = WithinDesks law.may (desks w) }) meaning journal (seat b)
    takes_ok j b w best at = ⊎_elim
        (λ (same : j ≡ k).
        let is : w ≡ b = same_some w b (sym at ∙ (ap (slice_get workers) (sym same) ∙ best)) in
        subst (λ x. SeatOk (record law { may = WithinDesks law.may (desks w) }) meaning journal (seat x)) is
        (seat_binds w at (k + 1) (seat w) (desks w) (ok w at).who_is (ok w at).ok (bind_own w at)))
        (λ (other : j ≢ k).
        let r = rest_of j b best in
        let fine = subst (λ i. WorkerOk law meaning (j + 1) i (seat b) r.0) (journal_at j b best) r.1.node.ok in
        seat_binds w at (j + 1) (seat b) r.0 fine.who_is fine.ok (λ e a. bind_other w at (j + 1) e (λ e. other (omega (arith, e))) a.0))
        (same_or_other j k)

    pub takes_stand : CrewStands law meaning journal seat workers
    takes_stand j w at = stand_ok j w at

    -- the next node's desks can be answered by the one that has played most
    pub can_take : (b w : A) → slice_get workers node ≡ Some b → slice_get workers k ≡ Some w → CanTakeAll (WithinDesks law.may (desks w)) (node_of (seat b) journal) (desks w)
    can_take b w best at = λ s d get.
        let fine = (ok w at).each s d get in
        record {
          session = fine.session;
          known = fine.known;
          bound = λ some user e r allowed has. allowed.1 s r d get some has;
          near = fine.near;
          acted = λ log long front.
              let acted = fine.acted in
              answers_stay law journal [] s acted.log log d.answers.items
              (subst (IsLegal law) (sym (append-nil journal)) (takes_stand k w at).node.legal) acted.front
              (subst (λ i. IsFront Holds i log) (sym (append-nil journal)) front)
              (let upto = acted.upto in let short = (h.waits k w (omega arith) at).short in let size = h.size in let most = h.most b best in omega (arith, upto, short, size, most, long)) acted.are;
        }

    -- Answers were taken at worker k.
    module _ (workers' : List A) (long : length workers' ≡ length workers) (turned : (j : ℕ) (w' : A) → slice_get workers' j ≡ Some w' → (w : A) × (slice_get workers j ≡ Some w) × Turned law meaning journal seat desks k j w w') where
      pub stands_then : CrewStands law meaning journal seat workers'
      stands_then j w' at = (turned j w' at).2.ok

      rests_then : (j : ℕ) (w w' : A) (ds : List Desk) → slice_get workers j ≡ Some w → Turned law meaning journal seat desks k j w w' → Rests law meaning lines h.home (length workers) (h.courses (j + 1)) looks (j + 1) (length lines) (h.courses (j + 1)).phase (seat w) ds
          → Rests law meaning lines h.home (length workers) (h.courses (j + 1)) looks (j + 1) (length lines) (h.courses (j + 1)).phase (seat w') ds
      rests_then j w w' ds at t r =
          let seen = journal_at j w at in
          rests_same law meaning lines h.home (length workers) (h.courses (j + 1)) looks (j + 1) (length lines) (h.courses (j + 1)).phase (seat w) (seat w') ds
          (subst (λ i. node_of (seat w') i ≡ node_of (seat w) i) (sym seen) t.same) (subst (λ i. SeatOk law meaning i (seat w')) (sym seen) t.ok) r

      cursor_same : (j : ℕ) (w w' : A) → Turned law meaning journal seat desks k j w w' → (seat w').node.replica.cursor ≡ (seat w).node.replica.cursor
      cursor_same j w w' t = ap (λ (x : NodeView). x.replica.cursor) t.same

      module _ (b : A) (best : slice_get workers node ≡ Some b) (takes : (w w' : A) → slice_get workers k ≡ Some w → slice_get workers' k ≡ Some w' → TakesAll (node_of (seat b) journal) (desks w) (desks w')) where
        desk_closed : (s : ℕ) (w w' : A) (d : Desk) → slice_get workers k ≡ Some w → slice_get workers' k ≡ Some w' → slice_get (desks w) s ≡ Some d → DeskClosed h.log s d (desks w')
        desk_closed s w w' d at at' get =
            let one = (takes w w' at at').each s d get in
            let fine = (h.waits k w (omega arith) at).rests.node.ok.each s d get in
            record {
              now = one.desk;
              is = one.is;
              rest = one.takes.rest;
              all = λ some. subst (λ t. AreAllAnswers h.log t one.desk.answers.items) fine.session (one.takes.all some h.log (h.size ∙ sym (h.most b best)) h.front);
            }

        -- a node that was there before is there still, with the disk that it had
        sees_then : ((j : ℕ) (w : A) → slice_get workers j ≡ Some w → (w' : A) × (slice_get workers' j ≡ Some w')) → SeesAll journal seat workers' cursor
        sees_then there none = h.sees (record {
          told = none.told;
          disks = λ j w at.
              let now = there j w at in
              let t = turned j now.0 now.1 in
              subst (λ x. (seat x).node.replica.faults ≡ 0) (same_some t.0 w (sym t.1 ∙ at)) (sym (ap (λ (x : NodeView). x.replica.faults) t.2.same) ∙ none.disks j now.0 now.1);
        })

        taken : (j : ℕ) (w w' : A) → j < k + 1 → slice_get workers j ≡ Some w → slice_get workers' j ≡ Some w' → Turned law meaning journal seat desks k j w w'
            → WorkerClosed law meaning lines h.home (length workers) (h.courses (j + 1)) looks h.log (j + 1) (record { seat = seat w'; desks = desks w' })
        taken j w w' less at at' t = by (cases_lt j k)
          where
            by : (j < k) ⊎ (k ≤ j) → WorkerClosed law meaning lines h.home (length workers) (h.courses (j + 1)) looks h.log (j + 1) (record { seat = seat w'; desks = desks w' })
            by (inl low) =
                let old = h.taken j w low at in
                let kept = t.kept (λ e. absurd (omega (arith, low, e))) in
                record {
                  was = old.was;
                  rests = rests_then j w w' old.was at t old.rests;
                  short = let same = cursor_same j w w' t in let short = old.short in omega (arith, same, short);
                  size = ap length kept ∙ old.size;
                  each = λ s d get. subst (DeskClosed h.log s d) (sym kept) (old.each s d get);
                }
            by (inr high) =
                let here : k ≡ j = omega (arith, less, high) in
                let at-k = ap (slice_get workers) here ∙ at in
                let at-k' = ap (slice_get workers') here ∙ at' in
                let old = h.waits j w high at in
                record {
                  was = desks w;
                  rests = rests_then j w w' (desks w) at t old.rests;
                  short = let same = cursor_same j w w' t in let short = old.short in omega (arith, same, short);
                  size = (takes w w' at-k at-k').size;
                  each = λ s d get. desk_closed s w w' d at-k at-k' get;
                }

        pub takes_more : CrewTakes law meaning lines faults node cursor (k + 1) journal looks seat desks workers'
        takes_more = record {
          home = h.home;
          run = h.run;
          courses = h.courses;
          seen_is = h.seen_is;
          lines_are = subst (AreLines lines h.home) (sym long) h.lines_are;
          joined = subst (λ n. AreJoined law lines h.home n h.run looks h.courses) (sym long) h.joined;
          over = h.over;
          made = h.made;
          seals = subst (λ n. SealsOfNodes n journal) (sym long) h.seals;
          behind = h.behind;
          log = h.log;
          size = h.size;
          front = h.front;
          sees = sees_then (λ j w at. some_at workers' j (let inside = slice_get_within workers j w at in omega (arith, inside, long)));
          there = let inside = h.there in omega (arith, inside, long);
          most = λ w' at'. let t = turned node w' at' in cursor_same node t.0 w' t.2 ∙ h.most t.0 t.1;
          taken = λ j w' less at'.
              let t = turned j w' at' in
              subst (λ n. WorkerClosed law meaning lines h.home n (h.courses (j + 1)) looks h.log (j + 1) (record { seat = seat w'; desks = desks w' })) (sym long) (taken j t.0 w' less t.1 at' t.2);
          waits = λ j w' high at'.
              let t = turned j w' at' in
              let old = h.waits j t.0 (omega (arith, high)) t.1 in
              let kept = t.2.kept (λ e. absurd (omega (arith, high, e))) in
              let now : WaitsToTake law meaning lines h.home (length workers) (h.courses (j + 1)) looks h.log (j + 1) (seat w') (desks w') = record {
                rests = subst (Rests law meaning lines h.home (length workers) (h.courses (j + 1)) looks (j + 1) (length lines) (h.courses (j + 1)).phase (seat w')) (sym kept) (rests_then j t.0 w' (desks t.0) t.1 t.2 old.rests);
                short = let same = cursor_same j t.0 w' t.2 in let short = old.short in omega (arith, same, short);
              } in
              subst (λ n. WaitsToTake law meaning lines h.home n (h.courses (j + 1)) looks h.log (j + 1) (seat w') (desks w')) (sym long) now;
        }

    -- the same node, which has made no event
    same_seat : (ds : List Desk) (j : ℕ) (w w' : A) → slice_get workers j ≡ Some w → node_of (seat w') journal ≡ node_of (seat w) journal → SeatOk (record law { may = WithinDesks law.may ds }) meaning journal (seat w') → SeatOk law meaning journal (seat w')
    same_seat ds j w w' at same ok = record { shelf_is = ok.shelf_is; goes_by = ok.goes_by; node = subst (NodeOk law Holds meaning) (sym same) (stand_ok j w at).node }

    -- where nothing happened to a worker
    untouched : (j : ℕ) (w : A) → slice_get workers j ≡ Some w → Turned law meaning journal seat desks k j w w
    untouched j w at = record { same = refl; ok = stand_ok j w at; kept = λ other. refl }

    -- At the node's own desks.
    module _ (b y : A) (best : slice_get workers k ≡ Some b) (same : node_of (seat y) journal ≡ node_of (seat b) journal) (ok : SeatOk (record law { may = WithinDesks law.may (desks b) }) meaning journal (seat y)) where
      own_size : length (slice_set workers k y) ≡ length workers
      own_size = length-set workers k y

      own_turned : (j : ℕ) (w' : A) → slice_get (slice_set workers k y) j ≡ Some w' → (w : A) × (slice_get workers j ≡ Some w) × Turned law meaning journal seat desks k j w w'
      own_turned j w' at = by (changed workers k j b y w' best at)
        where
          by : ((j ≡ k) × (y ≡ w')) ⊎ ((j ≢ k) × (slice_get workers j ≡ Some w')) → (w : A) × (slice_get workers j ≡ Some w) × Turned law meaning journal seat desks k j w w'
          by (inl here) =
              let was = ap (slice_get workers) here.0 ∙ best in
              (b, was, subst (λ x. Turned law meaning journal seat desks k j b x) here.1 (record { same = same; ok = same_seat (desks b) j b y was same ok; kept = λ other. absurd (other here.0) }))
          by (inr other) = (w', other.1, untouched j w' other.1)

      pub own_stands : CrewStands law meaning journal seat (slice_set workers k y)
      own_stands = stands_then (slice_set workers k y) own_size own_turned

      pub own_taken : node ≡ k → TakesAll (node_of (seat b) journal) (desks b) (desks y) → CrewTakes law meaning lines faults node cursor (k + 1) journal looks seat desks (slice_set workers k y)
      own_taken here t = takes_more (slice_set workers k y) own_size own_turned b (ap (slice_get workers) here ∙ best) (λ w w' at at'.
          subst (λ x. TakesAll (node_of (seat b) journal) (desks x) (desks w')) (same_some b w (sym best ∙ at))
          (subst (λ x. TakesAll (node_of (seat b) journal) (desks b) (desks x)) (same_some y w' (sym (set_same workers k y b best) ∙ at')) t))

    -- At another's.
    module _ (b w y z : A) (apart : node ≢ k) (best : slice_get workers node ≡ Some b) (at : slice_get workers k ≡ Some w) (other : seat y ≡ seat w) (same : node_of (seat z) journal ≡ node_of (seat b) journal) (ok : SeatOk (record law { may = WithinDesks law.may (desks w) }) meaning journal (seat z)) (kept : desks z ≡ desks b) where
      abbrev mid : List A
      mid = slice_set workers k y

      other_size : length (slice_set mid node z) ≡ length workers
      other_size = length-set mid node z ∙ length-set workers k y

      mid_best : slice_get mid node ≡ Some b
      mid_best = set_other workers k node y apart ∙ best

      other_turned : (j : ℕ) (w' : A) → slice_get (slice_set mid node z) j ≡ Some w' → (x : A) × (slice_get workers j ≡ Some x) × Turned law meaning journal seat desks k j x w'
      other_turned j w' get = by (changed mid node j b z w' mid_best get)
        where
          by_mid : ((j ≡ k) × (y ≡ w')) ⊎ ((j ≢ k) × (slice_get workers j ≡ Some w')) → (x : A) × (slice_get workers j ≡ Some x) × Turned law meaning journal seat desks k j x w'
          by_mid (inl here) = (
            w,
            ap (slice_get workers) here.0 ∙ at,
            subst (λ x. Turned law meaning journal seat desks k j w x) here.1 (record {
              same = ap (λ s. node_of s journal) other;
              ok = subst (SeatOk law meaning journal) (sym other) (stand_ok j w (ap (slice_get workers) here.0 ∙ at));
              kept = λ elsewhere. absurd (elsewhere here.0);
            }),
          )
          by_mid (inr elsewhere) = (w', elsewhere.1, untouched j w' elsewhere.1)

          by : ((j ≡ node) × (z ≡ w')) ⊎ ((j ≢ node) × (slice_get mid j ≡ Some w')) → (x : A) × (slice_get workers j ≡ Some x) × Turned law meaning journal seat desks k j x w'
          by (inl here) =
              let was = ap (slice_get workers) here.0 ∙ best in
              (b, was, subst (λ x. Turned law meaning journal seat desks k j b x) here.1 (record { same = same; ok = same_seat (desks w) j b z was same ok; kept = λ elsewhere. kept }))
          by (inr elsewhere) = by_mid (changed workers k j w y w' at elsewhere.1)

      pub other_stands : CrewStands law meaning journal seat (slice_set mid node z)
      other_stands = stands_then (slice_set mid node z) other_size other_turned

      now_at : (w' : A) → slice_get (slice_set mid node z) k ≡ Some w' → y ≡ w'
      now_at w' get = same_some y w' (sym (set_same workers k y w at) ∙ sym (set_other mid node k z (λ e. apart (sym e))) ∙ get)

      pub other_taken : TakesAll (node_of (seat b) journal) (desks w) (desks y) → CrewTakes law meaning lines faults node cursor (k + 1) journal looks seat desks (slice_set mid node z)
      other_taken t = takes_more (slice_set mid node z) other_size other_turned b best (λ x w' get get'.
          subst (λ v. TakesAll (node_of (seat b) journal) (desks v) (desks w')) (same_some w x (sym at ∙ get))
          (subst (λ v. TakesAll (node_of (seat b) journal) (desks w) (desks v)) (now_at w' get') t))
