use Rattle.std.proofs.Common.{◌≡◌, ◌+◌, ◌-◌, ◌<◌, ◌≤◌, ◌++◌, ℕ, List, ◌∷◌, [], append-nil, length, length-append, drop, take, Result, Ok, Err, None, Bool, true, false, refl, sym, ap, ◌∙◌, subst, arith}
use Rattle.std.specs.Prelude.{OnOk, ◌&&◌}
use Rattle.std.specs.List.{All}
use Rattle.std.proofs.lemmas.List.{length-map}
use Rattle.legal_journal.specs.Law.{Law}
use Rattle.legal_journal.specs.declared.events.FabricCall.{FabricCall}
use Rattle.legal_journal.specs.declared.events.Event.{Event}
use Rattle.pass_lock.specs.Journal.{IsKnown, Part, Signed, Turn}
use Rattle.pass_lock.specs.Pass.{Known, LockId, all_parts, brought, first_seen, numbered, one_part}
use Rattle.replica_api.specs.Replica.{Meaning}
use Rattle.script_text.specs.declared.asks.NamedLine.{NamedLine}
use Rattle.script_text.specs.declared.faults.FaultLine.{FaultLine}
use Rattle.turn_scopes.specs.Seats.{SeatView}
use Rattle.locked_turns.specs.Locked.{LockedView}
use Rattle.node_lines.specs.declared.desk.Desk.{Desk}
use Rattle.node_course.specs.FaultLines.{strays_from, strays_in, stops_in}
use Rattle.node_crew.specs.Arming.{AreArmed}
use Rattle.node_crew.specs.Crews.{CrewRests, CrewStands}
use Rattle.node_threads.specs.Passes.{HasCaughtUp, IsRested, journal_of, parts_from, signer}
use Rattle.node_threads.specs.Phases.{WentOn}
use Rattle.node_threads.specs.Posts.{AllMayWork, AllWorked, PostView, looks_after, seen_of, seens, seated_from, view_of}
use Rattle.node_threads.proofs.Numbers.{AllFollow, brought_size, first_brought, known_each, parts_size}
use Rattle.node_threads.specs.Stirring.{MakesFaults, Stirred}
use Rattle.node_threads.proofs.Faults.{few_turns}
use Rattle.node_threads.proofs.Joining.{cut_one, later_below, one_part_is, rested_again}
use Rattle.node_threads.proofs.Posts.{all_armed, AllMet, all_have, all_met, all_noted, may_work, seated_size, workers_size}
use Rattle.node_threads.proofs.Meeting.{all_can, crew_rested, met_stand, rests_stand, stirs, went}
use Rattle.node_threads.proofs.phase.play_nodes.Goals as goal

-- The passes

abbrev rest : ℕ → List Event → List (Part Event)
rest n journal = brought journal (numbered n (all_parts - n))

-- the spare part is cut off
cut : (lock : LockId) (start split spare : Known Event) → IsRested lock start → split ≡ record start { parts = drop 1 start.parts } → spare ≡ record start { parts = take 1 start.parts; made = [] }
    → (split ≡ record start { parts = rest 1 (journal_of start) }) × (spare ≡ record start { parts = (0, journal_of start) ∷ []; made = [] })
cut lock start split spare rested kept moved = cut_one (journal_of start) 0 all_parts (all_parts - 1) start start split spare refl (ap (λ (x : Known Event). record start { parts = x.parts }) rested) kept moved

split_journal : (start split : Known Event) → split ≡ record start { parts = rest 1 (journal_of start) } → journal_of split ≡ journal_of start
split_journal start split is = ap (λ (x : Known Event). first_seen x.parts) is ∙ first_brought (journal_of start) 1 (all_parts - 1) (omega arith)

-- all parts are back, with part 0 of which the one was seen, and with the next n the others
record Back (lock : LockId) (journal spared : List Event) (n : ℕ) (ss : List (List Event)) (p : Known Event) : Type 0 where
  lock_is : p.lock ≡ lock
  turn_is : p.turn ≡ None
  parts : p.parts ≡ parts_from 0 (spared ∷ ss) ++ rest (1 + n) journal

back : (lock : LockId) (n : ℕ) (spared : List Event) (ss : List (List Event)) (start split spare seated joined other p : Known Event) (m : List (Turn Event)) → IsRested lock start → split ≡ record start { parts = drop 1 start.parts } → spare ≡ record start { parts = take 1 start.parts; made = [] }
    → seated ≡ record split { parts = rest (1 + n) (journal_of split) } → joined ≡ record seated { parts = parts_from 1 ss ++ seated.parts; made = joined.made } → other.parts ≡ (0, spared) ∷ [] → p ≡ record joined { parts = other.parts ++ joined.parts; made = m }
    → Back lock (journal_of start) spared n ss p
back lock n spared ss start split spare seated joined other p m rested kept moved seat join one last =
    let j = journal_of start in
    let c = cut lock start split spare rested kept moved in
    let first : Part Event = (0, spared) in
    record {
      lock_is = ap (λ (x : Known Event). x.lock) last ∙ (ap (λ (x : Known Event). x.lock) join ∙ (ap (λ (x : Known Event). x.lock) seat ∙ (ap (λ (x : Known Event). x.lock) kept ∙ ap (λ (x : Known Event). x.lock) rested)));
      turn_is = ap (λ (x : Known Event). x.turn) last ∙ (ap (λ (x : Known Event). x.turn) join ∙ (ap (λ (x : Known Event). x.turn) seat ∙ (ap (λ (x : Known Event). x.turn) kept ∙ ap (λ (x : Known Event). x.turn) rested)));
      parts = ap (λ (x : Known Event). x.parts) last
          ∙ (ap (λ (l : List (Part Event)). l ++ joined.parts) one
          ∙ (ap (λ (x : Known Event). first ∷ x.parts) join
          ∙ (ap (λ (x : Known Event). first ∷ (parts_from 1 ss ++ x.parts)) seat
          ∙ ap (λ (x : List Event). first ∷ (parts_from 1 ss ++ rest (1 + n) x)) (split_journal start split c.0))));
    }

back_size : (lock : LockId) (journal spared : List Event) (n : ℕ) (ss : List (List Event)) (p : Known Event) → Back lock journal spared n ss p → length ss ≡ n → n ≤ 8 → length p.parts ≡ all_parts
back_size lock journal spared n ss p b size few =
    let all : length p.parts ≡ length (parts_from 0 (spared ∷ ss) ++ rest (1 + n) journal) = ap length b.parts in
    let s : length (spared ∷ ss) ≡ 1 + n = omega (arith, size) in
    omega (arith, all, length-append (parts_from 0 (spared ∷ ss)) (rest (1 + n) journal), parts_size 0 (spared ∷ ss), s, brought_size journal (1 + n) (all_parts - (1 + n)), few)

-- all have seen the same again: what they had seen before, and what was made meanwhile
record Again (lock : LockId) (journal spared whole : List Event) (n : ℕ) (ss : List (List Event)) (p : Known Event) : Type 0 where
  first : journal_of p ≡ whole
  rested : IsRested lock p
  later : List Event
  is : whole ≡ journal ++ later
  below : All (λ e. e.who < 1 + n) later
  follow : AllFollow 0 (spared ∷ ss) whole

again : (law : Law) (lock : LockId) (journal spared : List Event) (n : ℕ) (ss : List (List Event)) (p p' : Known Event) → Back lock journal spared n ss p → length ss ≡ n → n ≤ 8 → (h : HasCaughtUp law p p') → Again lock journal spared h.journal n ss p'
again law lock journal spared n ss p p' b size few h =
    let s : length (spared ∷ ss) ≡ 1 + n = omega (arith, size) in
    let low : 1 + n < 65536 = omega (arith, few) in
    let known = subst (IsKnown signer h.journal) b.parts h.known in
    let signed = subst (λ (l : List (Part Event)). Signed signer l h.journal) b.parts (h.signed (back_size lock journal spared n ss p b size few)) in
    let r = rested_again lock journal (spared ∷ ss) (1 + n) s low h.journal p p' b.lock_is b.turn_is b.parts h.is in
    let l = later_below lock journal (spared ∷ ss) (1 + n) s low h.journal known signed in
    record {
      first = r.0;
      rested = r.1;
      later = l.0;
      is = l.1;
      below = l.2;
      follow = known_each h.journal 0 (spared ∷ ss) (rest (1 + n) journal) known;
    }

-- The posts

-- the nodes at their posts
at_posts : {W : Type 0} (journal journal' : List Event) (ws : List W) (ps : List (PostView W)) → ps ≡ seated_from 1 journal' ws → journal' ≡ journal → ps ≡ seated_from 1 journal ws
at_posts journal journal' ws ps are same = are ∙ ap (λ j. seated_from 1 j ws) same

-- each took its part
took : {W : Type 0} (law : Law) (meaning : Meaning) (lines : List NamedLine) (faults : List FaultLine) (phase from to : ℕ) (seat : W → SeatView) (desks : W → List Desk) (journal : List Event) (ws : List W) (ps ps' : List (PostView W)) → ps ≡ seated_from 1 journal ws
    → length ps' ≡ length ps → AllWorked law meaning lines faults phase from to seat desks ps ps' → AllMet law meaning lines faults phase from to seat desks journal 1 ws ps'
took law meaning lines faults phase from to seat desks journal ws ps ps' is size worked =
    all_met law meaning lines faults phase from to seat desks journal 1 ws ps' (size ∙ (ap length is ∙ seated_size 1 journal ws))
    (subst (λ xs. AllWorked law meaning lines faults phase from to seat desks xs ps') is worked)

posts_size : {W : Type 0} (journal : List Event) (ws : List W) (ps ps' : List (PostView W)) → ps ≡ seated_from 1 journal ws → length ps' ≡ length ps → length (seens ps') ≡ length ws
posts_size journal ws ps ps' is size = length-map ps' (λ p. seen_of p.access) ∙ (size ∙ (ap length is ∙ seated_size 1 journal ws))

-- what comes of an answer
so_on : {A E : Type 0} {P Q : Type 0} (r : Result A E) → OnOk r P → (P → Q) → OnOk r Q
so_on (Ok x) p f = f p
so_on (Err e) p f = tt

-- nothing was made
went_nowhere : (lines : List NamedLine) (faults : List FaultLine) (phase nodes : ℕ) (journal : List Event) → WentOn lines faults phase nodes journal journal
went_nowhere lines faults phase nodes journal = record { later = []; is = sym (append-nil journal); each = λ e has. absurd (let none = has.1 in omega (arith, none)) }

-- what the stirrer saw, and its part
stirred_from : (strays : List FabricCall) (lock : LockId) (journal : List Event) (start spare : Known Event) (access : LockedView) (seen : List Event) (sufficed : Bool) → spare ≡ record start { parts = (0, journal) ∷ []; made = [] } → access ≡ view_of 0 (first_seen spare.parts)
    → Stirred strays access.seen seen sufficed → Stirred strays journal seen sufficed
stirred_from strays lock journal start spare access seen sufficed is at h = subst (λ j. Stirred strays j seen sufficed) (ap (λ (a : LockedView). a.seen) at ∙ ap (λ (x : Known Event). first_seen x.parts) is) h

own_part : (lock : LockId) (access : LockedView) (other : Known Event) → access.who ≡ 0 → other ≡ one_part lock access.who access.seen other.made → other.parts ≡ (0, access.seen) ∷ []
own_part lock access other who is = ap (λ (x : Known Event). x.parts) is ∙ ap (λ n. (n, access.seen) ∷ []) who

both_true : (a b : Bool) → (a && b) ≡ true → (a ≡ true) × (b ≡ true)
both_true true b e = (refl, e)
both_true false b e = absurd (cc)

-- The goals

pub returns-in_err-posts-clause-stands : goal.returns-in_err-posts-clause-stands
returns-in_err-posts-clause-stands g c =
    let h = c.requires.begins in
    rests_stand g.P.Rules.law g.S.Replica.meaning c.args.lines.now c.args.faults.now.lines.now c.args.faults.now.phase c.args.from c.args.to (λ w. w.seat) (λ w. w.desks.items) (journal_of c.args.main.now) c.args.workers.now.items c.args.looks.now.items h.rests

pub returns-in_err-posts-clause-goes_on : goal.returns-in_err-posts-clause-goes_on
returns-in_err-posts-clause-goes_on g c = went_nowhere c.args.lines.now c.args.faults.now.lines.now c.args.faults.now.phase (length c.args.workers.now.items) (journal_of c.args.main.now)

pub join_all-sufficed-requires-clause-space : goal.join_all-sufficed-requires-clause-space
join_all-sufficed-requires-clause-space g c =
    let ws = c.args.workers.now in
    let is = (cut g.B.Room.lock c.args.main.now c.split-spare.new.pass c.split-spare.result c.requires.rested c.split-spare.ensures.kept c.split-spare.ensures.moved).0 in
    let at = at_posts (journal_of c.args.main.now) (journal_of c.split-spare.new.pass) ws.items c.seat_all.new.posts.items c.seat_all.ensures.posts (split_journal c.args.main.now c.split-spare.new.pass is) in
    let size : length c.run_all.new.posts.items ≡ length ws.items = c.run_all.ensures.size ∙ (ap length at ∙ seated_size 1 (journal_of c.args.main.now) ws.items) in
    omega (arith, size, ws.ok.0, ws.ok.1, c.seat_all.ensures.space)

pub split-spare-requires-clause-enough : goal.split-spare-requires-clause-enough
split-spare-requires-clause-enough g c =
    let size : length c.args.main.now.parts ≡ all_parts = ap (λ (x : Known Event). length x.parts) c.requires.rested ∙ brought_size (journal_of c.args.main.now) 0 all_parts in
    omega (arith, size)

pub seat_all-requires-clause-parts : goal.seat_all-requires-clause-parts
seat_all-requires-clause-parts g c =
    let is = (cut g.B.Room.lock c.args.main.now c.split-spare.new.pass c.split-spare.result c.requires.rested c.split-spare.ensures.kept c.split-spare.ensures.moved).0 in
    ap (λ (x : Known Event). x.parts) is ∙ ap (rest 1) (sym (split_journal c.args.main.now c.split-spare.new.pass is))

pub run_all-requires-clause-may : goal.run_all-requires-clause-may
run_all-requires-clause-may g c κs within =
    let p = g.P.Rules in
    let r = g.S.Replica in
    let lines = c.args.lines.now in
    let is = (cut g.B.Room.lock c.args.main.now c.split-spare.new.pass c.split-spare.result c.requires.rested c.split-spare.ensures.kept c.split-spare.ensures.moved).0 in
    let at = at_posts (journal_of c.args.main.now) (journal_of c.split-spare.new.pass) c.args.workers.now.items c.seat_all.new.posts.items c.seat_all.ensures.posts (split_journal c.args.main.now c.split-spare.new.pass is) in
    subst (AllMayWork p.law r.meaning lines c.args.faults.now.lines.now c.args.faults.now.phase c.args.from c.args.to (λ w. w.seat) (λ w. w.desks.items)) (sym at)
    (may_work p.law r.meaning lines c.args.faults.now.lines.now c.args.faults.now.phase c.args.from c.args.to (λ w. w.seat) (λ w. w.desks.items) (journal_of c.args.main.now) 1 c.args.workers.now.items
    (all_can p.law r.meaning lines c.args.faults.now.lines.now c.args.faults.now.phase c.args.from c.args.to (λ w. w.seat) (λ w. w.desks.items) (journal_of c.args.main.now) c.args.workers.now.items c.args.looks.now.items c.requires.begins c.requires.floor c.requires.faults))

pub join_all-sufficed-requires-clause-have : goal.join_all-sufficed-requires-clause-have
join_all-sufficed-requires-clause-have g c =
    let p = g.P.Rules in
    let r = g.S.Replica in
    let lines = c.args.lines.now in
    let ws = c.args.workers.now.items in
    let j = journal_of c.args.main.now in
    let is = (cut g.B.Room.lock c.args.main.now c.split-spare.new.pass c.split-spare.result c.requires.rested c.split-spare.ensures.kept c.split-spare.ensures.moved).0 in
    let at = at_posts j (journal_of c.split-spare.new.pass) ws c.seat_all.new.posts.items c.seat_all.ensures.posts (split_journal c.args.main.now c.split-spare.new.pass is) in
    all_have p.law r.meaning lines c.args.faults.now.lines.now c.args.faults.now.phase c.args.from c.args.to (λ w. w.seat) (λ w. w.desks.items) j 1 ws c.run_all.new.posts.items
    (took p.law r.meaning lines c.args.faults.now.lines.now c.args.faults.now.phase c.args.from c.args.to (λ w. w.seat) (λ w. w.desks.items) j ws c.seat_all.new.posts.items c.run_all.new.posts.items at c.run_all.ensures.size c.run_all.ensures.worked)

pub join_all-sufficed-requires-clause-lines : goal.join_all-sufficed-requires-clause-lines
join_all-sufficed-requires-clause-lines g c =
    let p = g.P.Rules in
    let r = g.S.Replica in
    let lines = c.args.lines.now in
    let ws = c.args.workers.now.items in
    let j = journal_of c.args.main.now in
    let is = (cut g.B.Room.lock c.args.main.now c.split-spare.new.pass c.split-spare.result c.requires.rested c.split-spare.ensures.kept c.split-spare.ensures.moved).0 in
    let at = at_posts j (journal_of c.split-spare.new.pass) ws c.seat_all.new.posts.items c.seat_all.ensures.posts (split_journal c.args.main.now c.split-spare.new.pass is) in
    all_noted p.law r.meaning lines c.args.faults.now.lines.now c.args.faults.now.phase c.args.from c.args.to (λ w. w.seat) (λ w. w.desks.items) j (length c.args.looks.now.items) 1 ws c.run_all.new.posts.items
    (λ j w at. sym (c.requires.begins.rests.each j w at).node.did.size)
    (took p.law r.meaning lines c.args.faults.now.lines.now c.args.faults.now.phase c.args.from c.args.to (λ w. w.seat) (λ w. w.desks.items) j ws c.seat_all.new.posts.items c.run_all.new.posts.items at c.run_all.ensures.size c.run_all.ensures.worked)

pub look-requires-clause-part : goal.look-requires-clause-part
look-requires-clause-part g c =
    let ws = c.args.workers.now.items in
    let n : ℕ = length ws in
    let j = journal_of c.args.main.now in
    let posts = c.run_all.new.posts.items in
    let is = (cut g.B.Room.lock c.args.main.now c.split-spare.new.pass c.split-spare.result c.requires.rested c.split-spare.ensures.kept c.split-spare.ensures.moved).0 in
    let at = at_posts j (journal_of c.split-spare.new.pass) ws c.seat_all.new.posts.items c.seat_all.ensures.posts (split_journal c.args.main.now c.split-spare.new.pass is) in
    let s0 = c.run_all.new.stirrer.access.seen in
    let b = back g.B.Room.lock n s0 (seens posts) c.args.main.now c.split-spare.new.pass c.split-spare.result c.seat_all.new.main c.join_all-sufficed.new.main c.into_pass-pass.result c.join.new.pass _ c.requires.rested c.split-spare.ensures.kept c.split-spare.ensures.moved c.seat_all.ensures.main c.join_all-sufficed.ensures.main (own_part g.B.Room.lock c.run_all.new.stirrer.access c.into_pass-pass.result c.run_all.ensures.stirrer c.into_pass-pass.ensures) c.join.ensures in
    let all = back_size g.B.Room.lock j s0 n (seens posts) c.join.new.pass b (posts_size j ws c.seat_all.new.posts.items posts at c.run_all.ensures.size) c.requires.eight in
    omega (arith, all)

pub returns : goal.returns
returns g c =
    let p = g.P.Rules in
    let r = g.S.Replica in
    let lines = c.args.lines.now in
    let from = c.args.from in
    let to = c.args.to in
    let ws = c.args.workers.now.items in
    let looks = c.args.looks.now.items in
    let n : ℕ = length ws in
    let j = journal_of c.args.main.now in
    let posts = c.run_all.new.posts.items in
    let whole = c.look.ensures.journal in
    let h = c.requires.begins in
    let is = (cut g.B.Room.lock c.args.main.now c.split-spare.new.pass c.split-spare.result c.requires.rested c.split-spare.ensures.kept c.split-spare.ensures.moved).0 in
    let at = at_posts j (journal_of c.split-spare.new.pass) ws c.seat_all.new.posts.items c.seat_all.ensures.posts (split_journal c.args.main.now c.split-spare.new.pass is) in
    let s0 = c.run_all.new.stirrer.access.seen in
    let b = back g.B.Room.lock n s0 (seens posts) c.args.main.now c.split-spare.new.pass c.split-spare.result c.seat_all.new.main c.join_all-sufficed.new.main c.into_pass-pass.result c.join.new.pass _ c.requires.rested c.split-spare.ensures.kept c.split-spare.ensures.moved c.seat_all.ensures.main c.join_all-sufficed.ensures.main (own_part g.B.Room.lock c.run_all.new.stirrer.access c.into_pass-pass.result c.run_all.ensures.stirrer c.into_pass-pass.ensures) c.join.ensures in
    let a = again p.law g.B.Room.lock j s0 n (seens posts) c.join.new.pass c.look.new.main b (posts_size j ws c.seat_all.new.posts.items posts at c.run_all.ensures.size) c.requires.eight c.look.ensures in
    let met = took p.law r.meaning lines c.args.faults.now.lines.now c.args.faults.now.phase from to (λ w. w.seat) (λ w. w.desks.items) j ws c.seat_all.new.posts.items posts at c.run_all.ensures.size c.run_all.ensures.worked in
    let faults = c.args.faults.now.lines.now in
    let phase = c.args.faults.now.phase in
    let strays : List FabricCall = strays_in c.args.cells phase faults in
    let spare = (cut g.B.Room.lock c.args.main.now c.split-spare.new.pass c.split-spare.result c.requires.rested c.split-spare.ensures.kept c.split-spare.ensures.moved).1 in
    let stir = stirred_from strays g.B.Room.lock j c.args.main.now c.split-spare.result c.new-access.result s0 c.run_all.new.stirrer.sufficed spare c.new-access.ensures
    (subst (λ n. Stirred (strays_from c.args.cells 0 n) c.new-access.result.seen s0 c.run_all.new.stirrer.sufficed) c.turns_of-turns.ensures c.run_all.ensures.stirred) in
    let so = λ (yes : c.both.result ≡ true). both_true c.run_all.new.stirrer.sufficed c.join_all-sufficed.result (sym c.both.ensures ∙ yes) in
    record {
      rested = a.rested;
      goes = so_on c.answer_of.result c.answer_of.ensures.ok (λ yes.
          let rests = crew_rested p.law r.meaning lines faults phase from to (λ w. w.seat) (λ w. w.desks.items) j ws looks c.requires.run whole a.later posts a.is c.look.ensures.legal a.below strays s0 c.run_all.new.stirrer.sufficed stir a.follow.0 met a.follow.1 h (sym c.join_all-sufficed.ensures.sufficed ∙ (so yes).1) in
          subst (λ x. CrewRests p.law r.meaning lines faults to (phase + 1) x c.join_all-sufficed.new.looks.items (λ w. w.seat) (λ w. w.desks.items) c.join_all-sufficed.new.workers.items) (sym a.first)
          (subst (λ x. CrewRests p.law r.meaning lines faults to (phase + 1) whole x (λ w. w.seat) (λ w. w.desks.items) c.join_all-sufficed.new.workers.items) (sym c.join_all-sufficed.ensures.looks)
          (subst (λ x. CrewRests p.law r.meaning lines faults to (phase + 1) whole (looks_after looks posts) (λ w. w.seat) (λ w. w.desks.items) x) (sym c.join_all-sufficed.ensures.workers) rests)));
      stands = subst (λ x. CrewStands p.law r.meaning x (λ w. w.seat) c.join_all-sufficed.new.workers.items) (sym a.first)
          (subst (λ x. CrewStands p.law r.meaning whole (λ w. w.seat) x) (sym c.join_all-sufficed.ensures.workers)
          (met_stand p.law r.meaning lines faults phase from to (λ w. w.seat) (λ w. w.desks.items) j ws looks c.requires.run whole a.later posts a.is c.look.ensures.legal a.below strays s0 c.run_all.new.stirrer.sufficed stir a.follow.0 met a.follow.1));
      size = ap length c.join_all-sufficed.ensures.workers ∙ workers_size p.law r.meaning lines faults phase from to (λ w. w.seat) (λ w. w.desks.items) j 1 ws posts met;
      goes_on = subst (WentOn lines faults phase n j) (sym a.first)
          (went p.law r.meaning lines faults phase from to (λ w. w.seat) (λ w. w.desks.items) j ws looks c.requires.run whole a.later posts a.is c.look.ensures.legal a.below strays s0 c.run_all.new.stirrer.sufficed stir a.follow.0 met a.follow.1);
      acts = so_on c.answer_of.result c.answer_of.ensures.ok (λ yes.
          subst (MakesFaults strays j) (sym a.first)
          (stirs p.law r.meaning lines faults phase from to (λ w. w.seat) (λ w. w.desks.items) j ws looks c.requires.run whole a.later posts a.is c.look.ensures.legal a.below strays s0 c.run_all.new.stirrer.sufficed stir a.follow.0 met a.follow.1 (so yes).0));
      armed = so_on c.answer_of.result c.answer_of.ensures.ok (λ yes.
          subst (AreArmed (λ n. stops_in n phase faults) (λ w. w.seat.node.replica) ws) (sym c.join_all-sufficed.ensures.workers)
          (all_armed p.law r.meaning lines faults phase from to (λ w. w.seat) (λ w. w.desks.items) j ws posts met (sym c.join_all-sufficed.ensures.sufficed ∙ (so yes).1)));
    }

pub new-access-requires-clause-pass : goal.new-access-requires-clause-pass
new-access-requires-clause-pass g c =
    let is = (cut g.B.Room.lock c.args.main.now c.split-spare.new.pass c.split-spare.result c.requires.rested c.split-spare.ensures.kept c.split-spare.ensures.moved).1 in
    one_part_is g.B.Room.lock (journal_of c.args.main.now) 0 c.args.main.now c.split-spare.result (ap (λ (x : Known Event). x.lock) c.requires.rested) (ap (λ (x : Known Event). x.turn) c.requires.rested) is

pub turns_of-turns-requires-clause-few : goal.turns_of-turns-requires-clause-few
turns_of-turns-requires-clause-few g c = c.requires.parts.few

pub turns_of-turns-requires-clause-some : goal.turns_of-turns-requires-clause-some
turns_of-turns-requires-clause-some g c = few_turns g.P.Rules.law.shelf c.args.faults.now.lines.now c.requires.parts

pub join-requires-clause-other_lock : goal.join-requires-clause-other_lock
join-requires-clause-other_lock g c = ap (λ (x : Known Event). x.lock) c.into_pass-pass.ensures ∙ sym c.requires.room

pub join-requires-clause-other_outside : goal.join-requires-clause-other_outside
join-requires-clause-other_outside g c = ap (λ (x : Known Event). x.turn) c.into_pass-pass.ensures
