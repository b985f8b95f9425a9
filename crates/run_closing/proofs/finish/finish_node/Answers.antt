use Rattle.std.proofs.Common.{◌≡◌, refl, sym, ap, ◌∙◌, subst, ◌+◌, ◌≤◌, true≢false, length, arith}
use Rattle.std.specs.Prelude.{if◌then◌else◌, is_ok, insert}
use Rattle.std.proofs.lemmas.Option.{slice_get_read}
use Rattle.node_crew.specs.Crews.{CrewRests, CrewStands}
use Rattle.node_crew.proofs.Crews.{put_back, still_stands}
use Rattle.turn_scopes.specs.Seats.{node_of}
use Rattle.turn_scopes.specs.Alone.{IsAlone}
use Rattle.turn_scopes.proofs.Alone.{own_since}
use Rattle.node_lines.proofs.Widening.{grows-since}
use Rattle.run_closing.specs.Ending.{Finishes}
use Rattle.run_closing.specs.Finishing.{AreCalls, SeesAll}
use Rattle.node_crew.proofs.Ok.{on_ok, on_ok3}
use Rattle.node_crew.proofs.Playing.{left_still}
use Rattle.run_closing.proofs.Ok.{if_ok3, if_ok5}
use Rattle.run_closing.proofs.Finishing.{rests_stand, few_nodes, looks_size, own_ok, crew_finished, rested, rested_adds, rested_since}
use Rattle.run_closing.proofs.Mending.{quiet_since}
use Rattle.run_closing.proofs.Seeing.{finish_sees}
use Rattle.node_crew.specs.Arming.{NoneArmed}
use Rattle.node_crew.proofs.Arming.{one_moved}
use Rattle.run_closing.proofs.finish.finish_node.Goals as goal

nobody : IsAlone (λ _. ⊥)
nobody = record { nobody = λ user k. k }

pub calls_of-calls-requires : goal.calls_of-calls-requires
calls_of-calls-requires g c =
    let p = g.K.Terms in
    let r = g.S.Replica in
    let a = c.args in
    record {
      size = ap length c.deref.ensures.value
          ∙ looks_size p.law r.meaning a.lines.now a._faults.now (λ w. w.seat) (λ w. w.desks.items) a.crew.workers.items (length a.lines.now) c.requires.rests.0 a.crew.fabric.journal a.crew.looks.items c.requires.rests.1;
    }

pub overflow_cast-k : goal.overflow_cast-k
overflow_cast-k g c =
    let p = g.K.Terms in
    let r = g.S.Replica in
    let a = c.args in
    let few = few_nodes p.law r.meaning a.lines.now a._faults.now (λ w. w.seat) (λ w. w.desks.items) a.crew.workers.items (length a.lines.now) c.requires.rests.0 a.crew.fabric.journal a.crew.looks.items c.requires.rests.1 in
    grind (arith, few, c.requires.there)

pub overflow_add-k : goal.overflow_add-k
overflow_add-k g c =
    let p = g.K.Terms in
    let r = g.S.Replica in
    let a = c.args in
    let few = few_nodes p.law r.meaning a.lines.now a._faults.now (λ w. w.seat) (λ w. w.desks.items) a.crew.workers.items (length a.lines.now) c.requires.rests.0 a.crew.fabric.journal a.crew.looks.items c.requires.rests.1 in
    grind (arith, few, c.requires.there)

pub unreachable-requires : goal.unreachable-requires
unreachable-requires g c =
    let p = g.K.Terms in
    let r = g.S.Replica in
    let a = c.args in
    let few = few_nodes p.law r.meaning a.lines.now a._faults.now (λ w. w.seat) (λ w. w.desks.items) a.crew.workers.items (length a.lines.now) c.requires.rests.0 a.crew.fabric.journal a.crew.looks.items c.requires.rests.1 in
    let low : 1 ≤ a.k + 1 = omega arith in
    let high : a.k + 1 ≤ 8 = omega (arith, few, c.requires.there) in
    true≢false (sym (c.in_default.ensures.valid.1 (low, high)))

pub finish_worker-worker-requires-clause-worker : goal.finish_worker-worker-requires-clause-worker
finish_worker-worker-requires-clause-worker g c =
    let p = g.K.Terms in
    let r = g.S.Replica in
    let a = c.args in
    let w = c.remove-worker.result in
    let at = slice_get_read a.crew.workers.items (length a.crew.workers.items) a.k w refl c.requires.there c.remove-worker.ensures.value in
    own_ok p.law r.meaning a.lines.now a._faults.now (λ w. w.seat) (λ w. w.desks.items) a.crew.workers.items (length a.lines.now) c.requires.rests.0 a.crew.fabric.journal a.crew.looks.items c.requires.rests.1 a.k w at

pub returns-clause-rests : goal.returns-clause-rests
returns-clause-rests g c =
    let p = g.K.Terms in
    let r = g.S.Replica in
    let a = c.args in
    let q = c.finish_worker-worker in
    let w = c.remove-worker.result in
    let w' = q.result.part in
    let old = a.crew.fabric.journal in
    let new = q.result.access.fabric.journal in
    let looks = a.crew.looks.items in
    let at = slice_get_read a.crew.workers.items (length a.crew.workers.items) a.k w refl c.requires.there c.remove-worker.ensures.value in
    let items = (subst (λ x. c.insert.new.self.items ≡ (if is_ok x then insert c.remove-worker.new.self.items a.k w' else c.remove-worker.new.self.items)) c.in-Ok.is c.insert.ensures.items)
    ∙ (ap (λ l. insert l a.k w') c.remove-worker.ensures.items ∙ put_back a.crew.workers.items a.k w' c.requires.there) in
    let since = own_since w.seat.who (λ _. ⊥) old new nobody q.ensures.left.since in
    let still = left_still q.ensures.left in
    let kept = ap (λ d. d.items) q.ensures.desks in
    on_ok3 q.result.answer q.ensures.moves q.ensures.outbox q.ensures.worker (λ moves same now. (
      c.requires.rests.0,
      subst (λ l. CrewRests p.law r.meaning a.lines.now a._faults.now (length a.lines.now) c.requires.rests.0 new looks (λ w. w.seat) (λ w. w.desks.items) l) (sym items)
          (crew_finished p.law r.meaning a.lines.now a._faults.now (λ w. w.seat) (λ w. w.desks.items) a.crew.workers.items (length a.lines.now) c.requires.rests.0 old looks c.requires.rests.1 c.requires.run a.k new w w' at since still q.ensures.adds moves same now kept refl),
    ))

pub returns-clause-finishes : goal.returns-clause-finishes
returns-clause-finishes g c =
    let p = g.K.Terms in
    let r = g.S.Replica in
    let a = c.args in
    let q = c.finish_worker-worker in
    let w = c.remove-worker.result in
    let w' = q.result.part in
    let old = a.crew.fabric.journal in
    let new = q.result.access.fabric.journal in
    let looks = a.crew.looks.items in
    let at = slice_get_read a.crew.workers.items (length a.crew.workers.items) a.k w refl c.requires.there c.remove-worker.ensures.value in
    let items = (subst (λ x. c.insert.new.self.items ≡ (if is_ok x then insert c.remove-worker.new.self.items a.k w' else c.remove-worker.new.self.items)) c.in-Ok.is c.insert.ensures.items)
    ∙ (ap (λ l. insert l a.k w') c.remove-worker.ensures.items ∙ put_back a.crew.workers.items a.k w' c.requires.there) in
    let calls = c.calls_of-calls.result in
    let number = c.in-Some.ensures.value in
    let calls_are : AreCalls a.lines.now looks (a.k + 1) a.last calls = subst (λ n. AreCalls a.lines.now looks n a.last calls) number (subst (λ l. AreCalls a.lines.now l c.in-Some.number a.last calls) c.deref.ensures.value c.calls_of-calls.ensures.calls) in
    if_ok3 q.result.answer q.ensures.moves q.ensures.plays q.ensures.cursor (λ moves reach plays is.
    record {
      was = w;
      was_at = at;
      now = w';
      is = items;
      at = sym is;
      forward = let up = moves.goes.keeps.forward in omega (arith, up, is);
      calls = calls;
      calls_are = calls_are;
      does = subst (λ n. Finishes calls n reach.passed (node_of w.seat old) (node_of w'.seat new)) number plays;
    })

pub returns-clause-sees : goal.returns-clause-sees
returns-clause-sees g c =
    let p = g.K.Terms in
    let r = g.S.Replica in
    let a = c.args in
    let q = c.finish_worker-worker in
    let w = c.remove-worker.result in
    let w' = q.result.part in
    let old = a.crew.fabric.journal in
    let new = q.result.access.fabric.journal in
    let looks = a.crew.looks.items in
    let at = slice_get_read a.crew.workers.items (length a.crew.workers.items) a.k w refl c.requires.there c.remove-worker.ensures.value in
    let items = (subst (λ x. c.insert.new.self.items ≡ (if is_ok x then insert c.remove-worker.new.self.items a.k w' else c.remove-worker.new.self.items)) c.in-Ok.is c.insert.ensures.items)
    ∙ (ap (λ l. insert l a.k w') c.remove-worker.ensures.items ∙ put_back a.crew.workers.items a.k w' c.requires.there) in
    let since = own_since w.seat.who (λ _. ⊥) old new nobody q.ensures.left.since in
    let still = left_still q.ensures.left in
    let kept = ap (λ d. d.items) q.ensures.desks in
    let calls = c.calls_of-calls.result in
    let number = c.in-Some.ensures.value in
    let calls_are : AreCalls a.lines.now looks (a.k + 1) a.last calls = subst (λ n. AreCalls a.lines.now looks n a.last calls) number (subst (λ l. AreCalls a.lines.now l c.in-Some.number a.last calls) c.deref.ensures.value c.calls_of-calls.ensures.calls) in
    if_ok5 q.result.answer q.ensures.moves q.ensures.outbox q.ensures.worker q.ensures.plays q.ensures.cursor (λ moves same now reach plays is. λ played most.
    let does = subst (λ b. Finishes calls (a.k + 1) b (node_of w.seat old) (node_of w'.seat new)) played (subst (λ n. Finishes calls n reach.passed (node_of w.seat old) (node_of w'.seat new)) number plays) in
    subst (λ end. SeesAll new (λ w. w.seat) c.insert.new.self.items end) (sym is)
    (subst (λ l. SeesAll new (λ w. w.seat) l w'.seat.node.replica.cursor) (sym items)
    (finish_sees (λ w. w.seat) a.crew.workers.items a.k w w' at p.law r.meaning c.requires.run a.lines.now a._faults.now (λ w. w.desks.items) (length a.lines.now) c.requires.rests.0 old new looks c.requires.rests.1 refl c.requires.floor
    (rested_since p.law r.meaning a.lines.now a._faults.now (λ w. w.seat) (λ w. w.desks.items) a.crew.workers.items (length a.lines.now) c.requires.rests.0 old looks c.requires.rests.1 c.requires.run a.k new w w' at since still q.ensures.adds moves same now kept) since
    (rested_adds p.law r.meaning a.lines.now a._faults.now (λ w. w.seat) (λ w. w.desks.items) a.crew.workers.items (length a.lines.now) c.requires.rests.0 old looks c.requires.rests.1 c.requires.run a.k new w w' at since still q.ensures.adds moves same now kept)
    (rested p.law r.meaning a.lines.now a._faults.now (λ w. w.seat) (λ w. w.desks.items) a.crew.workers.items (length a.lines.now) c.requires.rests.0 old looks c.requires.rests.1 c.requires.run a.k new w w' at since still q.ensures.adds moves same now kept)
    (crew_finished p.law r.meaning a.lines.now a._faults.now (λ w. w.seat) (λ w. w.desks.items) a.crew.workers.items (length a.lines.now) c.requires.rests.0 old looks c.requires.rests.1 c.requires.run a.k new w w' at since still q.ensures.adds moves same now kept refl)
    moves.goes.keeps.forward moves.goes.keeps.counts a.last calls calls_are does most)))

pub returns-clause-stands : goal.returns-clause-stands
returns-clause-stands g c =
    let p = g.K.Terms in
    let r = g.S.Replica in
    let a = c.args in
    let q = c.finish_worker-worker in
    let w = c.remove-worker.result in
    let at = slice_get_read a.crew.workers.items (length a.crew.workers.items) a.k w refl c.requires.there c.remove-worker.ensures.value in
    let items = (subst (λ x. c.insert.new.self.items ≡ (if is_ok x then insert c.remove-worker.new.self.items a.k q.result.part else c.remove-worker.new.self.items)) c.in-Ok.is c.insert.ensures.items)
    ∙ (ap (λ l. insert l a.k q.result.part) c.remove-worker.ensures.items ∙ put_back a.crew.workers.items a.k q.result.part c.requires.there) in
    let before = rests_stand p.law r.meaning a.lines.now a._faults.now (λ w. w.seat) (λ w. w.desks.items) a.crew.workers.items (length a.lines.now) c.requires.rests.0 a.crew.fabric.journal a.crew.looks.items c.requires.rests.1 in
    subst (λ l. CrewStands p.law r.meaning q.result.access.fabric.journal (λ w. w.seat) l) (sym items)
    (still_stands p.law r.meaning a.lines.now (λ w. w.seat) (λ w. w.desks.items) a.crew.workers.items a.k a.crew.fabric.journal q.result.access.fabric.journal w q.result.part at (grows-since w.seat.who (λ _. ⊥) a.crew.fabric.journal q.result.access.fabric.journal q.ensures.left.since) before q.ensures.left.stands)

pub returns-clause-grows : goal.returns-clause-grows
returns-clause-grows g c = grows-since c.remove-worker.result.seat.who (λ _. ⊥) c.args.crew.fabric.journal c.finish_worker-worker.result.access.fabric.journal c.finish_worker-worker.ensures.left.since

pub returns-clause-quiet : goal.returns-clause-quiet
returns-clause-quiet g c =
    let q = c.finish_worker-worker in
    quiet_since c.remove-worker.result.seat.who (λ _. ⊥) c.args.crew.fabric.journal q.result.access.fabric.journal nobody q.ensures.left.since

pub returns-clause-armed : goal.returns-clause-armed
returns-clause-armed g c =
    let a = c.args in
    let q = c.finish_worker-worker in
    let w = c.remove-worker.result in
    let w' = q.result.part in
    let at = slice_get_read a.crew.workers.items (length a.crew.workers.items) a.k w refl c.requires.there c.remove-worker.ensures.value in
    let items = (subst (λ x. c.insert.new.self.items ≡ (if is_ok x then insert c.remove-worker.new.self.items a.k w' else c.remove-worker.new.self.items)) c.in-Ok.is c.insert.ensures.items)
    ∙ (ap (λ l. insert l a.k w') c.remove-worker.ensures.items ∙ put_back a.crew.workers.items a.k w' c.requires.there) in
    on_ok q.result.answer q.ensures.moves (λ moves.
    subst (λ l. NoneArmed (λ w. w.seat.node.replica) a.crew.workers.items l) (sym items)
    (one_moved (λ w. w.seat.node.replica) a.crew.workers.items a.k w w' at moves.goes.arming))
