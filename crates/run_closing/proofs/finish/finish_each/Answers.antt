use Rattle.std.proofs.Common.{◌≡◌, sym, ◌∙◌, subst, ◌+◌, ◌<◌, ◌≤◌, ⊎_elim, false, refl, true≢false, length, arith}
use Rattle.std.specs.Prelude.{slice_set}
use Rattle.std.proofs.lemmas.Bool.{cases_lt}
use Rattle.std.proofs.lemmas.Option.{slice_get_within}
use Rattle.turn_scopes.specs.Floors.{FloorIs}
use Rattle.node_workers.proofs.Ok.{in_ok, on_ok}
use Rattle.node_lines.proofs.Widening.{grows-both}
use Rattle.node_course.proofs.Moments.{grows_not}
use Rattle.run_closing.specs.Finishing.{HasFinished, HasMost}
use Rattle.run_closing.proofs.Seeing.{sees_most, some_next}
use Rattle.run_closing.proofs.Finishing.{rests_stand, some_node, most_first, most_next, most_stays, none_passed, passes_next, waits_next, left_next, some_stays, plays_next}
use Rattle.node_crew.proofs.Arming.{all_same, none_then}
use Rattle.run_closing.proofs.finish.finish_each.Goals as goal

pub loop-k-init : goal.loop-k-init
loop-k-init g c =
    let p = g.K.Terms in
    let r = g.S.Replica in
    let a = c.args.crew in
    record {
      high = omega arith;
      size = refl;
      looks = refl;
      rests = c.requires.rests;
      grows = grows_not a.fabric.journal;
      quiet = refl;
      armed = all_same (λ w. w.seat.node.replica) a.workers.items;
      waits = λ j high. refl;
      passes = none_passed c.args.lines.now a.looks.items (λ w. w.seat) a.workers.items;
      plays = λ j w low at stays. absurd (omega (arith, low));
      left = λ passed j w low at. absurd (omega (arith, low));
      some = λ e. absurd (true≢false e);
      most = most_first (λ w. w.seat) a.workers.items
          (some_node p.law r.meaning c.args.lines.now c.args.faults.now (λ w. w.seat) (λ w. w.desks.items) a.workers.items (length c.args.lines.now) c.requires.rests.0 a.fabric.journal a.looks.items c.requires.rests.1);
      sees = λ e. absurd (true≢false e);
    }

pub finish_node-now-requires-clause-floor : goal.finish_node-now-requires-clause-floor
finish_node-now-requires-clause-floor g c = subst (FloorIs g.K.Terms.law.floor) (sym c.loop-k.invariant.size) c.requires.floor

pub loop-k-preserved : goal.loop-k-preserved
loop-k-preserved g c =
    let l = c.loop-k in
    let q = c.finish_node-now in
    let m = l.most in
    let done = in_ok _ c.in-Ok.is q.ensures.finishes in
    let lines = c.args.lines.now in
    let looks = c.args.crew.looks.items in
    let first = c.args.crew.workers.items in
    let f = subst (λ i. HasFinished lines i false l.crew.fabric.journal q.result.crew.fabric.journal (λ w. w.seat) l.crew.workers.items q.result.crew.workers.items l.k c.in-Ok.reach) l.invariant.looks done in
    let wait = l.invariant.waits l.k (omega arith) in
    let rests = on_ok _ c.in-Ok.is q.ensures.rests in
    let most : HasMost (λ w. w.seat) q.result.crew.workers.items (l.k + 1) c.most_of-most.result.node c.most_of-most.result.cursor = subst (λ xs. HasMost (λ w. w.seat) xs (l.k + 1) c.most_of-most.result.node c.most_of-most.result.cursor) (sym done.is)
    (⊎_elim
    (λ (more : m.cursor < c.in-Ok.reach.cursor).
    let new = c.most_of-most.ensures.more more in
    subst (λ n. HasMost (λ w. w.seat) (slice_set l.crew.workers.items l.k done.now) (l.k + 1) n c.most_of-most.result.cursor) (sym new.0)
    (subst (λ n. HasMost (λ w. w.seat) (slice_set l.crew.workers.items l.k done.now) (l.k + 1) l.k n) (sym new.1)
    (most_next (λ w. w.seat) l.crew.workers.items l.k m.node m.cursor c.in-Ok.reach.cursor done.was done.now done.was_at done.at l.invariant.most more)))
    (λ (few : c.in-Ok.reach.cursor ≤ m.cursor).
    let same = c.most_of-most.ensures.same few in
    subst (λ x. HasMost (λ w. w.seat) (slice_set l.crew.workers.items l.k done.now) (l.k + 1) x.node x.cursor) (sym same)
    (most_stays (λ w. w.seat) l.crew.workers.items l.k m.node m.cursor c.in-Ok.reach.cursor done.was done.now done.was_at done.at l.invariant.most few))
    (cases_lt m.cursor c.in-Ok.reach.cursor)) in
    record {
      high = omega (arith, c.loop-k-test.true);
      size = q.ensures.size ∙ l.invariant.size;
      rests = rests;
      grows = grows-both c.args.crew.fabric.journal l.crew.fabric.journal q.result.crew.fabric.journal l.invariant.grows q.ensures.grows;
      quiet = q.ensures.quiet ∙ l.invariant.quiet;
      looks = q.ensures.looks ∙ l.invariant.looks;
      armed = none_then (λ w. w.seat.node.replica) first l.crew.workers.items q.result.crew.workers.items l.invariant.armed (on_ok _ c.in-Ok.is q.ensures.armed);
      waits = waits_next lines looks (λ w. w.seat) first l.crew.workers.items q.result.crew.workers.items l.k l.crew.fabric.journal q.result.crew.fabric.journal c.in-Ok.reach f l.invariant.waits;
      passes = passes_next lines looks (λ w. w.seat) first l.crew.workers.items q.result.crew.workers.items l.k l.crew.fabric.journal q.result.crew.fabric.journal c.in-Ok.reach f l.invariant.passes;
      plays = plays_next lines looks (λ w. w.seat) first l.crew.workers.items q.result.crew.workers.items l.k l.crew.fabric.journal q.result.crew.fabric.journal c.in-Ok.reach f c.args.crew.fabric.journal l.invariant.grows q.ensures.grows wait l.invariant.plays;
      left = λ e. let are = c.both-passed.ensures.all e in
          left_next lines looks (λ w. w.seat) first l.crew.workers.items q.result.crew.workers.items l.k l.crew.fabric.journal q.result.crew.fabric.journal c.in-Ok.reach f wait are.1 (l.invariant.left are.0);
      some = λ e. ⊎_elim
          (λ (before : l.passed ≡ false). l.invariant.some before)
          (λ (now : c.in-Ok.reach.passed ≡ false). some_stays lines looks (λ w. w.seat) first l.crew.workers.items q.result.crew.workers.items l.k l.crew.fabric.journal q.result.crew.fabric.journal c.in-Ok.reach f wait now)
          (c.both-passed.ensures.one e);
      most = most;
      sees = λ e. some_next c.args.lines.now l.crew.looks.items l.crew.fabric.journal q.result.crew.fabric.journal (λ w. w.seat) l.crew.workers.items q.result.crew.workers.items l.k c.in-Ok.reach done
          (λ played. in_ok _ c.in-Ok.is q.ensures.sees played (λ last. absurd (true≢false (sym last))))
          (λ passed. ⊎_elim (λ (before : l.passed ≡ false). l.invariant.sees before) (λ (now : c.in-Ok.reach.passed ≡ false). absurd (true≢false (sym passed ∙ now))) (c.both-passed.ensures.one e));
    }

pub returns-clause-most : goal.returns-clause-most
returns-clause-most g c =
    let l = c.loop-k in
    let over : l.k ≡ length l.crew.workers.items = omega (arith, l.invariant.high, l.invariant.size, c.loop-k-test.false) in
    subst (λ k. HasMost (λ w. w.seat) l.crew.workers.items k l.most.node l.most.cursor) over l.invariant.most

pub returns-clause-sees : goal.returns-clause-sees
returns-clause-sees g c =
    let l = c.loop-k in
    let over : l.k ≡ length l.crew.workers.items = omega (arith, l.invariant.high, l.invariant.size, c.loop-k-test.false) in
    λ e. sees_most l.crew.fabric.journal (λ w. w.seat) l.crew.workers.items l.most.node l.most.cursor (subst (λ k. HasMost (λ w. w.seat) l.crew.workers.items k l.most.node l.most.cursor) over l.invariant.most) (l.invariant.sees e)

pub returns-clause-plays : goal.returns-clause-plays
returns-clause-plays g c =
    let l = c.loop-k in
    λ j w at. let inside = slice_get_within c.args.crew.workers.items j w at in l.invariant.plays j w (omega (arith, inside, l.invariant.high, c.loop-k-test.false, l.invariant.size)) at

pub returns-clause-all : goal.returns-clause-all
returns-clause-all g c =
    let l = c.loop-k in
    λ e j w at. let inside = slice_get_within c.args.crew.workers.items j w at in l.invariant.left e j w (omega (arith, inside, l.invariant.high, c.loop-k-test.false, l.invariant.size)) at

pub returns-clause-stands : goal.returns-clause-stands
returns-clause-stands g c =
    let p = g.K.Terms in
    let r = g.S.Replica in
    let l = c.loop-k in
    rests_stand p.law r.meaning c.args.lines.now c.args.faults.now (λ w. w.seat) (λ w. w.desks.items) l.crew.workers.items (length c.args.lines.now) l.invariant.rests.0 l.crew.fabric.journal l.crew.looks.items l.invariant.rests.1

pub returns-in-Err-clause-grows : goal.returns-in-Err-clause-grows
returns-in-Err-clause-grows g c =
    let l = c.loop-k in
    let q = c.finish_node-now in
    grows-both c.args.crew.fabric.journal l.crew.fabric.journal q.result.crew.fabric.journal l.invariant.grows q.ensures.grows

pub returns-in-Err-clause-quiet : goal.returns-in-Err-clause-quiet
returns-in-Err-clause-quiet g c = c.finish_node-now.ensures.quiet ∙ c.loop-k.invariant.quiet
