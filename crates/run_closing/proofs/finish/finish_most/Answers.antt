use Rattle.std.proofs.Common.{refl, sym, ap, ◌∙◌, subst, not, true≢false, length}
use Rattle.node_workers.proofs.Ok.{in_ok}
use Rattle.node_course.proofs.Moments.{grows_not}
use Rattle.run_closing.specs.Finishing.{HasMost}
use Rattle.run_closing.proofs.Finishing.{is_most, last_plays, most_last, passes_last, passes_still, plays_last}
use Rattle.node_crew.proofs.Arming.{all_same}
use Rattle.run_closing.proofs.finish.finish_most.Goals as goal

pub returns-in-Ok-clause-most : goal.returns-in-Ok-clause-most
returns-in-Ok-clause-most g c =
    let a = c.args.crew in
    let node = c.args.ends.most.node in
    let q = c.finish_node-crew in
    let done = in_ok _ c.in-Ok.is q.ensures.finishes in (
      refl,
      subst (λ xs. HasMost (λ w. w.seat) xs (length xs) node c.in-Ok.reach.cursor) (sym done.is)
          (most_last (λ w. w.seat) a.workers.items node c.args.ends.most.cursor c.in-Ok.reach.cursor done.was done.now done.was_at done.at done.forward c.requires.most),
    )

pub returns-in-Ok-clause-sees : goal.returns-in-Ok-clause-sees
returns-in-Ok-clause-sees g c =
    let a = c.args.crew in
    let node = c.args.ends.most.node in
    let q = c.finish_node-crew in
    let new = q.result.crew in
    let done = in_ok _ c.in-Ok.is q.ensures.finishes in
    in_ok _ c.in-Ok.is q.ensures.sees
    (last_plays c.args.lines.now a.looks.items a.fabric.journal new.fabric.journal (λ w. w.seat) a.workers.items new.workers.items node c.in-Ok.reach done)
    (λ last. is_most (λ w. w.seat) a.workers.items node c.args.ends.most.cursor c.requires.most)

pub returns-in-Ok-clause-passes : goal.returns-in-Ok-clause-passes
returns-in-Ok-clause-passes g c =
    let a = c.args.crew in
    let q = c.finish_node-crew in
    let new = q.result.crew in
    passes_last c.args.lines.now a.looks.items (λ w. w.seat) a.workers.items new.workers.items c.args.ends.most.node a.fabric.journal new.fabric.journal c.in-Ok.reach (in_ok _ c.in-Ok.is q.ensures.finishes)

pub returns-then-not-ends-clause-passes : goal.returns-then-not-ends-clause-passes
returns-then-not-ends-clause-passes g c = passes_still c.args.lines.now c.args.crew.looks.items (λ w. w.seat) c.args.crew.workers.items c.args.ends.most.node

pub returns-then-not-ends-clause-grows : goal.returns-then-not-ends-clause-grows
returns-then-not-ends-clause-grows g c = grows_not c.args.crew.fabric.journal

pub returns-in-Ok-clause-still : goal.returns-in-Ok-clause-still
returns-in-Ok-clause-still g c = λ played. absurd (true≢false (ap not (sym played) ∙ c.if-not-ends.false))

pub returns-in-Ok-clause-plays : goal.returns-in-Ok-clause-plays
returns-in-Ok-clause-plays g c =
    let a = c.args.crew in
    let q = c.finish_node-crew in
    let new = q.result.crew in
    λ passed. plays_last c.args.lines.now a.looks.items (λ w. w.seat) a.workers.items new.workers.items c.args.ends.most.node a.fabric.journal new.fabric.journal c.in-Ok.reach (in_ok _ c.in-Ok.is q.ensures.finishes)

pub returns-then-not-ends-clause-plays : goal.returns-then-not-ends-clause-plays
returns-then-not-ends-clause-plays g c = λ passed. absurd (true≢false (sym c.if-not-ends.true ∙ ap not passed))

pub returns-then-not-ends-clause-armed : goal.returns-then-not-ends-clause-armed
returns-then-not-ends-clause-armed g c = all_same (λ w. w.seat.node.replica) c.args.crew.workers.items
