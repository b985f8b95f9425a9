use Rattle.std.proofs.Common.{◌≡◌, ◌<◌, ◌∙◌, [], length, sym, subst, arith}
use Rattle.std.proofs.lemmas.List.{length-map}
use Rattle.std.specs.Prelude.{All}
use Rattle.script_text.specs.Lines.{lines_of}
use Rattle.crew_run.specs.Running.{RunTold}
use Rattle.crew_run.proofs.Running.{if_ok}
use Rattle.script_runner.specs.Fresh.{shown}
use Rattle.script_runner.specs.Playing.{CanPlay}
use Rattle.script_runner.proofs.Outside.{composes-told}
use Rattle.script_runner.proofs.ScriptLines.{can_play}
use Rattle.script_runner.proofs.compose.compose_run.Goals as goal

pub play-yard-requires-clause-script : goal.play-yard-requires-clause-script
play-yard-requires-clause-script g c κs within =
    let s = c.requires.lines.1 in
    subst (λ ls. CanPlay (length c.args.yard.nodes.items) ls) (sym s.are)
    (subst (λ n. CanPlay n (lines_of s.script)) (sym c.requires.fresh.nodes) (can_play c.args.plan.now.nodes s.bytes s.script c.requires.plan.nodes.0 s.spelled))

pub compose_told-answer-requires : goal.compose_told-answer-requires
compose_told-answer-requires g c =
    let back = c.play-yard.result.yard in
    let size = length-map back.shelf.items g.L.Loglet.view in
    if_ok (RunTold c.args.lines.now [] (shown g.L.Loglet.view g.R.Register.view (λ k. (g.D.Disk.view k.disk).faults) back.shelf.items back.register back.nodes.items))
    (λ t. All (λ s. s.id < length c.args.plan.now.shelf) t.chain.segments)
    (λ t h k d low. let id = h.shelved k d low in omega (arith, id, size, c.play-yard.ensures.shelf, length-map c.args.yard.shelf.items g.L.Loglet.view, c.requires.fresh.as_many))
    c.play-yard.result.told c.play-yard.ensures.told

pub returns-clause-ok : goal.returns-clause-ok
returns-clause-ok g c = λ script are.
    let back = c.play-yard.result.yard in
    composes-told c.args.plan.now script c.args.lines.now (shown g.L.Loglet.view g.R.Register.view (λ k. (g.D.Disk.view k.disk).faults) back.shelf.items back.register back.nodes.items)
    c.compose_told-answer.result c.play-yard.result.told are
    (length-map back.shelf.items g.L.Loglet.view ∙ (c.play-yard.ensures.shelf ∙ (sym (length-map c.args.yard.shelf.items g.L.Loglet.view) ∙ c.requires.fresh.as_many)))
    c.compose_told-answer.ensures.ok c.compose_told-answer.ensures.told c.play-yard.ensures.told
