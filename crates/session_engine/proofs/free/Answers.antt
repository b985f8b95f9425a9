use Rattle.std.proofs.Common.{◌+◌, ◌++◌, ◌∷◌, [], sym, ◌∙◌, arith}
use Rattle.engine_steps.specs.Words.{ranked_item}
use Rattle.session_engine.proofs.FreesSoFar.{freed_more, freed_all, none_past}
use Rattle.session_engine.proofs.free.Goals as goal

pub loop-last-preserved : goal.loop-last-preserved
loop-last-preserved g c =
    let step = freed_more c.loop-last.invariant.0.1 c.in-Some.payload (sym c.in_ok-held.ensures ∙ c.in-Some.is) in
    ((c.loop-last.invariant.0.0 ++ ranked_item c.args.session (c.loop-last.last + 1) c.in-Some.payload ∷ [], rw (c.in_ok-del-in-Some.ensures.0, c.held_key-key.ensures, c.in_ok-push-in-Some.ensures.ok, c.in_ok-item-in-Some.ensures) step), c.in_ok-del-in-Some.ensures.1.1 ∙ c.loop-last.invariant.1)

pub returns-after-loop-last-clause-step : goal.returns-after-loop-last-clause-step
returns-after-loop-last-clause-step g c = freed_all c.loop-last.invariant.0.1 (none_past _ _ _ (omega arith))

pub returns-in-None-clause-step : goal.returns-in-None-clause-step
returns-in-None-clause-step g c = freed_all c.loop-last.invariant.0.1 (sym c.in_ok-held.ensures ∙ c.in-None.is)
