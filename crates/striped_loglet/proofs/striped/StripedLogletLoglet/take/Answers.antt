use Rattle.std.proofs.Common.{refl}
use Rattle.striped_loglet.proofs.Wholes.{taken_whole, taken_small, size_small, lacks_small}
use Rattle.striped_loglet.proofs.Bridge.{step_whole, step_alike, same_state, same_striped, shows, waits_whole}
use Rattle.striped_loglet.specs.State.{loglet_of, state_of}
use Rattle.striped_loglet.specs.declared.marks.Marks.{Marks}
use Rattle.striped_loglet.proofs.Works.{taken_works, taken_rest, waited_works}
use Rattle.striped_loglet.proofs.Handing.{same_from}
use Rattle.striped_loglet.proofs.striped.StripedLogletLoglet.take.Goals as goal
use Rattle.std.proofs.Common.{ap}

pub invariant_of-self : goal.invariant_of-self
invariant_of-self g c =
    let i = c.self.inside in
    (same_striped g.L.Loglet.view i.shape i.stripes.items i.marks i.pending c.take_decided.new.pending c.in_err-task.ensures.none c.self.invariant.0, c.self.invariant.1)

pub returns-in_err-task-clause-step : goal.returns-in_err-task-clause-step
returns-in_err-task-clause-step g c =
    let i = c.self.inside in
    let view = g.L.Loglet.view in
    rw c.from_residual.ensures
    (step_alike view (state_of view i.shape i.stripes.items i.marks i.pending) (state_of view i.shape i.stripes.items i.marks c.take_decided.new.pending) _ _ _ (shows view g.L.Loglet.serving i.shape i.stripes.items i.marks i.pending _ c.self.view_is)
    (ap loglet_of (same_state view i.shape i.stripes.items i.marks i.pending c.take_decided.new.pending c.in_err-task.ensures.none)) c.self.invariant.0 c.requires
    (waits_whole view g.L.Loglet.serving i.shape i.stripes.items i.marks i.pending _ c.args.ticket c.self.view_is c.self.invariant.0 c.requires (rw c.number.ensures at c.in_err-task.ensures.waits), refl))

pub wanted-requires : goal.wanted-requires
wanted-requires g c = let i = c.self.inside in size_small g.L.Loglet.view i.shape i.stripes.items i.marks i.pending c.take_decided.new.pending _ c.in_ok-task.field-0 c.self.invariant.0 c.in_ok-task.ensures.taken

pub told-self-inside-requires-clause-reach : goal.told-self-inside-requires-clause-reach
told-self-inside-requires-clause-reach g c = let i = c.self.inside in rw (c.told-answer.ensures, c.wanted.ensures) (taken_small g.L.Loglet.view i.shape i.stripes.items i.marks i.pending c.take_decided.new.pending _ c.in_ok-task.field-0 c.self.invariant.0 c.in_ok-task.ensures.taken).0

pub told-self-inside-requires-clause-firm : goal.told-self-inside-requires-clause-firm
told-self-inside-requires-clause-firm g c = let i = c.self.inside in rw (c.told-answer.ensures, c.wanted.ensures) (taken_small g.L.Loglet.view i.shape i.stripes.items i.marks i.pending c.take_decided.new.pending _ c.in_ok-task.field-0 c.self.invariant.0 c.in_ok-task.ensures.taken).1

pub told-self-inside-requires-clause-lacks : goal.told-self-inside-requires-clause-lacks
told-self-inside-requires-clause-lacks g c = let i = c.self.inside in lacks_small g.L.Loglet.view i.shape i.stripes.items i.marks i.pending c.self.invariant.0

pub invariant_of-self-2 : goal.invariant_of-self-2
invariant_of-self-2 g c =
    let i = c.self.inside in (
      (taken_whole g.L.Loglet.view i.shape i.stripes.items i.marks c.told-self-inside.result i.pending c.take_decided.new.pending c.args.ticket c.in_ok-task.field-0 c.told-answer.result c.wanted.result c.self.invariant.0
          (rw c.number.ensures at c.in_ok-task.ensures.taken) c.told-answer.ensures c.wanted.ensures c.told-self-inside.ensures).0,
      c.self.invariant.1,
    )

pub returns-clause-step : goal.returns-clause-step
returns-clause-step g c =
    let i = c.self.inside in
    step_whole g.L.Loglet.view g.L.Loglet.serving i.shape i.stripes.items i.stripes.items i.marks c.told-self-inside.result i.pending c.take_decided.new.pending _ _ _ c.self.view_is c.self.invariant.0 (invariant_of-self-2 g c).0 c.requires
    (taken_whole g.L.Loglet.view i.shape i.stripes.items i.marks c.told-self-inside.result i.pending c.take_decided.new.pending c.args.ticket c.in_ok-task.field-0 c.told-answer.result c.wanted.result c.self.invariant.0
    (rw c.number.ensures at c.in_ok-task.ensures.taken) c.told-answer.ensures c.wanted.ensures c.told-self-inside.ensures).1

pub returns-in_err-task-clause-serves : goal.returns-in_err-task-clause-serves
returns-in_err-task-clause-serves g c =
    let i = c.self.inside in
    same_from g.L.Loglet.view g.L.Loglet.serving i.shape i.stripes.items i.marks i.pending i.given _ _ c.self.view_is refl

pub returns-clause-serves : goal.returns-clause-serves
returns-clause-serves g c =
    let i = c.self.inside in
    same_from g.L.Loglet.view g.L.Loglet.serving i.shape i.stripes.items i.marks i.pending i.given _ _ c.self.view_is refl

pub returns-in_err-task-clause-work : goal.returns-in_err-task-clause-work
returns-in_err-task-clause-work g c =
    let i = c.self.inside in
    rw c.from_residual.ensures (waited_works g.L.Loglet.view g.L.Loglet.serving i.shape i.stripes.items i.marks i.pending c.take_decided.new.pending i.given _ c.self.view_is c.in_err-task.ensures.none)

pub returns-clause-work : goal.returns-clause-work
returns-clause-work g c =
    let i = c.self.inside in
    taken_works g.L.Loglet.view g.L.Loglet.serving i.shape i.stripes.items i.marks c.told-self-inside.result i.pending c.take_decided.new.pending i.given _ c.args.ticket c.in_ok-task.field-0 c.told-answer.result c.self.view_is c.self.invariant.0 (invariant_of-self-2 g c).0
    (rw c.number.ensures at c.in_ok-task.ensures.taken) c.told-answer.ensures

pub returns-in_err-task-clause-rest : goal.returns-in_err-task-clause-rest
returns-in_err-task-clause-rest g c =
    let i = c.self.inside in
    taken_rest g.L.Loglet.view g.L.Loglet.serving i.shape i.stripes.items i.marks i.marks i.pending c.take_decided.new.pending i.given _ c.self.view_is refl

pub returns-clause-rest : goal.returns-clause-rest
returns-clause-rest g c =
    let i = c.self.inside in
    taken_rest g.L.Loglet.view g.L.Loglet.serving i.shape i.stripes.items i.marks c.told-self-inside.result i.pending c.take_decided.new.pending i.given _ c.self.view_is (ap (λ (z : Marks). z.refusals) c.told-self-inside.ensures)
