use Rattle.std.proofs.Common.{◌≡◌, length, map, inr, refl, sym, ◌∙◌, subst, arith}
use Rattle.loglet_api.specs.declared.call.LogletAnswer.TheVariants.{Refusal, Carried}
use Rattle.striped_loglet.specs.declared.stripe.Outcome.{Outcome}
use Rattle.striped_loglet.specs.Plans.{heard_by}
use Rattle.striped_loglet.specs.Calls.{Hears, HearsOf}
use Rattle.striped_loglet.proofs.Lists.{map_set}
use Rattle.striped_loglet.proofs.Places.{view_at, length_view}
use Rattle.striped_loglet.proofs.Serving.{carried_at}
use Rattle.striped_loglet.proofs.striped.carry_inner.Goals as goal

pub returns-in-Err-clause-step : goal.returns-in-Err-clause-step
returns-in-Err-clause-step g c =
    let view = g.L.Loglet.view in
    let xs = c.args.stripes.now.items in
    record {
      before = view c.index_mut.result.now;
      after = view c.carry_on.new.stripe;
      is = view_at view xs c.args.inner.stripe c.index_mut.result.now c.requires.stripe c.index_mut.ensures.value;
      carried = c.in-Err.ensures.step;
      rest = map_set view xs c.args.inner.stripe c.carry_on.new.stripe;
      same = refl;
    }

pub returns-in-Going-clause-step : goal.returns-in-Going-clause-step
returns-in-Going-clause-step g c =
    let view = g.L.Loglet.view in
    let xs = c.args.stripes.now.items in
    record {
      before = view c.index_mut.result.now;
      after = view c.carry_on.new.stripe;
      outcome = c.in-Ok.outcome;
      is = view_at view xs c.args.inner.stripe c.index_mut.result.now c.requires.stripe c.index_mut.ensures.value;
      carried = c.in-Ok.ensures.step;
      rest = map_set view xs c.args.inner.stripe c.carry_on.new.stripe;
      hears = subst (λ (o : Outcome). HearsOf c.args.pending.now c.args.number c.args.course.now c.args.inner (length (map view xs)) o c.set.new.pending) (sym c.in-Going.is) c.set.ensures;
    }

pub returns-in-Answered-clause-step : goal.returns-in-Answered-clause-step
returns-in-Answered-clause-step g c =
    let view = g.L.Loglet.view in
    let xs = c.args.stripes.now.items in
    let e : c.len-count.result ≡ length xs = (let k = c.len-count.ensures in omega (arith, k)) in
    record {
      before = view c.index_mut.result.now;
      after = view c.carry_on.new.stripe;
      outcome = c.in-Ok.outcome;
      is = view_at view xs c.args.inner.stripe c.index_mut.result.now c.requires.stripe c.index_mut.ensures.value;
      carried = c.in-Ok.ensures.step;
      rest = map_set view xs c.args.inner.stripe c.carry_on.new.stripe;
      hears = subst (λ (o : Outcome). HearsOf c.args.pending.now c.args.number c.args.course.now c.args.inner (length (map view xs)) o c.hear.new.pending) (sym c.in-Answered.is)
          (subst (λ (k : _). Hears c.args.pending.now c.args.number c.args.course.now.plan (heard_by c.args.course.now.asked.task c.args.course.now.asked.size c.args.course.now.plan c.args.inner.stripe k c.in-Answered.answer) c.hear.new.pending) (e ∙ sym (length_view view xs)) c.hear.ensures);
    }

pub returns-in-Err-clause-serves : goal.returns-in-Err-clause-serves
returns-in-Err-clause-serves g c = carried_at g.L.Loglet.serving c.args.stripes.now.items c.args.inner.stripe c.args.inner.ticket c.args.word (Refusal c.in-Err.refused) c.index_mut.result.now c.carry_on.new.stripe c.requires.stripe c.index_mut.ensures.value (inr c.in-Err.ensures.serves)

pub returns-in-Going-clause-serves : goal.returns-in-Going-clause-serves
returns-in-Going-clause-serves g c = carried_at g.L.Loglet.serving c.args.stripes.now.items c.args.inner.stripe c.args.inner.ticket c.args.word Carried c.index_mut.result.now c.carry_on.new.stripe c.requires.stripe c.index_mut.ensures.value c.in-Ok.ensures.serves

pub returns-in-Answered-clause-serves : goal.returns-in-Answered-clause-serves
returns-in-Answered-clause-serves g c = carried_at g.L.Loglet.serving c.args.stripes.now.items c.args.inner.stripe c.args.inner.ticket c.args.word Carried c.index_mut.result.now c.carry_on.new.stripe c.requires.stripe c.index_mut.ensures.value c.in-Ok.ensures.serves
