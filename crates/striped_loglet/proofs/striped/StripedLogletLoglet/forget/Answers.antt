use Rattle.std.proofs.Common.{◌≡◌, ◌<◌, List, length, map, set, Option, Some, None, refl, ap, ◌∙◌, arith}
use Rattle.striped_loglet.specs.declared.stripe.Inner.{Inner}
use Rattle.loglet_api.specs.Servers.{ServersView}
use Rattle.striped_loglet.specs.Servings.{states_of}
use Rattle.striped_loglet.proofs.Places.{got_at, view_at}
use Rattle.striped_loglet.proofs.Bridge.{open_there, step_whole}
use Rattle.striped_loglet.proofs.Wholes.{inner_open, forgotten_none, forgotten_some}
use Rattle.striped_loglet.proofs.Serving.{kept_set, same_served}
use Rattle.striped_loglet.proofs.Works.{forgot_works, forgot_idle}
use Rattle.striped_loglet.proofs.Handing.{same_from}
use Rattle.striped_loglet.proofs.striped.StripedLogletLoglet.forget.Goals as goal

pub index-requires : goal.index-requires
index-requires g c =
    let i = c.self.inside in
    rw c.number-number.ensures (open_there g.L.Loglet.view g.L.Loglet.serving i.shape i.stripes.items i.marks i.pending _ c.args.ticket c.self.view_is c.self.invariant.0 c.requires)

pub index_mut-requires : goal.index_mut-requires
index_mut-requires g c =
    let i = c.self.inside in
    let l : c.in-Some.inner.stripe < length i.stripes.items = (inner_open g.L.Loglet.view i.shape i.stripes.items i.marks i.pending c.number-number.result c.index.result.now c.in-Some.inner c.self.invariant.0 c.index.ensures c.in-Some.is).0 in
    omega (arith, l)

pub forget_on-requires : goal.forget_on-requires
forget_on-requires g c =
    let i = c.self.inside in
    let at = inner_open g.L.Loglet.view i.shape i.stripes.items i.marks i.pending c.number-number.result c.index.result.now c.in-Some.inner c.self.invariant.0 c.index.ensures c.in-Some.is in
    at.1 (g.L.Loglet.view c.index_mut.result.now) (view_at g.L.Loglet.view i.stripes.items c.in-Some.inner.stripe c.index_mut.result.now at.0 c.index_mut.ensures.value)

pub invariant_of-self : goal.invariant_of-self
invariant_of-self g c =
    let i = c.self.inside in
    let at = inner_open g.L.Loglet.view i.shape i.stripes.items i.marks i.pending c.number-number.result c.index.result.now c.in-Some.inner c.self.invariant.0 c.index.ensures c.in-Some.is in (
      (forgotten_some g.L.Loglet.view i.shape i.stripes.items i.marks i.pending c.remove.new.self c.number-number.result c.index.result.now c.in-Some.inner c.index_mut.result.now c.forget_on.new.stripe c.self.invariant.0 c.index.ensures c.in-Some.is
          (got_at i.stripes.items c.in-Some.inner.stripe c.index_mut.result.now at.0 c.index_mut.ensures.value) c.forget_on.ensures.step c.remove.ensures.updates).0,
      ap (λ (vs : List ServersView). length (states_of vs)) (kept_set g.L.Loglet.serving i.stripes.items c.in-Some.inner.stripe c.index_mut.result.now c.forget_on.new.stripe at.0 c.index_mut.ensures.value c.forget_on.ensures.serves) ∙ c.self.invariant.1,
    )

pub returns-in-Some-clause-step : goal.returns-in-Some-clause-step
returns-in-Some-clause-step g c =
    let i = c.self.inside in
    let at = inner_open g.L.Loglet.view i.shape i.stripes.items i.marks i.pending c.number-number.result c.index.result.now c.in-Some.inner c.self.invariant.0 c.index.ensures c.in-Some.is in
    step_whole g.L.Loglet.view g.L.Loglet.serving i.shape i.stripes.items _ i.marks i.marks i.pending c.remove.new.self _ _ _ c.self.view_is c.self.invariant.0 (invariant_of-self g c).0 c.requires
    (rw c.number-number.ensures at
    (forgotten_some g.L.Loglet.view i.shape i.stripes.items i.marks i.pending c.remove.new.self c.number-number.result c.index.result.now c.in-Some.inner c.index_mut.result.now c.forget_on.new.stripe c.self.invariant.0 c.index.ensures c.in-Some.is
    (got_at i.stripes.items c.in-Some.inner.stripe c.index_mut.result.now at.0 c.index_mut.ensures.value) c.forget_on.ensures.step c.remove.ensures.updates).1)

pub invariant_of-self-2 : goal.invariant_of-self-2
invariant_of-self-2 g c =
    let i = c.self.inside in
    ((forgotten_none g.L.Loglet.view i.shape i.stripes.items i.marks i.pending c.remove-2.new.self c.number-number.result c.index.result.now c.self.invariant.0 c.index.ensures c.remove-2.ensures.updates).0, c.self.invariant.1)

pub returns-clause-step : goal.returns-clause-step
returns-clause-step g c =
    let i = c.self.inside in
    step_whole g.L.Loglet.view g.L.Loglet.serving i.shape i.stripes.items i.stripes.items i.marks i.marks i.pending c.remove-2.new.self _ _ _ c.self.view_is c.self.invariant.0 (invariant_of-self-2 g c).0 c.requires
    (rw c.number-number.ensures at
    (forgotten_none g.L.Loglet.view i.shape i.stripes.items i.marks i.pending c.remove-2.new.self c.number-number.result c.index.result.now c.self.invariant.0 c.index.ensures c.remove-2.ensures.updates).1)

pub returns-in-Some-clause-serves : goal.returns-in-Some-clause-serves
returns-in-Some-clause-serves g c =
    let i = c.self.inside in
    let at = inner_open g.L.Loglet.view i.shape i.stripes.items i.marks i.pending c.number-number.result c.index.result.now c.in-Some.inner c.self.invariant.0 c.index.ensures c.in-Some.is in
    same_from g.L.Loglet.view g.L.Loglet.serving i.shape i.stripes.items i.marks i.pending i.given _ _ c.self.view_is
    (same_served (map g.L.Loglet.serving i.stripes.items) (map g.L.Loglet.serving (set i.stripes.items c.in-Some.inner.stripe c.forget_on.new.stripe)) i.given (kept_set g.L.Loglet.serving i.stripes.items c.in-Some.inner.stripe c.index_mut.result.now c.forget_on.new.stripe at.0 c.index_mut.ensures.value c.forget_on.ensures.serves))

pub returns-clause-serves : goal.returns-clause-serves
returns-clause-serves g c =
    let i = c.self.inside in
    same_from g.L.Loglet.view g.L.Loglet.serving i.shape i.stripes.items i.marks i.pending i.given _ _ c.self.view_is refl

pub returns-in-Some-clause-work : goal.returns-in-Some-clause-work
returns-in-Some-clause-work g c =
    let i = c.self.inside in
    let at = inner_open g.L.Loglet.view i.shape i.stripes.items i.marks i.pending c.number-number.result c.index.result.now c.in-Some.inner c.self.invariant.0 c.index.ensures c.in-Some.is in
    rw c.number-number.ensures at
    (forgot_works g.L.Loglet.view g.L.Loglet.serving i.shape i.stripes.items i.marks i.pending c.remove.new.self i.given _ c.number-number.result c.index.result.now c.in-Some.inner c.index_mut.result.now c.forget_on.new.stripe c.self.view_is c.self.invariant.0 (invariant_of-self g c).0 c.index.ensures c.in-Some.is at.0 c.index_mut.ensures.value c.forget_on.ensures.step c.forget_on.ensures.serves c.remove.ensures.updates)

none_else : (x : Option Inner) → ((y : Inner) → x ≡ Some y → ⊥) → x ≡ None
none_else None h = refl
none_else (Some y) h = absurd (h y refl)

pub returns-clause-work : goal.returns-clause-work
returns-clause-work g c =
    let i = c.self.inside in
    rw c.number-number.ensures at
    (forgot_idle g.L.Loglet.view g.L.Loglet.serving i.shape i.stripes.items i.marks i.pending c.remove-2.new.self i.given _ c.number-number.result c.index.result.now c.self.view_is c.self.invariant.0 (invariant_of-self-2 g c).0 c.index.ensures (none_else c.index.result.now.inner c.in_default.not-Some) c.remove-2.ensures.updates)
