use Rattle.std.proofs.Common.{List, length, map, inl, Ok, Err, refl, ap, ◌∙◌, arith}
use Rattle.loglet_api.specs.declared.call.LogletCall.TheVariants.{Carry}
use Rattle.loglet_api.specs.declared.call.LogletAnswer.TheVariants.{Refusal, Carried}
use Rattle.loglet_api.specs.Servers.{ServersView}
use Rattle.striped_loglet.specs.Servings.{states_of}
use Rattle.striped_loglet.specs.declared.pending.Course.{Course}
use Rattle.striped_loglet.proofs.Places.{length_view}
use Rattle.striped_loglet.proofs.Bridge.{undecided_there, undecided_none, next_whole, size_whole, step_whole, waits_next, course_of}
use Rattle.striped_loglet.proofs.Wholes.{inner_open, inner_done, refused_same, refused_inner, next_carried, next_same, refused_next}
use Rattle.striped_loglet.proofs.Serving.{served, carry_served, carry_length}
use Rattle.striped_loglet.proofs.Handing.{serves_from, carry_handed, idle_handed}
use Rattle.striped_loglet.proofs.Works.{inner_works, next_works, uncarried_works}
use Rattle.striped_loglet.proofs.striped.StripedLogletLoglet.carry.Goals as goal

pub index-requires : goal.index-requires
index-requires g c =
    let i = c.self.inside in
    rw c.number-number.ensures (undecided_there g.L.Loglet.view g.L.Loglet.serving i.shape i.stripes.items i.marks i.pending _ c.args.ticket c.self.view_is c.self.invariant.0 c.requires)

pub carry_inner-requires-clause-stripe : goal.carry_inner-requires-clause-stripe
carry_inner-requires-clause-stripe g c =
    let i = c.self.inside in
    (inner_open g.L.Loglet.view i.shape i.stripes.items i.marks i.pending c.number-number.result c.index-2.result.now c.in-Some.inner c.self.invariant.0 c.index-2.ensures c.in-Some.is).0

pub carry_inner-requires-clause-is_there : goal.carry_inner-requires-clause-is_there
carry_inner-requires-clause-is_there g c =
    let i = c.self.inside in
    (inner_open g.L.Loglet.view i.shape i.stripes.items i.marks i.pending c.number-number.result c.index-2.result.now c.in-Some.inner c.self.invariant.0 c.index-2.ensures c.in-Some.is).1

pub carry_inner-requires-clause-next : goal.carry_inner-requires-clause-next
carry_inner-requires-clause-next g c =
    let i = c.self.inside in
    let view = g.L.Loglet.view in
    let at = rw c.number-number.ensures at c.index.ensures in
    let none = undecided_none view g.L.Loglet.serving i.shape i.stripes.items i.marks i.pending _ c.args.ticket c.index.result.now c.self.view_is c.self.invariant.0 c.requires at in
    let l = next_whole view i.shape i.stripes.items i.marks i.pending c.args.ticket c.index.result.now c.self.invariant.0 at none in
    let e = length_view view i.stripes.items in
    let k = c.self.invariant.0.shaped.count.1 in
    let p = ap (λ (z : Course). z.plan.next) c.course-course.ensures in
    omega (arith, l, e, k, p)

pub begin_next-requires-clause-next : goal.begin_next-requires-clause-next
begin_next-requires-clause-next g c =
    let i = c.self.inside in
    let view = g.L.Loglet.view in
    let at = rw c.number-number.ensures at c.index-2.ensures in
    let none = undecided_none view g.L.Loglet.serving i.shape i.stripes.items i.marks i.pending _ c.args.ticket c.index-2.result.now c.self.view_is c.self.invariant.0 c.requires at in
    let course = course_of view i.pending c.number-number.result c.index.result.now c.index-2.result.now c.course-course.result c.index.ensures c.index-2.ensures c.course-course.ensures in
    let l = waits_next view i.shape i.stripes.items i.marks i.pending c.args.ticket c.index-2.result.now c.self.invariant.0 at none c.in-None.is in
    let p = ap (λ (z : Course). z.plan.next) course in
    omega (arith, l, p)

pub begin_next-requires-clause-size : goal.begin_next-requires-clause-size
begin_next-requires-clause-size g c =
    let i = c.self.inside in
    let l = size_whole g.L.Loglet.view i.shape i.stripes.items i.marks i.pending c.number-number.result c.index.result.now c.self.invariant.0 c.index.ensures in
    let p = ap (λ (z : Course). z.asked.size) c.course-course.ensures in
    omega (arith, l, p)

pub begin_next-requires-clause-cut : goal.begin_next-requires-clause-cut
begin_next-requires-clause-cut g c =
    let h = c.self.invariant.0 in
    let a = h.cut in
    let b = h.reach in
    let d = h.firm in
    let e = h.size in
    let f = h.shaped.room.1 in
    omega (arith, a, b, d, e, f)

pub invariant_of-self : goal.invariant_of-self
invariant_of-self g c =
    let i = c.self.inside in
    let view = g.L.Loglet.view in
    let at = rw c.number-number.ensures at c.index-2.ensures in
    let none = undecided_none view g.L.Loglet.serving i.shape i.stripes.items i.marks i.pending _ c.args.ticket c.index-2.result.now c.self.view_is c.self.invariant.0 c.requires at in
    let course = course_of view i.pending c.number-number.result c.index.result.now c.index-2.result.now c.course-course.result c.index.ensures c.index-2.ensures c.course-course.ensures in
    let all = inner_done view i.shape i.stripes.items c.carry_inner.new.stripes.items i.marks i.pending c.carry_inner.new.pending c.args.ticket c.args.word c.index-2.result.now c.course-course.result c.in-Some.inner c.self.invariant.0 at none c.in-Some.is course (rw c.number-number.ensures at c.in-Ok.ensures.step) in
    (all.0, carry_length {A = Unit {0}} (map g.L.Loglet.serving i.stripes.items) (map g.L.Loglet.serving c.carry_inner.new.stripes.items) c.in-Some.inner.stripe c.in-Some.inner.ticket c.args.word (Ok tt) c.in-Ok.ensures.serves ∙ c.self.invariant.1)

pub returns-in-Ok-clause-step : goal.returns-in-Ok-clause-step
returns-in-Ok-clause-step g c =
    let i = c.self.inside in
    let view = g.L.Loglet.view in
    let at = rw c.number-number.ensures at c.index-2.ensures in
    let none = undecided_none view g.L.Loglet.serving i.shape i.stripes.items i.marks i.pending _ c.args.ticket c.index-2.result.now c.self.view_is c.self.invariant.0 c.requires at in
    let course = course_of view i.pending c.number-number.result c.index.result.now c.index-2.result.now c.course-course.result c.index.ensures c.index-2.ensures c.course-course.ensures in
    let all = inner_done view i.shape i.stripes.items c.carry_inner.new.stripes.items i.marks i.pending c.carry_inner.new.pending c.args.ticket c.args.word c.index-2.result.now c.course-course.result c.in-Some.inner c.self.invariant.0 at none c.in-Some.is course (rw c.number-number.ensures at c.in-Ok.ensures.step) in
    step_whole view g.L.Loglet.serving i.shape i.stripes.items c.carry_inner.new.stripes.items i.marks i.marks i.pending c.carry_inner.new.pending _ _ _ c.self.view_is c.self.invariant.0 all.0 c.requires all.1

pub returns-in-Ok-clause-serves : goal.returns-in-Ok-clause-serves
returns-in-Ok-clause-serves g c =
    let i = c.self.inside in
    let view = g.L.Loglet.view in
    serves_from view g.L.Loglet.serving i.shape i.stripes.items i.marks i.pending i.given _ (Carry c.args.ticket c.args.word) Carried (served (map g.L.Loglet.serving c.carry_inner.new.stripes.items) c.carried-self-inside.result) c.self.view_is
    (carry_served {A = Unit {0}} (map g.L.Loglet.serving i.stripes.items) (map g.L.Loglet.serving c.carry_inner.new.stripes.items) c.in-Some.inner.stripe c.in-Some.inner.ticket c.args.ticket c.args.word i.given c.carried-self-inside.result (Ok tt) c.carried-self-inside.ensures c.in-Ok.ensures.serves)

pub returns-in-Ok-clause-handed : goal.returns-in-Ok-clause-handed
returns-in-Ok-clause-handed g c =
    let i = c.self.inside in
    let view = g.L.Loglet.view in
    carry_handed view g.L.Loglet.serving i.shape i.stripes.items i.marks i.pending i.given _ c.args.ticket c.index-2.result.now c.in-Some.inner c.args.word Carried _ c.self.view_is c.self.invariant.0 (rw c.number-number.ensures at c.index-2.ensures) c.in-Some.is c.in-Ok.ensures.serves

pub invariant_of-self-in-Err : goal.invariant_of-self-in-Err
invariant_of-self-in-Err g c =
    let i = c.self.inside in
    let view = g.L.Loglet.view in
    let all = refused_inner view i.shape i.stripes.items c.carry_inner.new.stripes.items i.marks i.pending c.carry_inner.new.pending c.args.ticket c.args.word c.in-Some.inner c.in-Err.refused c.self.invariant.0 c.in-Err.ensures.step in
    (all.0, carry_length {A = Unit {0}} (map g.L.Loglet.serving i.stripes.items) (map g.L.Loglet.serving c.carry_inner.new.stripes.items) c.in-Some.inner.stripe c.in-Some.inner.ticket c.args.word (Err c.in-Err.refused) c.in-Err.ensures.serves ∙ c.self.invariant.1)

pub returns-in-Err-clause-step : goal.returns-in-Err-clause-step
returns-in-Err-clause-step g c =
    let i = c.self.inside in
    let view = g.L.Loglet.view in
    let all = refused_inner view i.shape i.stripes.items c.carry_inner.new.stripes.items i.marks i.pending c.carry_inner.new.pending c.args.ticket c.args.word c.in-Some.inner c.in-Err.refused c.self.invariant.0 c.in-Err.ensures.step in
    step_whole view g.L.Loglet.serving i.shape i.stripes.items c.carry_inner.new.stripes.items i.marks i.marks i.pending c.carry_inner.new.pending _ _ _ c.self.view_is c.self.invariant.0 all.0 c.requires all.1

pub returns-in-Err-clause-serves : goal.returns-in-Err-clause-serves
returns-in-Err-clause-serves g c =
    let i = c.self.inside in
    let view = g.L.Loglet.view in
    serves_from view g.L.Loglet.serving i.shape i.stripes.items i.marks i.pending i.given _ (Carry c.args.ticket c.args.word) (Refusal c.in-Err.refused) (served (map g.L.Loglet.serving c.carry_inner.new.stripes.items) i.given) c.self.view_is
    (carry_served {A = Unit {0}} (map g.L.Loglet.serving i.stripes.items) (map g.L.Loglet.serving c.carry_inner.new.stripes.items) c.in-Some.inner.stripe c.in-Some.inner.ticket c.args.ticket c.args.word i.given i.given (Err c.in-Err.refused) refl c.in-Err.ensures.serves)

pub returns-in-Err-clause-handed : goal.returns-in-Err-clause-handed
returns-in-Err-clause-handed g c =
    let i = c.self.inside in
    let view = g.L.Loglet.view in
    carry_handed view g.L.Loglet.serving i.shape i.stripes.items i.marks i.pending i.given _ c.args.ticket c.index-2.result.now c.in-Some.inner c.args.word (Refusal c.in-Err.refused) _ c.self.view_is c.self.invariant.0 (rw c.number-number.ensures at c.index-2.ensures) c.in-Some.is c.in-Err.ensures.serves

pub invariant_of-self-in-Ok-begin_next : goal.invariant_of-self-in-Ok-begin_next
invariant_of-self-in-Ok-begin_next g c =
    let i = c.self.inside in
    let view = g.L.Loglet.view in
    let at = rw c.number-number.ensures at c.index-2.ensures in
    let none = undecided_none view g.L.Loglet.serving i.shape i.stripes.items i.marks i.pending _ c.args.ticket c.index-2.result.now c.self.view_is c.self.invariant.0 c.requires at in
    let course = course_of view i.pending c.number-number.result c.index.result.now c.index-2.result.now c.course-course.result c.index.ensures c.index-2.ensures c.course-course.ensures in
    let all = next_carried view i.shape i.stripes.items c.begin_next.new.stripes.items i.marks i.pending c.begin_next.new.pending c.args.ticket c.args.word c.index-2.result.now c.course-course.result c.self.invariant.0 at none c.in-None.is course (rw c.number-number.ensures at c.in-Ok-begin_next.ensures.step) in
    (all.0, ap (λ (vs : List ServersView). length (states_of vs)) c.in-Ok-begin_next.ensures.serves ∙ c.self.invariant.1)

pub returns-in-Ok-begin_next-clause-step : goal.returns-in-Ok-begin_next-clause-step
returns-in-Ok-begin_next-clause-step g c =
    let i = c.self.inside in
    let view = g.L.Loglet.view in
    let at = rw c.number-number.ensures at c.index-2.ensures in
    let none = undecided_none view g.L.Loglet.serving i.shape i.stripes.items i.marks i.pending _ c.args.ticket c.index-2.result.now c.self.view_is c.self.invariant.0 c.requires at in
    let course = course_of view i.pending c.number-number.result c.index.result.now c.index-2.result.now c.course-course.result c.index.ensures c.index-2.ensures c.course-course.ensures in
    let all = next_carried view i.shape i.stripes.items c.begin_next.new.stripes.items i.marks i.pending c.begin_next.new.pending c.args.ticket c.args.word c.index-2.result.now c.course-course.result c.self.invariant.0 at none c.in-None.is course (rw c.number-number.ensures at c.in-Ok-begin_next.ensures.step) in
    step_whole view g.L.Loglet.serving i.shape i.stripes.items c.begin_next.new.stripes.items i.marks i.marks i.pending c.begin_next.new.pending _ _ _ c.self.view_is c.self.invariant.0 all.0 c.requires all.1

pub returns-in-Ok-begin_next-clause-serves : goal.returns-in-Ok-begin_next-clause-serves
returns-in-Ok-begin_next-clause-serves g c =
    let i = c.self.inside in
    let view = g.L.Loglet.view in
    serves_from view g.L.Loglet.serving i.shape i.stripes.items i.marks i.pending i.given _ (Carry c.args.ticket c.args.word) Carried (served (map g.L.Loglet.serving c.begin_next.new.stripes.items) c.carried-self-inside-in-Ok-begin_next.result) c.self.view_is
    (carry_served {A = Unit {0}} (map g.L.Loglet.serving i.stripes.items) (map g.L.Loglet.serving c.begin_next.new.stripes.items) 0 0 c.args.ticket c.args.word i.given c.carried-self-inside-in-Ok-begin_next.result (Ok tt) c.carried-self-inside-in-Ok-begin_next.ensures (inl c.in-Ok-begin_next.ensures.serves))

pub returns-in-Ok-begin_next-clause-handed : goal.returns-in-Ok-begin_next-clause-handed
returns-in-Ok-begin_next-clause-handed g c =
    let i = c.self.inside in
    let view = g.L.Loglet.view in
    idle_handed view g.L.Loglet.serving i.shape i.stripes.items i.marks i.pending i.given _ c.args.ticket c.index-2.result.now c.args.word Carried _ c.self.view_is c.self.invariant.0 (rw c.number-number.ensures at c.index-2.ensures) c.in-None.is c.in-Ok-begin_next.ensures.serves

pub invariant_of-self-in-Err-begin_next : goal.invariant_of-self-in-Err-begin_next
invariant_of-self-in-Err-begin_next g c =
    let i = c.self.inside in
    let view = g.L.Loglet.view in
    let at = rw c.number-number.ensures at c.index-2.ensures in
    let none = undecided_none view g.L.Loglet.serving i.shape i.stripes.items i.marks i.pending _ c.args.ticket c.index-2.result.now c.self.view_is c.self.invariant.0 c.requires at in
    let course = course_of view i.pending c.number-number.result c.index.result.now c.index-2.result.now c.course-course.result c.index.ensures c.index-2.ensures c.course-course.ensures in
    let all = refused_next view i.shape i.stripes.items c.begin_next.new.stripes.items i.marks i.pending c.begin_next.new.pending c.args.ticket c.args.word c.index-2.result.now c.course-course.result c.in-Err-begin_next.refused c.self.invariant.0 at none c.in-None.is course c.in-Err-begin_next.ensures.step in
    (all.0, ap (λ (vs : List ServersView). length (states_of vs)) c.in-Err-begin_next.ensures.serves ∙ c.self.invariant.1)

pub returns-in-Err-begin_next-clause-step : goal.returns-in-Err-begin_next-clause-step
returns-in-Err-begin_next-clause-step g c =
    let i = c.self.inside in
    let view = g.L.Loglet.view in
    let at = rw c.number-number.ensures at c.index-2.ensures in
    let none = undecided_none view g.L.Loglet.serving i.shape i.stripes.items i.marks i.pending _ c.args.ticket c.index-2.result.now c.self.view_is c.self.invariant.0 c.requires at in
    let course = course_of view i.pending c.number-number.result c.index.result.now c.index-2.result.now c.course-course.result c.index.ensures c.index-2.ensures c.course-course.ensures in
    let all = refused_next view i.shape i.stripes.items c.begin_next.new.stripes.items i.marks i.pending c.begin_next.new.pending c.args.ticket c.args.word c.index-2.result.now c.course-course.result c.in-Err-begin_next.refused c.self.invariant.0 at none c.in-None.is course c.in-Err-begin_next.ensures.step in
    step_whole view g.L.Loglet.serving i.shape i.stripes.items c.begin_next.new.stripes.items i.marks i.marks i.pending c.begin_next.new.pending _ _ _ c.self.view_is c.self.invariant.0 all.0 c.requires all.1

pub returns-in-Err-begin_next-clause-serves : goal.returns-in-Err-begin_next-clause-serves
returns-in-Err-begin_next-clause-serves g c =
    let i = c.self.inside in
    let view = g.L.Loglet.view in
    serves_from view g.L.Loglet.serving i.shape i.stripes.items i.marks i.pending i.given _ (Carry c.args.ticket c.args.word) (Refusal c.in-Err-begin_next.refused) (served (map g.L.Loglet.serving c.begin_next.new.stripes.items) i.given) c.self.view_is
    (carry_served {A = Unit {0}} (map g.L.Loglet.serving i.stripes.items) (map g.L.Loglet.serving c.begin_next.new.stripes.items) 0 0 c.args.ticket c.args.word i.given i.given (Err c.in-Err-begin_next.refused) refl (inl c.in-Err-begin_next.ensures.serves))

pub returns-in-Err-begin_next-clause-handed : goal.returns-in-Err-begin_next-clause-handed
returns-in-Err-begin_next-clause-handed g c =
    let i = c.self.inside in
    let view = g.L.Loglet.view in
    idle_handed view g.L.Loglet.serving i.shape i.stripes.items i.marks i.pending i.given _ c.args.ticket c.index-2.result.now c.args.word (Refusal c.in-Err-begin_next.refused) _ c.self.view_is c.self.invariant.0 (rw c.number-number.ensures at c.index-2.ensures) c.in-None.is c.in-Err-begin_next.ensures.serves

pub returns-in-Ok-clause-work : goal.returns-in-Ok-clause-work
returns-in-Ok-clause-work g c =
    let i = c.self.inside in
    let view = g.L.Loglet.view in
    let at = rw c.number-number.ensures at c.index-2.ensures in
    let none = undecided_none view g.L.Loglet.serving i.shape i.stripes.items i.marks i.pending _ c.args.ticket c.index-2.result.now c.self.view_is c.self.invariant.0 c.requires at in
    let course = course_of view i.pending c.number-number.result c.index.result.now c.index-2.result.now c.course-course.result c.index.ensures c.index-2.ensures c.course-course.ensures in
    inner_works view g.L.Loglet.serving {U = Unit {0}} i.shape i.stripes.items c.carry_inner.new.stripes.items i.marks i.pending c.carry_inner.new.pending i.given c.carried-self-inside.result _ c.args.ticket c.args.word c.index-2.result.now c.course-course.result c.in-Some.inner tt c.self.view_is c.self.invariant.0 (invariant_of-self g c).0
    at none c.in-Some.is course (rw c.number-number.ensures at c.in-Ok.ensures.step)

pub returns-in-Err-clause-work : goal.returns-in-Err-clause-work
returns-in-Err-clause-work g c =
    let i = c.self.inside in
    let view = g.L.Loglet.view in
    let at = rw c.number-number.ensures at c.index-2.ensures in
    let none = undecided_none view g.L.Loglet.serving i.shape i.stripes.items i.marks i.pending _ c.args.ticket c.index-2.result.now c.self.view_is c.self.invariant.0 c.requires at in
    uncarried_works view g.L.Loglet.serving {U = Unit {0}} i.shape i.stripes.items c.carry_inner.new.stripes.items i.marks i.pending c.carry_inner.new.pending i.given _ c.args.ticket c.args.word c.index-2.result.now c.in-Err.refused c.self.view_is c.self.invariant.0 at none
    (refused_same view i.shape i.stripes.items c.carry_inner.new.stripes.items i.marks i.pending c.carry_inner.new.pending c.in-Some.inner c.args.word c.in-Err.refused c.in-Err.ensures.step)

pub returns-in-Ok-begin_next-clause-work : goal.returns-in-Ok-begin_next-clause-work
returns-in-Ok-begin_next-clause-work g c =
    let i = c.self.inside in
    let view = g.L.Loglet.view in
    let at = rw c.number-number.ensures at c.index-2.ensures in
    let none = undecided_none view g.L.Loglet.serving i.shape i.stripes.items i.marks i.pending _ c.args.ticket c.index-2.result.now c.self.view_is c.self.invariant.0 c.requires at in
    let course = course_of view i.pending c.number-number.result c.index.result.now c.index-2.result.now c.course-course.result c.index.ensures c.index-2.ensures c.course-course.ensures in
    next_works view g.L.Loglet.serving {U = Unit {0}} i.shape i.stripes.items c.begin_next.new.stripes.items i.marks i.pending c.begin_next.new.pending i.given c.carried-self-inside-in-Ok-begin_next.result _ c.args.ticket c.args.word c.index-2.result.now c.course-course.result tt c.self.view_is c.self.invariant.0 (invariant_of-self-in-Ok-begin_next g c).0
    at none c.in-None.is course (rw c.number-number.ensures at c.in-Ok-begin_next.ensures.step)

pub returns-in-Err-begin_next-clause-work : goal.returns-in-Err-begin_next-clause-work
returns-in-Err-begin_next-clause-work g c =
    let i = c.self.inside in
    let view = g.L.Loglet.view in
    let at = rw c.number-number.ensures at c.index-2.ensures in
    let none = undecided_none view g.L.Loglet.serving i.shape i.stripes.items i.marks i.pending _ c.args.ticket c.index-2.result.now c.self.view_is c.self.invariant.0 c.requires at in
    let course = course_of view i.pending c.number-number.result c.index.result.now c.index-2.result.now c.course-course.result c.index.ensures c.index-2.ensures c.course-course.ensures in
    uncarried_works view g.L.Loglet.serving {U = Unit {0}} i.shape i.stripes.items c.begin_next.new.stripes.items i.marks i.pending c.begin_next.new.pending i.given _ c.args.ticket c.args.word c.index-2.result.now c.in-Err-begin_next.refused c.self.view_is c.self.invariant.0 at none
    (next_same view i.shape i.stripes.items c.begin_next.new.stripes.items i.marks i.pending c.begin_next.new.pending c.args.ticket c.index-2.result.now c.course-course.result c.in-Err-begin_next.refused c.self.invariant.0 at none c.in-None.is course c.in-Err-begin_next.ensures.step)
