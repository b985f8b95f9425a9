use Rattle.std.proofs.Common.{◌≡◌, ℕ, ◌%◌, ◌<◌, length, map, set, Ok, Err, refl, ◌∙◌, arith}
use Rattle.loglet_api.specs.declared.call.LogletCall.TheVariants.{Stray}
use Rattle.loglet_api.specs.declared.call.LogletAnswer.TheVariants.{Refusal, Strayed}
use Rattle.std.proofs.Math.Nat.{mod-lt}
use Rattle.striped_loglet.proofs.Places.{length_view}
use Rattle.striped_loglet.proofs.Bridge.{step_whole}
use Rattle.striped_loglet.proofs.Wholes.{stray_done, stray_refused, stray_called}
use Rattle.striped_loglet.proofs.Serving.{served, stray_served, stray_length}
use Rattle.striped_loglet.proofs.Handing.{serves_from, stray_handed}
use Rattle.striped_loglet.proofs.Works.{rest_strayed}
use Rattle.striped_loglet.proofs.striped.StripedLogletLoglet.stray.Goals as goal

inside : (word count len i : ℕ) → i ≡ word % count → count ≡ len → 0 < len → i < len
inside word count len i p e some = rw p (rw e (mod-lt word some))

pub picked-i-requires : goal.picked-i-requires
picked-i-requires g c =
    let i = c.self.inside in
    let some : 0 < length i.stripes.items = (let a = c.self.invariant.0.shaped.count.0 in let b = length_view g.L.Loglet.view i.stripes.items in omega (arith, a, b)) in
    let e : c.len-count.result ≡ length i.stripes.items = (let k = c.len-count.ensures in omega (arith, k)) in
    omega (arith, some, e)

pub invariant_of-self : goal.invariant_of-self
invariant_of-self g c =
    let i = c.self.inside in
    let some : 0 < length i.stripes.items = (let a = c.self.invariant.0.shaped.count.0 in let b = length_view g.L.Loglet.view i.stripes.items in omega (arith, a, b)) in
    let e : c.len-count.result ≡ length i.stripes.items = (let k = c.len-count.ensures in omega (arith, k)) in
    let l = inside c.args.word c.len-count.result (length i.stripes.items) c.picked-i.result.0 c.picked-i.ensures.stripe e some in
    ((stray_done g.L.Loglet.view i.shape i.stripes.items i.marks i.pending c.picked-i.result.0 c.args.word c.picked-i.result.1 c.index_mut.result.now c.stray_on.new.stripe c.self.invariant.0 l c.index_mut.ensures.value c.in-Ok.ensures.step).0, stray_length g.L.Loglet.serving {A = Unit {0}} i.stripes.items c.picked-i.result.0 c.picked-i.result.1 c.args.word (Ok tt) c.index_mut.result.now c.stray_on.new.stripe l c.index_mut.ensures.value c.in-Ok.ensures.serves ∙ c.self.invariant.1)

pub invariant_of-self-in-Err : goal.invariant_of-self-in-Err
invariant_of-self-in-Err g c =
    let i = c.self.inside in
    let some : 0 < length i.stripes.items = (let a = c.self.invariant.0.shaped.count.0 in let b = length_view g.L.Loglet.view i.stripes.items in omega (arith, a, b)) in
    let e : c.len-count.result ≡ length i.stripes.items = (let k = c.len-count.ensures in omega (arith, k)) in
    let l = inside c.args.word c.len-count.result (length i.stripes.items) c.picked-i.result.0 c.picked-i.ensures.stripe e some in
    ((stray_refused g.L.Loglet.view i.shape i.stripes.items i.marks i.pending c.picked-i.result.0 c.args.word c.picked-i.result.1 c.index_mut.result.now c.stray_on.new.stripe c.in-Err.refused c.self.invariant.0 l c.index_mut.ensures.value c.in-Err.ensures.step).0, stray_length g.L.Loglet.serving {A = Unit {0}} i.stripes.items c.picked-i.result.0 c.picked-i.result.1 c.args.word (Err c.in-Err.refused) c.index_mut.result.now c.stray_on.new.stripe l c.index_mut.ensures.value c.in-Err.ensures.serves ∙ c.self.invariant.1)

pub returns-in-Ok-clause-step : goal.returns-in-Ok-clause-step
returns-in-Ok-clause-step g c =
    let i = c.self.inside in
    let some : 0 < length i.stripes.items = (let a = c.self.invariant.0.shaped.count.0 in let b = length_view g.L.Loglet.view i.stripes.items in omega (arith, a, b)) in
    let e : c.len-count.result ≡ length i.stripes.items = (let k = c.len-count.ensures in omega (arith, k)) in
    let l = inside c.args.word c.len-count.result (length i.stripes.items) c.picked-i.result.0 c.picked-i.ensures.stripe e some in
    step_whole g.L.Loglet.view g.L.Loglet.serving i.shape i.stripes.items _ i.marks i.marks i.pending i.pending _ _ _ c.self.view_is c.self.invariant.0 (invariant_of-self g c).0 tt
    (stray_done g.L.Loglet.view i.shape i.stripes.items i.marks i.pending c.picked-i.result.0 c.args.word c.picked-i.result.1 c.index_mut.result.now c.stray_on.new.stripe c.self.invariant.0 l c.index_mut.ensures.value c.in-Ok.ensures.step).1

pub returns-in-Ok-clause-stripe : goal.returns-in-Ok-clause-stripe
returns-in-Ok-clause-stripe g c =
    let i = c.self.inside in
    let some : 0 < length i.stripes.items = (let a = c.self.invariant.0.shaped.count.0 in let b = length_view g.L.Loglet.view i.stripes.items in omega (arith, a, b)) in
    let e : c.len-count.result ≡ length i.stripes.items = (let k = c.len-count.ensures in omega (arith, k)) in
    let l = inside c.args.word c.len-count.result (length i.stripes.items) c.picked-i.result.0 c.picked-i.ensures.stripe e some in
    stray_called g.L.Loglet.view g.L.Loglet.serving i.shape i.stripes.items i.marks i.pending _ c.args.word c.len-count.result c.picked-i.result.0 c.picked-i.result.1 Strayed c.index_mut.result.now c.stray_on.new.stripe c.self.view_is e c.picked-i.ensures.stripe c.picked-i.ensures.rest l c.index_mut.ensures.value c.in-Ok.ensures.step

pub returns-in-Ok-clause-handed : goal.returns-in-Ok-clause-handed
returns-in-Ok-clause-handed g c =
    let i = c.self.inside in
    let some : 0 < length i.stripes.items = (let a = c.self.invariant.0.shaped.count.0 in let b = length_view g.L.Loglet.view i.stripes.items in omega (arith, a, b)) in
    let e : c.len-count.result ≡ length i.stripes.items = (let k = c.len-count.ensures in omega (arith, k)) in
    let l = inside c.args.word c.len-count.result (length i.stripes.items) c.picked-i.result.0 c.picked-i.ensures.stripe e some in
    stray_handed g.L.Loglet.view g.L.Loglet.serving i.shape i.stripes.items i.marks i.pending i.given _ c.args.word c.len-count.result c.picked-i.result.0 c.picked-i.result.1 Strayed c.index_mut.result.now c.stray_on.new.stripe c.self.view_is e c.picked-i.ensures.stripe c.picked-i.ensures.rest l c.index_mut.ensures.value c.in-Ok.ensures.serves

pub returns-in-Err-clause-step : goal.returns-in-Err-clause-step
returns-in-Err-clause-step g c =
    let i = c.self.inside in
    let some : 0 < length i.stripes.items = (let a = c.self.invariant.0.shaped.count.0 in let b = length_view g.L.Loglet.view i.stripes.items in omega (arith, a, b)) in
    let e : c.len-count.result ≡ length i.stripes.items = (let k = c.len-count.ensures in omega (arith, k)) in
    let l = inside c.args.word c.len-count.result (length i.stripes.items) c.picked-i.result.0 c.picked-i.ensures.stripe e some in
    step_whole g.L.Loglet.view g.L.Loglet.serving i.shape i.stripes.items _ i.marks i.marks i.pending i.pending _ _ _ c.self.view_is c.self.invariant.0 (invariant_of-self-in-Err g c).0 tt
    (stray_refused g.L.Loglet.view i.shape i.stripes.items i.marks i.pending c.picked-i.result.0 c.args.word c.picked-i.result.1 c.index_mut.result.now c.stray_on.new.stripe c.in-Err.refused c.self.invariant.0 l c.index_mut.ensures.value c.in-Err.ensures.step).1

pub returns-in-Err-clause-stripe : goal.returns-in-Err-clause-stripe
returns-in-Err-clause-stripe g c =
    let i = c.self.inside in
    let some : 0 < length i.stripes.items = (let a = c.self.invariant.0.shaped.count.0 in let b = length_view g.L.Loglet.view i.stripes.items in omega (arith, a, b)) in
    let e : c.len-count.result ≡ length i.stripes.items = (let k = c.len-count.ensures in omega (arith, k)) in
    let l = inside c.args.word c.len-count.result (length i.stripes.items) c.picked-i.result.0 c.picked-i.ensures.stripe e some in
    stray_called g.L.Loglet.view g.L.Loglet.serving i.shape i.stripes.items i.marks i.pending _ c.args.word c.len-count.result c.picked-i.result.0 c.picked-i.result.1 (Refusal c.in-Err.refused) c.index_mut.result.now c.stray_on.new.stripe c.self.view_is e c.picked-i.ensures.stripe c.picked-i.ensures.rest l c.index_mut.ensures.value c.in-Err.ensures.step

pub returns-in-Err-clause-handed : goal.returns-in-Err-clause-handed
returns-in-Err-clause-handed g c =
    let i = c.self.inside in
    let some : 0 < length i.stripes.items = (let a = c.self.invariant.0.shaped.count.0 in let b = length_view g.L.Loglet.view i.stripes.items in omega (arith, a, b)) in
    let e : c.len-count.result ≡ length i.stripes.items = (let k = c.len-count.ensures in omega (arith, k)) in
    let l = inside c.args.word c.len-count.result (length i.stripes.items) c.picked-i.result.0 c.picked-i.ensures.stripe e some in
    stray_handed g.L.Loglet.view g.L.Loglet.serving i.shape i.stripes.items i.marks i.pending i.given _ c.args.word c.len-count.result c.picked-i.result.0 c.picked-i.result.1 (Refusal c.in-Err.refused) c.index_mut.result.now c.stray_on.new.stripe c.self.view_is e c.picked-i.ensures.stripe c.picked-i.ensures.rest l c.index_mut.ensures.value c.in-Err.ensures.serves

pub returns-in-Ok-clause-serves : goal.returns-in-Ok-clause-serves
returns-in-Ok-clause-serves g c =
    let i = c.self.inside in
    let some : 0 < length i.stripes.items = (let a = c.self.invariant.0.shaped.count.0 in let b = length_view g.L.Loglet.view i.stripes.items in omega (arith, a, b)) in
    let e : c.len-count.result ≡ length i.stripes.items = (let k = c.len-count.ensures in omega (arith, k)) in
    let l = inside c.args.word c.len-count.result (length i.stripes.items) c.picked-i.result.0 c.picked-i.ensures.stripe e some in
    serves_from g.L.Loglet.view g.L.Loglet.serving i.shape i.stripes.items i.marks i.pending i.given _ (Stray c.args.word) Strayed (served (map g.L.Loglet.serving (set i.stripes.items c.picked-i.result.0 c.stray_on.new.stripe)) c.strayed-self-inside.result) c.self.view_is
    (stray_served g.L.Loglet.serving {A = Unit {0}} i.stripes.items c.picked-i.result.0 c.picked-i.result.1 c.args.word i.given c.strayed-self-inside.result (Ok tt) c.index_mut.result.now c.stray_on.new.stripe c.strayed-self-inside.ensures l c.index_mut.ensures.value c.in-Ok.ensures.serves)

pub returns-in-Err-clause-serves : goal.returns-in-Err-clause-serves
returns-in-Err-clause-serves g c =
    let i = c.self.inside in
    let some : 0 < length i.stripes.items = (let a = c.self.invariant.0.shaped.count.0 in let b = length_view g.L.Loglet.view i.stripes.items in omega (arith, a, b)) in
    let e : c.len-count.result ≡ length i.stripes.items = (let k = c.len-count.ensures in omega (arith, k)) in
    let l = inside c.args.word c.len-count.result (length i.stripes.items) c.picked-i.result.0 c.picked-i.ensures.stripe e some in
    serves_from g.L.Loglet.view g.L.Loglet.serving i.shape i.stripes.items i.marks i.pending i.given _ (Stray c.args.word) (Refusal c.in-Err.refused) (served (map g.L.Loglet.serving (set i.stripes.items c.picked-i.result.0 c.stray_on.new.stripe)) i.given) c.self.view_is
    (stray_served g.L.Loglet.serving {A = Unit {0}} i.stripes.items c.picked-i.result.0 c.picked-i.result.1 c.args.word i.given i.given (Err c.in-Err.refused) c.index_mut.result.now c.stray_on.new.stripe refl l c.index_mut.ensures.value c.in-Err.ensures.serves)

pub returns-in-Ok-clause-rest : goal.returns-in-Ok-clause-rest
returns-in-Ok-clause-rest g c = let i = c.self.inside in rest_strayed g.L.Loglet.view g.L.Loglet.serving i.shape i.stripes.items (set i.stripes.items c.picked-i.result.0 c.stray_on.new.stripe) i.marks i.pending i.given c.strayed-self-inside.result _ c.self.view_is

pub returns-in-Err-clause-rest : goal.returns-in-Err-clause-rest
returns-in-Err-clause-rest g c = let i = c.self.inside in rest_strayed g.L.Loglet.view g.L.Loglet.serving i.shape i.stripes.items (set i.stripes.items c.picked-i.result.0 c.stray_on.new.stripe) i.marks i.pending i.given i.given _ c.self.view_is
