-- What is asked of a stripe, by its place.
use Rattle.std.proofs.Common.{◌≡◌, ℕ, ◌%◌, ◌<◌, List, length, map, set, get_or, Some, None, Ok, Err, refl, sym, ap, ◌∙◌, subst}
use Rattle.std.specs.Prelude.{slice_get}
use Rattle.std.proofs.Math.Nat.{mod-lt}
use Rattle.delos_types.specs.declared.entry.Entry.{Entry}
use Rattle.loglet_api.specs.declared.call.Op.{Op}
use Rattle.loglet_api.specs.declared.call.Op.TheVariants.{Append}
use Rattle.loglet_api.specs.declared.call.Task.{Task}
use Rattle.loglet_api.specs.declared.call.Task.TheVariants.{Placing, Settling, Finding, Sealing, Reading, Trimming}
use Rattle.loglet_api.specs.declared.call.Refused.{Refused}
use Rattle.loglet_api.specs.declared.call.LogletCall.TheVariants.{Begin}
use Rattle.loglet_api.specs.declared.call.LogletAnswer.TheVariants.{Begun, Refusal}
use Rattle.loglet_api.specs.View.{LogletView}
use Rattle.loglet_api.specs.Step.{LogletStep, CanBegin, IsAppend}
use Rattle.striped_loglet.specs.declared.plan.Stage.{Stage}
use Rattle.striped_loglet.specs.declared.plan.Stage.TheVariants.{First, Last}
use Rattle.striped_loglet.specs.declared.plan.Stage.TheVariants.{Sealing as SealingStage}
use Rattle.striped_loglet.specs.declared.stripe.Inner.{Inner}
use Rattle.striped_loglet.specs.Plans.{asked_of, finding_of, target_of, plan_behind, IsUnspoken}
use Rattle.striped_loglet.specs.declared.plan.Plan.{Plan}
use Rattle.striped_loglet.specs.declared.pending.Course.{Course}
use Rattle.striped_loglet.specs.State.{PendingMap}
use Rattle.striped_loglet.specs.Pendings.{Sets}
use Rattle.striped_loglet.specs.Calls.{BegunOn, StartsOn, IsRefused, BegunNext, RefusedNext}
use Rattle.striped_loglet.proofs.Lists.{map_set}
use Rattle.striped_loglet.proofs.Places.{view_at, length_view}

find_asks : (stage : Stage) → CanBegin (finding_of stage)
find_asks First = tt
find_asks SealingStage = tt
find_asks Last = tt

-- what a stripe is asked can be begun
pub can_ask : (task : Task) (size : ℕ) (stage : Stage) (cut stripe count : ℕ) → CanBegin (asked_of task size stage cut stripe count)
can_ask Placing size stage cut stripe count = tt
can_ask (Settling n) size stage cut stripe count = tt
can_ask Finding size stage cut stripe count = find_asks stage
can_ask Sealing size stage cut stripe count = tt
can_ask (Reading q) size stage cut stripe count = tt
can_ask (Trimming n) size stage cut stripe count = tt

pub own_within : (size number count len : ℕ) → 0 < len → number ≡ size % count → count ≡ len → number < len
own_within size number count len some e f = rw (e, f) (mod-lt size some)

module _ {L : Type 0} (view : L → LogletView) where
  pub starts_on : (xs : List L) (op : Op) (size number count : ℕ) (x : Inner) (old new : L) (e : Entry) → 0 < length xs → op ≡ Append e → number ≡ size % count → count ≡ length xs → old ≡ get_or xs number old → BegunOn (view old) number (Append e) (Ok x) (view new)
      → StartsOn (map view xs) op size (map view (set xs number new)) x
  starts_on xs op size number count x old new e some eo en ec at b =
      let l : number < length xs = own_within size number count (length xs) some en ec in
      let here : slice_get (map view xs) number ≡ Some (view old) = view_at view xs number old l at in
      record {
        append = subst IsAppend (sym eo) tt;
        before = view old;
        after = view new;
        stripe = b.1 ∙ en ∙ ap (λ k. size % k) (ec ∙ sym (length_view view xs));
        is = subst (λ (k : ℕ). slice_get (map view xs) k ≡ Some (view old)) (sym b.1) here;
        step = subst (λ (o : Op). LogletStep (view old) (Begin o) (Begun x.ticket) (view new)) (sym eo) b.0;
        left = b.2;
        rest = map_set view xs number new ∙ ap (λ k. set (map view xs) k (view new)) (sym b.1);
      }

  pub refused_on : (xs : List L) (op : Op) (size number count : ℕ) (refused : Refused) (old new : L) (e : Entry) → 0 < length xs → op ≡ Append e → number ≡ size % count → count ≡ length xs → old ≡ get_or xs number old → BegunOn (view old) number (Append e) (Err refused) (view new)
      → IsRefused (map view xs) op size (map view (set xs number new)) refused
  refused_on xs op size number count refused old new e some eo en ec at b =
      let l : number < length xs = own_within size number count (length xs) some en ec in
      let here : slice_get (map view xs) number ≡ Some (view old) = view_at view xs number old l at in
      let same : number ≡ size % length (map view xs) = en ∙ ap (λ k. size % k) (ec ∙ sym (length_view view xs)) in
      record {
        append = subst IsAppend (sym eo) tt;
        before = view old;
        after = view new;
        is = subst (λ (k : ℕ). slice_get (map view xs) k ≡ Some (view old)) same here;
        step = subst (λ (o : Op). LogletStep (view old) (Begin o) (Refusal refused) (view new)) (sym eo) b;
        rest = map_set view xs number new ∙ ap (λ k. set (map view xs) k (view new)) same;
      }

  pub asks_next : (xs : List L) (m n : PendingMap L) (t cut number count : ℕ) (course : Course) (op : Op) (plan : Plan) (x : Inner) (old new : L) → ¬ (IsUnspoken course.asked.task course.asked.firm) → number ≡ target_of course.asked.task count course.plan → number < length xs → count ≡ length xs
      → op ≡ asked_of course.asked.task course.asked.size course.plan.stage cut number count → plan ≡ plan_behind course.asked.task count course.plan → old ≡ get_or xs number old → BegunOn (view old) number op (Ok x) (view new) → Sets m t plan (Some x) None n
      → BegunNext (map view xs) m t course cut (map view (set xs number new)) n
  asks_next xs m n t cut number count course op plan x old new spoken en l ec eo ep at b sets =
      let c : count ≡ length (map view xs) = ec ∙ sym (length_view view xs) in
      record {
        spoken = spoken;
        before = view old;
        after = view new;
        inner = x;
        stripe = b.1 ∙ en ∙ ap (λ k. target_of course.asked.task k course.plan) c;
        is = subst (λ (k : ℕ). slice_get (map view xs) k ≡ Some (view old)) (sym b.1) (view_at view xs number old l at);
        step = subst (λ (o : Op). LogletStep (view old) (Begin o) (Begun x.ticket) (view new)) (eo ∙ ap (λ k. asked_of course.asked.task course.asked.size course.plan.stage cut number k) c ∙ ap (λ k. asked_of course.asked.task course.asked.size course.plan.stage cut k (length (map view xs))) (sym b.1)) b.0;
        left = b.2;
        rest = map_set view xs number new ∙ ap (λ k. set (map view xs) k (view new)) (sym b.1);
        sets = subst (λ (q : Plan). Sets m t q (Some x) None n) (ep ∙ ap (λ k. plan_behind course.asked.task k course.plan) c) sets;
      }

  pub refuses_next : (xs : List L) (m : PendingMap L) (cut number count : ℕ) (course : Course) (op : Op) (refused : Refused) (old new : L) → number ≡ target_of course.asked.task count course.plan → number < length xs → count ≡ length xs
      → op ≡ asked_of course.asked.task course.asked.size course.plan.stage cut number count → old ≡ get_or xs number old → BegunOn (view old) number op (Err refused) (view new)
      → RefusedNext (map view xs) m course cut refused (map view (set xs number new)) m
  refuses_next xs m cut number count course op refused old new en l ec eo at b =
      let c : count ≡ length (map view xs) = ec ∙ sym (length_view view xs) in
      record {
        before = view old;
        after = view new;
        stripe = number;
        target = en ∙ ap (λ k. target_of course.asked.task k course.plan) c;
        is = view_at view xs number old l at;
        step = subst (λ (o : Op). LogletStep (view old) (Begin o) (Refusal refused) (view new)) (eo ∙ ap (λ k. asked_of course.asked.task course.asked.size course.plan.stage cut number k) c) b;
        rest = map_set view xs number new;
        same = refl;
      }
