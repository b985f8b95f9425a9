-- An operation of a stripe is carried, and the open one goes on by its answer.
use Rattle.std.proofs.Common.{◌≡◌, inl, inr, ℕ, zero, suc, ◌+◌, ◌-◌, ◌*◌, ◌^◌, ◌<◌, ◌≤◌, List, [], ◌∷◌, length, set, Option, Some, None, nat_eq, true, false, refl, sym, ap, ◌∙◌, subst, arith, min}
use Rattle.std.specs.Prelude.{◌⊎◌, slice_get}
use Rattle.std.proofs.lemmas.Bool.Decides.{nat_tests}
use Rattle.std.proofs.lemmas.Bool.{cases_Bool}
use Rattle.std.proofs.Math.Nat.{mul-le-mul_left, mul-le-mul_right}
use Rattle.loglet_api.specs.declared.call.Answer.{Answer}
use Rattle.loglet_api.specs.declared.call.Answer.TheVariants.{Placed, Settled, OpenTail, SealedTail, SealDone, Got, CutAt, Beyond, TrimDone, Sealed, NoQuorum}
use Rattle.loglet_api.specs.declared.call.Task.{Task}
use Rattle.loglet_api.specs.declared.call.Task.TheVariants.{Placing, Settling, Finding, Sealing, Reading, Trimming}
use Rattle.loglet_api.specs.declared.call.LogletCall.TheVariants.{Carry, Take}
use Rattle.loglet_api.specs.declared.call.LogletAnswer.TheVariants.{Carried, Taken}
use Rattle.loglet_api.specs.View.{LogletView, Operation, operation_at}
use Rattle.loglet_api.specs.Sound.{IsSound}
use Rattle.loglet_api.specs.Step.{LogletStep, RoseBy, IsAtMost, IsBelow, Moves, Carries, TakesAnswer, HasLeft}
use Rattle.loglet_api.specs.Keeps.{Keeps}
use Rattle.loglet_api.proofs.Keeps.{step_keeps}
use Rattle.stripe_rule.specs.Stripes.{covered, share}
use Rattle.striped_loglet.specs.declared.marks.Marks.{Marks}
use Rattle.striped_loglet.specs.declared.plan.Stage.{Stage}
use Rattle.striped_loglet.specs.declared.plan.Stage.TheVariants.{First, Last}
use Rattle.striped_loglet.specs.declared.plan.Stage.TheVariants.{Sealing as SealingStage}
use Rattle.striped_loglet.specs.declared.plan.Heard.{Heard}
use Rattle.striped_loglet.specs.declared.plan.Heard.TheVariants.{On, Decided}
use Rattle.striped_loglet.specs.declared.stripe.Inner.{Inner}
use Rattle.striped_loglet.specs.Plans.{heard_by, IsUnspoken}
use Rattle.striped_loglet.specs.State.{Plain, State, rounds_behind, to_begin, left_of, sum_below, count_of, faults_of, down_of, loglet_of}
use Rattle.striped_loglet.specs.Going.{owed, owed_by, HasHeard, HasTold, IsFor, IsStripe, IsPending, IsGoing, IsAsked, IsLacking, Fits, IsShaped, IsStriped}
use Rattle.striped_loglet.proofs.Lists.{within, length_set, set_get, set_here, sum_below_put, covered_later}
use Rattle.striped_loglet.proofs.Sounds.{first_stripe}
use Rattle.striped_loglet.proofs.Laters.{Goes}
use Rattle.striped_loglet.proofs.Changes.{after, forward_same, StripeGoes, goes_set, goes_marks, with_marks, shaped_set, stripe_now, advances_same}
use Rattle.striped_loglet.proofs.Steps.{moved, moved_moves, moves_then}
use Rattle.striped_loglet.proofs.Carried.{now, Puts, put_here, put_there, IsFree, carried_striped, carried_moves, carried_falls}
use Rattle.striped_loglet.proofs.Rounds.{onward, Comes}
use Rattle.striped_loglet.proofs.Telling.{Answers, ends_of, is_told}

-- the operation by what it came to
abbrev pub told_by : Plain → Heard → Plain
told_by p (On plan) = onward p plan
told_by p (Decided answer) = record p { inner = None; answer = Some answer }

lacking_as : (n : State) (p : Plain) (a : Answer) (u : ℕ) → IsLacking n p u → IsLacking n (record p { inner = None; answer = Some a }) u
lacking_as n p a u h = record { enough = h.enough; servers = h.servers; faults = h.faults }

pub fits_as : (n : State) (p : Plain) (a : Answer) (task : Task) (answer : Answer) → Fits n p task answer → Fits n (record p { inner = None; answer = Some a }) task answer
fits_as n p a Placing (Placed q) h = h
fits_as n p a Placing Sealed h = h
fits_as n p a (Settling k) Settled h = h
fits_as n p a (Settling k) Sealed h = h
fits_as n p a Finding (OpenTail t) h = h
fits_as n p a Finding (SealedTail t) h = h
fits_as n p a Sealing SealDone h = h
fits_as n p a (Reading q) (Beyond k) h = h
fits_as n p a (Reading q) (Got e) h = h
fits_as n p a (Reading q) (CutAt k) h = h
fits_as n p a (Reading q) (NoQuorum u) h = (h.0, lacking_as n p a u h.1)
fits_as n p a (Trimming k) TrimDone h = h
fits_as n p a task (NoQuorum u) h = lacking_as n p a u h
fits_as n p a task answer h = absurd h

-- what was noted as it began
pub record Since (n : State) (t : ℕ) (p : Plain) : Type 0 where
  pub ticket : t < n.marks.begun
  pub size : p.asked.size ≤ n.marks.size
  pub placing : p.asked.task ≡ Placing → p.asked.size < n.marks.size
  pub reach : p.asked.reach ≤ n.marks.reach
  pub firm : p.asked.firm ≤ n.marks.firm
  pub before : length p.before ≡ count_of n
  pub shut : (i : ℕ) (b v : LogletView) → slice_get p.before i ≡ Some b → slice_get n.views i ≡ Some v → b.shut ≡ true → v.shut ≡ true
  pub faults : p.asked.faults ≤ faults_of n
  pub down : RoseBy (down_of n - p.asked.down) p.asked.faults (faults_of n)
  pub sealing : p.asked.task ≡ Sealing → 1 ≤ n.marks.seals
  pub trimming : (j : ℕ) → p.asked.task ≡ Trimming j → min j p.asked.reach ≤ n.marks.cut

pub since_later : (s n : State) (ends : ℕ → ℕ → Type 0) (t : ℕ) (p : Plain) → Goes s n ends → IsPending s t p → Since n t p
since_later s n ends t p g w =
    record {
      ticket = omega (arith, w.ticket, g.begun);
      size = omega (arith, w.size, g.size);
      placing = λ e. (let old = w.placing e in omega (arith, old, g.size));
      reach = omega (arith, w.reach, g.reach);
      firm = omega (arith, w.firm, g.firm);
      before = w.before ∙ sym g.count;
      shut = λ i b v was is s'. (let y = g.back i v is in y.2.shut (w.shut i b y.0 was y.1 s'));
      faults = omega (arith, w.faults, g.faults);
      down = down_then p.asked.down (down_of s) (down_of n) p.asked.faults (faults_of s) (faults_of n) w.down g.down;
      sealing = λ e. (let old = w.sealing e in omega (arith, old, g.seals));
      trimming = λ j e. (let old = w.trimming j e in omega (arith, old, g.cut));
    }
  where
    down_then : (a d n q f now : ℕ) → RoseBy (d - a) q f → RoseBy (n - d) f now → RoseBy (n - a) q now
    down_then a d n q f now h r = omega (arith, h, r)

pub decided_pending : (n : State) (t : ℕ) (p : Plain) (answer : Answer) → Since n t p → Fits n p p.asked.task answer → IsPending n t (record p { inner = None; answer = Some answer })
decided_pending n t p answer w f =
    record {
      ticket = w.ticket;
      size = w.size;
      placing = w.placing;
      reach = w.reach;
      firm = w.firm;
      before = w.before;
      shut = w.shut;
      faults = w.faults;
      down = w.down;
      sealing = w.sealing;
      trimming = w.trimming;
      going = λ e. absurd (cc);
      alone = λ a e. refl;
      told = λ a e. (let same : answer ≡ a = some_same answer a e in subst (λ (z : Answer). Fits n (record p { inner = None; answer = Some answer }) p.asked.task z) same (fits_as n p answer p.asked.task answer f));
    }
  where
    some_same : (a c : Answer) → Some a ≡ Some c → a ≡ c
    some_same a c h = cc

pub going_pending : (n : State) (t : ℕ) (p p' : Plain) → p'.asked ≡ p.asked → p'.before ≡ p.before → p'.answer ≡ None → Since n t p → IsGoing n p' → IsPending n t p'
going_pending n t p p' ea eb en w g =
    record {
      ticket = w.ticket;
      size = rw ea w.size;
      placing = rw ea w.placing;
      reach = rw ea w.reach;
      firm = rw ea w.firm;
      before = rw eb w.before;
      shut = rw eb w.shut;
      faults = rw ea w.faults;
      down = rw ea w.down;
      sealing = rw ea w.sealing;
      trimming = rw ea w.trimming;
      going = λ e. g;
      alone = λ a e. absurd (let clash : None ≡ Some a = sym en ∙ e in cc);
      told = λ a e. absurd (let clash : None ≡ Some a = sym en ∙ e in cc);
    }

heard_pending : (n : State) (t : ℕ) (p : Plain) (heard : Heard) → Since n t p → Comes n p heard → IsPending n t (told_by p heard)
heard_pending n t p (On plan) w h = going_pending n t p (onward p plan) refl refl refl w h.0
heard_pending n t p (Decided answer) w h = decided_pending n t p answer w h

heard_owes : (n : State) (p : Plain) (heard : Heard) → Comes n p heard → (i : ℕ) → owed i (Some (told_by p heard)) ≤ owed_by i None p.plan
heard_owes n p (On plan) h i = h.2 i
heard_owes n p (Decided answer) h i = omega arith

none_waits : (p : Plain) (heard : Heard) → (told_by p heard).inner ≡ None
none_waits p (On plan) = refl
none_waits p (Decided answer) = refl

heard_left : (n : State) (turn m : ℕ) (p : Plain) (x : Inner) (heard : Heard) → count_of n ≡ m → Comes n p heard → IsBelow (left_of turn m (told_by p heard).plan (told_by p heard).inner (told_by p heard).answer) (to_begin m p.plan * turn + (x.rounds + 1), x.steps)
heard_left n turn m p x (On plan) e h = (let a : to_begin m plan ≤ to_begin m p.plan = rw (← e) h.1 in let b : to_begin m plan * turn ≤ to_begin m p.plan * turn = mul-le-mul_right turn a in inl (omega (arith, b)))
heard_left n turn m p x (Decided answer) e h = inl (omega arith)

same_asked : (p : Plain) (heard : Heard) → ((told_by p heard).asked ≡ p.asked) × ((told_by p heard).before ≡ p.before)
same_asked p (On plan) = (refl, refl)
same_asked p (Decided answer) = (refl, refl)

at_most : (a b : ℕ × ℕ) → IsBelow a b → IsAtMost a b
at_most a b (inl l) = inl l
at_most a b (inr l) = inr (l.0, omega (arith, l.1))

pub covered_small : (m i firm room : ℕ) → firm ≤ room → m * room ≤ 2 ^ 32 → i < 8 → covered m i firm < 2 ^ 64 - 1
covered_small m i firm room l r k = let a : m * firm ≤ m * room = mul-le-mul_left m l in omega (arith, a, r, k)

firm_small : (s : State) → IsStriped s → (i : ℕ) (v : LogletView) → slice_get s.views i ≡ Some v → (w : LogletView) → w.room ≡ v.room → IsSound w → covered (count_of s) i w.firm < 2 ^ 64 - 1
firm_small s h i v is w e ok =
    let old = h.stripes i v is in
    let lt : i < count_of s = within s.views i v is in
    covered_small (count_of s) i w.firm v.room (let a = ok.firm in let b = ok.size in omega (arith, a, b, e)) (let a = old.room in let b = h.shaped.room.1 in omega (arith, a, b)) (let c = h.shaped.count.1 in omega (arith, lt, c))

taken_goes : (v w : LogletView) (t : ℕ) (answer : Answer) → IsSound v → IsSound w → Keeps v w → TakesAnswer v t answer w → StripeGoes v w (λ q. q ≡ t)
taken_goes v w t answer ov ow keeps h =
    record {
      keeps = keeps;
      down = (let d : w.down ≡ v.down = ap (λ (z : LogletView). z.down) h.rest in let f : w.faults ≡ v.faults = ap (λ (z : LogletView). z.faults) h.rest in let l = ov.faults in omega (arith, d, f, l));
      small = ow.faults;
      tickets = λ q o is stays. (let other : nat_eq t q ≡ false = elim (cases_Bool (nat_eq t q)) [ inl e ↦ absurd (stays (sym (grind (arith, nat_tests)))) | inr e ↦ e ] in
          let there : operation_at w.operations q ≡ Some o = h.closed q ∙ rw other is in
          rw there (advances_same (Some o)));
    }

-- what the stripe does is for this operation
abbrev IsForIt : Plain → ℕ → Inner → Operation → Type 0
IsForIt p m x o = IsFor p.asked.task p m x.stripe o o.task

-- a stripe's answer is taken
pub answer_taken : (s : State) (at : ℕ → Option Plain) (t : ℕ) (p : Plain) (x : Inner) (v w : LogletView) (answer : Answer) → IsStriped s → s.at t ≡ Some p → p.inner ≡ Some x → p.answer ≡ None → slice_get s.views x.stripe ≡ Some v → IsSound w → Keeps v w → TakesAnswer v x.ticket answer w
    → Puts s.at t (Some (told_by p (heard_by p.asked.task p.asked.size p.plan x.stripe (count_of s) answer))) at
    → IsStriped (now s (set s.views x.stripe w) at) × Moves (loglet_of s) (loglet_of (now s (set s.views x.stripe w) at))
    × IsBelow (left_of s.shape.turn (count_of s) (told_by p (heard_by p.asked.task p.asked.size p.plan x.stripe (count_of s) answer)).plan (told_by p (heard_by p.asked.task p.asked.size p.plan x.stripe (count_of s) answer)).inner (told_by p (heard_by p.asked.task p.asked.size p.plan x.stripe (count_of s) answer)).answer) (left_of s.shape.turn (count_of s) p.plan p.inner p.answer)
answer_taken s at t p x v w answer h is mine nothing here ow keeps take u =
    let n = now s (set s.views x.stripe w) at in
    let heard = heard_by p.asked.task p.asked.size p.plan x.stripe (count_of s) answer in
    let p' = told_by p heard in
    let pend = h.pending t p is in
    let g = pend.going nothing in
    let ok = h.stripes x.stripe v here in
    let e = take.rest in
    let cut : w.cut ≡ v.cut = ap (λ (z : LogletView). z.cut) e in
    let low : w.cut ≤ share (count_of s) x.stripe s.marks.cut = (let a = ok.cut in omega (arith, a, cut)) in
    let goes : Goes s n (ends_of x) = goes_set s x.stripe v w s.marks at (λ q. q ≡ x.ticket) h here (taken_goes v w x.ticket answer ok.sound ow keeps take) (forward_same s.marks) low in
    let asked = g.asks x v mine here in
    let same : take.operation ≡ asked.operation = some_op take.operation asked.operation (sym take.is ∙ asked.is) in
    let room : w.room ≡ v.room = ap (λ (z : LogletView). z.room) e in
    let told : Answers s n p x v w take.operation answer = record {
      striped = h;
      goes = goes;
      marks = refl;
      going = g;
      before = pend.before;
      asked = asked;
      mine = mine;
      was = here;
      is = set_here s.views x.stripe v w here;
      this = same;
      may = take.may;
      reach = ap (λ (z : LogletView). z.reach) e;
      firm = ap (λ (z : LogletView). z.firm) e;
      cap = ap (λ (z : LogletView). z.cap) e;
      shut = ap (λ (z : LogletView). z.shut) e;
      log = ap (λ (z : LogletView). z.log) e;
      cut = cut;
      seals = ap (λ (z : LogletView). z.seals) e;
      small = λ i y d. rw goes.count (elim (set_get s.views x.stripe i v w y here d) [
        | inl one ↦ subst (λ (z : LogletView). covered (count_of s) i z.firm < 2 ^ 64 - 1) one.1 (subst (λ (k : ℕ). covered (count_of s) k w.firm < 2 ^ 64 - 1) one.0 (firm_small s h x.stripe v here w room ow))
        | inr two ↦ firm_small s h i y two.1 y refl (h.stripes i y two.1).sound
      ]);
      shut_seals = λ k. (let a = ow.sealing k in let b : w.seals ≡ v.seals = ap (λ (z : LogletView). z.seals) e in ok.seals (omega (arith, a, b)));
    } in
    let for = subst (λ (z : Operation). IsForIt p (count_of s) x z) (sym same) asked.for in
    let comes' = is_told s n p x v w take.operation answer told p.asked.task refl for in
    let comes : Comes n p heard = subst (λ (m : ℕ). Comes n p (heard_by p.asked.task p.asked.size p.plan x.stripe m answer)) goes.count comes' in
    let mine' : IsPending n t p' = heard_pending n t p heard (since_later s n (ends_of x) t p goes pend) comes in
    let lt : t < s.marks.begun = pend.ticket in
    let owe : (i : ℕ) → sum_below (λ q. owed i (at q)) s.marks.begun + owed i (s.at t) ≡ sum_below (λ q. owed i (s.at q)) s.marks.begun + owed i (at t) = (λ i. sum_below_put (λ q. owed i (s.at q)) (λ q. owed i (at q)) t s.marks.begun lt (λ q z. ap (owed i) (put_there s.at at t q (Some p') u z))) in
    let was : (i : ℕ) → owed i (s.at t) ≡ owed_by i None p.plan = (λ i. ap (owed i) is ∙ ap (λ (a : Option Answer). owed_by i a p.plan) nothing) in
    let has : (i : ℕ) → owed i (at t) ≡ owed i (Some p') = (λ i. ap (owed i) (put_here s.at at t (Some p') u)) in
    let stripes : (i : ℕ) (y : LogletView) → slice_get (set s.views x.stripe w) i ≡ Some y → IsStripe n i y = (λ i y d. elim (set_get s.views x.stripe i v w y here d) [
      | inl one ↦ (let begun : w.begun ≡ v.begun = ap (λ (z : LogletView). z.begun) e in
          let log : w.log ≡ v.log = ap (λ (z : LogletView). z.log) e in
          let seals : w.seals ≡ v.seals = ap (λ (z : LogletView). z.seals) e in
          let it : IsStripe n x.stripe w = stripe_now s n x.stripe v w goes.count refl ok ow room (ap (λ (z : LogletView). z.rounds) e) (ap (λ (z : LogletView). z.limit) e)
          (rw (cut, log) ok.size) low (covered_later (count_of s) (count_of s) x.stripe v.reach w.reach s.marks.reach refl keeps.reach ok.reach) (covered_later (count_of s) (count_of s) x.stripe v.firm w.firm s.marks.firm refl keeps.firm ok.firm)
          (let a = ok.begun in let b = owe x.stripe in let c = was x.stripe in let k = has x.stripe in let l = heard_owes n p heard comes x.stripe in omega (arith, a, b, c, k, l, begun)) (rw seals ok.seals) in
          subst (λ (z : LogletView). IsStripe n i z) one.1 (subst (λ (k : ℕ). IsStripe n k w) one.0 it))
      | inr two ↦ (let old = h.stripes i y two.1 in
          stripe_now s n i y y goes.count refl old old.sound refl refl refl old.size old.cut old.reach old.firm
          (let a = old.begun in let b = owe i in let c = was i in let k = has i in let l = heard_owes n p heard comes i in omega (arith, a, b, c, k, l)) old.seals)
    ]) in
    let free : IsFree s.at t p'.inner = (λ q r y z d f ey ez es et. let clash : None ≡ Some z = sym (none_waits p heard) ∙ ez in absurd (cc)) in
    let all : IsStriped n = carried_striped s (set s.views x.stripe w) at (ends_of x) t p p' h goes is u
    (λ q r y d f ey k. d (h.apart t q p r x y is f mine ey k.0 (sym k.1)))
    (shaped_set s x.stripe v w s.marks at h.shaped here (ap (λ (z : LogletView). z.servers) e)) stripes mine' free in
    let less : IsBelow (left_of s.shape.turn (count_of s) p'.plan p'.inner p'.answer) (to_begin (count_of s) p.plan * s.shape.turn + (x.rounds + 1), x.steps) = heard_left n s.shape.turn (count_of s) p x heard goes.count comes in
    let less' : IsBelow (left_of s.shape.turn (count_of s) p'.plan p'.inner p'.answer) (left_of s.shape.turn (count_of s) p.plan p.inner p.answer) = rw (mine, nothing) less in
    let sa = same_asked p heard in
    (all, carried_moves s (set s.views x.stripe w) at (ends_of x) t p p' h all goes is u sa.0 sa.1 (at_most _ _ less'), less')
  where
    some_op : (a c : Operation) → Some a ≡ Some c → a ≡ c
    some_op a c e = cc

-- ---- carry

-- the shape holds whatever is open
pub shaped_same : (s : State) (marks : Marks) (at : ℕ → Option Plain) → IsShaped s → IsShaped (with_marks s marks at)
shaped_same s marks at h = record { count = h.count; servers = h.servers; few = h.few; room = h.room; rounds = h.rounds; turn = h.turn }

set_twice : {A : Type 0} (xs : List A) (j : ℕ) (a b : A) → set (set xs j a) j b ≡ set xs j b
set_twice [] j a b = refl
set_twice (x ∷ xs) zero a b = refl
set_twice (x ∷ xs) (suc j) a b = ap (λ ys. x ∷ ys) (set_twice xs j a b)

-- a stripe's operation, carried or not, is answered
pub carried_answer : (s : State) (at : ℕ → Option Plain) (t word : ℕ) (p : Plain) (x : Inner) (v mid w : LogletView) (answer : Answer) → IsStriped s → s.at t ≡ Some p → p.inner ≡ Some x → p.answer ≡ None → slice_get s.views x.stripe ≡ Some v
    → (mid ≡ v) ⊎ LogletStep v (Carry x.ticket word) Carried mid → LogletStep mid (Take x.ticket) (Taken (Some answer)) w → Puts s.at t (Some (told_by p (heard_by p.asked.task p.asked.size p.plan x.stripe (count_of s) answer))) at
    → IsStriped (now s (set s.views x.stripe w) at) × Carries (loglet_of s) t (loglet_of (now s (set s.views x.stripe w) at))
carried_answer s at t word p x v mid w answer h is mine nothing here (inl same) step u =
    let step' : LogletStep v (Take x.ticket) (Taken (Some answer)) w = subst (λ (z : LogletView). LogletStep z (Take x.ticket) (Taken (Some answer)) w) same step in
    let all = answer_taken s at t p x v w answer h is mine nothing here step'.after (step_keeps v (Take x.ticket) (Taken (Some answer)) w step') step'.does u in
    (all.0, record { moves = all.1; falls = carried_falls s (now s (set s.views x.stripe w) at) t p (told_by p (heard_by p.asked.task p.asked.size p.plan x.stripe (count_of s) answer)) h all.0 (length_set s.views x.stripe w) refl is (put_here s.at at t (Some (told_by p (heard_by p.asked.task p.asked.size p.plan x.stripe (count_of s) answer))) u) all.2 })
carried_answer s at t word p x v mid w answer h is mine nothing here (inr carry) step u =
    let mid' = after s x.stripe mid s.marks s.at in
    let keeps = step_keeps v (Carry x.ticket word) Carried mid carry in
    let first = moved s x.stripe v mid h here carry.after keeps carry.does.moves in
    let first' = moved_moves s x.stripe v mid h here carry.after keeps carry.does.moves in
    let there : slice_get (set s.views x.stripe mid) x.stripe ≡ Some mid = set_here s.views x.stripe v mid here in
    let count : count_of mid' ≡ count_of s = length_set s.views x.stripe mid in
    let heard = heard_by p.asked.task p.asked.size p.plan x.stripe (count_of s) answer in
    let u' : Puts mid'.at t (Some (told_by p (heard_by p.asked.task p.asked.size p.plan x.stripe (count_of mid') answer))) at = subst (λ (m : ℕ). Puts s.at t (Some (told_by p (heard_by p.asked.task p.asked.size p.plan x.stripe m answer))) at) (sym count) u in
    let all = answer_taken mid' at t p x mid w answer first is mine nothing there step.after (step_keeps mid (Take x.ticket) (Taken (Some answer)) w step) step.does u' in
    let e : set (set s.views x.stripe mid) x.stripe w ≡ set s.views x.stripe w = set_twice s.views x.stripe mid w in
    let less : IsBelow (left_of s.shape.turn (count_of s) (told_by p heard).plan (told_by p heard).inner (told_by p heard).answer) (left_of s.shape.turn (count_of s) p.plan p.inner p.answer) =
    subst (λ (m : ℕ). IsBelow (left_of s.shape.turn m (told_by p (heard_by p.asked.task p.asked.size p.plan x.stripe m answer)).plan (told_by p (heard_by p.asked.task p.asked.size p.plan x.stripe m answer)).inner (told_by p (heard_by p.asked.task p.asked.size p.plan x.stripe m answer)).answer) (left_of s.shape.turn m p.plan p.inner p.answer)) count all.2 in
    let striped : IsStriped (now s (set s.views x.stripe w) at) = subst (λ (views : List LogletView). IsStriped (now s views at)) e all.0 in
    let moves : Moves (loglet_of mid') (loglet_of (now s (set s.views x.stripe w) at)) = subst (λ (views : List LogletView). Moves (loglet_of mid') (loglet_of (now s views at))) e all.1 in (
      striped,
      record {
        moves = moves_then (loglet_of s) (loglet_of mid') (loglet_of (now s (set s.views x.stripe w) at)) first' moves;
        falls = carried_falls s (now s (set s.views x.stripe w) at) t p (told_by p heard) h striped (length_set s.views x.stripe w) refl is (put_here s.at at t (Some (told_by p heard)) u) less;
      },
    )

-- the operation is still under way
abbrev pub looked : Plain → Inner → Plain
looked p y = record p { inner = Some y; answer = None }

heard_look : (p : Plain) (y : Inner) (task : Task) (m i : ℕ) (v : LogletView) → HasHeard task p m i v → HasHeard task (looked p y) m i v
heard_look p y Placing m i v h = h
heard_look p y (Settling n) m i v h = h
heard_look p y Finding m i v h = by p.plan.stage refl h
  where
    by : (stage : Stage) → p.plan.stage ≡ stage → HasTold p.plan.stage p m i v → HasTold p.plan.stage (looked p y) m i v
    by First e k = rw e (rw e at k)
    by SealingStage e k = rw e (rw e at k)
    by Last e k = rw e (rw e at k)
heard_look p y Sealing m i v h = h
heard_look p y (Reading q) m i v h = tt
heard_look p y (Trimming n) m i v h = h

for_look : (p : Plain) (y : Inner) (task : Task) (m i : ℕ) (o : Operation) (mine : Task) → IsFor task p m i o mine → IsFor task (looked p y) m i o mine
for_look p y Placing m i o Placing h = h
for_look p y Placing m i o (Settling k) h = h
for_look p y (Settling n) m i o (Settling k) h = h
for_look p y Finding m i o mine h = h
for_look p y Sealing m i o mine h = h
for_look p y (Reading q) m i o mine h = h
for_look p y (Trimming n) m i o (Trimming k) h = tt
for_look p y task m i o mine h = absurd h

pub carried_going : (s : State) (at : ℕ → Option Plain) (t word : ℕ) (p : Plain) (x y : Inner) (v w : LogletView) → IsStriped s → s.at t ≡ Some p → p.inner ≡ Some x → p.answer ≡ None → slice_get s.views x.stripe ≡ Some v
    → LogletStep v (Carry x.ticket word) Carried w → y ≡ record x { rounds = y.rounds; steps = y.steps } → HasLeft w x.ticket y.rounds y.steps → Puts s.at t (Some (looked p y)) at
    → IsStriped (now s (set s.views x.stripe w) at) × Carries (loglet_of s) t (loglet_of (now s (set s.views x.stripe w) at))
carried_going s at t word p x y v w h is mine nothing here carry same left u =
    let mid = after s x.stripe w s.marks s.at in
    let n = now s (set s.views x.stripe w) at in
    let keeps = step_keeps v (Carry x.ticket word) Carried w carry in
    let first = moved s x.stripe v w h here carry.after keeps carry.does.moves in
    let first' = moved_moves s x.stripe v w h here carry.after keeps carry.does.moves in
    let there : slice_get (set s.views x.stripe w) x.stripe ≡ Some w = set_here s.views x.stripe v w here in
    let goes : Goes mid n (λ i q. ⊥) = goes_marks mid s.marks at first (forward_same s.marks) in
    let pend : IsPending mid t p = first.pending t p is in
    let g : IsGoing mid p = pend.going nothing in
    let a = g.asks x w mine there in
    let old = (h.pending t p is).going nothing in
    let b = old.asks x v mine here in
    let stripe : y.stripe ≡ x.stripe = ap (λ (z : Inner). z.stripe) same in
    let ticket : y.ticket ≡ x.ticket = ap (λ (z : Inner). z.ticket) same in
    let lf : left.operation ≡ a.operation = some_op left.operation a.operation (sym left.is ∙ a.is) in
    let le : a.operation.left ≡ (y.rounds, y.steps) = sym (ap (λ (o : Operation). o.left) lf) ∙ left.left in
    let small = carry.after.operations x.ticket a.operation a.is in
    let f = carry.does.falls in
    let fb : f.before ≡ b.operation = some_op f.before b.operation (sym f.was ∙ b.is) in
    let fa : f.after ≡ a.operation = some_op f.after a.operation (sym f.is ∙ a.is) in
    let lb : f.after.left ≡ (y.rounds, y.steps) = ap (λ (o : Operation). o.left) fa ∙ le in
    let lo : f.before.left ≡ b.operation.left = ap (λ (o : Operation). o.left) fb in
    let less : IsBelow (y.rounds, y.steps) (x.rounds, x.steps) = below_then (y.rounds, y.steps) b.operation.left (x.rounds, x.steps) (subst (λ (z : ℕ × ℕ). IsBelow z b.operation.left) lb (subst (λ (z : ℕ × ℕ). IsBelow f.after.left z) lo f.less)) b.left in
    let asked : IsAsked n (looked p y) x w = record {
      operation = a.operation;
      is = a.is;
      for = for_look p y p.asked.task (count_of n) x.stripe a.operation a.operation.task a.for;
      left = a.left;
      rounds = a.rounds;
      steps = a.steps;
      reach = a.reach;
      firm = a.firm;
      shut = a.shut;
      again = a.again;
      trims = a.trims;
      lack = a.lack;
    } in
    let asked' : IsAsked n (looked p y) y w = record {
      operation = a.operation;
      is = rw ticket a.is;
      for = subst (λ (k : ℕ). IsFor p.asked.task (looked p y) (count_of n) k a.operation a.operation.task) (sym stripe) asked.for;
      left = rw le (inr (refl, omega arith));
      rounds = (let r : a.operation.left.0 ≡ y.rounds = ap (λ (z : ℕ × ℕ). z.0) le in let q = small.rounds in omega (arith, r, q));
      steps = (let r : a.operation.left.1 ≡ y.steps = ap (λ (z : ℕ × ℕ). z.1) le in let q = small.steps in omega (arith, r, q));
      reach = rw stripe a.reach;
      firm = rw stripe a.firm;
      shut = rw stripe a.shut;
      again = a.again;
      trims = λ j e. rw stripe (a.trims j e);
      lack = a.lack;
    } in
    let going : IsGoing n (looked p y) = record {
      next = g.next;
      stage = g.stage;
      waits = λ e. absurd (cc);
      skips = λ e k. absurd (cc);
      single = λ q e k. absurd (cc);
      sealing = g.sealing;
      done = λ i z d k. heard_look p y p.asked.task (count_of n) i z (g.done i z d (record { asked = k.asked; told = λ c e. (let o : x ≡ c = some_inner x c (sym mine ∙ e) in λ j. k.told y refl (j ∙ ap (λ (q : Inner). q.stripe) (sym o) ∙ sym stripe)) }));
      above = g.above;
      all_shut = g.all_shut;
      capped = g.capped;
      tail = g.tail;
      inner = λ c e. (let o : y ≡ c = some_inner y c e in subst (λ (k : Inner). k.stripe < count_of n) o (rw stripe (g.inner x mine)));
      asks = λ c z e d. (let o : y ≡ c = some_inner y c e in
          let d' : slice_get n.views x.stripe ≡ Some z = subst (λ (k : ℕ). slice_get n.views k ≡ Some z) (ap (λ (q : Inner). q.stripe) (sym o) ∙ stripe) d in
          let o' : w ≡ z = some_view w z (sym there ∙ d') in
          subst (λ (k : Inner). IsAsked n (looked p y) k z) o (subst (λ (k : LogletView). IsAsked n (looked p y) y k) o' asked'));
    } in
    let mine' : IsPending n t (looked p y) = going_pending n t p (looked p y) refl refl refl (since_later mid n (λ i q. ⊥) t p goes pend) going in
    let lt : t < s.marks.begun = pend.ticket in
    let stripes : (i : ℕ) (z : LogletView) → slice_get n.views i ≡ Some z → IsStripe n i z = (λ i z d.
    let ok = first.stripes i z d in
    let owe : sum_below (λ q. owed i (at q)) s.marks.begun + owed i (s.at t) ≡ sum_below (λ q. owed i (s.at q)) s.marks.begun + owed i (at t) = sum_below_put (λ q. owed i (s.at q)) (λ q. owed i (at q)) t s.marks.begun lt (λ q c. ap (owed i) (put_there s.at at t q (Some (looked p y)) u c)) in
    let was : owed i (s.at t) ≡ owed_by i None p.plan = ap (owed i) is ∙ ap (λ (a : Option Answer). owed_by i a p.plan) nothing in
    let has : owed i (at t) ≡ owed_by i None p.plan = ap (owed i) (put_here s.at at t (Some (looked p y)) u) in
    stripe_now mid n i z z refl refl ok ok.sound refl refl refl ok.size ok.cut ok.reach ok.firm (let c = ok.begun in omega (arith, c, owe, was, has)) ok.seals) in
    let free : IsFree s.at t (Some y) = (λ q r c d e f ec ed es et. let o : y ≡ d = some_inner y d ed in
    e (h.apart t q p r x c is f mine ec (sym stripe ∙ ap (λ (k : Inner). k.stripe) o ∙ es) (sym ticket ∙ ap (λ (k : Inner). k.ticket) o ∙ et))) in
    let all : IsStriped n = carried_striped mid (set s.views x.stripe w) at (λ i q. ⊥) t p (looked p y) first goes is u (λ q r c d e f k. k) (shaped_same mid s.marks at first.shaped) stripes mine' free in
    let less' : IsBelow (left_of s.shape.turn (count_of s) p.plan (Some y) None) (left_of s.shape.turn (count_of s) p.plan p.inner p.answer) = rw (mine, nothing) (below_turns (to_begin (count_of s) p.plan * s.shape.turn) x y less) in
    let count : count_of mid ≡ count_of s = length_set s.views x.stripe w in
    let less'' : IsAtMost (left_of s.shape.turn (count_of mid) p.plan (Some y) None) (left_of s.shape.turn (count_of mid) p.plan p.inner p.answer) = rw count (at_most _ _ less') in (
      all,
      record {
        moves = moves_then (loglet_of s) (loglet_of mid) (loglet_of n) first' (carried_moves mid (set s.views x.stripe w) at (λ i q. ⊥) t p (looked p y) first all goes is u refl refl less'');
        falls = carried_falls s n t p (looked p y) h all count refl is (put_here s.at at t (Some (looked p y)) u) less';
      },
    )
  where
    some_op : (a c : Operation) → Some a ≡ Some c → a ≡ c
    some_op a c e = cc

    some_inner : (a c : Inner) → Some a ≡ Some c → a ≡ c
    some_inner a c e = cc

    some_view : (a c : LogletView) → Some a ≡ Some c → a ≡ c
    some_view a c e = cc

    below_then : (a b c : ℕ × ℕ) → IsBelow a b → IsAtMost b c → IsBelow a c
    below_then a b c (inl l) (inl m) = inl (omega arith)
    below_then a b c (inl l) (inr m) = inl (omega (arith, m.0))
    below_then a b c (inr l) (inl m) = inl (omega (arith, l.0))
    below_then a b c (inr l) (inr m) = inr (l.0 ∙ m.0, omega (arith, l.1, m.1))

    below_turns : (turns : ℕ) (x y : Inner) → IsBelow (y.rounds, y.steps) (x.rounds, x.steps) → IsBelow (turns + (y.rounds + 1), y.steps) (turns + (x.rounds + 1), x.steps)
    below_turns turns x y (inl l) = inl (omega arith)
    below_turns turns x y (inr l) = inr (omega (arith, l.0), l.1)

-- a Read of a position of which no answer had spoken
pub carried_beyond : (s : State) (at : ℕ → Option Plain) (t : ℕ) (p : Plain) → IsStriped s → s.at t ≡ Some p → p.inner ≡ None → p.answer ≡ None → IsUnspoken p.asked.task p.asked.firm
    → Puts s.at t (Some (record p { inner = None; answer = Some (Beyond p.asked.firm) })) at → IsStriped (now s s.views at) × Carries (loglet_of s) t (loglet_of (now s s.views at))
carried_beyond s at t p h is none nothing spoken u =
    let n = now s s.views at in
    let p' = record p { inner = None; answer = Some (Beyond p.asked.firm) } in
    let goes : Goes s n (λ i q. ⊥) = goes_marks s s.marks at h (forward_same s.marks) in
    let pend = h.pending t p is in
    let g = pend.going nothing in
    let mine' : IsPending n t p' = decided_pending n t p (Beyond p.asked.firm) (since_later s n (λ i q. ⊥) t p goes pend) (beyond n p p.asked.task spoken) in
    let lt : t < s.marks.begun = pend.ticket in
    let stripes : (i : ℕ) (z : LogletView) → slice_get s.views i ≡ Some z → IsStripe n i z = (λ i z d.
    let ok = h.stripes i z d in
    let owe : sum_below (λ q. owed i (at q)) s.marks.begun + owed i (s.at t) ≡ sum_below (λ q. owed i (s.at q)) s.marks.begun + owed i (at t) = sum_below_put (λ q. owed i (s.at q)) (λ q. owed i (at q)) t s.marks.begun lt (λ q c. ap (owed i) (put_there s.at at t q (Some p') u c)) in
    let has : owed i (at t) ≡ 0 = ap (owed i) (put_here s.at at t (Some p') u) in
    stripe_now s n i z z refl refl ok ok.sound refl refl refl ok.size ok.cut ok.reach ok.firm (let c = ok.begun in omega (arith, c, owe, has)) ok.seals) in
    let free : IsFree s.at t None = (λ q r c d e f ec ed es et. absurd (cc)) in
    let all : IsStriped n = carried_striped s s.views at (λ i q. ⊥) t p p' h goes is u (λ q r c d e f k. k) (shaped_same s s.marks at h.shaped) stripes mine' free in
    let turns : 1 ≤ to_begin (count_of s) p.plan * s.shape.turn = turn_left (rounds_behind p.plan.stage * count_of s) (count_of s) p.plan.next s.shape.turn (g.waits none) (some_turn s h) in
    let less : IsBelow (0, 0) (left_of s.shape.turn (count_of s) p.plan p.inner p.answer) = rw (none, nothing) (inl (omega (arith, turns))) in (
      all,
      record {
        moves = carried_moves s s.views at (λ i q. ⊥) t p p' h all goes is u refl refl (at_most _ _ less);
        falls = carried_falls s n t p p' h all refl refl is (put_here s.at at t (Some p') u) less;
      },
    )
  where
    beyond : (n : State) (p : Plain) (task : Task) → IsUnspoken task p.asked.firm → Fits n p task (Beyond p.asked.firm)
    beyond n p (Reading q) h = (h, refl)
    beyond n p Placing h = absurd h
    beyond n p (Settling k) h = absurd h
    beyond n p Finding h = absurd h
    beyond n p Sealing h = absurd h
    beyond n p (Trimming k) h = absurd h

    turn_left : (r m next turn : ℕ) → next < m → 1 ≤ turn → 1 ≤ (r + (m - next)) * turn
    turn_left r m next turn l k = let a : 1 * turn ≤ (r + (m - next)) * turn = mul-le-mul_right turn (omega arith) in omega (arith, a, k)

    some_turn : (s : State) → IsStriped s → 1 ≤ s.shape.turn
    some_turn s h = let f = first_stripe s h in let a = (h.stripes 0 f.0 f.1).rounds in omega (arith, a)
