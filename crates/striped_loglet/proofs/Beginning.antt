-- An operation of a stripe begins for an open one.
use Rattle.std.proofs.Common.{◌≡◌, ◌≢◌, inl, inr, ℕ, suc, ◌+◌, ◌-◌, ◌*◌, ◌<◌, ◌≤◌, [], length, drop, set, Option, Some, None, nat_eq, nat_lt, true, false, refl, sym, ap, ◌∙◌, subst, arith, min, max, length-append, length-drop}
use Rattle.std.specs.Prelude.{◌⊎◌, slice_get, if◌then◌else◌}
use Rattle.std.proofs.lemmas.Bool.Decides.{nat_tests}
use Rattle.std.proofs.lemmas.Bool.{cases_Bool, cases_lt}
use Rattle.std.proofs.Math.Nat.{mul-le-mul_right}
use Rattle.loglet_api.specs.declared.call.Answer.{Answer}
use Rattle.loglet_api.specs.declared.call.Op.{Op}
use Rattle.loglet_api.specs.declared.call.Op.TheVariants.{Append, Settle, Tail, Seal, Read, Trim}
use Rattle.loglet_api.specs.declared.call.Task.{Task}
use Rattle.loglet_api.specs.declared.call.Task.TheVariants.{Placing, Settling, Finding, Sealing, Reading, Trimming}
use Rattle.loglet_api.specs.View.{LogletView, Operation, operation_at, size_of}
use Rattle.loglet_api.specs.Sound.{IsSound}
use Rattle.loglet_api.specs.Step.{RoseBy, IsAtMost, IsBelow, Carries, Begins, HasLeft, IsAppend, IsFull, begun_operation, entries_of, cut_by, seals_of, task_of}
use Rattle.loglet_api.specs.Keeps.{Keeps}
use Rattle.stripe_rule.specs.Stripes.{share}
use Rattle.stripe_rule.proofs.Shares.{share_least}
use Rattle.striped_loglet.specs.declared.plan.Plan.{Plan}
use Rattle.striped_loglet.specs.declared.plan.Stage.{Stage}
use Rattle.striped_loglet.specs.declared.plan.Stage.TheVariants.{First, Last}
use Rattle.striped_loglet.specs.declared.plan.Stage.TheVariants.{Sealing as SealingStage}
use Rattle.striped_loglet.specs.declared.stripe.Inner.{Inner}
use Rattle.striped_loglet.specs.Plans.{target_of, asked_of, finding_of, next_behind, plan_behind, IsUnspoken}
use Rattle.striped_loglet.specs.State.{Plain, State, rounds_behind, to_begin, left_of, sum_below, count_of, faults_of, down_of, loglet_of}
use Rattle.striped_loglet.specs.Going.{owed, owed_by, IsStripe, IsOwn, HasTold, HasHeard, IsFor, IsPending, IsGoing, IsDone, IsAsked, IsStriped}
use Rattle.striped_loglet.proofs.Lists.{within, length_set, set_get, set_here, total_at, sum_below_put, sum_below_at}
use Rattle.striped_loglet.proofs.Joins.{own_below}
use Rattle.striped_loglet.proofs.Laters.{Goes, pending_later, going_later, heard_later}
use Rattle.striped_loglet.proofs.Changes.{forward_same, StripeGoes, at_stripe, goes_set, shaped_set, stripe_now, share_rises, advances_same}
use Rattle.striped_loglet.proofs.Carried.{now, Puts, put_here, put_there, IsFree, carried_striped, carried_moves, carried_falls}

-- the operation with its next stripe asked
abbrev pub asking : Plain → ℕ → Inner → Plain
asking p count x = record p { plan = plan_behind p.asked.task count p.plan; inner = Some x; answer = None }

begins_goes : (v w : LogletView) (op : Op) (t : ℕ) → IsSound v → IsSound w → Keeps v w → Begins v op t w → StripeGoes v w (λ q. ⊥)
begins_goes v w op t ov ow keeps b =
    record {
      keeps = keeps;
      down = (let d : w.down ≡ v.down = ap (λ (z : LogletView). z.down) b.rest in let f : w.faults ≡ v.faults = ap (λ (z : LogletView). z.faults) b.rest in omega (arith, d, f));
      small = ow.faults;
      tickets = λ q o is stays. (let older : q < v.begun = (ov.operations q o is).ticket in
          let e : t ≡ v.begun = b.ticket in
          let other : nat_eq t q ≡ false = grind (arith, nat_tests) in
          let there : operation_at w.operations q ≡ Some o = b.operation q ∙ rw other is in
          rw there (advances_same (Some o)));
    }

-- a Trim of a stripe lets go of no more than its share
cut_small : (op : Op) (cut reach most : ℕ) → cut ≤ most → ((n : ℕ) → op ≡ Trim n → n ≤ most) → cut_by op cut reach ≤ most
cut_small (Trim n) cut reach most l h = let k : n ≤ most = h n refl in omega (arith, k, l)
cut_small (Append e) cut reach most l h = l
cut_small (Settle n) cut reach most l h = l
cut_small Tail cut reach most l h = l
cut_small Seal cut reach most l h = l
cut_small (Read p) cut reach most l h = l

cut_within : (op : Op) (cut reach : ℕ) → cut ≤ reach → (cut ≤ cut_by op cut reach) × (cut_by op cut reach ≤ reach)
cut_within (Trim n) cut reach l = (omega arith, omega arith)
cut_within (Append e) cut reach l = (omega arith, l)
cut_within (Settle n) cut reach l = (omega arith, l)
cut_within Tail cut reach l = (omega arith, l)
cut_within Seal cut reach l = (omega arith, l)
cut_within (Read p) cut reach l = (omega arith, l)

pub begun_size : (v w : LogletView) (op : Op) (t : ℕ) → IsSound v → Begins v op t w → size_of w ≡ size_of v + length (entries_of op)
begun_size v w op t ok b =
    let within = cut_within op v.cut v.reach ok.cut in
    let c : w.cut ≡ cut_by op v.cut v.reach = ap (λ (z : LogletView). z.cut) b.rest in
    let l : length w.log ≡ length (drop (cut_by op v.cut v.reach - v.cut) v.log) + length (entries_of op) = ap (λ (z : LogletView). length z.log) b.rest ∙ length-append (drop (cut_by op v.cut v.reach - v.cut) v.log) (entries_of op) in
    let d : length (drop (cut_by op v.cut v.reach - v.cut) v.log) ≡ length v.log - (cut_by op v.cut v.reach - v.cut) = length-drop (cut_by op v.cut v.reach - v.cut) v.log in
    omega (arith, c, l, d, within.0, within.1, ok.cut, ok.reach, ok.firm)

-- what is asked of a stripe adds nothing, trims no more than its share, and seals where a Seal was begun or a stripe is sealed
record IsModest (op : Op) (most begun : ℕ) : Type 0 where
  adds : entries_of op ≡ []
  append : ¬ (IsAppend op)
  trims : (n : ℕ) → op ≡ Trim n → n ≤ most
  seals : (seals_of op ≡ 0) ⊎ (1 ≤ begun)

trim_same : (a b : ℕ) → Trim a ≡ Trim b → a ≡ b
trim_same a b h = cc

modest : (s : State) (p : Plain) (i t : ℕ) → IsPending s t p → IsGoing s p → (task : Task) → p.asked.task ≡ task → IsModest (asked_of task p.asked.size p.plan.stage s.marks.cut i (count_of s)) (share (count_of s) i s.marks.cut) s.marks.seals
modest s p i t w g Placing e = record { adds = refl; append = λ x. x; trims = λ n h. absurd (cc); seals = inl refl }
modest s p i t w g (Settling k) e = record { adds = refl; append = λ x. x; trims = λ n h. absurd (cc); seals = inl refl }
modest s p i t w g Finding e = by p.plan.stage refl
  where
    by : (stage : Stage) → p.plan.stage ≡ stage → IsModest (finding_of stage) (share (count_of s) i s.marks.cut) s.marks.seals
    by First f = record { adds = refl; append = λ x. x; trims = λ n h. absurd (cc); seals = inl refl }
    by SealingStage f = record { adds = refl; append = λ x. x; trims = λ n h. absurd (cc); seals = inr (g.sealing f) }
    by Last f = record { adds = refl; append = λ x. x; trims = λ n h. absurd (cc); seals = inl refl }
modest s p i t w g Sealing e = record { adds = refl; append = λ x. x; trims = λ n h. absurd (cc); seals = inr (w.sealing e) }
modest s p i t w g (Reading q) e = record { adds = refl; append = λ x. x; trims = λ n h. absurd (cc); seals = inl refl }
modest s p i t w g (Trimming k) e = record { adds = refl; append = λ x. x; trims = λ n h. (let same : share (count_of s) i s.marks.cut ≡ n = trim_same (share (count_of s) i s.marks.cut) n h in omega (arith, same)); seals = inl refl }

-- the stripe that is asked
pub target_below : (count : ℕ) (plan : Plan) (task : Task) → 0 < count → plan.next < count → target_of task count plan < count
target_below count plan (Reading q) some l = own_below count q some
target_below count plan Placing some l = l
target_below count plan (Settling n) some l = l
target_below count plan Finding some l = l
target_below count plan Sealing some l = l
target_below count plan (Trimming n) some l = l

next_within : (count : ℕ) (next : ℕ) (task : Task) → next < count → (next < next_behind task count next) × (next_behind task count next ≤ count)
next_within count next (Reading q) l = (l, omega arith)
next_within count next Placing l = (omega arith, omega arith)
next_within count next (Settling n) l = (omega arith, omega arith)
next_within count next Finding l = (omega arith, omega arith)
next_within count next Sealing l = (omega arith, omega arith)
next_within count next (Trimming n) l = (omega arith, omega arith)

-- the debt to each stripe falls as it is asked, and to the others it doesn't rise
abbrev owed_rest : ℕ → ℕ → ℕ
owed_rest i next = if nat_lt i next then 0 else 1

rest_falls : (i a b : ℕ) → a ≤ b → owed_rest i b ≤ owed_rest i a
rest_falls i a b l =
    elim (cases_Bool (nat_lt i a)) [
      | inl x ↦ (let y : nat_lt i b ≡ true = grind (arith, nat_tests) in rw (x, y) (omega arith))
      | inr x ↦ rw x (most i b)
    ]
  where
    most : (i b : ℕ) → owed_rest i b ≤ 1
    most i b = elim (cases_Bool (nat_lt i b)) [ inl y ↦ rw y (omega arith) | inr y ↦ rw y (omega arith) ]

rest_paid : (i a b : ℕ) → a ≤ i → i < b → owed_rest i b + 1 ≡ owed_rest i a
rest_paid i a b l k = let x : nat_lt i a ≡ false = grind (arith, nat_tests) in let y : nat_lt i b ≡ true = grind (arith, nat_tests) in rw (x, y) refl

target_between : (s : State) (p : Plain) → IsGoing s p → p.inner ≡ None → 0 < count_of s → (task : Task) → p.asked.task ≡ task
    → (p.plan.next ≤ target_of task (count_of s) p.plan) × (target_of task (count_of s) p.plan < next_behind task (count_of s) p.plan.next)
target_between s p g none some (Reading q) e = let z : p.plan.next ≡ 0 = g.single q e none in (omega (arith, z), own_below (count_of s) q some)
target_between s p g none some Placing e = (omega arith, omega arith)
target_between s p g none some (Settling n) e = (omega arith, omega arith)
target_between s p g none some Finding e = (omega arith, omega arith)
target_between s p g none some Sealing e = (omega arith, omega arith)
target_between s p g none some (Trimming n) e = (omega arith, omega arith)

-- what was heard in this round stays heard
heard_as : (p : Plain) (count : ℕ) (x : Inner) (task : Task) (m i : ℕ) (v : LogletView) → HasHeard task p m i v → HasHeard task (asking p count x) m i v
heard_as p count x Placing m i v h = h
heard_as p count x (Settling n) m i v h = h
heard_as p count x Finding m i v h = told_as p.plan.stage refl h
  where
    told_as : (stage : Stage) → p.plan.stage ≡ stage → HasTold p.plan.stage p m i v → HasTold p.plan.stage (asking p count x) m i v
    told_as First e k = rw e (rw e at k)
    told_as SealingStage e k = rw e (rw e at k)
    told_as Last e k = rw e (rw e at k)
heard_as p count x Sealing m i v h = h
heard_as p count x (Reading q) m i v h = tt
heard_as p count x (Trimming n) m i v h = h

-- a stripe that was asked, but for the one that is under way, had answered before
done_before : (p : Plain) (count : ℕ) (x : Inner) (task : Task) (i : ℕ) → p.asked.task ≡ task → x.stripe ≡ target_of task count p.plan → p.inner ≡ None → (i < next_behind task count p.plan.next) ⊎ IsOwn task p.asked.size count i → i ≢ x.stripe
    → ((q : ℕ) → task ≡ Reading q → ⊥) → IsDone p count i
done_before p count x (Reading q) i e t none h other never = absurd (never q refl)
done_before p count x Placing i e t none (inl l) other never = record { asked = inl (omega (arith, l, t, other)); told = λ y k. absurd (cc) }
done_before p count x Placing i e t none (inr o) other never = record { asked = inr (rw e o); told = λ y k. absurd (cc) }
done_before p count x (Settling n) i e t none (inl l) other never = record { asked = inl (omega (arith, l, t, other)); told = λ y k. absurd (cc) }
done_before p count x (Settling n) i e t none (inr o) other never = absurd o
done_before p count x Finding i e t none (inl l) other never = record { asked = inl (omega (arith, l, t, other)); told = λ y k. absurd (cc) }
done_before p count x Finding i e t none (inr o) other never = absurd o
done_before p count x Sealing i e t none (inl l) other never = record { asked = inl (omega (arith, l, t, other)); told = λ y k. absurd (cc) }
done_before p count x Sealing i e t none (inr o) other never = absurd o
done_before p count x (Trimming n) i e t none (inl l) other never = record { asked = inl (omega (arith, l, t, other)); told = λ y k. absurd (cc) }
done_before p count x (Trimming n) i e t none (inr o) other never = absurd o

-- what the stripe does is for this operation
for_asked : (s : State) (t : ℕ) (p : Plain) (v : LogletView) (x : Inner) (left : ℕ × ℕ) → IsStriped s → IsPending s t p → IsGoing s p → p.inner ≡ None → ¬ (IsUnspoken p.asked.task p.asked.firm) → x.stripe < count_of s → IsStripe s x.stripe v
    → (task : Task) → p.asked.task ≡ task → x.stripe ≡ target_of task (count_of s) p.plan → (op : Op) → op ≡ asked_of task p.asked.size p.plan.stage s.marks.cut x.stripe (count_of s)
    → IsFor task (asking p (count_of s) x) (count_of s) x.stripe (begun_operation v op left) (task_of op)
for_asked s t p v x left h w g none spoken l ok Placing e st op eo =
    rw eo (λ k. g.skips none e (sym st ∙ k), refl, (let up = share_rises (count_of s) x.stripe p.asked.size s.marks.size l w.size in omega (arith, up, ok.size)))
for_asked s t p v x left h w g none spoken l ok (Settling n) e st op eo =
    rw eo (refl, (let up = share_rises (count_of s) x.stripe (min n p.asked.size) s.marks.size l (let z = w.size in omega (arith, z)) in omega (arith, up, ok.size)))
for_asked s t p v x left h w g none spoken l ok Finding e st op eo = ap task_of eo
for_asked s t p v x left h w g none spoken l ok Sealing e st op eo = ap task_of eo
for_asked s t p v x left h w g none spoken l ok (Reading q) e st op eo =
    (ap task_of eo, st, elim (cases_lt q p.asked.firm) [ inl lt ↦ lt | inr le ↦ absurd (spoken (rw e le)) ])
for_asked s t p v x left h w g none spoken l ok (Trimming n) e st op eo = rw eo tt

lack_now : (D d a q f now : ℕ) → d ≤ D → RoseBy (D - a) q now → RoseBy ((d - a) + (f - f)) q now
lack_now D d a q f now l h = omega (arith, l, h)

left_before : (s : State) (p : Plain) (x : Inner) → (to_begin (count_of s) (plan_behind p.asked.task (count_of s) p.plan) < to_begin (count_of s) p.plan) → x.rounds + 2 ≤ s.shape.turn
    → IsBelow (to_begin (count_of s) (plan_behind p.asked.task (count_of s) p.plan) * s.shape.turn + (x.rounds + 1), x.steps) (to_begin (count_of s) p.plan * s.shape.turn, 0)
left_before s p x less few = inl (by (to_begin (count_of s) (plan_behind p.asked.task (count_of s) p.plan)) (to_begin (count_of s) p.plan) s.shape.turn x.rounds less few)
  where
    by : (a b turn rounds : ℕ) → a < b → rounds + 2 ≤ turn → a * turn + (rounds + 1) < b * turn
    by a b turn rounds l f = let m : suc a * turn ≤ b * turn = mul-le-mul_right turn l in let e : suc a * turn ≡ a * turn + turn = omega arith in omega (arith, m, e, f)

turns_fall : (count : ℕ) (plan : Plan) (task : Task) → plan.next < count → to_begin count (plan_behind task count plan) < to_begin count plan
turns_fall count plan task l = let w = next_within count plan.next task l in by (rounds_behind plan.stage * count) count plan.next (next_behind task count plan.next) l w.0 w.1
  where
    by : (r count a b : ℕ) → a < count → a < b → b ≤ count → r + (count - b) < r + (count - a)
    by r count a b l k m = omega arith

-- what holds of the operation once a stripe began for it
going_begun : (s : State) (at : ℕ → Option Plain) (t : ℕ) (p : Plain) (v w : LogletView) (x : Inner) (op : Op) → IsStriped s → IsPending s t p → IsGoing s p → p.inner ≡ None → ¬ (IsUnspoken p.asked.task p.asked.firm) → slice_get s.views x.stripe ≡ Some v
    → x.stripe ≡ target_of p.asked.task (count_of s) p.plan → op ≡ asked_of p.asked.task p.asked.size p.plan.stage s.marks.cut x.stripe (count_of s) → IsSound w → Begins v op x.ticket w → HasLeft w x.ticket x.rounds x.steps
    → Goes s (now s (set s.views x.stripe w) at) (at_stripe x.stripe (λ q. ⊥)) → IsGoing (now s (set s.views x.stripe w) at) (asking p (count_of s) x)
going_begun s at t p v w x op h pend g none spoken is st eo ow b left goes =
    let n = now s (set s.views x.stripe w) at in
    let ends = at_stripe x.stripe (λ q. ⊥) in
    let later : IsGoing n p = going_later s n ends p h goes (λ y d k. k.1) g in
    let next = next_within (count_of s) p.plan.next p.asked.task (g.waits none) in
    let same : nat_eq x.ticket x.ticket ≡ true = grind (arith, nat_tests) in
    let here : operation_at w.operations x.ticket ≡ Some (begun_operation v op b.left) = b.operation x.ticket ∙ rw same refl in
    let lf : left.operation ≡ begun_operation v op b.left = some_op left.operation (begun_operation v op b.left) (sym left.is ∙ here) in
    let le : b.left ≡ (x.rounds, x.steps) = sym (ap (λ (o : Operation). o.left) lf) ∙ left.left in
    let ok = h.stripes x.stripe v is in
    let small = ow.operations x.ticket (begun_operation v op b.left) here in
    let lt : x.stripe < count_of s = within s.views x.stripe v is in
    let most : v.down ≤ down_of s = total_at (λ z. z.down) s.views x.stripe v is in
    let asked : IsAsked n (asking p (count_of s) x) x w = record {
      operation = begun_operation v op b.left;
      is = here;
      for = rw goes.count (for_asked s t p v x b.left h pend g none spoken lt ok p.asked.task refl st op eo);
      left = rw le (inr (refl, omega arith));
      rounds = (let r : b.left.0 ≡ x.rounds = ap (λ (z : ℕ × ℕ). z.0) le in let q = small.rounds in omega (arith, r, q));
      steps = (let r : b.left.1 ≡ x.steps = ap (λ (z : ℕ × ℕ). z.1) le in let q = small.steps in omega (arith, r, q));
      reach = rw goes.count (let a = ok.reach in let c = pend.reach in omega (arith, a, c));
      firm = rw goes.count (let a = ok.firm in let c = pend.firm in omega (arith, a, c));
      shut = λ c k s'. pend.shut x.stripe c v k is s';
      again = λ f l. g.all_shut f l x.stripe v is;
      trims = λ j e. (let op_is : op ≡ Trim (share (count_of s) x.stripe s.marks.cut) = eo ∙ ap (λ (task : Task). asked_of task p.asked.size p.plan.stage s.marks.cut x.stripe (count_of s)) e in
          let cut : w.cut ≡ cut_by op v.cut v.reach = ap (λ (z : LogletView). z.cut) b.rest in
          let cut' : cut_by op v.cut v.reach ≡ max v.cut (min (share (count_of s) x.stripe s.marks.cut) v.reach) = ap (λ (o : Op). cut_by o v.cut v.reach) op_is in
          let up : share (count_of s) x.stripe (min j p.asked.reach) ≤ share (count_of s) x.stripe s.marks.cut = share_rises (count_of s) x.stripe (min j p.asked.reach) s.marks.cut lt (pend.trimming j e) in
          let low : share (count_of s) x.stripe s.marks.cut ≤ v.reach = share_least (count_of s) x.stripe s.marks.cut v.reach lt (let a = h.cut in let d = ok.reach in omega (arith, a, d)) in
          rw goes.count (omega (arith, cut, cut', up, low)));
      lack = (let f : w.faults ≡ v.faults = ap (λ (z : LogletView). z.faults) b.rest in lack_here v.down p.asked.down v.faults w.faults (down_of s) p.asked.faults (faults_of s) (faults_of n) f most pend.down goes.faults);
    } in
    record {
      next = rw goes.count next.1;
      stage = g.stage;
      waits = λ e. absurd (cc);
      skips = λ e f. absurd (cc);
      single = λ q e f. absurd (cc);
      sealing = later.sealing;
      done = λ i y d k. done_now p.asked.task refl i y d k;
      above = later.above;
      all_shut = later.all_shut;
      capped = later.capped;
      tail = later.tail;
      inner = λ y e. (let z : x ≡ y = some_inner x y e in rw (goes.count, ← z) lt);
      asks = λ y u e d. (let z : x ≡ y = some_inner x y e in
          let d' : slice_get (set s.views x.stripe w) x.stripe ≡ Some u = subst (λ (k : Inner). slice_get (set s.views x.stripe w) k.stripe ≡ Some u) (sym z) d in
          let o : w ≡ u = some_view w u (sym (set_here s.views x.stripe v w is) ∙ d') in
          subst (λ (k : Inner). IsAsked n (asking p (count_of s) x) k u) z (subst (λ (k : LogletView). IsAsked n (asking p (count_of s) x) x k) o asked));
    }
  where
    some_op : (a c : Operation) → Some a ≡ Some c → a ≡ c
    some_op a c e = cc

    some_inner : (a c : Inner) → Some a ≡ Some c → a ≡ c
    some_inner a c e = cc

    some_view : (a c : LogletView) → Some a ≡ Some c → a ≡ c
    some_view a c e = cc

    lack_here : (d a f f' D q z z' : ℕ) → f' ≡ f → d ≤ D → RoseBy (D - a) q z → z ≤ z' → RoseBy ((d - a) + (f' - f)) q z'
    lack_here d a f f' D q z z' e l r k = omega (arith, e, l, r, k)

    done_now : (task : Task) → p.asked.task ≡ task → (i : ℕ) (y : LogletView) → slice_get (set s.views x.stripe w) i ≡ Some y → IsDone (asking p (count_of s) x) (count_of (now s (set s.views x.stripe w) at)) i
        → HasHeard p.asked.task (asking p (count_of s) x) (count_of (now s (set s.views x.stripe w) at)) i y
    done_now task e i y d k = by task e (rw goes.count at k)
      where
        n : State
        n = now s (set s.views x.stripe w) at

        others : ((q : ℕ) → p.asked.task ≡ Reading q → ⊥) → IsDone (asking p (count_of s) x) (count_of s) i → HasHeard p.asked.task (asking p (count_of s) x) (count_of n) i y
        others never k =
            let old : IsDone p (count_of s) i = done_before p (count_of s) x p.asked.task i refl st none k.asked (k.told x refl) never in
            let bk = goes.back i y d in
            heard_as p (count_of s) x p.asked.task (count_of n) i y (heard_later p.asked.task p (count_of s) (count_of n) i bk.0 y goes.count bk.2 (g.done i bk.0 bk.1 old))

        by : (task : Task) → p.asked.task ≡ task → IsDone (asking p (count_of s) x) (count_of s) i → HasHeard p.asked.task (asking p (count_of s) x) (count_of n) i y
        by (Reading q) e k = rw e tt
        by Placing e k = others (λ q f. absurd (cc)) k
        by (Settling j) e k = others (λ q f. absurd (cc)) k
        by Finding e k = others (λ q f. absurd (cc)) k
        by Sealing e k = others (λ q f. absurd (cc)) k
        by (Trimming j) e k = others (λ q f. absurd (cc)) k

pending_begun : (s : State) (at : ℕ → Option Plain) (t : ℕ) (p : Plain) (v w : LogletView) (x : Inner) (op : Op) → IsStriped s → IsPending s t p → IsGoing s p → p.inner ≡ None → ¬ (IsUnspoken p.asked.task p.asked.firm) → slice_get s.views x.stripe ≡ Some v
    → x.stripe ≡ target_of p.asked.task (count_of s) p.plan → op ≡ asked_of p.asked.task p.asked.size p.plan.stage s.marks.cut x.stripe (count_of s) → IsSound w → Begins v op x.ticket w → HasLeft w x.ticket x.rounds x.steps
    → Goes s (now s (set s.views x.stripe w) at) (at_stripe x.stripe (λ q. ⊥)) → IsPending (now s (set s.views x.stripe w) at) t (asking p (count_of s) x)
pending_begun s at t p v w x op h pend g none spoken is st eo ow b left goes =
    let n = now s (set s.views x.stripe w) at in
    let later : IsPending n t p = pending_later s n (at_stripe x.stripe (λ q. ⊥)) t p h goes (λ y d k. k.1) pend in
    record {
      ticket = later.ticket;
      size = later.size;
      placing = later.placing;
      reach = later.reach;
      firm = later.firm;
      before = later.before;
      shut = later.shut;
      faults = later.faults;
      down = later.down;
      sealing = later.sealing;
      trimming = later.trimming;
      going = λ e. going_begun s at t p v w x op h pend g none spoken is st eo ow b left goes;
      alone = λ a e. absurd (cc);
      told = λ a e. absurd (cc);
    }

stripes_begun : (s : State) (at : ℕ → Option Plain) (t : ℕ) (p : Plain) (v w : LogletView) (x : Inner) (op : Op) → IsStriped s → s.at t ≡ Some p → p.inner ≡ None → p.answer ≡ None → IsPending s t p → IsGoing s p → slice_get s.views x.stripe ≡ Some v
    → x.stripe ≡ target_of p.asked.task (count_of s) p.plan → op ≡ asked_of p.asked.task p.asked.size p.plan.stage s.marks.cut x.stripe (count_of s) → IsSound w → Begins v op x.ticket w → Puts s.at t (Some (asking p (count_of s) x)) at
    → (i : ℕ) (y : LogletView) → slice_get (set s.views x.stripe w) i ≡ Some y → IsStripe (now s (set s.views x.stripe w) at) i y
stripes_begun s at t p v w x op h is none nothing pend g here st eo ow b u i y d =
    let n = now s (set s.views x.stripe w) at in
    let count : count_of n ≡ count_of s = length_set s.views x.stripe w in
    let lt : t < s.marks.begun = pend.ticket in
    let some : 0 < count_of s = omega (arith, h.shaped.count.0) in
    let owe : (i : ℕ) → sum_below (λ q. owed i (at q)) s.marks.begun + owed i (s.at t) ≡ sum_below (λ q. owed i (s.at q)) s.marks.begun + owed i (at t) = (λ i. sum_below_put (λ q. owed i (s.at q)) (λ q. owed i (at q)) t s.marks.begun lt (λ q z. ap (owed i) (put_there s.at at t q (Some (asking p (count_of s) x)) u z))) in
    let was : (i : ℕ) → owed i (s.at t) ≡ rounds_behind p.plan.stage + owed_rest i p.plan.next = (λ i. ap (owed i) is ∙ ap (λ (a : Option Answer). owed_by i a p.plan) nothing) in
    let has : (i : ℕ) → owed i (at t) ≡ rounds_behind p.plan.stage + owed_rest i (next_behind p.asked.task (count_of s) p.plan.next) = (λ i. ap (owed i) (put_here s.at at t (Some (asking p (count_of s) x)) u)) in
    let next = next_within (count_of s) p.plan.next p.asked.task (g.waits none) in
    elim (set_get s.views x.stripe i v w y here d) [
      | inl mine ↦ (let ok = h.stripes x.stripe v here in
          let m = modest s p x.stripe t pend g p.asked.task refl in
          let m' : IsModest op (share (count_of s) x.stripe s.marks.cut) s.marks.seals = subst (λ (o : Op). IsModest o (share (count_of s) x.stripe s.marks.cut) s.marks.seals) (sym eo) m in
          let e = b.rest in
          let adds : length (entries_of op) ≡ 0 = ap length m'.adds in
          let size : size_of w ≡ size_of v + length (entries_of op) = begun_size v w op x.ticket ok.sound b in
          let cut : w.cut ≡ cut_by op v.cut v.reach = ap (λ (z : LogletView). z.cut) e in
          let low : cut_by op v.cut v.reach ≤ share (count_of s) x.stripe s.marks.cut = cut_small op v.cut v.reach (share (count_of s) x.stripe s.marks.cut) ok.cut m'.trims in
          let between = target_between s p g none some p.asked.task refl in
          let paid : owed_rest x.stripe (next_behind p.asked.task (count_of s) p.plan.next) + 1 ≡ owed_rest x.stripe p.plan.next = rest_paid x.stripe p.plan.next (next_behind p.asked.task (count_of s) p.plan.next) (rw st between.0) (rw st between.1) in
          let begun : w.begun ≡ v.begun + 1 = ap (λ (z : LogletView). z.begun) e in
          let seals : w.seals ≡ v.seals + seals_of op = ap (λ (z : LogletView). z.seals) e in
          let one : IsStripe n x.stripe w = stripe_now s n x.stripe v w count refl ok ow (ap (λ (z : LogletView). z.room) e) (ap (λ (z : LogletView). z.rounds) e) (ap (λ (z : LogletView). z.limit) e)
          (size ∙ (let z = ok.size in omega (arith, z, adds))) (rw cut low) (rw (ap (λ (z : LogletView). z.reach) e) ok.reach) (rw (ap (λ (z : LogletView). z.firm) e) ok.firm)
          (let a = ok.begun in let c = owe x.stripe in let f = was x.stripe in let k = has x.stripe in omega (arith, a, c, f, k, paid, begun))
          (λ some'. elim m'.seals [ inl z ↦ ok.seals (omega (arith, some', seals, z)) | inr z ↦ z ]) in
          subst (λ (z : LogletView). IsStripe n i z) mine.1 (subst (λ (k : ℕ). IsStripe n k w) mine.0 one))
      | inr there ↦ (let old = h.stripes i y there.1 in
          let less : owed_rest i (next_behind p.asked.task (count_of s) p.plan.next) ≤ owed_rest i p.plan.next = rest_falls i p.plan.next (next_behind p.asked.task (count_of s) p.plan.next) (let z = next.0 in omega (arith, z)) in
          stripe_now s n i y y count refl old old.sound refl refl refl old.size old.cut old.reach old.firm
          (let a = old.begun in let c = owe i in let f = was i in let k = has i in omega (arith, a, c, f, k, less)) old.seals)
    ]

-- the ticket that a stripe gives is new
pub free_begun : (s : State) (t : ℕ) (v : LogletView) (x : Inner) → IsStriped s → slice_get s.views x.stripe ≡ Some v → x.ticket ≡ v.begun → IsFree s.at t (Some x)
free_begun s t v x h is new q u y z other at ey ez es et =
    let same : x ≡ z = some_inner x z ez in
    let pend = h.pending q u at in
    by (u.answer) refl
  where
    some_inner : (a c : Inner) → Some a ≡ Some c → a ≡ c
    some_inner a c e = cc

    by : (a : Option Answer) → u.answer ≡ a → ⊥
    by (Some a) e = (let none = (h.pending q u at).alone a e in let clash : Some y ≡ None = sym ey ∙ none in absurd (cc))
    by None e =
        let same : x ≡ z = some_inner x z ez in
        let g = (h.pending q u at).going e in
        let st : x.stripe ≡ y.stripe = ap (λ (k : Inner). k.stripe) same ∙ es in
        let here : slice_get s.views y.stripe ≡ Some v = subst (λ (k : ℕ). slice_get s.views k ≡ Some v) st is in
        let a = g.asks y v ey here in
        let older = ((h.stripes y.stripe v here).sound.operations y.ticket a.operation a.is).ticket in
        let tt' : x.ticket ≡ y.ticket = ap (λ (k : Inner). k.ticket) same ∙ et in
        omega (arith, older, tt', new)

pub begun_next : (s : State) (at : ℕ → Option Plain) (t : ℕ) (p : Plain) (v w : LogletView) (x : Inner) (op : Op) → IsStriped s → s.at t ≡ Some p → p.inner ≡ None → p.answer ≡ None → ¬ (IsUnspoken p.asked.task p.asked.firm) → slice_get s.views x.stripe ≡ Some v
    → x.stripe ≡ target_of p.asked.task (count_of s) p.plan → op ≡ asked_of p.asked.task p.asked.size p.plan.stage s.marks.cut x.stripe (count_of s) → IsSound w → Keeps v w → Begins v op x.ticket w → HasLeft w x.ticket x.rounds x.steps → Puts s.at t (Some (asking p (count_of s) x)) at
    → IsStriped (now s (set s.views x.stripe w) at) × Carries (loglet_of s) t (loglet_of (now s (set s.views x.stripe w) at))
begun_next s at t p v w x op h is none nothing spoken here st eo ow keeps b left u =
    let n = now s (set s.views x.stripe w) at in
    let ends = at_stripe x.stripe (λ q. ⊥) in
    let pend = h.pending t p is in
    let g = pend.going nothing in
    let ok = h.stripes x.stripe v here in
    let m = modest s p x.stripe t pend g p.asked.task refl in
    let m' : IsModest op (share (count_of s) x.stripe s.marks.cut) s.marks.seals = subst (λ (o : Op). IsModest o (share (count_of s) x.stripe s.marks.cut) s.marks.seals) (sym eo) m in
    let cut : w.cut ≡ cut_by op v.cut v.reach = ap (λ (z : LogletView). z.cut) b.rest in
    let low : w.cut ≤ share (count_of s) x.stripe s.marks.cut = rw cut (cut_small op v.cut v.reach (share (count_of s) x.stripe s.marks.cut) ok.cut m'.trims) in
    let goes : Goes s n ends = goes_set s x.stripe v w s.marks at (λ q. ⊥) h here (begins_goes v w op x.ticket ok.sound ow keeps b) (forward_same s.marks) low in
    let mine : IsPending n t (asking p (count_of s) x) = pending_begun s at t p v w x op h pend g none spoken here st eo ow b left goes in
    let all : IsStriped n = carried_striped s (set s.views x.stripe w) at ends t p (asking p (count_of s) x) h goes is u (λ q r y d e f k. k.1)
    (shaped_set s x.stripe v w s.marks at h.shaped here (ap (λ (z : LogletView). z.servers) b.rest)) (stripes_begun s at t p v w x op h is none nothing pend g here st eo ow b u) mine (free_begun s t v x h here b.ticket) in
    let few : x.rounds + 2 ≤ s.shape.turn = (let a = (mine.going refl).asks x w refl (set_here s.views x.stripe v w here) in let r : w.rounds ≡ v.rounds = ap (λ (z : LogletView). z.rounds) b.rest in let c = a.rounds in let d = ok.rounds in omega (arith, r, c, d)) in
    let less = left_before s p x (turns_fall (count_of s) p.plan p.asked.task (g.waits none)) few in
    let less' : IsBelow (left_of s.shape.turn (count_of s) (asking p (count_of s) x).plan (Some x) None) (left_of s.shape.turn (count_of s) p.plan p.inner p.answer) = rw (none, nothing) less in (
      all,
      record {
        moves = carried_moves s (set s.views x.stripe w) at ends t p (asking p (count_of s) x) h all goes is u refl refl (at_most less');
        falls = carried_falls s n t p (asking p (count_of s) x) h all goes.count refl is (put_here s.at at t (Some (asking p (count_of s) x)) u) less';
      },
    )
  where
    at_most : {a b : ℕ × ℕ} → IsBelow a b → IsAtMost a b
    at_most (inl l) = inl l
    at_most (inr l) = inr (l.0, omega (arith, l.1))

-- a stripe takes what an open operation asks: at most four operations were begun on it for each of the loglet's
pub never_full : (s : State) (t : ℕ) (p : Plain) (i : ℕ) (v : LogletView) → IsStriped s → s.at t ≡ Some p → p.inner ≡ None → p.answer ≡ None → slice_get s.views i ≡ Some v → i ≡ target_of p.asked.task (count_of s) p.plan → IsFull v (asked_of p.asked.task p.asked.size p.plan.stage s.marks.cut i (count_of s)) → ⊥
never_full s t p i v h is none nothing here target (inl full) =
    let pend = h.pending t p is in
    (modest s p i t pend (pend.going nothing) p.asked.task refl).append full.0
never_full s t p i v h is none nothing here target (inr full) =
    let pend = h.pending t p is in
    let g = pend.going nothing in
    let some : 0 < count_of s = omega (arith, h.shaped.count.0) in
    let ok = h.stripes i v here in
    let between = target_between s p g none some p.asked.task refl in
    let paid : owed_rest i (next_behind p.asked.task (count_of s) p.plan.next) + 1 ≡ owed_rest i p.plan.next = rest_paid i p.plan.next (next_behind p.asked.task (count_of s) p.plan.next) (rw target between.0) (rw target between.1) in
    let owes : owed i (s.at t) ≡ rounds_behind p.plan.stage + owed_rest i p.plan.next = ap (owed i) is ∙ ap (λ (a : Option Answer). owed_by i a p.plan) nothing in
    let part : owed i (s.at t) ≤ sum_below (λ q. owed i (s.at q)) s.marks.begun = sum_below_at (λ q. owed i (s.at q)) t s.marks.begun pend.ticket in
    let a = ok.begun in
    let b = ok.limit in
    let c = h.begun in
    omega (arith, full, paid, owes, part, a, b, c)
