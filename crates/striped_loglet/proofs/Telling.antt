-- A stripe answers.
use Rattle.std.proofs.Common.{◌≡◌, inl, inr, ℕ, suc, ◌+◌, ◌-◌, ◌*◌, ◌/◌, ◌%◌, ◌^◌, ◌<◌, ◌≤◌, length, map, Option, Some, None, nat_lt, true, false, refl, sym, ap, ◌∙◌, subst, arith, min, max}
use Rattle.std.specs.Prelude.{◌⊎◌, slice_get, if◌then◌else◌}
use Rattle.std.proofs.lemmas.Bool.{cases_Bool, cases_lt}
use Rattle.std.proofs.Math.Nat.{mul-le-mul_left}
use Rattle.loglet_api.specs.declared.call.Answer.{Answer}
use Rattle.loglet_api.specs.declared.call.Answer.TheVariants.{Placed, Settled, OpenTail, SealedTail, SealDone, Got, CutAt, Beyond, TrimDone, Sealed, NoQuorum}
use Rattle.loglet_api.specs.declared.call.Task.{Task}
use Rattle.loglet_api.specs.declared.call.Task.TheVariants.{Placing, Settling, Finding, Sealing, Reading, Trimming}
use Rattle.loglet_api.specs.View.{LogletView, Operation}
use Rattle.loglet_api.specs.Step.{RoseBy, MayAnswer, IsLack, wanted, wanted_by, told_reach, told_firm, told_cap, task_of}
use Rattle.stripe_rule.specs.Stripes.{covered, share}
use Rattle.stripe_rule.proofs.Shares.{share_covers, covers_other}
use Rattle.striped_loglet.specs.declared.plan.Plan.{Plan}
use Rattle.striped_loglet.specs.declared.plan.Stage.{Stage}
use Rattle.striped_loglet.specs.declared.plan.Stage.TheVariants.{First, Last}
use Rattle.striped_loglet.specs.declared.plan.Stage.TheVariants.{Sealing as SealingStage}
use Rattle.striped_loglet.specs.declared.stripe.Inner.{Inner}
use Rattle.striped_loglet.specs.Plans.{lowered, went_on, sealed_heard, heard_by, finding_of}
use Rattle.striped_loglet.specs.Views.{total, least_of, entry_in, IsCapped}
use Rattle.striped_loglet.specs.State.{Plain, State, rounds_behind, to_begin, count_of, faults_of, counted}
use Rattle.striped_loglet.specs.Going.{owed_by, IsOwn, WasOpen, HasTold, HasHeard, IsFor, IsGoing, IsDone, IsAsked, IsLacking, Fits, IsStriped}
use Rattle.striped_loglet.proofs.Lists.{within, either, total_at, least_at, covered_later}
use Rattle.striped_loglet.proofs.Joins.{parts, index_behind}
use Rattle.striped_loglet.proofs.Laters.{Goes, heard_later, shut_later, capped_later}
use Rattle.striped_loglet.proofs.Changes.{at_stripe}
use Rattle.striped_loglet.proofs.Rounds.{onward, Comes, HasRound, goes_on, one_most}

-- the stripe's operation ends
abbrev pub ends_of : Inner → ℕ → ℕ → Type 0
ends_of x = at_stripe x.stripe (λ q. q ≡ x.ticket)

-- a stripe's operation, for an open one, has its answer
pub record Answers (s n : State) (p : Plain) (x : Inner) (v w : LogletView) (o : Operation) (answer : Answer) : Type 0 where
  pub striped : IsStriped s
  pub goes : Goes s n (ends_of x)
  pub marks : n.marks ≡ s.marks
  pub going : IsGoing s p
  pub before : length p.before ≡ count_of s
  pub asked : IsAsked s p x v
  pub mine : p.inner ≡ Some x
  pub was : slice_get s.views x.stripe ≡ Some v
  pub is : slice_get n.views x.stripe ≡ Some w
  pub this : o ≡ asked.operation
  pub may : MayAnswer v o o.task answer
  pub reach : w.reach ≡ max v.reach (told_reach (wanted o) answer)
  pub firm : w.firm ≡ max v.firm (told_firm (wanted o) answer)
  pub cap : w.cap ≡ told_cap answer v.cap
  pub shut : w.shut ≡ v.shut
  pub log : w.log ≡ v.log
  pub cut : w.cut ≡ v.cut
  pub seals : w.seals ≡ v.seals
  -- the other stripes, and this one but for the operation, hold on
  pub small : (i : ℕ) (y : LogletView) → slice_get n.views i ≡ Some y → covered (count_of n) i y.firm < 2 ^ 64 - 1
  pub shut_seals : w.shut ≡ true → 1 ≤ n.marks.seals

-- ---- lack

lack_up : (u d a q f v S r : ℕ) → v ≤ S → RoseBy ((d - a) + (v - f)) q (counted S r) → RoseBy (u - d) f v → RoseBy (u - a) q (counted S r)
lack_up u d a q f v S r le g l = omega (arith, le, g, l)

lacking : (s n : State) (p : Plain) (x : Inner) (v w : LogletView) (o : Operation) (answer : Answer) (u : ℕ) → Answers s n p x v w o answer → IsLack v o u → IsLacking n p u
lacking s n p x v w o answer u h l =
    let least : least_of (map (λ z. z.quorum) s.views) ≤ v.quorum = least_at (λ z. z.quorum) s.views x.stripe v h.was in
    let most : v.servers ≤ total (λ z. z.servers) s.views = total_at (λ z. z.servers) s.views x.stripe v h.was in
    let part : v.faults ≤ total (λ z. z.faults) s.views = total_at (λ z. z.faults) s.views x.stripe v h.was in
    let servers : s.shape.servers ≡ total (λ z. z.servers) s.views = h.striped.shaped.servers in
    let enough = l.enough in
    let few = l.servers in
    let lack : RoseBy ((o.down - p.asked.down) + (v.faults - o.faults)) p.asked.faults (faults_of s) = rw h.this h.asked.lack in
    let rose : RoseBy (u - p.asked.down) p.asked.faults (faults_of s) = lack_up u o.down p.asked.down p.asked.faults o.faults v.faults (total (λ z. z.faults) s.views) s.marks.refusals part lack l.faults in
    record {
      enough = rw h.goes.quorum (omega (arith, least, enough));
      servers = rw h.goes.shape (omega (arith, most, few, servers));
      faults = later (u - p.asked.down) p.asked.faults (faults_of s) (faults_of n) rose h.goes.faults;
    }
  where
    later : (a q f g : ℕ) → RoseBy a q f → f ≤ g → RoseBy a q g
    later a q f g h l = omega (arith, h, l)

-- ---- the stripe that answered

-- it wasn't sealed as the operation began
was_open : (s n : State) (p : Plain) (x : Inner) (v w : LogletView) (o : Operation) (answer : Answer) → Answers s n p x v w o answer → o.shut ≡ false → WasOpen p x.stripe
was_open s n p x v w o answer h open' b is =
    elim (cases_Bool b.shut) [
      | inl shut ↦ absurd (let k : h.asked.operation.shut ≡ true = h.asked.shut b is shut in let e : o.shut ≡ h.asked.operation.shut = ap (λ (z : Operation). z.shut) h.this in let clash : true ≡ false = sym k ∙ sym e ∙ open' in cc)
      | inr fine ↦ fine
    ]

covers_index : (m i k r t : ℕ) → k ≤ r → t ≤ covered m i k → t ≤ covered m i r
covers_index m i k r t le h = covered_later m m i k r t refl le h

-- the length of an Append is covered by its own stripe once its entry is placed there
own_covers : (m size reach i : ℕ) → 0 < m → i ≡ size % m → size / m + 1 ≤ reach → size + 1 ≤ covered m i reach
own_covers m size reach i some e le =
    let whole : m * (size / m) + size % m ≡ size = parts m size in
    let more : m * (size / m + 1) ≤ m * reach = mul-le-mul_left m le in
    let next : m * (size / m + 1) ≡ m * (size / m) + m = omega arith in
    omega (arith, whole, more, next, e, some)

-- the other stripes' answers stand, by a plan with no greater tail
stands : (p : Plain) (plan : Plan) (task : Task) (m i : ℕ) (y : LogletView) → plan.stage ≡ p.plan.stage → plan.tail ≤ p.plan.tail → HasHeard task p m i y → HasHeard task (onward p plan) m i y
stands p plan Placing m i y es le h = h
stands p plan (Settling n) m i y es le h = h
stands p plan Finding m i y es le h = by p.plan.stage refl h
  where
    by : (stage : Stage) → p.plan.stage ≡ stage → HasTold p.plan.stage p m i y → HasTold plan.stage (onward p plan) m i y
    by First e k = rw (es, e) (let z : HasTold First p m i y = rw e at k in (let a = z.0 in omega (arith, a, le), z.1))
    by SealingStage e k = rw (es, e) (rw e at k)
    by Last e k = rw (es, e) (let z : HasTold Last p m i y = rw e at k in omega (arith, z, le))
stands p plan Sealing m i y es le h = h
stands p plan (Reading q) m i y es le h = tt
stands p plan (Trimming n) m i y es le h = h

-- what a plan that goes on has to say of a Tail's length
record IsTail (n : State) (p : Plain) (plan : Plan) : Type 0 where
  above : plan.stage ≡ First → p.asked.reach ≤ plan.tail
  capped : p.asked.task ≡ Finding → plan.stage ≡ Last → (plan.tail ≡ 2 ^ 64 - 1) ⊎ IsCapped n.views plan.tail

round_of : (s n : State) (p : Plain) (x : Inner) (v w : LogletView) (o : Operation) (answer : Answer) (plan : Plan) → Answers s n p x v w o answer → plan.stage ≡ p.plan.stage → plan.next ≡ p.plan.next → plan.tail ≤ p.plan.tail → IsTail n p plan
    → HasHeard p.asked.task (onward p plan) (count_of n) x.stripe w → HasRound n p plan
round_of s n p x v w o answer plan h es en le t here =
    let g = h.going in
    let later : IsGoing s p = g in
    record {
      next = rw (h.goes.count, en) g.next;
      some = rw h.goes.count h.goes.some;
      stage = rw es g.stage;
      sealing = λ e. (let old = g.sealing (sym es ∙ e) in let k = h.goes.seals in omega (arith, old, k));
      done = λ i y d k. elim (either i x.stripe) [
        | inl same ↦ (let d' : slice_get n.views x.stripe ≡ Some y = subst (λ (z : ℕ). slice_get n.views z ≡ Some y) same d in
            let o' : w ≡ y = some_view w y (sym h.is ∙ d') in
            subst (λ (z : LogletView). HasHeard p.asked.task (onward p plan) (count_of n) i z) o' (subst (λ (z : ℕ). HasHeard p.asked.task (onward p plan) (count_of n) z w) (sym same) here))
        | inr other ↦ (let b = h.goes.back i y d in
            let was : IsDone p (count_of s) i = record { asked = asked_as i k; told = λ z e f. other (f ∙ ap (λ (q : Inner). q.stripe) (some_inner z x (sym e ∙ h.mine))) } in
            stands p plan p.asked.task (count_of n) i y es le (heard_later p.asked.task p (count_of s) (count_of n) i b.0 y h.goes.count b.2 (g.done i b.0 b.1 was)))
      ];
      above = t.above;
      all_shut = λ f e. shut_later s n (ends_of x) h.goes (g.all_shut f (sym es ∙ e));
      capped = t.capped;
      tail = (let k = g.tail in omega (arith, le, k));
      before = h.before ∙ sym h.goes.count;
      small = h.small;
      turns = same_turns (count_of n) plan p.plan es en;
      owes = λ i. same_owed i plan p.plan es en;
    }
  where
    some_view : (a c : LogletView) → Some a ≡ Some c → a ≡ c
    some_view a c e = cc

    some_inner : (a c : Inner) → Some a ≡ Some c → a ≡ c
    some_inner a c e = cc

    asked_as : (i : ℕ) → (i < plan.next) ⊎ IsOwn p.asked.task p.asked.size (count_of n) i → (i < p.plan.next) ⊎ IsOwn p.asked.task p.asked.size (count_of s) i
    asked_as i (inl l) = inl (omega (arith, l, en))
    asked_as i (inr k) = inr (rw h.goes.count at k)

    same_turns : (m : ℕ) (a b : Plan) → a.stage ≡ b.stage → a.next ≡ b.next → to_begin m a ≤ to_begin m b
    same_turns m a b e f = rw (e, f) (omega arith)

    same_owed : (i : ℕ) (a b : Plan) → a.stage ≡ b.stage → a.next ≡ b.next → owed_by i None a ≤ owed_by i None b
    same_owed i a b e f = rw (e, f) (omega arith)

-- the stripe's answer tells no tail
plain_tail : (s n : State) (p : Plain) (x : Inner) (v w : LogletView) (o : Operation) (answer : Answer) → Answers s n p x v w o answer → IsTail n p p.plan
plain_tail s n p x v w o answer h = record { above = h.going.above; capped = λ f e. capped_or (h.going.capped f e) }
  where
    capped_or : ((p.plan.tail ≡ 2 ^ 64 - 1) ⊎ IsCapped s.views p.plan.tail) → (p.plan.tail ≡ 2 ^ 64 - 1) ⊎ IsCapped n.views p.plan.tail
    capped_or (inl e) = inl e
    capped_or (inr c) = inr (capped_later s n (ends_of x) p.plan.tail h.goes c)

on_by : (s n : State) (p : Plain) (x : Inner) (v w : LogletView) (o : Operation) (answer : Answer) (plan : Plan) → Answers s n p x v w o answer → plan.stage ≡ p.plan.stage → plan.next ≡ p.plan.next → plan.tail ≤ p.plan.tail → IsTail n p plan → ((q : ℕ) → p.asked.task ≡ Reading q → ⊥)
    → HasHeard p.asked.task (onward p plan) (count_of n) x.stripe w → Comes n p (went_on p.asked.task p.asked.size (count_of n) plan)
on_by s n p x v w o answer plan h es en le t never here = goes_on n p plan (round_of s n p x v w o answer plan h es en le t here) never

-- goes on by its own plan
plainly : (s n : State) (p : Plain) (x : Inner) (v w : LogletView) (o : Operation) (answer : Answer) → Answers s n p x v w o answer → ((q : ℕ) → p.asked.task ≡ Reading q → ⊥) → HasHeard p.asked.task (onward p p.plan) (count_of n) x.stripe w → Comes n p (went_on p.asked.task p.asked.size (count_of n) p.plan)
plainly s n p x v w o answer h never here = on_by s n p x v w o answer p.plan h refl refl (omega arith) (plain_tail s n p x v w o answer h) never here

-- ---- the cases

abbrev Told : State → Plain → ℕ → Answer → Type 0
Told n p i answer = Comes n p (heard_by p.asked.task p.asked.size p.plan i (count_of n) answer)

seals_found : (s n : State) (p : Plain) (x : Inner) (v w : LogletView) (o : Operation) (answer : Answer) → Answers s n p x v w o answer → v.shut ≡ true → (i : ℕ) × (y : LogletView) × (slice_get n.views i ≡ Some y) × (y.shut ≡ true)
seals_found s n p x v w o answer h e = (x.stripe, w, h.is, h.shut ∙ e)

place_told : (s n : State) (p : Plain) (x : Inner) (v w : LogletView) (o : Operation) (answer : Answer) → Answers s n p x v w o answer → p.asked.task ≡ Placing → (mine : Task) → o.task ≡ mine → IsFor Placing p (count_of s) x.stripe o mine → MayAnswer v o mine answer → Told n p x.stripe answer
place_told s n p x v w o (Placed q) h e Placing et f m =
    let never : (k : ℕ) → p.asked.task ≡ Reading k → ⊥ = (λ k d. let clash : Placing ≡ Reading k = sym e ∙ d in cc) in
    let r : w.reach ≡ max v.reach (q + 1) = h.reach in
    let up : p.asked.size / count_of s + 1 ≤ w.reach = (let a = m.0 in let b = f.1 in omega (arith, r, a, b)) in
    plainly s n p x v w o (Placed q) h never (rw (e, h.goes.count) (own_covers (count_of s) p.asked.size w.reach x.stripe h.goes.some f.0 up, was_open s n p x v w o (Placed q) h m.1))
place_told s n p x v w o Sealed h e Placing et f m = rw e (seals_found s n p x v w o Sealed h m)
place_told s n p x v w o (NoQuorum u) h e Placing et f m = subst (λ (z : Task). Fits n p z (NoQuorum u)) (sym e) (lacking s n p x v w o (NoQuorum u) u h m)
place_told s n p x v w o Settled h e (Settling k) et f m =
    let never : (j : ℕ) → p.asked.task ≡ Reading j → ⊥ = (λ j d. let clash : Placing ≡ Reading j = sym e ∙ d in cc) in
    let want : wanted o ≡ min k o.size = ap (λ (z : Task). wanted_by z o.size) et in
    let r : w.reach ≡ max v.reach (wanted o) = h.reach in
    let up : k ≤ w.reach = (let a = f.2 in omega (arith, r, a, want)) in
    let lt : x.stripe < count_of s = within s.views x.stripe v h.was in
    let c : p.asked.size ≤ covered (count_of s) x.stripe (share (count_of s) x.stripe p.asked.size) = share_covers (count_of s) x.stripe p.asked.size lt in
    let c' : p.asked.size ≤ covered (count_of s) x.stripe w.reach = covers_index (count_of s) x.stripe (share (count_of s) x.stripe p.asked.size) w.reach p.asked.size (let a = f.1 in omega (arith, a, up)) c in
    let c'' : suc p.asked.size ≤ covered (count_of s) x.stripe w.reach = covers_other (count_of s) x.stripe w.reach p.asked.size lt f.0 c' in
    plainly s n p x v w o Settled h never (rw (e, h.goes.count) (omega (arith, c''), was_open s n p x v w o Settled h m))
place_told s n p x v w o Sealed h e (Settling k) et f m = rw e (seals_found s n p x v w o Sealed h m)
place_told s n p x v w o (NoQuorum u) h e (Settling k) et f m = subst (λ (z : Task). Fits n p z (NoQuorum u)) (sym e) (lacking s n p x v w o (NoQuorum u) u h m)
place_told s n p x v w o answer h e Finding et f m = absurd f
place_told s n p x v w o answer h e Sealing et f m = absurd f
place_told s n p x v w o answer h e (Reading q) et f m = absurd f
place_told s n p x v w o answer h e (Trimming q) et f m = absurd f
place_told s n p x v w o answer h e mine et f m = absurd m

settle_told : (s n : State) (p : Plain) (x : Inner) (v w : LogletView) (o : Operation) (answer : Answer) (j : ℕ) → Answers s n p x v w o answer → p.asked.task ≡ Settling j → (mine : Task) → o.task ≡ mine → IsFor (Settling j) p (count_of s) x.stripe o mine → MayAnswer v o mine answer → Told n p x.stripe answer
settle_told s n p x v w o Settled j h e (Settling k) et f m =
    let never : (i : ℕ) → p.asked.task ≡ Reading i → ⊥ = (λ i d. let clash : Settling j ≡ Reading i = sym e ∙ d in cc) in
    let want : wanted o ≡ min k o.size = ap (λ (z : Task). wanted_by z o.size) et in
    let r : w.reach ≡ max v.reach (wanted o) = h.reach in
    let up : k ≤ w.reach = (let a = f.1 in omega (arith, r, a, want)) in
    let lt : x.stripe < count_of s = within s.views x.stripe v h.was in
    let t : ℕ = min j p.asked.size in
    let c : t ≤ covered (count_of s) x.stripe (share (count_of s) x.stripe t) = share_covers (count_of s) x.stripe t lt in
    let c' : t ≤ covered (count_of s) x.stripe w.reach = covers_index (count_of s) x.stripe (share (count_of s) x.stripe t) w.reach t (let a = f.0 in omega (arith, a, up)) c in
    plainly s n p x v w o Settled h never (rw (e, h.goes.count) (c', was_open s n p x v w o Settled h m))
settle_told s n p x v w o Sealed j h e (Settling k) et f m = rw e (seals_found s n p x v w o Sealed h m)
settle_told s n p x v w o (NoQuorum u) j h e (Settling k) et f m = subst (λ (z : Task). Fits n p z (NoQuorum u)) (sym e) (lacking s n p x v w o (NoQuorum u) u h m)
settle_told s n p x v w o answer j h e Placing et f m = absurd f
settle_told s n p x v w o answer j h e Finding et f m = absurd f
settle_told s n p x v w o answer j h e Sealing et f m = absurd f
settle_told s n p x v w o answer j h e (Reading q) et f m = absurd f
settle_told s n p x v w o answer j h e (Trimming q) et f m = absurd f
settle_told s n p x v w o answer j h e mine et f m = absurd m

-- ---- a Tail

lower_tail : (s n : State) (p : Plain) (x : Inner) (t : ℕ) → (lowered p.plan t x.stripe (count_of n)).tail ≤ p.plan.tail
lower_tail s n p x t = omega arith

first_told : (s n : State) (p : Plain) (x : Inner) (v w : LogletView) (o : Operation) (t : ℕ) → Answers s n p x v w o (OpenTail t) → p.asked.task ≡ Finding → p.plan.stage ≡ First → (o.reach ≤ t) → (o.shut ≡ false) → Told n p x.stripe (OpenTail t)
first_told s n p x v w o t h e es low open' =
    let plan = lowered p.plan t x.stripe (count_of n) in
    let never : (i : ℕ) → p.asked.task ≡ Reading i → ⊥ = (λ i d. let clash : Finding ≡ Reading i = sym e ∙ d in cc) in
    let r : w.reach ≡ max v.reach t = h.reach in
    let up : t ≤ w.reach = omega (arith, r) in
    let tail : min p.plan.tail (covered (count_of n) x.stripe t) ≤ covered (count_of n) x.stripe w.reach = covers_index (count_of n) x.stripe t w.reach (min p.plan.tail (covered (count_of n) x.stripe t)) up (omega arith) in
    let here : HasTold First (onward p plan) (count_of n) x.stripe w = (tail, was_open s n p x v w o (OpenTail t) h open') in
    let reaches : p.asked.reach ≤ covered (count_of s) x.stripe t = covers_index (count_of s) x.stripe h.asked.operation.reach t p.asked.reach (let k = ap (λ (z : Operation). z.reach) h.this in omega (arith, k, low)) h.asked.reach in
    let above : p.asked.reach ≤ plan.tail = (let a = h.going.above es in let b : p.asked.reach ≤ covered (count_of n) x.stripe t = rw h.goes.count reaches in omega (arith, a, b)) in
    on_by s n p x v w o (OpenTail t) plan h refl refl (omega arith) (record { above = λ z. above; capped = λ f z. absurd (let clash : First ≡ Last = sym es ∙ z in cc) }) never (rw (e, es) here)

sealing_told : (s n : State) (p : Plain) (x : Inner) (v w : LogletView) (o : Operation) → Answers s n p x v w o SealDone → p.asked.task ≡ Finding → p.plan.stage ≡ SealingStage → v.shut ≡ true → Told n p x.stripe SealDone
sealing_told s n p x v w o h e es shut =
    let never : (i : ℕ) → p.asked.task ≡ Reading i → ⊥ = (λ i d. let clash : Finding ≡ Reading i = sym e ∙ d in cc) in
    plainly s n p x v w o SealDone h never (rw (e, es) (h.shut ∙ shut))

cap_least : (cap : Option ℕ) (t : ℕ) → (d : ℕ) × (told_cap (SealedTail t) cap ≡ Some d) × (d ≤ t)
cap_least None t = (t, refl, omega arith)
cap_least (Some c) t = (min c t, refl, omega arith)

last_told : (s n : State) (p : Plain) (x : Inner) (v w : LogletView) (o : Operation) (t : ℕ) → Answers s n p x v w o (SealedTail t) → p.asked.task ≡ Finding → p.plan.stage ≡ Last → Told n p x.stripe (SealedTail t)
last_told s n p x v w o t h e es =
    let m = count_of n in
    let plan = lowered p.plan t x.stripe m in
    let never : (i : ℕ) → p.asked.task ≡ Reading i → ⊥ = (λ i d. let clash : Finding ≡ Reading i = sym e ∙ d in cc) in
    let r : w.firm ≡ max v.firm t = h.firm in
    let up : t ≤ w.firm = omega (arith, r) in
    let small = h.small x.stripe w h.is in
    let within' : covered m x.stripe t ≤ covered m x.stripe w.firm = covers_index m x.stripe t w.firm (covered m x.stripe t) up (omega arith) in
    let here : min p.plan.tail (covered m x.stripe t) ≤ covered m x.stripe w.firm = omega (arith, within') in
    let least = cap_least v.cap t in
    let below : covered m x.stripe least.0 ≤ covered m x.stripe t = covers_index m x.stripe least.0 t (covered m x.stripe least.0) least.2 (omega arith) in
    let mine : covered m x.stripe t ≤ plan.tail → IsCapped n.views plan.tail = (λ k. record { stripe = x.stripe; view = w; is = h.is; cap = least.0; cap_is = h.cap ∙ least.1; within = omega (arith, below, k) }) in
    let capped : (plan.tail ≡ 2 ^ 64 - 1) ⊎ IsCapped n.views plan.tail = elim (cases_lt p.plan.tail (covered m x.stripe t)) [
      | inl lt ↦ (let same : plan.tail ≡ p.plan.tail = omega (arith, lt) in old_cap p.plan.tail plan.tail same (h.going.capped e es))
      | inr le ↦ inr (mine (omega (arith, le)))
    ] in
    subst (λ (z : Stage). Comes n p (sealed_heard z p.asked.task p.asked.size p.plan x.stripe m t)) (sym es) (on_by s n p x v w o (SealedTail t) plan h refl refl (omega arith) (record { above = λ z. absurd (let clash : Last ≡ First = sym es ∙ z in cc); capped = λ f z. capped }) never (rw (e, es) here))
  where
    old_cap : (a b : ℕ) → b ≡ a → (a ≡ 2 ^ 64 - 1) ⊎ IsCapped s.views a → (b ≡ 2 ^ 64 - 1) ⊎ IsCapped n.views b
    old_cap a b same (inl z) = inl (same ∙ z)
    old_cap a b same (inr c) = inr (rw same (capped_later s n (ends_of x) a h.goes c))

-- a sealed tail in the first round: all stripes are to be sealed
turned : (s n : State) (p : Plain) (x : Inner) (v w : LogletView) (o : Operation) (t : ℕ) → Answers s n p x v w o (SealedTail t) → p.asked.task ≡ Finding → p.plan.stage ≡ First → v.shut ≡ true → Told n p x.stripe (SealedTail t)
turned s n p x v w o t h e es shut =
    let m = count_of n in
    let turns : to_begin m p.plan ≡ 2 * m + (m - p.plan.next) = ap (λ (z : Stage). rounds_behind z * m + (m - p.plan.next)) es in
    let owes : (i : ℕ) → owed_by i None p.plan ≡ 2 + (if nat_lt i p.plan.next then 0 else 1) = (λ i. ap (λ (z : Stage). rounds_behind z + (if nat_lt i p.plan.next then 0 else 1)) es) in
    let some : 0 < m = rw h.goes.count h.goes.some in
    rw es (
      record {
        next = omega arith;
        stage = inl e;
        waits = λ z. some;
        skips = λ z k. absurd (let clash : Finding ≡ Placing = sym e ∙ k in cc);
        single = λ q z k. refl;
        sealing = λ z. h.shut_seals (h.shut ∙ shut);
        done = λ i y is d. elim d.asked [ inl lt ↦ absurd (omega arith) | inr own ↦ absurd (subst (λ (z : Task). IsOwn z p.asked.size m i) e own) ];
        above = λ z. absurd (cc);
        all_shut = λ z k. absurd (cc);
        capped = λ z k. absurd (cc);
        tail = omega arith;
        inner = λ y z. absurd (cc);
        asks = λ y u z is. absurd (cc);
      },
      omega (arith, turns),
      λ i. (let a = owes i in let c = one_most (nat_lt i 0) in omega (arith, a, c)),
    )

find_told : (s n : State) (p : Plain) (x : Inner) (v w : LogletView) (o : Operation) (answer : Answer) → Answers s n p x v w o answer → p.asked.task ≡ Finding → (stage : Stage) → p.plan.stage ≡ stage → MayAnswer v o (task_of (finding_of stage)) answer → Told n p x.stripe answer
find_told s n p x v w o (OpenTail t) h e First es m = first_told s n p x v w o t h e es m.0 m.1
find_told s n p x v w o (SealedTail t) h e First es m = turned s n p x v w o t h e es m.1
find_told s n p x v w o (NoQuorum u) h e First es m = subst (λ (z : Task). Fits n p z (NoQuorum u)) (sym e) (lacking s n p x v w o (NoQuorum u) u h m)
find_told s n p x v w o answer h e First es m = absurd m
find_told s n p x v w o SealDone h e SealingStage es m = sealing_told s n p x v w o h e es m
find_told s n p x v w o (NoQuorum u) h e SealingStage es m = subst (λ (z : Task). Fits n p z (NoQuorum u)) (sym e) (lacking s n p x v w o (NoQuorum u) u h m)
find_told s n p x v w o answer h e SealingStage es m = absurd m
find_told s n p x v w o (OpenTail t) h e Last es m = absurd (let k : h.asked.operation.shut ≡ true = h.asked.again e es in let f : o.shut ≡ h.asked.operation.shut = ap (λ (z : Operation). z.shut) h.this in let clash : true ≡ false = sym k ∙ sym f ∙ m.1 in cc)
find_told s n p x v w o (SealedTail t) h e Last es m = last_told s n p x v w o t h e es
find_told s n p x v w o (NoQuorum u) h e Last es m = subst (λ (z : Task). Fits n p z (NoQuorum u)) (sym e) (lacking s n p x v w o (NoQuorum u) u h m)
find_told s n p x v w o answer h e Last es m = absurd m

-- ---- Seal, Read, Trim

seal_told : (s n : State) (p : Plain) (x : Inner) (v w : LogletView) (o : Operation) (answer : Answer) → Answers s n p x v w o answer → p.asked.task ≡ Sealing → MayAnswer v o Sealing answer → Told n p x.stripe answer
seal_told s n p x v w o SealDone h e m = plainly s n p x v w o SealDone h (λ i d. let clash : Sealing ≡ Reading i = sym e ∙ d in cc) (rw e (h.shut ∙ m))
seal_told s n p x v w o (NoQuorum u) h e m = subst (λ (z : Task). Fits n p z (NoQuorum u)) (sym e) (lacking s n p x v w o (NoQuorum u) u h m)
seal_told s n p x v w o answer h e m = absurd m

trim_told : (s n : State) (p : Plain) (x : Inner) (v w : LogletView) (o : Operation) (answer : Answer) (j k : ℕ) → Answers s n p x v w o answer → p.asked.task ≡ Trimming j → MayAnswer v o (Trimming k) answer → Told n p x.stripe answer
trim_told s n p x v w o TrimDone j k h e m = plainly s n p x v w o TrimDone h (λ i d. let clash : Trimming j ≡ Reading i = sym e ∙ d in cc) (rw (e, h.goes.count, h.cut) (h.asked.trims j e))
trim_told s n p x v w o (NoQuorum u) j k h e m = subst (λ (z : Task). Fits n p z (NoQuorum u)) (sym e) (lacking s n p x v w o (NoQuorum u) u h m)
trim_told s n p x v w o answer j k h e m = absurd m

read_told : (s n : State) (p : Plain) (x : Inner) (v w : LogletView) (o : Operation) (answer : Answer) (q : ℕ) → Answers s n p x v w o answer → p.asked.task ≡ Reading q → x.stripe ≡ q % count_of s → q < p.asked.firm → MayAnswer v o (Reading (q / count_of s)) answer → Told n p x.stripe answer
read_told s n p x v w o (CutAt k) q h e st lt m =
    let c : v.cut ≤ share (count_of s) x.stripe s.marks.cut = (h.striped.stripes x.stripe v h.was).cut in
    rw e (elim (cases_lt q n.marks.cut) [
      | inl l ↦ l
      | inr le ↦ absurd (let same : n.marks.cut ≡ s.marks.cut = ap (λ z. z.cut) h.marks in
          let b : share (count_of s) (q % count_of s) s.marks.cut ≤ q / count_of s = index_behind (count_of s) q s.marks.cut h.goes.some (omega (arith, le, same)) in
          let c' : v.cut ≤ share (count_of s) (q % count_of s) s.marks.cut = subst (λ (i : ℕ). v.cut ≤ share (count_of s) i s.marks.cut) st c in
          let below = m.0 in omega (arith, b, c', below))
    ])
read_told s n p x v w o (Beyond k) q h e st lt m =
    absurd (let a : p.asked.firm ≤ covered (count_of s) x.stripe h.asked.operation.firm = h.asked.firm in
    let f : o.firm ≡ h.asked.operation.firm = ap (λ (z : Operation). z.firm) h.this in
    let whole : count_of s * (q / count_of s) + q % count_of s ≡ q = parts (count_of s) q in
    let le : h.asked.operation.firm ≤ q / count_of s = (let b = m.1 in omega (arith, b, f)) in
    let more : count_of s * h.asked.operation.firm ≤ count_of s * (q / count_of s) = mul-le-mul_left (count_of s) le in
    omega (arith, a, whole, more, st, lt))
read_told s n p x v w o (Got d) q h e st lt m =
    let here : slice_get n.views (q % count_of s) ≡ Some w = subst (λ (i : ℕ). slice_get n.views i ≡ Some w) st h.is in
    let got : slice_get w.log (q / count_of s - w.cut) ≡ Some d = rw (h.log, h.cut) m.2 in
    rw e (lt, λ le. rw h.goes.count (ap (λ z. entry_in z (q / count_of s)) here ∙ got))
read_told s n p x v w o (NoQuorum u) q h e st lt m = subst (λ (z : Task). Fits n p z (NoQuorum u)) (sym e) (lt, lacking s n p x v w o (NoQuorum u) u h m.2)
read_told s n p x v w o answer q h e st lt m = absurd m

trims_for : (s n : State) (p : Plain) (x : Inner) (v w : LogletView) (o : Operation) (answer : Answer) (j : ℕ) → Answers s n p x v w o answer → p.asked.task ≡ Trimming j → (mine : Task) → IsFor (Trimming j) p (count_of s) x.stripe o mine → MayAnswer v o mine answer → Told n p x.stripe answer
trims_for s n p x v w o answer j h e (Trimming k) f m = trim_told s n p x v w o answer j k h e m
trims_for s n p x v w o answer j h e Placing f m = absurd f
trims_for s n p x v w o answer j h e (Settling k) f m = absurd f
trims_for s n p x v w o answer j h e Finding f m = absurd f
trims_for s n p x v w o answer j h e Sealing f m = absurd f
trims_for s n p x v w o answer j h e (Reading q) f m = absurd f

pub is_told : (s n : State) (p : Plain) (x : Inner) (v w : LogletView) (o : Operation) (answer : Answer) → Answers s n p x v w o answer → (task : Task) → p.asked.task ≡ task → IsFor task p (count_of s) x.stripe o o.task → Told n p x.stripe answer
is_told s n p x v w o answer h Placing e f = place_told s n p x v w o answer h e o.task refl f h.may
is_told s n p x v w o answer h (Settling j) e f = settle_told s n p x v w o answer j h e o.task refl f h.may
is_told s n p x v w o answer h Finding e f = find_told s n p x v w o answer h e p.plan.stage refl (subst (λ (z : Task). MayAnswer v o z answer) f h.may)
is_told s n p x v w o answer h Sealing e f = seal_told s n p x v w o answer h e (subst (λ (z : Task). MayAnswer v o z answer) f h.may)
is_told s n p x v w o answer h (Reading q) e f = read_told s n p x v w o answer q h e f.1 f.2 (subst (λ (z : Task). MayAnswer v o z answer) f.0 h.may)
is_told s n p x v w o answer h (Trimming j) e f = trims_for s n p x v w o answer j h e o.task f h.may
