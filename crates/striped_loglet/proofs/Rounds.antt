-- An operation goes on round the stripes once one of them has answered.
use Rattle.std.proofs.Common.{◌≡◌, ◌≢◌, inl, inr, ℕ, ◌+◌, ◌-◌, ◌*◌, ◌%◌, ◌^◌, ◌<◌, ◌≤◌, length, Some, None, Bool, nat_eq, nat_lt, true, false, refl, sym, ap, ◌∙◌, subst, arith}
use Rattle.std.specs.Prelude.{◌⊎◌, slice_get, if◌then◌else◌}
use Rattle.std.proofs.lemmas.Bool.Decides.{nat_tests}
use Rattle.std.proofs.lemmas.Bool.{cases_Bool, cases_lt}
use Rattle.loglet_api.specs.declared.call.Task.{Task}
use Rattle.loglet_api.specs.declared.call.Task.TheVariants.{Placing, Settling, Finding, Sealing, Reading, Trimming}
use Rattle.loglet_api.specs.View.{LogletView}
use Rattle.stripe_rule.specs.Stripes.{covered}
use Rattle.striped_loglet.specs.declared.plan.Plan.{Plan}
use Rattle.striped_loglet.specs.declared.plan.Stage.{Stage}
use Rattle.striped_loglet.specs.declared.plan.Stage.TheVariants.{First, Last}
use Rattle.striped_loglet.specs.declared.plan.Stage.TheVariants.{Sealing as SealingStage}
use Rattle.striped_loglet.specs.declared.plan.Heard.{Heard}
use Rattle.striped_loglet.specs.declared.plan.Heard.TheVariants.{On, Decided}
use Rattle.striped_loglet.specs.Plans.{skipped, round_told, all_told, went_on}
use Rattle.striped_loglet.specs.Views.{AllShut, IsCapped}
use Rattle.striped_loglet.specs.State.{Plain, State, rounds_behind, to_begin, count_of}
use Rattle.striped_loglet.specs.Going.{owed_by, IsOwn, HasTold, HasHeard, IsGoing, Fits}
use Rattle.striped_loglet.proofs.Lists.{within, some_at}

-- the operation goes on by this plan
abbrev pub onward : Plain → Plan → Plain
onward p plan = record p { plan = plan; inner = None; answer = None }

-- what an operation comes to holds
abbrev pub Comes : State → Plain → Heard → Type 0
Comes n p (On plan) = IsGoing n (onward p plan) × (to_begin (count_of n) plan ≤ to_begin (count_of n) p.plan) × ((i : ℕ) → owed_by i None plan ≤ owed_by i None p.plan)
Comes n p (Decided answer) = Fits n p p.asked.task answer

-- every stripe that was asked in this round has answered
pub record HasRound (n : State) (p : Plain) (plan : Plan) : Type 0 where
  pub next : plan.next ≤ count_of n
  pub some : 0 < count_of n
  pub stage : (p.asked.task ≡ Finding) ⊎ (plan.stage ≡ Last)
  pub sealing : plan.stage ≡ SealingStage → 1 ≤ n.marks.seals
  pub done : (i : ℕ) (y : LogletView) → slice_get n.views i ≡ Some y → (i < plan.next) ⊎ IsOwn p.asked.task p.asked.size (count_of n) i → HasHeard p.asked.task (onward p plan) (count_of n) i y
  pub above : plan.stage ≡ First → p.asked.reach ≤ plan.tail
  pub all_shut : p.asked.task ≡ Finding → plan.stage ≡ Last → AllShut n.views
  pub capped : p.asked.task ≡ Finding → plan.stage ≡ Last → (plan.tail ≡ 2 ^ 64 - 1) ⊎ IsCapped n.views plan.tail
  pub tail : plan.tail < 2 ^ 64
  pub before : length p.before ≡ count_of n
  pub small : (i : ℕ) (y : LogletView) → slice_get n.views i ≡ Some y → covered (count_of n) i y.firm < 2 ^ 64 - 1
  -- as many turns are left as before
  pub turns : to_begin (count_of n) plan ≤ to_begin (count_of n) p.plan
  pub owes : (i : ℕ) → owed_by i None plan ≤ owed_by i None p.plan

-- ---- to the next stripe

skip_cases : (task : Task) (size count next i : ℕ) → i < skipped task size count next → (i < next) ⊎ IsOwn task size count i
skip_cases Placing size count next i l =
    elim (cases_Bool (nat_eq next (size % count))) [
      | inl same ↦ (let e : next ≡ size % count = grind (arith, nat_tests) in
          let l' : i < next + 1 = rw same at l in
          elim (cases_lt i next) [ inl lt ↦ inl lt | inr le ↦ inr (let z : i ≡ next = omega (arith, l', le) in z ∙ e) ])
      | inr other ↦ inl (rw other at l)
    ]
skip_cases (Settling n) size count next i l = inl l
skip_cases Finding size count next i l = inl l
skip_cases Sealing size count next i l = inl l
skip_cases (Reading q) size count next i l = inl l
skip_cases (Trimming n) size count next i l = inl l

skip_up : (task : Task) (size count next : ℕ) → next ≤ skipped task size count next
skip_up Placing size count next = elim (cases_Bool (nat_eq next (size % count))) [ inl same ↦ rw same (omega arith) | inr other ↦ rw other (omega arith) ]
skip_up (Settling n) size count next = omega arith
skip_up Finding size count next = omega arith
skip_up Sealing size count next = omega arith
skip_up (Reading q) size count next = omega arith
skip_up (Trimming n) size count next = omega arith

skip_other : (size count next : ℕ) → skipped Placing size count next ≢ size % count
skip_other size count next e =
    elim (cases_Bool (nat_eq next (size % count))) [
      | inl same ↦ (let k : next ≡ size % count = grind (arith, nat_tests) in let l : next + 1 ≡ size % count = rw same at e in omega (arith, k, l))
      | inr other ↦ (let l : next ≡ size % count = rw other at e in absurd (grind (arith, nat_tests)))
    ]

owed_less : (r i a b : ℕ) → a ≤ b → r + (if nat_lt i b then 0 else 1) ≤ r + (if nat_lt i a then 0 else 1)
owed_less r i a b l =
    elim (cases_Bool (nat_lt i a)) [
      | inl x ↦ (let y : nat_lt i b ≡ true = grind (arith, nat_tests) in rw (x, y) (omega arith))
      | inr x ↦ rw x (most r i b)
    ]
  where
    most : (r i b : ℕ) → r + (if nat_lt i b then 0 else 1) ≤ r + 1
    most r i b = elim (cases_Bool (nat_lt i b)) [ inl y ↦ rw y (omega arith) | inr y ↦ rw y (omega arith) ]

-- what was heard in a round doesn't depend on which stripe is next
heard_next : (p : Plain) (plan : Plan) (next : ℕ) (task : Task) (m i : ℕ) (y : LogletView) → HasHeard task (onward p plan) m i y → HasHeard task (onward p (record plan { next = next })) m i y
heard_next p plan next Placing m i y h = h
heard_next p plan next (Settling n) m i y h = h
heard_next p plan next Finding m i y h = by plan.stage refl h
  where
    by : (stage : Stage) → plan.stage ≡ stage → HasTold plan.stage (onward p plan) m i y → HasTold plan.stage (onward p (record plan { next = next })) m i y
    by First e k = rw e (rw e at k)
    by SealingStage e k = rw e (rw e at k)
    by Last e k = rw e (rw e at k)
heard_next p plan next Sealing m i y h = h
heard_next p plan next (Reading q) m i y h = tt
heard_next p plan next (Trimming n) m i y h = h

skipping : (n : State) (p : Plain) (plan : Plan) → HasRound n p plan → ((q : ℕ) → p.asked.task ≡ Reading q → ⊥) → skipped p.asked.task p.asked.size (count_of n) plan.next < count_of n
    → Comes n p (On (record plan { next = skipped p.asked.task p.asked.size (count_of n) plan.next }))
skipping n p plan h never l =
    let m = count_of n in
    let up = skip_up p.asked.task p.asked.size m plan.next in (
      record {
        next = omega (arith, l);
        stage = h.stage;
        waits = λ e. l;
        skips = λ e f. (subst (λ (task : Task). skipped task p.asked.size m plan.next ≢ p.asked.size % m) (sym f) (skip_other p.asked.size m plan.next));
        single = λ q e f. absurd (never q e);
        sealing = h.sealing;
        done = λ i y is d. heard_next p plan (skipped p.asked.task p.asked.size m plan.next) p.asked.task m i y (h.done i y is (elim d.asked [ inl lt ↦ skip_cases p.asked.task p.asked.size m plan.next i lt | inr own ↦ inr own ]));
        above = h.above;
        all_shut = h.all_shut;
        capped = h.capped;
        tail = h.tail;
        inner = λ x e. absurd (cc);
        asks = λ x v e is. absurd (cc);
      },
      (let t = h.turns in omega (arith, t, up)),
      λ i. (let a = owed_less (rounds_behind plan.stage) i plan.next (skipped p.asked.task p.asked.size m plan.next) up in let b = h.owes i in omega (arith, a, b)),
    )

-- ---- all stripes have answered

all_heard : (n : State) (p : Plain) (plan : Plan) → HasRound n p plan → count_of n ≤ skipped p.asked.task p.asked.size (count_of n) plan.next → (i : ℕ) (y : LogletView) → slice_get n.views i ≡ Some y → HasHeard p.asked.task (onward p plan) (count_of n) i y
all_heard n p plan h l i y is = (let lt : i < count_of n = within n.views i y is in h.done i y is (skip_cases p.asked.task p.asked.size (count_of n) plan.next i (omega (arith, lt, l))))

-- a view stands at each place of the stripes before
was_there : (n : State) (p : Plain) (plan : Plan) → HasRound n p plan → (i : ℕ) (b : LogletView) → slice_get p.before i ≡ Some b → (y : LogletView) × (slice_get n.views i ≡ Some y)
was_there n p plan h i b is = let lt : i < length p.before = within p.before i b is in some_at n.views i (let e = h.before in omega (arith, lt, e))

pub one_most : (b : Bool) → (if b then 0 else 1) ≤ 1
one_most true = omega arith
one_most false = omega arith

round_done : (n : State) (p : Plain) (plan : Plan) → HasRound n p plan → p.asked.task ≡ Finding → ((i : ℕ) (y : LogletView) → slice_get n.views i ≡ Some y → HasTold plan.stage (onward p plan) (count_of n) i y) → (stage : Stage) → plan.stage ≡ stage → Comes n p (round_told stage plan.tail)
round_done n p plan h f all First e =
    let all' : (i : ℕ) (y : LogletView) → slice_get n.views i ≡ Some y → HasTold First (onward p plan) (count_of n) i y = (λ i y is. subst (λ (z : Stage). HasTold z (onward p plan) (count_of n) i y) e (all i y is)) in
    rw f (h.above e, (λ i b is. (let y = was_there n p plan h i b is in (all' i y.0 y.1).1 b is)), (λ i y is. (all' i y is).0))
round_done n p plan h f all SealingStage e =
    let all' : (i : ℕ) (y : LogletView) → slice_get n.views i ≡ Some y → y.shut ≡ true = (λ i y is. subst (λ (z : Stage). HasTold z (onward p plan) (count_of n) i y) e (all i y is)) in
    let turns : to_begin (count_of n) plan ≡ 1 * count_of n + (count_of n - plan.next) = ap (λ (z : Stage). rounds_behind z * count_of n + (count_of n - plan.next)) e in
    let owes : (i : ℕ) → owed_by i None plan ≡ 1 + (if nat_lt i plan.next then 0 else 1) = (λ i. ap (λ (z : Stage). rounds_behind z + (if nat_lt i plan.next then 0 else 1)) e) in (
      record {
        next = omega arith;
        stage = inl f;
        waits = λ z. h.some;
        skips = λ z k. absurd (let clash : Finding ≡ Placing = sym f ∙ k in cc);
        single = λ q z k. refl;
        sealing = λ z. absurd (cc);
        done = λ i y is d. elim d.asked [ inl lt ↦ absurd (omega arith) | inr own ↦ absurd (subst (λ (z : Task). IsOwn z p.asked.size (count_of n) i) f own) ];
        above = λ z. absurd (cc);
        all_shut = λ z k. all';
        capped = λ z k. inl refl;
        tail = omega arith;
        inner = λ x z. absurd (cc);
        asks = λ x v z is. absurd (cc);
      },
      (let t = h.turns in omega (arith, t, turns)),
      λ i. (let a = owes i in let b = h.owes i in let c = one_most (nat_lt i 0) in omega (arith, a, b, c)),
    )
round_done n p plan h f all Last e =
    let all' : (i : ℕ) (y : LogletView) → slice_get n.views i ≡ Some y → plan.tail ≤ covered (count_of n) i y.firm = (λ i y is. subst (λ (z : Stage). HasTold z (onward p plan) (count_of n) i y) e (all i y is)) in
    rw f (
      h.all_shut f e,
      all',
      elim (h.capped f e) [
        | inl most ↦ absurd (let first = some_at n.views 0 h.some in let a = all' 0 first.0 first.1 in let b = h.small 0 first.0 first.1 in omega (arith, most, a, b))
        | inr c ↦ c
      ],
    )

ends_round : (n : State) (p : Plain) (plan : Plan) → HasRound n p plan → count_of n ≤ skipped p.asked.task p.asked.size (count_of n) plan.next → ((q : ℕ) → p.asked.task ≡ Reading q → ⊥) → (task : Task) → p.asked.task ≡ task
    → ((i : ℕ) (y : LogletView) → slice_get n.views i ≡ Some y → HasHeard task (onward p plan) (count_of n) i y) → Comes n p (all_told task p.asked.size plan)
ends_round n p plan h l never Placing e all = rw e (refl, (λ i b is. (let y = was_there n p plan h i b is in (all i y.0 y.1).1 b is)), (λ i y is. (all i y is).0))
ends_round n p plan h l never (Settling k) e all = rw e ((λ i b is. (let y = was_there n p plan h i b is in (all i y.0 y.1).1 b is)), (λ i y is. (all i y is).0))
ends_round n p plan h l never Finding e all = round_done n p plan h e all plan.stage refl
ends_round n p plan h l never Sealing e all = rw e all
ends_round n p plan h l never (Reading q) e all = absurd (never q e)
ends_round n p plan h l never (Trimming k) e all = rw e all

pub goes_on : (n : State) (p : Plain) (plan : Plan) → HasRound n p plan → ((q : ℕ) → p.asked.task ≡ Reading q → ⊥) → Comes n p (went_on p.asked.task p.asked.size (count_of n) plan)
goes_on n p plan h never =
    elim (cases_Bool (nat_lt (skipped p.asked.task p.asked.size (count_of n) plan.next) (count_of n))) [
      | inl more ↦ (let l : skipped p.asked.task p.asked.size (count_of n) plan.next < count_of n = grind (arith, nat_tests) in rw more (skipping n p plan h never l))
      | inr all ↦ (let l : count_of n ≤ skipped p.asked.task p.asked.size (count_of n) plan.next = grind (arith, nat_tests) in
          rw all (ends_round n p plan h l never p.asked.task refl (all_heard n p plan h l)))
    ]
