-- What becomes of the stripes' operations, and the rest of what is shown.
use Rattle.std.proofs.Common.{◌≡◌, inl, inr, ℕ, ◌+◌, ◌-◌, ◌^◌, ◌<◌, ◌≤◌, List, length, map, set, get_or, Option, Some, None, Bool, true, false, nat_eq, refl, sym, ap, ◌∙◌, subst, min}
use Rattle.std.specs.Prelude.{◌⊎◌, Ok, Err, if◌then◌else◌}
use Rattle.std.specs.Option.{option_map}
use Rattle.std.specs.HashMap.{get, Updates}
use Rattle.loglet_api.specs.declared.call.Answer.{Answer}
use Rattle.loglet_api.specs.declared.call.Answer.TheVariants.{Beyond, TrimDone, NoQuorum}
use Rattle.loglet_api.specs.declared.call.Task.{Task}
use Rattle.loglet_api.specs.declared.call.Task.TheVariants.{Placing, Settling, Finding, Sealing, Reading, Trimming}
use Rattle.loglet_api.specs.declared.call.Op.{Op}
use Rattle.loglet_api.specs.declared.call.Op.TheVariants.{Trim}
use Rattle.loglet_api.specs.declared.call.Refused.{Refused}
use Rattle.loglet_api.specs.declared.call.Refused.TheVariants.{Full}
use Rattle.loglet_api.specs.declared.call.LogletCall.TheVariants.{Carry, Forget}
use Rattle.loglet_api.specs.declared.call.LogletAnswer.TheVariants.{Carried, Forgotten}
use Rattle.loglet_api.specs.View.{LogletView, Operation, operation_at}
use Rattle.loglet_api.specs.Servers.{ServersView}
use Rattle.loglet_api.specs.Step.{LogletStep, MayAnswer, Advances, task_of}
use Rattle.striped_loglet.specs.declared.given.Given.{Given}
use Rattle.striped_loglet.specs.declared.marks.Marks.{Marks}
use Rattle.striped_loglet.specs.declared.shape.Shape.{Shape}
use Rattle.stripe_rule.proofs.Shares.{share_standing}
use Rattle.striped_loglet.specs.declared.plan.Stage.{Stage}
use Rattle.striped_loglet.specs.declared.plan.Heard.{Heard}
use Rattle.striped_loglet.specs.declared.plan.Heard.TheVariants.{On, Decided}
use Rattle.striped_loglet.specs.declared.stripe.Inner.{Inner}
use Rattle.striped_loglet.specs.declared.stripe.Outcome.{Outcome}
use Rattle.striped_loglet.specs.declared.stripe.Outcome.TheVariants.{Going, Answered}
use Rattle.striped_loglet.specs.declared.pending.Pending.{Pending}
use Rattle.striped_loglet.specs.declared.pending.Course.{Course}
use Rattle.striped_loglet.specs.declared.pending.Decided.{Decided as DecidedOne}
use Rattle.striped_loglet.specs.Plans.{first_plan, asked_of, heard_by, plan_behind, told_at}
use Rattle.striped_loglet.specs.Calls.{Starts, CarriedOn, CarriedInner, BegunNext, IsBeyond, Hears, HearsOf}
use Rattle.striped_loglet.specs.Pendings.{TakesOut}
use Rattle.striped_loglet.specs.State.{Plain, State, Work, PendingMap, plain_of, state_of, loglet_of, work_of, works_of, work_at, inner_of, count_of, faults_of, down_of}
use Rattle.striped_loglet.specs.Going.{IsFor, IsAsked, Fits, IsStriped}
use Rattle.striped_loglet.specs.Striped.{StripedView, striped_view}
use Rattle.striped_loglet.specs.Works.{PutsWork, AsksShare, LetsGo, IsTrimmed, begun_work, BeginsOn, BeginsBy, heard_work, carried_work, GoesOn, AsksNext, TellsBeyond, CarriesBy, CarriesWork, TakesOne, ForgetsAt, ForgetsInner, ForgetsWork}
use Rattle.striped_loglet.proofs.Lists.{map_set, within}
use Rattle.striped_loglet.proofs.Places.{view_at}
use Rattle.striped_loglet.proofs.Sounds.{size_is, work_is}
use Rattle.striped_loglet.proofs.Carried.{Puts}
use Rattle.striped_loglet.proofs.Bridge.{at_by, puts_by, found, same_state}
use Rattle.striped_loglet.proofs.Wholes.{sets_puts}
use Rattle.striped_loglet.proofs.Opening.{begun_plain}
use Rattle.striped_loglet.proofs.Begins.{puts_new}
use Rattle.striped_loglet.proofs.Serving.{kept_set}

-- what is shown, by its parts
abbrev shown : LogletView → List LogletView → List ServersView → List (ℕ × Work) → ℕ → Given → StripedView
shown l vs ss ws r given = record { loglet = l; stripes = vs; servings = ss; works = ws; refusals = r; given = given }

same_rest : (l : LogletView) (vs : List LogletView) (ss ss' : List ServersView) (ws : List (ℕ × Work)) (r r' : ℕ) (given : Given) → ss ≡ ss' → r ≡ r' → shown l vs ss ws r given ≡ shown l vs ss' ws r' given
same_rest l vs ss ss' ws r r' given es er = ap (λ (x : List ServersView). shown l vs x ws r given) es ∙ ap (λ (x : ℕ). shown l vs ss' ws x given) er

map_if : (b : Bool) (x y : Option Plain) → option_map work_of (if b then x else y) ≡ (if b then option_map work_of x else option_map work_of y)
map_if true x y = refl
map_if false x y = refl

-- ---- Trim

asks_share : (task : Task) (size : ℕ) (stage : Stage) (reach cut stripe count : ℕ) → stripe < count → ((n : ℕ) → task ≡ Trimming n → min n reach ≤ cut) → AsksShare task reach cut stripe count (asked_of task size stage cut stripe count)
asks_share (Trimming n) size stage reach cut stripe count l h = (ap (λ (k : ℕ). Trim k) (share_standing count stripe cut l), h n refl)
asks_share Placing size stage reach cut stripe count l h = tt
asks_share (Settling n) size stage reach cut stripe count l h = tt
asks_share Finding size stage reach cut stripe count l h = tt
asks_share Sealing size stage reach cut stripe count l h = tt
asks_share (Reading q) size stage reach cut stripe count l h = tt

lets_go : (v : LogletView) (p : Plain) (m i : ℕ) (a o : Operation) (task mine : Task) (answer : Answer) → IsFor task p m i a mine → MayAnswer v o mine answer → LetsGo task (Answered answer)
lets_go v p m i a o (Trimming n) (Trimming k) TrimDone f h = tt
lets_go v p m i a o (Trimming n) (Trimming k) (NoQuorum u) f h = tt
lets_go v p m i a o (Trimming n) (Trimming k) answer f h = absurd h
lets_go v p m i a o (Trimming n) Placing answer f h = absurd f
lets_go v p m i a o (Trimming n) (Settling k) answer f h = absurd f
lets_go v p m i a o (Trimming n) Finding answer f h = absurd f
lets_go v p m i a o (Trimming n) Sealing answer f h = absurd f
lets_go v p m i a o (Trimming n) (Reading q) answer f h = absurd f
lets_go v p m i a o Placing mine answer f h = tt
lets_go v p m i a o (Settling k) mine answer f h = tt
lets_go v p m i a o Finding mine answer f h = tt
lets_go v p m i a o Sealing mine answer f h = tt
lets_go v p m i a o (Reading q) mine answer f h = tt

some_operation : (a c : Operation) → Some a ≡ Some c → a ≡ c
some_operation a c e = cc

-- the operation that is carried stays what it is
same_task : (a : Operation) (x : Option Operation) (o : Operation) → Advances (Some a) x → x ≡ Some o → o.task ≡ a.task
same_task a None o h e = absurd h
same_task a (Some c) o h e = sym (ap (λ (z : Operation). z.task) (some_operation c o e)) ∙ ap (λ (z : Operation). z.task) h.0

trims_go : (s : State) (p : Plain) (x : Inner) (before after : LogletView) (word : ℕ) (outcome : Outcome) → IsAsked s p x before → CarriedOn before x word (Ok outcome) after → LetsGo p.asked.task outcome
trims_go s p x before after word (Going y) a c = tt
trims_go s p x before after word (Answered answer) a c =
    let mid = c.0 in
    let take = c.2.does in
    let same : take.operation.task ≡ a.operation.task = by mid c.1 take.operation take.is in
    let may : MayAnswer mid take.operation a.operation.task answer = subst (λ (z : Task). MayAnswer mid take.operation z answer) same take.may in
    lets_go mid p (count_of s) x.stripe a.operation take.operation p.asked.task a.operation.task answer a.for may
  where
    by : (mid : LogletView) → (mid ≡ before) ⊎ LogletStep before (Carry x.ticket word) Carried mid → (o : Operation) → operation_at mid.operations x.ticket ≡ Some o → o.task ≡ a.operation.task
    by mid (inl e) o is = ap (λ (z : Operation). z.task) (some_operation o a.operation (sym is ∙ ap (λ (v : LogletView). operation_at v.operations x.ticket) e ∙ a.is))
    by mid (inr step) o is = same_task a.operation (operation_at mid.operations x.ticket) o (subst (λ (z : Option Operation). Advances z (operation_at mid.operations x.ticket)) a.is (step.does.moves.operations x.ticket)) is

is_trimmed : (s : State) (p : Plain) (task : Task) (answer : Answer) → Fits s p task answer → IsTrimmed task p.asked.reach answer s.views
is_trimmed s p (Trimming n) TrimDone f = f
is_trimmed s p task answer f = tt

-- as the open operations change, so does what is under way for them
pub works_put : (s n : State) (t : ℕ) (x : Option Plain) → IsStriped s → IsStriped n → Puts s.at t x n.at → PutsWork (works_of s) t (option_map work_of x) (works_of n)
works_put s n t x h k u q =
    work_is n k q ∙ ap (λ y. option_map work_of y) (u q) ∙ map_if (nat_eq t q) x (s.at q)
    ∙ ap (λ (y : Option Work). if nat_eq t q then option_map work_of x else y) (sym (work_is s h q))

module _ {L : Type 0} (view : L → LogletView) where
  work_found : (shape : Shape) (xs : List L) (marks : Marks) (m : PendingMap L) (t : ℕ) (p : Pending L) → IsStriped (state_of view shape xs marks m) → get nat_eq m t ≡ Some p → work_at (works_of (state_of view shape xs marks m)) t ≡ Some (work_of (plain_of view p))
  work_found shape xs marks m t p h at = work_is (state_of view shape xs marks m) h t ∙ ap (λ y. option_map work_of y) (at_by view m t p at)

  -- what a stripe is doing for it
  pub inner_is : (shape : Shape) (xs : List L) (marks : Marks) (m : PendingMap L) (t : ℕ) (p : Pending L) (x : Option Inner) → IsStriped (state_of view shape xs marks m) → get nat_eq m t ≡ Some p → p.inner ≡ x → inner_of (work_at (works_of (state_of view shape xs marks m)) t) ≡ x
  inner_is shape xs marks m t p x h at mine = ap inner_of (work_found shape xs marks m t p h at) ∙ mine

  heard_works : (shape : Shape) (xs ys : List L) (marks : Marks) (m n : PendingMap L) (t : ℕ) (p : Pending L) (heard : Heard) → IsStriped (state_of view shape xs marks m) → IsStriped (state_of view shape ys marks n) → get nat_eq m t ≡ Some p → Hears m t p.plan heard n
      → PutsWork (works_of (state_of view shape xs marks m)) t (Some (heard_work (work_of (plain_of view p)) heard)) (works_of (state_of view shape ys marks n))
  heard_works shape xs ys marks m n t p (On plan) h k at hears =
      works_put (state_of view shape xs marks m) (state_of view shape ys marks n) t (Some (record (plain_of view p) { plan = plan; inner = None; answer = None })) h k (sets_puts view m n t p plan None None at hears)
  heard_works shape xs ys marks m n t p (Decided answer) h k at hears =
      works_put (state_of view shape xs marks m) (state_of view shape ys marks n) t (Some (record (plain_of view p) { inner = None; answer = Some answer })) h k (sets_puts view m n t p p.plan None (Some answer) at hears)

  outcome_works : (shape : Shape) (xs ys : List L) (marks : Marks) (m n : PendingMap L) (t : ℕ) (p : Pending L) (x : Inner) (outcome : Outcome) → IsStriped (state_of view shape xs marks m) → IsStriped (state_of view shape ys marks n) → get nat_eq m t ≡ Some p
      → HearsOf m t (record { asked = p.asked; plan = p.plan }) x (length (map view xs)) outcome n
      → PutsWork (works_of (state_of view shape xs marks m)) t (Some (carried_work (work_of (plain_of view p)) x (length (map view xs)) outcome)) (works_of (state_of view shape ys marks n))
  outcome_works shape xs ys marks m n t p x (Going y) h k at hears =
      works_put (state_of view shape xs marks m) (state_of view shape ys marks n) t (Some (record (plain_of view p) { inner = Some y; answer = None })) h k (sets_puts view m n t p p.plan (Some y) None at hears)
  outcome_works shape xs ys marks m n t p x (Answered answer) h k at hears = heard_works shape xs ys marks m n t p (heard_by p.asked.task p.asked.size p.plan x.stripe (length (map view xs)) answer) h k at hears

module _ {L : Type 0} (view : L → LogletView) (serving : L → ServersView) where
  -- a call of one server changes no more than its stripe
  pub rest_called : (shape : Shape) (xs ys : List L) (marks : Marks) (m : PendingMap L) (given : Given) (w : StripedView) → striped_view view serving shape xs marks m given ≡ w
      → striped_view view serving shape ys marks m given ≡ record w { loglet = loglet_of (state_of view shape ys marks m); stripes = map view ys; servings = map serving ys }
  rest_called shape xs ys marks m given w e =
      subst (λ (v : StripedView). striped_view view serving shape ys marks m given ≡ record v { loglet = loglet_of (state_of view shape ys marks m); stripes = map view ys; servings = map serving ys }) e refl

  pub rest_strayed : (shape : Shape) (xs ys : List L) (marks : Marks) (m : PendingMap L) (given given' : Given) (w : StripedView) → striped_view view serving shape xs marks m given ≡ w
      → striped_view view serving shape ys marks m given' ≡ record w { loglet = loglet_of (state_of view shape ys marks m); stripes = map view ys; servings = map serving ys; given = given' }
  rest_strayed shape xs ys marks m given given' w e =
      subst (λ (v : StripedView). striped_view view serving shape ys marks m given' ≡ record v { loglet = loglet_of (state_of view shape ys marks m); stripes = map view ys; servings = map serving ys; given = given' }) e refl

  -- ---- Begin

  begun_as : (s : State) (op : Op) (x : Option Inner) → IsStriped s → work_of (begun_plain s op x) ≡ begun_work (loglet_of s) op x
  begun_as s op x h =
      ap (λ (k : ℕ). record { asked = record { task = task_of op; size = k; reach = s.marks.reach; firm = s.marks.firm; faults = faults_of s; down = down_of s }; plan = first_plan (task_of op); inner = x; answer = None }) (sym (size_is s h))

  -- an operation began
  pub begun_works : (shape : Shape) (xs ys : List L) (marks marks' : Marks) (m m1 n : PendingMap L) (given : Given) (w : StripedView) (op : Op) (x : Option Inner) (p : Pending L) → striped_view view serving shape xs marks m given ≡ w → IsStriped (state_of view shape xs marks m) → IsStriped (state_of view shape ys marks' n)
      → Starts (map view xs) op marks.size (Ok x) (map view ys) → ((q : ℕ) → get nat_eq m1 q ≡ get nat_eq m q) → Updates nat_eq m1 n marks.begun (Some p) → plain_of view p ≡ begun_plain (state_of view shape xs marks m) op x → map serving ys ≡ map serving xs → marks'.refusals ≡ marks.refusals
      → BeginsOn w op marks.begun (striped_view view serving shape ys marks' n given)
  begun_works shape xs ys marks marks' m m1 n given w op x p e h k starts same u mine es er =
      let s = state_of view shape xs marks m in
      let n' = state_of view shape ys marks' n in
      subst (λ (v : StripedView). BeginsOn v op marks.begun (striped_view view serving shape ys marks' n given)) e (record {
        work = x;
        starts = subst (λ (k : ℕ). Starts (map view xs) op k (Ok x) (map view ys)) (sym (size_is s h)) starts;
        works = subst (λ (z : Work). PutsWork (works_of s) marks.begun (Some z) (works_of n')) (begun_as s op x h) (works_put s n' marks.begun (Some (begun_plain s op x)) h k (puts_new view m m1 n marks.begun p (begun_plain s op x) same u mine));
        rest = same_rest (loglet_of n') (map view ys) (map serving ys) (map serving xs) (works_of n') marks'.refusals marks.refusals given es er;
      })

  -- one was refused as full
  pub full_works : (shape : Shape) (xs : List L) (marks marks' : Marks) (m : PendingMap L) (given : Given) (w : StripedView) (op : Op) → striped_view view serving shape xs marks m given ≡ w → marks' ≡ record marks { refusals = min (marks.refusals + 1) (2 ^ 64 - 1) } → BeginsBy w op (Err Full) (striped_view view serving shape xs marks' m given)
  full_works shape xs marks marks' m given w op e em =
      subst (λ (v : StripedView). BeginsBy v op (Err Full) (striped_view view serving shape xs marks' m given)) e (rw em refl)

  -- want of memory changes nothing that is shown
  pub unbegun_works : (shape : Shape) (xs ys : List L) (marks : Marks) (m m1 : PendingMap L) (given : Given) (w : StripedView) → striped_view view serving shape xs marks m given ≡ w → state_of view shape ys marks m1 ≡ state_of view shape xs marks m → map serving ys ≡ map serving xs
      → striped_view view serving shape ys marks m1 given ≡ w
  unbegun_works shape xs ys marks m m1 given w e es ess =
      ap (λ (s : State). shown (loglet_of s) s.views (map serving ys) (works_of s) marks.refusals given) es
      ∙ ap (λ (x : List ServersView). shown (loglet_of (state_of view shape xs marks m)) (map view xs) x (works_of (state_of view shape xs marks m)) marks.refusals given) ess ∙ e

  -- ---- Carry

  -- what a stripe was doing for the operation was carried
  pub inner_works : {U : Type 0} (shape : Shape) (xs ys : List L) (marks : Marks) (m n : PendingMap L) (given given' : Given) (w : StripedView) (t word : ℕ) (p : Pending L) (course : Course) (x : Inner) (u : U) → striped_view view serving shape xs marks m given ≡ w → IsStriped (state_of view shape xs marks m) → IsStriped (state_of view shape ys marks n)
      → get nat_eq m t ≡ Some p → p.answer ≡ None → p.inner ≡ Some x → course ≡ record { asked = p.asked; plan = p.plan } → CarriedInner (map view xs) m t course x word (map view ys) n → CarriesWork w t word (Ok u) (striped_view view serving shape ys marks n given')
  inner_works {U = U} shape xs ys marks m n given given' w t word p course x u e h k at none mine ec r' =
      let r : CarriedInner (map view xs) m t (record { asked = p.asked; plan = p.plan }) x word (map view ys) n = subst (λ (c : Course). CarriedInner (map view xs) m t c x word (map view ys) n) ec r' in
      let old = striped_view view serving shape xs marks m given in
      let new = striped_view view serving shape ys marks n given' in
      let goes : GoesOn old t word (work_of (plain_of view p)) x new = record {
        before = r.before;
        after = r.after;
        outcome = r.outcome;
        is = r.is;
        carried = r.carried;
        trims = trims_go (state_of view shape xs marks m) (plain_of view p) x r.before r.after word r.outcome (((found view shape xs marks m t p h at).going none).asks x r.before mine r.is) r.carried;
        stripes = r.rest;
        works = outcome_works view shape xs ys marks m n t p x r.outcome h k at r.hears;
      } in
      subst (λ (v : StripedView). CarriesWork v t word (Ok u) new) e (record {
        work = work_of (plain_of view p);
        is = work_found view shape xs marks m t p h at;
        undecided = none;
        does = subst (λ (y : Option Inner). CarriesBy {U = U} old t word (work_of (plain_of view p)) y (Ok u) new) (sym mine) goes;
        rest = refl;
      })

  -- the next stripe was asked, or none has to be
  pub next_works : {U : Type 0} (shape : Shape) (xs ys : List L) (marks : Marks) (m n : PendingMap L) (given given' : Given) (w : StripedView) (t word : ℕ) (p : Pending L) (course : Course) (u : U) → striped_view view serving shape xs marks m given ≡ w → IsStriped (state_of view shape xs marks m) → IsStriped (state_of view shape ys marks n)
      → get nat_eq m t ≡ Some p → p.answer ≡ None → p.inner ≡ None → course ≡ record { asked = p.asked; plan = p.plan } → BegunNext (map view xs) m t course marks.cut (map view ys) n ⊎ IsBeyond (map view xs) m t course (map view ys) n
      → CarriesWork w t word (Ok u) (striped_view view serving shape ys marks n given')
  next_works {U = U} shape xs ys marks m n given given' w t word p course u e h k at none mine ec r =
      let old = striped_view view serving shape xs marks m given in
      let new = striped_view view serving shape ys marks n given' in
      let work = work_of (plain_of view p) in
      subst (λ (v : StripedView). CarriesWork v t word (Ok u) new) e (record {
        work = work;
        is = work_found view shape xs marks m t p h at;
        undecided = none;
        does = subst (λ (y : Option Inner). CarriesBy {U = U} old t word work y (Ok u) new) (sym mine)
            (by (subst (λ (c : Course). BegunNext (map view xs) m t c marks.cut (map view ys) n ⊎ IsBeyond (map view xs) m t c (map view ys) n) ec r));
        rest = refl;
      })
    where
      by : BegunNext (map view xs) m t (record { asked = p.asked; plan = p.plan }) marks.cut (map view ys) n ⊎ IsBeyond (map view xs) m t (record { asked = p.asked; plan = p.plan }) (map view ys) n
          → AsksNext (striped_view view serving shape xs marks m given) t (work_of (plain_of view p)) (striped_view view serving shape ys marks n given')
          ⊎ TellsBeyond (striped_view view serving shape xs marks m given) t (work_of (plain_of view p)) (striped_view view serving shape ys marks n given')
      by (inl r) = inl (record {
        spoken = r.spoken;
        before = r.before;
        after = r.after;
        inner = r.inner;
        stripe = r.stripe;
        is = r.is;
        step = r.step;
        left = r.left;
        trims = asks_share p.asked.task p.asked.size p.plan.stage p.asked.reach marks.cut r.inner.stripe (length (map view xs)) (within (map view xs) r.inner.stripe r.before r.is) (found view shape xs marks m t p h at).trimming;
        stripes = r.rest;
        works = works_put (state_of view shape xs marks m) (state_of view shape ys marks n) t (Some (record (plain_of view p) { plan = plan_behind p.asked.task (length (map view xs)) p.plan; inner = Some r.inner; answer = None })) h k
            (sets_puts view m n t p (plan_behind p.asked.task (length (map view xs)) p.plan) (Some r.inner) None at r.sets);
      })
      by (inr r) = inr (record {
        unspoken = r.unspoken;
        stripes = r.rest;
        works = works_put (state_of view shape xs marks m) (state_of view shape ys marks n) t (Some (record (plain_of view p) { inner = None; answer = Some (Beyond p.asked.firm) })) h k
            (sets_puts view m n t p p.plan None (Some (Beyond p.asked.firm)) at r.sets);
      })

  -- want of memory: the servers of a stripe may have changed, and nothing else
  pub uncarried_works : {U : Type 0} (shape : Shape) (xs ys : List L) (marks : Marks) (m n : PendingMap L) (given : Given) (w : StripedView) (t word : ℕ) (p : Pending L) (refused : Refused) → striped_view view serving shape xs marks m given ≡ w → IsStriped (state_of view shape xs marks m)
      → get nat_eq m t ≡ Some p → p.answer ≡ None → state_of view shape ys marks n ≡ state_of view shape xs marks m → CarriesWork {U = U} w t word (Err refused) (striped_view view serving shape ys marks n given)
  uncarried_works {U = U} shape xs ys marks m n given w t word p refused e h at none same =
      let old = striped_view view serving shape xs marks m given in
      let new = striped_view view serving shape ys marks n given in
      let but_servings : new ≡ record old { servings = new.servings } = ap (λ (s : State). shown (loglet_of s) s.views (map serving ys) (works_of s) marks.refusals given) same in
      subst (λ (v : StripedView). CarriesWork {U = U} v t word (Err refused) new) e (record {
        work = work_of (plain_of view p);
        is = work_found view shape xs marks m t p h at;
        undecided = none;
        does = by p.inner but_servings;
        rest = refl;
      })
    where
      by : (y : Option Inner) → striped_view view serving shape ys marks n given ≡ record (striped_view view serving shape xs marks m given) { servings = map serving ys }
          → CarriesBy {U = U} (striped_view view serving shape xs marks m given) t word (work_of (plain_of view p)) y (Err refused) (striped_view view serving shape ys marks n given)
      by None e' = e'
      by (Some x) e' = e'

  -- ---- Take

  -- an answer was taken
  pub taken_works : (shape : Shape) (xs : List L) (marks marks' : Marks) (m n : PendingMap L) (given : Given) (w : StripedView) (t : ℕ) (d : DecidedOne) (answer : Answer) → striped_view view serving shape xs marks m given ≡ w → IsStriped (state_of view shape xs marks m) → IsStriped (state_of view shape xs marks' n) → TakesOut m t d n
      → answer ≡ told_at d.task marks.cut d.answer → TakesOne w t answer (striped_view view serving shape xs marks' n given)
  taken_works shape xs marks marks' m n given w t d answer e h k out told =
      subst (λ (v : StripedView). TakesOne v t answer (striped_view view serving shape xs marks' n given)) e (record {
        work = work_of (plain_of view out.p);
        is = work_found view shape xs marks m t out.p h out.was;
        idle = (found view shape xs marks m t out.p h out.was).alone d.answer out.answer;
        decided = d.answer;
        decided_is = out.answer;
        told = rw out.task told;
        trimmed = is_trimmed (state_of view shape xs marks m) (plain_of view out.p) out.p.asked.task d.answer ((found view shape xs marks m t out.p h out.was).told d.answer out.answer);
        works = works_put (state_of view shape xs marks m) (state_of view shape xs marks' n) t None h k (puts_by view m n t None out.rest);
      })

  pub taken_rest : (shape : Shape) (xs : List L) (marks marks' : Marks) (m n : PendingMap L) (given : Given) (w : StripedView) → striped_view view serving shape xs marks m given ≡ w → marks'.refusals ≡ marks.refusals
      → striped_view view serving shape xs marks' n given ≡ record w { loglet = loglet_of (state_of view shape xs marks' n); works = works_of (state_of view shape xs marks' n) }
  taken_rest shape xs marks marks' m n given w e er =
      subst (λ (v : StripedView). striped_view view serving shape xs marks' n given ≡ record v { loglet = loglet_of (state_of view shape xs marks' n); works = works_of (state_of view shape xs marks' n) }) e
      (same_rest (loglet_of (state_of view shape xs marks' n)) (map view xs) (map serving xs) (map serving xs) (works_of (state_of view shape xs marks' n)) marks'.refusals marks.refusals given refl er)

  -- .. or wasn't there yet
  pub waited_works : (shape : Shape) (xs : List L) (marks : Marks) (m n : PendingMap L) (given : Given) (w : StripedView) → striped_view view serving shape xs marks m given ≡ w → n.entries ≡ m.entries → striped_view view serving shape xs marks n given ≡ w
  waited_works shape xs marks m n given w e same = unbegun_works shape xs xs marks m n given w e (same_state view shape xs marks m n same) refl

  -- ---- Forget

  -- an operation was forgotten, and the stripe's with it
  pub forgot_works : (shape : Shape) (xs : List L) (marks : Marks) (m n : PendingMap L) (given : Given) (w : StripedView) (t : ℕ) (p : Pending L) (x : Inner) (old new : L) → striped_view view serving shape xs marks m given ≡ w → IsStriped (state_of view shape xs marks m) → IsStriped (state_of view shape (set xs x.stripe new) marks n)
      → get nat_eq m t ≡ Some p → p.inner ≡ Some x → x.stripe < length xs → old ≡ get_or xs x.stripe old → LogletStep (view old) (Forget x.ticket) Forgotten (view new) → serving new ≡ serving old → Updates nat_eq m n t None
      → ForgetsWork w t (striped_view view serving shape (set xs x.stripe new) marks n given)
  forgot_works shape xs marks m n given w t p x old new e h k at mine l is step kept u =
      let s = state_of view shape xs marks m in
      let n' = state_of view shape (set xs x.stripe new) marks n in
      let forgets : ForgetsAt (map view xs) x (map view (set xs x.stripe new)) = record { before = view old; after = view new; is = view_at view xs x.stripe old l is; step = step; rest = map_set view xs x.stripe new } in
      subst (λ (v : StripedView). ForgetsWork v t (striped_view view serving shape (set xs x.stripe new) marks n given)) e (record {
        stripe = subst (λ (y : Option Inner). ForgetsInner (map view xs) y (map view (set xs x.stripe new))) (sym (inner_is view shape xs marks m t p (Some x) h at mine)) forgets;
        works = works_put s n' t None h k (puts_by view m n t None u);
        rest = same_rest (loglet_of n') (map view (set xs x.stripe new)) (map serving (set xs x.stripe new)) (map serving xs) (works_of n') marks.refusals marks.refusals given (kept_set serving xs x.stripe old new l is kept) refl;
      })

  -- .. or none was at work for it
  pub forgot_idle : (shape : Shape) (xs : List L) (marks : Marks) (m n : PendingMap L) (given : Given) (w : StripedView) (t : ℕ) (p : Pending L) → striped_view view serving shape xs marks m given ≡ w → IsStriped (state_of view shape xs marks m) → IsStriped (state_of view shape xs marks n) → get nat_eq m t ≡ Some p → p.inner ≡ None → Updates nat_eq m n t None
      → ForgetsWork w t (striped_view view serving shape xs marks n given)
  forgot_idle shape xs marks m n given w t p e h k at mine u =
      subst (λ (v : StripedView). ForgetsWork v t (striped_view view serving shape xs marks n given)) e (record {
        stripe = subst (λ (y : Option Inner). ForgetsInner (map view xs) y (map view xs)) (sym (inner_is view shape xs marks m t p None h at mine)) refl;
        works = works_put (state_of view shape xs marks m) (state_of view shape xs marks n) t None h k (puts_by view m n t None u);
        rest = refl;
      })
