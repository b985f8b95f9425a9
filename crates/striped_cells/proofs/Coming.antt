-- What comes of the calls of a cell in stripes, from what each of their parts does.
use Rattle.std.proofs.Common.{◌≡◌, ℕ, Bool, true, false, List, length, set, Option, Some, None, refl, sym, ap, ◌∙◌, subst}
use Rattle.std.specs.Prelude.{slice_get, is_some, if◌then◌else◌}
use Rattle.loglet_api.specs.declared.call.Op.{Op}
use Rattle.loglet_api.specs.declared.call.Answer.{Answer}
use Rattle.loglet_api.specs.declared.call.Answer.TheVariants.{Beyond}
use Rattle.striped_loglet.specs.declared.pending.Course.{Course}
use Rattle.striped_loglet.specs.declared.plan.Plan.{Plan}
use Rattle.striped_loglet.specs.declared.plan.Heard.{Heard}
use Rattle.striped_loglet.specs.declared.stripe.Inner.{Inner}
use Rattle.striped_loglet.specs.Plans.{IsUnspoken, target_of, asked_of, plan_behind, heard_by}
use Rattle.striped_loglet.proofs.Lists.{length_set, set_back}
use Rattle.striped_cells.specs.Pursuits.{Pursuit, open_at, is_waiting, is_unspoken, heard_so}
use Rattle.striped_cells.specs.Ways.{Ways}
use Rattle.striped_cells.specs.Striped.{Striped, inner_of, put_operation, asked, asked_on, asks, heard, heard_on, heard_from, hears, dropped, dropped_on, forgets}
use Rattle.striped_cells.proofs.Striping.{unspoken_is}

pub spoken : (p : Pursuit) → (IsUnspoken p.asked.task p.asked.firm → ⊥) → is_unspoken p.asked.task p.asked.firm ≡ false
spoken p not = by (is_unspoken p.asked.task p.asked.firm) refl
  where
    by : (b : Bool) → is_unspoken p.asked.task p.asked.firm ≡ b → is_unspoken p.asked.task p.asked.firm ≡ false
    by true e = absurd (not (unspoken_is p.asked.task p.asked.firm e))
    by false e = e

-- a list has as many after one of them is put
pub as_many : {A : Type 0} (xs ys : List A) (i : ℕ) (x : A) → ys ≡ set xs i x → length ys ≡ length xs
as_many xs ys i x e = ap length e ∙ length_set xs i x

module _ {C : Type 0} (k : Ways C) (c : Striped C) (t : ℕ) (p : Pursuit) (at : open_at c.operations t ≡ Some p) where
  asks_it : is_waiting p ≡ true → asks k c t (open_at c.operations t) ≡ asked k c t p
  asks_it waits = ap (asks k c t) at ∙ ap (λ (b : Bool). if b then asked k c t p else c) waits

  pub asked_stripe : (x : C) (op : Op) (inner : Inner) (plan : Plan) (stripes : List C) → is_waiting p ≡ true → is_unspoken p.asked.task p.asked.firm ≡ false → slice_get c.stripes (target_of p.asked.task (length c.stripes) p.plan) ≡ Some x
      → op ≡ asked_of p.asked.task p.asked.size p.plan.stage c.marks.cut (target_of p.asked.task (length c.stripes) p.plan) (length c.stripes) → inner ≡ inner_of k (target_of p.asked.task (length c.stripes) p.plan) x op → plan ≡ plan_behind p.asked.task (length c.stripes) p.plan → stripes ≡ set c.stripes (target_of p.asked.task (length c.stripes) p.plan) (k.begin x op)
      → put_operation k (record c { stripes = stripes }) t (record p { plan = plan; inner = Some inner; answer = None }) ≡ asks k c t (open_at c.operations t)
  asked_stripe x op inner plan stripes waits spoken is eo ei ep es =
      let i = target_of p.asked.task (length c.stripes) p.plan in
      let op' = asked_of p.asked.task p.asked.size p.plan.stage c.marks.cut i (length c.stripes) in
      let e1 : inner ≡ inner_of k i x op' = ei ∙ ap (inner_of k i x) eo in
      let e2 : stripes ≡ set c.stripes i (k.begin x op') = es ∙ ap (λ (o : Op). set c.stripes i (k.begin x o)) eo in
      ap (λ (xs : List C). put_operation k (record c { stripes = xs }) t (record p { plan = plan; inner = Some inner; answer = None })) e2
      ∙ (ap (λ (n : Inner). put_operation k (record c { stripes = set c.stripes i (k.begin x op') }) t (record p { plan = plan; inner = Some n; answer = None })) e1
      ∙ (ap (λ (q : Plan). put_operation k (record c { stripes = set c.stripes i (k.begin x op') }) t (record p { plan = q; inner = Some (inner_of k i x op'); answer = None })) ep
      ∙ sym (asks_it waits ∙ (ap (λ (b : Bool). if b then put_operation k c t (record p { inner = None; answer = Some (Beyond p.asked.firm) }) else asked_on k c t p i (slice_get c.stripes i)) spoken ∙ ap (asked_on k c t p i) is))))

  hears_it : p.answer ≡ None → hears k c t (open_at c.operations t) ≡ heard_from k c t p p.inner
  hears_it none = ap (hears k c t) at ∙ ap (λ (b : Bool). if b then c else heard_from k c t p p.inner) (ap is_some none)

  hears_so : (inner : Inner) (x : C) (o : Option Answer) → p.answer ≡ None → p.inner ≡ Some inner → slice_get c.stripes inner.stripe ≡ Some x → k.answer x inner.ticket ≡ o → hears k c t (open_at c.operations t) ≡ heard k c t p inner x o
  hears_so inner x o none mine is told = hears_it none ∙ (ap (heard_from k c t p) mine ∙ (ap (heard_on k c t p inner) is ∙ ap (heard k c t p inner x) told))

  pub unheard : (inner : Inner) (x : C) → p.answer ≡ None → p.inner ≡ Some inner → slice_get c.stripes inner.stripe ≡ Some x → k.answer x inner.ticket ≡ None → c ≡ hears k c t (open_at c.operations t)
  unheard inner x none mine is told = sym (hears_so inner x None none mine is told)

  pub heard_answer : (inner : Inner) (x : C) (a : Answer) → p.answer ≡ None → p.inner ≡ Some inner → slice_get c.stripes inner.stripe ≡ Some x → k.answer x inner.ticket ≡ Some a
      → record c { stripes = set c.stripes inner.stripe (k.take x inner.ticket); operations = set c.operations t (heard_so p (heard_by p.asked.task p.asked.size p.plan inner.stripe (length c.stripes) a)) } ≡ hears k c t (open_at c.operations t)
  heard_answer inner x a none mine is told = sym (hears_so inner x (Some a) none mine is told)

  ---- the same, as the parts of a call tell it

  pub asked_whole : (s new : Striped C) (x : C) (op : Op) (inner : Inner) (course : Course) (plan : Plan) (m i : ℕ) (xs : List C) → s ≡ c → is_waiting p ≡ true → is_unspoken p.asked.task p.asked.firm ≡ false → slice_get c.stripes i ≡ Some x
      → course ≡ record { asked = p.asked; plan = p.plan } → m ≡ length c.stripes → i ≡ target_of course.asked.task m course.plan → op ≡ asked_of course.asked.task course.asked.size course.plan.stage s.marks.cut i m → plan ≡ plan_behind course.asked.task m course.plan
      → inner ≡ inner_of k i x op → xs ≡ set s.stripes i (k.begin x op) → new ≡ put_operation k (record s { stripes = xs }) t (record p { plan = plan; inner = Some inner; answer = None })
      → new ≡ asks k c t (open_at c.operations t)
  asked_whole s new x op inner course plan m i xs es waits said is ec em ei eo ep en exs enew =
      let j : ℕ = target_of p.asked.task (length c.stripes) p.plan in
      let target : i ≡ j = ei ∙ (ap (λ (z : Course). target_of z.asked.task m z.plan) ec ∙ ap (λ n. target_of p.asked.task n p.plan) em) in
      let what : op ≡ asked_of p.asked.task p.asked.size p.plan.stage c.marks.cut j (length c.stripes) =
      eo ∙ (ap (λ (z : Course). asked_of z.asked.task z.asked.size z.plan.stage s.marks.cut i m) ec
      ∙ (ap (λ (z : Striped C). asked_of p.asked.task p.asked.size p.plan.stage z.marks.cut i m) es
      ∙ (ap (λ n. asked_of p.asked.task p.asked.size p.plan.stage c.marks.cut n m) target
      ∙ ap (λ n. asked_of p.asked.task p.asked.size p.plan.stage c.marks.cut j n) em))) in
      let behind : plan ≡ plan_behind p.asked.task (length c.stripes) p.plan = ep ∙ (ap (λ (z : Course). plan_behind z.asked.task m z.plan) ec ∙ ap (λ n. plan_behind p.asked.task n p.plan) em) in
      let on : inner ≡ inner_of k j x op = en ∙ ap (λ n. inner_of k n x op) target in
      let all : xs ≡ set c.stripes j (k.begin x op) = exs ∙ (ap (λ (z : Striped C). set z.stripes i (k.begin x op)) es ∙ ap (λ n. set c.stripes n (k.begin x op)) target) in
      enew ∙ (ap (λ (z : Striped C). put_operation k (record z { stripes = xs }) t (record p { plan = plan; inner = Some inner; answer = None })) es
      ∙ asked_stripe x op inner plan xs waits said (subst (λ n. slice_get c.stripes n ≡ Some x) target is) what on behind all)

  pub unheard_whole : (s : Striped C) (inner : Inner) (x : C) (xs : List C) (o : Option Answer) → s ≡ c → p.answer ≡ None → p.inner ≡ Some inner → slice_get c.stripes inner.stripe ≡ Some x
      → o ≡ k.answer x inner.ticket → o ≡ None → xs ≡ set s.stripes inner.stripe (if is_some o then k.take x inner.ticket else x)
      → record s { stripes = xs } ≡ hears k c t (open_at c.operations t)
  unheard_whole s inner x xs o es none mine is told so exs =
      let all : xs ≡ c.stripes =
      exs ∙ (ap (λ (a : Option Answer). set s.stripes inner.stripe (if is_some a then k.take x inner.ticket else x)) so
      ∙ (ap (λ (z : Striped C). set z.stripes inner.stripe x) es ∙ set_back c.stripes inner.stripe x is)) in
      ap (λ (z : Striped C). record z { stripes = xs }) es
      ∙ (ap (λ (zs : List C). record c { stripes = zs }) all ∙ unheard inner x none mine is (sym told ∙ so))

  pub heard_whole : (s : Striped C) (inner : Inner) (x : C) (xs : List C) (o : Option Answer) (a : Answer) (h : Heard) (m n : ℕ) (found q : Pursuit) (course : Course) → s ≡ c → p.answer ≡ None → p.inner ≡ Some inner → slice_get c.stripes inner.stripe ≡ Some x
      → o ≡ k.answer x inner.ticket → o ≡ Some a → xs ≡ set s.stripes inner.stripe (if is_some o then k.take x inner.ticket else x)
      → course ≡ record { asked = p.asked; plan = p.plan } → m ≡ length c.stripes → h ≡ heard_by course.asked.task course.asked.size course.plan inner.stripe m a → n ≡ t → found ≡ p → q ≡ heard_so found h
      → record s { stripes = xs; operations = set s.operations n q } ≡ hears k c t (open_at c.operations t)
  heard_whole s inner x xs o a h m n found q course es none mine is told answer exs ec em eh en ef eq =
      let all : xs ≡ set c.stripes inner.stripe (k.take x inner.ticket) =
      exs ∙ (ap (λ (b : Option Answer). set s.stripes inner.stripe (if is_some b then k.take x inner.ticket else x)) answer
      ∙ ap (λ (z : Striped C). set z.stripes inner.stripe (k.take x inner.ticket)) es) in
      let so : h ≡ heard_by p.asked.task p.asked.size p.plan inner.stripe (length c.stripes) a =
      eh ∙ (ap (λ (z : Course). heard_by z.asked.task z.asked.size z.plan inner.stripe m a) ec ∙ ap (λ j. heard_by p.asked.task p.asked.size p.plan inner.stripe j a) em) in
      let new : q ≡ heard_so p (heard_by p.asked.task p.asked.size p.plan inner.stripe (length c.stripes) a) = eq ∙ (ap (λ (z : Pursuit). heard_so z h) ef ∙ ap (heard_so p) so) in
      ap (λ (z : Striped C). record z { stripes = xs; operations = set z.operations n q }) es
      ∙ (ap (λ (zs : List C). record c { stripes = zs; operations = set c.operations n q }) all
      ∙ (ap (λ j. record c { stripes = set c.stripes inner.stripe (k.take x inner.ticket); operations = set c.operations j q }) en
      ∙ (ap (λ (z : Pursuit). record c { stripes = set c.stripes inner.stripe (k.take x inner.ticket); operations = set c.operations t z }) new
      ∙ heard_answer inner x a none mine is (sym told ∙ answer))))

  forgets_it : forgets k c t (open_at c.operations t) ≡ record c { stripes = dropped k c p.inner; operations = set c.operations t (record p { closed = true }) }
  forgets_it = ap (forgets k c t) at

  pub forgot_inner : (s new : Striped C) (inner : Inner) (x y : C) → s ≡ c → p.inner ≡ Some inner → slice_get c.stripes inner.stripe ≡ Some x → y ≡ k.forget x inner.ticket
      → new ≡ put_operation k (record s { stripes = set s.stripes inner.stripe y }) t (record p { closed = true }) → new ≡ forgets k c t (open_at c.operations t)
  forgot_inner s new inner x y es mine is ey e =
      let gone : dropped k c p.inner ≡ set c.stripes inner.stripe (k.forget x inner.ticket) = ap (dropped k c) mine ∙ ap (dropped_on k c inner) is in
      e ∙ (ap (λ (z : Striped C). put_operation k (record z { stripes = set z.stripes inner.stripe y }) t (record p { closed = true })) es
      ∙ (ap (λ (z : C). put_operation k (record c { stripes = set c.stripes inner.stripe z }) t (record p { closed = true })) ey
      ∙ sym (forgets_it ∙ ap (λ (xs : List C). record c { stripes = xs; operations = set c.operations t (record p { closed = true }) }) gone)))
