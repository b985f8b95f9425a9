-- What holds of an open operation goes on to hold.
use Rattle.std.proofs.Common.{◌≡◌, inl, inr, ℕ, ◌+◌, ◌-◌, ◌*◌, ◌/◌, ◌%◌, ◌^◌, ◌<◌, ◌≤◌, List, length, map, Option, Some, None, true, refl, sym, ap, ◌∙◌, subst, arith, min}
use Rattle.std.specs.Prelude.{◌⊎◌, slice_get}
use Rattle.std.proofs.Math.Nat.{mul-le-mul_left}
use Rattle.delos_types.specs.declared.entry.Entry.{Entry}
use Rattle.loglet_api.specs.declared.call.Answer.{Answer}
use Rattle.loglet_api.specs.declared.call.Answer.TheVariants.{Placed, Settled, OpenTail, SealedTail, SealDone, Got, CutAt, Beyond, TrimDone, Sealed, NoQuorum}
use Rattle.loglet_api.specs.declared.call.Task.{Task}
use Rattle.loglet_api.specs.declared.call.Task.TheVariants.{Placing, Settling, Finding, Sealing, Reading, Trimming}
use Rattle.loglet_api.specs.View.{LogletView, Operation, operation_at, size_of}
use Rattle.loglet_api.specs.Step.{RoseBy, IsAtMost, Advances}
use Rattle.loglet_api.specs.Keeps.{Keeps}
use Rattle.stripe_rule.specs.Stripes.{covered, share}
use Rattle.striped_loglet.specs.declared.plan.Stage.{Stage}
use Rattle.striped_loglet.specs.declared.plan.Stage.TheVariants.{First, Last}
use Rattle.striped_loglet.specs.declared.plan.Stage.TheVariants.{Sealing as SealingStage}
use Rattle.striped_loglet.specs.declared.stripe.Inner.{Inner}
use Rattle.striped_loglet.specs.Views.{entry_in, entry_at, AllShut, AllReach, AllFirm, IsCapped}
use Rattle.striped_loglet.specs.State.{Plain, State, count_of, faults_of, down_of}
use Rattle.striped_loglet.specs.Going.{HasTold, HasHeard, IsFor, IsPending, IsGoing, IsDone, IsAsked, IsLacking, Fits, IsStriped}
use Rattle.striped_loglet.proofs.Lists.{within, covered_later}
use Rattle.striped_loglet.proofs.Joins.{index_behind}

-- a later moment; one operation of a stripe may have ended
pub record Goes (s n : State) (ends : ℕ → ℕ → Type 0) : Type 0 where
  pub count : count_of n ≡ count_of s
  pub some : 0 < count_of s
  pub shape : n.shape ≡ s.shape
  pub forth : (i : ℕ) (v : LogletView) → slice_get s.views i ≡ Some v → (w : LogletView) × (slice_get n.views i ≡ Some w) × Keeps v w
  pub back : (i : ℕ) (w : LogletView) → slice_get n.views i ≡ Some w → (v : LogletView) × (slice_get s.views i ≡ Some v) × Keeps v w
  pub tickets : (i : ℕ) (v w : LogletView) (t : ℕ) (o : Operation) → slice_get s.views i ≡ Some v → slice_get n.views i ≡ Some w → operation_at v.operations t ≡ Some o → ¬ (ends i t) → Advances (Some o) (operation_at w.operations t)
  pub cuts : (i : ℕ) (w : LogletView) → slice_get n.views i ≡ Some w → w.cut ≤ share (count_of s) i n.marks.cut
  pub rises : (i : ℕ) (v w : LogletView) → slice_get s.views i ≡ Some v → slice_get n.views i ≡ Some w → RoseBy (w.faults - v.faults) (faults_of s) (faults_of n)
  pub size : s.marks.size ≤ n.marks.size
  pub cut : s.marks.cut ≤ n.marks.cut
  pub reach : s.marks.reach ≤ n.marks.reach
  pub firm : s.marks.firm ≤ n.marks.firm
  pub begun : s.marks.begun ≤ n.marks.begun
  pub seals : s.marks.seals ≤ n.marks.seals
  pub faults : faults_of s ≤ faults_of n
  pub down : RoseBy (down_of n - down_of s) (faults_of s) (faults_of n)
  pub quorum : map (λ v. v.quorum) n.views ≡ map (λ v. v.quorum) s.views

in_log : {A : Type 0} (xs : List A) (i : ℕ) (x : A) → slice_get xs i ≡ Some x → i < length xs
in_log = within

entry_of_later : (s n : State) (ends : ℕ → ℕ → Type 0) → Goes s n ends → (q : ℕ) (e : Entry) → n.marks.cut ≤ q → (x : Option LogletView) → slice_get s.views (q % count_of s) ≡ x → entry_in x (q / count_of s) ≡ Some e → entry_at n.views q ≡ Some e
entry_of_later s n ends g q e le None is at = absurd (cc)
entry_of_later s n ends g q e le (Some v) is at =
    let m = count_of s in
    let f = g.forth (q % m) v is in
    let w = f.0 in
    let low : share m (q % m) n.marks.cut ≤ q / m = index_behind m q n.marks.cut g.some le in
    let behind : w.cut ≤ q / m = (let c = g.cuts (q % m) w f.1 in omega (arith, c, low)) in
    let inside : q / m - v.cut < length v.log = in_log v.log (q / m - v.cut) e at in
    let cut : v.cut ≤ w.cut = f.2.cut in
    let lt : q / m < size_of v = omega (arith, inside, behind, cut) in
    let same : slice_get w.log (q / m - w.cut) ≡ Some e = f.2.entries (q / m) behind lt ∙ at in
    rw (g.count) (ap (λ y. entry_in y (q / m)) f.1 ∙ same)

pub entry_later : (s n : State) (ends : ℕ → ℕ → Type 0) → Goes s n ends → (q : ℕ) (e : Entry) → n.marks.cut ≤ q → entry_at s.views q ≡ Some e → entry_at n.views q ≡ Some e
entry_later s n ends g q e le at = entry_of_later s n ends g q e le (slice_get s.views (q % count_of s)) refl at

reach_later : (s n : State) (ends : ℕ → ℕ → Type 0) (t : ℕ) → Goes s n ends → AllReach s.views t → AllReach n.views t
reach_later s n ends t g h i w is = let b = g.back i w is in covered_later (count_of s) (count_of n) i b.0.reach w.reach t g.count b.2.reach (h i b.0 b.1)

firm_later : (s n : State) (ends : ℕ → ℕ → Type 0) (t : ℕ) → Goes s n ends → AllFirm s.views t → AllFirm n.views t
firm_later s n ends t g h i w is = let b = g.back i w is in covered_later (count_of s) (count_of n) i b.0.firm w.firm t g.count b.2.firm (h i b.0 b.1)

pub shut_later : (s n : State) (ends : ℕ → ℕ → Type 0) → Goes s n ends → AllShut s.views → AllShut n.views
shut_later s n ends g h i w is = let b = g.back i w is in b.2.shut (h i b.0 b.1)

covered_falls : (m k i a b t : ℕ) → k ≡ m → b ≤ a → covered m i a ≤ t → covered k i b ≤ t
covered_falls m k i a b t e le h = let more : m * b ≤ m * a = mul-le-mul_left m le in rw e (omega (arith, more, h))

pub capped_later : (s n : State) (ends : ℕ → ℕ → Type 0) (t : ℕ) → Goes s n ends → IsCapped s.views t → IsCapped n.views t
capped_later s n ends t g h =
    let f = g.forth h.stripe h.view h.is in
    let c = f.2.cap h.cap h.cap_is in
    record { stripe = h.stripe; view = f.0; is = f.1; cap = c.0; cap_is = c.1; within = covered_falls (count_of s) (count_of n) h.stripe h.cap c.0 t g.count c.2 h.within }

one_shut_later : (s n : State) (ends : ℕ → ℕ → Type 0) → Goes s n ends → ((i : ℕ) × (v : LogletView) × (slice_get s.views i ≡ Some v) × (v.shut ≡ true)) → (i : ℕ) × (v : LogletView) × (slice_get n.views i ≡ Some v) × (v.shut ≡ true)
one_shut_later s n ends g h = let f = g.forth h.0 h.1 h.2 in (h.0, f.0, f.1, f.2.shut h.3)

rose_then : (n before now later : ℕ) → RoseBy n before now → now ≤ later → RoseBy n before later
rose_then n before now later h l = omega (arith, h, l)

lacking_later : (s n : State) (ends : ℕ → ℕ → Type 0) (p : Plain) (u : ℕ) → Goes s n ends → IsLacking s p u → IsLacking n p u
lacking_later s n ends p u g h =
    record { enough = rw g.quorum h.enough; servers = rw g.shape h.servers; faults = rose_then (u - p.asked.down) p.asked.faults (faults_of s) (faults_of n) h.faults g.faults }

trimmed_later : (m k i t a b : ℕ) → k ≡ m → a ≤ b → share m i t ≤ a → share k i t ≤ b
trimmed_later m k i t a b e l h = rw e (omega (arith, l, h))

pub fits_later : (s n : State) (ends : ℕ → ℕ → Type 0) (p : Plain) (task : Task) (answer : Answer) → Goes s n ends → Fits s p task answer → Fits n p task answer
fits_later s n ends p Placing (Placed q) g h = (h.0, h.1, reach_later s n ends (p.asked.size + 1) g h.2)
fits_later s n ends p Placing Sealed g h = one_shut_later s n ends g h
fits_later s n ends p (Settling k) Settled g h = (h.0, reach_later s n ends (min k p.asked.size) g h.1)
fits_later s n ends p (Settling k) Sealed g h = one_shut_later s n ends g h
fits_later s n ends p Finding (OpenTail t) g h = (h.0, h.1, reach_later s n ends t g h.2)
fits_later s n ends p Finding (SealedTail t) g h = (shut_later s n ends g h.0, firm_later s n ends t g h.1, capped_later s n ends t g h.2)
fits_later s n ends p Sealing SealDone g h = shut_later s n ends g h
fits_later s n ends p (Reading q) (Beyond k) g h = h
fits_later s n ends p (Reading q) (Got e) g h = (h.0, λ le. entry_later s n ends g q e le (h.1 (let c = g.cut in omega (arith, c, le))))
fits_later s n ends p (Reading q) (CutAt k) g h = omega (arith, h, g.cut)
fits_later s n ends p (Reading q) (NoQuorum u) g h = (h.0, lacking_later s n ends p u g h.1)
fits_later s n ends p (Trimming k) TrimDone g h = λ i w is. (let b = g.back i w is in trimmed_later (count_of s) (count_of n) i (min k p.asked.reach) b.0.cut w.cut g.count b.2.cut (h i b.0 b.1))
fits_later s n ends p task (NoQuorum u) g h = lacking_later s n ends p u g h
fits_later s n ends p task answer g h = absurd h

told_later : (stage : Stage) (p : Plain) (m k i : ℕ) (v w : LogletView) → k ≡ m → Keeps v w → HasTold stage p m i v → HasTold stage p k i w
told_later First p m k i v w e l h = (covered_later m k i v.reach w.reach p.plan.tail e l.reach h.0, h.1)
told_later SealingStage p m k i v w e l h = l.shut h
told_later Last p m k i v w e l h = covered_later m k i v.firm w.firm p.plan.tail e l.firm h

pub heard_later : (task : Task) (p : Plain) (m k i : ℕ) (v w : LogletView) → k ≡ m → Keeps v w → HasHeard task p m i v → HasHeard task p k i w
heard_later Placing p m k i v w e l h = (covered_later m k i v.reach w.reach (p.asked.size + 1) e l.reach h.0, h.1)
heard_later (Settling n) p m k i v w e l h = (covered_later m k i v.reach w.reach (min n p.asked.size) e l.reach h.0, h.1)
heard_later Finding p m k i v w e l h = told_later p.plan.stage p m k i v w e l h
heard_later Sealing p m k i v w e l h = l.shut h
heard_later (Reading q) p m k i v w e l h = tt
heard_later (Trimming n) p m k i v w e l h = trimmed_later m k i (min n p.asked.reach) v.cut w.cut e l.cut h

-- an operation that is still open is the same one, with less left
pub record StaysOpen (o : Operation) (x : Option Operation) : Type 0 where
  pub now : Operation
  pub is : x ≡ Some now
  pub same : now ≡ record o { left = now.left }
  pub less : IsAtMost now.left o.left

pub stays_open : (o : Operation) (x : Option Operation) → Advances (Some o) x → StaysOpen o x
stays_open o None h = absurd h
stays_open o (Some a) h = record { now = a; is = refl; same = h.0; less = h.1 }

at_most_trans : (a b c : ℕ × ℕ) → IsAtMost a b → IsAtMost b c → IsAtMost a c
at_most_trans a b c (inl x) (inl y) = inl (omega arith)
at_most_trans a b c (inl x) (inr y) = inl (omega (arith, y.0))
at_most_trans a b c (inr x) (inl y) = inl (omega (arith, x.0))
at_most_trans a b c (inr x) (inr y) = inr (x.0 ∙ y.0, omega (arith, x.1, y.1))

more_lack : (d f v w before now later : ℕ) → v ≤ w → RoseBy (d + (v - f)) before now → RoseBy (w - v) now later → f ≤ v → RoseBy (d + (w - f)) before later
more_lack d f v w before now later le h r l = omega (arith, h, r, le, l)

for_left : (task : Task) (p : Plain) (m i : ℕ) (o : Operation) (left : ℕ × ℕ) (t : Task) → IsFor task p m i o t → IsFor task p m i (record o { left = left }) t
for_left Placing p m i o left Placing h = h
for_left Placing p m i o left (Settling k) h = h
for_left (Settling n) p m i o left (Settling k) h = h
for_left Finding p m i o left t h = h
for_left Sealing p m i o left t h = h
for_left (Reading q) p m i o left t h = h
for_left (Trimming n) p m i o left (Trimming k) h = h
for_left mine p m i o left t h = absurd h

asked_with : (s n : State) (p : Plain) (x : Inner) (v w : LogletView) (o now : Operation) → count_of n ≡ count_of s → now ≡ record o { left = now.left }
    → IsFor p.asked.task p (count_of s) x.stripe o o.task → IsFor p.asked.task p (count_of n) x.stripe now now.task
asked_with s n p x v w o now e same h = rw e (rw same (for_left p.asked.task p (count_of s) x.stripe o now.left o.task h))

pub asked_later : (s n : State) (ends : ℕ → ℕ → Type 0) (p : Plain) (x : Inner) (v w : LogletView) → Goes s n ends → slice_get s.views x.stripe ≡ Some v → slice_get n.views x.stripe ≡ Some w → v.faults ≤ w.faults → ¬ (ends x.stripe x.ticket)
    → ((a : IsAsked s p x v) → a.operation.faults ≤ v.faults) → IsAsked s p x v → IsAsked n p x w
asked_later s n ends p x v w g at is le stays small a =
    let o = stays_open a.operation (operation_at w.operations x.ticket) (g.tickets x.stripe v w x.ticket a.operation at is a.is stays) in
    let e = o.same in
    let b = g.back x.stripe w is in
    let kept : Keeps b.0 w = b.2 in
    let same : b.0 ≡ v = (let f = sym b.1 ∙ at in some_same b.0 v f) in
    let keeps : Keeps v w = subst (λ (y : LogletView). Keeps y w) same kept in
    record {
      operation = o.now;
      is = o.is;
      for = asked_with s n p x v w a.operation o.now g.count e a.for;
      left = at_most_trans o.now.left a.operation.left (x.rounds, x.steps) o.less a.left;
      rounds = rw keeps.rounds a.rounds;
      steps = rw keeps.servers a.steps;
      reach = covered_later (count_of s) (count_of n) x.stripe a.operation.reach o.now.reach p.asked.reach g.count (let f = ap (λ (y : Operation). y.reach) e in omega (arith, f)) a.reach;
      firm = covered_later (count_of s) (count_of n) x.stripe a.operation.firm o.now.firm p.asked.firm g.count (let f = ap (λ (y : Operation). y.firm) e in omega (arith, f)) a.firm;
      shut = λ c is shut. ap (λ (y : Operation). y.shut) e ∙ a.shut c is shut;
      again = λ f l. ap (λ (y : Operation). y.shut) e ∙ a.again f l;
      trims = λ j f. trimmed_later (count_of s) (count_of n) x.stripe (min j p.asked.reach) v.cut w.cut g.count keeps.cut (a.trims j f);
      lack = (let d = ap (λ (y : Operation). y.down) e in let f = ap (λ (y : Operation). y.faults) e in
          let all = more_lack (a.operation.down - p.asked.down) a.operation.faults v.faults w.faults p.asked.faults (faults_of s) (faults_of n) le a.lack (g.rises x.stripe v w at is) (small a) in
          lack_as (o.now.down) (a.operation.down) o.now.faults a.operation.faults p.asked.down w.faults p.asked.faults (faults_of n) d f all);
    }
  where
    some_same : (a c : LogletView) → Some a ≡ Some c → a ≡ c
    some_same a c h = cc

    lack_as : (d' d f' f q w before now : ℕ) → d' ≡ d → f' ≡ f → RoseBy ((d - q) + (w - f)) before now → RoseBy ((d' - q) + (w - f')) before now
    lack_as d' d f' f q w before now ed ef h = rw (ed, ef) h

-- what the stripes of a striped loglet say of the operations that are under way
pub sound_faults : (s : State) → IsStriped s → (i : ℕ) (v : LogletView) (t : ℕ) (o : Operation) → slice_get s.views i ≡ Some v → operation_at v.operations t ≡ Some o → o.faults ≤ v.faults
sound_faults s h i v t o at is = ((h.stripes i v at).sound.operations t o is).faults

pub going_later : (s n : State) (ends : ℕ → ℕ → Type 0) (p : Plain) → IsStriped s → Goes s n ends → ((x : Inner) → p.inner ≡ Some x → ¬ (ends x.stripe x.ticket)) → IsGoing s p → IsGoing n p
going_later s n ends p h g stays w =
    record {
      next = rw g.count w.next;
      stage = w.stage;
      waits = λ e. rw g.count (w.waits e);
      skips = λ e f. rw g.count (w.skips e f);
      single = w.single;
      sealing = λ e. (let old = w.sealing e in omega (arith, old, g.seals));
      done = λ i y is d. (let b = g.back i y is in heard_later p.asked.task p (count_of s) (count_of n) i b.0 y g.count b.2 (w.done i b.0 b.1 (done_as p (count_of n) (count_of s) i g.count d)));
      above = w.above;
      all_shut = λ f l. shut_later s n ends g (w.all_shut f l);
      capped = λ f l. capped_or (w.capped f l);
      tail = w.tail;
      inner = λ x e. rw g.count (w.inner x e);
      asks = λ x y e is. (let b = g.back x.stripe y is in asked_later s n ends p x b.0 y g b.1 is b.2.faults (stays x e) (λ a. sound_faults s h x.stripe b.0 x.ticket a.operation b.1 a.is) (w.asks x b.0 e b.1));
    }
  where
    done_as : (p : Plain) (k m i : ℕ) → k ≡ m → IsDone p k i → IsDone p m i
    done_as p k m i e d = subst (λ (c : ℕ). IsDone p c i) e d

    capped_or : ((p.plan.tail ≡ 2 ^ 64 - 1) ⊎ IsCapped s.views p.plan.tail) → (p.plan.tail ≡ 2 ^ 64 - 1) ⊎ IsCapped n.views p.plan.tail
    capped_or (inl e) = inl e
    capped_or (inr c) = inr (capped_later s n ends p.plan.tail g c)

down_then : (a d n q f now : ℕ) → RoseBy (d - a) q f → RoseBy (n - d) f now → RoseBy (n - a) q now
down_then a d n q f now h r = omega (arith, h, r)

pub pending_later : (s n : State) (ends : ℕ → ℕ → Type 0) (t : ℕ) (p : Plain) → IsStriped s → Goes s n ends → ((x : Inner) → p.inner ≡ Some x → ¬ (ends x.stripe x.ticket)) → IsPending s t p → IsPending n t p
pending_later s n ends t p h g stays w =
    record {
      ticket = omega (arith, w.ticket, g.begun);
      size = omega (arith, w.size, g.size);
      placing = λ e. (let old = w.placing e in omega (arith, old, g.size));
      reach = omega (arith, w.reach, g.reach);
      firm = omega (arith, w.firm, g.firm);
      before = w.before ∙ sym g.count;
      shut = λ i b v was is s'. (let y = g.back i v is in y.2.shut (w.shut i b y.0 was y.1 s'));
      faults = omega (arith, w.faults, g.faults);
      down = down_then p.asked.down (down_of s) (down_of n) p.asked.faults (faults_of s) (faults_of n) w.down g.down;
      sealing = λ e. (let old = w.sealing e in omega (arith, old, g.seals));
      trimming = λ j e. (let old = w.trimming j e in omega (arith, old, g.cut));
      going = λ e. going_later s n ends p h g stays (w.going e);
      alone = w.alone;
      told = λ x is. fits_later s n ends p p.asked.task x g (w.told x is);
    }
