-- An operation begins.
use Rattle.std.proofs.Common.{◌≡◌, ◌≢◌, inl, inr, ℕ, suc, ◌+◌, ◌-◌, ◌*◌, ◌/◌, ◌%◌, ◌<◌, ◌≤◌, ◌++◌, List, [], ◌∷◌, length, drop, map, set, Option, Some, None, is_some, Bool, nat_eq, nat_lt, true, false, refl, sym, ap, ◌∙◌, subst, arith, min, length-append}
use Rattle.std.specs.Prelude.{◌⊎◌, slice_get, if◌then◌else◌}
use Rattle.std.specs.Option.{option_map}
use Rattle.std.proofs.lemmas.Bool.Decides.{nat_tests}
use Rattle.std.proofs.lemmas.Bool.{cases_Bool, cases_lt}
use Rattle.delos_types.specs.declared.entry.Entry.{Entry}
use Rattle.loglet_api.specs.declared.call.Op.{Op}
use Rattle.loglet_api.specs.declared.call.Op.TheVariants.{Append, Settle, Tail, Seal, Read, Trim}
use Rattle.loglet_api.specs.declared.call.Task.{Task}
use Rattle.loglet_api.specs.declared.call.Task.TheVariants.{Placing, Settling, Finding, Sealing, Reading, Trimming}
use Rattle.loglet_api.specs.View.{LogletView, Operation, operation_at, size_of}
use Rattle.loglet_api.specs.Sound.{IsSound}
use Rattle.loglet_api.specs.Step.{RoseBy, Begins, HasLeft, PutsOperation, IsAppend, IsFull, begun_operation, entries_of, cut_by, seals_of, task_of}
use Rattle.loglet_api.specs.Keeps.{Keeps}
use Rattle.stripe_rule.specs.Stripes.{share}
use Rattle.stripe_rule.proofs.Shares.{share_own, share_own_next, share_other}
use Rattle.striped_loglet.specs.declared.marks.Marks.{Marks}
use Rattle.striped_loglet.specs.declared.plan.Stage.{Stage}
use Rattle.striped_loglet.specs.declared.plan.Stage.TheVariants.{First, Last}
use Rattle.striped_loglet.specs.declared.plan.Stage.TheVariants.{Sealing as SealingStage}
use Rattle.striped_loglet.specs.declared.stripe.Inner.{Inner}
use Rattle.striped_loglet.specs.Plans.{added_by, first_stage, first_plan}
use Rattle.striped_loglet.specs.Views.{total, any_shut, least_of, entry_in, entry_at, listed, joined}
use Rattle.striped_loglet.specs.State.{Plain, State, rounds_behind, left_of, operation_of, sum_below, count_of, faults_of, down_of, counted, loglet_of}
use Rattle.striped_loglet.specs.Going.{owed, one_open, IsOwn, IsStripe, IsPending, IsGoing, IsAsked, IsShaped, IsStriped, AreApart}
use Rattle.striped_loglet.proofs.Lists.{within, set_get, set_here, sum_below_same, total_same, same_shut, total_at}
use Rattle.striped_loglet.proofs.Joins.{own_below, parts, joined_drop, joined_more, joined_same, log_there, entry_there, HasAll}
use Rattle.striped_loglet.proofs.Sounds.{shown_is, size_is}
use Rattle.striped_loglet.proofs.Laters.{Goes, pending_later, capped_later, entry_later}
use Rattle.striped_loglet.proofs.Changes.{Forward, StripeGoes, at_stripe, goes_set, goes_marks, share_rises, stripe_now, advances_same}
use Rattle.striped_loglet.proofs.Beginning.{free_begun}
use Rattle.striped_loglet.proofs.Carried.{Puts, put_here, put_there, put_get, IsFree}
use Rattle.striped_loglet.proofs.Rounds.{one_most}

-- the numbers once it is begun
abbrev pub begun_marks : Marks → Op → Marks
begun_marks m op = record m { size = m.size + added_by op; cut = cut_by op m.cut m.reach; begun = m.begun + 1; seals = m.seals + seals_of op }

-- what is noted of it
abbrev pub begun_plain : State → Op → Option Inner → Plain
begun_plain s op inner = record {
  asked = record { task = task_of op; size = s.marks.size; reach = s.marks.reach; firm = s.marks.firm; faults = faults_of s; down = down_of s };
  before = s.views;
  plan = first_plan (task_of op);
  inner = inner;
  answer = None;
}

abbrev pub begun_state : State → Op → List LogletView → (ℕ → Option Plain) → State
begun_state s op views at = record { views = views; shape = s.shape; marks = begun_marks s.marks op; at = at }

cut_rises : (op : Op) (cut reach : ℕ) → cut ≤ reach → (cut ≤ cut_by op cut reach) × (cut_by op cut reach ≤ reach)
cut_rises (Trim n) cut reach h = (omega arith, omega arith)
cut_rises (Append e) cut reach h = (omega arith, h)
cut_rises (Settle n) cut reach h = (omega arith, h)
cut_rises Tail cut reach h = (omega arith, h)
cut_rises Seal cut reach h = (omega arith, h)
cut_rises (Read p) cut reach h = (omega arith, h)

few_seals : (op : Op) → seals_of op ≤ 1
few_seals Seal = omega arith
few_seals (Append e) = omega arith
few_seals (Settle n) = omega arith
few_seals Tail = omega arith
few_seals (Read p) = omega arith
few_seals (Trim n) = omega arith

room_left : (op : Op) (size room : ℕ) → size ≤ room → ¬ (IsAppend op × (size ≡ room)) → size + added_by op ≤ room
room_left (Append e) size room h free = elim (cases_lt size room) [ inl lt ↦ omega arith | inr ge ↦ absurd (free (tt, omega arith)) ]
room_left (Settle n) size room h free = omega arith
room_left Tail size room h free = omega arith
room_left Seal size room h free = omega arith
room_left (Read p) size room h free = omega arith
room_left (Trim n) size room h free = omega arith

pub forward_begun : (s : State) (op : Op) → IsStriped s → Forward s.marks (begun_marks s.marks op)
forward_begun s op h = let c = cut_rises op s.marks.cut s.marks.reach h.cut in record { size = omega arith; cut = c.0; reach = omega arith; firm = omega arith; begun = omega arith; seals = omega arith; refusals = omega arith }

placing_adds : (op : Op) → task_of op ≡ Placing → added_by op ≡ 1
placing_adds (Append e) h = refl
placing_adds (Settle n) h = absurd (cc)
placing_adds Tail h = absurd (cc)
placing_adds Seal h = absurd (cc)
placing_adds (Read p) h = absurd (cc)
placing_adds (Trim n) h = absurd (cc)

sealing_counts : (op : Op) (n : ℕ) → task_of op ≡ Sealing → 1 ≤ n + seals_of op
sealing_counts Seal n h = omega arith
sealing_counts (Append e) n h = absurd (cc)
sealing_counts (Settle k) n h = absurd (cc)
sealing_counts Tail n h = absurd (cc)
sealing_counts (Read p) n h = absurd (cc)
sealing_counts (Trim k) n h = absurd (cc)

first_or_last : (task : Task) → ((task ≡ Finding) ⊎ (first_stage task ≡ Last)) × (first_stage task ≢ SealingStage) × (task ≡ Finding → first_stage task ≢ Last)
first_or_last Finding = (inl refl, (λ e. absurd (cc)), λ f e. absurd (cc))
first_or_last Placing = (inr refl, (λ e. absurd (cc)), λ f e. absurd (cc))
first_or_last (Settling n) = (inr refl, (λ e. absurd (cc)), λ f e. absurd (cc))
first_or_last Sealing = (inr refl, (λ e. absurd (cc)), λ f e. absurd (cc))
first_or_last (Reading p) = (inr refl, (λ e. absurd (cc)), λ f e. absurd (cc))
first_or_last (Trimming n) = (inr refl, (λ e. absurd (cc)), λ f e. absurd (cc))

rounds_few : (stage : Stage) → rounds_behind stage ≤ 2
rounds_few First = omega arith
rounds_few SealingStage = omega arith
rounds_few Last = omega arith

-- ---- what holds then, by what holds of the stripes

-- what is under way of it: for an Append, its entry on its own stripe
pub record UnderWay (s n : State) (op : Op) (inner : Option Inner) : Type 0 where
  pub append : IsAppend op → is_some inner ≡ true
  pub own : (x : Inner) → inner ≡ Some x → (x.stripe ≡ s.marks.size % count_of s) × (task_of op ≡ Placing)
  pub asks : (x : Inner) (v : LogletView) → inner ≡ Some x → slice_get n.views x.stripe ≡ Some v → IsAsked n (begun_plain s op inner) x v
  pub free : IsFree s.at s.marks.begun inner

placing_append : (op : Op) → task_of op ≡ Placing → IsAppend op
placing_append (Append e) h = tt
placing_append (Settle n) h = absurd (cc)
placing_append Tail h = absurd (cc)
placing_append Seal h = absurd (cc)
placing_append (Read p) h = absurd (cc)
placing_append (Trim n) h = absurd (cc)

some_is : (x : Option Inner) → is_some x ≡ true → (y : Inner) × (x ≡ Some y)
some_is None e = absurd (cc)
some_is (Some y) e = (y, refl)

own_placing : (task : Task) (size m i : ℕ) → IsOwn task size m i → (task ≡ Placing) × (i ≡ size % m)
own_placing Placing size m i h = (refl, h)
own_placing (Settling n) size m i h = absurd h
own_placing Finding size m i h = absurd h
own_placing Sealing size m i h = absurd h
own_placing (Reading q) size m i h = absurd h
own_placing (Trimming n) size m i h = absurd h

going_new : (s n : State) (op : Op) (inner : Option Inner) (ends : ℕ → ℕ → Type 0) → IsStriped s → Goes s n ends → UnderWay s n op inner → IsGoing n (begun_plain s op inner)
going_new s n op inner ends h g w =
    let k = first_or_last (task_of op) in
    let some : 0 < count_of n = rw g.count g.some in
    record {
      next = omega arith;
      stage = k.0;
      waits = λ e. some;
      skips = λ e f. absurd (let a = some_is inner (w.append (placing_append op f)) in let clash : None ≡ Some a.0 = sym e ∙ a.1 in cc);
      single = λ q e f. refl;
      sealing = λ e. absurd (k.1 e);
      done = λ i v is d. elim d.asked [
        | inl lt ↦ absurd (omega arith)
        | inr own ↦ absurd (let o = own_placing (task_of op) s.marks.size (count_of n) i own in let a = some_is inner (w.append (placing_append op o.0)) in
            let b = (w.own a.0 a.1).0 in let c = g.count in d.told a.0 a.1 (o.1 ∙ ap (λ m. s.marks.size % m) c ∙ sym b))
      ];
      above = λ e. (let a = h.reach in let b = h.firm in let c = h.size in let d = h.shaped.room.1 in omega (arith, a, b, c, d));
      all_shut = λ f e. absurd (k.2 f e);
      capped = λ f e. absurd (k.2 f e);
      tail = omega arith;
      inner = λ x e. rw g.count (let o = (w.own x e).0 in let l = own_below (count_of s) s.marks.size g.some in omega (arith, o, l));
      asks = w.asks;
    }

-- a Trim's cut is at least what it is to let go of
trimming_cuts : (op : Op) (j cut reach : ℕ) → task_of op ≡ Trimming j → min j reach ≤ cut_by op cut reach
trimming_cuts (Trim k) j cut reach h = let same : k ≡ j = cc in rw same (omega arith)
trimming_cuts (Append e) j cut reach h = absurd (cc)
trimming_cuts (Settle n) j cut reach h = absurd (cc)
trimming_cuts Tail j cut reach h = absurd (cc)
trimming_cuts Seal j cut reach h = absurd (cc)
trimming_cuts (Read p) j cut reach h = absurd (cc)

pending_new : (s n : State) (op : Op) (inner : Option Inner) (ends : ℕ → ℕ → Type 0) → IsStriped s → Goes s n ends → n.marks ≡ begun_marks s.marks op → UnderWay s n op inner → IsPending n s.marks.begun (begun_plain s op inner)
pending_new s n op inner ends h g em w =
    let begun : n.marks.begun ≡ s.marks.begun + 1 = ap (λ (m : Marks). m.begun) em in
    let size : n.marks.size ≡ s.marks.size + added_by op = ap (λ (m : Marks). m.size) em in
    let seals : n.marks.seals ≡ s.marks.seals + seals_of op = ap (λ (m : Marks). m.seals) em in
    record {
      ticket = omega (arith, begun);
      size = omega (arith, size);
      placing = λ e. (let a = placing_adds op e in omega (arith, a, size));
      reach = g.reach;
      firm = g.firm;
      before = sym g.count;
      shut = λ i b v was is s'. (let y = g.back i v is in let same : y.0 ≡ b = some_view y.0 b (sym y.1 ∙ was) in y.2.shut (ap (λ (z : LogletView). z.shut) same ∙ s'));
      faults = g.faults;
      down = g.down;
      sealing = λ e. (let a = sealing_counts op s.marks.seals e in omega (arith, a, seals));
      trimming = λ j e. (let a = trimming_cuts op j s.marks.cut s.marks.reach e in let cut : n.marks.cut ≡ cut_by op s.marks.cut s.marks.reach = ap (λ (m : Marks). m.cut) em in omega (arith, a, cut));
      going = λ e. going_new s n op inner ends h g w;
      alone = λ a e. absurd (cc);
      told = λ a e. absurd (cc);
    }
  where
    some_view : (a c : LogletView) → Some a ≡ Some c → a ≡ c
    some_view a c e = cc

-- sums over tickets, with the new one
sum_new : (f g : ℕ → ℕ) (n k : ℕ) → k ≡ n + 1 → ((q : ℕ) → q < n → g q ≡ f q) → sum_below g k ≡ g n + sum_below f n
sum_new f g n k e h = let s : k ≡ suc n = omega (arith, e) in rw s (let same : sum_below g n ≡ sum_below f n = sum_below_same f g n h in omega (arith, same))

pub owed_new : (s : State) (op : Op) (inner : Option Inner) (at : ℕ → Option Plain) (i : ℕ) → Puts s.at s.marks.begun (Some (begun_plain s op inner)) at → sum_below (λ q. owed i (at q)) (s.marks.begun + 1) ≤ 3 + sum_below (λ q. owed i (s.at q)) s.marks.begun
owed_new s op inner at i u =
    let sum : sum_below (λ q. owed i (at q)) (s.marks.begun + 1) ≡ owed i (at s.marks.begun) + sum_below (λ q. owed i (s.at q)) s.marks.begun = sum_new (λ q. owed i (s.at q)) (λ q. owed i (at q)) s.marks.begun (s.marks.begun + 1) refl (λ q l. ap (owed i) (put_there s.at at s.marks.begun q (Some (begun_plain s op inner)) u (λ e. absurd (omega (arith, e, l))))) in
    let here : owed i (at s.marks.begun) ≡ rounds_behind (first_stage (task_of op)) + (if nat_lt i 0 then 0 else 1) = ap (owed i) (put_here s.at at s.marks.begun (Some (begun_plain s op inner)) u) in
    let a = rounds_few (first_stage (task_of op)) in
    let b = one_most (nat_lt i 0) in
    omega (arith, sum, here, a, b)

some_plain : (a c : Plain) → Some a ≡ Some c → a ≡ c
some_plain a c e = cc

apart_new : (old new : ℕ → Option Plain) (t : ℕ) (p : Plain) → AreApart old → Puts old t (Some p) new → IsFree old t p.inner → AreApart new
apart_new old new t p h u free a b q r x y ea eb ex ey es et =
    elim (put_get old new t a (Some p) q u ea) [
      | inl one ↦ elim (put_get old new t b (Some p) r u eb) [
        | inl two ↦ sym one.0 ∙ two.0
        | inr two ↦ absurd (let same = some_plain p q one.1 in free b r y x two.0 two.1 ey (ap (λ (z : Plain). z.inner) same ∙ ex) es et)
      ]
      | inr one ↦ elim (put_get old new t b (Some p) r u eb) [
        | inl two ↦ absurd (let same = some_plain p r two.1 in free a q x y one.0 one.1 ex (ap (λ (z : Plain). z.inner) same ∙ ey) (sym es) (sym et))
        | inr two ↦ h a b q r x y one.1 two.1 ex ey es et
      ]
    ]

pub begun_striped : (s : State) (op : Op) (inner : Option Inner) (views : List LogletView) (at : ℕ → Option Plain) (ends : ℕ → ℕ → Type 0) → IsStriped s → Goes s (begun_state s op views at) ends → ((i t : ℕ) → ¬ (ends i t))
    → ¬ ((IsAppend op × (s.marks.size ≡ s.shape.room)) ⊎ (s.marks.begun ≡ s.shape.limit)) → UnderWay s (begun_state s op views at) op inner → Puts s.at s.marks.begun (Some (begun_plain s op inner)) at
    → IsShaped (begun_state s op views at) → ((i : ℕ) (v : LogletView) → slice_get views i ≡ Some v → IsStripe (begun_state s op views at) i v) → IsStriped (begun_state s op views at)
begun_striped s op inner views at ends h g never free w u shaped stripes =
    let n = begun_state s op views at in
    let c = cut_rises op s.marks.cut s.marks.reach h.cut in
    let opens : sum_below (λ q. one_open (at q)) (s.marks.begun + 1) ≡ one_open (at s.marks.begun) + sum_below (λ q. one_open (s.at q)) s.marks.begun = sum_new (λ q. one_open (s.at q)) (λ q. one_open (at q)) s.marks.begun (s.marks.begun + 1) refl (λ q l. ap one_open (put_there s.at at s.marks.begun q (Some (begun_plain s op inner)) u (λ e. absurd (omega (arith, e, l))))) in
    let one : one_open (at s.marks.begun) ≡ 1 = ap one_open (put_here s.at at s.marks.begun (Some (begun_plain s op inner)) u) in
    let few = few_seals op in
    record {
      shaped = shaped;
      stripes = stripes;
      cut = c.1;
      reach = h.reach;
      firm = (let a = h.firm in omega (arith, a));
      size = room_left op s.marks.size s.shape.room h.size (λ full. free (inl full));
      cap = λ k e. (let old = h.cap k e in (old.0, capped_later s n ends k g old.1));
      begun = elim (cases_lt s.marks.begun s.shape.limit) [ inl lt ↦ omega (arith, lt) | inr ge ↦ absurd (free (inr (let b = h.begun in omega (arith, b, ge)))) ];
      seals = (let a = h.seals in omega (arith, a, few));
      lacks = (let a = h.lacks in omega (arith, a, opens, one));
      pending = λ t p e. elim (put_get s.at at s.marks.begun t (Some (begun_plain s op inner)) p u e) [
        | inl mine ↦ subst (λ (z : Plain). IsPending n t z) (some_plain (begun_plain s op inner) p mine.1) (subst (λ (k : ℕ). IsPending n k (begun_plain s op inner)) mine.0 (pending_new s n op inner ends h g refl w))
        | inr other ↦ pending_later s n ends t p h g (λ x d. never x.stripe x.ticket) (h.pending t p other.1)
      ];
      apart = apart_new s.at at s.marks.begun (begun_plain s op inner) h.apart u w.free;
    }

-- ---- what is shown then

none_added : (op : Op) → ¬ (IsAppend op) → (added_by op ≡ 0) × (entries_of op ≡ [])
none_added (Append e) h = absurd (h tt)
none_added (Settle n) h = (refl, refl)
none_added Tail h = (refl, refl)
none_added Seal h = (refl, refl)
none_added (Read p) h = (refl, refl)
none_added (Trim n) h = (refl, refl)

nil_right : (xs : List Entry) → xs ++ [] ≡ xs
nil_right [] = refl
nil_right (x ∷ xs) = ap (λ ys. x ∷ ys) (nil_right xs)

begun_view : (s : State) (op : Op) (views : List LogletView) (at : ℕ → Option Plain) → map (λ v. v.quorum) views ≡ map (λ v. v.quorum) s.views
    → joined views (cut_by op s.marks.cut s.marks.reach) (s.marks.size + added_by op - cut_by op s.marks.cut s.marks.reach) ≡ drop (cut_by op s.marks.cut s.marks.reach - s.marks.cut) (joined s.views s.marks.cut (s.marks.size - s.marks.cut)) ++ entries_of op
    → any_shut views ≡ any_shut s.views → total (λ v. v.faults) views ≡ total (λ v. v.faults) s.views → total (λ v. v.down) views ≡ total (λ v. v.down) s.views
    → loglet_of (begun_state s op views at) ≡ record (loglet_of s) { cut = cut_by op s.marks.cut s.marks.reach; log = drop (cut_by op s.marks.cut s.marks.reach - s.marks.cut) (joined s.views s.marks.cut (s.marks.size - s.marks.cut)) ++ entries_of op; operations = (loglet_of (begun_state s op views at)).operations; begun = s.marks.begun + 1; seals = s.marks.seals + seals_of op }
begun_view s op views at eq el es ef ed = by (least_of (map (λ v. v.quorum) views)) (joined views (cut_by op s.marks.cut s.marks.reach) (s.marks.size + added_by op - cut_by op s.marks.cut s.marks.reach)) (any_shut views) (total (λ v. v.faults) views) (total (λ v. v.down) views) (loglet_of (begun_state s op views at)).operations (ap least_of eq) el es ef ed
  where
    by : (quorum : ℕ) (log : List Entry) (shut : Bool) (faults down : ℕ) (ops : List (ℕ × Operation)) → quorum ≡ least_of (map (λ v. v.quorum) s.views) → log ≡ drop (cut_by op s.marks.cut s.marks.reach - s.marks.cut) (joined s.views s.marks.cut (s.marks.size - s.marks.cut)) ++ entries_of op
        → shut ≡ any_shut s.views → faults ≡ total (λ v. v.faults) s.views → down ≡ total (λ v. v.down) s.views
        → record (loglet_of s) { quorum = quorum; cut = cut_by op s.marks.cut s.marks.reach; log = log; shut = shut; operations = ops; faults = counted faults s.marks.refusals; down = down; begun = s.marks.begun + 1; seals = s.marks.seals + seals_of op }
        ≡ record (loglet_of s) { cut = cut_by op s.marks.cut s.marks.reach; log = drop (cut_by op s.marks.cut s.marks.reach - s.marks.cut) (joined s.views s.marks.cut (s.marks.size - s.marks.cut)) ++ entries_of op; operations = ops; begun = s.marks.begun + 1; seals = s.marks.seals + seals_of op }
    by quorum log shut faults down ops eq el es ef ed = rw (eq, el, es, ef, ed) refl

begun_same : (s : State) (op : Op) (inner : Option Inner) (count : ℕ) → size_of (loglet_of s) ≡ s.marks.size → operation_of s.shape.turn count (begun_plain s op inner) ≡ begun_operation (loglet_of s) op (left_of s.shape.turn count (first_plan (task_of op)) inner None)
begun_same s op inner count size = ap (λ (n : ℕ). record (operation_of s.shape.turn count (begun_plain s op inner)) { size = n }) (sym size)

puts_new : (s : State) (op : Op) (inner : Option Inner) (views : List LogletView) (at : ℕ → Option Plain) → IsStriped s → IsStriped (begun_state s op views at) → length views ≡ count_of s → Puts s.at s.marks.begun (Some (begun_plain s op inner)) at
    → PutsOperation (loglet_of s).operations s.marks.begun (Some (begun_operation (loglet_of s) op (left_of s.shape.turn (length views) (first_plan (task_of op)) inner None))) (loglet_of (begun_state s op views at)).operations
puts_new s op inner views at h k count u q =
    shown_is (begun_state s op views at) k q ∙ elim (cases_Bool (nat_eq s.marks.begun q)) [
      | inl same ↦ rw (u q, same) (ap Some (begun_same s op inner (length views) (size_is s h)))
      | inr other ↦ rw (u q, other) (ap (λ c. option_map (operation_of s.shape.turn c) (s.at q)) count ∙ sym (shown_is s h q))
    ]

full_view : (s : State) (op : Op) → IsStriped s → ¬ ((IsAppend op × (s.marks.size ≡ s.shape.room)) ⊎ (s.marks.begun ≡ s.shape.limit)) → ¬ (IsFull (loglet_of s) op)
full_view s op h free full = let size = size_is s h in elim full [ inl x ↦ free (inl (x.0, sym size ∙ x.1)) | inr y ↦ free (inr y) ]

-- all but an Append
pub begun_plainly : (s : State) (op : Op) (at : ℕ → Option Plain) → IsStriped s → ¬ (IsAppend op) → ¬ ((IsAppend op × (s.marks.size ≡ s.shape.room)) ⊎ (s.marks.begun ≡ s.shape.limit)) → Puts s.at s.marks.begun (Some (begun_plain s op None)) at
    → IsStriped (begun_state s op s.views at) × Begins (loglet_of s) op s.marks.begun (loglet_of (begun_state s op s.views at))
begun_plainly s op at h not free u =
    let n = begun_state s op s.views at in
    let goes : Goes s n (λ i t. ⊥) = goes_marks s (begun_marks s.marks op) at h (forward_begun s op h) in
    let add = none_added op not in
    let c = cut_rises op s.marks.cut s.marks.reach h.cut in
    let w : UnderWay s n op None = record { append = λ a. absurd (not a); own = λ x e. absurd (cc); asks = λ x v e is. absurd (cc); free = λ q r y z d e ey ez es et. absurd (cc) } in
    let stripes : (i : ℕ) (v : LogletView) → slice_get s.views i ≡ Some v → IsStripe n i v = (λ i v e.
    let ok = h.stripes i v e in
    let owe = owed_new s op None at i u in
    let up = share_rises (count_of s) i s.marks.cut (cut_by op s.marks.cut s.marks.reach) (within s.views i v e) c.0 in
    let same : s.marks.size + added_by op ≡ s.marks.size = (let a = add.0 in omega (arith, a)) in
    stripe_now s n i v v refl refl ok ok.sound refl refl refl (rw same ok.size) (let a = ok.cut in omega (arith, a, up)) ok.reach ok.firm (let a = ok.begun in omega (arith, a, owe)) (λ z. (let a = ok.seals z in omega (arith, a)))) in
    let shaped : IsShaped n = record { count = h.shaped.count; servers = h.shaped.servers; few = h.shaped.few; room = h.shaped.room; rounds = h.shaped.rounds; turn = h.shaped.turn } in
    let all : IsStriped n = begun_striped s op None s.views at (λ i t. ⊥) h goes (λ i t k. k) free w u shaped stripes in
    let k : ℕ = cut_by op s.marks.cut s.marks.reach - s.marks.cut in
    let r : ℕ = s.marks.size - cut_by op s.marks.cut s.marks.reach in
    let total' : k + r ≡ s.marks.size - s.marks.cut = (let a = h.reach in let b = h.firm in omega (arith, a, b, c.0, c.1)) in
    let there : HasAll s.views s.marks.cut (k + r) = rw total' (log_there s h) in
    let from : s.marks.cut + k ≡ cut_by op s.marks.cut s.marks.reach = omega (arith, c.0) in
    let to : s.marks.size + added_by op - cut_by op s.marks.cut s.marks.reach ≡ r = (let a = add.0 in omega (arith, a)) in
    let cutoff : drop k (joined s.views s.marks.cut (k + r)) ≡ joined s.views (s.marks.cut + k) r = joined_drop s.views s.marks.cut k r there in
    let log : joined s.views (cut_by op s.marks.cut s.marks.reach) (s.marks.size + added_by op - cut_by op s.marks.cut s.marks.reach) ≡ drop k (joined s.views s.marks.cut (s.marks.size - s.marks.cut)) ++ entries_of op =
    ap (λ z. joined s.views (cut_by op s.marks.cut s.marks.reach) z) to ∙ ap (λ z. joined s.views z r) (sym from) ∙ sym cutoff ∙ ap (λ z. drop k (joined s.views s.marks.cut z)) total' ∙ sym (nil_right (drop k (joined s.views s.marks.cut (s.marks.size - s.marks.cut)))) ∙ ap (λ z. drop k (joined s.views s.marks.cut (s.marks.size - s.marks.cut)) ++ z) (sym add.1) in (
      all,
      record {
        room = full_view s op h free;
        ticket = refl;
        left = left_of s.shape.turn (count_of s) (first_plan (task_of op)) None None;
        operation = puts_new s op None s.views at h all refl u;
        rest = begun_view s op s.views at refl log refl refl refl;
      },
    )

-- an Append, whose entry begins on its own stripe
get_end : (xs : List Entry) (e : Entry) → slice_get (xs ++ e ∷ []) (length xs) ≡ Some e
get_end [] e = refl
get_end (x ∷ xs) e = get_end xs e

begins_goes : (v w : LogletView) (op : Op) (t : ℕ) → IsSound v → IsSound w → Keeps v w → Begins v op t w → StripeGoes v w (λ q. ⊥)
begins_goes v w op t ov ow keeps b =
    record {
      keeps = keeps;
      down = (let d : w.down ≡ v.down = ap (λ (z : LogletView). z.down) b.rest in let f : w.faults ≡ v.faults = ap (λ (z : LogletView). z.faults) b.rest in omega (arith, d, f));
      small = ow.faults;
      tickets = λ q o is stays. (let older : q < v.begun = (ov.operations q o is).ticket in
          let e : t ≡ v.begun = b.ticket in
          let other : nat_eq t q ≡ false = grind (arith, nat_tests) in
          let there : operation_at w.operations q ≡ Some o = b.operation q ∙ rw other is in
          rw there (advances_same (Some o)));
    }

pub begun_append : (s : State) (e : Entry) (at : ℕ → Option Plain) (x : Inner) (v w : LogletView) → IsStriped s → ¬ ((IsAppend (Append e) × (s.marks.size ≡ s.shape.room)) ⊎ (s.marks.begun ≡ s.shape.limit)) → x.stripe ≡ s.marks.size % count_of s → slice_get s.views x.stripe ≡ Some v
    → IsSound w → Keeps v w → Begins v (Append e) x.ticket w → HasLeft w x.ticket x.rounds x.steps → Puts s.at s.marks.begun (Some (begun_plain s (Append e) (Some x))) at
    → IsStriped (begun_state s (Append e) (set s.views x.stripe w) at) × Begins (loglet_of s) (Append e) s.marks.begun (loglet_of (begun_state s (Append e) (set s.views x.stripe w) at))
begun_append s e at x v w h free own here ow keeps b left u =
    let op : Op = Append e in
    let m = count_of s in
    let views = set s.views x.stripe w in
    let n = begun_state s op views at in
    let ends = at_stripe x.stripe (λ q. ⊥) in
    let ok = h.stripes x.stripe v here in
    let r = b.rest in
    let some : 0 < m = omega (arith, h.shaped.count.0) in
    let lt : x.stripe < m = within s.views x.stripe v here in
    let cut : w.cut ≡ v.cut = ap (λ (z : LogletView). z.cut) r in
    let low : w.cut ≤ share m x.stripe s.marks.cut = (let a = ok.cut in omega (arith, a, cut)) in
    let goes : Goes s n ends = goes_set s x.stripe v w (begun_marks s.marks op) at (λ q. ⊥) h here (begins_goes v w op x.ticket ok.sound ow keeps b) (forward_begun s op h) low in
    let zero' : v.cut - v.cut ≡ 0 = omega arith in
    let log : w.log ≡ v.log ++ e ∷ [] = ap (λ (z : LogletView). z.log) r ∙ ap (λ k. drop k v.log ++ e ∷ []) zero' in
    let faults : w.faults ≡ v.faults = ap (λ (z : LogletView). z.faults) r in
    let index : size_of v ≡ s.marks.size / m = ok.size ∙ ap (λ j. share m j s.marks.size) own ∙ share_own m s.marks.size some in
    let next : share m x.stripe (s.marks.size + 1) ≡ suc (s.marks.size / m) = (let k : s.marks.size + 1 ≡ suc s.marks.size = omega arith in rw (k, own) (share_own_next m s.marks.size some)) in
    let longer : length w.log ≡ length v.log + 1 = ap (λ (es : List Entry). length es) log ∙ length-append v.log (e ∷ []) in
    let size : size_of w ≡ share m x.stripe (s.marks.size + 1) = omega (arith, next, index, longer, cut) in
    let same : nat_eq x.ticket x.ticket ≡ true = grind (arith, nat_tests) in
    let there : operation_at w.operations x.ticket ≡ Some (begun_operation v op b.left) = b.operation x.ticket ∙ rw same refl in
    let lf : left.operation ≡ begun_operation v op b.left = some_op left.operation (begun_operation v op b.left) (sym left.is ∙ there) in
    let le : b.left ≡ (x.rounds, x.steps) = sym (ap (λ (o : Operation). o.left) lf) ∙ left.left in
    let small = ow.operations x.ticket (begun_operation v op b.left) there in
    let asked : IsAsked n (begun_plain s op (Some x)) x w = record {
      operation = begun_operation v op b.left;
      is = there;
      for = rw goes.count (own, index);
      left = rw le (inr (refl, omega arith));
      rounds = (let a : b.left.0 ≡ x.rounds = ap (λ (z : ℕ × ℕ). z.0) le in let q = small.rounds in omega (arith, a, q));
      steps = (let a : b.left.1 ≡ x.steps = ap (λ (z : ℕ × ℕ). z.1) le in let q = small.steps in omega (arith, a, q));
      reach = rw goes.count ok.reach;
      firm = rw goes.count ok.firm;
      shut = λ c k s'. (let o : v ≡ c = some_view v c (sym here ∙ k) in ap (λ (z : LogletView). z.shut) o ∙ s');
      again = λ f l. absurd (cc);
      trims = λ j f. absurd (cc);
      lack = (let part = total_at (λ z. z.down) s.views x.stripe v here in let a = goes.faults in none_lacks v.down (down_of s) v.faults w.faults (faults_of s) (faults_of n) faults part a);
    } in
    let way : UnderWay s n op (Some x) = record {
      append = λ a. refl;
      own = λ y d. (let o : x ≡ y = some_inner x y d in subst (λ (k : Inner). (k.stripe ≡ s.marks.size % count_of s) × (task_of op ≡ Placing)) o (own, refl));
      asks = λ y z d k. (let o : x ≡ y = some_inner x y d in
          let k' : slice_get views x.stripe ≡ Some z = subst (λ (i : Inner). slice_get views i.stripe ≡ Some z) (sym o) k in
          let o' : w ≡ z = some_view w z (sym (set_here s.views x.stripe v w here) ∙ k') in
          subst (λ (i : Inner). IsAsked n (begun_plain s op (Some x)) i z) o (subst (λ (i : LogletView). IsAsked n (begun_plain s op (Some x)) x i) o' asked));
      free = free_begun s s.marks.begun v x h here b.ticket;
    } in
    let stripes : (i : ℕ) (y : LogletView) → slice_get views i ≡ Some y → IsStripe n i y = (λ i y d. elim (set_get s.views x.stripe i v w y here d) [
      | inl one ↦ (let owe = owed_new s op (Some x) at x.stripe u in
          let begun : w.begun ≡ v.begun + 1 = ap (λ (z : LogletView). z.begun) r in
          let seals : w.seals ≡ v.seals + 0 = ap (λ (z : LogletView). z.seals) r in
          let it : IsStripe n x.stripe w = stripe_now s n x.stripe v w goes.count refl ok ow (ap (λ (z : LogletView). z.room) r) (ap (λ (z : LogletView). z.rounds) r) (ap (λ (z : LogletView). z.limit) r)
          size low (rw (ap (λ (z : LogletView). z.reach) r) ok.reach) (rw (ap (λ (z : LogletView). z.firm) r) ok.firm)
          (let a = ok.begun in omega (arith, a, owe, begun)) (λ z. (let a = ok.seals (omega (arith, z, seals)) in omega (arith, a))) in
          subst (λ (z : LogletView). IsStripe n i z) one.1 (subst (λ (k : ℕ). IsStripe n k w) one.0 it))
      | inr two ↦ (let old = h.stripes i y two.1 in
          let owe = owed_new s op (Some x) at i u in
          let k : s.marks.size + 1 ≡ suc s.marks.size = omega arith in
          let still : share m i (s.marks.size + 1) ≡ share m i s.marks.size = rw k (share_other m i s.marks.size (within s.views i y two.1) (λ j. two.0 (own ∙ sym j))) in
          stripe_now s n i y y goes.count refl old old.sound refl refl refl (old.size ∙ sym still) old.cut old.reach old.firm (let a = old.begun in omega (arith, a, owe)) (λ z. (let a = old.seals z in omega (arith, a))))
    ]) in
    let servers : total (λ z. z.servers) views ≡ total (λ z. z.servers) s.views = total_same (λ z. z.servers) s.views x.stripe v w here (ap (λ (z : LogletView). z.servers) r) in
    let shaped : IsShaped n = record { count = rw goes.count h.shaped.count; servers = rw servers h.shaped.servers; few = h.shaped.few; room = h.shaped.room; rounds = rw goes.count h.shaped.rounds; turn = h.shaped.turn } in
    let all : IsStriped n = begun_striped s op (Some x) views at ends h goes (λ i t k. k.1) free way u shaped stripes in
    let l : ℕ = s.marks.size - s.marks.cut in
    let fits : s.marks.cut ≤ s.marks.size = (let a = h.cut in let c = h.reach in let d = h.firm in omega (arith, a, c, d)) in
    let more : s.marks.size + 1 - s.marks.cut ≡ suc l = omega (arith, fits) in
    let old : joined views s.marks.cut l ≡ joined s.views s.marks.cut l = joined_same s.views views s.marks.cut l (λ q a c.
    let o = entry_there s h q a (omega (arith, c, a)) in entry_later s n ends goes q o.0 a o.1 ∙ sym o.1) in
    let end : s.marks.cut + l ≡ s.marks.size = omega (arith, fits) in
    let spot : s.marks.size / m - w.cut ≡ length v.log = omega (arith, index, cut) in
    let at_end : slice_get views (s.marks.size % m) ≡ Some w = subst (λ (k : ℕ). slice_get views k ≡ Some w) own (set_here s.views x.stripe v w here) in
    let got : slice_get w.log (s.marks.size / m - w.cut) ≡ Some e = rw (log, spot) (get_end v.log e) in
    let new : entry_at views s.marks.size ≡ Some e = rw goes.count (ap (λ z. entry_in z (s.marks.size / m)) at_end ∙ got) in
    let zero'' : s.marks.cut - s.marks.cut ≡ 0 = omega arith in
    let whole : joined views s.marks.cut (s.marks.size + 1 - s.marks.cut) ≡ drop (s.marks.cut - s.marks.cut) (joined s.views s.marks.cut l) ++ e ∷ [] =
    ap (λ k. joined views s.marks.cut k) more ∙ joined_more views s.marks.cut l ∙ ap (λ es. es ++ listed (entry_at views (s.marks.cut + l))) old ∙ ap (λ k. joined s.views s.marks.cut l ++ listed (entry_at views k)) end
    ∙ ap (λ z. joined s.views s.marks.cut l ++ listed z) new ∙ ap (λ k. drop k (joined s.views s.marks.cut l) ++ e ∷ []) (sym zero'') in (
      all,
      record {
        room = full_view s op h free;
        ticket = refl;
        left = left_of s.shape.turn (length views) (first_plan (task_of op)) (Some x) None;
        operation = puts_new s op (Some x) views at h all goes.count u;
        rest = begun_view s op views at goes.quorum whole (same_shut s.views x.stripe v w here (ap (λ (z : LogletView). z.shut) r)) (total_same (λ z. z.faults) s.views x.stripe v w here faults) (total_same (λ z. z.down) s.views x.stripe v w here (ap (λ (z : LogletView). z.down) r));
      },
    )
  where
    some_op : (a c : Operation) → Some a ≡ Some c → a ≡ c
    some_op a c e = cc

    some_inner : (a c : Inner) → Some a ≡ Some c → a ≡ c
    some_inner a c e = cc

    some_view : (a c : LogletView) → Some a ≡ Some c → a ≡ c
    some_view a c e = cc

    none_lacks : (d D f f' F F' : ℕ) → f' ≡ f → d ≤ D → F ≤ F' → RoseBy ((d - D) + (f' - f)) F F'
    none_lacks d D f f' F F' e l k = omega (arith, e, l, k)

-- an Append that has room finds it on its own stripe
pub append_fits : (s : State) (i : ℕ) (v : LogletView) (op : Op) → IsStriped s → slice_get s.views i ≡ Some v → i ≡ s.marks.size % count_of s → IsAppend op → ¬ ((IsAppend op × (s.marks.size ≡ s.shape.room)) ⊎ (s.marks.begun ≡ s.shape.limit)) → IsFull v op → ⊥
append_fits s i v op h here own append free (inl full) =
    let m = count_of s in
    let some : 0 < m = omega (arith, h.shaped.count.0) in
    let ok = h.stripes i v here in
    let index : size_of v ≡ s.marks.size / m = ok.size ∙ ap (λ j. share m j s.marks.size) own ∙ share_own m s.marks.size some in
    let whole : m * (s.marks.size / m) + s.marks.size % m ≡ s.marks.size = parts m s.marks.size in
    let room : v.room ≡ s.marks.size / m = sym full.1 ∙ index in
    let all : m * v.room ≡ m * (s.marks.size / m) = ap (λ k. m * k) room in
    let a = ok.room in
    let b = h.size in
    free (inl (append, omega (arith, whole, all, a, b)))
append_fits s i v op h here own append free (inr full) =
    let ok = h.stripes i v here in
    let a = ok.begun in
    let b = ok.limit in
    let c = h.begun in
    free (inr (omega (arith, full, a, b, c)))
