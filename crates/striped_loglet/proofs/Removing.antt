-- An operation is answered or forgotten, or one is refused.
use Rattle.std.proofs.Common.{◌≡◌, ◌≢◌, inl, inr, ℕ, ◌+◌, ◌-◌, ◌*◌, ◌/◌, ◌%◌, ◌^◌, ◌<◌, ◌≤◌, List, set, Option, Some, None, Bool, nat_eq, nat_lt, true, false, refl, sym, ap, ◌∙◌, subst, arith, min, max}
use Rattle.std.specs.Prelude.{◌⊎◌, slice_get}
use Rattle.std.specs.Option.{option_map, ForSome}
use Rattle.std.proofs.lemmas.Bool.Decides.{nat_tests}
use Rattle.std.proofs.lemmas.Bool.{cases_Bool, cases_lt}
use Rattle.loglet_api.specs.declared.call.Answer.{Answer}
use Rattle.loglet_api.specs.declared.call.Answer.TheVariants.{Placed, Settled, OpenTail, SealedTail, SealDone, Got, CutAt, Beyond, TrimDone, Sealed, NoQuorum}
use Rattle.loglet_api.specs.declared.call.Task.{Task}
use Rattle.loglet_api.specs.declared.call.Task.TheVariants.{Placing, Settling, Finding, Sealing, Reading, Trimming}
use Rattle.loglet_api.specs.declared.call.Op.{Op}
use Rattle.loglet_api.specs.View.{LogletView, Operation, operation_at, size_of}
use Rattle.loglet_api.specs.Sound.{IsSound}
use Rattle.loglet_api.specs.Step.{Forgets, TakesAnswer, PutsOperation, MayAnswer, IsLack, IsFull, IsAppend, bumped, wanted_by, told_reach, told_firm, told_cap, told_lacks}
use Rattle.loglet_api.specs.Keeps.{Keeps}
use Rattle.stripe_rule.specs.Stripes.{covered, share}
use Rattle.stripe_rule.proofs.Shares.{share_own}
use Rattle.striped_loglet.specs.declared.marks.Marks.{Marks}
use Rattle.striped_loglet.specs.declared.stripe.Inner.{Inner}
use Rattle.striped_loglet.specs.Plans.{told_at}
use Rattle.striped_loglet.specs.Views.{total, any_shut, entry_at, AllShut, AllReach, AllFirm, IsCapped}
use Rattle.striped_loglet.specs.State.{Plain, State, operation_of, sum_below, count_of, faults_of, down_of, counted, loglet_of}
use Rattle.striped_loglet.specs.Going.{owed, one_open, IsStripe, IsLacking, Fits, IsShaped, IsStriped}
use Rattle.striped_loglet.proofs.Lists.{some_at, set_get, sum_below_put, covered_later, shut_any, none_shut, total_same, same_shut}
use Rattle.striped_loglet.proofs.Joins.{own_below, parts, joined_at, log_there}
use Rattle.striped_loglet.proofs.Sounds.{shown_is, size_is, first_stripe}
use Rattle.striped_loglet.proofs.Laters.{Goes, pending_later, capped_later}
use Rattle.striped_loglet.proofs.Changes.{forward_same, StripeGoes, at_stripe, goes_set, goes_marks, with_marks, shaped_set, stripe_now, advances_same}
use Rattle.striped_loglet.proofs.Steps.{view_later}
use Rattle.striped_loglet.proofs.Carried.{now, Puts, put_here, put_there, put_get}
use Rattle.striped_loglet.proofs.Answering.{shaped_same}

-- what holds of the numbers
pub record AreNumbers (s : State) : Type 0 where
  pub cut : s.marks.cut ≤ s.marks.reach
  pub reach : s.marks.reach ≤ s.marks.firm
  pub firm : s.marks.firm ≤ s.marks.size
  pub size : s.marks.size ≤ s.shape.room
  pub cap : ForSome s.marks.cap (λ c. (c ≤ s.marks.firm) × IsCapped s.views c)
  pub begun : s.marks.begun ≤ s.shape.limit
  pub seals : s.marks.seals ≤ s.marks.begun

none_put : (p : Plain) → None ≡ Some p → ⊥
none_put p e = absurd (cc)

-- an operation is gone
pub removed_striped : (s n : State) (ends : ℕ → ℕ → Type 0) (t : ℕ) (p : Plain) → IsStriped s → Goes s n ends → s.at t ≡ Some p → Puts s.at t None n.at → n.marks.begun ≡ s.marks.begun → n.marks.lacks ≤ s.marks.lacks + 1
    → ((q : ℕ) (u : Plain) (x : Inner) → t ≢ q → s.at q ≡ Some u → u.inner ≡ Some x → ¬ (ends x.stripe x.ticket)) → IsShaped n → AreNumbers n → ((i : ℕ) (v : LogletView) → slice_get n.views i ≡ Some v → IsStripe n i v) → IsStriped n
removed_striped s n ends t p h g is u begun lacks others shaped numbers stripes =
    let lt : t < s.marks.begun = (h.pending t p is).ticket in
    let opens : sum_below (λ q. one_open (n.at q)) s.marks.begun + one_open (s.at t) ≡ sum_below (λ q. one_open (s.at q)) s.marks.begun + one_open (n.at t) =
    sum_below_put (λ q. one_open (s.at q)) (λ q. one_open (n.at q)) t s.marks.begun lt (λ q d. ap one_open (put_there s.at n.at t q None u d)) in
    let was : one_open (s.at t) ≡ 1 = ap one_open is in
    let has : one_open (n.at t) ≡ 0 = ap one_open (put_here s.at n.at t None u) in
    record {
      shaped = shaped;
      stripes = stripes;
      cut = numbers.cut;
      reach = numbers.reach;
      firm = numbers.firm;
      size = numbers.size;
      cap = numbers.cap;
      begun = numbers.begun;
      seals = numbers.seals;
      lacks = rw begun (let l = h.lacks in omega (arith, l, lacks, opens, was, has));
      pending = λ q r e. elim (put_get s.at n.at t q None r u e) [
        | inl one ↦ absurd (none_put r one.1)
        | inr two ↦ pending_later s n ends q r h g (λ x d. others q r x two.0 two.1 d) (h.pending q r two.1)
      ];
      apart = λ a b q r x y ea eb ex ey es et. elim (put_get s.at n.at t a None q u ea) [
        | inl one ↦ absurd (none_put q one.1)
        | inr one ↦ elim (put_get s.at n.at t b None r u eb) [
          | inl two ↦ absurd (none_put r two.1)
          | inr two ↦ h.apart a b q r x y one.1 two.1 ex ey es et
        ]
      ];
    }

pub owed_removed : (s n : State) (t : ℕ) (p : Plain) → IsStriped s → s.at t ≡ Some p → Puts s.at t None n.at → (i : ℕ) → sum_below (λ q. owed i (n.at q)) s.marks.begun ≤ sum_below (λ q. owed i (s.at q)) s.marks.begun
owed_removed s n t p h is u i =
    let lt : t < s.marks.begun = (h.pending t p is).ticket in
    let owe : sum_below (λ q. owed i (n.at q)) s.marks.begun + owed i (s.at t) ≡ sum_below (λ q. owed i (s.at q)) s.marks.begun + owed i (n.at t) = sum_below_put (λ q. owed i (s.at q)) (λ q. owed i (n.at q)) t s.marks.begun lt (λ q z. ap (owed i) (put_there s.at n.at t q None u z)) in
    let has : owed i (n.at t) ≡ 0 = ap (owed i) (put_here s.at n.at t None u) in
    omega (arith, owe, has)

-- what is shown of the operations once one is gone
pub closed : (s n : State) (t : ℕ) → IsStriped s → IsStriped n → count_of n ≡ count_of s → n.shape ≡ s.shape → Puts s.at t None n.at → PutsOperation (loglet_of s).operations t None (loglet_of n).operations
closed s n t h k count shape u q =
    shown_is n k q ∙ by n.shape (count_of n) shape count ∙ elim (cases_Bool (nat_eq t q)) [
      | inl same ↦ rw (u q, same) refl
      | inr other ↦ rw (u q, other) (sym (shown_is s h q))
    ]
  where
    by : (z : _) (c : ℕ) → z ≡ s.shape → c ≡ count_of s → option_map (operation_of z.turn c) (n.at q) ≡ option_map (operation_of s.shape.turn (count_of s)) (n.at q)
    by z c ez ec = rw (ez, ec) refl

-- ---- Take

-- what every stripe covers is no longer than the log
covered_size : (s : State) → IsStriped s → (t : ℕ) → AllFirm s.views t → t ≤ s.marks.size
covered_size s h t all =
    let m = count_of s in
    let some : 0 < m = omega (arith, h.shaped.count.0) in
    let i : ℕ = s.marks.size % m in
    let at = some_at s.views i (own_below m s.marks.size some) in
    let ok = h.stripes i at.0 at.1 in
    let own : share m i s.marks.size ≡ s.marks.size / m = share_own m s.marks.size some in
    let below : at.0.firm ≤ s.marks.size / m = (let a = ok.sound.firm in let b = ok.size in omega (arith, a, b, own)) in
    let c : t ≤ covered m i (s.marks.size / m) = covered_later m m i at.0.firm (s.marks.size / m) t refl below (all i at.0 at.1) in
    let whole : m * (s.marks.size / m) + s.marks.size % m ≡ s.marks.size = parts m s.marks.size in
    omega (arith, c, whole)

reach_firm : (s : State) → IsStriped s → (t : ℕ) → AllReach s.views t → AllFirm s.views t
reach_firm s h t all i v is = covered_later (count_of s) (count_of s) i v.reach v.firm t refl (h.stripes i v is).sound.reach (all i v is)

-- what the answer of an operation says when it is taken
pub record IsTold (s : State) (p : Plain) (task : Task) (answer : Answer) : Type 0 where
  pub may : MayAnswer (loglet_of s) (operation_of s.shape.turn (count_of s) p) task answer
  pub less : told_reach (wanted_by task p.asked.size) answer ≤ told_firm (wanted_by task p.asked.size) answer
  pub reach : AllReach s.views (told_reach (wanted_by task p.asked.size) answer)
  pub firm : AllFirm s.views (told_firm (wanted_by task p.asked.size) answer)
  pub cap : ForSome (told_cap answer s.marks.cap) (λ c. (c ≤ max s.marks.firm (told_firm (wanted_by task p.asked.size) answer)) × IsCapped s.views c)
  pub lacks : told_lacks answer ≤ 1

cap_stays : (s : State) (n : ℕ) → IsStriped s → ForSome s.marks.cap (λ c. (c ≤ max s.marks.firm n) × IsCapped s.views c)
cap_stays s n h c e = let old = h.cap c e in (let a = old.0 in omega (arith, a), old.1)

nothing : (views : List LogletView) → AllReach views 0
nothing views i v is = omega arith

nothing_firm : (views : List LogletView) → AllFirm views 0
nothing_firm views i v is = omega arith

a_shut : (s : State) → ((i : ℕ) × (v : LogletView) × (slice_get s.views i ≡ Some v) × (v.shut ≡ true)) → any_shut s.views ≡ true
a_shut s h = shut_any s.views h.0 h.1 h.2 h.3

all_shut_any : (s : State) → IsStriped s → AllShut s.views → any_shut s.views ≡ true
all_shut_any s h all = let f = first_stripe s h in shut_any s.views 0 f.0 f.1 (all 0 f.0 f.1)

lack_as : (s : State) (p : Plain) (u : ℕ) → IsLacking s p u → IsLack (loglet_of s) (operation_of s.shape.turn (count_of s) p) u
lack_as s p u h = record { enough = h.enough; servers = h.servers; faults = h.faults }

cap_told : (s : State) (t n : ℕ) (cap : Option ℕ) → IsCapped s.views t → t ≤ n → ForSome cap (λ c. (c ≤ n) × IsCapped s.views c) → ForSome (told_cap (SealedTail t) cap) (λ c. (c ≤ n) × IsCapped s.views c)
cap_told s t n None k l h c e = let same : t ≡ c = cc in rw (← same) (l, k)
cap_told s t n (Some d) k l h c e =
    let same : min d t ≡ c = cc in
    let old = h d refl in
    rw (← same) (elim (cases_lt d t) [
      | inl lt ↦ (let m : min d t ≡ d = omega (arith, lt) in rw m old)
      | inr le ↦ (let m : min d t ≡ t = omega (arith, le) in rw m (l, k))
    ])

-- what is acknowledged is at most a sealed tail
reach_capped : (s : State) (t : ℕ) → IsStriped s → IsCapped s.views t → s.marks.reach ≤ t
reach_capped s t h k =
    let w = h.stripes k.stripe k.view k.is in
    let sealed = w.sound.cap k.cap k.cap_is in
    let up : s.marks.reach ≤ covered (count_of s) k.stripe k.cap = covered_later (count_of s) (count_of s) k.stripe k.view.reach k.cap s.marks.reach refl sealed.1.0 w.reach in
    omega (arith, up, k.within)

read_told : (s : State) (p : Plain) (q : ℕ) (answer : Answer) → IsStriped s → p.asked.firm ≤ s.marks.firm → s.marks.cut ≤ q → Fits s p (Reading q) answer → IsTold s p (Reading q) answer
read_told s p q (Beyond k) h f le m = record { may = (le, m.0, m.1); less = omega arith; reach = nothing s.views; firm = nothing_firm s.views; cap = cap_stays s 0 h; lacks = omega arith }
read_told s p q (CutAt k) h f le m = absurd (omega (arith, m, le))
read_told s p q (Got e) h f le m =
    let lt : q - s.marks.cut < s.marks.size - s.marks.cut = (let a = m.0 in let b = h.firm in omega (arith, a, b, f, le)) in
    let back : s.marks.cut + (q - s.marks.cut) ≡ q = omega (arith, le) in
    record {
      may = (le, m.0, joined_at s.views s.marks.cut (s.marks.size - s.marks.cut) (q - s.marks.cut) (log_there s h) lt ∙ ap (λ k. entry_at s.views k) back ∙ m.1 le);
      less = omega arith;
      reach = nothing s.views;
      firm = nothing_firm s.views;
      cap = cap_stays s 0 h;
      lacks = omega arith;
    }
read_told s p q (NoQuorum u) h f le m = record { may = (le, m.0, lack_as s p u m.1); less = omega arith; reach = nothing s.views; firm = nothing_firm s.views; cap = cap_stays s 0 h; lacks = omega arith }
read_told s p q answer h f le m = absurd m

pub tells : (s : State) (p : Plain) (task : Task) (answer : Answer) → IsStriped s → p.asked.firm ≤ s.marks.firm → Fits s p task answer → IsTold s p task (told_at task s.marks.cut answer)
tells s p Placing (Placed q) h f m =
    let e : q + 1 ≡ p.asked.size + 1 = (let a = m.0 in omega (arith, a)) in
    let all : AllReach s.views (q + 1) = rw e m.2 in
    record { may = (m.0, none_shut p.before m.1); less = omega arith; reach = all; firm = reach_firm s h (q + 1) all; cap = cap_stays s (q + 1) h; lacks = omega arith }
tells s p Placing Sealed h f m = record { may = a_shut s m; less = omega arith; reach = nothing s.views; firm = nothing_firm s.views; cap = cap_stays s 0 h; lacks = omega arith }
tells s p (Settling n) Settled h f m =
    record { may = none_shut p.before m.0; less = omega arith; reach = m.1; firm = reach_firm s h (min n p.asked.size) m.1; cap = cap_stays s (min n p.asked.size) h; lacks = omega arith }
tells s p (Settling n) Sealed h f m = record { may = a_shut s m; less = omega arith; reach = nothing s.views; firm = nothing_firm s.views; cap = cap_stays s 0 h; lacks = omega arith }
tells s p Finding (OpenTail t) h f m =
    record { may = (m.0, none_shut p.before m.1); less = omega arith; reach = m.2; firm = reach_firm s h t m.2; cap = cap_stays s t h; lacks = omega arith }
tells s p Finding (SealedTail t) h f m =
    record {
      may = (reach_capped s t h m.2, all_shut_any s h m.0);
      less = omega arith;
      reach = nothing s.views;
      firm = m.1;
      cap = cap_told s t (max s.marks.firm t) s.marks.cap m.2 (omega arith) (cap_stays s t h);
      lacks = omega arith;
    }
tells s p Sealing SealDone h f m = record { may = all_shut_any s h m; less = omega arith; reach = nothing s.views; firm = nothing_firm s.views; cap = cap_stays s 0 h; lacks = omega arith }
tells s p (Reading q) answer h f m =
    elim (cases_Bool (nat_lt q s.marks.cut)) [
      | inl below ↦ (let lt : q < s.marks.cut = grind (arith, nat_tests) in
          rw below (record { may = (lt, refl); less = omega arith; reach = nothing s.views; firm = nothing_firm s.views; cap = cap_stays s 0 h; lacks = omega arith }))
      | inr above ↦ (let le : s.marks.cut ≤ q = grind (arith, nat_tests) in rw above (read_told s p q answer h f le m))
    ]
tells s p (Trimming n) TrimDone h f m = record { may = tt; less = omega arith; reach = nothing s.views; firm = nothing_firm s.views; cap = cap_stays s 0 h; lacks = omega arith }
tells s p task (NoQuorum u) h f m = record { may = lack_as s p u m; less = omega arith; reach = nothing s.views; firm = nothing_firm s.views; cap = cap_stays s 0 h; lacks = omega arith }
tells s p task answer h f m = absurd m

pub taken_step : (s : State) (marks : Marks) (at : ℕ → Option Plain) (t : ℕ) (p : Plain) (found answer : Answer) → IsStriped s → s.at t ≡ Some p → p.answer ≡ Some found → answer ≡ told_at p.asked.task s.marks.cut found → Puts s.at t None at
    → marks ≡ record s.marks { reach = max s.marks.reach (told_reach (wanted_by p.asked.task p.asked.size) answer); firm = max s.marks.firm (told_firm (wanted_by p.asked.task p.asked.size) answer); cap = told_cap answer s.marks.cap; lacks = s.marks.lacks + told_lacks answer }
    → IsStriped (with_marks s marks at) × TakesAnswer (loglet_of s) t answer (loglet_of (with_marks s marks at))
taken_step s marks at t p found answer h is has ea u em =
    let pend = h.pending t p is in
    let told : IsTold s p p.asked.task answer = rw ea (tells s p p.asked.task found h pend.firm (pend.told found has)) in
    rw em (by told)
  where
    r : ℕ
    r = told_reach (wanted_by p.asked.task p.asked.size) answer

    f : ℕ
    f = told_firm (wanted_by p.asked.task p.asked.size) answer

    marks' : Marks
    marks' = record s.marks { reach = max s.marks.reach r; firm = max s.marks.firm f; cap = told_cap answer s.marks.cap; lacks = s.marks.lacks + told_lacks answer }

    by : IsTold s p p.asked.task answer → IsStriped (with_marks s marks' at) × TakesAnswer (loglet_of s) t answer (loglet_of (with_marks s marks' at))
    by told =
        let n = with_marks s marks' at in
        let goes : Goes s n (λ i q. ⊥) = goes_marks s marks' at h (record { size = omega arith; cut = omega arith; reach = omega arith; firm = omega arith; begun = omega arith; seals = omega arith; refusals = omega arith }) in
        let less = told.less in
        let size : f ≤ s.marks.size = covered_size s h f told.firm in
        let numbers : AreNumbers n = record {
          cut = (let a = h.cut in omega (arith, a));
          reach = (let a = h.reach in omega (arith, a, less));
          firm = (let a = h.firm in omega (arith, a, size));
          size = h.size;
          cap = told.cap;
          begun = h.begun;
          seals = h.seals;
        } in
        let stripes : (i : ℕ) (v : LogletView) → slice_get s.views i ≡ Some v → IsStripe n i v = (λ i v e.
        let ok = h.stripes i v e in
        let owe = owed_removed s n t p h is u i in
        stripe_now s n i v v refl refl ok ok.sound refl refl refl ok.size ok.cut
        (let a = ok.reach in let b = told.reach i v e in omega (arith, a, b)) (let a = ok.firm in let b = told.firm i v e in omega (arith, a, b))
        (let a = ok.begun in omega (arith, a, owe)) ok.seals) in
        let all : IsStriped n = removed_striped s n (λ i q. ⊥) t p h goes is u refl (let l = told.lacks in omega (arith, l)) (λ q z x d e k b. b) (shaped_same s marks' at h.shaped) numbers stripes in (
          all,
          record {
            operation = operation_of s.shape.turn (count_of s) p;
            is = shown_is s h t ∙ ap (λ x. option_map (operation_of s.shape.turn (count_of s)) x) is;
            decided = rw has refl;
            may = told.may;
            closed = closed s n t h all refl refl u;
            rest = refl;
          },
        )

-- ---- Forget

pub forgotten_step : (s : State) (at : ℕ → Option Plain) (t : ℕ) (p : Plain) → IsStriped s → s.at t ≡ Some p → Puts s.at t None at → IsStriped (with_marks s s.marks at) × Forgets (loglet_of s) t (loglet_of (with_marks s s.marks at))
forgotten_step s at t p h is u =
    let n = with_marks s s.marks at in
    let goes : Goes s n (λ i q. ⊥) = goes_marks s s.marks at h (forward_same s.marks) in
    let stripes : (i : ℕ) (v : LogletView) → slice_get s.views i ≡ Some v → IsStripe n i v = (λ i v e.
    let ok = h.stripes i v e in
    let owe = owed_removed s n t p h is u i in
    stripe_now s n i v v refl refl ok ok.sound refl refl refl ok.size ok.cut ok.reach ok.firm (let a = ok.begun in omega (arith, a, owe)) ok.seals) in
    let numbers : AreNumbers n = record { cut = h.cut; reach = h.reach; firm = h.firm; size = h.size; cap = h.cap; begun = h.begun; seals = h.seals } in
    let all : IsStriped n = removed_striped s n (λ i q. ⊥) t p h goes is u refl (omega arith) (λ q z x d e k b. b) (shaped_same s s.marks at h.shaped) numbers stripes in
    (all, record { closed = closed s n t h all refl refl u; rest = refl })

forget_goes : (v w : LogletView) (t : ℕ) → IsSound v → IsSound w → Keeps v w → Forgets v t w → StripeGoes v w (λ q. q ≡ t)
forget_goes v w t ov ow keeps h =
    record {
      keeps = keeps;
      down = (let d : w.down ≡ v.down = ap (λ (z : LogletView). z.down) h.rest in let f : w.faults ≡ v.faults = ap (λ (z : LogletView). z.faults) h.rest in omega (arith, d, f));
      small = ow.faults;
      tickets = λ q o is stays. (let other : nat_eq t q ≡ false = elim (cases_Bool (nat_eq t q)) [ inl e ↦ absurd (stays (sym (grind (arith, nat_tests)))) | inr e ↦ e ] in
          let there : operation_at w.operations q ≡ Some o = h.closed q ∙ rw other is in
          rw there (advances_same (Some o)));
    }

pub forgotten_inner : (s : State) (at : ℕ → Option Plain) (t : ℕ) (p : Plain) (x : Inner) (v w : LogletView) → IsStriped s → s.at t ≡ Some p → p.inner ≡ Some x → slice_get s.views x.stripe ≡ Some v → IsSound w → Keeps v w → Forgets v x.ticket w → Puts s.at t None at
    → IsStriped (now s (set s.views x.stripe w) at) × Forgets (loglet_of s) t (loglet_of (now s (set s.views x.stripe w) at))
forgotten_inner s at t p x v w h is mine here ow keeps f u =
    let n = now s (set s.views x.stripe w) at in
    let ok = h.stripes x.stripe v here in
    let e = f.rest in
    let cut : w.cut ≡ v.cut = ap (λ (z : LogletView). z.cut) e in
    let low : w.cut ≤ share (count_of s) x.stripe s.marks.cut = (let a = ok.cut in omega (arith, a, cut)) in
    let ends = at_stripe x.stripe (λ q. q ≡ x.ticket) in
    let goes : Goes s n ends = goes_set s x.stripe v w s.marks at (λ q. q ≡ x.ticket) h here (forget_goes v w x.ticket ok.sound ow keeps f) (forward_same s.marks) low in
    let stripes : (i : ℕ) (y : LogletView) → slice_get n.views i ≡ Some y → IsStripe n i y = (λ i y d.
    let owe = owed_removed s n t p h is u i in
    elim (set_get s.views x.stripe i v w y here d) [
      | inl one ↦ (let owe' = owed_removed s n t p h is u x.stripe in
          let it : IsStripe n x.stripe w = stripe_now s n x.stripe v w goes.count refl ok ow (ap (λ (z : LogletView). z.room) e) (ap (λ (z : LogletView). z.rounds) e) (ap (λ (z : LogletView). z.limit) e)
          (rw (cut, ap (λ (z : LogletView). z.log) e) ok.size) low (rw (ap (λ (z : LogletView). z.reach) e) ok.reach) (rw (ap (λ (z : LogletView). z.firm) e) ok.firm)
          (let a = ok.begun in let b : w.begun ≡ v.begun = ap (λ (z : LogletView). z.begun) e in omega (arith, a, b, owe')) (rw (ap (λ (z : LogletView). z.seals) e) ok.seals) in
          subst (λ (z : LogletView). IsStripe n i z) one.1 (subst (λ (k : ℕ). IsStripe n k w) one.0 it))
      | inr two ↦ (let old = h.stripes i y two.1 in stripe_now s n i y y goes.count refl old old.sound refl refl refl old.size old.cut old.reach old.firm (let a = old.begun in omega (arith, a, owe)) old.seals)
    ]) in
    let numbers : AreNumbers n = record { cut = h.cut; reach = h.reach; firm = h.firm; size = h.size; cap = λ c d. (let old = h.cap c d in (old.0, capped_later s n ends c goes old.1)); begun = h.begun; seals = h.seals } in
    let all : IsStriped n = removed_striped s n ends t p h goes is u refl (omega arith) (λ q r y d k ey b. d (h.apart t q p r x y is k mine ey b.0 (sym b.1)))
    (shaped_set s x.stripe v w s.marks at h.shaped here (ap (λ (z : LogletView). z.servers) e)) numbers stripes in
    let shut : any_shut n.views ≡ any_shut s.views = same_shut s.views x.stripe v w here (ap (λ (z : LogletView). z.shut) e) in
    let faults : faults_of n ≡ faults_of s = (let a = total_same (λ z. z.faults) s.views x.stripe v w here (ap (λ (z : LogletView). z.faults) e) in ap (λ k. counted k s.marks.refusals) a) in
    let down : down_of n ≡ down_of s = total_same (λ z. z.down) s.views x.stripe v w here (ap (λ (z : LogletView). z.down) e) in (
      all,
      record {
        closed = closed s n t h all goes.count refl u;
        rest = view_later s n ends h goes refl ∙ by (any_shut n.views) (faults_of n) (down_of n) (loglet_of n).operations shut faults down;
      },
    )
  where
    by : (shut : Bool) (faults down : ℕ) (ops : List (ℕ × Operation)) → shut ≡ any_shut s.views → faults ≡ faults_of s → down ≡ down_of s → record (loglet_of s) { shut = shut; operations = ops; faults = faults; down = down } ≡ record (loglet_of s) { operations = ops }
    by shut faults down ops es ef ed = rw (es, ef, ed) refl

-- ---- a refusal

pub refused_step : (s : State) (marks : Marks) (op : Op) → IsStriped s → (IsAppend op × (s.marks.size ≡ s.shape.room)) ⊎ (s.marks.begun ≡ s.shape.limit) → marks ≡ record s.marks { refusals = min (s.marks.refusals + 1) (2 ^ 64 - 1) }
    → IsStriped (with_marks s marks s.at) × IsFull (loglet_of s) op × (loglet_of (with_marks s marks s.at) ≡ record (loglet_of s) { faults = bumped (faults_of s) })
refused_step s marks op h full em = rw em (
    let marks' : Marks = record s.marks { refusals = min (s.marks.refusals + 1) (2 ^ 64 - 1) } in
    let n = with_marks s marks' s.at in
    let goes : Goes s n (λ i q. ⊥) = goes_marks s marks' s.at h (record { size = omega arith; cut = omega arith; reach = omega arith; firm = omega arith; begun = omega arith; seals = omega arith; refusals = omega arith }) in
    let size = size_is s h in
    let count : faults_of n ≡ bumped (faults_of s) = counted_more (total (λ v. v.faults) s.views) s.marks.refusals in (
      record {
        shaped = shaped_same s marks' s.at h.shaped;
        stripes = λ i v e. (let ok = h.stripes i v e in stripe_now s n i v v refl refl ok ok.sound refl refl refl ok.size ok.cut ok.reach ok.firm ok.begun ok.seals);
        cut = h.cut;
        reach = h.reach;
        firm = h.firm;
        size = h.size;
        cap = h.cap;
        begun = h.begun;
        seals = h.seals;
        lacks = h.lacks;
        pending = λ t p e. pending_later s n (λ i q. ⊥) t p h goes (λ x d k. k) (h.pending t p e);
        apart = h.apart;
      },
      full_as size full,
      ap (λ k. record (loglet_of s) { faults = k }) count,
    ))
  where
    counted_more : (f r : ℕ) → counted f (min (r + 1) (2 ^ 64 - 1)) ≡ bumped (counted f r)
    counted_more f r = omega arith

    full_as : size_of (loglet_of s) ≡ s.marks.size → (IsAppend op × (s.marks.size ≡ s.shape.room)) ⊎ (s.marks.begun ≡ s.shape.limit) → IsFull (loglet_of s) op
    full_as e (inl x) = inl (x.0, e ∙ x.1)
    full_as e (inr x) = inr x

-- a length that every stripe covers is small
pub covered_small_size : (s : State) → IsStriped s → (t : ℕ) → AllFirm s.views t → t ≤ 2 ^ 32
covered_small_size s h t all = let a = covered_size s h t all in let b = h.size in let c = h.shaped.room.1 in omega (arith, a, b, c)
