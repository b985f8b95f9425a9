-- The fields of a striped loglet give a sound view.
use Rattle.std.proofs.Common.{◌≡◌, ℕ, ◌+◌, ◌-◌, ◌*◌, ◌/◌, ◌%◌, ◌^◌, ◌<◌, ◌≤◌, length, map, Option, Some, None, refl, sym, ◌∙◌, subst, arith}
use Rattle.std.specs.Prelude.{slice_get}
use Rattle.std.specs.Option.{option_map}
use Rattle.std.proofs.Math.Nat.{mul-le-mul_right}
use Rattle.delos_types.specs.declared.entry.Entry.{Entry}
use Rattle.delos_types.specs.Spelling.{IsSpellable}
use Rattle.loglet_api.specs.declared.call.Answer.{Answer}
use Rattle.loglet_api.specs.View.{LogletView, Operation, operation_at, size_of}
use Rattle.loglet_api.specs.Sound.{IsSound, IsSoundOperation}
use Rattle.stripe_rule.specs.Stripes.{covered}
use Rattle.striped_loglet.specs.declared.plan.Plan.{Plan}
use Rattle.striped_loglet.specs.declared.plan.Stage.{Stage}
use Rattle.striped_loglet.specs.declared.plan.Stage.TheVariants.{First, Sealing, Last}
use Rattle.striped_loglet.specs.declared.stripe.Inner.{Inner}
use Rattle.striped_loglet.specs.Views.{total, least_of, entry_in, joined}
use Rattle.striped_loglet.specs.State.{Plain, State, rounds_behind, to_begin, left_of, operation_of, shown_at, count_of, loglet_of, work_of, works_of, work_at}
use Rattle.striped_loglet.specs.Going.{IsPending, IsStriped}
use Rattle.striped_loglet.proofs.Lists.{some_at, within, total_at, total_below, least_at, least_some, any_shut_at, shut_any, covered_later, open_is}
use Rattle.striped_loglet.proofs.Joins.{joined_length, joined_has, log_there}

pub size_is : (s : State) → IsStriped s → size_of (loglet_of s) ≡ s.marks.size
size_is s h = let l : length (joined s.views s.marks.cut (s.marks.size - s.marks.cut)) ≡ s.marks.size - s.marks.cut = joined_length s.views s.marks.cut (s.marks.size - s.marks.cut) (log_there s h) in omega (arith, l, h.cut, h.reach, h.firm)

-- the first stripe
pub first_stripe : (s : State) → IsStriped s → (v : LogletView) × (slice_get s.views 0 ≡ Some v)
first_stripe s h = some_at s.views 0 (omega (arith, h.shaped.count.0))

none_behind : {A : Type 0} (f : Plain → A) (s : State) → IsStriped s → (t : ℕ) → s.marks.begun ≤ t → (x : Option Plain) → s.at t ≡ x → option_map f (s.at t) ≡ None
none_behind f s h t l None e = rw e refl
none_behind f s h t l (Some p) e = absurd (let below = (h.pending t p e).ticket in omega (arith, below))

-- the open operations, as a look-up finds them
pub shown_is : (s : State) → IsStriped s → (q : ℕ) → operation_at (loglet_of s).operations q ≡ shown_at s.shape.turn (count_of s) s.at q
shown_is s h q = open_is (shown_at s.shape.turn (count_of s) s.at) s.marks.begun q (λ t l. none_behind (operation_of s.shape.turn (count_of s)) s h t l (s.at t) refl)

pub work_is : (s : State) → IsStriped s → (q : ℕ) → work_at (works_of s) q ≡ option_map work_of (s.at q)
work_is s h q = open_is (λ t. option_map work_of (s.at t)) s.marks.begun q (λ t l. none_behind work_of s h t l (s.at t) refl)

of_shown : (turn count : ℕ) (x : Option Plain) (o : Operation) → option_map (operation_of turn count) x ≡ Some o → (p : Plain) × (x ≡ Some p) × (operation_of turn count p ≡ o)
of_shown turn count None o h = absurd (cc)
of_shown turn count (Some p) o h = (p, refl, cc)

pub behind : (s : State) → IsStriped s → (q : ℕ) (o : Operation) → operation_at (loglet_of s).operations q ≡ Some o → (p : Plain) × (s.at q ≡ Some p) × (operation_of s.shape.turn (count_of s) p ≡ o)
behind s h q o is = of_shown s.shape.turn (count_of s) (s.at q) o (sym (shown_is s h q) ∙ is)

pub turns_few : (count : ℕ) (plan : Plan) → to_begin count plan ≤ 3 * count
turns_few count plan = by plan.stage plan.next
  where
    by : (stage : Stage) (next : ℕ) → rounds_behind stage * count + (count - next) ≤ 3 * count
    by First next = omega arith
    by Sealing next = omega arith
    by Last next = omega arith

pub turns_within : (count turn : ℕ) (plan : Plan) → to_begin count plan * turn ≤ 3 * count * turn
turns_within count turn plan = mul-le-mul_right turn (turns_few count plan)

-- what is left stays within its bounds
left_small : (s : State) (t : ℕ) (p : Plain) → IsStriped s → IsPending s t p → (x : Option Inner) (answer : Option Answer) → p.inner ≡ x → p.answer ≡ answer
    → ((left_of s.shape.turn (count_of s) p.plan x answer).0 ≤ s.shape.rounds) × ((left_of s.shape.turn (count_of s) p.plan x answer).1 < 2 ^ 53 * s.shape.servers)
left_small s t p h w x (Some answer) ex ea = (omega arith, positive s h)
  where
    positive : (s : State) → IsStriped s → 0 < 2 ^ 53 * s.shape.servers
    positive s h =
        let f = first_stripe s h in
        let ok = (h.stripes 0 f.0 f.1).sound.shape.quorum in
        let most : f.0.servers ≤ total (λ v. v.servers) s.views = total_at (λ v. v.servers) s.views 0 f.0 f.1 in
        omega (arith, ok.0, ok.1, most, h.shaped.servers)
left_small s t p h w None None ex ea =
    let few : to_begin (count_of s) p.plan * s.shape.turn ≤ 3 * count_of s * s.shape.turn = turns_within (count_of s) s.shape.turn p.plan in
    let f = first_stripe s h in
    let ok = (h.stripes 0 f.0 f.1).sound.shape.quorum in
    let most : f.0.servers ≤ total (λ v. v.servers) s.views = total_at (λ v. v.servers) s.views 0 f.0 f.1 in
    (omega (arith, few, h.shaped.rounds), omega (arith, ok.0, ok.1, most, h.shaped.servers))
left_small s t p h w (Some x) None ex ea =
    let few : to_begin (count_of s) p.plan * s.shape.turn ≤ 3 * count_of s * s.shape.turn = turns_within (count_of s) s.shape.turn p.plan in
    let g = w.going ea in
    let f = some_at s.views x.stripe (g.inner x ex) in
    let asked = g.asks x f.0 ex f.1 in
    let most : f.0.servers ≤ total (λ v. v.servers) s.views = total_at (λ v. v.servers) s.views x.stripe f.0 f.1 in
    let ok = (h.stripes x.stripe f.0 f.1).rounds in
    (omega (arith, few, h.shaped.rounds, asked.rounds, ok), omega (arith, asked.steps, most, h.shaped.servers))

sound_operation : (s : State) → IsStriped s → (t : ℕ) (p : Plain) → IsPending s t p → IsSoundOperation (loglet_of s) t (operation_of s.shape.turn (count_of s) p)
sound_operation s h t p w =
    let small = left_small s t p h w p.inner p.answer refl refl in
    record {
      ticket = w.ticket;
      rounds = small.0;
      steps = small.1;
      size = omega (arith, w.size, size_is s h);
      reach = w.reach;
      firm = w.firm;
      shut = λ e. (let a = any_shut_at p.before e in
          let lt : a.0 < count_of s = omega (arith, w.before, within p.before a.0 a.1 a.2) in
          let v = some_at s.views a.0 lt in
          shut_any s.views a.0 v.0 v.1 (w.shut a.0 a.1 v.0 a.2 v.1 a.3));
      faults = w.faults;
    }

spelled_in : (s : State) → IsStriped s → (x : Option LogletView) (i k : ℕ) (e : Entry) → slice_get s.views i ≡ x → entry_in x k ≡ Some e → IsSpellable e
spelled_in s h None i k e is at = absurd (cc)
spelled_in s h (Some v) i k e is at = (h.stripes i v is).sound.spelled (k - v.cut) e at

pub firm_small : (s : State) → IsStriped s → s.marks.firm ≤ 2 ^ 32
firm_small s h = omega (arith, h.firm, h.size, h.shaped.room.1)

pub striped_sound : (s : State) → IsStriped s → IsSound (loglet_of s)
striped_sound s h =
    let size = size_is s h in
    let f = first_stripe s h in
    let ok = h.stripes 0 f.0 f.1 in
    let least : least_of (map (λ v. v.quorum) s.views) ≤ f.0.quorum = least_at (λ v. v.quorum) s.views 0 f.0 f.1 in
    let most : f.0.servers ≤ total (λ v. v.servers) s.views = total_at (λ v. v.servers) s.views 0 f.0 f.1 in
    let one : 1 ≤ least_of (map (λ v. v.quorum) s.views) = least_some (λ v. v.quorum) s.views (omega (arith, h.shaped.count.0)) (λ i x e. (h.stripes i x e).sound.shape.quorum.0) in
    let downs : total (λ v. v.down) s.views ≤ total (λ v. v.servers) s.views = total_below (λ v. v.down) (λ v. v.servers) s.views (λ i x e. (h.stripes i x e).sound.down) in
    record {
      shape = record {
        servers = h.shaped.few;
        quorum = (one, omega (arith, least, most, ok.sound.shape.quorum.1, h.shaped.servers));
        room = h.shaped.room;
        rounds = rounds_small (count_of s) s.shape.turn s.shape.rounds h.shaped.count.1 h.shaped.turn h.shaped.rounds;
        limit = omega (arith, ok.limit, ok.sound.shape.limit);
      };
      cut = h.cut;
      reach = h.reach;
      firm = omega (arith, h.firm, size);
      size = omega (arith, h.size, size);
      cap = λ t e. (let c = h.cap t e in
          let k = c.1 in
          let w = h.stripes k.stripe k.view k.is in
          let sealed = w.sound.cap k.cap k.cap_is in
          let up : s.marks.reach ≤ covered (count_of s) k.stripe k.cap = covered_later (count_of s) (count_of s) k.stripe k.view.reach k.cap s.marks.reach refl sealed.1.0 w.reach in
          (shut_any s.views k.stripe k.view k.is sealed.0, (omega (arith, up, k.within), c.0)));
      sealing = λ e. (let a = any_shut_at s.views e in let w = h.stripes a.0 a.1 a.2 in w.seals (w.sound.sealing a.3));
      begun = h.begun;
      seals = h.seals;
      lacks = omega (arith, h.lacks);
      down = omega (arith, downs, h.shaped.servers);
      faults = omega arith;
      spelled = λ i e is. (let a = joined_has s.views s.marks.cut (s.marks.size - s.marks.cut) i e is in spelled_in s h (slice_get s.views (a.0 % count_of s)) (a.0 % count_of s) (a.0 / count_of s) e refl a.1);
      operations = λ t o is. (let b = behind s h t o is in subst (λ (x : Operation). IsSoundOperation (loglet_of s) t x) b.2 (sound_operation s h t b.0 (h.pending t b.0 b.1)));
    }
  where
    rounds_small : (count turn rounds : ℕ) → count ≤ 8 → turn ≤ 2 ^ 24 + 2 → rounds ≡ (3 * count + 1) * turn → rounds < 2 ^ 32
    rounds_small count turn rounds c t e =
        let few : (3 * count + 1) * turn ≤ 25 * turn = mul-le-mul_right turn (omega arith) in
        omega (arith, few, e, t)

-- something is left of an operation without an answer
pub left_some : (s : State) (t : ℕ) (p : Plain) → IsStriped s → IsPending s t p → (x : Option Inner) → p.inner ≡ x → p.answer ≡ None → 0 < (left_of s.shape.turn (count_of s) p.plan p.inner p.answer).0 + (left_of s.shape.turn (count_of s) p.plan p.inner p.answer).1
left_some s t p h w (Some x) e none = rw (e, none) (omega arith)
left_some s t p h w None e none =
    let g = w.going none in
    let f = first_stripe s h in
    let turn : 1 ≤ s.shape.turn = (let a = (h.stripes 0 f.0 f.1).rounds in omega (arith, a)) in
    let some : 1 * s.shape.turn ≤ to_begin (count_of s) p.plan * s.shape.turn = mul-le-mul_right s.shape.turn (let l = g.waits e in omega (arith, l)) in
    rw (e, none) (omega (arith, some, turn))
