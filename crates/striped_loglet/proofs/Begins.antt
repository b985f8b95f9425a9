-- The begin of a striped loglet's operation, by its fields.
use Rattle.std.proofs.Common.{◌≡◌, ℕ, ◌+◌, ◌-◌, ◌%◌, ◌^◌, ◌<◌, ◌≤◌, List, length, map, set, Option, Some, None, nat_eq, refl, sym, ap, ◌∙◌, subst, arith, min}
use Rattle.std.specs.Prelude.{◌⊎◌, Ok, Err}
use Rattle.std.specs.Option.{option_map}
use Rattle.std.specs.HashMap.{get, Updates}
use Rattle.std.proofs.Math.Path.{fun_ext}
use Rattle.loglet_api.specs.declared.call.Op.{Op}
use Rattle.loglet_api.specs.declared.call.Op.TheVariants.{Append, Settle, Tail, Seal, Read, Trim}
use Rattle.loglet_api.specs.declared.call.Refused.{Refused}
use Rattle.loglet_api.specs.declared.call.Refused.TheVariants.{Full, Memory}
use Rattle.loglet_api.specs.declared.call.LogletCall.TheVariants.{Begin}
use Rattle.loglet_api.specs.declared.call.LogletAnswer.TheVariants.{Begun}
use Rattle.loglet_api.specs.View.{LogletView}
use Rattle.loglet_api.specs.Step.{Begins, IsAppend, IsFull, bumped, task_of}
use Rattle.loglet_api.proofs.Keeps.{step_keeps}
use Rattle.striped_loglet.specs.declared.marks.Marks.{Marks}
use Rattle.striped_loglet.specs.declared.shape.Shape.{Shape}
use Rattle.striped_loglet.specs.declared.stripe.Inner.{Inner}
use Rattle.striped_loglet.specs.declared.pending.Pending.{Pending}
use Rattle.striped_loglet.specs.Plans.{first_plan}
use Rattle.striped_loglet.specs.Views.{total}
use Rattle.striped_loglet.specs.Calls.{Starts, StartsOn}
use Rattle.striped_loglet.specs.State.{Plain, State, PendingMap, plain_of, plain_at, state_of, loglet_of, faults_of, down_of}
use Rattle.striped_loglet.specs.Going.{IsStriped}
use Rattle.striped_loglet.proofs.Lists.{total_below, set_back}
use Rattle.striped_loglet.proofs.Sounds.{striped_sound}
use Rattle.striped_loglet.proofs.Carried.{Puts}
use Rattle.striped_loglet.proofs.Removing.{refused_step}
use Rattle.striped_loglet.proofs.Bridge.{puts_by}
use Rattle.striped_loglet.proofs.Opening.{begun_marks, begun_plain, begun_state, begun_plainly, begun_append, append_fits}

module _ {L : Type 0} (view : L → LogletView) where
  -- room was made, which shows nothing
  pub reordered : (m n : PendingMap L) → ((q : ℕ) → get nat_eq n q ≡ get nat_eq m q) → plain_at view n ≡ plain_at view m
  reordered m n e = fun_ext (λ q. ap (λ x. option_map (plain_of view) x) (e q))

  pub reordered_state : (shape : Shape) (xs : List L) (marks : Marks) (m n : PendingMap L) → ((q : ℕ) → get nat_eq n q ≡ get nat_eq m q) → state_of view shape xs marks n ≡ state_of view shape xs marks m
  reordered_state shape xs marks m n e = ap (λ (at : ℕ → Option Plain). record { views = map view xs; shape = shape; marks = marks; at = at }) (reordered m n e)

  pub puts_new : (m m1 n : PendingMap L) (t : ℕ) (p : Pending L) (plain : Plain) → ((q : ℕ) → get nat_eq m1 q ≡ get nat_eq m q) → Updates nat_eq m1 n t (Some p) → plain_of view p ≡ plain → Puts (plain_at view m) t (Some plain) (plain_at view n)
  puts_new m m1 n t p plain e u same =
      subst (λ (x : Plain). Puts (plain_at view m) t (Some x) (plain_at view n)) same
      (subst (λ (at : ℕ → Option Plain). Puts at t (Some (plain_of view p)) (plain_at view n)) (reordered m m1 e) (puts_by view m1 n t (Some p) u))

  begun_on : (s : State) (op : Op) (at : ℕ → Option Plain) (new : List LogletView) (x : Inner) → IsStriped s → ((IsAppend op × (s.marks.size ≡ s.shape.room)) ⊎ (s.marks.begun ≡ s.shape.limit) → ⊥) → StartsOn s.views op s.marks.size new x → Puts s.at s.marks.begun (Some (begun_plain s op (Some x))) at
      → IsStriped (begun_state s op new at) × Begins (loglet_of s) op s.marks.begun (loglet_of (begun_state s op new at))
  begun_on s (Append e) at new x h free b u =
      subst (λ (vs : List LogletView). IsStriped (begun_state s (Append e) vs at) × Begins (loglet_of s) (Append e) s.marks.begun (loglet_of (begun_state s (Append e) vs at))) (sym b.rest)
      (begun_append s e at x b.before b.after h free b.stripe b.is b.step.after (step_keeps b.before (Begin (Append e)) (Begun x.ticket) b.after b.step) b.step.does b.left u)
  begun_on s (Settle n) at new x h free b u = absurd b.append
  begun_on s Tail at new x h free b u = absurd b.append
  begun_on s Seal at new x h free b u = absurd b.append
  begun_on s (Read p) at new x h free b u = absurd b.append
  begun_on s (Trim n) at new x h free b u = absurd b.append

  begun_by : (s : State) (op : Op) (at : ℕ → Option Plain) (new : List LogletView) (inner : Option Inner) → IsStriped s → ((IsAppend op × (s.marks.size ≡ s.shape.room)) ⊎ (s.marks.begun ≡ s.shape.limit) → ⊥) → Starts s.views op s.marks.size (Ok inner) new → Puts s.at s.marks.begun (Some (begun_plain s op inner)) at
      → IsStriped (begun_state s op new at) × Begins (loglet_of s) op s.marks.begun (loglet_of (begun_state s op new at))
  begun_by s op at new None h free b u =
      subst (λ (vs : List LogletView). IsStriped (begun_state s op vs at) × Begins (loglet_of s) op s.marks.begun (loglet_of (begun_state s op vs at))) (sym b.1) (begun_plainly s op at h b.0 free u)
  begun_by s op at new (Some x) h free b u = begun_on s op at new x h free b u

  pub begun_whole : (shape : Shape) (xs ys : List L) (marks marks' : Marks) (m m1 n : PendingMap L) (op : Op) (inner : Option Inner) (p : Pending L) → IsStriped (state_of view shape xs marks m) → ((IsAppend op × (marks.size ≡ shape.room)) ⊎ (marks.begun ≡ shape.limit) → ⊥)
      → ((q : ℕ) → get nat_eq m1 q ≡ get nat_eq m q) → Starts (map view xs) op marks.size (Ok inner) (map view ys) → marks' ≡ begun_marks marks op → Updates nat_eq m1 n marks.begun (Some p) → plain_of view p ≡ begun_plain (state_of view shape xs marks m) op inner
      → IsStriped (state_of view shape ys marks' n) × Begins (loglet_of (state_of view shape xs marks m)) op marks.begun (loglet_of (state_of view shape ys marks' n))
  begun_whole shape xs ys marks marks' m m1 n op inner p h free e starts em u same =
      let s = state_of view shape xs marks m in
      let all = begun_by s op (plain_at view n) (map view ys) inner h free starts (puts_new m m1 n marks.begun p (begun_plain s op inner) e u same) in
      rw em all

  -- what is noted as it begins
  pub noted : (s : State) (op : Op) (p : Pending L) (inner : Option Inner) → p.asked.task ≡ task_of op → p.asked.size ≡ s.marks.size → p.asked.reach ≡ s.marks.reach → p.asked.firm ≡ s.marks.firm → p.asked.faults ≡ faults_of s → p.asked.down ≡ down_of s
      → map view p.before.value.items ≡ s.views → p.plan ≡ first_plan (task_of op) → p.inner ≡ inner → p.answer ≡ None → plain_of view p ≡ begun_plain s op inner
  noted s op p inner et es er ef ea ed eb ep ei en = rw (et, es, er, ef, ea, ed, eb, ep, ei, en) refl

  -- a refusal for want of memory shows nothing; no stripe is full that the loglet has room for
  pub unbegun : (shape : Shape) (xs ys : List L) (marks : Marks) (m m1 : PendingMap L) (op : Op) (refused : Refused) → IsStriped (state_of view shape xs marks m) → ((IsAppend op × (marks.size ≡ shape.room)) ⊎ (marks.begun ≡ shape.limit) → ⊥) → ((q : ℕ) → get nat_eq m1 q ≡ get nat_eq m q)
      → Starts (map view xs) op marks.size (Err refused) (map view ys) → state_of view shape ys marks m1 ≡ state_of view shape xs marks m
  unbegun shape xs ys marks m m1 op Memory h free e r =
      let i : ℕ = marks.size % length (map view xs) in
      let same : map view ys ≡ map view xs = r.rest ∙ ap (λ v. set (map view xs) i v) r.step.does ∙ set_back (map view xs) i r.before r.is in
      ap (λ (vs : List LogletView). record { views = vs; shape = shape; marks = marks; at = plain_at view m1 }) same ∙ reordered_state shape xs marks m m1 e
  unbegun shape xs ys marks m m1 op Full h free e r = absurd (append_fits (state_of view shape xs marks m) (marks.size % length (map view xs)) r.before op h r.is refl r.append free r.step.does.0)

  pub refused_whole : (shape : Shape) (xs : List L) (marks marks' : Marks) (m : PendingMap L) (op : Op) → IsStriped (state_of view shape xs marks m) → (IsAppend op × (marks.size ≡ shape.room)) ⊎ (marks.begun ≡ shape.limit) → marks' ≡ record marks { refusals = min (marks.refusals + 1) (2 ^ 64 - 1) }
      → IsStriped (state_of view shape xs marks' m) × IsFull (loglet_of (state_of view shape xs marks m)) op × (loglet_of (state_of view shape xs marks' m) ≡ record (loglet_of (state_of view shape xs marks m)) { faults = bumped (faults_of (state_of view shape xs marks m)) })
  refused_whole shape xs marks marks' m op h full em = refused_step (state_of view shape xs marks m) marks' op h full em

  pub marks_small : (shape : Shape) (xs : List L) (marks : Marks) (m : PendingMap L) → IsStriped (state_of view shape xs marks m) → (marks.size + 1 < 2 ^ 64) × (marks.begun + 1 < 2 ^ 64) × (marks.seals + 1 < 2 ^ 64)
  marks_small shape xs marks m h =
      let ok = striped_sound (state_of view shape xs marks m) h in
      let a = h.size in
      let b = h.shaped.room.1 in
      let c = h.begun in
      let d = ok.shape.limit in
      let e = h.seals in
      (omega (arith, a, b), omega (arith, c, d), omega (arith, c, d, e))

  pub downs_few : (shape : Shape) (xs : List L) (marks : Marks) (m : PendingMap L) → IsStriped (state_of view shape xs marks m) → total (λ v. v.down) (map view xs) ≤ 64
  downs_few shape xs marks m h =
      let a = total_below (λ v. v.down) (λ v. v.servers) (map view xs) (λ i v e. (h.stripes i v e).sound.down) in
      let b = h.shaped.servers in
      let c = h.shaped.few in
      omega (arith, a, b, c)
