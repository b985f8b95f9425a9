-- The fields of a striped loglet as plain values.
use Rattle.std.proofs.Common.{◌≡◌, ℕ, ◌+◌, ◌^◌, ◌<◌, ◌≤◌, List, length, map, Option, Some, None, is_some, Bool, nat_eq, cond, true, false, refl, sym, ap, ◌∙◌, subst, arith}
use Rattle.std.specs.Prelude.{if◌then◌else◌}
use Rattle.std.specs.Option.{option_map}
use Rattle.std.specs.HashMap.{get, Updates}
use Rattle.std.specs.Map.{lookup}
use Rattle.std.specs.Prelude.{IfSome}
use Rattle.loglet_api.specs.declared.call.Answer.{Answer}
use Rattle.loglet_api.specs.declared.call.LogletCall.{LogletCall}
use Rattle.loglet_api.specs.declared.call.LogletAnswer.{LogletAnswer}
use Rattle.loglet_api.specs.View.{LogletView, Operation, operation_at, IsOpen}
use Rattle.loglet_api.specs.Sound.{IsSound}
use Rattle.loglet_api.specs.Servers.{ServersView}
use Rattle.loglet_api.specs.Step.{LogletStep, Does, CanCall, IsUndecidedAt, HasLeft}
use Rattle.striped_loglet.specs.declared.given.Given.{Given}
use Rattle.striped_loglet.specs.declared.marks.Marks.{Marks}
use Rattle.striped_loglet.specs.declared.shape.Shape.{Shape}
use Rattle.striped_loglet.specs.declared.plan.Plan.{Plan}
use Rattle.striped_loglet.specs.declared.stripe.Inner.{Inner}
use Rattle.striped_loglet.specs.declared.pending.Pending.{Pending}
use Rattle.striped_loglet.specs.declared.pending.Course.{Course}
use Rattle.striped_loglet.specs.State.{Plain, State, PendingMap, plain_of, plain_at, state_of, loglet_of, count_of, operation_of, left_of}
use Rattle.striped_loglet.specs.Going.{IsPending, IsStriped}
use Rattle.striped_loglet.specs.Striped.{StripedView, striped_view}
use Rattle.striped_loglet.specs.Pendings.{Waits}
use Rattle.striped_loglet.proofs.Lists.{some_at}
use Rattle.striped_loglet.proofs.Places.{length_view}
use Rattle.striped_loglet.proofs.Sounds.{shown_is, striped_sound, left_some}
use Rattle.striped_loglet.proofs.Steps.{step_from}
use Rattle.striped_loglet.proofs.Carried.{Puts}

module _ {L : Type 0} (view : L → LogletView) where
  map_if : (b : Bool) (x y : Option (Pending L)) → option_map (plain_of view) (cond b x y) ≡ (if b then option_map (plain_of view) x else option_map (plain_of view) y)
  map_if true x y = refl
  map_if false x y = refl

  -- a change of one operation
  pub puts_by : (m n : PendingMap L) (t : ℕ) (w : Option (Pending L)) → Updates nat_eq m n t w → Puts (plain_at view m) t (option_map (plain_of view) w) (plain_at view n)
  puts_by m n t w u q = ap (λ x. option_map (plain_of view) x) (u.0 q) ∙ map_if (nat_eq t q) w (get nat_eq m q)

  pub at_by : (m : PendingMap L) (t : ℕ) (p : Pending L) → get nat_eq m t ≡ Some p → plain_at view m t ≡ Some (plain_of view p)
  at_by m t p e = ap (λ x. option_map (plain_of view) x) e

  -- the loglet's view
  pub shows : (serving : L → ServersView) {given : Given} (shape : Shape) (xs : List L) (marks : Marks) (m : PendingMap L) (w : StripedView) → striped_view view serving shape xs marks m given ≡ w → loglet_of (state_of view shape xs marks m) ≡ w.loglet
  shows serving shape xs marks m w e = ap (λ (v : StripedView). v.loglet) e

  pub sound_whole : (serving : L → ServersView) {given : Given} (shape : Shape) (xs : List L) (marks : Marks) (m : PendingMap L) (w : StripedView) → striped_view view serving shape xs marks m given ≡ w → IsStriped (state_of view shape xs marks m) → IsSound w.loglet
  sound_whole serving shape xs marks m w e h = subst IsSound (shows serving shape xs marks m w e) (striped_sound (state_of view shape xs marks m) h)

  some_map : (turn count : ℕ) (x : Option (Pending L)) → is_some (option_map (operation_of turn count) (option_map (plain_of view) x)) ≡ true → is_some x ≡ true
  some_map turn count None h = h
  some_map turn count (Some p) h = refl

  -- an open ticket is there
  pub open_there : (serving : L → ServersView) {given : Given} (shape : Shape) (xs : List L) (marks : Marks) (m : PendingMap L) (w : StripedView) (t : ℕ) → striped_view view serving shape xs marks m given ≡ w → IsStriped (state_of view shape xs marks m) → IsOpen w.loglet t → is_some (get nat_eq m t) ≡ true
  open_there serving shape xs marks m w t e h open' =
      let s = state_of view shape xs marks m in
      let o : IsOpen (loglet_of s) t = subst (λ (v : LogletView). IsOpen v t) (sym (shows serving shape xs marks m w e)) open' in
      some_map shape.turn (count_of s) (get nat_eq m t) (ap is_some (sym (shown_is s h t)) ∙ o)

  pub undecided_there : (serving : L → ServersView) {given : Given} (shape : Shape) (xs : List L) (marks : Marks) (m : PendingMap L) (w : StripedView) (t : ℕ) → striped_view view serving shape xs marks m given ≡ w → IsStriped (state_of view shape xs marks m) → IsUndecidedAt w.loglet t → is_some (get nat_eq m t) ≡ true
  undecided_there serving shape xs marks m w t e h u = open_there serving shape xs marks m w t e h (ap is_some u.is)

  waits : (turn count : ℕ) (plan : Plan) (x : Option Inner) (a : Option Answer) → 0 < (left_of turn count plan x a).0 + (left_of turn count plan x a).1 → a ≡ None
  waits turn count plan x None h = refl
  waits turn count plan x (Some a) h = absurd (omega arith)

  some_op : (a c : Operation) → Some a ≡ Some c → a ≡ c
  some_op a c e = cc

  -- an undecided operation has no answer
  pub undecided_none : (serving : L → ServersView) {given : Given} (shape : Shape) (xs : List L) (marks : Marks) (m : PendingMap L) (w : StripedView) (t : ℕ) (p : Pending L) → striped_view view serving shape xs marks m given ≡ w → IsStriped (state_of view shape xs marks m) → IsUndecidedAt w.loglet t → get nat_eq m t ≡ Some p → p.answer ≡ None
  undecided_none serving shape xs marks m w t p e h u is =
      let s = state_of view shape xs marks m in
      let u' : IsUndecidedAt (loglet_of s) t = subst (λ (v : LogletView). IsUndecidedAt v t) (sym (shows serving shape xs marks m w e)) u in
      let here : operation_at (loglet_of s).operations t ≡ Some (operation_of shape.turn (count_of s) (plain_of view p)) = shown_is s h t ∙ ap (λ x. option_map (operation_of shape.turn (count_of s)) x) (at_by m t p is) in
      let same : u'.operation ≡ operation_of shape.turn (count_of s) (plain_of view p) = some_op u'.operation (operation_of shape.turn (count_of s) (plain_of view p)) (sym u'.is ∙ here) in
      waits shape.turn (count_of s) p.plan p.inner p.answer (subst (λ (o : Operation). 0 < o.left.0 + o.left.1) same u'.undecided)

  -- one without an answer is undecided
  pub undecided_whole : (shape : Shape) (xs : List L) (marks : Marks) (m : PendingMap L) (t : ℕ) (p : Pending L) → IsStriped (state_of view shape xs marks m) → get nat_eq m t ≡ Some p → p.answer ≡ None → IsUndecidedAt (loglet_of (state_of view shape xs marks m)) t
  undecided_whole shape xs marks m t p h is none =
      let s = state_of view shape xs marks m in
      record {
        operation = operation_of shape.turn (count_of s) (plain_of view p);
        is = shown_is s h t ∙ ap (λ x. option_map (operation_of shape.turn (count_of s)) x) (at_by m t p is);
        undecided = left_some s t (plain_of view p) h (h.pending t (plain_of view p) (at_by m t p is)) p.inner refl none;
      }

  pub left_whole : (serving : L → ServersView) {given : Given} (shape : Shape) (xs : List L) (marks : Marks) (m : PendingMap L) (w : StripedView) (t : ℕ) (p : Pending L) (a b count : ℕ) → striped_view view serving shape xs marks m given ≡ w → IsStriped (state_of view shape xs marks m) → get nat_eq m t ≡ Some p → count ≡ length xs → (a, b) ≡ left_of shape.turn count p.plan p.inner p.answer → HasLeft w.loglet t a b
  left_whole serving shape xs marks m w t p a b count e h is ec left =
      let s = state_of view shape xs marks m in
      let c : count ≡ count_of s = ec ∙ sym (length_view view xs) in
      subst (λ (v : LogletView). HasLeft v t a b) (shows serving shape xs marks m w e) (record {
        operation = operation_of shape.turn (count_of s) (plain_of view p);
        is = shown_is s h t ∙ ap (λ x. option_map (operation_of shape.turn (count_of s)) x) (at_by m t p is);
        left = sym (left ∙ ap (λ k. left_of shape.turn k p.plan p.inner p.answer) c);
      })

  pub step_whole : (serving : L → ServersView) {given : Given} (shape : Shape) (xs ys : List L) (marks marks' : Marks) (m n : PendingMap L) (w : StripedView) (call : LogletCall) (answer : LogletAnswer) → striped_view view serving shape xs marks m given ≡ w → IsStriped (state_of view shape xs marks m) → IsStriped (state_of view shape ys marks' n) → CanCall w.loglet call
      → Does (loglet_of (state_of view shape xs marks m)) call answer (loglet_of (state_of view shape ys marks' n)) → LogletStep w.loglet call answer (loglet_of (state_of view shape ys marks' n))
  step_whole serving shape xs ys marks marks' m n w call answer e ha hb can does =
      step_from (state_of view shape xs marks m) (state_of view shape ys marks' n) w.loglet call answer (shows serving shape xs marks m w e) ha hb can does

  -- a look that found nothing to do leaves the operations
  pub same_state : (shape : Shape) (xs : List L) (marks : Marks) (m n : PendingMap L) → n.entries ≡ m.entries → state_of view shape xs marks n ≡ state_of view shape xs marks m
  same_state shape xs marks m n e = ap (λ (at : ℕ → Option Plain). record { views = map view xs; shape = shape; marks = marks; at = at }) (ap (λ es. λ (q : ℕ). option_map (plain_of view) (lookup (nat_eq q) es)) e)

  pub same_striped : (shape : Shape) (xs : List L) (marks : Marks) (m n : PendingMap L) → n.entries ≡ m.entries → IsStriped (state_of view shape xs marks m) → IsStriped (state_of view shape xs marks n)
  same_striped shape xs marks m n e h = subst IsStriped (sym (same_state shape xs marks m n e)) h

  -- a step that leaves all that is shown
  pub step_alike : (a b : State) (w : LogletView) (call : LogletCall) (answer : LogletAnswer) → loglet_of a ≡ w → loglet_of b ≡ loglet_of a → IsStriped a → CanCall w call → Does (loglet_of a) call answer (loglet_of a) → LogletStep w call answer (loglet_of b)
  step_alike a b w call answer e same h can does = subst (λ (x : LogletView). LogletStep w call answer x) (sym same) (step_from a a w call answer e h h can does)

  -- what holds of an operation that was found
  pub found : (shape : Shape) (xs : List L) (marks : Marks) (m : PendingMap L) (t : ℕ) (p : Pending L) → IsStriped (state_of view shape xs marks m) → get nat_eq m t ≡ Some p → IsPending (state_of view shape xs marks m) t (plain_of view p)
  found shape xs marks m t p h is = h.pending t (plain_of view p) (at_by m t p is)

  pub next_whole : (shape : Shape) (xs : List L) (marks : Marks) (m : PendingMap L) (t : ℕ) (p : Pending L) → IsStriped (state_of view shape xs marks m) → get nat_eq m t ≡ Some p → p.answer ≡ None → p.plan.next ≤ length xs
  next_whole shape xs marks m t p h is none = (let g = (found shape xs marks m t p h is).going none in let a = g.next in let e = length_view view xs in omega (arith, a, e))

  pub rounds_whole : (shape : Shape) (xs : List L) (marks : Marks) (m : PendingMap L) (t : ℕ) (p : Pending L) → IsStriped (state_of view shape xs marks m) → get nat_eq m t ≡ Some p → p.answer ≡ None → (x : Option Inner) → p.inner ≡ x → IfSome x (λ y. y.rounds < shape.turn)
  rounds_whole shape xs marks m t p h is none None e = tt
  rounds_whole shape xs marks m t p h is none (Some x) e =
      let g = (found shape xs marks m t p h is).going none in
      let at = some_at (map view xs) x.stripe (g.inner x e) in
      let a = (g.asks x at.0 e at.1).rounds in
      let b = (h.stripes x.stripe at.0 at.1).rounds in
      omega (arith, a, b)

  of_some : {A : Type 0} (x : Option A) → is_some x ≡ true → (a : A) × (x ≡ Some a)
  of_some None e = absurd (cc)
  of_some (Some a) e = (a, refl)

  -- an open operation that waits is undecided
  pub waits_whole : (serving : L → ServersView) {given : Given} (shape : Shape) (xs : List L) (marks : Marks) (m : PendingMap L) (w : StripedView) (t : ℕ) → striped_view view serving shape xs marks m given ≡ w → IsStriped (state_of view shape xs marks m) → IsOpen w.loglet t → Waits m t → IsUndecidedAt (loglet_of (state_of view shape xs marks m)) t
  waits_whole serving shape xs marks m w t e h open' waiting =
      let p = of_some (get nat_eq m t) (open_there serving shape xs marks m w t e h open') in
      undecided_whole shape xs marks m t p.0 h p.1 (waiting p.0 p.1)

  pub waits_next : (shape : Shape) (xs : List L) (marks : Marks) (m : PendingMap L) (t : ℕ) (p : Pending L) → IsStriped (state_of view shape xs marks m) → get nat_eq m t ≡ Some p → p.answer ≡ None → p.inner ≡ None → p.plan.next < length xs
  waits_next shape xs marks m t p h is none mine = (let g = (found shape xs marks m t p h is).going none in let a = g.waits mine in let e = length_view view xs in omega (arith, a, e))

  some_pending : (a c : Pending L) → Some a ≡ Some c → a ≡ c
  some_pending a c e = cc

  -- two looks find one operation
  pub course_of : (m : PendingMap L) (t : ℕ) (p q : Pending L) (course : Course) → get nat_eq m t ≡ Some p → get nat_eq m t ≡ Some q → course ≡ record { asked = p.asked; plan = p.plan } → course ≡ record { asked = q.asked; plan = q.plan }
  course_of m t p q course a b e = let same : p ≡ q = some_pending p q (sym a ∙ b) in e ∙ ap (λ (k : Pending L). record { asked = k.asked; plan = k.plan }) same

  pub size_whole : (shape : Shape) (xs : List L) (marks : Marks) (m : PendingMap L) (t : ℕ) (p : Pending L) → IsStriped (state_of view shape xs marks m) → get nat_eq m t ≡ Some p → p.asked.size ≤ 2 ^ 32
  size_whole shape xs marks m t p h is = (let a = (found shape xs marks m t p h is).size in let b = h.size in let c = h.shaped.room.1 in omega (arith, a, b, c))
