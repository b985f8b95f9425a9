-- Steps of a striped loglet.
use Rattle.std.proofs.Common.{◌≡◌, inl, inr, ℕ, ◌-◌, ◌≤◌, List, map, set, Option, Some, None, refl, sym, ap, ◌∙◌, subst, arith}
use Rattle.std.specs.Prelude.{slice_get}
use Rattle.std.specs.Option.{option_map}
use Rattle.loglet_api.specs.declared.call.LogletCall.{LogletCall}
use Rattle.loglet_api.specs.declared.call.LogletAnswer.{LogletAnswer}
use Rattle.loglet_api.specs.View.{LogletView, Operation, operation_at}
use Rattle.loglet_api.specs.Sound.{IsSound}
use Rattle.loglet_api.specs.Step.{LogletStep, Does, CanCall, RoseBy, IsAtMost, Advances, Moves}
use Rattle.loglet_api.specs.Keeps.{Keeps}
use Rattle.stripe_rule.specs.Stripes.{share}
use Rattle.striped_loglet.specs.declared.marks.Marks.{Marks}
use Rattle.striped_loglet.specs.Views.{any_shut, least_of, joined}
use Rattle.striped_loglet.specs.State.{Plain, State, operation_of, count_of, faults_of, down_of, loglet_of}
use Rattle.striped_loglet.specs.Going.{IsStripe, IsStriped}
use Rattle.striped_loglet.proofs.Lists.{length_set, set_get}
use Rattle.striped_loglet.proofs.Sounds.{striped_sound, shown_is}
use Rattle.striped_loglet.proofs.Laters.{Goes, pending_later, capped_later}
use Rattle.striped_loglet.proofs.Changes.{after, forward_same, StripeGoes, at_stripe, goes_set, log_later, shut_rises, shaped_set, stripe_now, advances_same}

-- a step from these fields to those
pub step_from : (a b : State) (v : LogletView) (call : LogletCall) (answer : LogletAnswer) → loglet_of a ≡ v → IsStriped a → IsStriped b → CanCall v call → Does (loglet_of a) call answer (loglet_of b) → LogletStep v call answer (loglet_of b)
step_from a b v call answer e ha hb can does =
    record {
      before = subst IsSound e (striped_sound a ha);
      can = can;
      does = subst (λ (x : LogletView). Does x call answer (loglet_of b)) e does;
      after = striped_sound b hb;
    }

-- ---- a stripe moved

-- an entry whose operations are all as they were
pub moves_goes : (v w : LogletView) → IsSound w → Keeps v w → Moves v w → StripeGoes v w (λ t. ⊥)
moves_goes v w ok keeps h =
    record {
      keeps = keeps;
      down = h.down;
      small = ok.faults;
      tickets = λ t o is stays. (let a = h.operations t in rw is at a);
    }

stripes_moved : (s : State) (j : ℕ) (v w : LogletView) → IsStriped s → slice_get s.views j ≡ Some v → IsSound w → Moves v w → (i : ℕ) (y : LogletView) → slice_get (set s.views j w) i ≡ Some y → IsStripe (after s j w s.marks s.at) i y
stripes_moved s j v w h is ok m i y d =
    let n = after s j w s.marks s.at in
    let count : count_of n ≡ count_of s = length_set s.views j w in
    elim (set_get s.views j i v w y is d) [
      | inl here ↦ (let old = h.stripes j v is in
          let e = m.rest in
          let cut : w.cut ≡ v.cut = ap (λ (z : LogletView). z.cut) e in
          let log : w.log ≡ v.log = ap (λ (z : LogletView). z.log) e in
          let reach : w.reach ≡ v.reach = ap (λ (z : LogletView). z.reach) e in
          let firm : w.firm ≡ v.firm = ap (λ (z : LogletView). z.firm) e in
          let begun : w.begun ≡ v.begun = ap (λ (z : LogletView). z.begun) e in
          let seals : w.seals ≡ v.seals = ap (λ (z : LogletView). z.seals) e in
          let now : IsStripe n j w = stripe_now s n j v w count refl old ok (ap (λ (z : LogletView). z.room) e) (ap (λ (z : LogletView). z.rounds) e) (ap (λ (z : LogletView). z.limit) e)
          (rw (cut, log) old.size) (rw cut old.cut) (rw reach old.reach) (rw firm old.firm) (rw begun old.begun) (rw seals old.seals) in
          subst (λ (z : LogletView). IsStripe n i z) here.1 (subst (λ (k : ℕ). IsStripe n k w) here.0 now))
      | inr there ↦ (let old = h.stripes i y there.1 in
          stripe_now s n i y y count refl old old.sound refl refl refl old.size old.cut old.reach old.firm old.begun old.seals)
    ]

pub moved : (s : State) (j : ℕ) (v w : LogletView) → IsStriped s → slice_get s.views j ≡ Some v → IsSound w → Keeps v w → Moves v w → IsStriped (after s j w s.marks s.at)
moved s j v w h is ok keeps m =
    let n = after s j w s.marks s.at in
    let cuts : w.cut ≤ share (count_of s) j s.marks.cut = (let e = ap (λ (z : LogletView). z.cut) m.rest in let old = (h.stripes j v is).cut in omega (arith, e, old)) in
    let g = goes_set s j v w s.marks s.at (λ t. ⊥) h is (moves_goes v w ok keeps m) (forward_same s.marks) cuts in
    record {
      shaped = shaped_set s j v w s.marks s.at h.shaped is (ap (λ (z : LogletView). z.servers) m.rest);
      stripes = stripes_moved s j v w h is ok m;
      cut = h.cut;
      reach = h.reach;
      firm = h.firm;
      size = h.size;
      cap = λ c e. (let old = h.cap c e in (old.0, capped_later s n (at_stripe j (λ t. ⊥)) c g old.1));
      begun = h.begun;
      seals = h.seals;
      lacks = h.lacks;
      pending = λ t p e. pending_later s n (at_stripe j (λ t. ⊥)) t p h g (λ x d k. k.1) (h.pending t p e);
      apart = h.apart;
    }

-- what a later moment shows, where the marks stay
pub view_later : (s n : State) (ends : ℕ → ℕ → Type 0) → IsStriped s → Goes s n ends → n.marks ≡ s.marks → loglet_of n ≡ record (loglet_of s) { shut = any_shut n.views; operations = (loglet_of n).operations; faults = faults_of n; down = down_of n }
view_later s n ends h g e =
    let log : joined n.views s.marks.cut (s.marks.size - s.marks.cut) ≡ joined s.views s.marks.cut (s.marks.size - s.marks.cut) = log_later s n ends h g (ap (λ (m : Marks). m.cut) e) in
    let quorum : least_of (map (λ v. v.quorum) n.views) ≡ least_of (map (λ v. v.quorum) s.views) = ap least_of g.quorum in
    by n.marks n.shape (faults_of n) (loglet_of n).operations e g.shape log quorum
  where
    by : (marks : Marks) (shape : _) (faults : ℕ) (ops : List (ℕ × Operation)) → marks ≡ s.marks → shape ≡ s.shape
        → joined n.views s.marks.cut (s.marks.size - s.marks.cut) ≡ joined s.views s.marks.cut (s.marks.size - s.marks.cut)
        → least_of (map (λ v. v.quorum) n.views) ≡ least_of (map (λ v. v.quorum) s.views)
        → record { kind = shape.kind; servers = shape.servers; quorum = least_of (map (λ v. v.quorum) n.views); room = shape.room; rounds = shape.rounds; limit = shape.limit; cut = marks.cut; log = joined n.views marks.cut (marks.size - marks.cut); reach = marks.reach; cap = marks.cap; firm = marks.firm; shut = any_shut n.views; operations = ops; faults = faults; down = down_of n; begun = marks.begun; seals = marks.seals; lacks = marks.lacks }
        ≡ record (loglet_of s) { shut = any_shut n.views; operations = ops; faults = faults; down = down_of n }
    by marks shape faults ops em es log quorum = rw (em, es, log, quorum) refl

pub shown_same : (s n : State) (ends : ℕ → ℕ → Type 0) → IsStriped s → IsStriped n → Goes s n ends → (q : ℕ) → n.at q ≡ s.at q → Advances (operation_at (loglet_of s).operations q) (operation_at (loglet_of n).operations q)
shown_same s n ends h k g q e =
    let a = shown_is s h q in
    let b : operation_at (loglet_of n).operations q ≡ operation_at (loglet_of s).operations q = shown_is n k q ∙ alike (n.shape) (count_of n) (n.at q) g.shape g.count e ∙ sym a in
    rw b (advances_same (operation_at (loglet_of s).operations q))
  where
    alike : (shape : _) (count : ℕ) (p : Option Plain) → shape ≡ s.shape → count ≡ count_of s → p ≡ s.at q → option_map (operation_of shape.turn count) p ≡ option_map (operation_of s.shape.turn (count_of s)) (s.at q)
    alike shape count p es ec ep = rw (es, ec, ep) refl

-- where the marks and the open operations stay
pub moves_later : (s n : State) (ends : ℕ → ℕ → Type 0) → IsStriped s → IsStriped n → Goes s n ends → n.marks ≡ s.marks → ((q : ℕ) → Advances (operation_at (loglet_of s).operations q) (operation_at (loglet_of n).operations q)) → Moves (loglet_of s) (loglet_of n)
moves_later s n ends h k g e ops =
    record {
      rest = view_later s n ends h g e;
      shut = shut_rises s n ends g;
      faults = g.faults;
      down = g.down;
      operations = ops;
    }

pub moved_moves : (s : State) (j : ℕ) (v w : LogletView) → IsStriped s → slice_get s.views j ≡ Some v → IsSound w → Keeps v w → Moves v w → Moves (loglet_of s) (loglet_of (after s j w s.marks s.at))
moved_moves s j v w h is ok keeps m =
    let n = after s j w s.marks s.at in
    let cuts : w.cut ≤ share (count_of s) j s.marks.cut = (let e = ap (λ (z : LogletView). z.cut) m.rest in let old = (h.stripes j v is).cut in omega (arith, e, old)) in
    let g = goes_set s j v w s.marks s.at (λ t. ⊥) h is (moves_goes v w ok keeps m) (forward_same s.marks) cuts in
    let k = moved s j v w h is ok keeps m in
    moves_later s n (at_stripe j (λ t. ⊥)) h k g refl (λ q. shown_same s n (at_stripe j (λ t. ⊥)) h k g q refl)

-- ---- moves one after another

at_most_trans : (a b c : ℕ × ℕ) → IsAtMost a b → IsAtMost b c → IsAtMost a c
at_most_trans a b c (inl x) (inl y) = inl (omega arith)
at_most_trans a b c (inl x) (inr y) = inl (omega (arith, y.0))
at_most_trans a b c (inr x) (inl y) = inl (omega (arith, x.0))
at_most_trans a b c (inr x) (inr y) = inr (x.0 ∙ y.0, omega (arith, x.1, y.1))

advances_then : (a b c : Option Operation) → Advances a b → Advances b c → Advances a c
advances_then None None None x y = tt
advances_then None None (Some c) x y = absurd y
advances_then None (Some b) c x y = absurd x
advances_then (Some a) None c x y = absurd x
advances_then (Some a) (Some b) None x y = absurd y
advances_then (Some a) (Some b) (Some c) x y = (y.0 ∙ ap (λ (o : Operation). record o { left = c.left }) x.0, at_most_trans c.left b.left a.left y.1 x.1)

down_then : (a d n q f now : ℕ) → RoseBy (d - a) q f → RoseBy (n - d) f now → RoseBy (n - a) q now
down_then a d n q f now h r = omega (arith, h, r)

pub moves_then : (a b c : LogletView) → Moves a b → Moves b c → Moves a c
moves_then a b c x y =
    record {
      rest = y.rest ∙ ap (λ (v : LogletView). record v { shut = c.shut; operations = c.operations; faults = c.faults; down = c.down }) x.rest;
      shut = λ s. y.shut (x.shut s);
      faults = (let l = x.faults in let k = y.faults in omega (arith, l, k));
      down = down_then a.down b.down c.down a.faults b.faults c.faults x.down y.down;
      operations = λ q. advances_then (operation_at a.operations q) (operation_at b.operations q) (operation_at c.operations q) (x.operations q) (y.operations q);
    }
