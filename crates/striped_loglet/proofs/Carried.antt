-- An open operation gets further, and a stripe may change.
use Rattle.std.proofs.Common.{◌≡◌, ◌≢◌, inl, inr, ℕ, ◌+◌, ◌<◌, List, Option, Some, nat_eq, true, false, refl, sym, ap, ◌∙◌, subst, arith}
use Rattle.std.specs.Prelude.{◌⊎◌, slice_get, if◌then◌else◌}
use Rattle.std.specs.Option.{option_map}
use Rattle.std.proofs.lemmas.Bool.Decides.{nat_tests}
use Rattle.std.proofs.lemmas.Bool.{cases_Bool}
use Rattle.loglet_api.specs.View.{LogletView, operation_at}
use Rattle.loglet_api.specs.Step.{IsAtMost, IsBelow, Advances, Moves, Falls}
use Rattle.striped_loglet.specs.declared.stripe.Inner.{Inner}
use Rattle.striped_loglet.specs.State.{Plain, State, left_of, operation_of, sum_below, count_of, loglet_of}
use Rattle.striped_loglet.specs.Going.{one_open, IsStripe, IsPending, IsStriped, IsShaped, AreApart}
use Rattle.striped_loglet.proofs.Lists.{either, sum_below_put}
use Rattle.striped_loglet.proofs.Sounds.{shown_is}
use Rattle.striped_loglet.proofs.Laters.{Goes, pending_later, capped_later}
use Rattle.striped_loglet.proofs.Steps.{moves_later, shown_same}

-- these stripes and open operations
abbrev pub now : State → List LogletView → (ℕ → Option Plain) → State
now s views at = record { views = views; shape = s.shape; marks = s.marks; at = at }

-- this ticket has this now, and each other what it had
abbrev pub Puts : (ℕ → Option Plain) → ℕ → Option Plain → (ℕ → Option Plain) → Type 0
Puts old t x new = (q : ℕ) → new q ≡ (if nat_eq t q then x else old q)

pub put_here : (old new : ℕ → Option Plain) (t : ℕ) (x : Option Plain) → Puts old t x new → new t ≡ x
put_here old new t x h = let same : nat_eq t t ≡ true = grind (arith, nat_tests) in h t ∙ rw same refl

pub put_there : (old new : ℕ → Option Plain) (t q : ℕ) (x : Option Plain) → Puts old t x new → t ≢ q → new q ≡ old q
put_there old new t q x h d = let other : nat_eq t q ≡ false = elim (cases_Bool (nat_eq t q)) [ inl e ↦ absurd (d (grind (arith, nat_tests))) | inr e ↦ e ] in h q ∙ rw other refl

-- what is there now was put, or was there
pub put_get : (old new : ℕ → Option Plain) (t q : ℕ) (x : Option Plain) (p : Plain) → Puts old t x new → new q ≡ Some p → ((t ≡ q) × (x ≡ Some p)) ⊎ ((t ≢ q) × (old q ≡ Some p))
put_get old new t q x p h e =
    elim (either t q) [
      | inl same ↦ inl (same, sym (put_here old new t x h) ∙ ap new same ∙ e)
      | inr other ↦ inr (other, sym (put_there old new t q x h other) ∙ e)
    ]

some_same : (a b : Plain) → Some a ≡ Some b → a ≡ b
some_same a b h = cc

-- no other operation waits for this one of a stripe
abbrev pub IsFree : (ℕ → Option Plain) → ℕ → Option Inner → Type 0
IsFree at t x = (q : ℕ) (u : Plain) (y z : Inner) → t ≢ q → at q ≡ Some u → u.inner ≡ Some y → x ≡ Some z → z.stripe ≡ y.stripe → z.ticket ≡ y.ticket → ⊥

apart_put : (old new : ℕ → Option Plain) (t : ℕ) (p : Plain) → AreApart old → Puts old t (Some p) new → IsFree old t p.inner → AreApart new
apart_put old new t p h u free a b q r x y ea eb ex ey es et =
    elim (put_get old new t a (Some p) q u ea) [
      | inl one ↦ elim (put_get old new t b (Some p) r u eb) [
        | inl two ↦ sym one.0 ∙ two.0
        | inr two ↦ absurd (let same = some_same p q one.1 in free b r y x two.0 two.1 ey (ap (λ (z : Plain). z.inner) same ∙ ex) es et)
      ]
      | inr one ↦ elim (put_get old new t b (Some p) r u eb) [
        | inl two ↦ absurd (let same = some_same p r two.1 in free a q x y one.0 one.1 ex (ap (λ (z : Plain). z.inner) same ∙ ey) (sym es) (sym et))
        | inr two ↦ h a b q r x y one.1 two.1 ex ey es et
      ]
    ]

pub carried_striped : (s : State) (views : List LogletView) (at : ℕ → Option Plain) (ends : ℕ → ℕ → Type 0) (t : ℕ) (p p' : Plain) → IsStriped s → Goes s (now s views at) ends → s.at t ≡ Some p → Puts s.at t (Some p') at
    → ((q : ℕ) (u : Plain) (x : Inner) → t ≢ q → s.at q ≡ Some u → u.inner ≡ Some x → ¬ (ends x.stripe x.ticket)) → IsShaped (now s views at) → ((i : ℕ) (v : LogletView) → slice_get views i ≡ Some v → IsStripe (now s views at) i v)
    → IsPending (now s views at) t p' → IsFree s.at t p'.inner → IsStriped (now s views at)
carried_striped s views at ends t p p' h g is u others shaped stripes mine free =
    let n = now s views at in
    let lt : t < s.marks.begun = (h.pending t p is).ticket in
    let opens : sum_below (λ q. one_open (at q)) s.marks.begun + one_open (s.at t) ≡ sum_below (λ q. one_open (s.at q)) s.marks.begun + one_open (at t) =
    sum_below_put (λ q. one_open (s.at q)) (λ q. one_open (at q)) t s.marks.begun lt (λ q d. ap one_open (put_there s.at at t q (Some p') u d)) in
    let was : one_open (s.at t) ≡ 1 = ap one_open is in
    let has : one_open (at t) ≡ 1 = ap one_open (put_here s.at at t (Some p') u) in
    record {
      shaped = shaped;
      stripes = stripes;
      cut = h.cut;
      reach = h.reach;
      firm = h.firm;
      size = h.size;
      cap = λ c e. (let old = h.cap c e in (old.0, capped_later s n ends c g old.1));
      begun = h.begun;
      seals = h.seals;
      lacks = (let l = h.lacks in omega (arith, l, opens, was, has));
      pending = λ q r e. elim (put_get s.at at t q (Some p') r u e) [
        | inl one ↦ subst (λ (z : Plain). IsPending n q z) (some_same p' r one.1) (subst (λ (k : ℕ). IsPending n k p') one.0 mine)
        | inr two ↦ pending_later s n ends q r h g (λ x d. others q r x two.0 two.1 d) (h.pending q r two.1)
      ];
      apart = apart_put s.at at t p' h.apart u free;
    }

same_asked : (turn count count' : ℕ) (p p' : Plain) → count' ≡ count → p'.asked ≡ p.asked → p'.before ≡ p.before → operation_of turn count' p' ≡ record (operation_of turn count p) { left = left_of turn count' p'.plan p'.inner p'.answer }
same_asked turn count count' p p' e ea eb = rw (e, ea, eb) refl

shown_of : (s : State) (t : ℕ) (p : Plain) → IsStriped s → s.at t ≡ Some p → operation_at (loglet_of s).operations t ≡ Some (operation_of s.shape.turn (count_of s) p)
shown_of s t p h is = shown_is s h t ∙ ap (λ x. option_map (operation_of s.shape.turn (count_of s)) x) is

-- the operation's place in what is shown
pub carried_moves : (s : State) (views : List LogletView) (at : ℕ → Option Plain) (ends : ℕ → ℕ → Type 0) (t : ℕ) (p p' : Plain) → IsStriped s → IsStriped (now s views at) → Goes s (now s views at) ends → s.at t ≡ Some p → Puts s.at t (Some p') at → p'.asked ≡ p.asked → p'.before ≡ p.before
    → IsAtMost (left_of s.shape.turn (count_of s) p'.plan p'.inner p'.answer) (left_of s.shape.turn (count_of s) p.plan p.inner p.answer) → Moves (loglet_of s) (loglet_of (now s views at))
carried_moves s views at ends t p p' h k g is u ea eb less =
    let n = now s views at in
    moves_later s n ends h k g refl (λ q. elim (either t q) [
      | inl same ↦ subst (λ (z : ℕ). Advances (operation_at (loglet_of s).operations z) (operation_at (loglet_of n).operations z)) same
          (let old = shown_of s t p h is in let new = shown_of n t p' k (put_here s.at at t (Some p') u) in rw (old, new) (same_asked s.shape.turn (count_of s) (count_of n) p p' g.count ea eb, less' (count_of n) g.count less))
      | inr other ↦ shown_same s n ends h k g q (put_there s.at at t q (Some p') u other)
    ])
  where
    less' : (c : ℕ) → c ≡ count_of s → IsAtMost (left_of s.shape.turn (count_of s) p'.plan p'.inner p'.answer) (left_of s.shape.turn (count_of s) p.plan p.inner p.answer)
        → IsAtMost (left_of s.shape.turn c p'.plan p'.inner p'.answer) (left_of s.shape.turn (count_of s) p.plan p.inner p.answer)
    less' c e l = rw e l

pub carried_falls : (s n : State) (t : ℕ) (p p' : Plain) → IsStriped s → IsStriped n → count_of n ≡ count_of s → n.shape ≡ s.shape → s.at t ≡ Some p → n.at t ≡ Some p'
    → IsBelow (left_of s.shape.turn (count_of s) p'.plan p'.inner p'.answer) (left_of s.shape.turn (count_of s) p.plan p.inner p.answer) → Falls (loglet_of s) (loglet_of n) t
carried_falls s n t p p' h k count shape is has less =
    record {
      before = operation_of s.shape.turn (count_of s) p;
      after = operation_of n.shape.turn (count_of n) p';
      was = shown_of s t p h is;
      is = shown_of n t p' k has;
      less = less' n.shape (count_of n) shape count less;
    }
  where
    less' : (z : _) (c : ℕ) → z ≡ s.shape → c ≡ count_of s → IsBelow (left_of s.shape.turn (count_of s) p'.plan p'.inner p'.answer) (left_of s.shape.turn (count_of s) p.plan p.inner p.answer)
        → IsBelow (left_of z.turn c p'.plan p'.inner p'.answer) (left_of s.shape.turn (count_of s) p.plan p.inner p.answer)
    less' z c ez e l = rw (ez, e) l
