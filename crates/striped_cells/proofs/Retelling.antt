-- Of the stripes as an operation began it counts alone which of them were sealed.
use Rattle.std.proofs.Common.{◌≡◌, ℕ, zero, suc, Bool, List, [], ◌∷◌, length, map, Option, Some, None, refl, sym, ap, ◌∙◌, subst, arith}
use Rattle.std.specs.Prelude.{◌||◌, slice_get}
use Rattle.std.specs.Option.{option_map}
use Rattle.std.proofs.Math.Path.{fun_ext}
use Rattle.loglet_api.specs.declared.call.Answer.{Answer}
use Rattle.loglet_api.specs.declared.call.Answer.TheVariants.{Placed, Settled, OpenTail, SealedTail, SealDone, Got, CutAt, Beyond, TrimDone, Sealed, NoQuorum}
use Rattle.loglet_api.specs.declared.call.Task.{Task}
use Rattle.loglet_api.specs.declared.call.Task.TheVariants.{Placing, Settling, Finding, Sealing, Reading, Trimming}
use Rattle.loglet_api.specs.View.{LogletView, Operation}
use Rattle.striped_loglet.specs.declared.stripe.Inner.{Inner}
use Rattle.striped_loglet.specs.declared.plan.Stage.{Stage}
use Rattle.striped_loglet.specs.declared.plan.Stage.TheVariants.{First, Last}
use Rattle.striped_loglet.specs.declared.plan.Stage.TheVariants.{Sealing as SealingStage}
use Rattle.striped_loglet.specs.Views.{any_shut, NoneShut}
use Rattle.striped_loglet.specs.State.{Plain, State, operation_of, open_below, sum_below, count_of, loglet_of}
use Rattle.striped_loglet.specs.Going.{owed, owed_by, one_open, WasOpen, HasTold, HasHeard, IsFor, IsAsked, IsDone, IsGoing, IsLacking, Fits, IsPending, IsStripe, IsStriped, AreApart}

abbrev pub shuts : List LogletView → List Bool
shuts views = map (λ (v : LogletView). v.shut) views

-- the same operation, with stripes as it began that were sealed where those were
abbrev pub AreAlike : Option Plain → Option Plain → Type 0
AreAlike None None = Unit {0}
AreAlike (Some p) (Some q) = (q ≡ record p { before = q.before }) × (shuts q.before ≡ shuts p.before)
AreAlike None (Some q) = ⊥
AreAlike (Some p) None = ⊥

pub shut_alike : (xs ys : List LogletView) → shuts xs ≡ shuts ys → any_shut xs ≡ any_shut ys
shut_alike [] [] h = refl
shut_alike [] (y ∷ ys) h = absurd (cc)
shut_alike (x ∷ xs) [] h = absurd (cc)
shut_alike (x ∷ xs) (y ∷ ys) h =
    let one : x.shut ≡ y.shut = cc in
    let rest : shuts xs ≡ shuts ys = cc in
    ap (λ (b : Bool). b || any_shut xs) one ∙ ap (λ (b : Bool). y.shut || b) (shut_alike xs ys rest)

same_length : (xs ys : List LogletView) → shuts xs ≡ shuts ys → length xs ≡ length ys
same_length [] [] h = refl
same_length [] (y ∷ ys) h = absurd (cc)
same_length (x ∷ xs) [] h = absurd (cc)
same_length (x ∷ xs) (y ∷ ys) h = let rest : shuts xs ≡ shuts ys = cc in ap suc (same_length xs ys rest)

shut_at : (xs ys : List LogletView) (i : ℕ) (x : LogletView) → shuts xs ≡ shuts ys → slice_get xs i ≡ Some x → (y : LogletView) × (slice_get ys i ≡ Some y) × (y.shut ≡ x.shut)
shut_at [] ys i x h e = absurd (cc)
shut_at (z ∷ xs) [] i x h e = absurd (cc)
shut_at (z ∷ xs) (y ∷ ys) zero x h e =
    let one : z.shut ≡ y.shut = cc in
    let same : z ≡ x = cc in
    (y, refl, sym one ∙ ap (λ (v : LogletView). v.shut) same)
shut_at (z ∷ xs) (y ∷ ys) (suc i) x h e = let rest : shuts xs ≡ shuts ys = cc in shut_at xs ys i x rest e

none_alike : (xs ys : List LogletView) → shuts xs ≡ shuts ys → NoneShut ys → NoneShut xs
none_alike xs ys h none i x e = let there = shut_at xs ys i x h e in sym there.2 ∙ none i there.0 there.1

module _ (p : Plain) (b : List LogletView) (h : shuts b ≡ shuts p.before) where
  was_open : (i : ℕ) → WasOpen p i → WasOpen (record p { before = b }) i
  was_open i w x e = let there = shut_at b p.before i x h e in sym there.2 ∙ w there.0 there.1

  told_as : (stage : Stage) (m i : ℕ) (v : LogletView) → HasTold stage p m i v → HasTold stage (record p { before = b }) m i v
  told_as First m i v t = (t.0, was_open i t.1)
  told_as SealingStage m i v t = t
  told_as Last m i v t = t

  heard_as : (task : Task) (m i : ℕ) (v : LogletView) → HasHeard task p m i v → HasHeard task (record p { before = b }) m i v
  heard_as Placing m i v t = (t.0, was_open i t.1)
  heard_as (Settling n) m i v t = (t.0, was_open i t.1)
  heard_as Finding m i v t = told_as p.plan.stage m i v t
  heard_as Sealing m i v t = t
  heard_as (Reading q) m i v t = tt
  heard_as (Trimming n) m i v t = t

  for_as : (task : Task) (m i : ℕ) (o : Operation) (inner : Task) → IsFor task p m i o inner → IsFor task (record p { before = b }) m i o inner
  for_as Placing m i o Placing t = t
  for_as Placing m i o (Settling k) t = t
  for_as (Settling n) m i o (Settling k) t = t
  for_as Finding m i o inner t = t
  for_as Sealing m i o inner t = t
  for_as (Reading q) m i o inner t = t
  for_as (Trimming n) m i o (Trimming k) t = tt
  for_as task m i o inner t = absurd t

  module _ (s : State) (at : ℕ → Option Plain) where
    asked_as : (x : Inner) (v : LogletView) → IsAsked s p x v → IsAsked (record s { at = at }) (record p { before = b }) x v
    asked_as x v a = record {
      operation = a.operation;
      is = a.is;
      for = for_as p.asked.task (count_of s) x.stripe a.operation a.operation.task a.for;
      left = a.left;
      rounds = a.rounds;
      steps = a.steps;
      reach = a.reach;
      firm = a.firm;
      shut = λ y e t. let there = shut_at b p.before x.stripe y h e in a.shut there.0 there.1 (there.2 ∙ t);
      again = a.again;
      trims = a.trims;
      lack = a.lack;
    }

    done_as : (i : ℕ) → IsDone (record p { before = b }) (count_of s) i → IsDone p (count_of s) i
    done_as i d = record { asked = d.asked; told = d.told }

    going_as : IsGoing s p → IsGoing (record s { at = at }) (record p { before = b })
    going_as g = record {
      next = g.next;
      stage = g.stage;
      waits = g.waits;
      skips = g.skips;
      single = g.single;
      sealing = g.sealing;
      done = λ i v e d. heard_as p.asked.task (count_of s) i v (g.done i v e (done_as i d));
      above = g.above;
      all_shut = g.all_shut;
      capped = g.capped;
      tail = g.tail;
      inner = g.inner;
      asks = λ x v e d. asked_as x v (g.asks x v e d);
    }

    lacking_as : (u : ℕ) → IsLacking s p u → IsLacking (record s { at = at }) (record p { before = b }) u
    lacking_as u l = record { enough = l.enough; servers = l.servers; faults = l.faults }

    fits_as : (task : Task) (answer : Answer) → Fits s p task answer → Fits (record s { at = at }) (record p { before = b }) task answer
    fits_as Placing (Placed q) f = (f.0, none_alike b p.before h f.1, f.2)
    fits_as Placing Sealed f = f
    fits_as (Settling n) Settled f = (none_alike b p.before h f.0, f.1)
    fits_as (Settling n) Sealed f = f
    fits_as Finding (OpenTail t) f = (f.0, none_alike b p.before h f.1, f.2)
    fits_as Finding (SealedTail t) f = f
    fits_as Sealing SealDone f = f
    fits_as (Reading q) (Beyond n) f = f
    fits_as (Reading q) (Got e) f = f
    fits_as (Reading q) (CutAt n) f = f
    fits_as (Reading q) (NoQuorum u) f = (f.0, lacking_as u f.1)
    fits_as (Trimming n) TrimDone f = f
    fits_as task (NoQuorum u) f = lacking_as u f
    fits_as task answer f = absurd f

    pending_as : (t : ℕ) → IsPending s t p → IsPending (record s { at = at }) t (record p { before = b })
    pending_as t w = record {
      ticket = w.ticket;
      size = w.size;
      placing = w.placing;
      reach = w.reach;
      firm = w.firm;
      before = same_length b p.before h ∙ w.before;
      shut = λ i x v e d t. let there = shut_at b p.before i x h e in w.shut i there.0 v there.1 d (there.2 ∙ t);
      faults = w.faults;
      down = w.down;
      sealing = w.sealing;
      trimming = w.trimming;
      going = λ e. going_as (w.going e);
      alone = w.alone;
      told = λ a e. fits_as p.asked.task a (w.told a e);
    }

-- what is there now is like what was there
pub record Likeness (a : Option Plain) (q : Plain) : Type 0 where
  pub old : Plain
  pub was : a ≡ Some old
  pub same : q ≡ record old { before = q.before }
  pub shut : shuts q.before ≡ shuts old.before

likeness : (a b : Option Plain) (q : Plain) → AreAlike a b → b ≡ Some q → Likeness a q
likeness None None q h e = absurd (cc)
likeness None (Some b) q h e = absurd h
likeness (Some p) None q h e = absurd h
likeness (Some p) (Some b) q h e =
    let same : b ≡ q = cc in
    subst (λ (z : Plain). Likeness (Some p) z) same (record { old = p; was = refl; same = h.0; shut = h.1 })

owed_alike : (i : ℕ) (a b : Option Plain) → AreAlike a b → owed i b ≡ owed i a
owed_alike i None None h = refl
owed_alike i None (Some q) h = absurd h
owed_alike i (Some p) None h = absurd h
owed_alike i (Some p) (Some q) h = ap (λ (z : Plain). owed_by i z.answer z.plan) h.0

one_alike : (a b : Option Plain) → AreAlike a b → one_open b ≡ one_open a
one_alike None None h = refl
one_alike None (Some q) h = absurd h
one_alike (Some p) None h = absurd h
one_alike (Some p) (Some q) h = refl

shown_alike : (turn count : ℕ) (a b : Option Plain) → AreAlike a b → option_map (operation_of turn count) b ≡ option_map (operation_of turn count) a
shown_alike turn count None None h = refl
shown_alike turn count None (Some q) h = absurd h
shown_alike turn count (Some p) None h = absurd h
shown_alike turn count (Some p) (Some q) h =
    ap (λ (z : Plain). Some (operation_of turn count z)) h.0
    ∙ ap (λ (x : Bool). Some (record (operation_of turn count p) { shut = x })) (shut_alike q.before p.before h.1)

module _ (s : State) (at : ℕ → Option Plain) (h : (t : ℕ) → AreAlike (s.at t) (at t)) where
  pub same_view : loglet_of (record s { at = at }) ≡ loglet_of s
  same_view =
      ap (λ (f : ℕ → Option Operation). record (loglet_of s) { operations = open_below f s.marks.begun })
      (fun_ext (λ t. shown_alike s.shape.turn (count_of s) (s.at t) (at t) (h t)))

  owes : (i : ℕ) → sum_below (λ t. owed i (at t)) s.marks.begun ≡ sum_below (λ t. owed i (s.at t)) s.marks.begun
  owes i = ap (λ (f : ℕ → ℕ). sum_below f s.marks.begun) (fun_ext (λ t. owed_alike i (s.at t) (at t) (h t)))

  opens : sum_below (λ t. one_open (at t)) s.marks.begun ≡ sum_below (λ t. one_open (s.at t)) s.marks.begun
  opens = ap (λ (f : ℕ → ℕ). sum_below f s.marks.begun) (fun_ext (λ t. one_alike (s.at t) (at t) (h t)))

  stripe_as : (i : ℕ) (v : LogletView) → IsStripe s i v → IsStripe (record s { at = at }) i v
  stripe_as i v k = record {
    sound = k.sound;
    room = k.room;
    rounds = k.rounds;
    limit = k.limit;
    size = k.size;
    cut = k.cut;
    reach = k.reach;
    firm = k.firm;
    begun = (let a = k.begun in let b = owes i in omega (arith, a, b));
    seals = k.seals;
  }

  apart_as : AreApart s.at → AreApart at
  apart_as apart t u p q x y et eu ex ey es en =
      let a = likeness (s.at t) (at t) p (h t) et in
      let b = likeness (s.at u) (at u) q (h u) eu in
      apart t u a.old b.old x y a.was b.was (sym (ap (λ (z : Plain). z.inner) a.same) ∙ ex) (sym (ap (λ (z : Plain). z.inner) b.same) ∙ ey) es en

  pub retold : IsStriped s → IsStriped (record s { at = at })
  retold k = record {
    shaped = record { count = k.shaped.count; servers = k.shaped.servers; few = k.shaped.few; room = k.shaped.room; rounds = k.shaped.rounds; turn = k.shaped.turn };
    stripes = λ i v e. stripe_as i v (k.stripes i v e);
    cut = k.cut;
    reach = k.reach;
    firm = k.firm;
    size = k.size;
    cap = k.cap;
    begun = k.begun;
    seals = k.seals;
    lacks = (let a = k.lacks in let b = opens in omega (arith, a, b));
    pending = λ t q e. let a = likeness (s.at t) (at t) q (h t) e in
        subst (λ (z : Plain). IsPending (record s { at = at }) t z) (sym a.same) (pending_as a.old q.before a.shut s at t (k.pending t a.old a.was));
    apart = apart_as k.apart;
  }
