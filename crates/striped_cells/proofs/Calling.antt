-- What the calls of a cell in stripes ask for.
use Rattle.std.proofs.Common.{◌≡◌, ℕ, zero, suc, ◌+◌, ◌^◌, ◌<◌, ◌≤◌, Bool, true, false, max, List, length, map, get_or, Option, Some, None, refl, sym, ap, ◌∙◌, subst, arith, [], ◌∷◌, ◌++◌}
use Rattle.std.specs.Prelude.{slice_get, IfSome, replicate}
use Rattle.std.proofs.lemmas.Option.{none-some, same_Some}
use Rattle.loglet_api.specs.declared.call.Op.{Op}
use Rattle.loglet_api.specs.declared.call.Answer.{Answer}
use Rattle.loglet_api.specs.declared.call.Answer.TheVariants.{Placed, Settled, OpenTail, SealedTail, SealDone, Got, CutAt, Beyond, TrimDone, Sealed, NoQuorum}
use Rattle.loglet_api.specs.View.{LogletView}
use Rattle.loglet_api.specs.Sound.{IsSound}
use Rattle.loglet_api.specs.Step.{CanBegin, TakesAnswer, told_reach, told_firm, wanted, wanted_by}
use Rattle.striped_loglet.specs.declared.stripe.Inner.{Inner}
use Rattle.striped_loglet.specs.Plans.{target_of, told_tail}
use Rattle.striped_loglet.specs.Views.{total}
use Rattle.striped_loglet.specs.State.{Plain, State, loglet_of}
use Rattle.striped_loglet.specs.Going.{IsGoing, IsPending}
use Rattle.striped_loglet.proofs.Lists.{within, total_below}
use Rattle.striped_loglet.proofs.Places.{got_at}
use Rattle.striped_loglet.proofs.Sounds.{striped_sound, behind}
use Rattle.striped_loglet.proofs.Beginning.{target_below}
use Rattle.striped_cells.specs.Pursuits.{Pursuit, plain_of, open_at, is_waiting, answer_at}
use Rattle.striped_cells.specs.Ways.{Ways, IsKind}
use Rattle.striped_cells.specs.Striped.{Striped, position_of, woven, AreSmall, state_of, takes, IsLawfulStriped}
use Rattle.striped_cells.proofs.Weaving.{get_past, woven_length, woven_at}
use Rattle.striped_cells.proofs.Notes.{there, at_there}
use Rattle.striped_cells.proofs.Striping.{waiting, striped_takes, count, seen, has_all, some_stripes}

-- what is found at a place of one list stands at that place of the same list
pub there_in : {A : Type 0} (xs ys : List A) (i j : ℕ) (x : A) → xs ≡ ys → i ≡ j → j < length ys → x ≡ get_or xs i x → slice_get ys j ≡ Some x
there_in {A} xs ys i j x es ei low is = got_at ys j x low (is ∙ (ap (λ (zs : List A). get_or zs i x) es ∙ ap (λ n. get_or ys n x) ei))

-- something stands at a place of a list
pub stands : {A : Type 0} (xs : List A) (i : ℕ) → i < length xs → (y : A) × (slice_get xs i ≡ Some y)
stands [] i l = absurd (omega arith)
stands (y ∷ xs) zero l = (y, refl)
stands (y ∷ xs) (suc i) l = stands xs i (omega arith)

-- one more like the others
pub like_more : {A : Type 0} (n : ℕ) (x : A) (xs : List A) (y : A) → xs ≡ replicate n x → y ≡ x → xs ++ y ∷ [] ≡ replicate (n + 1) x
like_more {A} n x xs y e same =
    let more : n + 1 ≡ suc n = omega arith in
    ap (λ (zs : List A). zs ++ y ∷ []) e ∙ (ap (λ (z : A). replicate n x ++ z ∷ []) same ∙ (pushed n ∙ ap (λ m. replicate m x) (sym more)))
  where
    pushed : (m : ℕ) → replicate m x ++ x ∷ [] ≡ x ∷ replicate m x
    pushed zero = refl
    pushed (suc m) = ap (λ (zs : List A). x ∷ zs) (pushed m)

-- what begins on a lawful cell leaves it lawful
pub begun_lawful : {C : Type 0} (k : Ways C) → IsKind k → (x : C) (op : Op) → k.is_lawful x → CanBegin op → k.is_lawful (k.begin x op)
begun_lawful k kind x op lawful can = by (k.is_full x op) refl
  where
    by : (b : Bool) → k.is_full x op ≡ b → k.is_lawful (k.begin x op)
    by true e = (kind.refuses x op lawful can e).lawful
    by false e = (kind.begins x op lawful can e).lawful

tail_firm : (n : ℕ) (a : Answer) → told_tail a ≤ told_firm n a
tail_firm n (Placed p) = omega arith
tail_firm n Settled = omega arith
tail_firm n (OpenTail t) = omega arith
tail_firm n (SealedTail t) = omega arith
tail_firm n SealDone = omega arith
tail_firm n (Got e) = omega arith
tail_firm n (CutAt p) = omega arith
tail_firm n (Beyond p) = omega arith
tail_firm n TrimDone = omega arith
tail_firm n Sealed = omega arith
tail_firm n (NoQuorum u) = omega arith

reach_firm : (n : ℕ) (a : Answer) → told_reach n a ≤ told_firm n a
reach_firm n (Placed p) = omega arith
reach_firm n Settled = omega arith
reach_firm n (OpenTail t) = omega arith
reach_firm n (SealedTail t) = omega arith
reach_firm n SealDone = omega arith
reach_firm n (Got e) = omega arith
reach_firm n (CutAt p) = omega arith
reach_firm n (Beyond p) = omega arith
reach_firm n TrimDone = omega arith
reach_firm n Sealed = omega arith
reach_firm n (NoQuorum u) = omega arith

-- what an answer speaks of is no longer than a log
firm_small : (v w : LogletView) (t : ℕ) (a : Answer) → IsSound w → (x : TakesAnswer v t a w) → told_firm (wanted x.operation) a ≤ 2 ^ 32
firm_small v w t a sound x =
    let firm : w.firm ≡ max v.firm (told_firm (wanted x.operation) a) = ap (λ (z : LogletView). z.firm) x.rest in
    omega (arith, firm, sound.firm, sound.size, sound.shape.room.1)

-- a tail that a stripe tells is no longer than its log
pub tail_small : {C : Type 0} (k : Ways C) → IsKind k → (x : C) (t : ℕ) (a : Answer) → k.is_lawful x → k.answer x t ≡ Some a → told_tail a ≤ 2 ^ 32
tail_small k kind x t a lawful e =
    let b = kind.takes x t a lawful e in
    let l = firm_small (k.view x) (k.view (k.take x t)) t a (kind.sound (k.take x t) b.lawful) b.does in
    let m = tail_firm (wanted b.does.operation) a in
    omega (arith, l, m)

module _ {C : Type 0} (k : Ways C) (c : Striped C) (h : IsLawfulStriped k c) where
  abbrev s : State
  s = state_of k c

  pub few : length c.stripes ≤ 8
  few = (let a = h.striped.shaped.count.1 in let b = count k c h in omega (arith, a, b))

  pub few_down : total (λ v. v.down) (map k.view c.stripes) ≤ 64
  few_down =
      let a = total_below (λ v. v.down) (λ v. v.servers) (map k.view c.stripes) (λ i v e. (h.striped.stripes i v e).sound.down) in
      let b = h.striped.shaped.servers in
      let d = h.striped.shaped.few in
      omega (arith, a, b, d)

  sound : IsSound (loglet_of s)
  sound = striped_sound s h.striped

  pub size_small : c.marks.size ≤ 2 ^ 32
  size_small = (let a = h.striped.size in let b = h.striped.shaped.room.1 in omega (arith, a, b))

  pub cut_small : c.marks.cut ≤ 2 ^ 32
  cut_small = (let a = h.striped.cut in let b = h.striped.reach in let d = h.striped.firm in let e = size_small in omega (arith, a, b, d, e))

  pub begun_small : c.marks.begun ≤ 2 ^ 62
  begun_small = (let a = h.striped.begun in let b = sound.shape.limit in omega (arith, a, b))

  pub small : AreSmall c.marks
  small = (let a = size_small in omega (arith, a), let a = begun_small in omega (arith, a), let a = begun_small in let b = h.striped.seals in omega (arith, a, b))

  pub lacks_small : c.marks.lacks + 1 < 2 ^ 64
  lacks_small = (let a = begun_small in let b = h.striped.lacks in omega (arith, a, b))

  ---- entries

  pub entry_past : (p : ℕ) → c.marks.size ≤ p → slice_get (woven (map k.entries c.stripes) c.marks.size) p ≡ None
  entry_past p l = let e = woven_length (map k.entries c.stripes) c.marks.size (has_all k c h) in get_past (woven (map k.entries c.stripes) c.marks.size) p (omega (arith, l, e))

  pub entry_in : (p : ℕ) → p < c.marks.size → slice_get (woven (map k.entries c.stripes) c.marks.size) p ≡ position_of (map k.entries c.stripes) p
  entry_in p l = woven_at (map k.entries c.stripes) c.marks.size p (has_all k c h) l

  ---- operations

  pub pending : (t : ℕ) (p : Pursuit) → open_at c.operations t ≡ Some p → IsPending s t (plain_of p)
  pending t p at = h.striped.pending t (plain_of p) (at_there c.operations t p at)

  pub going : (t : ℕ) (p : Pursuit) → open_at c.operations t ≡ Some p → p.answer ≡ None → IsGoing s (plain_of p)
  going t p at e = (pending t p at).going e

  pub next_few : (t : ℕ) (p : Pursuit) → open_at c.operations t ≡ Some p → p.answer ≡ None → p.plan.next ≤ length c.stripes
  next_few t p at e = (let a = (going t p at e).next in let b = count k c h in omega (arith, a, b))

  pub size_few : (t : ℕ) (p : Pursuit) → open_at c.operations t ≡ Some p → p.asked.size ≤ 2 ^ 32
  size_few t p at = (let a = (pending t p at).size in let b = size_small in omega (arith, a, b))

  pub target_few : (t : ℕ) (p : Pursuit) → open_at c.operations t ≡ Some p → is_waiting p ≡ true → target_of p.asked.task (length c.stripes) p.plan < length c.stripes
  target_few t p at waits =
      let none = waiting p waits in
      let a = (going t p at none.1).waits none.0 in
      let b = count k c h in
      target_below (length c.stripes) p.plan p.asked.task (some_stripes k c h) (omega (arith, a, b))

  pub inner_few : (t : ℕ) (p : Pursuit) (x : Inner) → open_at c.operations t ≡ Some p → p.answer ≡ None → p.inner ≡ Some x → x.stripe < length c.stripes
  inner_few t p x at e mine = (let a = (going t p at e).inner x mine in let b = count k c h in omega (arith, a, b))

  -- an operation that a stripe is doing is undecided
  pub inner_in : (t : ℕ) (p : Pursuit) (x : Inner) → open_at c.operations t ≡ Some p → p.inner ≡ Some x → x.stripe < length c.stripes
  inner_in t p x at mine = by p.answer refl
    where
      by : (o : Option Answer) → p.answer ≡ o → x.stripe < length c.stripes
      by None e = inner_few t p x at e mine
      by (Some a) e = absurd (none-some x (sym ((pending t p at).alone a e) ∙ mine))

  pub ticket_in : (t : ℕ) (p : Pursuit) → open_at c.operations t ≡ Some p → t < length c.operations
  ticket_in t p at = within c.operations t p (there c.operations t p at).is

  pub rounds_few : (t : ℕ) (p : Pursuit) (x : Inner) → open_at c.operations t ≡ Some p → p.answer ≡ None → p.inner ≡ Some x → x.rounds < c.shape.turn
  rounds_few t p x at e mine =
      let low = inner_few t p x at e mine in
      let it = stands c.stripes x.stripe low in
      let v = k.view it.0 in
      let here = seen k c h x.stripe it.0 it.1 in
      let a = ((going t p at e).asks x v mine here).rounds in
      let b = (h.striped.stripes x.stripe v here).rounds in
      omega (arith, a, b)

  pub rounds_small : (t : ℕ) (p : Pursuit) → open_at c.operations t ≡ Some p → p.answer ≡ None → (x : Option Inner) → p.inner ≡ x → IfSome x (λ y. y.rounds < c.shape.turn)
  rounds_small t p at e None mine = tt
  rounds_small t p at e (Some x) mine = rounds_few t p x at e mine

  -- what an answer speaks of is no longer than a log
  pub given_small : (t : ℕ) (p : Pursuit) (a : Answer) → open_at c.operations t ≡ Some p → answer_at c.marks.cut (Some p) ≡ Some a
      → (told_reach (wanted_by p.asked.task p.asked.size) a ≤ 2 ^ 32) × (told_firm (wanted_by p.asked.task p.asked.size) a ≤ 2 ^ 32)
  given_small t p a at e =
      let b = striped_takes k c h t (Some p) a at e in
      let new = takes k c t (Some p) in
      let l = firm_small (loglet_of s) (loglet_of (state_of k new)) t a (striped_sound (state_of k new) b.lawful.striped) b.does in
      let was = behind s h.striped t b.does.operation b.does.is in
      let same : plain_of p ≡ was.0 = same_Some _ _ (sym (at_there c.operations t p at) ∙ was.1) in
      let w : wanted b.does.operation ≡ wanted_by p.asked.task p.asked.size = ap wanted (sym was.2) ∙ ap (λ (z : Plain). wanted_by z.asked.task z.asked.size) (sym same) in
      let f : told_firm (wanted_by p.asked.task p.asked.size) a ≤ 2 ^ 32 = subst (λ n. told_firm n a ≤ 2 ^ 32) w l in
      let r = reach_firm (wanted_by p.asked.task p.asked.size) a in
      (omega (arith, r, f), f)
