-- Clerks get their parts, work, and give their passes back.
use Rattle.std.proofs.Common.{◌≡◌, ℕ, suc, ◌-◌, ◌<◌, List, [], ◌∷◌, ◌++◌, length, length-append, slice_index_or, take, drop, None, sym, refl, ap, ◌∙◌, subst, arith}
use mathlib.Core.Logic.{dite}
use native.Mathlib.Decide.{dec_lt}
use Rattle.std.proofs.lemmas.List.{get_or_push}
use Rattle.std.proofs.Math.ListN.{get_or-append}
use Rattle.pass_lock.specs.Journal.{Part}
use Rattle.pass_lock.specs.Pass.{LockId, Known, numbered, all_parts, whole, one_part}
use Rattle.pass_lock.proofs.Numbered.{numbered-first, numbered-others, numbered-length}
use Rattle.pass_lock_rows.specs.declared.desk.Event.{Event}
use Rattle.pass_lock_rows.specs.Turns.{Maker, seen_by, Made}
use Rattle.pass_lock_rows.specs.Office.{AllFresh, AllWorked, IsBack, AllBack, EndedFrom, Collected}

abbrev fresh : LockId → ℕ → Maker
fresh lock i = record { lock = lock; who = i; seen = [] }

abbrev from_number : Known Event → ℕ → ℕ → Known Event
from_number p k n = record p { parts = numbered k n }

-- the first of the numbered parts is cut off
pub cut_one : (k n n' : ℕ) (start p p' q : Known Event) → n ≡ suc n' → p ≡ from_number start k n → p' ≡ record p { parts = drop 1 p.parts } → q ≡ record p { parts = take 1 p.parts; made = [] }
    → (p' ≡ from_number start (suc k) n') × (q ≡ record start { parts = (k, []) ∷ []; made = [] })
cut_one k n n' start p p' q size e rest first = let e' : p ≡ from_number start k (suc n') = e ∙ ap (from_number start k) size in (
  rest ∙ (ap (λ (x : Known Event). record x { parts = drop 1 x.parts }) e' ∙ ap (λ (l : List (Part Event)). record start { parts = l }) (numbered-others Event k n')),
  first ∙ (ap (λ (x : Known Event). record x { parts = take 1 x.parts; made = [] }) e' ∙ ap (λ (l : List (Part Event)). record start { parts = l; made = [] }) (numbered-first Event k n')),
)

pub parts_of : (k n : ℕ) (start p : Known Event) → p ≡ from_number start k n → length p.parts ≡ n
parts_of k n start p e = ap (λ (x : Known Event). length x.parts) e ∙ numbered-length Event k n

pub one_part_is : (lock : LockId) (k : ℕ) (start q : Known Event) → start ≡ whole lock → q ≡ record start { parts = (k, []) ∷ []; made = [] } → q ≡ one_part lock k (seen_by q.parts) q.made
one_part_is lock k start q w e = let is : q ≡ one_part lock k [] [] = e ∙ ap (λ (x : Known Event). record x { parts = (k, []) ∷ []; made = [] }) w in
    is ∙ sym (ap (λ (x : Known Event). one_part lock k (seen_by x.parts) x.made) is)

pub fresh_push : (lock : LockId) (ms : List Maker) (m : Maker) → AllFresh lock ms → m ≡ fresh lock (length ms) → AllFresh lock (ms ++ m ∷ [])
fresh_push lock ms m all is = record {
  each = λ i d h. dite (dec_lt i (length ms)) (λ before. get_or-append ms (m ∷ []) d i before ∙ all.each i d before)
      (λ no. let l = length-append ms (m ∷ []) in let last : length ms ≡ i = omega arith in get_or_push ms m d i last ∙ (is ∙ ap (fresh lock) last));
}

-- after their work
pub back_after : (lock : LockId) (turns : ℕ) (ms ms' : List Maker) → length ms' ≡ length ms → AllFresh lock ms → AllWorked turns ms ms' → AllBack lock turns ms'
back_after lock turns ms ms' same new work = record {
  each = λ i d h. let w = work.each i d (subst (λ n. i < n) same h) in let was : slice_index_or ms i d ≡ fresh lock i = new.each i d (subst (λ n. i < n) same h) in
      let m' : Maker = slice_index_or ms' i d in let made : Made (fresh lock i) w.made m' = subst (λ (m : Maker). Made m w.made m') was w.in_order in
      record { lock_is = made.0.0; who_is = made.0.1; done = (w.made, w.few, made.1) };
}

-- the last clerk, and the others
pub back_last : (lock : LockId) (turns : ℕ) (all ms : List Maker) (m : Maker) → all ≡ ms ++ m ∷ [] → AllBack lock turns all → IsBack lock turns (length ms) m × AllBack lock turns ms
back_last lock turns all ms m e back = let b : AllBack lock turns (ms ++ m ∷ []) = subst (AllBack lock turns) e back in let l = length-append ms (m ∷ []) in (
  subst (IsBack lock turns (length ms)) (get_or_push ms m m (length ms) refl) (b.each (length ms) m (omega arith)),
  record { each = λ i d h. subst (IsBack lock turns i) (get_or-append ms (m ∷ []) d i h) (b.each i d (omega arith)) },
)

-- before the first pass is joined
pub collected_start : (lock : LockId) (count turns n : ℕ) (start p : Known Event) → start ≡ whole lock → p ≡ from_number start count (all_parts - count) → n ≡ count → Collected lock count turns n p
collected_start lock count turns n start p w e size = let rest : List (Part Event) = numbered count (all_parts - count) in
    let is : p ≡ record { lock = lock; parts = rest; made = []; turn = None } = e ∙ ap (λ (x : Known Event). from_number x count (all_parts - count)) w in record {
      ended = [];
      counted = omega (arith, size);
      is = is ∙ ap (λ m. record { lock = lock; parts = rest; made = m; turn = None }) (sym (ap (λ (x : Known Event). x.made) is));
      each = tt;
    }

-- the last clerk's pass is joined
pub collected_more : (lock : LockId) (count turns n left : ℕ) (p p' q : Known Event) (m : Maker) → n ≡ suc left → Collected lock count turns n p → IsBack lock turns left m → q ≡ one_part m.lock m.who m.seen q.made
    → p' ≡ record p { parts = q.parts ++ p.parts; made = q.made ++ p.made } → Collected lock count turns left p'
collected_more lock count turns n left p p' q m size c b e join = let rest : List (Part Event) = numbered count (all_parts - count) in record {
  ended = (m.who, m.seen) ∷ c.ended;
  counted = let a = c.counted in omega arith;
  is = let parts : p'.parts ≡ (m.who, m.seen) ∷ (c.ended ++ rest) = ap (λ k. k.parts) join ∙ ((λ i. (e i).parts ++ p.parts) ∙ ap (λ k. (m.who, m.seen) ∷ k.parts) c.is) in
      let lock-is : p'.lock ≡ lock = ap (λ k. k.lock) join ∙ ap (λ k. k.lock) c.is in let turn-is : p'.turn ≡ None = ap (λ k. k.turn) join ∙ ap (λ k. k.turn) c.is in
      λ i. record { lock = lock-is i; parts = parts i; made = p'.made; turn = turn-is i };
  each = (b.who_is, b.done, subst (λ k. EndedFrom turns k c.ended) size c.each);
}
