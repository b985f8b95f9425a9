-- What each call of a file loglet does, by its fields.
use Rattle.std.proofs.Common.{◌≡◌, ℕ, zero, suc, ◌+◌, ◌-◌, ◌^◌, ◌<◌, ◌≤◌, ◌⊎◌, nat_eq, true, if◌then◌else◌, Option, None, Some, is_some, List, [], ◌∷◌, ◌++◌, map, length, drop, max, min, refl, inl, inr, ap, subst, sym, ◌∙◌, arith, length-drop, zero-add}
use Rattle.std.specs.HashMap.{get, Updates}
use Rattle.std.proofs.Math.Seq.{drop-nil}
use Rattle.std.proofs.lemmas.List.{drop-append-le}
use Rattle.std.proofs.lemmas.Bool.Decides.{nat_tests}
use Rattle.std.proofs.lemmas.Bool.{cases_Bool}
use Rattle.delos_types.specs.declared.entry.Entry.{Entry}
use Rattle.loglet_api.specs.declared.call.Answer.{Answer}
use Rattle.loglet_api.specs.declared.call.Op.{Op}
use Rattle.loglet_api.specs.declared.call.Op.TheVariants.{Trim}
use Rattle.loglet_api.specs.View.{Operation, LogletView, operation_at, size_of, IsUndecided}
use Rattle.loglet_api.specs.Step.{Moves, Advances, Carries, Begins, TakesAnswer, MayAnswer, Forgets, HasLeft, IsUndecidedAt, bumped, RoseBy, IsFull, IsAppend, entries_of, cut_by, seals_of, task_of, begun_operation, told_reach, told_firm, told_cap, told_lacks, wanted_by}
use Rattle.quorum_cell.specs.Servers.{is_sealed}
use Rattle.file_loglet.specs.declared.marks.Marks.{Marks}
use Rattle.file_loglet.specs.declared.pending.Pending.{Pending}
use Rattle.file_loglet.specs.Held.{Held}
use Rattle.file_loglet.specs.Pending.{PendingMap, shown, operation_of, left_of, Waits}
use Rattle.file_loglet.specs.File.{counted, down_of, loglet_of, IsDecidedAtOnce}
use Rattle.file_loglet.proofs.Maps.{shown_at, puts}

abbrev pub answered : Pending → Answer → Pending
answered p answer = record p { answer = Some answer }

advances_same : (o : Option Operation) → Advances o o
advances_same None = tt
advances_same (Some o) = (refl, inr (refl, omega arith))

pub moves_same : (v : LogletView) → v.faults < 2 ^ 64 → Moves v v
moves_same v small =
    record {
      rest = refl;
      shut = λ h. h;
      faults = omega arith;
      down = omega arith;
      operations = λ q. advances_same (operation_at v.operations q);
    }

-- what is there, and no other
pub some_is : (x : Option Pending) → is_some x ≡ true → (p : Pending) × (x ≡ Some p)
some_is None h = absurd (cc)
some_is (Some p) h = (p, refl)

-- ---- Forget, and what is left

pub forgets : (room : ℕ) (es : List Entry) (held : Held) (marks : Marks) (m n : PendingMap) (t : ℕ) → Updates nat_eq m n t None → Forgets (loglet_of room es held marks m) t (loglet_of room es held marks n)
forgets room es held marks m n t u = record { closed = puts m n t None u; rest = refl }

pub has_left : (room : ℕ) (es : List Entry) (held : Held) (marks : Marks) (m : PendingMap) (v : LogletView) (t : ℕ) (p : Pending) (x y : ℕ) → loglet_of room es held marks m ≡ v → get nat_eq m t ≡ Some p → (x, y) ≡ left_of p.answer → HasLeft v t x y
has_left room es held marks m v t p x y e is left =
    subst (λ (w : LogletView). HasLeft w t x y) e (record { operation = operation_of p; is = shown_at m t p is; left = sym left })

-- ---- Carry and Restart: the server goes on

pub record Onward (old new : Held) (refusals : ℕ) : Type 0 where
  pub shut : is_sealed old.server ≡ true → is_sealed new.server ≡ true
  pub faults : counted old.disk.faults refusals ≤ counted new.disk.faults refusals
  pub down : RoseBy (down_of new.server.up - down_of old.server.up) (counted old.disk.faults refusals) (counted new.disk.faults refusals)

pub moves_onward : (room : ℕ) (es : List Entry) (old new : Held) (marks : Marks) (m : PendingMap) → Onward old new marks.refusals → Moves (loglet_of room es old marks m) (loglet_of room es new marks m)
moves_onward room es old new marks m o =
    record { rest = refl; shut = o.shut; faults = o.faults; down = o.down; operations = λ q. advances_same (operation_at (map shown m.entries) q) }

left_before : (answer : Option Answer) → 0 < (left_of answer).0 + (left_of answer).1 → left_of answer ≡ (1, 0)
left_before None h = refl
left_before (Some answer) h = absurd (omega arith)

left_first : (room : ℕ) (es : List Entry) (held : Held) (marks : Marks) (m : PendingMap) (t : ℕ) (p : Pending) → get nat_eq m t ≡ Some p → IsUndecidedAt (loglet_of room es held marks m) t → left_of p.answer ≡ (1, 0)
left_first room es held marks m t p at undecided =
    let e = sym undecided.is ∙ shown_at m t p at in
    let same : undecided.operation ≡ operation_of p = cc in
    left_before p.answer (subst IsUndecided same undecided.undecided)

advances_carried : (m : PendingMap) (t : ℕ) (p : Pending) (y : Answer) (q : ℕ) → get nat_eq m t ≡ Some p → left_of p.answer ≡ (1, 0) → Advances (operation_at (map shown m.entries) q) (if nat_eq t q then Some (operation_of (answered p y)) else operation_at (map shown m.entries) q)
advances_carried m t p y q at left =
    elim (cases_Bool (nat_eq t q)) [
      | inl same ↦ (let e : t ≡ q = grind (arith, nat_tests) in
          let was : operation_at (map shown m.entries) q ≡ Some (operation_of p) = rw (← e) (shown_at m t p at) in
          rw (same, was) (refl, rw left (inl (omega arith))))
      | inr other ↦ rw other (advances_same (operation_at (map shown m.entries) q))
    ]

pub carries : (room : ℕ) (es : List Entry) (old new : Held) (marks : Marks) (m n : PendingMap) (t : ℕ) (p : Pending) (y : Answer) → Onward old new marks.refusals → get nat_eq m t ≡ Some p → Updates nat_eq m n t (Some (answered p y)) → IsUndecidedAt (loglet_of room es old marks m) t
    → Carries (loglet_of room es old marks m) t (loglet_of room es new marks n)
carries room es old new marks m n t p y o at u undecided =
    let left = left_first room es old marks m t p at undecided in
    let now = puts m n t (Some (answered p y)) u in
    record {
      moves = record {
        rest = refl;
        shut = o.shut;
        faults = o.faults;
        down = o.down;
        operations = λ q. rw (now q) (advances_carried m t p y q at left);
      };
      falls = record {
        before = operation_of p;
        after = operation_of (answered p y);
        was = shown_at m t p at;
        is = now t ∙ (let same : nat_eq t t ≡ true = grind (arith, nat_tests) in rw same refl);
        less = rw left (inl (omega arith));
      };
    }

-- it is decided then
pub decided_at_once : (room : ℕ) (es : List Entry) (old new : Held) (marks : Marks) (m n : PendingMap) (t : ℕ) (p : Pending) (y : Answer) → Updates nat_eq m n t (Some (answered p y))
    → ((counted new.disk.faults marks.refusals ≡ counted old.disk.faults marks.refusals) × (down_of new.server.up ≡ down_of old.server.up))
    ⊎ ((down_of old.server.up ≡ 0) × (down_of new.server.up ≡ 1) × (counted new.disk.faults marks.refusals ≡ bumped (counted old.disk.faults marks.refusals)))
    → IsDecidedAtOnce (loglet_of room es old marks m) t (loglet_of room es new marks n)
decided_at_once room es old new marks m n t p y u failed = record {
  operation = operation_of (answered p y);
  is = puts m n t (Some (answered p y)) u t ∙ (let same : nat_eq t t ≡ true = grind (arith, nat_tests) in rw same refl);
  decided = refl;
  failed = failed;
}

-- ---- Take

decided_left : (answer : Option Answer) (x : Answer) → answer ≡ Some x → (left_of answer).0 + (left_of answer).1 ≡ 0
decided_left None x e = absurd (cc)
decided_left (Some y) x e = refl

pub takes : (room : ℕ) (es : List Entry) (held : Held) (marks marks' : Marks) (m n : PendingMap) (t : ℕ) (p : Pending) (was answer : Answer) → get nat_eq m t ≡ Some p → p.answer ≡ Some was → MayAnswer (loglet_of room es held marks m) (operation_of p) p.task answer → Updates nat_eq m n t None
    → marks' ≡ record marks { reach = max marks.reach (told_reach (wanted_by p.task p.size) answer); firm = max marks.firm (told_firm (wanted_by p.task p.size) answer); cap = told_cap answer marks.cap; lacks = marks.lacks + told_lacks answer }
    → TakesAnswer (loglet_of room es held marks m) t answer (loglet_of room es held marks' n)
takes room es held marks marks' m n t p was answer at decided may u em =
    rw em (record {
      operation = operation_of p;
      is = shown_at m t p at;
      decided = decided_left p.answer was decided;
      may = may;
      closed = puts m n t None u;
      rest = refl;
    })

undecided_of : (room : ℕ) (es : List Entry) (held : Held) (marks : Marks) (m : PendingMap) (t : ℕ) (w : (p : Pending) × (get nat_eq m t ≡ Some p)) → Waits m t → IsUndecidedAt (loglet_of room es held marks m) t
undecided_of room es held marks m t w waits =
    record { operation = operation_of w.0; is = shown_at m t w.0 w.1; undecided = (let none = waits w.0 w.1 in rw none (omega arith)) }

pub waits_undecided : (room : ℕ) (es : List Entry) (held : Held) (marks : Marks) (m : PendingMap) (t : ℕ) → is_some (get nat_eq m t) ≡ true → Waits m t → IsUndecidedAt (loglet_of room es held marks m) t
waits_undecided room es held marks m t can waits = undecided_of room es held marks m t (some_is (get nat_eq m t) can) waits

-- ---- Begin

cut_rises : (op : Op) (cut reach : ℕ) → cut ≤ reach → (cut ≤ cut_by op cut reach) × (cut_by op cut reach ≤ reach)
cut_rises (Trim n) cut reach h = (omega arith, omega arith)
cut_rises op cut reach h = (omega arith, h)

drop_drop : (m n : ℕ) (xs : List Entry) → drop m (drop n xs) ≡ drop (n + m) xs
drop_drop m zero xs = rw zero-add refl
drop_drop m (suc n) [] = drop-nil m ∙ sym (drop-nil (suc n + m))
drop_drop m (suc n) (x ∷ xs) = let e : suc n + m ≡ suc (n + m) = omega arith in rw e (drop_drop m n xs)

-- what is left of the log behind the cut
log_begun : (xs ys : List Entry) (cut cut' : ℕ) → cut ≤ cut' → cut' ≤ length xs → drop cut' (xs ++ ys) ≡ drop (cut' - cut) (drop cut xs) ++ ys
log_begun xs ys cut cut' le within =
    let e : cut + (cut' - cut) ≡ cut' = omega arith in
    drop-append-le cut' xs ys within ∙ sym (ap (λ (zs : List Entry). zs ++ ys) (drop_drop (cut' - cut) cut xs ∙ ap (λ (n : ℕ). drop n xs) e))

-- the size is the number of entries
pub size_is : (es : List Entry) (cut : ℕ) → cut ≤ length es → cut + length (drop cut es) ≡ length es
size_is es cut h = omega (arith, length-drop cut es)

pub begins : (room : ℕ) (es : List Entry) (held : Held) (marks marks' : Marks) (m n : PendingMap) (op : Op) (es' : List Entry) → marks.cut ≤ marks.reach → marks.reach ≤ length es → ¬ ((IsAppend op × (length es ≡ room)) ⊎ (marks.begun ≡ 2 ^ 62))
    → marks' ≡ record marks { cut = cut_by op marks.cut marks.reach; begun = marks.begun + 1; seals = marks.seals + seals_of op } → es' ≡ es ++ entries_of op
    → Updates nat_eq m n marks.begun (Some (record { task = task_of op; size = length es; reach = marks.reach; firm = marks.firm; shut = is_sealed held.server; faults = counted held.disk.faults marks.refusals; down = down_of held.server.up; answer = None }))
    → Begins (loglet_of room es held marks m) op marks.begun (loglet_of room es' held marks' n)
begins room es held marks marks' m n op es' reached within free em e u =
    let cut = cut_rises op marks.cut marks.reach reached in
    let size : size_of (loglet_of room es held marks m) ≡ length es = size_is es marks.cut (omega (arith, reached, within)) in
    let new : Pending = record { task = task_of op; size = length es; reach = marks.reach; firm = marks.firm; shut = is_sealed held.server; faults = counted held.disk.faults marks.refusals; down = down_of held.server.up; answer = None } in
    let same : operation_of new ≡ begun_operation (loglet_of room es held marks m) op (1, 0) = ap (λ (k : ℕ). record (operation_of new) { size = k }) (sym size) in
    let log : drop (cut_by op marks.cut marks.reach) es' ≡ drop (cut_by op marks.cut marks.reach - marks.cut) (drop marks.cut es) ++ entries_of op =
    ap (λ (xs : List Entry). drop (cut_by op marks.cut marks.reach) xs) e ∙ log_begun es (entries_of op) marks.cut (cut_by op marks.cut marks.reach) cut.0 (omega (arith, cut.1, within)) in
    rw em (record {
      room = λ full. elim full [ inl x ↦ free (inl (x.0, sym size ∙ x.1)) | inr y ↦ free (inr y) ];
      ticket = refl;
      left = (1, 0);
      operation = λ q. subst (λ (o : Operation). operation_at (map shown n.entries) q ≡ (if nat_eq marks.begun q then Some o else operation_at (map shown m.entries) q)) same (puts m n marks.begun (Some new) u q);
      rest = rw log refl;
    })

-- a refusal counts as a fault
count_refused : (f r : ℕ) → counted f (min (r + 1) (2 ^ 64 - 1)) ≡ bumped (counted f r)
count_refused f r = omega arith

pub refuses : (room : ℕ) (es : List Entry) (held : Held) (marks marks' : Marks) (m : PendingMap) (op : Op) → marks.cut ≤ length es → ((IsAppend op × (length es ≡ room)) ⊎ (marks.begun ≡ 2 ^ 62)) → marks' ≡ record marks { refusals = min (marks.refusals + 1) (2 ^ 64 - 1) }
    → IsFull (loglet_of room es held marks m) op × (loglet_of room es held marks' m ≡ record (loglet_of room es held marks m) { faults = bumped (counted held.disk.faults marks.refusals) })
refuses room es held marks marks' m op within full em =
    let size = size_is es marks.cut within in
    rw em (elim full [ inl x ↦ inl (x.0, size ∙ x.1) | inr y ↦ inr y ], rw (count_refused held.disk.faults marks.refusals) refl)
