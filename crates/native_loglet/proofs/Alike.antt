-- Where nothing is seen to change: other servers that hold the same, other maps of the same operations.
use Rattle.std.proofs.Common.{◌≡◌, ℕ, zero, suc, ◌+◌, ◌*◌, ◌^◌, ◌<◌, ◌≤◌, Bool, true, false, nat_eq, refl, sym, ◌∙◌, ap, subst, arith, List, [], ◌∷◌, map, length, get_or, set, Option, Some, None, inr}
use Rattle.std.specs.Prelude.{is_some, count_by, sum_by, IsSome, slice_get}
use Rattle.native_loglet.specs.Natives.{UpdatesAt}
use Rattle.std.specs.Map.{lookup}
use Rattle.std.proofs.lemmas.List.{length-map}
use Rattle.std.proofs.lemmas.Bool.{false≢true}
use Rattle.delos_types.specs.declared.entry.Entry.{Entry}
use Rattle.loglet_api.specs.declared.call.LogletCall.{LogletCall}
use Rattle.loglet_api.specs.declared.call.LogletCall.TheVariants.{Forget as CallForget}
use Rattle.loglet_api.specs.declared.call.LogletAnswer.{LogletAnswer}
use Rattle.loglet_api.specs.declared.call.LogletAnswer.TheVariants.{Forgotten}
use Rattle.delos_types.specs.Spelling.{IsSpellable}
use Rattle.loglet_api.specs.View.{LogletView, operation_at, IsOpen}
use Rattle.loglet_api.specs.Step.{LogletStep, CanCall, Does, Moves, HasLeft}
use Rattle.quorum_cell.specs.declared.operation.Outcome.{Outcome}
use Rattle.quorum_cell.specs.declared.operation.CellStep.TheVariants.{Forget}
use Rattle.majority_rule.specs.Majority.{votes_below}
use Rattle.quorum_cell.specs.Servers.{Server}
use Rattle.quorum_cell.specs.Cells.{Cell, no_server}
use Rattle.quorum_cell.specs.Steps.{cell_step}
use Rattle.quorum_cell.proofs.Lists.{slice_get_drop}
use Rattle.cell_views.specs.Views.{Manner, cell_view}
use Rattle.log_server.specs.View.{View}
use Rattle.native_plan.specs.declared.pending.Pending.{Pending}
use Rattle.native_plan.specs.Members.{left_to}
use Rattle.native_plan.specs.Plans.{goal_of, end_of}
use Rattle.native_plan.specs.Pendings.{plan_left, left_by, left_now}
use Rattle.native_ties.specs.Parts.{IsBounded}
use Rattle.native_ties.proofs.Bounds.{bounded}
use Rattle.native_loglet.specs.declared.marks.Marks.{Marks}
use Rattle.native_loglet.specs.Natives.{Native, NativeView, PendingList, native_of, server_in, shown, look_in, loglet_of, manner_of, IsOpenAs, IsMail, IsCellOf}
use Rattle.native_loglet.specs.declared.mail.Mail.{Mail}
use Rattle.native_loglet.proofs.Mails.{same_strays}
use Rattle.native_loglet.proofs.Viewing.{size_is, count_servers, servers_many, FitsLeft, view_is, fits_own}
use Rattle.native_loglet.proofs.Stirring.{run_moves}
use Rattle.native_loglet.proofs.Stepping.{own_view, same_manner, step_same, open_is, open_there, seen_is, Keeps, forgets}

-- a native loglet that is a cell's
abbrev pub IsOwned : Native → Type 0
IsOwned a = (c : Cell) × IsCellOf a c

---- servers that hold the same

pub counts_alike : (vote : Server → Bool) (vs ws : List View) → map server_in ws ≡ map server_in vs → count_by (λ (v : View). vote v.server) ws ≡ count_by (λ (v : View). vote v.server) vs
counts_alike vote vs ws e = count_servers vote ws ∙ ap (λ (ss : List Server). votes_below (length ss) (λ i. vote (get_or ss i no_server))) e ∙ sym (count_servers vote vs)

pub many_alike : (vs ws : List View) → map server_in ws ≡ map server_in vs → length ws ≡ length vs
many_alike vs ws e = sym (length-map ws server_in) ∙ ap (λ (ss : List Server). length ss) e ∙ length-map vs server_in

pub mapped : (vs : List View) (i : ℕ) (d : View) → i < length vs → get_or (map server_in vs) i no_server ≡ (get_or vs i d).server
mapped [] i d h = absurd (omega (arith, h))
mapped (v ∷ vs) zero d h = refl
mapped (v ∷ vs) (suc i) d h = mapped vs i d (omega (arith, h))

pub map_set : (vs : List View) (i : ℕ) (w : View) → map server_in (set vs i w) ≡ set (map server_in vs) i w.server
map_set [] i w = refl
map_set (v ∷ vs) zero w = refl
map_set (v ∷ vs) (suc i) w = ap (λ (ss : List Server). v.server ∷ ss) (map_set vs i w)

-- a server in its own place
pub set_same : (vs : List View) (i : ℕ) (d w : View) → i < length vs → w.server ≡ (get_or vs i d).server → map server_in (set vs i w) ≡ map server_in vs
set_same [] i d w h e = absurd (omega (arith, h))
set_same (v ∷ vs) zero d w h e = ap (λ (s : Server). s ∷ map server_in vs) e
set_same (v ∷ vs) (suc i) d w h e = ap (λ (ss : List Server). v.server ∷ ss) (set_same vs i d w (omega (arith, h)) e)

---- the same loglet

pub record Alike (a b : Native) : Type 0 where
  pub room : b.room ≡ a.room
  pub entries : b.entries ≡ a.entries
  pub servers : map server_in b.replicas ≡ map server_in a.replicas
  pub marks : b.marks ≡ a.marks
  pub strays : b.strays ≡ a.strays
  pub pending : (t : ℕ) → look_in b.pending t ≡ look_in a.pending t

pub alike_tied : (a b : Native) (c : Cell) → Alike a b → IsCellOf a c → IsCellOf b c
alike_tied a b c k h = record {
  lawful = h.lawful;
  spelled = h.spelled;
  odd = h.odd;
  few = h.few;
  room = h.room ∙ sym k.room;
  limit = h.limit;
  entries = h.entries ∙ sym k.entries;
  servers = h.servers ∙ sym k.servers;
  cut = h.cut ∙ sym (ap (λ (m : Marks). m.cut) k.marks);
  reach = h.reach ∙ sym (ap (λ (m : Marks). m.reach) k.marks);
  firm = h.firm ∙ sym (ap (λ (m : Marks). m.firm) k.marks);
  cap = h.cap ∙ sym (ap (λ (m : Marks). m.cap) k.marks);
  faults = h.faults ∙ sym (ap (λ (m : Marks). m.faults) k.marks);
  begun = h.begun ∙ sym (ap (λ (m : Marks). m.begun) k.marks);
  seals_are = h.seals_are ∙ sym (ap (λ (m : Marks). m.seals) k.marks);
  lacks_are = h.lacks_are ∙ sym (ap (λ (m : Marks). m.lacks) k.marks);
  operations = λ t. subst (IsOpenAs c t) (sym (k.pending t)) (h.operations t);
  strays = same_strays a.strays b.strays (IsMail c) k.strays h.strays;
}

pub alike_shown : (a b : Native) (c : Cell) → Alike a b → IsCellOf a c → loglet_of b ≡ loglet_of a
alike_shown a b c k h =
    let fits : FitsLeft (manner_of a).left b.pending = λ t p is waiting. fits_own a t p (sym (k.pending t) ∙ is) waiting in
    view_is b c (manner_of a).left fits (alike_tied a b c k h) ∙ ap (λ (m : Manner). cell_view m c) (same_manner a b (manner_of a).left (many_alike a.replicas b.replicas k.servers)) ∙ sym (own_view a c h)

pub alike_owned : (a b : Native) → Alike a b → IsOwned a → IsOwned b
alike_owned a b k h = (h.0, alike_tied a b h.0 k h.1)

-- a step that changes nothing
pub step_alike : (a b : Native) (v : LogletView) (call : LogletCall) (answer : LogletAnswer) → loglet_of a ≡ v → IsOwned a → Alike a b → CanCall v call → Does (loglet_of a) call answer (loglet_of a) → LogletStep v call answer (loglet_of b)
step_alike a b v call answer e h k can does = subst (λ (x : LogletView). LogletStep v call answer x) (sym (alike_shown a b h.0 k h.1 ∙ e)) (step_same a h.0 v call answer e h.1 can does)

pub same_owned : (a : Native) (v : LogletView) (call : LogletCall) (answer : LogletAnswer) → loglet_of a ≡ v → IsOwned a → CanCall v call → Does (loglet_of a) call answer (loglet_of a) → LogletStep v call answer v
same_owned a v call answer e h can does = step_same a h.0 v call answer e h.1 can does

pub moves_same : (a : Native) → IsOwned a → Moves (loglet_of a) (loglet_of a)
moves_same a h = subst (λ (x : LogletView). Moves x x) (sym (own_view a h.0 h.1)) (run_moves (manner_of a) (manner_of a).left [] h.0 tt (λ t. inr (refl, omega arith)))

-- where only a server was put in the place of one that holds the same
pub put_alike : (xs : List Mail) (room : ℕ) (es : List Entry) (vs : List View) (marks : Marks) (m : PendingList) (i : ℕ) (was is : View) → i < length vs → was ≡ get_or vs i was → is.server ≡ was.server → Alike (native_of room es vs marks m xs) (native_of room es (set vs i is) marks m xs)
put_alike xs room es vs marks m i was is here there same = record { room = refl; entries = refl; servers = set_same vs i was is here (same ∙ ap server_in there); marks = refl; strays = refl; pending = λ t. refl }

---- open operations

pub shows : {told carried strayed : ℕ} (a : Native) (w : NativeView) → record { loglet = loglet_of a; replicas = a.replicas; told = told; carried = carried; strayed = strayed; parts = a } ≡ w → loglet_of a ≡ w.loglet
shows a w e = ap (λ (x : NativeView). x.loglet) e

pub open_owned : (a : Native) (v : LogletView) (t : ℕ) → loglet_of a ≡ v → IsOwned a → IsOpen v t → IsSome (look_in a.pending t)
open_owned a v t e h there = let z : (p : Pending) × (look_in a.pending t ≡ Some p) = open_is a h.0 v t e h.1 there in ap is_some z.1

pub has_left : (a : Native) (v : LogletView) (t : ℕ) (p : Pending) (x y : ℕ) → loglet_of a ≡ v → IsOwned a → look_in a.pending t ≡ Some p → (x, y) ≡ left_now p → HasLeft v t x y
has_left a v t p x y e h is l = record {
  operation = shown p;
  is = ap (λ (w : LogletView). operation_at w.operations t) (sym e) ∙ seen_is a h.0 t p h.1 is;
  left = sym l;
}

pub none_left : (p : Pending) → is_some p.outcome ≡ true → (0, 0) ≡ left_now p
none_left p h = by p.outcome h
  where
    by : (z : Option Outcome) → is_some z ≡ true → (0, 0) ≡ left_by z (plan_left p)
    by None e = absurd (false≢true e)
    by (Some x) e = refl

pub not_decided : (z : Option Outcome) → is_some z ≡ false → z ≡ None
not_decided None e = refl
not_decided (Some x) e = absurd (false≢true (sym e))

pub left_small : (a : Native) (t : ℕ) (p : Pending) → IsOwned a → look_in a.pending t ≡ Some p → p.outcome ≡ None → (goal_of p.phase p.want ≤ 2 ^ 32) × (sum_by (left_to (end_of p.phase p.want)) p.members.items < 2 ^ 63)
left_small a t p h is waiting =
    let c : Cell = h.0 in
    let small : length c.entries ≤ 2 ^ 32 = omega (arith, h.1.lawful.law.quorum.fits, h.1.lawful.shape.room.1) in
    let b : IsBounded (length c.servers) p = bounded c t p (open_there a c t (Some p) is h.1) waiting small in
    let second : sum_by (left_to (end_of p.phase p.want)) p.members.items < 2 ^ 53 * length c.servers = b.second in
    (b.goal, omega (arith, second, h.1.few))

---- forget

pub forgets_owned : (a b : Native) (v : LogletView) (t : ℕ) → loglet_of a ≡ v → IsOwned a → CanCall v (CallForget t) → Keeps a b → b.marks ≡ a.marks → UpdatesAt a.pending b.pending t None → IsOwned b × LogletStep v (CallForget t) Forgotten (loglet_of b)
forgets_owned a b v t e h can k marks u =
    let z : IsCellOf b (cell_step h.0 (Forget t)) × LogletStep v (CallForget t) Forgotten (loglet_of b) = forgets a b h.0 v t e h.1 can k marks u in
    ((cell_step h.0 (Forget t), z.0), z.1)

---- what each call may rely on

pub entries_spelled : (a : Native) → IsOwned a → (i : ℕ) (e : Entry) → slice_get a.entries i ≡ Some e → IsSpellable e
entries_spelled a h i e is = h.1.spelled (h.0.cut + i) e (sym (slice_get_drop h.0.cut h.0.entries i) ∙ ap (λ (es : List Entry). slice_get es i) h.1.entries ∙ is)

pub entries_small : (a : Native) → IsOwned a → a.marks.cut + length a.entries ≤ 2 ^ 32
entries_small a h = omega (arith, size_is a h.0 h.1, h.1.lawful.law.quorum.fits, h.1.lawful.shape.room.1)

pub cut_small : (a : Native) → IsOwned a → a.marks.cut ≤ 2 ^ 32
cut_small a h = (let all = entries_small a h in omega (arith, all))

pub servers_few : (a : Native) → IsOwned a → length a.replicas ≤ 7
servers_few a h = omega (arith, h.1.few, servers_many a h.0 h.1)

-- where only the map of the operations was put in the place of one with the same entries
pub map_alike : (xs : List Mail) (room : ℕ) (es : List Entry) (vs : List View) (marks : Marks) (m n : PendingList) → n ≡ m → Alike (native_of room es vs marks m xs) (native_of room es vs marks n xs)
map_alike xs room es vs marks m n e = record { room = refl; entries = refl; servers = refl; marks = refl; strays = refl; pending = λ t. ap (lookup (nat_eq t)) e }

-- a server that a call names is there
pub within_servers : (a : Native) (v : LogletView) (i : ℕ) → loglet_of a ≡ v → i < v.servers → i < length a.replicas
within_servers a v i e h = subst (λ (x : LogletView). i < x.servers) (sym e) h

-- where nothing was added
pub added_alike : (xs : List Mail) (room : ℕ) (es fs : List Entry) (vs : List View) (marks : Marks) (m n : PendingList) → fs ≡ es → n ≡ m → Alike (native_of room es vs marks m xs) (native_of room fs vs marks n xs)
added_alike xs room es fs vs marks m n f e = record { room = refl; entries = f; servers = refl; marks = refl; strays = refl; pending = λ t. ap (lookup (nat_eq t)) e }
