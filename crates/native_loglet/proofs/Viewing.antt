-- What a native loglet shows is what clients see of its cell.
use Rattle.std.proofs.Common.{◌≡◌, ℕ, suc, ◌+◌, ◌*◌, ◌^◌, ◌<◌, ◌≤◌, Bool, true, false, cond, refl, sym, ◌∙◌, ap, subst, arith, List, [], ◌∷◌, map, length, get_or, Option, Some, None}
use Rattle.std.specs.Prelude.{not, count_by, if◌then◌else◌}
use Rattle.std.proofs.lemmas.List.{length-drop, length-map}
use Rattle.std.proofs.lemmas.List.Sums.{sum_by-cons}
use Rattle.delos_types.specs.declared.entry.Entry.{Entry}
use Rattle.quorum_cell.specs.declared.operation.Outcome.{Outcome}
use Rattle.majority_rule.specs.Majority.{majority, is_majority, votes_below}
use Rattle.quorum_cell.specs.Servers.{Server, is_sealed}
use Rattle.quorum_cell.specs.Cells.{Cell, Operation, operation, no_operation, no_server}
use Rattle.majority_rule.proofs.Majorities.{votes_first}
use Rattle.quorum_cell.proofs.Steps.{cut_within}
use Rattle.cell_views.specs.Views.{Manner, IsManner, cell_view, operation_view, open_from, left_of}
use Rattle.log_server.specs.View.{View}
use Rattle.native_plan.specs.declared.pending.Pending.{Pending}
use Rattle.native_plan.specs.Pendings.{plan_left, left_by}
use Rattle.native_ties.specs.Parts.{IsPartOf, IsBounded}
use Rattle.native_ties.proofs.Bounds.{bounded}
use Rattle.native_loglet.specs.Natives.{Native, PendingList, server_in, down_in, shut_in, shown, shown_by, shown_from, look_in, loglet_of, left_for, left_in, manner_of, IsOpenAs, IsCellOf}

---- servers are counted as votes

pub count_servers : (vote : Server → Bool) (vs : List View) → count_by (λ (v : View). vote v.server) vs ≡ votes_below (length (map server_in vs)) (λ i. vote (get_or (map server_in vs) i no_server))
count_servers vote [] = refl
count_servers vote (v ∷ vs) = sum_by-cons (λ (x : View). cond (vote x.server) 1 0) v vs ∙ rw (votes_first (length (map server_in vs)) (λ i. vote (get_or (map server_in (v ∷ vs)) i no_server))) (at (vote v.server) (count_servers vote vs))
  where
    at : (b : Bool) → count_by (λ (x : View). vote x.server) vs ≡ votes_below (length (map server_in vs)) (λ i. vote (get_or (map server_in vs) i no_server)) → cond b 1 0 + count_by (λ (x : View). vote x.server) vs ≡ (if b then 1 else 0) + votes_below (length (map server_in vs)) (λ i. vote (get_or (map server_in vs) i no_server))
    at true e = omega (arith, e)
    at false e = omega (arith, e)

---- the open operations

abbrev IsShown : ℕ → (ℕ → ℕ × ℕ) → ℕ → Operation → Option Pending → Type 0
IsShown n left t o None = o.closed ≡ true
IsShown n left t o (Some p) = (o.closed ≡ false) × (operation_view n o (left t) ≡ shown p)

shown_is : (n : ℕ) (left : ℕ → ℕ × ℕ) (look : ℕ → Option Pending) (t : ℕ) (os : List Operation) → ((j : ℕ) → IsShown n left (t + j) (get_or os j no_operation) (look (t + j))) → shown_from look t (length os) ≡ open_from n left t os
shown_is n left look t [] h = refl
shown_is n left look t (o ∷ os) h = both (look t) head (shown_is n left look (suc t) os (λ j. (let next : t + suc j ≡ suc t + j = omega arith in subst (λ k. IsShown n left k (get_or os j no_operation) (look k)) next (h (suc j)))))
  where
    head : IsShown n left t o (look t)
    head = (let here : t + 0 ≡ t = omega arith in subst (λ k. IsShown n left k o (look k)) here (h 0))

    both : (z : Option Pending) → IsShown n left t o z → shown_from look (suc t) (length os) ≡ open_from n left (suc t) os → shown_by t z (shown_from look (suc t) (length os)) ≡ (if o.closed then open_from n left (suc t) os else (t, operation_view n o (left t)) ∷ open_from n left (suc t) os)
    both None e r = rw (e, r) refl
    both (Some p) e r = rw (e.0, e.1, r) refl

-- what is left of each open operation that is undecided
abbrev pub FitsLeft : (ℕ → ℕ × ℕ) → PendingList → Type 0
FitsLeft left pending = (t : ℕ) (p : Pending) → look_in pending t ≡ Some p → p.outcome ≡ None → left t ≡ plan_left p

left_is : (z : Option Outcome) (l m : ℕ × ℕ) → (z ≡ None → l ≡ m) → left_of z l ≡ left_by z m
left_is None l m h = h refl
left_is (Some a) l m h = refl

pub part_shown : (c : Cell) (t : ℕ) (p : Pending) (l : ℕ × ℕ) → (p.outcome ≡ None → l ≡ plan_left p) → IsPartOf c t p → operation_view (length c.servers) (operation c t) l ≡ shown p
part_shown c t p l fits h =
    let left : left_of (operation c t).decided l ≡ left_by p.outcome (plan_left p) = ap (λ z. left_of z l) h.outcome ∙ left_is p.outcome l (plan_left p) fits in
    λ i. record { task = h.shows.task i; size = h.shows.size i; reach = h.shows.reach i; firm = h.shows.firm i; shut = h.shows.shut i; faults = h.shows.faults i; down = h.shows.down i; left = left i }

open_shown : (c : Cell) (left : ℕ → ℕ × ℕ) (t : ℕ) (z : Option Pending) → ((p : Pending) → z ≡ Some p → p.outcome ≡ None → left t ≡ plan_left p) → IsOpenAs c t z → IsShown (length c.servers) left t (operation c t) z
open_shown c left t None fits h = h
open_shown c left t (Some p) fits h = (h.shows.is_open, part_shown c t p (left t) (fits p refl) h)

operations_are : (a : Native) (c : Cell) (left : ℕ → ℕ × ℕ) → FitsLeft left a.pending → IsCellOf a c → shown_from (look_in a.pending) 0 a.marks.begun ≡ open_from (length c.servers) left 0 c.operations
operations_are a c left fits h = ap (shown_from (look_in a.pending) 0) (sym h.begun) ∙ shown_is (length c.servers) left (look_in a.pending) 0 c.operations (λ j. (let here : 0 + j ≡ j = omega arith in subst (λ k. IsShown (length c.servers) left k (get_or c.operations j no_operation) (look_in a.pending k)) (sym here) (open_shown c left j (look_in a.pending j) (fits j) (h.operations j))))

---- what it shows

pub servers_many : (a : Native) (c : Cell) → IsCellOf a c → length a.replicas ≡ length c.servers
servers_many a c h = sym (length-map a.replicas server_in) ∙ sym (ap (λ (ss : List Server). length ss) h.servers)

-- the entries that are kept are those of the cell from its cut on
pub size_is : (a : Native) (c : Cell) → IsCellOf a c → length c.entries ≡ a.marks.cut + length a.entries
size_is a c h = (let within : c.cut ≤ length c.entries = cut_within c h.lawful.law.quorum in omega (arith, within, length-drop c.cut c.entries, ap (λ (es : List Entry). length es) h.entries, h.cut))

pub down_is : (a : Native) (c : Cell) → IsCellOf a c → down_in a.replicas ≡ votes_below (length c.servers) (λ i. not (get_or c.servers i no_server).up)
down_is a c h = count_servers (λ s. not s.up) a.replicas ∙ ap (λ (ss : List Server). votes_below (length ss) (λ i. not (get_or ss i no_server).up)) (sym h.servers)

pub shut_is : (a : Native) (c : Cell) → IsCellOf a c → shut_in a.replicas ≡ is_majority (length c.servers) (λ i. is_sealed (get_or c.servers i no_server))
shut_is a c h =
    let counted : count_by (λ (v : View). is_sealed v.server) a.replicas ≡ votes_below (length c.servers) (λ i. is_sealed (get_or c.servers i no_server)) = count_servers is_sealed a.replicas ∙ ap (λ (ss : List Server). votes_below (length ss) (λ i. is_sealed (get_or ss i no_server))) (sym h.servers) in
    rw (servers_many a c h, counted) refl

-- a loglet that tells its kind and 7 rounds
abbrev pub manner_with : Native → (ℕ → ℕ × ℕ) → Manner
manner_with a left = record (manner_of a) { left = left }

pub view_is : (a : Native) (c : Cell) (left : ℕ → ℕ × ℕ) → FitsLeft left a.pending → IsCellOf a c → loglet_of a ≡ cell_view (manner_with a left) c
view_is a c left fits h =
    let many : length a.replicas ≡ length c.servers = servers_many a c h in
    let down_same = down_is a c h in
    let shut_same = shut_is a c h in
    let operations_same = operations_are a c left fits h in
    λ i. record {
      kind = (manner_of a).kind;
      servers = many i;
      quorum = majority (many i);
      room = sym h.room i;
      rounds = 7;
      limit = sym h.limit i;
      cut = sym h.cut i;
      log = sym h.entries i;
      reach = sym h.reach i;
      cap = sym h.cap i;
      firm = sym h.firm i;
      shut = shut_same i;
      operations = operations_same i;
      faults = sym h.faults i;
      down = down_same i;
      begun = sym h.begun i;
      seals = sym h.seals_are i;
      lacks = sym h.lacks_are i;
    }

---- what is left to do

pub fits_own : (a : Native) → FitsLeft (manner_of a).left a.pending
fits_own a t p is waiting = rw (is, waiting) refl

left_bound : (n : ℕ) (z : Option Pending) → 0 < n → ((p : Pending) → z ≡ Some p → p.outcome ≡ None → IsBounded n p) → (0 < (left_in z).0 + (left_in z).1) × ((left_in z).0 ≤ 7) × ((left_in z).1 < 2 ^ 53 * n)
left_bound n None some h = (omega arith, omega arith, omega (arith, some))
left_bound n (Some p) some h = by p.outcome refl
  where
    by : (z : Option Outcome) → p.outcome ≡ z → (0 < (left_for z (plan_left p)).0 + (left_for z (plan_left p)).1) × ((left_for z (plan_left p)).0 ≤ 7) × ((left_for z (plan_left p)).1 < 2 ^ 53 * n)
    by None e = (let b = h p refl e in (omega (arith, b.some), b.first, b.second))
    by (Some x) e = (omega arith, omega arith, omega (arith, some))

pub manner_is : (a : Native) (c : Cell) → IsCellOf a c → IsManner (length c.servers) (manner_of a)
manner_is a c h = record {
  rounds = omega arith;
  undecided = λ t. (bound t).0;
  first = λ t. (bound t).1;
  second = λ t. (bound t).2;
}
  where
    part_of : (t : ℕ) (z : Option Pending) (p : Pending) → z ≡ Some p → IsOpenAs c t z → IsPartOf c t p
    part_of t z p e o = subst (IsOpenAs c t) e o

    small : length c.entries ≤ 2 ^ 32
    small = omega (arith, h.lawful.law.quorum.fits, h.lawful.shape.room.1)

    bound : (t : ℕ) → (0 < (left_in (look_in a.pending t)).0 + (left_in (look_in a.pending t)).1) × ((left_in (look_in a.pending t)).0 ≤ 7) × ((left_in (look_in a.pending t)).1 < 2 ^ 53 * length c.servers)
    bound t = left_bound (length c.servers) (look_in a.pending t) h.lawful.law.quorum.some (λ p e w. bounded c t p (part_of t (look_in a.pending t) p e (h.operations t)) w small)
