-- No server is sealed where no seal was begun.
use Rattle.std.proofs.Common.{◌++◌, cond, ◌≤◌, ◌≡◌, ℕ, zero, suc, ◌<◌, Bool, true, false, refl, ap, sym, ◌∙◌, subst, arith, List, [], ◌∷◌, length, get_or, set, Option, Some, None, inl, inr, replicate}
use Rattle.std.specs.Prelude.{if◌then◌else◌, ◌⊎◌, ◌&&◌, not, nat_lt, is_some, slice_get, All, option_map}
use Rattle.std.specs.List.{list_any}
use Rattle.std.proofs.lemmas.Bool.{false≢true, or_from, cases_lt}
use Rattle.std.proofs.lemmas.Bool.Decides.{nat_tests}
use Rattle.std.proofs.lemmas.Option.{none-some, same_Some}
use Rattle.std.proofs.lemmas.List.Elements.{All-push, All-nil, All-contains}
use Rattle.quorum_cell.specs.declared.operation.Aim.{Aim}
use Rattle.quorum_cell.specs.declared.operation.Aim.TheVariants.{Read as AimRead}
use Rattle.quorum_cell.specs.declared.operation.Outcome.{Outcome}
use Rattle.delos_types.specs.declared.entry.Entry.{Entry}
use Rattle.quorum_cell.specs.declared.message.Ask.{Ask}
use Rattle.quorum_cell.specs.declared.message.Ask.TheVariants.{Store, Seal, Tail, Repair, Read, Trim}
use Rattle.quorum_cell.specs.declared.message.Told.{Told}
use Rattle.quorum_cell.specs.declared.message.Told.TheVariants.{Down, DiskFault}
use Rattle.quorum_cell.specs.declared.message.Request.{Request}
use Rattle.quorum_cell.specs.declared.message.Reply.{Reply}
use Rattle.quorum_cell.specs.declared.operation.Wish.{Wish}
use Rattle.quorum_cell.specs.declared.operation.Wish.TheVariants.{Store as WishStore, Seal as WishSeal, Tail as WishTail, Repair as WishRepair, Read as WishRead, Trim as WishTrim}
use Rattle.quorum_cell.specs.declared.operation.CellStep.{CellStep}
use Rattle.quorum_cell.specs.declared.operation.CellStep.TheVariants.{Begin, Send, RequestComes, RequestStops, ReplyComes, Lose, Restart, RestartFails, Decide, Take, Forget}
use Rattle.quorum_cell.specs.Servers.{Server, is_sealed, writes, wrote, written, restarted, told, told_up}
use Rattle.quorum_cell.specs.Cells.{Cell, Operation, server, operation, no_server, no_operation, start, is_shut, seals, is_seal}
use Rattle.quorum_cell.specs.Law.{IsUnsealed, CellLaw}
use Rattle.quorum_cell.specs.Tallies.{says_sealed, sealed_told, may_decide}
use Rattle.quorum_cell.specs.Steps.{cell_step, run_cell, begun, sent, ask_for, ask_read, answered, request_comes, request_stops, waits, reply_comes, lose, restart, give, is_full, admit, with_fault, put_operation, given_outcome}
use Rattle.quorum_cell.proofs.Lists.{at_set, at_push, contained, one_of}
use Rattle.majority_rule.proofs.Majorities.{majorities_meet}
use Rattle.quorum_cell.proofs.Runs.{start_keeps, step_keeps, step_later}
use Rattle.std.proofs.lemmas.List.Sums.{sum_by-append}

-- a server that takes no seal stays open, and tells so
open_written : (s : Server) (ask : Ask) → is_sealed s ≡ false → (ask ≡ Seal → ⊥) → is_sealed (written s ask) ≡ false
open_written s ask h n = by (writes s ask)
  where
    wrote_open : (a : Ask) → (a ≡ Seal → ⊥) → is_sealed (wrote s a) ≡ false
    wrote_open (Store p e) k = h
    wrote_open Seal k = absurd (k refl)
    wrote_open Tail k = h
    wrote_open (Repair p e) k = h
    wrote_open (Read p) k = h
    wrote_open (Trim m) k = h

    by : (b : Bool) → is_sealed (if b then wrote s ask else s) ≡ false
    by true = wrote_open ask n
    by false = h

written_torn : (s : Server) (ask : Ask) → (written s ask).torn ≡ s.torn
written_torn s ask = by (writes s ask)
  where
    wrote_torn : (a : Ask) → (wrote s a).torn ≡ s.torn
    wrote_torn (Store p e) = refl
    wrote_torn Seal = refl
    wrote_torn Tail = refl
    wrote_torn (Repair p e) = refl
    wrote_torn (Read p) = refl
    wrote_torn (Trim m) = refl

    by : (b : Bool) → (if b then wrote s ask else s).torn ≡ s.torn
    by true = wrote_torn ask
    by false = refl

store_tells : (s : Server) (p : ℕ) (e : Entry) → is_sealed s ≡ false → is_some (sealed_told (told_up s (Store p e))) ≡ false
store_tells s p e h = grind (arith, nat_tests)

tail_tells : (s : Server) → is_sealed s ≡ false → is_some (sealed_told (told_up s Tail)) ≡ false
tail_tells s h = grind (arith, nat_tests)

repair_tells : (s : Server) (p : ℕ) (e : Entry) → is_sealed s ≡ false → is_some (sealed_told (told_up s (Repair p e))) ≡ false
repair_tells s p e h = grind (arith, nat_tests)

read_tells : (s : Server) (p : ℕ) → is_some (sealed_told (told_up s (Read p))) ≡ false
read_tells s p = grind (arith, nat_tests)

open_tells : (s : Server) (ask : Ask) → is_sealed s ≡ false → (ask ≡ Seal → ⊥) → is_some (sealed_told (told s ask)) ≡ false
open_tells s ask h n = by s.up
  where
    up_tells : (a : Ask) → (a ≡ Seal → ⊥) → is_some (sealed_told (told_up s a)) ≡ false
    up_tells (Store p e) k = store_tells s p e h
    up_tells Seal k = absurd (k refl)
    up_tells Tail k = tail_tells s h
    up_tells (Repair p e) k = repair_tells s p e h
    up_tells (Read p) k = read_tells s p
    up_tells (Trim m) k = refl

    by : (b : Bool) → is_some (sealed_told (if b then told_up s ask else Down)) ≡ false
    by true = up_tells ask n
    by false = refl

restarted_open : (s : Server) (kept : Bool) (torn : Option Ask) → is_sealed s ≡ false → s.torn ≡ torn → (torn ≡ Some Seal → ⊥) → (is_sealed (restarted s kept torn) ≡ false) × ((restarted s kept torn).torn ≡ Some Seal → ⊥)
restarted_open s kept None h is n = (h, λ e. n (sym is ∙ e))
restarted_open s true (Some ask) h is n = (open_written _ ask h (λ e. n (ap Some e)), λ e. none-some Seal (sym (written_torn (record s { up = true; torn = None }) ask) ∙ e))
restarted_open s false (Some ask) h is n = (h, λ e. none-some Seal e)

answered_open : (c : Cell) (q : Request) (s : Server) (t : Told) → IsUnsealed c → (is_sealed s ≡ false) × (s.torn ≡ Some Seal → ⊥) → is_some (sealed_told t) ≡ false → IsUnsealed (answered c q s t)
answered_open c q s t h so to = record {
  servers = at_set (λ j (x : Server). (is_sealed x ≡ false) × (x.torn ≡ Some Seal → ⊥)) c.servers q.server s no_server h.servers (λ _. so);
  requests = h.requests;
  replies = All-push (λ r. says_sealed r ≡ false) c.replies (record { ticket = q.ticket; server = q.server; ask = q.ask; told = t }) h.replies to;
  operations = h.operations;
}

comes_open : (c : Cell) (k : ℕ) (q : Option Request) → slice_get c.requests k ≡ q → IsUnsealed c → IsUnsealed (request_comes c q)
comes_open c k None at h = h
comes_open c k (Some q) at h = answered_open c q _ _ h (by s.up) (open_tells s q.ask (h.servers q.server).0 no_seal)
  where
    s : Server
    s = server c q.server

    no_seal : q.ask ≡ Seal → ⊥
    no_seal = All-contains (λ (p : Request). p.ask ≡ Seal → ⊥) c.requests q h.requests (contained c.requests k q at)

    by : (b : Bool) → (is_sealed (if b then written (server c q.server) q.ask else server c q.server) ≡ false) × ((if b then written (server c q.server) q.ask else server c q.server).torn ≡ Some Seal → ⊥)
    by true = (open_written (server c q.server) q.ask (h.servers q.server).0 no_seal, λ e. (h.servers q.server).1 (sym (written_torn (server c q.server) q.ask) ∙ e))
    by false = h.servers q.server

stops_open : (c : Cell) (k : ℕ) (q : Option Request) → slice_get c.requests k ≡ q → IsUnsealed c → IsUnsealed (request_stops c q)
stops_open c k None at h = h
stops_open c k (Some q) at h = by ((server c q.server).up && writes (server c q.server) q.ask)
  where
    no_seal : q.ask ≡ Seal → ⊥
    no_seal = All-contains (λ (p : Request). p.ask ≡ Seal → ⊥) c.requests q h.requests (contained c.requests k q at)

    by : (b : Bool) → IsUnsealed (if b then answered (with_fault c q.server) q (record (server c q.server) { up = false; torn = Some q.ask }) DiskFault else c)
    by true = answered_open (with_fault c q.server) q (record (server c q.server) { up = false; torn = Some q.ask }) DiskFault (record { servers = h.servers; requests = h.requests; replies = h.replies; operations = h.operations }) ((h.servers q.server).0, λ e. no_seal (same_Some q.ask Seal e)) refl
    by false = h

restart_open : (c : Cell) (i : ℕ) (kept : Bool) → IsUnsealed c → IsUnsealed (restart c i kept)
restart_open c i kept h = by (server c i).up
  where
    by : (b : Bool) → IsUnsealed (if b then c else record c { servers = set c.servers i (restarted (server c i) kept (server c i).torn) })
    by true = h
    by false = record { servers = at_set (λ j (x : Server). (is_sealed x ≡ false) × (x.torn ≡ Some Seal → ⊥)) c.servers i _ no_server h.servers (λ _. restarted_open (server c i) kept (server c i).torn (h.servers i).0 refl (h.servers i).1); requests = h.requests; replies = h.replies; operations = h.operations }

-- an operation in the place of t
put_open : (c : Cell) (t : ℕ) (o : Operation) (d : Cell) → d.servers ≡ c.servers → d.requests ≡ c.requests → d.replies ≡ c.replies → d.operations ≡ set c.operations t o → IsUnsealed c → (is_seal o.aim ≡ false) × All (λ r. says_sealed r ≡ false) o.heard → IsUnsealed d
put_open c t o d es eq er eo h oo = record {
  servers = λ i. subst (λ ss. (is_sealed (get_or ss i no_server) ≡ false) × ((get_or ss i no_server).torn ≡ Some Seal → ⊥)) (sym es) (h.servers i);
  requests = subst (All (λ (q : Request). q.ask ≡ Seal → ⊥)) (sym eq) h.requests;
  replies = subst (All (λ r. says_sealed r ≡ false)) (sym er) h.replies;
  operations = λ k. subst (λ os. (is_seal (get_or os k no_operation).aim ≡ false) × All (λ r. says_sealed r ≡ false) (get_or os k no_operation).heard) (sym eo) (at_set (λ j (x : Operation). (is_seal x.aim ≡ false) × All (λ r. says_sealed r ≡ false) x.heard) c.operations t o no_operation h.operations (λ _. oo) k);
}

none_heard : (rs : List Reply) → All (λ r. says_sealed r ≡ false) rs → list_any says_sealed rs ≡ false
none_heard rs h = by (list_any says_sealed rs) refl
  where
    by : (b : Bool) → list_any says_sealed rs ≡ b → b ≡ false
    by true e = let found : (x : Reply) × (says_sealed x ≡ false) × (says_sealed x ≡ true) = one_of (λ r. says_sealed r ≡ false) says_sealed rs h e in absurd (false≢true (sym found.1 ∙ found.2))
    by false e = refl

asked_open : (c : Cell) (t : ℕ) (wish : Wish) (a : Ask) → IsUnsealed c → ask_for c (operation c t) wish ≡ Some a → a ≡ Seal → ⊥
asked_open c t (WishStore p) a h z e = at (slice_get c.entries p) z
  where
    at : (x : Option Entry) → option_map (λ y. Store p y) x ≡ Some a → ⊥
    at None y = none-some a y
    at (Some x) y = cc
asked_open c t WishSeal a h z e = none-some a (subst (λ b. (if b then Some Seal else None) ≡ Some a) (or_from _ _ (h.operations t).0 (none_heard (operation c t).heard (h.operations t).1)) z)
asked_open c t WishTail a h z e = cc
asked_open c t (WishRepair p) a h z e = at (slice_get c.entries p) z
  where
    at : (x : Option Entry) → option_map (λ y. Repair p y) x ≡ Some a → ⊥
    at None y = none-some a y
    at (Some x) y = cc
asked_open c t WishRead a h z e = at (operation c t).aim z
  where
    at : (aim : Aim) → ask_read aim ≡ Some a → ⊥
    at (AimRead p) y = cc
    at _ y = none-some a y
asked_open c t WishTrim a h z e = cc

sent_open : (c : Cell) (t i : ℕ) (ask : Option Ask) → IsUnsealed c → ((a : Ask) → ask ≡ Some a → a ≡ Seal → ⊥) → IsUnsealed (sent c t i ask)
sent_open c t i None h n = h
sent_open c t i (Some ask) h n = record { servers = h.servers; requests = All-push (λ (q : Request). q.ask ≡ Seal → ⊥) c.requests (record { ticket = t; server = i; ask = ask }) h.requests (n ask refl); replies = h.replies; operations = h.operations }

give_open : (c : Cell) (t : ℕ) (a : Option Outcome) → IsUnsealed c → IsUnsealed (give c t (operation c t) a)
give_open c t None h = h
give_open c t (Some a) h = put_open c t (record (operation c t) { given = Some (given_outcome c.cut (operation c t).aim a); closed = true }) _ refl refl refl refl h (h.operations t)

fault_open : (c : Cell) (i : ℕ) → IsUnsealed c → IsUnsealed (with_fault c i)
fault_open c i h = record { servers = h.servers; requests = h.requests; replies = h.replies; operations = h.operations }

-- only a seal that begins seals
pub step_open : (c : Cell) (step : CellStep) → seals (cell_step c step) ≡ 0 → IsUnsealed c → IsUnsealed (cell_step c step)
step_open c (Begin aim) n h = by (is_full c aim) n
  where
    no_seal : (b : Bool) → cond b 1 0 ≤ 0 → b ≡ false
    no_seal true e = absurd (omega (arith, e))
    no_seal false e = refl

    by : (b : Bool) → seals (if b then with_fault c (length c.servers) else admit c aim) ≡ 0 → IsUnsealed (if b then with_fault c (length c.servers) else admit c aim)
    by true z = fault_open c (length c.servers) h
    by false z = record {
      servers = h.servers;
      requests = h.requests;
      replies = h.replies;
      operations = at_push (λ j (x : Operation). (is_seal x.aim ≡ false) × All (λ r. says_sealed r ≡ false) x.heard) c.operations (begun c aim) no_operation h.operations (no_seal (is_seal aim) (omega (arith, z, sum_by-append (λ (x : Operation). cond (is_seal x.aim) 1 0) c.operations (begun c aim ∷ []))), All-nil (λ r. says_sealed r ≡ false));
    }
step_open c (Send t i wish) n h = by (not (operation c t).closed && nat_lt i (length c.servers))
  where
    by : (b : Bool) → IsUnsealed (if b then sent c t i (ask_for c (operation c t) wish) else c)
    by true = sent_open c t i (ask_for c (operation c t) wish) h (λ a z. asked_open c t wish a h z)
    by false = h
step_open c (RequestComes k) n h = comes_open c k (slice_get c.requests k) refl h
step_open c (RequestStops k) n h = stops_open c k (slice_get c.requests k) refl h
step_open c (ReplyComes k) n h = at (slice_get c.replies k) refl
  where
    at : (r : Option Reply) → slice_get c.replies k ≡ r → IsUnsealed (reply_comes c r)
    at None e = h
    at (Some r) e = by (waits (operation c r.ticket))
      where
        by : (b : Bool) → IsUnsealed (if b then put_operation c r.ticket (record (operation c r.ticket) { heard = (operation c r.ticket).heard ++ r ∷ [] }) else c)
        by true = put_open c r.ticket (record (operation c r.ticket) { heard = (operation c r.ticket).heard ++ r ∷ [] }) _ refl refl refl refl h ((h.operations r.ticket).0, All-push (λ x. says_sealed x ≡ false) (operation c r.ticket).heard r (h.operations r.ticket).1 (All-contains (λ x. says_sealed x ≡ false) c.replies r h.replies (contained c.replies k r e)))
        by false = h
step_open c (Lose k) n h = at (slice_get c.requests k)
  where
    at : (q : Option Request) → IsUnsealed (lose c k q)
    at None = h
    at (Some q) = by (waits (operation c q.ticket))
      where
        by : (b : Bool) → IsUnsealed (if b then put_operation (with_fault c q.server) q.ticket (record (operation c q.ticket) { lost = (operation c q.ticket).lost ++ record { message = k; server = q.server } ∷ [] }) else c)
        by true = put_open c q.ticket (record (operation c q.ticket) { lost = (operation c q.ticket).lost ++ record { message = k; server = q.server } ∷ [] }) _ refl refl refl refl h (h.operations q.ticket)
        by false = h
step_open c (Restart i kept) n h = restart_open c i kept h
step_open c (RestartFails i) n h = by (nat_lt i (length c.servers) && not (server c i).up)
  where
    by : (b : Bool) → IsUnsealed (if b then with_fault c i else c)
    by true = fault_open c i h
    by false = h
step_open c (Decide t a) n h = by (waits (operation c t) && may_decide (length c.servers) c.cut (operation c t) (operation c t).aim a)
  where
    by : (b : Bool) → IsUnsealed (if b then put_operation c t (record (operation c t) { decided = Some a }) else c)
    by true = put_open c t (record (operation c t) { decided = Some a }) _ refl refl refl refl h (h.operations t)
    by false = h
step_open c (Take t) n h = by (operation c t).closed
  where
    by : (b : Bool) → IsUnsealed (if b then c else give c t (operation c t) (operation c t).decided)
    by true = h
    by false = give_open c t (operation c t).decided h
step_open c (Forget t) n h = by (operation c t).closed
  where
    by : (b : Bool) → IsUnsealed (if b then c else put_operation c t (record (operation c t) { closed = true }))
    by true = h
    by false = put_open c t (record (operation c t) { closed = true }) _ refl refl refl refl h (h.operations t)

start_open : (n room limit : ℕ) → IsUnsealed (start n room limit)
start_open n room limit = record {
  servers = at_replicate n;
  requests = All-nil (λ (q : Request). q.ask ≡ Seal → ⊥);
  replies = All-nil (λ r. says_sealed r ≡ false);
  operations = λ t. (refl, All-nil (λ r. says_sealed r ≡ false));
}
  where
    at_replicate : (m : ℕ) (i : ℕ) → (is_sealed (get_or (replicate m (record no_server { up = true })) i no_server) ≡ false) × ((get_or (replicate m (record no_server { up = true })) i no_server).torn ≡ Some Seal → ⊥)
    at_replicate zero i = (refl, λ e. none-some Seal e)
    at_replicate (suc m) zero = (refl, λ e. none-some Seal e)
    at_replicate (suc m) (suc i) = at_replicate m i

---- the whole law

pub cell_law_kept : (c : Cell) (step : CellStep) → CellLaw c → CellLaw (cell_step c step)
cell_law_kept c step law = record {
  quorum = step_keeps c step law.quorum;
  unsealed = λ z. step_open c step z (law.unsealed (omega (arith, (step_later c step).seals, z)));
}

pub cell_law_starts : (n room limit : ℕ) → 0 < n → CellLaw (start n room limit)
cell_law_starts n room limit some = record { quorum = start_keeps n room limit some; unsealed = λ _. start_open n room limit }

pub cell_law_runs : (steps : List CellStep) (c : Cell) → CellLaw c → CellLaw (run_cell steps c)
cell_law_runs [] c law = law
cell_law_runs (step ∷ steps) c law = cell_law_runs steps (cell_step c step) (cell_law_kept c step law)

-- a cell that is shut has a seal
pub shut_has_seal : (c : Cell) → CellLaw c → is_shut c ≡ true → 0 < seals c
shut_has_seal c law shut = by (cases_lt 0 (seals c))
  where
    by : ((0 < seals c) ⊎ (seals c ≤ 0)) → 0 < seals c
    by (inl l) = l
    by (inr l) =
        let met : (i : ℕ) × (i < length c.servers) × (is_sealed (server c i) ≡ true) × (is_sealed (server c i) ≡ true) = majorities_meet (length c.servers) (λ i. is_sealed (server c i)) (λ i. is_sealed (server c i)) shut shut in
        let none : seals c ≡ 0 = omega arith in
        absurd (false≢true (sym ((law.unsealed none).servers met.0).0 ∙ met.2))

-- a sealed server takes no store
at_store : (b : ℕ) (es : List Entry) (z : Option ℕ) (u : Bool) (w : Option Ask) (p : ℕ) (e : Entry) → is_some z ≡ true → let s : Server = record { base = b; entries = es; sealed_at = z; up = u; torn = w } in written s (Store p e) ≡ s
at_store b es None u w p e h = absurd (false≢true h)
at_store b es (Some m) u w p e h = refl

pub sealed_takes_none : (s : Server) (p : ℕ) (e : Entry) → is_sealed s ≡ true → written s (Store p e) ≡ s
sealed_takes_none s p e h = at_store s.base s.entries s.sealed_at s.up s.torn p e h
