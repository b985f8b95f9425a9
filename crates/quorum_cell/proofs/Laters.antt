-- What held still holds in every later cell.
use Rattle.std.proofs.Common.{◌≡◌, ℕ, ◌+◌, ◌≤◌, Bool, true, false, refl, ap, sym, ◌∙◌, arith, List, length, get_or, Option, Some, None}
use Rattle.std.specs.Prelude.{◌&&◌, nat_le, is_some, unwrap_or, All, Contains}
use Rattle.std.proofs.Common.{inl, inr}
use Rattle.std.specs.Prelude.{not, ◌||◌, ◌⊎◌}
use mathlib.Core.Path.{subst₂}
use Rattle.std.proofs.lemmas.Bool.{or_cases, or_left, or_right}
use Rattle.std.proofs.lemmas.Bool.{leb-true, le-leb, ltb-true, lt-ltb, false≢true, and_parts, and_from}
use Rattle.std.proofs.lemmas.List.Elements.{All-weaker}
use Rattle.quorum_cell.specs.declared.message.Ask.{Ask}
use Rattle.quorum_cell.specs.declared.message.Ask.TheVariants.{Store, Seal, Tail, Repair, Read, Trim}
use Rattle.quorum_cell.specs.declared.message.Request.{Request}
use Rattle.quorum_cell.specs.declared.message.Reply.{Reply}
use Rattle.quorum_cell.specs.declared.operation.Aim.{Aim}
use Rattle.quorum_cell.specs.declared.operation.Aim.TheVariants.{Read as AimRead}
use Rattle.quorum_cell.specs.declared.operation.Outcome.{Outcome}
use Rattle.quorum_cell.specs.declared.operation.Outcome.TheVariants.{Gone, NoQuorum}
use Rattle.majority_rule.specs.Majority.{is_majority}
use Rattle.quorum_cell.specs.Tallies.{may_decide}
use Rattle.quorum_cell.specs.Servers.{Server, length_of, is_sealed, unsealed_length}
use Rattle.quorum_cell.specs.declared.operation.Loss.{Loss}
use Rattle.quorum_cell.specs.Cells.{Cell, Operation, server, operation, server_before, no_server}
use Rattle.quorum_cell.specs.Law.{Grows, IsOurs, ServerHolds, RequestHolds, ReplyHolds, SentFor, OperationHolds, Later, faulted, failed_since}
use Rattle.quorum_cell.proofs.Lists.{agrees_at}
use Rattle.majority_rule.proofs.Majorities.{majority_stays}
use Rattle.quorum_cell.proofs.Growing.{grows_twice}

pub cap_stays : (cap : Option ℕ) (t : ℕ) → cap ≡ Some t → (u : ℕ) × (cap ≡ Some u) × (u ≤ t)
cap_stays cap t e = (t, e, omega arith)

-- a sealed server keeps its seal
pub still_sealed : (s t : Server) → Grows s t → is_sealed s ≡ true → is_sealed t ≡ true
still_sealed s t g h = ap is_some (g.sealed h) ∙ h

pub was_open : (s t : Server) → Grows s t → is_sealed t ≡ false → is_sealed s ≡ false
was_open s t g h = by (is_sealed s) refl
  where
    by : (b : Bool) → is_sealed s ≡ b → b ≡ false
    by true e = absurd (false≢true (sym h ∙ still_sealed s t g e))
    by false e = refl

at_same : (z : Option ℕ) (m n : ℕ) → is_some z ≡ true → unwrap_or z m ≡ unwrap_or z n
at_same None m n h = absurd (false≢true h)
at_same (Some k) m n h = refl

pub same_seal : (s t : Server) → Grows s t → is_sealed s ≡ true → unsealed_length t ≡ unsealed_length s
same_seal s t g h = ap (λ z. unwrap_or z (length_of t)) (g.sealed h) ∙ at_same s.sealed_at (length_of t) (length_of s) h

pub ours_later : (c d : Cell) → Later c d → (ask : Ask) → IsOurs c ask → IsOurs d ask
ours_later c d l (Store p e) h = l.entries p e h
ours_later c d l Seal h = h
ours_later c d l Tail h = h
ours_later c d l (Repair p e) h = l.entries p e h
ours_later c d l (Read p) h = h
ours_later c d l (Trim n) h = omega (arith, h, l.cut)

pub server_later : (c d : Cell) → Later c d → (s : Server) → ServerHolds c s → ServerHolds d s
server_later c d l s h = record {
  same = λ k i. h.same k i ∙ agrees_at c.entries d.entries (s.base + k) (omega (arith, h.within)) l.entries;
  trimmed = omega (arith, h.trimmed, l.cut);
  within = omega (arith, h.within, l.room);
  sealed = h.sealed;
  torn = λ ask z. ours_later c d l ask (h.torn ask z);
}

pub request_later : (c d : Cell) → Later c d → (q : Request) → RequestHolds c q → RequestHolds d q
request_later c d l q h = record { known = omega (arith, h.known, l.tickets); ours = ours_later c d l q.ask h.ours }

-- a fault stays one
pub down_later : (c d : Cell) → Later c d → (o : Operation) (i : ℕ) → o.faults_before ≤ length c.faults → failed_since c o i ≡ true → failed_since d o i ≡ true
down_later c d l o i le h = by (or_cases _ _ h)
  where
    by : ((not (server_before o i).up ≡ true) ⊎ (faulted c.faults o.faults_before i ≡ true)) → failed_since d o i ≡ true
    by (inl e) = or_left _ _ e
    by (inr e) = or_right _ _ (l.faulted_still o.faults_before i le e)

pub reply_later : (c d : Cell) → Later c d → ((t : ℕ) → (operation c t).faults_before ≤ length c.faults) → (r : Reply) → ReplyHolds c r → ReplyHolds d r
reply_later c d l before_now r h =
    let faults : (operation c r.ticket).faults_before ≤ length c.faults = before_now r.ticket in
    let g : Grows (server c r.server) (server d r.server) = l.grows r.server in
    let before : server_before (operation d r.ticket) r.server ≡ server_before (operation c r.ticket) r.server = ap (λ ss. get_or ss r.server no_server) (l.before r.ticket h.known) in
    record {
      known = omega (arith, h.known, l.tickets);
      opened = λ n z. (omega (arith, (h.opened n z).0, g.unsealed), ap is_sealed before ∙ (h.opened n z).1, omega (arith, (h.opened n z).2, ap length_of before));
      sealed = λ n z. (still_sealed _ _ g (h.sealed n z).0, omega (arith, same_seal _ _ g (h.sealed n z).0, (h.sealed n z).1), omega (arith, (h.sealed n z).2, g.longer));
      mended = λ n z. (still_sealed _ _ g (h.mended n z).0, omega (arith, (h.mended n z).1, g.longer));
      got = λ p e i j. l.entries p e (h.got p e i j);
      trimmed = λ n z. omega (arith, h.trimmed n z, g.base);
      failed = λ z. subst₂ (λ ss b. (not (get_or ss r.server no_server).up || faulted d.faults b r.server) ≡ true) (sym (l.before r.ticket h.known)) (sym (l.faults_before r.ticket h.known)) (down_later c d l (operation c r.ticket) r.server faults (h.failed z));
    }

pub heard_later : (c d : Cell) → ((r : Reply) → Contains c.replies r → Contains d.replies r) → (t : ℕ) (rs : List Reply) → All (SentFor c t) rs → All (SentFor d t) rs
heard_later c d more t rs h = All-weaker (SentFor c t) (SentFor d t) (λ r k. (k.0, more r k.1)) rs h

-- what it may come to, it may come to later too
may_later : (n cut more : ℕ) (o : Operation) (aim : Aim) (a : Outcome) → cut ≤ more → may_decide n cut o aim a ≡ true → may_decide n more o aim a ≡ true
may_later n cut more o aim (NoQuorum u) le h = h
may_later n cut more o (AimRead p) Gone le h = lt-ltb _ _ (omega (arith, ltb-true _ _ h))
may_later n cut more o _ _ le h = h

pub operation_later : (c d : Cell) → Later c d → ((r : Reply) → Contains c.replies r → Contains d.replies r) →
    (t : ℕ) (o : Operation) → ((i : ℕ) → (server d i).up ≡ false → failed_since d o i ≡ true) → OperationHolds c t o → OperationHolds d t o
operation_later c d l more t o down h = record {
  since = λ i. grows_twice _ _ _ (h.since i) (l.grows i);
  heard = heard_later c d more t o.heard h.heard;
  reach_before = rw l.servers h.reach_before;
  faults = omega (arith, h.faults, l.faults);
  down = down;
  lost = All-weaker (λ (k : Loss). faulted c.faults o.faults_before k.server ≡ true) (λ (k : Loss). faulted d.faults o.faults_before k.server ≡ true) (λ k e. l.faulted_still o.faults_before k.server h.faults e) o.lost h.lost;
  justified = λ a z. rw l.servers (may_later (length c.servers) c.cut d.cut o o.aim a l.cut (h.justified a z));
  size = omega (arith, h.size, l.room);
  reached = omega (arith, h.reached, l.reach);
  firm = omega (arith, h.firm, l.firm);
  settled = h.settled;
  trimmed = h.trimmed;
  ungiven = h.ungiven;
  placed = λ e z. ((h.placed e z).0, l.entries o.size_before e (h.placed e z).1);
}

at_least_later : (m a b : ℕ) → a ≤ b → nat_le m a ≡ true → nat_le m b ≡ true
at_least_later m a b h e = le-leb _ _ (omega (arith, leb-true m a e))

pub reached_later : (c d : Cell) → Later c d → (m : ℕ) → is_majority (length c.servers) (λ i. nat_le m (unsealed_length (server c i))) ≡ true → is_majority (length d.servers) (λ i. nat_le m (unsealed_length (server d i))) ≡ true
reached_later c d l m h = rw l.servers (majority_stays (length c.servers) (λ i. nat_le m (unsealed_length (server c i))) (λ i. nat_le m (unsealed_length (server d i))) (λ i _ e. at_least_later m _ _ (l.grows i).unsealed e) h)

pub firm_later : (c d : Cell) → Later c d → (m : ℕ) → is_majority (length c.servers) (λ i. nat_le m (length_of (server c i))) ≡ true → is_majority (length d.servers) (λ i. nat_le m (length_of (server d i))) ≡ true
firm_later c d l m h = rw l.servers (majority_stays (length c.servers) (λ i. nat_le m (length_of (server c i))) (λ i. nat_le m (length_of (server d i))) (λ i _ e. at_least_later m _ _ (l.grows i).longer e) h)

capped_at : (s t : Server) (m : ℕ) → Grows s t → (is_sealed s && nat_le (unsealed_length s) m) ≡ true → (is_sealed t && nat_le (unsealed_length t) m) ≡ true
capped_at s t m g h =
    let parts : (is_sealed s ≡ true) × (nat_le (unsealed_length s) m ≡ true) = and_parts _ _ h in
    and_from _ _ (still_sealed s t g parts.0) (le-leb _ _ (omega (arith, leb-true _ _ parts.1, same_seal s t g parts.0)))

pub capped_later : (c d : Cell) → Later c d → (m : ℕ) → is_majority (length c.servers) (λ i. is_sealed (server c i) && nat_le (unsealed_length (server c i)) m) ≡ true → is_majority (length d.servers) (λ i. is_sealed (server d i) && nat_le (unsealed_length (server d i)) m) ≡ true
capped_later c d l m h = rw l.servers (majority_stays (length c.servers) (λ i. is_sealed (server c i) && nat_le (unsealed_length (server c i)) m) (λ i. is_sealed (server d i) && nat_le (unsealed_length (server d i)) m) (λ i _ e. capped_at _ _ m (l.grows i) e) h)
