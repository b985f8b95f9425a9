-- A request comes to its server again.
use Rattle.std.proofs.Common.{◌≡◌, ℕ, ◌-◌, ◌<◌, ◌≤◌, Bool, true, false, refl, sym, ◌∙◌, ap, subst, arith, List, [], ◌∷◌, ◌++◌, length, Option, Some, None}
use Rattle.std.specs.Prelude.{◌&&◌, nat_lt, slice_get, if◌then◌else◌}
use Rattle.std.proofs.lemmas.Bool.{ltb-false}
use Rattle.std.proofs.lemmas.List.{length-set}
use Rattle.delos_types.specs.declared.entry.Entry.{Entry}
use Rattle.quorum_cell.specs.declared.message.Ask.{Ask}
use Rattle.quorum_cell.specs.declared.message.Ask.TheVariants as ask
use Rattle.quorum_cell.specs.declared.message.Told.{Told}
use Rattle.quorum_cell.specs.declared.message.Told.TheVariants.{Down, DiskFault, Short, Cut}
use Rattle.quorum_cell.specs.declared.operation.CellStep.{CellStep}
use Rattle.quorum_cell.specs.declared.operation.CellStep.TheVariants.{RequestComes, RequestStops}
use Rattle.quorum_cell.specs.Servers.{Server, told, told_entry, length_of, writes, written}
use Rattle.quorum_cell.specs.Cells.{Cell, operation, server, server_before}
use Rattle.quorum_cell.specs.Steps.{answered, cell_step, run_cell}
use Rattle.quorum_cell.specs.Law.{QuorumLaw, Later}
use Rattle.quorum_cell.proofs.Lists.{slice_get_push_new, slice_get_more}
use Rattle.quorum_cell.proofs.Runs.{step_keeps, step_later}
use Rattle.cell_views.specs.Views.{IsStray}
use Rattle.native_plan.specs.declared.pending.Pending.{Pending}
use Rattle.native_plan.specs.declared.message.Errand.TheVariants.{Read}
use Rattle.native_plan.specs.Strays.{errand_in, is_asked, HearsAgain}
use Rattle.native_plan.specs.Course.{IsAskOf}
use Rattle.native_ties.specs.Parts.{IsPartOf, Extends}
use Rattle.native_ties.specs.Steps.{GoesAs}
use Rattle.native_ties.specs.Strays.{IsRequest, IsReply, HearsBy, ComesAgain, ComesTo}
use Rattle.native_ties.proofs.Parts.{part_later}
use Rattle.native_ties.proofs.Sending.{short_slice}
use Rattle.native_ties.proofs.Straying.{goes_as_again}
use Rattle.native_ties.proofs.Remaining.{no_more}

-- a server that doesn't have an entry isn't longer than its place
short_told : (s : Server) (a : Ask) (p n : ℕ) → a ≡ ask.Read p → told s a ≡ Short n → length_of s ≤ p
short_told s a p n e h = by s.up (nat_lt p s.base) refl (slice_get s.entries (p - s.base)) refl (subst (λ (x : Ask). told s x ≡ Short n) e h)
  where
    by : (u b : Bool) → nat_lt p s.base ≡ b → (x : Option Entry) → slice_get s.entries (p - s.base) ≡ x → (if u then (if b then Cut s.base else told_entry (length_of s) x) else Down) ≡ Short n → length_of s ≤ p
    by false b f x g w = absurd (cc)
    by true true f x g w = absurd (cc)
    by true false f (Some y) g w = absurd (cc)
    by true false f None g w = (let past = short_slice s.entries (p - s.base) g in let above : s.base ≤ p = ltb-false _ _ f in omega (arith, past, above))

asked_as : (a : Ask) → IsAskOf (errand_in a) a
asked_as (ask.Store p e) = refl
asked_as ask.Seal = tt
asked_as ask.Tail = tt
asked_as (ask.Repair p e) = refl
asked_as (ask.Read p) = refl
asked_as (ask.Trim n) = tt

asks_read : (a : Ask) (p : ℕ) → errand_in a ≡ Read p → a ≡ ask.Read p
asks_read (ask.Read q) p h = (let same : q ≡ p = cc in ap ask.Read same)
asks_read (ask.Store q e) p h = absurd (cc)
asks_read ask.Seal p h = absurd (cc)
asks_read ask.Tail p h = absurd (cc)
asks_read (ask.Repair q e) p h = absurd (cc)
asks_read (ask.Trim n) p h = absurd (cc)

module _ (c : Cell) (t i : ℕ) (a : Ask) (faults : List ℕ) (s : Server) (z : Told) (step : CellStep) (is : cell_step c step ≡ answered (record c { faults = faults }) (record { ticket = t; server = i; ask = a }) s z) (stray : IsStray step) where
  abbrev d : Cell
  d = answered (record c { faults = faults }) (record { ticket = t; server = i; ask = a }) s z

  later : Later c d
  later = subst (Later c) is (step_later c step)

  extends : Extends c d
  extends = record { requests = λ k q h. h; replies = λ k r h. slice_get_more c.replies _ k r h }

  -- the answer comes to the operation
  pub repeats : (p new : Pending) → QuorumLaw c → IsPartOf c t p → p.outcome ≡ None → i < length c.servers → ((q n : ℕ) → errand_in a ≡ Read q → z ≡ Short n → length_of (server_before (operation c t) i) ≤ q) → HearsAgain c.cut i (errand_in a) z p new → ComesAgain c step t i s faults p new
  repeats p new law part waiting here short h =
      let kept : QuorumLaw d = subst QuorumLaw is (step_keeps c step law) in
      let stays : IsPartOf d t p = part_later c d t p later extends refl part in
      let reply : IsReply d (length c.replies) t i (errand_in a) z = record { reply = record { ticket = t; server = i; ask = a; told = z }; is = slice_get_push_new c.replies (record { ticket = t; server = i; ask = a; told = z }) (length c.replies) refl; ticket = refl; of_server = refl; told_is = refl; asked = asked_as a; short = short } in
      let g : GoesAs d t faults new (HearsBy (is_asked p.phase i) t (length c.replies)) = goes_as_again d (length c.replies) t i (errand_in a) z p new kept stays waiting (omega (arith, here, length-set c.servers i s)) reply h in
      record {
        steps = g.0.steps;
        hears = g.1;
        no_more = no_more d (length c.replies) t i (errand_in a) z p new kept stays waiting (omega (arith, here, length-set c.servers i s)) reply h;
        strays = (stray, g.0.strays);
        part = subst (λ (x : Cell). IsPartOf (run_cell g.0.steps x) t new) (sym is) g.0.part;
        others = λ q n. ap (λ (x : Cell). operation (run_cell g.0.steps x) q) is ∙ g.0.others q n;
        servers = ap (λ (x : Cell). (run_cell g.0.steps x).servers) is ∙ g.0.servers;
        faults_are = ap (λ (x : Cell). (run_cell g.0.steps x).faults) is ∙ g.0.faults_are;
      }

  -- or to none
  pub passes : ComesTo c step i s faults
  passes = record {
    strays = (stray, tt);
    operations = λ q. ap (λ (x : Cell). operation x q) is;
    servers = ap (λ (x : Cell). x.servers) is;
    faults_are = ap (λ (x : Cell). x.faults) is;
  }

comes_is : (c : Cell) (k t i : ℕ) (a : Ask) → IsRequest c k t i a → cell_step c (RequestComes k) ≡ answered (record c { faults = c.faults }) (record { ticket = t; server = i; ask = a }) (if (server c i).up then written (server c i) a else server c i) (told (server c i) a)
comes_is c k t i a is = rw is refl

stops_is : (c : Cell) (k t i : ℕ) (a : Ask) → IsRequest c k t i a → ((server c i).up && writes (server c i) a) ≡ true → cell_step c (RequestStops k) ≡ answered (record c { faults = c.faults ++ i ∷ [] }) (record { ticket = t; server = i; ask = a }) (record (server c i) { up = false; torn = Some a }) DiskFault
stops_is c k t i a is wanted = rw (is, wanted) refl

pub comes_again : (c : Cell) (k t i : ℕ) (a : Ask) (p new : Pending) → QuorumLaw c → IsPartOf c t p → p.outcome ≡ None → i < length c.servers → IsRequest c k t i a → HearsAgain c.cut i (errand_in a) (told (server c i) a) p new → ComesAgain c (RequestComes k) t i (if (server c i).up then written (server c i) a else server c i) c.faults p new
comes_again c k t i a p new law part waiting here is h =
    repeats c t i a c.faults (if (server c i).up then written (server c i) a else server c i) (told (server c i) a) (RequestComes k) (comes_is c k t i a is) tt p new law part waiting here
    (λ q n e w. (let now = short_told (server c i) a q n (asks_read a q e) w in let grown = ((law.operations t).since i).longer in omega (arith, now, grown))) h

pub stops_again : (c : Cell) (k t i : ℕ) (a : Ask) (p new : Pending) → QuorumLaw c → IsPartOf c t p → p.outcome ≡ None → i < length c.servers → IsRequest c k t i a → ((server c i).up && writes (server c i) a) ≡ true → HearsAgain c.cut i (errand_in a) DiskFault p new → ComesAgain c (RequestStops k) t i (record (server c i) { up = false; torn = Some a }) (c.faults ++ i ∷ []) p new
stops_again c k t i a p new law part waiting here is wanted h =
    repeats c t i a (c.faults ++ i ∷ []) (record (server c i) { up = false; torn = Some a }) DiskFault (RequestStops k) (stops_is c k t i a is wanted) tt p new law part waiting here (λ q n e w. absurd (cc)) h

pub comes_to : (c : Cell) (k t i : ℕ) (a : Ask) → IsRequest c k t i a → ComesTo c (RequestComes k) i (if (server c i).up then written (server c i) a else server c i) c.faults
comes_to c k t i a is = passes c t i a c.faults (if (server c i).up then written (server c i) a else server c i) (told (server c i) a) (RequestComes k) (comes_is c k t i a is) tt

pub stops_at : (c : Cell) (k t i : ℕ) (a : Ask) → IsRequest c k t i a → ((server c i).up && writes (server c i) a) ≡ true → ComesTo c (RequestStops k) i (record (server c i) { up = false; torn = Some a }) (c.faults ++ i ∷ [])
stops_at c k t i a is wanted = passes c t i a (c.faults ++ i ∷ []) (record (server c i) { up = false; torn = Some a }) DiskFault (RequestStops k) (stops_is c k t i a is wanted) tt
