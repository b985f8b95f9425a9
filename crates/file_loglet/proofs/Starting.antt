-- A new file loglet is a cell at its start.
use Rattle.std.proofs.Common.{◌≡◌, ℕ, zero, suc, ◌^◌, ◌≤◌, true, refl, sym, ap, subst, arith, List, [], ◌∷◌, length, map, replicate, Some, None}
use Rattle.std.proofs.lemmas.Option.{none-some}
use Rattle.std.proofs.lemmas.List.{length-replicate}
use Rattle.delos_types.specs.declared.entry.Entry.{Entry}
use Rattle.loglet_api.specs.View.{operation_at}
use Rattle.std.proofs.lemmas.List.Elements.{All-nil}
use Rattle.quorum_cell.specs.declared.message.Ask.{Ask}
use Rattle.quorum_cell.specs.declared.operation.Loss.{Loss}
use Rattle.quorum_cell.specs.Law.{IsLawful, RequestHolds, ReplyHolds, SentFor, faulted}
use Rattle.quorum_cell.proofs.Lawful.{start_lawful}
use Rattle.quorum_cell.specs.Servers.{Server, is_sealed}
use Rattle.quorum_cell.specs.Cells.{operation, server, start}
use Rattle.cell_views.specs.Views.{counted as cell_counted, cell_view}
use Rattle.server_records.specs.Spelled.{empty_server}
use Rattle.file_loglet.specs.declared.marks.Marks.{Marks}
use Rattle.file_loglet.specs.declared.pending.Pending.{Pending}
use Rattle.file_loglet.specs.Held.{Held}
use Rattle.file_loglet.specs.Pending.{PendingMap, shown, shown_answer, answer_at}
use Rattle.file_loglet.specs.File.{FileView, file_view, counted, down_of, loglet_of}
use Rattle.file_loglet.specs.Steps.{start_at, manner, IsToldAs, IsCellOf}

---- its first cell is lawful

pub start_lawful_at : (room faults : ℕ) → 1 ≤ room → room ≤ 2 ^ 32 → IsLawful (start_at room faults)
start_lawful_at room faults least most =
    let first : IsLawful (start 1 room (2 ^ 62)) = start_lawful 1 room (2 ^ 62) (omega arith) (omega arith) least most (omega arith) in
    let law = first.law.quorum in
    record {
      shape = record { servers = first.shape.servers; room = first.shape.room; limit = first.shape.limit };
      law = record {
        quorum = record {
          some = law.some;
          servers = λ i. (let s = law.servers i in record { same = s.same; trimmed = s.trimmed; within = s.within; sealed = s.sealed; torn = λ ask e. absurd (none-some ask (no_torn i e)) });
          requests = All-nil (RequestHolds (start_at room faults));
          replies = All-nil (ReplyHolds (start_at room faults));
          operations = λ t. (let o = law.operations t in record {
            since = o.since;
            heard = All-nil (SentFor (start_at room faults) t);
            reach_before = o.reach_before;
            faults = omega arith;
            down = λ i d. refl;
            lost = All-nil (λ (l : Loss). faulted (start_at room faults).faults 0 l.server ≡ true);
            size = o.size;
            reached = o.reached;
            firm = o.firm;
            placed = o.placed;
            settled = o.settled;
            trimmed = o.trimmed;
            ungiven = o.ungiven;
            justified = λ a e. absurd (none-some a e);
          });
          fits = law.fits;
          tickets = law.tickets;
          cut = law.cut;
          ordered = law.ordered;
          cap_shown = law.cap_shown;
          reached = law.reached;
          firm = law.firm;
          capped = law.capped;
        };
        unsealed = λ z. (let u = first.law.unsealed z in record { servers = u.servers; requests = u.requests; replies = u.replies; operations = u.operations });
      };
    }
  where
    no_torn : {ask : Ask} (i : ℕ) → (server (start 1 room (2 ^ 62)) i).torn ≡ Some ask → None ≡ Some ask
    no_torn zero e = e
    no_torn (suc i) e = e

---- it is that cell

abbrev new_marks : Marks
new_marks = record { cut = 0; reach = 0; firm = 0; cap = None; begun = 0; seals = 0; lacks = 0; refusals = 0; asked = record { told = 0; carries = 0; strays = 0; stops = 0; restarts = 0 } }

started : (room faults : ℕ) (held : Held) (m : PendingMap) → held.server ≡ empty_server → held.disk.faults ≡ faults → loglet_of room [] held new_marks m ≡ record (cell_view manner (start_at room faults)) { operations = map shown m.entries }
started room faults held m server count =
    let all : counted held.disk.faults 0 ≡ cell_counted (length (replicate faults 1)) = omega (arith, count, length-replicate {A = ℕ} faults 1) in
    λ i. record (cell_view manner (start_at room faults)) { operations = map shown m.entries; shut = is_sealed (server i); faults = all i; down = down_of (server i).up }

pub new_cell : (room faults : ℕ) (es : List Entry) (held : Held) (marks : Marks) (m : PendingMap) → (1 ≤ room) × (room ≤ 2 ^ 32) → es ≡ [] → held.server ≡ empty_server → held.disk.faults ≡ faults → marks ≡ new_marks → m.entries ≡ [] → IsCellOf (file_view room es held marks m) (start_at room faults)
new_cell room faults es held marks m within none server count new empty =
    subst (λ (xs : List Entry). IsCellOf (file_view room xs held marks m) (start_at room faults)) (sym none)
    (subst (λ (x : Marks). IsCellOf (file_view room [] held x m) (start_at room faults)) (sym new) (record {
      lawful = start_lawful_at room faults within.0 within.1;
      spelled = λ i e h. absurd (none-some e h);
      shows = started room faults held m server count;
      operations = λ t. ap (λ (xs : List (ℕ × Pending)). operation_at (map shown xs) t) empty;
      server = ap (λ (s : Server). s ∷ []) (sym server);
      told = λ t. subst (λ (xs : List (ℕ × Pending)). IsToldAs 0 (operation (start_at room faults) t) (answer_at (map shown_answer xs) t)) (sym empty) (λ h. refl);
      wants = λ t n e. absurd (cc);
    }))

-- without faults it is a cell at its very start
pub start_fresh : (v : FileView) (room faults : ℕ) → faults ≡ 0 → IsCellOf v (start_at room faults) → IsCellOf v (start 1 room (2 ^ 62))
start_fresh v room faults none h = subst (λ n. IsCellOf v (start_at room n)) none h
