-- Requests of an operation, as steps of a cell of one server.
use Rattle.std.proofs.Common.{◌≡◌, ℕ, zero, suc, ◌+◌, ◌-◌, ◌<◌, ◌≤◌, Bool, min, take, drop, set, get_or, true, false, not, ◌||◌, Option, Some, None, List, [], ◌∷◌, ◌++◌, length, is_some, refl, inl, inr, ap, sym, ◌∙◌, subst, arith, length-append}
use Rattle.std.specs.Prelude.{if◌then◌else◌, ◌==◌, ◌&&◌, slice_get, option_map}
use Rattle.std.proofs.Math.Seq.{drop-nil}
use Rattle.std.specs.List.{list_any}
use Rattle.std.proofs.lemmas.Bool.{cases_Bool, false≢true, or_right}
use Rattle.std.proofs.lemmas.List.{set-get_or, get_or-set_same, set-set, length-set, append-nil, append_assoc}
use Rattle.delos_types.specs.declared.entry.Entry.{Entry}
use Rattle.quorum_cell.specs.declared.message.Ask.{Ask}
use Rattle.quorum_cell.specs.declared.message.Ask.TheVariants.{Store, Seal, Tail, Repair, Read, Trim}
use Rattle.quorum_cell.specs.declared.message.Told.TheVariants.{Down, DiskFault}
use Rattle.quorum_cell.specs.declared.message.Request.{Request}
use Rattle.quorum_cell.specs.declared.message.Reply.{Reply}
use Rattle.quorum_cell.specs.declared.operation.Aim.{Aim}
use Rattle.quorum_cell.specs.declared.operation.Aim.TheVariants as aims
use Rattle.quorum_cell.specs.declared.operation.Wish.{Wish}
use Rattle.quorum_cell.specs.declared.operation.Wish.TheVariants as wishes
use Rattle.quorum_cell.specs.declared.operation.CellStep.{CellStep}
use Rattle.quorum_cell.specs.declared.operation.CellStep.TheVariants.{Send, RequestComes, RequestStops, ReplyComes}
use Rattle.quorum_cell.specs.Servers.{Server, length_of, writes, written, told}
use Rattle.quorum_cell.specs.Cells.{Cell, Operation, no_operation, operation, is_seal}
use Rattle.quorum_cell.specs.Steps.{ask_for, waits, cell_step, run_cell}
use Rattle.quorum_cell.specs.Tallies.{failed_reply}
use Rattle.file_loglet.specs.Asking.{stores, stores_up_to, asks, Follows, Begins}
use Rattle.file_loglet.specs.Celling.{wished, task_for, AreWished, IsAsking}
use Rattle.file_loglet.specs.Steps.{asks_first, asks_in}
use Rattle.file_loglet.proofs.Laters.{wrote_up}
use Rattle.file_loglet.proofs.Heeding.{drop_at, behind_cut}

-- a cell with this server, these messages and these operations
abbrev pub cell_at : Cell → Server → List Request → List Reply → List Operation → List ℕ → Cell
cell_at c s requests replies operations faults = record c { servers = s ∷ []; requests = requests; replies = replies; operations = operations; faults = faults }

abbrev pub asks_of : ℕ → Ask → Request
asks_of t ask = record { ticket = t; server = 0; ask = ask }

last_of : {X : Type 0} (xs : List X) (x : X) → slice_get (xs ++ x ∷ []) (length xs) ≡ Some x
last_of [] x = refl
last_of (y ∷ xs) x = last_of xs x

still_open : (o : Operation) → waits o ≡ true → o.closed ≡ false
still_open o h = open_if o.closed (is_some o.decided) h
  where
    open_if : (a b : Bool) → not (a || b) ≡ true → a ≡ false
    open_if true b e = absurd (cc)
    open_if false b e = refl

wish_asks : (c : Cell) (o : Operation) (w : Wish) (ask : Ask) → wished c.entries c.cut o.aim w ≡ Some ask → ask_for c o w ≡ Some ask
wish_asks c o (wishes.Store p) ask h = h
wish_asks c o wishes.Seal ask h = seal_asks (is_seal o.aim) _ ask h
  where
    seal_asks : (a b : Bool) (ask : Ask) → (if a then Some Seal else None) ≡ Some ask → (if a || b then Some Seal else None) ≡ Some ask
    seal_asks true b ask e = e
    seal_asks false b ask e = absurd (cc)
wish_asks c o wishes.Tail ask h = h
wish_asks c o (wishes.Repair p) ask h = h
wish_asks c o wishes.Read ask h = h
wish_asks c o wishes.Trim ask h = h

sends : (c : Cell) (s : Server) (qs : List Request) (rs : List Reply) (os : List Operation) (fs : List ℕ) (t : ℕ) (w : Wish) (ask : Ask) → waits (get_or os t no_operation) ≡ true → wished c.entries c.cut (get_or os t no_operation).aim w ≡ Some ask
    → cell_step (cell_at c s qs rs os fs) (Send t 0 w) ≡ cell_at c s (qs ++ asks_of t ask ∷ []) rs os fs
sends c s qs rs os fs t w ask waits h =
    let o = get_or os t no_operation in
    let free = still_open o waits in
    let so : ask_for (cell_at c s qs rs os fs) o w ≡ Some ask = wish_asks (cell_at c s qs rs os fs) o w ask h in
    rw (free, so) refl

comes : (c : Cell) (s : Server) (qs : List Request) (rs : List Reply) (os : List Operation) (fs : List ℕ) (t : ℕ) (ask : Ask) → s.up ≡ true
    → cell_step (cell_at c s (qs ++ asks_of t ask ∷ []) rs os fs) (RequestComes (length qs)) ≡ cell_at c (written s ask) (qs ++ asks_of t ask ∷ []) (rs ++ record { ticket = t; server = 0; ask = ask; told = told s ask } ∷ []) os fs
comes c s qs rs os fs t ask up = rw (last_of qs (asks_of t ask), up) refl

stops : (c : Cell) (s : Server) (qs : List Request) (rs : List Reply) (os : List Operation) (fs : List ℕ) (t : ℕ) (ask : Ask) → s.up ≡ true → writes s ask ≡ true
    → cell_step (cell_at c s (qs ++ asks_of t ask ∷ []) rs os fs) (RequestStops (length qs)) ≡ cell_at c (record s { up = false; torn = Some ask }) (qs ++ asks_of t ask ∷ []) (rs ++ record { ticket = t; server = 0; ask = ask; told = DiskFault } ∷ []) os (fs ++ 0 ∷ [])
stops c s qs rs os fs t ask up does = rw (last_of qs (asks_of t ask), up, does) refl

hears : (c : Cell) (s : Server) (qs : List Request) (rs : List Reply) (os : List Operation) (fs : List ℕ) (t : ℕ) (r : Reply) → r.ticket ≡ t → waits (get_or os t no_operation) ≡ true
    → cell_step (cell_at c s qs (rs ++ r ∷ []) os fs) (ReplyComes (length rs)) ≡ cell_at c s qs (rs ++ r ∷ []) (set os t (record (get_or os t no_operation) { heard = (get_or os t no_operation).heard ++ r ∷ [] })) fs
hears c s qs rs os fs t r same waits = rw (last_of rs r, same, waits) refl

written_up : (s : Server) (ask : Ask) → s.up ≡ true → (written s ask).up ≡ true
written_up s ask h = elim (cases_Bool (writes s ask)) [ inl does ↦ rw does (wrote_up s ask h) | inr doesnt ↦ rw doesnt h ]

longer : {X : Type 0} (xs : List X) (x : X) → length (xs ++ x ∷ []) ≡ suc (length xs)
longer xs x = omega (arith, length-append xs (x ∷ []))

-- the operation once it heard these too
abbrev pub hearing : List Operation → ℕ → List Reply → List Operation
hearing os t replies = set os t (record (get_or os t no_operation) { heard = (get_or os t no_operation).heard ++ replies })

hears_none : (os : List Operation) (t : ℕ) → hearing os t [] ≡ os
hears_none os t = ap (λ (h : List Reply). set os t (record (get_or os t no_operation) { heard = h })) (append-nil (get_or os t no_operation).heard) ∙ set-get_or os t no_operation

hears_more : (os : List Operation) (t : ℕ) (r : Reply) (more : List Reply) → t < length os → hearing (hearing os t (r ∷ [])) t more ≡ hearing os t (r ∷ more)
hears_more os t r more lt =
    let o = get_or os t no_operation in
    let one = record o { heard = o.heard ++ r ∷ [] } in
    ap (λ (x : Operation). set (set os t one) t (record x { heard = x.heard ++ more })) (get_or-set_same os t one no_operation lt)
    ∙ set-set os t one (record o { heard = (o.heard ++ r ∷ []) ++ more })
    ∙ ap (λ (h : List Reply). set os t (record o { heard = h })) (append_assoc o.heard (r ∷ []) more)

abbrev pub told_of : ℕ → Server → Ask → Reply
told_of t s ask = record { ticket = t; server = 0; ask = ask; told = told s ask }

-- a reply of the server that it is down or that its disk failed
abbrev pub from_it : Reply → Bool
from_it r = (r.server == 0) && failed_reply r

-- the replies of a server that stops nowhere
abbrev pub tallies : ℕ → Server → List Ask → List Reply
tallies t s [] = []
tallies t s (ask ∷ asks) = told_of t s ask ∷ tallies t (written s ask) asks

record Gone (c : Cell) (new : Server) (t : ℕ) (ws : List Wish) (asks : List Ask) (s : Server) (qs : List Request) (rs : List Reply) (os : List Operation) : Type 0 where
  steps : List CellStep
  are : IsAsking t (length qs) (length rs) ws steps
  requests : List Request
  replies : List Reply
  heard : List Reply
  cell : run_cell steps (cell_at c s qs rs os c.faults) ≡ cell_at c new (qs ++ requests) (rs ++ replies) (hearing os t heard) (c.faults ++ (if new.up then [] else 0 ∷ []))
  all : new.up ≡ true → heard ≡ tallies t s asks
  failed : new.up ≡ false → list_any from_it heard ≡ true

abbrev heard_one : List Operation → ℕ → Reply → Operation
heard_one os t r = record (get_or os t no_operation) { heard = (get_or os t no_operation).heard ++ r ∷ [] }

-- one request came and was answered, and so it goes on
went : (c : Cell) (new : Server) (t : ℕ) (wish : Wish) (ws : List Wish) (ask : Ask) (asks : List Ask) (s : Server) (qs : List Request) (rs : List Reply) (os : List Operation) → s.up ≡ true → t < length os → waits (get_or os t no_operation) ≡ true
    → wished c.entries c.cut (get_or os t no_operation).aim wish ≡ Some ask → Gone c new t ws asks (written s ask) (qs ++ asks_of t ask ∷ []) (rs ++ told_of t s ask ∷ []) (hearing os t (told_of t s ask ∷ [])) → Gone c new t (wish ∷ ws) (ask ∷ asks) s qs rs os
went c new t wish ws ask asks s qs rs os up lt free w rest =
    let q = asks_of t ask in
    let r = told_of t s ask in
    let fs : List ℕ = c.faults ++ (if new.up then [] else 0 ∷ []) in
    record {
      steps = Send t 0 wish ∷ RequestComes (length qs) ∷ ReplyComes (length rs) ∷ rest.steps;
      are = inr (rest.steps, refl, subst (λ (n : ℕ). IsAsking t n (suc (length rs)) ws rest.steps) (longer qs q) (subst (λ (n : ℕ). IsAsking t (length (qs ++ q ∷ [])) n ws rest.steps) (longer rs r) rest.are));
      requests = q ∷ rest.requests;
      replies = r ∷ rest.replies;
      heard = r ∷ rest.heard;
      cell = ap (λ (x : Cell). run_cell rest.steps (cell_step (cell_step x (RequestComes (length qs))) (ReplyComes (length rs)))) (sends c s qs rs os c.faults t wish ask free w)
          ∙ ap (λ (x : Cell). run_cell rest.steps (cell_step x (ReplyComes (length rs)))) (comes c s qs rs os c.faults t ask up)
          ∙ ap (λ (x : Cell). run_cell rest.steps x) (hears c (written s ask) (qs ++ q ∷ []) rs os c.faults t r refl free)
          ∙ rest.cell
          ∙ ap (λ (xs : List Request). cell_at c new xs ((rs ++ r ∷ []) ++ rest.replies) (hearing (hearing os t (r ∷ [])) t rest.heard) fs) (append_assoc qs (q ∷ []) rest.requests)
          ∙ ap (λ (xs : List Reply). cell_at c new (qs ++ q ∷ rest.requests) xs (hearing (hearing os t (r ∷ [])) t rest.heard) fs) (append_assoc rs (r ∷ []) rest.replies)
          ∙ ap (λ (xs : List Operation). cell_at c new (qs ++ q ∷ rest.requests) (rs ++ r ∷ rest.replies) xs fs) (hears_more os t r rest.heard lt);
      all = λ u. ap (λ (xs : List Reply). r ∷ xs) (rest.all u);
      failed = λ d. or_right (from_it r) (list_any from_it rest.heard) (rest.failed d);
    }

goes : (c : Cell) (new : Server) (t : ℕ) (ws : List Wish) (asks : List Ask) (s : Server) (qs : List Request) (rs : List Reply) (os : List Operation) → s.up ≡ true → t < length os → waits (get_or os t no_operation) ≡ true
    → AreWished c.entries c.cut (get_or os t no_operation).aim ws asks → Follows s asks new → Gone c new t ws asks s qs rs os
goes c new t [] [] s qs rs os up lt free w f =
    record {
      steps = [];
      are = refl;
      requests = [];
      replies = [];
      heard = [];
      cell = rw (f, up, append-nil qs, append-nil rs, append-nil c.faults, hears_none os t) refl;
      all = λ u. refl;
      failed = λ d. absurd (false≢true (sym d ∙ ap (λ (x : Server). x.up) f ∙ up));
    }
goes c new t [] (ask ∷ asks) s qs rs os up lt free w f = absurd w
goes c new t (wish ∷ ws) [] s qs rs os up lt free w f = absurd w
goes c new t (wish ∷ ws) (ask ∷ asks) s qs rs os up lt free w f =
    elim f [
      | inl stop ↦ (let r : Reply = record { ticket = t; server = 0; ask = ask; told = DiskFault } in
          record {
            steps = Send t 0 wish ∷ RequestStops (length qs) ∷ ReplyComes (length rs) ∷ [];
            are = inl refl;
            requests = asks_of t ask ∷ [];
            replies = r ∷ [];
            heard = r ∷ [];
            cell = rw stop.1
                (ap (λ (x : Cell). cell_step (cell_step x (RequestStops (length qs))) (ReplyComes (length rs))) (sends c s qs rs os c.faults t wish ask free w.0)
                ∙ ap (λ (x : Cell). cell_step x (ReplyComes (length rs))) (stops c s qs rs os c.faults t ask up stop.0)
                ∙ hears c (record s { up = false; torn = Some ask }) (qs ++ asks_of t ask ∷ []) rs os (c.faults ++ 0 ∷ []) t r refl free);
            all = λ u. absurd (false≢true (sym (ap (λ (x : Server). x.up) stop.1) ∙ u));
            failed = λ d. refl;
          })
      | inr more ↦ went c new t wish ws ask asks s qs rs os up lt free w.0 (goes c new t ws asks (written s ask) (qs ++ asks_of t ask ∷ []) (rs ++ told_of t s ask ∷ []) (hearing os t (told_of t s ask ∷ []))
          (written_up s ask up) (subst (λ (n : ℕ). t < n) (sym (length-set os t (heard_one os t (told_of t s ask)))) lt)
          (ap waits (get_or-set_same os t (heard_one os t (told_of t s ask)) no_operation lt) ∙ free)
          (subst (λ (x : Operation). AreWished c.entries c.cut x.aim ws asks) (sym (get_or-set_same os t (heard_one os t (told_of t s ask)) no_operation lt)) w.1) more)
    ]

-- ---- the requests of an operation

wish_of : Ask → Wish
wish_of (Store p e) = wishes.Store p
wish_of Seal = wishes.Seal
wish_of Tail = wishes.Tail
wish_of (Repair p e) = wishes.Repair p
wish_of (Read p) = wishes.Read
wish_of (Trim n) = wishes.Trim

-- requests with their wishes
record Wanted (entries : List Entry) (cut : ℕ) (aim : Aim) (asks : List Ask) : Type 0 where
  ws : List Wish
  are : AreWished entries cut aim ws asks

drop_none : (es : List Entry) (n : ℕ) → slice_get es n ≡ None → drop n es ≡ []
drop_none [] n h = drop-nil n
drop_none (x ∷ xs) zero h = absurd (cc)
drop_none (x ∷ xs) (suc n) h = drop_none xs n h

wants_stores : (es : List Entry) (cut : ℕ) (aim : Aim) (p k : ℕ) → Wanted es cut aim (stores p (take k (drop p es)))
wants_stores es cut aim p zero = record { ws = []; are = tt }
wants_stores es cut aim p (suc k) = here (slice_get es p) refl (wants_stores es cut aim (suc p) k)
  where
    here : (x : Option Entry) → slice_get es p ≡ x → Wanted es cut aim (stores (suc p) (take k (drop (suc p) es))) → Wanted es cut aim (stores p (take (suc k) (drop p es)))
    here None h rest = subst (λ (xs : List Entry). Wanted es cut aim (stores p (take (suc k) xs))) (sym (drop_none es p h)) (record { ws = []; are = tt })
    here (Some e) h rest =
        subst (λ (xs : List Entry). Wanted es cut aim (stores p (take (suc k) xs))) (sym (drop_at es p e h)) (record { ws = wishes.Store p ∷ rest.ws; are = (ap (λ (x : Option Entry). option_map (λ (y : Entry). Store p y) x) h, rest.are) })

wants : (es : List Entry) (cut : ℕ) (s : Server) (size : ℕ) (aim : Aim) → cut ≤ length_of s → Wanted es cut aim (asks (drop cut es) cut s size (task_for aim))
wants es cut s size (aims.Append e) le = subst (λ (xs : List Entry). Wanted es cut (aims.Append e) (stores_up_to xs (length_of s) (size + 1))) (sym (behind_cut es cut (length_of s) le)) (wants_stores es cut (aims.Append e) (length_of s) (size + 1 - length_of s))
wants es cut s size (aims.Settle n) le = subst (λ (xs : List Entry). Wanted es cut (aims.Settle n) (stores_up_to xs (length_of s) (min n size))) (sym (behind_cut es cut (length_of s) le)) (wants_stores es cut (aims.Settle n) (length_of s) (min n size - length_of s))
wants es cut s size aims.Tail le = record { ws = wishes.Tail ∷ []; are = (refl, tt) }
wants es cut s size aims.Seal le = record { ws = wishes.Seal ∷ []; are = (refl, tt) }
wants es cut s size (aims.Read p) le = record { ws = []; are = tt }
wants es cut s size (aims.Trim n) le = record { ws = wishes.Trim ∷ []; are = (refl, tt) }

wants_all : (es : List Entry) (cut : ℕ) (s : Server) (size : ℕ) (aim : Aim) → cut ≤ length_of s → Wanted es cut aim (asks_first aim ++ asks (drop cut es) cut s size (task_for aim))
wants_all es cut s size (aims.Append e) le = let w = wants es cut s size (aims.Append e) le in record { ws = wishes.Tail ∷ w.ws; are = (refl, w.are) }
wants_all es cut s size (aims.Settle n) le = let w = wants es cut s size (aims.Settle n) le in record { ws = wishes.Tail ∷ w.ws; are = (refl, w.are) }
wants_all es cut s size aims.Tail le = wants es cut s size aims.Tail le
wants_all es cut s size aims.Seal le = wants es cut s size aims.Seal le
wants_all es cut s size (aims.Read p) le = record { ws = wishes.Read ∷ []; are = (refl, tt) }
wants_all es cut s size (aims.Trim n) le = wants es cut s size (aims.Trim n) le

-- what is asked first writes nothing
pub follows_all : (aim : Aim) (s new : Server) (rest : List Ask) → Follows s rest new → Follows s (asks_first aim ++ rest) new
follows_all (aims.Append e) s new rest f = inr f
follows_all (aims.Settle n) s new rest f = inr f
follows_all aims.Tail s new rest f = f
follows_all aims.Seal s new rest f = f
follows_all (aims.Read p) s new rest f = inr f
follows_all (aims.Trim n) s new rest f = f

wanted_first : (es : List Entry) (cut : ℕ) (aim : Aim) (ws : List Wish) (first rest : List Ask) → AreWished es cut aim ws (first ++ rest) → Wanted es cut aim first
wanted_first es cut aim ws [] rest h = record { ws = []; are = tt }
wanted_first es cut aim [] (ask ∷ first) rest h = absurd h
wanted_first es cut aim (w ∷ ws) (ask ∷ first) rest h = let r = wanted_first es cut aim ws first rest h.1 in record { ws = w ∷ r.ws; are = (h.0, r.are) }

-- a server that did the first of what it was asked
begins_first : (asks : List Ask) (s new : Server) → Begins s asks new → (first : List Ask) × (rest : List Ask) × (first ++ rest ≡ asks) × Follows s first new
begins_first [] s new f = ([], [], refl, f)
begins_first (ask ∷ asks) s new f =
    elim f [
      | inl same ↦ ([], ask ∷ asks, refl, same)
      | inr more ↦ (let r = begins_first asks (written s ask) new more in (ask ∷ r.0, r.1, ap (λ (xs : List Ask). ask ∷ xs) r.2, inr r.3))
    ]

-- ---- an operation of a cell asks

-- It asked these, in turn: the server is this now, so many faults came, and the replies are its.
pub record Asked (c : Cell) (t : ℕ) (s new : Server) (asked : List Ask) (fs : List ℕ) : Type 0 where
  pub wishes : List Wish
  pub sent : AreWished c.entries c.cut (operation c t).aim wishes asked
  pub steps : List CellStep
  pub asking : IsAsking t (length c.requests) (length c.replies) wishes steps
  pub requests : List Request
  pub replies : List Reply
  pub heard : List Reply
  pub cell : run_cell steps c ≡ cell_at c new (c.requests ++ requests) (c.replies ++ replies) (hearing c.operations t heard) (c.faults ++ fs)
  pub all : new.up ≡ true → heard ≡ tallies t s asked
  pub failed : new.up ≡ false → (asked ≡ [] → ⊥) → list_any from_it heard ≡ true

one_cell : (c : Cell) (s : Server) → c.servers ≡ s ∷ [] → c ≡ cell_at c s c.requests c.replies c.operations c.faults
one_cell c s e = ap (λ (ss : List Server). record c { servers = ss }) e

pub asks_none : (c : Cell) (t : ℕ) (s : Server) → c.servers ≡ s ∷ [] → Asked c t s s [] []
asks_none c t s e = record {
  wishes = [];
  sent = tt;
  steps = [];
  asking = refl;
  requests = [];
  replies = [];
  heard = [];
  cell = one_cell c s e ∙ sym (rw (append-nil c.requests, append-nil c.replies, append-nil c.faults, hears_none c.operations t) refl);
  all = λ u. refl;
  failed = λ d some. absurd (some refl);
}

asks_these : (c : Cell) (t : ℕ) (s new : Server) (asked : List Ask) → c.servers ≡ s ∷ [] → s.up ≡ true → t < length c.operations → waits (operation c t) ≡ true → Wanted c.entries c.cut (operation c t).aim asked → Follows s asked new → Asked c t s new asked (if new.up then [] else 0 ∷ [])
asks_these c t s new asked e up lt free w f =
    let g = goes c new t w.ws asked s c.requests c.replies c.operations up lt free w.are f in
    record {
      wishes = w.ws;
      sent = w.are;
      steps = g.steps;
      asking = g.are;
      requests = g.requests;
      replies = g.replies;
      heard = g.heard;
      cell = ap (λ (x : Cell). run_cell g.steps x) (one_cell c s e) ∙ g.cell;
      all = g.all;
      failed = λ d some. g.failed d;
    }

-- all of it
pub asks_all : (c : Cell) (t : ℕ) (s new : Server) → c.servers ≡ s ∷ [] → s.up ≡ true → c.cut ≤ length_of s → t < length c.operations → waits (operation c t) ≡ true
    → Follows s (asks (drop c.cut c.entries) c.cut s (operation c t).size_before (task_for (operation c t).aim)) new → Asked c t s new (asks_in c t s) (if new.up then [] else 0 ∷ [])
asks_all c t s new e up within lt free f =
    asks_these c t s new (asks_in c t s) e up lt free (wants_all c.entries c.cut s (operation c t).size_before (operation c t).aim within) (follows_all (operation c t).aim s new (asks (drop c.cut c.entries) c.cut s (operation c t).size_before (task_for (operation c t).aim)) f)

pub record AskedFirst (c : Cell) (t : ℕ) (s new : Server) (fs : List ℕ) : Type 0 where
  pub asked : List Ask
  pub rest : List Ask
  pub are : asked ++ rest ≡ asks_in c t s
  pub asks : Asked c t s new asked fs

-- the first of it
pub asks_some : (c : Cell) (t : ℕ) (s new : Server) → c.servers ≡ s ∷ [] → s.up ≡ true → c.cut ≤ length_of s → t < length c.operations → waits (operation c t) ≡ true
    → Begins s (asks (drop c.cut c.entries) c.cut s (operation c t).size_before (task_for (operation c t).aim)) new → AskedFirst c t s new (if new.up then [] else 0 ∷ [])
asks_some c t s new e up within lt free b =
    let aim : Aim = (operation c t).aim in
    let x = begins_first (asks (drop c.cut c.entries) c.cut s (operation c t).size_before (task_for aim)) s new b in
    let are : (asks_first aim ++ x.0) ++ x.1 ≡ asks_in c t s = append_assoc (asks_first aim) x.0 x.1 ∙ ap (λ (ys : List Ask). asks_first aim ++ ys) x.2 in
    let w = wants_all c.entries c.cut s (operation c t).size_before aim within in
    record {
      asked = asks_first aim ++ x.0;
      rest = x.1;
      are = are;
      asks = asks_these c t s new (asks_first aim ++ x.0) e up lt free (wanted_first c.entries c.cut aim w.ws (asks_first aim ++ x.0) x.1 (subst (λ (ys : List Ask). AreWished c.entries c.cut aim w.ws ys) (sym are) w.are)) (follows_all aim s new x.0 x.3);
    }

-- a server that is down says so
asks_down : (c : Cell) (t : ℕ) (s : Server) (ask : Ask) → c.servers ≡ s ∷ [] → s.up ≡ false → waits (operation c t) ≡ true → Wanted c.entries c.cut (operation c t).aim (ask ∷ []) → Asked c t s s (ask ∷ []) []
asks_down c t s ask e down free w = by w.ws w.are
  where
    q : Request
    q = asks_of t ask

    r : Reply
    r = record { ticket = t; server = 0; ask = ask; told = Down }

    came : cell_step (cell_at c s (c.requests ++ q ∷ []) c.replies c.operations c.faults) (RequestComes (length c.requests)) ≡ cell_at c s (c.requests ++ q ∷ []) (c.replies ++ r ∷ []) c.operations c.faults
    came = rw (last_of c.requests q, down) refl

    by : (ws : List Wish) → AreWished c.entries c.cut (operation c t).aim ws (ask ∷ []) → Asked c t s s (ask ∷ []) []
    by [] h = absurd h
    by (wish ∷ a ∷ ws) h = absurd h.1
    by (wish ∷ []) h = record {
      wishes = wish ∷ [];
      sent = h;
      steps = Send t 0 wish ∷ RequestComes (length c.requests) ∷ ReplyComes (length c.replies) ∷ [];
      asking = inr ([], refl, refl);
      requests = q ∷ [];
      replies = r ∷ [];
      heard = r ∷ [];
      cell =
          ap (λ (x : Cell). run_cell (Send t 0 wish ∷ RequestComes (length c.requests) ∷ ReplyComes (length c.replies) ∷ []) x) (one_cell c s e)
          ∙ ap (λ (x : Cell). cell_step (cell_step x (RequestComes (length c.requests))) (ReplyComes (length c.replies))) (sends c s c.requests c.replies c.operations c.faults t wish ask free h.0)
          ∙ ap (λ (x : Cell). cell_step x (ReplyComes (length c.replies))) came
          ∙ hears c s (c.requests ++ q ∷ []) c.replies c.operations c.faults t r refl free
          ∙ ap (λ (fs : List ℕ). cell_at c s (c.requests ++ q ∷ []) (c.replies ++ r ∷ []) (hearing c.operations t (r ∷ [])) fs) (sym (append-nil c.faults));
      all = λ u. absurd (false≢true (sym down ∙ u));
      failed = λ d some. refl;
    }

-- the first request of what an operation asks, if any
pub asks_one : (c : Cell) (t : ℕ) (s : Server) → c.servers ≡ s ∷ [] → s.up ≡ false → c.cut ≤ length_of s → waits (operation c t) ≡ true → (x : AskedFirst c t s s []) × (x.asked ≡ [] → ⊥)
asks_one c t s e down within free = by (operation c t).aim refl
  where
    first : (ask : Ask) (more : List Ask) → ask ∷ more ≡ asks_in c t s → (x : AskedFirst c t s s []) × (x.asked ≡ [] → ⊥)
    first ask more is =
        let w = wants_all c.entries c.cut s (operation c t).size_before (operation c t).aim within in
        (record { asked = ask ∷ []; rest = more; are = is; asks = asks_down c t s ask e down free (wanted_first c.entries c.cut (operation c t).aim w.ws (ask ∷ []) more (subst (λ (ys : List Ask). AreWished c.entries c.cut (operation c t).aim w.ws ys) (sym is) w.are)) }, λ z. cc)

    by : (aim : Aim) → (operation c t).aim ≡ aim → (x : AskedFirst c t s s []) × (x.asked ≡ [] → ⊥)
    by (aims.Append x) a = first Tail _ (ap (λ (y : Aim). asks_first y ++ asks (drop c.cut c.entries) c.cut s (operation c t).size_before (task_for y)) (sym a))
    by (aims.Settle n) a = first Tail _ (ap (λ (y : Aim). asks_first y ++ asks (drop c.cut c.entries) c.cut s (operation c t).size_before (task_for y)) (sym a))
    by aims.Tail a = first Tail [] (ap (λ (y : Aim). asks_first y ++ asks (drop c.cut c.entries) c.cut s (operation c t).size_before (task_for y)) (sym a))
    by aims.Seal a = first Seal [] (ap (λ (y : Aim). asks_first y ++ asks (drop c.cut c.entries) c.cut s (operation c t).size_before (task_for y)) (sym a))
    by (aims.Read p) a = first (Read p) [] (ap (λ (y : Aim). asks_first y ++ asks (drop c.cut c.entries) c.cut s (operation c t).size_before (task_for y)) (sym a))
    by (aims.Trim n) a = first (Trim c.cut) [] (ap (λ (y : Aim). asks_first y ++ asks (drop c.cut c.entries) c.cut s (operation c t).size_before (task_for y)) (sym a))
