-- A new loglet is a new cell's.
use Rattle.std.proofs.Common.{◌≡◌, ℕ, suc, ◌+◌, ◌*◌, ◌^◌, ◌≤◌, Bool, true, false, cond, refl, sym, ◌∙◌, ap, subst, arith, List, [], ◌∷◌, map, length, get_or, replicate, None, inl, inr}
use Rattle.std.specs.Prelude.{◌/◌, All, not, nat_le, nat_eq, count_by}
use Rattle.std.specs.Map.{lookup}
use Rattle.std.proofs.lemmas.List.Sums.{sum_by-cons}
use Rattle.std.proofs.lemmas.Bool.{leb-true}
use Rattle.std.proofs.lemmas.Option.{none-some}
use Rattle.std.proofs.lemmas.List.Elements.{All-head, All-tail}
use Rattle.delos_types.specs.declared.entry.Entry.{Entry}
use Rattle.loglet_api.specs.View.{IsFresh}
use Rattle.majority_rule.specs.Majority.{majority}
use Rattle.quorum_cell.specs.Servers.{Server, is_sealed}
use Rattle.quorum_cell.specs.Cells.{no_server, no_operation, start}
use Rattle.quorum_cell.proofs.Lawful.{start_lawful}
use Rattle.disk_model.specs.Disk.{fresh as fresh_disk}
use Rattle.loglet_api.specs.Servers.{ServerState, ServersView}
use Rattle.log_server.specs.View.{View, Spares}
use Rattle.native_loglet.specs.declared.marks.Marks.{Marks}
use Rattle.native_loglet.specs.declared.mail.Mail.{Mail}
use Rattle.native_loglet.specs.Natives.{PendingList, IsCount, IsNative, native_of, server_in, down_in, shut_in, look_in, loglet_of, state_in, states_in, served_by, new_state, IsNew, IsOpenAs, IsCellOf}

abbrev pub new_server : Server
new_server = record no_server { up = true }

abbrev pub new_marks : Marks
new_marks = record { cut = 0; reach = 0; firm = 0; cap = None; begun = 0; seals = 0; lacks = 0; faults = 0 }

new_servers : (vs : List View) → All (λ (v : View). v.server ≡ new_server) vs → replicate (length vs) new_server ≡ map server_in vs
new_servers [] h = refl
new_servers (v ∷ vs) h = ap (λ (s : Server). s ∷ replicate (length vs) new_server) (sym (All-head (λ (w : View). w.server ≡ new_server) v vs h)) ∙ ap (λ (ss : List Server). v.server ∷ ss) (new_servers vs (All-tail (λ (w : View). w.server ≡ new_server) v vs h))

odd_count : (n : ℕ) → IsCount n → (k : ℕ) × (n ≡ 2 * k + 1)
odd_count n (inl e) = (0, e)
odd_count n (inr (inl e)) = (1, e)
odd_count n (inr (inr (inl e))) = (2, e)
odd_count n (inr (inr (inr e))) = (3, e)

few_count : (n : ℕ) → IsCount n → (1 ≤ n) × (n ≤ 7)
few_count n (inl e) = (omega (arith, e), omega (arith, e))
few_count n (inr (inl e)) = (omega (arith, e), omega (arith, e))
few_count n (inr (inr (inl e))) = (omega (arith, e), omega (arith, e))
few_count n (inr (inr (inr e))) = (omega (arith, e), omega (arith, e))

long_count : (vs : List View) → length (replicate (length vs) new_server) ≡ length vs
long_count [] = refl
long_count (v ∷ vs) = ap suc (long_count vs)

pub new_tied : (room : ℕ) (vs : List View) (m : PendingList) → IsCount (length vs) → All (λ (v : View). v.server ≡ new_server) vs → 1 ≤ room → room ≤ 2 ^ 32 → m ≡ [] → IsCellOf (native_of room [] vs new_marks m []) (start (length vs) room (2 ^ 62))
new_tied room vs m count fresh least most empty = record {
  lawful = start_lawful (length vs) room (2 ^ 62) (few_count (length vs) count).0 (omega (arith, (few_count (length vs) count).1)) least most (omega arith);
  spelled = λ i e h. absurd (none-some e h);
  odd = ((odd_count (length vs) count).0, long_count vs ∙ (odd_count (length vs) count).1);
  few = omega (arith, long_count vs, (few_count (length vs) count).1);
  room = refl;
  limit = refl;
  entries = refl;
  servers = new_servers vs fresh;
  cut = refl;
  reach = refl;
  firm = refl;
  cap = refl;
  faults = refl;
  begun = refl;
  seals_are = refl;
  lacks_are = refl;
  operations = λ t. subst (IsOpenAs (start (length vs) room (2 ^ 62)) t) (sym (nothing t)) (none_there t);
  strays = λ n m e. absurd (none-some m e);
}
  where
    nothing : (t : ℕ) → look_in m t ≡ None
    nothing t = ap (lookup (nat_eq t)) empty

    none_there : (t : ℕ) → (get_or [] t no_operation).closed ≡ true
    none_there t = refl

pub new_fresh : (room : ℕ) (vs : List View) (m : PendingList) → IsCount (length vs) → All (λ (v : View). v.server ≡ new_server) vs → 1 ≤ room → room ≤ 2 ^ 32 → m ≡ [] → IsFresh (loglet_of (native_of room [] vs new_marks m []))
new_fresh room vs m count fresh least most empty = record {
  cut = refl;
  log = refl;
  reach = refl;
  cap = refl;
  firm = refl;
  shut = shut_none vs fresh;
  operations = refl;
  faults = refl;
  down = none_down vs fresh;
  begun = refl;
  seals = refl;
  lacks = refl;
}
  where
    none_down : (ws : List View) → All (λ (v : View). v.server ≡ new_server) ws → down_in ws ≡ 0
    none_down [] h = refl
    none_down (w ∷ ws) h =
        let here : not w.server.up ≡ false = ap (λ (s : Server). not s.up) (All-head (λ (v : View). v.server ≡ new_server) w ws h) in
        let one : cond (not w.server.up) 1 0 ≡ 0 = ap {B = ℕ} (λ b. cond b 1 0) here in
        omega (arith, sum_by-cons (λ (v : View). cond (not v.server.up) 1 0) w ws, one, none_down ws (All-tail (λ (v : View). v.server ≡ new_server) w ws h))

    none_sealed : (ws : List View) → All (λ (v : View). v.server ≡ new_server) ws → count_by (λ (v : View). is_sealed v.server) ws ≡ 0
    none_sealed [] h = refl
    none_sealed (w ∷ ws) h =
        let here : is_sealed w.server ≡ false = ap is_sealed (All-head (λ (v : View). v.server ≡ new_server) w ws h) in
        let one : cond (is_sealed w.server) 1 0 ≡ 0 = ap {B = ℕ} (λ b. cond b 1 0) here in
        omega (arith, sum_by-cons (λ (v : View). cond (is_sealed v.server) 1 0) w ws, one, none_sealed ws (All-tail (λ (v : View). v.server ≡ new_server) w ws h))

    below_one : (k : ℕ) (b : Bool) → nat_le (k + 1) 0 ≡ b → b ≡ false
    below_one k true e = (let none : k + 1 ≤ 0 = leb-true (k + 1) 0 e in absurd (omega (arith, none)))
    below_one k false e = refl

    shut_none : (ws : List View) → All (λ (v : View). v.server ≡ new_server) ws → shut_in ws ≡ false
    shut_none ws h = ap (nat_le (majority (length ws))) (none_sealed ws h) ∙ below_one (length ws / 2) (nat_le (length ws / 2 + 1) 0) refl

pub new_owned : (room : ℕ) (es : List Entry) (vs : List View) (marks : Marks) (m : PendingList) (ms : List Mail) → IsCount (length vs) → All (λ (v : View). v.server ≡ new_server) vs → (1 ≤ room) × (room ≤ 2 ^ 32) → es ≡ [] → marks ≡ new_marks → m ≡ [] → ms ≡ [] → IsNative room es vs marks m ms
new_owned room es vs marks m ms count fresh rooms none same empty kept =
    subst (λ (ks : List Mail). IsNative room es vs marks m ks) (sym kept) (subst (λ (xs : List Entry). IsNative room xs vs marks m []) (sym none) (subst (λ (x : Marks). IsNative room [] vs x m []) (sym same) (start (length vs) room (2 ^ 62), new_tied room vs m count fresh rooms.0 rooms.1 empty)))

pub new_cell : (room : ℕ) (es : List Entry) (vs : List View) (marks : Marks) (m : PendingList) (ms : List Mail) → IsCount (length vs) → All (λ (v : View). v.server ≡ new_server) vs → (1 ≤ room) × (room ≤ 2 ^ 32) → es ≡ [] → marks ≡ new_marks → m ≡ [] → ms ≡ [] → IsCellOf (native_of room es vs marks m ms) (start (length vs) room (2 ^ 62))
new_cell room es vs marks m ms count fresh rooms none same empty kept =
    subst (λ (ks : List Mail). IsCellOf (native_of room es vs marks m ks) (start (length vs) room (2 ^ 62))) (sym kept) (subst (λ (xs : List Entry). IsCellOf (native_of room xs vs marks m []) (start (length vs) room (2 ^ 62))) (sym none) (subst (λ (x : Marks). IsCellOf (native_of room [] vs x m []) (start (length vs) room (2 ^ 62))) (sym same) (new_tied room vs m count fresh rooms.0 rooms.1 empty)))

pub new_shows : (room : ℕ) (es : List Entry) (vs : List View) (marks : Marks) (m : PendingList) (ms : List Mail) → IsCount (length vs) → All (λ (v : View). v.server ≡ new_server) vs → (1 ≤ room) × (room ≤ 2 ^ 32) → es ≡ [] → marks ≡ new_marks → m ≡ [] → ms ≡ [] → IsFresh (loglet_of (native_of room es vs marks m ms))
new_shows room es vs marks m ms count fresh rooms none same empty kept =
    subst (λ (ks : List Mail). IsFresh (loglet_of (native_of room es vs marks m ks))) (sym kept) (subst (λ (xs : List Entry). IsFresh (loglet_of (native_of room xs vs marks m []))) (sym none) (subst (λ (x : Marks). IsFresh (loglet_of (native_of room [] vs x m []))) (sym same) (new_fresh room vs m count fresh rooms.0 rooms.1 empty)))

-- so many that are new show the same
new_each : (vs : List View) → All IsNew vs → states_in vs ≡ replicate (length vs) new_state
new_each [] h = refl
new_each (v ∷ vs) h = ap (λ (s : ServerState). s ∷ states_in vs) (All-head IsNew v vs h).0 ∙ ap (λ (ss : List ServerState). new_state ∷ ss) (new_each vs (All-tail IsNew v vs h))

pub new_states : (n : ℕ) (vs : List View) → length vs ≡ n → All IsNew vs → states_in vs ≡ replicate n new_state
new_states n vs many h = new_each vs h ∙ ap (λ k. replicate k new_state) many

pub new_running : (vs : List View) → All IsNew vs → All (λ (v : View). v.disk.stopped ≡ false) vs
new_running vs h = λ k d here. (h k d here).1

-- a server that is up, on a disk as it was made but for writes
pub new_one : (v : View) → v.server ≡ new_server → v.disk.stopped ≡ false → (v.stops ≡ 0) × (v.restarts ≡ 0) → Spares 4 fresh_disk v.disk → IsNew v
new_one v server running none d =
    let up : v.server.up ≡ true = ap (λ (s : Server). s.up) server in
    let armed : v.disk.armed ≡ 0 = omega (arith, d.spends.fewer) in
    (rw (up, armed, d.word, d.faults, none.0, none.1) refl, running)

pub new_shown : (n : ℕ) (vs : List View) (s : ServersView) → length vs ≡ n → All IsNew vs → s ≡ served_by (states_in vs) 0 0 0 → s ≡ served_by (replicate n new_state) 0 0 0
new_shown n vs s many h is = is ∙ ap (λ (ss : List ServerState). served_by ss 0 0 0) (new_states n vs many h)
