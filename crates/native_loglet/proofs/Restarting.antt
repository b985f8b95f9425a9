-- A server comes up again, or does not.
use Rattle.std.proofs.Common.{◌≡◌, ℕ, ◌+◌, ◌-◌, ◌^◌, ◌<◌, Bool, true, false, refl, sym, ◌∙◌, ap, arith, List, [], ◌∷◌, ◌++◌, map, length, get_or, set, length-append}
use Rattle.std.specs.Prelude.{not, ◌&&◌, nat_lt, min, if◌then◌else◌}
use Rattle.std.proofs.lemmas.Bool.{false≢true, lt-ltb, and_from}
use Rattle.std.proofs.lemmas.List.{length-set}
use Rattle.loglet_api.specs.declared.call.LogletCall.TheVariants.{Restart as CallRestart}
use Rattle.loglet_api.specs.declared.call.LogletAnswer.TheVariants.{Restarted}
use Rattle.loglet_api.specs.View.{LogletView}
use Rattle.loglet_api.specs.Step.{LogletStep}
use Rattle.quorum_cell.specs.declared.operation.CellStep.TheVariants.{Restart, RestartFails}
use Rattle.quorum_cell.specs.Servers.{Server, restarted}
use Rattle.quorum_cell.specs.Cells.{Cell, operation, server, no_server}
use Rattle.quorum_cell.specs.Steps.{restart, restart_fails, with_fault}
use Rattle.quorum_cell.proofs.Runs.{run_later}
use Rattle.cell_views.specs.Views.{counted}
use Rattle.log_server.specs.View.{View}
use Rattle.native_loglet.specs.Faults.{faults_after}
use Rattle.native_loglet.specs.Natives.{Native, server_in, loglet_of, manner_of, IsCellOf}
use Rattle.native_loglet.specs.Steps.{Reaches}
use Rattle.native_loglet.proofs.Viewing.{fits_own, manner_is, servers_many}
use Rattle.native_loglet.proofs.Mails.{strays_stay}
use Rattle.native_loglet.proofs.Extending.{run_extends}
use Rattle.native_loglet.proofs.Stepping.{call_of, stirred_tied, all_open}
use Rattle.native_loglet.proofs.Alike.{IsOwned, mapped, map_set, set_same}

-- the loglet after one server was put and faults were noted
abbrev pub restarted_to : Native → ℕ → View → Bool → Native
restarted_to a i is failed = record a { replicas = set a.replicas i is; marks = record a.marks { faults = faults_after failed a.marks.faults } }

any_word : (v w : LogletView) (i word : ℕ) (up : Bool) → LogletStep v (CallRestart i 0) (Restarted up) w → LogletStep v (CallRestart i word) (Restarted up) w
any_word v w i word up s = record { before = s.before; can = s.can; does = s.does; after = s.after }

server_is : (a : Native) (c : Cell) (i : ℕ) (was : View) → IsCellOf a c → i < length a.replicas → was ≡ get_or a.replicas i was → server c i ≡ was.server
server_is a c i was h here there = ap (λ (ss : List Server). get_or ss i no_server) h.servers ∙ mapped a.replicas i was here ∙ sym (ap server_in there)

same_operations : (c : Cell) (i : ℕ) (kept : Bool) (q : ℕ) → operation (restart c i kept) q ≡ operation c q
same_operations c i kept q = by (server c i).up
  where
    by : (b : Bool) → operation (if b then c else record c { servers = set c.servers i (restarted (server c i) kept (server c i).torn) }) q ≡ operation c q
    by true = refl
    by false = refl

same_faults : (c : Cell) (i : ℕ) (kept : Bool) → (restart c i kept).faults ≡ c.faults
same_faults c i kept = by (server c i).up
  where
    by : (b : Bool) → (if b then c else record c { servers = set c.servers i (restarted (server c i) kept (server c i).torn) }).faults ≡ c.faults
    by true = refl
    by false = refl

-- it is up again
up_tied : (a : Native) (c : Cell) (i : ℕ) (kept : Bool) (is : View) → IsCellOf a c → (restart c i kept).servers ≡ map server_in (set a.replicas i is) → IsCellOf (restarted_to a i is false) (restart c i kept)
up_tied a c i kept is h servers = stirred_tied a (restarted_to a i is false) c (Restart i kept ∷ []) h (tt, tt) servers (ap (λ (fs : List ℕ). counted (length fs)) (same_faults c i kept) ∙ h.faults) refl refl refl
    (all_open a c (restart c i kept) h (run_later (Restart i kept ∷ []) c) (run_extends (Restart i kept ∷ []) c) (same_operations c i kept))
    (strays_stay a c (restart c i kept) h (run_later (Restart i kept ∷ []) c) (run_extends (Restart i kept ∷ []) c))

up_owned : (a : Native) (c : Cell) (v : LogletView) (i word : ℕ) (kept : Bool) (is : View) → loglet_of a ≡ v → IsCellOf a c → i < length a.replicas → (restart c i kept).servers ≡ map server_in (set a.replicas i is)
    → IsOwned (restarted_to a i is false) × LogletStep v (CallRestart i word) (Restarted true) (loglet_of (restarted_to a i is false))
up_owned a c v i word kept is e h here servers =
    let b : Native = restarted_to a i is false in
    let tied : IsCellOf b (restart c i kept) = up_tied a c i kept is h servers in
    let there : i < length c.servers = omega (arith, here, servers_many a c h) in (
      (restart c i kept, tied),
      any_word v (loglet_of b) i word true
          (call_of a b c (Restart i kept) v (CallRestart i 0) (Restarted true) e h tied tt (length-set a.replicas i is) (manner_of a).left (fits_own a) (fits_own a) (manner_is a c h) (rw (lt-ltb i (length c.servers) there) refl)),
    )

-- its disk failed once more
fails_possible : (a : Native) (c : Cell) (i : ℕ) (was : View) → IsCellOf a c → i < length a.replicas → was ≡ get_or a.replicas i was → was.server.up ≡ false → (nat_lt i (length c.servers) && not (server c i).up) ≡ true
fails_possible a c i was h here there down =
    let within : i < length c.servers = omega (arith, here, servers_many a c h) in
    let is_down : (server c i).up ≡ false = ap (λ (s : Server). s.up) (server_is a c i was h here there) ∙ down in
    and_from _ _ (lt-ltb i (length c.servers) within) (ap not is_down)

down_tied : (a : Native) (c : Cell) (i : ℕ) (was is : View) → IsCellOf a c → i < length a.replicas → was ≡ get_or a.replicas i was → was.server.up ≡ false → is.server ≡ was.server → IsCellOf (restarted_to a i is true) (restart_fails c i)
down_tied a c i was is h here there down same =
    let steps : restart_fails c i ≡ with_fault c i = rw (fails_possible a c i was h here there down) refl in
    let more : counted (length (c.faults ++ i ∷ [])) ≡ min (counted (length c.faults) + 1) (2 ^ 64 - 1) = omega (arith, length-append c.faults (i ∷ [])) in
    let faults : counted (length (restart_fails c i).faults) ≡ faults_after true a.marks.faults = ap (λ (d : Cell). counted (length d.faults)) steps ∙ more ∙ ap (faults_after true) h.faults in
    let servers : (restart_fails c i).servers ≡ map server_in (set a.replicas i is) = ap (λ (d : Cell). d.servers) steps ∙ h.servers ∙ sym (set_same a.replicas i was is here (same ∙ ap server_in there)) in
    stirred_tied a (restarted_to a i is true) c (RestartFails i ∷ []) h (tt, tt) servers faults refl refl refl (all_open a c (restart_fails c i) h (run_later (RestartFails i ∷ []) c) (run_extends (RestartFails i ∷ []) c) (λ q. ap (λ (d : Cell). operation d q) steps))
    (strays_stay a c (restart_fails c i) h (run_later (RestartFails i ∷ []) c) (run_extends (RestartFails i ∷ []) c))

down_owned : (a : Native) (c : Cell) (v : LogletView) (i word : ℕ) (was is : View) → loglet_of a ≡ v → IsCellOf a c → i < length a.replicas → was ≡ get_or a.replicas i was → was.server.up ≡ false → is.server ≡ was.server
    → IsOwned (restarted_to a i is true) × LogletStep v (CallRestart i word) (Restarted false) (loglet_of (restarted_to a i is true))
down_owned a c v i word was is e h here there down same =
    let b : Native = restarted_to a i is true in
    let tied : IsCellOf b (restart_fails c i) = down_tied a c i was is h here there down same in (
      (restart_fails c i, tied),
      any_word v (loglet_of b) i word false
          (call_of a b c (RestartFails i) v (CallRestart i 0) (Restarted false) e h tied tt (length-set a.replicas i is) (manner_of a).left (fits_own a) (fits_own a) (manner_is a c h) (rw (fails_possible a c i was h here there down) refl)),
    )

-- the servers once it is up, which it may have been before
rises_servers : (a : Native) (c : Cell) (i : ℕ) (was is : View) → IsCellOf a c → i < length a.replicas → was ≡ get_or a.replicas i was → server c i ≡ was.server
    → (was.server.up ≡ true → is.server ≡ was.server) → (kept : Bool) → is.server ≡ restarted was.server kept was.server.torn → (restart c i kept).servers ≡ map server_in (set a.replicas i is)
rises_servers a c i was is h here there same calm kept rose = by was.server.up refl
  where
    by : (b : Bool) → was.server.up ≡ b → (restart c i kept).servers ≡ map server_in (set a.replicas i is)
    by true u =
        let stays : (server c i).up ≡ true = ap (λ (s : Server). s.up) same ∙ u in
        let servers : (restart c i kept).servers ≡ c.servers = rw stays refl in
        servers ∙ h.servers ∙ sym (set_same a.replicas i was is here (calm u ∙ ap server_in there))
    by false u =
        let down : (server c i).up ≡ false = ap (λ (s : Server). s.up) same ∙ u in
        let servers : (restart c i kept).servers ≡ set c.servers i (restarted (server c i) kept (server c i).torn) = rw down refl in
        let put : restarted (server c i) kept (server c i).torn ≡ is.server = ap (λ (s : Server). restarted s kept s.torn) same ∙ sym rose in
        servers ∙ ap (λ (s : Server). set c.servers i s) put ∙ ap (λ (ss : List Server). set ss i is.server) h.servers ∙ sym (map_set a.replicas i is)

-- what a restart answers and does
rises : (a : Native) (c : Cell) (v : LogletView) (i word : ℕ) (was is : View) → loglet_of a ≡ v → IsCellOf a c → i < length a.replicas → was ≡ get_or a.replicas i was → server c i ≡ was.server
    → (was.server.up ≡ true → is.server ≡ was.server) → (kept : Bool) → is.server ≡ restarted was.server kept was.server.torn → IsOwned (restarted_to a i is false) × LogletStep v (CallRestart i word) (Restarted true) (loglet_of (restarted_to a i is false))
rises a c v i word was is e h here there same calm kept rose = up_owned a c v i word kept is e h here (rises_servers a c i was is h here there same calm kept rose)

-- a restart that failed was one of a server that is down
down_yet : (b : Bool) (P : Type 0) → (b ≡ true → (false ≡ true) × P) → b ≡ false
down_yet true P k = absurd (false≢true (k refl).0)
down_yet false P k = refl

pub restarts_owned : (a : Native) (v : LogletView) (i word : ℕ) (was is : View) (up : Bool) → loglet_of a ≡ v → IsOwned a → i < length a.replicas → was ≡ get_or a.replicas i was
    → (was.server.up ≡ true → (up ≡ true) × (is.server ≡ was.server)) → (up ≡ true → (kept : Bool) × (is.server ≡ restarted was.server kept was.server.torn)) → (up ≡ false → is.server ≡ was.server)
    → IsOwned (restarted_to a i is (not up)) × LogletStep v (CallRestart i word) (Restarted up) (loglet_of (restarted_to a i is (not up)))
restarts_owned a v i word was is false e h here there calm rose failed = down_owned a h.0 v i word was is e h.1 here there (down_yet was.server.up (is.server ≡ was.server) calm) (failed refl)
restarts_owned a v i word was is true e h here there calm rose failed = rises a h.0 v i word was is e h.1 here there (server_is a h.0 i was h.1 here there) (λ u. (calm u).1) (rose refl).0 (rose refl).1

-- the steps of a restart, in the cell that the loglet is
pub restarts_in : (a : Native) (c : Cell) (i word : ℕ) (was is : View) (up : Bool) → IsCellOf a c → i < length a.replicas → was ≡ get_or a.replicas i was
    → (was.server.up ≡ true → (up ≡ true) × (is.server ≡ was.server)) → (up ≡ true → (kept : Bool) × (is.server ≡ restarted was.server kept was.server.torn)) → (up ≡ false → is.server ≡ was.server)
    → Reaches a c (CallRestart i word) (Restarted up) (restarted_to a i is (not up))
restarts_in a c i word was is false h here there calm rose failed = record { steps = RestartFails i ∷ []; are = refl; cell = down_tied a c i was is h here there (down_yet was.server.up (is.server ≡ was.server) calm) (failed refl) }
restarts_in a c i word was is true h here there calm rose failed = record {
  steps = Restart i (rose refl).0 ∷ [];
  are = ((rose refl).0, refl);
  cell = up_tied a c i (rose refl).0 is h (rises_servers a c i was is h here there (server_is a c i was h here there) (λ u. (calm u).1) (rose refl).0 (rose refl).1);
}
