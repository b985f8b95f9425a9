-- What is seen of the server of a file loglet, call by call.
use Rattle.std.proofs.Common.{◌≡◌, ℕ, zero, suc, ◌<◌, ◌≤◌, Bool, nat_lt, true, false, List, [], ◌∷◌, refl, inl, inr, ap, sym, ◌∙◌, subst, arith}
use Rattle.std.specs.Prelude.{if◌then◌else◌, Result, Ok, Err}
use Rattle.std.specs.declared.alloc.AllocError.{AllocError}
use Rattle.std.proofs.lemmas.Bool.{cases_Bool}
use Rattle.delos_types.specs.declared.entry.Entry.{Entry}
use Rattle.disk_model.specs.Disk.{DiskView, bumped as disk_bumped}
use Rattle.disk_model.specs.Armed.{Spends}
use Rattle.server_records.specs.Spelled.{empty_server}
use Rattle.loglet_api.specs.declared.call.LogletCall.TheVariants.{Carry, Stray, Stop, Restart}
use Rattle.loglet_api.specs.declared.call.LogletAnswer.TheVariants.{Refusal, Carried, Strayed, Stopped, Restarted}
use Rattle.loglet_api.specs.declared.call.Refused.TheVariants.{Memory}
use Rattle.loglet_api.specs.Step.{bumped}
use Rattle.loglet_api.specs.Servers.{ServerState, Writes, TakesSome, GoesDown, Wears, ChangesAt, IsArmed, RestartsTo, MayReopen, Serves}
use Rattle.quorum_cell.specs.Servers.{Server, restarted}
use Rattle.file_loglet.specs.declared.marks.Asked.{Asked}
use Rattle.file_loglet.specs.declared.marks.Marks.{Marks}
use Rattle.file_loglet.specs.Held.{Held, IsCalm, Fails, ComesUp, IsReopened, Brings}
use Rattle.file_loglet.specs.Later.{Wore, Stuck}
use Rattle.file_loglet.specs.Pending.{PendingMap}
use Rattle.file_loglet.specs.File.{FileView, file_view, held_in, state_in, new_state, serving_of}
use Rattle.file_loglet.proofs.Wholes.{restarted_up, stop_calm}

-- ---- one server

abbrev state : Bool → ℕ → ℕ → ℕ → Asked → ServerState
state up armed word faults a = record { up = up; armed = armed; word = word; faults = faults; stops = a.stops; restarts = a.restarts }

armed_alike : (up : Bool) (x y : ℕ) → (up ≡ true → x ≡ y) → (if up then x else 0) ≡ (if up then y else 0)
armed_alike true x y h = h refl
armed_alike false x y h = refl

-- it is up or not as before, its disk failed as often and wasn't reopened, and is armed so
state_alike : (old new : Held) (a : Asked) (n : ℕ) → new.server.up ≡ old.server.up → IsCalm old.disk new.disk → (old.server.up ≡ true → new.disk.armed ≡ n) → state_in new a ≡ record (state_in old a) { armed = if old.server.up then n else 0 }
state_alike old new a n up calm armed =
    ap (λ (u : Bool). state u (if u then new.disk.armed else 0) new.disk.word new.disk.faults a) up
    ∙ ap (λ (k : ℕ). state old.server.up k new.disk.word new.disk.faults a) (armed_alike old.server.up new.disk.armed n armed)
    ∙ ap (λ (w : ℕ). state old.server.up (if old.server.up then n else 0) w new.disk.faults a) calm.word
    ∙ ap (λ (f : ℕ). state old.server.up (if old.server.up then n else 0) old.disk.word f a) calm.faults

fewer_shown : (up : Bool) (x y : ℕ) → x ≤ y → (if up then x else 0) ≤ (if up then y else 0)
fewer_shown true x y h = h
fewer_shown false x y h = omega arith

still_shown : (up : Bool) (x y : ℕ) → nat_lt 0 x ≡ nat_lt 0 y → nat_lt 0 (if up then x else 0) ≡ nat_lt 0 (if up then y else 0)
still_shown true x y h = h
still_shown false x y h = refl

takes_some : (old new : Held) (a : Asked) → new.server.up ≡ old.server.up → IsCalm old.disk new.disk → new.disk.armed ≤ old.disk.armed → nat_lt 0 new.disk.armed ≡ nat_lt 0 old.disk.armed → TakesSome (state_in old a) (state_in new a)
takes_some old new a up calm fewer still =
    let shown : (if new.server.up then new.disk.armed else 0) ≡ (if old.server.up then new.disk.armed else 0) = ap (λ (u : Bool). if u then new.disk.armed else 0) up in
    record {
      is = state_alike old new a new.disk.armed up calm (λ u. refl) ∙ ap (λ (k : ℕ). record (state_in old a) { armed = k }) (sym shown);
      fewer = subst (λ (k : ℕ). k ≤ (if old.server.up then old.disk.armed else 0)) (sym shown) (fewer_shown old.server.up new.disk.armed old.disk.armed fewer);
      still = ap (λ (k : ℕ). nat_lt 0 k) shown ∙ still_shown old.server.up new.disk.armed old.disk.armed still;
    }

writes_up : (s t : ServerState) → s.up ≡ true → TakesSome s t → Writes s t
writes_up s t up h = record { up = up; is = h.is; fewer = h.fewer; still = h.still }

one_count : (f : ℕ) → disk_bumped f ≡ bumped f
one_count f = omega arith

goes_down : (old new : Held) (a : Asked) → old.server.up ≡ true → new.server.up ≡ false → Fails old.disk new.disk → GoesDown (state_in old a) (state_in new a)
goes_down old new a was down failed =
    record {
      was = was;
      is = ap (λ (u : Bool). state u (if u then new.disk.armed else 0) new.disk.word new.disk.faults a) down
          ∙ ap (λ (w : ℕ). state false 0 w new.disk.faults a) failed.word
          ∙ ap (λ (f : ℕ). state false 0 old.disk.word f a) (failed.faults ∙ one_count old.disk.faults);
    }

wear : (old new : Held) (a : Asked) → Wore old new → Wears (state_in old a) (state_in new a)
wear old new a (inl same) =
    elim (cases_Bool old.server.up) [
      | inl up ↦ inr (inl (writes_up (state_in old a) (state_in new a) up (takes_some old new a same.0 same.1 (omega (arith, same.2.taken)) same.2.still)))
      | inr down ↦ inl (state_alike old new a old.disk.armed same.0 same.1 (λ up. absurd (cc)))
    ]
wear old new a (inr failed) = inr (inr (goes_down old new a failed.0 failed.1 failed.2))

stuck : (old new : Held) (a : Asked) → Stuck old new → TakesSome (state_in old a) (state_in new a)
stuck old new a h =
    let t = h.2.1 in
    let s = h.2.2 in
    takes_some old new a h.0 h.1 (omega (arith, t.taken, s.fewer)) (s.still ∙ t.still)

at_zero : (R : ServerState → ServerState → Type 0) (i : ℕ) (s t : ServerState) → i < 1 → R s t → ChangesAt R i (s ∷ []) (t ∷ [])
at_zero R zero s t lt r = (r, refl)
at_zero R (suc i) s t lt r = absurd (omega arith)

-- ---- a new one

abbrev nothing_asked : Asked
nothing_asked = record { told = 0; carries = 0; strays = 0; stops = 0; restarts = 0 }

-- it holds nothing, on a disk that wasn't armed, never failed and wasn't reopened
pub new_serving : (v : FileView) → (v.server ≡ empty_server) × (v.disk.faults ≡ 0) × (v.disk.word ≡ 0) → Spends 1 0 v.disk.armed → v.asked ≡ nothing_asked → serving_of v ≡ record { states = new_state ∷ []; told = 0; carries = 0; strays = 0 }
new_serving v disk spends asked =
    let armed : v.disk.armed ≡ 0 = omega (arith, spends.fewer) in
    ap (λ (a : Asked). record { states = state_in (held_in v) a ∷ []; told = a.told; carries = a.carries; strays = a.strays }) asked
    ∙ ap (λ (u : Bool). record { states = state u (if u then v.disk.armed else 0) v.disk.word v.disk.faults nothing_asked ∷ []; told = 0; carries = 0; strays = 0 }) (ap (λ (s : Server). s.up) disk.0)
    ∙ ap (λ (n : ℕ). record { states = state true n v.disk.word v.disk.faults nothing_asked ∷ []; told = 0; carries = 0; strays = 0 }) armed
    ∙ ap (λ (w : ℕ). record { states = state true 0 w v.disk.faults nothing_asked ∷ []; told = 0; carries = 0; strays = 0 }) disk.2
    ∙ ap (λ (f : ℕ). record { states = state true 0 0 f nothing_asked ∷ []; told = 0; carries = 0; strays = 0 }) disk.1

-- ---- calls

-- nothing is seen
pub still_served : (room : ℕ) (es : List Entry) (held : Held) (marks : Marks) (m : PendingMap) (es' : List Entry) (marks' : Marks) (n : PendingMap) (w : FileView) → file_view room es held marks m ≡ w → marks'.asked ≡ marks.asked
    → serving_of (file_view room es' held marks' n) ≡ serving_of w
still_served room es held marks m es' marks' n w e asked =
    ap (λ (a : Asked). record { states = state_in held a ∷ []; told = a.told; carries = a.carries; strays = a.strays }) asked ∙ ap serving_of e

-- an operation was carried by a word, and the server wore
pub carried_served : (room : ℕ) (es : List Entry) (old new : Held) (marks marks' : Marks) (m n : PendingMap) (w : FileView) (t word : ℕ) → file_view room es old marks m ≡ w → Wore old new
    → marks' ≡ record marks { asked = record marks.asked { told = word; carries = bumped marks.asked.carries } }
    → Serves (serving_of w) (Carry t word) Carried (serving_of (file_view room es new marks' n))
carried_served room es old new marks marks' m n w t word e h em =
    subst (λ (v : FileView). Serves (serving_of v) (Carry t word) Carried (serving_of (file_view room es new marks' n))) e
    (subst (λ (x : Marks). Serves (serving_of (file_view room es old marks m)) (Carry t word) Carried (serving_of (file_view room es new x n))) (sym em) ((wear old new marks.asked h, tt), refl))

-- .. or memory was wanting
pub stuck_served : (room : ℕ) (es : List Entry) (old new : Held) (marks : Marks) (m n : PendingMap) (w : FileView) (t word : ℕ) → file_view room es old marks m ≡ w → Stuck old new
    → Serves (serving_of w) (Carry t word) (Refusal Memory) (serving_of (file_view room es new marks n))
stuck_served room es old new marks m n w t word e h =
    subst (λ (v : FileView). Serves (serving_of v) (Carry t word) (Refusal Memory) (serving_of (file_view room es new marks n))) e ((stuck old new marks.asked h, tt), refl)

pub strayed_served : (room : ℕ) (es : List Entry) (held : Held) (marks marks' : Marks) (m : PendingMap) (w : FileView) (word : ℕ) → file_view room es held marks m ≡ w
    → marks' ≡ record marks { asked = record marks.asked { told = word; strays = bumped marks.asked.strays } }
    → Serves (serving_of w) (Stray word) Strayed (serving_of (file_view room es held marks' m))
strayed_served room es held marks marks' m w word e em =
    subst (λ (v : FileView). Serves (serving_of v) (Stray word) Strayed (serving_of (file_view room es held marks' m))) e
    (subst (λ (x : Marks). Serves (serving_of (file_view room es held marks m)) (Stray word) Strayed (serving_of (file_view room es held x m))) (sym em) ((inl refl, tt), refl))

pub only_server : (room : ℕ) (es : List Entry) (held : Held) (marks : Marks) (m : PendingMap) (w : FileView) (server : ℕ) → file_view room es held marks m ≡ w → server < w.loglet.servers → server < 1
only_server room es held marks m w server e lt = subst (λ (n : ℕ). server < n) (sym (ap (λ (v : FileView). v.loglet.servers) e)) lt

armed_so : (old new : Held) (a : Asked) (n : ℕ) → new.server ≡ old.server → new.disk ≡ (if old.disk.stopped then old.disk else record old.disk { armed = n }) → (old.server.up ≡ true → new.disk ≡ record old.disk { armed = n })
    → IsArmed n (state_in old a) (state_in new (record a { stops = bumped a.stops }))
armed_so old new a n server disk armed =
    ap (λ (s : ServerState). record s { stops = bumped a.stops })
    (state_alike old new a n (ap (λ (s : Server). s.up) server) (stop_calm old new n disk) (λ up. ap (λ (d : DiskView). d.armed) (armed up)))

pub stopped_served : (room : ℕ) (es : List Entry) (old new : Held) (marks marks' : Marks) (m : PendingMap) (w : FileView) (server after : ℕ) → file_view room es old marks m ≡ w → server < w.loglet.servers
    → new.server ≡ old.server → new.disk ≡ (if old.disk.stopped then old.disk else record old.disk { armed = after }) → (old.server.up ≡ true → new.disk ≡ record old.disk { armed = after })
    → marks' ≡ record marks { asked = record marks.asked { stops = bumped marks.asked.stops } }
    → Serves (serving_of w) (Stop server after) Stopped (serving_of (file_view room es new marks' m))
stopped_served room es old new marks marks' m w server after e lt same disk armed em =
    subst (λ (v : FileView). Serves (serving_of v) (Stop server after) Stopped (serving_of (file_view room es new marks' m))) e
    (subst (λ (x : Marks). Serves (serving_of (file_view room es old marks m)) (Stop server after) Stopped (serving_of (file_view room es new x m))) (sym em)
    (at_zero (IsArmed after) server (state_in old marks.asked) (state_in new (record marks.asked { stops = bumped marks.asked.stops })) (only_server room es old marks m w server e lt) (armed_so old new marks.asked after same disk armed), refl))

-- ---- a restart

abbrev again : Asked → Asked
again a = record a { restarts = bumped a.restarts }

idle_again : (word : ℕ) (old new : Held) (a : Asked) → old.server.up ≡ true → new ≡ old → RestartsTo word true (state_in old a) (state_in new (again a))
idle_again word old new a up same =
    ap (λ (h : Held). state_in h (again a)) same
    ∙ ap (λ (u : Bool). state u (if old.server.up then old.disk.armed else 0) old.disk.word old.disk.faults (again a)) up
    ∙ ap (λ (u : Bool). state true (if old.server.up then old.disk.armed else 0) (if u then old.disk.word else word) old.disk.faults (again a)) (sym up)

came_up : (word : ℕ) (old new : Held) (a : Asked) → ComesUp word old new → RestartsTo word true (state_in old a) (state_in new (again a))
came_up word old new a h =
    let up : new.server.up ≡ true = ap (λ (s : Server). s.up) h.server ∙ restarted_up old.server h.kept old.server.torn in
    ap (λ (u : Bool). state u (if u then new.disk.armed else 0) new.disk.word new.disk.faults (again a)) up
    ∙ ap (λ (n : ℕ). state true n new.disk.word new.disk.faults (again a)) h.disarmed
    ∙ ap (λ (w : ℕ). state true 0 w new.disk.faults (again a)) h.reopened
    ∙ ap (λ (f : ℕ). state true 0 word f (again a)) h.faults
    ∙ sym (ap (λ (u : Bool). state true (if u then old.disk.armed else 0) (if u then old.disk.word else word) old.disk.faults (again a)) h.was)

-- it is down still, so far as this is seen of its disk
down_still : (old new : Held) (a : Asked) (f : ℕ) → old.server.up ≡ false → new.server ≡ old.server → new.disk.faults ≡ f → state_in new a ≡ record (state_in old a) { word = new.disk.word; faults = f }
down_still old new a f was same faults =
    ap (λ (u : Bool). state u (if u then new.disk.armed else 0) new.disk.word new.disk.faults a) (ap (λ (s : Server). s.up) same ∙ was)
    ∙ ap (λ (n : ℕ). state false 0 new.disk.word n a) faults
    ∙ sym (ap (λ (u : Bool). state u (if u then old.disk.armed else 0) new.disk.word f a) was)

restarts_to : (word : ℕ) (old new : Held) (a : Asked) (up : Bool) → Brings word old (Ok up) new → RestartsTo word up (state_in old a) (state_in new (again a))
restarts_to word old new a true (inl idle) = idle_again word old new a idle.0 idle.1
restarts_to word old new a true (inr h) = came_up word old new a h
restarts_to word old new a false h = (h.was, h.tried, down_still old new (again a) (bumped old.disk.faults) h.was h.server (h.faults ∙ one_count old.disk.faults))

pub restarted_served : (room : ℕ) (es : List Entry) (old new : Held) (marks marks' : Marks) (m : PendingMap) (w : FileView) (server word : ℕ) (up : Bool) → file_view room es old marks m ≡ w → server < w.loglet.servers
    → Brings word old (Ok up) new → marks' ≡ record marks { asked = record marks.asked { restarts = bumped marks.asked.restarts } }
    → Serves (serving_of w) (Restart server word) (Restarted up) (serving_of (file_view room es new marks' m))
restarted_served room es old new marks marks' m w server word up e lt h em =
    subst (λ (v : FileView). Serves (serving_of v) (Restart server word) (Restarted up) (serving_of (file_view room es new marks' m))) e
    (subst (λ (x : Marks). Serves (serving_of (file_view room es old marks m)) (Restart server word) (Restarted up) (serving_of (file_view room es new x m))) (sym em)
    (at_zero (RestartsTo word up) server (state_in old marks.asked) (state_in new (again marks.asked)) (only_server room es old marks m w server e lt) (restarts_to word old new marks.asked up h), refl))

reopened : (word : ℕ) (old new : Held) (a : Asked) → IsReopened word old new → MayReopen word (state_in old a) (state_in new a)
reopened word old new a h =
    inr (h.was, down_still old new a old.disk.faults h.was h.server h.faults ∙ ap (λ (w : ℕ). record (state_in old a) { word = w }) h.reopened)

-- .. or memory was wanting
pub reopened_served : (room : ℕ) (es : List Entry) (old new : Held) (marks : Marks) (m : PendingMap) (w : FileView) (server word : ℕ) → file_view room es old marks m ≡ w → server < w.loglet.servers
    → IsReopened word old new → Serves (serving_of w) (Restart server word) (Refusal Memory) (serving_of (file_view room es new marks m))
reopened_served room es old new marks m w server word e lt h =
    subst (λ (v : FileView). Serves (serving_of v) (Restart server word) (Refusal Memory) (serving_of (file_view room es new marks m))) e
    (at_zero (MayReopen word) server (state_in old marks.asked) (state_in new marks.asked) (only_server room es old marks m w server e lt) (reopened word old new marks.asked h), refl)

-- ---- the server and its disk in the view

pub wore_shown : (room : ℕ) (es : List Entry) (old new : Held) (marks marks' : Marks) (m n : PendingMap) (w : FileView) → file_view room es old marks m ≡ w → Wore old new → Wore (held_in w) (held_in (file_view room es new marks' n))
wore_shown room es old new marks marks' m n w e h = subst (λ (v : FileView). Wore (held_in v) (held_in (file_view room es new marks' n))) e h

pub stuck_shown : (room : ℕ) (es : List Entry) (old new : Held) (marks : Marks) (m n : PendingMap) (w : FileView) → file_view room es old marks m ≡ w → Stuck old new → Stuck (held_in w) (held_in (file_view room es new marks n))
stuck_shown room es old new marks m n w e h = subst (λ (v : FileView). Stuck (held_in v) (held_in (file_view room es new marks n))) e h

pub brought_idle : (word : ℕ) (old new : Held) (r : Result Bool AllocError) → Brings word old r new → old.server.up ≡ true → new ≡ old
brought_idle word old new (Ok true) (inl idle) up = idle.1
brought_idle word old new (Ok true) (inr h) up = absurd (let was = h.was in cc)
brought_idle word old new (Ok false) h up = absurd (let was = h.was in cc)
brought_idle word old new (Err u) h up = absurd (let was = h.was in cc)

pub brought_up : (word : ℕ) (old new : Held) (up : Bool) → Brings word old (Ok up) new → old.server.up ≡ false → up ≡ true → (kept : Bool) × (new.server ≡ restarted old.server kept old.server.torn)
brought_up word old new true (inl idle) was now = absurd (let up = idle.0 in cc)
brought_up word old new true (inr h) was now = (h.kept, h.server)
brought_up word old new false h was now = absurd (cc)

pub restarted_shown : (room : ℕ) (es : List Entry) (old new : Held) (marks : Marks) (m : PendingMap) (w : FileView) (word : ℕ) (up : Bool) → file_view room es old marks m ≡ w → Brings word old (Ok up) new → w.server.up ≡ false → up ≡ true
    → (kept : Bool) × (new.server ≡ restarted w.server kept w.server.torn)
restarted_shown room es old new marks m w word up e h =
    subst (λ (v : FileView). v.server.up ≡ false → up ≡ true → (kept : Bool) × (new.server ≡ restarted v.server kept v.server.torn)) e (brought_up word old new up h)

pub idle_shown : (room : ℕ) (es : List Entry) (old new : Held) (marks marks' : Marks) (m : PendingMap) (w : FileView) (word : ℕ) (r : Result Bool AllocError) → file_view room es old marks m ≡ w → Brings word old r new
    → marks' ≡ record marks { asked = record marks.asked { restarts = bumped marks.asked.restarts } } → w.server.up ≡ true
    → file_view room es new marks' m ≡ record w { asked = record w.asked { restarts = bumped w.asked.restarts } }
idle_shown room es old new marks marks' m w word r e h em =
    subst (λ (v : FileView). v.server.up ≡ true → file_view room es new marks' m ≡ record v { asked = record v.asked { restarts = bumped v.asked.restarts } }) e (λ up. rw (em, brought_idle word old new r h up) refl)

pub is_down : (room : ℕ) (es : List Entry) (old : Held) (marks : Marks) (m : PendingMap) (w : FileView) → file_view room es old marks m ≡ w → old.server.up ≡ false → w.server.up ≡ false
is_down room es old marks m w e was = subst (λ (v : FileView). v.server.up ≡ false) e was
