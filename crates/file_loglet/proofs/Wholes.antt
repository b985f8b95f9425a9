-- A file loglet as its fields, and the cell that it is.
use Rattle.std.proofs.Common.{◌≡◌, ℕ, ◌+◌, ◌-◌, ◌^◌, ◌<◌, ◌≤◌, Bool, nat_eq, map, true, false, max, Option, Some, None, List}
use Rattle.std.proofs.Common.{length, is_some, refl, inl, inr, ap, sym, ◌∙◌, subst, arith}
use Rattle.std.specs.Prelude.{slice_get, if◌then◌else◌, Ok}
use Rattle.std.specs.HashMap.{get}
use Rattle.std.proofs.lemmas.Bool.{cases_Bool}
use Rattle.std.proofs.lemmas.Option.{same_Some}
use Rattle.delos_types.specs.declared.entry.Entry.{Entry}
use Rattle.delos_types.specs.Spelling.{IsSpellable}
use Rattle.loglet_api.specs.declared.call.Answer.{Answer}
use Rattle.loglet_api.specs.declared.call.Answer.TheVariants.{Placed, Settled, OpenTail, SealedTail, SealDone, Got, CutAt, Beyond, TrimDone, Sealed, NoQuorum}
use Rattle.loglet_api.specs.declared.call.Task.{Task}
use Rattle.loglet_api.specs.declared.call.Task.TheVariants.{Placing, Settling, Finding, Sealing, Reading, Trimming}
use Rattle.loglet_api.specs.declared.call.LogletCall.{LogletCall}
use Rattle.loglet_api.specs.declared.call.LogletCall.TheVariants as calling
use Rattle.loglet_api.specs.declared.call.LogletAnswer.{LogletAnswer}
use Rattle.loglet_api.specs.declared.call.LogletAnswer.TheVariants.{Taken}
use Rattle.loglet_api.specs.View.{LogletView, Operation as OpenOperation, operation_at}
use Rattle.loglet_api.specs.Sound.{IsSound}
use Rattle.loglet_api.specs.Step.{Does, CanCall, HasLeft, MayAnswer, IsLack, Restarts, RoseBy, told_reach, told_firm, wanted_by, task_of}
use Rattle.quorum_cell.specs.declared.message.Ask.{Ask}
use Rattle.quorum_cell.specs.declared.message.Ask.TheVariants.{Store, Seal, Tail, Repair, Read, Trim}
use Rattle.quorum_cell.specs.declared.operation.Aim.{Aim}
use Rattle.quorum_cell.specs.declared.operation.Aim.TheVariants as aims
use Rattle.quorum_cell.specs.declared.operation.CellStep.TheVariants as steps_of
use Rattle.quorum_cell.specs.Servers.{Server, length_of, is_sealed, writes, wrote, written, restarted}
use Rattle.quorum_cell.specs.Cells.{Cell, operation}
use Rattle.quorum_cell.specs.Steps.{take_outcome}
use Rattle.quorum_cell.specs.Law.{ServerHolds, OperationHolds}
use Rattle.cell_views.specs.Views.{cell_view, op_of}
use Rattle.cell_views.proofs.Sounds.{view_sound}
use Rattle.file_loglet.specs.declared.marks.Asked.{Asked}
use Rattle.file_loglet.specs.declared.marks.Marks.{Marks}
use Rattle.file_loglet.specs.declared.pending.Pending.{Pending}
use Rattle.file_loglet.specs.Held.{Held, IsCalm, Brings}
use Rattle.disk_model.specs.Disk.{DiskView, bumped}
use Rattle.file_loglet.specs.Pending.{PendingMap, left_of, operation_of, shown_answer, answer_at, told_at}
use Rattle.journal_core.specs.Journal.{LeavesRecords}
use Rattle.server_records.specs.Spelled.{server_of}
use Rattle.file_loglet.specs.File.{FileView, file_view, counted, down_of, loglet_of, IsServed}
use Rattle.file_loglet.specs.Steps.{manner, IsCellOf, FileStep}
use Rattle.file_loglet.specs.Whole.{IsWhole}
use Rattle.file_loglet.proofs.Laters.{wrote_up, MayFail, slice_get-drop, within_get}
use Rattle.file_loglet.proofs.Maps.{shown_at, is_there}
use Rattle.file_loglet.proofs.Ties.{open_in, manner_is, call_of, same_tied, server_holds, firm_within}
use Rattle.file_loglet.proofs.Carrying.{Comes, taken_is}
use Rattle.file_loglet.proofs.Steps.{Onward, moves_same, moves_onward, has_left}

pub shows : (room : ℕ) (es : List Entry) (held : Held) (marks : Marks) (m : PendingMap) (w : FileView) → file_view room es held marks m ≡ w → loglet_of room es held marks m ≡ w.loglet
shows room es held marks m w e = ap (λ (x : FileView). x.loglet) e

-- ---- what its cell says

-- what is shown of a cell is sound, in any order of its operations
pub cell_sound : (v : FileView) (c : Cell) → IsCellOf v c → IsSound v.loglet
cell_sound v c h =
    let s = view_sound manner c (manner_is c h.lawful) h.lawful h.spelled in
    subst IsSound (sym h.shows) (record {
      shape = record { servers = s.shape.servers; quorum = s.shape.quorum; room = s.shape.room; rounds = s.shape.rounds; limit = s.shape.limit };
      cut = s.cut;
      reach = s.reach;
      firm = s.firm;
      size = s.size;
      cap = s.cap;
      sealing = s.sealing;
      begun = s.begun;
      seals = s.seals;
      lacks = s.lacks;
      down = s.down;
      faults = s.faults;
      spelled = s.spelled;
      operations = λ t o is. (let k = s.operations t o (sym (h.operations t) ∙ is) in
          record { ticket = k.ticket; rounds = k.rounds; steps = k.steps; size = k.size; reach = k.reach; firm = k.firm; shut = k.shut; faults = k.faults });
    })

pub whole_sound : (room : ℕ) (es : List Entry) (held : Held) (marks : Marks) (m : PendingMap) → IsWhole room es held marks m → IsSound (loglet_of room es held marks m)
whole_sound room es held marks m h = cell_sound (file_view room es held marks m) h.cell h.is

pub sound : (room : ℕ) (es : List Entry) (held : Held) (marks : Marks) (m : PendingMap) (w : FileView) → file_view room es held marks m ≡ w → IsWhole room es held marks m → IsSound w.loglet
sound room es held marks m w e h = subst IsSound (shows room es held marks m w e) (whole_sound room es held marks m h)

-- how far the server and the log reach
pub record Lies (es : List Entry) (held : Held) (marks : Marks) : Type 0 where
  pub base : held.server.base ≤ marks.cut
  pub cut : marks.cut ≤ marks.reach
  pub reach : marks.reach ≤ marks.firm
  pub firm : marks.firm ≤ length_of held.server
  pub stored : length_of held.server ≤ length es
  pub small : length es ≤ 2 ^ 32
  pub same : (k : ℕ) → k < length held.server.entries → slice_get held.server.entries k ≡ slice_get es (held.server.base + k)
  pub spelled : (i : ℕ) (e : Entry) → slice_get es i ≡ Some e → IsSpellable e

pub lies : (room : ℕ) (es : List Entry) (held : Held) (marks : Marks) (m : PendingMap) → IsWhole room es held marks m → Lies es held marks
lies room es held marks m h =
    let c = h.cell in
    let s = whole_sound room es held marks m h in
    let here : ServerHolds c held.server = server_holds (file_view room es held marks m) c h.is in
    let long = firm_within (file_view room es held marks m) c h.is in
    let fits = h.is.lawful.law.quorum.fits in
    let most = h.is.lawful.shape.room.1 in
    let cut : marks.cut ≡ c.cut = ap (λ (v : LogletView). v.cut) h.is.shows in
    let firm : marks.firm ≡ c.firm = ap (λ (v : LogletView). v.firm) h.is.shows in
    subst (λ (xs : List Entry). Lies xs held marks) h.keeps (record {
      base = omega (arith, here.trimmed, cut);
      cut = s.cut;
      reach = s.reach;
      firm = omega (arith, long, firm);
      stored = here.within;
      small = omega (arith, fits, most);
      same = here.same;
      spelled = h.is.spelled;
    })

-- what holds of an open operation
pub record MayCarry (es : List Entry) (held : Held) (p : Pending) : Type 0 where
  pub size : p.size ≤ length es
  pub placing : p.task ≡ Placing → p.size < length es
  pub firm : p.firm ≤ length_of held.server

placed_within : (c : Cell) (t : ℕ) (aim : Aim) → (operation c t).aim ≡ aim → OperationHolds c t (operation c t) → task_of (op_of aim) ≡ Placing → (operation c t).size_before < length c.entries
placed_within c t (aims.Append e) is law h = within_get c.entries (operation c t).size_before e (law.placed e is).1
placed_within c t (aims.Settle n) is law h = absurd (cc)
placed_within c t aims.Tail is law h = absurd (cc)
placed_within c t aims.Seal is law h = absurd (cc)
placed_within c t (aims.Read p) is law h = absurd (cc)
placed_within c t (aims.Trim n) is law h = absurd (cc)

pub may_carry : (room : ℕ) (es : List Entry) (held : Held) (marks : Marks) (m : PendingMap) (t : ℕ) (p : Pending) → IsWhole room es held marks m → get nat_eq m t ≡ Some p → MayCarry es held p
may_carry room es held marks m t p h at =
    let c = h.cell in
    let law : OperationHolds c t (operation c t) = h.is.lawful.law.quorum.operations t in
    let o = open_in (file_view room es held marks m) c t (operation_of p) h.is (shown_at m t p at) in
    let size : p.size ≡ (operation c t).size_before = ap (λ (x : OpenOperation). x.size) o.shown in
    let firm : p.firm ≡ (operation c t).firm_before = ap (λ (x : OpenOperation). x.firm) o.shown in
    let task : p.task ≡ task_of (op_of (operation c t).aim) = ap (λ (x : OpenOperation). x.task) o.shown in
    let long = firm_within (file_view room es held marks m) c h.is in
    subst (λ (xs : List Entry). MayCarry xs held p) h.keeps (record {
      size = omega (arith, size, law.size);
      placing = λ e. (let lt = placed_within c t (operation c t).aim refl law (sym task ∙ e) in omega (arith, size, lt));
      firm = omega (arith, firm, law.firm, long);
    })

-- ---- what an answer may be, and how far it reaches

lack_alike : (v : LogletView) (os : List (ℕ × OpenOperation)) (o : OpenOperation) (u : ℕ) → IsLack v o u → IsLack (record v { operations = os }) o u
lack_alike v os o u h = record { enough = h.enough; servers = h.servers; faults = h.faults }

may_alike : (v : LogletView) (os : List (ℕ × OpenOperation)) (o : OpenOperation) (task : Task) (y : Answer) → MayAnswer v o task y → MayAnswer (record v { operations = os }) o task y
may_alike v os o Placing (Placed p) h = h
may_alike v os o Placing Sealed h = h
may_alike v os o (Settling n) Settled h = h
may_alike v os o (Settling n) Sealed h = h
may_alike v os o Finding (OpenTail t) h = h
may_alike v os o Finding (SealedTail t) h = h
may_alike v os o Sealing SealDone h = h
may_alike v os o (Reading p) (CutAt n) h = h
may_alike v os o (Reading p) (Beyond n) h = h
may_alike v os o (Reading p) (Got e) h = h
may_alike v os o (Reading p) (NoQuorum u) h = (h.0, h.1, lack_alike v os o u h.2)
may_alike v os o (Trimming n) TrimDone h = h
may_alike v os o task (NoQuorum u) h = lack_alike v os o u h
may_alike v os o task y h = absurd h

pub record MayTake (v : FileView) (a : OpenOperation) (y : Answer) : Type 0 where
  pub may : MayAnswer v.loglet a a.task y
  pub reach : told_reach (wanted_by a.task a.size) y ≤ 2 ^ 32
  pub firm : told_firm (wanted_by a.task a.size) y ≤ 2 ^ 32

pub may_take : (v : FileView) (c : Cell) (t : ℕ) (a : OpenOperation) (decided y : Answer) → IsCellOf v c → operation_at v.loglet.operations t ≡ Some a → answer_at v.answers t ≡ Some decided → y ≡ told_at a.task v.loglet.cut decided → MayTake v a y
may_take v c t a decided y h is was told =
    let o = open_in v c t a h is in
    let k = call_of c (steps_of.Take t) (calling.Take t) (Taken (Some y)) h.lawful h.spelled tt (rw (o.is_open, taken_is v c t a decided y h is was told) refl) in
    let takes = k.does in
    let same : takes.operation ≡ a = same_Some _ _ (sym takes.is ∙ sym (h.operations t) ∙ is) in
    let may : MayAnswer (cell_view manner c) a a.task y = subst (λ (x : OpenOperation). MayAnswer (cell_view manner c) x x.task y) same takes.may in
    let far : wanted_by takes.operation.task takes.operation.size ≡ wanted_by a.task a.size = ap (λ (x : OpenOperation). wanted_by x.task x.size) same in
    let reach : (take_outcome c t).reach ≡ max c.reach (told_reach (wanted_by takes.operation.task takes.operation.size) y) = ap (λ (x : LogletView). x.reach) takes.rest in
    let firm : (take_outcome c t).firm ≡ max c.firm (told_firm (wanted_by takes.operation.task takes.operation.size) y) = ap (λ (x : LogletView). x.firm) takes.rest in
    let room : (take_outcome c t).room ≡ c.room = ap (λ (x : LogletView). x.room) takes.rest in
    let most = h.lawful.shape.room.1 in
    record {
      may = subst (λ (x : LogletView). MayAnswer x a a.task y) (sym h.shows) (may_alike (cell_view manner c) v.loglet.operations a a.task y may);
      reach = subst (λ n. told_reach n y ≤ 2 ^ 32) far (omega (arith, reach, room, most, k.after.reach, k.after.firm, k.after.size));
      firm = subst (λ n. told_firm n y ≤ 2 ^ 32) far (omega (arith, firm, room, most, k.after.firm, k.after.size));
    }

-- ---- each call, in its cell

pub cell_from : (room : ℕ) (es : List Entry) (held : Held) (marks : Marks) (m : PendingMap) (w : FileView) → file_view room es held marks m ≡ w → (h : IsWhole room es held marks m) → IsCellOf w h.cell
cell_from room es held marks m w e h = subst (λ (v : FileView). IsCellOf v h.cell) e h.is

-- a call that does this in the loglet, and comes to this in each cell, is a step; and its fields are a cell then
pub step_of : (w after : FileView) (c : Cell) (call : LogletCall) (answer : LogletAnswer) (entries : Cell → List Entry) → IsCellOf w c → CanCall w.loglet call → Does w.loglet call answer after.loglet → ((x : Cell) → IsCellOf w x → Comes x call answer after (entries x)) → FileStep w call answer after
step_of w after c call answer entries h can does comes = record {
  loglet = record {
    before = cell_sound w c h;
    can = can;
    does = does;
    after = cell_sound after _ (comes c h).reaches.cell;
  };
  cells = λ x k. (comes x k).reaches;
}

-- where nothing is seen of a call, it is the same cell
pub whole_still : (room : ℕ) (es es' : List Entry) (old new : Held) (marks marks' : Marks) (m n : PendingMap) → IsWhole room es old marks m → loglet_of room es' new marks' n ≡ loglet_of room es old marks m → map shown_answer n.entries ≡ map shown_answer m.entries → new.server ≡ old.server → es' ≡ es → IsWhole room es' new marks' n
whole_still room es es' old new marks marks' m n h loglet answers server same = record {
  cell = h.cell;
  is = same_tied (file_view room es old marks m) (file_view room es' new marks' n) h.cell h.is loglet answers server;
  keeps = h.keeps ∙ sym same;
}

-- what a call does is of what is shown
pub does_shown : (room : ℕ) (es : List Entry) (held : Held) (marks : Marks) (m : PendingMap) (w : FileView) (call : LogletCall) (answer : LogletAnswer) (new : LogletView) → file_view room es held marks m ≡ w → Does (loglet_of room es held marks m) call answer new → Does w.loglet call answer new
does_shown room es held marks m w call answer new e does = subst (λ (x : LogletView). Does x call answer new) (shows room es held marks m w e) does

pub whole_by : (room : ℕ) (es : List Entry) (held : Held) (marks : Marks) (m : PendingMap) (c : Cell) (call : LogletCall) (answer : LogletAnswer) (xs : List Entry) → Comes c call answer (file_view room es held marks m) xs → xs ≡ es → IsWhole room es held marks m
whole_by room es held marks m c call answer xs k e = record { cell = Rattle.quorum_cell.specs.Steps.run_cell k.reaches.steps c; is = k.reaches.cell; keeps = k.keeps ∙ e }

-- ---- counts of faults

pub rose_counted : (f g r n : ℕ) → n ≤ 1 → g ≡ bumped f → RoseBy n (counted f r) (counted g r)
rose_counted f g r n one h = omega (arith, h)

same_counted : (f g r : ℕ) → g ≡ f → RoseBy 0 (counted f r) (counted g r)
same_counted f g r e = omega arith

risen : (old new : Held) (r : ℕ) → MayFail old new → counted old.disk.faults r ≤ counted new.disk.faults r
risen old new r (inl same) = omega (arith, same.1)
risen old new r (inr failed) = omega (arith, failed.1)

down_rose : (old new : Held) (r : ℕ) → MayFail old new → RoseBy (down_of new.server.up - down_of old.server.up) (counted old.disk.faults r) (counted new.disk.faults r)
down_rose old new r (inl same) = rw same.0 (let none : down_of old.server.up - down_of old.server.up ≡ 0 = omega arith in rw none (same_counted old.disk.faults new.disk.faults r same.1))
down_rose old new r (inr failed) = rw failed.0 (rose_counted old.disk.faults new.disk.faults r (1 - down_of old.server.up) (omega arith) failed.1)

-- ---- the server goes on

pub carried_onward : (old new : Held) (r : ℕ) → (is_sealed old.server ≡ true → is_sealed new.server ≡ true) → MayFail old new → Onward old new r
carried_onward old new r still f = record { shut = still; faults = risen old new r f; down = down_rose old new r f }

-- ---- a restart

wrote_sealed : (s : Server) (ask : Ask) → is_sealed s ≡ true → is_sealed (wrote s ask) ≡ true
wrote_sealed s (Store p e) h = h
wrote_sealed s Seal h = refl
wrote_sealed s Tail h = h
wrote_sealed s (Repair p e) h = h
wrote_sealed s (Read p) h = h
wrote_sealed s (Trim n) h = h

pub written_sealed : (s : Server) (ask : Ask) → is_sealed s ≡ true → is_sealed (written s ask) ≡ true
written_sealed s ask h = elim (cases_Bool (writes s ask)) [ inl does ↦ rw does (wrote_sealed s ask h) | inr doesnt ↦ rw doesnt h ]

restarted_sealed : (s : Server) (kept : Bool) (torn : Option Ask) → is_sealed s ≡ true → is_sealed (restarted s kept torn) ≡ true
restarted_sealed s kept None h = h
restarted_sealed s true (Some ask) h = written_sealed (record s { up = true; torn = None }) ask h
restarted_sealed s false (Some ask) h = h

written_up : (s : Server) (ask : Ask) → s.up ≡ true → (written s ask).up ≡ true
written_up s ask h = elim (cases_Bool (writes s ask)) [ inl does ↦ rw does (wrote_up s ask h) | inr doesnt ↦ rw doesnt h ]

pub restarted_up : (s : Server) (kept : Bool) (torn : Option Ask) → (restarted s kept torn).up ≡ true
restarted_up s kept None = refl
restarted_up s true (Some ask) = written_up (record s { up = true; torn = None }) ask refl
restarted_up s false (Some ask) = refl

pub asked_shown : (room : ℕ) (es : List Entry) (held : Held) (marks marks' : Marks) (m : PendingMap) (asked : Asked) → marks' ≡ record marks { asked = asked } → loglet_of room es held marks' m ≡ loglet_of room es held marks m
asked_shown room es held marks marks' m asked em = rw em refl

-- the server is as it was, and its disk has failed as often
pub same_shown : (room : ℕ) (es : List Entry) (old new : Held) (marks : Marks) (m : PendingMap) → new.server ≡ old.server → new.disk.faults ≡ old.disk.faults → loglet_of room es new marks m ≡ loglet_of room es old marks m
same_shown room es old new marks m e f =
    ap (λ (s : Server). loglet_of room es (record { server = s; disk = new.disk }) marks m) e
    ∙ ap (λ (n : ℕ). record (loglet_of room es old marks m) { faults = counted n marks.refusals }) f

same_stop : (b : Bool) (d : DiskView) (n : ℕ) → IsCalm d (if b then d else record d { armed = n })
same_stop true d n = record { faults = refl; word = refl }
same_stop false d n = record { faults = refl; word = refl }

pub stop_calm : (old new : Held) (n : ℕ) → new.disk ≡ (if old.disk.stopped then old.disk else record old.disk { armed = n }) → IsCalm old.disk new.disk
stop_calm old new n d = subst (λ (x : DiskView). IsCalm old.disk x) (sym d) (same_stop old.disk.stopped old.disk n)

pub stop_shown : (room : ℕ) (es : List Entry) (old new : Held) (marks : Marks) (m : PendingMap) (n : ℕ) → new.server ≡ old.server → new.disk ≡ (if old.disk.stopped then old.disk else record old.disk { armed = n })
    → loglet_of room es new marks m ≡ loglet_of room es old marks m
stop_shown room es old new marks m n e d = same_shown room es old new marks m e (stop_calm old new n d).faults

pub open_whole : (room : ℕ) (es : List Entry) (held : Held) (marks : Marks) (m : PendingMap) (w : FileView) (t : ℕ) → file_view room es held marks m ≡ w → is_some (operation_at w.loglet.operations t) ≡ true → is_some (get nat_eq m t) ≡ true
open_whole room es held marks m w t e h = is_there m t (subst (λ (x : FileView). is_some (operation_at x.loglet.operations t) ≡ true) (sym e) h)

pub left_whole : (room : ℕ) (es : List Entry) (held : Held) (marks : Marks) (m : PendingMap) (w : FileView) (t : ℕ) (p : Pending) (x y : ℕ) → file_view room es held marks m ≡ w → get nat_eq m t ≡ Some p → (x, y) ≡ left_of p.answer → HasLeft w.loglet t x y
left_whole room es held marks m w t p x y e is left = has_left room es held marks m w.loglet t p x y (shows room es held marks m w e) is left

-- a restart that came up, or failed
up_again : (room : ℕ) (es : List Entry) (old new : Held) (marks : Marks) (m : PendingMap) (kept : Bool) → old.server.up ≡ false → new.server ≡ restarted old.server kept old.server.torn → new.disk.faults ≡ old.disk.faults
    → Restarts (loglet_of room es old marks m) true (loglet_of room es new marks m)
up_again room es old new marks m kept was e f =
    let up : new.server.up ≡ true = ap (λ (s : Server). s.up) e ∙ restarted_up old.server kept old.server.torn in
    let down : RoseBy (down_of new.server.up - down_of old.server.up) (counted old.disk.faults marks.refusals) (counted new.disk.faults marks.refusals) = rw (up, was) (same_counted old.disk.faults new.disk.faults marks.refusals f) in
    record {
      moves = moves_onward room es old new marks m (record { shut = λ h. ap is_sealed e ∙ restarted_sealed old.server kept old.server.torn h; faults = omega (arith, f); down = down });
      failed = λ x. absurd (cc);
      up = λ x. (let now : down_of new.server.up ≡ 0 = ap down_of up in omega arith);
      idle = λ x. absurd (let one : down_of old.server.up ≡ 1 = ap down_of was in omega arith);
    }

not_again : (room : ℕ) (es : List Entry) (old new : Held) (marks : Marks) (m : PendingMap) → old.server.up ≡ false → new.server ≡ old.server → new.disk.faults ≡ bumped old.disk.faults → Restarts (loglet_of room es old marks m) false (loglet_of room es new marks m)
not_again room es old new marks m was e f =
    let still : new.server.up ≡ false = ap (λ (s : Server). s.up) e ∙ was in
    record {
      moves = moves_onward room es old new marks m (carried_onward old new marks.refusals (λ h. ap is_sealed e ∙ h) (inr (still, f)));
      failed = λ x. rose_counted old.disk.faults new.disk.faults marks.refusals 1 (omega arith) f;
      up = λ x. absurd (cc);
      idle = λ x. absurd (let one : down_of old.server.up ≡ 1 = ap down_of was in omega arith);
    }

idle_again : (room : ℕ) (es : List Entry) (held : Held) (marks : Marks) (m : PendingMap) → held.server.up ≡ true → Restarts (loglet_of room es held marks m) true (loglet_of room es held marks m)
idle_again room es held marks m up =
    record {
      moves = moves_same _ (omega arith);
      failed = λ x. absurd (cc);
      up = λ x. (let now : down_of held.server.up ≡ 0 = ap down_of up in omega arith);
      idle = λ x. (refl, refl);
    }

-- it is up, or came up, or failed; and that is noted
pub brought : (room : ℕ) (es : List Entry) (old new : Held) (marks marks' : Marks) (m : PendingMap) (asked : Asked) (word : ℕ) (up : Bool) → Brings word old (Ok up) new → marks' ≡ record marks { asked = asked } → Restarts (loglet_of room es old marks m) up (loglet_of room es new marks' m)
brought room es old new marks marks' m asked word true (inl idle) em = rw (em, idle.1) (idle_again room es old marks m idle.0)
brought room es old new marks marks' m asked word true (inr b) em = rw em (up_again room es old new marks m b.kept b.was b.server b.faults)
brought room es old new marks marks' m asked word false b em = rw em (not_again room es old new marks m b.was b.server b.faults)

-- ---- what ties the parts together

pub served : (room : ℕ) (es : List Entry) (held : Held) (marks : Marks) (m : PendingMap) (w : FileView) → file_view room es held marks m ≡ w → IsWhole room es held marks m
    → LeavesRecords held.disk (λ found. (kept : Bool) × (server_of found ≡ Some (restarted held.server kept held.server.torn))) → (held.server.up ≡ true → held.disk.stopped ≡ false) → IsServed w
served room es held marks m w e h left running =
    let l = lies room es held marks m h in
    subst IsServed e (record {
      left = left;
      running = running;
      shut = refl;
      down = refl;
      faults = refl;
      firm = l.firm;
      base = l.base;
      entries = λ p x above is. (let at : held.server.base + (p - held.server.base) ≡ p = (let low = l.base in omega arith) in
          let here : marks.cut + (p - marks.cut) ≡ p = omega arith in
          slice_get-drop marks.cut es (p - marks.cut) ∙ ap (λ n. slice_get es n) (here ∙ sym at) ∙ sym (l.same (p - held.server.base) (within_get held.server.entries (p - held.server.base) x is)) ∙ is);
    })
