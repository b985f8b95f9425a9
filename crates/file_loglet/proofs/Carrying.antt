-- The calls of a file loglet as steps of a cell of one server.
use Rattle.std.proofs.Common.{◌≡◌, ℕ, zero, suc, ◌<◌, ◌≤◌, Bool, true, false, set, get_or, drop, refl, sym, ◌∙◌, ap, subst, arith, List, [], ◌∷◌, ◌++◌, length, Option, Some, None, inl, inr, map, length-append}
use Rattle.std.specs.Prelude.{◌⊎◌, ◌&&◌, nat_lt, if◌then◌else◌, is_some, slice_get, Ok, Err, All}
use Rattle.std.specs.List.{list_any}
use Rattle.std.proofs.lemmas.Bool.{false≢true, cases_Bool}
use Rattle.std.proofs.lemmas.Option.{none-some, same_Some}
use Rattle.std.proofs.lemmas.List.{append-nil, get_or-set_same, set-set}
use Rattle.delos_types.specs.declared.entry.Entry.{Entry}
use Rattle.loglet_api.specs.declared.call.Answer.{Answer}
use Rattle.loglet_api.specs.declared.call.Answer.TheVariants.{Beyond as PastFirm, NoQuorum as Lacking}
use Rattle.loglet_api.specs.declared.call.Op.{Op}
use Rattle.loglet_api.specs.declared.call.Op.TheVariants.{Append, Settle, Tail, Seal, Read, Trim}
use Rattle.loglet_api.specs.declared.call.Task.{Task}
use Rattle.loglet_api.specs.declared.call.Refused.TheVariants.{Full, Memory}
use Rattle.loglet_api.specs.declared.call.LogletCall.{LogletCall}
use Rattle.loglet_api.specs.declared.call.LogletCall.TheVariants as calling
use Rattle.loglet_api.specs.declared.call.LogletAnswer.{LogletAnswer}
use Rattle.loglet_api.specs.declared.call.LogletAnswer.TheVariants.{Begun, Refusal, Carried, Taken, Forgotten, Restarted}
use Rattle.loglet_api.specs.View.{LogletView, Operation as OpenOperation, operation_at}
use Rattle.loglet_api.specs.Step.{LogletStep, CanBegin, IsFull, Begins, TakesAnswer, Forgets, Moves, IsUndecidedAt, bumped, task_of, entries_of}
use Rattle.quorum_cell.specs.declared.message.Ask.{Ask}
use Rattle.quorum_cell.specs.declared.message.Reply.{Reply}
use Rattle.quorum_cell.specs.declared.message.Request.{Request}
use Rattle.quorum_cell.specs.declared.operation.Aim.{Aim}
use Rattle.quorum_cell.specs.declared.operation.Aim.TheVariants as aims
use Rattle.quorum_cell.specs.declared.operation.Outcome.{Outcome}
use Rattle.quorum_cell.specs.declared.operation.Wish.{Wish}
use Rattle.quorum_cell.specs.declared.operation.CellStep.{CellStep}
use Rattle.quorum_cell.specs.declared.operation.CellStep.TheVariants as steps_of
use Rattle.quorum_cell.specs.Servers.{Server, length_of, restarted}
use Rattle.quorum_cell.specs.Cells.{Cell, Operation, operation, server, no_operation, no_server}
use Rattle.quorum_cell.specs.Tallies.{entry_heard, gives_entry, may_decide}
use Rattle.quorum_cell.specs.Steps.{run_cell, is_full, begun, begin, admit, cut_after, wanted, with_fault, put_operation, restart, restart_fails, take_outcome, give, forget, decide, waits, given_outcome}
use Rattle.quorum_cell.specs.Law.{IsLawful, ServerHolds}
use Rattle.quorum_cell.proofs.Lists.{at_set, at_push}
use Rattle.quorum_cell.specs.Law.{RequestHolds, ReplyHolds, SentFor, faulted}
use Rattle.quorum_cell.proofs.Lawful.{step_lawful}
use Rattle.quorum_cell.proofs.Runs.{run_cell-append}
use Rattle.quorum_cell.proofs.Conclusions.{found_entry}
use Rattle.cell_views.specs.Views.{BringsSpelled, IsStray, counted as cell_counted, cell_view, calls, op_of, taken, answer_of}
use Rattle.cell_views.proofs.Calls.{spelled_after}
use Rattle.file_loglet.specs.Asking.{asks, Follows, Begins as BeginsAsked}
use Rattle.file_loglet.specs.Celling.{task_for, IsAsking}
use Rattle.file_loglet.specs.Held.{Held, Brings}
use Rattle.file_loglet.specs.Pending.{Answers, answer_at, PutsAnswer, IsUnspoken, told_at, PendingMap, shown_answer}
use Rattle.file_loglet.specs.declared.marks.Marks.{Marks}
use Rattle.file_loglet.specs.File.{FileView, file_view, counted, down_of, IsDecidedAtOnce, IsAnswered, IsCarried, IsTaken, Takes, held_in}
use Rattle.file_loglet.specs.Steps.{start_at, manner, IsToldAs, IsWithin, IsCellOf, asks_first, asks_in, HasAsked, IsCarry, aim_of, Reaches, FileStep}
use Rattle.file_loglet.proofs.Stills.{Still, AreStrays, moves_still, still_same, strays_both, run_lawful, shows_begun, shows_full, shows_taken, shows_forgotten}
use Rattle.file_loglet.proofs.Stepping.{follows_all, cell_at, hearing, Asked, AskedFirst, asks_none, asks_all, asks_some, asks_one}
use Rattle.file_loglet.proofs.Deciding.{Decides, Known, heard_too, up_decides, down_decides, unspoken_decides, unspoken_or}
use Rattle.file_loglet.proofs.Ties.{Seen, exact, OpenIn, shows_of, same_tied, tied, told_put, puts_here, puts_other, open_in, call_of, told_later, server_holds, firm_within}

-- in this cell the loglet takes the steps of the call, and the cell has these entries then
pub record Comes (c : Cell) (call : LogletCall) (answer : LogletAnswer) (after : FileView) (entries : List Entry) : Type 0 where
  pub reaches : Reaches c call answer after
  pub keeps : (run_cell reaches.steps c).entries ≡ entries

---- no step

pub nothing_steps : (old new : FileView) (call : LogletCall) (answer : LogletAnswer) → ((c : Cell) → Rattle.file_loglet.specs.Steps.StepsOf c call answer []) → new.loglet ≡ old.loglet → new.answers ≡ old.answers → new.server ≡ old.server
    → (c : Cell) → IsCellOf old c → Comes c call answer new c.entries
nothing_steps old new call answer none loglet answers server c h = record {
  reaches = record { steps = []; are = none c; cell = same_tied old new c h loglet answers server };
  keeps = refl;
}

---- an operation begins

op_same : (op : Op) → op_of (aim_of op) ≡ op
op_same (Append e) = refl
op_same (Settle n) = refl
op_same Tail = refl
op_same Seal = refl
op_same (Read p) = refl
op_same (Trim n) = refl

brings : (op : Op) → CanBegin op → BringsSpelled (steps_of.Begin (aim_of op))
brings (Append e) h = h
brings (Settle n) h = tt
brings Tail h = tt
brings Seal h = tt
brings (Read p) h = tt
brings (Trim n) h = tt

-- it is refused in the cell as in the loglet
full_as : (v : FileView) (c : Cell) (op : Op) → IsCellOf v c → IsFull (cell_view manner c) op → IsFull v.loglet op
full_as v c op h full = subst (λ (x : LogletView). IsFull x op) (sym h.shows) full

full_from : (v : FileView) (c : Cell) (op : Op) → IsCellOf v c → IsFull v.loglet op → IsFull (cell_view manner c) op
full_from v c op h full = subst (λ (x : LogletView). IsFull x op) h.shows full

-- the call that a beginning is
begins_call : (c : Cell) (op : Op) (b : Bool) → is_full c (aim_of op) ≡ b → IsLawful c → Rattle.cell_views.specs.Views.IsSpelled c → CanBegin op
    → LogletStep (cell_view manner c) (calling.Begin op) (if b then Refusal Full else Begun (length c.operations)) (cell_view manner (begin c (aim_of op)))
begins_call c op b full law spelled can = call_of c (steps_of.Begin (aim_of op)) (calling.Begin op) (if b then Refusal Full else Begun (length c.operations)) law spelled (brings op can) (rw (full, op_same op) refl)

get_past : {X : Type 0} (xs : List X) (d : X) → get_or xs (length xs) d ≡ d
get_past [] d = refl
get_past (x ∷ xs) d = get_past xs d

begun_told : (old new : FileView) (c : Cell) (op : Op) → IsCellOf old c → c.cut ≤ cut_after c (aim_of op) → ((t : ℕ) → answer_at new.answers t ≡ answer_at old.answers t) → (q : ℕ) → IsToldAs (cut_after c (aim_of op)) (operation (admit c (aim_of op)) q) (answer_at new.answers q)
begun_told old new c op h le same =
    at_push (λ j (x : Operation). IsToldAs (cut_after c (aim_of op)) x (answer_at new.answers j)) c.operations (begun c (aim_of op)) no_operation
    (λ j. subst (IsToldAs (cut_after c (aim_of op)) (operation c j)) (sym (same j)) (told_later c (cut_after c (aim_of op)) j (answer_at old.answers j) h.lawful le (h.told j)))
    (subst (IsToldAs (cut_after c (aim_of op)) (begun c (aim_of op))) (sym (same (length c.operations))) (fresh (answer_at old.answers (length c.operations)) (h.told (length c.operations))))
  where
    fresh : (x : Option Answer) → IsToldAs c.cut (operation c (length c.operations)) x → IsToldAs (cut_after c (aim_of op)) (begun c (aim_of op)) x
    fresh None k = λ z. refl
    fresh (Some y) k = absurd (false≢true (sym k.0 ∙ ap (λ (o : Operation). o.closed) (get_past c.operations no_operation)))

cut_rises : (c : Cell) (aim : Aim) → c.cut ≤ cut_after c aim
cut_rises c (aims.Append e) = omega arith
cut_rises c (aims.Settle n) = omega arith
cut_rises c aims.Tail = omega arith
cut_rises c aims.Seal = omega arith
cut_rises c (aims.Read p) = omega arith
cut_rises c (aims.Trim n) = omega arith

begun_wants : (v : FileView) (c : Cell) (aim : Aim) → IsCellOf v c → (q : ℕ) → IsWithin (cut_after c aim) (operation (admit c aim) q)
begun_wants v c aim h =
    at_push (λ j (x : Operation). IsWithin (cut_after c aim) x) c.operations (begun c aim) no_operation
    (λ j n e. (let le = h.wants j n e in let up = cut_rises c aim in omega (arith, le, up)))
    (λ n e. (let same : wanted c aim ≡ cut_after c aim = ap (wanted c) e ∙ sym (ap (cut_after c) e) in omega (arith, same)))

adds : (c : Cell) (op : Op) → (admit c (aim_of op)).entries ≡ c.entries ++ entries_of op
adds c (Append e) = refl
adds c (Settle n) = sym (append-nil c.entries)
adds c Tail = sym (append-nil c.entries)
adds c Seal = sym (append-nil c.entries)
adds c (Read p) = sym (append-nil c.entries)
adds c (Trim n) = sym (append-nil c.entries)

pub begin_steps : (old new : FileView) → Seen new → (op : Op) (t : ℕ) → CanBegin op → Begins old.loglet op t new.loglet → new.server ≡ old.server → ((q : ℕ) → answer_at new.answers q ≡ answer_at old.answers q)
    → (c : Cell) → IsCellOf old c → Comes c (calling.Begin op) (Begun t) new (c.entries ++ entries_of op)
begin_steps old new seen op t can does server_same same c h =
    let x = by (is_full c (aim_of op)) refl in
    record { reaches = record { steps = steps_of.Begin (aim_of op) ∷ []; are = refl; cell = x.0 }; keeps = x.1 }
  where
    by : (b : Bool) → is_full c (aim_of op) ≡ b → IsCellOf new (begin c (aim_of op)) × ((begin c (aim_of op)).entries ≡ c.entries ++ entries_of op)
    by true full = absurd (does.room (full_as old c op h (begins_call c op true full h.lawful h.spelled can).does.0))
    by false full =
        let k = begins_call c op false full h.lawful h.spelled can in
        let is : begin c (aim_of op) ≡ admit c (aim_of op) = rw full refl in
        let shown = shows_begun old.loglet new.loglet (cell_view manner c) (cell_view manner (begin c (aim_of op))) op t (length c.operations) (shows_of old c h) does k.does in
        let tells : (q : ℕ) → IsToldAs (begin c (aim_of op)).cut (operation (begin c (aim_of op)) q) (answer_at new.answers q) = λ q. subst (λ (x : Cell). IsToldAs x.cut (operation x q) (answer_at new.answers q)) (sym is) (begun_told old new c op h (cut_rises c (aim_of op)) same q) in (
          record {
            lawful = step_lawful c (steps_of.Begin (aim_of op)) h.lawful;
            spelled = spelled_after c (steps_of.Begin (aim_of op)) h.spelled (brings op can);
            shows = shown.shows;
            operations = exact new (begin c (aim_of op)) shown seen tells;
            server = ap (λ (x : Cell). x.servers) is ∙ h.server ∙ ap (λ (x : Server). x ∷ []) (sym server_same);
            told = tells;
            wants = λ q. subst (λ (x : Cell). IsWithin x.cut (operation x q)) (sym is) (begun_wants old c (aim_of op) h q);
          },
          ap (λ (x : Cell). x.entries) is ∙ adds c op,
        )

pub full_steps : (old new : FileView) → Seen new → (op : Op) → CanBegin op → IsFull old.loglet op × (new.loglet ≡ record old.loglet { faults = bumped old.loglet.faults }) → new.answers ≡ old.answers → new.server ≡ old.server
    → (c : Cell) → IsCellOf old c → Comes c (calling.Begin op) (Refusal Full) new c.entries
full_steps old new seen op can does answers server c h =
    let x = by (is_full c (aim_of op)) refl in
    record { reaches = record { steps = steps_of.Begin (aim_of op) ∷ []; are = refl; cell = x.0 }; keeps = x.1 }
  where
    by : (b : Bool) → is_full c (aim_of op) ≡ b → IsCellOf new (begin c (aim_of op)) × ((begin c (aim_of op)).entries ≡ c.entries)
    by false full = absurd ((begins_call c op false full h.lawful h.spelled can).does.room (full_from old c op h does.0))
    by true full =
        let k = begins_call c op true full h.lawful h.spelled can in
        let is : begin c (aim_of op) ≡ with_fault c (length c.servers) = rw full refl in
        let shown = shows_full old.loglet new.loglet (cell_view manner c) (cell_view manner (begin c (aim_of op))) (shows_of old c h) does.1 k.does.1 in
        let tells : (q : ℕ) → IsToldAs (begin c (aim_of op)).cut (operation (begin c (aim_of op)) q) (answer_at new.answers q) = λ q. subst (λ (x : Cell). IsToldAs x.cut (operation x q) (answer_at new.answers q)) (sym is) (subst (λ (xs : List (ℕ × Option Answer)). IsToldAs c.cut (operation c q) (answer_at xs q)) (sym answers) (h.told q)) in (
          record {
            lawful = step_lawful c (steps_of.Begin (aim_of op)) h.lawful;
            spelled = spelled_after c (steps_of.Begin (aim_of op)) h.spelled (brings op can);
            shows = shown.shows;
            operations = exact new (begin c (aim_of op)) shown seen tells;
            server = ap (λ (x : Cell). x.servers) is ∙ h.server ∙ ap (λ (x : Server). x ∷ []) (sym server);
            told = tells;
            wants = λ q. subst (λ (x : Cell). IsWithin x.cut (operation x q)) (sym is) (h.wants q);
          },
          ap (λ (x : Cell). x.entries) is,
        )

---- its answer is taken, or it is forgotten

-- a closed operation is told nothing
closed_told : (cut : ℕ) (o : Operation) (x : Option Answer) → o.closed ≡ true → x ≡ None → IsToldAs cut o x
closed_told cut o x closed none = subst (IsToldAs cut o) (sym none) (λ free. absurd (false≢true (sym free ∙ closed)))

-- what the answer was decided to be is what it came to
pub taken_is : (v : FileView) (c : Cell) (t : ℕ) (a : OpenOperation) (decided y : Answer) → IsCellOf v c → operation_at v.loglet.operations t ≡ Some a → answer_at v.answers t ≡ Some decided → y ≡ told_at a.task v.loglet.cut decided → taken c.cut (operation c t) (operation c t).decided ≡ Some y
taken_is v c t a decided y h is was told =
    let o = open_in v c t a h is in
    let k : ((operation c t).closed ≡ false) × (taken c.cut (operation c t) (operation c t).decided ≡ Some (told_at (task_of (op_of (operation c t).aim)) c.cut decided)) = subst (IsToldAs c.cut (operation c t)) was (h.told t) in
    let task : a.task ≡ task_of (op_of (operation c t).aim) = ap (λ (b : OpenOperation). b.task) o.shown in
    let cut : v.loglet.cut ≡ c.cut = ap (λ (b : LogletView). b.cut) h.shows in
    k.1 ∙ ap (λ (z : Answer). Some z) (sym (told ∙ ap (λ (z : Task). told_at z v.loglet.cut decided) task ∙ ap (λ (n : ℕ). told_at (task_of (op_of (operation c t).aim)) n decided) cut))

gives : (c : Cell) (t : ℕ) → (operation c t).closed ≡ false → take_outcome c t ≡ give c t (operation c t) (operation c t).decided
gives c t h = rw h refl

pub take_steps : (old new : FileView) → Seen new → (t : ℕ) (y : Answer) → TakesAnswer old.loglet t y new.loglet → IsTaken old t y new → new.server ≡ old.server → (c : Cell) → IsCellOf old c → Comes c (calling.Take t) (Taken (Some y)) new c.entries
take_steps old new seen t y does takes server_same c h =
    let x = by (operation c t).decided refl in
    record { reaches = record { steps = steps_of.Take t ∷ []; are = (told_of, refl); cell = x.0 }; keeps = x.1 }
  where
    told_of : taken c.cut (operation c t) (operation c t).decided ≡ Some y
    told_of = taken_is old c t takes.operation takes.decided y h takes.is takes.was takes.told

    by : (z : Option Outcome) → (operation c t).decided ≡ z → IsCellOf new (take_outcome c t) × ((take_outcome c t).entries ≡ c.entries)
    by None z = absurd (none-some y (sym (ap (taken c.cut (operation c t)) z) ∙ told_of))
    by (Some a) z =
        let o = open_in old c t takes.operation h takes.is in
        let last : Operation = record (operation c t) { given = Some (given_outcome c.cut (operation c t).aim a); closed = true } in
        let is : take_outcome c t ≡ give c t (operation c t) (Some a) = gives c t o.is_open ∙ ap (give c t (operation c t)) z in
        let k = call_of c (steps_of.Take t) (calling.Take t) (Taken (Some y)) h.lawful h.spelled tt (rw (o.is_open, told_of) refl) in
        let shown = shows_taken old.loglet new.loglet (cell_view manner c) (cell_view manner (take_outcome c t)) t y (shows_of old c h) does k.does in
        let tells : (q : ℕ) → IsToldAs (take_outcome c t).cut (operation (take_outcome c t) q) (answer_at new.answers q) = λ q. subst (λ (x : Cell). IsToldAs x.cut (operation x q) (answer_at new.answers q)) (sym is)
        (told_put c.cut c.operations t last old.answers new.answers o.known h.told (closed_told c.cut last (answer_at new.answers t) refl (puts_here old.answers new.answers t None takes.puts)) (puts_other old.answers new.answers t None takes.puts) q) in (
          record {
            lawful = step_lawful c (steps_of.Take t) h.lawful;
            spelled = spelled_after c (steps_of.Take t) h.spelled tt;
            shows = shown.shows;
            operations = exact new (take_outcome c t) shown seen tells;
            server = ap (λ (x : Cell). x.servers) is ∙ h.server ∙ ap (λ (x : Server). x ∷ []) (sym server_same);
            told = tells;
            wants = λ q. subst (λ (x : Cell). IsWithin x.cut (operation x q)) (sym is) (at_set (λ j (x : Operation). IsWithin c.cut x) c.operations t last no_operation h.wants (λ _. h.wants t) q);
          },
          ap (λ (x : Cell). x.entries) is,
        )

pub wait_steps : (old new : FileView) (t : ℕ) → IsUndecidedAt old.loglet t → new.loglet ≡ old.loglet → Takes old t None new → new.server ≡ old.server → (c : Cell) → IsCellOf old c → Comes c (calling.Take t) (Taken None) new c.entries
wait_steps old new t waits same takes server_same c h = record { reaches = record { steps = []; are = (undecided, refl); cell = same_tied old new c h same takes.1 server_same }; keeps = refl }
  where
    undecided : taken c.cut (operation c t) (operation c t).decided ≡ None
    undecided =
        let o = open_in old c t waits.operation h waits.is in
        let k : (operation c t).closed ≡ false → (operation c t).decided ≡ None = subst (IsToldAs c.cut (operation c t)) takes.0 (h.told t) in
        ap (taken c.cut (operation c t)) (k o.is_open)

-- an operation that the loglet shows
some_there : (x : Option OpenOperation) → is_some x ≡ true → (a : OpenOperation) × (x ≡ Some a)
some_there None h = absurd (false≢true h)
some_there (Some a) h = (a, refl)

pub forget_steps : (old new : FileView) → Seen new → (t : ℕ) → is_some (operation_at old.loglet.operations t) ≡ true → Forgets old.loglet t new.loglet → PutsAnswer old.answers t None new.answers → new.server ≡ old.server
    → (c : Cell) → IsCellOf old c → Comes c (calling.Forget t) Forgotten new c.entries
forget_steps old new seen t can does puts server_same c h = record { reaches = record { steps = steps_of.Forget t ∷ []; are = refl; cell = by.0 }; keeps = by.1 }
  where
    by : IsCellOf new (forget c t) × ((forget c t).entries ≡ c.entries)
    by =
        let a = some_there (operation_at old.loglet.operations t) can in
        let o = open_in old c t a.0 h a.1 in
        let last : Operation = record (operation c t) { closed = true } in
        let is : forget c t ≡ put_operation c t last = rw o.is_open refl in
        let k = call_of c (steps_of.Forget t) (calling.Forget t) Forgotten h.lawful h.spelled tt (rw o.is_open refl) in
        let shown = shows_forgotten old.loglet new.loglet (cell_view manner c) (cell_view manner (forget c t)) t (shows_of old c h) does k.does in
        let tells : (q : ℕ) → IsToldAs (forget c t).cut (operation (forget c t) q) (answer_at new.answers q) = λ q. subst (λ (x : Cell). IsToldAs x.cut (operation x q) (answer_at new.answers q)) (sym is)
        (told_put c.cut c.operations t last old.answers new.answers o.known h.told (closed_told c.cut last (answer_at new.answers t) refl (puts_here old.answers new.answers t None puts)) (puts_other old.answers new.answers t None puts) q) in (
          record {
            lawful = step_lawful c (steps_of.Forget t) h.lawful;
            spelled = spelled_after c (steps_of.Forget t) h.spelled tt;
            shows = shown.shows;
            operations = exact new (forget c t) shown seen tells;
            server = ap (λ (x : Cell). x.servers) is ∙ h.server ∙ ap (λ (x : Server). x ∷ []) (sym server_same);
            told = tells;
            wants = λ q. subst (λ (x : Cell). IsWithin x.cut (operation x q)) (sym is) (at_set (λ j (x : Operation). IsWithin c.cut x) c.operations t last no_operation h.wants (λ _. h.wants t) q);
          },
          ap (λ (x : Cell). x.entries) is,
        )

---- a server comes up again, or doesn't

restarts_up : (c : Cell) (s : Server) (kept : Bool) → c.servers ≡ s ∷ [] → s.up ≡ true → restart c 0 kept ≡ c
restarts_up c s kept e up = let u : (server c 0).up ≡ true = ap (λ (ss : List Server). (get_or ss 0 no_server).up) e ∙ up in rw u refl

restarts_down : (c : Cell) (s : Server) (kept : Bool) → c.servers ≡ s ∷ [] → s.up ≡ false → restart c 0 kept ≡ record c { servers = restarted s kept s.torn ∷ [] }
restarts_down c s kept e down =
    let u : (server c 0).up ≡ false = ap (λ (ss : List Server). (get_or ss 0 no_server).up) e ∙ down in
    let is : restart c 0 kept ≡ record c { servers = set c.servers 0 (restarted (server c 0) kept (server c 0).torn) } = rw u refl in
    is ∙ ap (λ (ss : List Server). record c { servers = set ss 0 (restarted (get_or ss 0 no_server) kept (get_or ss 0 no_server).torn) }) e

restarts_not : (c : Cell) (s : Server) → c.servers ≡ s ∷ [] → s.up ≡ false → restart_fails c 0 ≡ with_fault c 0
restarts_not c s e down =
    let u : (server c 0).up ≡ false = ap (λ (ss : List Server). (get_or ss 0 no_server).up) e ∙ down in
    let here : nat_lt 0 (length c.servers) ≡ true = ap (λ (ss : List Server). nat_lt 0 (length ss)) e in
    rw (here, u) refl

same_faults : (old new : FileView) (c : Cell) → IsCellOf old c → Seen old → Seen new → new.disk.faults ≡ old.disk.faults → new.refusals ≡ old.refusals → cell_counted (length c.faults) ≡ new.loglet.faults
same_faults old new c h was seen disk refusals = sym (ap (λ (v : LogletView). v.faults) h.shows) ∙ was.faults ∙ sym (seen.faults ∙ ap (λ n. counted n new.refusals) disk ∙ ap (counted old.disk.faults) refusals)

one_fault : (old new : FileView) (c : Cell) (i : ℕ) → IsCellOf old c → Seen old → Seen new → new.disk.faults ≡ Rattle.disk_model.specs.Disk.bumped old.disk.faults → new.refusals ≡ old.refusals → cell_counted (length (c.faults ++ i ∷ [])) ≡ new.loglet.faults
one_fault old new c i h was seen disk refusals =
    let before : cell_counted (length c.faults) ≡ counted old.disk.faults old.refusals = sym (ap (λ (v : LogletView). v.faults) h.shows) ∙ was.faults in
    let after : new.loglet.faults ≡ counted new.disk.faults new.refusals = seen.faults in
    omega (arith, before, after, disk, refusals, length-append c.faults (i ∷ []))

told_same : (old new : FileView) (c : Cell) → IsCellOf old c → new.answers ≡ old.answers → (q : ℕ) → IsToldAs c.cut (operation c q) (answer_at new.answers q)
told_same old new c h answers q = subst (λ (xs : List (ℕ × Option Answer)). IsToldAs c.cut (operation c q) (answer_at xs q)) (sym answers) (h.told q)

pub restart_steps : (old new : FileView) (i word : ℕ) (up : Bool) → Seen old → Seen new → i < 1 → Moves old.loglet new.loglet → Brings word (held_in old) (Ok up) (held_in new) → new.refusals ≡ old.refusals → new.answers ≡ old.answers
    → (c : Cell) → IsCellOf old c → Comes c (calling.Restart i word) (Restarted up) new c.entries
restart_steps old new (suc i) word up was seen here moves b refusals answers c h = absurd (omega (arith, here))
restart_steps old new zero word true was seen here moves (inl same) refusals answers c h =
    let is = restarts_up c old.server true h.server same.0 in
    record {
      reaches = record {
        steps = steps_of.Restart 0 true ∷ [];
        are = (true, refl);
        cell = tied old new c (steps_of.Restart 0 true ∷ []) c.requests c.replies c.operations c.faults h (tt, tt)
            (is ∙ ap (λ (ss : List Server). record c { servers = ss }) (h.server ∙ ap (λ (x : Held). x.server ∷ []) (sym same.1)))
            (moves_still old.loglet new.loglet moves) seen (same_faults old new c h was seen (ap (λ (x : Held). x.disk.faults) same.1) refusals) (told_same old new c h answers) h.wants;
      };
      keeps = ap (λ (x : Cell). x.entries) is;
    }
restart_steps old new zero word true was seen here moves (inr up) refusals answers c h =
    let is = restarts_down c old.server up.kept h.server up.was in
    record {
      reaches = record {
        steps = steps_of.Restart 0 up.kept ∷ [];
        are = (up.kept, refl);
        cell = tied old new c (steps_of.Restart 0 up.kept ∷ []) c.requests c.replies c.operations c.faults h (tt, tt)
            (is ∙ ap (λ (x : Server). record c { servers = x ∷ [] }) (sym up.server))
            (moves_still old.loglet new.loglet moves) seen (same_faults old new c h was seen up.faults refusals) (told_same old new c h answers) h.wants;
      };
      keeps = ap (λ (x : Cell). x.entries) is;
    }
restart_steps old new zero word false was seen here moves down refusals answers c h =
    let is = restarts_not c old.server h.server down.was in
    record {
      reaches = record {
        steps = steps_of.RestartFails 0 ∷ [];
        are = refl;
        cell = tied old new c (steps_of.RestartFails 0 ∷ []) c.requests c.replies c.operations (c.faults ++ 0 ∷ []) h (tt, tt)
            (is ∙ ap (λ (ss : List Server). record c { servers = ss; faults = c.faults ++ 0 ∷ [] }) (h.server ∙ ap (λ (x : Server). x ∷ []) (sym down.server)))
            (moves_still old.loglet new.loglet moves) seen (one_fault old new c 0 h was seen down.faults refusals) (told_same old new c h answers) h.wants;
      };
      keeps = ap (λ (x : Cell). x.entries) is;
    }

---- an operation is carried

asking_strays : (t requests replies : ℕ) (wishes : List Wish) (steps : List CellStep) → IsAsking t requests replies wishes steps → AreStrays steps
asking_strays t requests replies [] steps h = subst AreStrays (sym h) tt
asking_strays t requests replies (wish ∷ wishes) steps h =
    elim h [
      | inl stop ↦ subst AreStrays (sym stop) (tt, (tt, (tt, tt)))
      | inr came ↦ subst AreStrays (sym came.1) (tt, (tt, (tt, asking_strays t (suc requests) (suc replies) wishes came.0 came.2)))
    ]

-- the cell once the operation asked
abbrev asked_cell : Cell → ℕ → Server → List Request → List Reply → List Reply → List ℕ → Cell
asked_cell c t new requests replies heard fs = cell_at c new (c.requests ++ requests) (c.replies ++ replies) (hearing c.operations t heard) (c.faults ++ fs)

abbrev decided_as : Operation → Outcome → Operation
decided_as o a = record o { decided = Some a }

-- what a decision makes of it, where its operation is this
abbrev decided_in : Cell → ℕ → Server → List Request → List Reply → List Reply → List ℕ → Outcome → Operation → Cell
decided_in c t new requests replies heard fs a x = if waits x && may_decide 1 c.cut x x.aim a then cell_at c new (c.requests ++ requests) (c.replies ++ replies) (set (hearing c.operations t heard) t (decided_as x a)) (c.faults ++ fs) else asked_cell c t new requests replies heard fs

decided_so : (c : Cell) (t : ℕ) (new : Server) (requests : List Request) (replies heard : List Reply) (fs : List ℕ) (a : Outcome) (x : Operation) → waits x ≡ true → may_decide 1 c.cut x x.aim a ≡ true
    → decided_in c t new requests replies heard fs a x ≡ cell_at c new (c.requests ++ requests) (c.replies ++ replies) (set (hearing c.operations t heard) t (decided_as x a)) (c.faults ++ fs)
decided_so c t new requests replies heard fs a x free may = rw (free, may) refl

decides_here : (c : Cell) (t : ℕ) (new : Server) (requests : List Request) (replies heard : List Reply) (fs : List ℕ) (a : Outcome) → t < length c.operations → waits (operation c t) ≡ true → may_decide 1 c.cut (heard_too (operation c t) heard) (operation c t).aim a ≡ true
    → decide (asked_cell c t new requests replies heard fs) t a ≡ cell_at c new (c.requests ++ requests) (c.replies ++ replies) (set c.operations t (decided_as (heard_too (operation c t) heard) a)) (c.faults ++ fs)
decides_here c t new requests replies heard fs a lt free may =
    let o : Operation = heard_too (operation c t) heard in
    ap (decided_in c t new requests replies heard fs a) (get_or-set_same c.operations t o no_operation lt)
    ∙ decided_so c t new requests replies heard fs a o free may
    ∙ ap (λ (os : List Operation). cell_at c new (c.requests ++ requests) (c.replies ++ replies) os (c.faults ++ fs)) (set-set c.operations t o (decided_as o a))

-- what is known of an operation of a lawful cell, once it asked
known_of : (v : FileView) (c : Cell) (t : ℕ) (new : Server) (requests : List Request) (replies heard : List Reply) (fs : List ℕ) (steps : List CellStep) → IsCellOf v c → AreStrays steps → t < length c.operations
    → run_cell steps c ≡ asked_cell c t new requests replies heard fs → Known c.entries c.cut v.server (operation c t) heard
known_of v c t new requests replies heard fs steps h strays lt is = record {
  placed = λ e a. ((h.lawful.law.quorum.operations t).placed e a).0;
  settled = λ n a. (h.lawful.law.quorum.operations t).settled n a;
  trimmed = h.wants t;
  base = here.trimmed;
  firm = long;
  same = here.same;
  found = λ p any. found p any;
}
  where
    here : ServerHolds c v.server
    here = server_holds v c h

    long : (operation c t).firm_before ≤ length_of v.server
    long = (let le = firm_within v c h in let before : (operation c t).firm_before ≤ c.firm = (h.lawful.law.quorum.operations t).firm in omega (arith, le, before))

    found : (p : ℕ) → list_any (gives_entry p) ((operation c t).heard ++ heard) ≡ true → (e : Entry) × (entry_heard p ((operation c t).heard ++ heard) ≡ Some e) × (slice_get c.entries p ≡ Some e)
    found p any =
        let d : Cell = asked_cell c t new requests replies heard fs in
        let law : IsLawful d = subst IsLawful is (run_lawful steps c h.lawful) in
        let there : operation d t ≡ heard_too (operation c t) heard = get_or-set_same c.operations t (heard_too (operation c t) heard) no_operation lt in
        found_entry d t p ((operation c t).heard ++ heard) law.law.quorum.replies
        (subst (λ (x : Operation). All (Rattle.quorum_cell.specs.Law.SentFor d t) x.heard) there (law.law.quorum.operations t).heard) any

-- what the cell is told where the loglet answers an operation
abbrev pub outcome_put : Operation → List Reply → Outcome → Operation
outcome_put o heard a = decided_as (heard_too o heard) a

server_is : (v : FileView) (c : Cell) → IsCellOf v c → server c 0 ≡ v.server
server_is v c h = ap (λ (ss : List Server). get_or ss 0 no_server) h.server

has_asked : (v : FileView) (c : Cell) (t : ℕ) (new : Server) (fs : List ℕ) → IsCellOf v c → (x : AskedFirst c t v.server new fs) → HasAsked c t x.asks.steps
has_asked v c t new fs h x = record {
  asked = x.asked;
  rest = x.rest;
  are = x.are ∙ ap (asks_in c t) (sym (server_is v c h));
  wishes = x.asks.wishes;
  sent = x.asks.sent;
  asking = x.asks.asking;
}

-- it asked, and came to something
ends_so : (old new : FileView) (c : Cell) (t word : ℕ) (fs : List ℕ) (answer : Answer) → IsCellOf old c → (x : AskedFirst c t old.server new.server fs) → (d : Decides c.cut (heard_too (operation c t) x.asks.heard) (operation c t).aim answer) → t < length c.operations → waits (operation c t) ≡ true → (operation c t).closed ≡ false
    → Still old.loglet new.loglet → Seen new → cell_counted (length (c.faults ++ fs)) ≡ new.loglet.faults → PutsAnswer old.answers t (Some answer) new.answers → Comes c (calling.Carry t word) Carried new c.entries
ends_so old new c t word fs answer h x d lt free open_ still seen faults puts =
    let o : Operation = outcome_put (operation c t) x.asks.heard d.outcome in
    let steps : List CellStep = x.asks.steps ++ steps_of.Decide t d.outcome ∷ [] in
    let is : run_cell steps c ≡ cell_at c new.server (c.requests ++ x.asks.requests) (c.replies ++ x.asks.replies) (set c.operations t o) (c.faults ++ fs) =
    run_cell-append x.asks.steps (steps_of.Decide t d.outcome ∷ []) c ∙ ap (λ (y : Cell). decide y t d.outcome) x.asks.cell
    ∙ decides_here c t new.server x.asks.requests x.asks.replies x.asks.heard fs d.outcome lt free d.may in
    let told : IsToldAs c.cut o (answer_at new.answers t) = subst (IsToldAs c.cut o) (sym (puts_here old.answers new.answers t (Some answer) puts)) (open_, d.told) in
    record {
      keeps = ap (λ (y : Cell). y.entries) is;
      reaches = record {
        steps = steps;
        are = record { asking = x.asks.steps; asks = has_asked old c t new.server fs h x; outcome = d.outcome; are = refl };
        cell = tied old new c steps (c.requests ++ x.asks.requests) (c.replies ++ x.asks.replies) (set c.operations t o) (c.faults ++ fs) h
            (strays_both x.asks.steps (steps_of.Decide t d.outcome ∷ []) (asking_strays t (length c.requests) (length c.replies) x.asks.wishes x.asks.steps x.asks.asking) (tt, tt)) is still seen faults
            (told_put c.cut c.operations t o old.answers new.answers lt h.told told (puts_other old.answers new.answers t (Some answer) puts))
            (at_set (λ j (y : Operation). IsWithin c.cut y) c.operations t o no_operation h.wants (λ _. h.wants t));
      };
    }

-- it asked, and came to nothing
waits_so : (old new : FileView) (c : Cell) (t word : ℕ) (fs : List ℕ) → IsCellOf old c → (x : AskedFirst c t old.server new.server fs) → t < length c.operations → (operation c t).decided ≡ None → answer_at old.answers t ≡ None → Still old.loglet new.loglet → Seen new → cell_counted (length (c.faults ++ fs)) ≡ new.loglet.faults
    → new.answers ≡ old.answers → Comes c (calling.Carry t word) (Refusal Memory) new c.entries
waits_so old new c t word fs h x lt undecided unanswered still seen faults answers =
    let o : Operation = heard_too (operation c t) x.asks.heard in
    let none : answer_at new.answers t ≡ None = ap (λ (xs : List (ℕ × Option Answer)). answer_at xs t) answers ∙ unanswered in
    record {
      keeps = ap (λ (y : Cell). y.entries) x.asks.cell;
      reaches = record {
        steps = x.asks.steps;
        are = has_asked old c t new.server fs h x;
        cell = tied old new c x.asks.steps (c.requests ++ x.asks.requests) (c.replies ++ x.asks.replies) (set c.operations t o) (c.faults ++ fs) h
            (asking_strays t (length c.requests) (length c.replies) x.asks.wishes x.asks.steps x.asks.asking) x.asks.cell still seen faults
            (told_put c.cut c.operations t o old.answers new.answers lt h.told (subst (IsToldAs c.cut o) (sym none) (λ z. undecided)) (λ q n. ap (λ (xs : List (ℕ × Option Answer)). answer_at xs q) answers))
            (at_set (λ j (y : Operation). IsWithin c.cut y) c.operations t o no_operation h.wants (λ _. h.wants t));
      };
    }

---- faults of a carry

abbrev FailedOnce : LogletView → LogletView → Type 0
FailedOnce old new = ((new.faults ≡ old.faults) × (new.down ≡ old.down)) ⊎ ((old.down ≡ 0) × (new.down ≡ 1) × (new.faults ≡ bumped old.faults))

calm_faults : (old new : FileView) (c : Cell) → IsCellOf old c → Seen old → Seen new → FailedOnce old.loglet new.loglet → new.server.up ≡ old.server.up → cell_counted (length (c.faults ++ [])) ≡ new.loglet.faults
calm_faults old new c h was seen failed up =
    let same : new.loglet.down ≡ old.loglet.down = seen.down ∙ ap down_of up ∙ sym was.down in
    let faults : new.loglet.faults ≡ old.loglet.faults = elim failed [ inl calm ↦ calm.0 | inr once ↦ absurd (omega (arith, same, once.0, once.1)) ] in
    ap (λ (xs : List ℕ). cell_counted (length xs)) (append-nil c.faults) ∙ sym (ap (λ (v : LogletView). v.faults) h.shows) ∙ sym faults

fail_faults : (old new : FileView) (c : Cell) → IsCellOf old c → Seen old → Seen new → FailedOnce old.loglet new.loglet → old.server.up ≡ true → new.server.up ≡ false → cell_counted (length (c.faults ++ 0 ∷ [])) ≡ new.loglet.faults
fail_faults old new c h was seen failed up down =
    let before : old.loglet.down ≡ 0 = was.down ∙ ap down_of up in
    let after : new.loglet.down ≡ 1 = seen.down ∙ ap down_of down in
    let count : cell_counted (length c.faults) ≡ old.loglet.faults = sym (ap (λ (v : LogletView). v.faults) h.shows) in
    let faults : new.loglet.faults ≡ bumped old.loglet.faults = elim failed [ inl calm ↦ absurd (omega (arith, before, after, calm.1)) | inr once ↦ once.2 ] in
    omega (arith, count, faults, length-append c.faults (0 ∷ []))

---- a carry

task_same : (aim : Aim) → task_for aim ≡ task_of (op_of aim)
task_same (aims.Append e) = refl
task_same (aims.Settle n) = refl
task_same aims.Tail = refl
task_same aims.Seal = refl
task_same (aims.Read p) = refl
task_same (aims.Trim n) = refl

-- an operation that waits, in the cell
pub record WaitsIn (v : FileView) (c : Cell) (t : ℕ) (a : OpenOperation) : Type 0 where
  pub open_ : OpenIn c t a
  pub undecided : (operation c t).decided ≡ None
  pub free : waits (operation c t) ≡ true
  pub size : a.size ≡ (operation c t).size_before
  pub firm : a.firm ≡ (operation c t).firm_before
  pub task : a.task ≡ task_for (operation c t).aim
  pub within : c.cut ≤ length_of v.server
  pub cut : v.loglet.cut ≡ c.cut
  pub log : v.loglet.log ≡ drop c.cut c.entries

waits_in : (v : FileView) (c : Cell) (t : ℕ) (a : OpenOperation) → IsCellOf v c → operation_at v.loglet.operations t ≡ Some a → answer_at v.answers t ≡ None → WaitsIn v c t a
waits_in v c t a h is none =
    let o = open_in v c t a h is in
    let k : (operation c t).closed ≡ false → (operation c t).decided ≡ None = subst (IsToldAs c.cut (operation c t)) none (h.told t) in
    let undecided = k o.is_open in
    let law = h.lawful.law.quorum in
    let firm = firm_within v c h in
    record {
      open_ = o;
      undecided = undecided;
      free = rw (o.is_open, undecided) refl;
      size = ap (λ (b : OpenOperation). b.size) o.shown;
      firm = ap (λ (b : OpenOperation). b.firm) o.shown;
      task = ap (λ (b : OpenOperation). b.task) o.shown ∙ sym (task_same (operation c t).aim);
      within = omega (arith, firm, law.cut, law.ordered);
      cut = ap (λ (b : LogletView). b.cut) h.shows;
      log = ap (λ (b : LogletView). b.log) h.shows;
    }

-- what the loglet asks is what the cell's operation asks
asks_same : (v : FileView) (c : Cell) (t : ℕ) (a : OpenOperation) → WaitsIn v c t a → asks v.loglet.log v.loglet.cut v.server a.size a.task ≡ asks (drop c.cut c.entries) c.cut v.server (operation c t).size_before (task_for (operation c t).aim)
asks_same v c t a w =
    ap (λ (es : List Entry). asks es v.loglet.cut v.server a.size a.task) w.log
    ∙ ap (λ n. asks (drop c.cut c.entries) n v.server a.size a.task) w.cut
    ∙ ap (λ n. asks (drop c.cut c.entries) c.cut v.server n a.task) w.size
    ∙ ap (λ (x : Task). asks (drop c.cut c.entries) c.cut v.server (operation c t).size_before x) w.task

none_asked : (v new : FileView) (c : Cell) (t : ℕ) → IsCellOf v c → new.server ≡ v.server → AskedFirst c t v.server new.server []
none_asked v new c t h same = subst (λ (s : Server). AskedFirst c t v.server s []) (sym same) (record { asked = []; rest = asks_in c t v.server; are = refl; asks = asks_none c t v.server h.server })

pub stuck_steps : {U E : Type 0} (old new : FileView) (t word : ℕ) (e : E) → Seen old → Seen new → new.loglet ≡ old.loglet → answer_at old.answers t ≡ None → new.answers ≡ old.answers → IsCarried {U = U} {E = E} old t (Err e) new
    → (c : Cell) → IsCellOf old c → Comes c (calling.Carry t word) (Refusal Memory) new c.entries
stuck_steps old new t word e was seen same none answers carried c h = reaches c h (waits_in old c t carried.operation h carried.is none)
  where
    same_up : (x y : Bool) → down_of x ≡ down_of y → x ≡ y
    same_up true true k = refl
    same_up false false k = refl
    same_up true false k = absurd (cc)
    same_up false true k = absurd (cc)

    up : new.server.up ≡ old.server.up
    up = same_up new.server.up old.server.up (sym seen.down ∙ ap (λ (v : LogletView). v.down) same ∙ was.down)

    faults : (c : Cell) → IsCellOf old c → cell_counted (length (c.faults ++ [])) ≡ new.loglet.faults
    faults c h = calm_faults old new c h was seen (inl (ap (λ (v : LogletView). v.faults) same, ap (λ (v : LogletView). v.down) same)) up

    still : Still old.loglet new.loglet
    still = still_same old.loglet new.loglet same

    idle : (c : Cell) → IsCellOf old c → WaitsIn old c t carried.operation → new.server ≡ old.server → Comes c (calling.Carry t word) (Refusal Memory) new c.entries
    idle c h w alike = waits_so old new c t word [] h (none_asked old new c t h alike) w.open_.known w.undecided none still seen (faults c h) answers

    reaches : (c : Cell) → IsCellOf old c → WaitsIn old c t carried.operation → Comes c (calling.Carry t word) (Refusal Memory) new c.entries
    reaches c h w = by (unspoken_or (operation c t).aim (operation c t).firm_before) (cases_Bool old.server.up)
      where
        unspoken : IsUnspoken (task_for (operation c t).aim) (operation c t).firm_before → IsUnspoken carried.operation.task carried.operation.firm
        unspoken u = subst (λ (x : Task). IsUnspoken x carried.operation.firm) (sym w.task) (subst (IsUnspoken (task_for (operation c t).aim)) (sym w.firm) u)

        spoken : (IsUnspoken (task_for (operation c t).aim) (operation c t).firm_before → ⊥) → IsUnspoken carried.operation.task carried.operation.firm → ⊥
        spoken n u = n (subst (IsUnspoken (task_for (operation c t).aim)) w.firm (subst (λ (x : Task). IsUnspoken x carried.operation.firm) w.task u))

        by : (IsUnspoken (task_for (operation c t).aim) (operation c t).firm_before ⊎ (IsUnspoken (task_for (operation c t).aim) (operation c t).firm_before → ⊥)) → ((old.server.up ≡ true) ⊎ (old.server.up ≡ false)) → Comes c (calling.Carry t word) (Refusal Memory) new c.entries
        by (inl u) b = idle c h w (ap (λ (x : Held). x.server) (carried.unasked (unspoken u)))
        by (inr n) (inr down) = idle c h w (ap (λ (x : Held). x.server) (carried.idle down))
        by (inr n) (inl on) =
            let begins : BeginsAsked old.server (asks (drop c.cut c.entries) c.cut old.server (operation c t).size_before (task_for (operation c t).aim)) new.server = subst (λ (xs : List Ask). BeginsAsked old.server xs new.server) (asks_same old c t carried.operation w) (carried.obeys (spoken n) on) in
            let x = asks_some c t old.server new.server h.server on w.within w.open_.known w.free begins in
            let none_failed : (if new.server.up then [] else 0 ∷ []) ≡ [] = ap (λ (b : Bool). if b then [] else 0 ∷ []) (up ∙ on) in
            waits_so old new c t word [] h (subst (λ (fs : List ℕ). AskedFirst c t old.server new.server fs) none_failed x) w.open_.known w.undecided none still seen (faults c h) answers

pub carry_steps : {U E : Type 0} (old new : FileView) (t word : ℕ) (done : U) → Seen old → Seen new → Moves old.loglet new.loglet → IsDecidedAtOnce old.loglet t new.loglet → IsAnswered old t new → IsCarried {U = U} {E = E} old t (Ok done) new
    → (c : Cell) → IsCellOf old c → Comes c (calling.Carry t word) Carried new c.entries
carry_steps old new t word done was seen moves at_once answered carried c h = reaches c h (waits_in old c t answered.operation h answered.is answered.was)
  where
    one : carried.operation ≡ answered.operation
    one = same_Some _ _ (sym carried.is ∙ answered.is)

    still : Still old.loglet new.loglet
    still = moves_still old.loglet new.loglet moves

    reaches : (c : Cell) → IsCellOf old c → WaitsIn old c t answered.operation → Comes c (calling.Carry t word) Carried new c.entries
    reaches c h w = by (unspoken_or (operation c t).aim (operation c t).firm_before) (cases_Bool old.server.up)
      where
        ends : (fs : List ℕ) (answer : Answer) → answered.answer ≡ answer → (x : AskedFirst c t old.server new.server fs) → Decides c.cut (heard_too (operation c t) x.asks.heard) (operation c t).aim answer → cell_counted (length (c.faults ++ fs)) ≡ new.loglet.faults → Comes c (calling.Carry t word) Carried new c.entries
        ends fs answer e x d faults = ends_so old new c t word fs answer h x d w.open_.known w.free w.open_.is_open still seen faults (subst (λ (y : Answer). PutsAnswer old.answers t (Some y) new.answers) e answered.puts)

        unspoken : IsUnspoken (task_for (operation c t).aim) (operation c t).firm_before → IsUnspoken answered.operation.task answered.operation.firm
        unspoken u = subst (λ (x : Task). IsUnspoken x answered.operation.firm) (sym w.task) (subst (IsUnspoken (task_for (operation c t).aim)) (sym w.firm) u)

        spoken : (IsUnspoken (task_for (operation c t).aim) (operation c t).firm_before → ⊥) → IsUnspoken answered.operation.task answered.operation.firm → ⊥
        spoken n u = n (subst (IsUnspoken (task_for (operation c t).aim)) w.firm (subst (λ (x : Task). IsUnspoken x answered.operation.firm) w.task u))

        by : (IsUnspoken (task_for (operation c t).aim) (operation c t).firm_before ⊎ (IsUnspoken (task_for (operation c t).aim) (operation c t).firm_before → ⊥)) → ((old.server.up ≡ true) ⊎ (old.server.up ≡ false)) → Comes c (calling.Carry t word) Carried new c.entries
        by (inl u) b =
            let past = unspoken u in
            let alike : new.server ≡ old.server = ap (λ (x : Held). x.server) (carried.unasked (subst (λ (x : OpenOperation). IsUnspoken x.task x.firm) (sym one) past)) in
            let x = none_asked old new c t h alike in
            ends [] (PastFirm (operation c t).firm_before) (answered.unspoken past ∙ ap PastFirm w.firm) x (unspoken_decides c.cut (operation c t) x.asks.heard (operation c t).aim u) (calm_faults old new c h was seen at_once.failed (ap (λ (y : Server). y.up) alike))
        by (inr n) (inr down) =
            let alike : new.server ≡ old.server = ap (λ (x : Held). x.server) (carried.idle down) in
            let first = asks_one c t old.server h.server down w.within w.free in
            let all : (y : AskedFirst c t old.server new.server []) × (y.asked ≡ [] → ⊥) = subst (λ (z : Server). (y : AskedFirst c t old.server z []) × (y.asked ≡ [] → ⊥)) (sym alike) first in
            let now : new.server.up ≡ false = ap (λ (y : Server). y.up) alike ∙ down in
            ends [] (Lacking 1) (answered.down (spoken n) now) all.0 (down_decides c.cut (operation c t) all.0.asks.heard (operation c t).aim (all.0.asks.failed now all.1) n) (calm_faults old new c h was seen at_once.failed (ap (λ (y : Server). y.up) alike))
        by (inr n) (inl on) = at_end (cases_Bool new.server.up)
          where
            follows : Follows old.server (asks (drop c.cut c.entries) c.cut old.server (operation c t).size_before (task_for (operation c t).aim)) new.server
            follows = subst (λ (xs : List Ask). Follows old.server xs new.server) (ap (λ (x : OpenOperation). asks old.loglet.log old.loglet.cut old.server x.size x.task) one ∙ asks_same old c t answered.operation w) (carried.obeys (subst (λ (x : OpenOperation). IsUnspoken x.task x.firm → ⊥) (sym one) (spoken n)) on)

            all : Asked c t old.server new.server (asks_in c t old.server) (if new.server.up then [] else 0 ∷ [])
            all = asks_all c t old.server new.server h.server on w.within w.open_.known w.free follows

            asked_with : (fs : List ℕ) → (if new.server.up then [] else 0 ∷ []) ≡ fs → AskedFirst c t old.server new.server fs
            asked_with fs e = record { asked = asks_in c t old.server; rest = []; are = append-nil (asks_in c t old.server); asks = subst (λ (ys : List ℕ). Asked c t old.server new.server (asks_in c t old.server) ys) e all }

            answers : new.server.up ≡ true → Answers (drop c.cut c.entries) c.cut new.server answered.operation (task_for (operation c t).aim) answered.answer
            answers up =
                let log : new.loglet.log ≡ drop c.cut c.entries = ap (λ (v : LogletView). v.log) still.rest ∙ w.log in
                let cut : new.loglet.cut ≡ c.cut = ap (λ (v : LogletView). v.cut) still.rest ∙ w.cut in
                subst (λ (x : Task). Answers (drop c.cut c.entries) c.cut new.server answered.operation x answered.answer) w.task
                (subst (λ (k : ℕ). Answers (drop c.cut c.entries) k new.server answered.operation answered.operation.task answered.answer) cut
                (subst (λ (es : List Entry). Answers es new.loglet.cut new.server answered.operation answered.operation.task answered.answer) log (answered.up (spoken n) up)))

            -- a server that stopped was asked something
            some_asked : new.server.up ≡ false → asks_in c t old.server ≡ [] → ⊥
            some_asked down none =
                let all_of : Follows old.server (asks_in c t old.server) new.server = follows_all (operation c t).aim old.server new.server (asks (drop c.cut c.entries) c.cut old.server (operation c t).size_before (task_for (operation c t).aim)) follows in
                let same : new.server ≡ old.server = subst (λ (xs : List Ask). Follows old.server xs new.server) none all_of in
                false≢true (sym down ∙ ap (λ (y : Server). y.up) same ∙ on)

            at_end : ((new.server.up ≡ true) ⊎ (new.server.up ≡ false)) → Comes c (calling.Carry t word) Carried new c.entries
            at_end (inl up) =
                let x = asked_with [] (ap (λ (b : Bool). if b then [] else 0 ∷ []) up) in
                let a : Asked c t old.server new.server (asks_in c t old.server) [] = x.asks in
                let k = known_of old c t new.server a.requests a.replies a.heard [] a.steps h (asking_strays t (length c.requests) (length c.replies) a.wishes a.steps a.asking) w.open_.known a.cell in
                ends [] answered.answer refl x (up_decides t c.entries c.cut old.server new.server (operation c t) a.heard answered.operation (operation c t).aim answered.answer refl w.size w.firm k on up follows (a.all up) n (answers up)) (calm_faults old new c h was seen at_once.failed (up ∙ sym on))
            at_end (inr down) =
                let x = asked_with (0 ∷ []) (ap (λ (b : Bool). if b then [] else 0 ∷ []) down) in
                let a : Asked c t old.server new.server (asks_in c t old.server) (0 ∷ []) = x.asks in
                ends (0 ∷ []) (Lacking 1) (answered.down (spoken n) down) x (down_decides c.cut (operation c t) a.heard (operation c t).aim (a.failed down (some_asked down)) n) (fail_faults old new c h was seen at_once.failed on down)

---- by the parts

pub same_answers : (room : ℕ) (es : List Entry) (held : Held) (marks : Marks) (m n : PendingMap) (w : FileView) → file_view room es held marks m ≡ w → n.entries ≡ m.entries → map shown_answer n.entries ≡ w.answers
same_answers room es held marks m n w e same = ap (map shown_answer) same ∙ ap (λ (v : FileView). v.answers) e
