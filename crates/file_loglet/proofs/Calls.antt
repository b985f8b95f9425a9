-- The calls of a file loglet, by its fields.
use Rattle.std.proofs.Common.{◌≡◌, ℕ, ◌+◌, ◌-◌, ◌^◌, ◌<◌, ◌⊎◌, Bool, nat_eq, true, false, min, max, Option, Some, None, List, ◌++◌, length, is_some, map, drop, refl, inl, inr, ap, sym, ◌∙◌, subst, arith}
use Rattle.std.specs.Prelude.{Result, [], ◌∷◌}
use Rattle.std.proofs.lemmas.Bool.{cases_Bool, cases_lt}
use Rattle.std.specs.HashMap.{get, Updates}
use Rattle.delos_types.specs.declared.entry.Entry.{Entry}
use Rattle.loglet_api.specs.declared.call.Answer.{Answer}
use Rattle.loglet_api.specs.declared.call.Answer.TheVariants.{Beyond, NoQuorum}
use Rattle.loglet_api.specs.declared.call.Op.{Op}
use Rattle.loglet_api.specs.declared.call.Task.{Task}
use Rattle.loglet_api.specs.declared.call.Task.TheVariants.{Placing, Settling, Finding, Sealing, Reading, Trimming}
use Rattle.loglet_api.specs.View.{LogletView, operation_at, IsUndecided}
use Rattle.loglet_api.specs.Step.{IsUndecidedAt, Carries, Begins, TakesAnswer, IsAppend, IsFull, bumped, entries_of, cut_by, seals_of, task_of, wanted_by, told_reach, told_firm, told_cap, told_lacks}
use Rattle.quorum_cell.specs.declared.message.Ask.{Ask}
use Rattle.quorum_cell.specs.Servers.{Server, is_sealed, written}
use Rattle.file_loglet.specs.declared.marks.Asked.{Asked}
use Rattle.file_loglet.specs.declared.marks.Marks.{Marks}
use Rattle.file_loglet.specs.declared.pending.Pending.{Pending}
use Rattle.file_loglet.specs.declared.pending.Decided.{Decided}
use Rattle.file_loglet.specs.Held.{Held}
use Rattle.file_loglet.specs.Later.{Wore}
use Rattle.disk_model.specs.Disk.{bumped as disk_bumped}
use Rattle.file_loglet.specs.Pending.{PendingMap, left_of, Answers, SetsAnswer, TakesOut, Waits, IsUnspoken, operation_of, shown_answer, answer_at, PutsAnswer, told_at}
use Rattle.file_loglet.specs.Asking.{asks, Follows, Obeys}
use Rattle.file_loglet.specs.File.{FileView, file_view, counted, down_of, loglet_of, IsDecidedAtOnce, IsAnswered, IsCarried, IsTaken, Takes}
use Rattle.file_loglet.specs.Whole.{IsWhole}
use Rattle.file_loglet.proofs.Steps.{answered, carries, decided_at_once, begins, refuses, takes, waits_undecided}
use Rattle.file_loglet.proofs.Maps.{shown_at, answer_in, answer_shown, puts_answer, adds_no_answer}
use Rattle.file_loglet.proofs.Laters.{wore_may_fail}
use Rattle.file_loglet.proofs.Wholes.{written_sealed, shows, whole_sound, lies, may_take, MayTake, carried_onward, open_whole}

-- ---- Carry

-- what was sealed stays so, whatever is asked
follows_sealed : (s new : Server) (rest : List Ask) → Follows s rest new → is_sealed s ≡ true → is_sealed new ≡ true
follows_sealed s new [] h sealed = ap is_sealed h ∙ sealed
follows_sealed s new (ask ∷ rest) (inl stops) sealed = ap is_sealed stops.1 ∙ sealed
follows_sealed s new (ask ∷ rest) (inr goes) sealed = follows_sealed (written s ask) new rest goes (written_sealed s ask sealed)

unspoken_task : (task : Task) (firm : ℕ) → IsUnspoken task firm ⊎ (IsUnspoken task firm → ⊥)
unspoken_task (Reading q) firm = elim (cases_lt q firm) [ inl lt ↦ inr (λ le. omega (arith, lt, le)) | inr le ↦ inl le ]
unspoken_task Placing firm = inr (λ x. x)
unspoken_task (Settling n) firm = inr (λ x. x)
unspoken_task Finding firm = inr (λ x. x)
unspoken_task Sealing firm = inr (λ x. x)
unspoken_task (Trimming n) firm = inr (λ x. x)

pub obeyed_sealed : (old new : Held) (task : Task) (firm : ℕ) (rest : List Ask) → (old.server.up ≡ false → new ≡ old) → (IsUnspoken task firm → new ≡ old) → (¬ IsUnspoken task firm → old.server.up ≡ true → Follows old.server rest new.server) → is_sealed old.server ≡ true → is_sealed new.server ≡ true
obeyed_sealed old new task firm rest idle unasked obeys sealed =
    elim (unspoken_task task firm) [
      | inl u ↦ ap (λ (h : Held). is_sealed h.server) (unasked u) ∙ sealed
      | inr n ↦ elim (cases_Bool old.server.up) [ inl on ↦ follows_sealed old.server new.server rest (obeys n on) sealed | inr off ↦ ap (λ (h : Held). is_sealed h.server) (idle off) ∙ sealed ]
    ]

pub carries_whole : (room : ℕ) (es : List Entry) (old new : Held) (marks : Marks) (m n : PendingMap) (w : FileView) (t : ℕ) (p : Pending) (y : Answer) → file_view room es old marks m ≡ w → get nat_eq m t ≡ Some p → (is_sealed old.server ≡ true → is_sealed new.server ≡ true) → Wore old new
    → SetsAnswer m t y n → IsUndecidedAt w.loglet t → Carries (loglet_of room es old marks m) t (loglet_of room es new marks n)
carries_whole room es old new marks m n w t p y e at still f s undecided =
    carries room es old new marks m n t p y (carried_onward old new marks.refusals still (wore_may_fail old new f)) at (s.answered p at)
    (subst (λ (v : LogletView). IsUndecidedAt v t) (sym (shows room es old marks m w e)) undecided)

one_counted : (f r : ℕ) → counted (disk_bumped f) r ≡ bumped (counted f r)
one_counted f r = omega arith

failed_once : (old new : Held) (r : ℕ) → Wore old new
    → ((counted new.disk.faults r ≡ counted old.disk.faults r) × (down_of new.server.up ≡ down_of old.server.up))
    ⊎ ((down_of old.server.up ≡ 0) × (down_of new.server.up ≡ 1) × (counted new.disk.faults r ≡ bumped (counted old.disk.faults r)))
failed_once old new r (inl same) = inl (ap (λ n. counted n r) same.1.faults, ap down_of same.0)
failed_once old new r (inr failed) = inr (ap down_of failed.0, ap down_of failed.1, ap (λ n. counted n r) failed.2.faults ∙ one_counted old.disk.faults r)

pub at_once_whole : (room : ℕ) (es : List Entry) (old new : Held) (marks : Marks) (m n : PendingMap) (w : FileView) (t : ℕ) (p : Pending) (y : Answer) → file_view room es old marks m ≡ w → get nat_eq m t ≡ Some p → Wore old new → SetsAnswer m t y n
    → IsDecidedAtOnce w.loglet t (loglet_of room es new marks n)
at_once_whole room es old new marks m n w t p y e at f s =
    subst (λ (v : LogletView). IsDecidedAtOnce v t (loglet_of room es new marks n)) (shows room es old marks m w e)
    (decided_at_once room es old new marks m n t p y (s.answered p at) (failed_once old new marks.refusals f))

-- an operation that isn't decided has no answer
waiting : (a : Option Answer) → 0 < (left_of a).0 + (left_of a).1 → a ≡ None
waiting None h = refl
waiting (Some y) h = absurd (omega arith)

waiting_at : (room : ℕ) (es : List Entry) (held : Held) (marks : Marks) (m : PendingMap) (t : ℕ) (p : Pending) → get nat_eq m t ≡ Some p → IsUndecidedAt (loglet_of room es held marks m) t → p.answer ≡ None
waiting_at room es held marks m t p at undecided =
    let e = sym undecided.is ∙ shown_at m t p at in
    let same : undecided.operation ≡ operation_of p = cc in
    waiting p.answer (subst IsUndecided same undecided.undecided)

pub unanswered_whole : (room : ℕ) (es : List Entry) (held : Held) (marks : Marks) (m : PendingMap) (w : FileView) (t : ℕ) (p : Pending) → file_view room es held marks m ≡ w → get nat_eq m t ≡ Some p → IsUndecidedAt w.loglet t → answer_at w.answers t ≡ None
unanswered_whole room es held marks m w t p e at undecided =
    let waits = waiting_at room es held marks m t p at (subst (λ (x : FileView). IsUndecidedAt x.loglet t) (sym e) undecided) in
    subst (λ (x : FileView). answer_at x.answers t ≡ None) e (answer_shown m t ∙ ap answer_in at ∙ waits)

-- what it is answered
pub answered_whole : (room : ℕ) (es xs : List Entry) (old new : Held) (marks marks' : Marks) (m n : PendingMap) (w : FileView) (t : ℕ) (p : Pending) (y : Answer) (asked : Asked) → file_view room es old marks m ≡ w → get nat_eq m t ≡ Some p → xs ≡ es → IsUndecidedAt w.loglet t
    → SetsAnswer m t y n → marks' ≡ record marks { asked = asked } → (IsUnspoken p.task p.firm → y ≡ Beyond p.firm) → (¬ IsUnspoken p.task p.firm → new.server.up ≡ false → y ≡ NoQuorum 1)
    → (¬ IsUnspoken p.task p.firm → new.server.up ≡ true → Answers (drop marks.cut xs) marks.cut new.server (operation_of p) p.task y) → IsAnswered w t (file_view room es new marks' n)
answered_whole room es xs old new marks marks' m n w t p y asked e at ex undecided s em unspoken down up =
    let v = file_view room es old marks m in
    let waits = waiting_at room es old marks m t p at (subst (λ (x : FileView). IsUndecidedAt x.loglet t) (sym e) undecided) in
    let up' : ¬ IsUnspoken p.task p.firm → new.server.up ≡ true → Answers (drop marks.cut es) marks.cut new.server (operation_of p) p.task y =
    subst (λ (zs : List Entry). ¬ IsUnspoken p.task p.firm → new.server.up ≡ true → Answers (drop marks.cut zs) marks.cut new.server (operation_of p) p.task y) ex up in
    subst (λ (x : FileView). IsAnswered x t (file_view room es new marks' n)) e
    (subst (λ (x : Marks). IsAnswered v t (file_view room es new x n)) (sym em) (record {
      operation = operation_of p;
      is = shown_at m t p at;
      answer = y;
      was = answer_shown m t ∙ ap answer_in at ∙ waits;
      puts = puts_answer m n t (Some (answered p y)) (s.answered p at);
      unspoken = unspoken;
      down = down;
      up = up';
    }))

-- what it asked of the server
pub obeyed_whole : {U E : Type 0} (room : ℕ) (es xs : List Entry) (old new : Held) (marks marks' : Marks) (m n : PendingMap) (w : FileView) (t : ℕ) (p : Pending) (result : Result U E) → file_view room es old marks m ≡ w → get nat_eq m t ≡ Some p → xs ≡ es
    → (old.server.up ≡ false → new ≡ old) → (IsUnspoken p.task p.firm → new ≡ old) → (¬ IsUnspoken p.task p.firm → old.server.up ≡ true → Obeys old.server (asks (drop marks.cut xs) marks.cut old.server p.size p.task) result new.server)
    → IsCarried w t result (file_view room es new marks' n)
obeyed_whole room es xs old new marks marks' m n w t p result e at ex idle unasked obeys =
    subst (λ (x : FileView). IsCarried x t result (file_view room es new marks' n)) e (record {
      operation = operation_of p;
      is = shown_at m t p at;
      idle = idle;
      unasked = unasked;
      obeys = subst (λ (zs : List Entry). ¬ IsUnspoken p.task p.firm → old.server.up ≡ true → Obeys old.server (asks (drop marks.cut zs) marks.cut old.server p.size p.task) result new.server) ex obeys;
    })

-- a want of memory shows nothing
pub unmoved_shown : (room : ℕ) (es : List Entry) (old new : Held) (marks : Marks) (m : PendingMap) → new.server.up ≡ old.server.up → new.disk.faults ≡ old.disk.faults → is_sealed new.server ≡ is_sealed old.server → loglet_of room es new marks m ≡ loglet_of room es old marks m
unmoved_shown room es old new marks m up faults sealed =
    ap (λ (b : Bool). record (loglet_of room es new marks m) { shut = b }) sealed
    ∙ ap (λ (b : Bool). record (loglet_of room es new marks m) { shut = is_sealed old.server; down = down_of b }) up
    ∙ ap (λ (n : ℕ). record (loglet_of room es old marks m) { faults = counted n marks.refusals }) faults

-- ---- Take

pub taken_whole : (room : ℕ) (es : List Entry) (held : Held) (marks : Marks) (m n : PendingMap) (t : ℕ) (d : Decided) → IsWhole room es held marks m → (o : TakesOut m t d n) → MayTake (file_view room es held marks m) (operation_of o.p) (told_at d.task marks.cut d.answer)
taken_whole room es held marks m n t d h o =
    may_take (file_view room es held marks m) h.cell t (operation_of o.p) d.answer (told_at d.task marks.cut d.answer) h.is (shown_at m t o.p o.was) (answer_shown m t ∙ ap answer_in o.was ∙ o.answer)
    (ap (λ (x : Task). told_at x marks.cut d.answer) (sym o.task))

pub takes_answer : (room : ℕ) (es : List Entry) (held : Held) (marks marks' : Marks) (m n : PendingMap) (t : ℕ) (d : Decided) (answer : Answer) (length : ℕ) → IsWhole room es held marks m → TakesOut m t d n → answer ≡ told_at d.task marks.cut d.answer → length ≡ wanted_by d.task d.size
    → marks' ≡ record marks { reach = max marks.reach (told_reach length answer); firm = max marks.firm (told_firm length answer); cap = told_cap answer marks.cap; lacks = marks.lacks + told_lacks answer }
    → TakesAnswer (loglet_of room es held marks m) t answer (loglet_of room es held marks' n)
takes_answer room es held marks marks' m n t d answer length h o ea el em =
    let may = (taken_whole room es held marks m n t d h o).may in
    let far : length ≡ wanted_by o.p.task o.p.size = el ∙ ap (λ (x : Task). wanted_by x d.size) (sym o.task) ∙ ap (λ (k : ℕ). wanted_by o.p.task k) (sym o.size) in
    let noted : marks' ≡ record marks { reach = max marks.reach (told_reach (wanted_by o.p.task o.p.size) answer); firm = max marks.firm (told_firm (wanted_by o.p.task o.p.size) answer); cap = told_cap answer marks.cap; lacks = marks.lacks + told_lacks answer } =
    em ∙ ap (λ (k : ℕ). record marks { reach = max marks.reach (told_reach k answer); firm = max marks.firm (told_firm k answer); cap = told_cap answer marks.cap; lacks = marks.lacks + told_lacks answer }) far in
    takes room es held marks marks' m n t o.p d.answer answer o.was o.answer (rw ea may) o.rest noted

pub taken_small : (room : ℕ) (es : List Entry) (held : Held) (marks : Marks) (m n : PendingMap) (t : ℕ) (d : Decided) → IsWhole room es held marks m → TakesOut m t d n
    → (told_reach (wanted_by d.task d.size) (told_at d.task marks.cut d.answer) < 2 ^ 64) × (told_firm (wanted_by d.task d.size) (told_at d.task marks.cut d.answer) < 2 ^ 64)
taken_small room es held marks m n t d h o =
    let may = taken_whole room es held marks m n t d h o in
    let far : wanted_by o.p.task o.p.size ≡ wanted_by d.task d.size = ap (λ (x : Task). wanted_by x o.p.size) o.task ∙ ap (λ (k : ℕ). wanted_by d.task k) o.size in
    rw (← far) (omega (arith, may.reach), omega (arith, may.firm))

pub size_small : (room : ℕ) (es : List Entry) (held : Held) (marks : Marks) (m n : PendingMap) (t : ℕ) (d : Decided) → IsWhole room es held marks m → TakesOut m t d n → d.size + 1 < 2 ^ 64
size_small room es held marks m n t d h o =
    let s = whole_sound room es held marks m h in
    let k = s.operations t (operation_of o.p) (shown_at m t o.p o.was) in
    omega (arith, o.size, k.size, s.size, s.shape.room.1)

pub lacks_small : (room : ℕ) (es : List Entry) (held : Held) (marks : Marks) (m : PendingMap) → IsWhole room es held marks m → marks.lacks + 1 < 2 ^ 64
lacks_small room es held marks m h =
    let s = whole_sound room es held marks m h in
    omega (arith, s.lacks, s.begun)

-- what is taken is the answer that was decided
pub takes_whole : (room : ℕ) (es : List Entry) (held : Held) (marks marks' : Marks) (m n : PendingMap) (w : FileView) (t : ℕ) (d : Decided) (answer : Answer) → file_view room es held marks m ≡ w → TakesOut m t d n → answer ≡ told_at d.task marks.cut d.answer
    → IsTaken w t answer (file_view room es held marks' n)
takes_whole room es held marks marks' m n w t d answer e o told =
    subst (λ (x : FileView). IsTaken x t answer (file_view room es held marks' n)) e (record {
      operation = operation_of o.p;
      is = shown_at m t o.p o.was;
      decided = d.answer;
      was = answer_shown m t ∙ ap answer_in o.was ∙ o.answer;
      told = told ∙ ap (λ (x : Task). told_at x marks.cut d.answer) (sym o.task);
      puts = puts_answer m n t None o.rest;
    })

no_answer_yet : (x : Option Pending) → ((p : Pending) → x ≡ Some p → p.answer ≡ None) → answer_in x ≡ None
no_answer_yet None h = refl
no_answer_yet (Some p) h = h p refl

pub waits_whole : (room : ℕ) (es : List Entry) (held : Held) (marks : Marks) (m n : PendingMap) (w : FileView) (t : ℕ) → file_view room es held marks m ≡ w → Waits m t → n.entries ≡ m.entries → Takes w t None (file_view room es held marks n)
waits_whole room es held marks m n w t e waits same =
    subst (λ (x : FileView). Takes x t None (file_view room es held marks n)) e (
      answer_shown m t ∙ no_answer_yet (get nat_eq m t) waits,
      ap (λ (xs : List (ℕ × Pending)). map shown_answer xs) same,
    )

-- one that is forgotten has none
pub forgets_answer : (room : ℕ) (es : List Entry) (held : Held) (marks : Marks) (m n : PendingMap) (w : FileView) (t : ℕ) → file_view room es held marks m ≡ w → Updates nat_eq m n t None → PutsAnswer w.answers t None (file_view room es held marks n).answers
forgets_answer room es held marks m n w t e u = subst (λ (x : FileView). PutsAnswer x.answers t None (file_view room es held marks n).answers) e (puts_answer m n t None u)

pub unchanged_shown : (room : ℕ) (es : List Entry) (held : Held) (marks : Marks) (m : PendingMap) (es' : List Entry) (n : PendingMap) → es' ≡ es → n.entries ≡ m.entries → loglet_of room es' held marks n ≡ loglet_of room es held marks m
unchanged_shown room es held marks m es' n e f = rw (e, f) refl

pub undecided_whole : (room : ℕ) (es : List Entry) (held : Held) (marks : Marks) (m : PendingMap) (w : FileView) (t : ℕ) → file_view room es held marks m ≡ w → is_some (operation_at w.loglet.operations t) ≡ true → Waits m t → IsUndecidedAt w.loglet t
undecided_whole room es held marks m w t e can waits = subst (λ (v : LogletView). IsUndecidedAt v t) (shows room es held marks m w e) (waits_undecided room es held marks m t (open_whole room es held marks m w t e can) waits)

-- ---- Begin

pub begun_small : (room : ℕ) (es : List Entry) (held : Held) (marks : Marks) (m : PendingMap) → IsWhole room es held marks m → (marks.begun + 1 < 2 ^ 64) × (marks.seals + 1 < 2 ^ 64)
begun_small room es held marks m h =
    let s = whole_sound room es held marks m h in
    (omega (arith, s.begun), omega (arith, s.seals, s.begun))

pub full_whole : (room : ℕ) (es : List Entry) (held : Held) (marks marks' : Marks) (m : PendingMap) (op : Op) → IsWhole room es held marks m → ((IsAppend op × (length es ≡ room)) ⊎ (marks.begun ≡ 2 ^ 62)) → marks' ≡ record marks { refusals = min (marks.refusals + 1) (2 ^ 64 - 1) }
    → IsFull (loglet_of room es held marks m) op × (loglet_of room es held marks' m ≡ record (loglet_of room es held marks m) { faults = bumped (counted held.disk.faults marks.refusals) })
full_whole room es held marks marks' m op h full em =
    let l = lies room es held marks m h in
    refuses room es held marks marks' m op (omega (arith, l.cut, l.reach, l.firm, l.stored)) full em

pub begins_whole : (room : ℕ) (es : List Entry) (held : Held) (marks marks' : Marks) (m : PendingMap) (op : Op) (es' : List Entry) (n : PendingMap) (task : Task) (size : ℕ) (shut : Bool) (faults down : ℕ) → IsWhole room es held marks m
    → ¬ ((IsAppend op × (size ≡ room)) ⊎ (marks.begun ≡ 2 ^ 62)) → size ≡ length es → task ≡ task_of op → shut ≡ is_sealed held.server → faults ≡ counted held.disk.faults marks.refusals → down ≡ down_of held.server.up
    → marks' ≡ record marks { cut = cut_by op marks.cut marks.reach; begun = marks.begun + 1; seals = marks.seals + seals_of op } → es' ≡ es ++ entries_of op
    → Updates nat_eq m n marks.begun (Some (record { task = task; size = size; reach = marks.reach; firm = marks.firm; shut = shut; faults = faults; down = down; answer = None }))
    → Begins (loglet_of room es held marks m) op marks.begun (loglet_of room es' held marks' n)
begins_whole room es held marks marks' m op es' n task size shut faults down h free esz et esh ef ed em ee u =
    let l = lies room es held marks m h in
    let begun : Task → ℕ → Bool → ℕ → ℕ → Pending = λ a b x f d. record { task = a; size = b; reach = marks.reach; firm = marks.firm; shut = x; faults = f; down = d; answer = None } in
    let same : begun task size shut faults down ≡ begun (task_of op) (length es) (is_sealed held.server) (counted held.disk.faults marks.refusals) (down_of held.server.up) = λ i. begun (et i) (esz i) (esh i) (ef i) (ed i) in
    begins room es held marks marks' m n op es' l.cut (omega (arith, l.reach, l.firm, l.stored)) (λ full. free (elim full [ inl x ↦ inl (x.0, esz ∙ x.1) | inr y ↦ inr y ])) em ee
    (subst (λ (p : Pending). Updates nat_eq m n marks.begun (Some p)) same u)

pub undecided_is_open : (v : LogletView) (t : ℕ) → IsUndecidedAt v t → is_some (operation_at v.operations t) ≡ true
undecided_is_open v t u = ap is_some u.is

-- nothing is answered of an operation that is begun
free_ticket : (x : Option Pending) → ((p : Pending) → x ≡ Some p → ⊥) → x ≡ None
free_ticket None h = refl
free_ticket (Some p) h = absurd (h p refl)

pub counts_begun : (room : ℕ) (es : List Entry) (held : Held) (marks marks' : Marks) (m : PendingMap) (es' : List Entry) (n : PendingMap) (w : FileView) (p : Pending) (cut begun seals : ℕ) → file_view room es held marks m ≡ w → IsWhole room es held marks m
    → marks' ≡ record marks { cut = cut; begun = begun; seals = seals } → Updates nat_eq m n marks.begun (Some p) → p.answer ≡ None
    → (file_view room es' held marks' n ≡ record w { loglet = loglet_of room es' held marks' n; answers = map shown_answer n.entries }) × ((t : ℕ) → answer_at (map shown_answer n.entries) t ≡ answer_at w.answers t)
counts_begun room es held marks marks' m es' n w p cut begun seals e h em up none =
    let free : get nat_eq m marks.begun ≡ None = free_ticket (get nat_eq m marks.begun) (λ q at. (let t = ((whole_sound room es held marks m h).operations marks.begun (operation_of q) (shown_at m marks.begun q at)).ticket in omega (arith, t))) in
    subst (λ (v : FileView). (file_view room es' held marks' n ≡ record v { loglet = loglet_of room es' held marks' n; answers = map shown_answer n.entries }) × ((t : ℕ) → answer_at (map shown_answer n.entries) t ≡ answer_at v.answers t)) e (
      subst (λ (x : Marks). file_view room es' held x n ≡ record (file_view room es held marks m) { loglet = loglet_of room es' held x n; answers = map shown_answer n.entries }) (sym em) refl,
      adds_no_answer m n marks.begun p free none up,
    )
