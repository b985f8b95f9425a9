-- An operation begins, or there is no room.
use Rattle.std.proofs.Common.{◌≡◌, ℕ, zero, suc, ◌+◌, ◌-◌, ◌^◌, ◌<◌, ◌≤◌, Bool, true, false, cond, refl, sym, ◌∙◌, ap, subst, arith, List, [], ◌∷◌, ◌++◌, length, get_or, drop, Option, Some, None, inl, inr, min, length-append}
use Rattle.std.specs.Prelude.{◌⊎◌, ◌&&◌, ◌==◌}
use Rattle.native_loglet.specs.Natives.{UpdatesAt}
use Rattle.std.proofs.lemmas.Bool.{false≢true, and_parts, and_from, or_cases, or_left, or_right, eqb-true, eq-eqb}
use Rattle.std.proofs.lemmas.List.{append-nil, drop-drop, drop-append-le}
use Rattle.std.proofs.lemmas.List.Sums.{sum_by-append}
use Rattle.delos_types.specs.declared.entry.Entry.{Entry}
use Rattle.loglet_api.specs.declared.call.Op.{Op}
use Rattle.loglet_api.specs.declared.call.Op.TheVariants.{Append, Settle, Tail, Seal, Read, Trim}
use Rattle.loglet_api.specs.declared.call.Refused.TheVariants.{Full}
use Rattle.loglet_api.specs.declared.call.LogletCall.TheVariants.{Begin as CallBegin}
use Rattle.loglet_api.specs.declared.call.LogletAnswer.TheVariants.{Begun, Refusal}
use Rattle.loglet_api.specs.View.{LogletView}
use Rattle.loglet_api.specs.Sound.{IsSound}
use Rattle.loglet_api.specs.Step.{LogletStep, CanCall, CanBegin, IsAppend, entries_of, cut_by, seals_of}
use Rattle.quorum_cell.specs.declared.operation.Aim.{Aim}
use Rattle.quorum_cell.specs.declared.operation.CellStep.TheVariants.{Begin}
use Rattle.quorum_cell.specs.Servers.{Server}
use Rattle.quorum_cell.specs.Cells.{Cell, Operation, operation, no_server, no_operation, is_seal, is_lack, seals, lacks}
use Rattle.quorum_cell.specs.Steps.{is_append, is_full, entries_after, cut_after, wanted, begun, admit, begin, with_fault}
use Rattle.quorum_cell.proofs.Lawful.{step_lawful}
use Rattle.quorum_cell.proofs.Steps.{cut_within}
use Rattle.quorum_cell.proofs.Runs.{step_later}
use Rattle.cell_views.specs.Views.{IsManner, BringsSpelled, counted, op_of}
use Rattle.cell_views.proofs.Calls.{spelled_after}
use Rattle.cell_views.proofs.Sounds.{open_known}
use Rattle.log_server.specs.View.{View}
use Rattle.native_plan.specs.declared.member.Member.{Member}
use Rattle.native_plan.specs.declared.pending.Pending.{Pending}
use Rattle.native_plan.specs.declared.pending.Start.{Start}
use Rattle.native_plan.specs.Members.{no_member}
use Rattle.native_plan.specs.Pendings.{Begins}
use Rattle.native_ties.specs.Parts.{IsPartOf, StartsIn, AreKnown}
use Rattle.native_ties.proofs.Beginning.{begins}
use Rattle.native_ties.proofs.Parts.{part_later}
use Rattle.native_loglet.specs.declared.marks.Marks.{Marks}
use Rattle.native_loglet.specs.Faults.{faults_after}
use Rattle.native_loglet.specs.Steps.{aim_of, Reaches}
use Rattle.native_loglet.specs.Natives.{Native, PendingList, down_in, shut_in, look_in, loglet_of, manner_of, IsOpenAs, IsCellOf}
use Rattle.native_loglet.specs.Moving.{Has, AreOf, BeginsOn}
use Rattle.native_loglet.specs.Opening.{wanted_for}
use Rattle.native_loglet.proofs.Viewing.{FitsLeft, fits_own, manner_is, servers_many, size_is, down_is, shut_is, manner_with}
use Rattle.native_loglet.proofs.Mails.{strays_stay}
use Rattle.native_loglet.proofs.Extending.{run_extends}
use Rattle.native_loglet.proofs.Stepping.{tied_sound, call_of, not_at, others_open}
use Rattle.native_loglet.proofs.Alike.{IsOwned, entries_small}

---- what it is in the cell

op_same : (op : Op) → op_of (aim_of op) ≡ op
op_same (Append e) = refl
op_same (Settle n) = refl
op_same Tail = refl
op_same Seal = refl
op_same (Read p) = refl
op_same (Trim n) = refl

brings : (op : Op) → CanBegin op → BringsSpelled (Begin (aim_of op))
brings (Append e) h = h
brings (Settle n) h = tt
brings Tail h = tt
brings Seal h = tt
brings (Read p) h = tt
brings (Trim n) h = tt

appends : (op : Op) → IsAppend op → is_append (aim_of op) ≡ true
appends (Append e) h = refl
appends (Settle n) h = absurd h
appends Tail h = absurd h
appends Seal h = absurd h
appends (Read p) h = absurd h
appends (Trim n) h = absurd h

is_appending : (op : Op) → is_append (aim_of op) ≡ true → IsAppend op
is_appending (Append e) h = tt
is_appending (Settle n) h = absurd (false≢true h)
is_appending Tail h = absurd (false≢true h)
is_appending Seal h = absurd (false≢true h)
is_appending (Read p) h = absurd (false≢true h)
is_appending (Trim n) h = absurd (false≢true h)

-- there is no room for it, in the loglet's numbers
abbrev pub IsFullFor : Native → Op → Type 0
IsFullFor a op = (IsAppend op × (a.marks.cut + length a.entries ≡ a.room)) ⊎ (a.marks.begun ≡ 2 ^ 62)

full_in : (a : Native) (c : Cell) (op : Op) → IsCellOf a c → IsFullFor a op → is_full c (aim_of op) ≡ true
full_in a c op h (inl x) = or_left _ _ (and_from _ _ (appends op x.0) (eq-eqb _ _ (size_is a c h ∙ x.1 ∙ sym h.room)))
full_in a c op h (inr x) = or_right _ _ (eq-eqb _ _ (h.begun ∙ x ∙ sym h.limit))

full_out : (a : Native) (c : Cell) (op : Op) → IsCellOf a c → is_full c (aim_of op) ≡ true → IsFullFor a op
full_out a c op h e = by (or_cases _ _ e)
  where
    by : ((is_append (aim_of op) && (length c.entries == c.room)) ≡ true) ⊎ ((length c.operations == c.limit) ≡ true) → IsFullFor a op
    by (inl x) = (let parts : (is_append (aim_of op) ≡ true) × ((length c.entries == c.room) ≡ true) = and_parts _ _ x in inl (is_appending op parts.0, sym (size_is a c h) ∙ eqb-true _ _ parts.1 ∙ h.room))
    by (inr x) = inr (sym h.begun ∙ eqb-true _ _ x ∙ h.limit)

not_full_in : (a : Native) (c : Cell) (op : Op) → IsCellOf a c → (IsFullFor a op → ⊥) → is_full c (aim_of op) ≡ false
not_full_in a c op h space = by (is_full c (aim_of op)) refl
  where
    by : (b : Bool) → is_full c (aim_of op) ≡ b → b ≡ false
    by true e = absurd (space (full_out a c op h e))
    by false e = refl

begins_full : (c : Cell) (aim : Aim) → is_full c aim ≡ true → begin c aim ≡ with_fault c (length c.servers)
begins_full c aim h = rw h refl

begins_as : (c : Cell) (aim : Aim) → is_full c aim ≡ false → begin c aim ≡ admit c aim
begins_as c aim h = rw h refl

---- no room

-- the loglet after a refusal
abbrev pub refused_by : Native → Native
refused_by a = record a { marks = record a.marks { faults = min (a.marks.faults + 1) (2 ^ 64 - 1) } }

refused_tied : (a : Native) (c : Cell) (op : Op) → IsCellOf a c → CanBegin op → is_full c (aim_of op) ≡ true → IsCellOf (refused_by a) (begin c (aim_of op))
refused_tied a c op h can full = record {
  lawful = step_lawful c (Begin (aim_of op)) h.lawful;
  spelled = spelled_after c (Begin (aim_of op)) h.spelled (brings op can);
  odd = (h.odd.0, ap (λ (d : Cell). length d.servers) is ∙ h.odd.1);
  few = omega (arith, h.few, ap (λ (d : Cell). length d.servers) is);
  room = ap (λ (d : Cell). d.room) is ∙ h.room;
  limit = ap (λ (d : Cell). d.limit) is ∙ h.limit;
  entries = ap (λ (d : Cell). drop d.cut d.entries) is ∙ h.entries;
  servers = ap (λ (d : Cell). d.servers) is ∙ h.servers;
  cut = ap (λ (d : Cell). d.cut) is ∙ h.cut;
  reach = ap (λ (d : Cell). d.reach) is ∙ h.reach;
  firm = ap (λ (d : Cell). d.firm) is ∙ h.firm;
  cap = ap (λ (d : Cell). d.cap) is ∙ h.cap;
  faults = ap (λ (d : Cell). counted (length d.faults)) is ∙ more ∙ ap (faults_after true) h.faults;
  begun = ap (λ (d : Cell). length d.operations) is ∙ h.begun;
  seals_are = ap seals is ∙ h.seals_are;
  lacks_are = ap lacks is ∙ h.lacks_are;
  operations = λ q. still q (look_in a.pending q) (h.operations q);
  strays = strays_stay a c (begin c (aim_of op)) h (step_later c (Begin (aim_of op))) (run_extends (Begin (aim_of op) ∷ []) c);
}
  where
    is : begin c (aim_of op) ≡ with_fault c (length c.servers)
    is = begins_full c (aim_of op) full

    more : counted (length (c.faults ++ length c.servers ∷ [])) ≡ min (counted (length c.faults) + 1) (2 ^ 64 - 1)
    more = omega (arith, length-append c.faults (length c.servers ∷ []))

    still : (q : ℕ) (z : Option Pending) → IsOpenAs c q z → IsOpenAs (begin c (aim_of op)) q z
    still q None o = ap (λ (d : Cell). (operation d q).closed) is ∙ o
    still q (Some p) o = part_later c (begin c (aim_of op)) q p (step_later c (Begin (aim_of op))) (run_extends (Begin (aim_of op) ∷ []) c) (ap (λ (d : Cell). operation d q) is) o

pub refuses_owned : (a : Native) (v : LogletView) (op : Op) → loglet_of a ≡ v → IsOwned a → CanCall v (CallBegin op) → IsFullFor a op → IsOwned (refused_by a) × LogletStep v (CallBegin op) (Refusal Full) (loglet_of (refused_by a))
refuses_owned a v op e h can full =
    let c : Cell = h.0 in
    let is : is_full c (aim_of op) ≡ true = full_in a c op h.1 full in
    let tied : IsCellOf (refused_by a) (begin c (aim_of op)) = refused_tied a c op h.1 can is in
    ((begin c (aim_of op), tied), call_of a (refused_by a) c (Begin (aim_of op)) v (CallBegin op) (Refusal Full) e h.1 tied (brings op can) refl (manner_of a).left (fits_own a) (fits_own a) (manner_is a c h.1) (rw (is, op_same op) refl))

pub refuses_in : (a : Native) (op : Op) (c : Cell) → IsCellOf a c → CanBegin op → IsFullFor a op → Reaches a c (CallBegin op) (Refusal Full) (refused_by a)
refuses_in a op c h can full = record { steps = Begin (aim_of op) ∷ []; are = refl; cell = refused_tied a c op h can (full_in a c op h full) }

---- it begins

cut_same : (c : Cell) (op : Op) → cut_after c (aim_of op) ≡ cut_by op c.cut c.reach
cut_same c (Append e) = refl
cut_same c (Settle n) = refl
cut_same c Tail = refl
cut_same c Seal = refl
cut_same c (Read p) = refl
cut_same c (Trim n) = refl

entries_same : (c : Cell) (op : Op) → entries_after c (aim_of op) ≡ c.entries ++ entries_of op
entries_same c (Append e) = refl
entries_same c (Settle n) = sym (append-nil c.entries)
entries_same c Tail = sym (append-nil c.entries)
entries_same c Seal = sym (append-nil c.entries)
entries_same c (Read p) = sym (append-nil c.entries)
entries_same c (Trim n) = sym (append-nil c.entries)

seals_same : (op : Op) → cond (is_seal (aim_of op)) 1 0 ≡ seals_of op
seals_same (Append e) = refl
seals_same (Settle n) = refl
seals_same Tail = refl
seals_same Seal = refl
seals_same (Read p) = refl
seals_same (Trim n) = refl

wanted_same : (c : Cell) (op : Op) → wanted_for op (length c.entries) (cut_after c (aim_of op)) ≡ wanted c (aim_of op)
wanted_same c (Append e) = refl
wanted_same c (Settle n) = refl
wanted_same c Tail = refl
wanted_same c Seal = refl
wanted_same c (Read p) = refl
wanted_same c (Trim n) = refl

-- the entries that are kept then: with that of an Append, and from where a Trim cuts
abbrev pub begun_entries : Native → Op → List Entry
begun_entries a op = drop (cut_by op a.marks.cut a.marks.reach - a.marks.cut) (a.entries ++ entries_of op)

cut_grows : (op : Op) (cut reach : ℕ) → cut ≤ cut_by op cut reach
cut_grows (Append e) cut reach = omega arith
cut_grows (Settle n) cut reach = omega arith
cut_grows Tail cut reach = omega arith
cut_grows Seal cut reach = omega arith
cut_grows (Read p) cut reach = omega arith
cut_grows (Trim n) cut reach = omega arith

-- the code's numbers of what is let go
pub cut_rises : (op : Op) (old new : Marks) → new.cut ≡ cut_by op old.cut old.reach → old.cut ≤ new.cut
cut_rises op old new is = omega (arith, is, cut_grows op old.cut old.reach)

kept_on : (xs ys : List Entry) (old new : ℕ) → old ≤ new → old ≤ length xs → drop new (xs ++ ys) ≡ drop (new - old) (drop old xs ++ ys)
kept_on xs ys old new l within =
    let sum : old + (new - old) ≡ new = omega (arith, l) in
    ap (λ n. drop n (xs ++ ys)) (sym sum) ∙ sym (drop-drop (new - old) old (xs ++ ys)) ∙ ap (drop (new - old)) (drop-append-le old xs ys within)

-- the loglet after an operation began
abbrev pub begun_to : Native → Op → PendingList → Native
begun_to a op n = record a { entries = begun_entries a op; pending = n; marks = record a.marks { cut = cut_by op a.marks.cut a.marks.reach; begun = a.marks.begun + 1; seals = a.marks.seals + seals_of op } }

-- what an operation notes of the loglet as it begins
abbrev pub start_of : Native → Op → Start
start_of a op = record { size = a.marks.cut + length a.entries; reach = a.marks.reach; firm = a.marks.firm; shut = shut_in a.replicas; faults = a.marks.faults; down = down_in a.replicas; want = wanted_for op (a.marks.cut + length a.entries) (cut_by op a.marks.cut a.marks.reach) }

cut_is : (a : Native) (c : Cell) (op : Op) → IsCellOf a c → cut_by op a.marks.cut a.marks.reach ≡ cut_after c (aim_of op)
cut_is a c op h = sym (cut_same c op ∙ ap (λ k. cut_by op k c.reach) h.cut ∙ ap (cut_by op a.marks.cut) h.reach)

begun_kept : (a : Native) (c : Cell) (op : Op) → IsCellOf a c → drop (cut_after c (aim_of op)) (entries_after c (aim_of op)) ≡ begun_entries a op
begun_kept a c op h =
    let within : c.cut ≤ length c.entries = cut_within c h.lawful.law.quorum in
    let grows : c.cut ≤ cut_after c (aim_of op) = omega (arith, cut_same c op, cut_grows op c.cut c.reach) in
    let count : cut_after c (aim_of op) - c.cut ≡ cut_by op a.marks.cut a.marks.reach - a.marks.cut = omega (arith, cut_is a c op h, h.cut) in
    ap (drop (cut_after c (aim_of op))) (entries_same c op) ∙ kept_on c.entries (entries_of op) c.cut (cut_after c (aim_of op)) grows within
    ∙ ap (λ (es : List Entry). drop (cut_after c (aim_of op) - c.cut) (es ++ entries_of op)) h.entries ∙ ap (λ n. drop n (a.entries ++ entries_of op)) count

-- what the code lets go
pub let_go_kept : (a : Native) (op : Op) (added kept : List Entry) (marks : Marks) → marks ≡ record a.marks { cut = cut_by op a.marks.cut a.marks.reach; begun = a.marks.begun + 1; seals = a.marks.seals + seals_of op } → added ≡ a.entries ++ entries_of op → kept ≡ drop (marks.cut - a.marks.cut) added → kept ≡ begun_entries a op
let_go_kept a op added kept marks is add go = go ∙ ap (drop (marks.cut - a.marks.cut)) add ∙ ap (λ (m : Marks). drop (m.cut - a.marks.cut) (a.entries ++ entries_of op)) is

starts_in : (a : Native) (c : Cell) (op : Op) → IsCellOf a c → StartsIn c (aim_of op) (start_of a op)
starts_in a c op h = record {
  size = sym (size_is a c h);
  reach = sym h.reach;
  firm = sym h.firm;
  shut = shut_is a c h;
  faults = sym h.faults;
  down = down_is a c h;
  want = ap (wanted_for op (a.marks.cut + length a.entries)) (cut_is a c op h) ∙ ap (λ n. wanted_for op n (cut_after c (aim_of op))) (sym (size_is a c h)) ∙ wanted_same c op;
}

are_known : (a : Native) (c : Cell) (ms : List Member) → IsCellOf a c → AreOf a.replicas ms → AreKnown c ms
are_known a c ms h k = record {
  all = k.all ∙ servers_many a c h;
  each = λ i here. subst (λ (s : Server). Has s (get_or ms i no_member)) (ap (λ (ss : List Server). get_or ss i no_server) (sym h.servers)) (k.each i (omega (arith, here, servers_many a c h)));
}

part_begun : (a : Native) (c : Cell) (op : Op) (p : Pending) → IsCellOf a c → BeginsOn a.replicas op (start_of a op) (cut_by op a.marks.cut a.marks.reach) p → IsPartOf (admit c (aim_of op)) (length c.operations) p
part_begun a c op p h b =
    let in_cell : Begins (op_of (aim_of op)) (start_of a op) (cut_after c (aim_of op)) b.known p = subst (λ k. Begins (op_of (aim_of op)) (start_of a op) k b.known p) (cut_is a c op h) (subst (λ (o : Op). Begins o (start_of a op) (cut_by op a.marks.cut a.marks.reach) b.known p) (sym (op_same op)) b.begins) in
    begins c (aim_of op) (start_of a op) b.known h.lawful.law.quorum h.odd.0 h.odd.1 h.few (starts_in a c op h) (are_known a c b.known h b.are) p in_cell

pushed_else : (os : List Operation) (o : Operation) (q : ℕ) → (q ≡ length os → ⊥) → get_or (os ++ o ∷ []) q no_operation ≡ get_or os q no_operation
pushed_else [] o zero h = absurd (h refl)
pushed_else [] o (suc q) h = refl
pushed_else (x ∷ os) o zero h = refl
pushed_else (x ∷ os) o (suc q) h = pushed_else os o q (λ e. h (omega (arith, e)))

begun_tied : (a : Native) (c : Cell) (op : Op) (p : Pending) (n : PendingList) → IsCellOf a c → CanBegin op → is_full c (aim_of op) ≡ false → BeginsOn a.replicas op (start_of a op) (cut_by op a.marks.cut a.marks.reach) p
    → UpdatesAt a.pending n a.marks.begun (Some p) → IsCellOf (begun_to a op n) (begin c (aim_of op))
begun_tied a c op p n h can space b u = record {
  lawful = step_lawful c (Begin (aim_of op)) h.lawful;
  spelled = spelled_after c (Begin (aim_of op)) h.spelled (brings op can);
  odd = (h.odd.0, ap (λ (d : Cell). length d.servers) is ∙ h.odd.1);
  few = omega (arith, h.few, ap (λ (d : Cell). length d.servers) is);
  room = ap (λ (d : Cell). d.room) is ∙ h.room;
  limit = ap (λ (d : Cell). d.limit) is ∙ h.limit;
  entries = ap (λ (d : Cell). drop d.cut d.entries) is ∙ begun_kept a c op h;
  servers = ap (λ (d : Cell). d.servers) is ∙ h.servers;
  cut = ap (λ (d : Cell). d.cut) is ∙ sym (cut_is a c op h);
  reach = ap (λ (d : Cell). d.reach) is ∙ h.reach;
  firm = ap (λ (d : Cell). d.firm) is ∙ h.firm;
  cap = ap (λ (d : Cell). d.cap) is ∙ h.cap;
  faults = ap (λ (d : Cell). counted (length d.faults)) is ∙ h.faults;
  begun = ap (λ (d : Cell). length d.operations) is ∙ more ∙ ap (λ k. k + 1) h.begun;
  seals_are = ap seals is ∙ sealing ∙ ap (λ k. k + seals_of op) h.seals_are;
  lacks_are = ap lacks is ∙ lacking ∙ h.lacks_are;
  operations = others_open a (begun_to a op n) c (begin c (aim_of op)) a.marks.begun h (step_later c (Begin (aim_of op))) (run_extends (Begin (aim_of op) ∷ []) c) others (λ q other. u.2 q (not_at a.marks.begun q other)) here;
  strays = strays_stay a c (begin c (aim_of op)) h (step_later c (Begin (aim_of op))) (run_extends (Begin (aim_of op) ∷ []) c);
}
  where
    is : begin c (aim_of op) ≡ admit c (aim_of op)
    is = begins_as c (aim_of op) space

    more : length (c.operations ++ begun c (aim_of op) ∷ []) ≡ length c.operations + 1
    more = omega (arith, length-append c.operations (begun c (aim_of op) ∷ []))

    sealing : seals (admit c (aim_of op)) ≡ seals c + seals_of op
    sealing = omega (arith, seals_same op, sum_by-append (λ (x : Operation). cond (is_seal x.aim) 1 0) c.operations (begun c (aim_of op) ∷ []))

    lacking : lacks (admit c (aim_of op)) ≡ lacks c
    lacking = omega (arith, sum_by-append (λ (x : Operation). cond (is_lack x.given) 1 0) c.operations (begun c (aim_of op) ∷ []))

    others : (q : ℕ) → (q ≡ a.marks.begun → ⊥) → operation (begin c (aim_of op)) q ≡ operation c q
    others q other = ap (λ (d : Cell). operation d q) is ∙ pushed_else c.operations (begun c (aim_of op)) q (λ e. other (e ∙ h.begun))

    here : IsOpenAs (begin c (aim_of op)) a.marks.begun (look_in n a.marks.begun)
    here = subst (IsOpenAs (begin c (aim_of op)) a.marks.begun) (sym u.1) (subst (λ (d : Cell). IsPartOf d a.marks.begun p) (sym is) (subst (λ k. IsPartOf (admit c (aim_of op)) k p) h.begun (part_begun a c op p h b)))

-- what is left of those that were open before is what it was
fits_before : (a : Native) (c : Cell) (op : Op) (p : Pending) (n : PendingList) → IsCellOf a c → UpdatesAt a.pending n a.marks.begun (Some p) → FitsLeft (manner_of (begun_to a op n)).left a.pending
fits_before a c op p n h u q z is waiting = fits_own (begun_to a op n) q z (u.2 q (not_at a.marks.begun q other) ∙ is) waiting
  where
    part : IsPartOf c q z
    part = subst (IsOpenAs c q) is (h.operations q)

    other : q ≡ a.marks.begun → ⊥
    other e = (let known : q < length c.operations = open_known c q part.shows.is_open in omega (arith, known, h.begun, e))

pub begins_owned : (a : Native) (v : LogletView) (op : Op) (p : Pending) (n : PendingList) → loglet_of a ≡ v → IsOwned a → CanCall v (CallBegin op) → (IsFullFor a op → ⊥) → BeginsOn a.replicas op (start_of a op) (cut_by op a.marks.cut a.marks.reach) p
    → UpdatesAt a.pending n a.marks.begun (Some p) → IsOwned (begun_to a op n) × LogletStep v (CallBegin op) (Begun a.marks.begun) (loglet_of (begun_to a op n))
begins_owned a v op p n e h can space b u =
    let c : Cell = h.0 in
    let free : is_full c (aim_of op) ≡ false = not_full_in a c op h.1 space in
    let tied : IsCellOf (begun_to a op n) (begin c (aim_of op)) = begun_tied a c op p n h.1 can free b u in
    let left : ℕ → ℕ × ℕ = (manner_of (begun_to a op n)).left in
    let servers : length (begin c (aim_of op)).servers ≡ length c.servers = ap (λ (d : Cell). length d.servers) (begins_as c (aim_of op) free) in
    let manner : IsManner (length c.servers) (manner_with a left) = subst (λ k. IsManner k (manner_with a left)) servers (manner_is (begun_to a op n) (begin c (aim_of op)) tied) in
    ((begin c (aim_of op), tied), call_of a (begun_to a op n) c (Begin (aim_of op)) v (CallBegin op) (Begun a.marks.begun) e h.1 tied (brings op can) refl left (fits_before a c op p n h.1 u) (fits_own (begun_to a op n)) manner (rw (free, op_same op, h.1.begun) refl))

pub begins_in : (a : Native) (op : Op) (p : Pending) (n : PendingList) (c : Cell) → IsCellOf a c → CanBegin op → (IsFullFor a op → ⊥) → BeginsOn a.replicas op (start_of a op) (cut_by op a.marks.cut a.marks.reach) p
    → UpdatesAt a.pending n a.marks.begun (Some p) → Reaches a c (CallBegin op) (Begun a.marks.begun) (begun_to a op n)
begins_in a op p n c h can space b u = record { steps = Begin (aim_of op) ∷ []; are = refl; cell = begun_tied a c op p n h can (not_full_in a c op h space) b u }

---- the counts fit words

pub begun_small : (a : Native) (op : Op) → IsOwned a → (IsFullFor a op → ⊥) → (a.marks.begun + 1 < 2 ^ 64) × (a.marks.seals + 1 < 2 ^ 64) × (a.marks.cut + length a.entries + 1 < 2 ^ 64)
begun_small a op h space =
    let s : IsSound (loglet_of a) = tied_sound a h.0 h.1 in
    let begun_few : a.marks.begun ≤ 2 ^ 62 = s.begun in
    let seals_few : a.marks.seals ≤ a.marks.begun = s.seals in
    let few : a.marks.cut + length a.entries ≤ 2 ^ 32 = entries_small a h in
    (omega (arith, begun_few), omega (arith, begun_few, seals_few), omega (arith, few))

-- the code's test for room
pub full_of : (a : Native) (op : Op) (size : ℕ) → size ≡ a.marks.cut + length a.entries → (IsAppend op × (size ≡ a.room)) ⊎ (a.marks.begun ≡ 2 ^ 62) → IsFullFor a op
full_of a op size e (inl x) = inl (x.0, sym e ∙ x.1)
full_of a op size e (inr x) = inr x

pub space_of : (a : Native) (op : Op) (size : ℕ) → size ≡ a.marks.cut + length a.entries → ((IsAppend op × (size ≡ a.room)) ⊎ (a.marks.begun ≡ 2 ^ 62) → ⊥) → IsFullFor a op → ⊥
space_of a op size e space (inl x) = space (inl (x.0, e ∙ x.1))
space_of a op size e space (inr x) = space (inr x)

-- an operation that notes these numbers notes the loglet's
pub begun_on : (a : Native) (op : Op) (size cut : ℕ) (vs : List View) (p : Pending) → size ≡ a.marks.cut + length a.entries → cut ≡ cut_by op a.marks.cut a.marks.reach → vs ≡ a.replicas
    → BeginsOn vs op (record { size = size; reach = a.marks.reach; firm = a.marks.firm; shut = shut_in vs; faults = a.marks.faults; down = down_in vs; want = wanted_for op size cut }) cut p → BeginsOn a.replicas op (start_of a op) (cut_by op a.marks.cut a.marks.reach) p
begun_on a op size cut vs p sizes cuts same b =
    let by_servers : BeginsOn a.replicas op (record { size = size; reach = a.marks.reach; firm = a.marks.firm; shut = shut_in a.replicas; faults = a.marks.faults; down = down_in a.replicas; want = wanted_for op size cut }) cut p =
    subst (λ (ws : List View). BeginsOn ws op (record { size = size; reach = a.marks.reach; firm = a.marks.firm; shut = shut_in ws; faults = a.marks.faults; down = down_in ws; want = wanted_for op size cut }) cut p) same b in
    let by_size : BeginsOn a.replicas op (record { size = a.marks.cut + length a.entries; reach = a.marks.reach; firm = a.marks.firm; shut = shut_in a.replicas; faults = a.marks.faults; down = down_in a.replicas; want = wanted_for op (a.marks.cut + length a.entries) cut }) cut p =
    subst (λ (n : ℕ). BeginsOn a.replicas op (record { size = n; reach = a.marks.reach; firm = a.marks.firm; shut = shut_in a.replicas; faults = a.marks.faults; down = down_in a.replicas; want = wanted_for op n cut }) cut p) sizes by_servers in
    subst (λ (n : ℕ). BeginsOn a.replicas op (record { size = a.marks.cut + length a.entries; reach = a.marks.reach; firm = a.marks.firm; shut = shut_in a.replicas; faults = a.marks.faults; down = down_in a.replicas; want = wanted_for op (a.marks.cut + length a.entries) n }) n p) cuts by_size
