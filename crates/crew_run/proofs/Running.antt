-- What a run tells of the yard that comes back, and what its lines may send.
use Rattle.std.proofs.Common.{◌≡◌, refl, sym, ap, ◌∙◌, subst, ℕ, zero, suc, ◌+◌, ◌-◌, ◌<◌, ◌≤◌, ◌^◌, List, [], ◌∷◌, Option, Some, length, map, get_or, ◌⊎◌, arith, inl, inr, slice_index_or}
use Rattle.std.specs.Prelude.{slice_get, take, option_map, Result, Ok, Err, IfOk, None}
use Rattle.std.specs.List.{AllByRecursion}
use Rattle.std.proofs.lemmas.Bool.{cases_lt}
use Rattle.std.proofs.lemmas.List.{length-map}
use Rattle.std.proofs.lemmas.List.Sums.{count_by-le-length}
use Rattle.std.proofs.lemmas.Option.{slice_get-map, get_or_from_slice_get}
use Rattle.delos_types.specs.declared.chain.Segment.{Segment}
use Rattle.delos_types.specs.declared.chain.Chain.{Chain}
use Rattle.loglet_api.specs.View.{LogletView}
use Rattle.register_api.specs.View.{RegisterView}
use Rattle.table_core.specs.declared.command.Command.{Command}
use Rattle.table_core.specs.Spelling.{IsSpellable, command_length}
use Rattle.legal_journal.specs.Law.{Law}
use Rattle.legal_journal.specs.declared.events.Event.{Event}
use Rattle.legal_journal.specs.Journal.{IsLegal, state_of}
use Rattle.legal_journal.proofs.Log.{HasStart}
use Rattle.legal_journal.proofs.Sound.{current}
use Rattle.legal_journal.proofs.Legal.{sound}
use Rattle.engine_api.specs.Packing.{packed, session_item, alive_item, leave_item, trim_item}
use Rattle.replica_api.specs.Replica.{ReplicaView}
use Rattle.script_text.specs.declared.asks.NamedLine.{NamedLine}
use Rattle.script_text.specs.declared.faults.FaultLine.{FaultLine}
use Rattle.script_text.specs.declared.asks.Asks.{Asks}
use Rattle.script_text.specs.declared.asks.Asks.TheVariants as asks
use Rattle.script_text.specs.declared.line.Admin.TheVariants.{Extend, Alive, Retire, Trim}
use Rattle.script_text.specs.declared.line.Session.{Session}
use Rattle.fitting_run.specs.Lines.{CanLog}
use Rattle.fitting_run.specs.Faults.{disk_faults}
use Rattle.fitting_run.specs.Yard.{Shown}
use Rattle.fitting_run.specs.declared.told.Told.{Told}
use Rattle.run_laws.specs.Ended.{IsAtHome, session_in}
use Rattle.node_course.specs.Script.{AreLines, logs_at, asked_by}
use Rattle.node_course.specs.Workers.{CanSend}
use Rattle.node_course.proofs.Lines.{at_get, rank_is}
use Rattle.node_crew.specs.Turns.{MaySendAll}
use Rattle.run_ends.specs.Rules.{may_of}
use Rattle.turn_scopes.specs.Seats.{SeatView}
use Rattle.node_lines.specs.declared.desk.Desk.{Desk}
use Rattle.node_lines.specs.Workers.{IsHome}
use Rattle.run_ends.specs.Closing.{WorkerEnd, IsGivenBack}
use Rattle.crew_making.specs.Apart.{AreAsTold}
use Rattle.crew_run.specs.Acting.{HasActed, WasActedOn}
use Rattle.crew_run.specs.Telling.{FitsGivenBack}
use Rattle.crew_run.specs.Running.{RunTold}

-- The chain's segments are loglets of the shelf

ids_low : (starts : ℕ → Option ℕ) (cells : ℕ) → ((i s : ℕ) → starts i ≡ Some s → i < cells) → (ss : List Segment) → ((i s : ℕ) → HasStart ss i s → starts i ≡ Some s)
    → (k : ℕ) (d : Segment) → k < length ss → (slice_index_or ss k d).id < cells
ids_low starts cells low [] h k d lt = absurd (omega (arith, lt))
ids_low starts cells low (x ∷ xs) h zero d lt = low x.id x.start (h x.id x.start (inl (refl, refl)))
ids_low starts cells low (x ∷ xs) h (suc k) d lt = ids_low starts cells low xs (λ i s at. h i s (inr at)) k d (omega (arith, lt))

pub shelved : (law : Law) (journal : List Event) → IsLegal law journal
    → (k : ℕ) (d : Segment) → k < length (state_of journal).register.chain.segments → (slice_index_or (state_of journal).register.chain.segments k d).id < length law.shelf
shelved law journal legal =
    let w = state_of journal in
    let ok = sound law journal legal in
    ids_low w.starts (length law.shelf) (λ i s at. omega (arith, ok.ids i s at, ok.shelf)) w.register.chain.segments (current (length law.shelf) w ok).start

-- Each node's disk counted its replica's faults

pub disks_counted : {A B : Type 0} (f : A → ReplicaView) (g : B → ReplicaView) (nodes : List A) (workers : List B) (j : ℕ) (w : B) → map f nodes ≡ map g workers → slice_get workers j ≡ Some w
    → disk_faults (map (λ n. (f n).faults) nodes) (j + 1) ≡ (g w).faults
disks_counted f g nodes workers j w same at =
    let shows : map (λ n. (f n).faults) nodes ≡ map (λ x. (g x).faults) workers = both f g nodes workers same in
    let there : slice_get (map (λ x. (g x).faults) workers) j ≡ Some (g w).faults = slice_get-map (λ x. (g x).faults) workers j ∙ ap (option_map (λ x. (g x).faults)) at in
    let index : j + 1 - 1 ≡ j = omega arith in
    ap (λ k. get_or (map (λ n. (f n).faults) nodes) k 0) index ∙ (ap (λ l. get_or l j 0) shows ∙ get_or_from_slice_get (map (λ x. (g x).faults) workers) j (g w).faults 0 there)
  where
    one : {C : Type 0} (h : C → ReplicaView) (xs : List C) → map (λ x. (h x).faults) xs ≡ map (λ (v : ReplicaView). v.faults) (map h xs)
    one h [] = refl
    one h (x ∷ xs) = ap (λ l. (h x).faults ∷ l) (one h xs)

    both : {C E : Type 0} (f : C → ReplicaView) (g : E → ReplicaView) (xs : List C) (ys : List E) → map f xs ≡ map g ys → map (λ x. (f x).faults) xs ≡ map (λ y. (g y).faults) ys
    both f g xs ys same = one f xs ∙ (ap (map (λ (v : ReplicaView). v.faults)) same ∙ sym (one g ys))

-- as many are given back as there were
pub as_many : {A B C : Type 0} (f : A → C) (g : B → C) (xs : List A) (ys : List B) → map f xs ≡ map g ys → length xs ≡ length ys
as_many f g xs ys same = sym (length-map xs f) ∙ (ap length same ∙ length-map ys g)

-- Lines may be sent

taken : (k : ℕ) (xs : List NamedLine) → length (take k xs) ≤ length xs
taken zero xs = omega arith
taken (suc k) [] = omega arith
taken (suc k) (x ∷ xs) = let rest = taken k xs in omega (arith, rest)

pub sends_all : (lines : List NamedLine) (home : ℕ → ℕ) (nodes : ℕ) → AreLines lines home nodes → AllByRecursion (λ l. CanLog l.asks) lines
    → ((at : ℕ) (line : NamedLine) (session : Session) (rank : ℕ) (command : Command) → slice_get lines at ≡ Some line → line.asks ≡ asks.Logged session rank command
    → session.id ≤ 63 → 1 ≤ rank → rank < 2 ^ 64 → IsSpellable command → command_length command ≤ 984 → may_of lines line.node (packed line.node (session_item session.id rank command ∷ [])))
    → ((at : ℕ) (line : NamedLine) → slice_get lines at ≡ Some line → line.asks ≡ asks.Admin Alive
    → (position : ℕ) → position < 2 ^ 64 → may_of lines line.node (packed line.node (alive_item line.node position ∷ [])))
    → ((at : ℕ) (line : NamedLine) → slice_get lines at ≡ Some line → line.asks ≡ asks.Admin Retire → may_of lines line.node (packed line.node (leave_item line.node ∷ [])))
    → ((at : ℕ) (line : NamedLine) → slice_get lines at ≡ Some line → line.asks ≡ asks.Admin Trim
    → (position : ℕ) → position < 2 ^ 64 → may_of lines line.node (packed line.node (trim_item position ∷ [])))
    → ((s : ℕ) → IsHome (may_of lines) s (home s))
    → MaySendAll (may_of lines) lines
sends_all lines home nodes are can law report leave trim own i l at = by l.asks refl
  where
    -- the line's session is at its node
    its : (a : Asks) → l.asks ≡ a → IsAtHome home l.node a
    its a is = subst (IsAtHome home l.node) is (at_get (λ (x : NamedLine). IsAtHome home x.node x.asks) lines i l are.at_home at)

    by : (a : Asks) → l.asks ≡ a → CanSend (may_of lines) l.node a
    by (asks.Logged s r c) is =
        let fits : CanLog (asks.Logged s r c) = subst CanLog is (at_get (λ (x : NamedLine). CanLog x.asks) lines i l can at) in
        let known : s.id ≤ 63 = subst (λ a. session_in a ≤ 63) is (at_get (λ (x : NamedLine). session_in x.asks ≤ 63) lines i l are.known at) in
        let rank : r ≡ asked_by lines l.node s.id i + 1 = rank_is lines home nodes are l.node i l s r c at refl is in
        let few = count_by-le-length (logs_at l.node s.id) (take i lines) in
        let short = taken i lines in
        let low : 1 ≤ r = omega (arith, rank) in
        let high : r ≤ 20001 = omega (arith, rank, few, short, are.few) in
        let small : r < 2 ^ 64 = omega (arith, high) in
        (fits.0, fits.1, law i l s r c at is known low small fits.0 fits.1, subst (IsHome (may_of lines) s.id) (sym (its (asks.Logged s r c) is)) (own s.id))
    by (asks.Look s q) is = subst (IsHome (may_of lines) s.id) (sym (its (asks.Look s q) is)) (own s.id)
    by (asks.Admin Extend) is = tt
    by (asks.Admin Alive) is = report i l at is
    by (asks.Admin Retire) is = leave i l at is
    by (asks.Admin Trim) is = trim i l at is

-- All of it

pub if_ok : {A E : Type 0} (P Q : A → Type 0) → ((x : A) → P x → Q x) → (r : Result A E) → IfOk r P → IfOk r Q
if_ok P Q h (Ok x) k = h x k
if_ok P Q h (Err e) k = tt

pub run_told : {A B : Type 0} (law : Law) (lines : List NamedLine) (faults : List FaultLine) (journal : List Event) (seat : B → SeatView) (desks : B → List Desk) (shows : A → ReplicaView) (nodes : List A) (workers : List B) (cells : List LogletView) (register : RegisterView) (o : Told)
    → AreAsTold law journal cells register → map shows nodes ≡ map (λ w. (seat w).node.replica) workers
    → FitsGivenBack law lines faults journal (map (λ w. record { seat = seat w; desks = desks w }) workers) o
    → RunTold lines faults (record { cells = cells; register = register; disks = map (λ n. (shows n).faults) nodes }) o
run_told {A} {B} law lines faults journal seat desks shows nodes workers cells register o told same h =
    let mk : B → WorkerEnd = λ w. record { seat = seat w; desks = desks w } in
    let yard : Shown = record { cells = cells; register = register; disks = map (λ n. (shows n).faults) nodes } in
    let size : length law.shelf ≡ length cells = sym (ap length told.shelf_is) ∙ length-map cells (λ (v : LogletView). v.servers) in
    let back : IsGivenBack law journal (map mk workers) o.chain yard = record {
      legal = told.legal;
      shelf_is = told.shelf_is;
      runs = told.runs;
      register_runs = told.register_runs;
      chain_is = h.chain;
      shows = told.shows;
      tail = told.tail;
      nodes = length-map nodes (λ n. (shows n).faults) ∙ (as_many shows (λ w. (seat w).node.replica) nodes workers same ∙ sym (length-map workers mk));
      disks = λ j e at. counted j e (slice_get workers j) refl (sym (slice_get-map mk workers j) ∙ at);
    } in
    record {
      fits = h.fits yard back told.register_is;
      answered = λ calm. h.calm yard back told.register_is calm;
      whole = λ calm. h.whole yard back told.register_is calm;
      extended = λ calm. h.extended yard back calm;
      shelved = subst (λ (c : Chain). (k : ℕ) (d : Segment) → k < length c.segments → (slice_index_or c.segments k d).id < length cells) (sym h.chain)
          (λ k d lt. let low = shelved law journal told.legal k d lt in omega (arith, low, size));
    }
  where
    counted : (j : ℕ) (e : WorkerEnd) (x : Option B) → slice_get workers j ≡ x → option_map (λ w. record { seat = seat w; desks = desks w }) x ≡ Some e
        → e.seat.node.replica.faults ≤ disk_faults (map (λ n. (shows n).faults) nodes) (j + 1)
    counted j e None at is = absurd (cc)
    counted j e (Some w) at is =
        let end : WorkerEnd = record { seat = seat w; desks = desks w } in
        let one : end ≡ e = cc in
        let there = disks_counted shows (λ w. (seat w).node.replica) nodes workers j w same at in
        let faults = ap (λ (x : WorkerEnd). x.seat.node.replica.faults) one in
        omega (arith, there, faults)

-- what number 0 did, of the loglets that come back
pub was_acted_on : (law : Law) (faults : List FaultLine) (journal : List Event) (cells : List LogletView) (register : RegisterView) → AreAsTold law journal cells register → HasActed (length law.shelf) faults journal → WasActedOn law faults cells register
was_acted_on law faults journal cells register told h =
    let size : length law.shelf ≡ length cells = sym (ap length told.shelf_is) ∙ length-map cells (λ (v : LogletView). v.servers) in
    record { journal = journal; told = told; acts = subst (λ n. HasActed n faults journal) size h }

-- a number below the next one is below this one, or is it
pub below_next : (k i : ℕ) → k < i + 1 → (k < i) ⊎ (k ≡ i)
below_next k i low = elim (cases_lt k i) [
  | inl less ↦ inl less
  | inr more ↦ inr (omega (arith, low, more))
]

-- as many loglets as the rules name, before and after
pub same_shelf : {A : Type 0} (view : A → LogletView) (xs ys : List A) (shelf : List ℕ) → map (λ v. v.servers) (map view xs) ≡ shelf → map (λ v. v.servers) (map view ys) ≡ shelf → length xs ≡ length ys
same_shelf {A} view xs ys shelf a b = sym (counted xs) ∙ (ap length a ∙ (sym (ap length b) ∙ counted ys))
  where
    counted : (zs : List A) → length (map (λ (v : LogletView). v.servers) (map view zs)) ≡ length zs
    counted zs = length-map (map view zs) (λ (v : LogletView). v.servers) ∙ length-map zs view
