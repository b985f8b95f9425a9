-- A run whose nodes have closed has ended.
use Rattle.std.proofs.Common.{◌≡◌, refl, sym, ap, ◌∙◌, subst, ⊎_elim, ◌⊎◌, ℕ, zero, suc, ◌+◌, ◌-◌, ◌<◌, ◌≤◌, ◌==◌, ◌&&◌, true, List, [], ◌∷◌, ◌++◌, Some, None, is_some, map, filter_map, length, take, drop, slice_get, Option, Contains, arith, eq-eqb, take-append-drop}
use Rattle.std.specs.List.{AllByRecursion, Any, cons_option}
use Rattle.std.proofs.lemmas.Bool.{and_from}
use Rattle.std.proofs.lemmas.List.{length-map, length-take}
use Rattle.std.proofs.lemmas.Option.{slice_get_within}
use Rattle.delos_types.specs.declared.entry.Entry.{Entry}
use Rattle.delos_types.specs.declared.chain.Chain.{Chain}
use Rattle.legal_journal.specs.Law.{Law}
use Rattle.legal_journal.specs.declared.events.Event.{Event}
use Rattle.legal_journal.specs.Journal.{IsLegal, State, entries, log_at, reach, state_of, tail_of, trim_of}
use Rattle.legal_journal.proofs.Legal.{sound}
use Rattle.legal_journal.proofs.Log.{slice_get_front}
use Rattle.legal_journal.proofs.Sound.{log_from}
use Rattle.virtual_log.specs.Holding.{Holds}
use Rattle.delos_types.specs.declared.place.Place.{Place}
use Rattle.table_core.specs.declared.command.Found.{Found}
use Rattle.table_core.specs.declared.command.Command.{Command}
use Rattle.engine_api.specs.declared.content.Content.{Content}
use Rattle.engine_api.specs.declared.content.Content.TheVariants as content
use Rattle.engine_api.specs.declared.content.Placed.{Placed}
use Rattle.engine_api.specs.Items.{unpack}
use Rattle.engine_api.specs.Acted.{Asked, asked_in}
use Rattle.engine_api.specs.Order.{first_of, is_clean}
use Rattle.replica_api.specs.Replica.{Meaning}
use Rattle.turn_scopes.specs.Floors.{FloorIs}
use Rattle.script_text.specs.declared.line.Admin.TheVariants.{Extend, Alive, Trim, Retire}
use Rattle.script_text.specs.declared.asks.NamedLine.{NamedLine}
use Rattle.script_text.specs.declared.faults.FaultLine.{FaultLine}
use Rattle.script_text.specs.declared.asks.Asks.{Asks}
use Rattle.script_text.specs.declared.asks.Asks.TheVariants as asks
use Rattle.row_text.specs.declared.row.Outcome.{Outcome}
use Rattle.row_text.specs.declared.row.Outcome.TheVariants as out
use Rattle.fabric_core.specs.Fabric.{IsRegisterAsTold}
use Rattle.fabric_core.specs.Log.{numbers, virtual_log, virtual_log_at, virtual_tail}
use Rattle.log_laws.proofs.Pairs.{all-append}
use Rattle.fitting_run.specs.declared.told.Told.{Told}
use Rattle.fitting_run.specs.Acts.{AsksFor, HoldsLines}
use Rattle.fitting_run.specs.Fits.{ChainIsRegistered}
use Rattle.fitting_run.specs.Lines.{are_in_phase, are_ranked, is_of, logs_for}
use Rattle.fitting_run.specs.Yard.{Shown}
use Rattle.turn_scopes.proofs.Moments.{held_sent}
use Rattle.node_lines.specs.UnderWay.{HasRank}
use Rattle.node_lines.proofs.Catching.{appears_in}
use Rattle.node_lines.specs.declared.desk.Desk.{Desk}
use Rattle.node_lines.specs.declared.lines.Looked.{Looked}
use Rattle.node_lines.specs.declared.lines.Looked.TheVariants as looked
use Rattle.node_lines.specs.Workers.{IsHome, MayRun}
use Rattle.node_lines.proofs.Bounding.{front_below}
use Rattle.run_ends.specs.Rules.{AreOfLines, IsLineOf, LogsRank, may_of}
use Rattle.run_ends.proofs.Rules.{asked_by, session_home}
use Rattle.run_laws.specs.Ended.{AllAfter, CameOf, FaultsCame, IsAtHome, IsOfEarlier, IsOfLine, LineEnded, LogStands, LogsThis, Played, Replacements, RunEnded, SaysFrom, SaysTrim, SessionEnded, StandsFrom, rank_in}
use Rattle.run_laws.proofs.Members.{among-found, among-get, contained-among, contains-among}
use Rattle.node_course.specs.Moments.{moment, tails}
use Rattle.node_course.specs.Reporting.{StandsThere}
use Rattle.node_course.specs.Telling.{AskedFor, TellsAtLeast}
use Rattle.node_course.proofs.Behind.{rank_high, read_forward, read_high, report_high}
use Rattle.node_course.proofs.Moments.{grown_legal, grown_on}
use Rattle.node_course.proofs.Parts.{run_rises, run_seen}
use Rattle.node_course.proofs.Ranks.{node_is_home, rank_counts}
use Rattle.node_course.proofs.Trimmed.{report_behind, trim_stands}
use Rattle.run_ends.specs.Closing.{HasClosed, IsGivenBack, WorkerEnd}
use Rattle.run_ends.specs.Ends.{cursor_at, cursor_of, end_of}
use Rattle.run_ends.specs.Rows.{AreRows, Tells, desk_for, played_of}
use Rattle.run_ends.proofs.Turns.{all_lines, lines_are, rows_are, some_at, turn_is, turn_of}
use Rattle.run_ends.proofs.Lines.{early_line, leave_played}
use Rattle.run_ends.proofs.Sessions.{legal as run_is_legal, size as looks_size, some as some_node}
use Rattle.run_ends.proofs.Placing.{appeared_by}
use Rattle.run_ends.proofs.Finding.{read_is}
use Rattle.run_ends.proofs.Reports.{alive_is, retired_is}
use Rattle.run_ends.proofs.Showing.{stood_from}
use Rattle.run_ends.proofs.Trims.{clean_below, trimmed_is, trims_ended}
use Rattle.run_ends.proofs.Replacements.{replacements}

-- what holds of the element at each place holds of each
each_there : {A : Type 0} (P : A → Type 0) (xs : List A) → ((i : ℕ) (x : A) → slice_get xs i ≡ Some x → P x) → AllByRecursion P xs
each_there P [] h = tt
each_there P (x ∷ xs) h = (h 0 x refl, each_there P xs (λ i y at. h (suc i) y at))

-- a command of the list is found there by its session and its rank
appears : (xs : List Asked) (x : Asked) → Contains xs x → is_some (first_of xs x.session x.rank) ≡ true
appears xs x has =
    let found = among-found (λ (y : Asked). (y.session == x.session) && (y.rank == x.rank)) xs x (contained-among xs x has) (and_from (x.session == x.session) (x.rank == x.rank) (eq-eqb x.session x.session refl) (eq-eqb x.rank x.rank refl)) in
    ap is_some found.1

-- the line that logs this is its session's, and has its rank
logs_so : (a : Asks) (x : Asked) → LogsThis a x → (is_of x.session a ≡ true) × (rank_in a ≡ x.rank)
logs_so (asks.Logged s r command) x h = (eq-eqb s.id x.session (sym h.0), sym h.1)
logs_so (asks.Look s query) x h = absurd h
logs_so (asks.Admin a) x h = absurd h

-- an element, behind those before it
after_at : {A : Type 0} (P : List A → A → Type 0) (before xs : List A) (j : ℕ) (x : A) → AllAfter P before xs → slice_get xs j ≡ Some x → (b : List A) × P b x
after_at P before [] j x h at = absurd (cc)
after_at P before (y ∷ ys) zero x h at = let same : y ≡ x = cc in (before, subst (P before) same h.0)
after_at P before (y ∷ ys) (suc j) x h at = after_at P (before ++ y ∷ []) ys j x h.1 at

module _ (law : Law) (meaning : Meaning) (run : MayRun law) (lines : List NamedLine) (fault_lines : List FaultLine) (journal : List Event) (looks : List (Option Looked)) (log : List Entry) (workers : List WorkerEnd) (o : Told) (yard : Shown) (mine : (who : ℕ) (e : Entry) → law.may who e → may_of lines who e) (floor_is : FloorIs law.floor (length workers)) (h : HasClosed law meaning lines fault_lines journal looks log workers) (are : AreRows lines workers looks o.rows) (end_is : o.end ≡ length log) (back : IsGivenBack law journal workers o.chain yard) (told : IsRegisterAsTold (state_of journal).register yard.register) (registered : ChainIsRegistered o yard.register) where
  abbrev played : List Played
  played = played_of lines o.rows looks

  size : length looks ≡ length lines
  size = looks_size law meaning lines fault_lines journal looks log workers h

  some : 1 ≤ length workers
  some = some_node law meaning lines fault_lines journal looks log workers h

  legal_then : IsLegal law h.run.seen
  legal_then = run_is_legal law meaning lines fault_lines journal looks log workers h

  -- of a session its home alone appends commands
  own : (s : ℕ) → IsHome law.may s (h.home s)
  own s = λ user r e allowed has. session_home lines h.home (length workers) h.lines_are s user r e (mine user e allowed) has

  pub played_lines : map (λ t. t.line) played ≡ lines
  played_lines = lines_are lines o.rows looks are.size size

  -- each entry of the log is some line's
  of_lines : AreOfLines lines log
  of_lines = each_there (λ (e : Entry). (who : ℕ) × may_of lines who e) log (λ pos e at. let sent = held_sent law journal pos e back.legal (h.front pos e at) in (sent.0, mine sent.0 e sent.1))

  -- what a line has the node append is what it asks
  is_asked : (who : ℕ) (c : Content) → IsLineOf lines who c → Any (λ (l : NamedLine). (l.node ≡ who) × AsksFor l.node l.asks c) lines
  is_asked who c h = by c h
    where
      at_line : (c : Content) (at : ℕ) (l : NamedLine) → slice_get lines at ≡ Some l → l.node ≡ who → AsksFor l.node l.asks c → Any (λ (l : NamedLine). (l.node ≡ who) × AsksFor l.node l.asks c) lines
      at_line c at l is node asks = let k = contains-among lines l (among-get lines at l is) in (k.0, l, k.1, k.2, (node, asks))

      logged : (n : ℕ) (a : Asks) (s r : ℕ) (command : Option Command) → LogsRank a s r command → AsksFor n a (content.Session s r command)
      logged n (asks.Logged session rank c) s r command k = k
      logged n (asks.Look session query) s r command k = absurd k
      logged n (asks.Admin a) s r command k = absurd k

      by : (c : Content) → IsLineOf lines who c → Any (λ (l : NamedLine). (l.node ≡ who) × AsksFor l.node l.asks c) lines
      by (content.Session s r command) k = at_line (content.Session s r command) k.at k.line k.is k.node (logged k.line.node k.line.asks s r command k.logs)
      by (content.Alive node position) k = at_line (content.Alive node position) k.1.at k.1.line k.1.is k.1.node (subst (λ a. AsksFor k.1.line.node a (content.Alive node position)) (sym k.1.asks) (k.0 ∙ sym k.1.node))
      by (content.Leave node) k = at_line (content.Leave node) k.1.at k.1.line k.1.is k.1.node (subst (λ a. AsksFor k.1.line.node a (content.Leave node)) (sym k.1.asks) (k.0 ∙ sym k.1.node))
      by (content.Trim position) k = at_line (content.Trim position) k.at k.line k.is k.node (subst (λ a. AsksFor k.line.node a (content.Trim position)) (sym k.asks) tt)

  -- each entry holds what lines ask of the node that proposed it
  holds_lines : (es : List Entry) → AreOfLines lines es → AllByRecursion (HoldsLines lines) es
  holds_lines [] h = tt
  holds_lines (e ∷ es) h =
      (subst (λ n. AllByRecursion (λ p. Any (λ (l : NamedLine). (l.node ≡ n) × AsksFor l.node l.asks p.content) lines) (unpack 0 e)) (sym h.0.1.own) (each (unpack 0 e) h.0.1.items), holds_lines es h.1)
    where
      each : (ps : List Placed) → AllByRecursion (λ p. IsLineOf lines h.0.0 p.content) ps → AllByRecursion (λ p. Any (λ (l : NamedLine). (l.node ≡ h.0.0) × AsksFor l.node l.asks p.content) lines) ps
      each [] k = tt
      each (p ∷ ps) k = (is_asked h.0.0 p.content k.0, each ps k.1)

  -- each entry that the loglets show is some line's
  shown_of_lines : (a n : ℕ) → trim_of (state_of journal) ≤ a → AreOfLines lines (filter_map (virtual_log_at o.chain yard.cells) (numbers a n))
  shown_of_lines a zero high = tt
  shown_of_lines a (suc n) high = by (virtual_log_at o.chain yard.cells a) refl (shown_of_lines (a + 1) n (omega (arith, high)))
    where
      w : State
      w = state_of journal

      by : (s : Option Entry) → virtual_log_at o.chain yard.cells a ≡ s → AreOfLines lines (filter_map (virtual_log_at o.chain yard.cells) (numbers (a + 1) n)) → AreOfLines lines (cons_option s (filter_map (virtual_log_at o.chain yard.cells) (numbers (a + 1) n)))
      by None is rest = rest
      by (Some e) is rest =
          let there : log_at w a ≡ Some e = sym (back.shows a high) ∙ ap (λ k. virtual_log_at k yard.cells a) (sym back.chain_is) ∙ is in
          let sent = held_sent law journal a e back.legal (record {
            version = w.register.version;
            chain = w.register.chain;
            given = (sound law journal back.legal).given;
            entry = (log_from (reach w.cells) (entries w.cells) w.register.chain a e there).1;
          }) in
          ((sent.0, mine sent.0 e sent.1), rest)

  -- an entry of the log's first ones is that of the log
  first_is : (n pos : ℕ) (e : Entry) → slice_get (take n log) pos ≡ Some e → slice_get log pos ≡ Some e
  first_is n pos e at = subst (λ l. slice_get l pos ≡ Some e) (take-append-drop n log) (slice_get_front (take n log) (drop n log) pos e at)

  first_of_lines : (n : ℕ) → AreOfLines lines (take n log)
  first_of_lines n = each_there (λ (e : Entry). (who : ℕ) × may_of lines who e) (take n log) (λ pos e at. let sent = held_sent law journal pos e back.legal (h.front pos e (first_is n pos e at)) in (sent.0, mine sent.0 e sent.1))

  -- what stood there when a phase began is of a line of an earlier one
  early : (phase : ℕ) (x : Asked) → Contains (asked_in 0 (take (tails h.run phase) log)) x → IsOfEarlier played phase x
  early phase x has =
      let n = tails h.run phase in
      let k = asked_by lines (take n log) (first_of_lines n) x has in
      let t = turn_of played k.at k.line (ap (λ ls. slice_get ls k.at) played_lines ∙ k.is) in
      let logs = logs_so k.line.asks x k.logs in
      let there = appears_in (record { may = λ who e. ⊥; floor = λ l n. ⊥; shelf = [] }) x.session x.rank 0 (take n log) (appears (asked_in 0 (take n log)) x has) in
      let within = slice_get_within (take n log) there.0 there.1 there.2 in
      let size = length-take n log in
      let before : k.line.phase < phase =
      early_line law meaning run lines fault_lines journal looks log workers h k.at k.line x.session phase there.0 there.1 (own x.session) k.is logs.0 (first_is n there.0 there.1 there.2)
      (subst (λ r. HasRank x.session r there.1) (sym logs.1) there.3) (omega (arith, within, size)) in
      record {
        at = k.at;
        turn = t.0;
        is = t.1;
        logs = subst (λ (l : NamedLine). LogsThis l.asks x) (sym t.2) k.logs;
        early = subst (λ (l : NamedLine). l.phase < phase) (sym t.2) before;
      }

  sent : (x : Asked) → Contains (asked_in 0 log) x → IsOfLine played x
  sent x has =
      let k = asked_by lines log of_lines x has in
      let t = turn_of played k.at k.line (ap (λ ls. slice_get ls k.at) played_lines ∙ k.is) in
      record { at = k.at; turn = t.0; is = t.1; logs = subst (λ (l : NamedLine). LogsThis l.asks x) (sym t.2) k.logs }

  -- what stands in the log stands in theirs, where it isn't trimmed
  stood : (c : Content) (from : ℕ) (r : StandsThere h.run.seen c) → o.chain.trim ≤ r.at → from ≤ r.at → SaysFrom o.chain yard.cells from c
  stood c from r high up =
      stood_from law journal back.legal run.low o.chain yard.cells back.chain_is back.shows back.tail c from
      (record { at = r.at; entry = r.entry; held = subst (λ j. Holds j r.at r.entry) h.seen_is r.held; says = r.says }) high up

  -- tails rise as phases begin
  rise : (phase : ℕ) → tails h.run phase ≤ tails h.run (phase + 1)
  rise phase =
      let later = run_seen law lines h.home (length workers) h.run looks h.courses h.joined 1 (omega arith) some (phase + 1) in
      (grown_on law (moment h.run phase) (moment h.run (phase + 1)) (run_rises law lines h.home (length workers) h.run looks h.courses h.joined some phase)
      (grown_legal law (moment h.run (phase + 1)) h.run.seen later legal_then)).tail

  -- each report that a row tells stands in the log
  reported : (i : ℕ) (t : Played) (clean : ℕ) → slice_get played i ≡ Some t → t.row.outcome ≡ out.Alive clean → o.chain.trim ≤ clean → SaysFrom o.chain yard.cells clean (content.Alive t.line.node clean)
  reported i t clean at is low =
      let k = turn_is lines o.rows looks i t at in
      let row = are.each i k.line k.look k.row k.line_at k.look_at k.row_at in
      let alive = alive_is (desk_for workers k.line.node k.line.asks) k.look k.line.asks k.row.outcome clean row.tells (sym (ap (λ (y : Played). y.row.outcome) k.is) ∙ is) in
      let r = report_behind law lines h.home (length workers) h.run looks h.courses h.lines_are h.joined run k.line.node i k.line clean (record { is = k.line_at; own = refl; looked = k.look_at ∙ ap Some alive.1 }) in
      let high = r.1 in
      subst (λ n. SaysFrom o.chain yard.cells clean (content.Alive n clean)) (sym (ap (λ (y : Played). y.line.node) k.is)) (stood (content.Alive k.line.node clean) clean r.0 (omega (arith, low, high)) high)

  -- and so does each leave
  left : (i : ℕ) (t : Played) → slice_get played i ≡ Some t → t.row.outcome ≡ out.Retired → o.chain.trim ≡ 0 → SaysFrom o.chain yard.cells 0 (content.Leave t.line.node)
  left i t at is none =
      let k = turn_is lines o.rows looks i t at in
      let row = are.each i k.line k.look k.row k.line_at k.look_at k.row_at in
      let retired = retired_is (desk_for workers k.line.node k.line.asks) k.look k.line.asks k.row.outcome row.tells (sym (ap (λ (y : Played). y.row.outcome) k.is) ∙ is) in
      let r = leave_played law meaning run lines fault_lines journal looks log workers h i k.line k.line_at Retire retired.0 (k.look_at ∙ ap Some retired.1) in
      subst (λ n. SaysFrom o.chain yard.cells 0 (content.Leave n)) (sym (ap (λ (y : Played). y.line.node) k.is)) (stood (content.Leave k.line.node) 0 r.stands (omega (arith, none)) (omega arith))

  -- and that a trim was asked for
  asked : (j : ℕ) (t : Played) (trim : ℕ) → slice_get played j ≡ Some t → t.row.outcome ≡ out.Trimmed trim → o.chain.trim ≡ 0 → SaysTrim o.chain yard.cells 0
  asked j t trim at is none =
      let k = turn_is lines o.rows looks j t at in
      let row = are.each j k.line k.look k.row k.line_at k.look_at k.row_at in
      let so = trimmed_is (desk_for workers k.line.node k.line.asks) k.look k.line.asks k.row.outcome trim row.tells (sym (ap (λ (y : Played). y.row.outcome) k.is) ∙ is) in
      let r = (trim_stands law lines h.home (length workers) h.run looks h.courses h.lines_are h.joined k.line.node j k.line trim (record { is = k.line_at; own = refl; looked = k.look_at ∙ ap Some so.1 })).1 in
      record { position = r.0; above = omega arith; says = stood (content.Trim r.0) 0 r.1 (omega (arith, none)) (omega arith) }

  -- the reads of one node look forward
  forward : (i j : ℕ) (t u : Played) (after later : ℕ) (found next : Found) → slice_get played i ≡ Some t → slice_get played j ≡ Some u → i < j → t.line.node ≡ u.line.node → t.row.outcome ≡ out.Read after found → u.row.outcome ≡ out.Read later next → after ≤ later
  forward i j t u after later found next at there low same is it =
      let k = turn_is lines o.rows looks i t at in
      let row = are.each i k.line k.look k.row k.line_at k.look_at k.row_at in
      let a = read_is (desk_for workers k.line.node k.line.asks) k.look k.line.asks k.row.outcome after found row.tells (sym (ap (λ (y : Played). y.row.outcome) k.is) ∙ is) in
      let m = turn_is lines o.rows looks j u there in
      let other = are.each j m.line m.look m.row m.line_at m.look_at m.row_at in
      let b = read_is (desk_for workers m.line.node m.line.asks) m.look m.line.asks m.row.outcome later next other.tells (sym (ap (λ (y : Played). y.row.outcome) m.is) ∙ it) in
      let nodes : m.line.node ≡ k.line.node = sym (sym (ap (λ (y : Played). y.line.node) k.is) ∙ same ∙ ap (λ (y : Played). y.line.node) m.is) in
      read_forward law lines h.home (length workers) h.run looks h.courses h.lines_are h.joined k.line.node i j k.line m.line a.session a.query after later found next
      (record { is = k.line_at; own = refl; looked = k.look_at ∙ ap Some a.look_is }) (record { is = m.line_at; own = nodes; looked = m.look_at ∙ ap Some b.look_is }) a.asks_is low

  below : length log ≤ tail_of (state_of journal)
  below = front_below law run.low journal log back.legal h.front

  -- what lines did to the chain, by the register at the end
  replaced : Replacements played fault_lines o.version o.chain (length yard.cells)
  replaced =
      replacements law lines h.home h.run h.courses workers looks o.rows h.lines_are h.joined are size fault_lines h.beside some o.version o.chain (length yard.cells)
      (ap (λ es. (state_of es).register.version) h.seen_is ∙ sym told.given ∙ sym registered.version) (ap (λ es. (state_of es).register.chain) h.seen_is ∙ sym back.chain_is)
      (sym (ap length back.shelf_is) ∙ length-map yard.cells (λ v. v.servers))

  module _ (stands : length log ≤ tail_of (state_of journal) → trim_of (state_of journal) ≤ length log → is_clean (λ s. 1) (asked_in 0 (take (trim_of (state_of journal)) log)) ≡ true → LogStands log (state_of journal).register.chain yard.cells) (lines_ended : AllAfter (LineEnded log (tails h.run) h.run.faults (end_of lines workers h.home h.run.when)) [] played) (sessions_ended : (s : ℕ) → SessionEnded played h.run.faults h.home s (end_of lines workers h.home h.run.when s)) (came : FaultsCame played h.run.faults yard)
      (let_go : (k : ℕ) → 1 ≤ k → k ≤ length workers → (trim_of (state_of h.run.seen) ≡ 0) ⊎ (AskedFor lines looks k Retire (λ look. Unit {0}) ⊎ AskedFor lines looks k Alive (TellsAtLeast (trim_of (state_of h.run.seen)))))
      (kept : (trim_of (state_of h.run.seen) ≡ 0) ⊎ ((k : ℕ) × (1 ≤ k) × (k ≤ length workers) × (trim_of (state_of h.run.seen) ≤ cursor_of workers k))) where
    -- what a line tells that comes behind a report of its node
    behind : (i j : ℕ) (l m : NamedLine) (clean : ℕ) → slice_get lines i ≡ Some l → slice_get lines j ≡ Some m → i < j → l.node ≡ m.node → slice_get looks i ≡ Some (Some (looked.Reported clean))
        → (look : Option Looked) → slice_get looks j ≡ Some look → (d : Option Desk) → (b : List Played) (u : Played) (a : Asks) (x : Outcome) → m.asks ≡ a → Tells d look a x → CameOf log (tails h.run) h.run.faults (end_of lines workers h.home h.run.when) b u a x → StandsFrom clean x
    behind i j l m clean at there low same told look came d b u (asks.Logged s r command) (out.Placed place reply late) is t k =
        let logs : logs_for s.id m ≡ true = ap (is_of s.id) is ∙ eq-eqb s.id s.id refl in
        let rank : rank_in m.asks ≡ r = ap rank_in is in
        let node = node_is_home lines h.home (length workers) h.lines_are j s.id m there logs in
        let counts = rank_counts lines h.home (length workers) h.lines_are (h.home s.id) j s.id m there node logs in
        let y = appeared_by log s.id r (omega (arith, counts, rank)) k.act k.found in
        let held : Holds h.run.seen y.0 y.1 = subst (λ q. Holds q y.0 y.1) (sym h.seen_is) (h.front y.0 y.1 y.2) in
        let high = rank_high law run.low lines h.home (length workers) h.run looks h.courses h.lines_are h.joined l.node i j s.id r y.0 l m clean y.1 (subst (λ who. IsHome law.may s.id who) (sym (same ∙ node)) (own s.id))
        (record { is = at; own = refl; looked = told }) low there (sym same) logs rank held y.3 in
        let up = y.4 in
        subst (λ (p : Place). clean ≤ p.pos) (sym k.place_is) (omega (arith, high, up))
    behind i j l m clean at there low same told look came d b u (asks.Logged s r command) (out.Open cause) is t k = tt
    behind i j l m clean at there low same told look came d b u (asks.Logged s r command) x is t k = absurd k
    behind i j l m clean at there low same told look came (Some d) b u (asks.Look s query) (out.Read after found) is t k = read_high law lines h.home (length workers) h.run looks h.courses h.lines_are h.joined l.node i j l m clean after found (record { is = at; own = refl; looked = told }) (record { is = there; own = sym same; looked = came ∙ ap Some t }) low
    behind i j l m clean at there low same told look came None b u (asks.Look s query) (out.Read after found) is t k = absurd t
    behind i j l m clean at there low same told look came d b u (asks.Look s query) (out.Open cause) is t k = tt
    behind i j l m clean at there low same told look came d b u (asks.Look s query) x is t k = absurd k
    behind i j l m clean at there low same told look came d b u (asks.Admin Extend) (out.Placed place reply late) is t k = absurd k
    behind i j l m clean at there low same told look came d b u (asks.Admin Alive) (out.Placed place reply late) is t k = absurd k
    behind i j l m clean at there low same told look came d b u (asks.Admin Trim) (out.Placed place reply late) is t k = absurd k
    behind i j l m clean at there low same told look came d b u (asks.Admin Retire) (out.Placed place reply late) is t k = absurd k
    behind i j l m clean at there low same told look came d b u (asks.Admin Extend) (out.Read after found) is t k = absurd k
    behind i j l m clean at there low same told look came d b u (asks.Admin Alive) (out.Read after found) is t k = absurd k
    behind i j l m clean at there low same told look came d b u (asks.Admin Trim) (out.Read after found) is t k = absurd k
    behind i j l m clean at there low same told look came d b u (asks.Admin Retire) (out.Read after found) is t k = absurd k
    behind i j l m clean at there low same told look came d b u (asks.Admin a) (out.Extended version start) is t k = tt
    behind i j l m clean at there low same told look came d b u (asks.Admin a) (out.Moved version) is t k = tt
    behind i j l m clean at there low same told look came d b u (asks.Admin a) out.NoSpare is t k = tt
    behind i j l m clean at there low same told look came None b u (asks.Admin Alive) (out.Alive n) is t k = report_high law lines h.home (length workers) h.run looks h.courses h.lines_are h.joined l.node i j l m clean n (record { is = at; own = refl; looked = told }) (record { is = there; own = sym same; looked = came ∙ ap Some t }) low
    behind i j l m clean at there low same told look came (Some d) b u (asks.Admin Alive) (out.Alive n) is t k = absurd t
    behind i j l m clean at there low same told look came d b u (asks.Admin Extend) (out.Alive n) is t k = absurd k
    behind i j l m clean at there low same told look came d b u (asks.Admin Trim) (out.Alive n) is t k = absurd k
    behind i j l m clean at there low same told look came d b u (asks.Admin Retire) (out.Alive n) is t k = absurd k
    behind i j l m clean at there low same told look came d b u (asks.Admin a) (out.Trimmed trim) is t k = tt
    behind i j l m clean at there low same told look came d b u (asks.Admin a) out.Retired is t k = tt
    behind i j l m clean at there low same told look came d b u (asks.Admin a) (out.Open cause) is t k = tt

    above : (i j : ℕ) (t u : Played) (clean : ℕ) → slice_get played i ≡ Some t → slice_get played j ≡ Some u → i < j → t.line.node ≡ u.line.node → t.row.outcome ≡ out.Alive clean → StandsFrom clean u.row.outcome
    above i j t u clean at there low same is =
        let k = turn_is lines o.rows looks i t at in
        let row = are.each i k.line k.look k.row k.line_at k.look_at k.row_at in
        let alive = alive_is (desk_for workers k.line.node k.line.asks) k.look k.line.asks k.row.outcome clean row.tells (sym (ap (λ (y : Played). y.row.outcome) k.is) ∙ is) in
        let m = turn_is lines o.rows looks j u there in
        let other = are.each j m.line m.look m.row m.line_at m.look_at m.row_at in
        let ended = after_at (LineEnded log (tails h.run) h.run.faults (end_of lines workers h.home h.run.when)) [] played j u lines_ended there in
        let line_is : u.line ≡ m.line = ap (λ (y : Played). y.line) m.is in
        let outcome_is : u.row.outcome ≡ m.row.outcome = ap (λ (y : Played). y.row.outcome) m.is in
        let tells : Tells (desk_for workers m.line.node m.line.asks) m.look u.line.asks u.row.outcome =
        subst (λ x. Tells (desk_for workers m.line.node m.line.asks) m.look u.line.asks x) (sym outcome_is) (subst (λ (x : NamedLine). Tells (desk_for workers m.line.node m.line.asks) m.look x.asks m.row.outcome) (sym line_is) other.tells) in
        behind i j k.line m.line clean k.line_at m.line_at low (sym (ap (λ (y : Played). y.line.node) k.is) ∙ same ∙ ap (λ (x : NamedLine). x.node) line_is) (k.look_at ∙ ap Some alive.1) m.look m.look_at (desk_for workers m.line.node m.line.asks) ended.0 u u.line.asks u.row.outcome
        (sym (ap (λ (x : NamedLine). x.asks) line_is)) tells ended.1.came

    -- some node has played the log as far as it is trimmed
    short : o.chain.trim ≤ length log
    short =
        let same : o.chain.trim ≡ trim_of (state_of h.run.seen) = ap (λ (k : Chain). k.trim) back.chain_is ∙ ap (λ (es : List Event). trim_of (state_of es)) (sym h.seen_is) in
        ⊎_elim
        (λ (none : trim_of (state_of h.run.seen) ≡ 0). omega (arith, same, none))
        (λ (k : (k : ℕ) × (1 ≤ k) × (k ≤ length workers) × (trim_of (state_of h.run.seen) ≤ cursor_of workers k)).
        let low = k.1 in
        let high = k.2 in
        let up = k.3 in
        let w = some_at workers (k.0 - 1) (omega (arith, low, high)) in
        let is : cursor_of workers k.0 ≡ w.0.seat.node.replica.cursor = ap cursor_at w.1 in
        let upto = (h.each (k.0 - 1) w.0 w.1).short in
        omega (arith, same, up, is, upto))
        kept

    pub run_ended : RunEnded played fault_lines o yard
    run_ended = record {
      log = log;
      tails = tails h.run;
      faults = h.run.faults;
      ends = end_of lines workers h.home h.run.when;
      home = h.home;
      few = let few = h.lines_are.few in let size = length-map played (λ (t : Played). t.line) in let same = ap length played_lines in omega (arith, few, size, same);
      rows = sym (rows_are lines o.rows looks are.size size);
      end = end_is;
      ranked = ap (are_ranked []) played_lines ∙ h.lines_are.ranked;
      phases = ap (are_in_phase 0) played_lines ∙ h.lines_are.phases;
      at_home = all_lines (λ l. IsAtHome h.home l.node l.asks) played (subst (AllByRecursion (λ (l : NamedLine). IsAtHome h.home l.node l.asks)) (sym played_lines) h.lines_are.at_home);
      rise = rise;
      stands = subst (λ k. LogStands log k yard.cells) (sym back.chain_is)
          (let same = ap (λ (k : Chain). k.trim) back.chain_is in
          let low = short in
          stands below (omega (arith, same, low))
          (subst (λ n. is_clean (λ s. 1) (asked_in 0 (take n log)) ≡ true) same (clean_below law meaning run lines fault_lines journal looks log workers o yard mine floor_is h are back short)));
      asked = subst (λ ls. AllByRecursion (HoldsLines ls) (log ++ virtual_log o.chain yard.cells (length log) (virtual_tail o.chain yard.cells))) (sym played_lines)
          (all-append (HoldsLines lines) log (virtual_log o.chain yard.cells (length log) (virtual_tail o.chain yard.cells)) (holds_lines log of_lines)
          (let low = short in
          let same = ap (λ (k : Chain). k.trim) back.chain_is in
          holds_lines (virtual_log o.chain yard.cells (length log) (virtual_tail o.chain yard.cells)) (shown_of_lines (length log) (virtual_tail o.chain yard.cells - length log) (omega (arith, low, same)))));
      sent = sent;
      early = early;
      lines = lines_ended;
      sessions = sessions_ended;
      replacements = replaced;
      reported = reported;
      left = left;
      above = above;
      forward = forward;
      trims = trims_ended law meaning run lines fault_lines journal looks log workers o yard mine floor_is h are back let_go back.nodes (let low = short in omega (arith, low, end_is)) asked;
      came = came;
      registered = registered;
    }
