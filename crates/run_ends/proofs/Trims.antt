-- How far nodes trimmed the log, once the run has ended.
use Rattle.std.proofs.Common.{◌≡◌, ◌≢◌, refl, sym, ap, ◌∙◌, subst, inl, inr, ◌⊎◌, ⊎_elim, ℕ, zero, suc, ◌<◌, ◌≤◌, Bool, true, false, List, [], ◌∷◌, Option, Some, None, map, length, take, slice_get, Contains, arith}
use Rattle.std.proofs.lemmas.Bool.{cases_lt}
use Rattle.delos_types.specs.declared.entry.Entry.{Entry}
use Rattle.delos_types.specs.declared.chain.Chain.{Chain}
use Rattle.legal_journal.specs.Law.{Law}
use Rattle.legal_journal.specs.declared.events.Event.{Event}
use Rattle.legal_journal.specs.Journal.{log_at, state_of, trim_of}
use Rattle.legal_journal.proofs.Legal.{sound}
use Rattle.journal_laws.specs.Changes.{appended, raised, Frees}
use Rattle.journal_laws.proofs.Changes.{appended_may, raised_free, trim_raised}
use Rattle.engine_api.specs.declared.content.Content.{Content}
use Rattle.engine_api.specs.declared.content.Content.TheVariants as content
use Rattle.engine_api.specs.declared.content.Placed.{Placed}
use Rattle.engine_api.specs.Acted.{asked_in, unpack_all}
use Rattle.engine_api.specs.Items.{unpack}
use Rattle.engine_api.specs.Members.{has_left, least_position, position_of, trim_point}
use Rattle.engine_api.specs.Order.{is_clean}
use Rattle.replica_api.specs.Replica.{Meaning}
use Rattle.turn_scopes.specs.Floors.{FloorIs}
use Rattle.base_engine.proofs.Showing.{shows_all}
use Rattle.log_laws.proofs.Membership.{least_some, least_upto, left_says, point_says, position_says, unpack_says}
use Rattle.script_text.specs.declared.line.Admin.{Admin}
use Rattle.script_text.specs.declared.line.Admin.TheVariants.{Extend, Alive, Retire, Trim}
use Rattle.script_text.specs.declared.asks.NamedLine.{NamedLine}
use Rattle.script_text.specs.declared.faults.FaultLine.{FaultLine}
use Rattle.script_text.specs.declared.asks.Asks.{Asks}
use Rattle.script_text.specs.declared.asks.Asks.TheVariants as asks
use Rattle.row_text.specs.declared.row.Outcome.{Outcome}
use Rattle.row_text.specs.declared.row.Outcome.TheVariants as out
use Rattle.fitting_run.specs.declared.told.Told.{Told}
use Rattle.fitting_run.specs.Yard.{Shown}
use Rattle.node_lines.specs.declared.desk.Desk.{Desk}
use Rattle.node_lines.specs.declared.lines.Looked.{Looked}
use Rattle.node_lines.specs.declared.lines.Looked.TheVariants as looked
use Rattle.node_lines.specs.Measuring.{IsCleanPoint}
use Rattle.node_lines.specs.Workers.{MayRun, appended_by}
use Rattle.node_lines.proofs.Cleaning.{at_index, clean_none, same_beginning}
use Rattle.run_ends.specs.Rules.{HasAsked, IsLineOf, may_of}
use Rattle.run_ends.proofs.Contents.{all-contained}
use Rattle.run_laws.specs.Ended.{IsReported, IsToLeave, LineTrimmed, MayHaveAllowed, MayReport, Played, SaysFrom, SaysReport, SaysTrim, SomeTurn, TellsFrom, TellsUpto, TrimsEnded}
use Rattle.run_laws.proofs.Members.{among-map, contained-among, contains-among}
use Rattle.node_course.specs.Script.{AreLines}
use Rattle.node_course.specs.Played.{Came}
use Rattle.node_course.specs.Telling.{AskedBy, AskedFor, IsBehind, IsSaidBehind, TellsAtLeast, ToldSo}
use Rattle.node_course.specs.Joined.{GoesFirst, HadLowest, IsNotBehind}
use Rattle.node_course.proofs.Lines.{at_get}
use Rattle.node_course.proofs.Allowed.{trim_allowed, trim_rises_to}
use Rattle.node_course.proofs.Trimmed.{appender, had_lowest, tells_less, trim_stands}
use Rattle.run_ends.specs.Closing.{HasClosed, IsGivenBack, WorkerEnd}
use Rattle.run_ends.specs.Rows.{AreRows, Tells, desk_for, played_of}
use Rattle.run_ends.proofs.Turns.{lines_are, turn_is, turn_of}
use Rattle.run_ends.proofs.Reports.{alive_is, retired_is}
use Rattle.run_ends.proofs.Sessions.{size as looks_size}
use Rattle.run_ends.proofs.Showing.{shown_from}

-- Rows

-- a row that tells a trim answers a line that asked for one, and came to it
pub trimmed_is : (d : Option Desk) (look : Option Looked) (a : Asks) (o : Outcome) (trim : ℕ) → Tells d look a o → o ≡ out.Trimmed trim → (a ≡ asks.Admin Trim) × (look ≡ Some (looked.Trimmed trim))
trimmed_is (Some d) look (asks.Logged s r command) (out.Placed place reply late) trim t e = absurd (cc)
trimmed_is (Some d) look (asks.Logged s r command) (out.Open cause) trim t e = absurd (cc)
trimmed_is (Some d) look (asks.Look s query) (out.Read after answer) trim t e = absurd (cc)
trimmed_is (Some d) look (asks.Look s query) (out.Open cause) trim t e = absurd (cc)
trimmed_is None look (asks.Admin Extend) (out.Extended version start) trim t e = absurd (cc)
trimmed_is None look (asks.Admin Extend) (out.Moved version) trim t e = absurd (cc)
trimmed_is None look (asks.Admin Extend) out.NoSpare trim t e = absurd (cc)
trimmed_is None look (asks.Admin Extend) (out.Open cause) trim t e = absurd (cc)
trimmed_is None look (asks.Admin Alive) (out.Alive clean) trim t e = absurd (cc)
trimmed_is None look (asks.Admin Alive) (out.Open cause) trim t e = absurd (cc)
trimmed_is None look (asks.Admin Retire) out.Retired trim t e = absurd (cc)
trimmed_is None look (asks.Admin Retire) (out.Open cause) trim t e = absurd (cc)
trimmed_is None look (asks.Admin Trim) (out.Trimmed n) trim t e = let same : n ≡ trim = cc in (refl, t ∙ ap (λ m. Some (looked.Trimmed m)) same)
trimmed_is None look (asks.Admin Trim) (out.Open cause) trim t e = absurd (cc)
trimmed_is d look a o trim t e = absurd t

same_some : {A : Type 0} (x y : A) → Some x ≡ Some y → x ≡ y
same_some x y e = cc

-- a row whose line came to a report of so much, or failed, tells so much, or is open
may_tell : (look : Looked) (o : Outcome) (n : ℕ) → Tells None (Some look) (asks.Admin Alive) o → TellsAtLeast n look → TellsFrom n (asks.Admin Alive) o
may_tell look (out.Alive clean) n t up = subst (TellsAtLeast n) (same_some look (looked.Reported clean) t) up
may_tell look (out.Open cause) n t up = tt
may_tell look o n t up = absurd t

tells_upto : (trim : ℕ) (o : Outcome) → ((n : ℕ) → o ≡ out.Alive n → n ≤ trim) → (o ≡ out.Retired → ⊥) → TellsUpto trim o
tells_upto trim (out.Alive clean) low stays = low clean refl
tells_upto trim out.Retired low stays = absurd (stays refl)
tells_upto trim (out.Placed place reply late) low stays = tt
tells_upto trim (out.Read after answer) low stays = tt
tells_upto trim (out.Extended version start) low stays = tt
tells_upto trim (out.Moved version) low stays = tt
tells_upto trim out.NoSpare low stays = tt
tells_upto trim (out.Trimmed n) low stays = tt
tells_upto trim (out.Open cause) low stays = tt

contains-mapped : (ps : List Placed) (p : Placed) → Contains ps p → Contains (map (λ q. q.content) ps) p.content
contains-mapped ps p h = contains-among (map (λ (q : Placed). q.content) ps) p.content (among-map (λ (q : Placed). q.content) ps p (contained-among ps p h))

some_in : (l : List Entry) (i : ℕ) → i < length l → (e : Entry) × (slice_get l i ≡ Some e)
some_in [] i low = absurd (omega (arith, low))
some_in (x ∷ xs) zero low = (x, refl)
some_in (x ∷ xs) (suc i) low = some_in xs i (omega (arith, low))

-- an item of a line is of the line's node
who_there : (lines : List NamedLine) (home : ℕ → ℕ) (nodes : ℕ) → AreLines lines home nodes → (who : ℕ) (c : Content) → IsLineOf lines who c → (1 ≤ who) × (who ≤ nodes)
who_there lines home nodes are who c h = by c h
  where
    line_there : (at : ℕ) (line : NamedLine) → slice_get lines at ≡ Some line → line.node ≡ who → (1 ≤ who) × (who ≤ nodes)
    line_there at line is node =
        let there = at_get (λ (l : NamedLine). (1 ≤ l.node) × (l.node ≤ nodes)) lines at line are.nodes_are is in
        let low = there.0 in
        let high = there.1 in
        (omega (arith, low, node), omega (arith, high, node))

    by : (x : Content) → IsLineOf lines who x → (1 ≤ who) × (who ≤ nodes)
    by (content.Session s r command) k = line_there k.at k.line k.is k.node
    by (content.Alive node position) k = line_there k.1.at k.1.line k.1.is k.1.node
    by (content.Leave node) k = line_there k.1.at k.1.line k.1.is k.1.node
    by (content.Trim position) k = line_there k.at k.line k.is k.node

module _ (law : Law) (meaning : Meaning) (run : MayRun law) (lines : List NamedLine) (fault_lines : List FaultLine) (journal : List Event) (looks : List (Option Looked)) (log : List Entry) (workers : List WorkerEnd) (o : Told) (yard : Shown) (mine : (who : ℕ) (e : Entry) → law.may who e → may_of lines who e) (floor_is : FloorIs law.floor (length workers)) (h : HasClosed law meaning lines fault_lines journal looks log workers) (are : AreRows lines workers looks o.rows) (back : IsGivenBack law journal workers o.chain yard) where
  abbrev played : List Played
  played = played_of lines o.rows looks

  -- The log's trim

  trim_same : o.chain.trim ≡ trim_of (state_of journal)
  trim_same = ap (λ (c : _). c.trim) back.chain_is

  -- where something is trimmed the rules let it be
  freed : (o.chain.trim ≡ 0) ⊎ Frees law.floor journal o.chain.trim
  freed = ⊎_elim
      (λ (none : trim_of (state_of journal) ≡ 0). inl (trim_same ∙ none))
      (λ (some : Contains (raised journal) (trim_of (state_of journal))). subst (λ n. (n ≡ 0) ⊎ Frees law.floor journal n) (sym trim_same) (raised_free law journal (trim_of (state_of journal)) back.legal some))
      (trim_raised law journal back.legal)

  -- an entry that was appended is of lines
  own_items : (e : Entry) (q : Placed) → Contains (appended journal) e → Contains (unpack 0 e) q → (who : ℕ) × IsLineOf lines who q.content
  own_items e q has says =
      let sent = appended_may law journal e back.legal has in
      (sent.0, all-contained (λ (p : Placed). IsLineOf lines sent.0 p.content) (unpack 0 e) q (mine sent.0 e sent.1).items says)

  -- what an entry says that was appended, its appender told
  told_now : (e : Entry) (q : Placed) → Contains (appended journal) e → Contains (unpack 0 e) q → (who : ℕ) × ToldSo lines looks who journal q.content
  told_now e q has says =
      let by = appender law journal e back.legal has in
      let there = who_there lines h.home (length workers) h.lines_are by.0 q.content (all-contained (λ (p : Placed). IsLineOf lines by.0 p.content) (unpack 0 e) q (mine by.0 e by.1.0).items says) in
      let same : (h.courses by.0).seen ≡ journal = (h.joined.part by.0 there.0 there.1).seen ∙ h.seen_is in
      (by.0, subst (λ j. ToldSo lines looks by.0 j q.content) same ((h.joined.did by.0 there.0 there.1).told e q (subst (λ j. Contains (appended_by by.0 j) e) (sym same) by.1.1) says))

  -- Where the log was trimmed it was to the lesser of the trim point and the least position of a member, and both are clean

  module _ (f : Frees law.floor journal o.chain.trim) where
    abbrev says : List Placed
    says = unpack_all 0 f.log

    abbrev nodes : ℕ
    nodes = length workers

    -- what is said of a position isn't said below it
    said_above : (e : Entry) (q : Placed) (n : ℕ) (c : Content) (there : Contains f.log e) → Contains (unpack 0 e) q → q.content ≡ c → IsSaidBehind journal n c → n ≤ there.0
    said_above e q n c there among so b = ⊎_elim
        (λ (low : there.0 < n).
        let i = there.0 in
        let within = b.clean.within in
        let x = some_in b.clean.log i (omega (arith, low, within)) in
        let shown = f.shows i there.1 ∙ at_index f.log i e there.1 there.2 in
        let same : Some x.0 ≡ Some e = sym (shows_all law run.low journal i x.0 back.legal (b.clean.front i x.0 x.1)) ∙ shown in
        absurd (b.behind i e q low (x.1 ∙ same) among so))
        (λ (high : n ≤ there.0). high)
        (cases_lt there.0 n)

    -- what is reported in the log that was shown is clean, and isn't above where it stands
    reports_so : (p : Placed) (node n : ℕ) → Contains says p → p.content ≡ content.Alive node n → IsCleanPoint journal n × (n ≤ length f.log)
    reports_so p node n has is =
        let e = unpack_says f.log p has in
        let b = subst (IsBehind journal) (e.4 ∙ is) (h.behind e.0 e.2 (f.each e.0 e.1) e.3) in
        let high = said_above e.0 e.2 n (content.Alive node n) e.1 e.3 (e.4 ∙ is) b in
        let low = e.1.1 in
        (b.clean, omega (arith, high, low))

    -- what is said there of a position that isn't trimmed the loglets say
    said_shown : (p : Placed) (n : ℕ) (c : Content) → Contains says p → p.content ≡ c → (IsBehind journal c → IsSaidBehind journal n c) → o.chain.trim ≤ n → SaysFrom o.chain yard.cells o.chain.trim c
    said_shown p n c has is behind up =
        let e = unpack_says f.log p has in
        let high = said_above e.0 e.2 n c e.1 e.3 (e.4 ∙ is) (behind (subst (IsBehind journal) (e.4 ∙ is) (h.behind e.0 e.2 (f.each e.0 e.1) e.3))) in
        let i = e.1.0 in
        let shown = f.shows i e.1.1 ∙ at_index f.log i e.0 e.1.1 e.1.2 in
        let here : o.chain.trim ≤ i = omega (arith, high, up) in
        let untrimmed : trim_of (state_of journal) ≤ i = subst (λ (k : Chain). k.trim ≤ i) back.chain_is here in
        shown_from law journal back.legal run.low o.chain yard.cells back.chain_is back.shows back.tail c i o.chain.trim e.0
        (⊎_elim (λ (trimmed : i < trim_of (state_of journal)). absurd (omega (arith, trimmed, untrimmed))) (λ (s : log_at (state_of journal) i ≡ Some e.0). s) ((sound law journal back.legal).was_shown i e.0 shown))
        (subst (Contains (map (λ (x : Placed). x.content) (unpack 0 e.0))) (e.4 ∙ is) (contains-mapped (unpack 0 e.0) e.2 e.3)) here here

    -- so is the least position of a member
    least_so : IsCleanPoint journal (least_position nodes says) × (least_position nodes says ≤ length f.log)
    least_so = ⊎_elim some (λ (none : least_position nodes says ≤ 0). nothing (omega (arith, none))) (cases_lt 0 (least_position nodes says))
      where
        nothing : least_position nodes says ≡ 0 → IsCleanPoint journal (least_position nodes says) × (least_position nodes says ≤ length f.log)
        nothing none = (subst (IsCleanPoint journal) (sym none) (clean_none journal), omega (arith, none))

        some : 0 < least_position nodes says → IsCleanPoint journal (least_position nodes says) × (least_position nodes says ≤ length f.log)
        some up =
            let first = least_some nodes says up in
            ⊎_elim
            (λ (none : position_of says first.node ≡ 0). nothing (first.is ∙ none))
            (λ (q : (p : Placed) × Contains says p × (p.content ≡ content.Alive first.node (position_of says first.node))).
            let so = reports_so q.0 first.node (position_of says first.node) q.1 q.2 in
            (subst (IsCleanPoint journal) (sym first.is) so.0, omega (arith, so.1, first.is)))
            (position_says says first.node)

    -- .. and the trim point
    point_clean : IsCleanPoint journal (trim_point says)
    point_clean = ⊎_elim
        (λ (none : trim_point says ≡ 0). subst (IsCleanPoint journal) (sym none) (clean_none journal))
        (λ (q : (p : Placed) × Contains says p × (p.content ≡ content.Trim (trim_point says))).
        let e = unpack_says f.log q.0 q.1 in
        (subst (IsBehind journal) (e.4 ∙ q.2) (h.behind e.0 e.2 (f.each e.0 e.1) e.3)).clean)
        (point_says says)

    -- the log from the trim on has that as much was asked for
    trim_rests : o.chain.trim ≢ 0 → SaysTrim o.chain yard.cells o.chain.trim
    trim_rests some =
        let m = floor_is.only f.log o.chain.trim f.free in
        let point = m.point in
        ⊎_elim
        (λ (none : trim_point says ≡ 0). let zero_is : o.chain.trim ≡ 0 = omega (arith, point, none) in absurd (some zero_is))
        (λ (q : (p : Placed) × Contains says p × (p.content ≡ content.Trim (trim_point says))).
        record { position = trim_point says; above = point; says = said_shown q.0 (trim_point says) (content.Trim (trim_point says)) q.1 q.2 (λ b. b) point })
        (point_says says)

    -- and that each node reported as much that isn't to leave
    trim_kept : (node : ℕ) → 1 ≤ node → node ≤ nodes → o.chain.trim ≢ 0 → AskedFor lines looks node Retire (λ look. Unit {0}) ⊎ SaysReport o.chain yard.cells o.chain.trim node
    trim_kept node low high some = by (has_left says node) refl
      where
        by : (b : Bool) → has_left says node ≡ b → AskedFor lines looks node Retire (λ look. Unit {0}) ⊎ SaysReport o.chain yard.cells o.chain.trim node
        by true left =
            let q = left_says says node left in
            let e = unpack_says f.log q.0 q.1 in
            let by = told_now e.0 e.2 (f.each e.0 e.1) e.3 in
            let told = subst (ToldSo lines looks by.0 journal) (e.4 ∙ q.2) by.1 in
            inl (subst (λ who. AskedFor lines looks who Retire (λ look. Unit {0})) (sym told.0) told.1)
        by false stays =
            let m = floor_is.only f.log o.chain.trim f.free in
            let free = m.least in
            let upto = least_upto nodes node says low high stays in
            let above : o.chain.trim ≤ position_of says node = omega (arith, free, upto) in
            ⊎_elim
            (λ (none : position_of says node ≡ 0). let zero_is : o.chain.trim ≡ 0 = omega (arith, above, none) in absurd (some zero_is))
            (λ (q : (p : Placed) × Contains says p × (p.content ≡ content.Alive node (position_of says node))).
            inr (record { position = position_of says node; above = above; says = said_shown q.0 (position_of says node) (content.Alive node (position_of says node)) q.1 q.2 (λ b. b) above }))
            (position_says says node)

    -- some node did
    trim_some : o.chain.trim ≢ 0 → (node : ℕ) × AskedFor lines looks node Alive (TellsAtLeast o.chain.trim) × SaysReport o.chain yard.cells o.chain.trim node
    trim_some some =
        let m = floor_is.only f.log o.chain.trim f.free in
        let free = m.least in
        ⊎_elim by (λ (none : least_position nodes says ≤ 0). let zero_is : o.chain.trim ≡ 0 = omega (arith, free, none) in absurd (some zero_is)) (cases_lt 0 (least_position nodes says))
      where
        by : 0 < least_position nodes says → (node : ℕ) × AskedFor lines looks node Alive (TellsAtLeast o.chain.trim) × SaysReport o.chain yard.cells o.chain.trim node
        by low =
            let first = least_some nodes says low in
            let m = floor_is.only f.log o.chain.trim f.free in
            let free = m.least in
            let is = first.is in
            let above : o.chain.trim ≤ position_of says first.node = omega (arith, free, is) in
            ⊎_elim
            (λ (none : position_of says first.node ≡ 0). let zero_is : o.chain.trim ≡ 0 = omega (arith, above, none) in absurd (some zero_is))
            (λ (q : (p : Placed) × Contains says p × (p.content ≡ content.Alive first.node (position_of says first.node))).
            let e = unpack_says f.log q.0 q.1 in
            let by = told_now e.0 e.2 (f.each e.0 e.1) e.3 in
            let told = subst (ToldSo lines looks by.0 journal) (e.4 ∙ q.2) by.1 in
            let asked : AskedFor lines looks first.node Alive (TellsAtLeast (position_of says first.node)) = subst (λ who. AskedFor lines looks who Alive (TellsAtLeast (position_of says first.node))) (sym told.0) told.2 in (
              first.node,
              record { at = asked.at; line = asked.line; look = asked.look; came = asked.came; asks = asked.asks; so = tells_less o.chain.trim (position_of says first.node) asked.look above asked.so },
              record { position = position_of says first.node; above = above; says = said_shown q.0 (position_of says first.node) (content.Alive first.node (position_of says first.node)) q.1 q.2 (λ b. b) above },
            ))
            (position_says says first.node)

    trim_clean : IsCleanPoint journal o.chain.trim
    trim_clean =
        let m = floor_is.only f.log o.chain.trim f.free in
        let low = least_so.1 in
        ⊎_elim
        (λ (less : trim_point says < least_position nodes says).
        let same : trim_point says ≡ o.chain.trim = omega (arith, m.point, m.whole, low, less) in
        subst (IsCleanPoint journal) same point_clean)
        (λ (less : least_position nodes says ≤ trim_point says).
        let same : least_position nodes says ≡ o.chain.trim = omega (arith, m.least, m.whole, low, less) in
        subst (IsCleanPoint journal) same least_so.0)
        (cases_lt (trim_point says) (least_position nodes says))

  -- what was trimmed was clean
  pub clean_below : o.chain.trim ≤ length log → is_clean (λ s. 1) (asked_in 0 (take o.chain.trim log)) ≡ true
  clean_below short = ⊎_elim
      (λ (none : o.chain.trim ≡ 0). by (subst (IsCleanPoint journal) (sym none) (clean_none journal)))
      (λ (f : Frees law.floor journal o.chain.trim). by (trim_clean f))
      freed
    where
      by : IsCleanPoint journal o.chain.trim → is_clean (λ s. 1) (asked_in 0 (take o.chain.trim log)) ≡ true
      by p = ap (λ l. is_clean (λ s. 1) (asked_in 0 l)) (same_beginning law journal log p.log o.chain.trim back.legal h.front p.front short p.within) ∙ p.clean

  -- Lines and their rows

  played_lines : map (λ t. t.line) played ≡ lines
  played_lines = lines_are lines o.rows looks are.size (looks_size law meaning lines fault_lines journal looks log workers h)

  -- a line with its row
  turn_at : (at : ℕ) (line : NamedLine) → slice_get lines at ≡ Some line → (t : Played) × (slice_get played at ≡ Some t) × (t.line ≡ line)
  turn_at at line is = turn_of played at line (ap (λ ls. slice_get ls at) played_lines ∙ is)

  -- what a line of a node itself came to is told by its row
  tells_at : (at : ℕ) (t : Played) (a : _) (look : Looked) → slice_get played at ≡ Some t → t.line.asks ≡ asks.Admin a → slice_get looks at ≡ Some (Some look) → Tells None (Some look) (asks.Admin a) t.row.outcome
  tells_at at t a look is asked came =
      let k = turn_is lines o.rows looks at t is in
      let row = are.each at k.line k.look k.row k.line_at k.look_at k.row_at in
      let same_look : k.look ≡ Some look = same_some k.look (Some look) (sym k.look_at ∙ came) in
      let same_asks : k.line.asks ≡ asks.Admin a = sym (ap (λ (y : Played). y.line.asks) k.is) ∙ asked in
      let tells : Tells (desk_for workers k.line.node k.line.asks) k.look k.line.asks k.row.outcome = row.tells in
      let there : Tells None k.look (asks.Admin a) k.row.outcome = subst (λ x. Tells (desk_for workers k.line.node x) k.look x k.row.outcome) same_asks tells in
      subst (λ (x : Outcome). Tells None (Some look) (asks.Admin a) x) (sym (ap (λ (y : Played). y.row.outcome) k.is)) (subst (λ l. Tells None l (asks.Admin a) k.row.outcome) same_look there)

  turn_for : (node : ℕ) (what : _) (P : Looked → Type 0) → AskedFor lines looks node what P → (at : ℕ) × (t : Played) × (slice_get played at ≡ Some t) × (t.line.node ≡ node) × (t.line.asks ≡ asks.Admin what)
  turn_for node what P a =
      let t = turn_at a.at a.line a.came.is in
      (a.at, t.0, t.1, ap (λ (l : NamedLine). l.node) t.2 ∙ a.came.own, ap (λ (l : NamedLine). l.asks) t.2 ∙ a.asks)

  -- the row of a line by which a node reported so much tells it, or is open
  may_turn : (n node : ℕ) → AskedFor lines looks node Alive (TellsAtLeast n) → SomeTurn played (MayReport node n)
  unfolding turn_for
  may_turn n node a =
      let t = turn_for node Alive (TellsAtLeast n) a in
      let tells = may_tell a.look t.1.row.outcome n (tells_at t.0 t.1 Alive a.look t.2 t.4 a.came.looked) a.so in
      record { at = t.0; turn = t.1; is = t.2; so = record { node_is = t.3; tells = subst (λ asked. TellsFrom n asked t.1.row.outcome) (sym t.4) tells } }

  -- Each trim

  -- a row that tells one is of a line that came to it
  came_of : (j : ℕ) (t : Played) (trim : ℕ) → slice_get played j ≡ Some t → t.row.outcome ≡ out.Trimmed trim → Came lines looks t.line.node j t.line (looked.Trimmed trim)
  came_of j t trim at is =
      let k = turn_is lines o.rows looks j t at in
      let row = are.each j k.line k.look k.row k.line_at k.look_at k.row_at in
      let so = trimmed_is (desk_for workers k.line.node k.line.asks) k.look k.line.asks k.row.outcome trim row.tells (sym (ap (λ (y : Played). y.row.outcome) k.is) ∙ is) in
      record { is = k.line_at ∙ ap Some (sym (ap (λ (y : Played). y.line) k.is)); own = refl; looked = k.look_at ∙ ap Some so.1 }

  module _ (j : ℕ) (t : Played) (trim : ℕ) (at : slice_get played j ≡ Some t) (is : t.row.outcome ≡ out.Trimmed trim) where
    came : Came lines looks t.line.node j t.line (looked.Trimmed trim)
    came = came_of j t trim at is

    lowest : HadLowest lines looks (length workers) j t.line trim
    lowest = had_lowest law lines h.home (length workers) h.run looks h.courses h.lines_are h.joined t.line.node j t.line trim came

    below : (i : ℕ) (u : Played) → slice_get played i ≡ Some u → i < j → u.line.node ≡ lowest.node → (u.line.phase < t.line.phase) ⊎ (u.line.node ≡ t.line.node) → TellsUpto trim u.row.outcome
    below i u here early node behind =
        let k = turn_is lines o.rows looks i u here in
        let row = are.each i k.line k.look k.row k.line_at k.look_at k.row_at in
        let line_same : u.line ≡ k.line = ap (λ (y : Played). y.line) k.is in
        let outcome_same : u.row.outcome ≡ k.row.outcome = ap (λ (y : Played). y.row.outcome) k.is in
        let line_at : slice_get lines i ≡ Some u.line = k.line_at ∙ ap Some (sym line_same) in
        let goes : GoesFirst i u.line j t.line = ⊎_elim (λ (p : u.line.phase < t.line.phase). inl p) (λ (n : u.line.node ≡ t.line.node). inr (n, early)) behind in
        tells_upto trim u.row.outcome
        (λ n told.
        let so = alive_is (desk_for workers k.line.node k.line.asks) k.look k.line.asks k.row.outcome n row.tells (sym outcome_same ∙ told) in
        lowest.each i u.line (looked.Reported n) (record { is = line_at; own = node; looked = k.look_at ∙ ap Some so.1 }) goes)
        (λ told.
        let so = retired_is (desk_for workers k.line.node k.line.asks) k.look k.line.asks k.row.outcome row.tells (sym outcome_same ∙ told) in
        lowest.each i u.line looked.Left (record { is = line_at; own = node; looked = k.look_at ∙ ap Some so.1 }) goes)

    -- no trim that it is behind went further
    not_above : (i : ℕ) (u : Played) (less : ℕ) → slice_get played i ≡ Some u → i < j → (u.line.phase < t.line.phase) ⊎ (u.line.node ≡ t.line.node) → u.row.outcome ≡ out.Trimmed less → less ≤ trim
    not_above i u less here early behind told =
        let goes : GoesFirst i u.line j t.line = ⊎_elim (λ (p : u.line.phase < t.line.phase). inl p) (λ (n : u.line.node ≡ t.line.node). inr (n, early)) behind in
        trim_rises_to law run lines h.home (length workers) h.run looks h.courses h.lines_are h.joined floor_is t.line.node j t.line trim came u.line.node i u.line less (came_of i u less here told) goes

    -- each node may have allowed it by then
    module _ (node : ℕ) where
      -- the row of a line that asked it to report, or to leave, and isn't behind this one
      allowed_by : (what : Admin) (P : Looked → Type 0) → (a : AskedBy lines looks node (IsNotBehind j t.line) what P)
          → ((u : Played) → slice_get played a.by.at ≡ Some u → u.line.asks ≡ asks.Admin what → (u.line.asks ≡ asks.Admin Retire) ⊎ TellsFrom trim u.line.asks u.row.outcome) → MayHaveAllowed played j t trim node
      allowed_by what P a how =
          let u = turn_at a.by.at a.by.line a.by.came.is in
          let node_same : u.0.line.node ≡ a.by.line.node = ap (λ (l : NamedLine). l.node) u.2 in
          let phase_same : u.0.line.phase ≡ a.by.line.phase = ap (λ (l : NamedLine). l.phase) u.2 in
          record {
            at = a.by.at;
            turn = u.0;
            is = u.1;
            node_is = node_same ∙ a.by.came.own;
            how = how u.0 u.1 (ap (λ (l : NamedLine). l.asks) u.2 ∙ a.by.asks);
            phase = let low = a.these.0 in omega (arith, low, phase_same);
            own = λ same. a.these.1 (sym node_same ∙ same);
          }

      may_have : 1 ≤ node → node ≤ length workers → (trim ≡ 0) ⊎ MayHaveAllowed played j t trim node
      may_have low high = ⊎_elim
          (λ (none : trim ≡ 0). inl none)
          (λ k. ⊎_elim
          (λ (a : AskedBy lines looks node (IsNotBehind j t.line) Retire (λ look. Unit {0})). inr (allowed_by Retire (λ look. Unit {0}) a (λ u here asked. inl asked)))
          (λ (a : AskedBy lines looks node (IsNotBehind j t.line) Alive (TellsAtLeast trim)).
          inr (allowed_by Alive (TellsAtLeast trim) a (λ u here asked.
          inr (subst (λ x. TellsFrom trim x u.row.outcome) (sym asked) (may_tell a.by.look u.row.outcome trim (tells_at a.by.at u Alive a.by.look here asked a.by.came.looked) a.by.so)))))
          k)
          (trim_allowed law run lines h.home (length workers) h.run looks h.courses h.lines_are h.joined floor_is t.line.node j t.line trim came node low high)

    pub trim_of_row : length yard.disks ≡ length workers → LineTrimmed played (length yard.disks) o.chain.trim j t trim
    trim_of_row nodes = record {
      upto = let up = (trim_stands law lines h.home (length workers) h.run looks h.courses h.lines_are h.joined t.line.node j t.line trim came).0 in let same = trim_same ∙ ap (λ (es : List Event). trim_of (state_of es)) (sym h.seen_is) in omega (arith, up, same);
      node = lowest.node;
      least = lowest.least;
      most = let most = lowest.most in omega (arith, most, nodes);
      told = below;
      rises = not_above;
      allowed = λ node low high. may_have node low (omega (arith, high, nodes));
    }

  -- The end

  module _ (told : (k : ℕ) → 1 ≤ k → k ≤ length workers → (trim_of (state_of h.run.seen) ≡ 0) ⊎ (AskedFor lines looks k Retire (λ look. Unit {0}) ⊎ AskedFor lines looks k Alive (TellsAtLeast (trim_of (state_of h.run.seen))))) where
    now_trim : trim_of (state_of h.run.seen) ≡ o.chain.trim
    now_trim = ap (λ (es : List Event). trim_of (state_of es)) h.seen_is ∙ sym trim_same

    -- a line asks for a trim, where something is trimmed
    trim_line : o.chain.trim ≢ 0 → SomeTurn played (λ t. t.line.asks ≡ asks.Admin Trim)
    trim_line some = ⊎_elim (λ (none : o.chain.trim ≡ 0). absurd (some none)) by freed
      where
        asked : (e : Entry) (q : Placed) (n : ℕ) → Contains (appended journal) e → Contains (unpack 0 e) q → q.content ≡ content.Trim n → SomeTurn played (λ t. t.line.asks ≡ asks.Admin Trim)
        asked e q n has says is =
            let own = own_items e q has says in
            let k : HasAsked lines own.0 Trim = subst (IsLineOf lines own.0) is own.1 in
            let t = turn_at k.at k.line k.is in
            record { at = k.at; turn = t.0; is = t.1; so = ap (λ (l : NamedLine). l.asks) t.2 ∙ k.asks }

        by : Frees law.floor journal o.chain.trim → SomeTurn played (λ t. t.line.asks ≡ asks.Admin Trim)
        by f =
            let m = floor_is.only f.log o.chain.trim f.free in
            ⊎_elim
            (λ (zero_is : trim_point (unpack_all 0 f.log) ≡ 0). let point = m.point in let none : o.chain.trim ≡ 0 = omega (arith, point, zero_is) in absurd (some none))
            (λ (p : (p : Placed) × Contains (unpack_all 0 f.log) p × (p.content ≡ content.Trim (trim_point (unpack_all 0 f.log)))).
            let e = unpack_says f.log p.0 p.1 in
            asked e.0 e.2 (trim_point (unpack_all 0 f.log)) (f.each e.0 e.1) e.3 (e.4 ∙ p.2))
            (point_says (unpack_all 0 f.log))

    leaves : (node : ℕ) → AskedFor lines looks node Retire (λ look. Unit {0}) → SomeTurn played (IsToLeave node)
    leaves node a = let t = turn_for node Retire (λ look. Unit {0}) a in record { at = t.0; turn = t.1; is = t.2; so = record { node_is = t.3; asks = t.4 } }

    kept : Frees law.floor journal o.chain.trim → (node : ℕ) → 1 ≤ node → node ≤ length workers → o.chain.trim ≢ 0 → SomeTurn played (IsToLeave node) ⊎ IsReported played o.chain yard.cells o.chain.trim node
    kept f node low high some = ⊎_elim
        (λ (a : AskedFor lines looks node Retire (λ look. Unit {0})). inl (leaves node a))
        (λ (says : SaysReport o.chain yard.cells o.chain.trim node). ⊎_elim
        (λ (none : trim_of (state_of h.run.seen) ≡ 0). absurd (some (sym now_trim ∙ none)))
        (λ k. ⊎_elim
        (λ (a : AskedFor lines looks node Retire (λ look. Unit {0})). inl (leaves node a))
        (λ (a : AskedFor lines looks node Alive (TellsAtLeast (trim_of (state_of h.run.seen)))).
        inr (record { line = may_turn o.chain.trim node (subst (λ n. AskedFor lines looks node Alive (TellsAtLeast n)) now_trim a); says = says }))
        k)
        (told node low high))
        (trim_kept f node low high some)

    some_reported : Frees law.floor journal o.chain.trim → o.chain.trim ≢ 0 → (node : ℕ) × IsReported played o.chain yard.cells o.chain.trim node
    some_reported f some = let r = trim_some f some in (r.0, record { line = may_turn o.chain.trim r.0 r.1; says = r.2 })

    pub trims_ended : length yard.disks ≡ length workers → o.chain.trim ≤ o.end
        → ((j : ℕ) (t : Played) (trim : ℕ) → slice_get played j ≡ Some t → t.row.outcome ≡ out.Trimmed trim → o.chain.trim ≡ 0 → SaysTrim o.chain yard.cells 0)
        → TrimsEnded played (length yard.disks) o.chain yard.cells o.end
    trims_ended nodes short stands = record {
      each = λ j t trim at is. trim_of_row j t trim at is nodes;
      within = short;
      stand = stands;
      rests = λ some. ⊎_elim (λ (none : o.chain.trim ≡ 0). absurd (some none)) (λ (f : Frees law.floor journal o.chain.trim). trim_rests f some) freed;
      asked = trim_line;
      some = λ some. ⊎_elim (λ (none : o.chain.trim ≡ 0). absurd (some none)) (λ (f : Frees law.floor journal o.chain.trim). some_reported f some) freed;
      kept = λ node low high some. ⊎_elim (λ (none : o.chain.trim ≡ 0). absurd (some none)) (λ (f : Frees law.floor journal o.chain.trim). kept f node low (omega (arith, high, nodes)) some) freed;
    }
