-- What nodes report of the log: where each command of earlier phases is placed in its phase, a report is above them all. And
-- that nodes leave.
use Rattle.std.proofs.Common.{◌≡◌, refl, sym, ap, ◌∙◌, subst, inl, inr, ℕ, suc, ◌+◌, ◌<◌, ◌≤◌, Bool, true, false, ◌&&◌, ◌==◌, List, [], ◌∷◌, Option, Some, None, length, map, take, is_some, slice_get, nat_lt, nat_le, arith, le-leb, lt-ltb, ltb-true, eq-eqb, eqb-true, length-take-le}
use Rattle.std.specs.List.{AllByRecursion, list_all, list_any}
use Rattle.std.proofs.lemmas.Bool.{and_from, and_parts, both_ways, leb-true, or_left, or_right}
use Rattle.std.proofs.lemmas.List.{take-take}
use Rattle.delos_types.specs.declared.entry.Entry.{Entry}
use Rattle.delos_types.specs.declared.place.Place.{Place}
use Rattle.engine_api.specs.declared.act.Act.{Act}
use Rattle.engine_api.specs.declared.content.Content.{Content}
use Rattle.engine_api.specs.declared.content.Content.TheVariants as content
use Rattle.engine_api.specs.declared.content.Placed.{Placed}
use Rattle.engine_api.specs.Acted.{Asked, asked_in}
use Rattle.engine_api.specs.Members.{clean_at, clean_position, is_leave_of}
use Rattle.engine_api.specs.Order.{gap_from, is_clean}
use Rattle.loglet_api.specs.View.{LogletView}
use Rattle.delos_types.specs.declared.chain.Chain.{Chain}
use Rattle.script_text.specs.declared.line.Admin.TheVariants.{Extend, Alive, Trim, Retire}
use Rattle.script_text.specs.declared.asks.Asks.{Asks}
use Rattle.script_text.specs.declared.asks.Asks.TheVariants as asks
use Rattle.script_text.specs.declared.faults.FaultLine.{FaultLine}
use Rattle.row_text.specs.declared.row.Outcome.{Outcome}
use Rattle.row_text.specs.declared.row.Outcome.TheVariants as out
use Rattle.fitting_run.specs.declared.answered.Answered.{Answered}
use Rattle.fitting_run.specs.declared.told.Told.{Told}
use Rattle.fitting_run.specs.Answered.{before_barrier, is_logged, is_placed_on_time, logs, on_time, place_on_time}
use Rattle.fitting_run.specs.Fits.{told_of}
use Rattle.fitting_run.specs.Reports.{ReportsStand, has_leave, is_alive_at, is_done, is_from, is_retired, is_within, items_of, lies_below, reported, reports_all, stands_in_log, stays_above}
use Rattle.fitting_run.specs.Tests.{◌⇒◌}
use Rattle.fitting_run.specs.Replacements.{is_behind}
use Rattle.fitting_run.specs.Yard.{Shown}
use Rattle.log_laws.proofs.Pairs.{all-imply}
use Rattle.run_laws.specs.Ended.{CameOf, Fault, HasReported, IsOfEarlier, LogsThis, Played, RunEnded, SaysFrom, SessionEnd, StandsFrom, rank_in, session_in}
use Rattle.run_laws.proofs.Answering.{its-act}
use Rattle.run_laws.proofs.Behind.{after-each}
use Rattle.run_laws.proofs.Clean.{clean-itself, clean-most, clean-within}
use Rattle.run_laws.proofs.Fronts.{below-gap}
use Rattle.run_laws.proofs.Members.{Among, all-at, all-of, all-test, among-get, among-map, contained-among, contains-among}
use Rattle.run_laws.proofs.Orders.{OnTime, Turn, all_turns, tails-rise, turn-on_time}
use Rattle.run_laws.proofs.Replacing.{behind-is, pairs-places}
use Rattle.run_laws.proofs.Telling.{tell, told-is}
use Rattle.run_laws.proofs.Tests.{each_pair-from, implies-from, where_some-from}

-- Rows and items

pub nothing : {A : Type 0} (x : A) → None ≡ Some x → ⊥
nothing x e = cc

-- a row that reports says what the log has of it
has-reported : (log : List Entry) (tails : ℕ → ℕ) (faults : List Fault) (ends : ℕ → SessionEnd) (before : List Played) (t : Played) (a : Asks) (o : Outcome) (d : ℕ)
    → CameOf log tails faults ends before t a o → reported o ≡ Some d → HasReported log tails t.line.phase d
has-reported log tails faults ends before t (asks.Admin Alive) (out.Alive clean) d h e =
    let same : clean ≡ d = cc in
    subst (HasReported log tails t.line.phase) same h
has-reported log tails faults ends before t (asks.Admin Extend) (out.Alive clean) d h e = absurd h
has-reported log tails faults ends before t (asks.Admin Trim) (out.Alive clean) d h e = absurd h
has-reported log tails faults ends before t (asks.Admin Retire) (out.Alive clean) d h e = absurd h
has-reported log tails faults ends before t (asks.Logged s r c) (out.Alive clean) d h e = absurd h
has-reported log tails faults ends before t (asks.Look s q) (out.Alive clean) d h e = absurd h
has-reported log tails faults ends before t a o d h e = absurd (nothing d e)

logs-asked : (a : Asks) (x : Asked) → LogsThis a x → (logs a ≡ true) × (x.session ≡ session_in a) × (x.rank ≡ rank_in a)
logs-asked (asks.Logged s r c) x h = (refl, h.0, h.1)
logs-asked (asks.Look s q) x h = absurd h
logs-asked (asks.Admin a) x h = absurd h

some-place : (o : Option Place) → is_some o ≡ true → (p : Place) × (o ≡ Some p)
some-place None e = absurd (both_ways false refl e)
some-place (Some p) e = (p, refl)

then-is : (t u : Bool) → (t ⇒ u) ≡ true → t ≡ true → u ≡ true
then-is t u h e = subst (λ b. (b ⇒ u) ≡ true) e h

test-at : {A : Type 0} (p : A → Bool) (xs : List A) (x : A) → list_all p xs ≡ true → Among xs x → p x ≡ true
test-at p [] x h m = absurd m
test-at p (y ∷ ys) x h m = elim m [
  | inl same ↦ subst (λ z. p z ≡ true) same (and_parts (p y) (list_all p ys) h).0
  | inr later ↦ test-at p ys x (and_parts (p y) (list_all p ys) h).1 later
]

test-all : {A : Type 0} (p : A → Bool) (xs : List A) → ((x : A) → Among xs x → p x ≡ true) → list_all p xs ≡ true
test-all p [] f = refl
test-all p (x ∷ xs) f = and_from (p x) (list_all p xs) (f x (inl refl)) (test-all p xs (λ y m. f y (inr m)))

-- some item passes a test that one of them passes
pub any-item : (p : Placed → Bool) (ps : List Placed) (x : Placed) → Among ps x → p x ≡ true → list_any p ps ≡ true
any-item p [] x m is = absurd m
any-item p (y ∷ ps) x m is =
    elim m [
      | inl same ↦ or_left (p y) (list_any p ps) (ap p same ∙ is)
      | inr later ↦ or_right (p y) (list_any p ps) (any-item p ps x later is)
    ]

-- what the log says, some item of it says
pub says-item : (chain : Chain) (cells : List LogletView) (from : ℕ) (c : Content) (test : Content → Bool) → SaysFrom chain cells from c → test c ≡ true → list_any (λ p. test p.content && nat_le from p.place.pos) (items_of chain cells) ≡ true
says-item chain cells from c test h is =
    any-item (λ (p : Placed). test p.content && nat_le from p.place.pos) (items_of chain cells) h.placed (contained-among (items_of chain cells) h.placed h.among)
    (and_from (test h.placed.content) (nat_le from h.placed.place.pos) (ap test h.content_is ∙ is) (le-leb from h.placed.place.pos h.above))

pub says-some : (chain : Chain) (cells : List LogletView) (from : ℕ) (c : Content) (test : Content → Bool) → SaysFrom chain cells from c → test c ≡ true → list_any (λ p. test p.content) (items_of chain cells) ≡ true
says-some chain cells from c test h is =
    any-item (λ (p : Placed). test p.content) (items_of chain cells) h.placed (contained-among (items_of chain cells) h.placed h.among) (ap test h.content_is ∙ is)

-- what a row says stands there
stands-test : (n : ℕ) (o : Outcome) → StandsFrom n o → is_from n o ≡ true
stands-test n (out.Placed place reply late) h = le-leb n place.pos h
stands-test n (out.Read after found) h = le-leb n after h
stands-test n (out.Alive clean) h = le-leb n clean h
stands-test n o h = refl

-- What a row says doesn't stand below the tail at which its phase began. What it reports isn't less than what is clean of the log that was
-- there then.
came-from : (log : List Entry) (tails : ℕ → ℕ) (faults : List Fault) (ends : ℕ → SessionEnd) (before : List Played) (t : Played) (n : ℕ) (a : Asks) (o : Outcome)
    → n ≤ tails t.line.phase → clean_at log n ≡ true → CameOf log tails faults ends before t a o → StandsFrom n o
came-from log tails faults ends before t n (asks.Logged s r c) (out.Placed place reply late) low clean h = let from = subst (λ (p : Place). tails t.line.phase ≤ p.pos) (sym h.place_is) h.from in omega (arith, low, from)
came-from log tails faults ends before t n (asks.Logged s r c) (out.Open cause) low clean h = tt
came-from log tails faults ends before t n (asks.Logged s r c) o low clean h = absurd h
came-from log tails faults ends before t n (asks.Look s q) (out.Read after found) low clean h = let from = h.from in omega (arith, low, from)
came-from log tails faults ends before t n (asks.Look s q) (out.Open cause) low clean h = tt
came-from log tails faults ends before t n (asks.Look s q) o low clean h = absurd h
came-from log tails faults ends before t n (asks.Admin Extend) (out.Placed place reply late) low clean h = absurd h
came-from log tails faults ends before t n (asks.Admin Alive) (out.Placed place reply late) low clean h = absurd h
came-from log tails faults ends before t n (asks.Admin Trim) (out.Placed place reply late) low clean h = absurd h
came-from log tails faults ends before t n (asks.Admin Retire) (out.Placed place reply late) low clean h = absurd h
came-from log tails faults ends before t n (asks.Admin Extend) (out.Read after found) low clean h = absurd h
came-from log tails faults ends before t n (asks.Admin Alive) (out.Read after found) low clean h = absurd h
came-from log tails faults ends before t n (asks.Admin Trim) (out.Read after found) low clean h = absurd h
came-from log tails faults ends before t n (asks.Admin Retire) (out.Read after found) low clean h = absurd h
came-from log tails faults ends before t n (asks.Admin Alive) (out.Alive d) low clean h =
    let from = h.from in
    let within = h.within in
    let front : clean_at (take h.upto log) n ≡ true = ap (λ l. is_clean (λ s. 1) (asked_in 0 l)) (take-take n h.upto log (omega (arith, low, from))) ∙ clean in
    let long = length-take-le h.upto log h.within in
    let most = clean-most (take h.upto log) n (omega (arith, low, from, long)) front in
    let is = h.is in
    omega (arith, most, is)
came-from log tails faults ends before t n (asks.Admin Extend) (out.Alive d) low clean h = absurd h
came-from log tails faults ends before t n (asks.Admin Trim) (out.Alive d) low clean h = absurd h
came-from log tails faults ends before t n (asks.Admin Retire) (out.Alive d) low clean h = absurd h
came-from log tails faults ends before t n (asks.Admin a) (out.Extended version start) low clean h = tt
came-from log tails faults ends before t n (asks.Admin a) (out.Moved version) low clean h = tt
came-from log tails faults ends before t n (asks.Admin a) out.NoSpare low clean h = tt
came-from log tails faults ends before t n (asks.Admin a) (out.Trimmed trim) low clean h = tt
came-from log tails faults ends before t n (asks.Admin a) out.Retired low clean h = tt
came-from log tails faults ends before t n (asks.Admin a) (out.Open cause) low clean h = tt

is-left : (o : Outcome) → is_retired o ≡ true → o ≡ out.Retired
is-left out.Retired e = refl
is-left o e = absurd (both_ways false refl e)

pub is-alive : (o : Outcome) (d : ℕ) → reported o ≡ Some d → o ≡ out.Alive d
is-alive (out.Alive clean) d e = cc
is-alive o d e = absurd (nothing d e)

pub among-at : (ts : List Played) (t : Played) → Among ts t → (i : ℕ) × (slice_get ts i ≡ Some t)
among-at [] t m = absurd m
among-at (u ∷ ts) t m = elim m [
  | inl same ↦ (0, ap (λ x. Some x) same)
  | inr later ↦ (let rest = among-at ts t later in (suc rest.0, rest.1))
]

module _ (played : List Played) (fault_lines : List FaultLine) (o : Told) (yard : Shown) (e : RunEnded played fault_lines o yard) where
  abbrev Reports : Played → Type 0
  Reports t = (d : ℕ) → reported t.row.outcome ≡ Some d → HasReported e.log e.tails t.line.phase d

  all_reported : AllByRecursion Reports played
  all_reported =
      after-each (Turn played fault_lines o yard e) Reports [] played
      (λ b t h d is. has-reported e.log e.tails e.faults e.ends b t t.line.asks t.row.outcome d h.0.1.came is) (all_turns played fault_lines o yard e)

  -- a command that is placed in its phase acted there, and its rank is none of 0
  record Acted (t : Played) (p : Place) : Type 0 where
    pub placed : OnTime played fault_lines o yard e t p
    pub rank : 1 ≤ rank_in t.line.asks

  abbrev Acts : Played → Type 0
  Acts t = (p : Place) → place_on_time t.row.outcome ≡ Some p → Acted t p

  all_act : AllByRecursion Acts played
  all_act =
      after-each (Turn played fault_lines o yard e) Acts [] played (λ b t h p is.
      let x = turn-on_time played fault_lines o yard e b t h p is in
      record { placed = x; rank = let next = h.1 x.logged in omega (arith, next) }) (all_turns played fault_lines o yard e)

  -- the tail at which a phase begins is above the places of an earlier phase
  below-tail : (t : Played) (p : Place) (phase : ℕ) → Acted t p → t.line.phase < phase → p.pos < e.tails phase
  below-tail t p phase a early =
      let rise : e.tails (t.line.phase + 1) ≤ e.tails phase = tails-rise e.tails e.rise (t.line.phase + 1) phase (omega (arith, early)) in
      let upto = a.placed.upto in
      omega (arith, rise, upto)

  -- what stands below that tail and was placed in its phase acts below that tail
  acts-early : (t : Played) (p : Place) (phase : ℕ) (x : Asked) → e.tails phase ≤ length e.log → Acted t p → t.line.phase < phase → x.session ≡ session_in t.line.asks → x.rank ≡ rank_in t.line.asks
      → nat_lt x.rank (gap_from (asked_in 0 (take (e.tails phase) e.log)) x.session 1) ≡ true
  acts-early t p phase x short a early session rank =
      let n = e.tails phase in
      let act : Act = a.placed.act in
      let its = its-act e.log t.line.asks act a.placed.found in
      let low : act.place.pos < n = subst (λ (q : Place). q.pos < n) a.placed.place_is (below-tail t p phase a early) in
      let above : 1 ≤ act.rank = (let is = its.rank in let some = a.rank in omega (arith, is, some)) in
      let here : nat_lt act.rank (gap_from (asked_in 0 (take n e.log)) act.session 1) ≡ true = sym (below-gap e.log n act short its.among above) ∙ lt-ltb act.place.pos n low in
      subst (λ r. nat_lt r (gap_from (asked_in 0 (take n e.log)) x.session 1) ≡ true) (its.rank ∙ sym rank)
      (subst (λ s. nat_lt act.rank (gap_from (asked_in 0 (take n e.log)) s 1) ≡ true) (its.session ∙ sym session) here)

  module _ (t : Played) (done : list_all (is_done (tell t)) (map tell played) ≡ true) where
    -- a command of an earlier phase is placed in its phase
    placed-early : (u : Played) → Among played u → logs u.line.asks ≡ true → u.line.phase < t.line.phase → (p : Place) × Acted u p
    placed-early u m logged early =
        let test = test-at (is_done (tell t)) (map tell played) (tell u) done (among-map tell played u m) in
        let placed : is_placed_on_time (tell u) ≡ true =
        then-is (is_logged (tell u) && before_barrier (tell u) (tell t)) (is_placed_on_time (tell u)) test
        (and_from (is_logged (tell u)) (before_barrier (tell u) (tell t)) logged (lt-ltb u.line.phase t.line.phase early)) in
        let p = some-place (place_on_time u.row.outcome) placed in
        (p.0, all-at Acts played u all_act m p.0 p.1)

    -- so what stood in the log when this phase began has acted there
    acted-early : (x : Asked) → e.tails t.line.phase ≤ length e.log → Among (asked_in 0 (take (e.tails t.line.phase) e.log)) x
        → nat_lt x.rank (gap_from (asked_in 0 (take (e.tails t.line.phase) e.log)) x.session 1) ≡ true
    acted-early x short m =
        let from : IsOfEarlier played t.line.phase x = e.early t.line.phase x (contains-among (asked_in 0 (take (e.tails t.line.phase) e.log)) x m) in
        let u : Played = from.turn in
        let asked = logs-asked u.line.asks x from.logs in
        let placed = placed-early u (among-get played from.at u from.is) asked.0 from.early in
        acts-early u placed.0 t.line.phase x short placed.1 from.early asked.1 asked.2

    clean-early : e.tails t.line.phase ≤ length e.log → clean_at e.log (e.tails t.line.phase) ≡ true
    clean-early short =
        let xs = asked_in 0 (take (e.tails t.line.phase) e.log) in
        test-all (λ (x : Asked). nat_lt x.rank (gap_from xs x.session 1)) xs (λ x m. acted-early x short m)

    -- and the report is above it
    reports-early : (d : ℕ) → HasReported e.log e.tails t.line.phase d → e.tails t.line.phase ≤ d
    reports-early d h =
        let n = e.tails t.line.phase in
        let low = take h.upto e.log in
        let within = h.within in
        let from = h.from in
        let is = h.is in
        let long : length low ≡ h.upto = length-take-le h.upto e.log h.within in
        let clean : clean_at low n ≡ true = ap (λ l. is_clean (λ s. 1) (asked_in 0 l)) (take-take n h.upto e.log h.from) ∙ clean-early (omega (arith, within, from)) in
        let most : n ≤ clean_position low = clean-most low n (omega (arith, long, from)) clean in
        omega (arith, most, is)

    all_below : (d : ℕ) → HasReported e.log e.tails t.line.phase d → list_all (lies_below (tell t) d) (map tell played) ≡ true
    all_below d h =
        all-test tell (lies_below (tell t) d) played (all-of (λ (u : Played). lies_below (tell t) d (tell u) ≡ true) played (λ u m.
        implies-from (before_barrier (tell u) (tell t)) (on_time u.row.outcome (λ p. nat_lt p.pos d)) (λ early.
        where_some-from (place_on_time u.row.outcome) (λ p. nat_lt p.pos d) (λ p is.
        let low = below-tail u p t.line.phase (all-at Acts played u all_act m p is) (ltb-true u.line.phase t.line.phase early) in
        let high = reports-early d h in
        lt-ltb p.pos d (omega (arith, low, high))))))

  within-end : (t : Played) → Reports t → is_within o.end (tell t) ≡ true
  within-end t h =
      where_some-from (reported t.row.outcome) (λ d. nat_le d o.end) (λ d is.
      let k = h d is in
      let low = clean-within (take k.upto e.log) in
      let long = length-take-le k.upto e.log k.within in
      let within = k.within in
      let clean = k.is in
      let end = e.end in
      le-leb d o.end (omega (arith, low, long, within, clean, end)))

  covers : (t : Played) → Reports t → reports_all (map tell played) (tell t) ≡ true
  covers t h =
      where_some-from (reported t.row.outcome) (λ d. list_all (is_done (tell t)) (map tell played) ⇒ list_all (lies_below (tell t) d) (map tell played)) (λ d is.
      implies-from (list_all (is_done (tell t)) (map tell played)) (list_all (lies_below (tell t) d) (map tell played)) (λ done. all_below t done d (h d is)))

  -- What comes behind a report

  abbrev Stands : Played → Type 0
  Stands t = (n : ℕ) → n ≤ e.tails t.line.phase → clean_at e.log n ≡ true → StandsFrom n t.row.outcome

  all_stand : AllByRecursion Stands played
  all_stand = after-each (Turn played fault_lines o yard e) Stands [] played (λ b t h n low clean. came-from e.log e.tails e.faults e.ends b t n t.line.asks t.row.outcome low clean h.0.1.came) (all_turns played fault_lines o yard e)

  -- what is reported is clean
  reports-clean : (t : Played) (d : ℕ) → HasReported e.log e.tails t.line.phase d → clean_at e.log d ≡ true
  reports-clean t d h =
      let front = take h.upto e.log in
      let here : clean_at front d ≡ true = ap (clean_at front) h.is ∙ clean-itself front in
      let low = clean-within front in
      let long = length-take-le h.upto e.log h.within in
      let is = h.is in
      sym (ap (λ l. is_clean (λ s. 1) (asked_in 0 l)) (take-take d h.upto e.log (omega (arith, low, long, is)))) ∙ here

  -- a report isn't above the tail at which the next phase begins
  reports-low : (t : Played) (d : ℕ) → HasReported e.log e.tails t.line.phase d → d ≤ e.tails (t.line.phase + 1)
  reports-low t d h = h.by

  stays-above : (i j : ℕ) (t u : Played) → slice_get played i ≡ Some t → slice_get played j ≡ Some u → i < j → stays_above (tell t) (tell u) ≡ true
  stays-above i j t u at there low =
      implies-from (is_behind (tell t) (tell u)) _ (λ behind.
      where_some-from (reported t.row.outcome) (λ d. is_from d u.row.outcome) (λ d is. stands-test d u.row.outcome (elim (behind-is (tell t) (tell u) behind) [
        | inl early ↦
            let h = all-at Reports played t all_reported (among-get played i t at) d is in
            let rise : e.tails (t.line.phase + 1) ≤ e.tails u.line.phase = tails-rise e.tails e.rise (t.line.phase + 1) u.line.phase (omega (arith, early)) in
            let under = reports-low t d h in
            all-at Stands played u all_stand (among-get played j u there) d (omega (arith, rise, under)) (reports-clean t d h)
        | inr same ↦ e.above i j t u d at there low same (is-alive t.row.outcome d is)
      ])))

  -- where the log isn't trimmed above it, it has the report
  in-log : (t : Played) → Among played t → stands_in_log o.chain.trim (items_of o.chain yard.cells) (tell t) ≡ true
  in-log t m =
      where_some-from (reported t.row.outcome) _ (λ d is.
      implies-from (nat_le o.chain.trim d) _ (λ low.
      let place = among-at played t m in
      let stands = e.reported place.0 t d place.1 (is-alive t.row.outcome d is) (leb-true o.chain.trim d low) in
      says-item o.chain yard.cells d (content.Alive t.line.node d) (is_alive_at t.line.node d) stands
      (and_from (t.line.node == t.line.node) (d == d) (eq-eqb t.line.node t.line.node refl) (eq-eqb d d refl))))

  -- and that the node leaves
  left-in-log : (t : Played) → Among played t → has_leave o.chain.trim (items_of o.chain yard.cells) (tell t) ≡ true
  left-in-log t m =
      implies-from (is_retired t.row.outcome) _ (λ is.
      implies-from (o.chain.trim == 0) _ (λ none.
      let trim : o.chain.trim ≡ 0 = eqb-true o.chain.trim 0 none in
      let place = among-at played t m in
      says-some o.chain yard.cells 0 (content.Leave t.line.node) (is_leave_of t.line.node) (e.left place.0 t place.1 (is-left t.row.outcome is) trim) (eq-eqb t.line.node t.line.node refl)))

  each-reports : (test : Answered → Bool) → ((t : Played) → Reports t → test (tell t) ≡ true) → list_all test (map tell played) ≡ true
  each-reports test f = all-test tell test played (all-imply Reports (λ t. test (tell t) ≡ true) played f all_reported)

  told-stand : ReportsStand (map tell played) o.chain.trim (items_of o.chain yard.cells) o.end
  told-stand = record {
    within = each-reports (is_within o.end) within-end;
    all = each-reports (reports_all (map tell played)) covers;
    above = each_pair-from tell stays_above played (pairs-places (λ t u. stays_above (tell t) (tell u) ≡ true) played stays-above);
    stand = all-test tell (stands_in_log o.chain.trim (items_of o.chain yard.cells)) played
        (all-of (λ (t : Played). stands_in_log o.chain.trim (items_of o.chain yard.cells) (tell t) ≡ true) played in-log);
    left = all-test tell (has_leave o.chain.trim (items_of o.chain yard.cells)) played
        (all-of (λ (t : Played). has_leave o.chain.trim (items_of o.chain yard.cells) (tell t) ≡ true) played left-in-log);
  }

pub reports-stand : (played : List Played) (fault_lines : List FaultLine) (o : Told) (yard : Shown) → RunEnded played fault_lines o yard → ReportsStand (told_of (map (λ t. t.line) played) o) o.chain.trim (items_of o.chain yard.cells) o.end
reports-stand played fault_lines o yard e = subst (λ told. ReportsStand told o.chain.trim (items_of o.chain yard.cells) o.end) (sym (told-is played o e.rows)) (told-stand played fault_lines o yard e)
