-- The placed rows tell what acts in the log, all of it.
use Rattle.std.proofs.Common.{◌≡◌, refl, sym, ap, ◌∙◌, subst, inl, inr, ℕ, Bool, true, List, [], ◌∷◌, ◌++◌, Some, None, arith, map, flat_map, ◌==◌, ◌&&◌, eqb-true, eq-eqb}
use Rattle.std.specs.List.{AllByRecursion}
use Rattle.std.proofs.lemmas.Bool.{and_parts, and_from}
use Rattle.delos_types.specs.declared.entry.Entry.{Entry}
use Rattle.table_core.specs.declared.command.Command.{Command}
use Rattle.engine_api.specs.declared.act.Act.{Act}
use Rattle.engine_api.specs.Acted.{Asked, asked_in}
use Rattle.log_laws.specs.State.{acts_in}
use Rattle.script_text.specs.declared.line.Session.{Session}
use Rattle.script_text.specs.declared.asks.Asks.{Asks}
use Rattle.script_text.specs.declared.asks.Asks.TheVariants as asks
use Rattle.script_text.specs.declared.faults.FaultLine.{FaultLine}
use Rattle.row_text.specs.declared.row.Outcome.{Outcome}
use Rattle.row_text.specs.declared.row.Outcome.TheVariants as out
use Rattle.fitting_run.specs.declared.told.Told.{Told}
use Rattle.fitting_run.specs.declared.answered.Answered.{Answered}
use Rattle.fitting_run.specs.Yard.{Shown}
use Rattle.fitting_run.specs.Acts.{act_of, placed_acts}
use Rattle.log_laws.specs.Appearing.{HasAppeared}
use Rattle.log_laws.proofs.Acting.{in_order, appeared}
use Rattle.run_laws.specs.Ended.{Played, Fault, SessionEnd, LineEnded, AllAfter, CameOf, LogsThis, RunEnded, act_of_rank}
use Rattle.run_laws.proofs.Pairs.{pair-at}
use Rattle.run_laws.proofs.Members.{Among, AllAmong, all-at, found-among, among-found, contains-among, among-get, among-map, among-flat_map, all-flat_map, all-of}
use Rattle.run_laws.proofs.InOrder.{in_order-is}
use Rattle.run_laws.proofs.Ranks.{RanksRise, ranks-rise}
use Rattle.run_laws.proofs.Lines.{one-line}
use Rattle.run_laws.proofs.Telling.{tell}

-- What became of a line's command

-- it acted, with the place and the reply that its row has, or it didn't act
abbrev Fate : List Entry → Asks → Outcome → Type 0
Fate log (asks.Logged s r c) (out.Placed place reply late) = (a : Act) × (act_of_rank log s.id r ≡ Some a) × (place ≡ a.place) × (reply ≡ a.reply)
Fate log (asks.Logged s r c) (out.Open cause) = act_of_rank log s.id r ≡ None
Fate log (asks.Logged s r c) answered = ⊥
Fate log (asks.Look s q) answered = Unit {0}
Fate log (asks.Admin a) answered = Unit {0}

fate : (log : List Entry) (tails : ℕ → ℕ) (faults : List Fault) (ends : ℕ → SessionEnd) (before : List Played) (t : Played) (a : Asks) (o : Outcome) → CameOf log tails faults ends before t a o → Fate log a o
fate log tails faults ends before t (asks.Logged s r c) (out.Placed place reply late) h = (h.act, h.found, h.place_is, h.reply_is)
fate log tails faults ends before t (asks.Logged s r c) (out.Open cause) h = h.none
fate log tails faults ends before t (asks.Logged s r c) o h = absurd h
fate log tails faults ends before t (asks.Look s q) o h = tt
fate log tails faults ends before t (asks.Admin a) o h = tt

fates : (log : List Entry) (tails : ℕ → ℕ) (faults : List Fault) (ends : ℕ → SessionEnd) (before ts : List Played) → AllAfter (LineEnded log tails faults ends) before ts → AllByRecursion (λ t. Fate log t.line.asks t.row.outcome) ts
fates log tails faults ends before [] h = tt
fates log tails faults ends before (t ∷ ts) h = (fate log tails faults ends before t t.line.asks t.row.outcome h.0.came, fates log tails faults ends (before ++ t ∷ []) ts h.1)

-- The act of a rank

abbrev pub is_rank : ℕ → ℕ → Act → Bool
is_rank s r a = (a.session == s) && (a.rank == r)

pub same_some : {A : Type 0} (x y : A) → Some x ≡ Some y → x ≡ y
same_some x y e = cc

-- an act is the one that is found of its rank
pub act-found : (log : List Entry) (a : Act) (s r : ℕ) → Among (acts_in log) a → a.session ≡ s → a.rank ≡ r → act_of_rank log s r ≡ Some a
act-found log a s r m session rank =
    let own : is_rank s r a ≡ true = and_from _ _ (eq-eqb a.session s session) (eq-eqb a.rank r rank) in
    let found = among-found (is_rank s r) (acts_in log) a m own in
    let b : Act = found.0 in
    let is = found-among (is_rank s r) (acts_in log) b found.1 in
    let parts = and_parts (b.session == s) (b.rank == r) is.1 in
    let b_session : b.session ≡ s = eqb-true b.session s parts.0 in
    let b_rank : b.rank ≡ r = eqb-true b.rank r parts.1 in
    elim (pair-at RanksRise (acts_in log) b a (ranks-rise log) is.0 m) [
      | inl same ↦ found.1 ∙ ap Some same
      | inr apart ↦ elim apart [
        | inl low ↦ absurd (let less = low (b_session ∙ sym session) in omega arith)
        | inr high ↦ absurd (let less = high (session ∙ sym b_session) in omega arith)
      ]
    ]

-- the line that logged this act's command
record HasLine (played : List Played) (a : Act) : Type 0 where
  turn : Played
  among : Among played turn
  session : Session
  rank : ℕ
  command : Command
  asks_is : turn.line.asks ≡ asks.Logged session rank command
  session_is : a.session ≡ session.id
  rank_is : a.rank ≡ rank
  command_is : a.command ≡ Some command

logged-line : (played : List Played) (a : Act) (turn : Played) (x : Asked) (q : Asks) → Among played turn → turn.line.asks ≡ q → a.session ≡ x.session → a.rank ≡ x.rank → a.command ≡ x.command → LogsThis q x → HasLine played a
logged-line played a turn x (asks.Logged s r c) m is session rank command h = record {
  turn = turn;
  among = m;
  session = s;
  rank = r;
  command = c;
  asks_is = is;
  session_is = session ∙ h.0;
  rank_is = rank ∙ h.1;
  command_is = command ∙ h.2;
}
logged-line played a turn x (asks.Look s q) m is session rank command h = absurd h
logged-line played a turn x (asks.Admin b) m is session rank command h = absurd h

has-line : (played : List Played) (fault_lines : List FaultLine) (o : Told) (yard : Shown) (e : RunEnded played fault_lines o yard) (a : Act) → Among (acts_in e.log) a → HasLine played a
has-line played fault_lines o yard e a m =
    let h : HasAppeared (asked_in 0 e.log) a = all-at (HasAppeared (asked_in 0 e.log)) (acts_in e.log) a (appeared e.log) m in
    let x : Asked = h.first in
    let is = found-among (λ (y : Asked). (y.session == a.session) && (y.rank == a.rank)) (asked_in 0 e.log) x h.found in
    let parts = and_parts (x.session == a.session) (x.rank == a.rank) is.1 in
    let line = e.sent x (contains-among (asked_in 0 e.log) x is.0) in
    logged-line played a line.turn x line.turn.line.asks (among-get played line.at line.turn line.is) refl (sym (eqb-true x.session a.session parts.0)) (sym (eqb-true x.rank a.rank parts.1)) h.command line.logs

-- What a row tells

abbrev told_act : Answered → List Act
told_act a = act_of a.line.asks a.row.outcome

-- the row of a line of which the command acted tells that act
tells-act : (log : List Entry) (s : Session) (r : ℕ) (c : Command) (o : Outcome) (a : Act) → Fate log (asks.Logged s r c) o → act_of_rank log s.id r ≡ Some a → a.session ≡ s.id → a.rank ≡ r → a.command ≡ Some c → act_of (asks.Logged s r c) o ≡ a ∷ []
tells-act log s r c (out.Placed place reply late) a f is session rank command =
    let b : Act = f.0 in
    let same : b ≡ a = same_some b a (sym f.1 ∙ is) in
    let place_is : place ≡ a.place = f.2 ∙ ap (λ (z : Act). z.place) same in
    let reply_is : reply ≡ a.reply = f.3 ∙ ap (λ (z : Act). z.reply) same in
    ap (λ p. record { place = p; session = s.id; rank = r; command = Some c; reply = reply } ∷ []) place_is
    ∙ ap (λ n. record { place = a.place; session = n; rank = r; command = Some c; reply = reply } ∷ []) (sym session)
    ∙ ap (λ n. record { place = a.place; session = a.session; rank = n; command = Some c; reply = reply } ∷ []) (sym rank)
    ∙ ap (λ d. record { place = a.place; session = a.session; rank = a.rank; command = d; reply = reply } ∷ []) (sym command)
    ∙ ap (λ p. record { place = a.place; session = a.session; rank = a.rank; command = a.command; reply = p } ∷ []) reply_is
tells-act log s r c (out.Open cause) a f is session rank command = absurd (no a (sym f ∙ is))
  where
    no : (a : Act) → None ≡ Some a → ⊥
    no a e = cc
tells-act log s r c o a f is session rank command = absurd f

module _ (played : List Played) (fault_lines : List FaultLine) (o : Told) (yard : Shown) (e : RunEnded played fault_lines o yard) where
  all_fates : AllByRecursion (λ t. Fate e.log t.line.asks t.row.outcome) played
  all_fates = fates e.log e.tails e.faults e.ends [] played e.lines

  -- an act is told by the row of its line
  act-told : (a : Act) → Among (acts_in e.log) a → Among (flat_map told_act (map tell played)) a
  act-told a m =
      let l = has-line played fault_lines o yard e a m in
      let f = all-at (λ (t : Played). Fate e.log t.line.asks t.row.outcome) played l.turn all_fates l.among in
      let tells = tells-act e.log l.session l.rank l.command l.turn.row.outcome a (subst (λ q. Fate e.log q l.turn.row.outcome) l.asks_is f)
      (act-found e.log a l.session.id l.rank m l.session_is l.rank_is) l.session_is l.rank_is l.command_is in
      let here : told_act (tell l.turn) ≡ a ∷ [] = ap (λ q. act_of q l.turn.row.outcome) l.asks_is ∙ tells in
      among-flat_map told_act (map tell played) (tell l.turn) a (among-map tell played l.turn l.among) (subst (λ l. Among l a) (sym here) (inl refl))

  -- what a row tells is an act
  row-tells : (t : Played) (q : Asks) (w : Outcome) → Among played t → t.line.asks ≡ q → Fate e.log q w → AllAmong (acts_in e.log) (act_of q w)
  row-tells t (asks.Logged s r c) (out.Placed place reply late) m is f =
      let a : Act = f.0 in
      let found = found-among (is_rank s.id r) (acts_in e.log) a f.1 in
      let parts = and_parts (a.session == s.id) (a.rank == r) found.1 in
      let session : a.session ≡ s.id = eqb-true a.session s.id parts.0 in
      let rank : a.rank ≡ r = eqb-true a.rank r parts.1 in
      let l = has-line played fault_lines o yard e a found.0 in
      let same : l.command ≡ c = one-line (map (λ (t : Played). t.line) played) l.turn.line t.line l.session s l.rank r l.command c e.ranked
      (among-map (λ (t : Played). t.line) played l.turn l.among) (among-map (λ (t : Played). t.line) played t m) l.asks_is is (sym l.session_is ∙ session) (sym l.rank_is ∙ rank) in
      subst (AllAmong (acts_in e.log)) (sym (tells-act e.log s r c (out.Placed place reply late) a f f.1 session rank (l.command_is ∙ ap Some same))) (found.0, tt)
  row-tells t (asks.Logged s r c) (out.Open cause) m is f = tt
  row-tells t (asks.Logged s r c) w m is f = absurd f
  row-tells t (asks.Look s q) w m is f = tt
  row-tells t (asks.Admin a) w m is f = tt

  rows-tell : (ts : List Played) → AllByRecursion (Among played) ts → AllByRecursion (λ t. Fate e.log t.line.asks t.row.outcome) ts → AllByRecursion (λ a. AllAmong (acts_in e.log) (told_act a)) (map tell ts)
  rows-tell [] m f = tt
  rows-tell (t ∷ ts) m f = (row-tells t t.line.asks t.row.outcome m.0 refl f.0, rows-tell ts m.1 f.1)

  pub placed-are_acts : placed_acts (map tell played) ≡ acts_in e.log
  placed-are_acts =
      in_order-is (acts_in e.log) (flat_map told_act (map tell played)) (in_order e.log)
      (all-flat_map (Among (acts_in e.log)) told_act (map tell played) (rows-tell played (all-of (Among played) played (λ t m. m)) all_fates))
      (all-of (Among (flat_map told_act (map tell played))) (acts_in e.log) act-told)
