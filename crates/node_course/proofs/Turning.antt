-- What is known as a node begins to play its lines of a phase, and as a line of it is to be played.
use Rattle.std.proofs.Common.{◌≡◌, sym, ap, ◌∙◌, subst, inr, ⊎_elim, ◌≢◌, ℕ, zero, suc, ◌<◌, ◌≤◌, ◌==◌, Bool, true, false, not, List, [], ◌∷◌, Option, Some, None, slice_get, Contains, arith, eq-eqb}
use Rattle.std.specs.List.{list_all}
use Rattle.std.proofs.lemmas.Bool.{and_parts, cases_lt}
use Rattle.legal_journal.specs.Law.{Law}
use Rattle.legal_journal.specs.declared.events.Event.{Event}
use Rattle.legal_journal.specs.Journal.{IsLegal}
use Rattle.journal_laws.specs.Changes.{Frees, TrimsUpTo}
use Rattle.journal_laws.proofs.Changes.{raised_free}
use Rattle.engine_api.specs.Acted.{unpack_all}
use Rattle.engine_api.specs.Members.{has_left, position_of}
use Rattle.replica_api.specs.Replica.{Meaning}
use Rattle.turn_scopes.specs.Floors.{FloorIs}
use Rattle.log_laws.proofs.Membership.{least_upto}
use Rattle.script_text.specs.declared.line.Admin.TheVariants.{Retire}
use Rattle.script_text.specs.declared.asks.NamedLine.{NamedLine}
use Rattle.script_text.specs.declared.asks.Asks.TheVariants as asks
use Rattle.fitting_run.specs.Lines.{asks_to_leave, names_another}
use Rattle.fitting_run.specs.Tests.{◌⇒◌, each_pair}
use Rattle.turn_scopes.specs.Seats.{SeatView}
use Rattle.node_lines.specs.declared.desk.Desk.{Desk}
use Rattle.node_lines.specs.declared.lines.Looked.{Looked}
use Rattle.node_lines.specs.Workers.{HasNotLeft, MayRun, ReportsUpTo, appended_by}
use Rattle.node_lines.proofs.Own.{stays_on}
use Rattle.node_lines.proofs.Saying.{is_member, position_low}
use Rattle.node_course.specs.Script.{AreLines}
use Rattle.node_course.specs.Moments.{NodeCourse}
use Rattle.node_course.specs.Telling.{AreTold, AskedFor, ToldSo}
use Rattle.node_course.specs.Workers.{CanPlay, NodeAt}
use Rattle.node_course.proofs.Lines.{at_get}
use Rattle.node_course.proofs.Looks.{no_look}

-- Pairs of lines

all_get : {A : Type 0} (p : A → Bool) (xs : List A) (i : ℕ) (x : A) → list_all p xs ≡ true → slice_get xs i ≡ Some x → p x ≡ true
all_get p [] i x all at = absurd (cc)
all_get p (y ∷ ys) zero x all at = let same : y ≡ x = cc in ap p (sym same) ∙ (and_parts (p y) (list_all p ys) all).0
all_get p (y ∷ ys) (suc i) x all at = all_get p ys i x (and_parts (p y) (list_all p ys) all).1 at

pub pair_get : {A : Type 0} (r : A → A → Bool) (xs : List A) (i j : ℕ) (x y : A) → each_pair r xs ≡ true → slice_get xs i ≡ Some x → slice_get xs j ≡ Some y → i < j → r x y ≡ true
pair_get r [] i j x y all at then' low = absurd (cc)
pair_get r (z ∷ zs) zero zero x y all at then' low = absurd (omega (arith, low))
pair_get r (z ∷ zs) zero (suc j) x y all at then' low =
    let same : z ≡ x = cc in
    ap (λ w. r w y) (sym same) ∙ all_get (r z) zs j y (and_parts (list_all (r z) zs) (each_pair r zs) all).0 then'
pair_get r (z ∷ zs) (suc i) zero x y all at then' low = absurd (omega (arith, low))
pair_get r (z ∷ zs) (suc i) (suc j) x y all at then' low = pair_get r zs i j x y (and_parts (list_all (r z) zs) (each_pair r zs) all).1 at then' (omega (arith, low))

-- no line of the node comes behind one that asks it to leave
none_behind : (l m : NamedLine) → names_another l m ≡ true → l.asks ≡ asks.Admin Retire → l.node ≡ m.node → ⊥
none_behind l m names is same =
    let leaves : asks_to_leave l.asks ≡ true = ap asks_to_leave is in
    let own : (l.node == m.node) ≡ true = eq-eqb l.node m.node same in
    by (asks_to_leave l.asks) (l.node == m.node) leaves own names
  where
    by : (a b : Bool) → a ≡ true → b ≡ true → (a ⇒ not b) ≡ true → ⊥
    by true true e f h = cc
    by false b e f h = cc
    by true false e f h = cc

-- A node that has a line to play

module _ (law : Law) (run : MayRun law) (lines : List NamedLine) (looks : List (Option Looked)) (n : ℕ) (journal : List Event) (legal : IsLegal law journal) (told : AreTold lines looks n journal) where
  -- a node that no line asked to leave hasn't left, by whatever it appended, and nobody else says so of it
  pub unasked_stays : (AskedFor lines looks n Retire (λ look. Unit {0}) → ⊥) → HasNotLeft n journal
  unasked_stays unasked = stays_on law law run (λ user e h. h) journal legal n (λ e. Contains (appended_by n journal) e) [] (λ e p there among is. absurd (omega (arith, there.1))) (λ e there. inr there)
      (λ e p there among is. unasked (subst (ToldSo lines looks n journal) is (told e p there among)).1)

  module _ (at : ℕ) (waiting : (j : ℕ) (l : NamedLine) → at ≤ j → slice_get lines j ≡ Some l → l.node ≡ n → slice_get looks j ≡ Some None) where
    -- none of its lines so far asked it to
    pub stays_by_lines : ((j : ℕ) (l : NamedLine) → j < at → slice_get lines j ≡ Some l → l.node ≡ n → l.asks ≢ asks.Admin Retire) → HasNotLeft n journal
    stays_by_lines none = unasked_stays (λ h. ⊎_elim
        (λ (before : h.at < at). none h.at h.line before h.came.is h.came.own h.asks)
        (λ (high : at ≤ h.at). no_look h.look (sym (waiting h.at h.line high h.came.is h.came.own) ∙ h.came.looked))
        (cases_lt h.at at))

    -- a node that has a line to play hasn't left: no line of it is behind one that asks it to
    pub not_left : (home : ℕ → ℕ) (nodes : ℕ) → AreLines lines home nodes → (line : NamedLine) → slice_get lines at ≡ Some line → line.node ≡ n → HasNotLeft n journal
    not_left home nodes are line is own = stays_by_lines (λ j l low get there asked. none_behind l line (pair_get names_another lines j at l line are.stay get is low) asked (there ∙ sym own))

-- How far the log is trimmed

module _ (law : Law) (nodes : ℕ) (is : FloorIs law.floor nodes) (seen : List Event) (legal : IsLegal law seen) where
  module _ (k : ℕ) (least : 1 ≤ k) (most : k ≤ nodes) where
    -- what was trimmed, each member had reported
    pub member_above : (trim : ℕ) (f : Frees law.floor seen trim) → has_left (unpack_all 0 f.log) k ≡ false → trim ≤ position_of (unpack_all 0 f.log) k
    member_above trim f stays =
        let free = (is.only f.log trim f.free).least in
        let low = least_upto nodes k (unpack_all 0 f.log) least most stays in
        omega (arith, free, low)

    -- nothing is trimmed above what one that hasn't left has reported
    pub trims_low : (cursor : ℕ) → HasNotLeft k seen → ReportsUpTo k cursor seen → TrimsUpTo cursor seen
    trims_low cursor stays upto = λ trim h. ⊎_elim (λ (none : trim ≡ 0). omega (arith, none))
        (λ (f : Frees law.floor seen trim).
        let above = member_above trim f (is_member seen f.log f.each k stays) in
        let low = position_low seen f.log f.each k cursor upto in
        omega (arith, above, low))
        (raised_free law seen trim legal h)

module _ (law : Law) (meaning : Meaning) (run : MayRun law) (lines : List NamedLine) (home : ℕ → ℕ) (nodes : ℕ) (c : NodeCourse) (looks : List (Option Looked)) (n from at done : ℕ) (seat : SeatView) (desks : List Desk) (is : FloorIs law.floor nodes) (w : NodeAt law meaning lines home nodes c looks n from at done seat desks) where
  abbrev can : 1 ≤ n → n ≤ nodes → HasNotLeft n c.seen → CanPlay n c.seen seat
  can least most stays = record {
    high = trims_low law nodes is c.seen w.did.legal n least most seat.node.replica.cursor stays w.reports;
    stays = stays;
    reports = w.reports;
  }

  pub goes_on : 1 ≤ n → n ≤ nodes → ((j : ℕ) (l : NamedLine) → j < at → slice_get lines j ≡ Some l → l.node ≡ n → l.asks ≢ asks.Admin Retire) → CanPlay n c.seen seat
  goes_on least most none = can least most (stays_by_lines law run lines looks n c.seen w.did.legal w.did.told at w.waiting none)

  pub can_play : AreLines lines home nodes → (line : NamedLine) → slice_get lines at ≡ Some line → line.node ≡ n → CanPlay n c.seen seat
  can_play are line get own =
      let there = at_get (λ (l : NamedLine). (1 ≤ l.node) × (l.node ≤ nodes)) lines at line are.nodes_are get in
      can (omega (arith, there.0, own)) (omega (arith, there.1, own)) (not_left law run lines looks n c.seen w.did.legal w.did.told at w.waiting home nodes are line get own)
