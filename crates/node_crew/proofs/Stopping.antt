-- A node's disk is armed by stops, and what is known of the node stays.
use Rattle.std.proofs.Common.{◌≡◌, refl, sym, ap, ◌∙◌, ◌⊎◌, inl, inr, ℕ, zero, suc, ◌+◌, ◌<◌, ◌≤◌, false, true, cond, List, [], ◌∷◌, ◌++◌, Option, Some, arith, append-nil, append_assoc}
use Rattle.std.specs.Prelude.{◌==◌, slice_get}
use Rattle.std.proofs.lemmas.Bool.Decides.{nat_tests}
use Rattle.delos_types.specs.declared.entry.Entry.{Entry}
use Rattle.legal_journal.specs.Law.{Law}
use Rattle.legal_journal.specs.declared.events.Event.{Event}
use Rattle.replica_api.specs.Replica.{Meaning, ReplicaView, armed_by}
use Rattle.base_engine.specs.Arming.{LeavesArming}
use Rattle.base_engine.proofs.Arming.{arming_refl, arming_trans}
use Rattle.script_text.specs.declared.asks.NamedLine.{NamedLine}
use Rattle.script_text.specs.declared.faults.FaultLine.{FaultLine}
use Rattle.turn_scopes.specs.Seats.{SeatView, SeatOk}
use Rattle.turn_scopes.proofs.Arming.{armed_seat, seat_armed}
use Rattle.node_lines.specs.declared.desk.Desk.{Desk}
use Rattle.node_lines.specs.declared.lines.Looked.{Looked}
use Rattle.node_lines.specs.Workers.{WorkerOk}
use Rattle.node_course.specs.FaultLines.{ArmedBy, AreOfPhase, stops_by, stops_in}
use Rattle.node_course.specs.Moments.{NodeCourse}
use Rattle.node_course.specs.Workers.{CanPlay, LineWent, NodeAt}
use Rattle.node_course.proofs.Arming.{node_armed, worker_armed}
use Rattle.node_crew.specs.Stops.{armed_all, stops_between}
use Rattle.node_crew.specs.Turns.{CanEnd, IsUnderWay}

-- Which stops those are

pub stops_none : (n k : ℕ) (fs : List FaultLine) → stops_between n k k fs ≡ []
stops_none n k [] = refl
stops_none n zero (f ∷ fs) = refl
stops_none n (suc k) (f ∷ fs) = stops_none n k fs

pub stops_one : (n k : ℕ) (fs : List FaultLine) (f : FaultLine) → slice_get fs k ≡ Some f → stops_between n k (suc k) fs ≡ stops_by n f.asks
stops_one n k [] f at = absurd (cc)
stops_one n zero (x ∷ fs) f at = ap (λ ys. stops_by n x.asks ++ ys) (stops_none n zero fs) ∙ (append-nil (stops_by n x.asks) ∙ ap (stops_by n) (same_asks x f at))
  where
    same_asks : (x f : FaultLine) → Some x ≡ Some f → x.asks ≡ f.asks
    same_asks x f h = let e : x ≡ f = cc in ap (λ (y : FaultLine). y.asks) e
stops_one n (suc k) (x ∷ fs) f at = stops_one n k fs f at

-- first those up to b, and then the others
pub stops_split : (n a b c : ℕ) (fs : List FaultLine) → a ≤ b → b ≤ c → stops_between n a c fs ≡ stops_between n a b fs ++ stops_between n b c fs
stops_split n a b c [] low high = refl
stops_split n zero zero c (f ∷ fs) low high = refl
stops_split n (suc a) zero c (f ∷ fs) low high = absurd (omega (arith, low))
stops_split n a (suc b) zero (f ∷ fs) low high = absurd (omega (arith, high))
stops_split n zero (suc b) (suc c) (f ∷ fs) low high =
    ap (λ ys. stops_by n f.asks ++ ys) (stops_split n zero b c fs (omega arith) (omega (arith, high))) ∙ sym (append_assoc (stops_by n f.asks) (stops_between n zero b fs) (stops_between n b c fs))
stops_split n (suc a) (suc b) (suc c) (f ∷ fs) low high = stops_split n a b c fs (omega (arith, low)) (omega (arith, high))

is_other : (a b : ℕ) → (a < b) ⊎ (b < a) → (a == b) ≡ false
is_other a b (inl h) = grind (arith, nat_tests, h)
is_other a b (inr h) = grind (arith, nat_tests, h)

is_same : (a b : ℕ) → a ≡ b → (a == b) ≡ true
is_same a b h = grind (arith, nat_tests, h)

-- the stops of a phase stand where its fault lines do
stops_of : (n phase from to : ℕ) (fs : List FaultLine) → from ≤ to
    → ((i : ℕ) (f : FaultLine) → slice_get fs i ≡ Some f → i < from → f.phase < phase) → ((i : ℕ) (f : FaultLine) → slice_get fs i ≡ Some f → from ≤ i → phase ≤ f.phase)
    → ((i : ℕ) (f : FaultLine) → slice_get fs i ≡ Some f → i < to → f.phase < phase + 1) → ((i : ℕ) (f : FaultLine) → slice_get fs i ≡ Some f → to ≤ i → phase + 1 ≤ f.phase)
    → stops_in n phase fs ≡ stops_between n from to fs
stops_of n phase from to [] order a b c d = refl
stops_of n phase (suc from) zero (f ∷ fs) order a b c d = absurd (omega (arith, order))
stops_of n phase zero zero (f ∷ fs) order a b c d =
    let other = is_other f.phase phase (inr (omega (arith, d 0 f refl (omega arith)))) in
    ap (λ t. cond t (stops_by n f.asks) [] ++ stops_in n phase fs) other
    ∙ (stops_of n phase zero zero fs order (λ i x at low. absurd (omega (arith, low))) (λ i x at high. b (suc i) x at (omega arith)) (λ i x at low. absurd (omega (arith, low))) (λ i x at high. d (suc i) x at (omega arith))
    ∙ stops_none n zero fs)
stops_of n phase zero (suc to) (f ∷ fs) order a b c d =
    let same = is_same f.phase phase (omega (arith, b 0 f refl (omega arith), c 0 f refl (omega arith))) in
    ap (λ t. cond t (stops_by n f.asks) [] ++ stops_in n phase fs) same
    ∙ ap (λ ys. stops_by n f.asks ++ ys)
    (stops_of n phase zero to fs (omega arith) (λ i x at low. absurd (omega (arith, low))) (λ i x at high. b (suc i) x at (omega arith)) (λ i x at low. c (suc i) x at (omega (arith, low))) (λ i x at high. d (suc i) x at (omega (arith, high))))
stops_of n phase (suc from) (suc to) (f ∷ fs) order a b c d =
    let other = is_other f.phase phase (inl (a 0 f refl (omega arith))) in
    ap (λ t. cond t (stops_by n f.asks) [] ++ stops_in n phase fs) other
    ∙ stops_of n phase from to fs (omega (arith, order)) (λ i x at low. a (suc i) x at (omega (arith, low))) (λ i x at high. b (suc i) x at (omega (arith, high))) (λ i x at low. c (suc i) x at (omega (arith, low))) (λ i x at high. d (suc i) x at (omega (arith, high)))

pub stops_of_phase : (n phase from to : ℕ) (fs : List FaultLine) → AreOfPhase fs phase from to → stops_in n phase fs ≡ stops_between n from to fs
stops_of_phase n phase from to fs h = stops_of n phase from to fs h.range.0 h.begins.before h.begins.behind h.ends.before h.ends.behind

-- The disk, armed

pub armed_then : (xs : List ℕ) (a b c : ReplicaView) → ArmedBy xs a b → LeavesArming 0 b c → ArmedBy xs a c
armed_then [] a b c h k = arming_trans 0 a b c h k
armed_then (x ∷ xs) a b c h k = (h.0, h.1, armed_then xs (armed_by h.0 x) b c h.2 k)

pub armed_join : (xs ys : List ℕ) (a b c : ReplicaView) → ArmedBy xs a b → ArmedBy ys b c → ArmedBy (xs ++ ys) a c
armed_join [] [] a b c h k = arming_trans 0 a b c h k
armed_join [] (y ∷ ys) a b c h k = (k.0, arming_trans 0 a b k.0 h k.1, k.2)
armed_join (x ∷ xs) ys a b c h k = (h.0, h.1, armed_join xs ys (armed_by h.0 x) b c h.2 k)

pub armed_only : (s : SeatView) (xs : List ℕ) → ArmedBy xs s.node.replica (armed_all s xs).node.replica
armed_only s [] = arming_refl 0 s.node.replica
armed_only s (x ∷ xs) = (s.node.replica, arming_refl 0 s.node.replica, armed_only (armed_seat s x) xs)

-- What stays

pub all_both : (s : SeatView) (xs ys : List ℕ) → armed_all s (xs ++ ys) ≡ armed_all (armed_all s xs) ys
all_both s [] ys = refl
all_both s (x ∷ xs) ys = all_both (armed_seat s x) xs ys

-- one fault line more
pub arm_next : (n from k : ℕ) (fs : List FaultLine) (f : FaultLine) (s t u : SeatView) → slice_get fs k ≡ Some f → from ≤ k → t ≡ armed_all s (stops_between n from k fs) → u ≡ armed_all t (stops_by n f.asks)
    → u ≡ armed_all s (stops_between n from (k + 1) fs)
arm_next n from k fs f s t u at low e h =
    let next : k + 1 ≡ suc k = omega arith in
    let whole : stops_between n from (suc k) fs ≡ stops_between n from k fs ++ stops_by n f.asks = stops_split n from k (suc k) fs low (omega arith) ∙ ap (λ ys. stops_between n from k fs ++ ys) (stops_one n k fs f at) in
    h
    ∙ (ap (λ (x : SeatView). armed_all x (stops_by n f.asks)) e
    ∙ (sym (all_both s (stops_between n from k fs) (stops_by n f.asks)) ∙ ap (armed_all s) (sym whole ∙ ap (λ j. stops_between n from j fs) (sym next))))

pub all_who : (s : SeatView) (xs : List ℕ) → (armed_all s xs).who ≡ s.who
all_who s [] = refl
all_who s (x ∷ xs) = all_who (armed_seat s x) xs

pub all_nodes : (s : SeatView) (xs : List ℕ) → (armed_all s xs).node.nodes ≡ s.node.nodes
all_nodes s [] = refl
all_nodes s (x ∷ xs) = all_nodes (armed_seat s x) xs

pub seat_all : (law : Law) (meaning : Meaning) (journal : List Event) (s : SeatView) (xs : List ℕ) → SeatOk law meaning journal s → SeatOk law meaning journal (armed_all s xs)
seat_all law meaning journal s [] h = h
seat_all law meaning journal s (x ∷ xs) h = seat_all law meaning journal (armed_seat s x) xs (seat_armed law meaning journal s x h)

pub worker_all : (law : Law) (meaning : Meaning) (who : ℕ) (journal : List Event) (s : SeatView) (desks : List Desk) (xs : List ℕ) → WorkerOk law meaning who journal s desks → WorkerOk law meaning who journal (armed_all s xs) desks
worker_all law meaning who journal s desks [] h = h
worker_all law meaning who journal s desks (x ∷ xs) h = worker_all law meaning who journal (armed_seat s x) desks xs (worker_armed law meaning who journal s desks x h)

pub node_all : (law : Law) (meaning : Meaning) (lines : List NamedLine) (home : ℕ → ℕ) (nodes : ℕ) (c : NodeCourse) (looks : List (Option Looked)) (n from at done : ℕ) (s : SeatView) (desks : List Desk) (xs : List ℕ)
    → NodeAt law meaning lines home nodes c looks n from at done s desks → NodeAt law meaning lines home nodes c looks n from at done (armed_all s xs) desks
node_all law meaning lines home nodes c looks n from at done s desks [] h = h
node_all law meaning lines home nodes c looks n from at done s desks (x ∷ xs) h =
    node_all law meaning lines home nodes c looks n from at done (armed_seat s x) desks xs (node_armed law meaning lines home nodes c looks n from s desks x at done h)

pub play_all : (n : ℕ) (journal : List Event) (s : SeatView) (xs : List ℕ) → CanPlay n journal s → CanPlay n journal (armed_all s xs)
play_all n journal s [] h = h
play_all n journal s (x ∷ xs) h = play_all n journal (armed_seat s x) xs (record { high = h.high; stays = h.stays; reports = h.reports })

pub end_all : (beside : ℕ → ℕ → Type 0) (floor : List Entry → ℕ → Type 0) (journal : List Event) (s : SeatView) (desks : List Desk) (xs : List ℕ) → CanEnd beside floor journal s desks → CanEnd beside floor journal (armed_all s xs) desks
end_all beside floor journal s desks [] h = h
end_all beside floor journal s desks (x ∷ xs) h = end_all beside floor journal (armed_seat s x) desks xs (one h)
  where
    one : CanEnd beside floor journal s desks → CanEnd beside floor journal (armed_seat s x) desks
    one (inl k) = inl (record { high = k.high; keeps = k.keeps })
    one (inr k) = inr k

module _ (law : Law) (meaning : Meaning) (lines : List NamedLine) (home : ℕ → ℕ) (nodes : ℕ) (c : NodeCourse) (looks : List (Option Looked)) (n from at : ℕ) (journal : List Event) (s : SeatView) (desks : List Desk) (xs : List ℕ) where
  pub under_all : IsUnderWay law meaning lines home nodes c looks n from at journal s desks → IsUnderWay law meaning lines home nodes c looks n from at journal (armed_all s xs) desks
  under_all u = record { seen_is = u.seen_is; lines_are = u.lines_are; begins = u.begins; node = node_all law meaning lines home nodes c looks n from at c.phase s desks xs u.node }

  pub went_all : LineWent law meaning lines home nodes c looks n from at journal s desks → LineWent law meaning lines home nodes c looks n from at journal (armed_all s xs) desks
  went_all w = record { course = w.course; seen_is = w.seen_is; goes = w.goes; node = node_all law meaning lines home nodes w.course looks n from at w.course.phase s desks xs w.node }
