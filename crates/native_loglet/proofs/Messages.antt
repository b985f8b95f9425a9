-- A carry moves one message: what it moves in the loglet it moves in its cell.
use Rattle.std.proofs.Common.{◌≡◌, ℕ, zero, suc, ◌+◌, ◌-◌, ◌*◌, ◌^◌, ◌<◌, ◌≤◌, Bool, true, false, cond, refl, sym, ◌∙◌, ap, subst, arith, List, [], ◌∷◌, ◌++◌, map, length, drop, get_or, set, Option, Some, None, inl, inr, length-append}
use Rattle.std.specs.Prelude.{◌⊎◌, ◌&&◌, min, is_some, slice_get, sum_by, count_by, if◌then◌else◌}
use Rattle.std.proofs.lemmas.Bool.{false≢true, cases_lt}
use Rattle.std.proofs.lemmas.Option.{none-some, same_Some}
use Rattle.std.proofs.lemmas.List.{length-set}
use Rattle.std.proofs.lemmas.List.Sums.{sum_by-cons}
use Rattle.delos_types.specs.declared.entry.Entry.{Entry}
use Rattle.loglet_api.specs.declared.call.LogletCall.TheVariants.{Carry as CallCarry}
use Rattle.loglet_api.specs.declared.call.LogletAnswer.TheVariants.{Carried}
use Rattle.loglet_api.specs.View.{LogletView, Operation as OpenOperation, operation_at}
use Rattle.loglet_api.specs.Step.{LogletStep, CanCall}
use Rattle.quorum_cell.specs.declared.message.Ask.{Ask}
use Rattle.quorum_cell.specs.declared.message.Told.{Told}
use Rattle.quorum_cell.specs.declared.message.Told.TheVariants.{DiskFault}
use Rattle.quorum_cell.specs.declared.operation.Outcome.{Outcome}
use Rattle.quorum_cell.specs.Servers.{Server, told as table, writes, written}
use Rattle.quorum_cell.specs.Cells.{Cell, operation, server, no_server}
use Rattle.quorum_cell.specs.Steps.{run_cell, ask_for}
use Rattle.quorum_cell.specs.Law.{QuorumLaw}
use Rattle.cell_views.specs.Views.{counted}
use Rattle.log_server.specs.View.{View}
use Rattle.log_server.specs.Answers.{Answers as ServerAnswers, Stops, Tells, after_ask}
use Rattle.native_plan.specs.declared.member.Member.{Member}
use Rattle.native_plan.specs.declared.pending.Pending.{Pending}
use Rattle.native_plan.specs.declared.message.Errand.{Errand}
use Rattle.native_plan.specs.declared.message.Message.{Message}
use Rattle.native_plan.specs.declared.message.Message.TheVariants.{Asked}
use Rattle.native_plan.specs.Members.{no_member, is_out, left_to, left_with, due_of}
use Rattle.native_plan.specs.Plans.{end_of}
use Rattle.native_plan.specs.Pendings.{plan_left, left_by, aims_of, Answers, Hears, Loses}
use Rattle.native_plan.specs.Course.{PhaseFits}
use Rattle.native_ties.specs.Parts.{IsPartOf, IsAllowed, OnItsWay, Goes, GoesBy, AnswersBy, asked_by, wish_of}
use Rattle.native_ties.specs.Steps.{GoesAs, IsLoss, IsRequest, IsStop, IsAnswer}
use Rattle.native_ties.proofs.Losers.{loses_as, way_of}
use Rattle.native_ties.proofs.Hearers.{hears_as}
use Rattle.native_ties.proofs.Answering.{comes_as, stops_as}
use Rattle.native_ties.proofs.Asking.{allowed}
use Rattle.native_ties.proofs.Lessening.{answered_less, heard_less, lost_less}
use Rattle.native_ties.proofs.Bounds.{bounded}
use Rattle.native_loglet.specs.Faults.{faults_after}
use Rattle.native_loglet.specs.Natives.{Native, PendingList, server_in, shown, look_in, loglet_of, IsCellOf}
use Rattle.native_loglet.specs.Moving.{CanMove, FailsAs, MovesByLoss, MovesByRequest, MovesByAnswer, MovesBy, AnswersFor, Moves, CarriesAt}
use Rattle.native_loglet.specs.Steps.{ComesBy, FatedBy, Reaches}
use Rattle.native_loglet.proofs.Rules.{moves_so}
use Rattle.fate_words.specs.declared.fates.Fate.{Fate}
use Rattle.fate_words.specs.declared.fates.Fate.TheVariants.{Deliver, DeliverAndKeep, Lose}
use Rattle.fate_words.specs.Words.{fate_of}
use Rattle.native_loglet.proofs.Viewing.{servers_many}
use Rattle.native_loglet.proofs.Extending.{run_extends}
use Rattle.native_loglet.proofs.Stepping.{open_is, open_there, seen_is, GoesOn, carries}
use Rattle.native_loglet.proofs.Alike.{IsOwned, map_set}
use Rattle.native_loglet.specs.declared.mail.Mail.{Mail}
use Rattle.native_loglet.specs.Copies.{copy_in, kept_after}
use Rattle.native_loglet.proofs.Keeping.{all_kept, server_here}

---- it may be carried

undecided_none : (z : Option Outcome) (left : ℕ × ℕ) → 0 < (left_by z left).0 + (left_by z left).1 → z ≡ None
undecided_none None left h = refl
undecided_none (Some a) left h = absurd (omega (arith, h))

-- an operation that may be carried is open and undecided
pub waits_at : (a : Native) (v : LogletView) (t word : ℕ) → loglet_of a ≡ v → IsOwned a → CanCall v (CallCarry t word) → (p : Pending) × (look_in a.pending t ≡ Some p) × (p.outcome ≡ None)
waits_at a v t word e h can =
    let z : (p : Pending) × (look_in a.pending t ≡ Some p) = open_is a h.0 v t e h.1 (ap is_some can.is) in
    let seen : operation_at v.operations t ≡ Some (shown z.0) = ap (λ (x : LogletView). operation_at x.operations t) (sym e) ∙ seen_is a h.0 t z.0 h.1 z.1 in
    let same : can.operation ≡ shown z.0 = same_Some _ _ (sym can.is ∙ seen) in
    (z.0, z.1, undecided_none z.0.outcome (plan_left z.0) (subst (λ (o : OpenOperation). 0 < o.left.0 + o.left.1) same can.undecided))

-- what is left counts only what is on its way
out_counts : (end : ℕ) (ms : List Member) → 0 < sum_by (left_to end) ms → 0 < count_by is_out ms
out_counts end [] h = h
out_counts end (m ∷ ms) h = by m.message refl (out_counts end ms)
  where
    by : (z : Option Message) → m.message ≡ z → (0 < sum_by (left_to end) ms → 0 < count_by is_out ms) → 0 < count_by is_out (m ∷ ms)
    by None e more =
        let none : left_to end m ≡ 0 = ap (left_with (40 * (end - m.at)) m.losses) e in
        let idle : cond (is_out m) 1 0 ≡ 0 = ap {B = ℕ} (λ (x : Option Message). cond (is_some x) 1 0) e in
        let rest : 0 < sum_by (left_to end) ms = omega (arith, h, sum_by-cons (left_to end) m ms, none) in
        omega (arith, more rest, sum_by-cons (λ (x : Member). cond (is_out x) 1 0) m ms, idle)
    by (Some x) e more =
        let one : cond (is_out m) 1 0 ≡ 1 = ap {B = ℕ} (λ (y : Option Message). cond (is_some y) 1 0) e in
        omega (arith, sum_by-cons (λ (y : Member). cond (is_out y) 1 0) m ms, one)

none_past : (ms : List Member) (i : ℕ) → length ms ≤ i → get_or ms i no_member ≡ no_member
none_past [] i h = refl
none_past (m ∷ ms) zero h = absurd (omega (arith, h))
none_past (m ∷ ms) (suc i) h = none_past ms i (omega (arith, h))

-- a member that has a message is a server's
out_here : (ms : List Member) (i : ℕ) → is_some (get_or ms i no_member).message ≡ true → i < length ms
out_here ms i h = by (cases_lt i (length ms))
  where
    by : (i < length ms) ⊎ (length ms ≤ i) → i < length ms
    by (inl l) = l
    by (inr l) = absurd (false≢true (sym (ap (λ (m : Member). is_some m.message) (none_past ms i l)) ∙ h))

can_move_in : (a : Native) (t : ℕ) (p : Pending) (c : Cell) → IsCellOf a c → IsPartOf c t p → Goes c t p → p.outcome ≡ None → CanMove a.entries a.marks.cut (length a.replicas) p
can_move_in a t p c h part goes waiting = record {
  members = all ∙ sym (servers_many a c h);
  few = omega (arith, h.few, servers_many a c h);
  some = out_counts (end_of p.phase p.want) p.members.items (bounded c t p part waiting small).some;
  losses = λ i out. (way i (omega (arith, out_here p.members.items i out, all)) out).1.few;
  asks = λ i e asked. (let y : IsAllowed c t (due_of c.cut e) = allowed c t i p e part waiting (omega (arith, out_here p.members.items i (ap is_some asked), all)) asked in (y.ask, ap {B = Option Ask} (λ (es : List Entry). asked_by es a.marks.cut (due_of a.marks.cut e)) (sym h.entries) ∙ ap {B = Option Ask} (λ n. asked_by (drop c.cut c.entries) n (due_of n e)) (sym h.cut) ∙ y.is));
  turns = λ j reads. turn j (subst (PhaseFits c (operation c t) p.members.items) reads goes.course.phase).here;
}
  where
    all : length p.members.items ≡ length c.servers
    all = goes.course.all

    small : length c.entries ≤ 2 ^ 32
    small = omega (arith, h.lawful.law.quorum.fits, h.lawful.shape.room.1)

    way : (i : ℕ) → i < length c.servers → is_out (get_or p.members.items i no_member) ≡ true → (e : Errand) × OnItsWay c (operation c t) t i (aims_of c.cut p) (get_or p.members.items i no_member) e
    way i here out = way_of c (operation c t) t i (aims_of c.cut p) (get_or p.members.items i no_member) (get_or p.members.items i no_member).message refl out (goes.carried i here)

    turn : (j : ℕ) → j < length p.members.items → j < 2 ^ 32
    turn j l = omega (arith, l, all, h.few)

pub can_move : (a : Native) (t : ℕ) (p : Pending) → IsOwned a → look_in a.pending t ≡ Some p → p.outcome ≡ None → CanMove a.entries a.marks.cut (length a.replicas) p
can_move a t p h is waiting =
    let part : IsPartOf h.0 t p = open_there a h.0 t (Some p) is h.1 in
    can_move_in a t p h.0 h.1 part (part.goes waiting) waiting

---- it goes on

pub fault_or : (s w : View) (ask : Ask) (told : Told) (failed : Bool) → FailsAs told failed → ServerAnswers s ask told w → ((told ≡ DiskFault) × Stops s ask w × (failed ≡ true)) ⊎ (Tells s ask told w × (failed ≡ false))
fault_or s w ask DiskFault failed f x = inl (refl, x, f)
fault_or s w ask _ failed f x = inr (x, f)

pub one_more : (fs : List ℕ) (i n : ℕ) → counted (length fs) ≡ n → counted (length (fs ++ i ∷ [])) ≡ faults_after true n
one_more fs i n h = (let more : counted (length (fs ++ i ∷ [])) ≡ min (counted (length fs) + 1) (2 ^ 64 - 1) = omega (arith, length-append fs (i ∷ [])) in more) ∙ ap (faults_after true) h

pub server_there : (vs : List View) (i : ℕ) (v : View) → slice_get vs i ≡ Some v → get_or (map server_in vs) i no_server ≡ v.server
server_there [] i v h = absurd (none-some v h)
server_there (w ∷ vs) zero v h = ap server_in (same_Some w v h)
server_there (w ∷ vs) (suc i) v h = server_there vs i v h

-- the loglet after an operation went on and faults were noted
abbrev pub carried_to : Native → List View → PendingList → Bool → List Mail → Native
carried_to a ws n failed ms = record a { replicas = ws; pending = n; strays = ms; marks = record a.marks { faults = faults_after failed a.marks.faults } }

module _ (a : Native) (c : Cell) (h : IsCellOf a c) (t : ℕ) (p q : Pending) (n : PendingList) (ms : List Mail) (is : look_in a.pending t ≡ Some p) (waiting : p.outcome ≡ None) where
  part : IsPartOf c t p
  part = open_there a c t (Some p) is h

  law : QuorumLaw c
  law = h.lawful.law.quorum

  by_loss : (i : ℕ) (ws : List View) (failed : Bool) → i < length c.servers → MovesByLoss a.marks.cut i p q a.replicas ws failed → GoesOn a (carried_to a ws n failed ms) c t p q (IsLoss c t i (get_or p.members.items i no_member))
  by_loss i ws failed here m =
      let l : Loses c.cut i p q = subst (λ k. Loses k i p q) (sym h.cut) m.loses in
      let moved : GoesAs c t (c.faults ++ i ∷ []) q (IsLoss c t i (get_or p.members.items i no_member)) = loses_as c t i p q law part waiting here m.out l in
      let g : GoesBy c t (c.faults ++ i ∷ []) q = moved.0 in
      record {
        steps = moved.0.steps;
        are = moved.1;
        strays = g.strays;
        part = g.part;
        others = g.others;
        extends = run_extends g.steps c;
        servers = g.servers ∙ h.servers ∙ sym (ap (map server_in) m.servers);
        faults = ap (λ (fs : List ℕ). counted (length fs)) g.faults_are ∙ one_more c.faults i a.marks.faults h.faults ∙ ap (λ b. faults_after b a.marks.faults) (sym m.fault);
        less = lost_less c t i p q law part waiting here m.out l;
      }

  by_answer : (i : ℕ) (ws : List View) (failed : Bool) → i < length c.servers → MovesByAnswer a.marks.cut i p q a.replicas ws failed → GoesOn a (carried_to a ws n failed ms) c t p q (ComesBy c t i (get_or p.members.items i no_member).message)
  by_answer i ws failed here m =
      let l : Hears c.cut i m.errand m.told p q = subst (λ k. Hears k i m.errand m.told p q) (sym h.cut) m.hears in
      let moved : GoesAs c t c.faults q (IsAnswer c t i m.errand m.told) = hears_as c t i p q m.errand m.told law part waiting here m.was_told l in
      let g : GoesBy c t c.faults q = moved.0 in
      record {
        steps = moved.0.steps;
        are = subst (λ (x : Option Message). ComesBy c t i x moved.0.steps) (sym m.was_told) moved.1;
        strays = g.strays;
        part = g.part;
        others = g.others;
        extends = run_extends g.steps c;
        servers = g.servers ∙ h.servers ∙ sym (ap (map server_in) m.servers);
        faults = ap (λ (fs : List ℕ). counted (length fs)) g.faults_are ∙ h.faults ∙ ap (λ b. faults_after b a.marks.faults) (sym m.fault);
        less = heard_less c t i p q m.errand m.told law part waiting here m.was_told l;
      }

  -- a server answered
  by_server : (i : ℕ) (e : Errand) (told : Told) (was w : View) (s : Server) (faults : List ℕ) (failed : Bool) → i < length c.servers → (get_or p.members.items i no_member).message ≡ Some (Asked e) → Answers i (due_of c.cut e) told p q
      → (g : AnswersBy c t i s faults q) → IsRequest c t i (due_of c.cut e) g.steps ⊎ IsStop c t i (due_of c.cut e) g.steps → s ≡ w.server → counted (length faults) ≡ faults_after failed a.marks.faults → GoesOn a (carried_to a (set a.replicas i w) n failed ms) c t p q (ComesBy c t i (get_or p.members.items i no_member).message)
  by_server i e told was w s faults failed here asked answers g are same counts = record {
    steps = g.steps;
    are = subst (λ (x : Option Message). ComesBy c t i x g.steps) (sym asked) are;
    strays = g.strays;
    part = g.part;
    others = λ k other. g.others k;
    extends = run_extends g.steps c;
    servers = g.servers ∙ ap (λ (x : Server). set c.servers i x) same ∙ ap (λ (ss : List Server). set ss i w.server) h.servers ∙ sym (map_set a.replicas i w);
    faults = ap (λ (fs : List ℕ). counted (length fs)) g.faults_are ∙ counts;
    less = answered_less c t i p q e told part waiting here asked answers;
  }

  by_ask : (i : ℕ) (e : Errand) (was w : View) (failed : Bool) → i < length c.servers → (get_or p.members.items i no_member).message ≡ Some (Asked e) → server c i ≡ was.server → (m : AnswersFor a.entries a.marks.cut i (due_of a.marks.cut e) p q was w failed)
      → (ask : Ask) → ask_for c (operation c t) (wish_of (due_of c.cut e)) ≡ Some ask → ServerAnswers was ask m.told w → GoesOn a (carried_to a (set a.replicas i w) n failed ms) c t p q (ComesBy c t i (get_or p.members.items i no_member).message)
  by_ask i e was w failed here asked same m ask may x = by (fault_or was w ask m.told failed m.fault x)
    where
      answered : Answers i (due_of c.cut e) m.told p q
      answered = subst (λ k. Answers i (due_of k e) m.told p q) (sym h.cut) m.answers

      by : ((m.told ≡ DiskFault) × Stops was ask w × (failed ≡ true)) ⊎ (Tells was ask m.told w × (failed ≡ false)) → GoesOn a (carried_to a (set a.replicas i w) n failed ms) c t p q (ComesBy c t i (get_or p.members.items i no_member).message)
      by (inl x) =
          let wanted : ((server c i).up && writes (server c i) ask) ≡ true = ap (λ (s : Server). s.up && writes s ask) same ∙ x.1.wanted in
          let answers : Answers i (due_of c.cut e) DiskFault p q = subst (λ z. Answers i (due_of c.cut e) z p q) x.0 answered in
          by_server i e m.told was w (record (server c i) { up = false; torn = Some ask }) (c.faults ++ i ∷ []) failed here asked answered (stops_as c t i p q e ask law part waiting here asked may wanted answers).0 (inr (stops_as c t i p q e ask law part waiting here asked may wanted answers).1)
          (ap (λ (s : Server). record s { up = false; torn = Some ask }) same ∙ sym x.1.server) (one_more c.faults i a.marks.faults h.faults ∙ ap (λ b. faults_after b a.marks.faults) (sym x.2))
      by (inr x) =
          let answers : Answers i (due_of c.cut e) (table (server c i) ask) p q = subst (λ z. Answers i (due_of c.cut e) z p q) (x.0.told ∙ sym (ap (λ (s : Server). table s ask) same)) answered in
          by_server i e m.told was w (if (server c i).up then written (server c i) ask else server c i) c.faults failed here asked answered (comes_as c t i p q e ask law part waiting here asked may answers).0 (inl (comes_as c t i p q e ask law part waiting here asked may answers).1)
          (ap (λ (s : Server). after_ask s ask) same ∙ sym x.0.server) (h.faults ∙ ap (λ b. faults_after b a.marks.faults) (sym x.1))

  -- what is asked is the same in the cell
  asked_same : (e : Errand) (ask : Ask) → asked_by (drop c.cut c.entries) c.cut (due_of c.cut e) ≡ Some ask → asked_by a.entries a.marks.cut (due_of a.marks.cut e) ≡ Some ask
  asked_same e ask known = ap {B = Option Ask} (λ (es : List Entry). asked_by es a.marks.cut (due_of a.marks.cut e)) (sym h.entries) ∙ ap {B = Option Ask} (λ k. asked_by (drop c.cut c.entries) k (due_of k e)) (sym h.cut) ∙ known

  by_request : (i : ℕ) (ws : List View) (failed : Bool) → i < length c.servers → MovesByRequest a.entries a.marks.cut i p q a.replicas ws failed → GoesOn a (carried_to a ws n failed ms) c t p q (ComesBy c t i (get_or p.members.items i no_member).message)
  by_request i ws failed here m =
      let y : IsAllowed c t (due_of c.cut m.errand) = allowed c t i p m.errand part waiting here m.asked in
      let same : server c i ≡ m.was.server = ap (λ (ss : List Server). get_or ss i no_server) h.servers ∙ server_there a.replicas i m.was m.there in
      subst (λ (xs : List View). GoesOn a (carried_to a xs n failed ms) c t p q (ComesBy c t i (get_or p.members.items i no_member).message)) (sym m.servers) (by_ask i m.errand m.was m.is failed here m.asked same m.answers y.ask y.allowed (m.answers.tells y.ask (asked_same m.errand y.ask y.is)))

  pub goes_on : (word : ℕ) (ws : List View) (failed : Bool) → (m : Moves a.entries a.marks.cut word p q a.replicas ws failed) → GoesOn a (carried_to a ws n failed ms) c t p q (FatedBy (fate_of word) c t m.server (get_or p.members.items m.server no_member))
  goes_on word ws failed m = by (fate_of word) m.moves
    where
      here : m.server < length c.servers
      here = (let all : length p.members.items ≡ length c.servers = (part.goes waiting).course.all in omega (arith, m.here, all))

      by : (f : Fate) → MovesBy f a.entries a.marks.cut m.server p q a.replicas ws failed → GoesOn a (carried_to a ws n failed ms) c t p q (FatedBy f c t m.server (get_or p.members.items m.server no_member))
      by Lose x = by_loss m.server ws failed here x
      by Deliver (inl x) = by_request m.server ws failed here x
      by Deliver (inr x) = by_answer m.server ws failed here x
      by DeliverAndKeep (inl x) = by_request m.server ws failed here x
      by DeliverAndKeep (inr x) = by_answer m.server ws failed here x

-- so many servers as before
moved_many : (entries : List Entry) (cut word : ℕ) (p q : Pending) (vs ws : List View) (failed : Bool) → Moves entries cut word p q vs ws failed → length ws ≡ length vs
moved_many entries cut word p q vs ws failed m = by (moves_so (fate_of word) entries cut m.server p q vs ws failed m.moves)
  where
    by : MovesByLoss cut m.server p q vs ws failed ⊎ (MovesByRequest entries cut m.server p q vs ws failed ⊎ MovesByAnswer cut m.server p q vs ws failed) → length ws ≡ length vs
    by (inl x) = ap (λ (xs : List View). length xs) x.servers
    by (inr (inl x)) = ap (λ (xs : List View). length xs) x.servers ∙ length-set vs m.server x.is
    by (inr (inr x)) = ap (λ (xs : List View). length xs) x.servers

-- a carry, in the cell that the loglet is
pub carries_in : (a : Native) (ws : List View) (n : PendingList) (ms : List Mail) (v : LogletView) (t word : ℕ) (failed : Bool) (c : Cell) → loglet_of a ≡ v → IsCellOf a c → CanCall v (CallCarry t word)
    → ((p : Pending) → look_in a.pending t ≡ Some p → CarriesAt a.entries a.marks.cut t word p a.pending n a.replicas ws failed) → ms ≡ kept_after (copy_in a t word) a.strays
    → Reaches a c (CallCarry t word) Carried (carried_to a ws n failed ms) × LogletStep v (CallCarry t word) Carried (loglet_of (carried_to a ws n failed ms))
carries_in a ws n ms v t word failed c e h can moved kept =
    let w : (p : Pending) × (look_in a.pending t ≡ Some p) × (p.outcome ≡ None) = waits_at a v t word e (c, h) can in
    let m : CarriesAt a.entries a.marks.cut t word w.0 a.pending n a.replicas ws failed = moved w.0 w.1 in
    let k : Moves a.entries a.marks.cut word w.0 m.next a.replicas ws failed = m.moves in
    let g : GoesOn a (carried_to a ws n failed ms) c t w.0 m.next (FatedBy (fate_of word) c t k.server (get_or w.0.members.items k.server no_member)) = goes_on a c h t w.0 m.next n ms w.1 w.2 word ws failed m.moves in
    let here : k.server < length c.servers = server_here a c h t w.0 w.1 w.2 k.server k.here in
    let z : IsCellOf (carried_to a ws n failed ms) (run_cell g.steps c) × LogletStep v (CallCarry t word) Carried (loglet_of (carried_to a ws n failed ms)) =
    carries a (carried_to a ws n failed ms) c v t word w.0 m.next _ e h can g refl refl (moved_many a.entries a.marks.cut word w.0 m.next a.replicas ws failed m.moves) refl w.1 w.2 m.is m.others (all_kept a c h t w.0 w.1 w.2 word k.server ms g.steps here k.picked g.are kept) in
    (record { steps = g.steps; are = record { p = w.0; is = w.1; server = k.server; picked = k.picked; moves = g.are }; cell = z.0 }, z.1)

-- a carry, whole
pub carries_owned : (a : Native) (ws : List View) (n : PendingList) (ms : List Mail) (v : LogletView) (t word : ℕ) (failed : Bool) → loglet_of a ≡ v → IsOwned a → CanCall v (CallCarry t word)
    → ((p : Pending) → look_in a.pending t ≡ Some p → CarriesAt a.entries a.marks.cut t word p a.pending n a.replicas ws failed) → ms ≡ kept_after (copy_in a t word) a.strays
    → IsOwned (carried_to a ws n failed ms) × LogletStep v (CallCarry t word) Carried (loglet_of (carried_to a ws n failed ms))
carries_owned a ws n ms v t word failed e h can moved kept =
    let z : Reaches a h.0 (CallCarry t word) Carried (carried_to a ws n failed ms) × LogletStep v (CallCarry t word) Carried (loglet_of (carried_to a ws n failed ms)) = carries_in a ws n ms v t word failed h.0 e h.1 can moved kept in
    ((run_cell z.0.steps h.0, z.0.cell), z.1)

-- what a carry asks for
pub can_carry : (a : Native) (v : LogletView) (t word : ℕ) → loglet_of a ≡ v → IsOwned a → CanCall v (CallCarry t word) → (p : Pending) → look_in a.pending t ≡ Some p → CanMove a.entries a.marks.cut (length a.replicas) p
can_carry a v t word e h can p is =
    let w : (q : Pending) × (look_in a.pending t ≡ Some q) × (q.outcome ≡ None) = waits_at a v t word e h can in
    let same : w.0 ≡ p = same_Some _ _ (sym w.1 ∙ is) in
    can_move a t p h is (subst (λ (q : Pending). q.outcome ≡ None) same w.2)
