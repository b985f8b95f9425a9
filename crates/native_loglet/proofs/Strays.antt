-- A copy comes again: what comes of it in the loglet comes of it in its cell.
use Rattle.std.proofs.Common.{◌≡◌, ℕ, zero, suc, ◌^◌, ◌%◌, ◌<◌, ◌≤◌, Bool, true, false, refl, sym, ◌∙◌, ap, subst, arith, List, [], ◌∷◌, ◌++◌, map, length, get_or, set, Option, Some, None, inl, inr}
use Rattle.std.specs.Prelude.{◌⊎◌, ◌&&◌, slice_get, if◌then◌else◌}
use Rattle.std.proofs.lemmas.Bool.{cases_eq}
use Rattle.std.proofs.lemmas.List.{length-set}
use Rattle.std.proofs.lemmas.List.Elements.{All-contains}
use Rattle.loglet_api.specs.declared.call.LogletCall.TheVariants.{Stray as CallStray}
use Rattle.loglet_api.specs.declared.call.LogletAnswer.TheVariants.{Strayed}
use Rattle.loglet_api.specs.Step.{LogletStep, Moves, IsAtMost}
use Rattle.quorum_cell.specs.declared.message.Ask.{Ask}
use Rattle.quorum_cell.specs.declared.message.Ask.TheVariants as ask
use Rattle.quorum_cell.specs.declared.message.Told.{Told}
use Rattle.quorum_cell.specs.declared.message.Told.TheVariants.{DiskFault}
use Rattle.quorum_cell.specs.declared.operation.Outcome.{Outcome}
use Rattle.quorum_cell.specs.declared.operation.CellStep.{CellStep}
use Rattle.quorum_cell.specs.declared.operation.CellStep.TheVariants.{RequestComes, RequestStops}
use Rattle.quorum_cell.specs.Servers.{Server, told as table, writes, written}
use Rattle.quorum_cell.specs.Cells.{Cell, operation, server, no_server}
use Rattle.quorum_cell.specs.Steps.{run_cell}
use Rattle.quorum_cell.specs.Law.{QuorumLaw, RequestHolds, IsOurs}
use Rattle.quorum_cell.proofs.Lists.{contained}
use Rattle.quorum_cell.proofs.Runs.{run_later}
use Rattle.cell_views.specs.Views.{Manner, IsNearer, cell_view, counted}
use Rattle.log_server.specs.View.{View}
use Rattle.log_server.specs.Answers.{Stops, Tells, after_ask}
use Rattle.native_plan.specs.declared.pending.Pending.{Pending}
use Rattle.native_plan.specs.declared.message.Errand.{Errand}
use Rattle.native_plan.specs.Pendings.{plan_left, left_now}
use Rattle.native_plan.specs.Strays.{errand_in, is_asked, HearsAgain}
use Rattle.native_ties.specs.Parts.{IsPartOf, AreStrays}
use Rattle.native_ties.specs.Steps.{GoesAs}
use Rattle.native_ties.specs.Strays.{IsRequest, IsReply, HearsBy, ComesAgain as ComesAgainIn, ComesTo}
use Rattle.native_ties.proofs.Bounds.{bounded}
use Rattle.native_ties.proofs.Losers.{within}
use Rattle.native_ties.proofs.Remaining.{no_more}
use Rattle.native_ties.proofs.Repeating.{comes_again, stops_again, comes_to, stops_at}
use Rattle.native_ties.proofs.Straying.{goes_as_again}
use Rattle.native_loglet.specs.declared.mail.Mail.{Mail}
use Rattle.native_loglet.specs.declared.mail.Mail.TheVariants as mail
use Rattle.native_loglet.specs.Faults.{faults_after}
use Rattle.native_loglet.specs.Natives.{Native, PendingList, server_in, look_in, loglet_of, left_for, left_in, manner_of, IsOpenAs, IsMail, IsCellOf}
use Rattle.native_loglet.specs.Copies.{hears_of, hears_in, HearsIn, HearsOpen, AsksAgain, TellsAgain, Rests, ComesAgain, CanAsk, CanCome, CanHear}
use Rattle.native_loglet.specs.Steps.{AsksAgain as AsksAgainBy, ComesAgainBy, Reaches}
use Rattle.native_loglet.proofs.Extending.{run_extends}
use Rattle.native_loglet.proofs.Mails.{strays_stay}
use Rattle.native_loglet.proofs.Viewing.{servers_many}
use Rattle.native_loglet.proofs.Stirring.{run_moves}
use Rattle.native_loglet.proofs.Stepping.{own_view, same_manner, step_of, open_there, stirred_tied, others_open, all_open}
use Rattle.native_loglet.proofs.Alike.{IsOwned, map_set, cut_small}
use Rattle.native_loglet.proofs.Messages.{carried_to, fault_or, one_more, server_there, can_move}

---- no more is left

least : (k : ℕ × ℕ) → 0 < k.1 → IsAtMost (0, 1) k
least k l = at k.0 refl
  where
    at : (n : ℕ) → k.0 ≡ n → IsAtMost (0, 1) k
    at zero x = inr (sym x, l)
    at (suc n) x = inl (omega (arith, x))

nearer_left : (p q : Pending) → p.outcome ≡ None → 0 < (plan_left p).1 → IsAtMost (left_now q) (left_now p) → IsAtMost (left_in (Some q)) (left_in (Some p))
nearer_left p q waiting some most = by q.outcome refl
  where
    by : (o : Option Outcome) → q.outcome ≡ o → IsAtMost (left_for q.outcome (plan_left q)) (left_for p.outcome (plan_left p))
    by None x = rw (x, waiting) (rw (x, waiting) at most)
    by (Some o) x = rw (x, waiting) (least (plan_left p) some)

at_most_same : (k : ℕ × ℕ) → IsAtMost k k
at_most_same k = inr (refl, omega arith)

---- what comes of it

-- an operation hears what comes, or none does, by steps that are nobody's call
pub record Strays (a b : Native) (c : Cell) (t : ℕ) (Are : List CellStep → Type 0) : Type 0 where
  pub steps : List CellStep
  pub are : Are steps
  pub strays : AreStrays steps
  pub here : IsOpenAs (run_cell steps c) t (look_in b.pending t)
  pub others : (q : ℕ) → (q ≡ t → ⊥) → operation (run_cell steps c) q ≡ operation c q
  pub kept : (q : ℕ) → (q ≡ t → ⊥) → look_in b.pending q ≡ look_in a.pending q
  pub servers : (run_cell steps c).servers ≡ map server_in b.replicas
  pub faults : counted (length (run_cell steps c).faults) ≡ b.marks.faults
  pub nearer : IsAtMost (left_in (look_in b.pending t)) (left_in (look_in a.pending t))

-- the loglet after a copy came
abbrev pub strayed_to : Native → List View → PendingList → Bool → Native
strayed_to a ws n failed = carried_to a ws n failed a.strays

pub strayed : (a : Native) (ws : List View) (n : PendingList) (failed : Bool) (c : Cell) (t : ℕ) (Are : List CellStep → Type 0) → IsCellOf a c → (g : Strays a (strayed_to a ws n failed) c t Are) → length ws ≡ length a.replicas
    → IsCellOf (strayed_to a ws n failed) (run_cell g.steps c) × Moves (loglet_of a) (loglet_of (strayed_to a ws n failed))
strayed a ws n failed c t Are h g many =
    let b : Native = strayed_to a ws n failed in
    let tied : IsCellOf b (run_cell g.steps c) = stirred_tied a b c g.steps h g.strays g.servers g.faults refl refl refl (others_open a b c (run_cell g.steps c) t h (run_later g.steps c) (run_extends g.steps c) g.others g.kept g.here) (strays_stay a c (run_cell g.steps c) h (run_later g.steps c) (run_extends g.steps c)) in
    let moved : Moves (cell_view (manner_of a) c) (cell_view (record (manner_of a) { left = (manner_of b).left }) (run_cell g.steps c)) = run_moves (manner_of a) (manner_of b).left g.steps c g.strays near in
    let after : loglet_of b ≡ cell_view (record (manner_of a) { left = (manner_of b).left }) (run_cell g.steps c) = own_view b (run_cell g.steps c) tied ∙ ap (λ (m : Manner). cell_view m (run_cell g.steps c)) (same_manner a b (manner_of b).left many) in
    (tied, subst (λ x. Moves x (loglet_of b)) (sym (own_view a c h)) (subst (λ x. Moves (cell_view (manner_of a) c) x) (sym after) moved))
  where
    near : IsNearer (manner_of a).left (manner_of (strayed_to a ws n failed)).left
    near k = by (cases_eq k t)
      where
        by : (k ≡ t) ⊎ (k ≡ t → ⊥) → IsAtMost (left_in (look_in n k)) (left_in (look_in a.pending k))
        by (inl x) = subst (λ (j : ℕ). IsAtMost (left_in (look_in n j)) (left_in (look_in a.pending j))) (sym x) g.nearer
        by (inr other) = rw (g.kept k other) (at_most_same (left_in (look_in a.pending k)))

---- it rests

rests : (a : Native) (ws : List View) (n : PendingList) (failed : Bool) (c : Cell) → IsCellOf a c → Rests a.pending n a.replicas ws failed → Strays a (strayed_to a ws n failed) c 0 (λ steps. steps ≡ [])
rests a ws n failed c h m = record {
  steps = [];
  are = refl;
  strays = tt;
  here = subst (IsOpenAs c 0) (sym (m.pending 0)) (h.operations 0);
  others = λ q other. refl;
  kept = λ q other. m.pending q;
  servers = h.servers ∙ sym (ap (map server_in) m.servers);
  faults = h.faults ∙ ap (λ b. faults_after b a.marks.faults) (sym m.fault);
  nearer = rw (m.pending 0) (at_most_same (left_in (look_in a.pending 0)));
}

module _ (a : Native) (c : Cell) (h : IsCellOf a c) (t i : ℕ) where
  law : QuorumLaw c
  law = h.lawful.law.quorum

  small : length c.entries ≤ 2 ^ 32
  small = omega (arith, h.lawful.law.quorum.fits, h.lawful.shape.room.1)

  some_left : (p : Pending) → IsPartOf c t p → p.outcome ≡ None → 0 < (plan_left p).1
  some_left p part waiting = (bounded c t p part waiting small).some

  ---- an answer

  module _ (e : Errand) (z : Told) (k : ℕ) (reply : IsReply c k t i e z) (here : i < length c.servers) (ws : List View) (n : PendingList) (failed : Bool) (m : TellsAgain a.marks.cut t i e z a.pending n a.replicas ws failed) where
    abbrev AreTold : Bool → List CellStep → Type 0
    AreTold heard steps = (k : ℕ) × IsReply c k t i e z × HearsBy heard t k steps

    told_still : (x : Option Pending) → look_in a.pending t ≡ x → look_in n t ≡ x → Strays a (strayed_to a ws n failed) c t (AreTold false)
    told_still x is now = record {
      steps = [];
      are = (k, reply, refl);
      strays = tt;
      here = subst (IsOpenAs c t) (is ∙ sym now) (h.operations t);
      others = λ q other. refl;
      kept = m.hears.others;
      servers = h.servers ∙ sym (ap (map server_in) m.servers);
      faults = h.faults ∙ ap (λ b. faults_after b a.marks.faults) (sym m.fault);
      nearer = rw (now, is) (at_most_same (left_in x));
    }

    told_heard : (p q : Pending) → look_in a.pending t ≡ Some p → p.outcome ≡ None → look_in n t ≡ Some q → HearsAgain a.marks.cut i e z p q → Strays a (strayed_to a ws n failed) c t (AreTold (is_asked p.phase i))
    told_heard p q is waiting now hears =
        let part : IsPartOf c t p = open_there a c t (Some p) is h in
        let in_cell : HearsAgain c.cut i e z p q = subst (λ j. HearsAgain j i e z p q) (sym h.cut) hears in
        let moved : GoesAs c t c.faults q (HearsBy (is_asked p.phase i) t k) = goes_as_again c k t i e z p q law part waiting here reply in_cell in
        record {
          steps = moved.0.steps;
          are = (k, reply, moved.1);
          strays = moved.0.strays;
          here = subst (IsOpenAs (run_cell moved.0.steps c) t) (sym now) moved.0.part;
          others = moved.0.others;
          kept = m.hears.others;
          servers = moved.0.servers ∙ h.servers ∙ sym (ap (map server_in) m.servers);
          faults = ap (λ (fs : List ℕ). counted (length fs)) moved.0.faults_are ∙ h.faults ∙ ap (λ b. faults_after b a.marks.faults) (sym m.fault);
          nearer = rw (now, is) (nearer_left p q waiting (some_left p part waiting) (no_more c k t i e z p q law part waiting here reply in_cell));
        }

    told_again : Strays a (strayed_to a ws n failed) c t (AreTold (hears_of (look_in a.pending t) i))
    told_again = by (look_in a.pending t) refl m.hears.hears
      where
        at : (p : Pending) → look_in a.pending t ≡ Some p → (o : Option Outcome) → p.outcome ≡ o → HearsOpen o a.marks.cut i e z p (look_in n t) → Strays a (strayed_to a ws n failed) c t (AreTold (hears_in o p.phase i))
        at p is None waiting x = told_heard p x.0 is waiting x.1 x.2
        at p is (Some o) decided x = told_still (Some p) is x

        by : (x : Option Pending) → look_in a.pending t ≡ x → HearsIn a.marks.cut i e z x (look_in n t) → Strays a (strayed_to a ws n failed) c t (AreTold (hears_of x i))
        by None is x = told_still None is x
        by (Some p) is x = at p is p.outcome refl x

  ---- a request

  module _ (x : Ask) (k : ℕ) (request : IsRequest c k t i x) (here : i < length c.servers) (ws : List View) (n : PendingList) (failed : Bool) (m : AsksAgain a.marks.cut t i x a.pending n a.replicas ws failed) where
    abbrev AreAsked : Option Pending → List CellStep → Type 0
    AreAsked z steps = (k : ℕ) × IsRequest c k t i x × AsksAgainBy z c t i k steps

    abbrev AreHeard : Bool → List CellStep → Type 0
    AreHeard heard steps = (hearing : List CellStep) × HearsBy heard t (length c.replies) hearing × ((steps ≡ RequestComes k ∷ hearing) ⊎ (steps ≡ RequestStops k ∷ hearing))

    same : server c i ≡ m.was.server
    same = ap (λ (ss : List Server). get_or ss i no_server) h.servers ∙ server_there a.replicas i m.was m.there

    -- its server answers by this step
    module _ (comes : CellStep) (which : (comes ≡ RequestComes k) ⊎ (comes ≡ RequestStops k)) (s : Server) (faults : List ℕ) (z : Told) (is_told : m.told ≡ z) (to : ComesTo c comes i s faults) (put : s ≡ m.is.server) (counts : counted (length faults) ≡ faults_after failed a.marks.faults)
        (again : (p q : Pending) → IsPartOf c t p → p.outcome ≡ None → HearsAgain c.cut i (errand_in x) z p q → ComesAgainIn c comes t i s faults p q) where
      takes : (hearing : List CellStep) → (comes ∷ hearing ≡ RequestComes k ∷ hearing) ⊎ (comes ∷ hearing ≡ RequestStops k ∷ hearing)
      takes hearing = by which
        where
          by : (comes ≡ RequestComes k) ⊎ (comes ≡ RequestStops k) → (comes ∷ hearing ≡ RequestComes k ∷ hearing) ⊎ (comes ∷ hearing ≡ RequestStops k ∷ hearing)
          by (inl e) = inl (ap (λ (y : CellStep). y ∷ hearing) e)
          by (inr e) = inr (ap (λ (y : CellStep). y ∷ hearing) e)

      servers_are : set c.servers i s ≡ map server_in ws
      servers_are = ap (λ (y : Server). set c.servers i y) put ∙ ap (λ (ss : List Server). set ss i m.is.server) h.servers ∙ sym (map_set a.replicas i m.is) ∙ sym (ap (map server_in) m.servers)

      asked_still : (y : Option Pending) → look_in a.pending t ≡ y → look_in n t ≡ y → Strays a (strayed_to a ws n failed) c t (AreHeard false)
      asked_still y is now = record {
        steps = comes ∷ [];
        are = ([], refl, takes []);
        strays = to.strays;
        here = subst (IsOpenAs (run_cell (comes ∷ []) c) t) (is ∙ sym now) (all_open a c (run_cell (comes ∷ []) c) h (run_later (comes ∷ []) c) (run_extends (comes ∷ []) c) to.operations t);
        others = λ q other. to.operations q;
        kept = m.hears.others;
        servers = to.servers ∙ servers_are;
        faults = ap (λ (fs : List ℕ). counted (length fs)) to.faults_are ∙ counts;
        nearer = rw (now, is) (at_most_same (left_in y));
      }

      asked_heard : (p q : Pending) → look_in a.pending t ≡ Some p → p.outcome ≡ None → look_in n t ≡ Some q → HearsAgain a.marks.cut i (errand_in x) m.told p q → Strays a (strayed_to a ws n failed) c t (AreHeard (is_asked p.phase i))
      asked_heard p q is waiting now hears =
          let part : IsPartOf c t p = open_there a c t (Some p) is h in
          let in_cell : HearsAgain c.cut i (errand_in x) z p q = subst (λ (y : Told). HearsAgain c.cut i (errand_in x) y p q) is_told (subst (λ j. HearsAgain j i (errand_in x) m.told p q) (sym h.cut) hears) in
          let g : ComesAgainIn c comes t i s faults p q = again p q part waiting in_cell in
          record {
            steps = comes ∷ g.steps;
            are = (g.steps, g.hears, takes g.steps);
            strays = g.strays;
            here = subst (IsOpenAs (run_cell (comes ∷ g.steps) c) t) (sym now) g.part;
            others = g.others;
            kept = m.hears.others;
            servers = g.servers ∙ servers_are;
            faults = ap (λ (fs : List ℕ). counted (length fs)) g.faults_are ∙ counts;
            nearer = rw (now, is) (nearer_left p q waiting (some_left p part waiting) g.no_more);
          }

      asked_by_step : Strays a (strayed_to a ws n failed) c t (AreHeard (hears_of (look_in a.pending t) i))
      asked_by_step = by (look_in a.pending t) refl m.hears.hears
        where
          at : (p : Pending) → look_in a.pending t ≡ Some p → (o : Option Outcome) → p.outcome ≡ o → HearsOpen o a.marks.cut i (errand_in x) m.told p (look_in n t) → Strays a (strayed_to a ws n failed) c t (AreHeard (hears_in o p.phase i))
          at p is None waiting y = asked_heard p y.0 is waiting y.1 y.2
          at p is (Some o) decided y = asked_still (Some p) is y

          by : (y : Option Pending) → look_in a.pending t ≡ y → HearsIn a.marks.cut i (errand_in x) m.told y (look_in n t) → Strays a (strayed_to a ws n failed) c t (AreHeard (hears_of y i))
          by None is y = asked_still None is y
          by (Some p) is y = at p is p.outcome refl y

    heard_asked : Strays a (strayed_to a ws n failed) c t (AreHeard (hears_of (look_in a.pending t) i)) → Strays a (strayed_to a ws n failed) c t (AreAsked (look_in a.pending t))
    heard_asked g = record {
      steps = g.steps;
      are = (k, request, record { hearing = g.are.0; hears = g.are.1; takes = g.are.2 });
      strays = g.strays;
      here = g.here;
      others = g.others;
      kept = g.kept;
      servers = g.servers;
      faults = g.faults;
      nearer = g.nearer;
    }

    asked_again : Strays a (strayed_to a ws n failed) c t (AreAsked (look_in a.pending t))
    asked_again = heard_asked (by (fault_or m.was m.is x m.told failed m.fault m.answers))
      where
        by : ((m.told ≡ DiskFault) × Stops m.was x m.is × (failed ≡ true)) ⊎ (Tells m.was x m.told m.is × (failed ≡ false)) → Strays a (strayed_to a ws n failed) c t (AreHeard (hears_of (look_in a.pending t) i))
        by (inl y) =
            let wanted : ((server c i).up && writes (server c i) x) ≡ true = ap (λ (s : Server). s.up && writes s x) same ∙ y.1.wanted in
            asked_by_step (RequestStops k) (inr refl) (record (server c i) { up = false; torn = Some x }) (c.faults ++ i ∷ []) DiskFault y.0 (stops_at c k t i x request wanted) (ap (λ (s : Server). record s { up = false; torn = Some x }) same ∙ sym y.1.server)
            (one_more c.faults i a.marks.faults h.faults ∙ ap (λ b. faults_after b a.marks.faults) (sym y.2)) (λ p q part waiting hears. stops_again c k t i x p q law part waiting here request wanted hears)
        by (inr y) =
            asked_by_step (RequestComes k) (inl refl) (if (server c i).up then written (server c i) x else server c i) c.faults (table (server c i) x) (y.0.told ∙ sym (ap (λ (s : Server). table s x) same)) (comes_to c k t i x request) (ap (λ (s : Server). after_ask s x) same ∙ sym y.0.server)
            (h.faults ∙ ap (λ b. faults_after b a.marks.faults) (sym y.1)) (λ p q part waiting hears. comes_again c k t i x p q law part waiting here request hears)

---- whichever it is

-- the steps that a copy takes, and what the loglet shows then
pub record Led (a b : Native) (c : Cell) (z : Option Mail) : Type 0 where
  pub steps : List CellStep
  pub are : ComesAgainBy a.pending c z steps
  pub cell : IsCellOf b (run_cell steps c)
  pub moves : Moves (loglet_of a) (loglet_of b)

led : (a : Native) (ws : List View) (n : PendingList) (failed : Bool) (c : Cell) (z : Option Mail) → IsCellOf a c → ((m : Mail) → z ≡ Some m → IsMail c m) → ComesAgain a.marks.cut z a.pending n a.replicas ws failed → Led a (strayed_to a ws n failed) c z
led a ws n failed c None h is m =
    let g = rests a ws n failed c h m in
    let y = strayed a ws n failed c 0 _ h g (ap (λ (xs : List View). length xs) m.servers) in
    record { steps = g.steps; are = g.are; cell = y.0; moves = y.1 }
led a ws n failed c (Some (mail.Asked t i x)) h is m =
    let k = is (mail.Asked t i x) refl in
    let g = asked_again a c h t i x k.0 k.1 k.2 ws n failed m in
    let y = strayed a ws n failed c t _ h g (ap (λ (xs : List View). length xs) m.servers ∙ length-set a.replicas i m.is) in
    record { steps = g.steps; are = g.are; cell = y.0; moves = y.1 }
led a ws n failed c (Some (mail.Told t i e z)) h is m =
    let k = is (mail.Told t i e z) refl in
    let g = told_again a c h t i e z k.0 k.1 k.2 ws n failed m in
    let y = strayed a ws n failed c t _ h g (ap (λ (xs : List View). length xs) m.servers) in
    record { steps = g.steps; are = g.are; cell = y.0; moves = y.1 }

pub strays_in : (a : Native) (ws : List View) (n : PendingList) (word : ℕ) (failed : Bool) (c : Cell) → IsCellOf a c → ComesAgain a.marks.cut (slice_get a.strays (word % length a.strays)) a.pending n a.replicas ws failed → Reaches a c (CallStray word) Strayed (strayed_to a ws n failed) × Moves (loglet_of a) (loglet_of (strayed_to a ws n failed))
strays_in a ws n word failed c h m =
    let g = led a ws n failed c (slice_get a.strays (word % length a.strays)) h (λ x e. h.strays (word % length a.strays) x e) m in
    (record { steps = g.steps; are = g.are; cell = g.cell }, g.moves)

pub strays_owned : (a : Native) (ws : List View) (n : PendingList) (word : ℕ) (failed : Bool) → IsOwned a → ComesAgain a.marks.cut (slice_get a.strays (word % length a.strays)) a.pending n a.replicas ws failed → IsOwned (strayed_to a ws n failed)
strays_owned a ws n word failed h m = (let z = strays_in a ws n word failed h.0 h.1 m in (run_cell z.0.steps h.0, z.0.cell))

pub strays_step : (a : Native) (ws : List View) (n : PendingList) (word : ℕ) (failed : Bool) → IsOwned a → ComesAgain a.marks.cut (slice_get a.strays (word % length a.strays)) a.pending n a.replicas ws failed → LogletStep (loglet_of a) (CallStray word) Strayed (loglet_of (strayed_to a ws n failed))
strays_step a ws n word failed h m =
    let z = strays_in a ws n word failed h.0 h.1 m in
    step_of a (strayed_to a ws n failed) h.0 (run_cell z.0.steps h.0) (loglet_of a) (CallStray word) Strayed refl h.1 z.0.cell tt z.1

---- what it asks for

can_ask : (a : Native) (c : Cell) (x : Ask) → IsCellOf a c → IsOurs c x → CanAsk x
can_ask a c (ask.Store p e) h ours = (let l = within c.entries p e ours in omega (arith, l, h.lawful.law.quorum.fits, h.lawful.shape.room.1), h.spelled p e ours)
can_ask a c ask.Seal h ours = tt
can_ask a c ask.Tail h ours = tt
can_ask a c (ask.Repair p e) h ours = (let l = within c.entries p e ours in omega (arith, l, h.lawful.law.quorum.fits, h.lawful.shape.room.1), h.spelled p e ours)
can_ask a c (ask.Read p) h ours = tt
can_ask a c (ask.Trim n) h ours = (let cut = cut_small a (c, h) in omega (arith, ours, h.cut, cut))

pub can_come : (a : Native) → IsOwned a → (n : ℕ) (m : Mail) → slice_get a.strays n ≡ Some m → CanCome (length a.replicas) m
can_come a h n m e = by m (h.1.strays n m e)
  where
    by : (x : Mail) → IsMail h.0 x → CanCome (length a.replicas) x
    by (mail.Asked t i x) k =
        let holds : RequestHolds h.0 (record { ticket = t; server = i; ask = x }) = All-contains (RequestHolds h.0) h.0.requests (record { ticket = t; server = i; ask = x }) h.1.lawful.law.quorum.requests (contained h.0.requests k.0 (record { ticket = t; server = i; ask = x }) k.1) in
        (omega (arith, k.2, servers_many a h.0 h.1), can_ask a h.0 x h.1 holds.ours)
    by (mail.Told t i e z) k = omega (arith, k.2, servers_many a h.0 h.1)

pub can_hear : (a : Native) → IsOwned a → (t : ℕ) (p : Pending) → look_in a.pending t ≡ Some p → p.outcome ≡ None → CanHear (length a.replicas) p
can_hear a h t p is waiting = (let m = can_move a t p h is waiting in record { members = m.members; few = m.few; turns = m.turns })
