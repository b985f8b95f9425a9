-- The calls of a striped loglet, by its fields.
use Rattle.std.proofs.Common.{◌≡◌, inl, inr, ℕ, ◌+◌, ◌-◌, ◌/◌, ◌%◌, ◌^◌, ◌<◌, ◌≤◌, List, length, map, set, Option, Some, None, is_some, Bool, nat_eq, refl, sym, ap, ◌∙◌, subst, arith, min, max}
use Rattle.std.specs.Prelude.{◌⊎◌, slice_get}
use Rattle.std.specs.HashMap.{get, Updates}
use Rattle.loglet_api.specs.declared.call.Answer.{Answer}
use Rattle.loglet_api.specs.declared.call.LogletCall.{LogletCall}
use Rattle.loglet_api.specs.declared.call.LogletCall.TheVariants.{Begin, Carry, Forget, Stray, Stop, Restart}
use Rattle.loglet_api.specs.declared.call.LogletAnswer.{LogletAnswer}
use Rattle.loglet_api.specs.declared.call.LogletAnswer.TheVariants.{Begun, Refusal, Forgotten, Strayed, Stopped, Restarted}
use Rattle.loglet_api.specs.declared.call.Refused.{Refused}
use Rattle.loglet_api.specs.declared.call.Refused.TheVariants.{Full, Memory}
use Rattle.loglet_api.specs.View.{LogletView, IsOpen}
use Rattle.loglet_api.specs.Servers.{ServersView}
use Rattle.loglet_api.specs.Step.{LogletStep, Does, RoseBy, Moves, Restarts, TakesAnswer, Forgets, Carries, wanted_by, told_reach, told_firm, told_cap, told_lacks}
use Rattle.loglet_api.proofs.Keeps.{step_keeps}
use Rattle.striped_loglet.specs.declared.given.Given.{Given}
use Rattle.striped_loglet.specs.declared.marks.Marks.{Marks}
use Rattle.striped_loglet.specs.declared.shape.Shape.{Shape}
use Rattle.striped_loglet.specs.declared.plan.Plan.{Plan}
use Rattle.striped_loglet.specs.declared.plan.Heard.{Heard}
use Rattle.striped_loglet.specs.declared.plan.Heard.TheVariants.{On, Decided}
use Rattle.striped_loglet.specs.declared.stripe.Inner.{Inner}
use Rattle.striped_loglet.specs.declared.stripe.Outcome.{Outcome}
use Rattle.striped_loglet.specs.declared.stripe.Outcome.TheVariants.{Going, Answered}
use Rattle.striped_loglet.specs.declared.pending.Pending.{Pending}
use Rattle.striped_loglet.specs.declared.pending.Course.{Course}
use Rattle.striped_loglet.specs.declared.pending.Decided.{Decided as DecidedOne}
use Rattle.striped_loglet.specs.Plans.{heard_by, told_at, asked_of, plan_behind}
use Rattle.loglet_api.specs.declared.call.Answer.TheVariants.{Beyond}
use Rattle.striped_loglet.specs.Views.{total}
use Rattle.striped_loglet.specs.State.{Plain, State, PendingMap, plain_of, plain_at, state_of, loglet_of}
use Rattle.striped_loglet.specs.Going.{IsPending, IsStriped}
use Rattle.striped_loglet.specs.Calls.{CallsServer, Strays, CarriedOn, CarriedInner, RefusedInner, BegunNext, IsBeyond, RefusedNext, Hears, HearsOf}
use Rattle.striped_loglet.specs.Pendings.{Sets, TakesOut}
use Rattle.striped_loglet.proofs.Lists.{map_set, map_get, set_back, within, set_here, total_same, total_less, total_set, total_at}
use Rattle.loglet_api.specs.Answers.{restart_answer}
use Rattle.std.specs.Prelude.{Result, Ok, Err}
use Rattle.std.proofs.Common.{get_or}
use Rattle.striped_loglet.specs.Shapes.{HasServer}
use Rattle.striped_loglet.specs.Striped.{StripedView, striped_view}
use Rattle.striped_loglet.proofs.Places.{length_view, got_at, view_at}
use Rattle.striped_loglet.proofs.Sounds.{striped_sound}
use Rattle.striped_loglet.proofs.Steps.{moved, moved_moves}
use Rattle.striped_loglet.proofs.Carried.{now, Puts}
use Rattle.striped_loglet.proofs.Beginning.{begun_next, never_full}
use Rattle.striped_loglet.proofs.Answering.{told_by, carried_answer, carried_going, carried_beyond}
use Rattle.striped_loglet.proofs.Removing.{tells, taken_step, forgotten_step, forgotten_inner, covered_small_size}
use Rattle.striped_loglet.proofs.Bridge.{puts_by, at_by, found}

module _ {L : Type 0} (view : L → LogletView) where
  -- ---- Take

  pub taken_whole : (shape : Shape) (xs : List L) (marks marks' : Marks) (m n : PendingMap L) (t : ℕ) (d : DecidedOne) (answer : Answer) (length : ℕ) → IsStriped (state_of view shape xs marks m) → TakesOut m t d n → answer ≡ told_at d.task marks.cut d.answer → length ≡ wanted_by d.task d.size
      → marks' ≡ record marks { reach = max marks.reach (told_reach length answer); firm = max marks.firm (told_firm length answer); cap = told_cap answer marks.cap; lacks = marks.lacks + told_lacks answer }
      → IsStriped (state_of view shape xs marks' n) × TakesAnswer (loglet_of (state_of view shape xs marks m)) t answer (loglet_of (state_of view shape xs marks' n))
  taken_whole shape xs marks marks' m n t d answer length h w ea el em =
      let s = state_of view shape xs marks m in
      let p = plain_of view w.p in
      taken_step s marks' (plain_at view n) t p d.answer answer h (at_by view m t w.p w.was) w.answer (rw w.task ea) (puts_by view m n t None w.rest)
      (em ∙ (let z : length ≡ wanted_by w.p.asked.task w.p.asked.size = rw (w.task, w.size) el in ap (λ (k : ℕ). record marks { reach = max marks.reach (told_reach k answer); firm = max marks.firm (told_firm k answer); cap = told_cap answer marks.cap; lacks = marks.lacks + told_lacks answer }) z))

  pub taken_small : (shape : Shape) (xs : List L) (marks : Marks) (m n : PendingMap L) (t : ℕ) (d : DecidedOne) → IsStriped (state_of view shape xs marks m) → TakesOut m t d n
      → (told_reach (wanted_by d.task d.size) (told_at d.task marks.cut d.answer) < 2 ^ 64) × (told_firm (wanted_by d.task d.size) (told_at d.task marks.cut d.answer) < 2 ^ 64)
  taken_small shape xs marks m n t d h w =
      let s = state_of view shape xs marks m in
      let p = plain_of view w.p in
      let pend = found view shape xs marks m t w.p h w.was in
      let told = tells s p w.p.asked.task d.answer h pend.firm (pend.told d.answer w.answer) in
      let less = told.less in
      let most = covered_small_size s h (told_firm (wanted_by w.p.asked.task w.p.asked.size) (told_at w.p.asked.task marks.cut d.answer)) told.firm in
      rw (← w.task, ← w.size) (omega (arith, less, most), omega (arith, most))

  pub size_small : (shape : Shape) (xs : List L) (marks : Marks) (m n : PendingMap L) (t : ℕ) (d : DecidedOne) → IsStriped (state_of view shape xs marks m) → TakesOut m t d n → d.size + 1 < 2 ^ 64
  size_small shape xs marks m n t d h w =
      let pend = found view shape xs marks m t w.p h w.was in
      let a = pend.size in
      let b = h.size in
      let c = h.shaped.room.1 in
      let e = w.size in
      omega (arith, a, b, c, e)

  pub lacks_small : (shape : Shape) (xs : List L) (marks : Marks) (m : PendingMap L) → IsStriped (state_of view shape xs marks m) → marks.lacks + 1 < 2 ^ 64
  lacks_small shape xs marks m h =
      let s = state_of view shape xs marks m in
      let ok = striped_sound s h in
      let a = h.lacks in
      let b = h.begun in
      let c = ok.shape.limit in
      omega (arith, a, b, c)

  -- ---- Forget

  pub forgotten_none : (shape : Shape) (xs : List L) (marks : Marks) (m n : PendingMap L) (t : ℕ) (p : Pending L) → IsStriped (state_of view shape xs marks m) → get nat_eq m t ≡ Some p → Updates nat_eq m n t None
      → IsStriped (state_of view shape xs marks n) × Forgets (loglet_of (state_of view shape xs marks m)) t (loglet_of (state_of view shape xs marks n))
  forgotten_none shape xs marks m n t p h is u = forgotten_step (state_of view shape xs marks m) (plain_at view n) t (plain_of view p) h (at_by view m t p is) (puts_by view m n t None u)

  pub forgotten_some : (shape : Shape) (xs : List L) (marks : Marks) (m n : PendingMap L) (t : ℕ) (p : Pending L) (x : Inner) (old new : L) → IsStriped (state_of view shape xs marks m) → get nat_eq m t ≡ Some p → p.inner ≡ Some x → slice_get xs x.stripe ≡ Some old → LogletStep (view old) (Forget x.ticket) Forgotten (view new) → Updates nat_eq m n t None
      → IsStriped (state_of view shape (set xs x.stripe new) marks n) × Forgets (loglet_of (state_of view shape xs marks m)) t (loglet_of (state_of view shape (set xs x.stripe new) marks n))
  forgotten_some shape xs marks m n t p x old new h is mine here step u =
      let s = state_of view shape xs marks m in
      let both = forgotten_inner s (plain_at view n) t (plain_of view p) x (view old) (view new) h (at_by view m t p is) mine (map_get view xs x.stripe old here) step.after (step_keeps (view old) (Forget x.ticket) Forgotten (view new) step) step.does (puts_by view m n t None u) in
      subst (λ (views : List LogletView). IsStriped (now s views (plain_at view n)) × Forgets (loglet_of s) t (loglet_of (now s views (plain_at view n)))) (sym (map_set view xs x.stripe new)) both

  -- what a stripe does for an operation is open there
  pub inner_open : (shape : Shape) (xs : List L) (marks : Marks) (m : PendingMap L) (t : ℕ) (p : Pending L) (x : Inner) → IsStriped (state_of view shape xs marks m) → get nat_eq m t ≡ Some p → p.inner ≡ Some x → (x.stripe < length xs) × ((v : LogletView) → slice_get (map view xs) x.stripe ≡ Some v → IsOpen v x.ticket)
  inner_open shape xs marks m t p x h is mine =
      let pend = found view shape xs marks m t p h is in
      by p.answer refl pend
    where
      by : (a : Option Answer) → p.answer ≡ a → IsPending (state_of view shape xs marks m) t (plain_of view p) → (x.stripe < length xs) × ((v : LogletView) → slice_get (map view xs) x.stripe ≡ Some v → IsOpen v x.ticket)
      by (Some a) e pend = absurd (let none = pend.alone a e in let clash : Some x ≡ None = sym mine ∙ none in cc)
      by None e pend = (let g = pend.going e in
          ((let l = g.inner x mine in let k = length_view view xs in omega (arith, l, k)), λ v d. ap is_some (g.asks x v mine d).is))

  -- ---- a stripe's move

  pub moved_whole : (shape : Shape) (xs : List L) (marks : Marks) (m : PendingMap L) (i : ℕ) (old new : L) (call : LogletCall) (answer : LogletAnswer) → IsStriped (state_of view shape xs marks m) → slice_get xs i ≡ Some old → LogletStep (view old) call answer (view new) → Moves (view old) (view new)
      → IsStriped (state_of view shape (set xs i new) marks m) × Moves (loglet_of (state_of view shape xs marks m)) (loglet_of (state_of view shape (set xs i new) marks m))
  moved_whole shape xs marks m i old new call answer h here step moves =
      let s = state_of view shape xs marks m in
      let at = map_get view xs i old here in
      let keeps = step_keeps (view old) call answer (view new) step in
      let both : IsStriped (now s (set s.views i (view new)) s.at) × Moves (loglet_of s) (loglet_of (now s (set s.views i (view new)) s.at)) = (moved s i (view old) (view new) h at step.after keeps moves, moved_moves s i (view old) (view new) h at step.after keeps moves) in
      subst (λ (views : List LogletView). IsStriped (now s views s.at) × Moves (loglet_of s) (loglet_of (now s views s.at))) (sym (map_set view xs i new)) both

  -- a stripe that shows what it showed
  pub unmoved : (shape : Shape) (xs : List L) (marks : Marks) (m : PendingMap L) (i : ℕ) (old new : L) → slice_get xs i ≡ Some old → view new ≡ view old → state_of view shape (set xs i new) marks m ≡ state_of view shape xs marks m
  unmoved shape xs marks m i old new here same =
      let e : map view (set xs i new) ≡ map view xs = map_set view xs i new ∙ ap (λ v. set (map view xs) i v) same ∙ set_back (map view xs) i (view old) (map_get view xs i old here) in
      ap (λ (views : List LogletView). record { views = views; shape = shape; marks = marks; at = plain_at view m }) e

  -- ---- Restart

  pub restarted : (shape : Shape) (xs : List L) (marks : Marks) (m : PendingMap L) (i server word : ℕ) (old new : L) (up : Bool) → IsStriped (state_of view shape xs marks m) → slice_get xs i ≡ Some old → LogletStep (view old) (Restart server word) (Restarted up) (view new)
      → IsStriped (state_of view shape (set xs i new) marks m) × Restarts (loglet_of (state_of view shape xs marks m)) up (loglet_of (state_of view shape (set xs i new) marks m))
  restarted shape xs marks m i server word old new up h here step =
      let s = state_of view shape xs marks m in
      let n = state_of view shape (set xs i new) marks m in
      let at = map_get view xs i old here in
      let both = moved_whole shape xs marks m i old new (Restart server word) (Restarted up) h here step step.does.moves in
      let e = map_set view xs i new in
      let faults : total (λ v. v.faults) (set (map view xs) i (view new)) + (view old).faults ≡ total (λ v. v.faults) (map view xs) + (view new).faults = total_set (λ v. v.faults) (map view xs) i (view old) (view new) at in
      let faults' : total (λ v. v.faults) (map view (set xs i new)) + (view old).faults ≡ total (λ v. v.faults) (map view xs) + (view new).faults = rw e faults in
      let part : (view new).faults ≤ total (λ v. v.faults) (map view (set xs i new)) = total_at (λ v. v.faults) (map view (set xs i new)) i (view new) (rw e (set_here (map view xs) i (view old) (view new) at)) in
      let ups : (view old).faults ≤ (view new).faults = step.does.moves.faults in
      let servers : total (λ v. v.servers) (map view (set xs i new)) ≡ total (λ v. v.servers) (map view xs) = rw e (total_same (λ v. v.servers) (map view xs) i (view old) (view new) at (ap (λ (v : LogletView). v.servers) step.does.moves.rest)) in (
        both.0,
        record {
          moves = both.1;
          failed = λ f. rose_one (total (λ v. v.faults) (map view xs)) (total (λ v. v.faults) (map view (set xs i new))) (view old).faults (view new).faults marks.refusals faults' part ups (step.does.failed f);
          up = λ u. (let few : total (λ v. v.down) (map view (set xs i new)) < total (λ v. v.servers) (map view (set xs i new)) = total_less (map view (set xs i new)) i (view new) (rw e (set_here (map view xs) i (view old) (view new) at)) (λ k v d. (both.0.stripes k v d).sound.down) (step.does.up u) in
              let shape' = h.shaped.servers in omega (arith, few, servers, shape'));
          idle = λ none. (let part' : (view old).down ≤ total (λ v. v.down) (map view xs) = total_at (λ v. v.down) (map view xs) i (view old) at in
              let zero' : (view old).down ≡ 0 = omega (arith, part', none) in
              let idle = step.does.idle zero' in
              (idle.0, ap loglet_of (unmoved shape xs marks m i old new here idle.1)));
        },
      )
    where
      rose_one : (S T v w r : ℕ) → T + v ≡ S + w → w ≤ T → v ≤ w → RoseBy 1 v w → RoseBy 1 (min (S + r) (2 ^ 64 - 1)) (min (T + r) (2 ^ 64 - 1))
      rose_one S T v w r e part l h = omega (arith, e, part, l, h)

  -- ---- calls of one stripe that are handed through

  pub stray_done : (shape : Shape) (xs : List L) (marks : Marks) (m : PendingMap L) (i word word' : ℕ) (old new : L) → IsStriped (state_of view shape xs marks m) → i < length xs → old ≡ get_or xs i old → LogletStep (view old) (Stray word') Strayed (view new)
      → IsStriped (state_of view shape (set xs i new) marks m) × Does (loglet_of (state_of view shape xs marks m)) (Stray word) Strayed (loglet_of (state_of view shape (set xs i new) marks m))
  stray_done shape xs marks m i word word' old new h l e step = moved_whole shape xs marks m i old new (Stray word') Strayed h (got_at xs i old l e) step step.does

  pub stray_refused : (shape : Shape) (xs : List L) (marks : Marks) (m : PendingMap L) (i word word' : ℕ) (old new : L) (refused : Refused) → IsStriped (state_of view shape xs marks m) → i < length xs → old ≡ get_or xs i old → LogletStep (view old) (Stray word') (Refusal refused) (view new)
      → IsStriped (state_of view shape (set xs i new) marks m) × Does (loglet_of (state_of view shape xs marks m)) (Stray word) (Refusal refused) (loglet_of (state_of view shape (set xs i new) marks m))
  stray_refused shape xs marks m i word word' old new Memory h l e step =
      let same = unmoved shape xs marks m i old new (got_at xs i old l e) step.does in
      (subst IsStriped (sym same) h, ap loglet_of same)
  stray_refused shape xs marks m i word word' old new Full h l e step = absurd step.does

  restarts : (shape : Shape) (xs : List L) (marks : Marks) (m : PendingMap L) (i server server' word : ℕ) (old new : L) (r : Result Bool Refused) → IsStriped (state_of view shape xs marks m) → slice_get xs i ≡ Some old → LogletStep (view old) (Restart server' word) (restart_answer r) (view new)
      → IsStriped (state_of view shape (set xs i new) marks m) × Does (loglet_of (state_of view shape xs marks m)) (Restart server word) (restart_answer r) (loglet_of (state_of view shape (set xs i new) marks m))
  restarts shape xs marks m i server server' word old new (Ok up) h here step = restarted shape xs marks m i server' word old new up h here step
  restarts shape xs marks m i server server' word old new (Err Memory) h here step =
      let e = unmoved shape xs marks m i old new here step.does in
      (subst IsStriped (sym e) h, ap loglet_of e)
  restarts shape xs marks m i server server' word old new (Err Full) h here step = absurd step.does

  pub restart_whole : (shape : Shape) (xs : List L) (marks : Marks) (m : PendingMap L) (i server server' word : ℕ) (old new : L) (r : Result Bool Refused) → IsStriped (state_of view shape xs marks m) → i < length xs → old ≡ get_or xs i old → LogletStep (view old) (Restart server' word) (restart_answer r) (view new)
      → IsStriped (state_of view shape (set xs i new) marks m) × Does (loglet_of (state_of view shape xs marks m)) (Restart server word) (restart_answer r) (loglet_of (state_of view shape (set xs i new) marks m))
  restart_whole shape xs marks m i server server' word old new r h l e step = restarts shape xs marks m i server server' word old new r h (got_at xs i old l e) step

  pub stop_whole : (shape : Shape) (xs : List L) (marks : Marks) (m : PendingMap L) (i server word : ℕ) (old new : L) → IsStriped (state_of view shape xs marks m) → i < length xs → old ≡ get_or xs i old → LogletStep (view old) (Stop server word) Stopped (view new)
      → IsStriped (state_of view shape (set xs i new) marks m) × (loglet_of (state_of view shape (set xs i new) marks m) ≡ loglet_of (state_of view shape xs marks m))
  stop_whole shape xs marks m i server word old new h l e step =
      let same = unmoved shape xs marks m i old new (got_at xs i old l e) step.does in
      (subst IsStriped (sym same) h, ap loglet_of same)

  -- the stripe of a server
  pub server_there : {number : ℕ} (xs : List L) (i server : ℕ) → HasServer (map view xs) number i server → i < length xs
  server_there xs i server h = let l = within (map view xs) i h.view h.is in let e = length_view view xs in omega (arith, l, e)

  pub server_below : {number : ℕ} (xs : List L) (i server : ℕ) (old : L) → HasServer (map view xs) number i server → old ≡ get_or xs i old → server < (view old).servers
  server_below xs i server old h e =
      let at = view_at view xs i old (server_there xs i server h) e in
      let same : h.view ≡ view old = some_view h.view (view old) (sym h.is ∙ at) in
      let s = ap (λ (v : LogletView). v.servers) same in
      let b = h.below in
      omega (arith, b, s)
    where
      some_view : (a c : LogletView) → Some a ≡ Some c → a ≡ c
      some_view a c k = cc

  pub server_of_all : (serving : L → ServersView) {given : Given} (shape : Shape) (xs : List L) (marks : Marks) (m : PendingMap L) (w : StripedView) (server : ℕ) → striped_view view serving shape xs marks m given ≡ w → IsStriped (state_of view shape xs marks m) → server < w.loglet.servers → server < total (λ v. v.servers) (map view xs)
  server_of_all serving shape xs marks m w server e h l = let a = ap (λ (v : StripedView). v.loglet.servers) e in let b = h.shaped.servers in omega (arith, l, a, b)

  -- which stripe it was
  pub server_called : (serving : L → ServersView) {given : Given} (shape : Shape) (xs : List L) (marks : Marks) (m : PendingMap L) (w : StripedView) (number i server : ℕ) (call : ℕ → LogletCall) (answer : LogletAnswer) (old new : L) → striped_view view serving shape xs marks m given ≡ w → HasServer (map view xs) number i server → old ≡ get_or xs i old
      → LogletStep (view old) (call server) answer (view new) → CallsServer w.stripes number call answer (map view (set xs i new))
  server_called serving shape xs marks m w number i server call answer old new e h is step =
      let at = view_at view xs i old (server_there xs i server h) is in
      let same : view old ≡ h.view = some_view (view old) h.view (sym at ∙ h.is) in
      subst (λ (vs : List LogletView). CallsServer vs number call answer (map view (set xs i new))) (ap (λ (v : StripedView). v.stripes) e) (record {
        stripe = i;
        inner = server;
        place = h;
        after = view new;
        step = subst (λ (v : LogletView). LogletStep v (call server) answer (view new)) same step;
        rest = map_set view xs i new;
      })
    where
      some_view : (a c : LogletView) → Some a ≡ Some c → a ≡ c
      some_view a c k = cc

  pub stray_called : (serving : L → ServersView) {given : Given} (shape : Shape) (xs : List L) (marks : Marks) (m : PendingMap L) (w : StripedView) (word count i inner : ℕ) (answer : LogletAnswer) (old new : L) → striped_view view serving shape xs marks m given ≡ w → count ≡ length xs → i ≡ word % count → inner ≡ word / count → i < length xs → old ≡ get_or xs i old
      → LogletStep (view old) (Stray inner) answer (view new) → Strays w.stripes word answer (map view (set xs i new))
  stray_called serving shape xs marks m w word count i inner answer old new e ec ei en l is step =
      let k : count ≡ length (map view xs) = ec ∙ sym (length_view view xs) in
      let place : i ≡ word % length (map view xs) = ei ∙ ap (λ (n : ℕ). word % n) k in
      subst (λ (vs : List LogletView). Strays vs word answer (map view (set xs i new))) (ap (λ (v : StripedView). v.stripes) e) (record {
        before = view old;
        after = view new;
        is = subst (λ (n : ℕ). slice_get (map view xs) n ≡ Some (view old)) place (view_at view xs i old l is);
        step = subst (λ (n : ℕ). LogletStep (view old) (Stray n) answer (view new)) (en ∙ ap (λ (n : ℕ). word / n) k) step;
        rest = map_set view xs i new ∙ ap (λ (n : ℕ). set (map view xs) n (view new)) place;
      })

  -- ---- Carry

  pub sets_puts : (m n : PendingMap L) (t : ℕ) (p : Pending L) (plan : Plan) (inner : Option Inner) (answer : Option Answer) → get nat_eq m t ≡ Some p → Sets m t plan inner answer n
      → Puts (plain_at view m) t (Some (record (plain_of view p) { plan = plan; inner = inner; answer = answer })) (plain_at view n)
  sets_puts m n t p plan inner answer is h = puts_by view m n t (Some (record p { plan = plan; inner = inner; answer = answer })) (h p is)

  pub heard_puts : (m n : PendingMap L) (t : ℕ) (p : Pending L) (heard : Heard) → get nat_eq m t ≡ Some p → Hears m t p.plan heard n → Puts (plain_at view m) t (Some (told_by (plain_of view p) heard)) (plain_at view n)
  heard_puts m n t p (On plan) is h = sets_puts m n t p plan None None is h
  heard_puts m n t p (Decided answer) is h = sets_puts m n t p p.plan None (Some answer) is h

  carried_as : (s : State) (at : ℕ → Option Plain) (t word : ℕ) (views new : List LogletView) → new ≡ views → IsStriped (now s views at) × Carries (loglet_of s) t (loglet_of (now s views at)) → IsStriped (now s new at) × Carries (loglet_of s) t (loglet_of (now s new at))
  carried_as s at t word views new e h = subst (λ (vs : List LogletView). IsStriped (now s vs at) × Carries (loglet_of s) t (loglet_of (now s vs at))) (sym e) h

  carried_outcome : (shape : Shape) (xs ys : List L) (marks : Marks) (m n : PendingMap L) (t word : ℕ) (p : Pending L) (course : Course) (x : Inner) (before after' : LogletView) (outcome : Outcome) → IsStriped (state_of view shape xs marks m) → get nat_eq m t ≡ Some p → p.answer ≡ None → p.inner ≡ Some x
      → course ≡ record { asked = p.asked; plan = p.plan } → slice_get (map view xs) x.stripe ≡ Some before → CarriedOn before x word (Ok outcome) after' → map view ys ≡ set (map view xs) x.stripe after' → HearsOf m t course x (length (map view xs)) outcome n
      → IsStriped (state_of view shape ys marks n) × Carries (loglet_of (state_of view shape xs marks m)) t (loglet_of (state_of view shape ys marks n))
  carried_outcome shape xs ys marks m n t word p course x before after' (Going y) h is none mine ec here carried rest hears =
      let s = state_of view shape xs marks m in
      let sets : Sets m t p.plan (Some y) None n = subst (λ (c : Course). Sets m t c.plan (Some y) None n) ec hears in
      carried_as s (plain_at view n) t word (set (map view xs) x.stripe after') (map view ys) rest
      (carried_going s (plain_at view n) t word (plain_of view p) x y before after' h (at_by view m t p is) mine none here carried.0 carried.2 carried.3 (sets_puts m n t p p.plan (Some y) None is sets))
  carried_outcome shape xs ys marks m n t word p course x before after' (Answered answer) h is none mine ec here carried rest hears =
      let s = state_of view shape xs marks m in
      let heard : Hears m t p.plan (heard_by p.asked.task p.asked.size p.plan x.stripe (length (map view xs)) answer) n = subst (λ (c : Course). Hears m t c.plan (heard_by c.asked.task c.asked.size c.plan x.stripe (length (map view xs)) answer) n) ec hears in
      carried_as s (plain_at view n) t word (set (map view xs) x.stripe after') (map view ys) rest
      (carried_answer s (plain_at view n) t word (plain_of view p) x before carried.0 after' answer h (at_by view m t p is) mine none here carried.1 carried.2 (heard_puts m n t p (heard_by p.asked.task p.asked.size p.plan x.stripe (length (map view xs)) answer) is heard))

  -- want of memory leaves all that is shown
  pub same_shown : (shape : Shape) (xs ys : List L) (marks : Marks) (m n : PendingMap L) (i : ℕ) (before after' : LogletView) → slice_get (map view xs) i ≡ Some before → after' ≡ before → map view ys ≡ set (map view xs) i after' → n ≡ m → state_of view shape ys marks n ≡ state_of view shape xs marks m
  same_shown shape xs ys marks m n i before after' here same rest em =
      let e : map view ys ≡ map view xs = rest ∙ ap (λ v. set (map view xs) i v) same ∙ set_back (map view xs) i before here in
      ap (λ (views : List LogletView). record { views = views; shape = shape; marks = marks; at = plain_at view n }) e ∙ ap (λ (k : PendingMap L). state_of view shape xs marks k) em

  pub refused_same : (shape : Shape) (xs ys : List L) (marks : Marks) (m n : PendingMap L) (x : Inner) (word : ℕ) (refused : Refused) → RefusedInner (map view xs) m x word refused (map view ys) n → state_of view shape ys marks n ≡ state_of view shape xs marks m
  refused_same shape xs ys marks m n x word Memory r = same_shown shape xs ys marks m n x.stripe r.before r.after r.is r.carried.does r.rest r.same
  refused_same shape xs ys marks m n x word Full r = absurd r.carried.does

  pub refused_inner : (shape : Shape) (xs ys : List L) (marks : Marks) (m n : PendingMap L) (t word : ℕ) (x : Inner) (refused : Refused) → IsStriped (state_of view shape xs marks m) → RefusedInner (map view xs) m x word refused (map view ys) n
      → IsStriped (state_of view shape ys marks n) × Does (loglet_of (state_of view shape xs marks m)) (Carry t word) (Refusal refused) (loglet_of (state_of view shape ys marks n))
  refused_inner shape xs ys marks m n t word x Memory h r =
      let e = same_shown shape xs ys marks m n x.stripe r.before r.after r.is r.carried.does r.rest r.same in
      (subst IsStriped (sym e) h, ap loglet_of e)
  refused_inner shape xs ys marks m n t word x Full h r = absurd r.carried.does

  pub inner_done : (shape : Shape) (xs ys : List L) (marks : Marks) (m n : PendingMap L) (t word : ℕ) (p : Pending L) (course : Course) (x : Inner) → IsStriped (state_of view shape xs marks m) → get nat_eq m t ≡ Some p → p.answer ≡ None → p.inner ≡ Some x
      → course ≡ record { asked = p.asked; plan = p.plan } → CarriedInner (map view xs) m t course x word (map view ys) n
      → IsStriped (state_of view shape ys marks n) × Carries (loglet_of (state_of view shape xs marks m)) t (loglet_of (state_of view shape ys marks n))
  inner_done shape xs ys marks m n t word p course x h is none mine ec r = carried_outcome shape xs ys marks m n t word p course x r.before r.after r.outcome h is none mine ec r.is r.carried r.rest r.hears

  pub next_carried : (shape : Shape) (xs ys : List L) (marks : Marks) (m n : PendingMap L) (t word : ℕ) (p : Pending L) (course : Course) → IsStriped (state_of view shape xs marks m) → get nat_eq m t ≡ Some p → p.answer ≡ None → p.inner ≡ None
      → course ≡ record { asked = p.asked; plan = p.plan } → BegunNext (map view xs) m t course marks.cut (map view ys) n ⊎ IsBeyond (map view xs) m t course (map view ys) n
      → IsStriped (state_of view shape ys marks n) × Carries (loglet_of (state_of view shape xs marks m)) t (loglet_of (state_of view shape ys marks n))
  next_carried shape xs ys marks m n t word p course h is none mine ec (inl r') =
      let s = state_of view shape xs marks m in
      let r : BegunNext (map view xs) m t (record { asked = p.asked; plan = p.plan }) marks.cut (map view ys) n = subst (λ (c : Course). BegunNext (map view xs) m t c marks.cut (map view ys) n) ec r' in
      carried_as s (plain_at view n) t word (set (map view xs) r.inner.stripe r.after) (map view ys) r.rest
      (begun_next s (plain_at view n) t (plain_of view p) r.before r.after r.inner (asked_of p.asked.task p.asked.size p.plan.stage marks.cut r.inner.stripe (length (map view xs))) h (at_by view m t p is) mine none r.spoken r.is r.stripe refl r.step.after
      (step_keeps r.before (Begin (asked_of p.asked.task p.asked.size p.plan.stage marks.cut r.inner.stripe (length (map view xs)))) (Begun r.inner.ticket) r.after r.step) r.step.does r.left (sets_puts m n t p (plan_behind p.asked.task (length (map view xs)) p.plan) (Some r.inner) None is r.sets))
  next_carried shape xs ys marks m n t word p course h is none mine ec (inr r') =
      let s = state_of view shape xs marks m in
      let r : IsBeyond (map view xs) m t (record { asked = p.asked; plan = p.plan }) (map view ys) n = subst (λ (c : Course). IsBeyond (map view xs) m t c (map view ys) n) ec r' in
      carried_as s (plain_at view n) t word (map view xs) (map view ys) r.rest
      (carried_beyond s (plain_at view n) t (plain_of view p) h (at_by view m t p is) mine none r.unspoken (sets_puts m n t p p.plan None (Some (Beyond p.asked.firm)) is r.sets))

  pub next_same : (shape : Shape) (xs ys : List L) (marks : Marks) (m n : PendingMap L) (t : ℕ) (p : Pending L) (course : Course) (refused : Refused) → IsStriped (state_of view shape xs marks m) → get nat_eq m t ≡ Some p → p.answer ≡ None → p.inner ≡ None → course ≡ record { asked = p.asked; plan = p.plan }
      → RefusedNext (map view xs) m course marks.cut refused (map view ys) n → state_of view shape ys marks n ≡ state_of view shape xs marks m
  next_same shape xs ys marks m n t p course Memory h is none mine ec r = same_shown shape xs ys marks m n r.stripe r.before r.after r.is r.step.does r.rest r.same
  next_same shape xs ys marks m n t p course Full h is none mine ec r' =
      let r : RefusedNext (map view xs) m (record { asked = p.asked; plan = p.plan }) marks.cut Full (map view ys) n = subst (λ (c : Course). RefusedNext (map view xs) m c marks.cut Full (map view ys) n) ec r' in
      absurd (never_full (state_of view shape xs marks m) t (plain_of view p) r.stripe r.before h (at_by view m t p is) mine none r.is r.target r.step.does.0)

  pub refused_next : (shape : Shape) (xs ys : List L) (marks : Marks) (m n : PendingMap L) (t word : ℕ) (p : Pending L) (course : Course) (refused : Refused) → IsStriped (state_of view shape xs marks m) → get nat_eq m t ≡ Some p → p.answer ≡ None → p.inner ≡ None → course ≡ record { asked = p.asked; plan = p.plan }
      → RefusedNext (map view xs) m course marks.cut refused (map view ys) n
      → IsStriped (state_of view shape ys marks n) × Does (loglet_of (state_of view shape xs marks m)) (Carry t word) (Refusal refused) (loglet_of (state_of view shape ys marks n))
  refused_next shape xs ys marks m n t word p course Memory h is none mine ec r =
      let e = next_same shape xs ys marks m n t p course Memory h is none mine ec r in
      (subst IsStriped (sym e) h, ap loglet_of e)
  refused_next shape xs ys marks m n t word p course Full h is none mine ec r' =
      let r : RefusedNext (map view xs) m (record { asked = p.asked; plan = p.plan }) marks.cut Full (map view ys) n = subst (λ (c : Course). RefusedNext (map view xs) m c marks.cut Full (map view ys) n) ec r' in
      absurd (never_full (state_of view shape xs marks m) t (plain_of view p) r.stripe r.before h (at_by view m t p is) mine none r.is r.target r.step.does.0)
