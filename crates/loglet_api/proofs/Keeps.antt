-- Each step keeps what a loglet keeps, and so does a run.
use Rattle.std.proofs.Common.{◌≡◌, ℕ, zero, suc, ◌+◌, ◌-◌, ◌^◌, ◌<◌, ◌≤◌, Bool, true, min, max, Option, None, Some, List, [], ◌∷◌, ◌++◌, length, drop, refl, inl, inr, ap, ◌∙◌, arith, length-append, length-drop}
use Rattle.std.specs.Prelude.{slice_get}
use Rattle.std.specs.Option.{ForSome}
use Rattle.delos_types.specs.declared.entry.Entry.{Entry}
use Rattle.loglet_api.specs.declared.call.Op.{Op}
use Rattle.loglet_api.specs.declared.call.Op.TheVariants.{Trim}
use Rattle.loglet_api.specs.declared.call.Answer.{Answer}
use Rattle.loglet_api.specs.declared.call.Answer.TheVariants.{SealedTail}
use Rattle.loglet_api.specs.declared.call.Refused.TheVariants.{Full, Memory}
use Rattle.loglet_api.specs.declared.call.LogletCall.{LogletCall}
use Rattle.loglet_api.specs.declared.call.LogletCall.TheVariants.{Begin, Carry, Take, Forget, Left, Stray, Stop, Restart}
use Rattle.loglet_api.specs.declared.call.LogletAnswer.{LogletAnswer}
use Rattle.loglet_api.specs.declared.call.LogletAnswer.TheVariants.{Begun, Refusal, Carried, Taken, Forgotten, LeftIs, Strayed, Stopped, Restarted}
use Rattle.loglet_api.specs.View.{LogletView, Operation}
use Rattle.loglet_api.specs.Sound.{IsSound}
use Rattle.loglet_api.specs.Step.{LogletStep, Does, Begins, Moves, IsBelow, cut_by, entries_of, told_cap, told_reach, told_firm, told_lacks, bumped, wanted}
use Rattle.loglet_api.specs.Run.{LogletRun}
use Rattle.loglet_api.specs.Keeps.{Keeps, work_of}

pub keeps_same : (v : LogletView) → Keeps v v
keeps_same v =
    record {
      kind = refl;
      servers = refl;
      quorum = refl;
      room = refl;
      rounds = refl;
      limit = refl;
      cut = omega arith;
      size = omega arith;
      reach = omega arith;
      firm = omega arith;
      shut = λ s. s;
      faults = omega arith;
      begun = omega arith;
      seals = omega arith;
      lacks = omega arith;
      cap = λ c e. (c, e, omega arith);
      entries = λ p le lt. refl;
    }

-- the log, the cut and what was told stay, and the counts go on
keeps_told : (old new : LogletView) (shut : Bool) (reach firm faults down lacks : ℕ) (cap : Option ℕ) (operations : List (ℕ × Operation))
    → new ≡ record old { shut = shut; reach = reach; firm = firm; faults = faults; down = down; lacks = lacks; cap = cap; operations = operations }
    → old.reach ≤ reach → old.firm ≤ firm → (old.shut ≡ true → shut ≡ true) → old.faults ≤ faults → old.lacks ≤ lacks
    → ForSome old.cap (λ c. (d : ℕ) × (cap ≡ Some d) × (d ≤ c)) → Keeps old new
keeps_told old new shut reach firm faults down lacks cap operations e r f s a l c =
    rw e (record {
      kind = refl;
      servers = refl;
      quorum = refl;
      room = refl;
      rounds = refl;
      limit = refl;
      cut = omega arith;
      size = omega arith;
      reach = r;
      firm = f;
      shut = s;
      faults = a;
      begun = omega arith;
      seals = omega arith;
      lacks = l;
      cap = c;
      entries = λ p le lt. refl;
    })

told_cap-keeps : (answer : Answer) (cap : Option ℕ) → ForSome cap (λ c. (d : ℕ) × (told_cap answer cap ≡ Some d) × (d ≤ c))
told_cap-keeps (SealedTail t) None c e = absurd (cc)
told_cap-keeps (SealedTail t) (Some b) c e = (min b t, refl, (let same : b ≡ c = cc in omega arith))
told_cap-keeps answer cap c e = (c, e, omega arith)

cut_by-keeps : (op : Op) (cut reach : ℕ) → cut ≤ reach → (cut ≤ cut_by op cut reach) × (cut_by op cut reach ≤ reach)
cut_by-keeps (Trim n) cut reach h = (omega arith, omega arith)
cut_by-keeps op cut reach h = (omega arith, h)

-- an entry behind the new cut
slice_get_left : (xs ys : List Entry) (i : ℕ) → i < length xs → slice_get (xs ++ ys) i ≡ slice_get xs i
slice_get_left [] ys i lt = absurd (omega arith)
slice_get_left (x ∷ xs) ys zero lt = refl
slice_get_left (x ∷ xs) ys (suc i) lt = slice_get_left xs ys i (omega arith)

entry_stays : (xs ys : List Entry) (n i : ℕ) → n ≤ i → i < length xs → slice_get (drop n xs ++ ys) (i - n) ≡ slice_get xs i
entry_stays xs ys zero i le lt = let e : i - 0 ≡ i = omega arith in rw e (slice_get_left xs ys i lt)
entry_stays [] ys (suc n) i le lt = absurd (omega arith)
entry_stays (x ∷ xs) ys (suc n) zero le lt = absurd (omega arith)
entry_stays (x ∷ xs) ys (suc n) (suc i) le lt = let e : suc i - suc n ≡ i - n = omega arith in rw e (entry_stays xs ys n i (omega arith) (omega arith))

keeps_moves : (old new : LogletView) → Moves old new → Keeps old new
keeps_moves old new m =
    keeps_told old new new.shut old.reach old.firm new.faults new.down old.lacks old.cap new.operations m.rest (omega arith) (omega arith) m.shut m.faults (omega arith) (λ c e. (c, e, omega arith))

keeps_begins : (old new : LogletView) (op : Op) (t : ℕ) → IsSound old → Begins old op t new → Keeps old new
keeps_begins old new op t sound b =
    let cut = cut_by-keeps op old.cut old.reach sound.cut in
    let c = cut_by op old.cut old.reach in
    let long : length (drop (c - old.cut) old.log ++ entries_of op) ≡ (length old.log - (c - old.cut)) + length (entries_of op) =
    length-append (drop (c - old.cut) old.log) (entries_of op) ∙ ap (λ (n : ℕ). n + length (entries_of op)) (length-drop (c - old.cut) old.log) in
    rw b.rest (record {
      kind = refl;
      servers = refl;
      quorum = refl;
      room = refl;
      rounds = refl;
      limit = refl;
      cut = cut.0;
      size = omega (arith, long, cut.0);
      reach = omega arith;
      firm = omega arith;
      shut = λ s. s;
      faults = omega arith;
      begun = omega arith;
      seals = omega arith;
      lacks = omega arith;
      cap = λ d e. (d, e, omega arith);
      entries = λ p le lt. (let e : (p - old.cut) - (c - old.cut) ≡ p - c = omega (arith, cut.0) in
          rw (← e) (entry_stays old.log (entries_of op) (c - old.cut) (p - old.cut) (omega arith) (omega (arith, cut.0))));
    })

keeps_does : (old new : LogletView) (call : LogletCall) (answer : LogletAnswer) → IsSound old → Does old call answer new → Keeps old new
keeps_does old new (Begin op) (Begun t) h d = keeps_begins old new op t h d
keeps_does old new (Begin op) (Refusal Full) h d =
    keeps_told old new old.shut old.reach old.firm (bumped old.faults) old.down old.lacks old.cap old.operations d.1 (omega arith) (omega arith) (λ s. s) (omega (arith, h.faults)) (omega arith) (λ c e. (c, e, omega arith))
keeps_does old new (Carry t word) Carried h d = keeps_moves old new d.moves
keeps_does old new (Take t) (Taken None) h d = rw d.1 (keeps_same old)
keeps_does old new (Take t) (Taken (Some answer)) h d =
    keeps_told old new old.shut (max old.reach (told_reach (wanted d.operation) answer)) (max old.firm (told_firm (wanted d.operation) answer)) old.faults old.down (old.lacks + told_lacks answer) (told_cap answer old.cap) new.operations
    d.rest (omega arith) (omega arith) (λ s. s) (omega arith) (omega arith) (told_cap-keeps answer old.cap)
keeps_does old new (Forget t) Forgotten h d =
    keeps_told old new old.shut old.reach old.firm old.faults old.down old.lacks old.cap new.operations d.rest (omega arith) (omega arith) (λ s. s) (omega arith) (omega arith) (λ c e. (c, e, omega arith))
keeps_does old new (Left t) (LeftIs a b) h d = rw d.1 (keeps_same old)
keeps_does old new (Stray word) Strayed h d = keeps_moves old new d
keeps_does old new (Stop server after) Stopped h d = rw d (keeps_same old)
keeps_does old new (Restart server word) (Restarted up) h d = keeps_moves old new d.moves
keeps_does old new (Begin op) (Refusal Memory) h d = rw d (keeps_same old)
keeps_does old new (Carry t word) (Refusal Memory) h d = rw d (keeps_same old)
keeps_does old new (Stray word) (Refusal Memory) h d = rw d (keeps_same old)
keeps_does old new (Restart server word) (Refusal Memory) h d = rw d (keeps_same old)
keeps_does old new call answer h d = absurd d

pub step_keeps : (old : LogletView) (call : LogletCall) (answer : LogletAnswer) (new : LogletView) → LogletStep old call answer new → Keeps old new
step_keeps old call answer new s = keeps_does old new call answer s.before s.does

pub keeps_on : (a b c : LogletView) → Keeps a b → Keeps b c → Keeps a c
keeps_on a b c h k =
    record {
      kind = k.kind ∙ h.kind;
      servers = k.servers ∙ h.servers;
      quorum = k.quorum ∙ h.quorum;
      room = k.room ∙ h.room;
      rounds = k.rounds ∙ h.rounds;
      limit = k.limit ∙ h.limit;
      cut = omega (arith, h.cut, k.cut);
      size = omega (arith, h.size, k.size);
      reach = omega (arith, h.reach, k.reach);
      firm = omega (arith, h.firm, k.firm);
      shut = λ s. k.shut (h.shut s);
      faults = omega (arith, h.faults, k.faults);
      begun = omega (arith, h.begun, k.begun);
      seals = omega (arith, h.seals, k.seals);
      lacks = omega (arith, h.lacks, k.lacks);
      cap = λ d e. (let x = h.cap d e in let y = k.cap x.0 x.1 in (y.0, y.1, omega (arith, x.2, y.2)));
      entries = λ p le lt. k.entries p le (omega (arith, h.size)) ∙ h.entries p (omega (arith, k.cut)) lt;
    }

pub run_keeps : (old : LogletView) (steps : List (LogletCall × LogletAnswer)) (new : LogletView) → LogletRun old steps new → Keeps old new
run_keeps old [] new r = rw r (keeps_same old)
run_keeps old (step ∷ steps) new r = keeps_on old r.0 new (step_keeps old step.0 step.1 r.0 r.1) (run_keeps r.0 steps new r.2)

-- less left to do is less work
pub less_work : (a b : ℕ × ℕ) → IsBelow a b → a.1 < 2 ^ 59 → work_of a < work_of b
less_work a b (inl h) small = grind arith
less_work a b (inr h) small = grind arith
