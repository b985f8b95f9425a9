-- A node before its first line.
use Rattle.std.proofs.Common.{◌≡◌, refl, sym, ap, ◌∙◌, subst, ℕ, zero, suc, ◌+◌, ◌==◌, ◌&&◌, Bool, true, false, cond, List, [], ◌∷◌, Option, Some, None, length, count_by, slice_get, Contains, arith}
use Rattle.std.specs.List.{AllByRecursion}
use Rattle.delos_types.specs.declared.cause.Cause.{Cause}
use Rattle.legal_journal.specs.Law.{Law}
use Rattle.replica_api.specs.Replica.{Meaning}
use Rattle.base_engine.specs.declared.outbox.Given.{Given}
use Rattle.script_text.specs.declared.asks.NamedLine.{NamedLine}
use Rattle.fitting_run.specs.Faults.{lacks_store}
use Rattle.turn_scopes.specs.Seats.{SeatView}
use Rattle.node_lines.specs.declared.desk.Desk.{Desk}
use Rattle.node_lines.specs.declared.lines.Looked.{Looked}
use Rattle.node_lines.specs.declared.lines.Looked.TheVariants as looked
use Rattle.node_lines.specs.Workers.{Grows, WorkerOk, appended_by}
use Rattle.run_laws.specs.Ended.{CameTo, pays}
use Rattle.node_course.specs.Script.{asked_by, failure_of_look, failed_looks}
use Rattle.node_course.specs.Moments.{at_node, first_course, moment}
use Rattle.node_course.specs.Played.{Came, goes_further, went_further}
use Rattle.node_course.specs.Course.{IsCourse}
use Rattle.node_course.specs.Workers.{HasNotBegun, Rests}
use Rattle.node_course.proofs.Legal.{worker_legal}
use Rattle.node_course.proofs.Keeping.{own_upto}
use Rattle.node_course.proofs.Looks.{no_look}
use Rattle.node_course.proofs.Moments.{grows_not}

none_in : {X : Type 0} (x : X) → Contains [] x → ⊥
none_in x h = omega (arith, h.1)

some_none : {A : Type 0} (x : Option A) (a : A) → x ≡ None → x ≡ Some a → ⊥
some_none x a h k = absurd (cc)

-- no line has looked at anything

nothing_failed : (by : ℕ → Cause → Bool) (lines : List NamedLine) (looks : List (Option Looked)) → AllByRecursion (λ look. look ≡ None) looks → failed_looks by lines looks ≡ 0
nothing_failed by [] looks h = refl
nothing_failed by (l ∷ lines) [] h = refl
nothing_failed by (l ∷ lines) (k ∷ looks) h =
    subst (λ x. count_by (pays (by l.node)) (failure_of_look x ∷ []) + failed_looks by lines looks ≡ 0) (sym h.0)
    (let rest = nothing_failed by lines looks h.1 in omega (arith, rest))

none_there : (lines : List NamedLine) (looks : List (Option Looked)) (i : ℕ) (l : NamedLine) → length looks ≡ length lines → AllByRecursion (λ look. look ≡ None) looks → slice_get lines i ≡ Some l → slice_get looks i ≡ Some None
none_there [] looks i l size h at = absurd (cc)
none_there (m ∷ lines) [] i l size h at = absurd (omega (arith, size))
none_there (m ∷ lines) (k ∷ looks) zero l size h at = ap Some h.0
none_there (m ∷ lines) (k ∷ looks) (suc i) l size h at = none_there lines looks i l (omega (arith, size)) h.1 at

none_further : (n : ℕ) (lines : List NamedLine) (looks : List (Option Looked)) → AllByRecursion (λ look. look ≡ None) looks → went_further n lines looks ≡ 0
none_further n [] looks h = refl
none_further n (l ∷ lines) [] h = refl
none_further n (l ∷ lines) (k ∷ looks) h =
    let here : ◌≡◌ {A = ℕ} (cond ((l.node == n) && goes_further k) 1 0) 0 = ap {B = ℕ} (λ o. cond ((l.node == n) && goes_further o) 1 0) h.0 ∙ by (l.node == n) in
    let rest = none_further n lines looks h.1 in
    omega (arith, here, rest)
  where
    by : (b : Bool) → ◌≡◌ {A = ℕ} (cond (b && goes_further None) 1 0) 0
    by true = refl
    by false = refl

none_asked : (lines : List NamedLine) (n s : ℕ) → asked_by lines n s 0 ≡ 0
none_asked [] n s = refl
none_asked (l ∷ lines) n s = refl

first_moment : (p : ℕ) → moment first_course p ≡ []
first_moment zero = refl
first_moment (suc p) = refl

module _ (law : Law) (meaning : Meaning) (lines : List NamedLine) (home : ℕ → ℕ) (nodes : ℕ) (looks : List (Option Looked)) (n : ℕ) (seat : SeatView) (desks : List Desk) (size : length looks ≡ length lines) (none : AllByRecursion (λ look. look ≡ None) looks) (nodes_is : seat.node.nodes ≡ nodes) (new : HasNotBegun seat desks) (ok : WorkerOk law meaning n [] seat desks) where
  never : (i : ℕ) (l : NamedLine) (look : Looked) → Came lines looks n i l look → ⊥
  never i l look come = no_look look (sym (none_there lines looks i l size none come.is) ∙ come.looked)

  did : IsCourse law lines nodes n first_course looks
  did = record {
    legal = worker_legal law meaning n [] seat desks ok;
    long = refl;
    rise = λ p. subst (λ m. Grows m (moment first_course (p + 1))) (sym (first_moment p)) (subst (Grows []) (sym (first_moment (p + 1))) (grows_not []));
    began = λ p s r e low there has. absurd (none_in e (subst (λ m. Contains (appended_by n m) e) (first_moment p) there));
    size = size;
    here = tt;
    events = λ kind store. let calm = nothing_failed (at_node n kind) lines looks none in omega (arith, calm);
    ahead = λ i l look come. absurd (never i l look come);
    replaced = record {
      each = λ i l x come. absurd (never i l (looked.Extended x) come);
      asked = λ i l x come. absurd (never i l (looked.Extended x) come);
      order = λ i j l m x y come come' low. absurd (never i l (looked.Extended x) come);
      ids = let zero' = none_further n lines looks none in omega (arith, zero');
    };
    seals = λ calm. omega arith;
    told = λ e p there among. absurd (none_in e there);
    asked = λ p low e q there among. absurd (none_in e (subst (λ m. Contains (appended_by n m) e) (first_moment p) there));
    behind = λ early e p position up own among is. absurd (none_in e (own_upto n early [] up e own));
    stand = λ i l look come. absurd (never i l look come);
    reports = record {
      each = λ i l position come. absurd (never i l (looked.Reported position) come);
      reads = λ i j l m position after found come later low. absurd (never i l (looked.Reported position) come);
      forward = λ i j l m s query after later found next come then' look low. absurd (never i l (looked.Found after found) come);
      again = λ i j l m position later come then' low. absurd (never i l (looked.Reported position) come);
    };
    trims = λ j l trim come. absurd (never j l (looked.Trimmed trim) come);
  }

  pub node_opens : Rests law meaning lines home nodes first_course looks n 0 0 seat desks
  node_opens = record {
    node = record {
      ok = ok;
      did = did;
      nodes_is = nodes_is;
      order = omega arith;
      early = λ i l low at own. absurd (omega (arith, low));
      each = λ s d at. record {
        asked = new.asked s d at ∙ sym (none_asked lines n s);
        ended = λ a is. absurd (some_none d.answered a (new.answered s d at) is);
        here = λ a is. absurd (some_none d.answered a (new.answered s d at) is);
        halted = λ cause _ is. absurd (some_none d.stopped cause (new.stopped s d at) is);
        held = λ cause _ is. absurd (some_none d.stopped cause (new.stopped s d at) is);
      };
      quiet = λ s same. new.quiet s;
      given = subst (AllByRecursion (λ (g : Given). CameTo [] g.cause n 0)) (sym new.given) tt;
      waiting = λ i l low at here. none_there lines looks i l size none at;
      played = λ i l low at here. absurd (omega (arith, low));
      reports = λ e p there among position is. absurd (none_in e there);
      stores = (let calm = nothing_failed (lacks_store n) lines looks none in let struck = new.struck in omega (arith, calm, struck));
    };
    none_given = new.given;
  }
