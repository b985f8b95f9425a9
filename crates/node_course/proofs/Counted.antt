-- What a node's own lines paid is read off their own looks alone.
use Rattle.std.proofs.Common.{◌≡◌, refl, ap, ℕ, zero, suc, ◌==◌, ◌&&◌, Bool, true, false, cond, List, [], ◌∷◌, Option, Some, None, length, count_by, arith}
use Rattle.std.proofs.lemmas.Bool.Decides.{nat_tests}
use Rattle.delos_types.specs.declared.cause.Cause.{Cause}
use Rattle.delos_types.specs.declared.cause.Cause.TheVariants as cause
use Rattle.script_text.specs.declared.asks.NamedLine.{NamedLine}
use Rattle.fitting_run.specs.Faults.{lacks_store}
use Rattle.node_lines.specs.declared.lines.Looked.{Looked}
use Rattle.run_laws.specs.Ended.{pays}
use Rattle.node_course.specs.Script.{failure_of_look, failed_looks}
use Rattle.node_course.specs.Moments.{at_node}
use Rattle.node_course.proofs.Lines.{count-cons}
use Rattle.node_course.proofs.Looks.{SameLooks}

pub node_only : (n : ℕ) (kind : Cause → Bool) (m : ℕ) (k : Cause) → (m == n) ≡ false → at_node n kind m k ≡ false
node_only n kind m k other = ap (λ b. b && kind k) other

-- a store is of no other node
pub store_only : (n m : ℕ) (k : Cause) → (m == n) ≡ false → lacks_store n m k ≡ false
store_only n m (cause.NoQuorum id unreached) e = refl
store_only n m (cause.Full id) e = refl
store_only n m cause.Meta e = refl
store_only n m cause.Store e = e

none_pay : (by : Cause → Bool) → ((k : Cause) → by k ≡ false) → (o : Option Cause) → count_by (pays by) (o ∷ []) ≡ 0
none_pay by none None = refl
none_pay by none (Some k) =
    let a = count-cons (pays by) (Some k) [] in
    let e : ◌≡◌ {A = ℕ} (cond (by k) 1 0) 0 = ap {B = ℕ} (λ b. cond b 1 0) (none k) in
    omega (arith, a, e)

pub failed_same : (by : ℕ → Cause → Bool) (n : ℕ) → ((m : ℕ) (k : Cause) → (m == n) ≡ false → by m k ≡ false) → (lines : List NamedLine) (looks looks' : List (Option Looked)) → length looks' ≡ length looks → SameLooks lines looks looks' n
    → failed_looks by lines looks' ≡ failed_looks by lines looks
failed_same by n only [] looks looks' size same = refl
failed_same by n only (m ∷ lines) [] [] size same = refl
failed_same by n only (m ∷ lines) [] (k' ∷ looks') size same = absurd (omega (arith, size))
failed_same by n only (m ∷ lines) (k ∷ looks) [] size same = absurd (omega (arith, size))
failed_same by n only (m ∷ lines) (k ∷ looks) (k' ∷ looks') size same =
    let rest = failed_same by n only lines looks looks' (omega (arith, size)) (λ i l at own. same (suc i) l at own) in
    let here = of (m.node == n) refl in
    omega (arith, rest, here)
  where
    of : (b : Bool) → (m.node == n) ≡ b → count_by (pays (by m.node)) (failure_of_look k' ∷ []) ≡ count_by (pays (by m.node)) (failure_of_look k ∷ [])
    of true is =
        let own : m.node ≡ n = grind (arith, nat_tests) in
        let one : Some k' ≡ Some k = same zero m refl own in
        let it : k' ≡ k = cc in
        ap (λ o. count_by (pays (by m.node)) (failure_of_look o ∷ [])) it
    of false is =
        let a = none_pay (by m.node) (λ c. only m.node c is) (failure_of_look k') in
        let b = none_pay (by m.node) (λ c. only m.node c is) (failure_of_look k) in
        omega (arith, a, b)
