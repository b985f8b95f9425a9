-- What was made for a plan stands for the words that have it.
use Rattle.std.proofs.Common.{◌≡◌, ◌∙◌, List, [], ◌∷◌, ◌++◌, Option, Result, Ok, Err, ap, append-nil, append_assoc, map, sym, subst}
use Rattle.std.specs.Prelude.{IfOk}
use Rattle.std.specs.List.{AllByRecursion}
use Rattle.script_words.specs.declared.plan.Plan.{Plan}
use Rattle.fitting_run.specs.Yard.{Shown}
use Rattle.script_runner.specs.declared.ended.End.{End}
use Rattle.script_runner.specs.Ends.{EndsView, TakesSource}
use Rattle.script_runner.specs.Standing.{HasEnded}

-- how a run ended by a plan is how it ended by the words' plan
pub ended_by_words : {T E : Type 0} (plan plan' : Option Plan) (before after : EndsView) (yard : T → Shown) (end : T → End) (r : Result T E)
    → plan' ≡ plan → IfOk r (λ e. HasEnded plan before after (yard e) (end e)) → IfOk r (λ e. HasEnded plan' before after (yard e) (end e))
ended_by_words plan plan' before after yard end r same h = subst (λ (p : Option Plan). IfOk r (λ e. HasEnded p before after (yard e) (end e))) (sym same) h

-- and so is what it took
pub untaken_by_words : {T E S : Type 0} (plan plan' : Option Plan) (source source' : S) (r : Result T E)
    → plan' ≡ plan → IfOk r (λ _. (TakesSource plan → ⊥) → source' ≡ source) → IfOk r (λ _. (TakesSource plan' → ⊥) → source' ≡ source)
untaken_by_words plan plan' source source' r same h = subst (λ (p : Option Plan). IfOk r (λ _. (TakesSource p → ⊥) → source' ≡ source)) (sym same) h

pub if_ok : {A E : Type 0} (P Q : A → Type 0) → ((x : A) → P x → Q x) → (r : Result A E) → IfOk r P → IfOk r Q
if_ok P Q h (Ok x) k = h x k
if_ok P Q h (Err e) k = tt

-- one more node, on the first of the disks that are left
pub one_over : {A B V : Type 0} (f : A → V) (g : B → V) (xs now : List A) (y : B) (ys rest : List B) (whole : List V) → ys ≡ y ∷ rest → map f now ≡ map f xs ++ g y ∷ [] → map f xs ++ map g ys ≡ whole → map f now ++ map g rest ≡ whole
one_over f g xs now y ys rest whole is more h =
    ap (λ vs. vs ++ map g rest) more ∙ (append_assoc (map f xs) (g y ∷ []) (map g rest) ∙ (ap (λ zs. map f xs ++ map g zs) (sym is) ∙ h))

-- none is left
pub all_taken : {A B V : Type 0} (f : A → V) (g : B → V) (xs : List A) (ys : List B) (whole : List V) → ys ≡ [] → map f xs ++ map g ys ≡ whole → map f xs ≡ whole
all_taken f g xs ys whole none h = sym (append-nil (map f xs)) ∙ (ap (λ zs. map f xs ++ map g zs) (sym none) ∙ h)

-- disks that are these are as these are
pub all_same : {A : Type 0} (P : A → Type 0) (xs ys : List A) → map (λ d. d) xs ≡ map (λ d. d) ys → AllByRecursion (λ d. P d) ys → AllByRecursion (λ d. P d) xs
all_same P [] ys same h = tt
all_same P (x ∷ xs) [] same h = absurd (cc)
all_same {A} P (x ∷ xs) (y ∷ ys) same h =
    let first : x ≡ y = cc in
    let rest : map (λ d. d) xs ≡ map (λ d. d) ys = cc in
    (subst P (sym first) h.0, all_same P xs ys rest h.1)
