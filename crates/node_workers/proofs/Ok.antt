-- What an answer tells, where it is Ok.
use Rattle.std.proofs.Common.{◌≡◌, sym, subst, Option, Result, Ok, Err, IfOk, OnOk}
use Rattle.delos_types.specs.declared.cause.Cause.{Cause}
use Rattle.node_lines.specs.declared.lines.Looked.{Looked}
use Rattle.node_lines.specs.Steps.{came_to}
use Rattle.node_workers.specs.Lines.{comes_to}

pub in_ok : {A E : Type 0} {x : A} {r : Result A E} (P : A → Type 0) → r ≡ Ok x → IfOk r P → P x
in_ok P is held = subst (λ y. IfOk y P) is held

-- where what it is of is one of its kinds
pub in_ok_at : {A E : Type 0} {x y : A} {r : Result A E} (P : A → Type 0) → r ≡ Ok x → x ≡ y → IfOk r P → P y
in_ok_at P is same held = subst P same (in_ok P is held)

-- where that says nothing of what it is of
pub on_ok : {A E : Type 0} {x : A} {r : Result A E} (P : Type 0) → r ≡ Ok x → OnOk r P → P
on_ok P is held = subst (λ y. OnOk y P) is held

-- what comes of it
pub ok_then : {A E : Type 0} {P Q : A → Type 0} (r : Result A E) → IfOk r P → ((x : A) → P x → Q x) → IfOk r Q
ok_then (Ok x) k h = h x k
ok_then (Err e) k h = tt

-- both
pub ok_pair : {A E : Type 0} (P Q : A → Type 0) (r : Result A E) → IfOk r P → IfOk r Q → IfOk r (λ x. P x × Q x)
ok_pair P Q (Ok x) h k = (h, k)
ok_pair P Q (Err e) h k = tt

-- so of what a line came to by it
pub ok_comes : {E : Type 0} {P : Option Cause → Type 0} (Q : Looked → Type 0) {looked : Looked} {is : Result Looked E} (told : Result (Option Cause) E) → is ≡ comes_to told looked → IfOk told P → ((failed : Option Cause) → P failed → Q (came_to failed looked)) → IfOk is Q
ok_comes Q (Ok failed) same h k = subst (λ r. IfOk r Q) (sym same) (k failed h)
ok_comes Q (Err e) same h k = subst (λ r. IfOk r Q) (sym same) tt
