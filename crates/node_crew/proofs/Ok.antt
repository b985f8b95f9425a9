-- What holds where memory sufficed.
use Rattle.std.proofs.Common.{Result, Ok, Err}
use Rattle.std.specs.Prelude.{OnOk}

pub on_ok : {A E : Type 0} {P Q : Type 0} (x : Result A E) → OnOk x P → (P → Q) → OnOk x Q
on_ok (Ok a) p f = f p
on_ok (Err e) p f = tt

pub on_ok3 : {A E : Type 0} {P Q R S : Type 0} (x : Result A E) → OnOk x P → OnOk x Q → OnOk x R → (P → Q → R → S) → OnOk x S
on_ok3 (Ok a) p q r f = f p q r
on_ok3 (Err e) p q r f = tt
