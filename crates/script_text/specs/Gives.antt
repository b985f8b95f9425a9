-- Reading that may break a rule, and what a function of the code has to do with it.
use Rattle.std.specs.Prelude.{◌≡◌, List, ℕ, Result, Ok, Err}
use Rattle.std.specs.Borrow.{Bor}
use Rattle.script_text.specs.declared.line.Rule.{Rule}
use Rattle.script_text.specs.declared.line.Fault.{Fault}
use Rattle.script_text.specs.declared.line.Fault.TheVariants as fault

infixl 10 ◌>>=◌
abbrev pub ◌>>=◌ : {A B E : Type 0} → Result A E → (A → Result B E) → Result B E
(Ok x) >>= f = f x
(Err e) >>= f = Err e

-- reading breaks this rule, unless memory ran out
abbrev pub Fails : {A : Type 0} → Fault → Result A Rule → Type 0
Fails fault.Memory read = Unit {0}
Fails (fault.Breaks r) read = read ≡ Err r

-- what a function returned is what reading gives, unless memory ran out
abbrev pub Gives : {A : Type 0} → Result A Fault → Result A Rule → Type 0
Gives (Ok x) read = read ≡ Ok x
Gives (Err e) read = Fails e read

-- a borrowed text by its bytes
abbrev pub text_seen : Result (Bor (List ℕ)) Fault → Result (List ℕ) Fault
text_seen (Ok x) = Ok x.now
text_seen (Err e) = Err e
