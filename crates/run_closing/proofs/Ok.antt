-- What holds where memory sufficed.
use Rattle.std.proofs.Common.{Result, Ok, Err}
use Rattle.std.specs.Prelude.{IfOk, OnOk}

pub if_ok2 : {A E : Type 0} {P : Type 0} {Q R : A → Type 0} (x : Result A E) → OnOk x P → IfOk x Q → (P → (a : A) → Q a → R a) → IfOk x R
if_ok2 (Ok a) p q f = f p a q
if_ok2 (Err e) p q f = tt

pub if_ok2_then : {A E : Type 0} {P P2 : Type 0} {Q R : A → Type 0} (x : Result A E) → OnOk x P → OnOk x P2 → IfOk x Q → (P → P2 → (a : A) → Q a → R a) → IfOk x R
if_ok2_then (Ok a) p p2 q f = f p p2 a q
if_ok2_then (Err e) p p2 q f = tt

pub if_ok3 : {A E : Type 0} {P : Type 0} {Q R S : A → Type 0} (x : Result A E) → OnOk x P → IfOk x Q → IfOk x R → (P → (a : A) → Q a → R a → S a) → IfOk x S
if_ok3 (Ok a) p q r f = f p a q r
if_ok3 (Err e) p q r f = tt

pub if_ok5 : {A E : Type 0} {P P2 P3 : Type 0} {Q R S : A → Type 0} (x : Result A E) → OnOk x P → OnOk x P2 → OnOk x P3 → IfOk x Q → IfOk x R → (P → P2 → P3 → (a : A) → Q a → R a → S a) → IfOk x S
if_ok5 (Ok a) p p2 p3 q r f = f p p2 p3 a q r
if_ok5 (Err e) p p2 p3 q r f = tt
