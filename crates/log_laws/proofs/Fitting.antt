-- The amounts of commands that were read are numbers of 64 bits with a sign, and so are the numbers that the table answers.
use Rattle.std.proofs.Common.{◌≡◌, ℕ, suc, ◌-◌, ◌<◌, ◌^◌, Bool, true, false, cond, [], ◌∷◌, Option, Some, None, ℤ, pos, negsuc, refl, arith}
use Rattle.std.specs.Prelude.{◌==◌, nat_lt, FitsSigned, ◌+ℤ◌}
use Rattle.std.specs.Int.{from_be_bytes, cast_signed, w64}
use Rattle.std.specs.Fmt.{signed_decimal}
use Rattle.std.proofs.lemmas.Bool.Decides.{nat_tests}
use mir.Val.{sel}
use Rattle.delos_types.specs.Spaces.{Text}
use Rattle.table_core.specs.Table.{TableMap, is_i64, amount_of, same_bytes, added, outcome}
use Rattle.table_core.specs.Reading.{split_key, split_value, if_whole, put_of, cas_of, cas_from, command_with, command_from, command_of}
use Rattle.table_core.specs.declared.command.Command.{Command}
use Rattle.table_core.specs.declared.command.Command.TheVariants.{Put, Del, Cas, Add}
use Rattle.table_core.specs.declared.command.Reply.{Reply}
use Rattle.table_core.specs.declared.command.Reply.TheVariants.{Done, Was, Number, Full}
use Rattle.engine_api.specs.Acted.{act_on}
use Rattle.log_laws.specs.Told.{IsTold}

-- whatever the number is, its reading with a sign fits
signed_fits : (n : ℕ) → FitsSigned w64 (cast_signed w64 n)
signed_fits n = by (nat_lt n (2 ^ 63)) refl
  where
    by : (t : Bool) → nat_lt n (2 ^ 63) ≡ t → FitsSigned w64 (sel t (pos n) (negsuc (2 ^ 64 - suc n)))
    by true e = let small : n < 2 ^ 63 = grind (arith, nat_tests) in record { sfits = small }
    by false e = let high : 2 ^ 64 - suc n < 2 ^ 63 = grind (arith, nat_tests) in record { sfits = high }

tested_fits : (z : ℤ) → is_i64 z ≡ true → FitsSigned w64 z
tested_fits (pos n) e = let small : n < 2 ^ 63 = grind (arith, nat_tests) in record { sfits = small }
tested_fits (negsuc n) e = let small : n < 2 ^ 63 = grind (arith, nat_tests) in record { sfits = small }

-- an amount that the command adds fits
abbrev pub AmountFits : Option Command → Type 0
AmountFits None = Unit {0}
AmountFits (Some (Put key value)) = Unit {0}
AmountFits (Some (Del key)) = Unit {0}
AmountFits (Some (Cas key old new)) = Unit {0}
AmountFits (Some (Add key amount)) = FitsSigned w64 amount

either : (t : Bool) (a b : Option Command) → AmountFits a → AmountFits b → AmountFits (cond t a b)
either true a b h k = h
either false a b h k = k

whole_fits : (c : Command) (bytes : Text) → AmountFits (Some c) → AmountFits (if_whole c bytes)
whole_fits c [] h = h
whole_fits c (b ∷ bs) h = tt

put_fits : (key : Text) (o : Option (Text × Text)) → AmountFits (put_of key o)
put_fits key None = tt
put_fits key (Some p) = whole_fits (Put key p.0) p.1 tt

cas_of_fits : (key old : Text) (o : Option (Text × Text)) → AmountFits (cas_of key old o)
cas_of_fits key old None = tt
cas_of_fits key old (Some p) = whole_fits (Cas key old p.0) p.1 tt

cas_fits : (key : Text) (o : Option (Text × Text)) → AmountFits (cas_from key o)
cas_fits key None = tt
cas_fits key (Some p) = cas_of_fits key p.0 (split_value p.1)

add_fits : (key bytes : Text) (t : Bool) → AmountFits (cond t (Some (Add key (cast_signed w64 (from_be_bytes w64 bytes)))) None)
add_fits key bytes true = signed_fits (from_be_bytes w64 bytes)
add_fits key bytes false = tt

with_fits : (tag : ℕ) (key bytes : Text) → AmountFits (command_with tag key bytes)
with_fits tag key bytes =
    either (tag == 1) _ _ (put_fits key (split_value bytes))
    (either (tag == 2) _ _ (whole_fits (Del key) bytes tt)
    (either (tag == 3) _ _ (cas_fits key (split_value bytes))
    (either (tag == 4) _ _ (add_fits key bytes _) tt)))

from_fits : (tag : ℕ) (o : Option (Text × Text)) → AmountFits (command_from tag o)
from_fits tag None = tt
from_fits tag (Some p) = with_fits tag p.0 p.1

pub read_fits : (bytes : Text) → AmountFits (command_of bytes)
read_fits [] = tt
read_fits (tag ∷ rest) = from_fits tag (split_key rest)

-- what the table answers

swapped_told : (v old new : Text) (t : Bool) → IsTold (Some (cond {A = Option Text × Reply} t (Some new, Done) (Some v, Was v)).1)
swapped_told v old new true = tt
swapped_told v old new false = tt

sum_told : (v : Text) (z : ℤ) (t : Bool) → is_i64 z ≡ t → IsTold (Some (cond {A = Option Text × Reply} t (Some (signed_decimal z), Number z) (Some v, Full)).1)
sum_told v z true e = tested_fits z e
sum_told v z false e = tt

added_told : (v : Text) (o : Option ℤ) (i : ℤ) → IsTold (Some (added v o i).1)
added_told v None i = tt
added_told v (Some n) i = sum_told v (n +ℤ i) _ refl

outcome_told : (c : Command) (before : Option Text) → AmountFits (Some c) → IsTold (Some (outcome c before).1)
outcome_told (Put key value) before h = tt
outcome_told (Del key) None h = tt
outcome_told (Del key) (Some v) h = tt
outcome_told (Cas key old new) None h = tt
outcome_told (Cas key old new) (Some v) h = swapped_told v old new (same_bytes v old)
outcome_told (Add key amount) None h = h
outcome_told (Add key amount) (Some v) h = added_told v (amount_of v) amount

pub act_told : (m : TableMap) (o : Option Command) → AmountFits o → IsTold (act_on m o).1
act_told m None h = tt
act_told m (Some c) h = outcome_told c _ h
