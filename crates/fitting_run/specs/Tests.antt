-- Words for tests on lists and options.
use Rattle.std.specs.Prelude.{Bool, true, false, not, ◌&&◌, ◌||◌, List, [], ◌∷◌, ◌++◌, Option, Some, None}
use Rattle.std.specs.List.{list_all}

-- where a holds, so does b
infixr 20 ◌⇒◌
abbrev pub ◌⇒◌ : Bool → Bool → Bool
a ⇒ b = not a || b

-- the test passes, where there is something to test
abbrev pub where_some : {A : Type 0} → Option A → (A → Bool) → Bool
where_some None test = true
where_some (Some x) test = test x

-- there is something, and it passes the test
abbrev pub some_is : {A : Type 0} → Option A → (A → Bool) → Bool
some_is None test = false
some_is (Some x) test = test x

-- each element stands so to each later one
abbrev pub each_pair : {A : Type 0} → (A → A → Bool) → List A → Bool
each_pair r [] = true
each_pair r (x ∷ xs) = list_all (r x) xs && each_pair r xs

-- each element passes the test, between those before it and those behind it
abbrev pub each_amid : {A : Type 0} → (List A → A → List A → Bool) → List A → List A → Bool
each_amid test before [] = true
each_amid test before (x ∷ xs) = test before x xs && each_amid test (before ++ x ∷ []) xs
