-- Texts of numbers as they are printed.
use Rattle.std.specs.Prelude.{◌==◌, not, Bool, if◌then◌else◌, length, slice_index}
use Rattle.delos_types.specs.Spaces.{Text}

-- No minus sign stands before a 0, no 0 before other digits, and no plus sign in front.
abbrev pub is_printed : Text → Bool
is_printed v =
    if slice_index v 0 == 45 then not (slice_index v 1 == 48) else (if slice_index v 0 == 48 then length v == 1 else not (slice_index v 0 == 43))
