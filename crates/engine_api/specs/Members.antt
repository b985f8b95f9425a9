-- Who is a member after what stands in a log, and what may be trimmed.
-- At first all nodes are members, each with position 0.
use Rattle.std.specs.Prelude.{ℕ, ◌+◌, Bool, false, not, ◌==◌, if◌then◌else◌, List, [], ◌∷◌, take, length, map, filter, max, min, filter_map, Option, Some, None}
use Rattle.std.specs.List.{list_any}
use Rattle.delos_types.specs.declared.entry.Entry.{Entry}
use Rattle.engine_api.specs.declared.content.Content.{Content}
use Rattle.engine_api.specs.declared.content.Content.TheVariants.{Session, Alive, Leave, Trim}
use Rattle.engine_api.specs.declared.content.Placed.{Placed}
use Rattle.engine_api.specs.Order.{numbers, is_clean}
use Rattle.engine_api.specs.Acted.{asked_in}

abbrev pub greatest : List ℕ → ℕ
greatest [] = 0
greatest (n ∷ ns) = max n (greatest ns)

-- the least of them, 0 where there are none
abbrev pub least : List ℕ → ℕ
least [] = 0
least (n ∷ []) = n
least (n ∷ m ∷ ns) = min n (least (m ∷ ns))

abbrev pub is_leave_of : ℕ → Content → Bool
is_leave_of node (Session s r c) = false
is_leave_of node (Alive n position) = false
is_leave_of node (Leave n) = n == node
is_leave_of node (Trim position) = false

abbrev pub report_of : ℕ → Content → Option ℕ
report_of node (Session s r c) = None
report_of node (Alive n position) = if n == node then Some position else None
report_of node (Leave n) = None
report_of node (Trim position) = None

abbrev pub trim_asked : Content → Option ℕ
trim_asked (Session s r c) = None
trim_asked (Alive n position) = None
trim_asked (Leave n) = None
trim_asked (Trim position) = Some position

-- a leave of the node stands there
abbrev pub has_left : List Placed → ℕ → Bool
has_left placed node = list_any (λ p. is_leave_of node p.content) placed

-- a node is a member where it hasn't left
abbrev pub is_member : List Placed → ℕ → Bool
is_member placed node = not (has_left placed node)

-- a member's position is the greatest that it reported
abbrev pub position_of : List Placed → ℕ → ℕ
position_of placed node = greatest (filter_map (λ p. report_of node p.content) placed)

-- the members among the nodes 1 to `nodes`
abbrev pub members : ℕ → List Placed → List ℕ
members nodes placed = filter (is_member placed) (numbers 1 nodes)

-- the least position of a member
abbrev pub least_position : ℕ → List Placed → ℕ
least_position nodes placed = least (map (position_of placed) (members nodes placed))

-- the greatest position below which a trim was asked for
abbrev pub trim_point : List Placed → ℕ
trim_point placed = greatest (filter_map (λ p. trim_asked p.content) placed)

-- the first n of these entries, which stand from position 0 on, are clean
abbrev pub clean_at : List Entry → ℕ → Bool
clean_at entries n = is_clean (λ s. 1) (asked_in 0 (take n entries))

-- the greatest n for which the first n of these entries are clean
abbrev pub clean_position : List Entry → ℕ
clean_position entries = greatest (filter (clean_at entries) (numbers 0 (length entries + 1)))
