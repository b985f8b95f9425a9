-- Each reply that a command is given as it acts in a log is told.
use Rattle.std.proofs.Common.{◌≡◌, ℕ, zero, suc, ◌+◌, Bool, true, false, cond, ◌&&◌, List, [], ◌∷◌, ◌++◌, length, Option, Some, None, refl, sym, subst}
use Rattle.std.specs.Prelude.{◌==◌, filter_map}
use Rattle.std.specs.List.{AllByRecursion, cons_option}
use Rattle.std.specs.Option.{option_map, option_and_then}
use Rattle.std.specs.FinMap as finmap
use Rattle.delos_types.specs.Numbers.{u64_of}
use Rattle.delos_types.specs.declared.entry.Entry.{Entry}
use Rattle.delos_types.specs.declared.item.Header.{Header}
use Rattle.delos_types.specs.declared.item.Item.{Item}
use Rattle.delos_types.specs.declared.place.Place.{Place}
use Rattle.table_core.specs.Table.{TableMap}
use Rattle.engine_api.specs.declared.content.Content.{Content}
use Rattle.engine_api.specs.declared.content.Content.TheVariants.{Session, Alive, Leave, Trim}
use Rattle.engine_api.specs.declared.content.Placed.{Placed}
use Rattle.engine_api.specs.Items.{is_session_body, session_content, view_word, view_body, trim_body, without_payload, content_under, content_in, content_of, contents_of, items_of, placed_from, placed_at, unpack}
use Rattle.engine_api.specs.Acted.{Asked, act_on, replied, appearance_of, appearances, unpack_all, asked_in}
use Rattle.engine_api.specs.Order.{first_of, act_at, numbers, acts_of, acted_after}
use Rattle.engine_api.proofs.Appends.{appearances-append}
use Rattle.log_laws.specs.State.{acts_in}
use Rattle.log_laws.proofs.Pairs.{all-append, found-has}
use Rattle.log_laws.specs.Told.{IsTold}
use Rattle.log_laws.proofs.Fitting.{AmountFits, read_fits, act_told}

-- What items say

abbrev ContentFits : Content → Type 0
ContentFits (Session s r c) = AmountFits c
ContentFits (Alive node position) = Unit {0}
ContentFits (Leave node) = Unit {0}
ContentFits (Trim position) = Unit {0}

abbrev SaysFit : Option Content → Type 0
SaysFit None = Unit {0}
SaysFit (Some c) = ContentFits c

either : (t : Bool) (a b : Option Content) → SaysFit a → SaysFit b → SaysFit (cond t a b)
either true a b h k = h
either false a b h k = k

view_fits : (body : List ℕ) → SaysFit (view_body body)
view_fits [] = tt
view_fits (tag ∷ []) = tt
view_fits (tag ∷ node ∷ position) =
    either _ (view_word tag node (u64_of position)) None (either (tag == 1) _ _ tt (either ((tag == 2) && (u64_of position == 0)) _ _ tt tt)) tt

without_fits : (payload : List ℕ) (o : Option Content) → SaysFit o → SaysFit (without_payload payload o)
without_fits [] o h = h
without_fits (b ∷ bs) o h = tt

under_fits : (h : Header) (payload : List ℕ) → SaysFit (content_under h payload)
under_fits h payload =
    either (h.kind == 2) (session_content h.body payload) _ (either (is_session_body h.body) _ None (read_fits payload) tt)
    (either (h.kind == 3) _ _ (without_fits payload (view_body h.body) (view_fits h.body))
    (either (h.kind == 4) _ None (without_fits payload (trim_body h.body) (either (length h.body == 8) _ None tt tt)) tt))

in_fits : (headers : List Header) (payload : List ℕ) → SaysFit (content_in headers payload)
in_fits [] payload = tt
in_fits (h ∷ []) payload = under_fits h payload
in_fits (h ∷ g ∷ hs) payload = tt

abbrev AllFit : Option (List Content) → Type 0
AllFit None = Unit {0}
AllFit (Some cs) = AllByRecursion ContentFits cs

joined_fits : (c : Option Content) (cs : Option (List Content)) → SaysFit c → AllFit cs → AllFit (option_and_then (λ d. option_map (λ ds. d ∷ ds) cs) c)
joined_fits None cs h k = tt
joined_fits (Some c) None h k = tt
joined_fits (Some c) (Some cs) h k = (h, k)

contents_fit : (is : List Item) → AllFit (contents_of is)
contents_fit [] = tt
contents_fit (i ∷ is) = joined_fits (content_of i) (contents_of is) (in_fits i.headers i.payload) (contents_fit is)

opened_fit : (o : Option (List Item)) → AllFit (option_and_then contents_of o)
opened_fit None = tt
opened_fit (Some is) = contents_fit is

-- What stands in a log

from_fit : (pos sub : ℕ) (cs : List Content) → AllByRecursion ContentFits cs → AllByRecursion (λ p. ContentFits p.content) (placed_from pos sub cs)
from_fit pos sub [] h = tt
from_fit pos sub (c ∷ cs) h = (h.0, from_fit pos (sub + 1) cs h.1)

at_fit : (pos : ℕ) (o : Option (List Content)) → AllFit o → AllByRecursion (λ p. ContentFits p.content) (placed_at pos o)
at_fit pos None h = tt
at_fit pos (Some cs) h = from_fit pos 0 cs h

abbrev AskedFits : Asked → Type 0
AskedFits x = AmountFits x.command

keep : (place : Place) (c : Content) (xs : List Asked) → ContentFits c → AllByRecursion AskedFits xs → AllByRecursion AskedFits (cons_option (appearance_of place c) xs)
keep place (Session s r c) xs h k = (h, k)
keep place (Alive n p) xs h k = k
keep place (Leave n) xs h k = k
keep place (Trim p) xs h k = k

appearances_fit : (ps : List Placed) → AllByRecursion (λ p. ContentFits p.content) ps → AllByRecursion AskedFits (appearances ps)
appearances_fit [] h = tt
appearances_fit (p ∷ ps) h = keep p.place p.content (appearances ps) h.0 (appearances_fit ps h.1)

asked_fit : (pos : ℕ) (es : List Entry) → AllByRecursion AskedFits (asked_in pos es)
asked_fit pos [] = tt
asked_fit pos (e ∷ es) =
    subst (AllByRecursion AskedFits) (sym (appearances-append (unpack pos e) (unpack_all (pos + 1) es)))
    (all-append AskedFits (appearances (unpack pos e)) (asked_in (pos + 1) es) (appearances_fit (unpack pos e) (at_fit pos _ (opened_fit (items_of e)))) (asked_fit (pos + 1) es))

-- What acts

made_fit : (xs : List Asked) (x : Asked) (from n : ℕ) → AllByRecursion AskedFits xs → AllByRecursion AskedFits (filter_map (act_at xs x) (numbers from n))
made_fit xs x from zero h = tt
made_fit xs x from (suc n) h = by_first (first_of xs x.session from) refl (made_fit xs x (from + 1) n h)
  where
    by_first : (o : Option Asked) → first_of xs x.session from ≡ o → AllByRecursion AskedFits (filter_map (act_at xs x) (numbers (from + 1) n)) → AllByRecursion AskedFits (cons_option (option_map (λ (f : Asked). record { place = x.place; session = x.session; rank = from; command = f.command }) o) (filter_map (act_at xs x) (numbers (from + 1) n)))
    by_first None e rest = rest
    by_first (Some f) e rest = (found-has AskedFits _ xs f h e, rest)

acted_fit : (start : ℕ → ℕ) (before xs : List Asked) → AllByRecursion AskedFits before → AllByRecursion AskedFits xs → AllByRecursion AskedFits (acted_after start before xs)
acted_fit start before [] h k = tt
acted_fit start before (x ∷ xs) h k =
    let seen : AllByRecursion AskedFits (before ++ x ∷ []) = all-append AskedFits before (x ∷ []) h (k.0, tt) in
    all-append AskedFits (acts_of start before x) (acted_after start (before ++ x ∷ []) xs) (made_fit (before ++ x ∷ []) x _ _ seen) (acted_fit start (before ++ x ∷ []) xs seen k.1)

replied_told : (m : TableMap) (xs : List Asked) → AllByRecursion AskedFits xs → AllByRecursion (λ a. IsTold a.reply) (replied m xs)
replied_told m [] h = tt
replied_told m (x ∷ xs) h = (act_told m x.command h.0, replied_told (act_on m x.command).0 xs h.1)

pub all_told : (log : List Entry) → AllByRecursion (λ a. IsTold a.reply) (acts_in log)
all_told log = replied_told finmap.empty (acted_after (λ s. 1) [] (asked_in 0 log)) (acted_fit (λ s. 1) [] (asked_in 0 log) tt (asked_fit 0 log))
