-- An answer comes to an operation.
use Rattle.std.proofs.Common.{◌≡◌, ℕ, ◌<◌, ◌≤◌, Bool, true, false, refl, sym, ◌∙◌, ap, subst, arith, List, [], ◌∷◌, length, get_or, set, Option, Some, None, inl, inr}
use Rattle.std.specs.Prelude.{◌⊎◌, ◌&&◌, ◌||◌, ◌==◌, not, is_some, slice_get}
use Rattle.std.specs.List.{list_any}
use Rattle.std.proofs.lemmas.Bool.{true≢false, cases_eq, or_left, or_parts, eqb-true}
use Rattle.std.proofs.lemmas.List.{length-set, get_or-set_same, get_or-set_other}
use Rattle.std.proofs.lemmas.List.Folds.{list_any-append}
use Rattle.std.proofs.lemmas.List.Elements.{All-contains}
use Rattle.quorum_cell.specs.declared.message.Reply.{Reply}
use Rattle.quorum_cell.specs.declared.message.Told.{Told}
use Rattle.quorum_cell.specs.declared.operation.Aim.{Aim}
use Rattle.quorum_cell.specs.declared.operation.Aim.TheVariants.{Tail as AimTail, Read as AimRead, Trim as AimTrim}
use Rattle.majority_rule.specs.Majority.{is_majority}
use Rattle.quorum_cell.specs.Servers.{Server, length_of}
use Rattle.quorum_cell.specs.Cells.{Cell, Operation, operation, server, no_operation, is_seal}
use Rattle.quorum_cell.specs.Tallies.{heard_from, says_sealed}
use Rattle.quorum_cell.specs.Steps.{put_operation, reply_comes, waits}
use Rattle.quorum_cell.specs.Law.{QuorumLaw, ReplyHolds}
use Rattle.majority_rule.proofs.Majorities.{majority_stays}
use Rattle.quorum_cell.proofs.Lists.{contained}
use Rattle.quorum_cell.proofs.Steps.{unsealed_within}
use Rattle.native_plan.specs.declared.member.Member.{Member}
use Rattle.native_plan.specs.declared.aims.Aims.{Aims}
use Rattle.native_plan.specs.declared.message.Errand.{Errand}
use Rattle.native_plan.specs.declared.message.Errand.TheVariants.{Store, Seal, Tail, Repair, Read, Trim}
use Rattle.native_plan.specs.declared.message.Phase.{Phase}
use Rattle.native_plan.specs.declared.message.Phase.TheVariants.{Filling, Asking, Opening, Shutting, Sealing, Mending, Reading, Trimming}
use Rattle.native_plan.specs.Members.{no_member, heard_by}
use Rattle.native_plan.specs.Plans.{is_done}
use Rattle.native_plan.specs.Course.{Knows, Comes, Fills, Shuts, AimsAt, PhaseFits, HaveTurned, IsOnCourse, IsOpenAsk, IsPlanned, FillsTo, MendsTo, with_reply}
use Rattle.native_plan.proofs.Hears.{knows_heard, knows_other}
use Rattle.native_ties.specs.Parts.{ToldSo}

-- an operation put in its place is there

pub put_there : (c : Cell) (t : ℕ) (o : Operation) → t < length c.operations → operation (put_operation c t o) t ≡ o
put_there c t o l = get_or-set_same c.operations t o no_operation l

pub put_other : (c : Cell) (t q : ℕ) (o : Operation) → (q ≡ t → ⊥) → operation (put_operation c t o) q ≡ operation c q
put_other c t q o n = get_or-set_other c.operations t q o no_operation n

-- it hears what it waits for
pub comes_is : (c : Cell) (t number : ℕ) (r : Reply) → slice_get c.replies number ≡ Some r → r.ticket ≡ t → (operation c t).closed ≡ false → (operation c t).decided ≡ None → reply_comes c (slice_get c.replies number) ≡ put_operation c t (with_reply (operation c t) r)
comes_is c t number r is ticket open_yet undecided =
    let waiting : waits (operation c t) ≡ true = rw (open_yet, undecided) refl in
    rw (is, ticket, waiting) refl

-- which operations send which messages

not_fill_read : (aim : Aim) (p : ℕ) → Fills aim → aim ≡ AimRead p → ⊥
not_fill_read aim p h e = subst Fills e h

not_fill_trim : (aim : Aim) (n : ℕ) → Fills aim → aim ≡ AimTrim n → ⊥
not_fill_trim aim n h e = subst Fills e h

not_shut_read : (aim : Aim) (p : ℕ) → Shuts aim → aim ≡ AimRead p → ⊥
not_shut_read aim p h e = subst Shuts e h

not_shut_trim : (aim : Aim) (n : ℕ) → Shuts aim → aim ≡ AimTrim n → ⊥
not_shut_trim aim n h e = subst Shuts e h

fill_not_read : (goal cut : ℕ) (m : Member) (e : Errand) (p : ℕ) → FillsTo goal cut m e → e ≡ Read p → ⊥
fill_not_read goal cut m e p h q = subst (FillsTo goal cut m) q h

mend_not_read : (t cut : ℕ) (m : Member) (e : Errand) (p : ℕ) → MendsTo t cut m e → e ≡ Read p → ⊥
mend_not_read t cut m e p h q = subst (MendsTo t cut m) q h

-- a Read sends reads, a Trim trims
pub reads_read : (ph : Phase) (cut want place : ℕ) (aim : Aim) (m : Member) (e : Errand) → AimsAt place aim ph → IsPlanned ph cut want place m e → (p : ℕ) → aim ≡ AimRead p → e ≡ Read p
reads_read Filling cut want place aim m e a h p r = absurd (not_fill_read aim p a r)
reads_read Asking cut want place aim m e a h p r = (let x : AimTail ≡ AimRead p = sym a ∙ r in absurd (cc))
reads_read (Opening t) cut want place aim m e a h p r = (let x : AimTail ≡ AimRead p = sym a ∙ r in absurd (cc))
reads_read Shutting cut want place aim m e a h p r = absurd (not_shut_read aim p a r)
reads_read Sealing cut want place aim m e a h p r = (let x : AimTail ≡ AimRead p = sym a ∙ r in absurd (cc))
reads_read (Mending t) cut want place aim m e a h p r = (let x : AimTail ≡ AimRead p = sym a ∙ r in absurd (cc))
reads_read (Reading j) cut want place aim m e a h p r = (let x : AimRead place ≡ AimRead p = sym a ∙ r in let same : place ≡ p = cc in h ∙ ap Read same)
reads_read Trimming cut want place aim m e a h p r = (let x : AimTrim a.0 ≡ AimRead p = sym a.1 ∙ r in absurd (cc))

pub trims_trim : (ph : Phase) (cut want place : ℕ) (aim : Aim) (m : Member) (e : Errand) → AimsAt place aim ph → IsPlanned ph cut want place m e → (n : ℕ) → aim ≡ AimTrim n → e ≡ Trim
trims_trim Filling cut want place aim m e a h n r = absurd (not_fill_trim aim n a r)
trims_trim Asking cut want place aim m e a h n r = (let x : AimTail ≡ AimTrim n = sym a ∙ r in absurd (cc))
trims_trim (Opening t) cut want place aim m e a h n r = (let x : AimTail ≡ AimTrim n = sym a ∙ r in absurd (cc))
trims_trim Shutting cut want place aim m e a h n r = absurd (not_shut_trim aim n a r)
trims_trim Sealing cut want place aim m e a h n r = (let x : AimTail ≡ AimTrim n = sym a ∙ r in absurd (cc))
trims_trim (Mending t) cut want place aim m e a h n r = (let x : AimTail ≡ AimTrim n = sym a ∙ r in absurd (cc))
trims_trim (Reading j) cut want place aim m e a h n r = (let x : AimRead place ≡ AimTrim n = sym a ∙ r in absurd (cc))
trims_trim Trimming cut want place aim m e a h n r = h.0

pub read_reads : (ph : Phase) (cut want place : ℕ) (aim : Aim) (m : Member) (e : Errand) → AimsAt place aim ph → IsPlanned ph cut want place m e → (p : ℕ) → e ≡ Read p → aim ≡ AimRead p
read_reads Filling cut want place aim m e a h p r = absurd (fill_not_read want cut m e p h r)
read_reads Asking cut want place aim m e a h p r = (let x : Tail ≡ Read p = sym h ∙ r in absurd (cc))
read_reads (Opening t) cut want place aim m e a h p r = absurd (fill_not_read t cut m e p h r)
read_reads Shutting cut want place aim m e a h p r = (let x : Seal ≡ Read p = sym h ∙ r in absurd (cc))
read_reads Sealing cut want place aim m e a h p r = (let x : Seal ≡ Read p = sym h ∙ r in absurd (cc))
read_reads (Mending t) cut want place aim m e a h p r = absurd (mend_not_read t cut m e p h r)
read_reads (Reading j) cut want place aim m e a h p r = (let x : Read place ≡ Read p = sym h ∙ r in let same : place ≡ p = cc in a ∙ ap AimRead same)
read_reads Trimming cut want place aim m e a h p r = (let x : Trim ≡ Read p = sym h.0 ∙ r in absurd (cc))

none_of : (z : Option ℕ) → is_some z ≡ false → z ≡ None
none_of None h = refl
none_of (Some n) h = absurd (true≢false h)

-- what only open servers are asked goes to none that was found sealed
pub open_asked : (ph : Phase) (cut want place i : ℕ) (o : Operation) (s : Server) (m : Member) (e : Errand) → AimsAt place o.aim ph → IsPlanned ph cut want place m e → is_done ph want i m ≡ false → Knows s o i m → IsOpenAsk e → m.sealed ≡ None
open_asked Filling cut want place i o s m e a h d k z = none_of m.sealed (or_parts _ _ (or_parts _ _ d).1).0
open_asked Asking cut want place i o s m e a h d k z = none_of m.sealed (or_parts _ _ (or_parts _ _ d).1).0
open_asked (Opening t) cut want place i o s m e a h d k z = none_of m.sealed (or_parts _ _ (or_parts _ _ d).1).0
open_asked Shutting cut want place i o s m e a h d k z = none_of m.sealed (or_parts _ _ d).1
open_asked Sealing cut want place i o s m e a h d k z = none_of m.sealed (or_parts _ _ d).1
open_asked (Mending t) cut want place i o s m Seal a h d k z = absurd z
open_asked (Mending t) cut want place i o s m (Repair p) a h d k z = absurd z
open_asked (Mending t) cut want place i o s m (Store p) a h d k z = absurd h
open_asked (Mending t) cut want place i o s m Tail a h d k z = absurd h
open_asked (Mending t) cut want place i o s m (Read p) a h d k z = absurd h
open_asked (Mending t) cut want place i o s m Trim a h d k z = absurd z
open_asked (Reading j) cut want place i o s m e a h d k z = absurd (subst IsOpenAsk h z)
open_asked Trimming cut want place i o s m e a h d k z = k.untrimmed a.0 a.1

-- the answer that is on its way, as it comes
pub coming : (c : Cell) (t i : ℕ) (aims : Aims) (ms : List Member) (m : Member) (e : Errand) (told : Told) → QuorumLaw c → IsOnCourse c (operation c t) aims ms → aims.cut ≡ c.cut → Knows (server c i) (operation c t) i m → (so : ToldSo c (operation c t) t i aims m e told) → Comes (server c i) (operation c t) i m so.reply.reply e told
coming c t i aims ms m e told law f cut k so =
    let r : Reply = so.reply.reply in
    let h : ReplyHolds c r = All-contains (ReplyHolds c) c.replies r law.replies (contained c.replies so.reply.number r so.reply.is) in
    record {
      server = so.reply.of_server;
      told_is = so.reply.told_is;
      asked = so.reply.asked;
      opened = λ n z. (let most = (h.opened n z).0 in let within = unsealed_within c (server c r.server) (law.servers r.server) in subst (λ j. n ≤ length_of (server c j)) so.reply.of_server (omega arith));
      mended = λ n z. subst (λ j. n ≤ length_of (server c j)) so.reply.of_server (h.mended n z).1;
      let_go = so.reply.let_go;
      unsealed = open_asked aims.phase c.cut aims.want aims.place i (operation c t) (server c i) m e f.aims_at so.way.planned so.way.unmet k;
      reads = reads_read aims.phase c.cut aims.want aims.place (operation c t).aim m e f.aims_at so.way.planned;
      is_read = read_reads aims.phase c.cut aims.want aims.place (operation c t).aim m e f.aims_at so.way.planned;
      trims = trims_trim aims.phase c.cut aims.want aims.place (operation c t).aim m e f.aims_at so.way.planned;
    }

---- it is on course

pub any_more : (test : Reply → Bool) (o : Operation) (r : Reply) → list_any test o.heard ≡ true → list_any test (with_reply o r).heard ≡ true
any_more test o r h = list_any-append test o.heard (r ∷ []) ∙ or_left (list_any test o.heard) (list_any test (r ∷ [])) h

pub many_more : (n : ℕ) (test : Reply → Bool) (o : Operation) (r : Reply) → is_majority n (heard_from test o) ≡ true → is_majority n (heard_from test (with_reply o r)) ≡ true
many_more n test o r h = majority_stays n (heard_from test o) (heard_from test (with_reply o r)) (λ i l v. list_any-append (λ (x : Reply). (x.server == i) && test x) o.heard (r ∷ []) ∙ or_left (heard_from test o i) (list_any (λ (x : Reply). (x.server == i) && test x) (r ∷ [])) v) h

pub either_more : (a b d : Bool) → (b ≡ true → d ≡ true) → (a || b) ≡ true → (a || d) ≡ true
either_more true b d h e = refl
either_more false b d h e = h e

-- the server that a Read asks is the one from which it hears
pub turned_heard : (ms : List Member) (j i want cut : ℕ) (m now : Member) → is_done (Reading j) want i m ≡ false → HaveTurned ms j → HaveTurned (set ms i now) j
turned_heard ms j i want cut m now d h = record {
  here = rw (length-set ms i now) h.here;
  after = λ q l. rw (get_or-set_other ms i q now no_member (λ e. (let z = same in omega (arith, z, l, e)))) (h.after q l);
  before = λ q l. rw (get_or-set_other ms i q now no_member (λ e. (let z = same in omega (arith, z, l, e)))) (h.before q l);
}
  where
    same : i ≡ j
    same = by (i == j) refl (or_parts (not (i == j)) m.passed (or_parts m.unreached (not (i == j) || m.passed) d).1).0
      where
        by : (b : Bool) → (i == j) ≡ b → not b ≡ false → i ≡ j
        by true e n = eqb-true i j e
        by false e n = absurd (true≢false n)

heard_fits : (c : Cell) (t i : ℕ) (o : Operation) (r : Reply) (ms : List Member) (ph : Phase) (want : ℕ) (m now : Member) → is_done ph want i m ≡ false → PhaseFits c o ms ph → PhaseFits (put_operation c t (with_reply o r)) (with_reply o r) (set ms i now) ph
heard_fits c t i o r ms Filling want m now d h = tt
heard_fits c t i o r ms Asking want m now d h = tt
heard_fits c t i o r ms (Opening g) want m now d h = record { within = many_more (length c.servers) _ o r h.within; told = any_more _ o r h.told; there = h.there }
heard_fits c t i o r ms Shutting want m now d h = either_more (is_seal o.aim) (list_any says_sealed o.heard) (list_any says_sealed (with_reply o r).heard) (any_more says_sealed o r) h
heard_fits c t i o r ms Sealing want m now d h = any_more says_sealed o r h
heard_fits c t i o r ms (Mending g) want m now d h = record { within = many_more (length c.servers) _ o r h.within; told = any_more _ o r h.told; there = h.there }
heard_fits c t i o r ms (Reading j) want m now d h = turned_heard ms j i want 0 m now d h
heard_fits c t i o r ms Trimming want m now d h = tt

pub heard_course : (c : Cell) (t i : ℕ) (aims : Aims) (ms : List Member) (e : Errand) (told : Told) → QuorumLaw c → IsOnCourse c (operation c t) aims ms → aims.cut ≡ c.cut → i < length c.servers → (so : ToldSo c (operation c t) t i aims (get_or ms i no_member) e told) →
    IsOnCourse (put_operation c t (with_reply (operation c t) so.reply.reply)) (with_reply (operation c t) so.reply.reply) aims (set ms i (heard_by aims.want e told (get_or ms i no_member)))
heard_course c t i aims ms e told law f cut here so = record {
  odd = f.odd;
  few = f.few;
  all = length-set ms i now ∙ f.all;
  knows = knows;
  want = f.want;
  cut = f.cut;
  firm = f.firm;
  held = f.held;
  want_there = f.want_there;
  aims_at = f.aims_at;
  phase = heard_fits c t i (operation c t) r ms aims.phase aims.want m now so.way.unmet f.phase;
}
  where
    m : Member
    m = get_or ms i no_member

    r : Reply
    r = so.reply.reply

    now : Member
    now = heard_by aims.want e told (get_or ms i no_member)

    known : Knows (server c i) (operation c t) i (get_or ms i no_member)
    known = f.knows i here

    knows : (q : ℕ) → q < length c.servers → Knows (server c q) (with_reply (operation c t) so.reply.reply) q (get_or (set ms i (heard_by aims.want e told (get_or ms i no_member))) q no_member)
    knows q l = by (cases_eq q i)
      where
        by : (q ≡ i) ⊎ (q ≡ i → ⊥) → Knows (server c q) (with_reply (operation c t) so.reply.reply) q (get_or (set ms i (heard_by aims.want e told (get_or ms i no_member))) q no_member)
        by (inl same) = rw (same, get_or-set_same ms i now no_member (omega (arith, here, f.all))) (knows_heard (server c i) (operation c t) i (get_or ms i no_member) so.reply.reply known c.cut aims.want aims.phase e told f.want (coming c t i aims ms (get_or ms i no_member) e told law f cut known so) so.well)
        by (inr other) = rw (get_or-set_other ms i q now no_member other) (knows_other (server c q) (operation c t) so.reply.reply q (get_or ms q no_member) (λ z. other (sym z ∙ so.reply.of_server)) (f.knows q l))
