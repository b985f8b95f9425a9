-- Copies of an operation's messages are messages of its cell.
use Rattle.std.proofs.Common.{◌≡◌, ℕ, ◌<◌, ◌≤◌, sym, subst, length, get_or, Some, None}
use Rattle.std.proofs.lemmas.List.Elements.{All-contains}
use Rattle.quorum_cell.specs.declared.message.Ask.{Ask}
use Rattle.quorum_cell.specs.declared.message.Told.{Told}
use Rattle.quorum_cell.specs.declared.message.Told.TheVariants.{Short}
use Rattle.quorum_cell.specs.Servers.{Server, length_of}
use Rattle.quorum_cell.specs.Cells.{Cell, operation, server_before, no_server}
use Rattle.quorum_cell.specs.Law.{QuorumLaw, Later, ReplyHolds}
use Rattle.quorum_cell.proofs.Lists.{contained}
use Rattle.native_plan.specs.declared.pending.Pending.{Pending}
use Rattle.native_plan.specs.declared.member.Member.{Member}
use Rattle.native_plan.specs.declared.message.Errand.{Errand}
use Rattle.native_plan.specs.declared.message.Errand.TheVariants.{Read}
use Rattle.native_plan.specs.declared.message.Message.TheVariants.{Told as Answered}
use Rattle.native_plan.specs.declared.message.Phase.{Phase}
use Rattle.native_plan.specs.Members.{no_member}
use Rattle.native_plan.specs.Pendings.{aims_of}
use Rattle.native_plan.specs.Course.{ToldWell}
use Rattle.native_ties.specs.Parts.{IsCarried, ToldSo, IsPartOf, Extends}
use Rattle.native_ties.specs.Strays.{IsRequest, IsReply}

short_well : (before : Server) (cut : ℕ) (ph : Phase) (want : ℕ) (m : Member) (e : Errand) (z : Told) (p n : ℕ) → ToldWell before cut ph want m e z → e ≡ Read p → z ≡ Short n → length_of before ≤ p
short_well before cut ph want m e z p n h same told = subst (λ (x : Told). ToldWell before cut ph want m (Read p) x) told (subst (λ (x : Errand). ToldWell before cut ph want m x z) same h)

pub copied : (c : Cell) (t i : ℕ) (e : Errand) (z : Told) (p : Pending) → IsPartOf c t p → p.outcome ≡ None → i < length c.servers → (get_or p.members.items i no_member).message ≡ Some (Answered e z) → (k : ℕ) × IsReply c k t i e z
copied c t i e z p part waiting here message =
    let so : ToldSo c (operation c t) t i (aims_of c.cut p) (get_or p.members.items i no_member) e z = subst (IsCarried c (operation c t) t i (aims_of c.cut p) (get_or p.members.items i no_member)) message ((part.goes waiting).carried i here) in (
      so.reply.number,
      record {
        reply = so.reply.reply;
        is = so.reply.is;
        ticket = so.reply.ticket;
        of_server = so.reply.of_server;
        told_is = so.reply.told_is;
        asked = so.reply.asked;
        short = λ q n same told. short_well (server_before (operation c t) i) c.cut p.phase p.want (get_or p.members.items i no_member) e z q n so.well same told;
      },
    )

pub asked_still : (c d : Cell) (k t i : ℕ) (a : Ask) → Extends c d → IsRequest c k t i a → IsRequest d k t i a
asked_still c d k t i a x h = x.requests k _ h

pub replied_still : (c d : Cell) (k t i : ℕ) (e : Errand) (z : Told) → QuorumLaw c → Later c d → Extends c d → IsReply c k t i e z → IsReply d k t i e z
replied_still c d k t i e z law l x h =
    let holds : ReplyHolds c h.reply = All-contains (ReplyHolds c) c.replies h.reply law.replies (contained c.replies k h.reply h.is) in
    let known : t < length c.operations = subst (λ (j : ℕ). j < length c.operations) h.ticket holds.known in
    record {
      reply = h.reply;
      is = x.replies k h.reply h.is;
      ticket = h.ticket;
      of_server = h.of_server;
      told_is = h.told_is;
      asked = h.asked;
      short = λ p n same told. subst (λ ss. length_of (get_or ss i no_server) ≤ p) (sym (l.before t known)) (h.short p n same told);
    }
