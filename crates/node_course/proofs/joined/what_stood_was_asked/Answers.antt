use Rattle.node_course.proofs.Stood.{stood_asked}
use Rattle.node_course.proofs.joined.what_stood_was_asked.Goals as goal

pub returns : goal.returns
returns g c = let p = g.P.Rules in λ low lines home nodes run looks courses phase s r pos e are join upto only held below has.
    stood_asked p.law low lines home nodes run looks courses are join phase s r pos e upto only held below has
