use Rattle.native_ties.proofs.Copying.{copied, asked_still, replied_still}
use Rattle.native_ties.proofs.strays.copies_are_messages.Goals as goal

pub returns-clause-reply : goal.returns-clause-reply
returns-clause-reply c = λ cell t i e z p part waiting here message. copied cell t i e z p part waiting here message

pub returns-clause-requests : goal.returns-clause-requests
returns-clause-requests c = λ cell later k t i a x h. asked_still cell later k t i a x h

pub returns-clause-replies : goal.returns-clause-replies
returns-clause-replies c = λ cell later k t i e z law l x h. replied_still cell later k t i e z law l x h
